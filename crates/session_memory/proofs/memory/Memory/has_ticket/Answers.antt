use Rattle.std.proofs.Common.{sym}
use Rattle.session_memory.proofs.EndsLaws.{found_rising}
use Rattle.session_memory.proofs.memory.Memory.has_ticket.Goals as goal

pub is_with-requires : goal.is_with-requires
is_with-requires c = record {
  rising = rw c.as_slice-in-Some.ensures (found_rising c.self.inside.snapshot.begun c.self.inside.snapshot.granted c.args.leg.xid.0 c.self.inside.snapshot.sessions c.in-Some.session.now
      c.self.invariant.0.counted.each (sym (rw c.as_slice.ensures at c.in-Some.ensures)));
}
