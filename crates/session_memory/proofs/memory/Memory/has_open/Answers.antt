use Rattle.std.proofs.Common.{sym}
use Rattle.session_memory.proofs.EndsLaws.{found_rising}
use Rattle.session_memory.proofs.memory.Memory.has_open.Goals as goal

pub has_open-requires : goal.has_open-requires
has_open-requires c = record {
  rising = rw c.as_slice-in-Some.ensures (found_rising c.self.inside.snapshot.begun c.self.inside.snapshot.granted c.args.xid.0 c.self.inside.snapshot.sessions c.in-Some.session.now
      c.self.invariant.0.counted.each (sym (rw c.as_slice.ensures at c.in-Some.ensures)));
}
