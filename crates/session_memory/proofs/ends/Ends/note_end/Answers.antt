use Rattle.std.proofs.Common.{sym}
use Rattle.session_memory.proofs.EndsLaws.{found_span, spans_noted}
use Rattle.session_memory.proofs.ends.Ends.note_end.Goals as goal

pub find_span-requires : goal.find_span-requires
find_span-requires c =
    rw c.as_slice.ensures (found_span c.args.self.now c.args.xid.0 c.args.sessions.now c.in-Some.session.now c.requires.spans (sym c.in-Some.ensures))

pub returns-in-Some : goal.returns-in-Some
returns-in-Some c =
    spans_noted c.args.xid.0 c.args.self.now c.find_span.new.self c.find_span.ensures.others c.in-Some.session.now (rw c.as_slice.ensures at c.find_span.ensures.span)
    c.args.sessions.now c.requires.rising c.requires.spans (sym c.in-Some.ensures)
