use Rattle.std.proofs.Common.{◌∙◌, Option, sym, ap}
use Rattle.session_log.specs.declared.sessions.Session.{Session}
use Rattle.session_log.specs.declared.sessions.Snapshot.{Snapshot}
use Rattle.session_memory.specs.Lookups.{branches_or_none, next_open, session_in}
use Rattle.session_memory.proofs.EndsLaws.{found_span, none_next}
use Rattle.session_memory.proofs.memory.Memory.next_open.Goals as goal

pub next_open-requires : goal.next_open-requires
next_open-requires c =
    rw c.as_slice.ensures (found_span c.self.inside.ends c.args.xid.0 c.self.inside.snapshot.sessions c.in-Some.session.now c.self.invariant.2
    (ap (λ (s : Snapshot). session_in s c.args.xid.0) c.self.view_is ∙ sym c.in-Some.ensures))

pub returns-in-None : goal.returns-in-None
returns-in-None c = none_next c.args.commit ∙ ap (λ (o : Option Session). next_open c.args.commit (branches_or_none o)) c.in-None.ensures
