use Rattle.std.proofs.Common.{◌∙◌, ◌+◌, sym, ap}
use Rattle.session_log.specs.declared.sessions.Snapshot.{Snapshot}
use Rattle.session_memory.proofs.EndsLaws.{begun_spans}
use Rattle.session_memory.proofs.KeptLaws.{begun_either}
use Rattle.session_memory.proofs.OwnerLaws.{begun_owned}
use Rattle.session_memory.proofs.memory.Memory.begin.Goals as goal

pub invariant_of-self : goal.invariant_of-self
invariant_of-self c = (
  begun_either c.begin.result c.self.inside.snapshot c.begin.new.snapshot c.self.inside.locks c.args.xid c.args.manager c.args.begun c.args.timeout c.self.invariant.0
      (c.requires.next ∙ ap (λ (s : Snapshot). s.begun + 1) (sym c.self.view_is)) c.begin.ensures.ok c.begin.ensures.err,
  begun_owned c.begin.result c.self.inside.owners c.self.inside.snapshot c.begin.new.snapshot c.args.xid c.args.manager c.args.begun c.args.timeout c.self.invariant.1 c.begin.ensures.ok c.begin.ensures.err,
  begun_spans c.begin.result c.self.inside.ends c.self.inside.snapshot c.begin.new.snapshot c.args.xid c.args.manager c.args.begun c.args.timeout c.self.invariant.2 c.begin.ensures.ok c.begin.ensures.err,
)
