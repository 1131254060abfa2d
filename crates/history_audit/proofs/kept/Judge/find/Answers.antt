use Rattle.std.proofs.Common.{option_map, sym, ap, ◌∙◌}
use Rattle.judged_devices.specs.Taking.{event_of}
use Rattle.history_audit.proofs.JudgeLaws.{nodes_can, served_by}
use Rattle.history_audit.proofs.kept.Judge.find.Goals as goal

pub take-found-requires-clause-can : goal.take-found-requires-clause-can
take-found-requires-clause-can c = nodes_can c.args.self.now c.requires

pub take-found-requires-clause-served : goal.take-found-requires-clause-served
take-found-requires-clause-served c =
    served_by c.args.self.now c.requires c.args.next.now c.in-Some.event (λ ms are. ap (option_map event_of) (sym c.in-Some.is) ∙ c.in_ok-event.ensures ms are)
