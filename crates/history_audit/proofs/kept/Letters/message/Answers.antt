use Rattle.std.proofs.Common.{◌≡◌, Option, option_map, ap, subst, ◌∙◌}
use Rattle.std.specs.Prelude.{IfOk}
use Rattle.std.specs.BTreeMap.{is_at}
use Rattle.std.specs.Map.{lookup}
use Rattle.seata_types.specs.declared.ids.Place.{Place}
use Rattle.seata_types.specs.declared.messages.Outgoing.{Outgoing}
use Rattle.history_rules.specs.Histories.{delivered}
use Rattle.history_text.specs.declared.entries.Origin.{Origin}
use Rattle.history_text.specs.Origins.{origin_cmp}
use Rattle.judged_devices.specs.Taking.{event_of}
use Rattle.history_audit.specs.Letters.{with_sender}
use Rattle.history_audit.proofs.kept.Letters.message.Goals as goal

pub returns-in-Some : goal.returns-in-Some
returns-in-Some c =
    subst (λ (o : Option (Place × Outgoing)). IfOk c.deliver.result (λ e. option_map event_of e ≡ delivered c.args.to o))
    (ap (option_map (with_sender c.args.from)) (c.in-Some.ensures.value ∙ ap (λ (at : Origin). lookup (is_at (origin_cmp at)) c.args.self.now.sent.entries) c.origin_of.ensures))
    c.deliver.ensures
