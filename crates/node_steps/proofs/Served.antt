-- What happens at a node that is up, and whose disk no stop arms.
use Rattle.std.proofs.Common.{◌≡◌, ℕ, false, List, None, refl}
use Rattle.seata_types.specs.declared.acts.Act.{Act}
use Rattle.seata_types.specs.declared.acts.Act.TheVariants as act
use Rattle.seata_types.specs.declared.messages.Input.{Input}
use Rattle.seata_types.specs.declared.messages.Step.{Step}
use Rattle.history_rules.specs.Own.{Given, Own}
use Rattle.history_rules.specs.Devices.{is_down, written}
use Rattle.history_rules.specs.Nodes.{Role, answer, happens, left_at}

written_done : (step : Step) (done : Act) → written false step done ≡ step
written_done step (act.Durable flight) = refl
written_done step _ = refl

-- it is the rule's answer
pub happens_plain : (role : Role) (owns : List Own) (now : ℕ) (given : Input) → is_down owns ≡ false → left_at role owns ≡ None
    → happens role owns now false false (Given given) ≡ answer role owns now given
happens_plain role owns now given up unarmed =
    let done = answer role owns now given in rw (up, unarmed) (written_done done done.act)
