use Rattle.std.proofs.Common.{[], subst}
use Rattle.std.specs.Prelude.{IfOk}
use Rattle.history_rules.specs.ResourceMemory.{Setup as Rules}
use Rattle.judged_bench.specs.Following.{Follows}
use Rattle.history_audit.proofs.SetupLaws.{opening_is, setup_counted, setup_is}
use Rattle.history_audit.proofs.nodes.new_bench.Goals as goal

pub new-requires-clause-opening : goal.new-requires-clause-opening
new-requires-clause-opening c =
    opening_is c.args.scenario.now c.requires.runnable c.args.number c.args.def.now c.requires.there c.in_ok-setup.setup.number c.in_ok-schema.schema c.in_ok-opening.opening
    c.in_ok-schema.ensures c.in_ok-opening.ensures

pub new-requires-clause-counted : goal.new-requires-clause-counted
new-requires-clause-counted c = setup_counted c.args.scenario.now c.requires.runnable c.args.number c.args.def.now c.in_ok-setup.setup (c.in_ok-setup.ensures c.args.def.now)

pub returns : goal.returns
returns c =
    subst (λ (s : Rules). IfOk c.new.result (λ b. Follows s [] b))
    (setup_is c.args.scenario.now c.args.number c.args.def.now c.in_ok-setup.setup c.in_ok-schema.schema c.in_ok-opening.opening c.in_ok-schema.ensures c.in_ok-opening.ensures (c.in_ok-setup.ensures c.args.def.now))
    c.new.ensures
