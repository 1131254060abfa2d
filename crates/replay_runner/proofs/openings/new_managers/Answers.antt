use Rattle.std.proofs.Common.{◌≡◌, ◌∙◌, ◌+◌, ◌-◌, ap, subst, sym, refl, arith, Some, length, slice_get}
use Rattle.std.proofs.lemmas.Option.{slice_get_read}
use Rattle.scenario_nodes.specs.Nodes.{IsNewManager}
use Rattle.replay_runner.proofs.NewNodes.{all_made, none_made, one_made}
use Rattle.replay_runner.proofs.openings.new_managers.Goals as goal

pub loop-k-init : goal.loop-k-init
loop-k-init g c = none_made (IsNewManager c.args.scenario.now) c.args.scenario.now.managers c.new-made.result.items c.new-made.ensures.items

pub overflow_cast-k : goal.overflow_cast-k
overflow_cast-k g c = let few = c.requires.runnable.few in let size = ap length c.as_slice-def-items.ensures in let below = c.loop-k-test.true in omega (arith, few, size, below)

pub overflow_add-k : goal.overflow_add-k
overflow_add-k g c = let few = c.requires.runnable.few in let size = ap length c.as_slice-def-items.ensures in let below = c.loop-k-test.true in omega (arith, few, size, below)

pub new_manager-requires-clause-counted : goal.new_manager-requires-clause-counted
new_manager-requires-clause-counted g c =
    let size = ap length c.as_slice-def-items.ensures in
    let below = c.loop-k-test.true in
    (omega arith, omega (arith, size, below))

pub new_manager-requires-clause-there : goal.new_manager-requires-clause-there
new_manager-requires-clause-there g c =
    ap (slice_get c.args.scenario.now.managers) (let same : c.loop-k.k + 1 - 1 ≡ c.loop-k.k = omega arith in same)
    ∙ subst (λ ds. slice_get ds c.loop-k.k ≡ Some c.def-item.result) c.as_slice-def-items.ensures
    (slice_get_read c.as_slice-def-items.result.now _ c.loop-k.k _ refl c.loop-k-test.true c.def-item.is)

pub loop-k-preserved : goal.loop-k-preserved
loop-k-preserved g c =
    one_made (IsNewManager c.args.scenario.now) c.args.scenario.now.managers c.loop-k.made.items c.put.new.list.items c.loop-k.k c.def-item.result c.new.result c.loop-k.invariant
    (subst (λ ds. slice_get ds c.loop-k.k ≡ Some c.def-item.result) c.as_slice-def-items.ensures
    (slice_get_read c.as_slice-def-items.result.now _ c.loop-k.k _ refl c.loop-k-test.true c.def-item.is))
    (record {
      node = subst (IsNewManager c.args.scenario.now (c.loop-k.k + 1) c.def-item.result) (sym c.new.ensures.node) c.in_ok-manager.ensures;
      traced = c.new.ensures.trace;
      turned = c.new.ensures.turned;
    }) c.in_ok-put.ensures

pub returns : goal.returns
returns g c =
    let past = c.loop-k-test.false in
    let end = c.loop-k.auto.k-end in
    let size = ap length c.as_slice-def-items.ensures in
    all_made (IsNewManager c.args.scenario.now) c.args.scenario.now.managers c.loop-k.made.items c.loop-k.k c.loop-k.invariant (omega (arith, past, end, size))
