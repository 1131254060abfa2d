use Rattle.std.proofs.Common.{refl, sym, subst, arith}
use Rattle.std.proofs.lemmas.Option.{slice_get_read}
use Rattle.scenario_nodes.specs.Calls.{HasFramableAction, HasReadAction, IsFramableAction, IsReadAction}
use Rattle.scenario_nodes.proofs.Passes.{before_all, before_more, placed}
use Rattle.scenario_nodes.proofs.setups.tell_actions.Goals as goal

pub tell_action-requires : goal.tell_action-requires
tell_action-requires c =
    subst IsReadAction (sym c.get.ensures)
    (placed HasReadAction c.args.actions.now c.loop-action.action-index c.loop-action-item.result
    (slice_get_read c.args.actions.now _ c.loop-action.action-index _ refl c.loop-action-test.true c.loop-action-item.is) c.requires)

pub loop-action-preserved : goal.loop-action-preserved
loop-action-preserved c =
    before_more HasFramableAction c.args.actions.now c.loop-action.action-index c.loop-action-item.result
    (slice_get_read c.args.actions.now _ c.loop-action.action-index _ refl c.loop-action-test.true c.loop-action-item.is)
    (subst IsFramableAction c.get.ensures c.in_ok-tell_action.ensures) c.loop-action.invariant

pub returns : goal.returns
returns c = before_all HasFramableAction c.args.actions.now c.loop-action.action-index (omega arith) c.loop-action.invariant
