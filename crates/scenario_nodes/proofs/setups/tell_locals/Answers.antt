use Rattle.std.proofs.Common.{refl, sym, subst, arith, ◌∙◌}
use Rattle.std.proofs.lemmas.Option.{slice_get_read}
use Rattle.scenario_nodes.specs.Calls.{AreFramable, AreRead, IsFramableLocal, IsReadLocal}
use Rattle.scenario_nodes.proofs.Passes.{before_all, before_more, placed}
use Rattle.scenario_nodes.proofs.setups.tell_locals.Goals as goal

pub tell_stmts-requires : goal.tell_stmts-requires
tell_stmts-requires c =
    subst AreRead (sym (c.as_slice.ensures ∙ c.get.ensures))
    (placed IsReadLocal c.args.locals.now c.loop-stmts.stmts-index c.loop-stmts-item.result
    (slice_get_read c.args.locals.now _ c.loop-stmts.stmts-index _ refl c.loop-stmts-test.true c.loop-stmts-item.is) c.requires)

pub loop-stmts-preserved : goal.loop-stmts-preserved
loop-stmts-preserved c =
    before_more IsFramableLocal c.args.locals.now c.loop-stmts.stmts-index c.loop-stmts-item.result
    (slice_get_read c.args.locals.now _ c.loop-stmts.stmts-index _ refl c.loop-stmts-test.true c.loop-stmts-item.is)
    (subst AreFramable (c.as_slice.ensures ∙ c.get.ensures) c.in_ok-tell_stmts.ensures) c.loop-stmts.invariant

pub returns : goal.returns
returns c = before_all IsFramableLocal c.args.locals.now c.loop-stmts.stmts-index (omega arith) c.loop-stmts.invariant
