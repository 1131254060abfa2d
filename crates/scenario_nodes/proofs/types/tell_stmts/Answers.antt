use Rattle.std.proofs.Common.{refl, arith}
use Rattle.std.specs.Prelude.{IsUtf8}
use Rattle.std.proofs.lemmas.Option.{slice_get_read}
use Rattle.sql_reader.specs.Canonical.{canonical_text}
use Rattle.scenario_nodes.specs.Calls.{IsRead}
use Rattle.scenario_nodes.proofs.Framable.{framable, readable}
use Rattle.scenario_nodes.proofs.Passes.{before_all, before_more, placed}
use Rattle.scenario_nodes.proofs.types.tell_stmts.Goals as goal

pub tell_stmt-requires : goal.tell_stmt-requires
tell_stmt-requires c =
    readable c.stmt-item.result (placed IsRead c.args.stmts.now c.loop-stmt.stmt-index c.stmt-item.result
    (slice_get_read c.args.stmts.now _ c.loop-stmt.stmt-index _ refl c.loop-stmt-test.true c.stmt-item.is) c.requires.each)

pub loop-stmt-preserved : goal.loop-stmt-preserved
loop-stmt-preserved c =
    before_more (λ s. IsUtf8 (canonical_text s)) c.args.stmts.now c.loop-stmt.stmt-index c.stmt-item.result
    (slice_get_read c.args.stmts.now _ c.loop-stmt.stmt-index _ refl c.loop-stmt-test.true c.stmt-item.is)
    c.in_ok-tell_stmt.ensures c.loop-stmt.invariant

pub returns : goal.returns
returns c = framable c.args.stmts.now c.requires (before_all (λ s. IsUtf8 (canonical_text s)) c.args.stmts.now c.loop-stmt.stmt-index (omega arith) c.loop-stmt.invariant)
