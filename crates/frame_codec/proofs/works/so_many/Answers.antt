use Rattle.std.proofs.Common.{◌≡◌, None, [], ◌∷◌, ◌++◌, arith}
use Rattle.std.proofs.lemmas.Grind.{common_steps}
use Rattle.std.proofs.lemmas.Result.{err_from_is_err_and}
use Rattle.byte_fields.specs.Reading.{items_at}
use Rattle.byte_fields.proofs.Loop.{goes_on, ends, is_done}
use Rattle.frame_codec.specs.Works.{any_stmt}
use Rattle.frame_codec.proofs.works.so_many.Goals as goal

pub returns-in_err-stmt : goal.returns-in_err-stmt
returns-in_err-stmt c =
    let p = err_from_is_err_and c.from_residual.result c.from_residual.ensures.1 in
    rw (p.1, p.2) (ends any_stmt c.in_err-stmt.field-0.0 c.loop.found.items c.args.count c.loop.counter c.loop.fields (items_at any_stmt None c.args.count c.args.fields.now) c.loop-test.true c.in_err-stmt.ensures c.loop.invariant)

pub loop-preserved : goal.loop-preserved
loop-preserved c =
    let pushed : c.push.new.self.items ≡ c.loop.found.items ++ c.in_ok-stmt.stmt ∷ [] = grind (arith, common_steps) in
    rw pushed (goes_on any_stmt c.loop.found.items c.args.count c.loop.counter c.loop.fields c.in_ok-stmt.stmt c.statement.new.fields (items_at any_stmt None c.args.count c.args.fields.now) c.loop-test.true c.in_ok-stmt.ensures c.loop.invariant)

pub returns : goal.returns
returns c = rw c.of.ensures (is_done any_stmt c.loop.found.items c.args.count c.loop.counter c.loop.fields _ c.loop-test.false c.loop.invariant)
