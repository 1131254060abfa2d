use Rattle.std.proofs.Common.{◌≡◌, None, [], ◌∷◌, ◌++◌, arith}
use Rattle.std.proofs.lemmas.Grind.{common_steps}
use Rattle.std.proofs.lemmas.Result.{err_from_is_err_and}
use Rattle.byte_fields.specs.Reading.{items_at}
use Rattle.byte_fields.proofs.Loop.{goes_on, ends, is_done}
use Rattle.byte_fields.specs.LongLists.{next_item}
use Rattle.byte_fields.proofs.items.items.Goals as goal

pub returns-in_err-item : goal.returns-in_err-item
returns-in_err-item g c =
    let p = err_from_is_err_and c.from_residual.result c.from_residual.ensures.1 in
    rw (p.1, p.2) (ends (next_item g.T.Item.follows (g.T.Item.item c.args.keys)) c.in_err-item.field-0.0 c.loop.items.items c.args.count c.loop.counter c.loop.fields (items_at (next_item g.T.Item.follows (g.T.Item.item c.args.keys)) None c.args.count c.args.fields.now) c.loop-test.true (rw c.deref.ensures.value at c.in_err-item.ensures) c.loop.invariant)

pub loop-preserved : goal.loop-preserved
loop-preserved g c =
    let pushed : c.push.new.self.items ≡ c.loop.items.items ++ c.in_ok-item.item ∷ [] = grind (arith, common_steps) in
    rw pushed (goes_on (next_item g.T.Item.follows (g.T.Item.item c.args.keys)) c.loop.items.items c.args.count c.loop.counter c.loop.fields c.in_ok-item.item c.next.new.fields (items_at (next_item g.T.Item.follows (g.T.Item.item c.args.keys)) None c.args.count c.args.fields.now) c.loop-test.true (rw c.deref.ensures.value at c.in_ok-item.ensures) c.loop.invariant)

pub returns : goal.returns
returns g c = rw c.of.ensures (is_done (next_item g.T.Item.follows (g.T.Item.item c.args.keys)) c.loop.items.items c.args.count c.loop.counter c.loop.fields _ c.loop-test.false c.loop.invariant)
