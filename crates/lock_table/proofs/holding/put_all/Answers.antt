use Rattle.std.proofs.Common.{◌≡◌, ◌∷◌, length, arith, ap}
use Rattle.std.specs.Vec.Iter.{into_iter_items}
use Rattle.std.proofs.lemmas.Grind.{common_steps}
use Rattle.lock_table.proofs.Puts.{next_cost}
use Rattle.lock_table.proofs.Counted.{fits, next_free, next_times}
use Rattle.lock_table.proofs.holding.put_all.Goals as goal

pub put-requires-clause-few : goal.put-requires-clause-few
put-requires-clause-few g c =
    let left : into_iter_items c.loop-key.key-iterator ≡ c.in-Some.key ∷ into_iter_items c.next.new.self = grind (arith, common_steps) in
    fits c.loop-key.rows.items c.args.rows.now.items c.args.xid c.in-Some.key (into_iter_items c.loop-key.key-iterator) (into_iter_items c.next.new.self) c.args.keys.items left c.loop-key.invariant.free c.loop-key.invariant.there c.requires.few

pub loop-key-preserved : goal.loop-key-preserved
loop-key-preserved g c =
    let left : into_iter_items c.loop-key.key-iterator ≡ c.in-Some.key ∷ into_iter_items c.next.new.self = grind (arith, common_steps) in
    let sizes = ap length left in
    record {
      order = c.put.ensures.order;
      room = omega (arith, c.loop-key.invariant.room, c.put.ensures.length, c.put.ensures.room);
      free = next_free c.loop-key.rows.items c.put.new.rows.items c.args.xid c.in-Some.key (into_iter_items c.loop-key.key-iterator) (into_iter_items c.next.new.self) left c.put.ensures.there c.loop-key.invariant.free;
      there = next_times c.loop-key.rows.items c.put.new.rows.items c.args.xid c.in-Some.key (into_iter_items c.loop-key.key-iterator) (into_iter_items c.next.new.self) left c.put.ensures.there c.loop-key.invariant.free c.loop-key.invariant.there;
      size = omega (arith, c.loop-key.invariant.size, c.put.ensures.size);
      cost = λ d small. next_cost (g.C.Count.count c.args.steps.now) (g.C.Count.count c.loop-key.steps) (g.C.Count.count c.put.new.steps) c.in-Some.key (into_iter_items c.loop-key.key-iterator) (into_iter_items c.next.new.self) (length c.args.keys.items) d left (c.loop-key.invariant.cost d small) (c.put.ensures.cost d (omega (arith, c.loop-key.invariant.size, small)));
    }
