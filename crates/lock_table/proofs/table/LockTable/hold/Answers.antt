use Rattle.std.proofs.Common.{◌≡◌, ◌∙◌, ◌++◌, ◌<◌, ◌^◌, ap, arith, length}
use Rattle.std.proofs.lemmas.Grind.{common_steps}
use Rattle.lock_table.specs.Locks.{locks, rows_of, with_rows}
use Rattle.lock_table.specs.Counts.{locks_of}
use Rattle.lock_table.proofs.Holders.{rows_are}
use Rattle.lock_table.proofs.Parts.{are_free, took_rows, few_after, cost_of}
use Rattle.lock_table.proofs.table.LockTable.hold.Goals as goal

pub put_all-requires-clause-free : goal.put_all-requires-clause-free
put_all-requires-clause-free g c =
    let keys : c.in_ok-keys.keys.items ≡ c.args.hold.now = grind (arith, common_steps) in
    rw (c.reserve.ensures.items)
    (are_free c.self.inside.rows.items c.self.inside.holds.entries c.args.leg.xid c.args.hold.now c.in_ok-keys.keys.items c.self.invariant keys (rw (c.self.view_is) c.requires))

pub returns-clause-cost : goal.returns-clause-cost
returns-clause-cost g c =
    let keys : c.in_ok-keys.keys.items ≡ c.args.hold.now = grind (arith, common_steps) in
    let rows : locks_of c.reserve.new.self.items ≡ locks c.args.self.now = ap locks_of c.reserve.ensures.items ∙ rows_are c.self.inside.rows.items c.self.inside.holds.entries c.self.invariant ∙ ap locks c.self.view_is in
    cost_of c.args.steps.now c.put_all.new.steps c.reserve.new.self.items c.in_ok-keys.keys.items c.args.hold.now (locks c.args.self.now) rows keys c.put_all.ensures.cost

pub put_all-requires-clause-few : goal.put_all-requires-clause-few
put_all-requires-clause-few g c =
    let keys : c.in_ok-keys.keys.items ≡ c.args.hold.now = grind (arith, common_steps) in
    let made : c.insert.new.self.entries ≡ with_rows c.self.inside.holds.entries c.args.leg c.args.hold.now = grind (arith, common_steps) in
    let all : c.as_slice.result.now ≡ rows_of c.self.inside.holds.entries c.args.leg ++ c.args.hold.now = grind (arith, common_steps) in
    let legs : length c.insert.new.self.entries < 2 ^ 64 = omega (arith, c.len.ensures.len, c.len.ensures.small) in
    rw (c.reserve.ensures.items)
    (few_after c.self.inside.rows.items c.self.inside.holds.entries c.insert.new.self.entries c.args.leg c.in_ok-keys.keys.items c.args.hold.now c.self.invariant c.insert.ensures.was_ordered keys made
    (omega (arith, ap length all, c.if-prove.false)) legs)

pub invariant_of-self-2 : goal.invariant_of-self-2
invariant_of-self-2 g c =
    let keys : c.in_ok-keys.keys.items ≡ c.args.hold.now = grind (arith, common_steps) in
    let made : c.insert.new.self.entries ≡ with_rows c.self.inside.holds.entries c.args.leg c.args.hold.now = grind (arith, common_steps) in
    let all : c.as_slice.result.now ≡ rows_of c.self.inside.holds.entries c.args.leg ++ c.args.hold.now = grind (arith, common_steps) in
    took_rows c.self.inside.rows.items c.self.inside.holds.entries c.insert.new.self.entries c.args.leg c.in_ok-keys.keys.items c.args.hold.now c.self.invariant c.insert.ensures.was_ordered keys made
    c.put_all.new.rows.items (omega (arith, ap length all, c.if-prove.false)) c.put_all.ensures.order (rw (← c.reserve.ensures.items) c.put_all.ensures.there)
