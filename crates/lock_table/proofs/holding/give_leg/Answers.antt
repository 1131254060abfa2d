use Rattle.std.proofs.Common.{◌≡◌, ◌∙◌, ◌+◌, ◌∷◌, List, Some, drop, sym, ap, arith}
use Rattle.std.proofs.Math.Seq.{drop-cons}
use Rattle.std.proofs.lemmas.Grind.{common_steps}
use Rattle.std.proofs.lemmas.List.{drop_all}
use Rattle.seata_types.specs.declared.rows.RowKey.{RowKey}
use Rattle.lock_table.specs.Locks.{rows_at}
use Rattle.lock_table.proofs.Counted.{next_given}
use Rattle.lock_table.proofs.Parts.{given_none, given_all}
use Rattle.lock_table.proofs.holding.give_leg.Goals as goal

pub loop-key-init : goal.loop-key-init
loop-key-init c =
    let had : rows_at c.args.legs.now.entries c.args.leg ≡ Some c.as_slice-key-items.result.now = sym c.in-Some.ensures.value ∙ ap (λ (ks : List RowKey). Some ks) (sym c.as_slice-key-items.ensures) in
    record {
      order = c.requires.order;
      there = given_none c.args.rows.now.items c.args.legs.now.entries c.remove.new.self.entries c.args.leg c.as_slice-key-items.result.now c.requires c.in-Some.ensures.entries had;
    }

pub loop-key-preserved : goal.loop-key-preserved
loop-key-preserved c =
    let i = c.loop-key.key-index in
    let all = c.as_slice-key-items.result.now in
    let next : drop i all ≡ c.key-item.result ∷ drop (i + 1) all = grind (arith, common_steps, drop-cons all i c.key-item.result c.loop-key-test.true) in
    record {
      order = c.give_back.ensures.order;
      there = next_given c.loop-key.rows.items c.give_back.new.rows.items c.remove.new.self.entries c.args.leg.xid c.key-item.result (drop i all) (drop (i + 1) all) next c.give_back.ensures.there c.loop-key.invariant.there;
    }

pub returns-after-loop-key-clause-index : goal.returns-after-loop-key-clause-index
returns-after-loop-key-clause-index c =
    given_all c.loop-key.rows.items c.args.legs.now.entries c.remove.new.self.entries c.args.leg (drop c.loop-key.key-index c.as_slice-key-items.result.now) c.requires.short c.in-Some.ensures.entries c.loop-key.invariant.order
    (drop_all c.loop-key.key-index c.as_slice-key-items.result.now c.loop-key-test.false) c.loop-key.invariant.there
