use Rattle.std.proofs.Common.{◌≡◌, ◌==◌, true, false, slice_set, refl, arith}
use Rattle.std.proofs.lemmas.Bool.Decides.{nat_tests}
use Rattle.lock_table.proofs.Places.{last_order, last_there, less_back, less_there, none_back, put_order, lessened}
use Rattle.lock_table.proofs.index.give_back.Goals as goal

pub returns-then-index-eq0-clause-order : goal.returns-then-index-eq0-clause-order
returns-then-index-eq0-clause-order c =
    last_order c.args.rows.now.items c.remove.new.self.items c.args.key.now c.in-Ok.at c.requires (rw c.deref.ensures.value at c.in-Ok.ensures.found) c.remove.ensures.items

pub returns-then-index-eq0-clause-there : goal.returns-then-index-eq0-clause-there
returns-then-index-eq0-clause-there c =
    let none : (c.index.result.now.1.more == 0) ≡ true = grind (arith, nat_tests) in
    last_there c.args.rows.now.items c.remove.new.self.items c.args.key.now c.in-Ok.at c.index.result.now c.requires (rw c.deref.ensures.value at c.in-Ok.ensures.found) c.index.ensures none c.remove.ensures.items

pub returns-else-index-eq0-clause-order : goal.returns-else-index-eq0-clause-order
returns-else-index-eq0-clause-order c =
    let new = slice_set c.args.rows.now.items c.in-Ok.at (c.index_mut.result.now.0, lessened c.index_mut.result.now.1) in
    put_order c.args.rows.now.items new c.args.key.now (lessened c.index_mut.result.now.1) c.requires
    (less_back c.args.rows.now.items new c.args.key.now c.in-Ok.at c.index_mut.result.now c.requires (rw c.deref.ensures.value at c.in-Ok.ensures.found) c.index_mut.ensures.value refl)

pub returns-else-index-eq0-clause-there : goal.returns-else-index-eq0-clause-there
returns-else-index-eq0-clause-there c =
    let some : (c.index.result.now.1.more == 0) ≡ false = grind (arith, nat_tests) in
    less_there c.args.rows.now.items (slice_set c.args.rows.now.items c.in-Ok.at (c.index_mut.result.now.0, lessened c.index_mut.result.now.1)) c.args.key.now c.in-Ok.at c.index_mut.result.now c.index.result.now c.requires
    (rw c.deref.ensures.value at c.in-Ok.ensures.found) c.index_mut.ensures.value c.index.ensures some refl

pub returns-in_default-clause-there : goal.returns-in_default-clause-there
returns-in_default-clause-there c =
    none_back c.args.rows.now.items c.args.key.now c.in_default.field-0 c.requires (rw c.deref.ensures.value at c.in_default.ensures.missing)
