use Rattle.std.proofs.Common.{◌≡◌, ◌∙◌, ◌++◌, ◌∷◌, [], Some, None, true, false, take, drop, sym, ap, arith}
use Rattle.std.proofs.lemmas.Grind.{common_steps}
use Rattle.std.proofs.Math.ListN.{get_or}
use Rattle.std.specs.Ordering.{is_lt}
use Rattle.seata_types.specs.Orders.{key_cmp}
use Rattle.resource_rules.specs.Asked.{is_from, first_from}
use Rattle.resource_rules.proofs.AskedLaws.{no_some, put_last, put_first, put_none, below_it, among}
use Rattle.resource_rules.proofs.Places.{IsFirst, no_place, first_place}
use Rattle.resource_rules.proofs.asked.put.Goals as goal

-- all keys are below this one
pub returns-in_default : goal.returns-in_default
returns-in_default c =
    let is : c.push.new.self.items ≡ c.args.keys.now.items ++ c.args.key.now ∷ [] = grind (arith, common_steps) in
    let value : c.as_slice.result.now ≡ c.args.keys.now.items = c.as_slice.ensures.value in
    let here : first_from c.args.key.now c.args.keys.now.items ≡ None =
    ap (first_from c.args.key.now) (sym value) ∙ sym c.place.ensures ∙ no_some c.place.result c.in_default.not-Some in
    is ∙ put_last c.args.key.now c.args.keys.now.items (no_place (is_from c.args.key.now) c.args.keys.now.items here)

-- it is below the first key that isn't below it
pub returns-in_ok-insert : goal.returns-in_ok-insert
returns-in_ok-insert c =
    let is : c.insert.new.self.items ≡ take c.in-Some.at c.args.keys.now.items ++ c.args.key.now ∷ drop c.in-Some.at c.args.keys.now.items = grind (arith, common_steps) in
    let value : c.as_slice.result.now ≡ c.args.keys.now.items = c.as_slice.ensures.value in
    let here : first_from c.args.key.now c.args.keys.now.items ≡ Some c.in-Some.at = ap (first_from c.args.key.now) (sym value) ∙ sym c.place.ensures ∙ c.in-Some.is in
    let first : IsFirst (is_from c.args.key.now) c.args.keys.now.items c.in-Some.at = first_place (is_from c.args.key.now) c.args.keys.now.items c.in-Some.at here in
    let it : get_or c.args.keys.now.items c.in-Some.at c.index.result.now ≡ c.index.result.now = sym c.index.ensures in
    let less : is_lt (key_cmp c.args.key.now c.index.result.now) ≡ true = grind (arith, common_steps) in
    let below = below_it c.args.key.now _ less in
    is ∙ put_first c.args.key.now c.args.keys.now.items c.in-Some.at c.index.result.now first (ap (key_cmp c.args.key.now) it ∙ below)

-- it is that key
pub returns-else-is_lt : goal.returns-else-is_lt
returns-else-is_lt c =
    let value : c.as_slice.result.now ≡ c.args.keys.now.items = c.as_slice.ensures.value in
    let here : first_from c.args.key.now c.args.keys.now.items ≡ Some c.in-Some.at = ap (first_from c.args.key.now) (sym value) ∙ sym c.place.ensures ∙ c.in-Some.is in
    let first : IsFirst (is_from c.args.key.now) c.args.keys.now.items c.in-Some.at = first_place (is_from c.args.key.now) c.args.keys.now.items c.in-Some.at here in
    let it : get_or c.args.keys.now.items c.in-Some.at c.index.result.now ≡ c.index.result.now = sym c.index.ensures in
    let other : is_lt (key_cmp c.args.key.now c.index.result.now) ≡ false = grind (arith, common_steps) in
    put_none c.args.key.now c.args.keys.now.items c.in-Some.at c.index.result.now first
    (among c.args.key.now c.args.keys.now.items c.in-Some.at c.index.result.now first (ap is_lt (ap (key_cmp c.args.key.now) it) ∙ other))
