-- The keys of the rows that were read, and those that are noted of them.
use Rattle.std.proofs.Common.{◌≡◌, ℕ, ◌+◌, ◌-◌, ◌<◌, Bool, true, false, cond, List, [], ◌∷◌, ◌++◌, length, get_or, take, Option, Some, None, Ok, refl, sym, ap, subst, ◌∙◌, append_assoc, append-nil, length-append, add-one, arith}
use Rattle.std.specs.Prelude.{if◌then◌else◌, not, slice_get, IfOk, Err}
use Rattle.std.specs.Cmp.Lexicographic.{lists_total}
use Rattle.std.specs.Ordering.{is_eq, ordering_then}
use Rattle.std.specs.declared.cmp.Ordering.{Ordering}
use Rattle.std.specs.declared.cmp.Ordering.TheVariants as order
use Rattle.std.proofs.Math.Seq.{take-suc, get_or-append_seam}
use Rattle.std.proofs.lemmas.Option.{slice_get-get_or}
use Rattle.serde_json.specs.Data.{Data}
use Rattle.seata_types.specs.declared.rows.Row.{Row}
use Rattle.seata_types.specs.declared.rows.Value.{Value}
use Rattle.seata_types.specs.Orders.{value_cmp}
use Rattle.seata_types.specs.ValueOrder.{value_cmp_total}
use Rattle.scenario_reader.specs.Faults.{Outcome, wrong_name}
use Rattle.scenario_form.specs.Contents.{Column}
use Rattle.scenario_reader.specs.Tables.{row, new_row, with_part, key_behind, key_of, key_order, same_key, has_key, is_noted, Notes, HaveKeys, part_order, rises_by, rises, behind_last, is_behind, IsAbove, AreRising, IsNoted}

swap : (x y h : Bool) → cond y true (cond x true h) ≡ cond x true (cond y true h)
swap true true h = refl
swap true false h = refl
swap false true h = refl
swap false false h = refl

-- a key is that of a row at the end, or of one of those before it
has_key_push : (places : List ℕ) (rows : List Row) (r : Row) (q : List Value)
    → has_key places (rows ++ r ∷ []) q ≡ cond (same_key (key_of places r) q) true (has_key places rows q)
has_key_push places [] r q = refl
has_key_push places (x ∷ rows) r q =
    ap (λ h. cond (same_key (key_of places x) q) true h) (has_key_push places rows r q)
    ∙ swap (same_key (key_of places r) q) (same_key (key_of places x) q) (has_key places rows q)

-- without rows there are no keys
pub no_keys : (places : List ℕ) → HaveKeys places [] []
unfolding HaveKeys
no_keys places = λ key. refl

-- with its key noted, a row stands among those that have keys
pub keys_push : (places : List ℕ) (rows : List Row) (r : Row) (key : List Value) (old new : List (List Value))
    → key ≡ key_of places r → HaveKeys places rows old → Notes key old new → HaveKeys places (rows ++ r ∷ []) new
unfolding HaveKeys
keys_push places rows r key old new is have notes =
    λ q. notes q ∙ ap (λ k. cond (same_key k q) true (is_noted old q)) is ∙ ap (λ h. cond (same_key (key_of places r) q) true h) (have q) ∙ sym (has_key_push places rows r q)

-- with the keys of the first rows noted, that of the next is noted
pub keys_next : (places : List ℕ) (rows : List Row) (k : ℕ) (r : Row) (key : List Value) (old new : List (List Value))
    → k < length rows → get_or rows k r ≡ r → key ≡ key_of places r → HaveKeys places (take k rows) old → Notes key old new → HaveKeys places (take (k + 1) rows) new
keys_next places rows k r key old new inside there is have notes =
    let more : take (k + 1) rows ≡ take k rows ++ r ∷ [] = rw add-one (take-suc rows k r inside ∙ ap (λ x. take k rows ++ x ∷ []) there) in
    subst (λ rs. HaveKeys places rs new) (sym more) (keys_push places (take k rows) r key old new is have notes)

-- whether a key is free is what the noted keys say
pub noted_free : (places : List ℕ) (rows : List Row) (r : Row) (key : List Value) (keys : List (List Value)) (free : Bool)
    → key ≡ key_of places r → HaveKeys places rows keys → free ≡ not (is_noted keys key) → free ≡ not (has_key places rows (key_of places r))
unfolding HaveKeys
noted_free places rows r key keys free is have answer = answer ∙ ap (λ k. not (is_noted keys k)) is ∙ ap not (have (key_of places r))

pub noted_answer : (places : List ℕ) (rows : List Row) (r : Row) (key : List Value) (keys : List (List Value)) (result : Outcome Bool)
    → key ≡ key_of places r → HaveKeys places rows keys → IfOk result (λ free. free ≡ not (is_noted keys key)) → IfOk result (λ free. free ≡ not (has_key places rows (key_of places r)))
noted_answer places rows r key keys (Ok free) is have answer = noted_free places rows r key keys free is have answer
noted_answer places rows r key keys (Err e) is have answer = tt

-- the keys that are noted, where some are
pub noted_keys : (places : List ℕ) (rows : List Row) (keys : List (List Value)) (noted : Option (List (List Value)))
    → noted ≡ Some keys → IsNoted places rows noted → HaveKeys places rows keys
unfolding IsNoted
noted_keys places rows keys noted is are = rw is at are

-- ---- rows that rise

key_behind-append : (parts : List Value) (places : List ℕ) (row : Row) → key_behind parts places row ≡ parts ++ key_behind [] places row
key_behind-append parts [] row = sym (append-nil parts)
key_behind-append parts (k ∷ ks) row = by_part (slice_get row.0 k) (λ ps. key_behind-append ps ks row)
  where
    by_part : (o : Option Value) → ((ps : List Value) → key_behind ps ks row ≡ ps ++ key_behind [] ks row)
        → key_behind (with_part parts o) ks row ≡ parts ++ key_behind (with_part [] o) ks row
    by_part None later = later parts
    by_part (Some v) later = later (parts ++ v ∷ []) ∙ append_assoc parts (v ∷ []) (key_behind [] ks row) ∙ ap (λ z. parts ++ z) (sym (later (v ∷ [])))

key_of-cons : (k : ℕ) (ks : List ℕ) (row : Row) (v : Value) → slice_get row.0 k ≡ Some v → key_of (k ∷ ks) row ≡ v ∷ key_of ks row
key_of-cons k ks row v is = rw is (key_behind-append (v ∷ []) ks row)

rises-less : (places : List ℕ) (a b : Row) → rises places a b ≡ true → key_order (key_of places a) (key_of places b) ≡ order.Less
rises-less [] a b is = cc
rises-less (k ∷ ks) a b is = by_parts (slice_get a.0 k) refl (slice_get b.0 k) refl is (rises-less ks a b)
  where
    by_order : (o : Ordering) → rises_by (Some o) (rises ks a b) ≡ true → (rises ks a b ≡ true → key_order (key_of ks a) (key_of ks b) ≡ order.Less)
        → ordering_then o (key_order (key_of ks a) (key_of ks b)) ≡ order.Less
    by_order order.Less is later = refl
    by_order order.Equal is later = later is
    by_order order.Greater is later = cc

    by_parts : (x : Option Value) → slice_get a.0 k ≡ x → (y : Option Value) → slice_get b.0 k ≡ y → rises_by (part_order x y) (rises ks a b) ≡ true
        → (rises ks a b ≡ true → key_order (key_of ks a) (key_of ks b) ≡ order.Less)
        → key_order (key_of (k ∷ ks) a) (key_of (k ∷ ks) b) ≡ order.Less
    by_parts None one y two is later = cc
    by_parts (Some x) one None two is later = cc
    by_parts (Some x) one (Some y) two is later = rw (key_of-cons k ks a x one, key_of-cons k ks b y two) (by_order (value_cmp x y) is later)

last_pushed : (rows : List Row) (r : Row) → slice_get (rows ++ r ∷ []) (length (rows ++ r ∷ []) - 1) ≡ Some r
last_pushed rows r =
    let many : length (rows ++ r ∷ []) ≡ length rows + 1 = length-append rows (r ∷ []) in
    let at : length (rows ++ r ∷ []) - 1 ≡ length rows = omega (arith, many) in
    rw at (slice_get-get_or (rows ++ r ∷ []) (length rows) r (omega (arith, many)) ∙ ap Some (get_or-append_seam rows r [] r))

-- a key that stands behind a row's stands behind that of the row before it
onward : (places : List ℕ) (last : Option Row) (r : Row) (key : List Value) → behind_last places last r ≡ true → key_order (key_of places r) key ≡ order.Less → IsAbove places last key
onward places (Some last) r key is below = (lists_total value_cmp_total).trans (key_of places last) (key_of places r) key (rises-less places last r is) below
onward places None r key is below = tt

above : (places : List ℕ) (last : Option Row) (r : Row) → behind_last places last r ≡ true → IsAbove places last (key_of places r)
above places (Some last) r is = rises-less places last r is
above places None r is = tt

-- a row behind rows that rise has a new key
pub behind_free : (places : List ℕ) (rows : List Row) (r : Row) → AreRising places rows → is_behind places rows r ≡ true → has_key places rows (key_of places r) ≡ false
unfolding AreRising
behind_free places rows r rising is = rising (key_of places r) (above places (slice_get rows (length rows - 1)) r is)

-- and they rise with it
pub behind_push : (places : List ℕ) (rows : List Row) (r : Row) → AreRising places rows → is_behind places rows r ≡ true → AreRising places (rows ++ r ∷ [])
unfolding AreRising
behind_push places rows r rising is = λ key is_above.
    let below : key_order (key_of places r) key ≡ order.Less = subst (λ last. IsAbove places last key) (last_pushed rows r) is_above in
    let other : same_key (key_of places r) key ≡ false = ap is_eq below in
    let none = rising key (onward places (slice_get rows (length rows - 1)) r key is below) in
    has_key_push places rows r key ∙ rw (other, none) refl

-- without rows nothing is noted
pub nothing_noted : (places : List ℕ) → IsNoted places [] None
unfolding IsNoted AreRising
nothing_noted places = λ key above. refl

-- a row whose key a row has, and one whose key none has
pub used_row : (columns : List Column) (places : List ℕ) (rows : List Row) (d : Data) (r : Row)
    → row columns d ≡ Ok r → false ≡ not (has_key places rows (key_of places r)) → new_row columns places rows d ≡ wrong_name
unfolding new_row
used_row columns places rows d r reads is = rw reads (by_test (has_key places rows (key_of places r)) is)
  where
    by_test : (has : Bool) → false ≡ not has → (if has then wrong_name else Ok r) ≡ wrong_name
    by_test true is = refl
    by_test false is = cc

pub free_row : (columns : List Column) (places : List ℕ) (rows : List Row) (d : Data) (r : Row)
    → row columns d ≡ Ok r → true ≡ not (has_key places rows (key_of places r)) → new_row columns places rows d ≡ Ok r
unfolding new_row
free_row columns places rows d r reads is = rw reads (by_test (has_key places rows (key_of places r)) is)
  where
    by_test : (has : Bool) → true ≡ not has → (if has then wrong_name else Ok r) ≡ Ok r
    by_test true is = cc
    by_test false is = refl
