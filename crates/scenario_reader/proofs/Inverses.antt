-- What a part that was read says of the parts that it was read from.
use Rattle.std.proofs.Common.{◌≡◌, ◌≤◌, ◌+◌, ℕ, suc, Bool, true, false, nat_le, nat_lt, List, [], ◌∷◌, ◌++◌, length, Option, Some, None, option_and_then, Ok, Err, refl, ap, subst, arith}
use Rattle.std.proofs.lemmas.Bool.Decides.{nat_tests}
use Rattle.std.proofs.lemmas.List.Elements.{All-push, All-nil}
use Rattle.std.specs.Prelude.{if◌then◌else◌, ℤ, All}
use Rattle.serde_json.specs.Data.{Data, Items, no_items, item}
use Rattle.serde_json.specs.Find.{as_number, as_u64, as_i64, as_array}
use Rattle.scenario_reader.specs.declared.errors.ScenarioError.{ScenarioError}
use Rattle.scenario_form.specs.Contents.{IsBetween}
use Rattle.scenario_reader.specs.Faults.{Outcome, ◌>>=◌, within, to_item, each, items_length, list, list_by}
use Rattle.scenario_reader.specs.Numbers.{in_range, number_by, number_in, number_or, plain_number, number_of_text}

-- ---- two after one another, with a place in front, by a test

pub bind_ok : {A B : Type 0} (o : Outcome A) (f : A → Outcome B) (y : B) → (o >>= f) ≡ Ok y → (x : A) × (o ≡ Ok x) × (f x ≡ Ok y)
bind_ok (Ok x) f y e = (x, refl, e)
bind_ok (Err w) f y e = absurd cc

pub within_ok : {A : Type 0} (front : List ℕ) (o : Outcome A) (x : A) → within front o ≡ Ok x → o ≡ Ok x
within_ok front (Ok y) x e = e
within_ok front (Err w) x e = absurd cc

pub if_ok : {A : Type 0} (b : Bool) (o : Outcome A) (w : ScenarioError) (x : A) → (if b then o else Err w) ≡ Ok x → (b ≡ true) × (o ≡ Ok x)
if_ok true o w x e = (refl, e)
if_ok false o w x e = absurd cc

pub unless_ok : {A : Type 0} (b : Bool) (w : ScenarioError) (o : Outcome A) (x : A) → (if b then Err w else o) ≡ Ok x → (b ≡ false) × (o ≡ Ok x)
unless_ok true w o x e = absurd cc
unless_ok false w o x e = (refl, e)

pub same_ok : {A : Type 0} (x y : A) → ◌≡◌ {A = Outcome A} (Ok x) (Ok y) → x ≡ y
same_ok x y e = cc

pub le_of : (a b : ℕ) → nat_le a b ≡ true → a ≤ b
le_of a b e = grind (arith, nat_tests)

not_below : (a b : ℕ) → nat_lt a b ≡ false → b ≤ a
not_below a b e = grind (arith, nat_tests)

-- ---- numbers

pub in_range_ok : (least most n m : ℕ) → in_range least most n ≡ Ok m → IsBetween least most m
in_range_ok least most n m e =
    let low = unless_ok _ _ _ _ e in
    let high = unless_ok _ _ _ _ low.1 in
    subst (IsBetween least most) (same_ok n m high.1) (not_below _ _ low.0, not_below _ _ high.0)

number_by_ok : (least most : ℕ) (u : Option ℕ) (z : Option ℤ) (m : ℕ) → number_by least most u z ≡ Ok m → IsBetween least most m
number_by_ok least most (Some n) z m e = in_range_ok least most n m e
number_by_ok least most None (Some z) m e = absurd cc
number_by_ok least most None None m e = absurd cc

pub number_in_ok : (least most : ℕ) (d : Data) (m : ℕ) → number_in least most d ≡ Ok m → IsBetween least most m
unfolding number_in
number_in_ok least most d m e = number_by_ok least most (option_and_then as_u64 (as_number d)) (option_and_then as_i64 (as_number d)) m e

-- a number that may be left out is within its limits where its default is
pub number_or_ok : (default least most : ℕ) (d : Option Data) (m : ℕ) → IsBetween least most default → number_or default least most d ≡ Ok m → IsBetween least most m
unfolding number_or
number_or_ok default least most None m between e = subst (IsBetween least most) (same_ok default m e) between
number_or_ok default least most (Some d) m between e = number_in_ok least most d m e

pub plain_number_ok : (least most : ℕ) (text : List ℕ) (m : ℕ) → plain_number least most text ≡ Ok m → IsBetween least most m
unfolding plain_number
plain_number_ok least most text m e = in_range_ok least most (number_of_text text) m e

-- ---- lists

-- what holds at the beginning and is kept by each item holds at the end
pub each_keeps : {X : Type 0} (form : List X → Data → Outcome X) (P : List X → Type 0)
    → ((xs : List X) (d : Data) (x : X) → P xs → form xs d ≡ Ok x → P (xs ++ x ∷ []))
    → (done : List X) (ds : Items) (xs : List X) → P done → each form done ds ≡ Ok xs → P xs
each_keeps form P step done no_items xs p e = subst P (same_ok done xs e) p
each_keeps form P step done (item d ds) xs p e =
    let b = bind_ok (within (to_item (length done)) (form done d)) (λ x. each form (done ++ x ∷ []) ds) xs e in
    each_keeps form P step (done ++ b.0 ∷ []) ds xs (step done d b.0 p (within_ok (to_item (length done)) (form done d) b.0 b.1)) b.2

-- what holds of each item that is read holds of all
pub each_all : {X : Type 0} (form : List X → Data → Outcome X) (P : X → Type 0) → ((xs : List X) (d : Data) (x : X) → form xs d ≡ Ok x → P x)
    → (ds : Items) (xs : List X) → each form [] ds ≡ Ok xs → All P xs
each_all form P gives ds xs e =
    each_keeps form (All P) (λ done d x before reads. All-push P done x before (gives done d x reads)) [] ds xs (All-nil P) e

length_push : {X : Type 0} (xs : List X) (x : X) → length (xs ++ x ∷ []) ≡ suc (length xs)
length_push [] x = refl
length_push (y ∷ xs) x = ap suc (length_push xs x)

-- as many are read as there are items
pub each_length : {X : Type 0} (form : List X → Data → Outcome X) (done : List X) (ds : Items) (xs : List X)
    → each form done ds ≡ Ok xs → length xs ≡ length done + items_length ds
each_length form done no_items xs e = let same = ap length (same_ok done xs e) in omega arith
each_length form done (item d ds) xs e =
    let b = bind_ok (within (to_item (length done)) (form done d)) (λ x. each form (done ++ x ∷ []) ds) xs e in
    let rest = each_length form (done ++ b.0 ∷ []) ds xs b.2 in
    let more = length_push done b.0 in
    let whole : items_length (item d ds) ≡ suc (items_length ds) = refl in
    omega arith

list_by_ok : (most : ℕ) (found : Option Items) (ds : Items) → list_by most found ≡ Ok ds → items_length ds ≤ most
list_by_ok most (Some items) ds e =
    let b = if_ok _ _ _ _ e in subst (λ z. items_length z ≤ most) (same_ok items ds b.1) (le_of _ _ b.0)
list_by_ok most None ds e = absurd cc

pub list_ok : (most : ℕ) (d : Option Data) (ds : Items) → list most d ≡ Ok ds → items_length ds ≤ most
unfolding list
list_ok most d ds e = list_by_ok most (option_and_then as_array d) ds e

-- no more are read than a list may have
pub each_few : {X : Type 0} (form : List X → Data → Outcome X) (most : ℕ) (d : Option Data) (ds : Items) (xs : List X)
    → list most d ≡ Ok ds → each form [] ds ≡ Ok xs → length xs ≤ most
each_few form most d ds xs l e = let few = list_ok most d ds l in let whole = each_length form [] ds xs e in omega arith
