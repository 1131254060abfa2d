-- Facts on the items of a list and the members of an object.
use Rattle.std.proofs.Common.{◌≡◌, ◌+◌, ◌<◌, ◌++◌, length, drop, drop-cons, add-one, get_or, sym, ◌∙◌, Ok, ◌&&◌, List, [], ◌∷◌, ℕ, suc, map, Some, refl, ap, String, string_bytes}
use Rattle.std.specs.List.{list_all}
use Rattle.std.specs.declared.alloc.Global.{Global}
use Rattle.serde_json.specs.Data.{Data, item}
use Rattle.serde_json.specs.View.{members_view, items_view, view}
use Rattle.serde_json.specs.declared.value.Value.{Value}
use Rattle.scenario_reader.specs.Faults.{Outcome, each, are_known, is_known, items_length, pair_by, triple_by, wrong_shape}

-- all members are known where all keys are
pub only_keys : (names : List (List ℕ)) (es : List (String Global × Value))
    → are_known names (members_view es) ≡ list_all (λ k. is_known names (string_bytes k)) (map (λ e. e.0) es)
only_keys names [] = refl
only_keys names (e ∷ es) = ap (λ rest. is_known names (string_bytes e.0) && rest) (only_keys names es)

-- a list of values is as long as its data
pub length_of_items : (vs : List Value) → items_length (items_view vs) ≡ length vs
length_of_items [] = refl
length_of_items (v ∷ vs) = ap suc (length_of_items vs)

-- a list of another length is no pair, and no triple
pub no_pair : (vs : List Value) → (length vs ≡ 2 → ⊥) → pair_by (Some (items_view vs)) ≡ wrong_shape
no_pair [] h = refl
no_pair (a ∷ []) h = refl
no_pair (a ∷ b ∷ []) h = absurd (h refl)
no_pair (a ∷ b ∷ c ∷ vs) h = refl

pub no_triple : (vs : List Value) → (length vs ≡ 3 → ⊥) → triple_by (Some (items_view vs)) ≡ wrong_shape
no_triple [] h = refl
no_triple (a ∷ []) h = refl
no_triple (a ∷ b ∷ []) h = refl
no_triple (a ∷ b ∷ c ∷ []) h = absurd (h refl)
no_triple (a ∷ b ∷ c ∷ d ∷ vs) h = refl

-- the items from a place on
pub items_from : (vs : List Value) (i : ℕ) (v : Value) → i < length vs → v ≡ get_or vs i v
    → items_view (drop i vs) ≡ item (view v) (items_view (drop (i + 1) vs))
items_from vs i v inside is =
    let here : drop i vs ≡ v ∷ drop (i + 1) vs = rw (add-one, drop-cons vs i v inside) (ap (λ y. y ∷ drop (suc i) vs) (sym is)) in
    ap items_view here

-- an item that is read stands behind those before it
pub each_step : {X : Type 0} (form : List X → Data → Outcome X) (done : List X) (vs : List Value) (i : ℕ) (v : Value) (x : X) → i < length vs → v ≡ get_or vs i v
    → form done (view v) ≡ Ok x → each form done (items_view (drop i vs)) ≡ each form (done ++ x ∷ []) (items_view (drop (i + 1) vs))
each_step form done vs i v x inside is reads = ap (each form done) (items_from vs i v inside is) ∙ rw reads
