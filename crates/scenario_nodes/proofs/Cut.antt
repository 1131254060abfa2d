-- A definition among others: those before it, and those behind it.
use Rattle.std.proofs.Common.{◌≡◌, ◌∙◌, ◌+◌, ◌-◌, ◌++◌, ◌<◌, ℕ, List, [], ◌∷◌, drop, take, map, length, slice_get, Some, String, string_bytes, inl, ap, sym, subst, arith, length-take-le, take-append-drop}
use Rattle.std.proofs.lemmas.List.{drop-map, map-append, take-map, take_more, take_rest}
use Rattle.std.proofs.lemmas.Option.{get_or_from_slice_get, slice_get_within}
use Rattle.std.specs.declared.alloc.Global.{Global}
use Rattle.disk_model.specs.Shelf.{ShelfState}
use Rattle.scenario_form.specs.declared.scenarios.ResourceDef.{ResourceDef}
use Rattle.scenario_form.specs.Runnable.{resource_name}
use Rattle.scenario_nodes.specs.Shelves.{HasBoth, IsDiskName, second_name}
use Rattle.scenario_nodes.specs.Together.{AreApart, AreSecondNames, GivesBack, HaveBoth, IsOfOne, numbered}
use Rattle.scenario_setups.proofs.Made.{drop_at}
use Rattle.scenario_nodes.proofs.Numbered.{numbered_append}
use Rattle.scenario_nodes.proofs.Together.{all_behind, all_front, apart_behind, apart_between, apart_front, each_drop, each_take, gives_then, of_behind, of_front}

-- the names of those before the k-th one, and of those behind it
abbrev pub names_before : List ResourceDef → ℕ → List (List ℕ)
names_before defs k = map resource_name (take k defs)

abbrev pub names_behind : List ResourceDef → ℕ → List (List ℕ)
names_behind defs k = map resource_name (drop (k + 1) defs)

-- ---- the names of their second disks

-- it is the name of a node's second disk
abbrev pub IsItsSecond : List ℕ → String Global → Type 0
IsItsSecond node second = string_bytes second ≡ second_name node

module _ (defs : List ResourceDef) (seconds : List (String Global)) (k : ℕ) (named : AreSecondNames (map resource_name defs) seconds) where
  pub seconds_before : AreSecondNames (names_before defs k) (take k seconds)
  seconds_before = subst (λ (names : List (List ℕ)). AreSecondNames names (take k seconds)) (take-map resource_name k defs) (each_take IsItsSecond k (map resource_name defs) seconds named)

  pub seconds_from : AreSecondNames (map resource_name (take (length defs - k) (drop k defs))) (take (length seconds - k) (drop k seconds))
  seconds_from =
      subst (λ (ds : List ResourceDef). AreSecondNames (map resource_name ds) (take (length seconds - k) (drop k seconds))) (sym (take_rest defs k))
      (subst (λ (ss : List (String Global)). AreSecondNames (map resource_name (drop k defs)) ss) (sym (take_rest seconds k))
      (subst (λ (names : List (List ℕ)). AreSecondNames names (drop k seconds)) (drop-map resource_name k defs) (each_drop IsItsSecond k (map resource_name defs) seconds named)))

-- ---- before and behind

module _ (defs : List ResourceDef) (k : ℕ) where
  names_cut : map resource_name defs ≡ names_before defs k ++ map resource_name (drop k defs)
  names_cut = ap (map resource_name) (sym (take-append-drop k defs)) ∙ map-append resource_name (take k defs) (drop k defs)

  pub apart_before : AreApart (map resource_name defs) → AreApart (names_before defs k)
  apart_before apart = apart_front (names_before defs k) (map resource_name (drop k defs)) (subst AreApart names_cut apart)

  pub have_before : {D : Type 0} (shelf : ShelfState D) → HaveBoth shelf (map resource_name defs) → HaveBoth shelf (names_before defs k)
  have_before shelf have = all_front (HasBoth shelf) (names_before defs k) (map resource_name (drop k defs)) (subst (HaveBoth shelf) names_cut have)

module _ (defs : List ResourceDef) (k : ℕ) (def : ResourceDef) (here : slice_get defs k ≡ Some def) where
  below : k < length defs
  below = slice_get_within defs k def here

  cut : defs ≡ take k defs ++ def ∷ drop (k + 1) defs
  cut = sym (take-append-drop k defs) ∙ ap (λ (ds : List ResourceDef). take k defs ++ ds) (drop_at defs k def here)

  pub names_around : map resource_name defs ≡ names_before defs k ++ def.name ∷ names_behind defs k
  names_around = ap (map resource_name) cut ∙ map-append resource_name (take k defs) (def ∷ drop (k + 1) defs)

  -- their disks are of one of all
  pub of_before : (n : List ℕ) → IsOfOne (names_before defs k) n → IsOfOne (map resource_name defs) n
  of_before n o = subst (λ (names : List (List ℕ)). IsOfOne names n) (sym names_around) (of_front (names_before defs k) (def.name ∷ names_behind defs k) n o)

  pub of_it : (n : List ℕ) → IsDiskName def.name n → IsOfOne (map resource_name defs) n
  of_it n named = subst (λ (names : List (List ℕ)). IsOfOne names n) (sym names_around) (of_behind (names_before defs k) (def.name ∷ names_behind defs k) n (inl named))

  -- one more than those before it
  up_to : take (k + 1) defs ≡ take k defs ++ def ∷ []
  up_to = take_more defs k def below ∙ ap (λ (d : ResourceDef). take k defs ++ d ∷ []) (get_or_from_slice_get defs k def def here)

  pub names_up_to : map resource_name (take (k + 1) defs) ≡ names_before defs k ++ def.name ∷ []
  names_up_to = ap (map resource_name) up_to ∙ map-append resource_name (take k defs) (def ∷ [])

  -- ---- with their numbers

  number : 1 + length (take k defs) ≡ k + 1
  number = let low = below in let count = length-take-le k defs (omega (arith, low)) in omega (arith, count)

  pub numbered_around : numbered 1 defs ≡ numbered 1 (take k defs) ++ (k + 1, def) ∷ numbered (k + 1 + 1) (drop (k + 1) defs)
  numbered_around =
      ap (λ (ds : List ResourceDef). numbered 1 ds) cut ∙ numbered_append 1 (take k defs) (def ∷ drop (k + 1) defs)
      ∙ ap (λ (n : ℕ). numbered 1 (take k defs) ++ numbered n (def ∷ drop (k + 1) defs)) number

  pub numbered_up_to : numbered 1 (take (k + 1) defs) ≡ numbered 1 (take k defs) ++ (k + 1, def) ∷ []
  numbered_up_to =
      ap (λ (ds : List ResourceDef). numbered 1 ds) up_to ∙ numbered_append 1 (take k defs) (def ∷ []) ∙ ap (λ (n : ℕ). numbered 1 (take k defs) ++ numbered n (def ∷ [])) number

  -- ---- apart

  module _ (apart : AreApart (map resource_name defs)) where
    apart_around : AreApart (names_before defs k ++ def.name ∷ names_behind defs k)
    apart_around = subst AreApart names_around apart

    apart_from_it : AreApart (def.name ∷ names_behind defs k)
    apart_from_it = apart_behind (names_before defs k) (def.name ∷ names_behind defs k) apart_around

    pub apart_after : AreApart (names_behind defs k)
    apart_after = apart_from_it.1

    -- those before it were closed, then it, and then those behind it
    pub gives_around : {D : Type 0} (front : List (D × D)) (d : D × D) (back : List (D × D)) (a b c e : ShelfState D) → GivesBack (names_before defs k) front a b → GivesBack (def.name ∷ []) (d ∷ []) b c
        → GivesBack (names_behind defs k) back c e → GivesBack (map resource_name defs) (front ++ d ∷ back) a e
    gives_around {D} front d back a b c e one two three =
        subst (λ (names : List (List ℕ)). GivesBack {D = D} names (front ++ d ∷ back) a e) (sym names_around)
        (gives_then (names_before defs k) (def.name ∷ names_behind defs k) front (d ∷ back) a b e (apart_between (names_before defs k) (def.name ∷ names_behind defs k) apart_around) one
        (gives_then (def.name ∷ []) (names_behind defs k) (d ∷ []) back b c e (apart_between (def.name ∷ []) (names_behind defs k) apart_from_it) two three))

  -- ---- taken

  module _ {D : Type 0} (shelf : ShelfState D) (have : HaveBoth shelf (map resource_name defs)) where
    have_from_it : HaveBoth shelf (def.name ∷ names_behind defs k)
    have_from_it = all_behind (HasBoth shelf) (names_before defs k) (def.name ∷ names_behind defs k) (subst (HaveBoth shelf) names_around have)

    pub has_it : HasBoth shelf def.name
    has_it = have_from_it.0

    pub have_behind : HaveBoth shelf (names_behind defs k)
    have_behind = have_from_it.1
