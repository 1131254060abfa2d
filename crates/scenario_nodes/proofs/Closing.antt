-- Resources that are closed one after the other, one for each definition.
use Rattle.std.proofs.Common.{◌≡◌, ◌∙◌, ◌+◌, ◌-◌, ◌<◌, ℕ, List, [], ◌∷◌, drop, map, length, length-append, length-drop, slice_get, Some, refl, ap, sym, subst, arith}
use Rattle.std.proofs.lemmas.List.{length-map}
use Rattle.std.proofs.lemmas.Option.{slice_get-map}
use Rattle.std.specs.Prelude.{String, option_map, string_bytes}
use Rattle.std.specs.declared.alloc.Global.{Global}
use Rattle.disk_model.specs.Shelf.{KeepsOthers, SamePlaces, ShelfState}
use Rattle.scenario_form.specs.declared.scenarios.ResourceDef.{ResourceDef}
use Rattle.scenario_form.specs.Runnable.{resource_name}
use Rattle.scenario_nodes.specs.Shelves.{AreGivenBack, HasBoth, IsDiskName, ReturnsAll, second_name}
use Rattle.scenario_nodes.specs.Together.{AreApart, AreSecondNames, GivesBack, HaveBoth}
use Rattle.scenario_setups.proofs.Made.{drop_at}
use Rattle.scenario_nodes.proofs.Together.{AreClosing, closing_all, closing_next, closing_none, closing_taken, each_at, each_length}

pub emptied : {A : Type 0} (xs : List A) → length xs ≡ 0 → xs ≡ []
emptied [] none = refl
emptied (x ∷ xs) none = absurd (omega (arith, none))

-- the second names of resources: as many, and that of each
pub seconds_count : (defs : List ResourceDef) (seconds : List (String Global)) → AreSecondNames (map resource_name defs) seconds → length seconds ≡ length defs
seconds_count defs seconds named = sym (each_length (λ node second. string_bytes second ≡ second_name node) (map resource_name defs) seconds named) ∙ length-map defs resource_name

pub second_at : (defs : List ResourceDef) (seconds : List (String Global)) (k : ℕ) (def : ResourceDef) (second : String Global) → AreSecondNames (map resource_name defs) seconds → slice_get defs k ≡ Some def → slice_get seconds k ≡ Some second
    → string_bytes second ≡ second_name def.name
second_at defs seconds k def second named here there =
    each_at (λ node second. string_bytes second ≡ second_name node) k (map resource_name defs) seconds def.name second named (slice_get-map resource_name defs k ∙ ap (option_map resource_name) here) there

module _ {D N : Type 0} (f : N → D × D) (defs : List ResourceDef) (all : List N) where
  -- all resources are left, as their definitions
  abbrev pub IsClosing : (old now : ShelfState D) → ℕ → List N → Type 0
  IsClosing old now k left = AreClosing (map resource_name defs) (map f all) old now (map resource_name (drop k defs)) (map f left)

  pub closing_begins : (a : ShelfState D) (left : List N) (k : ℕ) → left ≡ all → k ≡ 0 → IsClosing a a k left
  closing_begins a left k same first = subst (λ ls. IsClosing a a k ls) (sym same) (subst (λ n. IsClosing a a n all) (sym first) (closing_none (map resource_name defs) (map f all) a))

  module _ (old now : ShelfState D) (k : ℕ) (left : List N) (c : IsClosing old now k left) (whole : length all ≡ length defs) where
    -- as many definitions are left as resources
    left_alike : length (map resource_name (drop k defs)) ≡ length left
    left_alike =
        let one = each_length (AreGivenBack old now) c.nodes_closed c.disks_closed c.gives.back in
        let two = ap length c.nodes_are ∙ length-append c.nodes_closed (map resource_name (drop k defs)) in
        let three = ap length c.disks_are ∙ length-append c.disks_closed (map f left) in
        let four = length-map defs resource_name in
        let five = length-map all f in
        let six = length-map left f in
        omega (arith, one, two, three, four, five, six, whole)

    pub left_count : length left ≡ length defs - k
    left_count =
        let alike = left_alike in
        let names = length-map (drop k defs) resource_name in
        let dropped = length-drop k defs in
        omega (arith, alike, names, dropped)

    pub next_below : (one : N) (rest : List N) → left ≡ one ∷ rest → k < length defs
    next_below one rest next =
        let count = left_count in
        let some = ap length next in
        omega (arith, count, some)

    pub none_left : left ≡ [] → GivesBack (map resource_name defs) (map f all) old now
    none_left none =
        let alike = left_alike in
        let some = ap length none in
        closing_all (map resource_name defs) (map f all) old now (map resource_name (drop k defs)) (map f left) (emptied (map resource_name (drop k defs)) (omega (arith, alike, some))) (ap (map f) none) c

    module _ (def : ResourceDef) (here : slice_get defs k ≡ Some def) (one : N) (rest : List N) (next : left ≡ one ∷ rest) where
      opened : AreClosing (map resource_name defs) (map f all) old now (def.name ∷ map resource_name (drop (k + 1) defs)) (f one ∷ map f rest)
      opened = subst (λ (ds : List ResourceDef). AreClosing (map resource_name defs) (map f all) old now (map resource_name ds) (f one ∷ map f rest)) (drop_at defs k def here)
          (subst (λ (ls : List N). AreClosing (map resource_name defs) (map f all) old now (map resource_name (drop k defs)) (map f ls)) next c)

      pub next_taken : HaveBoth old (map resource_name defs) → HasBoth now def.name
      next_taken have = closing_taken (map resource_name defs) (map f all) old now def.name (map resource_name (drop (k + 1) defs)) (f one) (map f rest) opened have

      -- its disks were given back under a text that is its name
      pub next_closed : (new : ShelfState D) (called : List ℕ) (given : D × D) → called ≡ def.name → given ≡ f one → AreApart (map resource_name defs) → AreGivenBack now new called given
          → KeepsOthers (IsDiskName called) now new → SamePlaces now new → ReturnsAll now new → IsClosing old new (k + 1) rest
      next_closed new called given named same apart back keeps places returned =
          closing_next (map resource_name defs) (map f all) old now def.name (map resource_name (drop (k + 1) defs)) (f one) (map f rest) opened new apart
          (subst (λ (n : List ℕ). AreGivenBack now new n (f one)) named (subst (AreGivenBack now new called) same back)) (subst (λ (n : List ℕ). KeepsOthers (IsDiskName n) now new) named keeps) places returned
