-- The disks of several nodes, taken and given back together.
use Rattle.std.specs.Prelude.{◌≡◌, ◌⊎◌, ◌+◌, List, [], ◌∷◌, ℕ, Result, OnErr, OnOk, String, string_bytes}
use Rattle.std.specs.declared.alloc.Global.{Global}
use Rattle.std.specs.List.{AllByRecursion}
use Rattle.disk_model.specs.Shelf.{KeepsOthers, SamePlaces, ShelfState}
use Rattle.scenario_nodes.specs.Shelves.{AreGivenBack, HasBoth, IsDiskName, ReturnsAll, ReturnsBut, second_name}

-- two lists have as many items, and each item of the one has a property with that of the other
abbrev pub AreEach : {A B : Type 0} → (A → B → Type 0) → List A → List B → Type 0
AreEach P [] [] = Unit {0}
AreEach P (x ∷ xs) (y ∷ ys) = P x y × AreEach P xs ys
AreEach P [] (y ∷ ys) = ⊥
AreEach P (x ∷ xs) [] = ⊥

-- the items of a list, each behind its number, from this one on
abbrev pub numbered : {A : Type 0} → ℕ → List A → List (ℕ × A)
numbered n [] = []
numbered n (x ∷ xs) = (n, x) ∷ numbered (n + 1) xs

-- ---- names

-- these are the names of the second disks of these nodes
abbrev pub AreSecondNames : (nodes : List (List ℕ)) → List (String Global) → Type 0
AreSecondNames nodes seconds = AreEach (λ node second. string_bytes second ≡ second_name node) nodes seconds

-- the name of a disk of one of the nodes with these names
abbrev pub IsOfOne : (nodes : List (List ℕ)) → List ℕ → Type 0
IsOfOne [] name = ⊥
IsOfOne (node ∷ nodes) name = IsDiskName node name ⊎ IsOfOne nodes name

-- no two of these nodes have disks of one name
abbrev pub AreApart : (nodes : List (List ℕ)) → Type 0
AreApart [] = Unit {0}
AreApart (node ∷ nodes) = ((name : List ℕ) → IsDiskName node name → ¬ IsOfOne nodes name) × AreApart nodes

-- ---- on a shelf

-- both disks of each of these nodes were taken
abbrev pub HaveBoth : {D : Type 0} → ShelfState D → (nodes : List (List ℕ)) → Type 0
HaveBoth shelf nodes = AllByRecursion (HasBoth shelf) nodes

-- The disks of these nodes were taken, and are out. No other place was made.
pub record Takes {D : Type 0} (nodes : List (List ℕ)) (old new : ShelfState D) : Type 0 where
  pub both : HaveBoth new nodes
  pub keeps : KeepsOthers (IsOfOne nodes) old new
  pub out : ReturnsBut (IsOfOne nodes) old new

-- The disks of these nodes were taken; or the call failed, and what it took was given back.
pub record TakesOrReturns {D A E : Type 0} (nodes : List (List ℕ)) (old new : ShelfState D) (result : Result A E) : Type 0 where
  pub takes : OnOk result (Takes nodes old new)
  pub keeps : KeepsOthers (IsOfOne nodes) old new
  pub returned : OnErr result (ReturnsAll old new)

-- These pairs of disks were given back, one for each of these nodes, and nothing else was done.
pub record GivesBack {D : Type 0} (nodes : List (List ℕ)) (disks : List (D × D)) (old new : ShelfState D) : Type 0 where
  pub back : AreEach (AreGivenBack old new) nodes disks
  pub keeps : KeepsOthers (IsOfOne nodes) old new
  pub places : SamePlaces old new
  pub returned : ReturnsAll old new
