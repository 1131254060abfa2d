-- The resources of a scenario, loaded one by one.
use Rattle.std.proofs.Common.{◌≡◌, ◌∙◌, inl, inr, refl, ◌+◌, ◌++◌, ℕ, List, [], ◌∷◌, drop, take, map, length, slice_get, Some, Err, ap, sym, subst, take_all, arith}
use Rattle.std.proofs.lemmas.List.{map-append}
use Rattle.disk_model.specs.Disk.{DiskState}
use Rattle.disk_model.specs.Shelf.{KeepsOthers, SameUnder, ShelfState}
use Rattle.scenario_form.specs.declared.scenarios.ResourceDef.{ResourceDef}
use Rattle.scenario_form.specs.declared.scenarios.Scenario.{Scenario}
use Rattle.scenario_form.specs.Runnable.{resource_name}
use Rattle.resource_core.specs.declared.opening.Loaded.{Loaded}
use Rattle.resource_core.specs.NodeOpening.{loaded_disks}
use Rattle.node_seat.specs.declared.faults.RunFault.{RunFault}
use Rattle.scenario_nodes.specs.Loading.{AreLoaded}
use Rattle.scenario_nodes.specs.Nodes.{Held, IsLoadedResource, Server, resource_server, resource_servers}
use Rattle.scenario_nodes.specs.Opening.{IsNotLoaded, ShowNoRecord, StopsLoading}
use Rattle.scenario_nodes.specs.Shelves.{IsDiskName, ReturnsAll, second_name}
use Rattle.scenario_nodes.specs.Together.{AreApart, AreEach, GivesBack, IsOfOne, Takes, TakesOrReturns, numbered}
use Rattle.scenario_nodes.proofs.AllBack.{first_stops, loading_behind}
use Rattle.scenario_nodes.proofs.Cut.{names_around, names_before, names_behind, names_up_to, numbered_around, numbered_up_to, of_before, of_it}
use Rattle.scenario_nodes.proofs.LoadedResource.{loaded_before, loaded_shows}
use Rattle.scenario_nodes.proofs.Numbered.{names_append, names_numbered, names_of}
use Rattle.scenario_nodes.proofs.Returned.{keeps_then}
use Rattle.scenario_nodes.proofs.Together.{apart_behind, apart_between, each_append, each_map, each_mapped, each_weaker, returned_all, takes_none, takes_then}

-- the resource behind a number was loaded
abbrev pub IsLoadedAt : {D : Type 0} → (D → DiskState) → ShelfState D → Scenario → ℕ × ResourceDef → Loaded D → Type 0
IsLoadedAt state shelf s one l = IsLoadedResource state shelf s one.0 one.1 l

-- what their disks show
pub all_show : {D : Type 0} (state : D → DiskState) (shelf : ShelfState D) (s : Scenario) (held : Held) (defs : List (ℕ × ResourceDef)) (loaded : List (Loaded D)) → AreLoaded state shelf s defs loaded
    → AreEach (ShowNoRecord state s shelf) (map (resource_server s held) defs) (map loaded_disks loaded)
all_show {D} state shelf s held defs loaded each =
    each_mapped (ShowNoRecord state s shelf) (resource_server s held) defs (map loaded_disks loaded)
    (each_map (λ (one : ℕ × ResourceDef) (d : D × D). ShowNoRecord state s shelf (resource_server s held one) d) loaded_disks defs loaded
    (each_weaker (IsLoadedAt state shelf s) (λ (one : ℕ × ResourceDef) (l : Loaded D). ShowNoRecord state s shelf (resource_server s held one) (loaded_disks l)) defs loaded
    (λ one l is. loaded_shows state shelf s one.0 one.1 l is held) each))

-- so many of the first ones were loaded
pub record AreLoading {D : Type 0} (state : D → DiskState) (s : Scenario) (old now : ShelfState D) (k : ℕ) (loaded : List (Loaded D)) : Type 0 where
  pub each : AreLoaded state old s (numbered 1 (take k s.resources)) loaded
  pub takes : Takes (names_before s.resources k) old now

pub loading_none : {D : Type 0} (state : D → DiskState) (s : Scenario) (a : ShelfState D) (loaded : List (Loaded D)) → loaded ≡ [] → AreLoading state s a a 0 loaded
loading_none state s a loaded none = subst (AreLoading state s a a 0) (sym none) (record { each = tt; takes = takes_none a })

module _ {D : Type 0} (state : D → DiskState) (s : Scenario) (old now : ShelfState D) (k : ℕ) (loaded : List (Loaded D)) (a : AreLoading state s old now k loaded) where
  pub loading_all : k ≡ length s.resources → AreLoaded state old s (numbered 1 s.resources) loaded × Takes (map resource_name s.resources) old now
  loading_all end =
      let whole : take k s.resources ≡ s.resources = take_all k s.resources (omega (arith, end)) in (
        subst (λ (ds : List ResourceDef). AreLoaded state old s (numbered 1 ds) loaded) whole a.each,
        subst (λ (ds : List ResourceDef). Takes (map resource_name ds) old now) whole a.takes,
      )

  module _ (def : ResourceDef) (here : slice_get s.resources k ≡ Some def) (apart : AreApart (map resource_name s.resources)) where
    -- under its names the shelf was the same before the first ones were taken
    same_before : (n : List ℕ) → IsDiskName def.name n → SameUnder n old now
    same_before n named =
        a.takes.keeps.others n
        (λ theirs. apart_between (names_before s.resources k) (def.name ∷ names_behind s.resources k) (subst AreApart (names_around s.resources k def here) apart) n theirs (inl named))

    pub loading_next : (new : ShelfState D) (l : Loaded D) (more : List (Loaded D)) → more ≡ loaded ++ l ∷ [] → IsLoadedResource state now s (k + 1) def l → Takes (def.name ∷ []) now new
        → AreLoading state s old new (k + 1) more
    loading_next new l more same is takes = subst (AreLoading state s old new (k + 1)) (sym same) (record {
      each = subst (λ (ds : List (ℕ × ResourceDef)). AreLoaded state old s ds (loaded ++ l ∷ [])) (sym (numbered_up_to s.resources k def here))
          (each_append (IsLoadedAt state old s) (numbered 1 (take k s.resources)) ((k + 1, def) ∷ []) loaded (l ∷ []) a.each
          (loaded_before state old now s (k + 1) def (same_before def.name (inl refl)) (same_before (second_name def.name) (inr refl)) l is, tt));
      takes = subst (λ (names : List (List ℕ)). Takes names old new) (sym (names_up_to s.resources k def here)) (takes_then (names_before s.resources k) (def.name ∷ []) old now new a.takes takes);
    })

    -- the next one wasn't, and those before it were closed
    module _ (mid new : ShelfState D) (missed : RunFault) (keeps : KeepsOthers (IsDiskName def.name) now mid) (gives : GivesBack (names_before s.resources k) (map loaded_disks loaded) mid new) where
      abbrev first : List (ℕ × ResourceDef)
      first = numbered 1 (take k s.resources)

      abbrev left : List (ℕ × ResourceDef)
      left = numbered (k + 1 + 1) (drop (k + 1) s.resources)

      module _ (held : Held) (refused : IsNotLoaded state s now mid (resource_server s held (k + 1, def)) missed) where
        named : names_of s held first ≡ names_before s.resources k
        named = names_numbered s held 1 (take k s.resources)

        around : resource_servers s held ≡ map (resource_server s held) first ++ resource_server s held (k + 1, def) ∷ map (resource_server s held) left
        around = ap (map (resource_server s held)) (numbered_around s.resources k def here) ∙ map-append (resource_server s held) first ((k + 1, def) ∷ left)

        apart_around : AreApart (names_of s held first ++ def.name ∷ names_of s held left)
        apart_around =
            subst AreApart (ap (names_of s held) (numbered_around s.resources k def here) ∙ names_append s held first ((k + 1, def) ∷ left))
            (subst AreApart (sym (names_numbered s held 1 s.resources)) apart)

        pub loading_stops : StopsLoading state s (resource_servers s held) old new missed
        loading_stops =
            subst (λ (vs : List Server). StopsLoading state s vs old new missed) (sym around)
            (loading_behind state s (map (resource_server s held) first) (resource_server s held (k + 1, def) ∷ map (resource_server s held) left) (map loaded_disks loaded) old now mid new (IsDiskName def.name) missed
            apart_around (subst (λ (names : List (List ℕ)). Takes names old now) (sym named) a.takes) keeps
            (subst (λ (names : List (List ℕ)). GivesBack names (map loaded_disks loaded) mid new) (sym named) gives) (all_show state old s held first loaded a.each)
            (first_stops state s now mid (resource_server s held (k + 1, def)) (map (resource_server s held) left) missed (apart_behind (names_of s held first) (def.name ∷ names_of s held left) apart_around) keeps refused))

      pub loading_returned : {A E : Type 0} (e : E) → ReturnsAll now mid → TakesOrReturns {D = D} {A = A} {E = E} (map resource_name s.resources) old new (Err e)
      loading_returned e between =
          let names = map resource_name s.resources in
          let front = names_before s.resources k in
          let in_front = of_before s.resources k def here in record {
            takes = tt;
            keeps = keeps_then (IsOfOne front) (IsOfOne names) (IsOfOne names) old now new in_front (λ n its. its) a.takes.keeps
                (keeps_then (IsDiskName def.name) (IsOfOne front) (IsOfOne names) now mid new (of_it s.resources k def here) in_front keeps gives.keeps);
            returned = returned_all front (map loaded_disks loaded) old now mid new a.takes keeps.tells between gives;
          }
