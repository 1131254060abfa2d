-- The resources of a scenario that were loaded, once each wrote its boot or one didn't.
use Rattle.std.proofs.Common.{◌≡◌, ◌≢◌, ⊎_elim, inl, inr, ◌∙◌, ◌+◌, ◌++◌, ℕ, List, [], ◌∷◌, map, length, length-append, refl, ap, sym, subst, arith}
use Rattle.std.specs.List.{AllByRecursion}
use Rattle.std.proofs.lemmas.List.{length-map, map-append}
use Rattle.disk_model.specs.Disk.{DiskState}
use Rattle.disk_model.specs.Shelf.{KeepsOthers, SameUnder, ShelfState}
use Rattle.seata_types.specs.declared.errors.OpenError.{OpenError}
use Rattle.seata_types.specs.declared.errors.OpenError.TheVariants as why
use Rattle.seata_types.specs.declared.ids.Place.TheVariants as place
use Rattle.scenario_form.specs.declared.scenarios.ResourceDef.{ResourceDef}
use Rattle.scenario_form.specs.declared.scenarios.Scenario.{Scenario}
use Rattle.scenario_form.specs.Runnable.{resource_name}
use Rattle.resource_core.specs.declared.nodes.Resource.{Resource}
use Rattle.resource_core.specs.declared.opening.Loaded.{Loaded}
use Rattle.resource_core.specs.NodeOpening.{IsUp, loaded_disks}
use Rattle.node_seat.specs.Faults.{open_fault}
use Rattle.node_seat.specs.declared.faults.RunFault.{RunFault}
use Rattle.scenario_nodes.specs.Loading.{AreLoaded, WriteFirst, WritesBoot}
use Rattle.scenario_nodes.specs.Nodes.{AreNewResources, Held, IsLoadedResource, IsNewResource, name_of, resource_disks, resource_server, resource_servers}
use Rattle.scenario_nodes.specs.Opening.{IsDamageOn, IsItsFault, IsUnopened, ShowNoBoot, ShowNoEntry, ShowNoRecord, StopsStarting}
use Rattle.scenario_nodes.specs.Shelves.{AreGivenBack, HasBoth, pair_of, second_name}
use Rattle.scenario_nodes.specs.Together.{AreEach, GivesBack, HaveBoth, IsOfOne, numbered}
use Rattle.scenario_nodes.proofs.AllBack.{all_back}
use Rattle.scenario_nodes.proofs.AllLoaded.{IsLoadedAt, all_show}
use Rattle.scenario_nodes.proofs.LoadedResource.{loaded_shows, new_before, new_shows, start_counted, start_damaged, start_sized, start_unopened, started}
use Rattle.scenario_nodes.proofs.Numbered.{length_numbered, names_append, names_of, number_of}
use Rattle.scenario_nodes.proofs.Together.{IsSplit, all_behind, all_front, backs_since, each_all, each_length, each_map, each_mapped, each_parts, each_split, each_then, each_weaker}

-- the resource behind a number was opened
abbrev IsNewAt : {D : Type 0} → (D → DiskState) → ShelfState D → Scenario → ℕ × ResourceDef → Resource D → Type 0
IsNewAt state shelf s one r = IsNewResource state shelf s one.0 one.1 r

-- the disks of those that wrote their boots, of the next one, and of those that were loaded
abbrev pub all_disks : {D : Type 0} → List (Resource D) → D × D → List (Loaded D) → List (D × D)
all_disks started disks loaded = map resource_disks started ++ disks ∷ map loaded_disks loaded

-- each of them takes records
pub all_up : {D : Type 0} (state : D → DiskState) (shelf : ShelfState D) (s : Scenario) (defs : List (ℕ × ResourceDef)) (loaded : List (Loaded D)) → AreLoaded state shelf s defs loaded → AllByRecursion IsUp loaded
all_up state shelf s defs loaded each = each_all (IsLoadedAt state shelf s) IsUp defs loaded (λ one l is. is.loaded.up) each

-- opened on disks of a shelf that others were taken of before
pub all_before : {D : Type 0} (state : D → DiskState) (a b : ShelfState D) (s : Scenario) (n : ℕ) (defs : List ResourceDef) (nodes : List (Resource D)) → ((name : List ℕ) → IsOfOne (map resource_name defs) name → SameUnder name a b)
    → AreNewResources state b s (numbered n defs) nodes → AreNewResources state a s (numbered n defs) nodes
all_before state a b s n [] [] same each = tt
all_before state a b s n (def ∷ defs) (r ∷ nodes) same each =
    (new_before state a b s n def (same def.name (inl (inl refl))) (same (second_name def.name) (inl (inr refl))) r each.0, all_before state a b s (n + 1) defs nodes (λ name o. same name (inr o)) each.1)
all_before state a b s n [] (r ∷ nodes) same each = absurd each
all_before state a b s n (def ∷ defs) [] same each = absurd each

module _ {D : Type 0} (state : D → DiskState) (shelf : ShelfState D) (s : Scenario) where
  -- each is a new resource, and its disks show it
  pub all_started : (defs : List (ℕ × ResourceDef)) (loaded : List (Loaded D)) (nodes : List (Resource D)) → AreLoaded state shelf s defs loaded → AreEach (WritesBoot state) loaded nodes → AreNewResources state shelf s defs nodes
  all_started defs loaded nodes each boots =
      each_then (IsLoadedAt state shelf s) (WritesBoot state) (IsNewAt state shelf s) defs loaded nodes (λ one l r is boot. started state shelf s one.0 one.1 l is r boot) each boots

  nodes_show : (held : Held) (defs : List (ℕ × ResourceDef)) (nodes : List (Resource D)) → AreNewResources state shelf s defs nodes
      → AreEach (ShowNoEntry state s shelf) (map (resource_server s held) defs) (map resource_disks nodes)
  nodes_show held defs nodes each =
      each_mapped (ShowNoEntry state s shelf) (resource_server s held) defs (map resource_disks nodes)
      (each_map (λ (one : ℕ × ResourceDef) (d : D × D). ShowNoEntry state s shelf (resource_server s held one) d) resource_disks defs nodes
      (each_weaker (IsNewAt state shelf s) (λ (one : ℕ × ResourceDef) (r : Resource D). ShowNoEntry state s shelf (resource_server s held one) (resource_disks r)) defs nodes
      (λ one r is. new_shows state shelf s one.0 one.1 held r is) each))

  -- one didn't write its boot, and all were closed
  module _ (loaded left : List (Loaded D)) (nodes : List (Resource D)) (failed : OpenError × D × D) (each : AreLoaded state shelf s (numbered 1 s.resources) loaded) (w : WriteFirst state loaded left nodes failed) where
    abbrev parts : IsSplit (IsLoadedAt state shelf s) (numbered 1 s.resources) w.before w.next left
    parts = each_split (IsLoadedAt state shelf s) (numbered 1 s.resources) w.before w.next left (subst (AreLoaded state shelf s (numbered 1 s.resources)) w.all each)

    names_split : (held : Held) → names_of s held (numbered 1 s.resources) ≡ names_of s held parts.before ++ parts.at.1.name ∷ names_of s held parts.behind
    names_split held = ap (names_of s held) parts.all ∙ names_append s held parts.before (parts.at ∷ parts.behind)

    fresh : AreNewResources state shelf s parts.before nodes
    fresh = all_started parts.before w.before nodes parts.front w.each

    count : length parts.before ≡ length nodes
    count = each_length (IsNewAt state shelf s) parts.before nodes fresh

    number_is : parts.at.0 ≡ length nodes + 1
    number_is =
        let number = number_of 1 s.resources parts.before parts.at parts.behind parts.all in
        let same = count in
        omega (arith, number, same)

    -- as many as there are definitions
    pub all_counted : length nodes + 1 + length left ≡ length s.resources
    all_counted =
        let same = count in
        let behind = each_length (IsLoadedAt state shelf s) parts.behind left parts.rest in
        let all = ap length parts.all in
        let sum = length-append parts.before (parts.at ∷ parts.behind) in
        let numbers = length_numbered 1 s.resources in
        omega (arith, same, behind, all, sum, numbers)

    -- the one that failed has no boot, unless its disks failed at it
    unbooted : (held : Held) (n : ℕ) (def : ResourceDef) → IsLoadedResource state shelf s n def w.next → (told : RunFault) → told ≡ open_fault (place.Res n) failed.0 → ShowNoBoot state s shelf told (resource_server s held (n, def)) (failed.1, failed.2)
    unbooted held n def here told is = subst (λ (f : RunFault). ShowNoBoot state s shelf f (resource_server s held (n, def)) (failed.1, failed.2)) (sym is) (by failed.0 refl)
      where
        same : failed.0 ≢ why.Failed → ShowNoRecord state s shelf (resource_server s held (n, def)) (failed.1, failed.2)
        same other =
            ⊎_elim (λ (f : failed.0 ≡ why.Failed). absurd (other f))
            (λ (kept : (failed.1 ≡ (loaded_disks w.next).0) × (failed.2 ≡ (loaded_disks w.next).1)).
            subst (λ (a : D). ShowNoRecord state s shelf (resource_server s held (n, def)) (a, failed.2)) (sym kept.0)
            (subst (λ (b : D). ShowNoRecord state s shelf (resource_server s held (n, def)) ((loaded_disks w.next).0, b)) (sym kept.1) (loaded_shows state shelf s n def w.next here held))) w.unwritten

        by : (e : OpenError) → failed.0 ≡ e → ShowNoBoot state s shelf (open_fault (place.Res n) e) (resource_server s held (n, def)) (failed.1, failed.2)
        by why.Failed is = tt
        by (why.Damaged second at) is = same (λ no. absurd (let other : why.Damaged second at ≡ why.Failed = sym is ∙ no in cc))
        by (why.Full full) is = same (λ no. absurd (let other : why.Full full ≡ why.Failed = sym is ∙ no in cc))
        by why.NoMemory is = same (λ no. absurd (let other : why.NoMemory ≡ why.Failed = sym is ∙ no in cc))

    pub starting_stops : (held : Held) (Took : List ℕ → Type 0) (mid new : ShelfState D) (told : RunFault) → told ≡ open_fault (place.Res (length nodes + 1)) failed.0 → KeepsOthers Took shelf mid
        → HaveBoth new (names_of s held (numbered 1 s.resources)) → GivesBack (names_of s held (numbered 1 s.resources)) (all_disks nodes (failed.1, failed.2) left) mid new
        → StopsStarting state s (resource_servers s held) shelf new told
    starting_stops held Took mid new told is took taken gives =
        let same = count in
        let names_count = length-map (map (resource_server s held) parts.before) name_of in
        let servers_count = length-map parts.before (resource_server s held) in
        let disks_count = length-map nodes (resource_disks {D = D}) in
        let all_taken = subst (HaveBoth new) (names_split held) taken in
        let later = all_behind (HasBoth new) (names_of s held parts.before) (parts.at.1.name ∷ names_of s held parts.behind) all_taken in
        let given = backs_since (names_of s held (numbered 1 s.resources)) (all_disks nodes (failed.1, failed.2) left) Took shelf mid new took gives.back in
        let backs = each_parts (AreGivenBack shelf new) (names_of s held parts.before) (parts.at.1.name ∷ names_of s held parts.behind) (map resource_disks nodes) ((failed.1, failed.2) ∷ map loaded_disks left)
        (omega (arith, same, names_count, servers_count, disks_count))
        (subst (λ (names : List (List ℕ)). AreEach (AreGivenBack shelf new) names (all_disks nodes (failed.1, failed.2) left)) (names_split held) given) in
        let fault : told ≡ open_fault (place.Res parts.at.0) failed.0 = is ∙ ap (λ (n : ℕ). open_fault (place.Res n) failed.0) (sym number_is) in
        let v = resource_server s held parts.at in
        record {
          before = map (resource_server s held) parts.before;
          server = v;
          behind = map (resource_server s held) parts.behind;
          all = ap (map (resource_server s held)) parts.all ∙ map-append (resource_server s held) parts.before (parts.at ∷ parts.behind);
          started = all_back (ShowNoEntry state s shelf) (map (resource_server s held) parts.before) (map resource_disks nodes) shelf new
              (all_front (HasBoth new) (names_of s held parts.before) (parts.at.1.name ∷ names_of s held parts.behind) all_taken) backs.0 (nodes_show held parts.before nodes fresh);
          refused = record {
            disks = (failed.1, failed.2);
            taken = later.0;
            back = backs.1.0;
            sized = start_sized state shelf s parts.at.0 parts.at.1 w.next parts.here failed w.fails;
            blames = subst (λ (f : RunFault). IsItsFault (place.Res parts.at.0) (pair_of state (failed.1, failed.2)) f) (sym fault)
                (start_counted state shelf s parts.at.0 parts.at.1 w.next parts.here failed w.fails);
            damaged = subst (λ (f : RunFault). IsDamageOn state shelf s v f) (sym fault) (start_damaged state shelf s parts.at.0 parts.at.1 w.next parts.here failed w.fails held);
            unopened = λ holds. subst (λ (f : RunFault). IsUnopened v s.disk (pair_of state (failed.1, failed.2)) f) (sym fault)
                (start_unopened state shelf s parts.at.0 parts.at.1 w.next parts.here failed w.fails held holds);
          };
          unbooted = unbooted held parts.at.0 parts.at.1 parts.here told fault;
          unwritten = all_back (ShowNoRecord state s shelf) (map (resource_server s held) parts.behind) (map loaded_disks left) shelf new later.1 backs.1.1 (all_show state shelf s held parts.behind left parts.rest);
        }
