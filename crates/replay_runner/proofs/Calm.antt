-- How a replay or a run ends where neither the shelf nor a disk fails.
use Rattle.std.proofs.Common.{inl, inr, ⊎_elim, IsTrue, ◌≡◌, ◌++◌, ℕ, zero, suc, Bool, List, [], ◌∷◌, map, Result, Ok, Err, refl, subst, arith}
use Rattle.std.specs.List.{AllByRecursion}
use Rattle.disk_model.specs.Disk.{DiskState}
use Rattle.disk_model.specs.Shelf.{ShelfState}
use Rattle.seata_types.specs.declared.ids.Place.{Place}
use Rattle.seata_types.specs.declared.ids.Place.TheVariants as place
use Rattle.scenario_form.specs.declared.scenarios.Scenario.{Scenario}
use Rattle.history_text.specs.declared.entries.Entry.{Entry}
use Rattle.node_steps.specs.Durable.{own_faults}
use Rattle.node_steps.specs.Nodes.{place_of}
use Rattle.node_seat.specs.declared.faults.RunFault.{RunFault}
use Rattle.node_seat.specs.declared.faults.RunFault.TheVariants as fault
use Rattle.scenario_nodes.specs.Nodes.{Held, HoldAll, Holds, Server, server_names, servers_of}
use Rattle.scenario_nodes.specs.Opening.{AreNotOpened, IsItsFault}
use Rattle.scenario_nodes.specs.Shelves.{AreGivenBack, IsDiskName, pair_of, second_name}
use Rattle.scenario_nodes.specs.Together.{AreEach, IsOfOne}
use Rattle.scenario_nodes.proofs.Returned.{still}
use Rattle.scenario_nodes.proofs.Together.{all_behind}
use Rattle.journal_checkpoint.specs.Images.{Pair}
use Rattle.replay_runner.specs.Leaving.{AreAllBack, CountsFailure, IsCalmEnd, IsCalmShelf, IsServerDisk, Leaves, Showing, UsesShelf, disks_in, nth_pair}
use Rattle.replay_runner.proofs.Servers.{of_server}

module _ {D : Type 0} (state : D → DiskState) (s : Scenario) (old new : ShelfState D) (calm : IsCalmShelf state s old new) (told : IsTrue new.tells) where
  -- the disks of one node
  none_counted : (name : List ℕ) (d : D × D) → ((n : List ℕ) → IsDiskName name n → IsServerDisk s n) → AreGivenBack old new name d → own_faults (pair_of state d) ≡ 0
  none_counted name d its given =
      let one = calm.disks name d.0 (its name (inl refl)) (given.first.back.given told) in
      let two = calm.disks (second_name name) d.1 (its (second_name name) (inr refl)) (given.second.back.given told) in
      omega (arith, one, two)

  -- those of all
  none_of : (names : List (List ℕ)) (disks : List (D × D)) → ((n : List ℕ) → IsOfOne names n → IsServerDisk s n) → AreEach (AreGivenBack old new) names disks → (k : ℕ) → own_faults (nth_pair (map (pair_of state) disks) k) ≡ 0
  none_of [] [] its back k = refl
  none_of (x ∷ xs) (d ∷ ds) its back zero = none_counted x d (λ n named. its n (inl named)) back.0
  none_of (x ∷ xs) (d ∷ ds) its back (suc k) = none_of xs ds (λ n o. its n (inr o)) back.1 k
  none_of [] (d ∷ ds) its back k = absurd back
  none_of (x ∷ xs) [] its back k = absurd back

  none_at : (disks : List (D × D)) → AreAllBack old new s disks → (p : Place) → own_faults (disks_in (map (pair_of state) disks) p) ≡ 0
  none_at disks back place.Net = refl
  none_at disks back place.Tc = none_of (server_names s) disks (λ n o. o) back 0
  none_at disks back (place.Res k) = none_of (server_names s) disks (λ n o. o) back k
  none_at disks back (place.Man k) = refl

  -- no disk failed while the nodes went on
  not_played : (disks : List (D × D)) → AreAllBack old new s disks → (q : Place) → CountsFailure (map (pair_of state) disks) (Err (fault.Store q)) → ⊥
  not_played disks back q counted = let none = none_at disks back q in omega (arith, counted, none)

  -- nor while the nodes were opened
  not_counted : (held : Held) (before behind : List Server) (v : Server) → servers_of s held ≡ before ++ v ∷ behind → (d : D × D) → AreGivenBack old new v.name d → (at q : Place) → IsItsFault at (pair_of state d) (fault.Store q) → ⊥
  not_counted held before behind v all d back at q counted = let none = none_counted v.name d (of_server s held before behind v all) back in let some = counted.1 in omega (arith, some, none)

  not_opened : (held : Held) (q : Place) → AreNotOpened state s (servers_of s held) old new (fault.Store q) → ⊥
  not_opened held q (inl t) =
      ⊎_elim (λ n. calm.shelf n.cause.1) (λ b. not_counted held t.before t.behind t.server t.all b.disks b.back (place_of t.server.role) q b.shows.blames) t.refused
  not_opened held q (inr t) = not_counted held t.before t.behind t.server t.all t.refused.disks t.refused.back (place_of t.server.role) q t.refused.blames

-- disks that hold records are not damaged, and of no other scenario
module _ {D : Type 0} (state : D → DiskState) (s : Scenario) (held : Held) (old new : ShelfState D) (holds : HoldAll state old s held) where
  -- those of one of the nodes
  holds_at : (before behind servers : List Server) (v : Server) → servers ≡ before ++ v ∷ behind → AllByRecursion (Holds state old s) servers → Holds state old s v
  holds_at before behind servers v is each = (all_behind (Holds state old s) before (v ∷ behind) (subst (AllByRecursion (Holds state old s)) is each)).0

  not_damaged : (q : Place) (second : Bool) (offset : ℕ) → AreNotOpened state s (servers_of s held) old new (fault.Damaged q second offset) → ⊥
  not_damaged q second offset (inl t) = ⊎_elim (λ n. n.cause) (λ b. b.shows.cause (holds_at t.before t.behind (servers_of s held) t.server t.all holds)) t.refused
  not_damaged q second offset (inr t) = (t.refused.unopened (holds_at t.before t.behind (servers_of s held) t.server t.all holds)).cause

  not_other : AreNotOpened state s (servers_of s held) old new fault.Other → ⊥
  not_other (inl t) = ⊎_elim (λ n. n.cause) (λ b. b.shows.cause (holds_at t.before t.behind (servers_of s held) t.server t.all holds)) t.refused
  not_other (inr t) = (t.refused.unopened (holds_at t.before t.behind (servers_of s held) t.server t.all holds)).cause

-- what disks show once the nodes went on isn't damage, nor another scenario
pub record NeverDamaged (Shows : Showing) : Type 1 where
  pub damaged : (disks : List Pair) (q : Place) (second : Bool) (offset : ℕ) → Shows disks (Err (fault.Damaged q second offset)) → ⊥
  pub other : (disks : List Pair) → Shows disks (Err fault.Other) → ⊥

module _ {D : Type 0} (Shows : Held → Showing) (state : D → DiskState) (s : Scenario) (old new : ShelfState D) (held : Held) (never : NeverDamaged (Shows held)) (holds : HoldAll state old s held) where
  pub ends_calmly : (result : Result (List Entry) RunFault) → new.tells ≡ old.tells → UsesShelf Shows state old new s result → IsCalmShelf state s old new → IsCalmEnd result
  ends_calmly (Ok es) same r calm = tt
  ends_calmly (Err (fault.Full q full)) same r calm = tt
  ends_calmly (Err fault.NoMemory) same r calm = tt
  ends_calmly (Err (fault.Store q)) same (inl g) calm = not_played state s old new calm (still old.tells new.tells same calm.tells) g.disks g.back q g.counted
  ends_calmly (Err (fault.Store q)) same (inr t) calm = not_opened state s old new calm (still old.tells new.tells same calm.tells) held q (t held)
  ends_calmly (Err (fault.Damaged q second offset)) same (inl g) calm = never.damaged (map (pair_of state) g.disks) q second offset (g.leaves held holds)
  ends_calmly (Err (fault.Damaged q second offset)) same (inr t) calm = not_damaged state s held old new holds q second offset (t held)
  ends_calmly (Err fault.Other) same (inl g) calm = never.other (map (pair_of state) g.disks) (g.leaves held holds)
  ends_calmly (Err fault.Other) same (inr t) calm = not_other state s held old new holds (t held)

-- so of a replay
pub never_damaged : (s : Scenario) (held : Held) → NeverDamaged (Leaves s held)
never_damaged s held = record { damaged = λ disks q second offset b. b.cause.blames; other = λ disks b. b.cause.blames }
