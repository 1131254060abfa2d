-- Nodes of a scenario by their numbers, with what their seats are made of, and the seats.
use Rattle.std.proofs.Common.{◌≡◌, ◌+◌, ◌<◌, ◌≤◌, ℕ, zero, suc, Bool, true, false, List, [], ◌∷◌, ◌++◌, drop, length, slice_get, Option, Some, None, refl, ap, sym, subst, ◌∙◌, arith, length-append}
use Rattle.std.proofs.lemmas.Option.{same_Some}
use Rattle.disk_model.specs.Disk.{DiskState}
use Rattle.disk_model.specs.Shelf.{ShelfState}
use Rattle.seata_types.specs.declared.ids.Place.{Place}
use Rattle.seata_types.specs.declared.ids.Place.TheVariants as place
use Rattle.scenario_form.specs.declared.scenarios.ManagerDef.{ManagerDef}
use Rattle.scenario_form.specs.declared.scenarios.ResourceDef.{ResourceDef}
use Rattle.scenario_form.specs.declared.scenarios.Scenario.{Scenario}
use Rattle.scenario_form.specs.Runnable.{IsRunnable}
use Rattle.history_rules.specs.Nodes.{World, Past}
use Rattle.node_steps.specs.Ends.{Starts}
use Rattle.node_steps.specs.Nodes.{NodeState}
use Rattle.node_seat.specs.Naming.{Run}
use Rattle.node_seat.specs.Seating.{Seated}
use Rattle.coordinator_core.specs.declared.nodes.Coordinator.{Coordinator}
use Rattle.coordinator_core.specs.Standing as coordinator
use Rattle.resource_core.specs.declared.nodes.Resource.{Resource}
use Rattle.resource_core.specs.NodeStanding as resource
use Rattle.manager_core.specs.declared.nodes.Manager.{Manager}
use Rattle.manager_core.specs.Standing as manager
use Rattle.scenario_nodes.specs.Nodes.{AreNewResources, IsNewManager, IsNewResource}
use Rattle.scenario_nodes.specs.Together.{AreEach, numbered}
use Rattle.scenario_nodes.proofs.Together.{each_length}
use Rattle.replay_runner.proofs.Lists.{drop_first, drop_next}
use Rattle.replay_runner.proofs.NewNodes.{length_numbered}
use Rattle.run_rounds.specs.Seating.{place_in}
use Rattle.run_rounds.specs.declared.seats.Seats.{Seats}
use Rattle.thread_runner.specs.Ready.{AreSeats}
use Rattle.thread_runner.specs.Seats.{AreNewManagers, AreOutfits, ArePut, EachHas, IsNamedFor, IsOutfitAt, IsPutAt, KnowsDisks, MaySit, numbered_place}
use Rattle.thread_runner.specs.declared.outfits.Outfit.{Outfit}
use Rattle.thread_runner.proofs.Sitting.{manager_at, manager_sits, resource_sits}

-- ---- lists of items by their numbers

pub has_more : {A : Type 0} (P : ℕ → A → Type 0) (xs : List A) (x : A) → EachHas P xs → P (length xs) x → EachHas P (xs ++ x ∷ [])
has_more P [] x each last zero y e = subst (P 0) (same_Some x y e) last
has_more P [] x each last (suc k) y e = absurd (let no : None ≡ Some y = e in cc)
has_more P (z ∷ xs) x each last zero y e = each 0 y e
has_more P (z ∷ xs) x each last (suc k) y e = has_more (λ j. P (suc j)) xs x (λ j a at. each (suc j) a at) last k y e

-- what is made of the items of a list one after the other, and those that are left
pub record IsMaking {A B : Type 0} (P : ℕ → B → Type 0) (all : List A) (made : List B) (left : List A) : Type 0 where
  pub left_is : drop (length made) all ≡ left
  pub count : length made + length left ≡ length all
  pub each : EachHas P made

module _ {A B : Type 0} (P : ℕ → B → Type 0) (all : List A) where
  pub making_none : (made : List B) (left : List A) → made ≡ [] → left ≡ all → IsMaking P all made left
  making_none made left none whole =
      subst (λ (ms : List B). IsMaking P all ms left) (sym none) (subst (IsMaking P all []) (sym whole) (record { left_is = refl; count = omega arith; each = λ k b e. absurd (let no : None ≡ Some b = e in cc) }))

  pub making_at : (made : List B) (left rest : List A) (x : A) → IsMaking P all made left → left ≡ x ∷ rest → slice_get all (length made) ≡ Some x
  making_at made left rest x m next = drop_first all (length made) x rest (m.left_is ∙ next)

  pub making_below : (made : List B) (left rest : List A) (x : A) → IsMaking P all made left → left ≡ x ∷ rest → length made < length all
  making_below made left rest x m next = let size = m.count in let one = ap length next in omega (arith, size, one)

  pub making_more : (made more : List B) (left rest : List A) (x : A) (y : B) → IsMaking P all made left → left ≡ x ∷ rest → more ≡ made ++ y ∷ [] → P (length made) y → IsMaking P all more rest
  making_more made more left rest x y m next is holds =
      subst (λ (ms : List B). IsMaking P all ms rest) (sym is) (record {
        left_is = ap (λ n. drop n all) (length-append made (y ∷ [])) ∙ drop_next all (length made) x rest (m.left_is ∙ next);
        count = let size = m.count in let one = ap length next in let more = length-append made (y ∷ []) in omega (arith, size, one, more);
        each = has_more P made y m.each holds;
      })

  pub making_done : (made : List B) (left : List A) → IsMaking P all made left → left ≡ [] → length made ≡ length all
  making_done made left m none = let size = m.count in let empty = ap length none in omega (arith, size, empty)

-- ---- two lists by the numbers of a third

pub numbered_each : {A B C : Type 0} (P : ℕ → A → B → Type 0) (R : B → C → Type 0) (n : ℕ) (xs : List A) (ys : List B) (zs : List C) → length zs ≡ length xs
    → AreEach (λ (one : ℕ × A) y. P one.0 one.1 y) (numbered n xs) ys → ((k : ℕ) (x : A) (y : B) (z : C) → slice_get xs k ≡ Some x → P (n + k) x y → slice_get zs k ≡ Some z → R y z) → AreEach R ys zs
numbered_each P R n [] [] [] size each both = tt
numbered_each P R n [] [] (z ∷ zs) size each both = absurd (omega (arith, size))
numbered_each P R n [] (y ∷ ys) zs size each both = absurd each
numbered_each P R n (x ∷ xs) [] zs size each both = absurd each
numbered_each P R n (x ∷ xs) (y ∷ ys) [] size each both = absurd (omega (arith, size))
numbered_each P R n (x ∷ xs) (y ∷ ys) (z ∷ zs) size each both = (
  both 0 x y z refl (subst (λ j. P j x y) (let same : n ≡ n + 0 = omega arith in same) each.0) refl,
  numbered_each P R (n + 1) xs ys zs (omega (arith, size)) each.1
      (λ k a b c e is there. both (suc k) a b c e (subst (λ j. P j a b) (let same : n + 1 + k ≡ n + suc k = omega arith in same) is) there),
)

pub numbered_get : {A B : Type 0} (P : ℕ → A → B → Type 0) (n : ℕ) (xs : List A) (ys : List B) → AreEach (λ (one : ℕ × A) y. P one.0 one.1 y) (numbered n xs) ys → (k : ℕ) (y : B)
    → slice_get ys k ≡ Some y → (x : A) × (slice_get xs k ≡ Some x) × P (n + k) x y
numbered_get P n [] [] each k y e = absurd (let no : None ≡ Some y = e in cc)
numbered_get P n [] (z ∷ ys) each k y e = absurd each
numbered_get P n (x ∷ xs) [] each k y e = absurd each
numbered_get P n (x ∷ xs) (z ∷ ys) each zero y e =
    (x, refl, subst (P (n + 0) x) (same_Some z y e) (subst (λ j. P j x z) (let same : n ≡ n + 0 = omega arith in same) each.0))
numbered_get P n (x ∷ xs) (z ∷ ys) each (suc k) y e =
    let (a, there, is) = numbered_get P (n + 1) xs ys each.1 k y e in
    (a, there, subst (λ j. P j a y) (let same : n + 1 + k ≡ n + suc k = omega arith in same) is)

each_get : {A B : Type 0} (P : A → B → Type 0) (xs : List A) (ys : List B) → AreEach P xs ys → (k : ℕ) (y : B) → slice_get ys k ≡ Some y → (x : A) × (slice_get xs k ≡ Some x) × P x y
each_get P [] [] each k y e = absurd (let no : None ≡ Some y = e in cc)
each_get P [] (z ∷ ys) each k y e = absurd each
each_get P (x ∷ xs) [] each k y e = absurd each
each_get P (x ∷ xs) (z ∷ ys) each zero y e = (x, refl, subst (P x) (same_Some z y e) each.0)
each_get P (x ∷ xs) (z ∷ ys) each (suc k) y e = each_get P xs ys each.1 k y e

-- ---- seats

pub are_put : {N : Type 0} (state : N → NodeState) (managers : Bool) (count : ℕ) (nodes : List N) (seats : List (Option (Seated N)))
    → AreEach (λ node. IsPutAt state (state node).place) nodes seats → length nodes ≡ count
    → ((k : ℕ) (node : N) → slice_get nodes k ≡ Some node → (state node).place ≡ numbered_place managers (k + 1)) → ArePut state managers count seats
are_put state managers count nodes seats each size places = record {
  count = sym (each_length (λ node. IsPutAt state (state node).place) nodes seats each) ∙ size;
  each = λ k seat e.
      let (node, there, is) = each_get (λ node. IsPutAt state (state node).place) nodes seats each k seat e in
      is ∙ ap Some (places k node there);
}

-- ---- the resources and the managers of a scenario

one_more : (k : ℕ) → 1 + k ≡ k + 1
one_more k = omega arith

module _ (world : World) (held : Past → Starts → Type 0) (run : Run) (s : Scenario) (named : IsNamedFor world run s) where
  pub resources_sit : {D : Type 0} (state : D → DiskState) (shelf : ShelfState D) (knows : KnowsDisks state shelf s held run) (rs : List (Resource D)) (os : List Outfit) → AreNewResources state shelf s (numbered 1 s.resources) rs
      → AreOutfits s run.queue false (length s.resources) os → AreEach (λ r. MaySit world held run (resource.node_state state r)) rs os
  resources_sit state shelf knows rs os new outfits =
      numbered_each (λ n def r. IsNewResource state shelf s n def r) (λ r. MaySit world held run (resource.node_state state r)) 1 s.resources rs os outfits.count new
      (λ k def r o there is at. resource_sits world held run s named state shelf knows k def there r (subst (λ j. IsNewResource state shelf s j def r) (one_more k) is) o (outfits.each k o at))

  pub managers_sit : IsRunnable s → (ms : List Manager) (os : List Outfit) → AreNewManagers s ms → AreOutfits s run.queue true (length s.managers) os
      → AreEach (λ m. MaySit world held run (manager.node_state m)) ms os
  managers_sit runs ms os new outfits =
      numbered_each (λ n def m. IsNewManager s n def m) (λ m. MaySit world held run (manager.node_state m)) 1 s.managers ms os outfits.count new
      (λ k def m o there is at. manager_sits world held run s named runs k def there m (subst (λ j. IsNewManager s j def m) (one_more k) is) o (outfits.each k o at))

pub resource_places : {D : Type 0} (state : D → DiskState) (shelf : ShelfState D) (s : Scenario) (rs : List (Resource D)) → AreNewResources state shelf s (numbered 1 s.resources) rs
    → (k : ℕ) (r : Resource D) → slice_get rs k ≡ Some r → (resource.node_state state r).place ≡ numbered_place false (k + 1)
resource_places state shelf s rs new k r e =
    let (def, there, is) = numbered_get (λ n def r. IsNewResource state shelf s n def r) 1 s.resources rs new k r e in
    is.at ∙ ap place.Res (one_more k)

pub manager_places : (s : Scenario) (ms : List Manager) → AreNewManagers s ms → (k : ℕ) (m : Manager) → slice_get ms k ≡ Some m → (manager.node_state m).place ≡ numbered_place true (k + 1)
manager_places s ms new k m e =
    let (def, there, is) = numbered_get (λ n def m. IsNewManager s n def m) 1 s.managers ms new k m e in
    manager_at s (1 + k) def m is ∙ ap place.Man (one_more k)

pub resources_counted : {D : Type 0} (state : D → DiskState) (shelf : ShelfState D) (s : Scenario) (rs : List (Resource D)) → AreNewResources state shelf s (numbered 1 s.resources) rs → length rs ≡ length s.resources
resources_counted state shelf s rs new = sym (each_length (λ one r. IsNewResource state shelf s one.0 one.1 r) (numbered 1 s.resources) rs new) ∙ length_numbered 1 s.resources

pub managers_counted : (s : Scenario) (ms : List Manager) → AreNewManagers s ms → length ms ≡ length s.managers
managers_counted s ms new = sym (each_length (λ one m. IsNewManager s one.0 one.1 m) (numbered 1 s.managers) ms new) ∙ length_numbered 1 s.managers

-- ---- all of a run

pub first_seats : {D K : Type 0} (state : D → DiskState) (shelf : ShelfState D) (s : Scenario) (c : Option (Seated (Coordinator D))) (rs : List (Resource D)) (seats : Seats (Coordinator D) (Resource D) Manager K)
    → seats.coordinator ≡ c → IsPutAt (coordinator.node_state state) place.Tc c → AreNewResources state shelf s (numbered 1 s.resources) rs
    → AreEach (λ r. IsPutAt (resource.node_state state) (resource.node_state state r).place) rs seats.resources.items → ArePut manager.node_state true (length s.managers) seats.managers.items
    → AreSeats state s seats
first_seats state shelf s c rs seats is put new each managers = record {
  coordinator = ap (place_in (coordinator.node_state state)) is ∙ put;
  resources = are_put (resource.node_state state) false (length s.resources) rs seats.resources.items each (resources_counted state shelf s rs new) (resource_places state shelf s rs new);
  managers = managers;
}
