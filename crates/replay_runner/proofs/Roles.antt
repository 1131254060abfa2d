-- What stands at the places of a scenario.
use Rattle.std.proofs.Common.{◌≡◌, ◌+◌, ℕ, zero, suc, List, [], ◌∷◌, length, slice_get, Option, Some, None, option_map, refl, ap, sym, subst, ◌∙◌, arith}
use Rattle.std.proofs.lemmas.Option.{same_Some}
use Rattle.seata_types.specs.declared.ids.Place.{Place}
use Rattle.seata_types.specs.declared.ids.Place.TheVariants as place
use Rattle.durable_records.specs.declared.coordinators.SessionRecord.{SessionRecord}
use Rattle.durable_records.specs.declared.resources.ResourceRecord.{ResourceRecord}
use Rattle.scenario_form.specs.declared.scenarios.ManagerDef.{ManagerDef}
use Rattle.scenario_form.specs.declared.scenarios.ResourceDef.{ResourceDef}
use Rattle.scenario_form.specs.declared.scenarios.Scenario.{Scenario}
use Rattle.scenario_form.specs.Runnable.{IsPlaceAmong, IsServerAmong}
use Rattle.history_rules.specs.Own.{Event, Given, Stopped, Crashed, Restarted}
use Rattle.history_rules.specs.CoordinatorMemory.{Times}
use Rattle.history_rules.specs.ManagerRules.{Settings}
use Rattle.history_rules.specs.Nodes.{ComesTo, Past, Role, counted_at, role_at}
use Rattle.history_rules.specs.Nodes.{Coordinator as CoordinatorRole, Manager as ManagerRole, Resource as ResourceRole}
use Rattle.history_rules.specs.ResourceMemory.{Setup}
use Rattle.history_text.proofs.Worlds.{slice_get-managers}
use Rattle.history_text.specs.Worlds.{managers_from, resources_from, resources_of, settings_of, setup_of, times_of, world_of}
use Rattle.replay_runner.proofs.Counted.{counted_next, counted_there}

-- what a value was made of
pub from_map : {A B : Type 0} (f : A → B) (o : Option A) (b : B) → option_map f o ≡ Some b → (a : A) × (o ≡ Some a) × (b ≡ f a)
from_map f None b e = absurd (let no : None ≡ Some b = e in cc)
from_map f (Some a) b e = (a, refl, sym (same_Some (f a) b e))

-- ---- the nodes of a scenario

pub slice_get-resources : (s : Scenario) (n : ℕ) (defs : List ResourceDef) (k : ℕ) → slice_get (resources_from s n defs) k ≡ option_map (setup_of s (n + k)) (slice_get defs k)
slice_get-resources s n [] k = refl
slice_get-resources s n (def ∷ defs) zero = ap (λ j. Some (setup_of s j def)) (let same : n ≡ n + 0 = omega arith in same)
slice_get-resources s n (def ∷ defs) (suc k) =
    slice_get-resources s (n + 1) defs k ∙ ap (λ j. option_map (setup_of s j) (slice_get defs k)) (let same : n + 1 + k ≡ n + suc k = omega arith in same)

pub resource_there : (s : Scenario) (k : ℕ) → slice_get (resources_of s) k ≡ option_map (setup_of s (k + 1)) (slice_get s.resources k)
unfolding resources_of
resource_there s k = slice_get-resources s 1 s.resources k ∙ ap (λ j. option_map (setup_of s j) (slice_get s.resources k)) (let same : 1 + k ≡ k + 1 = omega arith in same)

abbrev resource_role : Past → ℕ → Setup → Role
resource_role past n setup = ResourceRole setup (past.resource n)

abbrev manager_role : Settings → Role
manager_role settings = ManagerRole settings

-- the k-th resource, counted from 0
pub role_of_resource : (s : Scenario) (past : Past) (k : ℕ) (def : ResourceDef) → slice_get s.resources k ≡ Some def → role_at (world_of s) past (place.Res (k + 1)) ≡ Some (ResourceRole (setup_of s (k + 1) def) (past.resource (k + 1)))
role_of_resource s past k def here = ap (option_map (resource_role past (k + 1))) (counted_next (resources_of s) k ∙ resource_there s k ∙ ap (option_map (setup_of s (k + 1))) here)

-- the k-th manager
pub role_of_manager : (s : Scenario) (past : Past) (k : ℕ) (def : ManagerDef) → slice_get s.managers k ≡ Some def → role_at (world_of s) past (place.Man (k + 1)) ≡ Some (ManagerRole (settings_of s.lock_tries (k + 1) def))
role_of_manager s past k def here =
    ap (option_map manager_role)
    (counted_next (managers_from s.lock_tries 1 s.managers) k ∙ slice_get-managers s.lock_tries 1 s.managers k
    ∙ ap (λ j. option_map (settings_of s.lock_tries j) (slice_get s.managers k)) (let same : 1 + k ≡ k + 1 = omega arith in same) ∙ ap (option_map (settings_of s.lock_tries (k + 1))) here)

length-resources_from : (s : Scenario) (n : ℕ) (defs : List ResourceDef) → length (resources_from s n defs) ≡ length defs
length-resources_from s n [] = refl
length-resources_from s n (def ∷ defs) = let rest = length-resources_from s (n + 1) defs in omega (arith, rest)

pub length-resources : (s : Scenario) → length (resources_of s) ≡ length s.resources
unfolding resources_of
length-resources s = length-resources_from s 1 s.resources

pub length-managers : (tries n : ℕ) (defs : List ManagerDef) → length (managers_from tries n defs) ≡ length defs
length-managers tries n [] = refl
length-managers tries n (def ∷ defs) = let rest = length-managers tries (n + 1) defs in omega (arith, rest)

-- ---- places

-- a node stands at each place
pub place_role : (s : Scenario) (past : Past) (p : Place) → IsPlaceAmong (length s.resources) (length s.managers) p → (role : Role) × (role_at (world_of s) past p ≡ Some role)
place_role s past place.Net fits = absurd fits
place_role s past place.Tc fits = (CoordinatorRole (times_of s) past.sessions, refl)
place_role s past (place.Res n) fits =
    let size = length-resources s in
    let low = fits.0 in
    let high = fits.1 in
    let (setup, at) = counted_there (resources_of s) n fits.0 (omega (arith, high, size)) in
    (ResourceRole setup (past.resource n), ap (option_map (resource_role past n)) at)
place_role s past (place.Man n) fits =
    let size = length-managers s.lock_tries 1 s.managers in
    let low = fits.0 in
    let high = fits.1 in
    let (settings, at) = counted_there (managers_from s.lock_tries 1 s.managers) n fits.0 (omega (arith, high, size)) in
    (ManagerRole settings, ap (option_map manager_role) at)

pub at_resource : (s : Scenario) (past : Past) (n : ℕ) (role : Role) → role_at (world_of s) past (place.Res n) ≡ Some role → (setup : Setup) × (counted_at (resources_of s) n ≡ Some setup) × (role ≡ ResourceRole setup (past.resource n))
at_resource s past n role e = from_map (resource_role past n) (counted_at (resources_of s) n) role e

pub at_manager : (s : Scenario) (past : Past) (n : ℕ) (role : Role) → role_at (world_of s) past (place.Man n) ≡ Some role
    → (settings : Settings) × (counted_at (managers_from s.lock_tries 1 s.managers) n ≡ Some settings) × (role ≡ ManagerRole settings)
at_manager s past n role e = from_map manager_role (counted_at (managers_from s.lock_tries 1 s.managers) n) role e

-- ---- what comes to the nodes with disks

comes_coordinator : (times : Times) (past : List SessionRecord) (event : Event) → ComesTo (CoordinatorRole times past) event
comes_coordinator times past (Given given) = tt
comes_coordinator times past (Stopped calls) = tt
comes_coordinator times past Crashed = tt
comes_coordinator times past (Restarted pick calls) = tt

comes_resource : (setup : Setup) (past : List ResourceRecord) (event : Event) → ComesTo (ResourceRole setup past) event
comes_resource setup past (Given given) = tt
comes_resource setup past (Stopped calls) = tt
comes_resource setup past Crashed = tt
comes_resource setup past (Restarted pick calls) = tt

pub comes_server : (s : Scenario) (past : Past) (servers : ℕ) (p : Place) (role : Role) → IsServerAmong servers p → role_at (world_of s) past p ≡ Some role → (event : Event) → ComesTo role event
comes_server s past servers place.Net role fits e event = absurd fits
comes_server s past servers place.Tc role fits e event = subst (λ r. ComesTo r event) (same_Some (CoordinatorRole (times_of s) past.sessions) role e) (comes_coordinator (times_of s) past.sessions event)
comes_server s past servers (place.Res n) role fits e event = let (setup, at, is) = at_resource s past n role e in subst (λ r. ComesTo r event) (sym is) (comes_resource setup (past.resource n) event)
comes_server s past servers (place.Man n) role fits e event = absurd fits

-- a node with disks stands at one of all places
pub server_place : (servers users : ℕ) (p : Place) → IsServerAmong servers p → IsPlaceAmong servers users p
server_place servers users place.Net fits = absurd fits
server_place servers users place.Tc fits = tt
server_place servers users (place.Res n) fits = fits
server_place servers users (place.Man n) fits = absurd fits
