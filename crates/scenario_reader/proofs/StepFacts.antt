-- What is known of managers, stops and steps once they are read.
use Rattle.std.proofs.Common.{◌≡◌, ◌≤◌, ◌+◌, ℕ, Bool, true, false, ◌&&◌, List, [], ◌∷◌, ◌++◌, length, Option, Some, None, Ok, refl, subst, arith}
use Rattle.std.proofs.lemmas.List.Elements.{All-nil, All-push}
use Rattle.std.specs.List.{position}
use Rattle.std.specs.Prelude.{if◌then◌else◌, All, codes}
use Rattle.serde_json.specs.Data.{Data}
use Rattle.serde_json.specs.Find.{as_str}
use Rattle.disk_model.specs.declared.disk.TheConstants.{LAST_PICK}
use Rattle.seata_types.specs.Orders.{same_text}
use Rattle.seata_types.specs.declared.ids.Place.{Place}
use Rattle.seata_types.specs.declared.ids.Place.TheVariants as place
use Rattle.seata_types.specs.declared.limits.TheConstants.{SCHEDULE_MEMBERS, STEPS, STOP_CALLS, TICKS}
use Rattle.scenario_form.specs.declared.scenarios.ManagerDef.{ManagerDef}
use Rattle.scenario_form.specs.declared.scenarios.ResourceDef.{ResourceDef}
use Rattle.scenario_form.specs.declared.scenarios.ScheduleItem.{ScheduleItem}
use Rattle.scenario_form.specs.declared.scenarios.ScheduleItem.TheVariants as step
use Rattle.scenario_form.specs.Contents.{IsBetween}
use Rattle.scenario_reader.specs.Faults.{Outcome, ◌>>=◌, wrong_name, wrong_shape, within, to_item, list, any_list, triple, text_by}
use Rattle.scenario_reader.specs.Names.{is_resource_named, is_manager_named}
use Rattle.scenario_reader.specs.Nodes as form
use Rattle.scenario_reader.specs.Numbers.{number_of_text, number_in, plain_number}
use Rattle.scenario_form.specs.Runnable.{all_steps, steps_of, IsServerAmong, IsPlaceAmong, IsStop, FitsNodes}
use Rattle.scenario_reader.specs.Steps as steps
use Rattle.scenario_reader.proofs.Apart.{position_within}
use Rattle.scenario_reader.proofs.Counted.{all_steps_push}
use Rattle.scenario_reader.proofs.Inverses.{bind_ok, within_ok, if_ok, same_ok, le_of, number_in_ok, plain_number_ok, each_keeps, each_all, each_few}

-- ---- places

server_by_ok : (resources : List ResourceDef) (name : List ℕ) (found : Option ℕ) (at : Place) → position (is_resource_named name) resources ≡ found
    → form.server_by wrong_name found ≡ Ok at → IsServerAmong (length resources) at
server_by_ok resources name (Some k) at is e =
    let within = position_within (is_resource_named name) resources k is in
    subst (IsServerAmong (length resources)) (same_ok (place.Res (k + 1)) at e) (omega arith, omega arith)
server_by_ok resources name None at is e = absurd cc

server_or_ok : (b : Bool) (resources : List ResourceDef) (name : List ℕ) (at : Place)
    → (if b then Ok place.Tc else form.server_by wrong_name (position (is_resource_named name) resources)) ≡ Ok at → IsServerAmong (length resources) at
server_or_ok true resources name at e = subst (IsServerAmong (length resources)) (same_ok place.Tc at e) tt
server_or_ok false resources name at e = server_by_ok resources name (position (is_resource_named name) resources) at refl e

server_ok : (resources : List ResourceDef) (name : List ℕ) (at : Place) → form.server resources name ≡ Ok at → IsServerAmong (length resources) at
unfolding form.server
server_ok resources name at e = server_or_ok (same_text name (codes "tc")) resources name at e

manager_by_ok : (servers : ℕ) (managers : List ManagerDef) (name : List ℕ) (found : Option ℕ) (at : Place) → position (is_manager_named name) managers ≡ found
    → form.manager_by found ≡ Ok at → IsPlaceAmong servers (length managers) at
manager_by_ok servers managers name (Some k) at is e =
    let within = position_within (is_manager_named name) managers k is in
    subst (IsPlaceAmong servers (length managers)) (same_ok (place.Man (k + 1)) at e) (omega arith, omega arith)
manager_by_ok servers managers name None at is e = absurd cc

node_by_ok : (resources : List ResourceDef) (managers : List ManagerDef) (name : List ℕ) (found : Option ℕ) (at : Place) → position (is_resource_named name) resources ≡ found
    → form.server_by (form.manager_by (position (is_manager_named name) managers)) found ≡ Ok at → IsPlaceAmong (length resources) (length managers) at
node_by_ok resources managers name (Some k) at is e =
    let within = position_within (is_resource_named name) resources k is in
    subst (IsPlaceAmong (length resources) (length managers)) (same_ok (place.Res (k + 1)) at e) (omega arith, omega arith)
node_by_ok resources managers name None at is e = manager_by_ok (length resources) managers name (position (is_manager_named name) managers) at refl e

node_or_ok : (b : Bool) (resources : List ResourceDef) (managers : List ManagerDef) (name : List ℕ) (at : Place)
    → (if b then Ok place.Tc else form.server_by (form.manager_by (position (is_manager_named name) managers)) (position (is_resource_named name) resources)) ≡ Ok at
    → IsPlaceAmong (length resources) (length managers) at
node_or_ok true resources managers name at e = subst (IsPlaceAmong (length resources) (length managers)) (same_ok place.Tc at e) tt
node_or_ok false resources managers name at e = node_by_ok resources managers name (position (is_resource_named name) resources) at refl e

node_ok : (resources : List ResourceDef) (managers : List ManagerDef) (name : List ℕ) (at : Place) → form.node resources managers name ≡ Ok at
    → IsPlaceAmong (length resources) (length managers) at
unfolding form.node
node_ok resources managers name at e = node_or_ok (same_text name (codes "tc")) resources managers name at e

-- ---- stops

stop_ok : (resources : List ResourceDef) (d : Data) (s : Place × ℕ × ℕ) → form.stop resources d ≡ Ok s → IsStop (length resources) s
unfolding form.stop
stop_ok resources d s e =
    let parts = bind_ok (triple d) _ _ e in
    let at = bind_ok (within (to_item 0) (form.stopped resources parts.0.0)) _ _ parts.2 in
    let calls = bind_ok (within (to_item 1) (number_in 0 STOP_CALLS parts.0.1)) _ _ at.2 in
    let pick = bind_ok (within (to_item 2) (number_in 0 LAST_PICK parts.0.2)) _ _ calls.2 in
    let named = bind_ok (text_by (as_str parts.0.0)) (form.stopped_in resources) at.0 (within_ok (to_item 0) (form.stopped resources parts.0.0) at.0 at.1) in
    let word = if_ok _ _ _ _ named.2 in
    let most = number_in_ok 0 STOP_CALLS parts.0.1 calls.0 (within_ok (to_item 1) _ _ calls.1) in
    let last = number_in_ok 0 LAST_PICK parts.0.2 pick.0 (within_ok (to_item 2) _ _ pick.1) in
    subst (IsStop (length resources)) (same_ok (at.0, calls.0, pick.0) s pick.2) (server_ok resources named.0 at.0 word.1, most.1, last.1)

pub stops_ok : (resources : List ResourceDef) (d : Option Data) (found : List (Place × ℕ × ℕ)) → form.stops resources d ≡ Ok found → All (IsStop (length resources)) found
unfolding form.stops
stops_ok resources None found e = subst (All (IsStop (length resources))) (same_ok [] found e) (All-nil (IsStop (length resources)))
stops_ok resources (Some d) found e =
    let items = bind_ok (any_list d) _ _ e in
    each_all (form.next_stop resources) (IsStop (length resources)) (λ before d one reads. stop_ok resources d one reads) items.0 found items.2

-- ---- steps

turn_ok : (resources : List ResourceDef) (managers : List ManagerDef) (count : ℕ) (rest : List ℕ) (x : ScheduleItem) → steps.turn resources managers rest ≡ Ok x
    → FitsNodes (length resources) (length managers) count x
unfolding steps.turn
turn_ok resources managers count rest x e =
    let word = if_ok _ _ _ _ e in
    let at = bind_ok (form.node resources managers rest) _ _ word.1 in
    subst (FitsNodes (length resources) (length managers) count) (same_ok (step.Turn at.0) x at.2) (node_ok resources managers rest at.0 at.1)

deliver_ok : (servers users count : ℕ) (rest : List ℕ) (x : ScheduleItem) → steps.deliver rest ≡ Ok x → FitsNodes servers users count x
unfolding steps.deliver
deliver_ok servers users count rest x e =
    let plain = if_ok _ _ _ _ e in
    let k = bind_ok (plain_number 1 STEPS rest) _ _ plain.1 in
    subst (FitsNodes servers users count) (same_ok (step.Deliver k.0) x k.2) (plain_number_ok 1 STEPS rest k.0 k.1)

wait_ok : (servers users count : ℕ) (rest : List ℕ) (x : ScheduleItem) → steps.wait rest ≡ Ok x → FitsNodes servers users count x
unfolding steps.wait
wait_ok servers users count rest x e =
    let plain = if_ok _ _ _ _ e in
    let t = bind_ok (plain_number 1 TICKS rest) _ _ plain.1 in
    subst (FitsNodes servers users count) (same_ok (step.Wait t.0) x t.2) (plain_number_ok 1 TICKS rest t.0 t.1)

auto_ok : (servers users count : ℕ) (rest : List ℕ) (x : ScheduleItem) → steps.auto rest ≡ Ok x → FitsNodes servers users count x
unfolding steps.auto
auto_ok servers users count rest x e =
    let plain = if_ok _ _ _ _ e in
    let k = bind_ok (plain_number 1 STEPS rest) _ _ plain.1 in
    subst (FitsNodes servers users count) (same_ok (step.Auto k.0) x k.2) (plain_number_ok 1 STEPS rest k.0 k.1)

stop_step_ok : (resources : List ResourceDef) (users count : ℕ) (rest : List ℕ) (x : ScheduleItem) → steps.stop resources rest ≡ Ok x → FitsNodes (length resources) users count x
unfolding steps.stop
stop_step_ok resources users count rest x e =
    let shape = if_ok _ _ _ _ e in
    let at = bind_ok (form.server resources (steps.front rest)) _ _ shape.1 in
    let k = bind_ok (plain_number 0 STOP_CALLS (steps.behind rest)) _ _ at.2 in
    let most = plain_number_ok 0 STOP_CALLS (steps.behind rest) k.0 k.1 in
    subst (FitsNodes (length resources) users count) (same_ok (step.Stop at.0 k.0) x k.2) (server_ok resources (steps.front rest) at.0 at.1, most.1)

crash_ok : (resources : List ResourceDef) (users count : ℕ) (rest : List ℕ) (x : ScheduleItem) → steps.crash resources rest ≡ Ok x → FitsNodes (length resources) users count x
unfolding steps.crash
crash_ok resources users count rest x e =
    let word = if_ok _ _ _ _ e in
    let at = bind_ok (form.server resources rest) _ _ word.1 in
    subst (FitsNodes (length resources) users count) (same_ok (step.Crash at.0) x at.2) (server_ok resources rest at.0 at.1)

plain_restart_ok : (resources : List ResourceDef) (users count : ℕ) (name more : List ℕ) (x : ScheduleItem) → steps.plain_restart resources name more ≡ Ok x
    → FitsNodes (length resources) users count x
unfolding steps.plain_restart
plain_restart_ok resources users count name more x e =
    let shape = if_ok _ _ _ _ e in
    let at = bind_ok (form.server resources name) _ _ shape.1 in
    let pick = bind_ok (plain_number 0 LAST_PICK more) _ _ at.2 in
    let last = plain_number_ok 0 LAST_PICK more pick.0 pick.1 in
    subst (FitsNodes (length resources) users count) (same_ok (step.Restart at.0 pick.0 None) x pick.2) (server_ok resources name at.0 at.1, last.1, tt)

armed_restart_ok : (resources : List ResourceDef) (users count : ℕ) (name more : List ℕ) (x : ScheduleItem) → steps.armed_restart resources name more ≡ Ok x
    → FitsNodes (length resources) users count x
unfolding steps.armed_restart
armed_restart_ok resources users count name more x e =
    let shape = if_ok _ _ _ _ e in
    let at = bind_ok (form.server resources name) _ _ shape.1 in
    let pick = bind_ok (plain_number 0 LAST_PICK (steps.front more)) _ _ at.2 in
    let k = bind_ok (plain_number 0 STOP_CALLS (steps.behind more)) _ _ pick.2 in
    let last = plain_number_ok 0 LAST_PICK (steps.front more) pick.0 pick.1 in
    let most = plain_number_ok 0 STOP_CALLS (steps.behind more) k.0 k.1 in
    subst (FitsNodes (length resources) users count) (same_ok (step.Restart at.0 pick.0 (Some k.0)) x k.2) (server_ok resources name at.0 at.1, last.1, most.1)

-- what both ways give
by_test : {A : Type 0} (P : A → Type 0) (b : Bool) (o p : Outcome A) (x : A) → (o ≡ Ok x → P x) → (p ≡ Ok x → P x) → (if b then o else p) ≡ Ok x → P x
by_test P true o p x one other e = one e
by_test P false o p x one other e = other e

restart_ok : (resources : List ResourceDef) (users count : ℕ) (rest : List ℕ) (x : ScheduleItem) → steps.restart resources rest ≡ Ok x → FitsNodes (length resources) users count x
unfolding steps.restart
restart_ok resources users count rest x e =
    by_test (FitsNodes (length resources) users count) (steps.has_space (steps.behind rest)) (steps.armed_restart resources (steps.front rest) (steps.behind rest))
    (steps.plain_restart resources (steps.front rest) (steps.behind rest)) x
    (λ armed. armed_restart_ok resources users count (steps.front rest) (steps.behind rest) x armed)
    (λ plain. plain_restart_ok resources users count (steps.front rest) (steps.behind rest) x plain) e

both_true : (a b : Bool) → (a && b) ≡ true → (a ≡ true) × (b ≡ true)
both_true true b e = (refl, e)
both_true false b e = absurd cc

local_number_ok : (count : ℕ) (rest : List ℕ) (k : ℕ) → steps.local_number count rest ≡ Ok k → IsBetween 1 count k
unfolding steps.local_number
local_number_ok count rest k e =
    let plain = if_ok _ _ _ _ e in
    let there = if_ok _ _ _ _ plain.1 in
    let both = both_true _ _ there.0 in
    subst (IsBetween 1 count) (same_ok (number_of_text rest) k there.1) (le_of _ _ both.0, le_of _ _ both.1)

local_ok : (servers users count : ℕ) (rest : List ℕ) (x : ScheduleItem) → (steps.local_number count rest >>= (λ k. Ok (step.Local k))) ≡ Ok x → FitsNodes servers users count x
local_ok servers users count rest x e =
    let k = bind_ok (steps.local_number count rest) _ _ e in
    subst (FitsNodes servers users count) (same_ok (step.Local k.0) x k.2) (local_number_ok count rest k.0 k.1)

outside_ok : (servers users count : ℕ) (rest : List ℕ) (x : ScheduleItem) → (steps.local_number count rest >>= (λ k. Ok (step.Outside k))) ≡ Ok x → FitsNodes servers users count x
outside_ok servers users count rest x e =
    let k = bind_ok (steps.local_number count rest) _ _ e in
    subst (FitsNodes servers users count) (same_ok (step.Outside k.0) x k.2) (local_number_ok count rest k.0 k.1)

other_ok : (servers users count : ℕ) (x : ScheduleItem) → wrong_shape ≡ Ok x → FitsNodes servers users count x
other_ok servers users count x e = absurd cc

step_ok : (resources : List ResourceDef) (managers : List ManagerDef) (count : ℕ) (word rest : List ℕ) (x : ScheduleItem) → steps.step_of resources managers count word rest ≡ Ok x
    → FitsNodes (length resources) (length managers) count x
unfolding steps.step_of
step_ok resources managers count word rest x e =
    let servers = length resources in
    let users = length managers in
    let by = by_test (FitsNodes servers users count) in
    by (same_text word (codes "turn")) _ _ x (λ h. turn_ok resources managers count rest x h)
    (λ h. by (same_text word (codes "deliver")) _ _ x (λ h. deliver_ok servers users count rest x h)
    (λ h. by (same_text word (codes "wait")) _ _ x (λ h. wait_ok servers users count rest x h)
    (λ h. by (same_text word (codes "stop")) _ _ x (λ h. stop_step_ok resources users count rest x h)
    (λ h. by (same_text word (codes "crash")) _ _ x (λ h. crash_ok resources users count rest x h)
    (λ h. by (same_text word (codes "restart")) _ _ x (λ h. restart_ok resources users count rest x h)
    (λ h. by (same_text word (codes "auto")) _ _ x (λ h. auto_ok servers users count rest x h)
    (λ h. by (same_text word (codes "local")) _ _ x (λ h. local_ok servers users count rest x h)
    (λ h. by (same_text word (codes "outside")) _ _ x (λ h. outside_ok servers users count rest x h) (λ h. other_ok servers users count x h) h) h) h) h) h) h) h) h) e

-- the steps so far
pub record AreSteps (servers users count : ℕ) (items : List ScheduleItem) : Type 0 where
  pub fits : All (FitsNodes servers users count) items
  pub few : all_steps items ≤ STEPS

next_ok : (resources : List ResourceDef) (managers : List ManagerDef) (count : ℕ) (items : List ScheduleItem) (d : Data) (x : ScheduleItem)
    → AreSteps (length resources) (length managers) count items → steps.next_item resources managers count items d ≡ Ok x
    → AreSteps (length resources) (length managers) count (items ++ x ∷ [])
unfolding steps.next_item steps.item_of
next_ok resources managers count items d x before e =
    let found = bind_ok (steps.item_of resources managers count d) _ _ e in
    let few = if_ok _ _ _ _ found.2 in
    let text = bind_ok (text_by (as_str d)) _ _ found.1 in
    let same = same_ok found.0 x few.1 in
    let fits = step_ok resources managers count (steps.front text.0) (steps.behind text.0) found.0 text.2 in
    let whole : all_steps items + steps_of x ≤ STEPS = subst (λ z. all_steps items + steps_of z ≤ STEPS) same (le_of _ _ few.0) in
    let more = all_steps_push items x in
    record {
      fits = All-push (FitsNodes (length resources) (length managers) count) items x before.fits (subst (FitsNodes (length resources) (length managers) count) same fits);
      few = omega (arith, whole, more);
    }

no_steps : (servers users count : ℕ) → AreSteps servers users count []
no_steps servers users count = record { fits = All-nil (FitsNodes servers users count); few = omega arith }

pub schedule_ok : (resources : List ResourceDef) (managers : List ManagerDef) (count : ℕ) (d : Option Data) (items : List ScheduleItem)
    → steps.schedule resources managers count d ≡ Ok items → (length items ≤ SCHEDULE_MEMBERS) × AreSteps (length resources) (length managers) count items
unfolding steps.schedule
schedule_ok resources managers count d items e =
    let found = bind_ok (list SCHEDULE_MEMBERS d) _ _ e in
    let read = steps.next_item resources managers count in (
      each_few read SCHEDULE_MEMBERS d found.0 items found.1 found.2,
      each_keeps read (AreSteps (length resources) (length managers) count) (λ before one x so_far reads. next_ok resources managers count before one x so_far reads)
          [] found.0 items (no_steps (length resources) (length managers) count) found.2,
    )
