-- What is known of a scenario once it is read.
use Rattle.std.proofs.Common.{◌≡◌, ◌≤◌, ℕ, Bool, true, false, ◌||◌, List, [], ◌∷◌, ◌++◌, length, map, Option, Some, None, Ok, refl, ap, sym, ◌∙◌, subst, append_assoc, arith}
use Rattle.std.proofs.lemmas.List.Folds.{list_any-append}
use Rattle.std.specs.List.{list_any}
use Rattle.std.specs.Prelude.{All, codes}
use Rattle.serde_json.specs.Data.{Data}
use Rattle.serde_json.specs.Find.{get}
use Rattle.seata_types.specs.Orders.{same_text}
use Rattle.seata_types.specs.declared.limits.TheConstants.{CALLS, DEFAULT_DISK, DEFAULT_LOCK_TRIES, DEFAULT_RETRY, DEFAULT_TIMEOUT, DISK_LEAST, DISK_MOST, LOCK_TRIES, MANAGERS, SILENT, TICKS}
use Rattle.seata_types.specs.declared.statements.Work.{Work}
use Rattle.seata_types.specs.declared.statuses.Ending.{Ending}
use Rattle.scenario_form.specs.declared.scenarios.ManagerDef.{ManagerDef}
use Rattle.scenario_form.specs.declared.scenarios.ResourceDef.{ResourceDef}
use Rattle.scenario_reader.specs.declared.settings.Settings.{Settings}
use Rattle.scenario_form.specs.Contents.{IsBetween, IsNodeName, AreDifferent, IsCall}
use Rattle.scenario_reader.specs.Faults.{list, text, member, an_object, only, to_member}
use Rattle.scenario_reader.specs.Form as form
use Rattle.scenario_reader.specs.Managers as users
use Rattle.scenario_reader.specs.Calls.{calls}
use Rattle.scenario_reader.specs.Numbers.{number_in, number_or}
use Rattle.scenario_reader.specs.Names.{new_node, new_node_name, is_node, is_resource_named, is_manager_named}
use Rattle.scenario_form.specs.Runnable.{IsTimed, IsManager, IsAtMost, resource_name, manager_name}
use Rattle.scenario_reader.proofs.Apart.{distinct_push, same_text_flips, map_push, any_map}
use Rattle.scenario_reader.proofs.CallFacts.{calls_ok}
use Rattle.scenario_reader.proofs.Inverses.{bind_ok, within_ok, if_ok, unless_ok, same_ok, le_of, number_in_ok, number_or_ok, each_keeps, each_all, each_few}

-- ---- names

pub new_node_ok : (resources : List ResourceDef) (managers : List ManagerDef) (d : Option Data) (n : List ℕ) → new_node resources managers d ≡ Ok n
    → IsNodeName n × (is_node resources managers n ≡ false)
unfolding new_node new_node_name
new_node_ok resources managers d n e =
    let name = bind_ok (text d) _ _ e in
    let shape = if_ok _ _ _ _ name.2 in
    let short = if_ok _ _ _ _ shape.1 in
    let new = unless_ok _ _ _ _ short.1 in
    let same = same_ok name.0 n new.1 in
    (subst IsNodeName same (record { form = shape.0; short = le_of _ _ short.0 }), ap (is_node resources managers) (sym same) ∙ new.0)

-- ---- numbers

-- the numbers of a scenario, each within its limits
pub record AreSettings (set : Settings) : Type 0 where
  pub timeout : IsBetween 1 TICKS set.timeout
  pub tries : IsBetween 1 LOCK_TRIES set.lock_tries
  pub retry : IsBetween 1 TICKS set.retry
  pub forget : set.forget ≤ TICKS
  pub disk : IsBetween DISK_LEAST DISK_MOST set.disk

pub settings_ok : (d : Data) (set : Settings) → form.settings d ≡ Ok set → AreSettings set
unfolding form.settings
settings_ok d set e =
    let timeout = bind_ok (member (codes "timeout") (number_or DEFAULT_TIMEOUT 1 TICKS) d) _ _ e in
    let tries = bind_ok (member (codes "lockTries") (number_or DEFAULT_LOCK_TRIES 1 LOCK_TRIES) d) _ _ timeout.2 in
    let retry = bind_ok (member (codes "retry") (number_or DEFAULT_RETRY 1 TICKS) d) _ _ tries.2 in
    let forget = bind_ok (member (codes "forget") (number_or 0 0 TICKS) d) _ _ retry.2 in
    let disk = bind_ok (member (codes "disk") (number_or DEFAULT_DISK DISK_LEAST DISK_MOST) d) _ _ forget.2 in
    let ticks = number_or_ok DEFAULT_TIMEOUT 1 TICKS (get (codes "timeout") d) timeout.0 (omega arith, omega arith) (within_ok (to_member (codes "timeout")) _ _ timeout.1) in
    let often = number_or_ok DEFAULT_LOCK_TRIES 1 LOCK_TRIES (get (codes "lockTries") d) tries.0 (omega arith, omega arith) (within_ok (to_member (codes "lockTries")) _ _ tries.1) in
    let again = number_or_ok DEFAULT_RETRY 1 TICKS (get (codes "retry") d) retry.0 (omega arith, omega arith) (within_ok (to_member (codes "retry")) _ _ retry.1) in
    let age = number_or_ok 0 0 TICKS (get (codes "forget") d) forget.0 (omega arith, omega arith) (within_ok (to_member (codes "forget")) _ _ forget.1) in
    let bytes = number_or_ok DEFAULT_DISK DISK_LEAST DISK_MOST (get (codes "disk") d) disk.0 (omega arith, omega arith) (within_ok (to_member (codes "disk")) _ _ disk.1) in
    subst AreSettings (same_ok (record { timeout = timeout.0; lock_tries = tries.0; retry = retry.0; forget = forget.0; disk = disk.0 }) set disk.2)
    (record { timeout = ticks; tries = often; retry = again; forget = age.1; disk = bytes })

-- ---- managers

silent_ok : (d : Option Data) (most : Option ℕ) → users.silent d ≡ Ok most → IsAtMost SILENT most
unfolding users.silent
silent_ok None most e = subst (IsAtMost SILENT) (same_ok None most e) tt
silent_ok (Some d) most e =
    let n = bind_ok (number_in 0 SILENT d) _ _ e in
    let few = number_in_ok 0 SILENT d n.0 n.1 in
    subst (IsAtMost SILENT) (same_ok (Some n.0) most n.2) few.1

-- a name, a timeout and calls, behind these managers
record IsHeading (resources : List ResourceDef) (before : List ManagerDef) (head : List ℕ × ℕ × List (ℕ × Work)) : Type 0 where
  pub name : IsNodeName head.0
  pub new : is_node resources before head.0 ≡ false
  pub timeout : IsBetween 1 TICKS head.1
  pub few : length head.2 ≤ CALLS
  pub calls : All (IsCall resources) head.2

heading_ok : (resources : List ResourceDef) (timeout : ℕ) (before : List ManagerDef) (d : Data) (head : List ℕ × ℕ × List (ℕ × Work)) → IsBetween 1 TICKS timeout
    → users.heading resources timeout before d ≡ Ok head → IsHeading resources before head
unfolding users.heading
heading_ok resources timeout before d head between e =
    let shape = bind_ok (an_object d) _ _ e in
    let name = bind_ok (member (codes "name") (new_node resources before) d) _ _ shape.2 in
    let ticks = bind_ok (member (codes "timeout") (number_or timeout 1 TICKS) d) _ _ name.2 in
    let found = bind_ok (member (codes "calls") (calls resources) d) _ _ ticks.2 in
    let new = new_node_ok resources before (get (codes "name") d) name.0 (within_ok (to_member (codes "name")) _ _ name.1) in
    let wait = number_or_ok timeout 1 TICKS (get (codes "timeout") d) ticks.0 between (within_ok (to_member (codes "timeout")) _ _ ticks.1) in
    let work = calls_ok resources (get (codes "calls") d) found.0 (within_ok (to_member (codes "calls")) _ _ found.1) in
    subst (IsHeading resources before) (same_ok (name.0, ticks.0, found.0) head found.2) (record { name = new.0; new = new.1; timeout = wait; few = work.0; calls = work.1 })

closing_ok : (d : Data) (rest : Ending × Option ℕ × Bool) → users.closing d ≡ Ok rest → IsAtMost SILENT rest.1
unfolding users.closing
closing_ok d rest e =
    let ends = bind_ok (member (codes "end") users.ending d) _ _ e in
    let most = bind_ok (member (codes "silent") users.silent d) _ _ ends.2 in
    let asks = bind_ok (member (codes "poll") users.poll d) _ _ most.2 in
    let few = silent_ok (get (codes "silent") d) most.0 (within_ok (to_member (codes "silent")) _ _ most.1) in
    subst (λ (z : Ending × Option ℕ × Bool). IsAtMost SILENT z.1) (same_ok (ends.0, most.0, asks.0) rest asks.2) few

-- a manager behind these
record IsNext (resources : List ResourceDef) (before : List ManagerDef) (m : ManagerDef) : Type 0 where
  pub sound : IsManager resources m
  pub timed : IsTimed m
  pub new : is_node resources before m.name ≡ false

manager_ok : (resources : List ResourceDef) (timeout : ℕ) (before : List ManagerDef) (d : Data) (m : ManagerDef) → IsBetween 1 TICKS timeout
    → users.manager resources timeout before d ≡ Ok m → IsNext resources before m
unfolding users.manager
manager_ok resources timeout before d m between e =
    let head = bind_ok (users.heading resources timeout before d) _ _ e in
    let rest = bind_ok (users.closing d) _ _ head.2 in
    let last = bind_ok (only users.manager_members d) _ _ rest.2 in
    let top = heading_ok resources timeout before d head.0 between head.1 in
    let few = closing_ok d rest.0 rest.1 in
    subst (IsNext resources before)
    (same_ok (record { name = head.0.0; timeout = head.0.1; calls = head.0.2; ending = rest.0.0; silent = rest.0.1; poll = rest.0.2 }) m last.2)
    (record {
      sound = record { name = top.name; few = top.few; calls = top.calls; silent = few };
      timed = record { least = top.timeout.0; most = top.timeout.1 };
      new = top.new;
    })

-- the names of the nodes
abbrev pub names : List ResourceDef → List ManagerDef → List (List ℕ)
names resources managers = map resource_name resources ++ map manager_name managers

neither : (a b : Bool) → (a || b) ≡ false → (a ≡ false) × (b ≡ false)
neither true b e = absurd cc
neither false b e = (refl, e)

-- one more manager whose name no node has
names_push : (resources : List ResourceDef) (managers : List ManagerDef) (m : ManagerDef) → is_node resources managers m.name ≡ false
    → AreDifferent (names resources managers) → AreDifferent (names resources (managers ++ m ∷ []))
names_push resources managers m new apart =
    let both = neither (list_any (is_resource_named m.name) resources) (list_any (is_manager_named m.name) managers) new in
    let none : list_any (same_text m.name) (names resources managers) ≡ false =
    list_any-append (same_text m.name) (map resource_name resources) (map manager_name managers)
    ∙ ap (λ b. b || list_any (same_text m.name) (map manager_name managers)) (any_map (same_text m.name) resource_name resources ∙ both.0)
    ∙ any_map (same_text m.name) manager_name managers ∙ both.1 in
    let whole : names resources managers ++ m.name ∷ [] ≡ names resources (managers ++ m ∷ []) =
    append_assoc (map resource_name resources) (map manager_name managers) (m.name ∷ []) ∙ ap (λ rest. map resource_name resources ++ rest) (sym (map_push manager_name managers m)) in
    subst AreDifferent whole (distinct_push same_text same_text_flips (names resources managers) m.name none apart)

-- the managers of a scenario with these resources
pub record AreManagers (resources : List ResourceDef) (managers : List ManagerDef) : Type 0 where
  pub few : length managers ≤ MANAGERS
  pub timed : All IsTimed managers
  pub each : All (IsManager resources) managers
  pub different : AreDifferent (names resources managers)

pub managers_ok : (resources : List ResourceDef) (timeout : ℕ) (d : Option Data) (managers : List ManagerDef) → IsBetween 1 TICKS timeout → AreDifferent (names resources [])
    → users.managers resources timeout d ≡ Ok managers → AreManagers resources managers
unfolding users.managers
managers_ok resources timeout d managers between alone e =
    let items = bind_ok (list MANAGERS d) _ _ e in
    let read = users.manager resources timeout in
    record {
      few = each_few read MANAGERS d items.0 managers items.1 items.2;
      timed = each_all read IsTimed (λ before one m reads. (manager_ok resources timeout before one m between reads).timed) items.0 managers items.2;
      each = each_all read (IsManager resources) (λ before one m reads. (manager_ok resources timeout before one m between reads).sound) items.0 managers items.2;
      different = each_keeps read (λ before. AreDifferent (names resources before))
          (λ before one m apart reads. names_push resources before m (manager_ok resources timeout before one m between reads).new apart) [] items.0 managers alone items.2;
    }
