-- The text of a made scenario is a scenario.
use Rattle.std.proofs.Common.{◌≡◌, ◌≤◌, ◌+◌, ℕ, true, false, nat_le, nat_lt, List, [], ◌∷◌, decimal, Some, Ok, IsUtf8, refl, ap, sym, ◌∙◌, subst, le-leb, le-ltb, arith}
use Rattle.serde_json.specs.Data.{Data, string, array, Items, no_items, item}
use Rattle.serde_json.specs.Read.{read}
use Rattle.serde_json.specs.Written.{compact_text}
use Rattle.seata_types.specs.declared.limits.TheConstants.{DEFAULT_DISK, DEFAULT_LOCK_TRIES, DEFAULT_RETRY, DEFAULT_TIMEOUT, STEPS}
use Rattle.scenario_form.specs.declared.scenarios.ManagerDef.{ManagerDef}
use Rattle.scenario_form.specs.declared.scenarios.ResourceDef.{ResourceDef}
use Rattle.scenario_form.specs.declared.scenarios.ScheduleItem.{ScheduleItem}
use Rattle.scenario_form.specs.declared.scenarios.ScheduleItem.TheVariants as step
use Rattle.scenario_reader.specs.Bases.{kept, IsTextOf}
use Rattle.scenario_reader.specs.Calls.{locals}
use Rattle.scenario_reader.specs.Faults.{list, only}
use Rattle.scenario_reader.specs.Form as form
use Rattle.scenario_reader.specs.Managers as users
use Rattle.scenario_reader.specs.Nodes.{stops}
use Rattle.scenario_reader.specs.Numbers.{number_or, plain_number}
use Rattle.scenario_reader.specs.Reading.{IsJson, IsScenario, IsScenarioOf, with_base}
use Rattle.scenario_reader.specs.Resources as servers
use Rattle.scenario_reader.specs.Steps as steps
use Rattle.scenario_maker.specs.Draws.{plan}
use Rattle.scenario_maker.specs.Made.{made}
use Rattle.scenario_maker.specs.Scenarios.{managers, resources, step_count, scenario, IsMadeScenario}
use Rattle.scenario_maker.proofs.Lengths.{made_length}
use Rattle.scenario_maker.proofs.Numerals.{number_is, plain_is}
use Rattle.scenario_maker.proofs.Proper.{data_text, made_data_text}
use Rattle.scenario_maker.proofs.Servers.{servers_read}
use Rattle.scenario_maker.proofs.Shapes.{items_by, user_data, server_at, scenario_data, step_text, data_with, made_data}
use Rattle.scenario_maker.proofs.Texts.{made_text}
use Rattle.scenario_maker.proofs.Users.{users_read}

-- ---- the schedule

auto_read : (count : ℕ) → 1 ≤ count → count ≤ STEPS → steps.auto (decimal count) ≡ Ok (step.Auto count)
unfolding steps.auto plain_number
auto_read count least most =
    let low : nat_lt count 1 ≡ false = le-ltb count 1 least in
    let high : nat_lt STEPS count ≡ false = le-ltb STEPS count most in
    rw (plain_is count least (omega arith), number_is count (omega arith), low, high) refl

step_read : (before : List ResourceDef) (defs : List ManagerDef) (count : ℕ) → 1 ≤ count → count ≤ STEPS
    → steps.item_of before defs 0 (string (step_text count)) ≡ Ok (step.Auto count)
unfolding steps.item_of steps.step_of
step_read before defs count least most = auto_read count least most

schedule_read : (before : List ResourceDef) (defs : List ManagerDef) (count : ℕ) → 1 ≤ count → count ≤ STEPS
    → steps.schedule before defs 0 (Some (array (item (string (step_text count)) no_items))) ≡ Ok (step.Auto count ∷ [])
unfolding steps.schedule steps.next_item list
schedule_read before defs count least most =
    let fits : nat_le (0 + count) STEPS ≡ true = le-leb (0 + count) STEPS (omega arith) in
    rw (step_read before defs count least most, fits) refl

-- ---- the form

whole_read : (ms rs ss : Items) (found : List ResourceDef) (defs : List ManagerDef) (plan : List ScheduleItem) → servers.resources (Some (array rs)) ≡ Ok found
    → users.managers found DEFAULT_TIMEOUT (Some (array ms)) ≡ Ok defs → steps.schedule found defs 0 (Some (array ss)) ≡ Ok plan
    → form.scenario_of (scenario_data ms rs ss)
    ≡ Ok (record {
      timeout = DEFAULT_TIMEOUT;
      lock_tries = DEFAULT_LOCK_TRIES;
      retry = DEFAULT_RETRY;
      forget = 0;
      disk = DEFAULT_DISK;
      resources = found;
      managers = defs;
      locals = [];
      stops = [];
      schedule = plan;
      base = [];
    })
unfolding form.scenario_of form.parts form.nodes form.servers form.settings form.events form.only_members only number_or locals stops scenario_data
whole_read ms rs ss found defs plan a b c = rw (a, b, c) refl

-- ---- the whole

-- the text under which it is kept, without its schedule
abbrev kept_text : ℕ → ℕ → List ℕ
kept_text number size = compact_text (data_with no_items number size)

kept_is : (ms rs ss : Items) → kept (scenario_data ms rs ss) ≡ scenario_data ms rs no_items
unfolding scenario_data
kept_is ms rs ss = refl

scenario_is : (number size : ℕ) → 1 ≤ size → size ≤ 256 → IsScenarioOf (made_data number size) (with_base (kept_text number size) (scenario number size))
unfolding IsScenarioOf scenario
scenario_is number size least most =
    let ms = items_by (user_data number) 0 size in
    let rs = items_by server_at 0 4 in
    let ss = item (string (step_text (step_count size))) no_items in
    let reads = whole_read ms rs ss resources (managers number size) (step.Auto (step_count size) ∷ []) servers_read (users_read number size most)
    (schedule_read resources (managers number size) (step_count size) (omega arith) (omega arith)) in
    let base = data_text no_items number size most refl in
    (reads, subst (λ (d : Data). IsTextOf d (kept_text number size)) (sym (kept_is ms rs ss)) base)

made_is : (number size : ℕ) → 1 ≤ size → size ≤ 256 → IsScenario (made number size) (with_base (kept_text number size) (scenario number size))
unfolding IsScenario IsJson
made_is number size least most =
    let same = made_text number size most in
    let d = made_data number size in
    let printed = made_data_text number size most in
    (made_length number size most, d, (subst IsUtf8 same printed.utf8, ap (λ (t : List ℕ). read t) (sym same) ∙ printed.reads), scenario_is number size least most)

pub made_is_scenario : (number size : ℕ) → 1 ≤ size → size ≤ 256 → IsMadeScenario number size
made_is_scenario number size least most = (kept_text number size, made_is number size least most)
