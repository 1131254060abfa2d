-- The texts of the schedule.
use Rattle.std.specs.Prelude.{ℕ, ◌+◌, ◌==◌, ◌&&◌, nat_le, Bool, if◌then◌else◌, List, [], Option, Some, None, Ok, codes}
use Rattle.std.specs.List.{list_any, before_first, after_first}
use Rattle.serde_json.specs.Data.{Data}
use Rattle.serde_json.specs.Find.{as_str}
use Rattle.disk_model.specs.declared.disk.TheConstants.{LAST_PICK}
use Rattle.seata_types.specs.Orders.{same_text}
use Rattle.seata_types.specs.declared.limits.TheConstants.{SCHEDULE_MEMBERS, STEPS, STOP_CALLS, TICKS}
use Rattle.scenario_form.specs.declared.scenarios.ManagerDef.{ManagerDef}
use Rattle.scenario_form.specs.declared.scenarios.ResourceDef.{ResourceDef}
use Rattle.scenario_form.specs.declared.scenarios.ScheduleItem.{ScheduleItem}
use Rattle.scenario_form.specs.declared.scenarios.ScheduleItem.TheVariants as step
use Rattle.scenario_reader.specs.Faults.{Outcome, ◌>>=◌, wrong_shape, beyond, wrong_name, each, text_by, list}
use Rattle.scenario_reader.specs.Numbers.{is_plain, number_of_text, plain_number}
use Rattle.scenario_form.specs.Names.{is_word}
use Rattle.scenario_form.specs.Runnable.{all_steps, steps_of}
use Rattle.scenario_reader.specs.Nodes.{server, node}

abbrev pub is_space : ℕ → Bool
is_space c = c == 32

-- what stands before the first space of a text, and behind it
abbrev pub front : List ℕ → List ℕ
front text = before_first is_space text

abbrev pub behind : List ℕ → List ℕ
behind text = after_first is_space text

abbrev pub has_space : List ℕ → Bool
has_space text = list_any is_space text

-- ---- one step: the form of the whole text first, then its parts from the left

-- what stands behind the words `turn`, `deliver`, `wait` and `auto`: a node; a stamp; ticks; single steps
unfoldable pub turn : List ResourceDef → List ManagerDef → List ℕ → Outcome ScheduleItem
turn resources managers rest =
    if is_word rest then node resources managers rest >>= (λ at. Ok (step.Turn at)) else wrong_shape

unfoldable pub deliver : List ℕ → Outcome ScheduleItem
deliver rest = if is_plain rest then plain_number 1 STEPS rest >>= (λ k. Ok (step.Deliver k)) else wrong_shape

unfoldable pub wait : List ℕ → Outcome ScheduleItem
wait rest = if is_plain rest then plain_number 1 TICKS rest >>= (λ t. Ok (step.Wait t)) else wrong_shape

unfoldable pub auto : List ℕ → Outcome ScheduleItem
auto rest = if is_plain rest then plain_number 1 STEPS rest >>= (λ k. Ok (step.Auto k)) else wrong_shape

-- what stands behind `stop`: a node with disks, and calls
abbrev pub stop_at : List ResourceDef → List ℕ → List ℕ → Outcome ScheduleItem
stop_at resources name number = do
  at ← server resources name
  k ← plain_number 0 STOP_CALLS number
  Ok (step.Stop at k)

unfoldable pub stop : List ResourceDef → List ℕ → Outcome ScheduleItem
stop resources rest = if is_word (front rest) && is_plain (behind rest) then stop_at resources (front rest) (behind rest) else wrong_shape

-- what stands behind `crash`: a node with disks
unfoldable pub crash : List ResourceDef → List ℕ → Outcome ScheduleItem
crash resources rest = if is_word rest then server resources rest >>= (λ at. Ok (step.Crash at)) else wrong_shape

-- a restart of a node with disks: with its pick, and also with the calls after which a disk of it fails
abbrev pub restart_at : List ResourceDef → List ℕ → List ℕ → Outcome ScheduleItem
restart_at resources name picked = do
  at ← server resources name
  pick ← plain_number 0 LAST_PICK picked
  Ok (step.Restart at pick None)

abbrev pub armed_restart_at : List ResourceDef → List ℕ → List ℕ → List ℕ → Outcome ScheduleItem
armed_restart_at resources name picked number = do
  at ← server resources name
  pick ← plain_number 0 LAST_PICK picked
  k ← plain_number 0 STOP_CALLS number
  Ok (step.Restart at pick (Some k))

-- a restart whose disks fail, by what follows the node's name
unfoldable pub armed_restart : List ResourceDef → List ℕ → List ℕ → Outcome ScheduleItem
armed_restart resources name more =
    if is_word name && is_plain (front more) && is_plain (behind more) then armed_restart_at resources name (front more) (behind more) else wrong_shape

-- a restart without such calls, by what follows the node's name
unfoldable pub plain_restart : List ResourceDef → List ℕ → List ℕ → Outcome ScheduleItem
plain_restart resources name more = if is_word name && is_plain more then restart_at resources name more else wrong_shape

-- what stands behind `restart`: a node with disks, the pick, and the calls where a second space stands before them
unfoldable pub restart : List ResourceDef → List ℕ → Outcome ScheduleItem
restart resources rest =
    if has_space (behind rest) then armed_restart resources (front rest) (behind rest) else plain_restart resources (front rest) (behind rest)

-- the number of one of so many locals, counted from 1
unfoldable pub local_number : ℕ → List ℕ → Outcome ℕ
local_number count rest =
    if is_plain rest
    then (if nat_le 1 (number_of_text rest) && nat_le (number_of_text rest) count then Ok (number_of_text rest) else wrong_name)
    else wrong_shape

-- a step of this word, by what follows it
unfoldable pub step_of : List ResourceDef → List ManagerDef → ℕ → List ℕ → List ℕ → Outcome ScheduleItem
step_of resources managers count word rest =
    if same_text word (codes "turn") then turn resources managers rest
    else (if same_text word (codes "deliver") then deliver rest
    else (if same_text word (codes "wait") then wait rest
    else (if same_text word (codes "stop") then stop resources rest
    else (if same_text word (codes "crash") then crash resources rest
    else (if same_text word (codes "restart") then restart resources rest
    else (if same_text word (codes "auto") then auto rest
    else (if same_text word (codes "local") then local_number count rest >>= (λ k. Ok (step.Local k))
    else (if same_text word (codes "outside") then local_number count rest >>= (λ k. Ok (step.Outside k)) else wrong_shape))))))))

-- a step of the schedule
unfoldable pub item_of : List ResourceDef → List ManagerDef → ℕ → Data → Outcome ScheduleItem
item_of resources managers count d = do
  text ← text_by (as_str d)
  step_of resources managers count (front text) (behind text)

-- ---- the schedule

-- a step of the schedule, behind these
unfoldable pub next_item : List ResourceDef → List ManagerDef → ℕ → List ScheduleItem → Data → Outcome ScheduleItem
next_item resources managers count items d = do
  found ← item_of resources managers count d
  if nat_le (all_steps items + steps_of found) STEPS then Ok found else beyond STEPS

-- the schedule, each step behind those before it
unfoldable pub schedule : List ResourceDef → List ManagerDef → ℕ → Option Data → Outcome (List ScheduleItem)
schedule resources managers count d = do
  items ← list SCHEDULE_MEMBERS d
  each (next_item resources managers count) [] items
