-- The managers of a made scenario are read.
use Rattle.std.proofs.Common.{◌≡◌, ◌≤◌, ◌<◌, ◌+◌, ◌*◌, ◌^◌, ◌||◌, ℕ, zero, suc, Bool, true, false, nat_le, List, [], ◌∷◌, ◌++◌, length, codes, decimal, Some, None, Ok, refl, ap, ◌∙◌, le-leb, arith}
use Rattle.std.specs.List.{list_all, list_any}
use Rattle.std.specs.Prelude.{if◌then◌else◌}
use Rattle.std.proofs.lemmas.Bool.Decides.{nat_tests}
use Rattle.std.proofs.lemmas.Fmt.{length-decimal-le}
use Rattle.std.proofs.lemmas.List.Folds.{list_any-append}
use Rattle.serde_json.specs.Data.{Data, string, array, Items}
use Rattle.seata_types.specs.declared.limits.TheConstants.{DEFAULT_TIMEOUT, MANAGERS, NODE_NAME_BYTES}
use Rattle.seata_types.specs.declared.statements.Work.{Work}
use Rattle.seata_types.specs.declared.statuses.Ending.{Ending}
use Rattle.seata_types.specs.declared.statuses.Ending.TheVariants as how
use Rattle.scenario_form.specs.declared.scenarios.ManagerDef.{ManagerDef}
use Rattle.scenario_form.specs.Names.{is_word_byte, is_node_name}
use Rattle.scenario_reader.specs.Faults.{Outcome, items_length, text, list, each, only}
use Rattle.scenario_reader.specs.Managers as reader
use Rattle.scenario_reader.specs.Calls as form
use Rattle.scenario_reader.specs.Names.{new_node, new_node_name, is_node, is_manager_named}
use Rattle.scenario_reader.specs.Numbers.{number_or}
use Rattle.scenario_maker.specs.declared.plans.Plan.{Plan}
use Rattle.scenario_maker.specs.Draws.{plan}
use Rattle.scenario_maker.specs.Made.{end}
use Rattle.scenario_maker.specs.Scenarios.{calls, manager, managers, resource, resources}
use Rattle.scenario_maker.proofs.Calls.{plan_calls_read}
use Rattle.scenario_maker.proofs.Numerals.{each_digit, digits_differ}
use Rattle.scenario_maker.proofs.Shapes.{items_by, user_name, plan_calls, manager_data, user_data}
use Rattle.scenario_maker.proofs.Texts.{plan_is}

-- ---- their names

word_digit : (d : ℕ) → d < 10 → is_word_byte (48 + d) ≡ true
word_digit d low = grind (arith, nat_tests)

named_well : (n : ℕ) → n < 2 ^ 64 → is_node_name (user_name n) ≡ true
unfolding is_node_name
named_well n small = let digits : list_all is_word_byte (decimal n) ≡ true = each_digit is_word_byte word_digit n small in rw digits refl

named_briefly : (n : ℕ) → n < 1000 → nat_le (length (user_name n)) NODE_NAME_BYTES ≡ true
named_briefly n small =
    let few : length (decimal n) ≤ 3 = length-decimal-le 3 n (omega arith) (omega arith) (omega arith) in le-leb (length (user_name n)) NODE_NAME_BYTES (omega arith)

other_name : (number n place : ℕ) → place < n → n < 1000 → is_manager_named (user_name (n + 1)) (manager number place) ≡ false
unfolding manager
other_name number n place below small = digits_differ (n + 1) (place + 1) (omega arith) (omega arith) (λ e. omega arith)

-- the name of a manager is that of none before it
unused : (number n count : ℕ) → count ≤ n → n < 1000 → list_any (is_manager_named (user_name (n + 1))) (managers number count) ≡ false
unfolding managers
unused number n zero few small = refl
unused number n (suc count) few small =
    let rest = unused number n count (omega arith) small in
    let last = other_name number n count (omega arith) small in
    list_any-append (is_manager_named (user_name (n + 1))) (managers number count) (manager number count ∷ []) ∙ both_false rest last
  where
    both_false : {a b : Bool} → a ≡ false → b ≡ false → (a || (b || false)) ≡ false
    both_false {a} {b} x y = rw (x, y) refl

new_name : (before : List ManagerDef) (name : List ℕ) → is_node_name name ≡ true → nat_le (length name) NODE_NAME_BYTES ≡ true → is_node resources before name ≡ false
    → new_node resources before (Some (string name)) ≡ Ok name
unfolding new_node new_node_name text
new_name before name well brief none = rw (well, brief, none) refl

no_server : (before : List ManagerDef) (n : ℕ) → list_any (is_manager_named (user_name n)) before ≡ false → is_node resources before (user_name n) ≡ false
unfolding resources resource
no_server before n none = none

user_name_read : (number place : ℕ) → place < 256 → new_node resources (managers number place) (Some (string (user_name (place + 1)))) ≡ Ok (user_name (place + 1))
user_name_read number place small =
    new_name (managers number place) (user_name (place + 1)) (named_well (place + 1) (omega arith)) (named_briefly (place + 1) (omega arith))
    (no_server (managers number place) (place + 1) (unused number place place (omega arith) (omega arith)))

-- ---- one manager

abbrev ending_by : Bool → Ending
ending_by b = if b then how.Rollback else how.Commit

ending_read : (b : Bool) → reader.ending (Some (string (if b then codes "rollback" else codes "commit"))) ≡ Ok (ending_by b)
unfolding reader.ending text
ending_read true = refl
ending_read false = refl

manager_read : (timeout : ℕ) (before : List ManagerDef) (called : Items) (ended name : List ℕ) (work : List (ℕ × Work)) (ending : Ending)
    → new_node resources before (Some (string name)) ≡ Ok name → form.calls resources (Some (array called)) ≡ Ok work → reader.ending (Some (string ended)) ≡ Ok ending
    → reader.manager resources timeout before (manager_data called ended name)
    ≡ Ok (record { name = name; timeout = timeout; calls = work; ending = ending; silent = None; poll = false })
unfolding reader.manager reader.heading reader.closing reader.silent reader.poll manager_data number_or only
manager_read timeout before called ended name work ending a b c = rw (a, b, c) refl

user_read : (number place : ℕ) → place < 256 → reader.manager resources DEFAULT_TIMEOUT (managers number place) (user_data number place) ≡ Ok (manager number place)
unfolding manager user_data end
user_read number place small =
    let p : Plan = plan number (7 * place) in
    manager_read DEFAULT_TIMEOUT (managers number place) (plan_calls p) (end p) (user_name (place + 1)) (calls p) (ending_by p.rolls_back) (user_name_read number place small)
    (plan_calls_read p (plan_is number (7 * place))) (ending_read p.rolls_back)

-- ---- all of them

abbrev pub read_user : List ManagerDef → Data → Outcome ManagerDef
read_user = reader.manager resources DEFAULT_TIMEOUT

users_from : (number count place : ℕ) → place + count ≤ 256 → each read_user (managers number place) (items_by (user_data number) place count) ≡ Ok (managers number (place + count))
unfolding items_by managers
users_from number zero place fits = let none : place ≡ place + 0 = omega arith in ap (λ (n : ℕ). Ok (managers number n)) none
users_from number (suc count) place fits =
    let next : suc place ≡ place + 1 = omega arith in
    let sum : place + 1 + count ≡ place + suc count = omega arith in
    let one : managers number place ++ manager number place ∷ [] ≡ managers number (place + 1) = ap (managers number) next in
    rw (user_read number place (omega arith))
    (ap (λ (before : List ManagerDef). each read_user before (items_by (user_data number) (place + 1) count)) one
    ∙ users_from number count (place + 1) (omega arith) ∙ ap (λ (n : ℕ). Ok (managers number n)) sum)

pub items_count : (f : ℕ → Data) (count place : ℕ) → items_length (items_by f place count) ≡ count
unfolding items_by
items_count f zero place = refl
items_count f (suc count) place = ap suc (items_count f count (place + 1))

pub users_read : (number size : ℕ) → size ≤ 256 → reader.managers resources DEFAULT_TIMEOUT (Some (array (items_by (user_data number) 0 size))) ≡ Ok (managers number size)
unfolding reader.managers list managers
users_read number size most =
    let count = items_count (user_data number) size 0 in
    let few : nat_le (items_length (items_by (user_data number) 0 size)) MANAGERS ≡ true = le-leb (items_length (items_by (user_data number) 0 size)) MANAGERS (omega arith) in
    let sum : 0 + size ≡ size = omega arith in
    rw few (users_from number size 0 (omega arith) ∙ ap (λ (n : ℕ). Ok (managers number n)) sum)
