-- The data of a made scenario reads as itself from its compact text.
use Rattle.std.proofs.Common.{◌≡◌, ◌≤◌, ◌<◌, ◌+◌, ◌*◌, ◌^◌, ℕ, zero, suc, Bool, true, false, List, codes, refl, arith}
use Rattle.std.proofs.lemmas.Bool.{and_from}
use Rattle.serde_json.specs.Data.{Data, string, Items, no_items, item}
use Rattle.serde_json.specs.Written.{compact_text}
use Rattle.scenario_reader.specs.Bases.{IsTextOf}
use Rattle.scenario_maker.specs.declared.plans.Plan.{Plan}
use Rattle.scenario_maker.specs.Draws.{plan}
use Rattle.scenario_maker.specs.Made.{end}
use Rattle.scenario_maker.specs.Scenarios.{step_count}
use Rattle.scenario_maker.proofs.ReadBack.{is_bare, is_proper, items_proper, text_of}
use Rattle.scenario_maker.proofs.Shapes.{items_by, server_name, user_name, payment_sql, cancel_sql, confirm_sql, try_sql, at_call, tcc_call, payment_call, reservation_call, perhaps, plan_calls, manager_data, user_data, accounts_data, stocks_data, server_data, server_at, scenario_data, step_text, data_with, made_data}
use Rattle.scenario_maker.proofs.Texts.{IsPlan, plan_is, server_bare, user_bare, payment_bare, cancel_bare, confirm_bare, try_bare, end_bare, step_bare}

-- ---- parts

at_proper : (name sql : List ℕ) → is_bare name ≡ true → is_bare sql ≡ true → is_proper (at_call name sql) 4 ≡ true
unfolding at_call
at_proper name sql a b = rw (a, b) refl

tcc_proper : (name cancel confirm try : List ℕ) → is_bare name ≡ true → is_bare cancel ≡ true → is_bare confirm ≡ true → is_bare try ≡ true
    → is_proper (tcc_call name cancel confirm try) 4 ≡ true
unfolding tcc_call
tcc_proper name cancel confirm try a b c d = rw (a, b, c, d) refl

payment_proper : (resource : ℕ) (sign : List ℕ) (amount account : ℕ) → resource < 2 ^ 64 → is_bare sign ≡ true → amount < 2 ^ 64 → account < 2 ^ 64
    → is_proper (payment_call resource sign amount account) 4 ≡ true
unfolding payment_call
payment_proper resource sign amount account a bare b c =
    at_proper (server_name resource) (payment_sql sign amount account) (server_bare resource a) (payment_bare sign amount account bare b c)

reservation_proper : (resource stock : ℕ) → resource < 2 ^ 64 → stock < 2 ^ 64 → is_proper (reservation_call resource stock) 4 ≡ true
unfolding reservation_call
reservation_proper resource stock a b =
    tcc_proper (server_name resource) (cancel_sql stock) (confirm_sql stock) (try_sql stock) (server_bare resource a) (cancel_bare stock b) (confirm_bare stock b) (try_bare stock b)

two_and_perhaps : (b : Bool) (x y z : Data) → is_proper x 4 ≡ true → is_proper y 4 ≡ true → is_proper z 4 ≡ true → items_proper (item x (item y (perhaps b z))) 4 ≡ true
two_and_perhaps true x y z i j k = rw (i, j, k) refl
two_and_perhaps false x y z i j k = rw (i, j) refl

calls_proper : (p : Plan) → IsPlan p → items_proper (plan_calls p) 4 ≡ true
unfolding plan_calls
calls_proper p is =
    two_and_perhaps p.reserves (payment_call p.first (codes "-") p.amount p.payer) (payment_call p.second (codes "+") p.amount p.payee) (reservation_call p.second p.payee)
    (payment_proper p.first (codes "-") p.amount p.payer (omega (arith, is.first.1)) refl (omega (arith, is.amount)) (omega (arith, is.payer)))
    (payment_proper p.second (codes "+") p.amount p.payee (omega (arith, is.second.1)) refl (omega (arith, is.amount)) (omega (arith, is.payee)))
    (reservation_proper p.second p.payee (omega (arith, is.second.1)) (omega (arith, is.payee)))

manager_proper : (called : Items) (ended name : List ℕ) → items_proper called 4 ≡ true → is_bare ended ≡ true → is_bare name ≡ true → is_proper (manager_data called ended name) 6 ≡ true
unfolding manager_data
manager_proper called ended name a b c = rw (a, b, c) refl

user_proper : (number place : ℕ) → place < 256 → is_proper (user_data number place) 6 ≡ true
unfolding user_data
user_proper number place small =
    let p : Plan = plan number (7 * place) in
    manager_proper (plan_calls p) (end p) (user_name (place + 1)) (calls_proper p (plan_is number (7 * place))) (end_bare p) (user_bare (place + 1) (omega arith))

accounts_proper : is_proper accounts_data 4 ≡ true
unfolding accounts_data
accounts_proper = refl

stocks_proper : is_proper stocks_data 4 ≡ true
unfolding stocks_data
stocks_proper = refl

server_proper : (name : List ℕ) → is_bare name ≡ true → is_proper (server_data name) 6 ≡ true
unfolding server_data
server_proper name a = rw (a, accounts_proper, stocks_proper) refl

server_at_proper : (place : ℕ) → place < 256 → is_proper (server_at place) 6 ≡ true
server_at_proper place small = server_proper (server_name (place + 1)) (server_bare (place + 1) (omega arith))

all_proper : (f : ℕ → Data) → ((k : ℕ) → k < 256 → is_proper (f k) 6 ≡ true) → (count place : ℕ) → place + count ≤ 256 → items_proper (items_by f place count) 6 ≡ true
unfolding items_by
all_proper f each zero place fits = refl
all_proper f each (suc count) place fits =
    and_from (is_proper (f place) 6) (items_proper (items_by f (place + 1) count) 6) (each place (omega arith)) (all_proper f each count (place + 1) (omega arith))

whole_proper : (ms rs ss : Items) → items_proper ms 6 ≡ true → items_proper rs 6 ≡ true → items_proper ss 6 ≡ true → is_proper (scenario_data ms rs ss) 8 ≡ true
unfolding scenario_data
whole_proper ms rs ss a b c = rw (a, b, c) refl

-- ---- the whole

-- the data, with this schedule, has a text
pub data_text : (schedule : Items) (number size : ℕ) → size ≤ 256 → items_proper schedule 6 ≡ true
    → IsTextOf (data_with schedule number size) (compact_text (data_with schedule number size))
data_text schedule number size most proper =
    text_of (data_with schedule number size) 8 (omega arith)
    (whole_proper (items_by (user_data number) 0 size) (items_by server_at 0 4) schedule (all_proper (user_data number) (user_proper number) size 0 (omega arith))
    (all_proper server_at server_at_proper 4 0 (omega arith)) proper)

one_proper : (s : List ℕ) → is_bare s ≡ true → items_proper (item (string s) no_items) 6 ≡ true
one_proper s a = rw a refl

pub made_data_text : (number size : ℕ) → size ≤ 256 → IsTextOf (made_data number size) (compact_text (made_data number size))
made_data_text number size most =
    data_text (item (string (step_text (step_count size))) no_items) number size most (one_proper (step_text (step_count size)) (step_bare (step_count size) (omega arith)))
