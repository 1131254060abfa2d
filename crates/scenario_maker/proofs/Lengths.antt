-- The text of a made scenario is short enough to be read.
use Rattle.std.proofs.Common.{◌≤◌, ◌<◌, ◌+◌, ◌*◌, ◌^◌, ℕ, zero, suc, Bool, true, false, List, [], ◌++◌, length, codes, cond, nat_lt, length-append, arith}
use Rattle.std.specs.Prelude.{if◌then◌else◌}
use Rattle.seata_types.specs.declared.limits.TheConstants.{INPUT_BYTES}
use Rattle.scenario_maker.specs.declared.plans.Plan.{Plan}
use Rattle.scenario_maker.specs.Draws.{plan}
use Rattle.scenario_maker.specs.Made as text
use Rattle.scenario_maker.specs.Scenarios.{step_count}
use Rattle.scenario_maker.proofs.ListLemmas.{listed_suc}
use Rattle.scenario_maker.proofs.Numerals.{digits_few}
use Rattle.scenario_maker.proofs.Texts.{IsPlan, plan_is}

comma_length : (b : Bool) → length (cond b (codes ",") []) ≤ 1
comma_length true = omega arith
comma_length false = omega arith

no_items_length : (t : ℕ → List ℕ) → length (text.listed t 0) ≤ 0
unfolding text.listed
no_items_length t = omega arith

-- a list of items of fewer than 2000 bytes
listed_length : (t : ℕ → List ℕ) (most : ℕ) → ((k : ℕ) → k < most → length (t k) < 2000) → (count : ℕ) → count ≤ most → length (text.listed t count) ≤ 2000 * count
listed_length t most short zero few = no_items_length t
listed_length t most short (suc count) few =
    let rest = listed_length t most short count (omega arith) in
    let last = short count (omega arith) in
    let comma = comma_length (nat_lt 0 count) in
    rw (listed_suc t count) (simp length-append (omega arith))

payment_length : (resource : ℕ) (sign : List ℕ) (amount account : ℕ) → resource < 2 ^ 64 → length sign ≤ 1 → amount < 2 ^ 64 → account < 2 ^ 64
    → length (text.payment resource sign amount account) ≤ 200
unfolding text.payment
payment_length resource sign amount account a b c d =
    let x = digits_few resource a in
    let y = digits_few amount c in
    let z = digits_few account d in
    simp length-append (omega arith)

reservation_length : (resource stock : ℕ) → resource < 2 ^ 64 → stock < 2 ^ 64 → length (text.reservation resource stock) ≤ 500
unfolding text.reservation
reservation_length resource stock a b = let x = digits_few resource a in let y = digits_few stock b in simp length-append (omega arith)

perhaps_length : (b : Bool) (t : List ℕ) → length t ≤ 500 → length (if b then codes "," ++ t else []) ≤ 501
perhaps_length true t short = omega arith
perhaps_length false t short = omega arith

third_length : (p : Plan) → IsPlan p → length (text.third_call p) ≤ 501
unfolding text.third_call
third_length p is =
    perhaps_length p.reserves (text.reservation p.second p.payee) (reservation_length p.second p.payee (omega (arith, is.second.1)) (omega (arith, is.payee)))

calls_length : (p : Plan) → IsPlan p → length (text.calls p) ≤ 902
unfolding text.calls
calls_length p is =
    let one = payment_length p.first (codes "-") p.amount p.payer (omega (arith, is.first.1)) (omega arith) (omega (arith, is.amount)) (omega (arith, is.payer)) in
    let two = payment_length p.second (codes "+") p.amount p.payee (omega (arith, is.second.1)) (omega arith) (omega (arith, is.amount)) (omega (arith, is.payee)) in
    let last = third_length p is in
    simp length-append (omega arith)

end_by_length : (b : Bool) → length (if b then codes "rollback" else codes "commit") ≤ 8
end_by_length true = omega arith
end_by_length false = omega arith

end_length : (p : Plan) → length (text.end p) ≤ 8
unfolding text.end
end_length p = end_by_length p.rolls_back

manager_length : (n : ℕ) (p : Plan) → n < 2 ^ 64 → IsPlan p → length (text.manager n p) < 2000
unfolding text.manager
manager_length n p small is =
    let x = digits_few n small in
    let y = calls_length p is in
    let z = end_length p in
    simp length-append (omega arith)

manager_at_length : (number place : ℕ) → place < 256 → length (text.manager_at number place) < 2000
unfolding text.manager_at
manager_at_length number place small = manager_length (place + 1) (plan number (7 * place)) (omega arith) (plan_is number (7 * place))

resource_length : (place : ℕ) → place < 256 → length (text.resource_at place) < 2000
unfolding text.resource text.accounts text.stocks
resource_length place small = let x = digits_few (place + 1) (omega arith) in simp length-append (omega arith)

pub made_length : (number size : ℕ) → size ≤ 256 → length (text.made number size) ≤ INPUT_BYTES
unfolding text.made text.managers text.resources text.schedule
made_length number size most =
    let x = listed_length (text.manager_at number) 256 (manager_at_length number) size most in
    let y = listed_length text.resource_at 256 resource_length 4 (omega arith) in
    let z = digits_few (step_count size) (omega arith) in
    simp length-append (omega arith)
