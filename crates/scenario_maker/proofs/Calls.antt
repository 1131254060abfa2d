-- The calls of a made scenario are read.
use Rattle.std.proofs.Common.{◌≡◌, ◌≤◌, ◌<◌, ◌+◌, ◌-◌, ◌^◌, ℕ, zero, suc, Bool, true, false, List, [], ◌∷◌, codes, Some, Ok, refl, subst, arith}
use Rattle.std.specs.Fmt.{digits}
use Rattle.std.specs.Prelude.{if◌then◌else◌}
use Rattle.serde_json.specs.Data.{Data, string, array, item}
use Rattle.seata_types.specs.declared.statements.Sign.{Sign}
use Rattle.seata_types.specs.declared.statements.Sign.TheVariants as sign
use Rattle.seata_types.specs.declared.statements.Stmt.{Stmt}
use Rattle.seata_types.specs.declared.statements.Work.{Work}
use Rattle.seata_types.specs.declared.statements.Work.TheVariants as work
use Rattle.seata_types.specs.declared.statuses.BranchKind.TheVariants as kind
use Rattle.scenario_reader.specs.Calls as reader
use Rattle.scenario_reader.specs.Faults.{text, list, only}
use Rattle.scenario_maker.specs.declared.plans.Plan.{Plan}
use Rattle.scenario_maker.specs.Scenarios.{payment, try, confirm, cancel, paying, reserving, calls, accounts, stocks, schema, resource, resources}
use Rattle.scenario_maker.proofs.Shapes.{alone, server_name, payment_sql, cancel_sql, confirm_sql, try_sql, at_call, tcc_call, payment_call, reservation_call, perhaps, plan_calls}
use Rattle.scenario_maker.proofs.Statements.{sign_text, payment_reads, cancel_reads, confirm_reads, try_reads}
use Rattle.scenario_maker.proofs.Texts.{IsPlan}

-- ---- the resource of a call

first_at : reader.resource_at resources (Some (string (server_name 1))) ≡ Ok 0
unfolding reader.resource_at reader.resource_place text resources resource digits
first_at = refl

second_at : reader.resource_at resources (Some (string (server_name 2))) ≡ Ok 1
unfolding reader.resource_at reader.resource_place text resources resource digits
second_at = refl

third_at : reader.resource_at resources (Some (string (server_name 3))) ≡ Ok 2
unfolding reader.resource_at reader.resource_place text resources resource digits
third_at = refl

fourth_at : reader.resource_at resources (Some (string (server_name 4))) ≡ Ok 3
unfolding reader.resource_at reader.resource_place text resources resource digits
fourth_at = refl

-- a resource that is found, with its tables
record IsAt (place : ℕ) : Type 0 where
  found : reader.resource_at resources (Some (string (server_name (place + 1)))) ≡ Ok place
  has : reader.schema_at resources place ≡ schema

place_is : (place : ℕ) → place < 4 → IsAt place
unfolding resources resource
place_is zero low = record { found = first_at; has = refl }
place_is (suc zero) low = record { found = second_at; has = refl }
place_is (suc (suc zero)) low = record { found = third_at; has = refl }
place_is (suc (suc (suc zero))) low = record { found = fourth_at; has = refl }
place_is (suc (suc (suc (suc k)))) low = absurd (omega arith)

-- ---- where the statements stand

payment_stands : (how : Sign) (amount account : ℕ) → reader.standing schema kind.At (payment how amount account) ≡ Ok (payment how amount account)
unfolding reader.standing schema accounts payment
payment_stands how amount account = refl

cancel_stands : (stock : ℕ) → reader.standing schema kind.Tcc (cancel stock) ≡ Ok (cancel stock)
unfolding reader.standing schema accounts stocks cancel
cancel_stands stock = refl

confirm_stands : (stock : ℕ) → reader.standing schema kind.Tcc (confirm stock) ≡ Ok (confirm stock)
unfolding reader.standing schema accounts stocks confirm
confirm_stands stock = refl

try_stands : (stock : ℕ) → reader.standing schema kind.Tcc (try stock) ≡ Ok (try stock)
unfolding reader.standing schema accounts stocks try
try_stands stock = refl

-- ---- a call

at_read : (place : ℕ) (sql : List ℕ) (s : Stmt) → place < 4 → reader.statements schema kind.At (Some (alone (string sql))) ≡ Ok (s ∷ [])
    → reader.call resources (at_call (server_name (place + 1)) sql) ≡ Ok (place + 1, work.At (s ∷ []))
unfolding reader.call reader.at_work at_call only
at_read place sql s low reads = let is = place_is place low in rw (is.found, is.has, reads) refl

tcc_read : (place : ℕ) (undo do_it ask : List ℕ) (r s t : Stmt) → place < 4 → reader.statements schema kind.Tcc (Some (alone (string undo))) ≡ Ok (r ∷ [])
    → reader.statements schema kind.Tcc (Some (alone (string do_it))) ≡ Ok (s ∷ []) → reader.statements schema kind.Tcc (Some (alone (string ask))) ≡ Ok (t ∷ [])
    → reader.call resources (tcc_call (server_name (place + 1)) undo do_it ask)
    ≡ Ok (place + 1, work.Tcc (record { tries = t ∷ []; confirms = s ∷ []; cancels = r ∷ [] }))
unfolding reader.call reader.tcc_work tcc_call only
tcc_read place undo do_it ask r s t low a b c = let is = place_is place low in rw (is.found, is.has, c, b, a) refl

paying_read : (resource : ℕ) (how : Sign) (amount account : ℕ) → (1 ≤ resource) × (resource ≤ 4) → amount < 2 ^ 63 → account < 2 ^ 63
    → reader.call resources (payment_call resource (sign_text how) amount account) ≡ Ok (paying resource how amount account)
unfolding payment_call paying
paying_read resource how amount account at a b =
    let sql = payment_sql (sign_text how) amount account in
    let back : resource - 1 + 1 ≡ resource = omega (arith, at.0) in
    let reads = payment_reads schema kind.At how amount account a b (payment_stands how amount account) in
    subst (λ (r : ℕ). reader.call resources (at_call (server_name r) sql) ≡ Ok (r, work.At (payment how amount account ∷ []))) back
    (at_read (resource - 1) sql (payment how amount account) (omega (arith, at.0, at.1)) reads)

reserving_read : (resource stock : ℕ) → (1 ≤ resource) × (resource ≤ 4) → stock < 2 ^ 63
    → reader.call resources (reservation_call resource stock) ≡ Ok (reserving resource stock)
unfolding reservation_call reserving
reserving_read resource stock at a =
    let back : resource - 1 + 1 ≡ resource = omega (arith, at.0) in
    subst (λ (r : ℕ). reader.call resources (tcc_call (server_name r) (cancel_sql stock) (confirm_sql stock) (try_sql stock))
    ≡ Ok (r, work.Tcc (record { tries = try stock ∷ []; confirms = confirm stock ∷ []; cancels = cancel stock ∷ [] }))) back
    (tcc_read (resource - 1) (cancel_sql stock) (confirm_sql stock) (try_sql stock) (cancel stock) (confirm stock) (try stock) (omega (arith, at.0, at.1))
    (cancel_reads schema kind.Tcc stock a (cancel_stands stock)) (confirm_reads schema kind.Tcc stock a (confirm_stands stock))
    (try_reads schema kind.Tcc stock a (try_stands stock)))

-- ---- the calls of a plan

two_and_perhaps : (b : Bool) (x y z : Data) (r s t : ℕ × Work) → reader.call resources x ≡ Ok r → reader.call resources y ≡ Ok s → reader.call resources z ≡ Ok t
    → reader.calls resources (Some (array (item x (item y (perhaps b z))))) ≡ Ok (r ∷ s ∷ (if b then t ∷ [] else []))
unfolding reader.calls list
two_and_perhaps true x y z r s t i j k = rw (i, j, k) refl
two_and_perhaps false x y z r s t i j k = rw (i, j) refl

pub plan_calls_read : (p : Plan) → IsPlan p → reader.calls resources (Some (array (plan_calls p))) ≡ Ok (calls p)
unfolding plan_calls calls
plan_calls_read p is =
    two_and_perhaps p.reserves (payment_call p.first (codes "-") p.amount p.payer) (payment_call p.second (codes "+") p.amount p.payee) (reservation_call p.second p.payee)
    (paying p.first sign.Minus p.amount p.payer) (paying p.second sign.Plus p.amount p.payee) (reserving p.second p.payee)
    (paying_read p.first sign.Minus p.amount p.payer is.first (omega (arith, is.amount)) (omega (arith, is.payer)))
    (paying_read p.second sign.Plus p.amount p.payee is.second (omega (arith, is.amount)) (omega (arith, is.payee)))
    (reserving_read p.second p.payee is.second (omega (arith, is.payee)))
