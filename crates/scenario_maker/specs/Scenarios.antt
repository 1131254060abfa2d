-- The scenario that is made of a number for so many managers.
use Rattle.std.specs.Prelude.{ℕ, zero, suc, ◌+◌, ◌*◌, min, false, if◌then◌else◌, List, [], ◌∷◌, ◌++◌, map, pos, None, Some, codes, decimal}
use Rattle.std.specs.List.{range_with_len}
use Rattle.seata_types.specs.Condition.{Condition}
use Rattle.seata_types.specs.Condition as tree
use Rattle.seata_types.specs.declared.conditions.Op.TheVariants as op
use Rattle.seata_types.specs.declared.limits.TheConstants.{DEFAULT_DISK, DEFAULT_LOCK_TRIES, DEFAULT_RETRY, DEFAULT_TIMEOUT}
use Rattle.seata_types.specs.declared.rows.Row.{Row}
use Rattle.seata_types.specs.declared.rows.Value.TheVariants as value
use Rattle.seata_types.specs.declared.statements.Expr.{Expr}
use Rattle.seata_types.specs.declared.statements.Sign.{Sign}
use Rattle.seata_types.specs.declared.statements.Sign.TheVariants as sign
use Rattle.seata_types.specs.declared.statements.Stmt.{Stmt}
use Rattle.seata_types.specs.declared.statements.Stmt.TheVariants as stmt
use Rattle.seata_types.specs.declared.statements.Term.TheVariants as part
use Rattle.seata_types.specs.declared.statements.Work.{Work}
use Rattle.seata_types.specs.declared.statements.Work.TheVariants as work
use Rattle.seata_types.specs.declared.statuses.BranchKind.TheVariants as kind
use Rattle.seata_types.specs.declared.statuses.Ending.TheVariants as how
use Rattle.local_tables.specs.declared.schemas.ColType.TheVariants as type
use Rattle.local_tables.specs.declared.schemas.Schema.{Schema}
use Rattle.local_tables.specs.declared.schemas.TableDef.{TableDef}
use Rattle.scenario_form.specs.declared.scenarios.ManagerDef.{ManagerDef}
use Rattle.scenario_form.specs.declared.scenarios.ResourceDef.{ResourceDef}
use Rattle.scenario_form.specs.declared.scenarios.Scenario.{Scenario}
use Rattle.scenario_form.specs.declared.scenarios.ScheduleItem.TheVariants as step
use Rattle.scenario_reader.specs.Reading.{IsFault, IsScenario, with_base}
use Rattle.scenario_reader.specs.Resources.{named_rows}
use Rattle.scenario_reader.specs.Tables.{row_of}
use Rattle.scenario_reader.specs.declared.errors.ScenarioError.{ScenarioError}
use Rattle.scenario_maker.specs.declared.plans.Plan.{Plan}
use Rattle.scenario_maker.specs.Draws.{plan}
use Rattle.scenario_maker.specs.Made.{made}

-- ---- statements

-- a column becomes what it was with a number added, or taken away
abbrev pub set_by : List ℕ → Sign → ℕ → List ℕ × Expr
set_by column direction amount = (column, record { first = part.Column column; rest = (direction, part.Lit (value.Int (pos amount))) ∷ [] })

abbrev pub has_id : ℕ → Condition
has_id n = tree.Cmp (codes "id") op.Eq (value.Int (pos n))

-- an account gets an amount, or loses it
unfoldable pub payment : Sign → ℕ → ℕ → Stmt
payment direction amount account = stmt.Update (codes "acc") (set_by (codes "m") direction amount ∷ []) (Some (has_id account))

-- one of a stock is held, where one is free; then it is gone, or free again
unfoldable pub try : ℕ → Stmt
try stock =
    stmt.Update (codes "stock") (set_by (codes "free") sign.Minus 1 ∷ set_by (codes "held") sign.Plus 1 ∷ [])
    (Some (tree.And (has_id stock) (tree.Cmp (codes "free") op.Ge (value.Int (pos 1)))))

unfoldable pub confirm : ℕ → Stmt
confirm stock = stmt.Update (codes "stock") (set_by (codes "held") sign.Minus 1 ∷ []) (Some (has_id stock))

unfoldable pub cancel : ℕ → Stmt
cancel stock = stmt.Update (codes "stock") (set_by (codes "free") sign.Plus 1 ∷ set_by (codes "held") sign.Minus 1 ∷ []) (Some (has_id stock))

-- ---- managers

-- a call of one payment, by the number of its resource, and one of a reservation
unfoldable pub paying : ℕ → Sign → ℕ → ℕ → ℕ × Work
paying resource direction amount account = (resource, work.At (payment direction amount account ∷ []))

unfoldable pub reserving : ℕ → ℕ → ℕ × Work
reserving resource stock = (resource, work.Tcc (record { tries = try stock ∷ []; confirms = confirm stock ∷ []; cancels = cancel stock ∷ [] }))

-- the calls of a plan
unfoldable pub calls : Plan → List (ℕ × Work)
calls p =
    paying p.first sign.Minus p.amount p.payer ∷ paying p.second sign.Plus p.amount p.payee
    ∷ (if p.reserves then reserving p.second p.payee ∷ [] else [])

-- the manager at a place, counted from 0, by its plan
unfoldable pub manager : ℕ → ℕ → ManagerDef
manager number place =
    let p = plan number (7 * place) in
    record {
      name = codes "m" ++ decimal (place + 1);
      timeout = DEFAULT_TIMEOUT;
      calls = calls p;
      ending = if p.rolls_back then how.Rollback else how.Commit;
      silent = None;
      poll = false;
    }

-- so many managers
unfoldable pub managers : ℕ → ℕ → List ManagerDef
managers number zero = []
managers number (suc place) = managers number place ++ manager number place ∷ []

-- ---- resources

-- accounts with their money, and stocks with what is free and what is held
unfoldable pub accounts : TableDef
accounts = record { name = codes "acc"; mode = kind.At; columns = (codes "id", type.Int) ∷ (codes "m", type.Int) ∷ []; key = 0 ∷ [] }

unfoldable pub stocks : TableDef
stocks = record { name = codes "stock"; mode = kind.Tcc; columns = (codes "id", type.Int) ∷ (codes "free", type.Int) ∷ (codes "held", type.Int) ∷ []; key = 0 ∷ [] }

-- both
unfoldable pub schema : Schema
schema = record { tables = accounts ∷ stocks ∷ [] }

-- their rows at the opening, 1 to 8
unfoldable pub account_rows : List Row
account_rows = map (λ k. row_of (value.Int (pos k) ∷ value.Int (pos 1000) ∷ [])) (range_with_len 1 8)

unfoldable pub stock_rows : List Row
stock_rows = map (λ k. row_of (value.Int (pos k) ∷ value.Int (pos 100) ∷ value.Int (pos 0) ∷ [])) (range_with_len 1 8)

-- each with the name of its table
unfoldable pub opening : List (List ℕ × Row)
opening = named_rows accounts.name account_rows ++ named_rows stocks.name stock_rows

-- the resource of a number, and the four
unfoldable pub resource : ℕ → ResourceDef
resource n = record { name = codes "r" ++ decimal n; schema = schema; opening = opening }

unfoldable pub resources : List ResourceDef
resources = resource 1 ∷ resource 2 ∷ resource 3 ∷ resource 4 ∷ []

-- ---- the whole

-- how many steps the replay chooses
abbrev pub step_count : ℕ → ℕ
step_count size = min (400 * size) 20000

-- the scenario, which isn't kept under a text yet
unfoldable pub scenario : ℕ → ℕ → Scenario
scenario number size =
    record {
      timeout = DEFAULT_TIMEOUT;
      lock_tries = DEFAULT_LOCK_TRIES;
      retry = DEFAULT_RETRY;
      forget = 0;
      disk = DEFAULT_DISK;
      resources = resources;
      managers = managers number size;
      locals = [];
      stops = [];
      schedule = step.Auto (step_count size) ∷ [];
      base = [];
    }

-- the text that is made is this scenario, kept under some text
abbrev pub IsMadeScenario : ℕ → ℕ → Type 0
IsMadeScenario number size = (base : List ℕ) × IsScenario (made number size) (with_base base (scenario number size))

-- no fault keeps the bytes from being a scenario
abbrev pub HasNoFault : List ℕ → Type 0
HasNoFault bytes = (e : ScenarioError) → IsFault bytes e → ⊥
