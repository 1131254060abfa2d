-- That two acts that compare as equal are one.
use Rattle.std.proofs.Common.{◌≡◌, ◌==◌, ◌&&◌, ℕ, Bool, true, false, List, Option, Some, None, refl, ap, sym, ◌∙◌, nat_eq, arith, true≢false}
use mathlib.Core.Bool.{beq}
use Rattle.std.specs.Bool.{Decides}
use Rattle.std.specs.Option.{option_eq}
use Rattle.std.specs.Cmp.Lexicographic.{pointwise, bytes_decides}
use Rattle.std.proofs.lemmas.Bool.Decides.{nat_tests, Decides-int_eq, Decides-like}
use Rattle.std.proofs.lemmas.Slice.Eq.{slice_eq-Decides}
use Rattle.seata_types.specs.contracts.acts.ActPartialEq as of_acts
use Rattle.seata_types.specs.contracts.acts.DurablePartialEq as of_durables
use Rattle.seata_types.specs.contracts.errors.StmtErrorPartialEq as of_errors
use Rattle.seata_types.specs.contracts.errors.WhyPartialEq as of_whys
use Rattle.seata_types.specs.contracts.ids.BranchIdPartialEq as of_branches
use Rattle.seata_types.specs.contracts.ids.TicketPartialEq as of_tickets
use Rattle.seata_types.specs.contracts.ids.XidPartialEq as of_xids
use Rattle.seata_types.specs.contracts.rows.RowPartialEq as of_rows
use Rattle.seata_types.specs.contracts.rows.RowKeyPartialEq as of_keys
use Rattle.seata_types.specs.contracts.rows.ValuePartialEq as of_values
use Rattle.seata_types.specs.contracts.statuses.DecisionPartialEq as of_decisions
use Rattle.seata_types.specs.contracts.statuses.GlobalStatusPartialEq as of_statuses
use Rattle.seata_types.specs.contracts.acts.ActEq.TheImpl.Laws as act_laws
use Rattle.seata_types.specs.contracts.acts.DurableEq.TheImpl.Laws as durable_laws
use Rattle.seata_types.specs.declared.acts.Act.{Act}
use Rattle.seata_types.specs.declared.acts.Act.TheVariants as act
use Rattle.seata_types.specs.declared.acts.Durable.{Durable}
use Rattle.seata_types.specs.declared.acts.Durable.TheVariants as durable
use Rattle.seata_types.specs.declared.errors.StmtError.{StmtError}
use Rattle.seata_types.specs.declared.errors.StmtError.TheVariants as error
use Rattle.seata_types.specs.declared.errors.Why.{Why}
use Rattle.seata_types.specs.declared.errors.Why.TheVariants as why
use Rattle.seata_types.specs.declared.ids.BranchId.{BranchId}
use Rattle.seata_types.specs.declared.ids.Ticket.{Ticket}
use Rattle.seata_types.specs.declared.ids.Xid.{Xid}
use Rattle.seata_types.specs.declared.rows.Row.{Row}
use Rattle.seata_types.specs.declared.rows.RowKey.{RowKey}
use Rattle.seata_types.specs.declared.rows.Value.{Value}
use Rattle.seata_types.specs.declared.rows.Value.TheVariants as value
use Rattle.seata_types.specs.declared.statuses.Decision.{Decision}
use Rattle.seata_types.specs.declared.statuses.Decision.TheVariants as decision
use Rattle.seata_types.specs.declared.statuses.GlobalStatus.{GlobalStatus}
use Rattle.seata_types.specs.declared.statuses.GlobalStatus.TheVariants as status
use Rattle.judged_devices.specs.Looking.{AreSame}

false_true : {A : Type 0} → false ≡ true → A
false_true e = absurd (true≢false (sym e))

same_nat : (m n : ℕ) → (m == n) ≡ true → m ≡ n
same_nat m n e = grind (arith, nat_tests)

-- ---- several tests at once

two : (p q : Bool) → (p && q) ≡ true → (p ≡ true) × (q ≡ true)
two true true e = (refl, refl)
two false q e = false_true e
two true false e = false_true e

three : (p q r : Bool) → (p && (q && r)) ≡ true → (p ≡ true) × (q ≡ true) × (r ≡ true)
three true true true e = (refl, refl, refl)
three false q r e = false_true e
three true false r e = false_true e
three true true false e = false_true e

four : (p q r s : Bool) → (p && (q && (r && s))) ≡ true → (p ≡ true) × (q ≡ true) × (r ≡ true) × (s ≡ true)
four true true true true e = (refl, refl, refl, refl)
four false q r s e = false_true e
four true false r s e = false_true e
four true true false s e = false_true e
four true true true false e = false_true e

five : (p q r s t : Bool) → (p && (q && (r && (s && t)))) ≡ true → (p ≡ true) × (q ≡ true) × (r ≡ true) × (s ≡ true) × (t ≡ true)
five true true true true true e = (refl, refl, refl, refl, refl)
five false q r s t e = false_true e
five true false r s t e = false_true e
five true true false s t e = false_true e
five true true true false t e = false_true e
five true true true true false e = false_true e

same_bools : (a b : Bool) → beq a b ≡ true → a ≡ b
same_bools true true e = refl
same_bools false false e = refl
same_bools true false e = false_true e
same_bools false true e = false_true e

-- what may be there
pub same_options : {A : Type 0} (E : A → A → Bool) → ((a b : A) → E a b ≡ true → a ≡ b) → (a b : Option A) → option_eq E a b ≡ true → a ≡ b
same_options E same None None e = refl
same_options E same None (Some y) e = false_true e
same_options E same (Some x) None e = false_true e
same_options E same (Some x) (Some y) e = ap (λ z. Some z) (same x y e)

-- ---- numbers

abbrev pub xid_eq : Xid → Xid → Bool
xid_eq a b = of_xids.TheImpl.ghosts.eq a b

pub same_xids : (a b : Xid) → xid_eq a b ≡ true → a ≡ b
same_xids a b e = λ i. record { 0 = same_nat a.0 b.0 e i }

abbrev pub branch_eq : BranchId → BranchId → Bool
branch_eq a b = of_branches.TheImpl.ghosts.eq a b

pub same_branches : (a b : BranchId) → branch_eq a b ≡ true → a ≡ b
same_branches a b e = λ i. record { 0 = same_nat a.0 b.0 e i }

abbrev pub ticket_eq : Ticket → Ticket → Bool
ticket_eq a b = of_tickets.TheImpl.ghosts.eq a b

pub same_tickets : (a b : Ticket) → ticket_eq a b ≡ true → a ≡ b
same_tickets a b e =
    let k = two (a.boot == b.boot) (a.seq == b.seq) e in
    λ i. record { boot = same_nat a.boot b.boot k.0 i; seq = same_nat a.seq b.seq k.1 i }

-- ---- rows

abbrev pub value_eq : Value → Value → Bool
value_eq a b = of_values.TheImpl.ghosts.eq a b

value_decides : (a b : Value) → Decides (value_eq a b) (a ≡ b)
value_decides (value.Int a) (value.Int b) = Decides-like _ (λ e. ap value.Int e) (λ e. let same : value.Int a ≡ value.Int b = e in cc) (Decides-int_eq a b)
value_decides (value.Int a) (value.Text t) = (false_true, λ e. absurd (let no : value.Int a ≡ value.Text t = e in cc))
value_decides (value.Text s) (value.Int b) = (false_true, λ e. absurd (let no : value.Text s ≡ value.Int b = e in cc))
value_decides (value.Text s) (value.Text t) = Decides-like _ (λ e. ap value.Text e) (λ e. let same : value.Text s ≡ value.Text t = e in cc) (bytes_decides s t)

same_values : (a b : List Value) → pointwise value_eq a b ≡ true → a ≡ b
same_values a b e = (slice_eq-Decides value_decides a b (pointwise value_eq a b) refl).0 e

abbrev pub key_eq : RowKey → RowKey → Bool
key_eq a b = of_keys.TheImpl.ghosts.eq a b

pub same_keys : (a b : RowKey) → key_eq a b ≡ true → a ≡ b
same_keys a b e =
    let k = three (a.resource == b.resource) (pointwise nat_eq a.table b.table) (pointwise value_eq a.pk b.pk) e in
    λ i. record { resource = same_nat a.resource b.resource k.0 i; table = (bytes_decides a.table b.table).0 k.1 i; pk = same_values a.pk b.pk k.2 i }

abbrev pub row_eq : Row → Row → Bool
row_eq a b = of_rows.TheImpl.ghosts.eq a b

pub same_rows : (a b : Row) → row_eq a b ≡ true → a ≡ b
same_rows a b e = λ i. record { 0 = same_values a.0 b.0 e i }

-- ---- statuses

abbrev pub status_eq : GlobalStatus → GlobalStatus → Bool
status_eq a b = of_statuses.TheImpl.ghosts.eq a b

pub same_statuses : (a b : GlobalStatus) → status_eq a b ≡ true → a ≡ b
same_statuses status.UnKnown status.UnKnown e = refl
same_statuses status.UnKnown _ e = false_true e
same_statuses status.Begin status.Begin e = refl
same_statuses status.Begin _ e = false_true e
same_statuses status.Committing status.Committing e = refl
same_statuses status.Committing _ e = false_true e
same_statuses status.CommitRetrying status.CommitRetrying e = refl
same_statuses status.CommitRetrying _ e = false_true e
same_statuses status.Rollbacking status.Rollbacking e = refl
same_statuses status.Rollbacking _ e = false_true e
same_statuses status.RollbackRetrying status.RollbackRetrying e = refl
same_statuses status.RollbackRetrying _ e = false_true e
same_statuses status.TimeoutRollbacking status.TimeoutRollbacking e = refl
same_statuses status.TimeoutRollbacking _ e = false_true e
same_statuses status.TimeoutRollbackRetrying status.TimeoutRollbackRetrying e = refl
same_statuses status.TimeoutRollbackRetrying _ e = false_true e
same_statuses status.AsyncCommitting status.AsyncCommitting e = refl
same_statuses status.AsyncCommitting _ e = false_true e
same_statuses status.Committed status.Committed e = refl
same_statuses status.Committed _ e = false_true e
same_statuses status.CommitFailed status.CommitFailed e = refl
same_statuses status.CommitFailed _ e = false_true e
same_statuses status.Rollbacked status.Rollbacked e = refl
same_statuses status.Rollbacked _ e = false_true e
same_statuses status.RollbackFailed status.RollbackFailed e = refl
same_statuses status.RollbackFailed _ e = false_true e
same_statuses status.TimeoutRollbacked status.TimeoutRollbacked e = refl
same_statuses status.TimeoutRollbacked _ e = false_true e
same_statuses status.TimeoutRollbackFailed status.TimeoutRollbackFailed e = refl
same_statuses status.TimeoutRollbackFailed _ e = false_true e
same_statuses status.Finished status.Finished e = refl
same_statuses status.Finished _ e = false_true e

abbrev pub decision_eq : Decision → Decision → Bool
decision_eq a b = of_decisions.TheImpl.ghosts.eq a b

pub same_decisions : (a b : Decision) → decision_eq a b ≡ true → a ≡ b
same_decisions decision.Commit decision.Commit e = refl
same_decisions decision.Commit _ e = false_true e
same_decisions decision.Rollback decision.Rollback e = refl
same_decisions decision.Rollback _ e = false_true e
same_decisions decision.Timeout decision.Timeout e = refl
same_decisions decision.Timeout _ e = false_true e

-- ---- causes

abbrev pub error_eq : StmtError → StmtError → Bool
error_eq a b = of_errors.TheImpl.ghosts.eq a b

pub same_errors : (a b : StmtError) → error_eq a b ≡ true → a ≡ b
same_errors error.NoTable error.NoTable e = refl
same_errors error.NoTable _ e = false_true e
same_errors error.NoColumn error.NoColumn e = refl
same_errors error.NoColumn _ e = false_true e
same_errors error.Columns error.Columns e = refl
same_errors error.Columns _ e = false_true e
same_errors error.KeyChanged error.KeyChanged e = refl
same_errors error.KeyChanged _ e = false_true e
same_errors error.TypeMismatch error.TypeMismatch e = refl
same_errors error.TypeMismatch _ e = false_true e
same_errors error.TooManyRows error.TooManyRows e = refl
same_errors error.TooManyRows _ e = false_true e
same_errors (error.Overflow a0) (error.Overflow b0) e = λ i. error.Overflow (same_keys a0 b0 e i)
same_errors (error.Overflow a0) _ e = false_true e
same_errors (error.Duplicate a0) (error.Duplicate b0) e = λ i. error.Duplicate (same_keys a0 b0 e i)
same_errors (error.Duplicate a0) _ e = false_true e
same_errors error.TableFull error.TableFull e = refl
same_errors error.TableFull _ e = false_true e

abbrev pub why_eq : Why → Why → Bool
why_eq a b = of_whys.TheImpl.ghosts.eq a b

pub same_whys : (a b : Why) → why_eq a b ≡ true → a ≡ b
same_whys (why.Stmt a0 a1) (why.Stmt b0 b1) e =
    let k = two (a0 == b0) (error_eq a1 b1) e in
    λ i. why.Stmt (same_nat a0 b0 k.0 i) (same_errors a1 b1 k.1 i)
same_whys (why.Stmt a0 a1) _ e = false_true e
same_whys why.Tries why.Tries e = refl
same_whys why.Tries _ e = false_true e
same_whys (why.Rolling a0) (why.Rolling b0) e = λ i. why.Rolling (same_xids a0 b0 e i)
same_whys (why.Rolling a0) _ e = false_true e
same_whys (why.Closed a0) (why.Closed b0) e = λ i. why.Closed (same_statuses a0 b0 e i)
same_whys (why.Closed a0) _ e = false_true e
same_whys why.Late why.Late e = refl
same_whys why.Late _ e = false_true e
same_whys why.Marker why.Marker e = refl
same_whys why.Marker _ e = false_true e
same_whys (why.NoRow a0) (why.NoRow b0) e = λ i. why.NoRow (same_nat a0 b0 e i)
same_whys (why.NoRow a0) _ e = false_true e
same_whys why.Fence why.Fence e = refl
same_whys why.Fence _ e = false_true e

-- ---- acts

abbrev pub durable_eq : Durable → Durable → Bool
durable_eq a b = of_durables.TheImpl.ghosts.eq a b

pub same_durables : (a b : Durable) → durable_eq a b ≡ true → a ≡ b
same_durables (durable.Begun a0) (durable.Begun b0) e = λ i. durable.Begun (same_xids a0 b0 e i)
same_durables (durable.Begun a0) _ e = false_true e
same_durables (durable.Granted a0 a1) (durable.Granted b0 b1) e =
    let k = two (xid_eq a0 b0) (branch_eq a1 b1) e in
    λ i. durable.Granted (same_xids a0 b0 k.0 i) (same_branches a1 b1 k.1 i)
same_durables (durable.Granted a0 a1) _ e = false_true e
same_durables (durable.Late a0) (durable.Late b0) e = λ i. durable.Late (same_xids a0 b0 e i)
same_durables (durable.Late a0) _ e = false_true e
same_durables (durable.Decided a0 a1) (durable.Decided b0 b1) e =
    let k = two (xid_eq a0 b0) (decision_eq a1 b1) e in
    λ i. durable.Decided (same_xids a0 b0 k.0 i) (same_decisions a1 b1 k.1 i)
same_durables (durable.Decided a0 a1) _ e = false_true e
same_durables (durable.Ended a0 a1) (durable.Ended b0 b1) e =
    let k = two (xid_eq a0 b0) (branch_eq a1 b1) e in
    λ i. durable.Ended (same_xids a0 b0 k.0 i) (same_branches a1 b1 k.1 i)
same_durables (durable.Ended a0 a1) _ e = false_true e
same_durables (durable.Retrying a0 a1) (durable.Retrying b0 b1) e =
    let k = two (xid_eq a0 b0) (branch_eq a1 b1) e in
    λ i. durable.Retrying (same_xids a0 b0 k.0 i) (same_branches a1 b1 k.1 i)
same_durables (durable.Retrying a0 a1) _ e = false_true e
same_durables (durable.Failed a0 a1 a2) (durable.Failed b0 b1 b2) e =
    let k = three (xid_eq a0 b0) (branch_eq a1 b1) (a2 == b2) e in
    λ i. durable.Failed (same_xids a0 b0 k.0 i) (same_branches a1 b1 k.1 i) (same_nat a2 b2 k.2 i)
same_durables (durable.Failed a0 a1 a2) _ e = false_true e
same_durables (durable.Finished a0 a1) (durable.Finished b0 b1) e =
    let k = two (xid_eq a0 b0) (status_eq a1 b1) e in
    λ i. durable.Finished (same_xids a0 b0 k.0 i) (same_statuses a1 b1 k.1 i)
same_durables (durable.Finished a0 a1) _ e = false_true e
same_durables (durable.Forgot a0) (durable.Forgot b0) e = λ i. durable.Forgot (same_xids a0 b0 e i)
same_durables (durable.Forgot a0) _ e = false_true e
same_durables (durable.Committed a0 a1 a2) (durable.Committed b0 b1 b2) e =
    let k = three (xid_eq a0 b0) (branch_eq a1 b1) (ticket_eq a2 b2) e in
    λ i. durable.Committed (same_xids a0 b0 k.0 i) (same_branches a1 b1 k.1 i) (same_tickets a2 b2 k.2 i)
same_durables (durable.Committed a0 a1 a2) _ e = false_true e
same_durables (durable.Tried a0 a1 a2) (durable.Tried b0 b1 b2) e =
    let k = three (xid_eq a0 b0) (branch_eq a1 b1) (ticket_eq a2 b2) e in
    λ i. durable.Tried (same_xids a0 b0 k.0 i) (same_branches a1 b1 k.1 i) (same_tickets a2 b2 k.2 i)
same_durables (durable.Tried a0 a1 a2) _ e = false_true e
same_durables (durable.Cleared a0 a1) (durable.Cleared b0 b1) e =
    let k = two (xid_eq a0 b0) (branch_eq a1 b1) e in
    λ i. durable.Cleared (same_xids a0 b0 k.0 i) (same_branches a1 b1 k.1 i)
same_durables (durable.Cleared a0 a1) _ e = false_true e
same_durables (durable.Undone a0 a1) (durable.Undone b0 b1) e =
    let k = two (xid_eq a0 b0) (branch_eq a1 b1) e in
    λ i. durable.Undone (same_xids a0 b0 k.0 i) (same_branches a1 b1 k.1 i)
same_durables (durable.Undone a0 a1) _ e = false_true e
same_durables (durable.Marked a0 a1) (durable.Marked b0 b1) e =
    let k = two (xid_eq a0 b0) (branch_eq a1 b1) e in
    λ i. durable.Marked (same_xids a0 b0 k.0 i) (same_branches a1 b1 k.1 i)
same_durables (durable.Marked a0 a1) _ e = false_true e
same_durables (durable.Confirmed a0 a1) (durable.Confirmed b0 b1) e =
    let k = two (xid_eq a0 b0) (branch_eq a1 b1) e in
    λ i. durable.Confirmed (same_xids a0 b0 k.0 i) (same_branches a1 b1 k.1 i)
same_durables (durable.Confirmed a0 a1) _ e = false_true e
same_durables (durable.Cancelled a0 a1) (durable.Cancelled b0 b1) e =
    let k = two (xid_eq a0 b0) (branch_eq a1 b1) e in
    λ i. durable.Cancelled (same_xids a0 b0 k.0 i) (same_branches a1 b1 k.1 i)
same_durables (durable.Cancelled a0 a1) _ e = false_true e
same_durables (durable.Suspended a0 a1) (durable.Suspended b0 b1) e =
    let k = two (xid_eq a0 b0) (branch_eq a1 b1) e in
    λ i. durable.Suspended (same_xids a0 b0 k.0 i) (same_branches a1 b1 k.1 i)
same_durables (durable.Suspended a0 a1) _ e = false_true e
same_durables (durable.LocalCommitted a0 a1) (durable.LocalCommitted b0 b1) e =
    let k = two (a0 == b0) (ticket_eq a1 b1) e in
    λ i. durable.LocalCommitted (same_nat a0 b0 k.0 i) (same_tickets a1 b1 k.1 i)
same_durables (durable.LocalCommitted a0 a1) _ e = false_true e
same_durables (durable.Outside a0) (durable.Outside b0) e = λ i. durable.Outside (same_nat a0 b0 e i)
same_durables (durable.Outside a0) _ e = false_true e
same_durables durable.Boot durable.Boot e = refl
same_durables durable.Boot _ e = false_true e

abbrev pub act_eq : Act → Act → Bool
act_eq a b = of_acts.TheImpl.ghosts.eq a b

pub same_acts : (a b : Act) → act_eq a b ≡ true → a ≡ b
same_acts (act.Durable a0) (act.Durable b0) e = λ i. act.Durable (same_durables a0 b0 e i)
same_acts (act.Durable a0) _ e = false_true e
same_acts (act.Known a0) (act.Known b0) e = λ i. act.Known (same_xids a0 b0 e i)
same_acts (act.Known a0) _ e = false_true e
same_acts (act.Regranted a0 a1) (act.Regranted b0 b1) e =
    let k = two (xid_eq a0 b0) (branch_eq a1 b1) e in
    λ i. act.Regranted (same_xids a0 b0 k.0 i) (same_branches a1 b1 k.1 i)
same_acts (act.Regranted a0 a1) _ e = false_true e
same_acts (act.Conflict a0 a1 a2 a3) (act.Conflict b0 b1 b2 b3) e =
    let k = four (xid_eq a0 b0) (key_eq a1 b1) (xid_eq a2 b2) (beq a3 b3) e in
    λ i. act.Conflict (same_xids a0 b0 k.0 i) (same_keys a1 b1 k.1 i) (same_xids a2 b2 k.2 i) (same_bools a3 b3 k.3 i)
same_acts (act.Conflict a0 a1 a2 a3) _ e = false_true e
same_acts (act.Closed a0 a1) (act.Closed b0 b1) e =
    let k = two (xid_eq a0 b0) (status_eq a1 b1) e in
    λ i. act.Closed (same_xids a0 b0 k.0 i) (same_statuses a1 b1 k.1 i)
same_acts (act.Closed a0 a1) _ e = false_true e
same_acts (act.Told a0 a1) (act.Told b0 b1) e =
    let k = two (xid_eq a0 b0) (status_eq a1 b1) e in
    λ i. act.Told (same_xids a0 b0 k.0 i) (same_statuses a1 b1 k.1 i)
same_acts (act.Told a0 a1) _ e = false_true e
same_acts (act.Asked a0 a1) (act.Asked b0 b1) e =
    let k = two (xid_eq a0 b0) (branch_eq a1 b1) e in
    λ i. act.Asked (same_xids a0 b0 k.0 i) (same_branches a1 b1 k.1 i)
same_acts (act.Asked a0 a1) _ e = false_true e
same_acts (act.Retry a0 a1) (act.Retry b0 b1) e =
    let k = two (xid_eq a0 b0) (branch_eq a1 b1) e in
    λ i. act.Retry (same_xids a0 b0 k.0 i) (same_branches a1 b1 k.1 i)
same_acts (act.Retry a0 a1) _ e = false_true e
same_acts (act.Held a0 a1) (act.Held b0 b1) e =
    let k = two (key_eq a0 b0) (xid_eq a1 b1) e in
    λ i. act.Held (same_keys a0 b0 k.0 i) (same_xids a1 b1 k.1 i)
same_acts (act.Held a0 a1) _ e = false_true e
same_acts act.Free act.Free e = refl
same_acts act.Free _ e = false_true e
same_acts (act.Opened a0 a1 a2) (act.Opened b0 b1 b2) e =
    let k = three (xid_eq a0 b0) (a1 == b1) (ticket_eq a2 b2) e in
    λ i. act.Opened (same_xids a0 b0 k.0 i) (same_nat a1 b1 k.1 i) (same_tickets a2 b2 k.2 i)
same_acts (act.Opened a0 a1 a2) _ e = false_true e
same_acts (act.Waiting a0 a1) (act.Waiting b0 b1) e =
    let k = two (xid_eq a0 b0) (a1 == b1) e in
    λ i. act.Waiting (same_xids a0 b0 k.0 i) (same_nat a1 b1 k.1 i)
same_acts (act.Waiting a0 a1) _ e = false_true e
same_acts (act.Again a0 a1 a2) (act.Again b0 b1 b2) e =
    let k = three (xid_eq a0 b0) (a1 == b1) (branch_eq a2 b2) e in
    λ i. act.Again (same_xids a0 b0 k.0 i) (same_nat a1 b1 k.1 i) (same_branches a2 b2 k.2 i)
same_acts (act.Again a0 a1 a2) _ e = false_true e
same_acts (act.Busy a0 a1 a2 a3) (act.Busy b0 b1 b2 b3) e =
    let k = four (xid_eq a0 b0) (a1 == b1) (key_eq a2 b2) (ticket_eq a3 b3) e in
    λ i. act.Busy (same_xids a0 b0 k.0 i) (same_nat a1 b1 k.1 i) (same_keys a2 b2 k.2 i) (same_tickets a3 b3 k.3 i)
same_acts (act.Busy a0 a1 a2 a3) _ e = false_true e
same_acts (act.Refused a0 a1 a2) (act.Refused b0 b1 b2) e =
    let k = three (xid_eq a0 b0) (a1 == b1) (why_eq a2 b2) e in
    λ i. act.Refused (same_xids a0 b0 k.0 i) (same_nat a1 b1 k.1 i) (same_whys a2 b2 k.2 i)
same_acts (act.Refused a0 a1 a2) _ e = false_true e
same_acts (act.Resent a0) (act.Resent b0) e = λ i. act.Resent (same_tickets a0 b0 e i)
same_acts (act.Resent a0) _ e = false_true e
same_acts (act.Conflicted a0 a1) (act.Conflicted b0 b1) e =
    let k = two (ticket_eq a0 b0) (a1 == b1) e in
    λ i. act.Conflicted (same_tickets a0 b0 k.0 i) (same_nat a1 b1 k.1 i)
same_acts (act.Conflicted a0 a1) _ e = false_true e
same_acts (act.Dropped a0 a1 a2 a3) (act.Dropped b0 b1 b2 b3) e =
    let k = four (xid_eq a0 b0) (a1 == b1) (ticket_eq a2 b2) (why_eq a3 b3) e in
    λ i. act.Dropped (same_xids a0 b0 k.0 i) (same_nat a1 b1 k.1 i) (same_tickets a2 b2 k.2 i) (same_whys a3 b3 k.3 i)
same_acts (act.Dropped a0 a1 a2 a3) _ e = false_true e
same_acts (act.Empty a0 a1) (act.Empty b0 b1) e =
    let k = two (xid_eq a0 b0) (branch_eq a1 b1) e in
    λ i. act.Empty (same_xids a0 b0 k.0 i) (same_branches a1 b1 k.1 i)
same_acts (act.Empty a0 a1) _ e = false_true e
same_acts (act.Remarked a0 a1) (act.Remarked b0 b1) e =
    let k = two (xid_eq a0 b0) (branch_eq a1 b1) e in
    λ i. act.Remarked (same_xids a0 b0 k.0 i) (same_branches a1 b1 k.1 i)
same_acts (act.Remarked a0 a1) _ e = false_true e
same_acts (act.Blocked a0 a1 a2 a3) (act.Blocked b0 b1 b2 b3) e =
    let k = four (xid_eq a0 b0) (branch_eq a1 b1) (key_eq a2 b2) (ticket_eq a3 b3) e in
    λ i. act.Blocked (same_xids a0 b0 k.0 i) (same_branches a1 b1 k.1 i) (same_keys a2 b2 k.2 i) (same_tickets a3 b3 k.3 i)
same_acts (act.Blocked a0 a1 a2 a3) _ e = false_true e
same_acts (act.Dirty a0 a1 a2 a3 a4) (act.Dirty b0 b1 b2 b3 b4) e =
    let k = five (xid_eq a0 b0) (branch_eq a1 b1) (key_eq a2 b2) (option_eq row_eq a3 b3) (option_eq row_eq a4 b4) e in
    λ i. act.Dirty (same_xids a0 b0 k.0 i) (same_branches a1 b1 k.1 i) (same_keys a2 b2 k.2 i) (same_options row_eq same_rows a3 b3 k.3 i) (same_options row_eq same_rows a4 b4 k.4 i)
same_acts (act.Dirty a0 a1 a2 a3 a4) _ e = false_true e
same_acts (act.Already a0 a1) (act.Already b0 b1) e =
    let k = two (xid_eq a0 b0) (branch_eq a1 b1) e in
    λ i. act.Already (same_xids a0 b0 k.0 i) (same_branches a1 b1 k.1 i)
same_acts (act.Already a0 a1) _ e = false_true e
same_acts (act.Unfenced a0 a1) (act.Unfenced b0 b1) e =
    let k = two (xid_eq a0 b0) (branch_eq a1 b1) e in
    λ i. act.Unfenced (same_xids a0 b0 k.0 i) (same_branches a1 b1 k.1 i)
same_acts (act.Unfenced a0 a1) _ e = false_true e
same_acts (act.Unable a0 a1 a2 a3) (act.Unable b0 b1 b2 b3) e =
    let k = four (xid_eq a0 b0) (branch_eq a1 b1) (a2 == b2) (error_eq a3 b3) e in
    λ i. act.Unable (same_xids a0 b0 k.0 i) (same_branches a1 b1 k.1 i) (same_nat a2 b2 k.2 i) (same_errors a3 b3 k.3 i)
same_acts (act.Unable a0 a1 a2 a3) _ e = false_true e
same_acts (act.WaitingLocal a0) (act.WaitingLocal b0) e = λ i. act.WaitingLocal (same_nat a0 b0 e i)
same_acts (act.WaitingLocal a0) _ e = false_true e
same_acts (act.RefusedLocal a0 a1) (act.RefusedLocal b0 b1) e =
    let k = two (a0 == b0) (why_eq a1 b1) e in
    λ i. act.RefusedLocal (same_nat a0 b0 k.0 i) (same_whys a1 b1 k.1 i)
same_acts (act.RefusedLocal a0 a1) _ e = false_true e
same_acts (act.BusyLocal a0 a1 a2) (act.BusyLocal b0 b1 b2) e =
    let k = three (a0 == b0) (key_eq a1 b1) (ticket_eq a2 b2) e in
    λ i. act.BusyLocal (same_nat a0 b0 k.0 i) (same_keys a1 b1 k.1 i) (same_tickets a2 b2 k.2 i)
same_acts (act.BusyLocal a0 a1 a2) _ e = false_true e
same_acts (act.OpenedLocal a0 a1) (act.OpenedLocal b0 b1) e =
    let k = two (a0 == b0) (ticket_eq a1 b1) e in
    λ i. act.OpenedLocal (same_nat a0 b0 k.0 i) (same_tickets a1 b1 k.1 i)
same_acts (act.OpenedLocal a0 a1) _ e = false_true e
same_acts (act.DroppedLocal a0 a1 a2 a3) (act.DroppedLocal b0 b1 b2 b3) e =
    let k = four (a0 == b0) (ticket_eq a1 b1) (key_eq a2 b2) (xid_eq a3 b3) e in
    λ i. act.DroppedLocal (same_nat a0 b0 k.0 i) (same_tickets a1 b1 k.1 i) (same_keys a2 b2 k.2 i) (same_xids a3 b3 k.3 i)
same_acts (act.DroppedLocal a0 a1 a2 a3) _ e = false_true e
same_acts act.Starts act.Starts e = refl
same_acts act.Starts _ e = false_true e
same_acts act.Repeats act.Repeats e = refl
same_acts act.Repeats _ e = false_true e
same_acts act.GoesOn act.GoesOn e = refl
same_acts act.GoesOn _ e = false_true e
same_acts act.GivesUp act.GivesUp e = refl
same_acts act.GivesUp _ e = false_true e
same_acts (act.CallBusy a0) (act.CallBusy b0) e = λ i. act.CallBusy (same_nat a0 b0 e i)
same_acts (act.CallBusy a0) _ e = false_true e
same_acts (act.Closes a0) (act.Closes b0) e = λ i. act.Closes (same_statuses a0 b0 e i)
same_acts (act.Closes a0) _ e = false_true e
same_acts act.Polls act.Polls e = refl
same_acts act.Polls _ e = false_true e
same_acts (act.Learns a0) (act.Learns b0) e = λ i. act.Learns (same_statuses a0 b0 e i)
same_acts (act.Learns a0) _ e = false_true e
same_acts act.Silent act.Silent e = refl
same_acts act.Silent _ e = false_true e
same_acts act.Nothing act.Nothing e = refl
same_acts act.Nothing _ e = false_true e
same_acts act.Ignored act.Ignored e = refl
same_acts act.Ignored _ e = false_true e
same_acts act.Lost act.Lost e = refl
same_acts act.Lost _ e = false_true e
same_acts act.Armed act.Armed e = refl
same_acts act.Armed _ e = false_true e
same_acts (act.Down a0 a1) (act.Down b0 b1) e =
    let k = two (option_eq durable_eq a0 b0) (option_eq durable_eq a1 b1) e in
    λ i. act.Down (same_options durable_eq same_durables a0 b0 k.0 i) (same_options durable_eq same_durables a1 b1 k.1 i)
same_acts (act.Down a0 a1) _ e = false_true e
same_acts (act.Restarted a0) (act.Restarted b0) e = λ i. act.Restarted (same_options durable_eq same_durables a0 b0 e i)
same_acts (act.Restarted a0) _ e = false_true e

-- ---- what a comparison says

-- of a comparison that holds of each thing and itself
pub are_same : {A : Type 0} (E : A → A → Bool) → ((a b : A) → E a b ≡ true → a ≡ b) → ((a : A) → E a a ≡ true) → (a b : A) (r : Bool) → r ≡ E a b → AreSame a b r
are_same E same itself a b true e = same a b (sym e)
are_same E same itself a b false e = λ is. false_true (e ∙ ap (E a) (sym is) ∙ itself a)

pub acts_are_same : (a b : Act) (r : Bool) → r ≡ act_eq a b → AreSame a b r
acts_are_same a b r e = are_same act_eq same_acts act_laws.laws-law.refl a b r e

pub durables_are_same : (a b : Durable) (r : Bool) → r ≡ durable_eq a b → AreSame a b r
durables_are_same a b r e = are_same durable_eq same_durables durable_laws.laws-law.refl a b r e
