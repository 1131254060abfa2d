-- What a resource sends can be framed.
use Rattle.std.proofs.Common.{◌≡◌, ℕ, zero, suc, ◌+◌, ◌≤◌, ◌<◌, ◌^◌, Bool, true, false, cond, List, [], ◌∷◌, length, Option, Some, None, Ok, Err, refl, ap, subst, arith}
use Rattle.std.specs.List.{AllByRecursion}
use Rattle.std.specs.Ordering.{is_lt}
use Rattle.std.proofs.lemmas.Option.{none-some}
use Rattle.seata_types.specs.Orders.{key_cmp}
use Rattle.seata_types.specs.declared.errors.StmtError.{StmtError}
use Rattle.seata_types.specs.declared.errors.StmtError.TheVariants as errors
use Rattle.seata_types.specs.declared.errors.Why.{Why}
use Rattle.seata_types.specs.declared.errors.Why.TheVariants as why
use Rattle.seata_types.specs.declared.ids.BranchId.{BranchId}
use Rattle.seata_types.specs.declared.ids.Leg.{Leg}
use Rattle.seata_types.specs.declared.ids.Ticket.{Ticket}
use Rattle.seata_types.specs.declared.ids.Xid.{Xid}
use Rattle.seata_types.specs.declared.limits.TheConstants.{RESOURCES, STATEMENTS}
use Rattle.seata_types.specs.declared.messages.CallAnswer.{CallAnswer}
use Rattle.seata_types.specs.declared.messages.CallAnswer.TheVariants as called
use Rattle.seata_types.specs.declared.messages.Message.TheVariants as message
use Rattle.seata_types.specs.declared.rows.RowKey.{RowKey}
use Rattle.seata_types.specs.declared.statements.Stmt.{Stmt}
use Rattle.seata_types.specs.declared.statements.Work.{Work}
use Rattle.seata_types.specs.declared.statements.Work.TheVariants as work
use Rattle.seata_types.specs.declared.statuses.BranchStatus.{BranchStatus}
use Rattle.byte_fields.specs.Layout.{FitsTicket}
use Rattle.byte_fields.specs.Parts.{FitsBranch}
use Rattle.frame_codec.specs.Limits.{IsAnswerWithin, IsCounted, IsErrorWithin, IsFramable, IsWhyWithin}
use Rattle.frame_codec.specs.Parts.{FitsAnswer, FitsStmtError, FitsWhy}
use Rattle.local_tables.specs.Calls.{effect}
use Rattle.local_tables.specs.Rows.{Database}
use Rattle.local_tables.specs.declared.schemas.Effect.{Effect}
use Rattle.local_txn.specs.OpenTickets.{Open, Owner, OfCall, OfLocal, busy_in, busy_row, has_row, lesser_row, ticket_with, with_ticket}
use Rattle.durable_records.specs.ResourceOrder.{image_keys, read_keys}
use Rattle.history_rules.specs.ResourceRules.{request_of, untouched}
use Rattle.record_places.specs.Laws.{HasKeysOf}
use Rattle.record_places.specs.Within.{AreTablesWithin, IsFaultOf, IsKeyOf}
use Rattle.record_places.proofs.FaultLaws.{faults_have_places}
use Rattle.resource_rules.specs.Ready.{AreStmtsWithin, AreTicketsWithin, IsCallWithin, IsOwnedWithin, IsTicketWithin}
use Rattle.resource_rules.proofs.CountedEffects.{counted_effect}
use Rattle.resource_rules.proofs.KeyFrames.{none_framed, one_framed, read_framed, rows_framed, touched_framed}
use Rattle.resource_rules.proofs.TicketLists.{found_with}

-- ---- answers to calls

-- what a call is answered can be framed
pub record IsTold (answer : CallAnswer) : Type 0 where
  pub layout : FitsAnswer answer
  pub limits : IsAnswerWithin answer

pub told_framed : (xid : Xid) (call : ℕ) (answer : CallAnswer) → IsCallWithin xid.0 call → IsTold answer → IsFramable (message.Answer xid call answer)
told_framed xid call answer is told = let few = is.counted.1 in record { layout = (is.xid, omega (arith, few), told.layout); limits = (is.counted, told.limits) }

pub done_told : (b : BranchId) → FitsBranch b → IsTold (called.Done b)
done_told b few = record { layout = few; limits = tt }

-- why a call fails can be told
pub record IsCause (cause : Why) : Type 0 where
  pub layout : FitsWhy cause
  pub limits : IsWhyWithin cause

pub failed_told : (cause : Why) → IsCause cause → IsTold (called.Failed cause)
failed_told cause is = record { layout = is.layout; limits = is.limits }

-- ---- statements without a meaning

error_layout : (n : ℕ) (fault : StmtError) → IsFaultOf n fault → FitsStmtError fault
error_layout n (errors.Overflow key) is = is.fits
error_layout n (errors.Duplicate key) is = is.fits
error_layout n errors.NoTable is = tt
error_layout n errors.NoColumn is = tt
error_layout n errors.Columns is = tt
error_layout n errors.KeyChanged is = tt
error_layout n errors.TypeMismatch is = tt
error_layout n errors.TooManyRows is = tt
error_layout n errors.TableFull is = tt

error_limits : (n : ℕ) (fault : StmtError) → IsCounted RESOURCES n → IsFaultOf n fault → IsErrorWithin fault
error_limits n (errors.Overflow key) counted is = (one_framed n key counted is).1
error_limits n (errors.Duplicate key) counted is = (one_framed n key counted is).1
error_limits n errors.NoTable counted is = tt
error_limits n errors.NoColumn counted is = tt
error_limits n errors.Columns counted is = tt
error_limits n errors.KeyChanged counted is = tt
error_limits n errors.TypeMismatch counted is = tt
error_limits n errors.TooManyRows counted is = tt
error_limits n errors.TableFull counted is = tt

module _ (db : Database) (tables : AreTablesWithin db) (counted : IsCounted RESOURCES db.resource) (stmts : List Stmt) (within : AreStmtsWithin stmts) where
  -- the first of them without a meaning
  pub fault_counted : (index : ℕ) (fault : StmtError) → effect db stmts ≡ Err (index, fault) → IsCounted STATEMENTS index
  fault_counted index fault e = let f = faults_have_places db stmts index fault tables within.each e in let among = f.among in let few = within.count in (f.counted, omega (arith, among, few))

  pub fault_cause : (index : ℕ) (fault : StmtError) → effect db stmts ≡ Err (index, fault) → IsCause (why.Stmt index fault)
  fault_cause index fault e =
      let f = faults_have_places db stmts index fault tables within.each e in
      let number = fault_counted index fault e in
      let few = number.1 in
      record { layout = (omega (arith, few), error_layout db.resource fault f.place); limits = (number, error_limits db.resource fault counted f.place) }

-- ---- rows that another ticket has

busy_among : (P : RowKey → Type 0) (opens : List Open) (ks : List RowKey) (key : RowKey) (by : Ticket) → AllByRecursion P ks → busy_in opens ks ≡ Some (key, by) → P key
busy_among P opens [] key by all e = absurd (none-some (key, by) e)
busy_among P opens (k ∷ ks) key by all e = at (ticket_with opens k) (busy_among P opens ks key by all.1) e
  where
    at : (o : Option Open) → (busy_in opens ks ≡ Some (key, by) → P key) → with_ticket k o (busy_in opens ks) ≡ Some (key, by) → P key
    at None later f = later f
    at (Some o) later f = let same : (k, o.ticket) ≡ (key, by) = cc in subst P (ap (λ (q : RowKey × Ticket). q.0) same) all.0

lesser_among : (P : RowKey → Ticket → Type 0) (p q : Option (RowKey × Ticket)) (key : RowKey) (by : Ticket) → ((k : RowKey) (t : Ticket) → p ≡ Some (k, t) → P k t) → ((k : RowKey) (t : Ticket) → q ≡ Some (k, t) → P k t)
    → lesser_row p q ≡ Some (key, by) → P key by
lesser_among P None q key by one two e = two key by e
lesser_among P (Some p) None key by one two e = one key by e
lesser_among P (Some p) (Some q) key by one two e = at (is_lt (key_cmp q.0 p.0)) e
  where
    at : (b : Bool) → cond b (Some q) (Some p) ≡ Some (key, by) → P key by
    at true f = two key by f
    at false f = one key by f

pub busy_key : (n : ℕ) (opens : List Open) (e : Effect) (key : RowKey) (by : Ticket) → HasKeysOf n e → busy_row opens e ≡ Some (key, by) → IsKeyOf n key
busy_key n opens e key by keys is =
    lesser_among (λ k t. IsKeyOf n k) (busy_in opens (image_keys e.images)) (busy_in opens (read_keys e.reads)) key by
    (λ k t f. busy_among (IsKeyOf n) opens (image_keys e.images) k t keys.touched f) (λ k t f. busy_among (IsKeyOf n) opens (read_keys e.reads) k t keys.read f) is

busy_open : (db : Database) (opens : List Open) (ks : List RowKey) (key : RowKey) (by : Ticket) → AreTicketsWithin db opens → busy_in opens ks ≡ Some (key, by) → FitsTicket by
busy_open db opens [] key by all e = absurd (none-some (key, by) e)
busy_open db opens (k ∷ ks) key by all e = at (ticket_with opens k) refl (busy_open db opens ks key by all) e
  where
    at : (o : Option Open) → ticket_with opens k ≡ o → (busy_in opens ks ≡ Some (key, by) → FitsTicket by) → with_ticket k o (busy_in opens ks) ≡ Some (key, by) → FitsTicket by
    at None is later f = later f
    at (Some o) is later f = let same : (k, o.ticket) ≡ (key, by) = cc in subst FitsTicket (ap (λ (q : RowKey × Ticket). q.1) same) (found_with (IsTicketWithin db) (has_row k) opens o all is).named

-- and the ticket that has the row is named in its bytes
pub busy_named : (db : Database) (opens : List Open) (e : Effect) (key : RowKey) (by : Ticket) → AreTicketsWithin db opens → busy_row opens e ≡ Some (key, by) → FitsTicket by
busy_named db opens e key by all is =
    lesser_among (λ k t. FitsTicket t) (busy_in opens (image_keys e.images)) (busy_in opens (read_keys e.reads)) key by
    (λ k t f. busy_open db opens (image_keys e.images) k t all f) (λ k t f. busy_open db opens (read_keys e.reads) k t all f) is

pub busy_told : (n : ℕ) (key : RowKey) (by : Ticket) → IsCounted RESOURCES n → IsKeyOf n key → FitsTicket by → IsTold (called.Busy key by)
busy_told n key by counted is few = let framed = one_framed n key counted is in record { layout = (framed.0, few); limits = framed.1 }

-- ---- what open tickets ask

requested : (number : ℕ) (db : Database) (o : Open) (w : Owner) → IsCounted RESOURCES number → IsCounted RESOURCES db.resource → FitsTicket o.ticket → o.owner ≡ w → IsOwnedWithin db o w
    → IsFramable (request_of number o o.owner)
requested number db o (OfCall m x c (work.At stmts)) numbered counted ticket owner is =
    let few = is.0.counted.1 in
    let most = numbered.1 in
    let hold = touched_framed db o counted is.1 in
    let check = read_framed db o counted is.1 in
    rw owner (record { layout = (is.0.xid, omega (arith, most), omega (arith, few), ticket, hold.layout, check.layout); limits = (numbered, is.0.counted, hold.limits, check.limits) })
requested number db o (OfCall m x c (work.Tcc action)) numbered counted ticket owner is =
    let few = is.0.counted.1 in
    let most = numbered.1 in
    rw owner (record { layout = (is.0.xid, omega (arith, most), omega (arith, few), ticket, none_framed.layout, none_framed.layout); limits = (numbered, is.0.counted, none_framed.limits, none_framed.limits) })
requested number db o (OfLocal k) numbered counted ticket owner is =
    let most = numbered.1 in
    let check = rows_framed db o counted is.1 in
    rw owner (record { layout = (omega (arith, most), ticket, check.layout); limits = (numbered, check.limits) })

pub request_framed : (number : ℕ) (db : Database) (o : Open) → IsCounted RESOURCES number → IsCounted RESOURCES db.resource → IsTicketWithin db o → IsFramable (request_of number o o.owner)
request_framed number db o numbered counted is = requested number db o o.owner numbered counted is.named refl is.owned

-- the numbers of the call of an open ticket have places
pub call_of_ticket : (db : Database) (o : Open) (m x c : ℕ) (w : Work) → IsOwnedWithin db o (OfCall m x c w) → IsCallWithin x c
call_of_ticket db o m x c (work.At stmts) is = is.0
call_of_ticket db o m x c (work.Tcc action) is = is.0

-- ---- answers to the coordinator

module _ (leg : Leg) (one : leg.xid.0 < 2 ^ 64) (two : leg.branch.0 < 2 ^ 64) (status : BranchStatus) (stmt : ℕ) (few : stmt ≤ STATEMENTS) where
  pub commit_framed : IsFramable (message.BranchCommitted leg.xid leg.branch status stmt)
  commit_framed = record { layout = (one, two, omega (arith, few)); limits = few }

  pub rollback_framed : IsFramable (message.BranchRollbacked leg.xid leg.branch status stmt)
  rollback_framed = record { layout = (one, two, omega (arith, few)); limits = few }

-- ---- touched rows

-- the first statement that touched no row is one of these
pub untouched_among : (start : ℕ) (counts : List ℕ) (index : ℕ) → untouched start counts ≡ Some index → (start ≤ index) × (index < start + length counts)
untouched_among start [] index e = absurd (none-some index e)
untouched_among start (zero ∷ ns) index e = let same : start ≡ index = cc in (omega (arith, same), omega (arith, same))
untouched_among start (suc n ∷ ns) index e = let later = untouched_among (start + 1) ns index e in let from = later.0 in let below = later.1 in (omega (arith, from), omega (arith, below))

pub untouched_cause : (db : Database) (stmts : List Stmt) → length stmts ≤ STATEMENTS → (e : Effect) → effect db stmts ≡ Ok e → (index : ℕ) → untouched 1 e.touched ≡ Some index → IsCause (why.NoRow index)
untouched_cause db stmts few e means index is =
    let among = untouched_among 1 e.touched index is in
    let counts = (counted_effect db stmts e means).counts in
    let below = among.1 in
    let number : IsCounted STATEMENTS index = (among.0, omega (arith, below, counts, few)) in
    let most = number.1 in
    record { layout = omega (arith, most); limits = number }
