-- What a ready resource has places for: what the calls that answer ask of it, and the records that they ask for.
use Rattle.std.proofs.Common.{◌≡◌, ℕ, ◌≤◌, ◌==◌, ◌&&◌, Bool, true, false, cond, List, [], ◌∷◌, length, Some, None, Ok, subst, arith}
use Rattle.std.specs.List.{AllByRecursion}
use Rattle.std.proofs.lemmas.List.Elements.{recursion_from_All}
use Rattle.std.proofs.lemmas.Option.{none-some}
use Rattle.seata_types.specs.declared.ids.BranchId.{BranchId}
use Rattle.seata_types.specs.declared.ids.Leg.{Leg}
use Rattle.seata_types.specs.declared.ids.Ticket.{Ticket}
use Rattle.seata_types.specs.declared.ids.Xid.{Xid}
use Rattle.seata_types.specs.declared.limits.TheConstants.{FIELD_ITEMS, STATEMENTS}
use Rattle.seata_types.specs.declared.messages.Input.{Input}
use Rattle.seata_types.specs.declared.messages.Input.TheVariants as input
use Rattle.seata_types.specs.declared.messages.Message.{Message}
use Rattle.seata_types.specs.declared.messages.Message.TheVariants as message
use Rattle.seata_types.specs.declared.messages.Registered.TheVariants as registered
use Rattle.seata_types.specs.declared.rows.Row.{Row}
use Rattle.seata_types.specs.declared.rows.RowKey.{RowKey}
use Rattle.seata_types.specs.declared.statements.Action.{Action}
use Rattle.seata_types.specs.declared.statements.Stmt.{Stmt}
use Rattle.seata_types.specs.declared.statements.Work.{Work}
use Rattle.seata_types.specs.declared.statements.Work.TheVariants as work
use Rattle.seata_types.specs.declared.statuses.BranchKind.{BranchKind}
use Rattle.seata_types.specs.declared.statuses.BranchKind.TheVariants as kind
use Rattle.seata_types.specs.declared.statuses.BranchStatus.{BranchStatus}
use Rattle.byte_fields.specs.Layout.{FitsValue}
use Rattle.byte_fields.specs.Parts.{FitsBranch, FitsLeg, FitsNamedRow, FitsXid}
use Rattle.frame_codec.specs.Limits.{IsFramable, IsWithinLimits, IsWorkWithin}
use Rattle.frame_codec.specs.Messages.{FitsMessage}
use Rattle.frame_codec.specs.Works.{FitsWork}
use Rattle.local_tables.specs.Calls.{effect}
use Rattle.local_tables.specs.Rows.{Database}
use Rattle.local_tables.specs.declared.schemas.Effect.{Effect}
use Rattle.local_txn.specs.OpenTickets.{Open, Owner, OfCall, OfLocal, open_at, opening_of}
use Rattle.local_txn.specs.Answers.{Tickets}
use Rattle.history_rules.specs.CoordinatorRules.{xid_of}
use Rattle.history_rules.specs.ResourceMemory.{action_in, local_in}
use Rattle.resource_log.specs.Records.{leg_of}
use Rattle.resource_log.specs.SnapshotOf.{named_row}
use Rattle.resource_memory.specs.Known.{Known}
use Rattle.resource_memory.proofs.EffectFits.{effects_fit}
use Rattle.record_places.specs.Laws.{HaveRecordsPlaces}
use Rattle.record_places.specs.Within.{AreTablesWithin, HasValues}
use Rattle.record_places.proofs.EffectLaws.{effects_have_keys, effects_have_places}
use Rattle.record_places.proofs.RecordLaws.{records_have_places}
use Rattle.resource_rules.specs.Answers.{AreCounted, AreOpenOn, GrantPlaces, IsOpenFor, LocalPlace, Places}
use Rattle.resource_rules.specs.Calls.{HasFewStatements}
use Rattle.resource_rules.specs.Ready.{AreStmtsWithin, HasActionWithin, HasRows, HasStmtsWithin, IsActionWithin, IsCallWithin, IsKnownWithin, IsOwnedWithin, IsReady, IsTicketWithin, ServesWithin, ServesWork, effect_in}
use Rattle.resource_rules.specs.Serving.{Serves, ServesMessage}
use Rattle.resource_rules.specs.Setups.{actions_of}
use Rattle.resource_rules.specs.declared.setups.Setup.{Setup as TheSetup}
use Rattle.resource_rules.proofs.FramingLaws.{commit_framed, rollback_framed}
use Rattle.resource_rules.proofs.StatementLaws.{stmts_within}
use Rattle.resource_rules.proofs.TicketLists.{found_open}

some_is : {A : Type 0} (a b : A) → Some a ≡ Some b → a ≡ b
some_is a b e = cc

-- ---- the tables

values_within : (es : List (RowKey × Row)) → AllByRecursion (λ e. FitsNamedRow (named_row e)) es → AllByRecursion HasValues es
values_within [] all = tt
values_within (e ∷ es) all = (recursion_from_All FitsValue e.1.0 all.0.1.each, values_within es all.1)

pub tables_within : (k : Known) → IsKnownWithin k → AreTablesWithin k.tables
tables_within k is = let few = is.resource.1 in record { resource = omega (arith, few); tables = is.schema; rows = is.kept.rows; values = values_within k.tables.rows is.parts.rows }

-- ---- what it is

-- statements are counted in two bytes
pub many : {stmts : List Stmt} → AreStmtsWithin stmts → length stmts ≤ FIELD_ITEMS
many is = let few = is.count in omega (arith, few)

pub action_within : (actions : List (ℕ × ℕ × Action)) (m c : ℕ) (a : Action) → AllByRecursion HasActionWithin actions → action_in m c (actions_of actions) ≡ Some a → IsActionWithin a
action_within [] m c a all e = absurd (none-some a e)
action_within (x ∷ xs) m c a all e = by (action_within xs m c a all.1) ((x.0 == m) && (x.1 == c)) e
  where
    by : (action_in m c (actions_of xs) ≡ Some a → IsActionWithin a) → (b : Bool) → cond b (Some x.2) (action_in m c (actions_of xs)) ≡ Some a → IsActionWithin a
    by later true f = subst IsActionWithin (some_is x.2 a f) all.0
    by later false f = later f

pub local_within : (locals : List (ℕ × List Stmt)) (k : ℕ) (stmts : List Stmt) → AllByRecursion HasStmtsWithin locals → local_in k locals ≡ Some stmts → AreStmtsWithin stmts
local_within [] k stmts all e = absurd (none-some stmts e)
local_within (x ∷ xs) k stmts all e = by (local_within xs k stmts all.1) (x.0 == k) e
  where
    by : (local_in k xs ≡ Some stmts → AreStmtsWithin stmts) → (b : Bool) → cond b (Some x.1) (local_in k xs) ≡ Some stmts → AreStmtsWithin stmts
    by later true f = subst AreStmtsWithin (some_is x.1 stmts f) all.0
    by later false f = later f

pub are_counted : (is : TheSetup) (k : Known) (ts : Tickets) → IsReady is k ts → AreCounted is
are_counted is k ts ready = record {
  actions = λ m c a here. let w = action_within is.actions m c a ready.actions here in record { tries = many w.tries; confirms = many w.confirms; cancels = many w.cancels };
  locals = λ n stmts here. many (local_within is.locals n stmts ready.locals here);
}

-- ---- what it has open

open_for : (db : Database) (o : Open) (w : Owner) → IsOwnedWithin db o w → IsOpenFor db o w
open_for db o (OfCall m x c (work.At stmts)) is = is.1.fits
open_for db o (OfCall m x c (work.Tcc action)) is = many is.1
open_for db o (OfLocal k) is = is.1.fits

-- ---- what it is given

-- the numbers of a branch that is to end
pub leg_of_commit : (xid : Xid) (b : BranchId) (k : BranchKind) (m c : ℕ) → IsFramable (message.BranchCommit xid b k m c) → FitsLeg (leg_of xid b)
leg_of_commit xid b k m c is = by is.layout
  where
    by : FitsMessage (message.BranchCommit xid b k m c) → FitsLeg (leg_of xid b)
    by (one, two, of, at) = (one, two)

pub leg_of_rollback : (xid : Xid) (b : BranchId) (k : BranchKind) (m c : ℕ) → IsFramable (message.BranchRollback xid b k m c) → FitsLeg (leg_of xid b)
leg_of_rollback xid b k m c is = by is.layout
  where
    by : FitsMessage (message.BranchRollback xid b k m c) → FitsLeg (leg_of xid b)
    by (one, two, of, at) = (one, two)

-- what is told of it can be framed
pub commit_told : (leg : Leg) (k : BranchKind) (m c : ℕ) (st : BranchStatus) (n : ℕ) → n ≤ STATEMENTS → IsFramable (message.BranchCommit leg.xid leg.branch k m c) → IsFramable (message.BranchCommitted leg.xid leg.branch st n)
commit_told leg k m c st n few is = let fits = leg_of_commit leg.xid leg.branch k m c is in commit_framed leg fits.0 fits.1 st n few

pub rollback_told : (leg : Leg) (k : BranchKind) (m c : ℕ) (st : BranchStatus) (n : ℕ) → n ≤ STATEMENTS → IsFramable (message.BranchRollback leg.xid leg.branch k m c) → IsFramable (message.BranchRollbacked leg.xid leg.branch st n)
rollback_told leg k m c st n few is = let fits = leg_of_rollback leg.xid leg.branch k m c is in rollback_framed leg fits.0 fits.1 st n few

-- and of a branch that was granted
pub branch_granted : (t : Ticket) (xid : Xid) (b : BranchId) → IsFramable (message.RegisterAnswer t xid (registered.Granted b)) → FitsBranch b
branch_granted t xid b is = by is.layout
  where
    by : FitsMessage (message.RegisterAnswer t xid (registered.Granted b)) → FitsBranch b
    by (ticket, of, few) = few

-- and of the holder of a row
pub holder_of : (t : Ticket) (xid : Xid) (key : RowKey) (holder : Xid) (rolling : Bool) → IsFramable (message.RegisterAnswer t xid (registered.Conflict key holder rolling)) → FitsXid holder
holder_of t xid key holder rolling is = by is.layout
  where
    by : FitsMessage (message.RegisterAnswer t xid (registered.Conflict key holder rolling)) → FitsXid holder
    by (ticket, of, (fits, few)) = few

-- the numbers of a call
pub call_within : (xid : Xid) (m r c : ℕ) (w : Work) → IsFramable (message.Call xid m r c w) → IsCallWithin xid.0 c
call_within xid m r c w is = by is.layout is.limits
  where
    by : FitsMessage (message.Call xid m r c w) → IsWithinLimits (message.Call xid m r c w) → IsCallWithin xid.0 c
    by (one, of, at, call, fits) (manager, place, counted, asked) = record { xid = one; counted = counted }

-- and its statements, which have places
served_work : (w : Work) → FitsWork w → IsWorkWithin w → ServesWork w
served_work (work.At stmts) fits within = stmts_within stmts fits within.count
served_work (work.Tcc action) fits within = stmts_within action.tries fits.0 within.0.count

pub work_within : (xid : Xid) (m r c : ℕ) (w : Work) → IsFramable (message.Call xid m r c w) → ServesWork w
work_within xid m r c w is = by is.layout is.limits
  where
    by : FitsMessage (message.Call xid m r c w) → IsWithinLimits (message.Call xid m r c w) → ServesWork w
    by (one, of, at, call, fits) (manager, place, counted, asked) = served_work w fits asked

few_statements : (w : Work) → ServesWork w → HasFewStatements w
few_statements (work.At stmts) is = many is
few_statements (work.Tcc action) is = tt

served_message : (heard : Message) → IsFramable heard → ServesMessage heard
served_message (message.Call xid m r c w) is = ((call_within xid m r c w is).counted.0, few_statements w (work_within xid m r c w is))
served_message _ is = tt

-- it is counted
pub serves_all : (given : Input) → ServesWithin given → Serves given
serves_all (input.Message from heard) is = served_message heard is
serves_all _ is = tt

-- ---- effects and records

module _ (db : Database) (tables : AreTablesWithin db) where
  pub rows_of_effect : (stmts : List Stmt) → AreStmtsWithin stmts → (t : Ticket) (w : Owner) (e : Effect) → effect db stmts ≡ Ok e → HasRows db (opening_of t w e)
  rows_of_effect stmts is t w e means =
      let found = effects_have_places db stmts e tables is.each means in
      let keys = effects_have_keys db stmts e tables is.each means in
      record { fits = effects_fit db stmts e tables.rows means; places = record { images = found.images; reads = found.reads; room = found.room }; keys = record { touched = keys.touched; read = keys.read } }

  places : (stmts : List Stmt) → AreStmtsWithin stmts → (e : Effect) → effect db stmts ≡ Ok e → HaveRecordsPlaces e
  places stmts is e means = records_have_places e (effects_have_places db stmts e tables is.each means)

  grant_places : (b : BranchId) → FitsBranch b → (o : Open) (w : Owner) → IsOwnedWithin db o w → GrantPlaces db b o w
  grant_places b small o (OfCall m x c (work.At stmts)) is =
      let few = is.0.counted.1 in (records_have_places (effect_in o) is.1.places).committed (leg_of (xid_of x) b) c (is.0.xid, small) (omega (arith, few))
  grant_places b small o (OfCall m x c (work.Tcc action)) is =
      let few = is.0.counted.1 in λ e means. (places action.tries is.1 e means).tried (leg_of (xid_of x) b) c (is.0.xid, small) (omega (arith, few))
  grant_places b small o (OfLocal n) is = tt

  local_place : (o : Open) (w : Owner) → IsOwnedWithin db o w → LocalPlace o w
  local_place o (OfCall m x c w) is = tt
  local_place o (OfLocal n) is = (records_have_places (effect_in o) is.1.places).local n is.0

module _ (is : TheSetup) (k : Known) (ts : Tickets) (ready : IsReady is k ts) where
  pub open_within : (t : Ticket) (o : Open) → open_at ts.opens t ≡ Some o → IsTicketWithin k.tables o
  open_within t o here = found_open (IsTicketWithin k.tables) ts.opens t o ready.tickets here

  pub are_open_on : AreOpenOn k ts
  are_open_on t o here = open_for k.tables o o.owner (open_within t o here).owned

  -- each record with images that may be asked for has a place
  pub has_places : (given : Input) → ServesWithin given → Places is k ts given
  has_places (input.Message from (message.RegisterAnswer t xid (registered.Granted b))) served =
      λ o here. grant_places k.tables (tables_within k ready.knows) b (branch_granted t xid b served) o o.owner (open_within t o here).owned
  has_places (input.Message from (message.BranchCommit xid b kind.Tcc m c)) served =
      λ a here e means. (places k.tables (tables_within k ready.knows) a.confirms (action_within is.actions m c a ready.actions here).confirms e means).confirmed (leg_of xid b) (leg_of_commit xid b kind.Tcc m c served)
  has_places (input.Message from (message.BranchRollback xid b kind.Tcc m c)) served =
      λ a here e means. (places k.tables (tables_within k ready.knows) a.cancels (action_within is.actions m c a ready.actions here).cancels e means).cancelled (leg_of xid b) (leg_of_rollback xid b kind.Tcc m c served)
  has_places (input.Message from (message.LockAnswer t None)) served = λ o here. local_place k.tables (tables_within k ready.knows) o o.owner (open_within t o here).owned
  has_places (input.Outside n) served = λ stmts here few e means. (places k.tables (tables_within k ready.knows) stmts (local_within is.locals n stmts ready.locals here) e means).outside n few
  has_places _ served = tt
