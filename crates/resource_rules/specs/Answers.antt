-- What an answer of a resource is by its rules: said of each memory of the rules that what the resource is, knows and has open is of.
use Rattle.std.specs.Prelude.{◌≡◌, ℕ, ◌+◌, ◌≤◌, ◌<◌, ◌^◌, true, List, [], ◌∷◌, length, Option, Some, None, IfSome, Ok}
use Rattle.seata_types.specs.declared.acts.Act.{Act}
use Rattle.seata_types.specs.declared.acts.Act.TheVariants as act
use Rattle.seata_types.specs.declared.acts.Durable.{Durable}
use Rattle.seata_types.specs.declared.acts.Durable.TheVariants as durable
use Rattle.seata_types.specs.declared.ids.BranchId.{BranchId}
use Rattle.seata_types.specs.declared.ids.Place.{Place}
use Rattle.seata_types.specs.declared.ids.Ticket.{Ticket}
use Rattle.seata_types.specs.declared.limits.TheConstants.{FIELD_ITEMS}
use Rattle.seata_types.specs.declared.messages.Input.{Input}
use Rattle.seata_types.specs.declared.messages.Input.TheVariants as input
use Rattle.seata_types.specs.declared.messages.Message.{Message}
use Rattle.seata_types.specs.declared.messages.Message.TheVariants as message
use Rattle.seata_types.specs.declared.messages.Registered.TheVariants as registered
use Rattle.seata_types.specs.declared.messages.Step.{Step}
use Rattle.seata_types.specs.declared.rows.Image.{Image}
use Rattle.seata_types.specs.declared.rows.ReadRow.{ReadRow}
use Rattle.seata_types.specs.declared.statements.Action.{Action}
use Rattle.seata_types.specs.declared.statements.Stmt.{Stmt}
use Rattle.seata_types.specs.declared.statements.Work.TheVariants as work
use Rattle.seata_types.specs.declared.statuses.BranchKind.TheVariants as kind
use Rattle.frame_codec.specs.Limits.{IsFramable}
use Rattle.local_tables.specs.Calls.{effect}
use Rattle.local_tables.specs.Rows.{Database}
use Rattle.local_tables.specs.declared.schemas.Effect.{Effect}
use Rattle.durable_records.specs.declared.resources.ResourceRecord.{ResourceRecord}
use Rattle.durable_records.specs.declared.resources.ResourceRecord.TheVariants as log
use Rattle.durable_records.specs.ResourceOrder.{Allowed}
use Rattle.durable_records.specs.UndoRecords.{boots}
use Rattle.local_txn.specs.OpenTickets.{Owner, OfCall, OfLocal, Open, busy_row, open_at, sent_again, without}
use Rattle.local_txn.specs.Answers.{Tickets, counted, new_ticket, open_of}
use Rattle.local_txn.specs.declared.transactions.OpenTxn.{OpenTxn}
use Rattle.history_rules.specs.CoordinatorRules.{xid_of}
use Rattle.history_rules.specs.Own.{Given, Left, Own, still}
use Rattle.history_rules.specs.ResourceMemory.{Setup, Memory, action_in, local_in, opening_tables, resource_asked, memory_after}
use Rattle.history_rules.specs.ResourceRules.{resource_answer}
use Rattle.resource_memory.specs.Changes as changes
use Rattle.resource_memory.specs.Changes.{fit, may_come}
use Rattle.resource_memory.specs.Known.{Known, known_of}
use Rattle.record_places.specs.Within.{HasPlace}
use Rattle.resource_rules.specs.Ready.{AreTicketsWithin, IsReady, ServesWithin}
use Rattle.resource_rules.specs.Setups.{actions_of}
use Rattle.resource_rules.specs.declared.answers.Answer.{Answer}
use Rattle.resource_rules.specs.declared.answers.Change.{Change}
use Rattle.resource_rules.specs.declared.answers.Change.TheVariants as change
use Rattle.resource_rules.specs.declared.setups.Setup.{Setup as TheSetup}

-- ---- answers

-- an answer that changes no open ticket, with the record that it asks for, if it asks for one
abbrev pub answer : Option ResourceRecord → Step → Answer
answer asked s = record { step = s; asked = asked; change = change.Stays }

-- nothing is done
abbrev pub ignored : Answer
ignored = answer None (still act.Ignored)

-- ---- by the act

-- the record that a durable act asks for, of this call and these rows
abbrev pub record_of : (call : ℕ) → List Image → List ReadRow → Durable → Option ResourceRecord
record_of c images reads (durable.Committed xid b t) = Some (log.Committed xid b c images reads)
record_of c images reads (durable.Tried xid b t) = Some (log.Tried xid b c images)
record_of c images reads (durable.Cleared xid b) = Some (log.Cleared xid b)
record_of c images reads (durable.Undone xid b) = Some (log.Undone xid b)
record_of c images reads (durable.Marked xid b) = Some (log.Marked xid b)
record_of c images reads (durable.Confirmed xid b) = Some (log.Confirmed xid b images)
record_of c images reads (durable.Cancelled xid b) = Some (log.Cancelled xid b images)
record_of c images reads (durable.Suspended xid b) = Some (log.Suspended xid b)
record_of c images reads (durable.LocalCommitted n t) = Some (log.LocalCommitted n images)
record_of c images reads (durable.Outside n) = Some (log.Outside n images)
record_of c images reads _ = None

-- no other act asks for one
abbrev pub asked_by : (call : ℕ) → List Image → List ReadRow → Act → Option ResourceRecord
asked_by c images reads (act.Durable d) = record_of c images reads d
asked_by c images reads _ = None

-- what becomes of the open tickets at a durable act: that of a commit or of a Try is open no longer
abbrev pub change_of : Durable → Change
change_of (durable.Committed xid b t) = change.Closes t
change_of (durable.Tried xid b t) = change.Closes t
change_of (durable.LocalCommitted n t) = change.Closes t
change_of _ = change.Stays

-- and at another one that opens none
abbrev pub change_by : Act → Change
change_by (act.Resent t) = change.Sends t
change_by (act.Conflicted t n) = change.Counts t
change_by (act.Dropped xid c t cause) = change.Closes t
change_by (act.DroppedLocal n t key holder) = change.Closes t
change_by (act.Durable d) = change_of d
change_by _ = change.Stays

-- the answer of a step, of this call and these rows, that opens no ticket
abbrev pub answer_by : (call : ℕ) → List Image → List ReadRow → Step → Answer
answer_by c images reads s = record { step = s; asked = asked_by c images reads s.act; change = change_by s.act }

-- ---- after an answer

-- the open tickets after a change
abbrev pub opens_by : Change → List Open → List Open
opens_by change.Stays opens = opens
opens_by (change.Opens txn) opens = open_of txn ∷ opens
opens_by (change.Sends t) opens = sent_again t opens
opens_by (change.Counts t) opens = counted (open_at opens t) t opens
opens_by (change.Closes t) opens = without opens t

-- and how many were opened since the boot
abbrev pub opened_by : Change → ℕ → ℕ
opened_by change.Stays n = n
opened_by (change.Opens txn) n = n + 1
opened_by (change.Sends t) n = n
opened_by (change.Counts t) n = n
opened_by (change.Closes t) n = n

-- what is left with a record that was asked for
abbrev pub left_with : Option ResourceRecord → Left ResourceRecord → Left ResourceRecord
left_with None left = left
left_with (Some r) left = record { records = r ∷ left.records; flight = None }

-- a memory after an answer
abbrev pub after : Answer → Memory → Memory
after a m = record { left = left_with a.asked m.left; opens = opens_by a.change m.opens; opened = opened_by a.change m.opened }

-- ---- what is known and open

-- the tickets of a memory
abbrev pub tickets_in : Memory → Tickets
tickets_in m = record { boot = boots m.left.records; opened = m.opened; opens = m.opens }

-- a setup of the rules is this one, beside its tables
pub record IsSetup (is : TheSetup) (s : Setup) : Type 0 where
  pub number : s.number ≡ is.number
  pub tries : s.tries ≡ is.tries
  pub actions : s.actions ≡ actions_of is.actions
  pub locals : s.locals ≡ is.locals

-- what a resource is, what it knows and the tickets that it has open are what its entries left
pub record Shows (is : TheSetup) (k : Known) (ts : Tickets) (s : Setup) (m : Memory) : Type 0 where
  pub setup : IsSetup is s
  pub allowed : Allowed (opening_tables s) m.left.records
  pub knows : k ≡ known_of (opening_tables s) m.left.records
  pub tickets : ts ≡ tickets_in m

-- the statements of an action, and of each action and local transaction that is found, are no more than are counted
pub record IsCounted (a : Action) : Type 0 where
  pub tries : length a.tries ≤ FIELD_ITEMS
  pub confirms : length a.confirms ≤ FIELD_ITEMS
  pub cancels : length a.cancels ≤ FIELD_ITEMS

pub record AreCounted (is : TheSetup) : Type 0 where
  pub actions : (manager call : ℕ) (a : Action) → action_in manager call (actions_of is.actions) ≡ Some a → IsCounted a
  pub locals : (number : ℕ) (stmts : List Stmt) → local_in number is.locals ≡ Some stmts → length stmts ≤ FIELD_ITEMS

-- an open ticket has rows that fit these tables, or a Try with no more statements than are counted
abbrev pub IsOpenFor : Database → Open → Owner → Type 0
IsOpenFor db o (OfCall m x c (work.Tcc action)) = length action.tries ≤ FIELD_ITEMS
IsOpenFor db o _ = fit db o.images o.reads ≡ true

abbrev pub IsOpenOn : Database → Open → Type 0
IsOpenOn db o = IsOpenFor db o o.owner

-- each open ticket has such rows or statements
abbrev pub AreOpenOn : Known → Tickets → Type 0
AreOpenOn k ts = (t : Ticket) (o : Open) → open_at ts.opens t ≡ Some o → IsOpenOn k.tables o

-- ---- by the rules

-- the own entry of a step
abbrev pub own_step : Input → ℕ → Step → Own
own_step given now step = record { event = Given given; now = now; step = step }

-- an answer is the rules' at a memory: the step, the record that it asks for, and what both leave
pub record IsOfRules (s : Setup) (m : Memory) (given : Input) (a : Answer) : Type 0 where
  pub step : a.step ≡ resource_answer s m given
  pub asked : a.asked ≡ resource_asked s m (own_step given 0 a.step)
  pub left : (now : ℕ) → memory_after s (own_step given now a.step) m ≡ after a m

-- where statements have an effect on these tables, the record of its images has a place
abbrev pub HavePlaces : Database → List Stmt → (List Image → ResourceRecord) → Type 0
HavePlaces db stmts with_images = (e : Effect) → effect db stmts ≡ Ok e → HasPlace (with_images e.images)

-- the same of the record of a grant to an open ticket
abbrev pub GrantPlaces : Database → BranchId → Open → Owner → Type 0
GrantPlaces db b o (OfCall m x c (work.At stmts)) = HasPlace (log.Committed (xid_of x) b c o.images o.reads)
GrantPlaces db b o (OfCall m x c (work.Tcc a)) = HavePlaces db a.tries (log.Tried (xid_of x) b c)
GrantPlaces db b o (OfLocal n) = Unit {0}

-- and of that of the lock query of one
abbrev pub LocalPlace : Open → Owner → Type 0
LocalPlace o (OfCall m x c w) = Unit {0}
LocalPlace o (OfLocal n) = HasPlace (log.LocalCommitted n o.images)

-- each record with images that an answer may ask for has a place; one without images always has
abbrev pub Places : TheSetup → Known → Tickets → Input → Type 0
Places is k ts (input.Message from (message.RegisterAnswer t xid (registered.Granted b))) = (o : Open) → open_at ts.opens t ≡ Some o → GrantPlaces k.tables b o o.owner
Places is k ts (input.Message from (message.BranchCommit xid b kind.Tcc manager call)) =
    (a : Action) → action_in manager call (actions_of is.actions) ≡ Some a → HavePlaces k.tables a.confirms (log.Confirmed xid b)
Places is k ts (input.Message from (message.BranchRollback xid b kind.Tcc manager call)) =
    (a : Action) → action_in manager call (actions_of is.actions) ≡ Some a → HavePlaces k.tables a.cancels (log.Cancelled xid b)
Places is k ts (input.Message from (message.LockAnswer t None)) = (o : Open) → open_at ts.opens t ≡ Some o → LocalPlace o o.owner
Places is k ts (input.Outside n) = (stmts : List Stmt) → local_in n is.locals ≡ Some stmts → n < 2 ^ 16 → HavePlaces k.tables stmts (log.Outside n)
Places is k ts given = Unit {0}

-- a record that a resource takes: it may come, it is no boot, and where records with images have places it has one
pub record IsTakenBy (is : TheSetup) (k : Known) (ts : Tickets) (given : Input) (r : ResourceRecord) : Type 0 where
  pub allowed : may_come k r ≡ true
  pub runs : (changes.after r k).boots ≡ k.boots
  pub placed : Places is k ts given → HasPlace r

-- a ticket that is opened is the next one, of rows that no open ticket has
pub record IsNext (ts : Tickets) (txn : OpenTxn) : Type 0 where
  pub named : txn.ticket ≡ new_ticket ts
  pub free : busy_row ts.opens (record { images = txn.images; reads = txn.reads; touched = [] }) ≡ None

-- the ticket that an answer opens, if it opens one, is such, and no record is asked for
abbrev pub OpensNext : Tickets → Option ResourceRecord → Change → Type 0
OpensNext ts asked (change.Opens txn) = IsNext ts txn × (asked ≡ None)
OpensNext ts asked _ = Unit {0}

-- an act that is durable
abbrev pub IsDurable : Act → Type 0
IsDurable done = (d : Durable) × (done ≡ act.Durable d)

-- What an answer leaves of places: what it sends can be framed, and each ticket that is open then has places.
pub record HoldsPlaces (k : Known) (ts : Tickets) (a : Answer) : Type 0 where
  pub frames : IfSome a.step.sent (λ out. IsFramable out.message)
  pub tickets : AreTicketsWithin k.tables (opens_by a.change ts.opens)

-- where a resource is ready, and what it is given has places
abbrev pub StaysWithin : TheSetup → Known → Tickets → Input → Answer → Type 0
StaysWithin is k ts given a = IsReady is k ts → ServesWithin given → HoldsPlaces k ts a

-- An answer to an input, by what a resource is, what it knows and the tickets that it has open.
pub record Answers (is : TheSetup) (k : Known) (ts : Tickets) (given : Input) (a : Answer) : Type 0 where
  pub rules : (s : Setup) (m : Memory) → Shows is k ts s m → IsOfRules s m given a
  pub taken : IfSome a.asked (IsTakenBy is k ts given)
  pub at : IfSome a.asked (λ r. IsDurable a.step.act)
  pub opens : OpensNext ts a.asked a.change
  pub within : StaysWithin is k ts given a

-- the same of a message, wherever it came from
abbrev pub Hears : TheSetup → Known → Tickets → Message → Answer → Type 0
Hears is k ts heard a = (from : Place) → Answers is k ts (input.Message from heard) a
