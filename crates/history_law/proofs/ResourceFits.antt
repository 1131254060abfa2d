-- What a resource's act finds before it, and what its messages say.
use Rattle.seata_types.specs.declared.messages.CallAnswer.TheVariants as called
use Rattle.seata_types.specs.declared.acts.Durable.{Durable}
use Rattle.durable_records.specs.declared.resources.ResourceRecord.{ResourceRecord}
use Rattle.history_law.specs.WorkSafety.{IsWork}
use Rattle.std.proofs.Common.{◌≡◌, ◌⊎◌, ℕ, Bool, true, false, List, Option, Some, None, is_some}
use Rattle.seata_types.specs.declared.acts.Act.{Act}
use Rattle.seata_types.specs.declared.acts.Act.TheVariants as act
use Rattle.seata_types.specs.declared.acts.Durable.TheVariants as durable
use Rattle.seata_types.specs.declared.ids.BranchId.{BranchId}
use Rattle.seata_types.specs.declared.ids.Place.{Place}
use Rattle.seata_types.specs.declared.ids.Ticket.{Ticket}
use Rattle.seata_types.specs.declared.ids.Xid.{Xid}
use Rattle.seata_types.specs.declared.messages.Input.TheVariants as input
use Rattle.seata_types.specs.declared.messages.Message.{Message}
use Rattle.seata_types.specs.declared.messages.Message.TheVariants as message
use Rattle.seata_types.specs.declared.messages.Outgoing.{Outgoing}
use Rattle.seata_types.specs.declared.messages.Registered.TheVariants as registered
use Rattle.seata_types.specs.declared.messages.Step.{Step}
use Rattle.seata_types.specs.declared.rows.Image.{Image}
use Rattle.seata_types.specs.declared.rows.RowKey.{RowKey}
use Rattle.seata_types.specs.declared.statements.Action.{Action}
use Rattle.seata_types.specs.declared.statements.Work.{Work}
use Rattle.seata_types.specs.declared.statements.Work.TheVariants as work
use Rattle.seata_types.specs.declared.statuses.BranchKind.{BranchKind}
use Rattle.seata_types.specs.declared.statuses.BranchKind.TheVariants as kind
use Rattle.seata_types.specs.declared.statuses.BranchStatus.{BranchStatus}
use Rattle.seata_types.specs.declared.statuses.BranchStatus.TheVariants as branch
use Rattle.local_tables.specs.Rows.{Database}
use Rattle.durable_records.specs.Locks.{has_key}
use Rattle.durable_records.specs.UndoRecords.{Undo, undos, undo_of, is_marked}
use Rattle.durable_records.specs.RowsKept.{tables}
use Rattle.durable_records.specs.Fences.{Runs, WasDone, Suspends, Refuses, fence, on_try, on_confirm, on_cancel}
use Rattle.durable_records.specs.ResourceOrder.{image_keys}
use Rattle.history_rules.specs.Own.{Event, Given}
use Rattle.history_rules.specs.CoordinatorRules.{xid_of, branch_of}
use Rattle.history_rules.specs.ResourceMemory.{Setup, Owner, OfCall, OfLocal, Open, Memory, opening_tables, local_of, next_ticket, open_at, has_row, effect_on, or_empty, opened_for, opens_after, resource_record}
use Rattle.history_rules.specs.ResourceRules.{dirty_image, is_for_call}
use Rattle.history_law.specs.Points.{In}
use Rattle.history_law.specs.Tickets.{IsAtOf, HasAll, Asks, IsOfRollback}

-- the tables as they are now
abbrev pub tables_now : Setup → Memory → Database
tables_now s m = tables (opening_tables s) m.left.records

-- no open ticket has a row of this one
abbrev pub IsFree : List Open → Option Open → Type 0
IsFree opens None = Unit {0}
IsFree opens (Some n) = (p : Open) → In p opens → (key : RowKey) → has_row key n ≡ true → has_row key p ≡ true → ⊥

-- a ticket of an AT call is opened only where no undo record of this call stands and no ticket of it is open
abbrev pub IsNew : Memory → Owner → Type 0
IsNew m (OfCall manager x c (work.At stmts)) =
    ((u : Undo) → In u (undos m.left.records) → u.xid ≡ x → u.call ≡ c → ⊥) × ((p : Open) → In p m.opens → is_for_call x c p.owner ≡ false)
IsNew m _ = Unit {0}

abbrev pub IsNewTicket : Memory → Option Open → Type 0
IsNewTicket m None = Unit {0}
IsNewTicket m (Some n) = IsNew m n.owner

-- the ticket is opened for call c of x
abbrev pub IsForCall : (x c : ℕ) → Option Open → Type 0
IsForCall x c None = ⊥
IsForCall x c (Some n) = (manager : ℕ) × (wk : Work) × (n.owner ≡ OfCall manager x c wk)

-- or for local transaction k
abbrev pub IsForLocal : ℕ → Option Open → Type 0
IsForLocal k None = ⊥
IsForLocal k (Some n) = n.owner ≡ OfLocal k

-- no open ticket has a row of these images
abbrev pub AreFree : List Open → List Image → Type 0
AreFree opens images = (p : Open) → In p opens → (key : RowKey) → has_key (image_keys images) key ≡ true → has_row key p ≡ true → ⊥

-- ---- what asked for an act

pub record IsGranted (event : Event) (t : Ticket) (b : BranchId) : Type 0 where
  pub from : Place
  pub xid : Xid
  pub is : event ≡ Given (input.Message from (message.RegisterAnswer t xid (registered.Granted b)))

pub record IsRollback (event : Event) (x b : ℕ) (k : BranchKind) : Type 0 where
  pub from : Place
  pub manager : ℕ
  pub call : ℕ
  pub is : event ≡ Given (input.Message from (message.BranchRollback (xid_of x) (branch_of b) k manager call))

pub record IsCommit (event : Event) (x b : ℕ) (k : BranchKind) : Type 0 where
  pub from : Place
  pub manager : ℕ
  pub call : ℕ
  pub is : event ≡ Given (input.Message from (message.BranchCommit (xid_of x) (branch_of b) k manager call))

-- the grant of an open AT ticket, whose branch has neither a marker nor an undo record
pub record CommitsAt (m : Memory) (event : Event) (x b : ℕ) (t : Ticket) : Type 0 where
  pub open_ticket : Open
  pub found : open_at m.opens t ≡ Some open_ticket
  pub at : IsAtOf x open_ticket.owner
  pub unmarked : is_marked m.left.records x b ≡ false
  pub fresh : undo_of m.left.records x b ≡ None
  pub granted : IsGranted event t (branch_of b)

-- the free answer for an open local ticket
pub record CommitsLocal (m : Memory) (event : Event) (n : ℕ) (t : Ticket) : Type 0 where
  pub open_ticket : Open
  pub found : open_at m.opens t ≡ Some open_ticket
  pub owner : open_ticket.owner ≡ OfLocal n
  pub from : Place
  pub is : event ≡ Given (input.Message from (message.LockAnswer t None))

-- the grant of an open TCC ticket, whose fence lets the Try run
pub record TriesAt (m : Memory) (event : Event) (x b : ℕ) (t : Ticket) : Type 0 where
  pub open_ticket : Open
  pub found : open_at m.opens t ≡ Some open_ticket
  pub manager : ℕ
  pub call : ℕ
  pub action : Action
  pub owner : open_ticket.owner ≡ OfCall manager x call (work.Tcc action)
  pub runs : on_try (fence m.left.records x b) ≡ Runs
  pub granted : IsGranted event t (branch_of b)

-- the rollback of an undo record whose rows no open ticket has
pub record Undoes (m : Memory) (event : Event) (x b : ℕ) : Type 0 where
  pub asked : IsRollback event x b kind.At
  pub undo : Undo
  pub found : undo_of m.left.records x b ≡ Some undo
  pub free : AreFree m.opens undo.images

-- a confirm or a cancel that the fence refuses
abbrev pub IsUnfenced : Memory → Event → ℕ → ℕ → Type 0
IsUnfenced m event x b = (IsCommit event x b kind.Tcc × (on_confirm (fence m.left.records x b) ≡ Refuses))
    ⊎ (IsRollback event x b kind.Tcc × (on_cancel (fence m.left.records x b) ≡ Refuses))

-- the rollback of an undo record of which a row isn't its after
pub record IsDirty (s : Setup) (m : Memory) (event : Event) (x b : ℕ) (key : RowKey) : Type 0 where
  pub asked : IsRollback event x b kind.At
  pub undo : Undo
  pub found : undo_of m.left.records x b ≡ Some undo
  pub image : Image
  pub dirty : dirty_image (tables_now s m) undo.images ≡ Some image
  pub key_is : image.key ≡ key

-- ---- acts

abbrev pub ActFits : Setup → Memory → Event → Act → Type 0
ActFits s m event (act.Opened xid c t) = (t ≡ next_ticket m) × IsFree m.opens (opened_for s (tables_now s m) t event) × IsNewTicket m (opened_for s (tables_now s m) t event) × IsForCall xid.0 c (opened_for s (tables_now s m) t event)
ActFits s m event (act.OpenedLocal k t) = (t ≡ next_ticket m) × IsFree m.opens (opened_for s (tables_now s m) t event) × IsNewTicket m (opened_for s (tables_now s m) t event) × IsForLocal k (opened_for s (tables_now s m) t event)
ActFits s m event (act.Durable (durable.Committed xid b t)) = CommitsAt m event xid.0 b.0 t
ActFits s m event (act.Durable (durable.Undone xid b)) = Undoes m event xid.0 b.0
ActFits s m event (act.Durable (durable.Marked xid b)) = IsRollback event xid.0 b.0 kind.At × (undo_of m.left.records xid.0 b.0 ≡ None)
ActFits s m event (act.Durable (durable.Cleared xid b)) = IsCommit event xid.0 b.0 kind.At × (is_some (undo_of m.left.records xid.0 b.0) ≡ true)
ActFits s m event (act.Durable (durable.Tried xid b t)) = TriesAt m event xid.0 b.0 t
ActFits s m event (act.Durable (durable.Confirmed xid b)) = IsCommit event xid.0 b.0 kind.Tcc × (on_confirm (fence m.left.records xid.0 b.0) ≡ Runs)
ActFits s m event (act.Durable (durable.Cancelled xid b)) = IsRollback event xid.0 b.0 kind.Tcc × (on_cancel (fence m.left.records xid.0 b.0) ≡ Runs)
ActFits s m event (act.Durable (durable.Suspended xid b)) = IsRollback event xid.0 b.0 kind.Tcc × (on_cancel (fence m.left.records xid.0 b.0) ≡ Suspends)
ActFits s m event (act.Durable (durable.LocalCommitted n t)) = CommitsLocal m event n t
ActFits s m event (act.Durable (durable.Outside n)) = AreFree m.opens (effect_on (tables_now s m) (or_empty (local_of s n))).images
ActFits s m event (act.Dirty xid b key after now) = IsDirty s m event xid.0 b.0 key
ActFits s m event (act.Unfenced xid b) = IsUnfenced m event xid.0 b.0
ActFits s m event (act.Durable durable.Boot) = ⊥
ActFits s m event (act.Down kept at) = ⊥
ActFits s m event (act.Restarted kept) = ⊥
ActFits s m event _ = Unit {0}

-- ---- messages

-- branch b of x was rolled back before, or is now
abbrev pub RolledBy : Memory → ℕ → ℕ → Act → Type 0
RolledBy m x b (act.Durable (durable.Marked xid c)) = (xid.0 ≡ x) × (c.0 ≡ b)
RolledBy m x b (act.Durable (durable.Undone xid c)) = (xid.0 ≡ x) × (c.0 ≡ b)
RolledBy m x b (act.Remarked xid c) = is_marked m.left.records x b ≡ true
RolledBy m x b _ = ⊥

-- a TCC branch was cancelled or suspended before, or is now
abbrev pub CancelledBy : Memory → ℕ → ℕ → Act → Type 0
CancelledBy m x b (act.Durable (durable.Cancelled xid c)) = (xid.0 ≡ x) × (c.0 ≡ b)
CancelledBy m x b (act.Durable (durable.Suspended xid c)) = (xid.0 ≡ x) × (c.0 ≡ b)
CancelledBy m x b (act.Already xid c) = on_cancel (fence m.left.records x b) ≡ WasDone
CancelledBy m x b _ = ⊥

-- a TCC branch was confirmed before, or is now
abbrev pub ConfirmedBy : Memory → ℕ → ℕ → Act → Type 0
ConfirmedBy m x b (act.Durable (durable.Confirmed xid c)) = (xid.0 ≡ x) × (c.0 ≡ b)
ConfirmedBy m x b (act.Already xid c) = on_confirm (fence m.left.records x b) ≡ WasDone
ConfirmedBy m x b _ = ⊥

abbrev pub IsOfCommit : BranchStatus → Type 0
IsOfCommit branch.PhaseTwoCommitted = Unit {0}
IsOfCommit branch.PhaseTwoCommitFailedRetryable = Unit {0}
IsOfCommit branch.PhaseTwoCommitFailedUnretryable = Unit {0}
IsOfCommit _ = ⊥

abbrev pub is_done_commit : BranchStatus → Bool
is_done_commit branch.PhaseTwoCommitted = true
is_done_commit _ = false

abbrev pub is_done_rollback : BranchStatus → Bool
is_done_rollback branch.PhaseTwoRollbacked = true
is_done_rollback _ = false

-- a BranchCommitted answers a BranchCommit, and says 5 of a TCC branch only where it is confirmed
pub record SaysCommitted (m : Memory) (event : Event) (done : Act) (x b : ℕ) (st : BranchStatus) : Type 0 where
  pub of_kind : BranchKind
  pub asked : IsCommit event x b of_kind
  pub status : IsOfCommit st
  pub confirmed : of_kind ≡ kind.Tcc → is_done_commit st ≡ true → ConfirmedBy m x b done

-- a BranchRollbacked answers a BranchRollback, and says 8 of a branch only where it is rolled back
pub record SaysRollbacked (m : Memory) (event : Event) (done : Act) (x b : ℕ) (st : BranchStatus) : Type 0 where
  pub of_kind : BranchKind
  pub asked : IsRollback event x b of_kind
  pub status : IsOfRollback st
  pub rolled : of_kind ≡ kind.At → is_done_rollback st ≡ true → RolledBy m x b done
  pub cancelled : of_kind ≡ kind.Tcc → is_done_rollback st ≡ true → CancelledBy m x b done

-- a Register and a LockQuery come from a ticket that is open after the act
pub record Registers (s : Setup) (m : Memory) (event : Event) (done : Act) (x r c : ℕ) (t : Ticket) (k : BranchKind) (hold check : List RowKey) : Type 0 where
  pub number : r ≡ s.number
  pub open_ticket : Open
  pub there : In open_ticket (opens_after s (tables_now s m) event done m.opens)
  pub ticket : open_ticket.ticket ≡ t
  pub asks : Asks x c k hold check open_ticket

pub record Queries (s : Setup) (m : Memory) (event : Event) (done : Act) (r : ℕ) (t : Ticket) (check : List RowKey) : Type 0 where
  pub number : r ≡ s.number
  pub open_ticket : Open
  pub there : In open_ticket (opens_after s (tables_now s m) event done m.opens)
  pub ticket : open_ticket.ticket ≡ t
  pub rows : HasAll check open_ticket

-- the record of the work of a call stands, or is what is done now
pub record IsWorked (s : Setup) (m : Memory) (event : Event) (done : Act) (x c b : ℕ) : Type 0 where
  pub work : ResourceRecord
  pub is : IsWork x c b work
  pub stands : In work m.left.records ⊎ ((d : Durable) × (done ≡ act.Durable d) × (resource_record s m.left.records m.opens event d ≡ Some work))

abbrev pub MessageFits : Setup → Memory → Event → Act → Message → Type 0
MessageFits s m event done (message.Register xid r c t k hold check) = Registers s m event done xid.0 r c t k hold check
MessageFits s m event done (message.LockQuery r t check) = Queries s m event done r t check
MessageFits s m event done (message.BranchCommitted xid b st stmt) = SaysCommitted m event done xid.0 b.0 st
MessageFits s m event done (message.BranchRollbacked xid b st stmt) = SaysRollbacked m event done xid.0 b.0 st
MessageFits s m event done (message.Answer xid c (called.Done b)) = IsWorked s m event done xid.0 c b.0
MessageFits s m event done (message.Answer xid c _) = Unit {0}
MessageFits s m event done _ = ⊥

abbrev pub SentFits : Setup → Memory → Event → Act → Option Outgoing → Type 0
SentFits s m event done None = Unit {0}
SentFits s m event done (Some out) = MessageFits s m event done out.message

abbrev pub Fits : Setup → Memory → Event → Step → Type 0
Fits s m event step = ActFits s m event step.act × SentFits s m event step.act step.sent
