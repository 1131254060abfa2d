-- A resource's rules never take it down, nor restart it, and each durable answer of theirs asks for a record.
use Rattle.std.proofs.Common.{◌≡◌, ℕ, zero, suc, ◌+◌, Bool, true, false, cond, nat_le, List, Option, Some, None, is_some, option_map, Result, Ok, Err, refl, ap, ◌∙◌}
use Rattle.seata_types.specs.declared.acts.Act.{Act}
use Rattle.seata_types.specs.declared.acts.Act.TheVariants as act
use Rattle.seata_types.specs.declared.errors.StmtError.{StmtError}
use Rattle.seata_types.specs.declared.errors.Why.TheVariants as why
use Rattle.seata_types.specs.declared.ids.Ticket.{Ticket}
use Rattle.seata_types.specs.declared.ids.Xid.{Xid}
use Rattle.seata_types.specs.declared.messages.Input.{Input}
use Rattle.seata_types.specs.declared.messages.Input.TheVariants as input
use Rattle.seata_types.specs.declared.messages.Message.{Message}
use Rattle.seata_types.specs.declared.messages.Message.TheVariants as message
use Rattle.seata_types.specs.declared.messages.Registered.{Registered}
use Rattle.seata_types.specs.declared.messages.Registered.TheVariants as registered
use Rattle.seata_types.specs.declared.messages.Step.{Step}
use Rattle.seata_types.specs.declared.rows.Image.{Image}
use Rattle.seata_types.specs.declared.rows.RowKey.{RowKey}
use Rattle.seata_types.specs.declared.statements.Action.{Action}
use Rattle.seata_types.specs.declared.statements.Stmt.{Stmt}
use Rattle.seata_types.specs.declared.statements.Work.{Work}
use Rattle.seata_types.specs.declared.statements.Work.TheVariants as work
use Rattle.seata_types.specs.declared.statuses.BranchKind.{BranchKind}
use Rattle.seata_types.specs.declared.statuses.BranchKind.TheVariants as kind
use Rattle.local_tables.specs.Calls.{effect}
use Rattle.local_tables.specs.Rows.{Database}
use Rattle.local_tables.specs.declared.schemas.Effect.{Effect}
use Rattle.local_txn.specs.OpenTickets.{Open, Owner, OfCall, OfLocal, open_at}
use Rattle.local_txn.proofs.OpenLaws.{found_ticket}
use Rattle.durable_records.specs.declared.resources.ResourceRecord.{ResourceRecord}
use Rattle.durable_records.specs.Fences.{FenceAnswer, Runs, WasDone, Suspends, Refuses, fence, on_cancel, on_confirm, on_try}
use Rattle.durable_records.specs.RowsKept.{tables}
use Rattle.durable_records.specs.UndoRecords.{Undo, undo_of, is_marked}
use Rattle.history_rules.specs.Devices.{down_after}
use Rattle.history_rules.specs.Own.{still}
use Rattle.history_rules.specs.CoordinatorRules.{branch_of, xid_of}
use Rattle.history_rules.specs.ResourceMemory.{Memory, Setup, action_of, committed_of, local_committed_of, next_ticket, opening_tables, resource_asked, tried_of}
use Rattle.history_rules.specs.ResourceRules as rules
use Rattle.history_rules.specs.ResourceRules.{resource_answer}
use Rattle.node_steps.specs.Promises.{own_step}
use Rattle.resource_core.specs.Stepping.{asked_record}

-- an act of a node that stays up, with the record that it asks for where it is durable
abbrev pub is_recorded : Option ResourceRecord → Act → Bool
is_recorded asked (act.Durable done) = is_some asked
is_recorded asked (act.Down kept at) = false
is_recorded asked (act.Restarted kept) = false
is_recorded asked act.Armed = false
is_recorded asked _ = true

module _ (s : Setup) (mem : Memory) (given : Input) where
  abbrev db : Database
  db = tables (opening_tables s) mem.left.records

  -- it leaves the node up, and where it is durable it asks for a record
  abbrev IsAsked : Step → Type 0
  IsAsked step = is_recorded (resource_asked s mem (own_step given 0 step)) step.act ≡ true

  abbrev IsOpen : Open → Type 0
  IsOpen o = open_at mem.opens o.ticket ≡ Some o

  -- a ticket that is found is open under its own name
  open_as : (t : Ticket) (o : Open) → open_at mem.opens t ≡ Some o → IsOpen o
  open_as t o found = ap (open_at mem.opens) (found_ticket mem.opens t o found) ∙ found

  -- ---- calls

  free_asked : (m x c : ℕ) (w : Work) (e : Effect) (b : Option (RowKey × Ticket)) → IsAsked (rules.free_call s.number (next_ticket mem) m x c w e b)
  free_asked m x c w e (Some (key, by)) = refl
  free_asked m x c w e None = refl

  new_asked : (m x c : ℕ) (w : Work) (r : Result Effect (ℕ × StmtError)) → IsAsked (rules.new_call s.number mem.opens (next_ticket mem) m x c w r)
  new_asked m x c w (Err (index, error)) = refl
  new_asked m x c w (Ok e) = free_asked m x c w e _

  answer_asked : (m x c : ℕ) (w : Work) (done : Option ℕ) (o : Option Open) → IsAsked (rules.call_answer s.number db mem.opens (next_ticket mem) m x c w done o)
  answer_asked m x c w (Some b) o = refl
  answer_asked m x c w None (Some o) = refl
  answer_asked m x c w None None = new_asked m x c w _

  call_asked : (m x c : ℕ) (w : Work) → IsAsked (rules.on_call s mem.left.records mem.opens (next_ticket mem) m x c w)
  call_asked m zero c w = refl
  call_asked m (suc x) c w = answer_asked m (suc x) c w _ _

  -- ---- answers to a registration

  at_asked : (o : Open) → IsOpen o → (m x c b : ℕ) (u : Option Undo) (marked : Bool) → IsAsked (rules.at_granted o m x c b u marked)
  at_asked o found m x c b (Some u) marked = refl
  at_asked o found m x c b None true = refl
  at_asked o found m x c b None false = ap (λ (p : Option Open). is_some (option_map (committed_of (xid_of x) (branch_of b)) p)) found

  touched_asked : (o : Open) → IsOpen o → (m x c b : ℕ) (index : Option ℕ) → IsAsked (rules.try_touched o m x c b index)
  touched_asked o found m x c b (Some index) = refl
  touched_asked o found m x c b None = ap (λ (p : Option Open). is_some (option_map (tried_of (xid_of x) (branch_of b) db) p)) found

  meant_asked : (o : Open) → IsOpen o → (m x c b : ℕ) (r : Result Effect (ℕ × StmtError)) → IsAsked (rules.try_meant o m x c b r)
  meant_asked o found m x c b (Err (index, error)) = refl
  meant_asked o found m x c b (Ok e) = touched_asked o found m x c b _

  tcc_asked : (o : Open) → IsOpen o → (m x c b : ℕ) (r : Result Effect (ℕ × StmtError)) (answer : FenceAnswer) → IsAsked (rules.tcc_granted o m x c b r answer)
  tcc_asked o found m x c b r Runs = meant_asked o found m x c b r
  tcc_asked o found m x c b r WasDone = refl
  tcc_asked o found m x c b r Suspends = refl
  tcc_asked o found m x c b r Refuses = refl

  granted_asked : (o : Open) → IsOpen o → (w : Owner) (b : ℕ) → IsAsked (rules.granted_answer s mem.left.records mem.opens (next_ticket mem) o w b)
  granted_asked o found (OfCall m x c (work.At stmts)) b = at_asked o found m x c b (undo_of mem.left.records x b) (is_marked mem.left.records x b)
  granted_asked o found (OfCall m x c (work.Tcc action)) b = tcc_asked o found m x c b (effect db action.tries) (on_try (fence mem.left.records x b))
  granted_asked o found (OfLocal k) b = refl

  met_asked : (o : Open) (m x c : ℕ) (holder : Xid) (rolling : Bool) → IsAsked (rules.conflict_answer s.tries o m x c holder rolling)
  met_asked o m x c holder true = refl
  met_asked o m x c holder false = by (nat_le s.tries (o.conflicts + 1))
    where
      by : (b : Bool) → IsAsked (cond b (rules.drops o m x c why.Tries) (still (act.Conflicted o.ticket (o.conflicts + 1))))
      by true = refl
      by false = refl

  ticket_asked : (o : Open) → IsOpen o → (w : Owner) (answer : Registered) → IsAsked (rules.ticket_answer s mem.left.records mem.opens (next_ticket mem) o w answer)
  ticket_asked o found w (registered.Granted b) = granted_asked o found w b.0
  ticket_asked o found (OfCall m x c w) (registered.Conflict key holder rolling) = met_asked o m x c holder rolling
  ticket_asked o found (OfCall m x c w) (registered.Closed status) = refl
  ticket_asked o found (OfCall m x c w) registered.Late = refl
  ticket_asked o found (OfLocal k) (registered.Conflict key holder rolling) = refl
  ticket_asked o found (OfLocal k) (registered.Closed status) = refl
  ticket_asked o found (OfLocal k) registered.Late = refl

  registered_asked : (t : Ticket) (p : Option Open) → open_at mem.opens t ≡ p → (answer : Registered) → IsAsked (rules.on_registered s mem.left.records mem.opens (next_ticket mem) p answer)
  registered_asked t None is answer = refl
  registered_asked t (Some o) is answer = ticket_asked o (open_as t o is) o.owner answer

  -- ---- second phases

  clear_asked : (x b : ℕ) (u : Option Undo) → IsAsked (rules.at_commit x b u)
  clear_asked x b (Some u) = refl
  clear_asked x b None = refl

  undo_asked : (x b : ℕ) (dirty : Option Image) → IsAsked (rules.at_undo db x b dirty)
  undo_asked x b (Some i) = refl
  undo_asked x b None = refl

  record_asked : (x b : ℕ) (images : List Image) (busy : Option (RowKey × Ticket)) → IsAsked (rules.at_record db x b images busy)
  record_asked x b images (Some (key, by)) = refl
  record_asked x b images None = undo_asked x b _

  roll_asked : (x b : ℕ) (marked : Bool) (u : Option Undo) → IsAsked (rules.at_rollback db mem.opens x b marked u)
  roll_asked x b true u = refl
  roll_asked x b false None = refl
  roll_asked x b false (Some u) = record_asked x b u.images _

  confirmed_asked : (x b : ℕ) (r : Result Effect (ℕ × StmtError)) → IsAsked (rules.confirm_runs x b r)
  confirmed_asked x b (Err (index, error)) = refl
  confirmed_asked x b (Ok e) = refl

  confirm_asked : (x b : ℕ) (r : Result Effect (ℕ × StmtError)) (answer : FenceAnswer) → IsAsked (rules.tcc_commit x b r answer)
  confirm_asked x b r Runs = confirmed_asked x b r
  confirm_asked x b r WasDone = refl
  confirm_asked x b r Suspends = refl
  confirm_asked x b r Refuses = refl

  cancelled_asked : (x b : ℕ) (r : Result Effect (ℕ × StmtError)) → IsAsked (rules.cancel_runs x b r)
  cancelled_asked x b (Err (index, error)) = refl
  cancelled_asked x b (Ok e) = refl

  cancel_asked : (x b : ℕ) (r : Result Effect (ℕ × StmtError)) (answer : FenceAnswer) → IsAsked (rules.tcc_rollback x b r answer)
  cancel_asked x b r Runs = cancelled_asked x b r
  cancel_asked x b r WasDone = refl
  cancel_asked x b r Suspends = refl
  cancel_asked x b r Refuses = refl

  with_asked : (answer : Action → Step) → ((a : Action) → IsAsked (answer a)) → (o : Option Action) → IsAsked (rules.with_action answer o)
  with_asked answer each None = refl
  with_asked answer each (Some a) = each a

  commit_asked : (x b : ℕ) (k : BranchKind) (m c : ℕ) → IsAsked (rules.on_commit s mem.left.records mem.opens (next_ticket mem) x b k m c)
  commit_asked x b kind.At m c = clear_asked x b _
  commit_asked x b kind.Tcc m c = with_asked (λ a. rules.tcc_commit x b (effect db a.confirms) (on_confirm (fence mem.left.records x b))) (λ a. confirm_asked x b (effect db a.confirms) (on_confirm (fence mem.left.records x b))) (action_of s m c)

  rollback_asked : (x b : ℕ) (k : BranchKind) (m c : ℕ) → IsAsked (rules.on_rollback s mem.left.records mem.opens (next_ticket mem) x b k m c)
  rollback_asked x b kind.At m c = roll_asked x b _ _
  rollback_asked x b kind.Tcc m c = with_asked (λ a. rules.tcc_rollback x b (effect db a.cancels) (on_cancel (fence mem.left.records x b))) (λ a. cancel_asked x b (effect db a.cancels) (on_cancel (fence mem.left.records x b))) (action_of s m c)

  -- ---- local transactions and outside writes

  local_free_asked : (k : ℕ) (e : Effect) (b : Option (RowKey × Ticket)) → IsAsked (rules.local_free s.number (next_ticket mem) k e b)
  local_free_asked k e (Some (key, by)) = refl
  local_free_asked k e None = refl

  local_meant_asked : (k : ℕ) (r : Result Effect (ℕ × StmtError)) → IsAsked (rules.local_meant s.number mem.opens (next_ticket mem) k r)
  local_meant_asked k (Err (index, error)) = refl
  local_meant_asked k (Ok e) = local_free_asked k e _

  local_answer_asked : (k : ℕ) (stmts : List Stmt) (o : Option Open) → IsAsked (rules.local_answer s.number db mem.opens (next_ticket mem) k stmts o)
  local_answer_asked k stmts (Some o) = refl
  local_answer_asked k stmts None = local_meant_asked k _

  local_asked : (k : ℕ) (stmts : Option (List Stmt)) → IsAsked (rules.on_local s mem.left.records mem.opens (next_ticket mem) k stmts)
  local_asked k None = refl
  local_asked k (Some stmts) = local_answer_asked k stmts _

  lock_asked : (o : Open) → IsOpen o → (w : Owner) (held : Option (RowKey × Xid)) → IsAsked (rules.lock_answer o w held)
  lock_asked o found (OfLocal k) (Some (key, holder)) = refl
  lock_asked o found (OfLocal k) None = ap (λ (p : Option Open). is_some (option_map (local_committed_of k) p)) found
  lock_asked o found (OfCall m x c w) held = refl

  locked_asked : (t : Ticket) (p : Option Open) → open_at mem.opens t ≡ p → (held : Option (RowKey × Xid)) → IsAsked (rules.on_lock_answer s mem.left.records mem.opens (next_ticket mem) p held)
  locked_asked t None is held = refl
  locked_asked t (Some o) is held = lock_asked o (open_as t o is) o.owner held

  outside_free_asked : (k : ℕ) (b : Option (RowKey × Ticket)) → IsAsked (rules.outside_free k b)
  outside_free_asked k (Some (key, by)) = refl
  outside_free_asked k None = refl

  outside_meant_asked : (k : ℕ) (r : Result Effect (ℕ × StmtError)) → IsAsked (rules.outside_meant mem.opens k r)
  outside_meant_asked k (Err (index, error)) = refl
  outside_meant_asked k (Ok e) = outside_free_asked k _

  outside_asked : (k : ℕ) (stmts : Option (List Stmt)) → IsAsked (rules.on_outside s mem.left.records mem.opens (next_ticket mem) k stmts)
  outside_asked k None = refl
  outside_asked k (Some stmts) = outside_meant_asked k _

  -- ---- turns, and all

  turn_asked : (o : Option Open) → IsAsked (rules.on_turn s mem.left.records mem.opens (next_ticket mem) o)
  turn_asked None = refl
  turn_asked (Some o) = refl

  message_asked : (heard : Message) → IsAsked (rules.on_message s mem.left.records mem.opens (next_ticket mem) heard)
  message_asked (message.Call xid manager resource call w) = call_asked manager xid.0 call w
  message_asked (message.RegisterAnswer ticket xid answer) = registered_asked ticket _ refl answer
  message_asked (message.LockAnswer ticket held) = locked_asked ticket _ refl held
  message_asked (message.BranchCommit xid b k manager call) = commit_asked xid.0 b.0 k manager call
  message_asked (message.BranchRollback xid b k manager call) = rollback_asked xid.0 b.0 k manager call
  message_asked (message.Begin manager timeout) = refl
  message_asked (message.Begun xid) = refl
  message_asked (message.BranchCommitted xid id status stmt) = refl
  message_asked (message.BranchRollbacked xid id status stmt) = refl
  message_asked (message.GlobalCommit xid) = refl
  message_asked (message.CommitStatus xid status) = refl
  message_asked (message.GlobalRollback xid) = refl
  message_asked (message.RollbackStatus xid status) = refl
  message_asked (message.Register xid resource call ticket mode hold check) = refl
  message_asked (message.GlobalStatus xid) = refl
  message_asked (message.StatusAnswer xid status) = refl
  message_asked (message.LockQuery resource ticket check) = refl
  message_asked (message.Answer xid call given) = refl

  input_asked : (given : Input) → IsAsked (rules.on_input s mem.left.records mem.opens (next_ticket mem) given)
  input_asked input.Turn = turn_asked _
  input_asked (input.Message from heard) = message_asked heard
  input_asked (input.Local k) = local_asked k _
  input_asked (input.Outside k) = outside_asked k _

-- a durable answer of the rules asks for a record, and no answer takes the node down, restarts it or arms it
pub answers_are_recorded : (s : Setup) (m : Memory) (given : Input) → is_recorded (asked_record s m given) (resource_answer s m given).act ≡ true
answers_are_recorded s m given = input_asked s m given given

stays_up : (asked : Option ResourceRecord) (a : Act) → is_recorded asked a ≡ true → down_after a false ≡ false
stays_up asked (act.Down kept at) e = absurd cc
stays_up asked (act.Restarted kept) e = refl
stays_up asked _ e = refl

pub answers_stay_up : (s : Setup) (m : Memory) (given : Input) → down_after (resource_answer s m given).act false ≡ false
answers_stay_up s m given = stays_up (asked_record s m given) (resource_answer s m given).act (answers_are_recorded s m given)
