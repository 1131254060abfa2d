-- What asked a resource for its act, and what the act found.
use Rattle.std.proofs.Common.{◌≡◌, ◌⊎◌, inl, inr, ◌+◌, nat_le, ℕ, zero, suc, Bool, true, false, if◌then◌else◌, List, find, Option, Some, None, Result, Ok, Err, refl, sym, subst}
use Rattle.seata_types.specs.declared.acts.Act.{Act}
use Rattle.seata_types.specs.declared.acts.Act.TheVariants as act
use Rattle.seata_types.specs.declared.acts.Durable.{Durable}
use Rattle.seata_types.specs.declared.acts.Durable.TheVariants as durable
use Rattle.seata_types.specs.declared.errors.StmtError.{StmtError}
use Rattle.seata_types.specs.declared.errors.Why.TheVariants as why
use Rattle.seata_types.specs.declared.ids.Place.{Place}
use Rattle.seata_types.specs.declared.ids.Ticket.{Ticket}
use Rattle.seata_types.specs.declared.ids.Xid.{Xid}
use Rattle.seata_types.specs.declared.messages.Input.{Input}
use Rattle.seata_types.specs.declared.messages.Input.TheVariants as input
use Rattle.seata_types.specs.declared.messages.Message.{Message}
use Rattle.seata_types.specs.declared.messages.Message.TheVariants as message
use Rattle.seata_types.specs.declared.messages.Outgoing.{Outgoing}
use Rattle.seata_types.specs.declared.messages.Registered.{Registered}
use Rattle.seata_types.specs.declared.messages.Registered.TheVariants as registered
use Rattle.seata_types.specs.declared.messages.Step.{Step}
use Rattle.seata_types.specs.declared.rows.Image.{Image}
use Rattle.seata_types.specs.declared.rows.RowKey.{RowKey}
use Rattle.seata_types.specs.declared.statements.Action.{Action}
use Rattle.seata_types.specs.declared.statements.Stmt.{Stmt}
use Rattle.seata_types.specs.declared.statements.Work.{Work}
use Rattle.seata_types.specs.declared.statements.Work.TheVariants as work
use Rattle.seata_types.specs.declared.statuses.BranchKind.{BranchKind}
use Rattle.seata_types.specs.declared.statuses.BranchKind.TheVariants as kind
use Rattle.local_tables.specs.Calls.{effect}
use Rattle.local_tables.specs.Rows.{Database}
use Rattle.local_tables.specs.declared.schemas.Effect.{Effect}
use Rattle.durable_records.specs.declared.resources.ResourceRecord.{ResourceRecord}
use Rattle.durable_records.specs.Fences.{FenceAnswer, Runs, WasDone, Suspends, Refuses, fence, on_try, on_confirm, on_cancel}
use Rattle.durable_records.specs.ResourceOrder.{image_keys}
use Rattle.durable_records.specs.UndoRecords.{Undo, undo_of, is_marked}
use Rattle.history_rules.specs.CoordinatorRules.{xid_of, branch_of, last_of}
use Rattle.history_rules.specs.Devices.{is_down, fails, kept_act, written, restarted}
use Rattle.history_rules.specs.Nodes.{Role, Resource, Happens, happens, up_answer, down_answer, left_at}
use Rattle.history_rules.specs.Own.{Event, Given, Stopped, Crashed, Restarted, Own, still}
use Rattle.history_rules.specs.ResourceMemory.{Setup, Owner, OfCall, OfLocal, Open, Memory, action_of, local_of, next_ticket, open_at, memory}
use Rattle.history_rules.specs.ResourceRules
use Rattle.history_rules.specs.ResourceRules.{busy_in, busy_row, dirty_image, untouched, least_branch, is_for_call, is_for_local, resource_answer}
use Rattle.history_law.specs.Tickets.{Tickets}
use Rattle.history_law.proofs.ResourceAnswers.{resource_fits}
use Rattle.history_law.proofs.ResourceFits.{tables_now, ActFits}

-- ---- what asked for an act

-- a confirm and a cancel were asked for by a message of the second phase; a branch that is marked wasn't marked before
abbrev pub AsksFor : Memory → Event → Durable → Type 0
AsksFor m event (durable.Confirmed xid b) =
    (from : Place) × (k : BranchKind) × (manager : ℕ) × (call : ℕ) × (event ≡ Given (input.Message from (message.BranchCommit xid b k manager call)))
AsksFor m event (durable.Cancelled xid b) =
    (from : Place) × (k : BranchKind) × (manager : ℕ) × (call : ℕ) × (event ≡ Given (input.Message from (message.BranchRollback xid b k manager call)))
AsksFor m event (durable.Marked xid b) = is_marked m.left.records xid.0 b.0 ≡ false
AsksFor m event _ = Unit {0}

-- a ticket is opened for a Call or for a local transaction
abbrev pub ActAsks : Memory → Event → Act → Type 0
ActAsks m event (act.Durable d) = AsksFor m event d
ActAsks m event (act.Down kept (Some d)) = AsksFor m event d
ActAsks m event (act.Opened xid c t) =
    (from : Place) × (manager : ℕ) × (resource : ℕ) × (w : Work) × (event ≡ Given (input.Message from (message.Call xid manager resource c w)))
ActAsks m event (act.OpenedLocal n t) = event ≡ Given (input.Local n)
ActAsks m event _ = Unit {0}

module _ (s : Setup) (m : Memory) where
  abbrev rs : List ResourceRecord
  rs = m.left.records

  abbrev next : Ticket
  next = next_ticket m

  abbrev db : Database
  db = tables_now s m

  -- ---- calls

  module _ (from : Place) (man res : ℕ) where
    abbrev called : (x c : ℕ) → Work → Event
    called x c w = Given (input.Message from (message.Call (xid_of x) man res c w))

    free_asks : (x c : ℕ) (w : Work) (e : Effect) (busy : Option (RowKey × Ticket))
        → ActAsks m (called x c w) (ResourceRules.free_call s.number next man x c w e busy).act
    free_asks x c w e (Some (key, by)) = tt
    free_asks x c w e None = (from, man, res, w, refl)

    new_asks : (x c : ℕ) (w : Work) (r : Result Effect (ℕ × StmtError)) → ActAsks m (called x c w) (ResourceRules.new_call s.number m.opens next man x c w r).act
    new_asks x c w (Err (index, error)) = tt
    new_asks x c w (Ok e) = free_asks x c w e (busy_row m.opens e)

    call_asks : (x c : ℕ) (w : Work) (b : Option ℕ) (waits : Option Open) → ActAsks m (called x c w) (ResourceRules.call_answer s.number db m.opens next man x c w b waits).act
    call_asks x c w (Some b) waits = tt
    call_asks x c w None (Some o) = tt
    call_asks x c w None None = new_asks x c w (ResourceRules.meaning db w)

    on_call_asks : (x c : ℕ) (w : Work) → ActAsks m (called x c w) (ResourceRules.on_call s rs m.opens next man x c w).act
    on_call_asks zero c w = tt
    on_call_asks (suc x) c w =
        call_asks (suc x) c w (least_branch (ResourceRules.done_for s rs m.opens next (suc x) c w)) (find (λ o. is_for_call (suc x) c o.owner) m.opens)

  -- ---- answers to a registration

  module _ (event : Event) (o : Open) (man x c : ℕ) where
    at_asks : (b : ℕ) (u : Option Undo) (marked : Bool) → ActAsks m event (ResourceRules.at_granted o man x c b u marked).act
    at_asks b (Some u) marked = tt
    at_asks b None true = tt
    at_asks b None false = tt

    touched_asks : (b : ℕ) (none : Option ℕ) → ActAsks m event (ResourceRules.try_touched o man x c b none).act
    touched_asks b (Some index) = tt
    touched_asks b None = tt

    meant_asks : (b : ℕ) (r : Result Effect (ℕ × StmtError)) → ActAsks m event (ResourceRules.try_meant o man x c b r).act
    meant_asks b (Err (index, error)) = tt
    meant_asks b (Ok e) = touched_asks b (untouched 1 e.touched)

    tcc_asks : (b : ℕ) (a : Action) (f : FenceAnswer) → ActAsks m event (ResourceRules.tcc_granted o man x c b (effect db a.tries) f).act
    tcc_asks b a Runs = meant_asks b (effect db a.tries)
    tcc_asks b a WasDone = tt
    tcc_asks b a Suspends = tt
    tcc_asks b a Refuses = tt

    last_asks : (holder : Xid) (count : ℕ) (last : Bool)
        → ActAsks m event (if last then ResourceRules.drops o man x c why.Tries else still (act.Conflicted o.ticket count)).act
    last_asks holder count true = tt
    last_asks holder count false = tt

    conflict_asks : (holder : Xid) (rolling : Bool) → ActAsks m event (ResourceRules.conflict_answer s.tries o man x c holder rolling).act
    conflict_asks holder true = tt
    conflict_asks holder false = last_asks holder (o.conflicts + 1) (nat_le s.tries (o.conflicts + 1))

  granted_asks : (event : Event) (o : Open) (owner : Owner) (b : ℕ) → ActAsks m event (ResourceRules.granted_answer s rs m.opens next o owner b).act
  granted_asks event o (OfCall man x c (work.At stmts)) b = at_asks event o man x c b (undo_of rs x b) (is_marked rs x b)
  granted_asks event o (OfCall man x c (work.Tcc a)) b = tcc_asks event o man x c b a (on_try (fence rs x b))
  granted_asks event o (OfLocal k) b = tt

  ticket_asks : (event : Event) (o : Open) (owner : Owner) (answer : Registered) → ActAsks m event (ResourceRules.ticket_answer s rs m.opens next o owner answer).act
  ticket_asks event o owner (registered.Granted b) = granted_asks event o owner b.0
  ticket_asks event o (OfCall man x c w) (registered.Conflict key holder rolling) = conflict_asks event o man x c holder rolling
  ticket_asks event o (OfCall man x c w) (registered.Closed status) = tt
  ticket_asks event o (OfCall man x c w) registered.Late = tt
  ticket_asks event o (OfLocal k) (registered.Conflict key holder rolling) = tt
  ticket_asks event o (OfLocal k) (registered.Closed status) = tt
  ticket_asks event o (OfLocal k) registered.Late = tt

  registered_asks : (event : Event) (found : Option Open) (answer : Registered) → ActAsks m event (ResourceRules.on_registered s rs m.opens next found answer).act
  registered_asks event None answer = tt
  registered_asks event (Some o) answer = ticket_asks event o o.owner answer

  -- ---- the second phase

  module _ (from : Place) (x b man c : ℕ) where
    abbrev commits : BranchKind → Event
    commits k = Given (input.Message from (message.BranchCommit (xid_of x) (branch_of b) k man c))

    abbrev rolls : BranchKind → Event
    rolls k = Given (input.Message from (message.BranchRollback (xid_of x) (branch_of b) k man c))

    at_commit_asks : (event : Event) (u : Option Undo) → ActAsks m event (ResourceRules.at_commit x b u).act
    at_commit_asks event (Some u) = tt
    at_commit_asks event None = tt

    confirm_asks : (k : BranchKind) (r : Result Effect (ℕ × StmtError)) → ActAsks m (commits k) (ResourceRules.confirm_runs x b r).act
    confirm_asks k (Err (index, error)) = tt
    confirm_asks k (Ok e) = (from, k, man, c, refl)

    tcc_commit_asks : (k : BranchKind) (a : Action) (f : FenceAnswer) → ActAsks m (commits k) (ResourceRules.tcc_commit x b (effect db a.confirms) f).act
    tcc_commit_asks k a WasDone = tt
    tcc_commit_asks k a Runs = confirm_asks k (effect db a.confirms)
    tcc_commit_asks k a Suspends = tt
    tcc_commit_asks k a Refuses = tt

    action_commit_asks : (k : BranchKind) (o : Option Action)
        → ActAsks m (commits k) (ResourceRules.with_action (λ a. ResourceRules.tcc_commit x b (effect db a.confirms) (on_confirm (fence rs x b))) o).act
    action_commit_asks k None = tt
    action_commit_asks k (Some a) = tcc_commit_asks k a (on_confirm (fence rs x b))

    commit_asks : (k : BranchKind) → ActAsks m (commits k) (ResourceRules.on_commit s rs m.opens next x b k man c).act
    commit_asks kind.At = at_commit_asks (commits kind.At) (undo_of rs x b)
    commit_asks kind.Tcc = action_commit_asks kind.Tcc (action_of s man c)

    undo_asks : (event : Event) (dirty : Option Image) → ActAsks m event (ResourceRules.at_undo db x b dirty).act
    undo_asks event (Some i) = tt
    undo_asks event None = tt

    record_asks : (event : Event) (u : Undo) (busy : Option (RowKey × Ticket)) → ActAsks m event (ResourceRules.at_record db x b u.images busy).act
    record_asks event u (Some (key, by)) = tt
    record_asks event u None = undo_asks event (dirty_image db u.images)

    at_rollback_asks : (event : Event) (marked : Bool) → is_marked rs x b ≡ marked → (u : Option Undo) → ActAsks m event (ResourceRules.at_rollback db m.opens x b marked u).act
    at_rollback_asks event true is u = tt
    at_rollback_asks event false is None = is
    at_rollback_asks event false is (Some u) = record_asks event u (busy_in m.opens (image_keys u.images))

    cancel_asks : (k : BranchKind) (r : Result Effect (ℕ × StmtError)) → ActAsks m (rolls k) (ResourceRules.cancel_runs x b r).act
    cancel_asks k (Err (index, error)) = tt
    cancel_asks k (Ok e) = (from, k, man, c, refl)

    tcc_rollback_asks : (k : BranchKind) (a : Action) (f : FenceAnswer) → ActAsks m (rolls k) (ResourceRules.tcc_rollback x b (effect db a.cancels) f).act
    tcc_rollback_asks k a WasDone = tt
    tcc_rollback_asks k a Refuses = tt
    tcc_rollback_asks k a Suspends = tt
    tcc_rollback_asks k a Runs = cancel_asks k (effect db a.cancels)

    action_rollback_asks : (k : BranchKind) (o : Option Action)
        → ActAsks m (rolls k) (ResourceRules.with_action (λ a. ResourceRules.tcc_rollback x b (effect db a.cancels) (on_cancel (fence rs x b))) o).act
    action_rollback_asks k None = tt
    action_rollback_asks k (Some a) = tcc_rollback_asks k a (on_cancel (fence rs x b))

    rollback_asks : (k : BranchKind) → ActAsks m (rolls k) (ResourceRules.on_rollback s rs m.opens next x b k man c).act
    rollback_asks kind.At = at_rollback_asks (rolls kind.At) (is_marked rs x b) refl (undo_of rs x b)
    rollback_asks kind.Tcc = action_rollback_asks kind.Tcc (action_of s man c)

  -- ---- local transactions and outside writes

  local_free_asks : (k : ℕ) (e : Effect) (busy : Option (RowKey × Ticket)) → ActAsks m (Given (input.Local k)) (ResourceRules.local_free s.number next k e busy).act
  local_free_asks k e (Some (key, by)) = tt
  local_free_asks k e None = refl

  local_meant_asks : (k : ℕ) (r : Result Effect (ℕ × StmtError)) → ActAsks m (Given (input.Local k)) (ResourceRules.local_meant s.number m.opens next k r).act
  local_meant_asks k (Err (index, error)) = tt
  local_meant_asks k (Ok e) = local_free_asks k e (busy_row m.opens e)

  local_asks : (k : ℕ) (stmts : List Stmt) (o : Option Open) → ActAsks m (Given (input.Local k)) (ResourceRules.local_answer s.number db m.opens next k stmts o).act
  local_asks k stmts (Some o) = tt
  local_asks k stmts None = local_meant_asks k (effect db stmts)

  on_local_asks : (k : ℕ) (o : Option (List Stmt)) → ActAsks m (Given (input.Local k)) (ResourceRules.on_local s rs m.opens next k o).act
  on_local_asks k None = tt
  on_local_asks k (Some stmts) = local_asks k stmts (find (λ o. is_for_local k o.owner) m.opens)

  lock_by : (event : Event) (o : Open) (owner : Owner) (held : Option (RowKey × Xid)) → ActAsks m event (ResourceRules.lock_answer o owner held).act
  lock_by event o (OfLocal k) (Some (key, holder)) = tt
  lock_by event o (OfLocal k) None = tt
  lock_by event o (OfCall man x c w) held = tt

  lock_asks : (event : Event) (found : Option Open) (held : Option (RowKey × Xid)) → ActAsks m event (ResourceRules.on_lock_answer s rs m.opens next found held).act
  lock_asks event None held = tt
  lock_asks event (Some o) held = lock_by event o o.owner held

  outside_free_asks : (event : Event) (k : ℕ) (busy : Option (RowKey × Ticket)) → ActAsks m event (ResourceRules.outside_free k busy).act
  outside_free_asks event k (Some (key, by)) = tt
  outside_free_asks event k None = tt

  outside_meant_asks : (event : Event) (k : ℕ) (r : Result Effect (ℕ × StmtError)) → ActAsks m event (ResourceRules.outside_meant m.opens k r).act
  outside_meant_asks event k (Err (index, error)) = tt
  outside_meant_asks event k (Ok e) = outside_free_asks event k (busy_row m.opens e)

  outside_asks : (event : Event) (k : ℕ) (o : Option (List Stmt)) → ActAsks m event (ResourceRules.on_outside s rs m.opens next k o).act
  outside_asks event k None = tt
  outside_asks event k (Some stmts) = outside_meant_asks event k (effect db stmts)

  -- ---- all

  turn_asks : (event : Event) (o : Option Open) → ActAsks m event (ResourceRules.on_turn s rs m.opens next o).act
  turn_asks event None = tt
  turn_asks event (Some o) = tt

  message_asks : (from : Place) (heard : Message) → ActAsks m (Given (input.Message from heard)) (ResourceRules.on_message s rs m.opens next heard).act
  message_asks from (message.Call xid man res c w) = on_call_asks from man res xid.0 c w
  message_asks from (message.RegisterAnswer t xid answer) = registered_asks (Given (input.Message from (message.RegisterAnswer t xid answer))) (open_at m.opens t) answer
  message_asks from (message.LockAnswer t held) = lock_asks (Given (input.Message from (message.LockAnswer t held))) (open_at m.opens t) held
  message_asks from (message.BranchCommit xid b k man c) = commit_asks from xid.0 b.0 man c k
  message_asks from (message.BranchRollback xid b k man c) = rollback_asks from xid.0 b.0 man c k
  message_asks from _ = tt

  input_asks : (given : Input) → ActAsks m (Given given) (resource_answer s m given).act
  input_asks input.Turn = turn_asks (Given input.Turn) (last_of m.opens)
  input_asks (input.Message from heard) = message_asks from heard
  input_asks (input.Local k) = on_local_asks k (local_of s k)
  input_asks (input.Outside k) = outside_asks (Given (input.Outside k)) k (local_of s k)

-- ---- what an act found

-- a durable act that was done, or that was in flight as the node went down, is the answer to what was given, or is a boot
abbrev pub AskedFits : Setup → Memory → Event → Act → Type 0
AskedFits s m event (act.Durable d) = ActFits s m event (act.Durable d)
AskedFits s m event (act.Down kept (Some d)) = ((kept ≡ None) × ActFits s m event (act.Durable d)) ⊎ (d ≡ durable.Boot)
AskedFits s m event _ = Unit {0}

pub record IsAsked (s : Setup) (m : Memory) (event : Event) (done : Act) : Type 0 where
  pub asks : ActAsks m event done
  pub fits : AskedFits s m event done

module _ (s : Setup) (m : Memory) (event : Event) where
  written_asked : (done : Act) (failed : Bool) (sent : Option Outgoing) → ActAsks m event done → ActFits s m event done
      → IsAsked s m event (written failed (record { act = done; sent = sent }) done).act
  written_asked (act.Durable d) true sent asks fits = record { asks = asks; fits = inl (refl, fits) }
  written_asked (act.Durable d) false sent asks fits = record { asks = asks; fits = fits }
  written_asked (act.Down kept at) failed sent asks fits = absurd fits
  written_asked _ failed sent asks fits = record { asks = asks; fits = tt }

  restarted_asked : (failed : Bool) (kept : Option Durable) → IsAsked s m event (restarted true failed kept).act
  restarted_asked true kept = record { asks = tt; fits = inr refl }
  restarted_asked false kept = record { asks = tt; fits = tt }

module _ (s : Setup) (past : List ResourceRecord) (os : List Own) (now : ℕ) (fault keeps : Bool) (tickets : Tickets (memory s past os)) where
  abbrev role : Role
  role = Resource s past

  abbrev mem : Memory
  mem = memory s past os

  up_asked : (event : Event) → IsAsked s mem event (up_answer role os now fault keeps event).act
  up_asked (Given given) =
      let done = resource_answer s mem given in
      written_asked s mem (Given given) done.act (fails fault (left_at role os)) done.sent (input_asks s mem given) (resource_fits s mem tickets given).0
  up_asked (Stopped calls) = record { asks = tt; fits = tt }
  up_asked Crashed = record { asks = tt; fits = tt }
  up_asked (Restarted pick calls) = record { asks = tt; fits = tt }

  down_asked : (event : Event) → IsAsked s mem event (down_answer role os now fault keeps event).act
  down_asked (Given given) = record { asks = tt; fits = tt }
  down_asked (Stopped calls) = record { asks = tt; fits = tt }
  down_asked Crashed = record { asks = tt; fits = tt }
  down_asked (Restarted pick calls) = restarted_asked s mem (Restarted pick calls) (fails fault calls) (kept_act keeps os (left_at role os))

  happens_asked : (event : Event) (down : Bool) → is_down os ≡ down → IsAsked s mem event (happens role os now fault keeps event).act
  happens_asked event true e = rw e (down_asked event)
  happens_asked event false e = rw e (up_asked event)

-- of what happens at a resource
pub is_asked : (s : Setup) (past : List ResourceRecord) (os : List Own) (event : Event) (now : ℕ) (step : Step) → Tickets (memory s past os) → Happens (Resource s past) os now event step
    → IsAsked s (memory s past os) event step.act
is_asked s past os event now step tickets d =
    subst (λ (q : Step). IsAsked s (memory s past os) event q.act) (sym d.done) (happens_asked s past os now d.fault d.keeps tickets event (is_down os) refl)
