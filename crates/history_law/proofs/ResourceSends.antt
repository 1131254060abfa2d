-- What a resource sends: to the coordinator, with its own number and rows of its own, or to the manager of a call.
use Rattle.std.proofs.Common.{◌≡◌, inl, inr, ◌+◌, ◌==◌, nat_le, ℕ, zero, suc, Bool, true, false, if◌then◌else◌, List, [], ◌∷◌, length, find, Option, Some, None, Result, Ok, Err, refl, ap, sym, subst, ◌∙◌}
use Rattle.std.specs.List.{AllByRecursion, list_all}
use Rattle.std.proofs.lemmas.List.Elements.{recursion_from_All}
use Rattle.seata_types.specs.Orders.{same_text}
use Rattle.seata_types.specs.declared.acts.Act.{Act}
use Rattle.seata_types.specs.declared.acts.Act.TheVariants as act
use Rattle.seata_types.specs.declared.acts.Durable.{Durable}
use Rattle.seata_types.specs.declared.errors.StmtError.{StmtError}
use Rattle.seata_types.specs.declared.errors.Why.TheVariants as why
use Rattle.seata_types.specs.declared.ids.Place.{Place}
use Rattle.seata_types.specs.declared.ids.Place.TheVariants as place
use Rattle.seata_types.specs.declared.ids.Ticket.{Ticket}
use Rattle.seata_types.specs.declared.ids.Xid.{Xid}
use Rattle.seata_types.specs.declared.messages.Input.{Input}
use Rattle.seata_types.specs.declared.messages.Input.TheVariants as input
use Rattle.seata_types.specs.declared.messages.Message.{Message}
use Rattle.seata_types.specs.declared.messages.Message.TheVariants as message
use Rattle.seata_types.specs.declared.messages.Outgoing.{Outgoing}
use Rattle.seata_types.specs.declared.messages.Registered.{Registered}
use Rattle.seata_types.specs.declared.messages.Registered.TheVariants as registered
use Rattle.seata_types.specs.declared.messages.Step.{Step}
use Rattle.seata_types.specs.declared.rows.Image.{Image}
use Rattle.seata_types.specs.declared.rows.RowKey.{RowKey}
use Rattle.seata_types.specs.declared.statements.Action.{Action}
use Rattle.seata_types.specs.declared.statements.Stmt.{Stmt}
use Rattle.seata_types.specs.declared.statements.Work.{Work}
use Rattle.seata_types.specs.declared.statements.Work.TheVariants as work
use Rattle.seata_types.specs.declared.statuses.BranchKind.{BranchKind}
use Rattle.seata_types.specs.declared.statuses.BranchKind.TheVariants as kind
use Rattle.local_tables.specs.Calls.{effect}
use Rattle.local_tables.specs.EffectRows.{IsInTables, IsImageBy}
use Rattle.local_tables.specs.Rows.{Database}
use Rattle.local_tables.specs.declared.schemas.Effect.{Effect}
use Rattle.local_tables.proofs.EffectRowLaws.{effects_of_tables}
use Rattle.durable_records.specs.declared.resources.ResourceRecord.{ResourceRecord}
use Rattle.durable_records.specs.declared.resources.ResourceRecord.TheVariants as log
use Rattle.durable_records.specs.Branches.{same_ticket}
use Rattle.durable_records.specs.UndoRecords.{Undo, undo_of, is_marked}
use Rattle.durable_records.specs.RowsKept.{tables}
use Rattle.durable_records.specs.Fences.{FenceAnswer, Runs, WasDone, Suspends, Refuses, fence, on_try, on_confirm, on_cancel}
use Rattle.durable_records.specs.ResourceOrder.{image_keys}
use Rattle.durable_records.specs.SessionOrder.{is_counted, has_resource}
use Rattle.history_rules.specs.Own.{Event, Given, Stopped, Crashed, Restarted, Own, still, sends}
use Rattle.history_rules.specs.Devices.{is_down, fails, kept_act, written, restarted}
use Rattle.history_rules.specs.CoordinatorRules.{xid_of, last_of}
use Rattle.history_rules.specs.ResourceMemory.{Setup, Owner, OfCall, OfLocal, Open, Memory, opening_tables, action_of, local_of, next_ticket, open_at, opening_of, no_effect, or_none, effect_on}
use Rattle.history_rules.specs.ResourceRules
use Rattle.history_rules.specs.ResourceRules.{busy_in, busy_row, dirty_image, untouched, least_branch, is_for_call, is_for_local, request_of, resource_answer}
use Rattle.history_rules.specs.Nodes.{World, Past, Role, Coordinator, Happens, happens, answer, up_answer, down_answer, left_at, writes_boot}
use Rattle.history_law.specs.Points.{In}
use Rattle.history_law.specs.MessageSafety.{IsNode, NamesNodes}
use Rattle.history_law.proofs.Tests.{and_left, and_both, same_nat, found_in}
use Rattle.history_law.proofs.CoordinatorAnswers.{last_in}
use Rattle.history_law.proofs.ResourceFits.{tables_now}

-- ---- what happens at a node sends what its rule answers, or nothing

module _ (P : Option Outgoing → Type 0) (none : P None) where
  written_sent : (done : Act) (failed : Bool) (sent : Option Outgoing) → P sent → P (written failed (record { act = done; sent = sent }) done).sent
  written_sent (act.Durable d) true sent p = none
  written_sent (act.Durable d) false sent p = p
  written_sent _ failed sent p = p

  restarted_sent : (boots failed : Bool) (kept : Option Durable) → P (restarted boots failed kept).sent
  restarted_sent true true kept = none
  restarted_sent true false kept = none
  restarted_sent false failed kept = none

  module _ (role : Role) (os : List Own) (now : ℕ) (fault keeps : Bool) where
    down_sent : (event : Event) → P (down_answer role os now fault keeps event).sent
    down_sent (Given given) = none
    down_sent (Stopped calls) = none
    down_sent Crashed = none
    down_sent (Restarted pick calls) = restarted_sent (writes_boot role) (fails fault calls) (kept_act keeps os (left_at role os))

    up_sent : (event : Event) → ((given : Input) → event ≡ Given given → P (answer role os now given).sent) → P (up_answer role os now fault keeps event).sent
    up_sent (Given given) said =
        let done = answer role os now given in
        written_sent done.act (fails fault (left_at role os)) done.sent (said given refl)
    up_sent (Stopped calls) said = none
    up_sent Crashed said = none
    up_sent (Restarted pick calls) said = none

    happens_sent : (event : Event) → ((given : Input) → event ≡ Given given → P (answer role os now given).sent) → (b : Bool) → is_down os ≡ b → P (happens role os now fault keeps event).sent
    happens_sent event said true e = rw e (down_sent event)
    happens_sent event said false e = rw e (up_sent event said)

  pub happens_sends : (role : Role) (os : List Own) (now : ℕ) (event : Event) (step : Step) → ((given : Input) → event ≡ Given given → P (answer role os now given).sent)
      → Happens role os now event step → P step.sent
  happens_sends role os now event step said h = subst (λ (st : Step). P st.sent) (sym h.done) (happens_sent role os now h.fault h.keeps event said (is_down os) refl)

-- ---- the rows of an effect are of the resource

same_resource : (opening : Database) (rs : List ResourceRecord) → (tables opening rs).resource ≡ opening.resource
same_resource opening [] = refl
same_resource opening (log.Committed xid b call images reads ∷ rs) = same_resource opening rs
same_resource opening (log.Undone xid b ∷ rs) = same_resource opening rs
same_resource opening (log.Tried xid b call images ∷ rs) = same_resource opening rs
same_resource opening (log.Confirmed xid b images ∷ rs) = same_resource opening rs
same_resource opening (log.Cancelled xid b images ∷ rs) = same_resource opening rs
same_resource opening (log.LocalCommitted n images ∷ rs) = same_resource opening rs
same_resource opening (log.Outside n images ∷ rs) = same_resource opening rs
same_resource opening (log.Boot n ∷ rs) = same_resource opening rs
same_resource opening (log.Marked xid b ∷ rs) = same_resource opening rs
same_resource opening (log.Cleared xid b ∷ rs) = same_resource opening rs
same_resource opening (log.Suspended xid b ∷ rs) = same_resource opening rs

in_resource : (db : Database) (stmts : List Stmt) (key : RowKey) → IsInTables db stmts key → key.resource ≡ db.resource
in_resource db [] key i = absurd i
in_resource db (st ∷ stmts) key (inl i) = same_nat key.resource db.resource (and_left (key.resource == db.resource) (same_text key.table i.def.name) i.lies)
in_resource db (st ∷ stmts) key (inr i) = in_resource db stmts key i

-- rows of so many resources
abbrev pub AreRowsOf : ℕ → List RowKey → Type 0
AreRowsOf count keys = list_all (has_resource count) keys ≡ true

module _ (count : ℕ) (db : Database) (counted : is_counted count db.resource ≡ true) where
  images_named : (stmts : List Stmt) (images : List Image) → AllByRecursion (IsImageBy db stmts) images → AreRowsOf count (image_keys images)
  images_named stmts [] all = refl
  images_named stmts (i ∷ images) all =
      and_both (has_resource count i.key) (list_all (has_resource count) (image_keys images))
      (ap (is_counted count) (in_resource db stmts i.key all.0.lies) ∙ counted) (images_named stmts images all.1)

  pub effect_named : (stmts : List Stmt) (e : Effect) → effect db stmts ≡ Ok e → AreRowsOf count (image_keys e.images)
  effect_named stmts e means = images_named stmts e.images (recursion_from_All (IsImageBy db stmts) e.images (effects_of_tables db stmts e means).images)

  named_by : (r : Result Effect (ℕ × StmtError)) → ((e : Effect) → r ≡ Ok e → AreRowsOf count (image_keys e.images)) → AreRowsOf count (image_keys (or_none r).images)
  named_by (Ok e) named = named e refl
  named_by (Err fault) named = refl

  -- and where there is none, there are no rows
  pub effect_on_named : (stmts : List Stmt) → AreRowsOf count (image_keys (effect_on db stmts).images)
  effect_on_named stmts = named_by (effect db stmts) (effect_named stmts)

-- ---- what is sent

module _ (w : World) (past : Past) where
  -- a Call names a manager
  abbrev pub CallIs : Message → Type 0
  CallIs (message.Call xid manager r c wk) = IsNode w past (place.Man manager)
  CallIs _ = Unit {0}

  -- a message goes to a node, and names nodes
  abbrev pub Goes : Place → Message → Type 0
  Goes to msg = IsNode w past to × NamesNodes w msg × CallIs msg

  abbrev pub SentGoes : Option Outgoing → Type 0
  SentGoes None = Unit {0}
  SentGoes (Some out) = Goes out.to out.message

  -- the ticket of a call is of a manager
  abbrev pub OwnerIs : Owner → Type 0
  OwnerIs (OfCall manager x c wk) = IsNode w past (place.Man manager)
  OwnerIs (OfLocal k) = Unit {0}

  -- and an open ticket touched rows of resources
  pub record OpenIs (o : Open) : Type 0 where
    pub owner : OwnerIs o.owner
    pub rows : AreRowsOf (length w.resources) (image_keys o.images)

  pub at_tc : IsNode w past place.Tc
  at_tc = (Coordinator w.times past.sessions, refl)

module _ (w : World) (past : Past) (s : Setup) (m : Memory) (counted : is_counted (length w.resources) s.number ≡ true) (opens : (o : Open) → In o m.opens → OpenIs w past o) where
  abbrev rs : List ResourceRecord
  rs = m.left.records

  abbrev next : Ticket
  next = next_ticket m

  abbrev StepGoes : Step → Type 0
  StepGoes step = SentGoes w past step.sent

  abbrev AreRows : List RowKey → Type 0
  AreRows keys = AreRowsOf (length w.resources) keys

  tc : IsNode w past place.Tc
  tc = at_tc w past

  pub tables_counted : is_counted (length w.resources) (tables_now s m).resource ≡ true
  tables_counted = ap (is_counted (length w.resources)) (same_resource (opening_tables s) m.left.records) ∙ counted

  request_goes : (done : Act) (o : Open) (owner : Owner) → AreRows (image_keys o.images) → StepGoes (sends done place.Tc (request_of s.number o owner))
  request_goes done o (OfCall man x c (work.At stmts)) rows = (tc, (counted, rows), tt)
  request_goes done o (OfCall man x c (work.Tcc a)) rows = (tc, (counted, refl), tt)
  request_goes done o (OfLocal k) rows = (tc, tt, tt)

  -- ---- to the manager of a call

  module _ (man : ℕ) (at : IsNode w past (place.Man man)) where
    free_call_goes : (x c : ℕ) (wk : Work) (e : Effect) → AreRows (image_keys e.images) → (busy : Option (RowKey × Ticket)) → StepGoes (ResourceRules.free_call s.number next man x c wk e busy)
    free_call_goes x c wk e rows (Some (key, by)) = (at, tt, tt)
    free_call_goes x c wk e rows None = request_goes (act.Opened (xid_of x) c next) (opening_of next (OfCall man x c wk) e) (OfCall man x c wk) rows

    new_call_goes : (x c : ℕ) (wk : Work) (r : Result Effect (ℕ × StmtError)) → ((e : Effect) → r ≡ Ok e → AreRows (image_keys e.images)) → StepGoes (ResourceRules.new_call s.number m.opens next man x c wk r)
    new_call_goes x c wk (Err (index, error)) rows = (at, tt, tt)
    new_call_goes x c wk (Ok e) rows = free_call_goes x c wk e (rows e refl) (busy_row m.opens e)

    same_effect : (e f : Effect) (r : Result Effect (ℕ × StmtError)) → r ≡ Ok e → r ≡ Ok f → e ≡ f
    same_effect e f r a b = cc

    meaning_rows : (wk : Work) (e : Effect) → ResourceRules.meaning (tables_now s m) wk ≡ Ok e → AreRows (image_keys e.images)
    meaning_rows (work.At stmts) e means = effect_named (length w.resources) (tables_now s m) tables_counted stmts e means
    meaning_rows (work.Tcc a) e means = subst (λ (f : Effect). AreRows (image_keys f.images)) (same_effect no_effect e (ResourceRules.meaning (tables_now s m) (work.Tcc a)) refl means) refl

    call_goes : (x c : ℕ) (wk : Work) (b : Option ℕ) (o : Option Open) → StepGoes (ResourceRules.call_answer s.number (tables_now s m) m.opens next man x c wk b o)
    call_goes x c wk (Some b) o = (at, tt, tt)
    call_goes x c wk None (Some o) = tt
    call_goes x c wk None None = new_call_goes x c wk (ResourceRules.meaning (tables_now s m) wk) (meaning_rows wk)

    on_call_goes : (x c : ℕ) (wk : Work) → StepGoes (ResourceRules.on_call s rs m.opens next man x c wk)
    on_call_goes zero c wk = tt
    on_call_goes (suc x) c wk =
        call_goes (suc x) c wk (least_branch (ResourceRules.done_for s rs m.opens next (suc x) c wk)) (find (λ o. is_for_call (suc x) c o.owner) m.opens)

    -- ---- after a registration

    module _ (o : Open) (x c : ℕ) where
      at_granted_goes : (b : ℕ) (u : Option Undo) (marked : Bool) → StepGoes (ResourceRules.at_granted o man x c b u marked)
      at_granted_goes b (Some u) marked = tt
      at_granted_goes b None true = (at, tt, tt)
      at_granted_goes b None false = (at, tt, tt)

      try_touched_goes : (b : ℕ) (i : Option ℕ) → StepGoes (ResourceRules.try_touched o man x c b i)
      try_touched_goes b (Some index) = (at, tt, tt)
      try_touched_goes b None = (at, tt, tt)

      try_meant_goes : (b : ℕ) (r : Result Effect (ℕ × StmtError)) → StepGoes (ResourceRules.try_meant o man x c b r)
      try_meant_goes b (Err (index, error)) = (at, tt, tt)
      try_meant_goes b (Ok e) = try_touched_goes b (untouched 1 e.touched)

      tcc_granted_goes : (b : ℕ) (a : Action) (f : FenceAnswer) → StepGoes (ResourceRules.tcc_granted o man x c b (effect (tables_now s m) a.tries) f)
      tcc_granted_goes b a Runs = try_meant_goes b (effect (tables_now s m) a.tries)
      tcc_granted_goes b a WasDone = (at, tt, tt)
      tcc_granted_goes b a Suspends = (at, tt, tt)
      tcc_granted_goes b a Refuses = (at, tt, tt)

      granted_goes : (b : ℕ) (wk : Work) → StepGoes (ResourceRules.granted_answer s rs m.opens next o (OfCall man x c wk) b)
      granted_goes b (work.At stmts) = at_granted_goes b (undo_of rs x b) (is_marked rs x b)
      granted_goes b (work.Tcc a) = tcc_granted_goes b a (on_try (fence rs x b))

      counted_goes : (b : Bool) → StepGoes (if b then ResourceRules.drops o man x c why.Tries else still (act.Conflicted o.ticket (o.conflicts + 1)))
      counted_goes true = (at, tt, tt)
      counted_goes false = tt

      conflict_goes : (holder : Xid) (rolling : Bool) → StepGoes (ResourceRules.conflict_answer s.tries o man x c holder rolling)
      conflict_goes holder true = (at, tt, tt)
      conflict_goes holder false = counted_goes (nat_le s.tries (o.conflicts + 1))

      ticket_goes : (wk : Work) (answer : Registered) → StepGoes (ResourceRules.ticket_answer s rs m.opens next o (OfCall man x c wk) answer)
      ticket_goes wk (registered.Granted b) = granted_goes b.0 wk
      ticket_goes wk (registered.Conflict key holder rolling) = conflict_goes holder rolling
      ticket_goes wk (registered.Closed status) = (at, tt, tt)
      ticket_goes wk registered.Late = (at, tt, tt)

  local_ticket_goes : (o : Open) (k : ℕ) (answer : Registered) → StepGoes (ResourceRules.ticket_answer s rs m.opens next o (OfLocal k) answer)
  local_ticket_goes o k (registered.Granted b) = tt
  local_ticket_goes o k (registered.Conflict key holder rolling) = tt
  local_ticket_goes o k (registered.Closed status) = tt
  local_ticket_goes o k registered.Late = tt

  owner_goes : (o : Open) (owner : Owner) → OwnerIs w past owner → (answer : Registered) → StepGoes (ResourceRules.ticket_answer s rs m.opens next o owner answer)
  owner_goes o (OfCall man x c wk) at answer = ticket_goes man at o x c wk answer
  owner_goes o (OfLocal k) at answer = local_ticket_goes o k answer

  on_registered_goes : (t : Ticket) (o : Option Open) → open_at m.opens t ≡ o → (answer : Registered) → StepGoes (ResourceRules.on_registered s rs m.opens next o answer)
  on_registered_goes t None found answer = tt
  on_registered_goes t (Some o) found answer =
      owner_goes o o.owner (opens o (found_in (λ p. same_ticket p.ticket t) m.opens o found).0).owner answer

  -- ---- the second phase, to the coordinator

  module _ (x b : ℕ) where
    commit_action_goes : (a : Action) (f : FenceAnswer) → StepGoes (ResourceRules.tcc_commit x b (effect (tables_now s m) a.confirms) f)
    commit_action_goes a WasDone = (tc, tt, tt)
    commit_action_goes a Runs = by (effect (tables_now s m) a.confirms)
      where
        by : (r : Result Effect (ℕ × StmtError)) → StepGoes (ResourceRules.confirm_runs x b r)
        by (Err (index, error)) = (tc, tt, tt)
        by (Ok e) = (tc, tt, tt)
    commit_action_goes a Suspends = (tc, tt, tt)
    commit_action_goes a Refuses = (tc, tt, tt)

    rollback_action_goes : (a : Action) (f : FenceAnswer) → StepGoes (ResourceRules.tcc_rollback x b (effect (tables_now s m) a.cancels) f)
    rollback_action_goes a WasDone = (tc, tt, tt)
    rollback_action_goes a Refuses = (tc, tt, tt)
    rollback_action_goes a Suspends = (tc, tt, tt)
    rollback_action_goes a Runs = by (effect (tables_now s m) a.cancels)
      where
        by : (r : Result Effect (ℕ × StmtError)) → StepGoes (ResourceRules.cancel_runs x b r)
        by (Err (index, error)) = (tc, tt, tt)
        by (Ok e) = (tc, tt, tt)

    with_action_goes : (step : Action → Step) → ((a : Action) → StepGoes (step a)) → (a : Option Action) → StepGoes (ResourceRules.with_action step a)
    with_action_goes step each None = tt
    with_action_goes step each (Some a) = each a

    at_commit_goes : (u : Option Undo) → StepGoes (ResourceRules.at_commit x b u)
    at_commit_goes (Some u) = (tc, tt, tt)
    at_commit_goes None = (tc, tt, tt)

    undo_goes : (i : Option Image) → StepGoes (ResourceRules.at_undo (tables_now s m) x b i)
    undo_goes (Some i) = (tc, tt, tt)
    undo_goes None = (tc, tt, tt)

    record_goes : (u : Undo) (busy : Option (RowKey × Ticket)) → StepGoes (ResourceRules.at_record (tables_now s m) x b u.images busy)
    record_goes u (Some (key, by)) = (tc, tt, tt)
    record_goes u None = undo_goes (dirty_image (tables_now s m) u.images)

    at_rollback_goes : (marked : Bool) (u : Option Undo) → StepGoes (ResourceRules.at_rollback (tables_now s m) m.opens x b marked u)
    at_rollback_goes true u = (tc, tt, tt)
    at_rollback_goes false None = (tc, tt, tt)
    at_rollback_goes false (Some u) = record_goes u (busy_in m.opens (image_keys u.images))

    on_commit_goes : (k : BranchKind) (man c : ℕ) → StepGoes (ResourceRules.on_commit s rs m.opens next x b k man c)
    on_commit_goes kind.At man c = at_commit_goes (undo_of rs x b)
    on_commit_goes kind.Tcc man c =
        with_action_goes (λ a. ResourceRules.tcc_commit x b (effect (tables_now s m) a.confirms) (on_confirm (fence rs x b))) (λ a. commit_action_goes a (on_confirm (fence rs x b))) (action_of s man c)

    on_rollback_goes : (k : BranchKind) (man c : ℕ) → StepGoes (ResourceRules.on_rollback s rs m.opens next x b k man c)
    on_rollback_goes kind.At man c = at_rollback_goes (is_marked rs x b) (undo_of rs x b)
    on_rollback_goes kind.Tcc man c =
        with_action_goes (λ a. ResourceRules.tcc_rollback x b (effect (tables_now s m) a.cancels) (on_cancel (fence rs x b))) (λ a. rollback_action_goes a (on_cancel (fence rs x b))) (action_of s man c)

  -- ---- local transactions, outside writes and turns

  lock_goes : (o : Open) (owner : Owner) (held : Option (RowKey × Xid)) → StepGoes (ResourceRules.lock_answer o owner held)
  lock_goes o (OfLocal k) (Some (key, holder)) = tt
  lock_goes o (OfLocal k) None = tt
  lock_goes o (OfCall man x c wk) held = tt

  on_lock_goes : (o : Option Open) (held : Option (RowKey × Xid)) → StepGoes (ResourceRules.on_lock_answer s rs m.opens next o held)
  on_lock_goes None held = tt
  on_lock_goes (Some o) held = lock_goes o o.owner held

  local_free_goes : (k : ℕ) (e : Effect) → AreRows (image_keys e.images) → (busy : Option (RowKey × Ticket)) → StepGoes (ResourceRules.local_free s.number next k e busy)
  local_free_goes k e rows (Some (key, by)) = tt
  local_free_goes k e rows None = request_goes (act.OpenedLocal k next) (opening_of next (OfLocal k) e) (OfLocal k) rows

  local_meant_goes : (k : ℕ) (r : Result Effect (ℕ × StmtError)) → ((e : Effect) → r ≡ Ok e → AreRows (image_keys e.images)) → StepGoes (ResourceRules.local_meant s.number m.opens next k r)
  local_meant_goes k (Err (index, error)) rows = tt
  local_meant_goes k (Ok e) rows = local_free_goes k e (rows e refl) (busy_row m.opens e)

  local_goes : (k : ℕ) (stmts : List Stmt) (o : Option Open) → StepGoes (ResourceRules.local_answer s.number (tables_now s m) m.opens next k stmts o)
  local_goes k stmts (Some o) = tt
  local_goes k stmts None = local_meant_goes k (effect (tables_now s m) stmts) (effect_named (length w.resources) (tables_now s m) tables_counted stmts)

  on_local_goes : (k : ℕ) (o : Option (List Stmt)) → StepGoes (ResourceRules.on_local s rs m.opens next k o)
  on_local_goes k None = tt
  on_local_goes k (Some stmts) = local_goes k stmts (find (λ o. is_for_local k o.owner) m.opens)

  outside_free_goes : (k : ℕ) (busy : Option (RowKey × Ticket)) → StepGoes (ResourceRules.outside_free k busy)
  outside_free_goes k (Some (key, by)) = tt
  outside_free_goes k None = tt

  outside_goes : (k : ℕ) (r : Result Effect (ℕ × StmtError)) → StepGoes (ResourceRules.outside_meant m.opens k r)
  outside_goes k (Err (index, error)) = tt
  outside_goes k (Ok e) = outside_free_goes k (busy_row m.opens e)

  on_outside_goes : (k : ℕ) (o : Option (List Stmt)) → StepGoes (ResourceRules.on_outside s rs m.opens next k o)
  on_outside_goes k None = tt
  on_outside_goes k (Some stmts) = outside_goes k (effect (tables_now s m) stmts)

  turn_goes : (o : Option Open) → last_of m.opens ≡ o → StepGoes (ResourceRules.on_turn s rs m.opens next o)
  turn_goes None e = tt
  turn_goes (Some o) e = request_goes (act.Resent o.ticket) o o.owner (opens o (last_in m.opens o e)).rows

  -- ---- all

  message_goes : (heard : Message) → CallIs w past heard → StepGoes (ResourceRules.on_message s rs m.opens next heard)
  message_goes (message.Call xid man res c wk) at = on_call_goes man at xid.0 c wk
  message_goes (message.RegisterAnswer t xid answer) at = on_registered_goes t (open_at m.opens t) refl answer
  message_goes (message.LockAnswer t held) at = on_lock_goes (open_at m.opens t) held
  message_goes (message.BranchCommit xid b k man c) at = on_commit_goes xid.0 b.0 k man c
  message_goes (message.BranchRollback xid b k man c) at = on_rollback_goes xid.0 b.0 k man c
  message_goes _ at = tt

  pub resource_goes : (given : Input) → ((from : Place) (heard : Message) → given ≡ input.Message from heard → CallIs w past heard) → StepGoes (resource_answer s m given)
  resource_goes input.Turn calls = turn_goes (last_of m.opens) refl
  resource_goes (input.Message from heard) calls = message_goes heard (calls from heard refl)
  resource_goes (input.Local k) calls = on_local_goes k (local_of s k)
  resource_goes (input.Outside k) calls = on_outside_goes k (local_of s k)
