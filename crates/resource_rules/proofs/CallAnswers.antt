-- Calls: by what was looked up the answers are the rules'.
use Rattle.std.proofs.Common.{◌≡◌, ◌∙◌, ◌==◌, ◌+◌, ◌≤◌, ℕ, zero, suc, true, false, List, [], ◌∷◌, map, Option, Some, None, option_map, is_some, Result, Ok, Err, refl, sym, ap, subst, true≢false}
use Rattle.std.specs.Prelude.{find, IfOk}
use Rattle.seata_types.specs.declared.acts.Act.{Act}
use Rattle.seata_types.specs.declared.acts.Act.TheVariants as act
use Rattle.seata_types.specs.declared.copies.NoMemory.{NoMemory}
use Rattle.seata_types.specs.declared.errors.StmtError.{StmtError}
use Rattle.seata_types.specs.declared.errors.Why.TheVariants as why
use Rattle.seata_types.specs.declared.ids.BranchId.{BranchId}
use Rattle.seata_types.specs.declared.ids.Leg.{Leg}
use Rattle.seata_types.specs.declared.ids.Place.{Place}
use Rattle.seata_types.specs.declared.ids.Ticket.{Ticket}
use Rattle.seata_types.specs.declared.ids.Xid.{Xid}
use Rattle.seata_types.specs.declared.messages.CallAnswer.TheVariants as called
use Rattle.seata_types.specs.declared.messages.Input.{Input}
use Rattle.seata_types.specs.declared.messages.Input.TheVariants as input
use Rattle.seata_types.specs.declared.messages.Message.TheVariants as message
use Rattle.seata_types.specs.declared.rows.RowKey.{RowKey}
use Rattle.seata_types.specs.declared.statements.Work.{Work}
use Rattle.seata_types.specs.declared.statements.Work.TheVariants as work
use Rattle.byte_fields.specs.Layout.{FitsTicket}
use Rattle.byte_fields.specs.Parts.{FitsBranch}
use Rattle.frame_codec.specs.Limits.{IsFramable}
use Rattle.local_tables.specs.Calls.{effect}
use Rattle.local_tables.specs.Rows.{Database}
use Rattle.local_tables.specs.declared.schemas.Effect.{Effect}
use Rattle.durable_records.specs.Fences.{tried_of_call}
use Rattle.durable_records.specs.RowsKept.{tables}
use Rattle.durable_records.specs.UndoRecords.{undos_of_call}
use Rattle.undo_log.specs.Entries.{record_of_call}
use Rattle.undo_log.specs.declared.records.UndoRecord.{UndoRecord}
use Rattle.local_txn.specs.OpenTickets.{OfCall, Open, Owner, busy_row, is_for_call, no_effect, opening_of, with_first}
use Rattle.local_txn.specs.Answers.{Plans, Tickets, at_opening, is_for, new_ticket, open_of, owner_by, plan, ticket_of, unless_busy}
use Rattle.local_txn.specs.declared.transactions.ExecError.{ExecError}
use Rattle.local_txn.specs.declared.transactions.ExecError.TheVariants as error
use Rattle.local_txn.specs.declared.transactions.OpenTxn.{OpenTxn}
use Rattle.local_txn.proofs.CallLaws.{is_planned}
use Rattle.history_rules.specs.Own.{Given, still}
use Rattle.history_rules.specs.ResourceMemory.{Setup, Memory, next_ticket, opened_for, opening_tables, or_none}
use Rattle.history_rules.specs.ResourceRules as rules
use Rattle.history_rules.specs.ResourceRules.{least_branch, meaning, request_of, requests, resource_answer}
use Rattle.resource_memory.specs.Known.{Known}
use Rattle.resource_memory.specs.Lookups as lookups
use Rattle.resource_memory.specs.Lookups.{branch_in, tried_leg}
use Rattle.resource_memory.proofs.TriedLaws.{finds}
use Rattle.record_places.specs.Laws.{HasKeysOf}
use Rattle.record_places.proofs.EffectLaws.{effects_have_keys}
use Rattle.resource_rules.specs.Answers.{Answers, Hears, Shows, answer, ignored}
use Rattle.resource_rules.specs.Calls.{Unopened, branch_by, branch_on, done_for, free_call, new_call, opened}
use Rattle.resource_rules.specs.Ready.{IsCallWithin, IsOwnedWithin, IsReady, IsTicketWithin, ServesWithin, ServesWork}
use Rattle.resource_rules.specs.declared.answers.Answer.{Answer}
use Rattle.resource_rules.specs.declared.answers.Change.TheVariants as change
use Rattle.resource_rules.specs.declared.callers.Caller.{Caller}
use Rattle.resource_rules.specs.declared.setups.Setup.{Setup as TheSetup}
use Rattle.resource_rules.proofs.AnswerLaws.{rests}
use Rattle.resource_memory.proofs.DoneCalls.{branch_of_record, branch_of_undo, finds_undos}
use Rattle.resource_rules.proofs.FramingLaws.{IsCause, busy_key, busy_named, busy_told, done_told, failed_told, fault_cause, request_framed, told_framed}
use Rattle.resource_rules.proofs.Owners.{not_none, owner_is}
use Rattle.resource_rules.proofs.ReadyLaws.{call_within, rows_of_effect, tables_within, work_within}
use Rattle.resource_rules.proofs.Seen.{next_seen, opens_seen, tables_seen}

abbrev Meaning : Type 0
Meaning = Result Effect (ℕ × StmtError)

-- ---- the branch for which the work of a call is done

lesser_same : (b : ℕ) (o : Option ℕ) → lookups.lesser b o ≡ rules.least_of b o
lesser_same b None = refl
lesser_same b (Some c) = refl

least_same : (bs : List ℕ) → lookups.least_branch bs ≡ least_branch bs
least_same [] = refl
least_same (b ∷ bs) = ap (lookups.lesser b) (least_same bs) ∙ lesser_same b (least_branch bs)

abbrev number_of : BranchId → ℕ
number_of b = b.0

record_number : (o : Option UndoRecord) → option_map number_of (option_map branch_by o) ≡ option_map branch_of_record o
record_number None = refl
record_number (Some r) = refl

leg_number : (o : Option Leg) → option_map number_of (option_map branch_on o) ≡ option_map branch_in o
leg_number None = refl
leg_number (Some leg) = refl

-- ---- tickets of a call

pub found_open : {A : Type 0} (o : Option A) → is_some o ≡ true → (a : A) × (o ≡ Some a)
found_open (Some a) e = (a, refl)
found_open None e = absurd (true≢false (sym e))

pub found_none : {A : Type 0} (o : Option A) → is_some o ≡ false → o ≡ None
found_none (Some a) e = absurd (true≢false e)
found_none None e = refl

pub some_ticket : (o : Option Open) → is_some (option_map ticket_of o) ≡ is_some o
some_ticket (Some o) = refl
some_ticket None = refl

tickets_for : (x c : ℕ) (opens : List Open) → (x == 0) ≡ false → find (is_for x c) opens ≡ find (λ o. is_for_call x c o.owner) opens
tickets_for zero c opens one = absurd (true≢false one)
tickets_for (suc x) c opens one = refl

-- ---- what a new call has places for

one_effect : (e f : Effect) → ◌≡◌ {A = Meaning} (Ok e) (Ok f) → e ≡ f
one_effect e f same = cc

no_fault : {X : Type 0} (e : Effect) (fault : ℕ × StmtError) → ◌≡◌ {A = Meaning} (Ok e) (Err fault) → X
no_fault e fault same = absurd cc

module _ {is : TheSetup} (k : Known) {ts : Tickets} (ready : IsReady is k ts) where
  -- the keys of its rows
  keys_of : (w : Work) (e : Effect) → meaning k.tables w ≡ Ok e → ServesWork w → HasKeysOf k.tables.resource e
  keys_of (work.At stmts) e means served = effects_have_keys k.tables stmts e (tables_within k ready.knows) served.each means
  keys_of (work.Tcc action) e means served = subst (HasKeysOf k.tables.resource) (one_effect no_effect e means) (record { touched = tt; read = tt })

  -- why a statement has no meaning
  cause_of : (w : Work) (index : ℕ) (fault : StmtError) → meaning k.tables w ≡ Err (index, fault) → ServesWork w → IsCause (why.Stmt index fault)
  cause_of (work.At stmts) index fault means served = fault_cause k.tables (tables_within k ready.knows) ready.knows.resource stmts served index fault means
  cause_of (work.Tcc action) index fault means served = no_fault no_effect (index, fault) means

  -- the ticket that it opens
  owned_by : (x m c : ℕ) (w : Work) (e : Effect) (t : Ticket) (o : Owner) → meaning k.tables w ≡ Ok e → ServesWork w → IsCallWithin x c → IsOwnedWithin k.tables (opening_of t o e) (OfCall m x c w)
  owned_by x m c (work.At stmts) e t o means served few = (few, rows_of_effect k.tables (tables_within k ready.knows) stmts served t o e means)
  owned_by x m c (work.Tcc action) e t o means served few = (few, served)

-- ---- what is planned

-- the meaning that a refusal tells, and the row that a busy answer does
abbrev fault_told : Result OpenTxn ExecError → Meaning
fault_told (Err (error.Stmt index fault)) = Err (index, fault)
fault_told _ = Ok no_effect

abbrev row_told : Result OpenTxn ExecError → Option (RowKey × Ticket)
row_told (Err (error.Busy key by)) = Some (key, by)
row_told _ = None

module _ (ts : Tickets) (x : Xid) (c m : ℕ) (w : Work) where
  pub is_refused : (r : Meaning) (index : ℕ) (fault : StmtError) → Plans ts x c m w r (Err (error.Stmt index fault)) → r ≡ Err (index, fault)
  is_refused (Err (j, other)) index fault plans = sym (ap fault_told plans)
  is_refused (Ok e) index fault plans = by (busy_row ts.opens e) plans
    where
      by : (b : Option (RowKey × Ticket)) → Err (error.Stmt index fault) ≡ plan ts x c m w (unless_busy e b) → ◌≡◌ {A = Meaning} (Ok e) (Err (index, fault))
      by None same = absurd cc
      by (Some (key, t)) same = absurd cc

  -- another open ticket has a row of the effect
  pub record IsBusy (r : Meaning) (key : RowKey) (by : Ticket) : Type 0 where
    pub effect : Effect
    pub means : r ≡ Ok effect
    pub row : busy_row ts.opens effect ≡ Some (key, by)

  pub is_busy : (r : Meaning) (key : RowKey) (by : Ticket) → Plans ts x c m w r (Err (error.Busy key by)) → IsBusy r key by
  is_busy (Err (j, other)) key by plans = absurd cc
  is_busy (Ok e) key by plans = on (busy_row ts.opens e) refl plans
    where
      on : (b : Option (RowKey × Ticket)) → busy_row ts.opens e ≡ b → Err (error.Busy key by) ≡ plan ts x c m w (unless_busy e b) → IsBusy (Ok e) key by
      on None row same = absurd cc
      on (Some (k, t)) row same = record { effect = e; means = refl; row = row ∙ sym (ap row_told same) }

-- ---- a new call by its plan

module _ (number : ℕ) (ts : Tickets) (c : Caller) (w : Work) (r : Meaning) where
  free_is : (e : Effect) (b : Option (RowKey × Ticket)) → r ≡ Ok e → busy_row ts.opens e ≡ b → new_call number ts c w r ≡ free_call number ts c w e b
  free_is e b means row = ap (new_call number ts c w) means ∙ ap (free_call number ts c w e) row

  pub call_opened : (c.xid.0 == 0) ≡ false → (txn : OpenTxn) → Plans ts c.xid c.call c.manager w r (Ok txn) → (done : Act) → done ≡ act.Opened txn.xid txn.call txn.ticket
      → opened number done txn ≡ new_call number ts c w r
  call_opened one txn plans done is =
      let p = is_planned ts c.xid c.call c.manager w r txn plans in
      let t = at_opening (new_ticket ts) c.xid c.call c.manager w p.effect in
      ap (λ d. opened number d txn) is
      ∙ ap (λ (o : OpenTxn). opened number (act.Opened o.xid o.call o.ticket) o) p.is
      ∙ ap (λ (o : Owner). record {
        step = requests number (act.Opened c.xid c.call (new_ticket ts)) (opening_of (new_ticket ts) o p.effect);
        asked = None;
        change = change.Opens t;
      }) (owner_is c.xid.0 c.manager c.call w one)
      ∙ sym (free_is p.effect None p.means p.free)

pub call_refused : (c : Caller) (index : ℕ) (fault : StmtError) (result : Result Answer NoMemory) → IfOk result (λ a. (number : ℕ) (ts : Tickets) (w : Work) → a ≡ new_call number ts c w (Err (index, fault)))
    → IfOk result (Unopened c (error.Stmt index fault))
call_refused c index fault (Ok a) all = λ number ts w r plans. all number ts w ∙ ap (new_call number ts c w) (sym (is_refused ts c.xid c.call c.manager w r index fault plans))
call_refused c index fault (Err n) all = tt

pub call_busy : (c : Caller) (key : RowKey) (by : Ticket) (result : Result Answer NoMemory)
    → IfOk result (λ a. (number : ℕ) (ts : Tickets) (w : Work) (e : Effect) → a ≡ free_call number ts c w e (Some (key, by))) → IfOk result (Unopened c (error.Busy key by))
call_busy c key by (Ok a) all = λ number ts w r plans.
    let b = is_busy ts c.xid c.call c.manager w r key by plans in
    all number ts w b.effect ∙ sym (free_is number ts c w r b.effect (Some (key, by)) b.means b.row)
call_busy c key by (Err n) all = tt

-- what is answered where no ticket is opened
pub call_unopened : (number : ℕ) (ts : Tickets) (c : Caller) (w : Work) (r : Meaning) (why : ExecError) (result : Result Answer NoMemory) → Plans ts c.xid c.call c.manager w r (Err why)
    → IfOk result (Unopened c why) → IfOk result (λ a. a ≡ new_call number ts c w r)
call_unopened number ts c w r why (Ok a) plans all = all number ts w r plans
call_unopened number ts c w r why (Err n) plans all = tt

-- ---- the answers

module _ (is : TheSetup) (k : Known) (ts : Tickets) (c : Caller) (w : Work) (resource : ℕ) (from : Place) where
  abbrev pub call_input : Input
  call_input = input.Message from (message.Call c.xid c.manager resource c.call w)

  none_is : (x : ℕ) → (x == 0) ≡ true → (s : Setup) (m : Memory) → still act.Ignored ≡ rules.on_call s m.left.records m.opens (next_ticket m) c.manager x c.call w
  none_is zero e s m = refl
  none_is (suc x) e s m = not_none x e

  -- of no transaction
  pub of_none : (c.xid.0 == 0) ≡ true → (a : Answer) → a ≡ ignored → Answers is k ts call_input a
  of_none e = rests change.Stays tt _ (λ s m sh. none_is c.xid.0 e s m) (λ s m. refl) (λ s m now sh. refl) (λ ready served. (tt, tt))

  module _ (one : (c.xid.0 == 0) ≡ false) (counted : 1 ≤ c.call) where
    one_is : (x : ℕ) → (x == 0) ≡ false → (s : Setup) (m : Memory) → rules.on_call s m.left.records m.opens (next_ticket m) c.manager x c.call w
        ≡ rules.call_answer s.number (rules.db s m.left.records m.opens (next_ticket m)) m.opens (next_ticket m) c.manager x c.call w
        (least_branch (rules.done_for s m.left.records m.opens (next_ticket m) x c.call w)) (find (λ o. is_for_call x c.call o.owner) m.opens)
    one_is zero e s m = absurd (true≢false e)
    one_is (suc x) e s m = refl

    done_seen : (v : Work) (s : Setup) (m : Memory) → Shows is k ts s m
        → option_map number_of (done_for k c v) ≡ least_branch (rules.done_for s m.left.records m.opens (next_ticket m) c.xid.0 c.call v)
    done_seen (work.At stmts) s m sh =
        record_number (record_of_call c.xid.0 c.call k.undo_log)
        ∙ ap (option_map branch_of_record) (ap (λ (z : Known). record_of_call c.xid.0 c.call z.undo_log) sh.knows)
        ∙ finds_undos (opening_tables s) m.left.records sh.allowed c.xid.0 c.call
        ∙ least_same (map branch_of_undo (undos_of_call m.left.records c.xid.0 c.call))
    done_seen (work.Tcc action) s m sh =
        leg_number (tried_leg c.xid.0 c.call k.calls)
        ∙ ap (option_map branch_in) (ap (λ (z : Known). tried_leg c.xid.0 c.call z.calls) sh.knows)
        ∙ finds c.xid.0 c.call (opening_tables s) m.left.records sh.allowed counted
        ∙ least_same (tried_of_call m.left.records c.xid.0 c.call)

    answer_is : (b : Option BranchId) → done_for k c w ≡ b → (o : Option Open) (s : Setup) (m : Memory) → Shows is k ts s m → find (λ p. is_for_call c.xid.0 c.call p.owner) m.opens ≡ o
        → rules.call_answer s.number (rules.db s m.left.records m.opens (next_ticket m)) m.opens (next_ticket m) c.manager c.xid.0 c.call w (option_map number_of b) o ≡ resource_answer s m call_input
    answer_is b done o s m sh at =
        sym (one_is c.xid.0 one s m ∙ λ i. rules.call_answer s.number (rules.db s m.left.records m.opens (next_ticket m)) m.opens (next_ticket m) c.manager c.xid.0 c.call w ((sym (done_seen w s m sh) ∙ ap (option_map number_of) done) i) (at i))

    -- the work is done
    pub is_again : (b : BranchId) → FitsBranch b → done_for k c w ≡ Some b → (a : Answer) → a ≡ answer None (rules.answers c.manager c.xid.0 c.call (act.Again c.xid c.call b) (called.Done b))
        → Answers is k ts call_input a
    is_again b few done = rests change.Stays tt _ (λ s m sh. answer_is (Some b) done (find (λ p. is_for_call c.xid.0 c.call p.owner) m.opens) s m sh refl) (λ s m. refl) (λ s m now sh. refl)
        (λ ready served. (told_framed c.xid c.call (called.Done b) (call_within c.xid c.manager resource c.call w served) (done_told b few), tt))

    module _ (undone : done_for k c w ≡ None) where
      find_is : (o : Option Open) → find (is_for c.xid.0 c.call) ts.opens ≡ o → (s : Setup) (m : Memory) → Shows is k ts s m
          → rules.call_answer s.number (rules.db s m.left.records m.opens (next_ticket m)) m.opens (next_ticket m) c.manager c.xid.0 c.call w None o ≡ resource_answer s m call_input
      find_is o e s m sh =
          answer_is None undone o s m sh (sym (tickets_for c.xid.0 c.call m.opens one) ∙ ap (λ (os : List Open). find (is_for c.xid.0 c.call) os) (sym (opens_seen s m sh)) ∙ e)

      -- it is open
      pub is_waiting : is_some (option_map ticket_of (find (is_for c.xid.0 c.call) ts.opens)) ≡ true → (a : Answer) → a ≡ answer None (still (act.Waiting c.xid c.call)) → Answers is k ts call_input a
      is_waiting open_is =
          let there = found_open (find (is_for c.xid.0 c.call) ts.opens) (sym (some_ticket (find (is_for c.xid.0 c.call) ts.opens)) ∙ open_is) in
          rests change.Stays tt _ (λ s m sh. find_is (Some there.0) there.1 s m sh) (λ s m. refl) (λ s m now sh. refl) (λ ready served. (tt, tt))

      module _ (closed : is_some (option_map ticket_of (find (is_for c.xid.0 c.call) ts.opens)) ≡ false) (named : FitsTicket (new_ticket ts)) where
        meaning_seen : (v : Work) (s : Setup) (m : Memory) → Shows is k ts s m → meaning k.tables v ≡ meaning (tables (opening_tables s) m.left.records) v
        meaning_seen v s m sh = ap (λ (db : Database). meaning db v) (tables_seen s m sh)

        meant_is : (r : Meaning) → meaning k.tables w ≡ r → (s : Setup) (m : Memory) → Shows is k ts s m
            → rules.new_call s.number m.opens (next_ticket m) c.manager c.xid.0 c.call w r ≡ resource_answer s m call_input
        meant_is r e s m sh =
            sym (ap (rules.new_call s.number m.opens (next_ticket m) c.manager c.xid.0 c.call w) (sym (meaning_seen w s m sh) ∙ e))
            ∙ find_is None (found_none (find (is_for c.xid.0 c.call) ts.opens) (sym (some_ticket (find (is_for c.xid.0 c.call) ts.opens)) ∙ closed)) s m sh

        rows_is : (e : Effect) → meaning k.tables w ≡ Ok e → (b : Option (RowKey × Ticket)) → busy_row ts.opens e ≡ b → (s : Setup) (m : Memory) → Shows is k ts s m
            → rules.free_call s.number (next_ticket m) c.manager c.xid.0 c.call w e b ≡ resource_answer s m call_input
        rows_is e means b is_b s m sh =
            sym (ap (rules.free_call s.number (next_ticket m) c.manager c.xid.0 c.call w e) (ap (λ (os : List Open). busy_row os e) (sym (opens_seen s m sh)) ∙ is_b)) ∙ meant_is (Ok e) means s m sh

        -- the ticket that the rules open
        opened_is : (v : Work) (e : Effect) (t : Ticket) → meaning k.tables v ≡ Ok e → (s : Setup) (m : Memory) → Shows is k ts s m
            → opened_for s (tables (opening_tables s) m.left.records) t (Given (input.Message from (message.Call c.xid c.manager resource c.call v))) ≡ Some (opening_of t (OfCall c.manager c.xid.0 c.call v) e)
        opened_is (work.At stmts) e t means s m sh =
            ap (λ (q : Meaning). Some (opening_of t (OfCall c.manager c.xid.0 c.call (work.At stmts)) (or_none q))) (ap (λ (db : Database). effect db stmts) (sym (tables_seen s m sh)) ∙ means)
        opened_is (work.Tcc action) e t means s m sh =
            ap (λ (q : Meaning). Some (opening_of t (OfCall c.manager c.xid.0 c.call (work.Tcc action)) (or_none q))) means

        opens_within : (e : Effect) → meaning k.tables w ≡ Ok e → IsReady is k ts → ServesWithin call_input → IsTicketWithin k.tables (open_of (at_opening (new_ticket ts) c.xid c.call c.manager w e))
        opens_within e means ready served = record {
          named = named;
          owned = subst (IsOwnedWithin k.tables (open_of (at_opening (new_ticket ts) c.xid c.call c.manager w e))) (sym (owner_is c.xid.0 c.manager c.call w one))
              (owned_by k ready c.xid.0 c.manager c.call w e (new_ticket ts) (owner_by c.xid.0 c.manager c.call w) means (work_within c.xid c.manager resource c.call w served) (call_within c.xid c.manager resource c.call w served));
        }

        opens_is : (e : Effect) → meaning k.tables w ≡ Ok e → (b : Option (RowKey × Ticket)) → busy_row ts.opens e ≡ b → (a : Answer) → a ≡ free_call is.number ts c w e b → Answers is k ts call_input a
        opens_is e means (Some (key, by)) is_b = rests change.Stays tt _ (λ s m sh. rows_is e means (Some (key, by)) is_b s m sh) (λ s m. refl) (λ s m now sh. refl)
            (λ ready served. (
              told_framed c.xid c.call (called.Busy key by) (call_within c.xid c.manager resource c.call w served)
                  (busy_told k.tables.resource key by ready.knows.resource (busy_key k.tables.resource ts.opens e key by (keys_of k ready w e means (work_within c.xid c.manager resource c.call w served)) is_b) (busy_named k.tables ts.opens e key by ready.tickets is_b)),
              tt,
            ))
        opens_is e means None is_b =
            let owner = owner_is c.xid.0 c.manager c.call w one in
            let txn = at_opening (new_ticket ts) c.xid c.call c.manager w e in
            rests (change.Opens txn) (record { named = refl; free = is_b }, refl) _
            (λ s m sh. (λ i. rules.free_call (sym sh.setup.number i) (next_seen s m sh i) c.manager c.xid.0 c.call w e None) ∙ rows_is e means None is_b s m sh)
            (λ s m. refl)
            (λ s m now sh. ap (λ (o : Option Open). record m { opens = with_first o m.opens; opened = m.opened + 1 })
            (opened_is w e (new_ticket ts) means s m sh ∙ λ i. Some (opening_of (new_ticket ts) (sym owner i) e)))
            (λ ready served. let within = opens_within e means ready served in (
              subst (λ (o : Owner). IsFramable (request_of is.number (opening_of (new_ticket ts) o e) o)) owner (request_framed is.number k.tables (open_of txn) ready.counted ready.knows.resource within),
              within,
            ))

        pub is_new : (r : Meaning) → meaning k.tables w ≡ r → (a : Answer) → a ≡ new_call is.number ts c w r → Answers is k ts call_input a
        is_new (Ok e) means = opens_is e means (busy_row ts.opens e) refl
        is_new (Err (index, error)) means = rests change.Stays tt _ (λ s m sh. meant_is (Err (index, error)) means s m sh) (λ s m. refl) (λ s m now sh. refl)
            (λ ready served. (
              told_framed c.xid c.call (called.Failed (why.Stmt index error)) (call_within c.xid c.manager resource c.call w served)
                  (failed_told (why.Stmt index error) (cause_of k ready w index error means (work_within c.xid c.manager resource c.call w served))),
              tt,
            ))

pub is_new_ok : (is : TheSetup) (k : Known) (ts : Tickets) (c : Caller) (w : Work) (db : Database) → (c.xid.0 == 0) ≡ false → 1 ≤ c.call → done_for k c w ≡ None
    → is_some (option_map ticket_of (find (is_for c.xid.0 c.call) ts.opens)) ≡ false → FitsTicket (new_ticket ts) → db ≡ k.tables
    → (result : Result Answer NoMemory) → IfOk result (λ a. a ≡ new_call is.number ts c w (meaning db w)) → IfOk result (λ a. (resource : ℕ) → Hears is k ts (message.Call c.xid c.manager resource c.call w) a)
is_new_ok is k ts c w db one counted undone closed named same (Ok a) given = λ resource from.
    is_new is k ts c w resource from one counted undone closed named (meaning k.tables w) refl a (given ∙ ap (λ (t : Database). new_call is.number ts c w (meaning t w)) same)
is_new_ok is k ts c w db one counted undone closed named same (Err n) given = tt
