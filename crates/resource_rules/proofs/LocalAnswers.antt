-- Guarded local transactions and outside writes: by what was looked up the answers are the rules'.
use Rattle.std.proofs.Common.{◌≡◌, ◌∙◌, ◌==◌, ◌<◌, ◌^◌, ℕ, ◌+◌, true, false, List, ◌∷◌, is_some, Option, Some, None, option_map, Result, Ok, Err, refl, sym, ap, ap₂, subst}
use Rattle.std.specs.Prelude.{find, IfOk}
use Rattle.seata_types.specs.declared.acts.Act.{Act}
use Rattle.seata_types.specs.declared.acts.Act.TheVariants as act
use Rattle.seata_types.specs.declared.acts.Durable.TheVariants as durable
use Rattle.seata_types.specs.declared.copies.NoMemory.{NoMemory}
use Rattle.seata_types.specs.declared.errors.StmtError.{StmtError}
use Rattle.seata_types.specs.declared.ids.Place.{Place}
use Rattle.seata_types.specs.declared.ids.Ticket.{Ticket}
use Rattle.seata_types.specs.declared.ids.Xid.{Xid}
use Rattle.seata_types.specs.declared.messages.Input.{Input}
use Rattle.seata_types.specs.declared.messages.Input.TheVariants as input
use Rattle.seata_types.specs.declared.messages.Message.TheVariants as message
use Rattle.seata_types.specs.declared.rows.RowKey.{RowKey}
use Rattle.seata_types.specs.declared.statements.Stmt.{Stmt}
use Rattle.seata_types.specs.declared.statements.Work.TheVariants as work
use Rattle.byte_fields.specs.Layout.{FitsTicket}
use Rattle.local_tables.specs.Calls.{effect}
use Rattle.local_tables.specs.Rows.{AreRows, Database}
use Rattle.local_tables.specs.declared.schemas.Effect.{Effect}
use Rattle.durable_records.specs.declared.resources.ResourceRecord.TheVariants as log
use Rattle.durable_records.specs.RowsKept.{tables}
use Rattle.local_txn.specs.OpenTickets.{Owner, OfCall, OfLocal, Open, busy_row, open_at, opening_of}
use Rattle.local_txn.specs.Answers.{Plans, Tickets, at_opening, is_for, new_ticket, open_of, ticket_of}
use Rattle.local_txn.specs.declared.transactions.ExecError.{ExecError}
use Rattle.local_txn.specs.declared.transactions.ExecError.TheVariants as error
use Rattle.local_txn.specs.declared.transactions.OpenTxn.{OpenTxn}
use Rattle.local_txn.proofs.CallLaws.{is_planned}
use Rattle.local_txn.proofs.OpenLaws.{found_ticket}
use Rattle.history_rules.specs.Own.{still}
use Rattle.history_rules.specs.ResourceMemory.{Setup, Memory, effect_on, local_committed_of, local_in, local_of, next_ticket, opening_tables, or_empty, or_none}
use Rattle.history_rules.specs.ResourceRules as rules
use Rattle.history_rules.specs.ResourceRules.{requests, resource_answer}
use Rattle.history_rules.specs.CoordinatorRules.{xid_of}
use Rattle.resource_memory.specs.Known.{Known}
use Rattle.resource_rules.specs.Answers.{Answers, Hears, IsOpenFor, IsOpenOn, LocalPlace, Shows, answer, ignored}
use Rattle.resource_rules.specs.Apart.{WritesWith, writes_on}
use Rattle.resource_rules.specs.Owned.{local_by, of_local}
use Rattle.resource_rules.specs.Ready.{IsReady, IsTicketWithin, ServesWithin}
use Rattle.resource_rules.specs.Calls.{opened}
use Rattle.resource_rules.specs.Locals.{Unopened, local_free, local_meant, lock_answered, outside_free, outside_meant}
use Rattle.resource_rules.specs.declared.answers.Answer.{Answer}
use Rattle.resource_rules.specs.declared.answers.Change.TheVariants as change
use Rattle.resource_rules.specs.declared.setups.Setup.{Setup as TheSetup}
use Rattle.resource_rules.proofs.AnswerLaws.{rests, asks}
use Rattle.resource_rules.proofs.CallAnswers.{found_none, found_open, is_busy, is_refused, some_ticket}
use Rattle.resource_rules.proofs.FramingLaws.{request_framed}
use Rattle.resource_rules.proofs.Owners.{owner_none}
use Rattle.resource_rules.proofs.ReadyLaws.{local_within, rows_of_effect, tables_within}
use Rattle.resource_rules.proofs.Seen.{local_seen, next_seen, opens_seen, tables_seen}
use Rattle.resource_memory.proofs.Fits.{fit_alone}
use Rattle.resource_rules.proofs.TccEnds.{images_fit}

abbrev Meaning : Type 0
Meaning = Result Effect (ℕ × StmtError)

-- ---- the answer to a lock query

module _ (is : TheSetup) (k : Known) (ts : Tickets) (t : Ticket) (from : Place) (held : Option (RowKey × Xid)) where
  abbrev lock_input : Input
  lock_input = input.Message from (message.LockAnswer t held)

  of_no_local : (s : Setup) (m : Memory) (o : Open) (w : Owner) → local_by o w ≡ None → still act.Ignored ≡ rules.lock_answer o w held
  of_no_local s m o (OfCall manager x c w) e = refl
  of_no_local s m o (OfLocal n) e = absurd cc

  no_local : (s : Setup) (m : Memory) (found : Option Open) → of_local found ≡ None → still act.Ignored ≡ rules.on_lock_answer s m.left.records m.opens (next_ticket m) found held
  no_local s m None e = refl
  no_local s m (Some o) e = of_no_local s m o o.owner e

  -- no guarded local transaction has the ticket open
  pub lock_unopened : of_local (open_at ts.opens t) ≡ None → (a : Answer) → a ≡ ignored → Answers is k ts lock_input a
  lock_unopened none = rests change.Stays tt _
      (λ s m sh. no_local s m (open_at ts.opens t) none ∙ ap (λ (os : List Open). rules.on_lock_answer s m.left.records m.opens (next_ticket m) (open_at os t) held) (opens_seen s m sh))
      (λ s m. refl) (λ s m now sh. refl) (λ ready served. (tt, tt))

  module _ (txn : OpenTxn) (here : open_at ts.opens t ≡ Some (open_of txn)) where
    lock_as : (w : Owner) → (open_of txn).owner ≡ w → (s : Setup) (m : Memory) → Shows is k ts s m
        → rules.lock_answer (open_of txn) w held ≡ resource_answer s m lock_input
    lock_as w owner s m sh =
        sym (ap (λ (p : Option Open). rules.on_lock_answer s m.left.records m.opens (next_ticket m) p held) (ap (λ (os : List Open). open_at os t) (sym (opens_seen s m sh)) ∙ here)
        ∙ ap (λ (v : Owner). rules.lock_answer (open_of txn) v held) owner)

module _ (is : TheSetup) (k : Known) (ts : Tickets) (t : Ticket) (from : Place) (txn : OpenTxn) (here : open_at ts.opens t ≡ Some (open_of txn)) (none : (txn.xid.0 == 0) ≡ true) where
  owner : (open_of txn).owner ≡ OfLocal txn.call
  owner = owner_none txn.xid.0 txn.manager txn.call txn.work none

  commits_as : (s : Setup) (m : Memory) → Shows is k ts s m → Some (log.LocalCommitted txn.call txn.images) ≡ option_map (local_committed_of txn.call) (open_at m.opens txn.ticket)
  commits_as s m sh =
      sym (ap (option_map (local_committed_of txn.call)) (ap (open_at m.opens) (found_ticket ts.opens t (open_of txn) here) ∙ ap (λ (os : List Open). open_at os t) (sym (opens_seen s m sh)) ∙ here))

  pub lock_answers : IsOpenOn k.tables (open_of txn) → (held : Option (RowKey × Xid)) (a : Answer) → a ≡ lock_answered txn held → Answers is k ts (lock_input is k ts t from held) a
  lock_answers open_on (Some (key, holder)) = rests (change.Closes txn.ticket) tt _
      (λ s m sh. lock_as is k ts t from (Some (key, holder)) txn here (OfLocal txn.call) owner s m sh) (λ s m. refl) (λ s m now sh. refl) (λ ready served. (tt, tt))
  lock_answers open_on None = asks (change.Closes txn.ticket) (log.LocalCommitted txn.call txn.images) tt (durable.LocalCommitted txn.call txn.ticket) _
      (λ s m sh. lock_as is k ts t from None txn here (OfLocal txn.call) owner s m sh)
      commits_as (λ s m. refl) (λ n. refl)
      (record { allowed = fit_alone k.tables txn.images txn.reads (subst (IsOpenFor k.tables (open_of txn)) owner open_on); runs = refl; placed = λ places. subst (LocalPlace (open_of txn)) owner (places (open_of txn) here) })
      (λ ready served. (tt, tt))

pub lock_ok : (k : Known) (ts : Tickets) (t : Ticket) (txn : OpenTxn) (held : Option (RowKey × Xid)) → open_at ts.opens t ≡ Some (open_of txn) → (txn.xid.0 == 0) ≡ true → IsOpenOn k.tables (open_of txn)
    → (result : Result Answer NoMemory) → IfOk result (λ a. a ≡ lock_answered txn held) → IfOk result (λ a. (is : TheSetup) → Hears is k ts (message.LockAnswer t held) a)
lock_ok k ts t txn held here none open_on (Ok a) given = λ is from. lock_answers is k ts t from txn here none open_on held a given
lock_ok k ts t txn held here none open_on (Err n) given = tt

-- ---- outside writes

module _ (is : TheSetup) (k : Known) (ts : Tickets) (n : ℕ) where
  pub outside_unknown : local_in n is.locals ≡ None → (a : Answer) → a ≡ ignored → Answers is k ts (input.Outside n) a
  outside_unknown none = rests change.Stays tt _
      (λ s m sh. sym (ap (rules.on_outside s m.left.records m.opens (next_ticket m) n) (sym (local_seen s m sh n) ∙ none))) (λ s m. refl) (λ s m now sh. refl) (λ ready served. (tt, tt))

  module _ (stmts : List Stmt) (here : local_in n is.locals ≡ Some stmts) (rows : AreRows k.tables) (small : n < 2 ^ 16) where
    means_as : (r : Meaning) → effect k.tables stmts ≡ r → (s : Setup) (m : Memory) → Shows is k ts s m
        → rules.outside_meant m.opens n r ≡ resource_answer s m (input.Outside n)
    means_as r e s m sh =
        sym (ap (rules.on_outside s m.left.records m.opens (next_ticket m) n) (sym (local_seen s m sh n) ∙ here)
        ∙ ap (rules.outside_meant m.opens n) (ap (λ (db : Database). effect db stmts) (sym (tables_seen s m sh)) ∙ e))

    rows_as : (e : Effect) → effect k.tables stmts ≡ Ok e → (b : Option (RowKey × Ticket)) → busy_row ts.opens e ≡ b → (s : Setup) (m : Memory) → Shows is k ts s m
        → rules.outside_free n b ≡ resource_answer s m (input.Outside n)
    rows_as e means b is_b s m sh =
        sym (ap (rules.outside_free n) (ap (λ (os : List Open). busy_row os e) (sym (opens_seen s m sh)) ∙ is_b)) ∙ means_as (Ok e) means s m sh

    written_as : (e : Effect) → effect k.tables stmts ≡ Ok e → (s : Setup) (m : Memory) → Shows is k ts s m
        → Some (log.Outside n e.images) ≡ Some (log.Outside n (effect_on (tables (opening_tables s) m.left.records) (or_empty (local_of s n))).images)
    written_as e means s m sh =
        sym (ap (λ (o : Option (List Stmt)). Some (log.Outside n (effect_on (tables (opening_tables s) m.left.records) (or_empty o)).images)) (sym (local_seen s m sh n) ∙ here)
        ∙ ap (λ (q : Meaning). Some (log.Outside n (or_none q).images)) (ap (λ (db : Database). effect db stmts) (sym (tables_seen s m sh)) ∙ means))

    writes : (e : Effect) → effect k.tables stmts ≡ Ok e → (b : Option (RowKey × Ticket)) → busy_row ts.opens e ≡ b → (a : Answer) → a ≡ outside_free n e b → Answers is k ts (input.Outside n) a
    writes e means (Some (key, by)) is_b = rests change.Stays tt _ (λ s m sh. rows_as e means (Some (key, by)) is_b s m sh) (λ s m. refl) (λ s m now sh. refl) (λ ready served. (tt, tt))
    writes e means None is_b = asks change.Stays (log.Outside n e.images) tt (durable.Outside n) _
        (λ s m sh. rows_as e means None is_b s m sh) (written_as e means) (λ s m. refl) (λ c. refl)
        (record { allowed = images_fit k.tables stmts e rows means; runs = refl; placed = λ places. places stmts here small e means })
        (λ ready served. (tt, tt))

    pub outsides : (r : Meaning) → effect k.tables stmts ≡ r → (a : Answer) → a ≡ outside_meant ts.opens n r → Answers is k ts (input.Outside n) a
    outsides (Ok e) means = writes e means (busy_row ts.opens e) refl
    outsides (Err (index, error)) means = rests change.Stays tt _ (λ s m sh. means_as (Err (index, error)) means s m sh) (λ s m. refl) (λ s m now sh. refl) (λ ready served. (tt, tt))

pub outside_ok : (k : Known) (opens : List Open) (n : ℕ) (stmts : List Stmt) (db : Database) → AreRows k.tables → n < 2 ^ 16 → db ≡ k.tables
    → (result : Result Answer NoMemory) → IfOk result (λ a. a ≡ outside_meant opens n (effect db stmts)) → IfOk result (WritesWith k opens n stmts)
outside_ok k opens n stmts db rows small same (Ok a) given = λ is ts here at.
    outsides is k ts n stmts here rows small (effect k.tables stmts) refl a (given ∙ ap₂ (λ (t : Database) (os : List Open). outside_meant os n (effect t stmts)) same (sym at))
outside_ok k opens n stmts db rows small same (Err e) given = tt

pub outside_known : (k : Known) (opens : List Open) (n : ℕ) (stmts : List Stmt) (db : Database) → db ≡ k.tables
    → (result : Result Answer NoMemory) → IfOk result (λ a. a ≡ outside_meant opens n (effect db stmts)) → IfOk result (λ a. a ≡ writes_on k opens n stmts)
outside_known k opens n stmts db same (Ok a) given = given ∙ ap (λ (t : Database). outside_meant opens n (effect t stmts)) same
outside_known k opens n stmts db same (Err e) given = tt

-- ---- openings

module _ (is : TheSetup) (k : Known) (ts : Tickets) (n : ℕ) where
  pub local_unknown : local_in n is.locals ≡ None → (a : Answer) → a ≡ ignored → Answers is k ts (input.Local n) a
  local_unknown none = rests change.Stays tt _
      (λ s m sh. sym (ap (rules.on_local s m.left.records m.opens (next_ticket m) n) (sym (local_seen s m sh n) ∙ none))) (λ s m. refl) (λ s m now sh. refl) (λ ready served. (tt, tt))

  module _ (stmts : List Stmt) (here : local_in n is.locals ≡ Some stmts) where
    local_is : (o : Option Open) → find (is_for 0 n) ts.opens ≡ o → (s : Setup) (m : Memory) → Shows is k ts s m
        → rules.local_answer s.number (rules.db s m.left.records m.opens (next_ticket m)) m.opens (next_ticket m) n stmts o ≡ resource_answer s m (input.Local n)
    local_is o e s m sh =
        sym (ap (rules.on_local s m.left.records m.opens (next_ticket m) n) (sym (local_seen s m sh n) ∙ here)
        ∙ ap (rules.local_answer s.number (rules.db s m.left.records m.opens (next_ticket m)) m.opens (next_ticket m) n stmts) (ap (λ (os : List Open). find (is_for 0 n) os) (sym (opens_seen s m sh)) ∙ e))

    pub local_waits : is_some (option_map ticket_of (find (is_for 0 n) ts.opens)) ≡ true → (a : Answer) → a ≡ answer None (still (act.WaitingLocal n)) → Answers is k ts (input.Local n) a
    local_waits open_is =
        let there = found_open (find (is_for 0 n) ts.opens) (sym (some_ticket (find (is_for 0 n) ts.opens)) ∙ open_is) in
        rests change.Stays tt _ (λ s m sh. local_is (Some there.0) there.1 s m sh) (λ s m. refl) (λ s m now sh. refl) (λ ready served. (tt, tt))

    module _ (closed : is_some (option_map ticket_of (find (is_for 0 n) ts.opens)) ≡ false) (named : FitsTicket (new_ticket ts)) where
      opens_within : (e : Effect) → effect k.tables stmts ≡ Ok e → IsReady is k ts → ServesWithin (input.Local n) → IsTicketWithin k.tables (open_of (at_opening (new_ticket ts) (xid_of 0) n 0 (work.At stmts) e))
      opens_within e means ready served = record {
        named = named;
        owned = (served, rows_of_effect k.tables (tables_within k ready.knows) stmts (local_within is.locals n stmts ready.locals here) (new_ticket ts) (OfLocal n) e means);
      }

      local_means : (r : Meaning) → effect k.tables stmts ≡ r → (s : Setup) (m : Memory) → Shows is k ts s m
          → rules.local_meant s.number m.opens (next_ticket m) n r ≡ resource_answer s m (input.Local n)
      local_means r e s m sh =
          sym (ap (rules.local_meant s.number m.opens (next_ticket m) n) (ap (λ (db : Database). effect db stmts) (sym (tables_seen s m sh)) ∙ e))
          ∙ local_is None (found_none (find (is_for 0 n) ts.opens) (sym (some_ticket (find (is_for 0 n) ts.opens)) ∙ closed)) s m sh

      local_rows : (e : Effect) → effect k.tables stmts ≡ Ok e → (b : Option (RowKey × Ticket)) → busy_row ts.opens e ≡ b → (s : Setup) (m : Memory) → Shows is k ts s m
          → rules.local_free s.number (next_ticket m) n e b ≡ resource_answer s m (input.Local n)
      local_rows e means b is_b s m sh =
          sym (ap (rules.local_free s.number (next_ticket m) n e) (ap (λ (os : List Open). busy_row os e) (sym (opens_seen s m sh)) ∙ is_b)) ∙ local_means (Ok e) means s m sh

      local_opens : (e : Effect) → effect k.tables stmts ≡ Ok e → (b : Option (RowKey × Ticket)) → busy_row ts.opens e ≡ b → (a : Answer) → a ≡ local_free is.number ts n stmts e b → Answers is k ts (input.Local n) a
      local_opens e means (Some (key, by)) is_b = rests change.Stays tt _ (λ s m sh. local_rows e means (Some (key, by)) is_b s m sh) (λ s m. refl) (λ s m now sh. refl) (λ ready served. (tt, tt))
      local_opens e means None is_b =
          rests (change.Opens (at_opening (new_ticket ts) (xid_of 0) n 0 (work.At stmts) e)) (record { named = refl; free = is_b }, refl) _
          (λ s m sh. (λ i. requests (sym sh.setup.number i) (act.OpenedLocal n (next_seen s m sh i)) (opening_of (next_seen s m sh i) (OfLocal n) e)) ∙ local_rows e means None is_b s m sh)
          (λ s m. refl)
          (λ s m now sh. ap (λ (x : Effect). record m { opens = opening_of (new_ticket ts) (OfLocal n) x ∷ m.opens; opened = m.opened + 1 })
          (ap (λ (o : Option (List Stmt)). effect_on (tables (opening_tables s) m.left.records) (or_empty o)) (sym (local_seen s m sh n) ∙ here)
          ∙ ap or_none (ap (λ (db : Database). effect db stmts) (sym (tables_seen s m sh)) ∙ means)))
          (λ ready served. let within = opens_within e means ready served in (request_framed is.number k.tables (open_of (at_opening (new_ticket ts) (xid_of 0) n 0 (work.At stmts) e)) ready.counted ready.knows.resource within, within))

      pub local_is_new : (r : Meaning) → effect k.tables stmts ≡ r → (a : Answer) → a ≡ local_meant is.number ts n stmts r → Answers is k ts (input.Local n) a
      local_is_new (Ok e) means = local_opens e means (busy_row ts.opens e) refl
      local_is_new (Err (index, error)) means = rests change.Stays tt _ (λ s m sh. local_means (Err (index, error)) means s m sh) (λ s m. refl) (λ s m now sh. refl) (λ ready served. (tt, tt))

pub local_ok : (is : TheSetup) (k : Known) (ts : Tickets) (n : ℕ) (stmts : List Stmt) (db : Database) → local_in n is.locals ≡ Some stmts → is_some (option_map ticket_of (find (is_for 0 n) ts.opens)) ≡ false → FitsTicket (new_ticket ts) → db ≡ k.tables
    → (result : Result Answer NoMemory) → IfOk result (λ a. a ≡ local_meant is.number ts n stmts (effect db stmts)) → IfOk result (Answers is k ts (input.Local n))
local_ok is k ts n stmts db here closed named same (Ok a) given =
    local_is_new is k ts n stmts here closed named (effect k.tables stmts) refl a (given ∙ ap (λ (t : Database). local_meant is.number ts n stmts (effect t stmts)) same)
local_ok is k ts n stmts db here closed named same (Err e) given = tt

-- ---- an opening by its plan

module _ (resource : ℕ) (ts : Tickets) (n : ℕ) (stmts : List Stmt) (r : Meaning) where
  free_is : (e : Effect) (b : Option (RowKey × Ticket)) → r ≡ Ok e → busy_row ts.opens e ≡ b → local_meant resource ts n stmts r ≡ local_free resource ts n stmts e b
  free_is e b means row = ap (local_meant resource ts n stmts) means ∙ ap (local_free resource ts n stmts e) row

  pub local_opened : (txn : OpenTxn) → Plans ts (xid_of 0) n 0 (work.At stmts) r (Ok txn) → (done : Act) → done ≡ act.OpenedLocal txn.call txn.ticket
      → opened resource done txn ≡ local_meant resource ts n stmts r
  local_opened txn plans done is =
      let p = is_planned ts (xid_of 0) n 0 (work.At stmts) r txn plans in
      ap (λ d. opened resource d txn) is ∙ ap (λ (o : OpenTxn). opened resource (act.OpenedLocal o.call o.ticket) o) p.is ∙ sym (free_is p.effect None p.means p.free)

pub local_refused : (n index : ℕ) (fault : StmtError) (a : Answer) → ((opens : List Open) → a ≡ outside_meant opens n (Err (index, fault))) → Unopened n (error.Stmt index fault) a
local_refused n index fault a all = λ resource ts stmts r plans.
    all ts.opens ∙ ap (local_meant resource ts n stmts) (sym (is_refused ts (xid_of 0) n 0 (work.At stmts) r index fault plans))

pub local_busy : (n : ℕ) (key : RowKey) (by : Ticket) (result : Result Answer NoMemory) → IfOk result (λ a. (e : Effect) → a ≡ outside_free n e (Some (key, by)))
    → IfOk result (Unopened n (error.Busy key by))
local_busy n key by (Ok a) all = λ resource ts stmts r plans.
    let b = is_busy ts (xid_of 0) n 0 (work.At stmts) r key by plans in
    all b.effect ∙ sym (free_is resource ts n stmts r b.effect (Some (key, by)) b.means b.row)
local_busy n key by (Err e) all = tt

-- what is answered where no ticket is opened
pub local_unopened : (resource : ℕ) (ts : Tickets) (n : ℕ) (stmts : List Stmt) (r : Meaning) (why : ExecError) (result : Result Answer NoMemory)
    → Plans ts (xid_of 0) n 0 (work.At stmts) r (Err why) → IfOk result (Unopened n why) → IfOk result (λ a. a ≡ local_meant resource ts n stmts r)
local_unopened resource ts n stmts r why (Ok a) plans all = all resource ts stmts r plans
local_unopened resource ts n stmts r why (Err e) plans all = tt

-- an outside write by the row that an open ticket has
pub outside_is : (opens : List Open) (n : ℕ) (e : Effect) (b : Option (RowKey × Ticket)) → busy_row opens e ≡ b → outside_free n e b ≡ outside_meant opens n (Ok e)
outside_is opens n e b row = ap (outside_free n e) (sym row)

pub outside_busy : (opens : List Open) (n : ℕ) (e : Effect) (key : RowKey) (by : Ticket) (result : Result Answer NoMemory) → busy_row opens e ≡ Some (key, by)
    → IfOk result (λ a. (f : Effect) → a ≡ outside_free n f (Some (key, by))) → IfOk result (λ a. a ≡ outside_meant opens n (Ok e))
outside_busy opens n e key by (Ok a) row all = all e ∙ outside_is opens n e (Some (key, by)) row
outside_busy opens n e key by (Err none) row all = tt
