-- A grant answered by what is known is the rules', and the store takes its record.
use Rattle.std.proofs.Common.{◌≡◌, ◌∙◌, ℕ, zero, suc, true, false, Bool, cond, is_none, List, [], ◌∷◌, Option, Some, None, option_map, Result, Ok, refl, sym, ap, subst, true≢false}
use Rattle.std.specs.Prelude.{IfSome}
use Rattle.disk_model.specs.Disk.{DiskState}
use Rattle.seata_types.specs.declared.errors.StoreError.{StoreError}
use Rattle.seata_types.specs.declared.ids.Leg.{Leg}
use Rattle.seata_types.specs.declared.ids.Ticket.{Ticket}
use Rattle.seata_types.specs.declared.messages.Registered.TheVariants as registered
use Rattle.seata_types.specs.declared.messages.Step.{Step}
use Rattle.seata_types.specs.declared.statements.Stmt.{Stmt}
use Rattle.seata_types.specs.declared.statements.Work.{Work}
use Rattle.seata_types.specs.declared.statements.Work.TheVariants as work
use Rattle.durable_records.specs.declared.resources.ResourceRecord.{ResourceRecord}
use Rattle.durable_records.specs.declared.resources.ResourceRecord.TheVariants as log
use Rattle.durable_records.specs.UndoRecords.{Undo, is_marked, undo_of}
use Rattle.undo_log.specs.Entries.{entry_at}
use Rattle.undo_log.specs.declared.records.UndoEntry.{UndoEntry}
use Rattle.undo_log.specs.declared.records.UndoEntry.TheVariants as entry
use Rattle.local_txn.specs.OpenTickets.{Owner, OfCall, Open, open_at}
use Rattle.local_txn.specs.Answers.{open_of, owner_by}
use Rattle.local_txn.specs.declared.transactions.OpenTxn.{OpenTxn}
use Rattle.local_txn.proofs.OpenLaws.{found_ticket}
use Rattle.local_txn.proofs.Tests.{ticket_itself}
use Rattle.history_rules.specs.ResourceMemory.{Memory, Setup, call_of, committed_of, next_ticket, resource_asked}
use Rattle.history_rules.specs.ResourceRules as rules
use Rattle.history_rules.specs.ResourceRules.{resource_answer}
use Rattle.resource_memory.specs.Known.{Known}
use Rattle.resource_memory.specs.Lookups.{entry_now}
use Rattle.resource_rules.specs.Answers.{own_step}
use Rattle.resource_rules.specs.Grants as looked
use Rattle.resource_rules.specs.declared.answers.Answer.{Answer as Ruling}
use Rattle.resource_rules.proofs.Ends.{finished_by, none_by, normal_by}
use Rattle.resource_store.specs.declared.store.Store.{Store}
use Rattle.resource_store.specs.Answers.{Answer, Gives}
use Rattle.resource_store.specs.Keeping.{IsTaken, known, setting_of}
use Rattle.resource_store.proofs.AnswerLaws.{committed_taken, entry_of, gives_only}
use Rattle.rule_calls.specs.Calls.{bare, memory_of, resource_of, told_of, viewed}
use Rattle.rule_calls.specs.Grants.{granting, opens_in, owner_in, ticket_in}
use Rattle.at_branch.specs.Grants.{Grants, MayCommit, granted_by, is_at_call}
use Rattle.at_branch.specs.declared.answers.Granted.{Granted}
use Rattle.at_branch.specs.declared.answers.Granted.TheVariants as grant

some_is : {A : Type 0} (b a : A) → Some b ≡ Some a → b ≡ a
some_is b a e = cc

none_some : {A : Type 0} (a : A) → None ≡ Some a → ⊥
none_some a e = cc

-- what holds where there is something
pub of_some : {A : Type 0} (P : A → Type 0) (o : Option A) (a : A) → IfSome o P → o ≡ Some a → P a
of_some P (Some b) a h e = subst P (some_is b a e) h
of_some P None a h e = absurd (none_some a e)

-- ---- a ticket of an AT call

owner_is : (x m c : ℕ) (w : Work) → is_at_call (owner_by x m c w) ≡ true → owner_by x m c w ≡ OfCall m x c w
owner_is zero m c w e = absurd (true≢false (sym e))
owner_is (suc x) m c w e = refl

module _ (txn : OpenTxn) (kind : is_at_call (open_of txn).owner ≡ true) where
  owner : (open_of txn).owner ≡ OfCall txn.manager txn.xid.0 txn.call txn.work
  owner = owner_is txn.xid.0 txn.manager txn.call txn.work kind

  pub call_at : call_of (open_of txn).owner ≡ txn.call
  call_at = ap call_of owner

  at_kind : is_at_call (OfCall txn.manager txn.xid.0 txn.call txn.work) ≡ true
  at_kind = ap is_at_call (sym owner) ∙ kind

  -- it has no Try
  pub counted_try : looked.IsCountedTry txn.work
  counted_try = by txn.work (at_kind)
    where
      by : (w : Work) → is_at_call (OfCall txn.manager txn.xid.0 txn.call w) ≡ true → looked.IsCountedTry w
      by (work.At stmts) e = tt
      by (work.Tcc action) e = absurd (true≢false (sym e))

  -- ---- the record

  module _ {D : Type 0} (s : Store D) (leg : Leg) (may : MayCommit (known s).tables leg (open_of txn)) where
    entry_takes : (found : Option UndoEntry) → entry_at (known s).undo_log leg ≡ found → IfSome (looked.at_granted txn leg found).asked (λ r. IsTaken r s)
    entry_takes (Some (entry.Normal r)) is = tt
    entry_takes (Some entry.Finished) is = tt
    entry_takes None is =
        subst (λ (c : ℕ). IsTaken (log.Committed leg.xid leg.branch c txn.images txn.reads) s) call_at
        (committed_taken s leg txn.images (call_of (open_of txn).owner) txn.reads (ap is_none is) may.rows)

    work_takes : (w : Work) → is_at_call (OfCall txn.manager txn.xid.0 txn.call w) ≡ true → IfSome (looked.granted (known s) txn leg w).asked (λ r. IsTaken r s)
    work_takes (work.At stmts) e = entry_takes (entry_at (known s).undo_log leg) refl
    work_takes (work.Tcc action) e = absurd (true≢false (sym e))

    pub grant_takes : (k : Known) → k ≡ known s → (a : Ruling) → a ≡ looked.granted k txn leg txn.work → IfSome a.asked (λ r. IsTaken r s)
    grant_takes k same a is =
        subst (λ (x : Ruling). IfSome x.asked (λ r. IsTaken r s)) (sym (is ∙ ap (λ (z : Known). looked.granted z txn leg txn.work) same)) (work_takes txn.work at_kind)

  -- ---- by the rules

  module _ (leg : Leg) (t : Ticket) (named : txn.ticket ≡ t) (s : Setup) (rs : List ResourceRecord) where
    abbrev it : Open
    it = ticket_in leg.xid (open_of txn)

    abbrev m : Memory
    m = memory_of rs (it ∷ [])

    abbrev at_step : Option Undo → Bool → Step
    at_step u marked = rules.at_granted it txn.manager leg.xid.0 txn.call leg.branch.0 u marked

    here : open_at (it ∷ []) t ≡ Some it
    here = ap (λ (u : Ticket). open_at (it ∷ []) u) (sym named) ∙ own
      where
        own : open_at (it ∷ []) txn.ticket ≡ Some it
        own = ap (λ (b : Bool). cond b (Some it) None) (ticket_itself txn.ticket)

    owner_here : (w : Work) → txn.work ≡ w → it.owner ≡ OfCall txn.manager leg.xid.0 txn.call w
    owner_here w is = ap (owner_in leg.xid) owner ∙ ap (OfCall txn.manager leg.xid.0 txn.call) is

    answers : (stmts : List Stmt) → txn.work ≡ work.At stmts → (u : Option Undo) (marked : Bool) → undo_of rs leg.xid.0 leg.branch.0 ≡ u → is_marked rs leg.xid.0 leg.branch.0 ≡ marked
        → resource_answer s m (granting t leg) ≡ at_step u marked
    answers stmts is u marked eu em =
        ap (λ (o : Option Open). rules.on_registered s rs (it ∷ []) (next_ticket m) o (registered.Granted leg.branch)) here
        ∙ ap (λ (w : Owner). rules.granted_answer s rs (it ∷ []) (next_ticket m) it w leg.branch.0) (owner_here (work.At stmts) is)
        ∙ (λ i. at_step (eu i) (em i))

    abbrev read : Step → Answer Granted
    read step = record { told = granted_by step.act; made = resource_asked s m (own_step (granting t leg) 0 step) }

    commits : read (at_step None false) ≡ told_of granted_by (looked.at_granted txn leg None)
    commits = ap (λ (r : Option ResourceRecord). record { told = grant.Committed; made = r }) recorded
      where
        recorded : resource_asked s m (own_step (granting t leg) 0 (at_step None false)) ≡ Some (log.Committed leg.xid leg.branch txn.call txn.images txn.reads)
        recorded =
            ap (λ (b : Bool). option_map (committed_of leg.xid leg.branch) (cond b (Some it) None)) (ticket_itself txn.ticket)
            ∙ ap (λ (w : Owner). Some (log.Committed leg.xid leg.branch (call_of w) txn.images txn.reads)) (owner_here txn.work refl)

    by_entry : (stmts : List Stmt) → txn.work ≡ work.At stmts → (found : Option UndoEntry) → entry_now rs leg.xid.0 leg.branch.0 ≡ found
        → viewed granted_by s m (granting t leg) ≡ told_of granted_by (looked.at_granted txn leg found)
    by_entry stmts is (Some (entry.Normal r)) e =
        let v = normal_by (undo_of rs leg.xid.0 leg.branch.0) (is_marked rs leg.xid.0 leg.branch.0) r e in ap read (answers stmts is (Some v.0) _ v.1 refl)
    by_entry stmts is (Some entry.Finished) e =
        let v = finished_by (undo_of rs leg.xid.0 leg.branch.0) (is_marked rs leg.xid.0 leg.branch.0) e in ap read (answers stmts is None true v.0 v.1)
    by_entry stmts is None e =
        let v = none_by (undo_of rs leg.xid.0 leg.branch.0) (is_marked rs leg.xid.0 leg.branch.0) e in ap read (answers stmts is None false v.0 v.1) ∙ commits

    by_work : (k : Known) → entry_at k.undo_log leg ≡ entry_now rs leg.xid.0 leg.branch.0 → (w : Work) → txn.work ≡ w → is_at_call (OfCall txn.manager txn.xid.0 txn.call w) ≡ true
        → viewed granted_by s m (granting t leg) ≡ told_of granted_by (looked.granted k txn leg w)
    by_work k seen (work.At stmts) is e = by_entry stmts is (entry_at k.undo_log leg) (sym seen)
    by_work k seen (work.Tcc action) is e = absurd (true≢false (sym e))

  pub grants : {D : Type 0} (state : D → DiskState) (old new : Store D) (leg : Leg) (t : Ticket) (opens : List Open) (result : Result Granted StoreError) → open_at opens t ≡ Some (open_of txn)
      → Gives state (told_of granted_by (looked.granted (known old) txn leg txn.work)) result old new → Grants state opens t leg result old new
  grants state old new leg t opens result here gives = λ rs keeps.
      let named : txn.ticket ≡ t = found_ticket opens t (open_of txn) here in
      let s : Setup = resource_of bare (setting_of old) in
      subst (λ (f : Option Open). Gives state (viewed granted_by s (memory_of rs (opens_in leg.xid f)) (granting t leg)) result old new) (sym here)
      (subst (λ (a : Answer Granted). Gives state a result old new) (sym (by_work leg t named s rs (known old) (entry_of state (setting_of old) rs old keeps leg) txn.work refl at_kind)) gives)

-- a ticket that isn't open
pub grants_none : {D : Type 0} (state : D → DiskState) (s : Store D) (leg : Leg) (t : Ticket) (opens : List Open) → open_at opens t ≡ None → Grants state opens t leg (Ok grant.NotOpen) s s
grants_none state s leg t opens none = λ rs keeps.
    subst (λ (f : Option Open). Gives state (viewed granted_by (resource_of bare (setting_of s)) (memory_of rs (opens_in leg.xid f)) (granting t leg)) (Ok grant.NotOpen) s s) (sym none)
    (gives_only state s grant.NotOpen)
