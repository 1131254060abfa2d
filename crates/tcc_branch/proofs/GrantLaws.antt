-- A grant answered by what is known is the rules', and the store takes its record.
use Rattle.std.proofs.Common.{◌≡◌, ◌∙◌, ◌≤◌, ℕ, zero, suc, true, Bool, cond, List, [], ◌∷◌, length, Option, Some, None, option_map, Result, Ok, Err, refl, sym, ap, ap₂, subst, true≢false}
use Rattle.std.specs.Prelude.{IfSome}
use Rattle.disk_model.specs.Disk.{DiskState}
use Rattle.seata_types.specs.declared.errors.StmtError.{StmtError}
use Rattle.seata_types.specs.declared.errors.StoreError.{StoreError}
use Rattle.seata_types.specs.declared.ids.Leg.{Leg}
use Rattle.seata_types.specs.declared.ids.Ticket.{Ticket}
use Rattle.seata_types.specs.declared.limits.TheConstants.{FIELD_ITEMS}
use Rattle.seata_types.specs.declared.messages.Registered.TheVariants as registered
use Rattle.seata_types.specs.declared.messages.Step.{Step}
use Rattle.seata_types.specs.declared.rows.Image.{Image}
use Rattle.seata_types.specs.declared.statements.Action.{Action}
use Rattle.seata_types.specs.declared.statements.Work.{Work}
use Rattle.seata_types.specs.declared.statements.Work.TheVariants as work
use Rattle.local_tables.specs.Calls.{effect}
use Rattle.local_tables.specs.Rows.{AreRows, Database}
use Rattle.local_tables.specs.declared.schemas.Effect.{Effect}
use Rattle.durable_records.specs.declared.resources.ResourceRecord.{ResourceRecord}
use Rattle.durable_records.specs.declared.resources.ResourceRecord.TheVariants as log
use Rattle.durable_records.specs.Fences.{FenceAnswer, Runs, WasDone, Suspends, Refuses, fence, on_try}
use Rattle.durable_records.specs.RowsKept.{tables}
use Rattle.tcc_fence.specs.Meanings.{fence_at}
use Rattle.local_txn.specs.OpenTickets.{Owner, OfCall, Open, open_at}
use Rattle.local_txn.specs.Answers.{open_of, owner_by}
use Rattle.local_txn.specs.declared.transactions.OpenTxn.{OpenTxn}
use Rattle.local_txn.proofs.OpenLaws.{found_ticket}
use Rattle.local_txn.proofs.Tests.{ticket_itself}
use Rattle.history_rules.specs.ResourceMemory.{Memory, Setup, call_of, effect_on, next_ticket, opening_tables, or_none, resource_asked, tried_of, tries_of}
use Rattle.history_rules.specs.ResourceRules as rules
use Rattle.history_rules.specs.ResourceRules.{resource_answer, untouched}
use Rattle.resource_memory.specs.Known.{Known}
use Rattle.resource_rules.specs.Answers.{answer_by, own_step}
use Rattle.resource_rules.specs.Grants as looked
use Rattle.resource_rules.specs.declared.answers.Answer.{Answer as Ruling}
use Rattle.resource_rules.proofs.TccEnds.{images_fit}
use Rattle.resource_store.specs.declared.store.Store.{Store}
use Rattle.resource_store.specs.Answers.{Answer, Gives, HasPlaces}
use Rattle.resource_store.specs.Keeping.{IsTaken, known, setting_of}
use Rattle.resource_store.proofs.AnswerLaws.{fence_of, gives_only, tables_of, tried_taken}
use Rattle.rule_calls.specs.Calls.{bare, memory_of, resource_of, told_of, viewed}
use Rattle.rule_calls.specs.Grants.{granting, opens_in, owner_in, ticket_in}
use Rattle.tcc_branch.specs.Tries.{Grants, MayTry, is_tcc_call, tried_by}
use Rattle.tcc_branch.specs.declared.answers.TryAnswer.{TryAnswer}
use Rattle.tcc_branch.specs.declared.answers.TryAnswer.TheVariants as tries

abbrev Meaning : Type 0
Meaning = Result Effect (ℕ × StmtError)

-- the answer to a Try with these images, by the first statement that touched no row
abbrev pub touched_answer : OpenTxn → Leg → List Image → Option ℕ → Ruling
touched_answer txn leg images index = answer_by txn.call images [] (rules.try_touched (open_of txn) txn.manager leg.xid.0 txn.call leg.branch.0 index)

-- ---- a ticket of a TCC call

owner_is : (x m c : ℕ) (w : Work) → is_tcc_call (owner_by x m c w) ≡ true → owner_by x m c w ≡ OfCall m x c w
owner_is zero m c w e = absurd (true≢false (sym e))
owner_is (suc x) m c w e = refl

module _ (txn : OpenTxn) (kind : is_tcc_call (open_of txn).owner ≡ true) where
  pub owner : (open_of txn).owner ≡ OfCall txn.manager txn.xid.0 txn.call txn.work
  owner = owner_is txn.xid.0 txn.manager txn.call txn.work kind

  pub tcc_kind : is_tcc_call (OfCall txn.manager txn.xid.0 txn.call txn.work) ≡ true
  tcc_kind = ap is_tcc_call (sym owner) ∙ kind

  -- ---- the record

  module _ {D : Type 0} (s : Store D) (leg : Leg) (may : MayTry (known s).tables leg (open_of txn)) where
    -- a Try has no more statements than are counted
    pub counted_try : looked.IsCountedTry txn.work
    counted_try = by txn.work (subst (λ (o : Owner). length (tries_of o) ≤ FIELD_ITEMS) owner may.statements)
      where
        by : (w : Work) → length (tries_of (OfCall txn.manager txn.xid.0 txn.call w)) ≤ FIELD_ITEMS → looked.IsCountedTry w
        by (work.At stmts) few = tt
        by (work.Tcc action) few = few

    module _ (rows : AreRows (known s).tables) where
      module _ (action : Action) (places : HasPlaces (known s).tables action.tries (log.Tried leg.xid leg.branch txn.call)) (runs : on_try (fence_at (known s).fences leg) ≡ Runs) where
        touched_takes : (e : Effect) → effect (known s).tables action.tries ≡ Ok e → (index : Option ℕ) → IfSome (touched_answer txn leg e.images index).asked (λ r. IsTaken r s)
        touched_takes e means (Some index) = tt
        touched_takes e means None =
            let place = places e means in
            tried_taken s leg e.images txn.call runs (record { fit = images_fit (known s).tables action.tries e rows means; fits = place.fits; small = place.small })

        meant_takes : (r : Meaning) → effect (known s).tables action.tries ≡ r → IfSome (looked.try_meant txn leg r).asked (λ r. IsTaken r s)
        meant_takes (Err (index, error)) means = tt
        meant_takes (Ok e) means = touched_takes e means (untouched 1 e.touched)

      fence_takes : (action : Action) → HasPlaces (known s).tables action.tries (log.Tried leg.xid leg.branch txn.call) → (f : FenceAnswer) → on_try (fence_at (known s).fences leg) ≡ f
          → IfSome (looked.tcc_granted txn leg (effect (known s).tables action.tries) f).asked (λ r. IsTaken r s)
      fence_takes action places Runs is = meant_takes action places is (effect (known s).tables action.tries) refl
      fence_takes action places WasDone is = tt
      fence_takes action places Suspends is = tt
      fence_takes action places Refuses is = tt

      work_takes : (w : Work) → is_tcc_call (OfCall txn.manager txn.xid.0 txn.call w) ≡ true
          → HasPlaces (known s).tables (tries_of (OfCall txn.manager txn.xid.0 txn.call w)) (log.Tried leg.xid leg.branch txn.call) → IfSome (looked.granted (known s) txn leg w).asked (λ r. IsTaken r s)
      work_takes (work.At stmts) e places = absurd (true≢false (sym e))
      work_takes (work.Tcc action) e places = fence_takes action places (on_try (fence_at (known s).fences leg)) refl

      pub grant_takes : (k : Known) → k ≡ known s → (a : Ruling) → a ≡ looked.granted k txn leg txn.work → IfSome a.asked (λ r. IsTaken r s)
      grant_takes k same a is =
          subst (λ (x : Ruling). IfSome x.asked (λ r. IsTaken r s)) (sym (is ∙ ap (λ (z : Known). looked.granted z txn leg txn.work) same))
          (work_takes txn.work tcc_kind (subst (λ (o : Owner). HasPlaces (known s).tables (tries_of o) (log.Tried leg.xid leg.branch (call_of o))) owner may.places))

  -- ---- by the rules

  module _ (leg : Leg) (t : Ticket) (named : txn.ticket ≡ t) (s : Setup) (rs : List ResourceRecord) where
    abbrev it : Open
    it = ticket_in leg.xid (open_of txn)

    abbrev m : Memory
    m = memory_of rs (it ∷ [])

    abbrev db : Database
    db = tables (opening_tables s) rs

    abbrev read : Step → Answer TryAnswer
    read step = record { told = tried_by step.act; made = resource_asked s m (own_step (granting t leg) 0 step) }

    here : open_at (it ∷ []) t ≡ Some it
    here = ap (λ (u : Ticket). open_at (it ∷ []) u) (sym named) ∙ own
      where
        own : open_at (it ∷ []) txn.ticket ≡ Some it
        own = ap (λ (b : Bool). cond b (Some it) None) (ticket_itself txn.ticket)

    module _ (action : Action) (is : txn.work ≡ work.Tcc action) where
      owner_here : it.owner ≡ OfCall txn.manager leg.xid.0 txn.call (work.Tcc action)
      owner_here = ap (owner_in leg.xid) owner ∙ ap (OfCall txn.manager leg.xid.0 txn.call) is

      abbrev tcc_step : FenceAnswer → Step
      tcc_step f = rules.tcc_granted it txn.manager leg.xid.0 txn.call leg.branch.0 (effect db action.tries) f

      answers : resource_answer s m (granting t leg) ≡ tcc_step (on_try (fence rs leg.xid.0 leg.branch.0))
      answers =
          ap (λ (o : Option Open). rules.on_registered s rs (it ∷ []) (next_ticket m) o (registered.Granted leg.branch)) here
          ∙ ap (λ (w : Owner). rules.granted_answer s rs (it ∷ []) (next_ticket m) it w leg.branch.0) owner_here

      touched : (e : Effect) → effect db action.tries ≡ Ok e → (index : Option ℕ)
          → read (rules.try_touched it txn.manager leg.xid.0 txn.call leg.branch.0 index) ≡ told_of tried_by (touched_answer txn leg e.images index)
      touched e means (Some index) = refl
      touched e means None = ap (λ (r : Option ResourceRecord). record { told = tries.Tried; made = r }) recorded
        where
          recorded : option_map (tried_of leg.xid leg.branch db) (open_at (it ∷ []) txn.ticket) ≡ Some (log.Tried leg.xid leg.branch txn.call e.images)
          recorded =
              ap (λ (b : Bool). option_map (tried_of leg.xid leg.branch db) (cond b (Some it) None)) (ticket_itself txn.ticket)
              ∙ ap (λ (w : Owner). Some (log.Tried leg.xid leg.branch (call_of w) (effect_on db (tries_of w)).images)) owner_here
              ∙ ap (λ (r : Meaning). Some (log.Tried leg.xid leg.branch txn.call (or_none r).images)) means

      meant : (r : Meaning) → effect db action.tries ≡ r
          → read (rules.try_meant it txn.manager leg.xid.0 txn.call leg.branch.0 r) ≡ told_of tried_by (looked.try_meant txn leg r)
      meant (Err (index, error)) means = refl
      meant (Ok e) means = touched e means (untouched 1 e.touched)

      by_fence : (f : FenceAnswer) → read (tcc_step f) ≡ told_of tried_by (looked.tcc_granted txn leg (effect db action.tries) f)
      by_fence Runs = meant (effect db action.tries) refl
      by_fence WasDone = refl
      by_fence Suspends = refl
      by_fence Refuses = refl

    by_work : (k : Known) → k.tables ≡ db → fence_at k.fences leg ≡ fence rs leg.xid.0 leg.branch.0 → (w : Work) → txn.work ≡ w → is_tcc_call (OfCall txn.manager txn.xid.0 txn.call w) ≡ true
        → viewed tried_by s m (granting t leg) ≡ told_of tried_by (looked.granted k txn leg w)
    by_work k same seen (work.At stmts) is e = absurd (true≢false (sym e))
    by_work k same seen (work.Tcc action) is e =
        ap read (answers action is) ∙ by_fence action is (on_try (fence rs leg.xid.0 leg.branch.0))
        ∙ ap₂ (λ (d : Database) (f : FenceAnswer). told_of tried_by (looked.tcc_granted txn leg (effect d action.tries) f)) (sym same) (ap on_try (sym seen))

  pub grants : {D : Type 0} (state : D → DiskState) (old new : Store D) (leg : Leg) (t : Ticket) (opens : List Open) (result : Result TryAnswer StoreError) → open_at opens t ≡ Some (open_of txn)
      → Gives state (told_of tried_by (looked.granted (known old) txn leg txn.work)) result old new → Grants state opens t leg result old new
  grants state old new leg t opens result here gives = λ rs keeps.
      let named : txn.ticket ≡ t = found_ticket opens t (open_of txn) here in
      let s : Setup = resource_of bare (setting_of old) in
      subst (λ (f : Option Open). Gives state (viewed tried_by s (memory_of rs (opens_in leg.xid f)) (granting t leg)) result old new) (sym here)
      (subst (λ (a : Answer TryAnswer). Gives state a result old new)
      (sym (by_work leg t named s rs (known old) (tables_of state (setting_of old) rs old keeps) (fence_of state (setting_of old) rs old keeps leg) txn.work refl tcc_kind)) gives)

-- a ticket that isn't open
pub grants_none : {D : Type 0} (state : D → DiskState) (s : Store D) (leg : Leg) (t : Ticket) (opens : List Open) → open_at opens t ≡ None → Grants state opens t leg (Ok tries.NotOpen) s s
grants_none state s leg t opens none = λ rs keeps.
    subst (λ (f : Option Open). Gives state (viewed tried_by (resource_of bare (setting_of s)) (memory_of rs (opens_in leg.xid f)) (granting t leg)) (Ok tries.NotOpen) s s) (sym none)
    (gives_only state s tries.NotOpen)
