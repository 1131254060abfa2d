-- The second phase of TCC branches: what the fence of a branch answers and what statements mean are what the records say, and so each
-- answer is the rules'.
use Rattle.std.proofs.Common.{◌≡◌, ◌∙◌, ◌<◌, ◌^◌, ℕ, true, List, [], Option, Some, None, Result, Ok, Err, refl, sym, ap, ap₂, arith}
use Rattle.std.specs.Prelude.{IfOk}
use Rattle.std.proofs.lemmas.Bool.{and_from}
use Rattle.seata_types.specs.declared.acts.Durable.TheVariants as durable
use Rattle.seata_types.specs.declared.copies.NoMemory.{NoMemory}
use Rattle.seata_types.specs.declared.errors.StmtError.{StmtError}
use Rattle.seata_types.specs.declared.ids.Leg.{Leg}
use Rattle.seata_types.specs.declared.ids.Place.{Place}
use Rattle.seata_types.specs.declared.messages.Input.{Input}
use Rattle.seata_types.specs.declared.messages.Input.TheVariants as input
use Rattle.seata_types.specs.declared.messages.Message.TheVariants as message
use Rattle.seata_types.specs.declared.statements.Action.{Action}
use Rattle.seata_types.specs.declared.statements.Stmt.{Stmt}
use Rattle.seata_types.specs.declared.statuses.BranchKind.TheVariants as kind
use Rattle.seata_types.specs.declared.statuses.BranchStatus.TheVariants as branch
use Rattle.local_tables.specs.Calls.{effect}
use Rattle.local_tables.specs.Rows.{AreRows, Database}
use Rattle.local_tables.specs.declared.schemas.Effect.{Effect}
use Rattle.durable_records.specs.declared.resources.ResourceRecord.TheVariants as log
use Rattle.durable_records.specs.Fences.{FenceAnswer, Runs, WasDone, Suspends, Refuses, fence, on_confirm, on_cancel}
use Rattle.durable_records.specs.RowsKept.{tables}
use Rattle.tcc_fence.specs.Meanings.{fence_at}
use Rattle.local_txn.specs.Answers.{Tickets}
use Rattle.history_rules.specs.ResourceMemory.{Setup, Memory, action_in, action_of, confirms_of, cancels_of, effect_on, opening_tables, or_none}
use Rattle.history_rules.specs.ResourceRules as rules
use Rattle.history_rules.specs.ResourceRules.{resource_answer}
use Rattle.resource_memory.specs.Changes.{fit, runs, suspends}
use Rattle.resource_memory.specs.Known.{Known}
use Rattle.resource_memory.proofs.EffectFits.{effects_fit}
use Rattle.resource_memory.proofs.Fits.{fit_alone}
use Rattle.resource_rules.specs.Answers.{Answers, Shows, ignored}
use Rattle.resource_rules.specs.Apart.{CancelsWith, ConfirmsWith, cancels_on, confirms_on}
use Rattle.resource_rules.specs.Ends.{confirming, cancelling}
use Rattle.resource_rules.specs.Setups.{actions_of}
use Rattle.resource_rules.specs.declared.answers.Answer.{Answer}
use Rattle.resource_rules.specs.declared.answers.Change.TheVariants as change
use Rattle.resource_rules.specs.declared.setups.Setup.{Setup as TheSetup}
use Rattle.resource_rules.proofs.AnswerLaws.{rests, asks, suspended_placed}
use Rattle.resource_rules.proofs.FramingLaws.{fault_counted}
use Rattle.resource_rules.proofs.ReadyLaws.{action_within, commit_told, rollback_told, tables_within}
use Rattle.resource_rules.proofs.Seen.{action_seen, fence_seen, tables_seen}

-- ---- images of an effect

-- those of statements fit the tables
pub images_fit : (db : Database) (stmts : List Stmt) (e : Effect) → AreRows db → effect db stmts ≡ Ok e → fit db e.images [] ≡ true
images_fit db stmts e rows is = fit_alone db e.images e.reads (effects_fit db stmts e rows is)

abbrev Meaning : Type 0
Meaning = Result Effect (ℕ × StmtError)

-- ---- the answers

module _ (is : TheSetup) (k : Known) (ts : Tickets) (leg : Leg) (manager call : ℕ) (from : Place) where
  abbrev commit : Input
  commit = input.Message from (message.BranchCommit leg.xid leg.branch kind.Tcc manager call)

  abbrev rollback : Input
  rollback = input.Message from (message.BranchRollback leg.xid leg.branch kind.Tcc manager call)

  -- the actions at a memory
  action_is : (o : Option Action) → action_in manager call (actions_of is.actions) ≡ o → (s : Setup) (m : Memory) → Shows is k ts s m → action_of s manager call ≡ o
  action_is o here s m sh = sym (action_seen s m sh manager call) ∙ here

  -- there are none
  pub no_commit : action_in manager call (actions_of is.actions) ≡ None → (a : Answer) → a ≡ ignored → Answers is k ts commit a
  no_commit none = rests change.Stays tt _
      (λ s m sh. sym (ap (rules.with_action (λ a. rules.tcc_commit leg.xid.0 leg.branch.0 (effect (tables (opening_tables s) m.left.records) a.confirms) (on_confirm (fence m.left.records leg.xid.0 leg.branch.0)))) (action_is None none s m sh)))
      (λ s m. refl) (λ s m now sh. refl) (λ ready served. (tt, tt))

  pub no_rollback : action_in manager call (actions_of is.actions) ≡ None → (a : Answer) → a ≡ ignored → Answers is k ts rollback a
  no_rollback none = rests change.Stays tt _
      (λ s m sh. sym (ap (rules.with_action (λ a. rules.tcc_rollback leg.xid.0 leg.branch.0 (effect (tables (opening_tables s) m.left.records) a.cancels) (on_cancel (fence m.left.records leg.xid.0 leg.branch.0)))) (action_is None none s m sh)))
      (λ s m. refl) (λ s m now sh. refl) (λ ready served. (tt, tt))

  module _ (action : Action) (here : action_in manager call (actions_of is.actions) ≡ Some action) (rows : AreRows k.tables) where
    meant : (stmts : List Stmt) (r : Meaning) → effect k.tables stmts ≡ r → (s : Setup) (m : Memory) → Shows is k ts s m → effect (tables (opening_tables s) m.left.records) stmts ≡ r
    meant stmts r e s m sh = ap (λ (db : Database). effect db stmts) (sym (tables_seen s m sh)) ∙ e

    -- ---- commit

    commits : (f : FenceAnswer) → on_confirm (fence_at k.fences leg) ≡ f → (s : Setup) (m : Memory) → Shows is k ts s m
        → rules.tcc_commit leg.xid.0 leg.branch.0 (effect (tables (opening_tables s) m.left.records) action.confirms) f ≡ resource_answer s m commit
    commits f e s m sh =
        sym (ap (rules.with_action (λ a. rules.tcc_commit leg.xid.0 leg.branch.0 (effect (tables (opening_tables s) m.left.records) a.confirms) (on_confirm (fence m.left.records leg.xid.0 leg.branch.0)))) (action_is (Some action) here s m sh)
        ∙ ap (rules.tcc_commit leg.xid.0 leg.branch.0 (effect (tables (opening_tables s) m.left.records) action.confirms)) (ap on_confirm (sym (fence_seen s m sh leg)) ∙ e))

    confirms : (r : Meaning) → effect k.tables action.confirms ≡ r → on_confirm (fence_at k.fences leg) ≡ Runs → (a : Answer) → a ≡ confirming leg r Runs → Answers is k ts commit a
    confirms (Ok e) means f = asks change.Stays (log.Confirmed leg.xid leg.branch e.images) tt (durable.Confirmed leg.xid leg.branch) _
        (λ s m sh. sym (ap (rules.confirm_runs leg.xid.0 leg.branch.0) (meant action.confirms (Ok e) means s m sh)) ∙ commits Runs f s m sh)
        (λ s m sh. sym (ap (λ (o : Option Action). Some (log.Confirmed leg.xid leg.branch (effect_on (tables (opening_tables s) m.left.records) (confirms_of o)).images)) (action_is (Some action) here s m sh)
        ∙ ap (λ (q : Meaning). Some (log.Confirmed leg.xid leg.branch (or_none q).images)) (meant action.confirms (Ok e) means s m sh)))
        (λ s m. refl) (λ n. refl)
        (record { allowed = and_from _ _ (ap runs f) (images_fit k.tables action.confirms e rows means); runs = refl; placed = λ places. places action here e means })
        (λ ready served. (commit_told leg kind.Tcc manager call branch.PhaseTwoCommitted 0 (omega arith) served, tt))
    confirms (Err (index, error)) means f = rests change.Stays tt _
        (λ s m sh. sym (ap (rules.confirm_runs leg.xid.0 leg.branch.0) (meant action.confirms (Err (index, error)) means s m sh)) ∙ commits Runs f s m sh)
        (λ s m. refl) (λ s m now sh. refl)
        (λ ready served. (commit_told leg kind.Tcc manager call branch.PhaseTwoCommitFailedUnretryable index (fault_counted k.tables (tables_within k ready.knows) ready.knows.resource action.confirms (action_within is.actions manager call action ready.actions here).confirms index error means).1 served, tt))

    pub confirmed : (f : FenceAnswer) → on_confirm (fence_at k.fences leg) ≡ f → (a : Answer) → a ≡ confirming leg (effect k.tables action.confirms) f → Answers is k ts commit a
    confirmed Runs f = confirms (effect k.tables action.confirms) refl f
    confirmed WasDone f = rests change.Stays tt _ (commits WasDone f) (λ s m. refl) (λ s m now sh. refl) (λ ready served. (commit_told leg kind.Tcc manager call branch.PhaseTwoCommitted 0 (omega arith) served, tt))
    confirmed Suspends f = rests change.Stays tt _ (commits Suspends f) (λ s m. refl) (λ s m now sh. refl) (λ ready served. (commit_told leg kind.Tcc manager call branch.PhaseTwoCommitFailedRetryable 0 (omega arith) served, tt))
    confirmed Refuses f = rests change.Stays tt _ (commits Refuses f) (λ s m. refl) (λ s m now sh. refl) (λ ready served. (commit_told leg kind.Tcc manager call branch.PhaseTwoCommitFailedRetryable 0 (omega arith) served, tt))

    -- ---- rollback

    rolls : (f : FenceAnswer) → on_cancel (fence_at k.fences leg) ≡ f → (s : Setup) (m : Memory) → Shows is k ts s m
        → rules.tcc_rollback leg.xid.0 leg.branch.0 (effect (tables (opening_tables s) m.left.records) action.cancels) f ≡ resource_answer s m rollback
    rolls f e s m sh =
        sym (ap (rules.with_action (λ a. rules.tcc_rollback leg.xid.0 leg.branch.0 (effect (tables (opening_tables s) m.left.records) a.cancels) (on_cancel (fence m.left.records leg.xid.0 leg.branch.0)))) (action_is (Some action) here s m sh)
        ∙ ap (rules.tcc_rollback leg.xid.0 leg.branch.0 (effect (tables (opening_tables s) m.left.records) action.cancels)) (ap on_cancel (sym (fence_seen s m sh leg)) ∙ e))

    cancels : (r : Meaning) → effect k.tables action.cancels ≡ r → on_cancel (fence_at k.fences leg) ≡ Runs → (a : Answer) → a ≡ cancelling leg r Runs → Answers is k ts rollback a
    cancels (Ok e) means f = asks change.Stays (log.Cancelled leg.xid leg.branch e.images) tt (durable.Cancelled leg.xid leg.branch) _
        (λ s m sh. sym (ap (rules.cancel_runs leg.xid.0 leg.branch.0) (meant action.cancels (Ok e) means s m sh)) ∙ rolls Runs f s m sh)
        (λ s m sh. sym (ap (λ (o : Option Action). Some (log.Cancelled leg.xid leg.branch (effect_on (tables (opening_tables s) m.left.records) (cancels_of o)).images)) (action_is (Some action) here s m sh)
        ∙ ap (λ (q : Meaning). Some (log.Cancelled leg.xid leg.branch (or_none q).images)) (meant action.cancels (Ok e) means s m sh)))
        (λ s m. refl) (λ n. refl)
        (record { allowed = and_from _ _ (ap runs f) (images_fit k.tables action.cancels e rows means); runs = refl; placed = λ places. places action here e means })
        (λ ready served. (rollback_told leg kind.Tcc manager call branch.PhaseTwoRollbacked 0 (omega arith) served, tt))
    cancels (Err (index, error)) means f = rests change.Stays tt _
        (λ s m sh. sym (ap (rules.cancel_runs leg.xid.0 leg.branch.0) (meant action.cancels (Err (index, error)) means s m sh)) ∙ rolls Runs f s m sh)
        (λ s m. refl) (λ s m now sh. refl)
        (λ ready served. (rollback_told leg kind.Tcc manager call branch.PhaseTwoRollbackFailedUnretryable index (fault_counted k.tables (tables_within k ready.knows) ready.knows.resource action.cancels (action_within is.actions manager call action ready.actions here).cancels index error means).1 served, tt))

    module _ (x : leg.xid.0 < 2 ^ 64) (b : leg.branch.0 < 2 ^ 64) where
      pub cancelled : (f : FenceAnswer) → on_cancel (fence_at k.fences leg) ≡ f → (a : Answer) → a ≡ cancelling leg (effect k.tables action.cancels) f → Answers is k ts rollback a
      cancelled Runs f = cancels (effect k.tables action.cancels) refl f
      cancelled WasDone f = rests change.Stays tt _ (rolls WasDone f) (λ s m. refl) (λ s m now sh. refl) (λ ready served. (rollback_told leg kind.Tcc manager call branch.PhaseTwoRollbacked 0 (omega arith) served, tt))
      cancelled Suspends f = asks change.Stays (log.Suspended leg.xid leg.branch) tt (durable.Suspended leg.xid leg.branch) _
          (rolls Suspends f) (λ s m sh. refl) (λ s m. refl) (λ n. refl) (record { allowed = ap suspends f; runs = refl; placed = λ places. suspended_placed leg x b })
          (λ ready served. (rollback_told leg kind.Tcc manager call branch.PhaseTwoRollbacked 0 (omega arith) served, tt))
      cancelled Refuses f = rests change.Stays tt _ (rolls Refuses f) (λ s m. refl) (λ s m now sh. refl) (λ ready served. (rollback_told leg kind.Tcc manager call branch.PhaseTwoRollbackFailedRetryable 0 (omega arith) served, tt))

-- ---- where there is memory for it

module _ (k : Known) (leg : Leg) (rows : AreRows k.tables) (db : Database) (stmts : List Stmt) (f : FenceAnswer) (same : db ≡ k.tables) where
  pub confirmed_ok : (result : Result Answer NoMemory) → on_confirm (fence_at k.fences leg) ≡ f → IfOk result (λ a. a ≡ confirming leg (effect db stmts) f) → IfOk result (ConfirmsWith k leg stmts)
  confirmed_ok (Ok a) e given = λ is ts manager call action here of from.
      confirmed is k ts leg manager call from action here rows f e a (given ∙ ap₂ (λ (t : Database) (ss : List Stmt). confirming leg (effect t ss) f) same of)
  confirmed_ok (Err n) e given = tt

  pub cancelled_ok : leg.xid.0 < 2 ^ 64 → leg.branch.0 < 2 ^ 64 → (result : Result Answer NoMemory) → on_cancel (fence_at k.fences leg) ≡ f
      → IfOk result (λ a. a ≡ cancelling leg (effect db stmts) f) → IfOk result (CancelsWith k leg stmts)
  cancelled_ok x b (Ok a) e given = λ is ts manager call action here of from.
      cancelled is k ts leg manager call from action here rows x b f e a (given ∙ ap₂ (λ (t : Database) (ss : List Stmt). cancelling leg (effect t ss) f) same of)
  cancelled_ok x b (Err n) e given = tt

-- and by what is known
module _ (k : Known) (leg : Leg) (db : Database) (stmts : List Stmt) (f : FenceAnswer) (same : db ≡ k.tables) where
  pub confirmed_known : (result : Result Answer NoMemory) → on_confirm (fence_at k.fences leg) ≡ f → IfOk result (λ a. a ≡ confirming leg (effect db stmts) f)
      → IfOk result (λ a. a ≡ confirms_on k leg stmts)
  confirmed_known (Ok a) e given = given ∙ ap₂ (λ (t : Database) (g : FenceAnswer). confirming leg (effect t stmts) g) same (sym e)
  confirmed_known (Err n) e given = tt

  pub cancelled_known : (result : Result Answer NoMemory) → on_cancel (fence_at k.fences leg) ≡ f → IfOk result (λ a. a ≡ cancelling leg (effect db stmts) f)
      → IfOk result (λ a. a ≡ cancels_on k leg stmts)
  cancelled_known (Ok a) e given = given ∙ ap₂ (λ (t : Database) (g : FenceAnswer). cancelling leg (effect t stmts) g) same (sym e)
  cancelled_known (Err n) e given = tt

pub none_found : {A : Type 0} (o : Option A) → ((a : A) → o ≡ Some a → ⊥) → o ≡ None
none_found None n = refl
none_found (Some a) n = absurd (n a refl)
