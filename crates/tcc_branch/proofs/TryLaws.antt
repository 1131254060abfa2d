-- What a grant tells of an open ticket, and that a grant after which no Try ran leaves its store as it was.
use Rattle.std.proofs.Common.{◌≡◌, ◌∙◌, ℕ, true, List, Option, Some, None, Result, Ok, Err, refl, sym, ap, subst, true≢false}
use Rattle.std.specs.Prelude.{IfSome}
use Rattle.disk_model.specs.Disk.{DiskState}
use Rattle.seata_types.specs.declared.errors.StmtError.{StmtError}
use Rattle.seata_types.specs.declared.errors.StoreError.{StoreError}
use Rattle.seata_types.specs.declared.errors.Why.{Why}
use Rattle.seata_types.specs.declared.errors.Why.TheVariants as why
use Rattle.seata_types.specs.declared.ids.Leg.{Leg}
use Rattle.seata_types.specs.declared.rows.Image.{Image}
use Rattle.seata_types.specs.declared.statements.Work.{Work}
use Rattle.seata_types.specs.declared.statements.Work.TheVariants as work
use Rattle.local_tables.specs.Calls.{effect}
use Rattle.local_tables.specs.declared.schemas.Effect.{Effect}
use Rattle.durable_records.specs.declared.resources.ResourceRecord.{ResourceRecord}
use Rattle.durable_records.specs.declared.resources.ResourceRecord.TheVariants as log
use Rattle.durable_records.specs.Fences.{FenceAnswer, Runs, WasDone, Suspends, Refuses, on_try}
use Rattle.tcc_fence.specs.Meanings.{fence_at}
use Rattle.local_txn.specs.OpenTickets.{OfCall, Open}
use Rattle.local_txn.specs.Answers.{open_of}
use Rattle.local_txn.specs.declared.transactions.OpenTxn.{OpenTxn}
use Rattle.history_rules.specs.ResourceRules.{untouched}
use Rattle.resource_memory.specs.Known.{Known}
use Rattle.resource_rules.specs.Grants.{granted, tcc_granted, try_meant}
use Rattle.resource_store.specs.declared.store.Store.{Store}
use Rattle.resource_store.specs.Answers.{Gives}
use Rattle.rule_calls.specs.Calls.{told_of}
use Rattle.tcc_branch.specs.Tries.{StaysUnlessTried, TellsOn, is_tcc_call, tried_by}
use Rattle.tcc_branch.specs.declared.answers.TryAnswer.{TryAnswer}
use Rattle.tcc_branch.specs.declared.answers.TryAnswer.TheVariants as tries
use Rattle.tcc_branch.proofs.GrantLaws.{owner, tcc_kind, touched_answer}

abbrev Meaning : Type 0
Meaning = Result Effect (ℕ × StmtError)

some_is : {A : Type 0} (b a : A) → Some b ≡ Some a → b ≡ a
some_is b a e = cc

none_some : {A : Type 0} (a : A) → None ≡ Some a → ⊥
none_some a e = cc

-- what holds where there is something
pub of_some : {A : Type 0} (P : A → Type 0) (o : Option A) (a : A) → IfSome o P → o ≡ Some a → P a
of_some P (Some b) a h e = subst P (some_is b a e) h
of_some P None a h e = absurd (none_some a e)

-- there is nothing, where there can't be something
pub none_found : {A : Type 0} (o : Option A) → ((a : A) → o ≡ Some a → ⊥) → o ≡ None
none_found None n = refl
none_found (Some a) n = absurd (n a refl)

-- ---- what is told

-- transactions with the same open ticket are the same
same_owned : (a b : OpenTxn) → open_of a ≡ open_of b → OfCall a.manager a.xid.0 a.call a.work ≡ OfCall b.manager b.xid.0 b.call b.work → a ≡ b
same_owned a b same e =
    let xids : a.xid.0 ≡ b.xid.0 = cc in
    let calls : a.call ≡ b.call = cc in
    let managers : a.manager ≡ b.manager = cc in
    let works : a.work ≡ b.work = cc in
    λ i. record {
      ticket = ap (λ (o : Open). o.ticket) same i;
      xid = record { 0 = xids i };
      call = calls i;
      manager = managers i;
      work = works i;
      images = ap (λ (o : Open). o.images) same i;
      reads = ap (λ (o : Open). o.reads) same i;
      conflicts = ap (λ (o : Open). o.conflicts) same i;
    }

module _ (txn : OpenTxn) (kind : is_tcc_call (open_of txn).owner ≡ true) where
  same_txn : (other : OpenTxn) → open_of other ≡ open_of txn → txn ≡ other
  same_txn other same =
      let of_call : (open_of other).owner ≡ (open_of txn).owner = ap (λ (o : Open). o.owner) same in
      sym (same_owned other txn same (sym (owner other (ap is_tcc_call of_call ∙ kind)) ∙ of_call ∙ owner txn kind))

  pub tells : (k : Known) (leg : Leg) (found : Option Open) (told : TryAnswer) → found ≡ Some (open_of txn) → told ≡ tried_by (granted k txn leg txn.work).step.act → TellsOn k leg found told
  tells k leg found told here is =
      subst (λ (f : Option Open). TellsOn k leg f told) (sym here)
      (λ other same. subst (λ (x : OpenTxn). told ≡ tried_by (granted k x leg x.work).step.act) (same_txn other same) is)

-- ---- what stays

refused_tried : (cause : Why) → tries.Refused cause ≡ tries.Tried → ⊥
refused_tried cause e = cc

ignored_tried : tries.NotOpen ≡ tries.Tried → ⊥
ignored_tried e = cc

module _ {D : Type 0} (state : D → DiskState) (old new : Store D) (txn : OpenTxn) (leg : Leg) where
  dropped_stays : (cause : Why) (result : Result TryAnswer StoreError) → Gives state (record { told = tries.Refused cause; made = None }) result old new → StaysUnlessTried result old new
  dropped_stays cause (Ok tries.Tried) gives = tt
  dropped_stays cause (Ok (tries.Refused other)) gives = gives.does
  dropped_stays cause (Ok tries.NotOpen) gives = gives.does
  dropped_stays cause (Err e) gives = tt

  done_stays : (r : ResourceRecord) (result : Result TryAnswer StoreError) → Gives state (record { told = tries.Tried; made = Some r }) result old new → StaysUnlessTried result old new
  done_stays r (Ok tries.Tried) gives = tt
  done_stays r (Ok (tries.Refused cause)) gives = absurd (refused_tried cause gives.told)
  done_stays r (Ok tries.NotOpen) gives = absurd (ignored_tried gives.told)
  done_stays r (Err e) gives = tt

  touched_stays : (images : List Image) (index : Option ℕ) (result : Result TryAnswer StoreError) → Gives state (told_of tried_by (touched_answer txn leg images index)) result old new → StaysUnlessTried result old new
  touched_stays images (Some index) = dropped_stays (why.NoRow index)
  touched_stays images None = done_stays (log.Tried leg.xid leg.branch txn.call images)

  meant_stays : (r : Meaning) (result : Result TryAnswer StoreError) → Gives state (told_of tried_by (try_meant txn leg r)) result old new → StaysUnlessTried result old new
  meant_stays (Err (index, error)) = dropped_stays (why.Stmt index error)
  meant_stays (Ok e) = touched_stays e.images (untouched 1 e.touched)

  fence_stays : (r : Meaning) (f : FenceAnswer) (result : Result TryAnswer StoreError) → Gives state (told_of tried_by (tcc_granted txn leg r f)) result old new → StaysUnlessTried result old new
  fence_stays r Runs = meant_stays r
  fence_stays r WasDone = dropped_stays why.Fence
  fence_stays r Suspends = dropped_stays why.Fence
  fence_stays r Refuses = dropped_stays why.Fence

  pub grant_stays : is_tcc_call (open_of txn).owner ≡ true → (k : Known) (result : Result TryAnswer StoreError) → Gives state (told_of tried_by (granted k txn leg txn.work)) result old new → StaysUnlessTried result old new
  grant_stays kind k result = by txn.work (tcc_kind txn kind)
    where
      by : (w : Work) → is_tcc_call (OfCall txn.manager txn.xid.0 txn.call w) ≡ true → Gives state (told_of tried_by (granted k txn leg w)) result old new → StaysUnlessTried result old new
      by (work.At stmts) e gives = absurd (true≢false (sym e))
      by (work.Tcc action) e gives = fence_stays (effect k.tables action.tries) (on_try (fence_at k.fences leg)) result gives
