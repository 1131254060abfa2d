-- Answers by the rules whose records are made, as what calls on a store give.
use Rattle.std.proofs.Common.{◌≡◌, ◌∙◌, ◌⊎◌, false, List, Option, Some, None, Result, Ok, Err, refl, sym, ap, subst}
use Rattle.std.specs.Prelude.{IfOk, IfSome}
use Rattle.disk_model.specs.Disk.{DiskState}
use Rattle.seata_types.specs.declared.acts.Act.{Act}
use Rattle.seata_types.specs.declared.errors.StoreError.{StoreError}
use Rattle.seata_types.specs.declared.errors.StoreError.TheVariants as store_error
use Rattle.seata_types.specs.declared.messages.Input.{Input}
use Rattle.seata_types.specs.declared.messages.Step.{Step}
use Rattle.durable_records.specs.declared.resources.ResourceRecord.{ResourceRecord}
use Rattle.local_txn.specs.OpenTickets.{Open}
use Rattle.local_txn.specs.Answers.{Tickets}
use Rattle.history_rules.specs.ResourceMemory.{Memory, Setup, resource_asked}
use Rattle.resource_memory.specs.Known.{Known}
use Rattle.record_places.specs.Within.{HasPlace}
use Rattle.resource_rules.specs.Answers.{Answers, IsOfRules, IsTakenBy, Places, Shows, own_step, tickets_in}
use Rattle.resource_rules.specs.declared.answers.Answer.{Answer as Ruling}
use Rattle.resource_rules.specs.declared.setups.Setup.{Setup as TheSetup}
use Rattle.resource_store.specs.declared.store.Store.{Store}
use Rattle.resource_store.specs.Answers.{Does, Gives, Leaves, outcome}
use Rattle.resource_store.specs.Keeping.{Changes, IsTaken, KeepsRecords, has_failed, is_down, known, setting_of}
use Rattle.resource_store.proofs.AnswerLaws.{gives_nothing}
use Rattle.rule_calls.specs.Calls.{GivesAs, act_of, memory_of, numbered, resource_of, told_of, viewed}

module _ {D : Type 0} (state : D → DiskState) where
  -- ---- calls that came to the same

  leaves_as : {A B : Type 0} (one : Result A StoreError) (two : Result B StoreError) (old new : Store D) → outcome one ≡ outcome two → Leaves state one old new → Leaves state two old new
  leaves_as one two old new same l = record {
    down = l.down ∙ ap has_failed same;
    setting = l.setting;
    changes = subst (λ (r : Result (Unit {0}) StoreError). (new ≡ old) ⊎ ((item : ResourceRecord) × IsTaken item old × Changes state item r old new)) same l.changes;
  }

  does_as : {A B : Type 0} (o : Option ResourceRecord) (one : Result A StoreError) (two : Result B StoreError) (old new : Store D) → outcome one ≡ outcome two → Does state o one old new → Does state o two old new
  does_as (Some r) one two old new same does = subst (λ (x : Result (Unit {0}) StoreError). Changes state r x old new) same does
  does_as None (Ok a) (Ok b) old new same does = does
  does_as None (Ok a) (Err e) old new same does = absurd cc
  does_as None (Err e) (Ok b) old new same does = absurd cc
  does_as None (Err e) (Err f) old new same does = (cc, does.1)

  module _ (A B : Type 0) (old new : Store D) where
    pub leaves_ok : (a : A) (b : B) → Leaves state (Ok a) old new → Leaves state (Ok b) old new
    leaves_ok a b = leaves_as (Ok a) (Ok b) old new refl

    pub leaves_err : (e : StoreError) → Leaves {A = A} state (Err e) old new → Leaves {A = B} state (Err e) old new
    leaves_err e = leaves_as {A = A} {B = B} (Err e) (Err e) old new refl

    pub does_ok : (o : Option ResourceRecord) (a : A) (b : B) → Does state o (Ok a) old new → Does state o (Ok b) old new
    does_ok o a b = does_as o (Ok a) (Ok b) old new refl

    pub does_err : (o : Option ResourceRecord) (e : StoreError) → Does {A = A} state o (Err e) old new → Does {A = B} state o (Err e) old new
    does_err o e = does_as {A = A} {B = B} o (Err e) (Err e) old new refl

  -- the call tells what is read off the act, or the record isn't made
  module _ {A : Type 0} (view : Act → A) (a : Ruling) (old new : Store D) where
    pub reads_ok : (act : Act) (r : A) → r ≡ view act → Gives state (act_of a) (Ok act) old new → Gives state (told_of view a) (Ok r) old new
    reads_ok act r reads gives = record { told = reads ∙ ap view gives.told; does = does_ok Act A old new a.asked act r gives.does }

    pub reads_err : (e : StoreError) → Gives {A = Act} state (act_of a) (Err e) old new → Gives {A = A} state (told_of view a) (Err e) old new
    reads_err e gives = record { told = tt; does = does_err Act A old new a.asked e gives.does }

  -- memory was wanting before
  pub wants : {A : Type 0} (view : Act → A) (is : TheSetup) (given : Input) (opens : List Open) (s : Store D) → is_down s ≡ false → GivesAs state view is given opens (Err store_error.NoMemory) s s
  wants view is given opens s up = λ rs k. gives_nothing state s (viewed view (resource_of is (setting_of s)) (memory_of rs opens) given) up

  -- ---- an answer of the rules

  module _ (is : TheSetup) (given : Input) (opens : List Open) (old : Store D) (k : Known) (same : k ≡ known old) (a : Ruling)
      (are : (ts : Tickets) → ts.opens ≡ opens → Answers (numbered is (setting_of old)) k ts given a) where
    answers : (ts : Tickets) → ts.opens ≡ opens → Answers (numbered is (setting_of old)) (known old) ts given a
    answers ts these = subst (λ (z : Known). Answers (numbered is (setting_of old)) z ts given a) same (are ts these)

    -- where these are open
    abbrev here : Tickets
    here = record { boot = 0; opened = 0; opens = opens }

    taken_by : (ts : Tickets) (o : Option ResourceRecord) → Places (numbered is (setting_of old)) (known old) ts given → IfSome o (IsTakenBy (numbered is (setting_of old)) (known old) ts given)
        → IfSome o (λ r. IsTaken r old)
    taken_by ts (Some r) places taken = let place = taken.placed places in record { allowed = taken.allowed; fits = place.fits; small = place.small }
    taken_by ts None places taken = tt

    -- the store takes the record that it asks for, where this has a place
    pub takes : Places (numbered is (setting_of old)) (known old) here given → IfSome a.asked (λ r. IsTaken r old)
    takes places = taken_by here a.asked places (answers here refl).taken

    by_rules : (rs : List ResourceRecord) → KeepsRecords state (setting_of old) rs old → IsOfRules (resource_of is (setting_of old)) (memory_of rs opens) given a
    by_rules rs keeps =
        (answers (tickets_in (memory_of rs opens)) refl).rules (resource_of is (setting_of old)) (memory_of rs opens) (record {
          setup = record { number = refl; tries = refl; actions = refl; locals = refl };
          allowed = keeps.list.made.allowed;
          knows = keeps.knows;
          tickets = refl;
        })

    module _ {A : Type 0} (view : Act → A) (new : Store D) where
      gives_as : (told : Result Act StoreError) (result : Result A StoreError) → Gives state (act_of a) told old new
          → ((s : Setup) (m : Memory) → IsOfRules s m given a → IfOk result (λ r. r ≡ (viewed view s m given).told)) → outcome told ≡ outcome result → GivesAs state view is given opens result old new
      gives_as told result gives reads so = λ rs keeps.
          let s : Setup = resource_of is (setting_of old) in
          let m : Memory = memory_of rs opens in
          let of = by_rules rs keeps in
          record {
            told = reads s m of;
            does = does_as _ told result old new so (subst (λ (o : Option ResourceRecord). Does state o told old new) (of.asked ∙ ap (λ (st : Step). resource_asked s m (own_step given 0 st)) of.step) gives.does);
          }

      -- the call tells what is read off the act
      pub tells_as : (act : Act) (r : A) → r ≡ view act → Gives state (act_of a) (Ok act) old new → GivesAs state view is given opens (Ok r) old new
      tells_as act r reads gives = gives_as (Ok act) (Ok r) gives (λ s m of. reads ∙ ap view gives.told ∙ ap (λ (st : Step). view st.act) of.step) refl

      -- the record isn't made
      pub fails_as : (e : StoreError) → Gives {A = Act} state (act_of a) (Err e) old new → GivesAs {A = A} state view is given opens (Err e) old new
      fails_as e gives = gives_as (Err e) (Err e) gives (λ s m of. tt) refl
