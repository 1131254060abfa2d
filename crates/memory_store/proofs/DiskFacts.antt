-- Disks through reads, a checkpoint and a restart.
use Rattle.std.proofs.Common.{◌≡◌, ◌⊎◌, ⊎_elim, inl, inr, ℕ, ◌-◌, Bool, true, false, Option, Some, None, Ok, Err, List, refl, sym, ◌∙◌, ap, subst, arith}
use Rattle.std.specs.Prelude.{not, is_some, IsSome, option_map}
use Rattle.std.proofs.lemmas.Option.{same_Some}
use Rattle.disk_model.specs.Disk.{DiskState, Content, SameKind, KeepsRest, CountsCalls, Passed, PassedAtMost, HasCause, Rose, IsSettled, present}
use Rattle.disk_model.specs.declared.errors.Failed.{Failed}
use Rattle.disk_model.proofs.Calls.{keeps_rest_then, same_kind_then}
use Rattle.disk_journal.specs.Keeping.{OnlyReads}
use Rattle.journal_checkpoint.specs.declared.twin.Twin.{Twin}
use Rattle.journal_checkpoint.specs.Pairs.{chosen}
use Rattle.journal_checkpoint.specs.Extents.{Extent}
use Rattle.journal_checkpoint.specs.Images.{Restarts, FailsItself, checkpoint_calls}
use Rattle.journal_checkpoint.specs.Keeping.{active_disk, other_disk, first_disk, second_disk, other_is_open, IsExchanged, IsFallen}
use Rattle.memory_store.specs.Settling.{RunsOn}
use Rattle.memory_store.specs.Keeping.{ComesUp}

-- ---- one disk

pub runs_same : (disk : DiskState) → RunsOn disk disk
runs_same disk = record {
  rest = record { kind = record { size = refl; tells_images = refl; tells_moments = refl }; last_pick = refl };
  faults = omega arith;
  own = omega arith;
  unarmed = λ none. none;
}

pub runs_then : {first second third : DiskState} → RunsOn first second → RunsOn second third → RunsOn first third
runs_then one two = record {
  rest = keeps_rest_then one.rest two.rest;
  faults = omega (arith, one.faults, two.faults);
  own = omega (arith, one.own, two.own);
  unarmed = λ none. two.unarmed (one.unarmed none);
}

pub reads_run : {old new : DiskState} → OnlyReads old new → RunsOn old new
reads_run reads = record { rest = reads.rest; faults = reads.faults; own = reads.own; unarmed = λ none. reads.left ∙ none }

passed_none : (n : ℕ) (before after : Option ℕ) → Passed n before after → before ≡ None → after ≡ None
passed_none n None None passed is = refl
passed_none n None (Some b) passed is = absurd passed
passed_none n (Some a) None passed is = refl
passed_none n (Some a) (Some b) passed is = absurd (cc)

stuck_none : (n : ℕ) (before after : Option ℕ) → PassedAtMost n before after → before ≡ None → after ≡ None
stuck_none n None None passed is = refl
stuck_none n None (Some b) passed is = absurd passed
stuck_none n (Some a) None passed is = refl
stuck_none n (Some a) (Some b) passed is = absurd (cc)

calls_run : {old new : DiskState} (n : ℕ) → CountsCalls {T = Bool} {E = Failed} n (Ok true) old.counts new.counts → KeepsRest old new → RunsOn old new
calls_run {old} {new} n counts rest = record { rest = rest; faults = counts.faults; own = counts.own; unarmed = passed_none n old.counts.left new.counts.left counts.passed }

failures_run : {old new : DiskState} (n : ℕ) (e : Failed) → CountsCalls {T = Bool} {E = Failed} n (Err e) old.counts new.counts → KeepsRest old new → RunsOn old new
failures_run {old} {new} n e counts rest = record { rest = rest; faults = counts.faults; own = counts.own; unarmed = stuck_none (n - 1) old.counts.left new.counts.left counts.stuck }

-- what was read is what is there
pub read_again : {old new : DiskState} (c d : List ℕ) → IsSettled old → OnlyReads old new → present old ≡ Some c → new.may_leave d → d ≡ c
read_again c d settled reads is left = same_Some _ _ (sym (settled d (reads.images.now d left)) ∙ is)

-- a failure behind reads
pub cause_after : {old mid : DiskState} (new : DiskState) → RunsOn old mid → HasCause mid.counts new.counts → HasCause old.counts new.counts
cause_after {old} {mid} new runs cause = record {
  fault = omega (arith, runs.faults, cause.fault);
  cause = ⊎_elim (λ rose. let more : Rose old.counts.own new.counts.own = omega (arith, runs.own, rose) in inl more) (λ stuck. inr stuck) cause.cause;
}

-- ---- the two disks

module _ {D : Type 0} (state : D → DiskState) where
  same_first : (s s' : Bool) (x y x' y' : D) → s' ≡ s → x' ≡ x → RunsOn (state y) (state y') → RunsOn (state (chosen s x y)) (state (chosen s' x' y'))
  same_first true true x y x' y' e same runs = runs
  same_first false false x y x' y' e same runs = subst (λ d. RunsOn (state x) (state d)) (sym same) (runs_same (state x))
  same_first true false x y x' y' e same runs = absurd (cc)
  same_first false true x y x' y' e same runs = absurd (cc)

  same_second : (s s' : Bool) (x y x' y' : D) → s' ≡ s → x' ≡ x → RunsOn (state y) (state y') → RunsOn (state (chosen s y x)) (state (chosen s' y' x'))
  same_second true true x y x' y' e same runs = subst (λ d. RunsOn (state x) (state d)) (sym same) (runs_same (state x))
  same_second false false x y x' y' e same runs = runs
  same_second true false x y x' y' e same runs = absurd (cc)
  same_second false true x y x' y' e same runs = absurd (cc)

  turned_first : (s s' : Bool) (x y x' y' : D) → s' ≡ not s → y' ≡ x → RunsOn (state y) (state x') → RunsOn (state (chosen s x y)) (state (chosen s' x' y'))
  turned_first true false x y x' y' e same runs = runs
  turned_first false true x y x' y' e same runs = subst (λ d. RunsOn (state x) (state d)) (sym same) (runs_same (state x))
  turned_first true true x y x' y' e same runs = absurd (cc)
  turned_first false false x y x' y' e same runs = absurd (cc)

  turned_second : (s s' : Bool) (x y x' y' : D) → s' ≡ not s → y' ≡ x → RunsOn (state y) (state x') → RunsOn (state (chosen s y x)) (state (chosen s' y' x'))
  turned_second true false x y x' y' e same runs = subst (λ d. RunsOn (state x) (state d)) (sym same) (runs_same (state x))
  turned_second false true x y x' y' e same runs = runs
  turned_second true true x y x' y' e same runs = absurd (cc)
  turned_second false false x y x' y' e same runs = absurd (cc)

  module _ (old new : Twin D) where
    turned_side : (count : ℕ) → IsExchanged state count old new → new.second ≡ not old.second
    turned_side count is = ap (λ (e : Extent). e.second) is.extent

    pub exchanged_first : (count : ℕ) → IsExchanged state count old new → RunsOn (state (first_disk old)) (state (first_disk new))
    exchanged_first count is = turned_first old.second new.second (active_disk old) (other_disk old) (active_disk new) (other_disk new) (turned_side count is) is.former (calls_run (checkpoint_calls (other_is_open old)) is.counts is.rest)

    pub exchanged_second : (count : ℕ) → IsExchanged state count old new → RunsOn (state (second_disk old)) (state (second_disk new))
    exchanged_second count is = turned_second old.second new.second (active_disk old) (other_disk old) (active_disk new) (other_disk new) (turned_side count is) is.former (calls_run (checkpoint_calls (other_is_open old)) is.counts is.rest)

    pub fallen_first : (e : Failed) → IsFallen state e old new → RunsOn (state (first_disk old)) (state (first_disk new))
    fallen_first e is = same_first old.second new.second (active_disk old) (other_disk old) (active_disk new) (other_disk new) is.second is.active (failures_run (checkpoint_calls (other_is_open old)) e is.counts is.rest)

    pub fallen_second : (e : Failed) → IsFallen state e old new → RunsOn (state (second_disk old)) (state (second_disk new))
    fallen_second e is = same_second old.second new.second (active_disk old) (other_disk old) (active_disk new) (other_disk new) is.second is.active (failures_run (checkpoint_calls (other_is_open old)) e is.counts is.rest)

    pub fallen_cause : (e : Failed) → IsFallen state e old new
        → HasCause (state (first_disk old)).counts (state (first_disk new)).counts ⊎ HasCause (state (second_disk old)).counts (state (second_disk new)).counts
    fallen_cause e is = by old.second new.second is.second (active_disk old) (other_disk old) (active_disk new) (other_disk new) is.counts.cause
      where
        by : (s s' : Bool) → s' ≡ s → (x y x' y' : D) → HasCause (state y).counts (state y').counts
            → HasCause (state (chosen s x y)).counts (state (chosen s' x' y')).counts ⊎ HasCause (state (chosen s y x)).counts (state (chosen s' y' x')).counts
        by true true same x y x' y' cause = inl cause
        by false false same x y x' y' cause = inr cause
        by true false same x y x' y' cause = absurd (cc)
        by false true same x y x' y' cause = absurd (cc)

-- ---- a restart

abbrev some_some : Option ℕ → Option (Option ℕ)
some_some p = Some p

pub comes_up : {old mid new : DiskState} (ok : Bool) (pick : ℕ) → Restarts true pick old mid → RunsOn mid new → ComesUp ok pick old new
comes_up ok pick restarts runs = record {
  picked = λ is p last. restarts.picked refl p (sym runs.rest.last_pick ∙ last);
  unarmed = λ is. runs.unarmed (restarts.unarmed refl);
  faults = omega (arith, restarts.faults, runs.faults);
  own = omega (arith, restarts.own, runs.own);
  kind = same_kind_then restarts.kind runs.rest.kind;
}

-- the failed restart of a disk
pub stays_down : {old new : DiskState} (pick : ℕ) → Restarts false pick old new → ComesUp false pick old new
stays_down pick restarts = record {
  picked = λ no. absurd (cc);
  unarmed = λ no. absurd (cc);
  faults = restarts.faults;
  own = restarts.own;
  kind = restarts.kind;
}

pub fails_itself : {old mid new : DiskState} (pick : ℕ) → Restarts true pick old mid → RunsOn mid new → HasCause mid.counts new.counts → FailsItself old.counts new.counts
fails_itself {old} {mid} {new} pick restarts runs cause = record {
  fault = omega (arith, restarts.faults, cause.fault);
  own = ⊎_elim (λ rose. let more : Rose old.counts.own new.counts.own = omega (arith, restarts.own, rose) in more)
      (λ stuck. let none = runs.unarmed (restarts.unarmed refl) in absurd (cc)) cause.cause;
}

-- a disk that tells its bytes has some
some_content : (o : Option Content) → IsSome o → (c : List ℕ) × (option_map (λ (k : Content). k.present) o ≡ Some c)
some_content None told = absurd (cc)
some_content (Some k) told = (k.present, refl)

told_before : (o p : Option Content) → is_some p ≡ is_some o → IsSome p → IsSome o
told_before (Some k) p same told = refl
told_before None None same told = absurd (cc)
told_before None (Some k) same told = absurd (cc)

pub told_bytes : (disk : DiskState) → IsSome disk.content → (c : List ℕ) × (present disk ≡ Some c)
told_bytes disk told = some_content disk.content told

pub told_then : {old new : DiskState} → SameKind old new → IsSome new.content → IsSome old.content
told_then {old} {new} kind told = told_before old.content new.content kind.tells_images told

pub told_after : {old new : DiskState} → SameKind old new → IsSome old.content → IsSome new.content
told_after {old} {new} kind told = told_before new.content old.content (sym kind.tells_images) told
