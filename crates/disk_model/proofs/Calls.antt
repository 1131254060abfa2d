-- What follows from the contracts of a disk's calls, for the crates above: one call after another.
use Rattle.std.proofs.Common.{◌≡◌, ◌⊎◌, ⊎_elim, inl, inr, ℕ, ◌+◌, ◌-◌, ◌<◌, ◌≤◌, Option, Some, None, List, Result, Ok, Err, refl, sym, ◌∙◌, ap, subst, arith}
use Rattle.std.specs.Prelude.{option_map}
use Rattle.std.proofs.lemmas.Option.{same_Some, none-some}
use Rattle.disk_model.specs.Disk.{DiskState, Content, Counts, IsLawful, SameKind, KeepsRest, IsWritten, IsSynced, Leaves, Passed, PassedAtMost, Rose, CountsCalls, present, put}

-- Images

-- a call that is not made
pub leaves_same : {disk : DiskState} {P : List ℕ → Type 0} → ((c : List ℕ) → disk.may_leave c → P c) → Leaves disk disk P
leaves_same {disk} now = record {
  now = now;
  later = omega arith;
  since = λ t c le left. inl left;
  kept = λ t c le left. left;
}

pub leaves_weaker : {old new : DiskState} {P Q : List ℕ → Type 0} → Leaves old new P → ((c : List ℕ) → P c → Q c) → Leaves old new Q
leaves_weaker leaves weaker = record {
  now = λ c left. weaker c (leaves.now c left);
  later = leaves.later;
  since = λ t c le left. ⊎_elim (λ was. inl was) (λ is. inr (weaker c is)) (leaves.since t c le left);
  kept = leaves.kept;
}

-- one call after another
pub leaves_then : {first second third : DiskState} {P : List ℕ → Type 0} → Leaves first second P → Leaves second third P → Leaves first third P
leaves_then one two = record {
  now = two.now;
  later = omega (arith, one.later, two.later);
  since = λ t c le left. ⊎_elim (one.since t c le) (λ is. inr is) (two.since t c (omega (arith, one.later)) left);
  kept = λ t c le left. two.kept t c (omega (arith, one.later)) (one.kept t c le left);
}

-- what holds of the images before the call and after it holds of those at each moment since its start
pub leaves_always : {old new : DiskState} {P : List ℕ → Type 0} → IsLawful old → Leaves old new P → ((c : List ℕ) → old.may_leave c → P c) → (c : List ℕ) → new.left_since old.moment c → P c
leaves_always {old} lawful leaves before c left =
    ⊎_elim (λ was. before c (lawful.only_now c was)) (λ is. is) (leaves.since old.moment c (omega arith) left)

-- after a write and a sync that answer Ok each image is the present bytes of before with those that were written
pub written_through : {first second third : DiskState} {at : ℕ} {bytes : List ℕ} → IsLawful first → IsWritten at bytes first second → IsSynced second third → (c : List ℕ) → third.may_leave c → (p : List ℕ) × (present first ≡ Some p) × first.may_leave p × (c ≡ put at bytes p)
written_through {first} {second} {third} {at} {bytes} lawful written synced c left =
    from (present first) refl (sym (written.present) ∙ sym (ap (option_map (λ (k : Content). k.present)) synced.content) ∙ synced.settled c left)
  where
    from : (before : Option (List ℕ)) → present first ≡ before → option_map (put at bytes) before ≡ Some c → (p : List ℕ) × (present first ≡ Some p) × first.may_leave p × (c ≡ put at bytes p)
    from None is put_is = absurd (none-some c put_is)
    from (Some p) is put_is = (p, is, lawful.present_may_stay p is, sym (same_Some _ _ put_is))

-- What stays

pub same_kind_then : {first second third : DiskState} → SameKind first second → SameKind second third → SameKind first third
same_kind_then one two = record {
  size = two.size ∙ one.size;
  tells_images = two.tells_images ∙ one.tells_images;
  tells_moments = two.tells_moments ∙ one.tells_moments;
}

pub keeps_rest_then : {first second third : DiskState} → KeepsRest first second → KeepsRest second third → KeepsRest first third
keeps_rest_then one two = record {
  kind = same_kind_then one.kind two.kind;
  last_pick = two.last_pick ∙ one.last_pick;
}

-- Counts

pub passed_then : (n m : ℕ) (first second third : Option ℕ) → Passed n first second → Passed m second third → Passed (n + m) first third
passed_then n m None None None one two = tt
passed_then n m (Some a) (Some b) (Some c) one two = omega arith
passed_then n m None (Some b) third one two = absurd one
passed_then n m (Some a) None third one two = absurd one
passed_then n m None None (Some c) one two = absurd two
passed_then n m (Some a) (Some b) None one two = absurd two

-- n passed, and then at most m
pub passed_at_most_then : (n m : ℕ) (first second third : Option ℕ) → Passed n first second → PassedAtMost m second third → PassedAtMost (n + m) first third
passed_at_most_then n m None None None one two = tt
passed_at_most_then n m (Some a) (Some b) (Some c) one two = (omega (arith, two.0), omega (arith, two.1))
passed_at_most_then n m None (Some b) third one two = absurd one
passed_at_most_then n m (Some a) None third one two = absurd one
passed_at_most_then n m None None (Some c) one two = absurd two
passed_at_most_then n m (Some a) (Some b) None one two = absurd two

pub passed_at_most_more : (n m : ℕ) (first second : Option ℕ) → n ≤ m → PassedAtMost n first second → PassedAtMost m first second
passed_at_most_more n m None None le most = tt
passed_at_most_more n m (Some a) (Some b) le most = (most.0, omega (arith, most.1))
passed_at_most_more n m None (Some b) le most = absurd most
passed_at_most_more n m (Some a) None le most = absurd most

-- a write, sync or read that fails passes nothing
pub none_passed : (first second : Option ℕ) → PassedAtMost 0 first second → second ≡ first
none_passed None None most = refl
none_passed (Some a) (Some b) most = ap (λ (n : ℕ). Some n) (omega (arith, most.0, most.1))
none_passed None (Some b) most = absurd most
none_passed (Some a) None most = absurd most

-- Calls that pass n, and then calls of which the last is a write or a sync, or any calls after reads alone.
pub counts_then : {T E T' E' : Type 0} (n m : ℕ) {x : T} {result : Result T' E'} {first second third : Counts} → (n ≡ 0) ⊎ (0 < m) → CountsCalls {E = E} n (Ok x) first second → CountsCalls m result second third → CountsCalls (n + m) result first third
counts_then n m {result = Ok y} {first} {second} {third} last one two = record {
  faults = omega (arith, one.faults, two.faults);
  own = omega (arith, one.own, two.own);
  passed = passed_then n m first.left second.left third.left one.passed two.passed;
  running = two.running ∙ one.running;
  stuck = tt;
  cause = tt;
}
counts_then n m {result = Err e} {first} {second} {third} last one two = record {
  faults = omega (arith, one.faults, two.faults);
  own = omega (arith, one.own, two.own);
  passed = tt;
  running = tt;
  stuck = passed_at_most_more (n + (m - 1)) (n + m - 1) first.left third.left (⊎_elim (λ none. omega arith) (λ some. omega arith) last) (passed_at_most_then n (m - 1) first.left second.left third.left one.passed two.stuck);
  cause = record {
    fault = omega (arith, two.cause.fault, one.faults);
    cause = ⊎_elim (λ rose. inl (omega (arith, rose, one.own))) (λ stopped. inr stopped) two.cause.cause;
  };
}

-- A failure among the first n of m calls is one of the m calls.
pub counts_err : {T E T' E' : Type 0} (n m : ℕ) {e : E} {e' : E'} {first second : Counts} → n ≤ m → CountsCalls {T = T} n (Err e) first second → CountsCalls {T = T'} m (Err e') first second
counts_err n m {first = first} {second} le counts = record {
  faults = counts.faults;
  own = counts.own;
  passed = tt;
  running = tt;
  stuck = passed_at_most_more (n - 1) (m - 1) first.left second.left (omega arith) counts.stuck;
  cause = counts.cause;
}

-- Why n calls failed: the own count rose, or the stop was to let fewer pass.
pub cause_of : {T E : Type 0} (n : ℕ) {e : E} {first second : Counts} → 0 < n → CountsCalls {T = T} n (Err e) first second → Rose first.own second.own ⊎ ((k : ℕ) × (first.left ≡ Some k) × (k < n))
cause_of n {first = first} {second} some counts =
    ⊎_elim (λ rose. inl rose) (λ stopped. inr (from first.left refl (subst (PassedAtMost (n - 1) first.left) stopped counts.stuck))) counts.cause.cause
  where
    from : (left : Option ℕ) → first.left ≡ left → PassedAtMost (n - 1) left (Some 0) → (k : ℕ) × (first.left ≡ Some k) × (k < n)
    from None is most = absurd most
    from (Some k) is most = (k, is, omega (arith, most.1))
