-- Records taken in one by one.
use Rattle.std.proofs.Common.{◌≡◌, ℕ, ◌+◌, ◌*◌, ◌^◌, ◌<◌, ◌≤◌, Bool, true, false, Option, Some, None, Result, Ok, Err, List, [], ◌∷◌, ◌++◌, length, refl, sym, ◌∙◌, ap, subst, arith}
use Rattle.std.specs.Prelude.{if◌then◌else◌, min, ◌-◌, All, IfOk}
use Rattle.memory_store.specs.declared.errors.ReadError.{ReadError}
use Rattle.std.proofs.lemmas.Bool.Decides.{nat_tests}
use Rattle.disk_journal.specs.declared.layout.TheConstants.{RECORD_HEAD_BYTES}
use Rattle.disk_journal.specs.Reading.{record_length, row_length}
use Rattle.journal_checkpoint.specs.declared.layout.TheConstants.{SNAPSHOT_HEAD_BYTES}
use Rattle.journal_checkpoint.specs.declared.types.Found.{Found}
use Rattle.journal_checkpoint.specs.Images.{with_record}
use Rattle.seata_types.specs.declared.limits.TheConstants.{ACTS}
use Rattle.memory_store.specs.Meanings.{Meaning, IsLawful, Reads}
use Rattle.memory_store.specs.Settling.{settled}
use Rattle.memory_store.specs.Holdings.{may_follow, after_one, and_then, replayed, start_of, records_at, from_start, held_in, place_of}

-- each record takes five bytes and its body
pub rows_are_long : (bodies : List (List ℕ)) → 5 * length bodies ≤ row_length bodies
rows_are_long [] = omega arith
rows_are_long (body ∷ bodies) = omega (arith, rows_are_long bodies)

abbrev pub known_is : {K : Type 0} → K → Result K ℕ
known_is known = Ok known

same_known : {K : Type 0} (a b : K) → known_is a ≡ known_is b → a ≡ b
same_known a b e = cc

module _ {K I : Type 0} (m : Meaning K I) where
  module _ (body : List ℕ) (last next : K) (one : (at : ℕ) → after_one m last at (m.record_of body) ≡ Ok next) where
    -- one record behind others
    pub replayed_more : (known : K) (at : ℕ) (bodies : List (List ℕ)) → replayed m known at bodies ≡ Ok last → replayed m known at (bodies ++ body ∷ []) ≡ Ok next
    replayed_more known at [] is =
        ap (λ r. and_then r known_is) (subst (λ k. after_one m k at (m.record_of body) ≡ known_is next) (sym (same_known known last is)) (one at))
    replayed_more known at (b ∷ bodies) is = by (after_one m known at (m.record_of b)) (λ n held. replayed_more n (at + record_length b) bodies held) is
      where
        by : (r : Result K ℕ) → ((n : K) → replayed m n (at + record_length b) bodies ≡ Ok last → replayed m n (at + record_length b) (bodies ++ body ∷ []) ≡ Ok next)
            → and_then r (λ n. replayed m n (at + record_length b) bodies) ≡ Ok last → and_then r (λ n. replayed m n (at + record_length b) (bodies ++ body ∷ [])) ≡ Ok next
        by (Ok n) rest held = rest n held
        by (Err x) rest held = absurd (cc)

    started_more : (at : ℕ) (bodies : List (List ℕ)) (start : Option K) → from_start m at bodies start ≡ Ok last → from_start m at (bodies ++ body ∷ []) start ≡ Ok next
    started_more at bodies None is = absurd (cc)
    started_more at bodies (Some known) is = replayed_more known at bodies is

  module _ (known : K) (body : List ℕ) (item : I) (is : m.record_of body ≡ Some item) (follows : may_follow m known item ≡ true) where
    pub taken_one : (at : ℕ) → after_one m known at (m.record_of body) ≡ Ok (m.after item known)
    taken_one at = ap (after_one m known at) is ∙ ap (λ (b : Bool). if b then known_is (m.after item known) else Err at) follows

    -- what two disks hold with one record more
    pub held_more : (found : Found) → held_in m found ≡ Ok known → held_in m (with_record found body) ≡ Ok (m.after item known)
    held_more found held = started_more body known (m.after item known) taken_one (records_at found.snapshot) found.records (start_of m found.snapshot) held

  pub may_follow_now : (known : K) (item : I) → m.acts known + 1 < 2 ^ 32 → m.may_come known item ≡ true → may_follow m known item ≡ true
  may_follow_now known item room may = grind (arith, nat_tests)

  -- ---- how many acts they make

  module _ (lawful : IsLawful m) where
    counted_one : (known next : K) (at : ℕ) (o : Option I) → after_one m known at o ≡ Ok next → m.acts next ≡ m.acts known + 1
    counted_one known next at None is = absurd (cc)
    counted_one known next at (Some item) is = by (may_follow m known item) refl is
      where
        by : (b : Bool) → may_follow m known item ≡ b → (if b then known_is (m.after item known) else Err at) ≡ Ok next → m.acts next ≡ m.acts known + 1
        by true follows took =
            let may : m.may_come known item ≡ true = grind (arith, nat_tests) in
            ap m.acts (sym (same_known _ _ took)) ∙ lawful.one_more known item may
        by false follows took = absurd (cc)

    counted : (known last : K) (at : ℕ) (bodies : List (List ℕ)) → replayed m known at bodies ≡ Ok last → m.acts last ≡ m.acts known + length bodies
    counted known last at [] is = omega (arith, ap m.acts (same_known known last is))
    counted known last at (b ∷ bodies) is = by (after_one m known at (m.record_of b)) refl (λ n held. counted n last (at + record_length b) bodies held) is
      where
        by : (r : Result K ℕ) → after_one m known at (m.record_of b) ≡ r → ((n : K) → replayed m n (at + record_length b) bodies ≡ Ok last → m.acts last ≡ m.acts n + length bodies)
            → and_then r (λ n. replayed m n (at + record_length b) bodies) ≡ Ok last → m.acts last ≡ m.acts known + length (b ∷ bodies)
        by (Ok n) took rest held = omega (arith, rest n held, counted_one known n at (m.record_of b) took)
        by (Err x) took rest held = absurd (cc)

    -- fewer than there are in a snapshot and in the records past it
    pub few_acts : (found : Found) (known : K) → held_in m found ≡ Ok known → m.acts known < ACTS + length found.records
    few_acts found known held = by found.snapshot (start_of m found.snapshot) refl held
      where
        few_at_start : (snapshot : Option (List ℕ)) (start : K) → start_of m snapshot ≡ Some start → m.acts start < ACTS
        few_at_start None start is =
            let same : m.empty ≡ start = cc in
            omega (arith, lawful.none, ap m.acts same)
        few_at_start (Some bytes) start is = lawful.few bytes start is

        by : (snapshot : Option (List ℕ)) (start : Option K) → start_of m snapshot ≡ start → from_start m (records_at found.snapshot) found.records start ≡ Ok known → m.acts known < ACTS + length found.records
        by snapshot None is holds = absurd (cc)
        by snapshot (Some start) is holds = omega (arith, counted start known (records_at found.snapshot) found.records holds, few_at_start snapshot start is)

-- ---- the loop over records

-- so many records are taken in, and these are left, at this offset
abbrev pub GoesOver : {K I : Type 0} → Meaning K I → K → ℕ → List (List ℕ) → K → ℕ → List (List ℕ) → Type 0
GoesOver m start from all known at left = from + row_length all < 2 ^ 64 →
    (at + row_length left ≡ from + row_length all) × (replayed m known at left ≡ replayed m start from all)

module _ {K I : Type 0} (m : Meaning K I) (start : K) (from : ℕ) (all : List (List ℕ)) where
  pub goes_over : GoesOver m start from all start from all
  goes_over small = (refl, refl)

  module _ (known : K) (at : ℕ) (body : List ℕ) (rest : List (List ℕ)) (over : GoesOver m start from all known at (body ∷ rest)) where
    pub next_record : (next : K) (behind : ℕ) → ((place : ℕ) → after_one m known place (m.record_of body) ≡ Ok next)
        → behind ≡ min (min (at + RECORD_HEAD_BYTES) (2 ^ 64 - 1) + length body) (2 ^ 64 - 1) → GoesOver m start from all next behind rest
    next_record next behind one place small =
        let was = over small in
        let ends : behind ≡ at + record_length body = omega (arith, was.0) in (
          omega (arith, was.0, ends),
          ap (λ (n : ℕ). replayed m next n rest) ends
              ∙ sym (ap (λ r. and_then r (λ n. replayed m n (at + record_length body) rest)) (one at)) ∙ was.1,
        )

    pub damaged_record : ((place : ℕ) → after_one m known place (m.record_of body) ≡ Err place) → from + row_length all < 2 ^ 64 → replayed m start from all ≡ Err at
    damaged_record one small = sym (over small).1 ∙ ap (λ r. and_then r (λ n. replayed m n (at + record_length body) rest)) (one at)

  pub all_records : (known : K) (at : ℕ) (left : List (List ℕ)) → left ≡ [] → GoesOver m start from all known at left → from + row_length all < 2 ^ 64 → replayed m start from all ≡ Ok known
  all_records known at left none over small = sym (over small).1 ∙ ap (λ (l : List (List ℕ)). replayed m known at l) none

-- ---- what is read is sound

pub sound_of_read : {K I : Type 0} (m : Meaning K I) → IsLawful m → (bytes : List ℕ) → All (λ b. b < 256) bytes → (r : Result K ReadError) → Reads (m.memory_of bytes) r → IfOk r m.IsSound
sound_of_read m lawful bytes fit (Ok known) is = lawful.sound_read bytes known fit is
sound_of_read m lawful bytes fit (Err e) is = tt

-- ---- the first of them

pub nothing_there : (second : Bool) (snapshot : Option (List ℕ)) (records : List (List ℕ)) → snapshot ≡ None → length records ≡ 0 → place_of second snapshot records ≡ None
nothing_there second None [] none empty = refl
nothing_there second None (body ∷ bodies) none empty = absurd (omega arith)
nothing_there second (Some s) records none empty = absurd (cc)

pub record_there : (second : Bool) (snapshot : Option (List ℕ)) (records : List (List ℕ)) → snapshot ≡ None → 0 < length records → place_of second snapshot records ≡ Some (second, SNAPSHOT_HEAD_BYTES)
record_there second None [] none some = absurd (omega arith)
record_there second None (body ∷ bodies) none some = refl
record_there second (Some s) records none some = refl

pub snapshot_there : (second : Bool) (snapshot : Option (List ℕ)) (s : List ℕ) (records : List (List ℕ)) → snapshot ≡ Some s → place_of second snapshot records ≡ Some (second, SNAPSHOT_HEAD_BYTES)
snapshot_there second None s records is = absurd (cc)
snapshot_there second (Some t) s [] is = refl
snapshot_there second (Some t) s (body ∷ bodies) is = refl

-- ---- what two disks hold whose snapshot is read back

pub held_settled : {K I : Type 0} (m : Meaning K I) (found : Found) (known : K) → m.memory_of (m.snapshot_bytes known) ≡ Some known → held_in m (settled m found known) ≡ Ok known
held_settled m found known back = ap (from_start m (records_at (Some (m.snapshot_bytes known))) []) back
