-- What the status of a call says of the whole input.
use Rattle.std.proofs.Common.{◌≡◌, ◌≢◌, ◌⊎◌, inl, inr, ◌||◌, ◌+◌, ◌≤◌, ℕ, nat_eq, nat_le, Bool, true, false, List, [], ◌∷◌, ◌++◌, length, take, drop, Option, Some, None, Result, Ok, Err, refl, ap, sym, ◌∙◌, arith, string_bytes}
use Rattle.std.proofs.Math.Seq.{take_all, take-append_seam, drop-append_seam}
use Rattle.std.proofs.lemmas.Bool.Decides.{nat_tests}
use Rattle.std.proofs.lemmas.List.{append-nil, length-take, drop_all}
use Rattle.std.proofs.lemmas.Option.{same_Some}
use Rattle.std.specs.Io.KnownBytes.{Appends, Consumes, IsAtEnd}
use Rattle.disk_model.specs.Disk.{Rose}
use Rattle.lab_calls.specs.declared.answers.Answer.{Answer}
use Rattle.lab_calls.specs.Answers.{HasRead, Answers, TellsFaults, is_among, unread_past, with_failures}
use Rattle.lab_calls.specs.Steps.{AnswersInput, WritesAnswer, WritesText}
use Rattle.lab_calls.specs.Streams.{GainsFront, Devices, IsCalm}

-- ---- the bytes that were read, and the input

none_some : {A : Type 0} {a : A} → None ≡ Some a → ⊥
none_some e = cc

-- the bytes of a list's front and the others
halves : {A : Type 0} (xs ys : List A) → (take (length xs) (xs ++ ys) ≡ xs) × (drop (length xs) (xs ++ ys) ≡ ys)
halves xs ys = (take-append_seam xs ys, drop-append_seam xs ys)

pub input_of : (most : ℕ) (input bytes : List ℕ) (old left : Option (List ℕ)) → Consumes old left bytes → length bytes ≤ most + 1
    → (length bytes ≤ most → IsAtEnd left) → old ≡ Some input → HasRead most input bytes left
input_of most input bytes None left taken limit ends is = absurd (none_some is)
input_of most input bytes (Some whole) None taken limit ends is = absurd taken
input_of most input bytes (Some whole) (Some rest) taken limit ends is = by (nat_le (length bytes) most) refl
  where
    parts : input ≡ bytes ++ rest
    parts = sym (same_Some _ _ is) ∙ taken

    by : (b : Bool) → nat_le (length bytes) most ≡ b → HasRead most input bytes (Some rest)
    by true e =
        let short : length bytes ≤ most = grind (arith, nat_tests) in
        let whole : input ≡ bytes = parts ∙ ap (λ r. bytes ++ r) (ends short) ∙ append-nil bytes in
        record {
          bytes_are = sym (ap (take (most + 1)) whole ∙ take_all (most + 1) bytes (omega (arith, short)));
          left_are = ap (λ r. Some r) (ends short ∙ sym (ap (drop (most + 1)) whole ∙ drop_all (most + 1) bytes (omega (arith, short))));
        }
    by false e =
        let size : length bytes ≡ most + 1 = grind (arith, nat_tests) in
        record {
          bytes_are = sym (ap (take (most + 1)) parts ∙ ap (λ n. take n (bytes ++ rest)) (sym size) ∙ (halves bytes rest).0);
          left_are = ap (λ r. Some r) (sym (ap (drop (most + 1)) parts ∙ ap (λ n. drop n (bytes ++ rest)) (sym size) ∙ (halves bytes rest).1));
        }

-- few bytes were read: they are the input
pub all_read : {most : ℕ} {input bytes : List ℕ} {left : Option (List ℕ)} → HasRead most input bytes left → length bytes ≤ most → input ≡ bytes
all_read {most} {input} {bytes} t short = by (nat_le (length input) (most + 1)) refl
  where
    by : (b : Bool) → nat_le (length input) (most + 1) ≡ b → input ≡ bytes
    by true e = sym (t.bytes_are ∙ take_all (most + 1) input (grind (arith, nat_tests)))
    by false e = absurd (let size = ap length t.bytes_are in grind (arith, nat_tests, size, length-take (most + 1) input))

pub longer : {most : ℕ} {input bytes : List ℕ} {left : Option (List ℕ)} → HasRead most input bytes left → length bytes ≤ length input
longer {most} {input} {bytes} t = let size = ap length t.bytes_are in grind (arith, nat_tests, size, length-take (most + 1) input)

-- nothing is left of an input that isn't too long
pub none_unread : (most : ℕ) (input : List ℕ) {left : Option (List ℕ)} → left ≡ Some (unread_past most input) → length input ≤ most → left ≡ Some []
none_unread most input is short = is ∙ ap (λ r. Some r) (drop_all (most + 1) input (omega (arith, short)))

-- ---- the statuses

-- the text of the input's answer was written
pub record Writes (most : ℕ) (IsAnswer : List ℕ → List ℕ → ℕ → Type 0) (status : ℕ) (input : List ℕ) (old new : Devices) : Type 0 where
  pub text : List ℕ
  pub is_answer : IsAnswer input text status
  pub printed : Appends old.sink.written new.sink.written text
  pub read : new.source.left ≡ Some (unread_past most input)

-- the front of the text of the input's answer was written
pub record WritesFront (most : ℕ) (IsAnswer : List ℕ → List ℕ → ℕ → Type 0) (input : List ℕ) (old new : Devices) : Type 0 where
  pub text : List ℕ
  pub status : ℕ
  pub is_answer : IsAnswer input text status
  pub printed : GainsFront old.sink.written new.sink.written text
  pub read : new.source.left ≡ Some (unread_past most input)

-- what the status says: those of `texts` come with a text
pub record Concludes (most : ℕ) (IsAnswer : List ℕ → List ℕ → ℕ → Type 0) (texts : List ℕ) (result : ℕ) (old new : Devices) : Type 0 where
  pub faults : TellsFaults (with_failures texts) result old new
  pub written : is_among texts result ≡ true → (input : List ℕ) → old.source.left ≡ Some input → Writes most IsAnswer result input old new
  pub front : result ≡ 5 → (input : List ℕ) → old.source.left ≡ Some input → WritesFront most IsAnswer input old new

-- no failure comes with a text
pub record AreTexts (texts : List ℕ) : Type 0 where
  pub not_four : is_among texts 4 ≡ false
  pub not_five : is_among texts 5 ≡ false
  pub not_six : is_among texts 6 ≡ false

-- ---- lists of statuses

pub false_true : {P : Type 0} → false ≡ true → P
false_true e = absurd (let no : false ≡ true = e in cc)

or_left : (a b : Bool) → a ≡ true → (a || b) ≡ true
or_left true b e = refl
or_left false b e = false_true e

or_right : (a b : Bool) → b ≡ true → (a || b) ≡ true
or_right true b e = refl
or_right false b e = e

or_either : {P : Type 0} (a b : Bool) → (a ≡ true → P) → (b ≡ true → P) → (a || b) ≡ true → P
or_either true b one two e = one refl
or_either false b one two e = two e

among_front : (xs ys : List ℕ) (n : ℕ) → is_among xs n ≡ true → is_among (xs ++ ys) n ≡ true
among_front [] ys n e = false_true e
among_front (x ∷ xs) ys n e = or_either (nat_eq n x) (is_among xs n) (or_left (nat_eq n x) (is_among (xs ++ ys) n)) (λ k. or_right (nat_eq n x) (is_among (xs ++ ys) n) (among_front xs ys n k)) e

among_back : (xs ys : List ℕ) (n : ℕ) → is_among ys n ≡ true → is_among (xs ++ ys) n ≡ true
among_back [] ys n e = e
among_back (x ∷ xs) ys n e = or_right (nat_eq n x) (is_among (xs ++ ys) n) (among_back xs ys n e)

among_either : {P : Type 0} (xs ys : List ℕ) (n : ℕ) → (is_among xs n ≡ true → P) → (is_among ys n ≡ true → P) → is_among (xs ++ ys) n ≡ true → P
among_either [] ys n one two e = two e
among_either (x ∷ xs) ys n one two e =
    or_either (nat_eq n x) (is_among (xs ++ ys) n) (λ k. one (or_left (nat_eq n x) (is_among xs n) k)) (among_either xs ys n (λ k. one (or_right (nat_eq n x) (is_among xs n) k)) two) e

-- a status is not one of these
never_among : {P : Type 0} (texts : List ℕ) (n k : ℕ) → n ≡ k → is_among texts k ≡ false → is_among texts n ≡ true → P
never_among texts n k same none e = false_true (sym none ∙ ap (is_among texts) (sym same) ∙ e)

-- a text was to be written, with this status
module _ (most : ℕ) (IsAnswer : List ℕ → List ℕ → ℕ → Type 0) (texts : List ℕ) (are : AreTexts texts) (result : ℕ) (old new : Devices) (text : List ℕ) (status : ℕ)
    (answer : Answers most IsAnswer texts old.source.left new.source.left text status)
    (wrote : WritesText text status result old.sink new.sink) where
  not_five : status ≢ 5
  not_five five = never_among texts status 5 five are.not_five answer.is_known

  -- the sink failed, or the status is that of the text
  result_is : (result ≡ 5) ⊎ (is_among texts result ≡ true)
  result_is = by (nat_eq result 5) refl
    where
      by : (b : Bool) → nat_eq result 5 ≡ b → (result ≡ 5) ⊎ (is_among texts result ≡ true)
      by true e = inl (grind (arith, nat_tests))
      by false e = let other : result ≢ 5 = grind (arith, nat_tests) in inr (ap (is_among texts) (wrote.whole other).0 ∙ answer.is_known)

  among : is_among (with_failures texts) result ≡ true
  among = by result_is
    where
      by : (result ≡ 5) ⊎ (is_among texts result ≡ true) → is_among (with_failures texts) result ≡ true
      by (inl five) = among_back texts (4 ∷ 5 ∷ 6 ∷ []) result (rw five refl)
      by (inr known) = among_front texts (4 ∷ 5 ∷ 6 ∷ []) result known

  not_four : {P : Type 0} → result ≡ 4 → P
  not_four {P} four = by result_is
    where
      by : (result ≡ 5) ⊎ (is_among texts result ≡ true) → P
      by (inl five) = absurd (omega (arith, four, five))
      by (inr known) = never_among texts result 4 four are.not_four known

  not_six : {P : Type 0} → result ≡ 6 → P
  not_six {P} six = by result_is
    where
      by : (result ≡ 5) ⊎ (is_among texts result ≡ true) → P
      by (inl five) = absurd (omega (arith, six, five))
      by (inr known) = never_among texts result 6 six are.not_six known

  pub concluded_text : Concludes most IsAnswer texts result old new
  concluded_text = record {
    faults = record {
      statuses = among;
      source_failed = λ four. not_four four;
      sink_failed = λ five. (wrote.front five not_five).0;
      no_memory = λ six. not_six six;
    };
    written = λ known input told.
        let w = wrote.whole (λ five. never_among texts result 5 five are.not_five known) in
        record { text = text; is_answer = rw w.0 (answer.is_answer input told); printed = w.1; read = answer.read input told };
    front = λ five input told. record { text = text; status = status; is_answer = answer.is_answer input told; printed = (wrote.front five not_five).1; read = answer.read input told };
  }

-- there was no text to write
concluded_nothing : (most : ℕ) (IsAnswer : List ℕ → List ℕ → ℕ → Type 0) (texts : List ℕ) → AreTexts texts → (result : ℕ) (old new : Devices) → (result ≡ 4) ⊎ (result ≡ 6)
    → (result ≡ 4 → Rose old.source.faults new.source.faults) → new.sink.written ≡ old.sink.written → Concludes most IsAnswer texts result old new
concluded_nothing most IsAnswer texts are result old new known rose same = record {
  faults = record {
    statuses = among_back texts (4 ∷ 5 ∷ 6 ∷ []) result (among known);
    source_failed = λ four. (rose four, same);
    sink_failed = λ five. absurd (not_five known five);
    no_memory = λ _. same;
  };
  written = λ other. no_text known other;
  front = λ five. absurd (not_five known five);
}
  where
    among : (result ≡ 4) ⊎ (result ≡ 6) → is_among (4 ∷ 5 ∷ 6 ∷ []) result ≡ true
    among (inl h) = rw h refl
    among (inr h) = rw h refl

    not_five : (result ≡ 4) ⊎ (result ≡ 6) → result ≢ 5
    not_five (inl h) = omega (arith, h)
    not_five (inr h) = omega (arith, h)

    no_text : {P : Type 0} → (result ≡ 4) ⊎ (result ≡ 6) → is_among texts result ≡ true → P
    no_text (inl h) k = never_among texts result 4 h are.not_four k
    no_text (inr h) k = never_among texts result 6 h are.not_six k

pub concluded : (most : ℕ) (IsAnswer : List ℕ → List ℕ → ℕ → Type 0) (texts : List ℕ) → AreTexts texts → (result : ℕ) (old new : Devices) (answer : Result Answer ℕ)
    → AnswersInput most IsAnswer texts old.source new.source answer → WritesAnswer answer result old.sink new.sink → Concludes most IsAnswer texts result old new
concluded most IsAnswer texts are result old new (Ok a) read wrote = concluded_text most IsAnswer texts are result old new (string_bytes a.text) a.status read.answer wrote
concluded most IsAnswer texts are result old new (Err status) read wrote =
    concluded_nothing most IsAnswer texts are result old new (rw wrote.0 read.statuses) (λ four. read.failed (sym wrote.0 ∙ four)) wrote.1

-- where no device failed, the text was written or memory was refused
pub calm : (most : ℕ) (IsAnswer : List ℕ → List ℕ → ℕ → Type 0) (texts : List ℕ) (result : ℕ) (old new : Devices) → Concludes most IsAnswer texts result old new → IsCalm old new
    → (is_among texts result ≡ true) ⊎ (result ≡ 6)
calm most IsAnswer texts result old new t still = among_either texts (4 ∷ 5 ∷ 6 ∷ []) result (λ known. inl known) (by (nat_eq result 4) (nat_eq result 5) (nat_eq result 6) refl refl refl) t.faults.statuses
  where
    by : (c d e : Bool) → nat_eq result 4 ≡ c → nat_eq result 5 ≡ d → nat_eq result 6 ≡ e → is_among (4 ∷ 5 ∷ 6 ∷ []) result ≡ true → (is_among texts result ≡ true) ⊎ (result ≡ 6)
    by true d e r s u among = absurd (still.source (t.faults.source_failed (grind (arith, nat_tests))).0)
    by false true e r s u among = absurd (still.sink (t.faults.sink_failed (grind (arith, nat_tests))))
    by false false true r s u among = inr (grind (arith, nat_tests))
    by false false false r s u among = absurd (none (rw (r, s, u) at among))
      where
        none : false ≡ true → ⊥
        none e = cc
