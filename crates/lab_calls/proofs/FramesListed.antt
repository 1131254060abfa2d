-- What the status of a call that lists frames says.
use Rattle.std.proofs.Common.{◌≡◌, ◌⊎◌, inl, inr, ◌<◌, ◌≤◌, ℕ, Bool, true, false, List, length, Some, refl, subst, ◌∙◌, arith}
use Rattle.std.proofs.lemmas.Bool.Decides.{nat_tests}
use Rattle.std.specs.Io.KnownBytes.{Appends}
use Rattle.seata_types.specs.declared.limits.TheConstants.{INPUT_BYTES}
use Rattle.lab_calls.specs.FrameLines.{frames_text}
use Rattle.lab_calls.specs.Answers.{IsFramesAnswer, ListsFrames, IsOver, TellsFrames, is_among, is_short, over_text, frames_answer, frames_status, frames_statuses, unread}
use Rattle.lab_calls.specs.Streams.{Devices, GainsFront, IsCalm}
use Rattle.lab_calls.proofs.Concluded.{none_unread, AreTexts, Writes, Concludes, calm}

-- an input is short enough, and its text is the lines, or it is too long
pub record IsListed (input : List ℕ) : Type 0 where
  pub short : length input ≤ INPUT_BYTES
  pub text : frames_answer input ≡ frames_text input
  pub status : frames_status input ≡ 0

pub record IsLong (input : List ℕ) : Type 0 where
  pub long : INPUT_BYTES < length input
  pub text : frames_answer input ≡ over_text
  pub status : frames_status input ≡ 3

case_of : (input : List ℕ) → IsListed input ⊎ IsLong input
case_of input = by (is_short input) refl
  where
    by : (b : Bool) → is_short input ≡ b → IsListed input ⊎ IsLong input
    by true e = inl (record { short = grind (arith, nat_tests); text = rw e refl; status = rw e refl })
    by false e = inr (record { long = grind (arith, nat_tests); text = rw e refl; status = rw e refl })

-- both a short and a long one
not_both : {P : Type 0} (input : List ℕ) → length input ≤ INPUT_BYTES → INPUT_BYTES < length input → P
not_both input short long = absurd (omega (arith, short, long))

pub short_case : (input : List ℕ) → length input ≤ INPUT_BYTES → (frames_answer input ≡ frames_text input) × (frames_status input ≡ 0)
short_case input few = by (case_of input)
  where
    by : IsListed input ⊎ IsLong input → (frames_answer input ≡ frames_text input) × (frames_status input ≡ 0)
    by (inl h) = (h.text, h.status)
    by (inr h) = not_both input few h.long

pub long_case : (input : List ℕ) → INPUT_BYTES < length input → (frames_answer input ≡ over_text) × (frames_status input ≡ 3)
long_case input many = by (case_of input)
  where
    by : IsListed input ⊎ IsLong input → (frames_answer input ≡ over_text) × (frames_status input ≡ 3)
    by (inl h) = not_both input h.short many
    by (inr h) = (h.text, h.status)

module _ (result : ℕ) (old new : Devices) (t : Concludes INPUT_BYTES IsFramesAnswer frames_statuses result old new) where
  listed_says : result ≡ 0 → (input : List ℕ) → old.source.left ≡ Some input → ListsFrames input old new
  listed_says zero input told = by (case_of input)
    where
      w : Writes INPUT_BYTES IsFramesAnswer result input old new
      w = t.written (rw zero refl) input told

      by : IsListed input ⊎ IsLong input → ListsFrames input old new
      by (inl h) = record {
        read_to_end = none_unread INPUT_BYTES input w.read h.short;
        short = h.short;
        printed = subst (λ x. Appends old.sink.written new.sink.written x) (w.is_answer.text_is ∙ h.text) w.printed;
      }
      by (inr h) = absurd (omega (arith, zero, w.is_answer.status_is, h.status))

  over_says : result ≡ 3 → (input : List ℕ) → old.source.left ≡ Some input → IsOver input old new
  over_says three input told = by (case_of input)
    where
      w : Writes INPUT_BYTES IsFramesAnswer result input old new
      w = t.written (rw three refl) input told

      by : IsListed input ⊎ IsLong input → IsOver input old new
      by (inl h) = absurd (omega (arith, three, w.is_answer.status_is, h.status))
      by (inr h) = record { read_to_end = w.read; long = h.long; printed = subst (λ x. Appends old.sink.written new.sink.written x) (w.is_answer.text_is ∙ h.text) w.printed }

  cut_says : result ≡ 5 → (input : List ℕ) → old.source.left ≡ Some input → (new.source.left ≡ Some (unread input)) × GainsFront old.sink.written new.sink.written (frames_answer input)
  cut_says five input told =
      let w = t.front five input told in
      (w.read, subst (λ x. GainsFront old.sink.written new.sink.written x) w.is_answer.text_is w.printed)

  complete_says : (input : List ℕ) → old.source.left ≡ Some input → IsCalm old new → (result ≡ frames_status input) ⊎ (result ≡ 6)
  complete_says input told still = by (calm INPUT_BYTES IsFramesAnswer frames_statuses result old new t still)
    where
      by : (is_among frames_statuses result ≡ true) ⊎ (result ≡ 6) → (result ≡ frames_status input) ⊎ (result ≡ 6)
      by (inl known) = inl (t.written known input told).is_answer.status_is
      by (inr h) = inr h

  pub tells_frames : TellsFrames result old new
  tells_frames = record { listed = listed_says; over = over_says; cut_short = cut_says; complete = complete_says }

-- no failure of a device, and no want of memory, is among them
pub frames_texts : AreTexts frames_statuses
frames_texts = record { not_four = refl; not_five = refl; not_six = refl }
