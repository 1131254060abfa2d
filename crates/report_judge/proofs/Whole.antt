-- A judgement of the bytes that were read of an input, one byte past the most that is judged, is one of the input.
use Rattle.std.proofs.Common.{◌≡◌, ◌≤◌, ◌<◌, ◌+◌, ℕ, List, length, min, take, subst, arith}
use Rattle.std.proofs.lemmas.List.{length-take, take_all}
use Rattle.seata_types.specs.declared.limits.TheConstants.{HISTORY_BYTES}
use Rattle.report_judge.specs.Judging.{Judges}
use Rattle.report_judge.specs.declared.judgements.Judgement.{Judgement}
use Rattle.report_judge.specs.declared.judgements.Judgement.TheVariants as judgement

-- of more bytes than are judged one is read that shows it
short_whole : (input : List ℕ) → length (take (HISTORY_BYTES + 1) input) ≤ HISTORY_BYTES → length input ≤ HISTORY_BYTES
short_whole input short =
    let read : length (take (HISTORY_BYTES + 1) input) ≡ min (HISTORY_BYTES + 1) (length input) = length-take (HISTORY_BYTES + 1) input in
    omega (arith, read, short)

long_whole : (input : List ℕ) → HISTORY_BYTES < length (take (HISTORY_BYTES + 1) input) → HISTORY_BYTES < length input
long_whole input long =
    let read : length (take (HISTORY_BYTES + 1) input) ≡ min (HISTORY_BYTES + 1) (length input) = length-take (HISTORY_BYTES + 1) input in
    omega (arith, read, long)

read_whole : (input : List ℕ) → length (take (HISTORY_BYTES + 1) input) ≤ HISTORY_BYTES → take (HISTORY_BYTES + 1) input ≡ input
read_whole input short = let few = short_whole input short in take_all (HISTORY_BYTES + 1) input (omega (arith, few))

module _ (input : List ℕ) where
  of_whole : (found : Judgement) → length (take (HISTORY_BYTES + 1) input) ≤ HISTORY_BYTES → Judges (take (HISTORY_BYTES + 1) input) found → Judges input found
  of_whole found short j = subst (λ bytes. Judges bytes found) (read_whole input short) j

  pub judges_whole : (found : Judgement) → Judges (take (HISTORY_BYTES + 1) input) found → Judges input found
  unfolding Judges
  judges_whole judgement.TooLong j = long_whole input j
  judges_whole (judgement.NoScenario error) j = of_whole (judgement.NoScenario error) j.0 j
  judges_whole (judgement.Unreadable line) j = of_whole (judgement.Unreadable line) j.short j
  judges_whole (judgement.Illegal number rule) j = of_whole (judgement.Illegal number rule) j.short j
  judges_whole judgement.IllegalReport j = of_whole judgement.IllegalReport j.short j
  judges_whole judgement.Legal j = of_whole judgement.Legal j.short j
