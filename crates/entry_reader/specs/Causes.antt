-- The cause that pieces stand for.
use Rattle.std.specs.Prelude.{ℕ, if◌then◌else◌, List, [], ◌∷◌, Option, Some, None, codes}
use Rattle.history_text.specs.declared.entries.Cause.{Cause}
use Rattle.history_text.specs.declared.entries.Cause.TheVariants as cause
use Rattle.history_text.specs.declared.entries.Names.{Names}
use Rattle.entry_reader.specs.Cuts.{piece}
use Rattle.entry_reader.specs.Parts.{number, number_16, number_32, place_of, word_in}
use Rattle.entry_reader.specs.Words.{chosen, is_empty}

-- a delivery without a sender is that of a message that isn't there
abbrev pub delivery_of : Names → List (List ℕ) → Cause
delivery_of names ps =
    if is_empty (piece ps 2) then cause.Missing (number_32 (piece ps 1)) else cause.Deliver (number_32 (piece ps 1)) (place_of names (piece ps 2))

-- the calls after which a restart's disks stop, where a piece tells them
abbrev pub calls_of : List ℕ → Option ℕ
calls_of text = if is_empty text then None else Some (number_32 text)

-- the cause that pieces stand for, a crash where no other word fits
unfoldable pub cause_of : Names → List (List ℕ) → Cause
cause_of names ps = chosen (word_in (piece ps 0)) (
    (codes "turn", cause.Turn)
    ∷ (codes "deliver", delivery_of names ps)
    ∷ (codes "wait", cause.Wait (number (piece ps 1)))
    ∷ (codes "stop", cause.Stop (number_32 (piece ps 1)))
    ∷ (codes "restart", cause.Restart (number_16 (piece ps 1)) (calls_of (piece ps 2)))
    ∷ (codes "local", cause.Local (number_16 (piece ps 1)))
    ∷ (codes "outside", cause.Outside (number_16 (piece ps 1)))
    ∷ []) cause.Crash
