-- What the lines of a report are read as: entries, or the number of the first that isn't readable.
use Rattle.std.specs.Prelude.{◌≡◌, ◌≢◌, ◌⊎◌, ℕ, ◌+◌, List, [], ◌∷◌, Result, Ok, Err, IsUtf8, codes}
use Rattle.history_text.specs.declared.entries.Entry.{Entry}
use Rattle.history_text.specs.declared.entries.Names.{Names}
use Rattle.entry_reader.specs.Reading.{IsLineOf, entry_of}
use Rattle.report_judge.specs.Lines.{first_line, behind_line, lines}

-- ---- one line

-- the line is the printed line of the entry that it looks like
pub record IsReadable (names : Names) (line : List ℕ) : Type 0 where
  pub text : IsUtf8 line
  pub printed : IsLineOf names (entry_of names line) line

-- ---- all lines

-- one entry more, in front of those that are read behind it
abbrev pub with_entry : Entry → Result (List Entry) ℕ → Result (List Entry) ℕ
with_entry e (Ok es) = Ok (e ∷ es)
with_entry e (Err n) = Err n

-- Lines from number n on are read as entries up to the first line `sessions`. Or the first of them that isn't readable has this
-- number; or the one behind the last line has it, where no line `sessions` follows.
abbrev pub ReadFrom : Names → ℕ → List (List ℕ) → Result (List Entry) ℕ → Type 0
ReadFrom names n [] r = r ≡ Err n
ReadFrom names n (l ∷ ls) r =
    ((l ≡ codes "sessions") × (r ≡ Ok []))
    ⊎ (((l ≢ codes "sessions") × (IsReadable names l → ⊥) × (r ≡ Err n))
    ⊎ ((l ≢ codes "sessions") × IsReadable names l × ((rest : Result (List Entry) ℕ) × ReadFrom names (n + 1) ls rest × (r ≡ with_entry (entry_of names l) rest))))

-- The text behind a scenario's line, so from line 2 on: this is `entries`, and the lines behind it are read so.
abbrev pub Reads : Names → List ℕ → Result (List Entry) ℕ → Type 0
Reads names text r =
    ((first_line text ≡ codes "entries") × ReadFrom names 3 (lines (behind_line text)) r)
    ⊎ ((first_line text ≢ codes "entries") × (r ≡ Err 2))
