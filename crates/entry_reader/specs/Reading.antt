-- What a line is read as.
use Rattle.std.specs.Prelude.{◌≡◌, ◌≢◌, ℕ, true, List, drop}
use Rattle.history_text.specs.Lines.{entry_text}
use Rattle.history_text.specs.declared.entries.Entry.{Entry}
use Rattle.history_text.specs.declared.entries.Names.{Names}
use Rattle.entry_reader.specs.declared.pieces.Separator.TheVariants as at
use Rattle.entry_reader.specs.Cuts.{pieces, piece}
use Rattle.entry_reader.specs.Parts.{number, number_32, place_of}
use Rattle.entry_reader.specs.Causes.{cause_of}
use Rattle.entry_reader.specs.Acts.{act_of}
use Rattle.entry_reader.specs.Notes.{sent_of, resource_at}
use Rattle.entry_reader.specs.Types.{IsOfTypes}
use Rattle.entry_reader.specs.Writable.{AreNodeNames, is_entry}

-- an entry by the pieces of its three parts; a space stands before the act and before the message
unfoldable pub entry_by : Names → List (List ℕ) → List (List ℕ) → List (List ℕ) → Entry
entry_by names origin act sent = record {
  stamp = number_32 (piece origin 0);
  place = place_of names (piece origin 1);
  now = number (piece origin 2);
  cause = cause_of names (drop 3 origin);
  act = act_of names (drop 1 act);
  sent = sent_of names (resource_at (place_of names (piece origin 1))) (drop 1 sent);
}

-- an entry by its three parts
unfoldable pub entry_in : Names → List (List ℕ) → Entry
entry_in names parts = entry_by names (pieces at.Space (piece parts 0)) (pieces at.Space (piece parts 1)) (pieces at.Space (piece parts 2))

-- the entry that a line looks like
unfoldable pub entry_of : Names → List ℕ → Entry
entry_of names line = entry_in names (pieces at.Bar line)

-- the line is the printed line of the entry
pub record IsLineOf (names : Names) (e : Entry) (line : List ℕ) : Type 0 where
  pub text : entry_text names e ≡ line
  pub fits : is_entry names e ≡ true

-- where the names are those of nodes, no entry that can be printed with them has this line
abbrev pub IsNoLine : Names → List ℕ → Type 0
IsNoLine names line = AreNodeNames names → (e : Entry) → IsOfTypes e → is_entry names e ≡ true → entry_text names e ≢ line

-- each entry that is printed is what its line looks like
abbrev pub PrintedLinesReadBack : Type 0
PrintedLinesReadBack = (names : Names) (e : Entry) → AreNodeNames names → IsOfTypes e → is_entry names e ≡ true → entry_of names (entry_text names e) ≡ e
