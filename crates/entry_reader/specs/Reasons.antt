-- The reasons that pieces stand for.
use Rattle.std.specs.Prelude.{ℕ, List, [], ◌∷◌, drop, codes}
use Rattle.seata_types.specs.declared.errors.StmtError.{StmtError}
use Rattle.seata_types.specs.declared.errors.StmtError.TheVariants as error
use Rattle.seata_types.specs.declared.errors.Why.{Why}
use Rattle.seata_types.specs.declared.errors.Why.TheVariants as why
use Rattle.history_text.specs.declared.entries.Names.{Names}
use Rattle.entry_reader.specs.Cuts.{piece}
use Rattle.entry_reader.specs.Parts.{number_16, word_in, xid_of, status_of}
use Rattle.entry_reader.specs.Values.{key_of}
use Rattle.entry_reader.specs.Words.{chosen}

-- why a statement has no meaning; a full table where no other word fits
unfoldable pub error_of : Names → List (List ℕ) → StmtError
error_of names ps = chosen (word_in (piece ps 0)) (
    (codes "NoTable", error.NoTable)
    ∷ (codes "NoColumn", error.NoColumn)
    ∷ (codes "Columns", error.Columns)
    ∷ (codes "KeyChanged", error.KeyChanged)
    ∷ (codes "TypeMismatch", error.TypeMismatch)
    ∷ (codes "TooManyRows", error.TooManyRows)
    ∷ (codes "Overflow", error.Overflow (key_of names (piece ps 1)))
    ∷ (codes "Duplicate", error.Duplicate (key_of names (piece ps 1)))
    ∷ []) error.TableFull

-- why a call failed or a local transaction was refused; a fence where no other word fits
unfoldable pub why_of : Names → List (List ℕ) → Why
why_of names ps = chosen (word_in (piece ps 0)) (
    (codes "stmt", why.Stmt (number_16 (piece ps 1)) (error_of names (drop 2 ps)))
    ∷ (codes "tries", why.Tries)
    ∷ (codes "rolling", why.Rolling (xid_of (piece ps 1)))
    ∷ (codes "closed", why.Closed (status_of (piece ps 1)))
    ∷ (codes "late", why.Late)
    ∷ (codes "marker", why.Marker)
    ∷ (codes "norow", why.NoRow (number_16 (piece ps 1)))
    ∷ []) why.Fence
