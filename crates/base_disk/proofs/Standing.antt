-- Bytes stand for no two lists of records.
use Rattle.std.proofs.Common.{◌≡◌, ◌∙◌, ℕ, List, [], Result, Ok, Err, ap, sym}
use Rattle.disk_journal.specs.Keeping.{StandsFor}

abbrev read_in : Result (List (List ℕ)) ℕ → List (List ℕ)
read_in (Ok records) = records
read_in (Err at) = []

pub same_records : (records others : List (List ℕ)) (bytes : List ℕ) → StandsFor 0 records bytes → StandsFor 0 others bytes → records ≡ others
same_records records others bytes one two = ap read_in (sym one ∙ two)
