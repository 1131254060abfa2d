-- Places among the records of a text.
use Rattle.std.specs.Prelude.{ℕ, Bool, if◌then◌else◌, List, [], drop}
use Rattle.seata_types.specs.declared.limits.TheConstants.{BODY_BYTES}
use Rattle.base_records.specs.Pieces.{records_of}
use Rattle.base_disk.specs.declared.marks.Mark.{Mark}

abbrev pub mark_at : ℕ → Bool → Mark
mark_at at ended = record { at = at; ended = ended }

-- the records of a text from there on
abbrev pub left_of : List ℕ → Mark → List (List ℕ)
left_of text mark = if mark.ended then [] else records_of BODY_BYTES (drop mark.at text)
