use Rattle.std.proofs.Common.{◌≡◌, ◌++◌, drop}
use Rattle.base_records.specs.Pieces.{joined}
use Rattle.store_shown.proofs.texts.joined_text.Given as goal

-- those before this one were put down
abbrev pub invariant-loop-record : goal.invariant-loop-record
invariant-loop-record l = joined l.records ≡ l.text.items ++ joined (drop l.record-index l.records)
