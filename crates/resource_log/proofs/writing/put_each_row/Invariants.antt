use Rattle.std.proofs.Common.{◌≡◌, ◌++◌, take}
use Rattle.std.specs.List.{flat_map}
use Rattle.byte_fields.specs.Parts.{named_row_bytes}
use Rattle.resource_log.proofs.writing.put_each_row.Given as goal

abbrev pub invariant-loop-named : goal.invariant-loop-named
invariant-loop-named l = l.out.items ≡ l.initial.out.items ++ flat_map named_row_bytes (take l.named-index l.rows)
