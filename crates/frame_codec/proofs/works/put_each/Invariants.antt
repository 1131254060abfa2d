use Rattle.std.proofs.Common.{◌≡◌, ◌++◌, take}
use Rattle.std.specs.List.{flat_map}
use Rattle.frame_codec.specs.Works.{stmt_bytes}
use Rattle.frame_codec.proofs.works.put_each.Given as goal

abbrev pub invariant-loop-stmt : goal.invariant-loop-stmt
invariant-loop-stmt l = l.out.items ≡ l.initial.out.items ++ flat_map stmt_bytes (take l.stmt-index l.stmts)
