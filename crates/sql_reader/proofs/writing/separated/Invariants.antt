use Rattle.std.proofs.Common.{◌≡◌, ◌∷◌, drop}
use Rattle.std.specs.List.{flat_map}
use Rattle.sql_reader.specs.declared.symbols.Symbol.TheVariants as symbol
use Rattle.sql_reader.specs.Canonical.{Fixed, written, comma_separated}
use Rattle.sql_reader.proofs.writing.separated.Given as goal

abbrev pub invariant-loop-next : goal.invariant-loop-next
invariant-loop-next g l =
    written l.writer (flat_map (λ y. Fixed symbol.Comma ∷ g.T.Writable.pieces y) (drop l.next-index l.rest)) ≡ written l.fn.writer (comma_separated g.T.Writable.pieces l.fn.items)
