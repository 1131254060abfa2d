use Rattle.std.proofs.Common.{◌≡◌, ◌++◌, drop}
use Rattle.entry_reader.specs.Cuts.{pieces, prefixed, cut}
use Rattle.entry_reader.proofs.cutting.pieces.Given as goal

abbrev pub invariant-loop-byte : goal.invariant-loop-byte
invariant-loop-byte l = l.found.items ++ prefixed l.piece.items (cut l.at l.inside (drop l.byte-index l.text)) ≡ pieces l.at l.text
