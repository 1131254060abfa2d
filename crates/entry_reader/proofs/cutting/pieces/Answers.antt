use Rattle.std.proofs.Common.{◌≡◌, ◌<◌, ◌+◌, true, false, [], ◌∷◌, ◌++◌, length, drop, get_or, drop-cons, add-one, arith}
use Rattle.std.proofs.lemmas.Grind.{common_steps}
use Rattle.entry_reader.specs.declared.pieces.Inside.TheVariants as inside
use Rattle.entry_reader.specs.Cuts.{ends, after}
use Rattle.entry_reader.proofs.CutBytes.{prefixed-nothing, cut-ended, cut-went_on}
use Rattle.entry_reader.proofs.cutting.pieces.Goals as goal
use Rattle.entry_reader.proofs.cutting.pieces.Goals.{then-ends+in_ok-push, else-ends+in_ok-push-2}

pub loop-byte-init : goal.loop-byte-init
loop-byte-init c = rw (c.new-found.ensures.items, c.new-piece.ensures.items) (prefixed-nothing c.args.at inside.Nothing c.args.text.now)

pub loop-byte-preserved : goal.loop-byte-preserved
loop-byte-preserved c =
    let i = c.loop-byte.byte-index in
    let text = c.args.text.now in
    let inside_text : i < length text = c.loop-byte-test.true in
    let first : drop i text ≡ get_or text i 0 ∷ drop (i + 1) text = rw (add-one, drop-cons text i 0) in
    let next : c.after-inside.result ≡ after c.loop-byte.inside (get_or text i 0) = c.after-inside.ensures in
    elim c.if-ends.branch [
      | then-ends+in_ok-push w ↦
          let ended : ends c.args.at c.loop-byte.inside (get_or text i 0) ≡ true = grind (arith, common_steps) in
          let pushed : c.if-ends.found.items ≡ c.loop-byte.found.items ++ c.loop-byte.piece.items ∷ [] = grind (arith, common_steps) in
          let fresh : c.if-ends.piece.items ≡ [] = grind (arith, common_steps) in
          let step = cut-ended c.args.at c.loop-byte.inside (get_or text i 0) (drop (i + 1) text) (drop i text) c.loop-byte.piece.items c.loop-byte.found.items c.if-ends.found.items _ first ended pushed c.loop-byte.invariant in
          rw (next, fresh) step
      | else-ends+in_ok-push-2 w ↦
          let goes_on : ends c.args.at c.loop-byte.inside (get_or text i 0) ≡ false = grind (arith, common_steps) in
          let pushed : c.if-ends.piece.items ≡ c.loop-byte.piece.items ++ get_or text i 0 ∷ [] = grind (arith, common_steps) in
          let kept : c.if-ends.found.items ≡ c.loop-byte.found.items = grind (arith, common_steps) in
          let step = cut-went_on c.args.at c.loop-byte.inside (get_or text i 0) (drop (i + 1) text) (drop i text) c.loop-byte.piece.items c.if-ends.piece.items c.loop-byte.found.items _ first goes_on pushed c.loop-byte.invariant in
          rw (next, kept) step
    ]
