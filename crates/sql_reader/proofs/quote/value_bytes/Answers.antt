use Rattle.std.proofs.Common.{◌∙◌, arith}
use Rattle.std.proofs.lemmas.Grind.{common_steps}
use Rattle.sql_reader.proofs.QuotedTexts.{text_at_plain, text_at_double, text_at_closed}
use Rattle.sql_reader.proofs.quote.value_bytes.Goals as goal
use Rattle.sql_reader.proofs.quote.value_bytes.Goals.{then-z-at-eq39+else-byte-ne39, else-z-at-eq39}

pub returns-then-byte-ne39-clause-value : goal.returns-then-byte-ne39-clause-value
returns-then-byte-ne39-clause-value c =
    text_at_closed c.args.z.now c.loop-at.at c.loop-at.value.items c.loop-at-test.true c.if-z-at-eq39.true (grind arith) ∙ c.loop-at.invariant.0

pub loop-at-preserved : goal.loop-at-preserved
loop-at-preserved c =
    elim c.if-z-at-eq39.branch [
      | then-z-at-eq39+else-byte-ne39 w ↦
          let k = text_at_double c.args.z.now c.loop-at.at c.if-z-at-eq39.at c.loop-at.value.items w.at-is c.loop-at-test.true w.if-z-at-eq39.true (grind arith) in
          grind (arith, common_steps)
      | else-z-at-eq39 w ↦
          let k = text_at_plain c.args.z.now c.loop-at.at c.loop-at.value.items c.loop-at-test.true w.if-z-at-eq39.false in
          grind (arith, common_steps)
    ]
