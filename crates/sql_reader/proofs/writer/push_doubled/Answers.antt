use Rattle.std.proofs.Common.{◌≡◌, ◌++◌, arith}
use Rattle.std.specs.Prelude.{string_bytes, encode_utf8}
use Rattle.std.proofs.lemmas.Grind.{common_steps}
use Rattle.sql_reader.proofs.Doubled.{doubled_quote, doubled_other}
use Rattle.sql_reader.proofs.writer.push_doubled.Goals as goal
use Rattle.sql_reader.proofs.writer.push_doubled.Goals.{then-c-eq39+in_ok-push, else-c-eq39}

pub loop-c-preserved : goal.loop-c-preserved
loop-c-preserved c =
    let pushed : string_bytes c.push-in-loop-c.new.self ≡ string_bytes c.if-c-eq39.text ++ encode_utf8 c.in-Some.c = grind (arith, common_steps) in
    elim c.if-c-eq39.branch [
      | then-c-eq39+in_ok-push w ↦
          let first : string_bytes c.if-c-eq39.text ≡ string_bytes c.loop-c.text ++ encode_utf8 c.in-Some.c = grind (arith, common_steps) in
          rw (pushed, first) (doubled_quote _ _ c.loop-c.yielded c.in-Some.c w.if-c-eq39.true c.loop-c.invariant)
      | else-c-eq39 w ↦ rw (pushed, w.text-is) (doubled_other _ _ c.loop-c.yielded c.in-Some.c w.if-c-eq39.false c.loop-c.invariant)
    ]
