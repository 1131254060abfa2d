use Rattle.std.proofs.Common.{arith}
use Rattle.std.proofs.lemmas.Grind.{common_steps}
use Rattle.lab_calls.proofs.Flow.{gains_more}
use Rattle.lab_calls.proofs.transfer.write_all.Goals as goal

pub loop-done-preserved : goal.loop-done-preserved
loop-done-preserved g c =
    record {
      within = grind (arith, common_steps);
      written = gains_more _ _ _ c.args.text.now c.loop-done.done c.in_ok-count.count c.loop-done.invariant.written c.in_ok-count.ensures.bytes;
      counted = grind (arith, common_steps);
    }
