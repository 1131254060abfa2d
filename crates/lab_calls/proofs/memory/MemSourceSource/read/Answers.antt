use Rattle.std.proofs.Common.{arith}
use Rattle.std.proofs.lemmas.Grind.{common_steps}
use Rattle.lab_calls.proofs.Flow.{copied_next}
use Rattle.lab_calls.proofs.memory.MemSourceSource.read.Goals as goal

pub returns-clause-bytes : goal.returns-clause-bytes
returns-clause-bytes c =
    copied_next c.args.self.now.bytes.items c.copy_from_slice.new.self _ c.args.self.now.at c.min-count.result (grind (arith, common_steps)) (grind (arith, common_steps))
