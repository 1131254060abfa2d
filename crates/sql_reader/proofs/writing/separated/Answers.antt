use Rattle.std.proofs.Common.{arith}
use Rattle.std.proofs.lemmas.Grind.{common_steps}
use Rattle.sql_reader.proofs.Written.{first_written, next_written}
use Rattle.sql_reader.proofs.writing.separated.Goals as goal

pub loop-next-init : goal.loop-next-init
loop-next-init g c =
    let first = first_written g.T.Writable.pieces c.args.writer.now c.args.items.now c.first-item.result (omega arith) c.first-item.is in
    grind (arith, common_steps)

pub loop-next-preserved : goal.loop-next-preserved
loop-next-preserved g c =
    let next = next_written g.T.Writable.pieces c.loop-next.writer _ c.loop-next.next-index c.next-item.result (omega arith) c.next-item.is in
    grind (arith, common_steps)
