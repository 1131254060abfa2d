use Rattle.std.proofs.Common.{sym, ◌∙◌}
use Rattle.session_log.proofs.SnapshotLaws.{snapshot_fault, snapshot_some, snapshot_none}
use Rattle.session_log.proofs.snapshots.laid_out.Goals as goal

pub returns-in-Err : goal.returns-in-Err
returns-in-Err c = snapshot_fault c.args.bytes.now c.new-fields.result c.in-Err.fault c.as_snapshot.result c.new-fields.ensures c.in-Err.ensures c.as_snapshot.ensures

pub returns-then-at-bytes : goal.returns-then-at-bytes
returns-then-at-bytes c = snapshot_some c.args.bytes.now c.new-fields.result c.in-Ok.found c.snapshot.new.fields c.new-fields.ensures c.in-Ok.ensures (sym c.at.ensures ∙ c.if-at-bytes.true)

pub returns-else-at-bytes : goal.returns-else-at-bytes
returns-else-at-bytes c = snapshot_none c.args.bytes.now c.new-fields.result c.in-Ok.found c.snapshot.new.fields c.new-fields.ensures c.in-Ok.ensures (λ e. c.if-at-bytes.false (c.at.ensures ∙ e))
