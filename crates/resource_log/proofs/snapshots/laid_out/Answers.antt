use Rattle.std.proofs.Common.{◌<◌, sym, ◌∙◌, arith}
use Rattle.std.proofs.lemmas.List.Elements.{All-from_get_or}
use Rattle.resource_log.proofs.OldLayouts.{snapshot_writable}
use Rattle.resource_log.proofs.SnapshotLaws.{snapshot_fault, snapshot_some, snapshot_none}
use Rattle.resource_log.proofs.snapshots.laid_out.Goals as goal

pub returns-in-Err-clause-found : goal.returns-in-Err-clause-found
returns-in-Err-clause-found c = snapshot_fault c.args.bytes.now c.new-fields.result c.in-Err.fault c.as_snapshot.result c.new-fields.ensures c.in-Err.ensures c.as_snapshot.ensures

pub returns-then-at-bytes-clause-found : goal.returns-then-at-bytes-clause-found
returns-then-at-bytes-clause-found c = snapshot_some c.args.bytes.now c.new-fields.result c.in-Ok.found c.snapshot.new.fields c.new-fields.ensures c.in-Ok.ensures (sym c.at.ensures ∙ c.if-at-bytes.true)

pub returns-else-at-bytes-clause-found : goal.returns-else-at-bytes-clause-found
returns-else-at-bytes-clause-found c = snapshot_none c.args.bytes.now c.new-fields.result c.in-Ok.found c.snapshot.new.fields c.new-fields.ensures c.in-Ok.ensures (λ e. c.if-at-bytes.false (c.at.ensures ∙ e))

pub returns-then-at-bytes-clause-writable : goal.returns-then-at-bytes-clause-writable
returns-then-at-bytes-clause-writable c =
    snapshot_writable c.args.bytes.now c.in-Ok.found (All-from_get_or (λ b. b < 256) c.args.bytes.now 0 (λ i lt. omega (arith, c.type_inv.bytes i)))
    (snapshot_some c.args.bytes.now c.new-fields.result c.in-Ok.found c.snapshot.new.fields c.new-fields.ensures c.in-Ok.ensures (sym c.at.ensures ∙ c.if-at-bytes.true))
