use Rattle.resource_log.proofs.WritingLaws.{are_fields}
use Rattle.resource_log.proofs.writing.put_snapshot.Goals as goal

pub returns : goal.returns
returns c =
    are_fields c.args.out.now.items c.put_counts.new.out.items c.put_rows.new.out.items c.put_undos.new.out.items c.put_fences.new.out.items c.args.snapshot.now
    c.as_slice.result.now c.as_slice-2.result.now c.as_slice-3.result.now
    c.in_ok-put_counts.ensures c.as_slice.ensures c.as_slice-2.ensures c.as_slice-3.ensures c.in_ok-put_rows.ensures c.in_ok-put_undos.ensures c.in_ok-put_fences.ensures
