use Rattle.session_log.proofs.WritingLaws.{are_fields}
use Rattle.session_log.proofs.writing.put_snapshot.Goals as goal

pub returns : goal.returns
returns c =
    are_fields c.args.out.now.items c.put_counts.new.out.items c.put_entries.new.out.items c.put_all_forgotten.new.out.items c.args.snapshot.now c.as_slice.result.now c.as_slice-2.result.now
    c.in_ok-put_counts.ensures c.as_slice.ensures c.as_slice-2.ensures c.in_ok-put_entries.ensures c.in_ok-put_all_forgotten.ensures
