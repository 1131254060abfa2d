use Rattle.std.proofs.Common.{◌≡◌, false, sym}
use Rattle.base_disk.proofs.Adding.{added, not_added}
use Rattle.base_disk.proofs.Records.{left_at, left_behind, mark_behind, not_false, small_piece}
use Rattle.base_disk.proofs.keeping.add_all.Goals as goal

pub add-requires-clause-small : goal.add-requires-clause-small
add-requires-clause-small g c = small_piece c.args.text.now c.piece.result.now c.records.mark.at c.piece.ensures

pub returns-in-Err : goal.returns-in-Err
returns-in-Err g c =
    let text = c.args.text.now in
    let here = c.records.mark in
    let goes : here.ended ≡ false = sym (not_false here.ended c.records-test.true) in
    not_added g.D.Disk.state text c.args.mark c.args.journal.now here (mark_behind text here) c.records.journal c.add.new.journal c.piece.result.now c.records.invariant.1
    (left_at text here (mark_behind text here) c.piece.result.now goes c.piece.ensures (left_behind text here c.records.invariant.0)) c.add.result c.add.ensures c.in-Err.error c.in-Err.is

pub records-preserved : goal.records-preserved
records-preserved g c =
    let text = c.args.text.now in
    let here = c.records.mark in
    let goes : here.ended ≡ false = sym (not_false here.ended c.records-test.true) in (
      c.after-mark.ensures.within,
      added g.D.Disk.state text c.args.mark c.args.journal.now here c.after-mark.result c.records.journal c.add.new.journal c.piece.result.now c.records.invariant.1
          (left_at text here c.after-mark.result c.piece.result.now goes c.piece.ensures c.after-mark.ensures.left) c.add.result c.add.ensures c.in_default.field-0 c.in_default.is,
    )
