use Rattle.std.proofs.Common.{◌+◌, ◌++◌, ◌∙◌, length, take, drop, refl, sym, ap}
use Rattle.std.proofs.lemmas.Option.{slice_get_read}
use Rattle.base_disk.specs.Marks.{left_of}
use Rattle.base_disk.proofs.Records.{front_left, left_at, next_is, none_left, one_more, other_bytes, same_bytes, split_at, take_next}
use Rattle.base_disk.proofs.keeping.behind.Goals as goal
use Rattle.base_disk.proofs.keeping.behind.Goals.{then-mark-via-then-mark, then-mark-via-else-mark+then-ne}

pub returns-then-mark-clause-other : goal.returns-then-mark-clause-other
returns-then-mark-clause-other c = λ none front.
    let text = c.args.text.now in
    let all = c.args.records.now in
    let i = c.loop-record.record-index in
    let r = c.record-item.result in
    let at = slice_get_read all (length all) i r refl c.loop-record-test.true c.record-item.is in
    let left = front_left (take i all) (drop (i + 1) all) front.missing (left_of text c.loop-record.mark) r (ap (λ l. l ++ front.missing) (sym (split_at all i r at)) ∙ front.whole ∙ c.loop-record.invariant.1) in
    elim c.then-mark.branch [
      | then-mark-via-then-mark w ↦ none_left text c.loop-record.mark r (drop (i + 1) all ++ front.missing) left w.if-mark.true
      | then-mark-via-else-mark+then-ne w ↦
          other_bytes w.as_slice.result.now w.piece.result.now w.ne.result w.ne.ensures w.if-ne.true
          (w.as_slice.ensures ∙ next_is text c.loop-record.mark r (drop (i + 1) all ++ front.missing) left c.loop-record.invariant.0 w.if-mark.false ∙ sym w.piece.ensures)
    ]

pub loop-record-preserved : goal.loop-record-preserved
loop-record-preserved c =
    let text = c.args.text.now in
    let all = c.args.records.now in
    let i = c.loop-record.record-index in
    let r = c.record-item.result in
    let next = c.after-mark.result in
    let at = slice_get_read all (length all) i r refl c.loop-record-test.true c.record-item.is in
    let same = sym c.as_slice.ensures ∙ same_bytes c.as_slice.result.now c.piece.result.now c.ne.result c.ne.ensures c.if-ne.false in (
      c.after-mark.ensures.within,
      one_more _ (take i all) (left_of text c.loop-record.mark) (left_of text next) r c.piece.result.now c.loop-record.invariant.1
          (left_at text c.loop-record.mark next c.piece.result.now c.if-mark.false c.piece.ensures c.after-mark.ensures.left) same
          ∙ ap (λ l. l ++ left_of text next) (sym (take_next all i r at)),
    )
