use Rattle.std.proofs.Common.{◌∙◌, ◌++◌, length, refl, ap}
use Rattle.std.proofs.lemmas.Option.{slice_get_read}
use Rattle.store_shown.proofs.Joined.{joined_next}
use Rattle.store_shown.proofs.texts.joined_text.Goals as goal

pub loop-record-preserved : goal.loop-record-preserved
loop-record-preserved c =
    let all = c.args.records.now in
    let i = c.loop-record.record-index in
    let r = c.record-item.result in
    joined_next all i r c.loop-record.text.items c.extend_from_slice.new.self.items (slice_get_read all (length all) i r refl c.loop-record-test.true c.record-item.is) c.loop-record.invariant
    (c.in_ok-extend_from_slice.ensures.items ∙ ap (λ z. c.loop-record.text.items ++ z) c.as_slice.ensures)
