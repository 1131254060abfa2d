use Rattle.frame_codec.proofs.FeedLaws.{frames_push, size_some}
use Rattle.frame_codec.proofs.scanning.next.Goals as goal

pub returns-in_ok-push-in-Ok-clause-frame : goal.returns-in_ok-push-in-Ok-clause-frame
returns-in_ok-push-in-Ok-clause-frame c =
    rw c.in_ok-push-in-Ok.ensures (record {
      some = size_some c.args.bytes.now c.in-Ok.message c.in-Ok.stamp c.in-Ok.size c.in-Ok.ensures.found;
      within = c.in-Ok.ensures.found.there;
      joins = λ from fed so. frames_push from fed c.args.frames.now.items c.args.at c.args.bytes.now c.in-Ok.message c.in-Ok.stamp c.in-Ok.size so c.in-Ok.ensures.exact;
    })
