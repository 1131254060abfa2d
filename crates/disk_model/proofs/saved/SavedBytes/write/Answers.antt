use Rattle.std.proofs.Common.{ap}
use Rattle.disk_model.specs.Disk.{put}
use Rattle.disk_model.specs.Sides.{Sides}
use Rattle.disk_model.proofs.Sides.{saved_stays}
use Rattle.disk_model.proofs.saved.SavedBytes.write.Goals as goal

pub returns : goal.returns
returns c =
    let bytes = c.args.bytes.now in
    let present = c.self.inside.present in
    let done = c.save-self-inside.ensures in
    let stays = saved_stays c.save-self-inside.result c.save-self-inside.new.saved.items present done.room.inside c.args.at bytes done.begins done.ends in
    rw (c.write.ensures, stays, done.same) (ap (λ (s : Sides). record s { present = put c.args.at bytes s.present }) c.self.view_is)
