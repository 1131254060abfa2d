use Rattle.frame_codec.proofs.Lengths.{framable_fits}
use Rattle.frame_codec.proofs.packet.encode.Goals as goal

pub frame-requires : goal.frame-requires
frame-requires c = framable_fits c.args.message.now c.args.stamp c.requires c.ranges.stamp.fits
