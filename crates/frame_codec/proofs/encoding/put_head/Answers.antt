use Rattle.std.proofs.Common.{append_assoc}
use Rattle.frame_codec.specs.Heads.{head_bytes}
use Rattle.frame_codec.proofs.encoding.put_head.Goals as goal

pub returns : goal.returns
unfolding head_bytes
returns c =
    rw (
      c.in_ok-put_u32-2.ensures.ok,
      c.in_ok-put_u8-4.ensures.ok,
      c.in_ok-put_u8-3.ensures.ok,
      c.in_ok-put_u8-2.ensures.ok,
      c.in_ok-put_u16-2.ensures.ok,
      c.in_ok-put_u32.ensures.ok,
      c.in_ok-put_u8.ensures.ok,
      c.in_ok-put_u16.ensures.ok,
    )
    (simp append_assoc)
