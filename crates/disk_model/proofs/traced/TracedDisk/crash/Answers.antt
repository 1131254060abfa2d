use Rattle.std.proofs.Common.{◌≡◌, [], ◌∷◌, sym, ◌∙◌, ap, arith, length}
use Rattle.std.proofs.lemmas.List.Sums.{sum_by-append}
use Rattle.disk_model.specs.Room.{written_count}
use Rattle.disk_model.specs.Trace.{Restarted, with_call, after_call}
use Rattle.disk_model.specs.declared.traced.TracedCall.TheVariants.{Restart}
use Rattle.disk_model.proofs.Kept.{call_fits, calls_of_next, after_push}
use Rattle.disk_model.proofs.Picked.{length-picked}
use Rattle.disk_model.proofs.traced.TracedDisk.crash.Goals as goal

pub push_reserved-requires : goal.push_reserved-requires
push_reserved-requires c =
    let kept = c.self.invariant in
    omega (arith, call_fits 0 c.self.inside kept _ c.self.view_is c.if-not-has_room.ensures, kept.call_room, c.self.inside.calls.ok.0)

pub invariant_of-self-2 : goal.invariant_of-self-2
invariant_of-self-2 c =
    let kept = c.self.invariant in
    let d = c.self.inside.disk in
    let kinds = c.self.inside.calls.items in
    let size : length (after_call d (Restarted c.args.pick)).present ≡ length d.present = length-picked c.args.pick d.pending d.stable d.present c.crash.ensures.sound.marks c.crash.ensures.sound.stable.size in
    let next = calls_of_next kinds c.self.inside.bytes.items (Restart c.args.pick) kept.counted in
    record {
      disk_is = rw (c.crash.ensures.crashed, c.push_reserved.ensures.items) (after_push d _ _ (Restarted c.args.pick) kept.disk_is size next);
      counted = rw c.push_reserved.ensures.items (sum_by-append written_count kinds ((Restart c.args.pick) ∷ []) ∙ omega (arith, kept.counted));
      calls = omega (arith, call_fits 0 c.self.inside kept _ c.self.view_is c.if-not-has_room.ensures, c.push_reserved.ensures.len, c.push_reserved.new.self.ok.0, c.self.inside.calls.ok.0);
      bytes = kept.bytes;
      call_room = omega (arith, kept.call_room, c.push_reserved.ensures.capacity);
      byte_room = kept.byte_room;
    }

pub returns-clause-noted : goal.returns-clause-noted
returns-clause-noted c =
    let kept = c.self.invariant in
    let d = c.self.inside.disk in
    let size : length (after_call d (Restarted c.args.pick)).present ≡ length d.present = length-picked c.args.pick d.pending d.stable d.present c.crash.ensures.sound.marks c.crash.ensures.sound.stable.size in
    let next = calls_of_next c.self.inside.calls.items c.self.inside.bytes.items (Restart c.args.pick) kept.counted in
    record {
      room = sym c.if-not-has_room.ensures;
      trace = rw (c.crash.ensures.crashed, c.push_reserved.ensures.items) (rw (size, next) (ap (with_call (Restarted c.args.pick)) c.self.view_is));
      sound = rw (← c.self.view_is, ← kept.disk_is) c.crash.ensures.sound;
    }
