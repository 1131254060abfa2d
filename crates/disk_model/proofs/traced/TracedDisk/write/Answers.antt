use Rattle.std.proofs.Common.{◌≡◌, ◌+◌, ◌≤◌, [], ◌∷◌, sym, ◌∙◌, ap, arith, length, length-append}
use Rattle.std.proofs.lemmas.List.Sums.{sum_by-append}
use Rattle.disk_model.specs.Memory.{Memory}
use Rattle.disk_model.specs.Room.{written_count}
use Rattle.disk_model.specs.Trace.{Trace, Wrote, disk_of, with_call, after_call}
use Rattle.disk_model.specs.declared.traced.TracedCall.TheVariants.{Write}
use Rattle.disk_model.proofs.Kept.{call_fits, bytes_fit, calls_of_written, after_push}
use Rattle.disk_model.proofs.Put.{length-put}
use Rattle.disk_model.proofs.traced.TracedDisk.write.Goals as goal

pub append-requires : goal.append-requires
append-requires c =
    let kept = c.self.invariant in
    omega (arith, bytes_fit _ c.self.inside kept _ c.self.view_is c.if-not-has_room.ensures, kept.byte_room, c.self.inside.bytes.ok.0)

pub push_reserved-requires : goal.push_reserved-requires
push_reserved-requires c =
    let kept = c.self.invariant in
    omega (arith, call_fits _ c.self.inside kept _ c.self.view_is c.if-not-has_room.ensures, kept.call_room, c.self.inside.calls.ok.0)

pub invariant_of-self-2 : goal.invariant_of-self-2
invariant_of-self-2 c =
    let kept = c.self.invariant in
    let d = c.self.inside.disk in
    let kinds = c.self.inside.calls.items in
    let fits : c.args.at + length c.args.bytes.now ≤ length d.present = omega (arith, c.requires, ap (λ (t : Trace). length (disk_of t).present) c.self.view_is, ap (λ (m : Memory). length m.present) kept.disk_is) in
    let size : length (after_call d (Wrote c.args.at c.args.bytes.now)).present ≡ length d.present = length-put c.args.at c.args.bytes.now d.present fits in
    let next = calls_of_written kinds c.self.inside.bytes.items c.args.bytes.now c.args.at kept.counted in
    record {
      disk_is = rw (c.write.ensures.written, c.push_reserved.ensures.items, c.append.ensures.items) (after_push d _ _ (Wrote c.args.at c.args.bytes.now) kept.disk_is size next);
      counted = rw (c.push_reserved.ensures.items, c.append.ensures.items) (sum_by-append written_count kinds (Write c.args.at (length c.args.bytes.now) ∷ []) ∙ omega (arith, kept.counted, length-append c.self.inside.bytes.items c.args.bytes.now));
      calls = omega (arith, call_fits _ c.self.inside kept _ c.self.view_is c.if-not-has_room.ensures, c.push_reserved.ensures.len, c.push_reserved.new.self.ok.0, c.self.inside.calls.ok.0);
      bytes = rw c.append.ensures.items (omega (arith, bytes_fit _ c.self.inside kept _ c.self.view_is c.if-not-has_room.ensures, length-append c.self.inside.bytes.items c.args.bytes.now));
      call_room = omega (arith, kept.call_room, c.push_reserved.ensures.capacity);
      byte_room = omega (arith, kept.byte_room, c.append.ensures.capacity);
    }

pub returns-clause-noted : goal.returns-clause-noted
returns-clause-noted c =
    let kept = c.self.invariant in
    let d = c.self.inside.disk in
    let fits : c.args.at + length c.args.bytes.now ≤ length d.present = omega (arith, c.requires, ap (λ (t : Trace). length (disk_of t).present) c.self.view_is, ap (λ (m : Memory). length m.present) kept.disk_is) in
    let size : length (after_call d (Wrote c.args.at c.args.bytes.now)).present ≡ length d.present = length-put c.args.at c.args.bytes.now d.present fits in
    let next = calls_of_written c.self.inside.calls.items c.self.inside.bytes.items c.args.bytes.now c.args.at kept.counted in
    record {
      room = sym c.if-not-has_room.ensures;
      trace = rw (c.write.ensures.written, c.push_reserved.ensures.items, c.append.ensures.items) (rw (size, next) (ap (with_call (Wrote c.args.at c.args.bytes.now)) c.self.view_is));
      sound = rw (← c.self.view_is, ← kept.disk_is) c.write.ensures.sound;
    }
