-- How `TracedDisk` keeps its calls: one more of them.
use Rattle.std.proofs.Common.{◌≡◌, ℕ, ◌+◌, ◌<◌, ◌≤◌, true, ◌&&◌, List, [], ◌∷◌, ◌++◌, length, take, drop, sum_by, refl, sym, ◌∙◌, ap, arith}
use Rattle.std.specs.Prelude.{nat_lt, nat_le, vec_capacity}
use Rattle.std.proofs.lemmas.List.{append-nil, length-replicate, nil_from_length, take-append-le, drop-append-le, length-take-le, length-drop, take_all}
use Rattle.std.proofs.lemmas.Bool.Decides.{nat_tests}
use Rattle.std.proofs.lemmas.List.Sums.{fold-append, sum_by-cons}
use Rattle.disk_model.specs.Memory.{Memory, new_memory}
use Rattle.disk_model.specs.Trace.{Call, Wrote, Synced, Restarted, Trace, after_call, after_calls, byte_count, has_room}
use Rattle.disk_model.specs.Room.{calls_of, written_count, trace_of, IsKept}
use Rattle.disk_model.specs.declared.traced.TracedCall.{TracedCall}
use Rattle.disk_model.specs.declared.traced.TracedCall.TheVariants.{Write, Sync, Restart}
use Rattle.disk_model.specs.declared.traced.TracedDisk.TheInside.{Inside}

pub length-calls_of : (kinds : List TracedCall) (bytes : List ℕ) → length (calls_of kinds bytes) ≡ length kinds
length-calls_of [] bytes = refl
length-calls_of (Write at count ∷ kinds) bytes = omega (arith, length-calls_of kinds (drop count bytes))
length-calls_of (Sync ∷ kinds) bytes = omega (arith, length-calls_of kinds bytes)
length-calls_of (Restart pick ∷ kinds) bytes = omega (arith, length-calls_of kinds bytes)

pub bytes-calls_of : (kinds : List TracedCall) (bytes : List ℕ) → sum_by written_count kinds ≡ length bytes → sum_by byte_count (calls_of kinds bytes) ≡ length bytes
bytes-calls_of [] bytes counted = counted
bytes-calls_of (Write at count ∷ kinds) bytes counted =
    let kept : count + sum_by written_count kinds ≡ length bytes = sym (sum_by-cons written_count (Write at count) kinds) ∙ counted in
    let rest = bytes-calls_of kinds (drop count bytes) (omega (arith, length-drop count bytes)) in
    omega (arith, rest, sum_by-cons byte_count (Wrote at (take count bytes)) (calls_of kinds (drop count bytes)), length-drop count bytes, length-take-le count bytes (omega arith))
bytes-calls_of (Sync ∷ kinds) bytes counted = bytes-calls_of kinds bytes counted
bytes-calls_of (Restart pick ∷ kinds) bytes counted = bytes-calls_of kinds bytes counted

pub calls_of-push : (kinds : List TracedCall) (bytes : List ℕ) (kind : TracedCall) (new : List ℕ) → sum_by written_count kinds ≡ length bytes → calls_of (kinds ++ kind ∷ []) (bytes ++ new) ≡ calls_of kinds bytes ++ calls_of (kind ∷ []) new
calls_of-push [] bytes kind new counted = rw (nil_from_length bytes (sym counted)) refl
calls_of-push (Write at count ∷ kinds) bytes kind new counted =
    let kept : count + sum_by written_count kinds ≡ length bytes = sym (sum_by-cons written_count (Write at count) kinds) ∙ counted in
    rw (take-append-le count bytes new (omega arith), drop-append-le count bytes new (omega arith), calls_of-push kinds (drop count bytes) kind new (omega (arith, length-drop count bytes))) refl
calls_of-push (Sync ∷ kinds) bytes kind new counted = ap (λ (calls : List Call). Synced ∷ calls) (calls_of-push kinds bytes kind new counted)
calls_of-push (Restart pick ∷ kinds) bytes kind new counted = ap (λ (calls : List Call). Restarted pick ∷ calls) (calls_of-push kinds bytes kind new counted)

-- a call that writes nothing
pub calls_of_next : (kinds : List TracedCall) (bytes : List ℕ) (kind : TracedCall) → sum_by written_count kinds ≡ length bytes → calls_of (kinds ++ kind ∷ []) bytes ≡ calls_of kinds bytes ++ calls_of (kind ∷ []) []
calls_of_next kinds bytes kind counted =
    ap (calls_of (kinds ++ kind ∷ [])) (sym (append-nil bytes)) ∙ calls_of-push kinds bytes kind [] counted

-- a write
pub calls_of_written : (kinds : List TracedCall) (bytes new : List ℕ) (at : ℕ) → sum_by written_count kinds ≡ length bytes → calls_of (kinds ++ Write at (length new) ∷ []) (bytes ++ new) ≡ calls_of kinds bytes ++ Wrote at new ∷ []
calls_of_written kinds bytes new at counted =
    calls_of-push kinds bytes (Write at (length new)) new counted ∙ ap (λ (b : List ℕ). calls_of kinds bytes ++ Wrote at b ∷ []) (take_all (length new) new (omega arith))

-- the test of the room by the lists that are kept
pub room_is : (n : ℕ) (disk : Inside) → IsKept disk → has_room n (trace_of disk) ≡ nat_lt (length disk.calls.items) disk.call_room && nat_le (length disk.bytes.items + n) disk.byte_room
room_is n disk kept = rw (length-calls_of disk.calls.items disk.bytes.items, bytes-calls_of disk.calls.items disk.bytes.items kept.counted) refl

module _ (n : ℕ) (disk : Inside) (kept : IsKept disk) (trace : Trace) (is : trace_of disk ≡ trace) (room : true ≡ has_room n trace) where
  both : nat_lt (length disk.calls.items) disk.call_room && nat_le (length disk.bytes.items + n) disk.byte_room ≡ true
  both = sym (room_is n disk kept) ∙ ap (has_room n) is ∙ sym room

  pub call_fits : length disk.calls.items < disk.call_room
  call_fits = let known = both in grind (arith, nat_tests)

  pub bytes_fit : length disk.bytes.items + n ≤ disk.byte_room
  bytes_fit = let known = both in grind (arith, nat_tests)

-- the disk after one more call is what its calls make of a new one
pub after_push : (disk : Memory) (calls next : List Call) (call : Call) → disk ≡ after_calls (length disk.present) calls → length (after_call disk call).present ≡ length disk.present → next ≡ calls ++ call ∷ [] → after_call disk call ≡ after_calls (length (after_call disk call).present) next
after_push disk calls next call is size one_more =
    sym (rw (size, one_more) (fold-append after_call (new_memory (length disk.present)) calls (call ∷ []) ∙ ap (λ d. after_call d call) (sym is)))

pub new_kept : (disk : Inside) (size : ℕ) → disk.disk ≡ new_memory size → disk.calls.items ≡ [] → disk.bytes.items ≡ [] → disk.call_room ≤ vec_capacity disk.calls → disk.byte_room ≤ vec_capacity disk.bytes → IsKept disk
new_kept disk size made no_call no_byte call_room byte_room = record {
  disk_is = rw (made, no_call) (ap new_memory (sym (length-replicate {A = ℕ} size 0)));
  counted = rw (no_call, no_byte) refl;
  calls = rw no_call (omega arith);
  bytes = rw no_byte (omega arith);
  call_room = call_room;
  byte_room = byte_room;
}
