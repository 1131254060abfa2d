-- How `TracedDisk` keeps its calls: their kinds in one list, and all written bytes in another.
use Rattle.std.specs.Prelude.{◌≡◌, ℕ, ◌≤◌, List, [], ◌∷◌, length, take, drop, sum_by, vec_capacity}
use Rattle.disk_model.specs.Trace.{Trace, Call, Wrote, Synced, Restarted, after_calls}
use Rattle.disk_model.specs.declared.traced.TracedCall.{TracedCall}
use Rattle.disk_model.specs.declared.traced.TracedCall.TheVariants.{Write, Sync, Restart}
use Rattle.disk_model.specs.declared.traced.TracedDisk.TheInside.{Inside}

-- the calls of these kinds, with these bytes written
abbrev pub calls_of : List TracedCall → List ℕ → List Call
calls_of [] bytes = []
calls_of (Write at count ∷ kinds) bytes = Wrote at (take count bytes) ∷ calls_of kinds (drop count bytes)
calls_of (Sync ∷ kinds) bytes = Synced ∷ calls_of kinds bytes
calls_of (Restart pick ∷ kinds) bytes = Restarted pick ∷ calls_of kinds bytes

-- how many bytes a call wrote
abbrev pub written_count : TracedCall → ℕ
written_count (Write at count) = count
written_count Sync = 0
written_count (Restart pick) = 0

-- the trace that a disk keeps so
abbrev pub trace_of : Inside → Trace
trace_of disk = record {
  size = length disk.disk.present;
  calls = calls_of disk.calls.items disk.bytes.items;
  call_room = disk.call_room;
  byte_room = disk.byte_room;
  faults = disk.faults;
}

-- the disk is what its calls made of it, their bytes are all kept, and there is the room that it tells
pub record IsKept (disk : Inside) : Type 0 where
  pub disk_is : disk.disk ≡ after_calls (length disk.disk.present) (calls_of disk.calls.items disk.bytes.items)
  pub counted : sum_by written_count disk.calls.items ≡ length disk.bytes.items
  pub calls : length disk.calls.items ≤ disk.call_room
  pub bytes : length disk.bytes.items ≤ disk.byte_room
  pub call_room : disk.call_room ≤ vec_capacity disk.calls
  pub byte_room : disk.byte_room ≤ vec_capacity disk.bytes
