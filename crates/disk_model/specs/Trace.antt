-- A disk in memory that keeps its calls. What it was at each moment is what the calls until then made of it.
use Rattle.std.specs.Prelude.{◌≡◌, ℕ, ◌+◌, ◌-◌, ◌^◌, ◌≤◌, min, Bool, true, false, ◌&&◌, nat_lt, nat_le, None, List, [], ◌∷◌, ◌++◌, length, take, fold, sum_by}
use Rattle.std.proofs.Common.{refl, arith}
use Rattle.std.proofs.lemmas.List.{take_all}
use Rattle.disk_model.specs.Disk.{DiskState, IsLawful}
use Rattle.disk_model.specs.Memory.{Memory, IsImage, IsSound, new_memory, written, settled, crashed, memory_state, memory_lawful}

-- a write, a sync or a restart that was done
pub data Call : Type 0 where
  Wrote : (at : ℕ) → (bytes : List ℕ) → Call
  Synced : Call
  Restarted : (pick : ℕ) → Call

-- the disk in memory after one more call
abbrev pub after_call : Memory → Call → Memory
after_call disk (Wrote at bytes) = written at bytes disk
after_call disk Synced = settled disk
after_call disk (Restarted pick) = crashed pick disk

-- what these calls make of a new disk
abbrev pub after_calls : ℕ → List Call → Memory
after_calls size calls = fold after_call (new_memory size) calls

-- how many bytes of room a call takes
abbrev pub byte_count : Call → ℕ
byte_count (Wrote at bytes) = length bytes
byte_count Synced = 0
byte_count (Restarted pick) = 0

-- the disk's size, its calls in order, the room for calls and for their bytes, and how often there was none
pub record Trace : Type 0 where
  pub size : ℕ
  pub calls : List Call
  pub call_room : ℕ
  pub byte_room : ℕ
  pub faults : ℕ

-- the disk in memory as the calls left it
abbrev pub disk_of : Trace → Memory
disk_of trace = after_calls trace.size trace.calls

-- there is room for one more call, of so many bytes
abbrev pub has_room : ℕ → Trace → Bool
has_room bytes trace = nat_lt (length trace.calls) trace.call_room && nat_le (sum_by byte_count trace.calls + bytes) trace.byte_room

-- with one more call, and below it with one more fault
abbrev pub with_call : Call → Trace → Trace
with_call call trace = record trace { calls = trace.calls ++ call ∷ [] }

abbrev pub with_fault : Trace → Trace
with_fault trace = record trace { faults = min (trace.faults + 1) (2 ^ 64 - 1) }

-- There was room for a call, which is done.
pub record IsNoted (call : Call) (old new : Trace) : Type 0 where
  pub room : has_room (byte_count call) old ≡ true
  pub trace : new ≡ with_call call old
  pub sound : IsSound (disk_of old)

-- There was no room for a call of so many bytes, which is a fault and changes nothing else.
pub record IsRefused (bytes : ℕ) (old new : Trace) : Type 0 where
  pub room : has_room bytes old ≡ false
  pub trace : new ≡ with_fault old
  pub faults : old.faults ≤ new.faults

-- A crash after the first k calls may have left these bytes, for some k from t on.
abbrev pub LeftSince : Trace → ℕ → List ℕ → Type 0
LeftSince trace t c = (k : ℕ) × (t ≤ k) × (k ≤ length trace.calls) × IsImage (after_calls trace.size (take k trace.calls)) c

-- It tells its images and its moments. A moment is the number of calls until then.
abbrev pub trace_state : Trace → DiskState
trace_state trace = record (memory_state (disk_of trace)) {
  moment = length trace.calls;
  left_since = LeftSince trace;
  tells_moments = true;
  counts = record { faults = trace.faults; own = trace.faults; left = None; stopped = false };
}

-- what holds of every disk holds of one that keeps its calls
pub trace_lawful : (trace : Trace) → IsLawful (trace_state trace)
trace_lawful trace = record {
  present_may_stay = (memory_lawful (disk_of trace)).present_may_stay;
  told = (memory_lawful (disk_of trace)).told;
  moments_told = λ t c left. refl;
  full_size = (memory_lawful (disk_of trace)).full_size;
  counts_now = λ told t c le image. (length trace.calls, le, omega arith, rw (take_all (length trace.calls) trace.calls (omega arith)) image);
  only_now = λ c left. let all = take_all left.0 trace.calls left.1 in rw all at left.3;
  own_among_faults = omega arith;
  stopped_lets_none = (memory_lawful (disk_of trace)).stopped_lets_none;
}
