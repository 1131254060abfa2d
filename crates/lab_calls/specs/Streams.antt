-- What sources and sinks tell. What was taken from them or put into them is said in std's words for
-- readers and writers, which say nothing where nothing is told.
use Rattle.std.specs.Prelude.{ℕ, ◌+◌, ◌-◌, ◌^◌, min, nat_eq, nat_lt, Bool, true, ◌&&◌, if◌then◌else◌, List, length, take, Option, Result, Ok, Err}
use Rattle.std.specs.Io.KnownBytes.{Appends}
use Rattle.disk_model.specs.Disk.{Rose}

-- some bytes of the front of a text were put behind what was written
abbrev pub GainsFront : Option (List ℕ) → Option (List ℕ) → List ℕ → Type 0
GainsFront old new text = (n : ℕ) × Appends old new (take n text)

-- what contracts see of a source
pub record SourceState : Type 0 where
  -- the bytes that are left, where told
  pub left : Option (List ℕ)
  -- how often it failed; it stands still at its greatest value
  pub faults : ℕ

-- what contracts see of a sink
pub record SinkState : Type 0 where
  -- the bytes that were written, where told
  pub written : Option (List ℕ)
  -- how often it failed; it stands still at its greatest value
  pub faults : ℕ

-- a source and a sink at one moment
pub record Devices : Type 0 where
  pub source : SourceState
  pub sink : SinkState

abbrev pub devices : SourceState → SinkState → Devices
devices source sink = record { source = source; sink = sink }

-- a count of faults after a call, by whether the call failed; it stands still at its greatest value
abbrev pub count_after : (failed : Bool) → ℕ → ℕ
count_after failed count = if failed then min (count + 1) (2 ^ 64 - 1) else count

-- whether a write of these bytes failed: with an error, or since it took none of some
abbrev pub is_failed_write : {E : Type 0} → List ℕ → Result ℕ E → Bool
is_failed_write bytes (Ok n) = nat_eq n 0 && nat_lt 0 (length bytes)
is_failed_write bytes (Err e) = true

-- neither failed in a call
pub record IsCalm (old new : Devices) : Type 0 where
  pub source : ¬ Rose old.source.faults new.source.faults
  pub sink : ¬ Rose old.sink.faults new.sink.faults
