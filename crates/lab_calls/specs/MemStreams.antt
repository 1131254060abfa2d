-- What the source and the sink in memory tell, and which of their calls fail.
use Rattle.std.specs.Prelude.{ℕ, ◌+◌, ◌-◌, ◌^◌, min, nat_eq, Bool, List, drop, take, length, Some}
use Rattle.std.specs.List.{list_any}
use Rattle.lab_calls.specs.Streams.{SourceState, SinkState}
use Rattle.lab_calls.specs.declared.memory.MemSource.{MemSource}
use Rattle.lab_calls.specs.declared.memory.MemSink.{MemSink}

-- ---- calls, counted from 1

-- the number of the next call after so many; it stands still at its greatest value
abbrev pub next_call : ℕ → ℕ
next_call calls = min (calls + 1) (2 ^ 32 - 1)

-- whether the next call after so many is one that fails
abbrev pub fails_next : List ℕ → ℕ → Bool
fails_next failing calls = list_any (λ call. nat_eq call (next_call calls)) failing

-- ---- a source

-- the bytes that are left
abbrev pub left_of : MemSource → List ℕ
left_of s = drop s.at s.bytes.items

-- it tells them, and how often it failed
abbrev pub source_state : MemSource → SourceState
source_state s = record { left = Some (left_of s); faults = s.faults }

-- the calls that fail
abbrev pub source_fails : MemSource → List ℕ
source_fails s = s.failing.items

-- the most bytes that a call gives
abbrev pub source_step : MemSource → ℕ
source_step s = s.step

-- how many calls there were
abbrev pub source_calls : MemSource → ℕ
source_calls s = s.calls

-- ---- a sink

-- it tells the bytes that were put into it, and how often it failed
abbrev pub sink_state : MemSink → SinkState
sink_state s = record { written = Some (take s.at s.bytes.items); faults = s.faults }

-- for how many bytes there is still room
abbrev pub room_left : MemSink → ℕ
room_left s = length s.bytes.items - s.at

-- the most bytes that a call takes
abbrev pub sink_step : MemSink → ℕ
sink_step s = s.step

-- the calls that fail, and how many there were
abbrev pub sink_fails : MemSink → List ℕ
sink_fails s = s.failing.items

abbrev pub sink_calls : MemSink → ℕ
sink_calls s = s.calls
