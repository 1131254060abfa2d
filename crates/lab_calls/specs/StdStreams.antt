-- What the source and the sink over readers and writers tell: the bytes that the reader or the
-- writer tells, and how often it failed.
use Rattle.std.specs.Prelude.{ℕ, List, Option}
use Rattle.lab_calls.specs.Streams.{SourceState, SinkState}
use Rattle.lab_calls.specs.declared.standard.StdSource.{StdSource}
use Rattle.lab_calls.specs.declared.standard.StdSink.{StdSink}

-- the reader; how often a call of the source failed; and both, where this is what a reader still
-- has
abbrev pub reader : {R : Type 0} → StdSource R → R
reader s = s.input

abbrev pub source_faults : {R : Type 0} → StdSource R → ℕ
source_faults s = s.faults

abbrev pub source_state : {R : Type 0} → (R → Option (List ℕ)) → StdSource R → SourceState
source_state remaining s = record { left = remaining s.input; faults = s.faults }

-- the writer; how often a call of the sink failed; and both, where this is what was written to a
-- writer
abbrev pub writer : {W : Type 0} → StdSink W → W
writer s = s.output

abbrev pub sink_faults : {W : Type 0} → StdSink W → ℕ
sink_faults s = s.faults

abbrev pub sink_state : {W : Type 0} → (W → Option (List ℕ)) → StdSink W → SinkState
sink_state contents s = record { written = contents s.output; faults = s.faults }
