-- What a run names beside its nodes and their records, and the names of no run.
use Rattle.std.specs.Prelude.{ℕ, List, []}
use Rattle.atomic_table.specs.Seated.{TableId}
use Rattle.seata_types.specs.declared.ids.Place.{Place}
use Rattle.history_rules.specs.Nodes.{Past, World}
use Rattle.trace_rules.specs.Stops.{NodeStop}
use Rattle.node_steps.specs.Ends.{Starts, no_starts}

-- the queue of the link from a place to a place, the stops of each place, what is known of the disks, which then tell their bytes, how many
-- each has, and where the journals stood at first; and how many managers and resources there are
pub record Run : Type 1 where
  pub queue : Place → Place → TableId
  pub stops : Place → List NodeStop
  pub tells : Type 0
  pub bytes : ℕ
  pub starts : Starts
  pub managers : ℕ
  pub resources : ℕ

-- a run over disks of which more is known, and whose journals stood there
abbrev pub run_over : Run → (known : Type 0) → Starts → Run
run_over run known starts = record run { tells = run.tells × known; starts = starts }

-- what is so over all records that the disks of a run may have had, where this is known of such disks
abbrev pub OverAll : (held : Past → Starts → Type 0) → Run → (Past → Run → Type 0) → Type 0
OverAll held run Holds = (past : Past) (starts : Starts) → Holds past (run_over run (held past starts) starts)

abbrev pub no_world : World
no_world = record { times = record { retry = 0; forget = 0 }; resources = []; managers = [] }

abbrev pub no_queue : TableId
no_queue = record { words = 0; slots = 0; views_name = 0; atom = 0; block = 0; offset = 0; slot_names = [] }

-- nothing is known
abbrev pub none_known : Past → Starts → Type 0
none_known past starts = ⊥

abbrev pub no_run : Run
no_run = record { queue = λ from to. no_queue; stops = λ p. []; tells = Unit {0}; bytes = 0; starts = no_starts; managers = 0; resources = 0 }
