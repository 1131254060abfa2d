-- What a call of the program does for its words.
use Rattle.std.specs.Prelude.{ℕ, ◌≤◌, Bool, true, false, List, Option, Some, None}
use Rattle.lab_words.specs.declared.orders.Order.{Order}
use Rattle.lab_words.specs.declared.orders.Order.TheVariants as order
use Rattle.lab_words.specs.Grammar.{order_of}
use Rattle.lab_calls.specs.declared.tasks.Task.{Task}
use Rattle.lab_calls.specs.declared.tasks.Task.TheVariants as task

-- the task for what the words ask for
abbrev pub task_by : Option Order → Task
task_by None = task.Usage
task_by (Some order.Replay) = task.Replay
task_by (Some order.Frames) = task.Frames
task_by (Some (order.Run workers)) = task.Run workers
task_by (Some (order.Make n size)) = task.Make n size
task_by (Some (order.Stress n size workers)) = task.Stress n size workers
task_by (Some order.Audit) = task.Audit
task_by (Some order.Show) = task.Show

-- the task for words; their folder, `--store`, says whose disks the shelf gives
abbrev pub task_of : List (List ℕ) → Task
task_of words = task_by (order_of words)

-- whether a task is on a shelf
abbrev pub uses_shelf : Task → Bool
uses_shelf task.Replay = true
uses_shelf (task.Run workers) = true
uses_shelf (task.Stress n size workers) = true
uses_shelf task.Show = true
uses_shelf _ = false

-- whether a task has an input
abbrev pub reads_source : Task → Bool
reads_source task.Replay = true
reads_source (task.Run workers) = true
reads_source task.Frames = true
reads_source task.Audit = true
reads_source _ = false

-- the threads of a run and the size of a made scenario are in their ranges
abbrev pub IsSized : Task → Type 0
IsSized task.Replay = Unit {0}
IsSized (task.Run workers) = (1 ≤ workers) × (workers ≤ 16)
IsSized task.Frames = Unit {0}
IsSized (task.Make n size) = (1 ≤ size) × (size ≤ 256)
IsSized (task.Stress n size workers) = ((1 ≤ size) × (size ≤ 256)) × ((1 ≤ workers) × (workers ≤ 16))
IsSized task.Show = Unit {0}
IsSized task.Audit = Unit {0}
IsSized task.Usage = Unit {0}
