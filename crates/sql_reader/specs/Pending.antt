-- For the proofs alone: what a stack of tasks is still to write.
use Rattle.std.specs.Prelude.{ℕ, ◌+◌, ◌*◌, List, [], ◌∷◌, ◌++◌}
use Rattle.seata_types.specs.Condition.{nodes}
use Rattle.sql_reader.specs.declared.tasks.Task.{Task}
use Rattle.sql_reader.specs.declared.tasks.Task.TheVariants as task
use Rattle.sql_reader.specs.Canonical.{Piece, Fixed, condition_pieces}

-- the pieces of one task
abbrev pub task_pieces : Task → List Piece
task_pieces (task.Symbol found) = Fixed found ∷ []
task_pieces (task.Part part) = condition_pieces part.now

-- the pieces of a stack, whose last task is the next one
unfoldable pub stacked : List Task → List Piece
stacked [] = []
stacked (t ∷ ts) = stacked ts ++ task_pieces t

-- Turns that are enough for one task. A part leaves two parts of its own, a symbol between them and two pairs of
-- parentheses at most.
abbrev pub task_turns : Task → ℕ
task_turns (task.Symbol found) = 1
task_turns (task.Part part) = 6 * nodes part.now

-- turns that are enough for a stack
unfoldable pub turns : List Task → ℕ
turns [] = 0
turns (t ∷ ts) = task_turns t + turns ts
