-- A queue of moments with transactions, and the plans that it has to tell.
use Rattle.std.specs.Prelude.{◌≡◌, ℕ, ◌≤◌, ◌==◌, ◌&&◌, Bool, true, false, List, [], ◌∷◌, length, Option, Some, None}
use Rattle.std.specs.List.{list_any}
use Rattle.std.specs.BinaryHeap.{IsHeap}
use Rattle.std.specs.declared.cmp.Ordering.{Ordering}
use Rattle.std.specs.declared.cmp.Reverse.{Reverse}
use Rattle.std.specs.Ordering.{nat_cmp, ordering_then}
use Rattle.retry_turns.specs.Plans.{Plans, moment_of, goes_before}

-- moments with their transactions, as the code's heap keeps them
abbrev pub Queue : Type 0
Queue = List (Reverse (ℕ × ℕ))

-- the least moment is the greatest item, and of those the least number
abbrev pub queue_cmp : Reverse (ℕ × ℕ) → Reverse (ℕ × ℕ) → Ordering
queue_cmp a b = ordering_then (nat_cmp b.0.0 a.0.0) (nat_cmp b.0.1 a.0.1)

abbrev pub IsInOrder : Queue → Type 0
IsInOrder queue = IsHeap queue_cmp queue

abbrev pub is_item : (moment x : ℕ) → Reverse (ℕ × ℕ) → Bool
is_item moment x item = (item.0.0 == moment) && (item.0.1 == x)

-- what comes first: a moment and a transaction
abbrev pub first_of : Queue → Option (ℕ × ℕ)
first_of [] = None
first_of (item ∷ items) = Some item.0

-- whether x stands in the queue with this moment
abbrev pub has : Queue → (moment x : ℕ) → Bool
has queue moment x = list_any (is_item moment x) queue

-- nothing in the queue goes before this moment and transaction
abbrev pub IsLeast : ℕ × ℕ → Queue → Type 0
IsLeast p queue = (x moment : ℕ) → has queue moment x ≡ true → goes_before moment x p.0 p.1 ≡ false

-- the queue is in order, it has each plan, and there is room for all plans
pub record Keeps (ps : Plans) (queue : Queue) (room : ℕ) : Type 0 where
  pub order : IsInOrder queue
  pub there : (x moment : ℕ) → moment_of ps x ≡ Some moment → has queue moment x ≡ true
  pub enough : length ps ≤ room

-- the queue keeps the plans, and what comes first is one of them
pub record IsQueueOf (ps : Plans) (queue : Queue) (room : ℕ) : Type 0 where
  pub keeps : Keeps ps queue room
  pub first : (moment x : ℕ) → first_of queue ≡ Some (moment, x) → moment_of ps x ≡ Some moment

-- the same before x, which is planned, is put in
pub record Awaits (ps : Plans) (x moment : ℕ) (queue : Queue) (room : ℕ) : Type 0 where
  pub order : IsInOrder queue
  pub planned : moment_of ps x ≡ Some moment
  pub others : (y n : ℕ) → moment_of ps y ≡ Some n → (y == x) ≡ false → has queue n y ≡ true
  pub enough : length ps ≤ room
