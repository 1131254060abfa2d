-- What two disks owe to the records that they stand for.
use Rattle.std.specs.Prelude.{ℕ}
use Rattle.memory_store.specs.Lists.{HoldsRecords}
use Rattle.session_store.specs.Standing.{lists_of}

-- what they hold is the snapshot of each list of records that they stand for; a body behind these that may not follow is the
-- damage; and what goes on stands for the same lists
abbrev pub DisksHoldRecords : Type 0
DisksHoldRecords = (managers resources : ℕ) → HoldsRecords (lists_of managers resources)
