-- What taking rows answers.
use Rattle.std.specs.Prelude.{◌≡◌, List, ◌++◌, Some, None, Result, Ok, Err}
use Rattle.seata_types.specs.declared.ids.Xid.{Xid}
use Rattle.seata_types.specs.declared.ids.Leg.{Leg}
use Rattle.seata_types.specs.declared.rows.RowKey.{RowKey}
use Rattle.lock_table.specs.declared.errors.HoldError.{HoldError}
use Rattle.lock_table.specs.declared.errors.HoldError.TheVariants as errors
use Rattle.lock_table.specs.Locks.{Locks, Holds, first_locked, first_held, with_rows}

-- a row that is held, unless memory was refused
abbrev pub IsHeld : RowKey → Xid → HoldError → Type 0
IsHeld r x (errors.Held key by) = (key ≡ r) × (by ≡ x)
IsHeld r x errors.NoMemory = Unit {0}

-- no other transaction than x holds one of these rows, or the first one that it does; want of memory is free
abbrev pub FindsConflict : Locks → Xid → List RowKey → Result (Unit {0}) HoldError → Type 0
FindsConflict ls x rs (Ok done) = first_locked ls x rs ≡ None
FindsConflict ls x rs (Err (errors.Held key by)) = first_locked ls x rs ≡ Some (key, by)
FindsConflict ls x rs (Err errors.NoMemory) = Unit {0}

-- the branch holds the rows too, where no other transaction holds one of these or of those to check; else the first such
-- row and its holder, and nothing changes. Want of memory alone is free, and then nothing changes.
abbrev pub TakesRows : Holds → Leg → (hold check : List RowKey) → Holds → Result (Unit {0}) HoldError → Type 0
TakesRows old leg hold check new (Ok done) = (first_held old leg.xid (hold ++ check) ≡ None) × (new ≡ with_rows old leg hold)
TakesRows old leg hold check new (Err (errors.Held key by)) = (first_held old leg.xid (hold ++ check) ≡ Some (key, by)) × (new ≡ old)
TakesRows old leg hold check new (Err errors.NoMemory) = new ≡ old
