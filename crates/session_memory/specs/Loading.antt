-- Which snapshots are loaded: those in which no row has two holders.
use Rattle.std.specs.Prelude.{◌≡◌, ◌&&◌, Bool, true, false, [], ◌∷◌, is_none, Result, Ok, Err}
use Rattle.lock_table.specs.Locks.{Holds, HaveOneHolder, first_held, with_rows}
use Rattle.session_log.specs.declared.sessions.Snapshot.{Snapshot}
use Rattle.session_memory.specs.declared.errors.LoadError.{LoadError}
use Rattle.session_memory.specs.declared.errors.LoadError.TheVariants as errors
use Rattle.session_memory.specs.Holding.{held_in}

-- the rows of each branch are free for its transaction beside those of the branches behind it
abbrev pub are_held_once : Holds → Bool
are_held_once [] = true
are_held_once (e ∷ es) = is_none (first_held es e.0.xid e.1) && are_held_once es

-- this test tells whether no row has two holders
pub record TellsHolders (hs : Holds) : Type 0 where
  pub once : are_held_once hs ≡ true → HaveOneHolder hs
  pub passes : HaveOneHolder hs → are_held_once hs ≡ true

abbrev pub HoldersAreTold : Type 0
HoldersAreTold = (hs : Holds) → TellsHolders hs

-- what loading a snapshot answers: the memory of it, or that a row has two holders. Want of memory alone is free.
abbrev pub LoadsSnapshot : Snapshot → Result Snapshot LoadError → Type 0
LoadsSnapshot s (Ok known) = (are_held_once (held_in s) ≡ true) × (known ≡ s)
LoadsSnapshot s (Err errors.Damaged) = are_held_once (held_in s) ≡ false
LoadsSnapshot s (Err errors.NoMemory) = Unit {0}

-- ---- rows that are taken branch by branch

abbrev pub taken : Holds → Holds → Holds
taken old [] = old
taken old (e ∷ es) = taken (with_rows old e.0 e.1) es

-- each branch finds its rows free
abbrev pub are_taken : Holds → Holds → Bool
are_taken old [] = true
are_taken old (e ∷ es) = is_none (first_held old e.0.xid e.1) && are_taken (with_rows old e.0 e.1) es

-- what taking these answers
abbrev pub TakesEach : Holds → Holds → Result (Unit {0}) LoadError → Holds → Type 0
TakesEach old more (Ok done) new = (are_taken old more ≡ true) × (new ≡ taken old more)
TakesEach old more (Err errors.Damaged) new = are_taken old more ≡ false
TakesEach old more (Err errors.NoMemory) new = Unit {0}
