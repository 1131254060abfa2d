-- What reading records and snapshots answers, by what they hold.
use Rattle.std.specs.Prelude.{◌≡◌, ℕ, Bool, List, Result, Ok, Err}
use Rattle.seata_types.specs.declared.errors.OpenError.{OpenError}
use Rattle.seata_types.specs.declared.errors.OpenError.TheVariants as open_error
use Rattle.memory_store.specs.declared.errors.ReadError.{ReadError}
use Rattle.memory_store.specs.declared.errors.ReadError.TheVariants as why
use Rattle.memory_store.specs.Meanings.{Meaning}
use Rattle.memory_store.specs.Holdings.{after_one}

-- the memory after a body, or its damage, wherever it stands; after want of memory it is any
abbrev pub TakesIn : {K I : Type 0} → Meaning K I → K → List ℕ → Result (Unit {0}) ReadError → K → Type 0
TakesIn m old body (Ok x) new = (at : ℕ) → after_one m old at (m.record_of body) ≡ Ok new
TakesIn m old body (Err why.Damaged) new = (at : ℕ) → after_one m old at (m.record_of body) ≡ Err at
TakesIn m old body (Err why.NoMemory) new = Unit {0}

-- the memory after records, or the damage among them, on the first or second disk
abbrev pub Replays : {K : Type 0} → Result K ℕ → Bool → Result (Unit {0}) OpenError → K → Type 0
Replays held second (Ok x) new = held ≡ Ok new
Replays held second (Err (open_error.Damaged on at)) new = (on ≡ second) × (held ≡ Err at)
Replays held second (Err open_error.NoMemory) new = Unit {0}
Replays held second (Err open_error.Failed) new = ⊥
Replays held second (Err (open_error.Full full)) new = ⊥

-- the same, where the memory is the answer
abbrev pub Finds : {K : Type 0} → Result K ℕ → Bool → Result K OpenError → Type 0
Finds held second (Ok known) = held ≡ Ok known
Finds held second (Err (open_error.Damaged on at)) = (on ≡ second) × (held ≡ Err at)
Finds held second (Err open_error.NoMemory) = Unit {0}
Finds held second (Err open_error.Failed) = ⊥
Finds held second (Err (open_error.Full full)) = ⊥

-- no other error comes of reading
abbrev pub IsReadingError : OpenError → Type 0
IsReadingError (open_error.Damaged second at) = Unit {0}
IsReadingError open_error.NoMemory = Unit {0}
IsReadingError open_error.Failed = ⊥
IsReadingError (open_error.Full full) = ⊥
