-- How records make a memory, as contracts see it.
use Rattle.std.specs.Prelude.{◌≡◌, ℕ, ◌+◌, ◌<◌, Bool, true, All, Option, Some, None, List, Result, Ok, Err}
use Rattle.memory_store.specs.declared.errors.ReadError.{ReadError}
use Rattle.memory_store.specs.declared.errors.ReadError.TheVariants as why
use Rattle.seata_types.specs.declared.limits.TheConstants.{ACTS}

pub record Meaning (Memory Item : Type 0) : Type 1 where
  -- what is known of no records, and after one more
  pub empty : Memory
  pub after : Item → Memory → Memory
  -- whether a record may come
  pub may_come : Memory → Item → Bool
  -- how many records it stands for
  pub acts : Memory → ℕ
  -- the record that bytes are
  pub record_of : List ℕ → Option Item
  -- the memory that a snapshot's bytes are, and the bytes that are written of one
  pub memory_of : List ℕ → Option Memory
  pub snapshot_bytes : Memory → List ℕ
  -- whether a snapshot can be written of what was read, and what holds of all that was
  pub can_write : Memory → Bool
  pub IsSound : Memory → Type 0

-- what always holds of them
pub record IsLawful {Memory Item : Type 0} (m : Meaning Memory Item) : Type 0 where
  pub none : m.acts m.empty ≡ 0
  pub one_more : (known : Memory) (item : Item) → m.may_come known item ≡ true → m.acts (m.after item known) ≡ m.acts known + 1
  pub few : (bytes : List ℕ) (known : Memory) → m.memory_of bytes ≡ Some known → m.acts known < ACTS
  pub sound_empty : m.IsSound m.empty
  pub sound_read : (bytes : List ℕ) (known : Memory) → All (λ b. b < 256) bytes → m.memory_of bytes ≡ Some known → m.IsSound known
  pub sound_after : (known : Memory) (body : List ℕ) (item : Item) → All (λ b. b < 256) body → m.record_of body ≡ Some item → m.may_come known item ≡ true → m.IsSound known → m.IsSound (m.after item known)

-- what reading answers: what there is, or that there is nothing. Want of memory alone is free.
abbrev pub Reads : {X : Type 0} → Option X → Result X ReadError → Type 0
Reads found (Ok x) = found ≡ Some x
Reads found (Err why.Damaged) = found ≡ None
Reads found (Err why.NoMemory) = Unit {0}
