-- What two disks hold, or where it is damaged.
use Rattle.std.proofs.Common.{◌≡◌, ℕ, Bool, Result, Ok, Err, List, refl, sym, ◌∙◌, ap}
use Rattle.seata_types.specs.declared.errors.OpenError.{OpenError}
use Rattle.seata_types.specs.declared.errors.OpenError.TheVariants as open_error
use Rattle.journal_checkpoint.specs.declared.types.Found.{Found}
use Rattle.journal_checkpoint.specs.declared.types.TwinError.{TwinError}
use Rattle.journal_checkpoint.specs.declared.types.TwinError.TheVariants as twin_error
use Rattle.journal_checkpoint.specs.Images.{PairStandsFor, IsPairDamage}
use Rattle.memory_store.specs.Meanings.{Meaning}
use Rattle.memory_store.specs.Holdings.{second_in, held_in, store_error, on_disk, of_pair, memory_on}
use Rattle.memory_store.specs.Replays.{Finds, IsReadingError}
use Rattle.memory_store.specs.Settling.{IsNoDamage}
use Rattle.memory_store.specs.Keeping.{IsDamage, IsNotFull}

abbrev damaged_at : {K : Type 0} → Bool → ℕ → Result K OpenError
damaged_at s at = Err (open_error.Damaged s at)

module _ {K I : Type 0} (m : Meaning K I) (a b : List ℕ) where
  -- what no pair of disks is
  pub pair_damage : (e : TwinError) → IsPairDamage a b e → IsDamage m a b (store_error e)
  unfolding memory_on
  pair_damage (twin_error.Damaged second at) is = ap (of_pair m (second_in a b)) is
  pair_damage twin_error.Failed is = tt
  pair_damage twin_error.NoMemory is = tt

  module _ (found : Found) (stands : PairStandsFor found a b) where
    pub memory_here : memory_on m a b ≡ on_disk (second_in a b) (held_in m found)
    unfolding memory_on
    memory_here = ap (of_pair m (second_in a b)) stands

    -- what no memory is
    pub held_damage : (second : Bool) → second_in a b ≡ second → (e : OpenError) → Finds (held_in m found) second (Err e) → IsDamage m a b e
    held_damage second same (open_error.Damaged on at) (is_on, held) =
        memory_here ∙ ap (on_disk (second_in a b)) held ∙ ap (λ (s : Bool). damaged_at s at) (same ∙ sym is_on)
    held_damage second same open_error.NoMemory held = tt
    held_damage second same open_error.Failed held = absurd held
    held_damage second same (open_error.Full full) held = absurd held

-- an error of a checkpoint is no damage
pub no_damage : {K I : Type 0} (m : Meaning K I) (a b : List ℕ) (e : OpenError) → IsNoDamage e → IsDamage m a b e
no_damage m a b open_error.Failed settles = tt
no_damage m a b open_error.NoMemory settles = tt
no_damage m a b (open_error.Damaged second at) settles = absurd settles
no_damage m a b (open_error.Full full) settles = absurd settles

abbrev found_is : Found → Result Found TwinError
found_is found = Ok found

pub same_found : (a b : List ℕ) (one two : Found) → PairStandsFor one a b → PairStandsFor two a b → one ≡ two
same_found a b one two is too = let same : found_is one ≡ found_is two = sym is ∙ too in cc

pub not_failed : (e : OpenError) → IsReadingError e → e ≡ open_error.Failed → ⊥
not_failed (open_error.Damaged second at) reads is = cc
not_failed open_error.NoMemory reads is = cc
not_failed open_error.Failed reads is = reads
not_failed (open_error.Full full) reads is = reads

-- two disks failed where their store did
pub twin_failed : (e : TwinError) → store_error e ≡ open_error.Failed → e ≡ twin_error.Failed
twin_failed twin_error.Failed is = refl
twin_failed (twin_error.Damaged second at) is = absurd (cc)
twin_failed twin_error.NoMemory is = absurd (cc)

-- ---- no opening is full

pub two_disks_not_full : (e : TwinError) → IsNotFull (store_error e)
two_disks_not_full (twin_error.Damaged second at) = tt
two_disks_not_full twin_error.Failed = tt
two_disks_not_full twin_error.NoMemory = tt

pub reading_not_full : (e : OpenError) → IsReadingError e → IsNotFull e
reading_not_full (open_error.Damaged second at) reads = tt
reading_not_full open_error.NoMemory reads = tt
reading_not_full open_error.Failed reads = tt
reading_not_full (open_error.Full full) reads = reads

pub settling_not_full : (e : OpenError) → IsNoDamage e → IsNotFull e
settling_not_full (open_error.Damaged second at) settles = tt
settling_not_full open_error.NoMemory settles = tt
settling_not_full open_error.Failed settles = tt
settling_not_full (open_error.Full full) settles = settles
