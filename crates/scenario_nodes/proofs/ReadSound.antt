-- No damage stands in disks that were read; and why some weren't.
use Rattle.std.proofs.Common.{◌≡◌, inl, inr, ◌∙◌, ◌++◌, ℕ, List, [], ◌∷◌, Ok, Err, ap, sym}
use Rattle.std.specs.List.{AllByRecursion}
use Rattle.disk_model.specs.Disk.{DiskState}
use Rattle.disk_model.specs.Shelf.{ShelfState}
use Rattle.memory_store.specs.declared.store.Store.{Store}
use Rattle.memory_store.specs.Holdings.{memory_on, on_disk, second_in}
use Rattle.memory_store.specs.Keeping.{IsNotFull, IsRead, memory_of}
use Rattle.memory_store.specs.Meanings.{Meaning}
use Rattle.memory_store.proofs.Damages.{memory_here}
use Rattle.seata_types.specs.declared.errors.OpenError.{OpenError}
use Rattle.seata_types.specs.declared.errors.OpenError.TheVariants as why
use Rattle.seata_types.specs.declared.ids.Place.{Place}
use Rattle.scenario_form.specs.declared.scenarios.Scenario.{Scenario}
use Rattle.node_steps.specs.Promises.{place_of}
use Rattle.node_seat.specs.declared.faults.RunFault.{RunFault}
use Rattle.node_seat.specs.declared.faults.RunFault.TheVariants as fault
use Rattle.node_seat.specs.Faults.{open_fault}
use Rattle.scenario_nodes.specs.Nodes.{Server}
use Rattle.scenario_nodes.specs.Opening.{IsShelfFault}
use Rattle.scenario_nodes.specs.Reading.{GivesStill, IsPlaceOf, IsReadFault, IsSound}
use Rattle.scenario_nodes.specs.Shelves.{second_name}

-- ---- bytes that were read

no_error : {K : Type 0} (memory : K) (damage : OpenError) → Ok memory ≡ Err damage → ⊥
no_error memory damage is = cc

pub never_damaged : {M K D I : Type 0} (state : D → DiskState) (m : Meaning K I) (a b : List ℕ) (k : Store M K D) → IsRead state m a b k → (damage : OpenError) → memory_on m a b ≡ Err damage → ⊥
never_damaged state m a b k read damage is =
    let held : memory_on m a b ≡ Ok (memory_of k) = memory_here m a b read.found read.stands ∙ ap (on_disk (second_in a b)) read.keeps.held in
    no_error (memory_of k) damage (sym held ∙ is)

-- ---- a shelf that gives what it gave

module _ {D : Type 0} (state : D → DiskState) (s : Scenario) (old now : ShelfState D) (still : GivesStill state s.disk old now) where
  pub sound_before : (v : Server) → IsSound state now s v → IsSound state old s v
  sound_before v sound a b next = sound a b (record { first = still.next v.name a next.first; second = still.next (second_name v.name) b next.second })

  pub all_sound_before : (vs : List Server) → AllByRecursion (IsSound state now s) vs → AllByRecursion (IsSound state old s) vs
  all_sound_before [] sound = tt
  all_sound_before (v ∷ vs) sound = (sound_before v sound.0, all_sound_before vs sound.1)

-- ---- why they weren't read

-- the two disks of one node: they couldn't be read, or the shelf hadn't them
pub read_cause : (at : Place) (v : Server) → place_of v.role ≡ at → (e : OpenError) → IsNotFull e → IsReadFault (v ∷ []) (open_fault at e)
read_cause at v placed why.Failed room = inl (sym placed)
read_cause at v placed (why.Damaged second offset) room = inl (sym placed)
read_cause at v placed (why.Full full) room = absurd room
read_cause at v placed why.NoMemory room = tt

pub shelf_cause : {D : Type 0} (at : Place) (v : Server) → place_of v.role ≡ at → (old new : ShelfState D) (missed : RunFault) → IsShelfFault at old new missed → IsReadFault (v ∷ []) missed
shelf_cause at v placed old new (fault.Store place) cause = inl (cause.0 ∙ sym placed)
shelf_cause at v placed old new fault.NoMemory cause = tt
shelf_cause at v placed old new (fault.Full place full) cause = absurd cause
shelf_cause at v placed old new (fault.Damaged place second offset) cause = absurd cause
shelf_cause at v placed old new fault.Other cause = absurd cause

-- of more nodes
pub cause_wider : (us vs : List Server) → ((at : Place) → IsPlaceOf us at → IsPlaceOf vs at) → (missed : RunFault) → IsReadFault us missed → IsReadFault vs missed
cause_wider us vs among (fault.Store at) cause = among at cause
cause_wider us vs among (fault.Damaged at second offset) cause = among at cause
cause_wider us vs among fault.NoMemory cause = tt
cause_wider us vs among (fault.Full at full) cause = absurd cause
cause_wider us vs among fault.Other cause = absurd cause

pub place_among : (front : List Server) (v : Server) (rest : List Server) (at : Place) → IsPlaceOf (v ∷ []) at → IsPlaceOf (front ++ v ∷ rest) at
place_among [] v rest at (inl is) = inl is
place_among [] v rest at (inr none) = absurd none
place_among (u ∷ us) v rest at its = inr (place_among us v rest at its)
