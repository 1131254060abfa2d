-- A stop, and what it makes of the disk below it.
use Rattle.std.specs.Prelude.{◌≡◌, IsTrue, ℕ, zero, suc, ◌+◌, ◌-◌, ◌^◌, min, Bool, true, false, Option, Some, None}
use Rattle.std.proofs.Common.{refl, arith}
use Rattle.std.proofs.lemmas.Bool.{false≢true}
use Rattle.disk_model.specs.Disk.{DiskState, IsLawful}
use Rattle.disk_model.specs.declared.stoppable.Stop.{Stop}
use Rattle.disk_model.specs.declared.stoppable.Stop.TheVariants.{Off, Armed, Stopped}
use Rattle.disk_model.specs.declared.stoppable.Stoppable.{Stoppable}

abbrev pub below : {D : Type 0} → Stoppable D → D
below disk = disk.disk

abbrev pub stop_of : {D : Type 0} → Stoppable D → Stop
stop_of disk = disk.stop

-- how often a call failed since the stop let no more pass
abbrev pub failures_of : {D : Type 0} → Stoppable D → ℕ
failures_of disk = disk.failures

-- how many writes and syncs still pass
abbrev pub left_of : Stop → Option ℕ
left_of Off = None
left_of (Armed calls) = Some calls
left_of Stopped = Some 0

-- it has failed a call
abbrev pub has_failed : Stop → Bool
has_failed Off = false
has_failed (Armed calls) = false
has_failed Stopped = true

-- the stop after a write or a sync, which answered Ok or not
abbrev pub next_stop : Bool → Stop → Stop
next_stop ok Off = Off
next_stop ok Stopped = Stopped
next_stop ok (Armed zero) = Stopped
next_stop true (Armed (suc calls)) = Armed calls
next_stop false (Armed (suc calls)) = Armed (suc calls)

-- it lets no write or sync pass
abbrev pub lets_none : Stop → Bool
lets_none Off = false
lets_none (Armed zero) = true
lets_none (Armed (suc calls)) = false
lets_none Stopped = true

-- how often the stop has failed a call, after one more call that it failed or not; at its type's end it stands still
abbrev pub next_failures : Bool → ℕ → ℕ
next_failures true failures = min (failures + 1) (2 ^ 64 - 1)
next_failures false failures = failures

-- the disk below, with the failures of the stop among its faults
abbrev pub with_stop : Stop → ℕ → DiskState → DiskState
with_stop stop failures disk = record disk {
  counts = record { faults = disk.counts.faults + failures; own = disk.counts.faults; left = left_of stop; stopped = has_failed stop };
}

-- what contracts see of a disk with a stop, by what they see of the disk below it
abbrev pub state_of : {D : Type 0} → (D → DiskState) → Stoppable D → DiskState
state_of state disk = with_stop (stop_of disk) (failures_of disk) (state (below disk))

failed_lets_none : (stop : Stop) → IsTrue (has_failed stop) → left_of stop ≡ Some 0
failed_lets_none Off never = absurd (false≢true never)
failed_lets_none (Armed calls) never = absurd (false≢true never)
failed_lets_none Stopped failed = refl

-- what holds of every disk still holds with a stop
pub stopped_lawful : (stop : Stop) (failures : ℕ) (disk : DiskState) → IsLawful disk → IsLawful (with_stop stop failures disk)
stopped_lawful stop failures disk lawful = record {
  present_may_stay = lawful.present_may_stay;
  told = lawful.told;
  moments_told = lawful.moments_told;
  full_size = lawful.full_size;
  counts_now = lawful.counts_now;
  only_now = lawful.only_now;
  own_among_faults = omega arith;
  stopped_lets_none = failed_lets_none stop;
}
