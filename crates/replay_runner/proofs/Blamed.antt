-- Why no entry was made, as other disks show it that leave the same bytes.
use Rattle.std.proofs.Common.{◌≡◌, ◌-◌, ◌^◌, ◌+◌, ◌≤◌, ℕ, min, List, subst}
use Rattle.journal_checkpoint.specs.Extents.{Extent}
use Rattle.journal_checkpoint.specs.Images.{Pair}
use Rattle.journal_checkpoint.specs.Ends.{HasNoPlace}
use Rattle.seata_types.specs.declared.errors.Full.{Full}
use Rattle.seata_types.specs.declared.ids.Place.{Place}
use Rattle.history_rules.specs.Own.{Event, Given, Stopped, Crashed, Restarted, Own}
use Rattle.history_rules.specs.Devices.{fault_entries}
use Rattle.history_rules.specs.Nodes.{Role, writes_boot}
use Rattle.node_steps.specs.Durable.{own_faults}
use Rattle.node_seat.specs.Faults.{Blames, IsPastEnd, Overflows}
use Rattle.node_seat.specs.declared.faults.RunFault.{RunFault}
use Rattle.node_seat.specs.declared.faults.RunFault.TheVariants as fault

-- the second two disks leave no other bytes than the first two, and counted as many faults
pub record Alike (disks others : Pair) : Type 0 where
  pub first : (a : List ℕ) → others.first.may_leave a → disks.first.may_leave a
  pub second : (b : List ℕ) → others.second.may_leave b → disks.second.may_leave b
  pub faults : own_faults disks ≡ own_faults others

module _ (disks others : Pair) (alike : Alike disks others) (role : Role) (start : Extent) (size : ℕ) (owns : List Own) where
  no_place : (body : ℕ) (full : Full) → HasNoPlace disks size body full → HasNoPlace others size body full
  no_place body full is = record { end = is.end; held = λ a b one two. is.held a b (alike.first a one) (alike.second b two); past_end = is.past_end }

  past_end : (o : Own) (full : Full) → IsPastEnd role start size owns o disks full → IsPastEnd role start size owns o others full
  past_end o full is = record { by_entries = is.by_entries; bytes = is.bytes; asked = is.asked; on_disks = no_place _ full is.on_disks }

  overflows : (now : ℕ) (event : Event) (full : Full) → Overflows role start size owns now event disks full → Overflows role start size owns now event others full
  overflows now (Given given) full (up, is) = (up, past_end _ full is)
  overflows now (Restarted pick calls) full (down, keeps, is) = (down, keeps, past_end _ full is)
  overflows now (Stopped calls) full is = absurd is
  overflows now Crashed full is = absurd is

  pub blames_alike : (at : Place) (now : ℕ) (event : Event) (missed : RunFault) → Blames at role start size owns now event disks missed → Blames at role start size owns now event others missed
  blames_alike at now event (fault.Store q) (here, down, restart, counted) =
      (here, down, restart, subst (λ n. min (fault_entries (writes_boot role) owns + 1) (2 ^ 64 - 1) ≤ n) alike.faults counted)
  blames_alike at now event (fault.Full q full) (here, is) = (here, overflows now event full is)
  blames_alike at now event (fault.Damaged q second offset) is = absurd is
  blames_alike at now event fault.Other is = absurd is
  blames_alike at now event fault.NoMemory is = tt
