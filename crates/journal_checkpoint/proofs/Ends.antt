-- Where the records end that two disks keep.
use Rattle.std.proofs.Common.{ℕ, Bool, true, false, List, ap}
use Rattle.disk_model.specs.Disk.{DiskState, IsLawful}
use Rattle.disk_journal.specs.Journals.{end_of}
use Rattle.disk_journal.specs.Keeping.{IsFull}
use Rattle.seata_types.specs.declared.errors.Full.{Full}
use Rattle.journal_checkpoint.specs.declared.types.Found.{Found}
use Rattle.journal_checkpoint.specs.declared.twin.Twin.{Twin}
use Rattle.journal_checkpoint.specs.Pairs.{chosen}
use Rattle.journal_checkpoint.specs.Images.{Pair}
use Rattle.journal_checkpoint.specs.Ends.{EndAt, HasNoPlace}
use Rattle.journal_checkpoint.specs.Extents.{Extent}
use Rattle.journal_checkpoint.specs.Keeping.{KeepsPair, active_disk, other_disk, first_disk, second_disk, needed_for, ordered}
use Rattle.journal_checkpoint.proofs.Kept.{kept_pairs}

-- images of the two disks in order
in_order_too : {D : Type 0} (state : D → DiskState) (s : Bool) (x y : D) (a b : List ℕ) → (state (chosen s x y)).may_leave a → (state (chosen s y x)).may_leave b
    → (ordered s (state x) (state y)).first.may_leave a × (ordered s (state x) (state y)).second.may_leave b
in_order_too state true x y a b one two = (one, two)
in_order_too state false x y a b one two = (one, two)

module _ {D : Type 0} (state : D → DiskState) (law : (d : D) → IsLawful (state d)) (found : Found) (t : Twin D) (keeps : KeepsPair state found t) where
  abbrev pub in_order : Pair
  in_order = record { first = state (first_disk t); second = state (second_disk t) }

  ends_there : EndAt in_order (end_of t.journal)
  ends_there a b one two =
      let (first, second) = in_order_too state t.second (active_disk t) (other_disk t) a b one two in
      (found, (kept_pairs state law found t keeps).now a b first second, ap (λ (e : Extent). e.end) keeps.extent)

  -- a record that doesn't fit has no place behind those that each pair of images holds
  pub no_place : (size body : ℕ) (full : Full) → IsFull (needed_for t body) size full → HasNoPlace in_order size body full
  no_place size body full past = record { end = end_of t.journal; held = ends_there; past_end = past }
