-- Where the journal of a node stands after its own entries, and which records have a place there: by the entries, by where it stood at the
-- first opening, and by the size of both disks.
use Rattle.std.specs.Prelude.{◌≡◌, ◌⊎◌, ℕ, ◌≤◌, List, [], ◌∷◌, length, Option, Some, None}
use Rattle.disk_journal.specs.Keeping.{IsFull}
use Rattle.journal_checkpoint.specs.Extents.{Extent, blank, extent_of, longer, needed}
use Rattle.journal_checkpoint.specs.declared.types.Found.{Found}
use Rattle.journal_checkpoint.specs.Images.{Pair, PairStandsFor}
use Rattle.memory_store.specs.Checkpoints.{Saving, checked}
use Rattle.seata_types.specs.declared.acts.Act.{Act}
use Rattle.seata_types.specs.declared.acts.Act.TheVariants as act
use Rattle.seata_types.specs.declared.errors.Full.{Full}
use Rattle.seata_types.specs.declared.ids.Place.{Place}
use Rattle.durable_records.specs.declared.coordinators.SessionRecord.{SessionRecord}
use Rattle.durable_records.specs.declared.resources.ResourceRecord.{ResourceRecord}
use Rattle.session_log.specs.Records as session_bytes
use Rattle.session_log.specs.Snapshots as session_snapshots
use Rattle.session_log.specs.SnapshotOf as sessions_now
use Rattle.session_memory.specs.Writing.{can_write}
use Rattle.resource_log.specs.Records as resource_bytes
use Rattle.resource_log.specs.Snapshots as resource_snapshots
use Rattle.resource_memory.specs.Known.{known_of}
use Rattle.resource_memory.specs.Snapshots.{snapshot_in}
use Rattle.resource_memory.specs.Keeping.{has_room}
use Rattle.history_rules.specs.Own.{Event, Restarted, Own, Left, kept_by, kept_records}
use Rattle.history_rules.specs.CoordinatorMemory.{sessions_left, session_asked}
use Rattle.history_rules.specs.ResourceMemory.{Setup, memory, opening_tables, resource_asked, boot_over}
use Rattle.history_rules.specs.Nodes.{Role, Coordinator, Resource, Manager, World, Past, role_at}
use Rattle.history_rules.specs.Histories.{Moment, own}

-- ---- the records of a node

-- how the records of a node come to its journal
pub record Recording (R : Type 0) : Type 0 where
  -- the bytes of one, and the snapshot that would be written in place of some
  pub bytes : R → List ℕ
  pub saving : List R → Saving
  -- those before the first entry, and the one that the first opening adds, if it adds one
  pub past : List R
  pub first : Option R
  -- what own entries leave, and the record that one more makes, or asks for as the node goes down
  pub left : List Own → Left R
  pub made : List Own → Own → Option R

abbrev pub session_saving : List SessionRecord → Saving
session_saving rs = record {
  acts = length rs;
  can = can_write (sessions_now.snapshot_of rs);
  count = length (session_snapshots.snapshot_bytes (sessions_now.snapshot_of rs));
}

-- the coordinator's
abbrev pub session_recording : List SessionRecord → Recording SessionRecord
session_recording past = record {
  bytes = session_bytes.record_bytes;
  saving = session_saving;
  past = past;
  first = None;
  left = sessions_left past;
  made = λ os o. session_asked o;
}

abbrev pub resource_saving : Setup → List ResourceRecord → Saving
resource_saving s rs = record {
  acts = length rs;
  can = has_room (known_of (opening_tables s) rs);
  count = length (resource_snapshots.snapshot_bytes (snapshot_in (known_of (opening_tables s) rs)));
}

-- a restart that is done makes a boot
abbrev pub boot_or : Act → Left ResourceRecord → Option ResourceRecord → Option ResourceRecord
boot_or (act.Restarted kept) left asked = Some (boot_over (kept_records (act.Restarted kept) left))
boot_or done left asked = asked

-- a resource's
abbrev pub resource_recording : Setup → List ResourceRecord → Recording ResourceRecord
resource_recording s past = record {
  bytes = resource_bytes.record_bytes;
  saving = resource_saving s;
  past = past;
  first = Some (boot_over past);
  left = λ os. (memory s past os).left;
  made = λ os o. boot_or o.step.act (memory s past os).left (resource_asked s (memory s past os) o);
}

-- ---- its journal, which stood at `start`, on two disks of a size

module _ {R : Type 0} (j : Recording R) (start : Extent) (size : ℕ) where
  -- with a record, where there is one
  abbrev pub with_added : Option R → Extent → Extent
  with_added None e = e
  with_added (Some r) e = longer (length (j.bytes r)) e

  -- read again, with what was kept of the record in flight, and a snapshot in place of all where one is due
  abbrev pub reopened : Act → Left R → Extent → Extent
  reopened done left e = checked size (j.saving (kept_records done left)) (with_added (kept_by done left.flight) e)

  -- where the record of an entry comes: a restart of a node that is down reads its disks before
  abbrev pub before : Event → Act → Left R → Extent → Extent
  before (Restarted pick calls) (act.Restarted kept) left e = reopened (act.Restarted kept) left e
  before (Restarted pick calls) (act.Down kept at) left e = reopened (act.Down kept at) left e
  before event done left e = e

  -- after it: the record of a durable act and a boot stand, one at which the node went down is in flight
  abbrev pub behind : Act → Option R → Extent → Extent
  behind (act.Durable done) made e = with_added made e
  behind (act.Restarted kept) made e = with_added made e
  behind done made e = e

  -- after own entries
  abbrev pub extent : List Own → Extent
  extent [] = with_added j.first (checked size (j.saving j.past) start)
  extent (o ∷ os) = behind o.step.act (j.made os o) (before o.event o.step.act (j.left os) (extent os))

  -- where the record of one more entry would end, if it had these bytes
  abbrev pub ends_at : List Own → Own → R → ℕ
  ends_at os o r = needed (before o.event o.step.act (j.left os) (extent os)) (length (j.bytes r))

  -- the record that an entry makes or asks for, if there is one, ends within the disk
  abbrev pub Fits : List Own → Own → Type 0
  Fits os o = (r : R) → j.made os o ≡ Some r → ends_at os o r ≤ size

  -- there is one, and it would end behind the disk's last byte, with both numbers
  abbrev pub IsOver : List Own → Own → Full → Type 0
  IsOver os o full = (r : R) × (j.made os o ≡ Some r) × IsFull (ends_at os o r) size full

  -- each pair of images holds what stands where the entries leave it, or that with the record in flight
  abbrev pub IsLaid : List Own → Pair → Type 0
  IsLaid os disks =
      (a b : List ℕ) → disks.first.may_leave a → disks.second.may_leave b →
      (found : Found) × PairStandsFor found a b
      × ((extent_of found ≡ extent os) ⊎ ((r : R) × ((j.left os).flight ≡ Some r) × (extent_of found ≡ longer (length (j.bytes r)) (extent os))))

-- ---- by the role of the node; a manager has no journal

abbrev pub EntryFits : Role → (start : Extent) → (size : ℕ) → List Own → Own → Type 0
EntryFits (Coordinator times past) start size os o = Fits (session_recording past) start size os o
EntryFits (Resource setup past) start size os o = Fits (resource_recording setup past) start size os o
EntryFits (Manager settings) start size os o = Unit {0}

abbrev pub EntryOver : Role → (start : Extent) → (size : ℕ) → List Own → Own → Full → Type 0
EntryOver (Coordinator times past) start size os o full = IsOver (session_recording past) start size os o full
EntryOver (Resource setup past) start size os o full = IsOver (resource_recording setup past) start size os o full
EntryOver (Manager settings) start size os o full = ⊥

abbrev pub AreLaid : Role → (start : Extent) → (size : ℕ) → List Own → Pair → Type 0
AreLaid (Coordinator times past) start size os disks = IsLaid (session_recording past) start size os disks
AreLaid (Resource setup past) start size os disks = IsLaid (resource_recording setup past) start size os disks
AreLaid (Manager settings) start size os disks = Unit {0}

-- ---- in a history

-- where the journals of the nodes stood at their first openings; on disks of zero bytes
abbrev pub Starts : Type 0
Starts = Place → Extent

abbrev pub no_starts : Starts
no_starts p = blank

-- a moment at a node is an own entry, whose record has a place
abbrev pub MomentFits : Option Role → Option Event → Extent → (size : ℕ) → List Own → Moment → Type 0
MomentFits (Some role) (Some event) start size os m = EntryFits role start size os (record { event = event; now = m.now; step = m.step })
MomentFits role event start size os m = Unit {0}

-- each record that was made or asked for has a place on the disks of its node
abbrev pub AllFit : World → Past → Starts → (size : ℕ) → List Moment → Type 0
AllFit w past starts size [] = Unit {0}
AllFit w past starts size (m ∷ ms) = AllFit w past starts size ms × MomentFits (role_at w past m.place) m.event (starts m.place) size (own m.place ms) m
