-- How the records of a coordinator with so many managers and resources make what it knows, and how both are read.
use Rattle.std.specs.Prelude.{◌≡◌, ℕ, ◌+◌, [], refl}
use Rattle.durable_records.specs.declared.coordinators.SessionRecord.{SessionRecord}
use Rattle.durable_records.specs.declared.coordinators.SessionRecord.TheVariants as log
use Rattle.session_log.specs.declared.sessions.Snapshot.{Snapshot}
use Rattle.session_log.specs.Records.{record_of}
use Rattle.session_log.specs.Snapshots.{snapshot_in_bytes, snapshot_bytes}
use Rattle.session_log.specs.Soundness.{if_sound}
use Rattle.session_log.specs.SnapshotOf.{snapshot_of}
use Rattle.memory_store.specs.Meanings.{Meaning, IsLawful}
use Rattle.session_memory.specs.Changes.{after, may_come}
use Rattle.session_memory.specs.Writing.{if_within, if_held_once, can_write, HasPlaces}
use Rattle.session_memory.proofs.WritingLaws.{no_places, sound_read, sound_after, few_read}

abbrev pub acts_of : Snapshot → ℕ
acts_of s = s.acts

abbrev pub meaning_of : (managers resources : ℕ) → Meaning Snapshot SessionRecord
meaning_of managers resources = record {
  empty = snapshot_of [];
  after = after;
  may_come = may_come;
  acts = acts_of;
  record_of = λ bytes. if_within managers resources (record_of bytes);
  memory_of = λ bytes. if_held_once (if_sound managers resources (snapshot_in_bytes bytes));
  snapshot_bytes = snapshot_bytes;
  can_write = can_write;
  IsSound = HasPlaces;
}

-- ---- its laws

one_more : (s : Snapshot) (r : SessionRecord) → acts_of (after r s) ≡ acts_of s + 1
one_more s (log.Begun xid manager begun timeout) = refl
one_more s (log.Granted xid branch resource call ticket kind hold) = refl
one_more s (log.Decided xid how) = refl
one_more s (log.Retrying xid) = refl
one_more s (log.Ended xid branch) = refl
one_more s (log.Failed xid branch stmt) = refl
one_more s (log.Finished xid) = refl
one_more s (log.Forgot xid) = refl

pub lawful : (managers resources : ℕ) → IsLawful (meaning_of managers resources)
lawful managers resources = record {
  none = refl;
  one_more = λ s r may. one_more s r;
  few = λ bytes s e. few_read managers resources bytes s e;
  sound_empty = no_places;
  sound_read = λ bytes s all e. sound_read managers resources bytes s e all;
  sound_after = sound_after managers resources;
}
