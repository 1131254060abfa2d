-- Rows that are computed: disks of the least size have room for 127 begun transactions, and the next one would end at 4,106.
use Rattle.std.proofs.Common.{◌≡◌, ℕ, ◌+◌, ◌*◌, zero, suc, false, List, [], ◌∷◌, None, refl, arith}
use Rattle.session_log.specs.Records.{fields_bytes}
use Rattle.session_log.specs.Snapshots.{snapshot_fields, entry_fields, failure_bytes, all_forgotten_bytes}
use Rattle.resource_log.specs.Records as resource_bytes
use Rattle.seata_types.specs.declared.acts.Act.TheVariants as act
use Rattle.seata_types.specs.declared.acts.Durable.TheVariants as durable
use Rattle.seata_types.specs.declared.messages.Input.{Input}
use Rattle.seata_types.specs.declared.messages.Input.TheVariants as input
use Rattle.seata_types.specs.declared.messages.Message.TheVariants as message
use Rattle.seata_types.specs.declared.ids.Place.TheVariants as place
use Rattle.durable_records.specs.declared.coordinators.SessionRecord.{SessionRecord}
use Rattle.durable_records.specs.declared.coordinators.SessionRecord.TheVariants as log
use Rattle.journal_checkpoint.specs.Extents.{blank}
use Rattle.history_rules.specs.Own.{Own, Stopped, Crashed, Restarted, still}
use Rattle.history_rules.specs.ResourceMemory.{Setup}
use Rattle.history_rules.specs.Nodes.{Role, Coordinator}
use Rattle.node_steps.specs.Ends.{EntryFits, ends_at, extent, session_recording, resource_recording}
use Rattle.node_steps.specs.Promises.{cut, own_entry, own_step}

-- ---- without a restart

abbrev begin : Input
begin = input.Message (place.Man 1) (message.Begin 1 60000)

abbrev begun : ℕ → Own
begun n = own_step begin 0 (still (act.Durable (durable.Begun (record { 0 = n }))))

abbrev begins : ℕ → List Own
begins zero = []
begins (suc n) = begun (suc n) ∷ begins n

-- the record that it makes, of 27 bytes
abbrev its_record : ℕ → SessionRecord
its_record n = log.Begun (record { 0 = n }) 1 0 60000

abbrev tc : Role
tc = Coordinator (record { retry = 1000; forget = 0 }) []

is_full : ends_at (session_recording []) blank 4096 (begins 127) (begun 128) (its_record 128) ≡ 4106
unfolding fields_bytes
is_full = refl

-- it isn't made by a snapshot in the midst of a run
snapshot_is_excluded : EntryFits tc blank 4096 (begins 127) (begun 128) → ⊥
snapshot_is_excluded fits = omega (arith, fits (its_record 128) refl, is_full)

-- nor is the node down at it, where a stop would come first
abbrev stopped : Own
stopped = own_entry (Stopped 0) 0 (still act.Armed)

abbrev fallen : Own
fallen = own_step begin 0 (cut (durable.Begun (record { 0 = 128 })))

is_full_too : ends_at (session_recording []) blank 4096 (stopped ∷ begins 127) fallen (its_record 128) ≡ 4106
unfolding fields_bytes
is_full_too = refl

stop_first_is_excluded : EntryFits tc blank 4096 (stopped ∷ begins 127) fallen → ⊥
stop_first_is_excluded fits = omega (arith, fits (its_record 128) refl, is_full_too)

-- ---- after a crash and a restart

abbrev again : ℕ → List Own
again n = own_entry (Restarted 0 None) 0 (still (act.Restarted None)) ∷ own_entry Crashed 0 (still (act.Down None None)) ∷ begins n

-- on disks of 256 bytes after 5 begins: a snapshot of 29 bytes and 30 for each transaction stands in place of the records
is_settled : ends_at (session_recording []) blank 256 (again 5) (begun 6) (its_record 6) ≡ 9 + (29 + 5 * 30) + 27 + 6
unfolding fields_bytes snapshot_fields entry_fields failure_bytes all_forgotten_bytes
is_settled = refl

-- after 4 begins none is due
is_short : ends_at (session_recording []) blank 256 (again 4) (begun 5) (its_record 5) ≡ 9 + 4 * 32 + 27 + 6
unfolding fields_bytes snapshot_fields entry_fields failure_bytes all_forgotten_bytes
is_short = refl

-- ---- a resource

-- the record of its first boot has 5 bytes, and the next record begins at offset 19
its_boot : (s : Setup) → extent (resource_recording s []) blank 4096 [] ≡ record { second = false; generation = 0; begins = 9; end = 19 }
unfolding resource_bytes.fields_bytes
its_boot s = refl
