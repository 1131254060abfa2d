-- What an act of an answer leaves of the records.
use Rattle.std.proofs.Common.{◌≡◌, ℕ, Bool, true, false, Option, Some, None, refl, sym, ap}
use Rattle.std.specs.Prelude.{IfSome}
use Rattle.seata_types.specs.declared.acts.Act.{Act}
use Rattle.seata_types.specs.declared.acts.Act.TheVariants as act
use Rattle.seata_types.specs.declared.acts.Durable.{Durable}
use Rattle.seata_types.specs.declared.messages.Input.{Input}
use Rattle.durable_records.specs.declared.coordinators.SessionRecord.{SessionRecord}
use Rattle.history_rules.specs.Own.{Left, kept_part, leaves}
use Rattle.session_log.specs.declared.sessions.Snapshot.{Snapshot}
use Rattle.session_memory.specs.Changes.{may_come}
use Rattle.session_memory.proofs.Small.{false_true, none_some}
use Rattle.judged_devices.specs.declared.shown.Shown.TheVariants as shown
use Rattle.judged_devices.specs.Showing.{done_as}
use Rattle.coordinator_rules.specs.Answers.{IsRecorded, is_unrecorded}

-- a record that is asked for may come
pub asked_comes : (s : Snapshot) (given : Input) (now : ℕ) (done : Act) (asked : Option SessionRecord) → IsRecorded s given now done asked → IfSome asked (λ r. may_come s r ≡ true)
asked_comes s given now done None is = tt
asked_comes s given now done (Some r) is = is.may

-- so may the part that is kept, and nothing of nothing
pub kept_comes : (s : Snapshot) (kept : Option Durable) (flight : Option SessionRecord) → IfSome flight (λ r. may_come s r ≡ true) → IfSome (kept_part kept flight) (λ r. may_come s r ≡ true)
kept_comes s None flight may = tt
kept_comes s (Some d) flight may = may

pub none_comes : (s : Snapshot) (o : Option SessionRecord) → o ≡ None → IfSome o (λ r. may_come s r ≡ true)
none_comes s None e = tt
none_comes s (Some r) e = none_some (sym e)

-- the records stay
pub leaves_still : (asked : Option SessionRecord) (left : Left SessionRecord) (done : Act) → is_unrecorded done ≡ true → leaves done asked left ≡ left
leaves_still asked left (act.Durable d) u = false_true u
leaves_still asked left (act.Down kept at) u = false_true u
leaves_still asked left (act.Restarted kept) u = false_true u
leaves_still asked left _ u = refl

-- an answer that is cut short is durable
pub cut_durable : (failed : Bool) (a : Act) (flight : Durable) → done_as failed a ≡ shown.Cut flight → a ≡ act.Durable flight
cut_durable true (act.Durable d) flight e = let same : d ≡ flight = cc in ap act.Durable same
cut_durable false (act.Durable d) flight e = absurd cc
cut_durable failed _ flight e = absurd cc
