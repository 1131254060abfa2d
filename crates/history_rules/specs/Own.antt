-- A node's own entries, newest first, and the records that they leave over those that its disks had before.
use Rattle.std.specs.Prelude.{ℕ, List, ◌∷◌, Option, Some, None}
use Rattle.seata_types.specs.declared.acts.Act.{Act}
use Rattle.seata_types.specs.declared.acts.Act.TheVariants as act
use Rattle.seata_types.specs.declared.acts.Durable.{Durable}
use Rattle.seata_types.specs.declared.ids.Place.{Place}
use Rattle.seata_types.specs.declared.messages.Input.{Input}
use Rattle.seata_types.specs.declared.messages.Message.{Message}
use Rattle.seata_types.specs.declared.messages.Step.{Step}

-- what happens to a node: it is given a turn, a message or a local transaction; a stop arms its disk; it crashes; or it
-- is restarted, with what a crash leaves open on its disks and the calls after which they stop, if any
pub data Event : Type 0 where
  Given : (input : Input) → Event
  Stopped : (calls : ℕ) → Event
  Crashed : Event
  Restarted : (pick : ℕ) → (calls : Option ℕ) → Event

-- an entry as its node sees it: what happened, when, and what the node did
pub record Own : Type 0 where
  pub event : Event
  pub now : ℕ
  pub step : Step

-- a step that sends nothing, and one that sends a message
abbrev pub still : Act → Step
still done = record { act = done; sent = None }

abbrev pub sends : Act → Place → Message → Step
sends done to message = record { act = done; sent = Some (record { to = to; message = message }) }

-- ---- records

-- what a node's entries leave on its disks: the records that stand, newest first, and the one that was in flight when the
-- node went down, while it is down
pub record Left (R : Type 0) : Type 0 where
  pub records : List R
  pub flight : Option R

-- records with a newer one, where there is one
abbrev pub added : {R : Type 0} → Option R → List R → List R
added None rs = rs
added (Some r) rs = r ∷ rs

-- the durable act that an entry asked for: one that was done, or that was in flight as the node went down
abbrev pub asked_act : Act → Option Durable
asked_act (act.Durable done) = Some done
asked_act (act.Down kept at) = at
asked_act _ = None

-- what a restart keeps of what was in flight
abbrev pub kept_part : {R : Type 0} → Option Durable → Option R → Option R
kept_part None flight = None
kept_part (Some kept) flight = flight

-- what an act keeps of what was in flight: a restart may keep it, also one whose own boot failed, and no other act does
abbrev pub kept_by : {R : Type 0} → Act → Option R → Option R
kept_by (act.Down kept at) flight = kept_part kept flight
kept_by (act.Restarted kept) flight = kept_part kept flight
kept_by _ flight = None

-- the records with the one that an act keeps
abbrev pub kept_records : {R : Type 0} → Act → Left R → List R
kept_records done left = added (kept_by done left.flight) left.records

-- after an act that asked for this record: a durable act's record stands, and one at which the node went down is in flight
abbrev pub leaves : {R : Type 0} → Act → Option R → Left R → Left R
leaves (act.Durable done) asked left = record { records = added asked left.records; flight = None }
leaves (act.Down kept at) asked left = record { records = kept_records (act.Down kept at) left; flight = asked }
leaves (act.Restarted kept) asked left = record { records = kept_records (act.Restarted kept) left; flight = None }
leaves _ asked left = left

-- the record that comes to stand with an act
abbrev pub stood : {R : Type 0} → Act → Option R → Left R → Option R
stood (act.Durable done) asked left = asked
stood done asked left = kept_by done left.flight
