-- What the coordinator's own entries leave: its records, and the moments that it goes by.
use Rattle.std.specs.Prelude.{ℕ, zero, suc, ◌+◌, ◌^◌, ◌==◌, ◌&&◌, min, max, nat_lt, nat_le, Bool, false, if◌then◌else◌, List, [], ◌∷◌, length, Option, Some, None}
use Rattle.std.specs.Option.{option_and_then}
use Rattle.seata_types.specs.declared.limits.TheConstants.{LATEST_START}
use Rattle.seata_types.specs.declared.acts.Act.{Act}
use Rattle.seata_types.specs.declared.acts.Act.TheVariants as act
use Rattle.seata_types.specs.declared.acts.Durable.{Durable}
use Rattle.seata_types.specs.declared.acts.Durable.TheVariants as durable
use Rattle.seata_types.specs.declared.ids.Xid.{Xid}
use Rattle.seata_types.specs.declared.ids.BranchId.{BranchId}
use Rattle.seata_types.specs.declared.messages.Input.TheVariants as input
use Rattle.seata_types.specs.declared.messages.Message.TheVariants as message
use Rattle.seata_types.specs.declared.statuses.Decision.TheVariants as how
use Rattle.durable_records.specs.declared.coordinators.SessionRecord.{SessionRecord}
use Rattle.durable_records.specs.declared.coordinators.SessionRecord.TheVariants as log
use Rattle.durable_records.specs.Transactions.{Session, sessions, session, is_forgotten}
use Rattle.durable_records.specs.Progress.{may_decide, is_going, is_finished}
use Rattle.history_rules.specs.Own.{Event, Given, Own, Left, asked_act, leaves}

-- the coordinator's settings: after how many ticks it asks a branch again, and forgets a finished transaction (0: never)
pub record Times : Type 0 where
  pub retry : ℕ
  pub forget : ℕ

-- ---- records

-- a Begin gives its manager, its timeout and the moment
abbrev pub begun_by : Xid → ℕ → Event → Option SessionRecord
begun_by xid now (Given (input.Message from (message.Begin manager timeout))) = Some (log.Begun xid manager now timeout)
begun_by xid now _ = None

-- a Register gives what the branch was asked for
abbrev pub granted_by : Xid → BranchId → Event → Option SessionRecord
granted_by xid branch (Given (input.Message from (message.Register asked resource call ticket kind hold check))) =
    Some (log.Granted xid branch resource call ticket kind hold)
granted_by xid branch _ = None

-- the record of a durable act, by the event that asked for it
abbrev pub session_record : ℕ → Event → Durable → Option SessionRecord
session_record now event (durable.Begun xid) = begun_by xid now event
session_record now event (durable.Granted xid branch) = granted_by xid branch event
session_record now event (durable.Late xid) = Some (log.Decided xid how.Timeout)
session_record now event (durable.Decided xid decision) = Some (log.Decided xid decision)
session_record now event (durable.Ended xid branch) = Some (log.Ended xid branch)
session_record now event (durable.Retrying xid branch) = Some (log.Retrying xid)
session_record now event (durable.Failed xid branch stmt) = Some (log.Failed xid branch stmt)
session_record now event (durable.Finished xid final) = Some (log.Finished xid)
session_record now event (durable.Forgot xid) = Some (log.Forgot xid)
session_record now event _ = None

-- the record that an own entry asked for, whether it was done or in flight as the coordinator went down
abbrev pub session_asked : Own → Option SessionRecord
session_asked o = option_and_then (session_record o.now o.event) (asked_act o.step.act)

-- what the coordinator's entries leave, over the records that its disks had
abbrev pub sessions_left : List SessionRecord → List Own → Left SessionRecord
sessions_left past [] = record { records = past; flight = None }
sessions_left past (o ∷ os) = leaves o.step.act (session_asked o) (sessions_left past os)

-- ---- moments

-- the later of two moments, of which the first doesn't count where its transaction is forgotten
abbrev pub later : Bool → ℕ → ℕ → ℕ
later forgotten moment latest = if forgotten then latest else max moment latest

-- the latest moment at which one of these transactions that isn't forgotten began, 0 where there is none
abbrev pub latest : List SessionRecord → List Session → ℕ
latest rs [] = 0
latest rs (s ∷ ss) = later (is_forgotten rs s.xid) s.begun (latest rs ss)

-- the moment at which the coordinator starts: the latest at which a transaction that it still knows began
abbrev pub start : List SessionRecord → ℕ
start past = min (latest past (sessions past)) LATEST_START

-- when x is due after a durable act at `now`, by when it was due before
abbrev pub due_by_durable : ℕ → ℕ → Durable → ℕ → ℕ → ℕ
due_by_durable retry now (durable.Late xid) x before = if xid.0 == x then now else before
due_by_durable retry now (durable.Decided xid decision) x before = if xid.0 == x then now else before
due_by_durable retry now (durable.Ended xid branch) x before = if xid.0 == x then now else before
due_by_durable retry now (durable.Retrying xid branch) x before = if xid.0 == x then now + retry else before
due_by_durable retry now _ x before = before

-- the same after any act
abbrev pub due_after : ℕ → ℕ → Act → ℕ → ℕ → ℕ
due_after retry now (act.Durable done) x before = due_by_durable retry now done x before
due_after retry now (act.Asked xid branch) x before = if xid.0 == x then now + retry else before
due_after retry now (act.Retry xid branch) x before = if xid.0 == x then now + retry else before
due_after retry now (act.Restarted kept) x before = now
due_after retry now _ x before = before

-- when x is due: at its decision, at the end of a branch and at a restart at once, and where a branch was asked, or is to
-- be asked again, `retry` ticks later; the first opening counts as a restart
abbrev pub due : (retry first : ℕ) → List Own → ℕ → ℕ
due retry first [] x = first
due retry first (o ∷ os) x = due_after retry o.now o.step.act x (due retry first os x)

-- since when x rests, after an act at `now`: its finish and a restart set it, all else leaves it
abbrev pub rests_after : ℕ → Act → ℕ → ℕ → ℕ
rests_after now (act.Durable (durable.Finished xid final)) x before = if xid.0 == x then now else before
rests_after now (act.Restarted kept) x before = now
rests_after now _ x before = before

-- since when x is finished, or the coordinator restarted after that
abbrev pub rests_since : (first : ℕ) → List Own → ℕ → ℕ
rests_since first [] x = first
rests_since first (o ∷ os) x = rests_after o.now o.step.act x (rests_since first os x)

-- the timeout of a transaction is over; never where there is no transaction
abbrev pub is_past : Option Session → ℕ → Bool
is_past None now = false
is_past (Some s) now = nat_lt (s.begun + s.timeout) now

-- x isn't decided, and its timeout is over
abbrev pub is_late : List SessionRecord → ℕ → ℕ → Bool
is_late rs now x = may_decide rs x && is_past (session rs x) now

-- ---- choices among transactions

-- the one that was found already, else n where it passes
abbrev pub or_this : Option ℕ → Bool → ℕ → Option ℕ
or_this (Some x) passes n = Some x
or_this None passes n = if passes then Some n else None

-- the least of 1 to n that passes a test
abbrev pub least : (ℕ → Bool) → ℕ → Option ℕ
least test zero = None
least test (suc n) = or_this (least test n) (test (suc n)) (suc n)

-- of the soonest so far and n the one with the lesser moment, the one so far where they tie or n has none
abbrev pub sooner : Option (ℕ × ℕ) → ℕ → Option ℕ → Option (ℕ × ℕ)
sooner first n None = first
sooner None n (Some moment) = Some (n, moment)
sooner (Some (x, soonest)) n (Some moment) = if nat_lt moment soonest then Some (n, moment) else Some (x, soonest)

-- of 1 to n the one with the least moment, the least where they tie, with its moment
abbrev pub soonest : (ℕ → Option ℕ) → ℕ → Option (ℕ × ℕ)
soonest moment zero = None
soonest moment (suc n) = sooner (soonest moment n) (suc n) (moment (suc n))

module _ (times : Times) (past : List SessionRecord) (os : List Own) (rs : List SessionRecord) (now : ℕ) where
  -- the due moment of a transaction in its second phase, where it has come
  abbrev pub due_moment : ℕ → Option ℕ
  due_moment x = let moment = due times.retry (start past) os x in
      if is_going rs x && nat_le moment now then Some moment else None

  -- x is finished for so long that it is forgotten
  abbrev pub is_old : ℕ → Bool
  is_old x = nat_lt 0 times.forget && (is_finished rs x && nat_le (rests_since (start past) os x + times.forget) now)

  -- the least transaction past its timeout, the one that is due first, and the least one that is old
  abbrev pub late_one : Option ℕ
  late_one = least (is_late rs now) (length (sessions rs))

  abbrev pub due_one : Option (ℕ × ℕ)
  due_one = soonest due_moment (length (sessions rs))

  abbrev pub old_one : Option ℕ
  old_one = least is_old (length (sessions rs))
