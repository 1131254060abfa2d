-- There are no more records than entries.
use Rattle.std.proofs.Common.{◌≡◌, ◌+◌, ◌≤◌, ℕ, List, [], ◌∷◌, length, Option, Some, None, arith}
use Rattle.seata_types.specs.declared.acts.Act.{Act}
use Rattle.seata_types.specs.declared.acts.Act.TheVariants as act
use Rattle.seata_types.specs.declared.acts.Durable.{Durable}
use Rattle.durable_records.specs.declared.coordinators.SessionRecord.{SessionRecord}
use Rattle.history_rules.specs.Own.{Own, Left, added, kept_part, leaves}
use Rattle.history_rules.specs.CoordinatorMemory.{session_asked, sessions_left}

-- the record in flight counts
abbrev pub count : Option SessionRecord → ℕ
count None = 0
count (Some r) = 1

abbrev pub total : Left SessionRecord → ℕ
total left = length left.records + count left.flight

more : {A : Type 0} (x : A) (xs : List A) → length (x ∷ xs) ≡ length xs + 1
more x xs = omega arith

count_one : (o : Option SessionRecord) → count o ≤ 1
count_one None = omega arith
count_one (Some r) = omega arith

added_length : (o : Option SessionRecord) (rs : List SessionRecord) → length (added o rs) ≡ length rs + count o
added_length None rs = omega arith
added_length (Some r) rs = more r rs

kept_count : (kept : Option Durable) (flight : Option SessionRecord) → count (kept_part kept flight) ≤ count flight
kept_count None flight = omega arith
kept_count (Some k) flight = omega arith

-- one more record at the most
module _ (asked : Option SessionRecord) (left : Left SessionRecord) where
  leaves_more : (done : Act) → total (leaves done asked left) ≤ total left + 1
  leaves_more (act.Durable d) = let long = added_length asked left.records in let one = count_one asked in omega (arith, long, one)
  leaves_more (act.Down kept at) =
      let long = added_length (kept_part kept left.flight) left.records in
      let few = kept_count kept left.flight in
      let one = count_one asked in
      omega (arith, long, few, one)
  leaves_more (act.Restarted kept) =
      let long = added_length (kept_part kept left.flight) left.records in
      let few = kept_count kept left.flight in
      omega (arith, long, few)
  leaves_more _ = omega arith

pub records_few : (os : List Own) → total (sessions_left [] os) ≤ length os
records_few [] = omega arith
records_few (o ∷ os) =
    let below = records_few os in
    let one = leaves_more (session_asked o) (sessions_left [] os) o.step.act in
    let long = more o os in
    omega (arith, below, one, long)
