-- How many records, and tickets since the boot, entries leave.
use Rattle.std.proofs.Common.{◌≡◌, ◌+◌, ◌≤◌, ℕ, List, [], ◌∷◌, length, Option, Some, None, arith}
use Rattle.seata_types.specs.declared.acts.Act.{Act}
use Rattle.seata_types.specs.declared.acts.Act.TheVariants as act
use Rattle.seata_types.specs.declared.acts.Durable.{Durable}
use Rattle.durable_records.specs.declared.resources.ResourceRecord.{ResourceRecord}
use Rattle.history_rules.specs.Own.{Own, Left, added, kept_part, leaves}
use Rattle.history_rules.specs.ResourceMemory.{Setup, boot_over, booted, memory, opened_after, resource_asked}

-- the record in flight counts
abbrev pub count : Option ResourceRecord → ℕ
count None = 0
count (Some r) = 1

abbrev pub total : Left ResourceRecord → ℕ
total left = length left.records + count left.flight

more : {A : Type 0} (x : A) (xs : List A) → length (x ∷ xs) ≡ length xs + 1
more x xs = omega arith

count_one : (o : Option ResourceRecord) → count o ≤ 1
count_one None = omega arith
count_one (Some r) = omega arith

added_length : (o : Option ResourceRecord) (rs : List ResourceRecord) → length (added o rs) ≡ length rs + count o
added_length None rs = omega arith
added_length (Some r) rs = more r rs

kept_count : (kept : Option Durable) (flight : Option ResourceRecord) → count (kept_part kept flight) ≤ count flight
kept_count None flight = omega arith
kept_count (Some k) flight = omega arith

-- one more record at the most
module _ (asked : Option ResourceRecord) (left : Left ResourceRecord) where
  leaves_more : (done : Act) → total (booted done (leaves done asked left)) ≤ total left + 1
  leaves_more (act.Durable d) = let long = added_length asked left.records in let one = count_one asked in omega (arith, long, one)
  leaves_more (act.Down kept at) =
      let long = added_length (kept_part kept left.flight) left.records in
      let few = kept_count kept left.flight in
      let one = count_one asked in
      omega (arith, long, few, one)
  leaves_more (act.Restarted kept) =
      let long = added_length (kept_part kept left.flight) left.records in
      let few = kept_count kept left.flight in
      let boot = more (boot_over (added (kept_part kept left.flight) left.records)) (added (kept_part kept left.flight) left.records) in
      omega (arith, long, few, boot)
  leaves_more _ = omega arith

opens_more : (done : Act) (n : ℕ) → opened_after done n ≤ n + 1
opens_more (act.Opened xid call t) n = omega arith
opens_more (act.OpenedLocal k t) n = omega arith
opens_more (act.Restarted kept) n = omega arith
opens_more _ n = omega arith

module _ (s : Setup) (past : List ResourceRecord) where
  -- so there are no more records than entries and the first boot
  pub records_few : (os : List Own) → total (memory s past os).left ≤ length past + 1 + length os
  records_few [] = let boot = more (boot_over past) past in omega (arith, boot)
  records_few (o ∷ os) =
      let below = records_few os in
      let one = leaves_more (resource_asked s (memory s past os) o) (memory s past os).left o.step.act in
      let long = more o os in
      omega (arith, below, one, long)

  -- and no more tickets than entries
  pub tickets_few : (os : List Own) → (memory s past os).opened ≤ length os
  tickets_few [] = omega arith
  tickets_few (o ∷ os) =
      let below = tickets_few os in
      let one = opens_more o.step.act (memory s past os).opened in
      let long = more o os in
      omega (arith, below, one, long)
