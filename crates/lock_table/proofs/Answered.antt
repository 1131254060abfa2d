-- What a search of rows and what taking them answers, and in how many steps.
use Rattle.std.proofs.Common.{◌≡◌, ℕ, zero, suc, ◌+◌, ◌*◌, ◌^◌, ◌<◌, ◌≤◌, List, ◌++◌, None, Result, Ok, Err, refl, ap, ◌∙◌, arith}
use Rattle.seata_types.specs.declared.ids.Leg.{Leg}
use Rattle.seata_types.specs.declared.ids.Xid.{Xid}
use Rattle.seata_types.specs.declared.rows.RowKey.{RowKey}
use Rattle.lock_table.specs.declared.errors.HoldError.{HoldError}
use Rattle.lock_table.specs.declared.errors.HoldError.TheVariants as errors
use Rattle.lock_table.specs.Locks.{Holds, Locks, first_locked, locks}
use Rattle.lock_table.specs.Answers.{FindsConflict, TakesRows}
use Rattle.lock_table.proofs.Puts.{suc_times}
use Rattle.lock_table.proofs.Firsts.{found_first, none_first}

-- ---- what is found

module _ (ls : Locks) (x : Xid) (hold check : List RowKey) where
  pub first_finds : (e : HoldError) → FindsConflict ls x hold (Err e) → FindsConflict ls x (hold ++ check) (Err e)
  first_finds (errors.Held key by) found = found_first ls x hold check (key, by) found
  first_finds errors.NoMemory found = tt

  pub then_finds : (result : Result (Unit {0}) HoldError) → first_locked ls x hold ≡ None → FindsConflict ls x check result → FindsConflict ls x (hold ++ check) result
  then_finds (Ok done) none found = none_first ls x hold check none ∙ found
  then_finds (Err (errors.Held key by)) none found = none_first ls x hold check none ∙ found
  then_finds (Err errors.NoMemory) none found = tt

-- rows that aren't taken
pub refused_answers : (old : Holds) (leg : Leg) (hold check : List RowKey) (e : HoldError) → FindsConflict (locks old) leg.xid (hold ++ check) (Err e) → TakesRows old leg hold check old (Err e)
refused_answers old leg hold check (errors.Held key by) found = (found, refl)
refused_answers old leg hold check errors.NoMemory found = refl

-- ---- steps

pub both_times : (a b d : ℕ) → (a + b) * d ≡ a * d + b * d
both_times zero b d = omega arith
both_times (suc a) b d = omega (arith, both_times a b d, suc_times (a + b) d, suc_times a d)

pub all_times : (h q d : ℕ) → (2 * h + q) * d ≡ h * d + h * d + q * d
all_times h q d =
    let double : 2 * h ≡ h + h = omega arith in
    ap (λ (n : ℕ). (n + q) * d) double ∙ both_times (h + h) q d ∙ ap (λ (n : ℕ). n + q * d) (both_times h h d)

pub both_cost : (h q n first middle now : ℕ) → ((d : ℕ) → n < 2 ^ d → middle ≤ first + h * d) → ((d : ℕ) → n < 2 ^ d → now ≤ middle + q * d) → (d : ℕ) → n < 2 ^ d → now ≤ first + (h + q) * d
both_cost h q n first middle now one two d small =
    let bound : middle ≤ first + h * d = one d small in
    let next : now ≤ middle + q * d = two d small in
    omega (arith, bound, next, both_times h q d)

pub one_cost : (h q n first now : ℕ) → ((d : ℕ) → n < 2 ^ d → now ≤ first + h * d) → (d : ℕ) → n < 2 ^ d → now ≤ first + (h + q) * d
one_cost h q n first now one d small = let bound : now ≤ first + h * d = one d small in omega (arith, bound, both_times h q d)

-- rows that are searched and then taken, or searched alone
pub took_cost : (h q n first middle now : ℕ) → ((d : ℕ) → n < 2 ^ d → middle ≤ first + (h + q) * d) → ((d : ℕ) → n + h < 2 ^ d → now ≤ middle + h * d) → (d : ℕ) → n + h < 2 ^ d → now ≤ first + (2 * h + q) * d
took_cost h q n first middle now search hold d small =
    let bound : middle ≤ first + (h + q) * d = search d (omega (arith, small)) in
    let last : now ≤ middle + h * d = hold d small in
    omega (arith, bound, last, both_times h q d, all_times h q d)

pub search_cost : (h q n first now : ℕ) → ((d : ℕ) → n < 2 ^ d → now ≤ first + (h + q) * d) → (d : ℕ) → n + h < 2 ^ d → now ≤ first + (2 * h + q) * d
search_cost h q n first now search d small =
    let bound : now ≤ first + (h + q) * d = search d (omega (arith, small)) in
    omega (arith, bound, both_times h q d, all_times h q d)
