-- Steps that a record takes, and those of a registration in all.
use Rattle.std.proofs.Common.{◌≤◌, ◌<◌, ◌+◌, ◌*◌, ◌^◌, ℕ, zero, suc, arith}
use Rattle.lock_table.specs.Locks.{TakesAtMost}
use Rattle.lock_table.proofs.Answered.{all_times, both_times}
use Rattle.lock_table.proofs.Puts.{suc_times}

-- what takes no step
pub no_step : (times rows steps : ℕ) → TakesAtMost times rows steps steps
no_step times rows steps d small = omega arith

less_times : (n h d : ℕ) → n ≤ h → n * d ≤ h * d
less_times zero h d le = omega arith
less_times (suc n) zero d le = absurd (omega (arith, le))
less_times (suc n) (suc h) d le = omega (arith, less_times n h d (omega (arith, le)), suc_times n d, suc_times h d)

-- the rows of a registration are searched by its answer, and taken as its record is made
pub both_costs : (h q n held first middle now : ℕ) → n ≤ h → ((d : ℕ) → held < 2 ^ d → middle ≤ first + 3 + (h + q) * d) → ((d : ℕ) → held + n < 2 ^ d → now ≤ middle + n * d)
    → (d : ℕ) → held + h < 2 ^ d → now ≤ first + 3 + (2 * h + q) * d
both_costs h q n held first middle now few search take d small =
    let one : middle ≤ first + 3 + (h + q) * d = search d (omega (arith, small)) in
    let two : now ≤ middle + n * d = take d (omega (arith, small, few)) in
    omega (arith, one, two, less_times n h d few, both_times h q d, all_times h q d)
