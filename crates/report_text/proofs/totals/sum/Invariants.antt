use Rattle.std.proofs.Common.{◌≡◌, ◌*◌, ◌^◌, take, pos, ◌+ℤ◌, neg_ℤ, ◌≤ℤ◌, fold}
use Rattle.report_text.proofs.totals.sum.Given as goal

abbrev pub invariant-loop-number : goal.invariant-loop-number
invariant-loop-number l =
    (l.sum ≡ fold ◌+ℤ◌ (pos 0) (take l.number-index l.numbers)) × (neg_ℤ (pos (2 ^ 63 * l.number-index)) ≤ℤ l.sum) × (l.sum ≤ℤ pos (2 ^ 63 * l.number-index))
