use Rattle.std.proofs.Common.{◌≡◌, ℕ, ◌<◌, ◌≤◌, length, get_or}
use Rattle.disk_model.specs.Memory.{picked}
use Rattle.disk_model.proofs.memory.pick_pending.Given as goal

-- picked below k, and as before from k on
abbrev pub invariant-loop-k : goal.invariant-loop-k
invariant-loop-k l = record {
  stable : l.bytes.stable ≡ l.initial.bytes.stable;
  size : length l.bytes.present ≡ length l.initial.bytes.present;
  done : (j : ℕ) → j < l.k → get_or l.bytes.present j 0 ≡ get_or (picked l.pick l.pending l.initial.bytes.stable l.initial.bytes.present) j 0;
  left : (j : ℕ) → l.k ≤ j → get_or l.bytes.present j 0 ≡ get_or l.initial.bytes.present j 0;
}
