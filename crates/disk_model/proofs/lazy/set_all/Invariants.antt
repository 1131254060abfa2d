use Rattle.std.proofs.Common.{◌≡◌, ℕ, ◌<◌, length, get_or}
use Rattle.disk_model.proofs.lazy.set_all.Given as goal

abbrev pub invariant-loop-k : goal.invariant-loop-k
invariant-loop-k g l = record {
  size : length l.part ≡ length l.initial.part;
  done : (j : ℕ) → j < l.k → get_or l.part j l.value ≡ l.value;
}
