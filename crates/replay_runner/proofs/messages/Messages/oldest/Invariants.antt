use Rattle.std.proofs.Common.{◌≡◌, ◌<◌, ◌≤◌, ℕ, false}
use Rattle.replay_runner.specs.Letters.{waits}
use Rattle.replay_runner.proofs.messages.Messages.oldest.Given as goal

-- none below k waits
abbrev pub invariant-loop-k : goal.invariant-loop-k
invariant-loop-k l = record {
  none : (j : ℕ) → l.initial.self.waiting ≤ j → j < l.k → waits l.self.letters.items l.self.taken.items j ≡ false;
  letters : l.self.letters ≡ l.initial.self.letters;
  taken : l.self.taken ≡ l.initial.self.taken;
}
