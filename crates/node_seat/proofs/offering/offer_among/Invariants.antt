use Rattle.std.proofs.Common.{◌≡◌, ◌<◌, ℕ, Some, false, slice_get}
use Rattle.history_rules.specs.Histories.{same_place}
use Rattle.link_queue.specs.Links.{Sending}
use Rattle.node_seat.proofs.offering.offer_among.Given as goal

abbrev pub invariant-loop-k : goal.invariant-loop-k
invariant-loop-k g l = (l.senders ≡ l.initial.senders)
    × ((j : ℕ) (t : Sending) → j < l.k → slice_get l.senders j ≡ Some t → same_place t.line.to l.to ≡ false)
