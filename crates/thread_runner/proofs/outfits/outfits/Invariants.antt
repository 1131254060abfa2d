use Rattle.std.proofs.Common.{◌+◌}
use Rattle.std.specs.Vec.Iter.{into_iter_items}
use Rattle.thread_runner.specs.Seats.{IsOutfitAt, numbered_place}
use Rattle.thread_runner.proofs.Putting.{IsMaking}
use Rattle.thread_runner.proofs.outfits.outfits.Given as goal

-- the first ones were made
abbrev pub invariant-loop-ends : goal.invariant-loop-ends
invariant-loop-ends g l =
    IsMaking (λ k. IsOutfitAt l.scenario g.K.RunName.run.queue (numbered_place l.managers (k + 1))) l.fn.links.items l.made.items (into_iter_items l.ends-iterator)
