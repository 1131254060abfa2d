use Rattle.std.proofs.Common.{◌≡◌, ◌++◌, drop}
use Rattle.run_links.specs.Plans.{stops_at}
use Rattle.run_links.proofs.plans.stops_at.Given as goal

-- those of the first stops were made
abbrev pub invariant-loop-at : goal.invariant-loop-at
invariant-loop-at l = l.made.items ++ stops_at (drop l.at-index l.stops) l.place ≡ stops_at l.stops l.place
