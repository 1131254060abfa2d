use Rattle.std.proofs.Common.{drop}
use Rattle.run_links.specs.Routes.{call_routes}
use Rattle.run_links.proofs.Made.{HaveMadeBut}
use Rattle.run_links.proofs.linking.link_calls.Given as goal

-- the links for the first calls were made
abbrev pub invariant-loop-at : goal.invariant-loop-at
invariant-loop-at l = HaveMadeBut (call_routes l.number (drop l.at-index l.calls)) (call_routes l.number l.calls) l.initial.links l.links
