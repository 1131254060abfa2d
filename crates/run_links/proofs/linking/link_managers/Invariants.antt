use Rattle.std.proofs.Common.{◌+◌, drop}
use Rattle.run_links.specs.Routes.{manager_routes}
use Rattle.run_links.proofs.Made.{HaveMadeBut}
use Rattle.run_links.proofs.linking.link_managers.Given as goal

-- the first managers are linked
abbrev pub invariant-loop-k : goal.invariant-loop-k
invariant-loop-k l = HaveMadeBut (manager_routes (l.k + 1) (drop l.k l.defs)) (manager_routes 1 l.defs) l.initial.links l.links
