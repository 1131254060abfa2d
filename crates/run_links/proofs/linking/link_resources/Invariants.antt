use Rattle.run_links.specs.Linked.{HaveMade}
use Rattle.run_links.specs.Routes.{resource_routes}
use Rattle.run_links.proofs.linking.link_resources.Given as goal

-- the coordinator is linked with the first resources
abbrev pub invariant-loop-k : goal.invariant-loop-k
invariant-loop-k l = HaveMade (resource_routes l.k) l.initial.links l.links
