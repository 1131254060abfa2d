use Rattle.std.proofs.Common.{◌≡◌, ◌∙◌, List, All, length, ap, sym, subst}
use Rattle.scenario_form.specs.declared.scenarios.ManagerDef.{ManagerDef}
use Rattle.run_links.specs.Linked.{HasCallsAmong, HaveMade}
use Rattle.run_links.specs.Routes.{manager_routes}
use Rattle.run_links.proofs.Made.{all_linked, calls_among, goes_nowhere, unlinked}
use Rattle.run_links.proofs.linking.link_nodes.Goals as goal

pub link_resources-requires-clause-links : goal.link_resources-requires-clause-links
link_resources-requires-clause-links c =
    unlinked (record { coordinator = c.unlinked-coordinator.result; resources = c.in_ok-resources.resources; managers = c.in_ok-managers.managers }) c.unlinked-coordinator.ensures c.in_ok-resources.ensures.none
    c.in_ok-managers.ensures.none

pub link_managers-requires-clause-calls : goal.link_managers-requires-clause-calls
link_managers-requires-clause-calls c =
    let s = c.args.scenario.now in
    let count : length s.resources ≡ length c.link_resources.new.links.resources.items =
    sym (c.in_ok-link_resources.ensures.resources ∙ c.in_ok-resources.ensures.count ∙ ap length c.as_slice.ensures) in
    subst (λ (defs : List ManagerDef). All (HasCallsAmong (length c.link_resources.new.links.resources.items)) defs) (sym c.as_slice-3.ensures)
    (subst (λ n. All (HasCallsAmong n) s.managers) count (calls_among s c.requires))

pub returns : goal.returns
returns c =
    let s = c.args.scenario.now in
    all_linked s (record { coordinator = c.unlinked-coordinator.result; resources = c.in_ok-resources.resources; managers = c.in_ok-managers.managers }) c.link_resources.new.links c.link_managers.new.links
    (c.in_ok-resources.ensures.count ∙ ap length c.as_slice.ensures) (c.in_ok-managers.ensures.count ∙ ap length c.as_slice-2.ensures)
    (goes_nowhere (record { coordinator = c.unlinked-coordinator.result; resources = c.in_ok-resources.resources; managers = c.in_ok-managers.managers }) c.unlinked-coordinator.ensures
    c.in_ok-resources.ensures.none c.in_ok-managers.ensures.none) c.in_ok-link_resources.ensures
    (subst (λ (defs : List ManagerDef). HaveMade (manager_routes 1 defs) c.link_resources.new.links c.link_managers.new.links) c.as_slice-3.ensures c.in_ok-link_managers.ensures)
