-- A node can be given what comes next.
use Rattle.std.proofs.Common.{◌≡◌, ◌+◌, ◌-◌, ◌<◌, ◌≤◌, ℕ, true, List, All, length, slice_get, Option, Some, None, IfSome, refl, ap, subst, ◌∙◌, arith}
use Rattle.disk_model.specs.Disk.{DiskState}
use Rattle.seata_types.specs.declared.ids.Place.{Place}
use Rattle.seata_types.specs.declared.ids.Place.TheVariants as place
use Rattle.seata_types.specs.declared.messages.Input.{Input}
use Rattle.scenario_form.specs.Runnable.{IsPlaceAmong, IsServerAmong}
use Rattle.history_rules.specs.Own.{Event, Given, Stopped, Crashed, Restarted}
use Rattle.history_rules.specs.Nodes.{counted_at}
use Rattle.history_text.specs.declared.entries.Cause.{Cause}
use Rattle.history_text.specs.declared.entries.Cause.TheVariants as cause
use Rattle.history_text.specs.declared.entries.Entry.{Entry}
use Rattle.node_steps.specs.Framing.{ComesFramable}
use Rattle.node_steps.specs.Nodes.{NodeState}
use Rattle.coordinator_core.specs.Standing as coordinator
use Rattle.resource_core.specs.declared.nodes.Resource.{Resource}
use Rattle.resource_core.specs.NodeStanding as resource
use Rattle.resource_core.specs.Shown as shown
use Rattle.manager_core.specs.declared.nodes.Manager.{Manager}
use Rattle.manager_core.specs.Standing as manager
use Rattle.node_seat.specs.Entering.{CanReact, event_by}
use Rattle.node_seat.specs.Keeping.{IsBehind, IsInputOf, IsNext}
use Rattle.replay_runner.specs.declared.members.Member.{Member}
use Rattle.replay_runner.specs.declared.nodes.Nodes.{Nodes}
use Rattle.replay_runner.specs.Going.{CanEnter, CanTake, IsKthManager, IsKthResource, MayBeGiven}
use Rattle.replay_runner.proofs.Counted.{counted_is}

-- what a cause gives is an event
pub event_there : (stamp : ℕ) (printed : Cause) (given : Option Input) → IsInputOf stamp printed given → (event : Event) × (event_by printed given ≡ Some event)
event_there stamp printed (Some g) is = (Given g, refl)
event_there stamp (cause.Stop calls) None is = (Stopped calls, refl)
event_there stamp cause.Crash None is = (Crashed, refl)
event_there stamp (cause.Restart pick calls) None is = (Restarted pick calls, refl)
event_there stamp _ None is = absurd is

-- a node that has steps left and serves what is given can react; without an input it has disks
can_react : (node : NodeState) (managers resources : ℕ) (p : Place) (printed : Cause) (given : Option Input) → CanTake managers resources p printed given
    → 0 < node.left → ((g : Input) → ComesFramable g → MayBeGiven managers resources p g → node.serves g) → (IsServerAmong resources p → node.stops ≡ true) → CanReact node printed given
can_react node managers resources p printed (Some g) takes able served has = (able, served g takes.0 takes.1)
can_react node managers resources p printed None takes able served has = (has takes.0, takes.1)

framable_by : (managers resources : ℕ) (p : Place) (printed : Cause) (given : Option Input) → CanTake managers resources p printed given → IfSome given ComesFramable
framable_by managers resources p printed None takes = tt
framable_by managers resources p printed (Some g) takes = takes.0

module _ {D K : Type 0} (state : D → DiskState) (n : Nodes D K) (stamp now : ℕ) (p : Place) (printed : Cause) (given : Option Input) (c : CanEnter n stamp now p printed given) where
  pub framable_next : IfSome given ComesFramable
  framable_next = framable_by (length n.managers.items) (length n.resources.items) p printed given c.takes

  next_of : (trace : List Entry) → All (IsBehind stamp now) trace → IsNext trace stamp now printed given
  next_of trace behind = record { behind = behind; input = c.comes }

  -- ---- the coordinator

  pub coordinator_next : IsNext n.coordinator.seat.trace stamp now printed given
  coordinator_next = next_of n.coordinator.seat.trace c.goes.coordinator.behind

  pub coordinator_can : p ≡ place.Tc → CanReact (coordinator.node_state state n.coordinator.seat.node) printed given
  coordinator_can here =
      let able = c.goes.coordinator.able in
      let short = c.short in
      can_react (coordinator.node_state state n.coordinator.seat.node) (length n.managers.items) (length n.resources.items) place.Tc printed given
      (subst (λ q. CanTake (length n.managers.items) (length n.resources.items) q printed given) here c.takes) (omega (arith, able, short)) (λ g framable may. c.goes.serving g may framable) (λ server. refl)

  -- ---- a resource

  module _ (k : ℕ) (here : p ≡ place.Res k) where
    resource_number : (1 ≤ k) × (k ≤ length n.resources.items)
    resource_number = subst (IsPlaceAmong (length n.resources.items) (length n.managers.items)) here c.there

    pub resource_within : k - 1 < length n.resources.items
    resource_within = let low = resource_number.0 in let high = resource_number.1 in omega (arith, low, high)

    module _ (m : Member (Resource D) K) (placed : slice_get n.resources.items (k - 1) ≡ Some m) where
      is_resource : IsKthResource stamp now (k - 1) m
      is_resource = c.goes.each_resource (k - 1) m placed

      pub resource_listed : counted_at n.resources.items k ≡ Some m
      resource_listed = counted_is n.resources.items k resource_number.0 ∙ placed

      pub resource_stands : shown.stands_at m.seat.node ≡ place.Res k
      resource_stands = is_resource.at ∙ ap (λ j. place.Res j) (let low = resource_number.0 in let same : k - 1 + 1 ≡ k = omega (arith, low) in same)

      pub resource_next : IsNext m.seat.trace stamp now printed given
      resource_next = next_of m.seat.trace is_resource.goes.behind

      pub resource_can : CanReact (resource.node_state state m.seat.node) printed given
      resource_can =
          let able = is_resource.goes.able in
          let short = c.short in
          can_react (resource.node_state state m.seat.node) (length n.managers.items) (length n.resources.items) (place.Res k) printed given
          (subst (λ q. CanTake (length n.managers.items) (length n.resources.items) q printed given) here c.takes) (omega (arith, able, short)) (λ g framable may. is_resource.serving g may) (λ server. refl)

  -- ---- a manager

  module _ (k : ℕ) (here : p ≡ place.Man k) where
    manager_number : (1 ≤ k) × (k ≤ length n.managers.items)
    manager_number = subst (IsPlaceAmong (length n.resources.items) (length n.managers.items)) here c.there

    pub manager_within : k - 1 < length n.managers.items
    manager_within = let low = manager_number.0 in let high = manager_number.1 in omega (arith, low, high)

    module _ (m : Member Manager K) (placed : slice_get n.managers.items (k - 1) ≡ Some m) where
      is_manager : IsKthManager stamp now (k - 1) m
      is_manager = c.goes.each_manager (k - 1) m placed

      pub manager_listed : counted_at n.managers.items k ≡ Some m
      manager_listed = counted_is n.managers.items k manager_number.0 ∙ placed

      pub manager_stands : place.Man (manager.settings m.seat.node).number ≡ place.Man k
      manager_stands = ap (λ j. place.Man j) (let number = is_manager.number in let low = manager_number.0 in let same : (manager.settings m.seat.node).number ≡ k = omega (arith, number, low) in same)

      pub manager_next : IsNext m.seat.trace stamp now printed given
      manager_next = next_of m.seat.trace is_manager.goes.behind

      pub manager_can : CanReact (manager.node_state m.seat.node) printed given
      manager_can =
          let able = is_manager.goes.able in
          let short = c.short in
          can_react (manager.node_state m.seat.node) (length n.managers.items) (length n.resources.items) (place.Man k) printed given
          (subst (λ q. CanTake (length n.managers.items) (length n.resources.items) q printed given) here c.takes) (omega (arith, able, short)) (λ g framable may. tt) (λ server. absurd server)
