-- Each record of a history had a place, where each of a node's had one.
use Rattle.std.proofs.Common.{◌≡◌, ℕ, Bool, true, false, List, [], ◌∷◌, Option, Some, None, refl, ap, sym, subst}
use Rattle.journal_checkpoint.specs.Extents.{Extent}
use Rattle.seata_types.specs.declared.ids.Place.{Place}
use Rattle.scenario_form.specs.declared.scenarios.Scenario.{Scenario}
use Rattle.history_rules.specs.Own.{Event, Own}
use Rattle.history_rules.specs.Nodes.{Role, role_at}
use Rattle.history_rules.specs.Histories.{Moment, own, own_if, same_place}
use Rattle.history_text.specs.Worlds.{world_of}
use Rattle.trace_rules.proofs.Order.{same_place-refl}
use Rattle.node_steps.specs.Ends.{MomentFits}
use Rattle.node_seat.specs.Running.{HadPlaces}
use Rattle.scenario_nodes.specs.Nodes.{Held}
use Rattle.replay_runner.specs.Leaving.{HavePlaces}

module _ (role : Role) (start : Extent) (size : ℕ) (m : Moment) (os : List Own) where
  fit_before : (b : Bool) (event : Option Event) → HadPlaces role start size (own_if b event m os) → HadPlaces role start size os
  fit_before true (Some event) had = had.0
  fit_before true None had = had
  fit_before false (Some event) had = had
  fit_before false None had = had

  fit_newest : (event : Option Event) → HadPlaces role start size (own_if true event m os) → MomentFits (Some role) event start size os m
  fit_newest (Some event) had = had.1
  fit_newest None had = tt

unknown : (event : Option Event) (start : Extent) (size : ℕ) (os : List Own) (m : Moment) → MomentFits None event start size os m
unknown (Some event) start size os m = tt
unknown None start size os m = tt

module _ (s : Scenario) (held : Held) where
  newest : (m : Moment) (ms : List Moment) (o : Option Role) → role_at (world_of s) held.past m.place ≡ o
      → ((role : Role) → role_at (world_of s) held.past m.place ≡ Some role → HadPlaces role (held.starts m.place) s.disk (own m.place (m ∷ ms))) → MomentFits o m.event (held.starts m.place) s.disk (own m.place ms) m
  newest m ms None e had = unknown m.event (held.starts m.place) s.disk (own m.place ms) m
  newest m ms (Some role) e had =
      fit_newest role (held.starts m.place) s.disk m (own m.place ms) m.event
      (subst (λ b. HadPlaces role (held.starts m.place) s.disk (own_if b m.event m (own m.place ms))) (same_place-refl m.place) (had role e))

  pub all_fit : (ms : List Moment) → ((p : Place) (role : Role) → role_at (world_of s) held.past p ≡ Some role → HadPlaces role (held.starts p) s.disk (own p ms)) → HavePlaces s held ms
  all_fit [] had = tt
  all_fit (m ∷ ms) had = (
    all_fit ms (λ p role known. fit_before role (held.starts p) s.disk m (own p ms) (same_place p m.place) m.event (had p role known)),
    newest m ms (role_at (world_of s) held.past m.place) refl (λ role known. had m.place role known),
  )
