-- Where an entry of a history was made its record had a place, and where it has none no entry is made: never both, whatever the disks do.
use Rattle.std.proofs.Common.{◌≡◌, List, ◌∷◌, Option, Some, subst}
use Rattle.journal_checkpoint.specs.Images.{Pair}
use Rattle.seata_types.specs.declared.errors.Full.{Full}
use Rattle.seata_types.specs.declared.messages.Input.{Input}
use Rattle.seata_types.specs.declared.messages.Step.{Step}
use Rattle.scenario_form.specs.declared.scenarios.Scenario.{Scenario}
use Rattle.history_rules.specs.Own.{Event, Given, Own}
use Rattle.history_rules.specs.Nodes.{Happens, Role, role_at}
use Rattle.history_rules.specs.Histories.{Moment, own}
use Rattle.history_text.specs.Worlds.{world_of}
use Rattle.node_steps.specs.Ends.{EntryFits, MomentFits}
use Rattle.node_steps.specs.Promises.{own_step}
use Rattle.node_steps.proofs.EndLaws.{full_or_made}
use Rattle.node_seat.specs.Faults.{Overflows}
use Rattle.scenario_nodes.specs.Nodes.{Held}
use Rattle.replay_runner.specs.Leaving.{HavePlaces}

module _ (s : Scenario) (held : Held) (ms : List Moment) (m : Moment) (role : Role) (there : role_at (world_of s) held.past m.place ≡ Some role) (given : Input) (is : m.event ≡ Some (Given given)) where
  abbrev owns : List Own
  owns = own m.place ms

  made_or_full : Happens role owns m.now (Given given) m.step → HavePlaces s held (m ∷ ms) → (disks : Pair) (full : Full) → Overflows role (held.starts m.place) s.disk owns m.now (Given given) disks full → ⊥
  made_or_full h fits disks full (up, over) =
      full_or_made (held.starts m.place) s.disk owns m.now given h.fault h.keeps full up role
      (subst (λ (x : Step). EntryFits role (held.starts m.place) s.disk owns (own_step given m.now x)) h.done
      (subst (λ (e : Option Event). MomentFits (Some role) e (held.starts m.place) s.disk owns m) is (subst (λ (o : Option Role). MomentFits o m.event (held.starts m.place) s.disk owns m) there fits.1)))
      over.by_entries
