-- What crates above see of a manager.
use Rattle.std.specs.Prelude.{◌≡◌, ◌||◌, ℕ, Bool, false, List, ◌∷◌}
use Rattle.seata_types.specs.declared.ids.Place.TheVariants as place
use Rattle.seata_types.specs.declared.messages.Input.{Input}
use Rattle.seata_types.specs.declared.messages.Step.{Step}
use Rattle.history_rules.specs.Own.{Own, Given}
use Rattle.history_rules.specs.ManagerRules.{Settings, is_closed, is_silent, sent_count}
use Rattle.history_rules.specs.Nodes.{Role, happens}
use Rattle.history_rules.specs.Nodes.{Manager as ManagerRole}
use Rattle.node_steps.specs.Promises.{NodeState, own_step, no_disks}
use Rattle.manager_rules.specs.Tracks.{Tracks}
use Rattle.manager_core.specs.declared.nodes.Manager.{Manager}

-- its settings
abbrev pub settings : Manager → Settings
settings m = m.talk.settings

-- how many steps it can still make
abbrev pub steps_of : Manager → ℕ
steps_of m = m.left

-- it is the manager of these own entries
unfoldable pub StandsFor : Manager → List Own → Type 0
StandsFor m owns = Tracks m.talk owns

-- it took the step that happens by the rules after these own entries, and is the manager of these with it
abbrev pub Takes : Manager → Manager → Input → ℕ → Step → Type 0
Takes old new given now step =
    (owns : List Own) → StandsFor old owns → (step ≡ happens (ManagerRole (settings old)) owns now false false (Given given)) × StandsFor new (own_step given now step ∷ owns)

-- it has this role, and is the manager of these own entries
abbrev pub StandsAs : Manager → Role → List Own → Type 0
StandsAs m role owns = (role ≡ ManagerRole (settings m)) × StandsFor m owns

-- as a node: it serves each input, and has no disks
abbrev pub node_state : Manager → NodeState
node_state m = record {
  stands_for = StandsAs m;
  lies = λ role start size owns. Unit {0};
  place = place.Man (settings m).number;
  serves = λ given. Unit {0};
  left = steps_of m;
  stops = false;
  down = false;
  disks = no_disks;
}

-- the end of its transaction was answered, or it sent all that it may
abbrev pub is_finished : Settings → List Own → Bool
is_finished m owns = is_closed owns || is_silent m.silent (sent_count owns)
