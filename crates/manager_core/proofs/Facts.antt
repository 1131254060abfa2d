-- What happens at a manager.
use Rattle.std.proofs.Common.{◌≡◌, ℕ, false, List, None, sym}
use Rattle.seata_types.specs.declared.messages.Input.{Input}
use Rattle.history_rules.specs.Own.{Given, Own}
use Rattle.history_rules.specs.Devices.{is_down, calls_left}
use Rattle.history_rules.specs.ManagerRules.{manager_answer}
use Rattle.history_rules.specs.Nodes.{happens}
use Rattle.history_rules.specs.Nodes.{Manager as ManagerRole}
use Rattle.manager_rules.specs.Tracks.{Tracks}
use Rattle.manager_rules.specs.declared.talks.Talk.{Talk}
use Rattle.node_steps.proofs.Served.{happens_plain}
use Rattle.manager_core.specs.Standing.{StandsFor}
use Rattle.manager_core.specs.declared.nodes.Manager.{Manager}

-- what happens is the rule's answer
pub happens_answer : {m : Talk} (owns : List Own) (now : ℕ) (given : Input) → Tracks m owns
    → manager_answer m.settings owns given ≡ happens (ManagerRole m.settings) owns now false false (Given given)
happens_answer {m} owns now given t = sym (happens_plain (ManagerRole m.settings) owns now given t.up t.unarmed)

-- a manager is up, and no stop arms a disk of it
pub manager_plain : (m : Manager) (owns : List Own) → StandsFor m owns → (is_down owns ≡ false) × (calls_left false owns ≡ None)
unfolding StandsFor
manager_plain m owns t = (t.up, t.unarmed)
