-- A node that wasn't opened: its disks were given back.
use Rattle.std.proofs.Common.{◌≡◌, ℕ, List, sym, subst}
use Rattle.disk_model.specs.Disk.{DiskState}
use Rattle.disk_model.specs.Shelf.{KeepsOthers, ShelfState}
use Rattle.scenario_form.specs.declared.scenarios.Scenario.{Scenario}
use Rattle.node_steps.specs.Nodes.{place_of}
use Rattle.node_seat.specs.declared.faults.RunFault.{RunFault}
use Rattle.scenario_nodes.specs.Nodes.{HaveSize, Holds, Server}
use Rattle.scenario_nodes.specs.Opening.{IsBack, IsDamageOn, IsItsFault, IsReturned, IsUnopened, ShowsUnread}
use Rattle.scenario_nodes.specs.Shelves.{AreGivenBack, HasBoth, IsDiskName, pair_of, second_name}
use Rattle.scenario_nodes.proofs.Returned.{back_since}

-- its disks were taken of a shelf, and given back under a text that is its name
module _ {D : Type 0} (state : D → DiskState) (s : Scenario) (old before after : ShelfState D) (v : Server) (called : List ℕ) (missed told : RunFault) (a b : D) (named : called ≡ v.name) (both : HasBoth before called)
    (took : KeepsOthers (IsDiskName called) old before) (keeps : KeepsOthers (IsDiskName called) before after) (back : AreGivenBack before after called (a, b)) (is : told ≡ missed) where
  taken : HasBoth after v.name
  taken = subst (HasBoth after) named (record { first = keeps.places called both.first; second = keeps.places (second_name called) both.second })

  given : AreGivenBack old after v.name (a, b)
  given = subst (λ (n : List ℕ). AreGivenBack old after n (a, b)) named (back_since (IsDiskName called) old before after called (a, b) took back)

  pub handed_back : HaveSize s.disk (pair_of state (a, b)) → IsItsFault (place_of v.role) (pair_of state (a, b)) missed → IsDamageOn state old s v missed → (Holds state old s v → IsUnopened v s.disk (pair_of state (a, b)) missed)
      → IsReturned state s old after v told
  handed_back sized blames damaged unopened = record {
    disks = (a, b);
    taken = taken;
    back = given;
    sized = sized;
    blames = subst (λ (f : RunFault). IsItsFault (place_of v.role) (pair_of state (a, b)) f) (sym is) blames;
    damaged = subst (λ (f : RunFault). IsDamageOn state old s v f) (sym is) damaged;
    unopened = λ holds. subst (λ (f : RunFault). IsUnopened v s.disk (pair_of state (a, b)) f) (sym is) (unopened holds);
  }

  -- the same of a node whose disks couldn't be read
  pub unread_back : ShowsUnread state s old missed v (a, b) → IsBack (ShowsUnread state s old told) old after v
  unread_back shows = record { disks = (a, b); taken = taken; back = given; shows = subst (λ (f : RunFault). ShowsUnread state s old f v (a, b)) (sym is) shows }
