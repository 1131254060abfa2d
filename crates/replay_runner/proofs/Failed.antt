-- A replay that ends since the disks of a node failed: these counted a fault, whatever they tell.
use Rattle.std.proofs.Common.{◌≡◌, ◌+◌, ◌-◌, ◌≤◌, ◌^◌, ℕ, min, set, Option, Some, None, Result, Ok, Err, IfErr, refl, ap, sym, subst, ◌∙◌, arith}
use Rattle.std.specs.Prelude.{Vec}
use Rattle.std.specs.declared.alloc.Global.{Global}
use Rattle.disk_model.specs.Disk.{DiskState}
use Rattle.journal_checkpoint.specs.Images.{Pair}
use Rattle.seata_types.specs.declared.ids.Place.{Place}
use Rattle.seata_types.specs.declared.ids.Place.TheVariants as place
use Rattle.history_rules.specs.Nodes.{counted_at}
use Rattle.node_steps.specs.Durable.{own_faults}
use Rattle.node_steps.specs.Nodes.{NodeState}
use Rattle.resource_core.specs.declared.nodes.Resource.{Resource}
use Rattle.resource_core.specs.Shown as shown
use Rattle.node_seat.specs.Faults.{CountsFault}
use Rattle.node_seat.specs.declared.faults.RunFault.{RunFault}
use Rattle.node_seat.specs.declared.faults.RunFault.TheVariants as fault
use Rattle.replay_runner.specs.declared.members.Member.{Member}
use Rattle.replay_runner.specs.declared.nodes.Nodes.{Nodes}
use Rattle.replay_runner.specs.Ends.{HaveCountedAt}
use Rattle.replay_runner.specs.Leaving.{CountsFailure, disks_in}
use Rattle.replay_runner.specs.Standing.{disks_at, member_disks}
use Rattle.replay_runner.proofs.Counted.{counted_set}
use Rattle.replay_runner.proofs.Shown.{all_disks, resource_in}

-- ---- on its way

module _ (disks : Place → Pair) (p : Place) (before after : NodeState) (here : before.place ≡ p) (shows : disks p ≡ after.disks) where
  fault_counted : (missed : RunFault) → CountsFault before after missed → HaveCountedAt disks missed
  fault_counted (fault.Store q) (same, rose) =
      let grown : min (own_faults before.disks + 1) (2 ^ 64 - 1) ≤ own_faults after.disks = rose in
      let some : 1 ≤ own_faults after.disks = omega (arith, grown) in
      subst (λ r. 1 ≤ own_faults (disks r)) (sym (same ∙ here)) (subst (λ d. 1 ≤ own_faults d) (sym shows) some)
  fault_counted (fault.Full q full) counts = tt
  fault_counted (fault.Damaged q second offset) counts = tt
  fault_counted fault.Other counts = tt
  fault_counted fault.NoMemory counts = tt

  -- the node at a place counted a fault, if its disks failed
  pub failed_at : {T : Type 0} (r : Result T RunFault) → IfErr r (CountsFault before after) → IfErr r (HaveCountedAt disks)
  failed_at (Ok done) counts = tt
  failed_at (Err missed) counts = fault_counted missed counts

-- want of memory is no failure
pub memory_at : {T : Type 0} (disks : Place → Pair) (r : Result T RunFault) → IfErr r (λ (missed : RunFault). missed ≡ fault.NoMemory) → IfErr r (HaveCountedAt disks)
memory_at disks (Ok done) is = tt
memory_at disks (Err missed) is = subst (HaveCountedAt disks) (sym is) tt

-- the disks of a resource that was put in place of another
pub resource_set : {D K : Type 0} (state : D → DiskState) (old resources : Vec (Member (Resource D) K) Global) (n : ℕ) (before after : Member (Resource D) K) → counted_at old.items n ≡ Some before
    → resources.items ≡ set old.items (n - 1) after → member_disks state (counted_at resources.items n) ≡ shown.disks_of state after.seat.node
resource_set state old resources n before after placed changed = ap (member_disks state) (ap (λ l. counted_at l n) changed ∙ counted_set old.items n after before placed)

-- ---- by the disks that are given back

module _ {D K : Type 0} (state : D → DiskState) (n : Nodes D K) where
  counted_back : (p : Place) → 1 ≤ own_faults (disks_at state n p) → 1 ≤ own_faults (disks_in (all_disks state n) p)
  counted_back place.Net some = some
  counted_back place.Tc some = some
  counted_back (place.Man k) some = some
  counted_back (place.Res k) some = by (counted_at n.resources.items k) refl some
    where
      by : (o : Option (Member (Resource D) K)) → counted_at n.resources.items k ≡ o → 1 ≤ own_faults (member_disks state o) → 1 ≤ own_faults (disks_in (all_disks state n) (place.Res k))
      by None e some = let no : 1 ≤ 0 = some in absurd (omega (arith, no))
      by (Some m) e some = subst (λ d. 1 ≤ own_faults d) (sym (resource_in state n k m e)) some

  -- those of the nodes counted what they counted on their way
  pub failure_back : (missed : RunFault) → HaveCountedAt (disks_at state n) missed → CountsFailure (all_disks state n) (Err missed)
  failure_back (fault.Store q) counted = counted_back q counted
  failure_back (fault.Full q full) counted = tt
  failure_back (fault.Damaged q second offset) counted = tt
  failure_back fault.Other counted = tt
  failure_back fault.NoMemory counted = tt
