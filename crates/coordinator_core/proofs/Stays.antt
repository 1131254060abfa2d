-- What no step of the coordinator changes.
use Rattle.std.proofs.Common.{◌≡◌, ℕ, refl, sym, subst, arith}
use Rattle.disk_model.specs.Disk.{DiskState}
use Rattle.disk_model.specs.Stop.{state_of}
use Rattle.disk_model.specs.declared.stoppable.Stoppable.{Stoppable}
use Rattle.seata_types.specs.declared.acts.Act.{Act}
use Rattle.seata_types.specs.declared.acts.Act.TheVariants as act
use Rattle.durable_records.specs.declared.coordinators.SessionRecord.{SessionRecord}
use Rattle.session_store.specs.declared.sessions.Sessions.{Sessions}
use Rattle.session_store.specs.Keeping.{managers_of, resources_of, SameOpening, Adds, Loses}
use Rattle.history_rules.specs.Own.{Event}
use Rattle.node_steps.specs.Durable.{SamePicks}
use Rattle.node_steps.specs.Promises.{StaysItself}
use Rattle.coordinator_core.specs.declared.nodes.Coordinator.{Coordinator}
use Rattle.coordinator_core.specs.Answers.{Puts}
use Rattle.coordinator_core.specs.Serving.{ServesInput}
use Rattle.coordinator_core.specs.Standing.{node_state, pair_of, disks_of, sessions_of}
use Rattle.coordinator_core.proofs.Disks.{Moved, moved_took, moved_fell, same_kind}

-- the sessions are of the same scenario, with what their opening found, and their disks are what they were
pub record Remains {D : Type 0} (state : D → DiskState) (old new : Sessions (Stoppable D)) : Type 0 where
  pub opening : SameOpening old new
  pub moved : Moved (pair_of state old) (pair_of state new)

module _ {D : Type 0} (state : D → DiskState) where
  remains_itself : (s : Sessions (Stoppable D)) → Remains state s s
  remains_itself s = record {
    opening = record { managers = refl; resources = refl; found = refl };
    moved = record {
      own = omega arith;
      first_pick = refl;
      second_pick = refl;
      first_kind = same_kind (pair_of state s).first;
      second_kind = same_kind (pair_of state s).second;
    };
  }

  pub remains_same : (old new : Sessions (Stoppable D)) → new ≡ old → Remains state old new
  remains_same old new e = subst (λ s. Remains state old s) (sym e) (remains_itself old)

  pub remains_added : (r : SessionRecord) (old new : Sessions (Stoppable D)) → Adds (state_of state) r old new → Remains state old new
  remains_added r old new a = record { opening = a.opening; moved = moved_took state old new a.took }

  pub remains_lost : (r : SessionRecord) (old new : Sessions (Stoppable D)) → Loses (state_of state) r old new → Remains state old new
  remains_lost r old new l = record { opening = l.opening; moved = moved_fell state old new l.falls }

  pub remains_put : (event : Event) (now : ℕ) (a : Act) (old new : Sessions (Stoppable D)) → Puts (state_of state) event now a old new → Remains state old new
  remains_put event now (act.Durable done) old new p = remains_added p.0 old new p.2
  remains_put event now _ old new p = remains_same old new p

  pub stays_itself : (old new : Coordinator D) → Remains state (sessions_of old) (sessions_of new) → StaysItself (node_state state old) (node_state state new)
  stays_itself old new r = record {
    same_place = refl;
    same_inputs = λ given s. subst (λ m. ServesInput m (resources_of (sessions_of new)) given) (sym r.opening.managers) (subst (λ k. ServesInput (managers_of (sessions_of old)) k given) (sym r.opening.resources) s);
    first = r.moved.first_kind;
    second = r.moved.second_kind;
  }

  pub same_picks : (old new : Coordinator D) → Remains state (sessions_of old) (sessions_of new) → SamePicks (disks_of state old) (disks_of state new)
  same_picks old new r = record { first = r.moved.first_pick; second = r.moved.second_pick }
