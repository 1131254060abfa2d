-- What always holds of the coordinator as a node.
use Rattle.std.proofs.Common.{◌≡◌, ◌⊎◌, inl, inr, ◌-◌, ◌≤◌, ◌^◌, ℕ, min, true, false, if◌then◌else◌, List, ◌∷◌, length, Option, Some, None, refl, sym, ap, subst, ◌∙◌, arith}
use Rattle.disk_model.specs.Disk.{DiskState}
use Rattle.seata_types.specs.declared.acts.Act.TheVariants as act
use Rattle.seata_types.specs.declared.ids.Place.TheVariants as place
use Rattle.durable_records.specs.declared.coordinators.SessionRecord.{SessionRecord}
use Rattle.disk_model.specs.Stop.{state_of}
use Rattle.disk_model.specs.declared.stoppable.Stoppable.{Stoppable}
use Rattle.journal_checkpoint.specs.declared.types.Found.{Found}
use Rattle.journal_checkpoint.specs.Images.{PairStandsFor}
use Rattle.journal_checkpoint.specs.Extents.{Extent, extent_of, longer}
use Rattle.session_log.specs.Records.{record_bytes}
use Rattle.session_store.specs.declared.sessions.Sessions.{Sessions}
use Rattle.session_store.specs.Keeping.{KeepsRecords}
use Rattle.session_store.specs.Standing.{StandsForSessions}
use Rattle.history_rules.specs.Own.{Own, Left, Given, Stopped, Crashed, Restarted, still}
use Rattle.history_rules.specs.Devices.{calls_left, fault_entries, in_flight, may_stand, is_down as down_by}
use Rattle.history_rules.specs.CoordinatorMemory.{Times, sessions_left}
use Rattle.history_rules.specs.Nodes.{Role, Resource, Manager}
use Rattle.history_rules.specs.Nodes.{Coordinator as CoordinatorRole}
use Rattle.node_steps.specs.Durable.{StandsForRecords, StandsForLeft, of_coordinator, keepable, own_faults, AreNodeDisks}
use Rattle.node_steps.specs.Ends.{AreLaid}
use Rattle.node_steps.specs.Nodes.{IsLawful, KeepsStill, Tells, place_of, has_disks, own_entry, lost}
use Rattle.coordinator_core.specs.declared.nodes.Coordinator.{Coordinator}
use Rattle.coordinator_core.specs.Knowledge.{knowledge}
use Rattle.coordinator_rules.specs.Tracks.{Follows}
use Rattle.coordinator_core.specs.Lying.{AtEither, Lies, extent_after}
use Rattle.coordinator_core.specs.Standing.{StandsAs, StandsOver, LiesAs, LiesOver, OnDisks, StandsForEither, node_state, course, is_down, disks_of, managers, resources, pair_of, sessions_of, times_of}

-- ---- what disks stand for, in the words of histories

pub stands_for_records : (managers resources : ℕ) (rs : List SessionRecord) (a b : List ℕ) → StandsForSessions managers resources rs a b → StandsForRecords of_coordinator rs a b
stands_for_records managers resources rs a b s =
    record { found = s.found; pair = s.pair; records = s.list.records }

-- ---- an entry at which nothing changes

module _ {D : Type 0} (state : D → DiskState) where
  -- what sessions are after an entry at which nothing of them changes
  pub on_same : (s : Sessions (Stoppable D)) (past : List SessionRecord) (os os' : List Own) → down_by os' ≡ down_by os → sessions_left past os' ≡ sessions_left past os
      → calls_left false os' ≡ calls_left false os → fault_entries false os' ≡ fault_entries false os → OnDisks state s past os → OnDisks state s past os'
  on_same s past os os' down left calls faults d = record {
    down = d.down ∙ sym down;
    keeps = λ e. subst (λ l. KeepsRecords (state_of state) l.records s) (sym left) (d.keeps (sym down ∙ e));
    left = λ e. d.left (sym down ∙ e) ∙ sym calls;
    images = λ a b first second. subst (λ l. StandsForEither s l (keepable false os' l) a b) (sym left)
        (subst (λ k. StandsForEither s (sessions_left past os) (if may_stand k then (sessions_left past os).flight else None) a b) (sym calls) (d.images a b first second));
    counted = subst (λ n. min n (2 ^ 64 - 1) ≤ own_faults (pair_of state s)) (sym faults) d.counted;
  }

  -- the same of a coordinator
  stands_same : (c : Coordinator D) (past : List SessionRecord) (os os' : List Own) → down_by os' ≡ down_by os → sessions_left past os' ≡ sessions_left past os
      → calls_left false os' ≡ calls_left false os → fault_entries false os' ≡ fault_entries false os → in_flight os' ≡ in_flight os
      → (Follows (knowledge c.table) (course past os) → Follows (knowledge c.table) (course past os')) → StandsOver state c past os → StandsOver state c past os'
  stands_same c past os os' down left calls faults flight follows s = record {
    disks = on_same (sessions_of c) past os os' down left calls faults s.disks;
    starts = s.starts;
    few = s.few;
    follows = λ e. follows (s.follows (sym down ∙ e));
    fallen = λ e. let f = s.fallen (sym down ∙ e) in record {
      flight = f.flight ∙ sym flight;
      count = f.count ∙ ap (λ (l : Left SessionRecord). length l.records) (sym left);
    };
  }

-- where their journal stands
pub lies_same : {D : Type 0} (state : D → DiskState) (s : Sessions D) (past : List SessionRecord) (start : Extent) (size : ℕ) (os os' : List Own) → down_by os' ≡ down_by os
    → sessions_left past os' ≡ sessions_left past os → extent_after past start size os' ≡ extent_after past start size os → Lies state s past start size os → Lies state s past start size os'
lies_same state s past start size os os' down left there l = record {
  sized = l.sized;
  up = λ e. l.up (sym down ∙ e) ∙ sym there;
  images = λ a b first second. subst (λ k. AtEither s k (extent_after past start size os') a b) (sym left)
      (subst (λ e. AtEither s (sessions_left past os) e a b) (sym there) (l.images a b first second));
}

-- ---- laws

module _ {D : Type 0} (state : D → DiskState) (c : Coordinator D) where
  -- what holds of a coordinator's role holds of each that it has
  by_role : (P : Role → List Own → Type 0) → ((times : Times) (past : List SessionRecord) (owns : List Own) → times ≡ times_of c → StandsOver state c past owns → P (CoordinatorRole times past) owns)
      → (role : Role) (owns : List Own) → StandsAs state c role owns → P role owns
  by_role P f (CoordinatorRole times past) owns s = f times past owns s.0 s.1
  by_role P f (Resource setup past) owns s = absurd s
  by_role P f (Manager settings) owns s = absurd s

  tells : Tells (node_state state c)
  tells = record {
    places = by_role (λ role owns. place.Tc ≡ place_of role) (λ times past owns same s. refl);
    with_disks = by_role (λ role owns. true ≡ has_disks role) (λ times past owns same s. refl);
    downs = by_role (λ role owns. is_down c ≡ down_by owns) (λ times past owns same s. s.disks.down);
  }

  -- it stands for the list with an entry at which nothing changes
  with_entry : (o : Own) → ((past : List SessionRecord) (owns : List Own) → StandsOver state c past owns → StandsOver state c past (o ∷ owns))
      → (role : Role) (owns : List Own) → StandsAs state c role owns → StandsAs state c role (o ∷ owns)
  with_entry o stays = by_role (λ role owns. StandsAs state c role (o ∷ owns)) (λ times past owns same s. (same, stays past owns s))

  keeps : KeepsStill (node_state state c) (StandsAs state c)
  keeps = record {
    given = λ down input now. with_entry (lost (Given input) now)
        (λ past owns. stands_same state c past owns (lost (Given input) now ∷ owns) refl refl refl (omega arith) refl (λ f. record { tracks = f.tracks }));
    stopped = λ down calls now. with_entry (lost (Stopped calls) now)
        (λ past owns. stands_same state c past owns (lost (Stopped calls) now ∷ owns) refl refl refl (omega arith) refl (λ f. record { tracks = f.tracks }));
    crashed = λ down now. with_entry (lost Crashed now)
        (λ past owns. stands_same state c past owns (lost Crashed now ∷ owns) refl refl refl (omega arith) refl (λ f. record { tracks = f.tracks }));
    restarted = λ stops up pick calls now. let o = own_entry (Restarted pick calls) now (still act.Nothing) in
        with_entry o (λ past owns. stands_same state c past owns (o ∷ owns) refl refl refl (omega arith) refl (λ f. record { tracks = f.tracks }));
  }

  -- its journal stands where it stood with an entry at which nothing changes
  module _ (start : Extent) (size : ℕ) where
    lies_by_role : (P : Role → List Own → Type 0) → ((times : Times) (past : List SessionRecord) (owns : List Own) → LiesOver state c past start size owns → P (CoordinatorRole times past) owns)
        → (role : Role) (owns : List Own) → LiesAs state c role start size owns → P role owns
    lies_by_role P f (CoordinatorRole times past) owns l = f times past owns l
    lies_by_role P f (Resource setup past) owns l = absurd l
    lies_by_role P f (Manager settings) owns l = absurd l

    lies_with : (o : Own) → ((past : List SessionRecord) (owns : List Own) → LiesOver state c past start size owns → LiesOver state c past start size (o ∷ owns))
        → (role : Role) (owns : List Own) → LiesAs state c role start size owns → LiesAs state c role start size (o ∷ owns)
    lies_with o stays = lies_by_role (λ role owns. LiesAs state c role start size (o ∷ owns)) (λ times past owns l. stays past owns l)

    lies_still : KeepsStill (node_state state c) (λ role owns. (node_state state c).lies role start size owns)
    lies_still = record {
      given = λ down input now. lies_with (lost (Given input) now)
          (λ past owns. lies_same (state_of state) (sessions_of c) past start size owns (lost (Given input) now ∷ owns) refl refl refl);
      stopped = λ down calls now. lies_with (lost (Stopped calls) now)
          (λ past owns. lies_same (state_of state) (sessions_of c) past start size owns (lost (Stopped calls) now ∷ owns) refl refl refl);
      crashed = λ down now. lies_with (lost Crashed now)
          (λ past owns. lies_same (state_of state) (sessions_of c) past start size owns (lost Crashed now ∷ owns) refl refl refl);
      restarted = λ stops up pick calls now. let o = own_entry (Restarted pick calls) now (still act.Nothing) in
          lies_with o (λ past owns. lies_same (state_of state) (sessions_of c) past start size owns (o ∷ owns) refl refl refl);
    }

  -- a pair of images holds what stands there
  laid_by : (left : Left SessionRecord) (there : Extent) (a b : List ℕ) → AtEither (sessions_of c) left there a b → (found : Found) × PairStandsFor found a b
      × ((extent_of found ≡ there) ⊎ ((r : SessionRecord) × (left.flight ≡ Some r) × (extent_of found ≡ longer (length (record_bytes r)) there)))
  laid_by left there a b (inl at) = (at.0.found, at.0.pair, inl at.1)
  laid_by left there a b (inr (r, flies, at)) = (at.0.found, at.0.pair, inr (r, flies, at.1))

  -- a pair of images stands for the same in the words of histories
  either : (left : Left SessionRecord) (kept : Option SessionRecord) (a b : List ℕ) → StandsForEither (sessions_of c) left kept a b → StandsForLeft of_coordinator left kept a b
  either left kept a b (inl e) = inl (stands_for_records (managers c) (resources c) left.records a b e)
  either left kept a b (inr (r, is, e)) = inr (r, is, stands_for_records (managers c) (resources c) (r ∷ left.records) a b e)

  pub lawful : IsLawful (node_state state c)
  lawful = record {
    tells = tells;
    keeps = keeps;
    lies = lies_still;
    falls = λ down. refl;
    device = by_role (λ role owns. AreNodeDisks role owns (disks_of state c)) (λ times past owns same s. record {
      images = λ a b first second. either (sessions_left past owns) (keepable false owns (sessions_left past owns)) a b (s.disks.images a b first second);
      counted = s.disks.counted;
    });
    laid = λ role start size owns s. lies_by_role start size (λ role owns. AreLaid role start size owns (disks_of state c)) (λ times past owns l a b first second.
        laid_by (sessions_left past owns) (extent_after past start size owns) a b (l.images a b first second)) role owns;
  }
