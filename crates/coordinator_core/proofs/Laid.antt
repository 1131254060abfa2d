-- Where the journal of a coordinator stands after an entry.
use Rattle.std.proofs.Common.{◌≡◌, inl, inr, ℕ, ◌≤◌, Bool, true, false, List, [], ◌∷◌, length, Option, Some, None, sym, ◌∙◌, ap, subst}
use Rattle.disk_model.specs.Disk.{DiskState, IsLawful}
use Rattle.disk_journal.specs.Keeping.{IsFull}
use Rattle.seata_types.specs.declared.acts.Act.TheVariants as act
use Rattle.seata_types.specs.declared.acts.Durable.{Durable}
use Rattle.seata_types.specs.declared.errors.Full.{Full}
use Rattle.seata_types.specs.declared.messages.Input.{Input}
use Rattle.seata_types.specs.declared.messages.Outgoing.{Outgoing}
use Rattle.seata_types.specs.declared.messages.Step.{Step}
use Rattle.journal_checkpoint.specs.declared.types.Found.{Found}
use Rattle.journal_checkpoint.specs.declared.twin.Twin.{Twin}
use Rattle.journal_checkpoint.specs.Pairs.{chosen}
use Rattle.journal_checkpoint.specs.Images.{PairStandsFor}
use Rattle.journal_checkpoint.specs.Extents.{Extent, extent_of, longer, needed}
use Rattle.journal_checkpoint.specs.Keeping.{AreSized, active_disk, other_disk, first_disk, second_disk, disks, needed_for, twin_extent}
use Rattle.journal_checkpoint.proofs.Kept.{kept_pairs}
use Rattle.memory_store.specs.Keeping.{IsOf}
use Rattle.memory_store.specs.Checkpoints.{Saving, checked, saving_by}
use Rattle.memory_store.specs.Meanings.{Meaning}
use Rattle.memory_store.proofs.TwinFacts.{pairs_now}
use Rattle.memory_store.proofs.Damages.{same_found}
use Rattle.durable_records.specs.declared.coordinators.SessionRecord.{SessionRecord}
use Rattle.session_log.specs.Records.{record_bytes}
use Rattle.session_log.specs.SnapshotOf.{snapshot_of}
use Rattle.session_log.specs.declared.sessions.Snapshot.{Snapshot}
use Rattle.session_store.specs.declared.sessions.Sessions.{Sessions}
use Rattle.session_store.specs.Keeping.{twin, known, meaning, store_of, managers_of, resources_of, StandsFor, StandsAt, AtOrBehind, KeepsRecords, Adds, Loses, BringsBack, SameDisks, SameOpening, HasRoom}
use Rattle.session_store.specs.Standing.{StandsForSessions}
use Rattle.history_rules.specs.Own.{Own, Given, Crashed, Restarted, added, still}
use Rattle.history_rules.specs.Devices.{is_down}
use Rattle.history_rules.specs.CoordinatorMemory.{sessions_left, session_record, session_asked}
use Rattle.session_memory.proofs.Small.{none_some}
use Rattle.node_steps.specs.Ends.{Fits, session_recording, session_saving, with_added}
use Rattle.node_steps.specs.Promises.{own_entry, own_step, cut}
use Rattle.coordinator_core.specs.Lying.{AtEither, Lies, extent_after}
use Rattle.coordinator_core.proofs.Disks.{false_true}

-- ---- the size of both disks

size_on : {D : Type 0} (state : D → DiskState) (size : ℕ) (second : Bool) (active other : D) → (state (chosen second active other)).size ≡ size → (state (chosen second other active)).size ≡ size
    → ((state active).size ≡ size) × ((state other).size ≡ size)
size_on state size true active other first second = (second, first)
size_on state size false active other first second = (first, second)

sized_on : {D : Type 0} (state : D → DiskState) (size : ℕ) (second : Bool) (active other : D) → (state active).size ≡ size → (state other).size ≡ size
    → ((state (chosen second active other)).size ≡ size) × ((state (chosen second other active)).size ≡ size)
sized_on state size true active other one two = (two, one)
sized_on state size false active other one two = (one, two)

module _ {D : Type 0} (state : D → DiskState) (size : ℕ) where
  -- of the active disk, and of the other one
  sizes : (t : Twin D) → AreSized state t size → ((state (active_disk t)).size ≡ size) × ((state (other_disk t)).size ≡ size)
  sizes t sized = size_on state size t.second (active_disk t) (other_disk t) sized.first sized.second

  -- the active disk keeps its size, and the other one stays
  sized_still : (t u : Twin D) → other_disk u ≡ other_disk t → (state (active_disk u)).size ≡ (state (active_disk t)).size → AreSized state t size → AreSized state u size
  sized_still t u same kind sized =
      let old = sizes t sized in
      let both = sized_on state size u.second (active_disk u) (other_disk u) (kind ∙ old.0) (ap (λ (d : D). (state d).size) same ∙ old.1) in
      record { first = both.0; second = both.1 }

-- an entry without a record
pub fits_none : (past : List SessionRecord) (start : Extent) (size : ℕ) (os : List Own) (o : Own) → session_asked o ≡ None → Fits (session_recording past) start size os o
fits_none past start size os o none r is = none_some (sym none ∙ is)

-- ---- sessions that keep records

module _ {D : Type 0} (state : D → DiskState) (law : (d : D) → IsLawful (state d)) where
  -- each pair of their images stands for these, where their journal stands
  keeps_at : (s : Sessions D) (rs : List SessionRecord) (there : Extent) → KeepsRecords state rs s → twin_extent (twin s) ≡ there → (a b : List ℕ)
      → (state (first_disk (twin s))).may_leave a → (state (second_disk (twin s))).may_leave b → StandsAt s rs there a b
  keeps_at s rs there k is a b one two = (
    record { found = k.found; pair = pairs_now state (disks state (twin s)) (twin s) (kept_pairs state law k.found (twin s) k.kept.pair) a b one two; list = k.list },
    sym k.kept.pair.extent ∙ is,
  )

  pub lies_up : (s : Sessions D) (past : List SessionRecord) (start : Extent) (size : ℕ) (os : List Own) → KeepsRecords state (sessions_left past os).records s → AreSized state (twin s) size
      → twin_extent (twin s) ≡ extent_after past start size os → Lies state s past start size os
  lies_up s past start size os k sized there = record {
    sized = sized;
    up = λ e. there;
    images = λ a b one two. inl (keeps_at s (sessions_left past os).records (extent_after past start size os) k there a b one two);
  }

  -- just read, with a snapshot in place of the records where one was due
  pub lies_opened : (managed : Meaning Snapshot SessionRecord) (s : Sessions D) (past : List SessionRecord) (size : ℕ) (a b : List ℕ) (found : Found) → saving_by managed (known s) ≡ session_saving past
      → KeepsRecords state past s → IsOf state managed a b (store_of s) → PairStandsFor found a b → AreSized state (twin s) size → Lies state s past (extent_of found) size []
  lies_opened managed s past size a b found saved k is stands sized =
      lies_up s past (extent_of found) size [] k sized (is.extent size sized ∙ ap (λ (v : Saving). checked size v (extent_of is.found)) saved
      ∙ ap (λ (f : Found). checked size (session_saving past) (extent_of f)) (same_found a b is.found found is.stands stands))

module _ {D : Type 0} (state : D → DiskState) (law : (d : D) → IsLawful (state d)) (s s' : Sessions D) (past : List SessionRecord) (start : Extent) (size : ℕ) (os : List Own) (lies : Lies state s past start size os) where
  abbrev there : Extent
  there = extent_after past start size os

  abbrev rs : List SessionRecord
  rs = (sessions_left past os).records

  -- bytes stand for the same in both
  at_now : (e : Extent) (qs : List SessionRecord) (a b : List ℕ) → SameOpening s s' → StandsAt s qs e a b → StandsAt s' qs e a b
  at_now e qs a b opening h =
      subst (λ (m : ℕ). (h : StandsForSessions m (resources_of s') qs a b) × (extent_of h.found ≡ e)) (sym opening.managers)
      (subst (λ (n : ℕ). (h : StandsForSessions (managers_of s) n qs a b) × (extent_of h.found ≡ e)) (sym opening.resources) h)

  -- ---- a step

  module _ (up : is_down os ≡ false) (given : Input) (now : ℕ) where
    -- the record that an entry asks for had a place
    pub fits_step : (step : Step) → ((r : SessionRecord) → session_asked (own_step given now step) ≡ Some r → HasRoom state r s) → Fits (session_recording past) start size os (own_step given now step)
    fits_step step room r is =
        subst (λ (e : Extent). needed e (length (record_bytes r)) ≤ size) (lies.up up)
        (subst (λ (n : ℕ). needed (twin_extent (twin s)) (length (record_bytes r)) ≤ n) (sizes state size (twin s) lies.sized).0 (room r is))

    -- or it has none
    pub over_step : (r : SessionRecord) (full : Full) → IsFull (needed_for (twin s) (length (record_bytes r))) (state (active_disk (twin s))).size full → IsFull (needed there (length (record_bytes r))) size full
    over_step r full over =
        subst (λ (e : Extent). IsFull (needed e (length (record_bytes r))) size full) (lies.up up)
        (subst (λ (n : ℕ). IsFull (needed (twin_extent (twin s)) (length (record_bytes r))) n full) (sizes state size (twin s) lies.sized).0 over)

    module _ (d : Durable) (r : SessionRecord) (asked : session_record now (Given given) d ≡ Some r) where
      pub lies_added : (sent : Option Outgoing) → KeepsRecords state rs s → Adds state r s s' → Lies state s' past start size (own_step given now (record { act = act.Durable d; sent = sent }) ∷ os)
      lies_added sent k a =
          lies_up state law s' past start size (own_step given now (record { act = act.Durable d; sent = sent }) ∷ os)
          (subst (λ o. KeepsRecords state (added o rs) s') (sym asked) (a.keeps rs k)) (sized_still state size (twin s) (twin s') a.took.other a.took.rest.kind.size lies.sized)
          (a.extent ∙ ap (longer (length (record_bytes r))) (lies.up up) ∙ sym (ap (λ (o : Option SessionRecord). with_added (session_recording past) start size o there) asked))

      pub lies_lost : KeepsRecords state rs s → Loses state r s s' → Lies state s' past start size (own_step given now (cut d) ∷ os)
      lies_lost k l = record {
        sized = sized_still state size (twin s) (twin s') l.falls.other l.falls.rest.kind.size lies.sized;
        up = λ e. false_true (sym e);
        images = λ a b one two. by a b (pairs_now state (disks state (twin s)) (twin s') (l.any_moment rs k) a b one two);
      }
        where
          by : (a b : List ℕ) → AtOrBehind s' r rs (twin_extent (twin s)) a b → AtEither s' (record { records = rs; flight = session_record now (Given given) d }) there a b
          by a b (inl h) = inl (h.0, h.1 ∙ lies.up up)
          by a b (inr h) = inr (r, asked, (h.0, h.1 ∙ ap (longer (length (record_bytes r))) (lies.up up)))

  -- ---- a crash

  pub lies_crashed : is_down os ≡ false → (now : ℕ) → KeepsRecords state rs s → SameDisks s s' → SameOpening s s' → Lies state s' past start size (own_entry Crashed now (still (act.Down None None)) ∷ os)
  lies_crashed up now k same opening = record {
    sized = record { first = ap (λ (d : D). (state d).size) same.first ∙ lies.sized.first; second = ap (λ (d : D). (state d).size) same.second ∙ lies.sized.second };
    up = λ e. false_true (sym e);
    images = λ a b one two. inl (at_now there rs a b opening
        (keeps_at state law s rs there k (lies.up up) a b (subst (λ d. (state d).may_leave a) same.first one) (subst (λ d. (state d).may_leave b) same.second two)));
  }

  -- ---- a restart

  module _ (pick : ℕ) (back : BringsBack state pick s s') (opening : SameOpening s s') (sized : AreSized state (twin s') size) (now : ℕ) (calls : Option ℕ) where
    pub keeps_back : (qs : List SessionRecord) → StandsFor s qs back.a back.b → KeepsRecords state qs s'
    keeps_back qs h =
        back.keeps qs (subst (λ (m : ℕ). StandsForSessions m (resources_of s') qs back.a back.b) (sym opening.managers)
        (subst (λ (n : ℕ). StandsForSessions (managers_of s) n qs back.a back.b) (sym opening.resources) h))

    same_saving : (qs : List SessionRecord) → known s' ≡ snapshot_of qs → saving_by (meaning s') (known s') ≡ session_saving qs
    same_saving qs knows = ap (λ (k : Snapshot). saving_by (meaning s') k) knows

    here : (qs : List SessionRecord) (e : Extent) → StandsAt s qs e back.a back.b → twin_extent (twin s') ≡ checked size (session_saving qs) e
    here qs e h =
        let found : back.is.found ≡ h.0.found = same_found back.a back.b back.is.found h.0.found back.is.stands h.0.pair in
        back.is.extent size sized ∙ ap (λ (v : Saving). checked size v (extent_of back.is.found)) (same_saving qs (keeps_back qs h.0).knows)
        ∙ ap (λ (f : Found). checked size (session_saving qs) (extent_of f)) found ∙ ap (checked size (session_saving qs)) h.1

    pub lies_alone : StandsAt s rs there back.a back.b → Lies state s' past start size (own_entry (Restarted pick calls) now (still (act.Restarted None)) ∷ os)
    lies_alone h = lies_up state law s' past start size (own_entry (Restarted pick calls) now (still (act.Restarted None)) ∷ os) (keeps_back rs h.0) sized (here rs there h)

    pub lies_kept : (r : SessionRecord) (kept : Durable) → (sessions_left past os).flight ≡ Some r → StandsAt s (r ∷ rs) (longer (length (record_bytes r)) there) back.a back.b
        → Lies state s' past start size (own_entry (Restarted pick calls) now (still (act.Restarted (Some kept))) ∷ os)
    lies_kept r kept flies h =
        lies_up state law s' past start size (own_entry (Restarted pick calls) now (still (act.Restarted (Some kept))) ∷ os)
        (subst (λ o. KeepsRecords state (added o rs) s') (sym flies) (keeps_back (r ∷ rs) h.0)) sized
        (here (r ∷ rs) (longer (length (record_bytes r)) there) h
        ∙ ap (λ (o : Option SessionRecord). checked size (session_saving (added o rs)) (with_added (session_recording past) start size o there)) (sym flies))
