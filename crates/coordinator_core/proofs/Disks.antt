-- The disks of a coordinator after an entry.
use Rattle.std.proofs.Common.{◌≡◌, ◌⊎◌, inl, inr, ◌+◌, ◌-◌, ◌<◌, ◌≤◌, ◌^◌, ℕ, min, Bool, true, false, if◌then◌else◌, List, ◌∷◌, Option, Some, None, option_map, refl, sym, ap, subst, ◌∙◌, arith}
use Rattle.std.proofs.lemmas.Bool.{false≢true}
use Rattle.std.proofs.lemmas.Bool.Decides.{nat_tests}
use Rattle.disk_model.specs.Disk.{DiskState, IsLawful, SameKind, KeepsRest, Passed, Rose, last_pick}
use Rattle.disk_model.specs.Stop.{below, stop_of, failures_of, state_of, stopped_lawful}
use Rattle.disk_model.specs.declared.stoppable.Stoppable.{Stoppable}
use Rattle.journal_checkpoint.specs.Images.{Pair}
use Rattle.journal_checkpoint.specs.Keeping.{active_disk, other_disk, is_second, twin_extent}
use Rattle.journal_checkpoint.specs.Pairs.{chosen}
use Rattle.journal_checkpoint.proofs.Kept.{kept_pairs}
use Rattle.memory_store.specs.Keeping.{Takes, Falls}
use Rattle.memory_store.proofs.TwinFacts.{pairs_now}
use Rattle.seata_types.specs.declared.acts.Act.TheVariants as act
use Rattle.seata_types.specs.declared.acts.Durable.{Durable}
use Rattle.seata_types.specs.declared.messages.Input.{Input}
use Rattle.seata_types.specs.declared.messages.Outgoing.{Outgoing}
use Rattle.durable_records.specs.declared.coordinators.SessionRecord.{SessionRecord}
use Rattle.session_store.specs.declared.sessions.Sessions.{Sessions}
use Rattle.session_store.specs.Standing.{StandsForSessions}
use Rattle.session_store.specs.Keeping.{twin, is_down as sessions_down, managers_of, resources_of, SameOpening, SameDisks, StandsFor, AtOrBehind, KeepsRecords, Adds, Loses}
use Rattle.history_rules.specs.Own.{Own, Given, Stopped, Crashed, still, added}
use Rattle.history_rules.specs.Devices.{calls_left, fault_entries, is_short, may_stand, spent, is_down as down_by}
use Rattle.history_rules.specs.CoordinatorMemory.{sessions_left, session_record}
use Rattle.node_steps.specs.Durable.{own_faults}
use Rattle.node_steps.specs.Promises.{own_entry, own_step, cut, DisksFail}
use Rattle.coordinator_core.specs.Moving.{ArmsSessions}
use Rattle.coordinator_core.specs.Standing.{OnDisks, pair_of, active_of}

pub false_true : {X : Type 0} → false ≡ true → X
false_true e = absurd (false≢true e)

-- ---- stops

passed_left : (before after : Option ℕ) → Passed 4 before after → after ≡ option_map spent before
passed_left None None p = refl
passed_left (Some m) (Some n) p = ap (λ k. Some k) (omega (arith, p))
passed_left None (Some n) p = absurd p
passed_left (Some m) None p = absurd p

passed_long : (before after : Option ℕ) → Passed 4 before after → is_short before ≡ false
passed_long None None p = refl
passed_long (Some m) (Some n) p = grind (arith, nat_tests, p)
passed_long None (Some n) p = absurd p
passed_long (Some m) None p = absurd p

short_is : (before : Option ℕ) → ((calls : ℕ) × (before ≡ Some calls) × (calls < 4)) → is_short before ≡ true
short_is before (calls, is, few) = ap is_short is ∙ grind (arith, nat_tests, few)

cut_is : (before : Option ℕ) → may_stand before ≡ false → (calls : ℕ) × (before ≡ Some calls) × (calls < 2)
cut_is None e = false_true (sym e)
cut_is (Some calls) e = (calls, refl, grind (arith, nat_tests, e))

-- a fault more is counted
faults_more : (b : Bool) (entries own now : ℕ) → min entries (2 ^ 64 - 1) ≤ own → own ≤ now → (b ≡ true) ⊎ Rose own now
    → min (entries + (if b then 0 else 1)) (2 ^ 64 - 1) ≤ now
faults_more true entries own now counted later cause = omega (arith, counted, later)
faults_more false entries own now counted later (inl e) = false_true e
faults_more false entries own now counted later (inr rose) = omega (arith, counted, rose)

-- ---- two disks

-- what a call on the active disk leaves of both
pub record Moved (old new : Pair) : Type 0 where
  pub own : own_faults old ≤ own_faults new
  pub first_pick : last_pick new.first ≡ last_pick old.first
  pub second_pick : last_pick new.second ≡ last_pick old.second
  pub first_kind : SameKind old.first new.first
  pub second_kind : SameKind old.second new.second

abbrev pub pair_on : {D : Type 0} → (D → DiskState) → Bool → D → D → Pair
pair_on state second active other = record { first = state (chosen second active other); second = state (chosen second other active) }

pub same_kind : (d : DiskState) → SameKind d d
same_kind d = record { size = refl; tells_images = refl; tells_moments = refl }

module _ {D : Type 0} (state : D → DiskState) where
  moved_by : (second : Bool) (a a' o : D) → KeepsRest (state a) (state a') → (state a).counts.own ≤ (state a').counts.own → Moved (pair_on state second a o) (pair_on state second a' o)
  moved_by false a a' o rest own = record { own = omega (arith, own); first_pick = rest.last_pick; second_pick = refl; first_kind = rest.kind; second_kind = same_kind (state o) }
  moved_by true a a' o rest own = record { own = omega (arith, own); first_pick = refl; second_pick = rest.last_pick; first_kind = same_kind (state o); second_kind = rest.kind }

  -- an own fault of the active disk is one of both together
  fails_by : (second : Bool) (a a' o : D) → Rose (state a).counts.own (state a').counts.own → DisksFail (pair_on state second a o) (pair_on state second a' o)
  fails_by false a a' o rose = omega (arith, rose)
  fails_by true a a' o rose = omega (arith, rose)

  pair_same : (second second' : Bool) (a o o' : D) → second' ≡ second → o' ≡ o → pair_on state second a o ≡ pair_on state second' a o'
  pair_same second second' a o o' s e = λ i. pair_on state (sym s i) a (sym e i)

module _ {D : Type 0} (state : D → DiskState) (s s' : Sessions (Stoppable D)) where
  -- both disks, where the other one stays
  pair_by : is_second (twin s') ≡ is_second (twin s) → other_disk (twin s') ≡ other_disk (twin s)
      → pair_on (state_of state) (is_second (twin s)) (active_disk (twin s')) (other_disk (twin s)) ≡ pair_of state s'
  pair_by second other = pair_same (state_of state) (is_second (twin s)) (is_second (twin s')) (active_disk (twin s')) (other_disk (twin s)) (other_disk (twin s')) second other

  pub moved_took : Takes (state_of state) (twin s) (twin s') → Moved (pair_of state s) (pair_of state s')
  moved_took t = subst (λ p. Moved (pair_of state s) p) (pair_by t.second t.other)
      (moved_by (state_of state) (is_second (twin s)) (active_disk (twin s)) (active_disk (twin s')) (other_disk (twin s)) t.rest t.counts.own)

  pub moved_fell : Falls (state_of state) (twin s) (twin s') → Moved (pair_of state s) (pair_of state s')
  moved_fell f = subst (λ p. Moved (pair_of state s) p) (pair_by f.second f.other)
      (moved_by (state_of state) (is_second (twin s)) (active_disk (twin s)) (active_disk (twin s')) (other_disk (twin s)) f.rest f.counts.own)

  pub fault_fell : Falls (state_of state) (twin s) (twin s') → Rose (active_of state s).counts.own (active_of state s').counts.own → DisksFail (pair_of state s) (pair_of state s')
  fault_fell f rose = subst (λ p. DisksFail (pair_of state s) p) (pair_by f.second f.other)
      (fails_by (state_of state) (is_second (twin s)) (active_disk (twin s)) (active_disk (twin s')) (other_disk (twin s)) rose)

module _ {D : Type 0} (state : D → DiskState) (law : (d : Stoppable D) → IsLawful (state_of state d)) where
  -- bytes stand for the same in both
  pub stands_in : (s s' : Sessions (Stoppable D)) (rs : List SessionRecord) (a b : List ℕ) → SameOpening s s' → StandsFor s rs a b → StandsFor s' rs a b
  stands_in s s' rs a b opening e =
      subst (λ m. StandsForSessions m (resources_of s') rs a b) (sym opening.managers) (subst (λ k. StandsForSessions (managers_of s) k rs a b) (sym opening.resources) e)

  -- each pair of images of sessions that keep records stands for these
  pub keeps_images : (rs : List SessionRecord) (s : Sessions (Stoppable D)) → KeepsRecords (state_of state) rs s → (a b : List ℕ)
      → (pair_of state s).first.may_leave a → (pair_of state s).second.may_leave b → StandsFor s rs a b
  keeps_images rs s k a b first second = record {
    found = k.found;
    pair = pairs_now (state_of state) _ (twin s) (kept_pairs (state_of state) law k.found (twin s) k.kept.pair) a b first second;
    list = k.list;
  }

  -- ---- a record

  module _ (s s' : Sessions (Stoppable D)) (past : List SessionRecord) (os : List Own) (d : OnDisks state s past os) (up : sessions_down s ≡ false) (given : Input) (now : ℕ) (done : Durable)
      (r : SessionRecord) (asked : session_record now (Given given) done ≡ Some r) where
    abbrev rs : List SessionRecord
    rs = (sessions_left past os).records

    upos : down_by os ≡ false
    upos = sym d.down ∙ up

    pub kept_now : KeepsRecords (state_of state) rs s
    kept_now = d.keeps upos

    -- it is on the disks
    module _ (a : Adds (state_of state) r s s') where
      -- no stop fell on it
      pub long : is_short (calls_left false os) ≡ false
      long = subst (λ l. is_short l ≡ false) (d.left upos) (passed_long _ _ a.took.counts.passed)

      pub on_added : (sent : Option Outgoing) → OnDisks state s' past (own_step given now (record { act = act.Durable done; sent = sent }) ∷ os)
      on_added sent =
          let keeps : KeepsRecords (state_of state) (added (session_record now (Given given) done) rs) s' = subst (λ i. KeepsRecords (state_of state) (added i rs) s') (sym asked) (a.keeps rs kept_now) in record {
            down = a.up ∙ sym upos;
            keeps = λ e. keeps;
            left = λ e. passed_left _ _ a.took.counts.passed ∙ ap (option_map spent) (d.left upos);
            images = λ x y first second. inl (keeps_images _ s' keeps x y first second);
            counted = omega (arith, d.counted, (moved_took state s s' a.took).own);
          }

    -- the disks failed
    module _ (l : Loses (state_of state) r s s') where
      cause_by : (Rose (active_of state s).counts.own (active_of state s').counts.own ⊎ ((calls : ℕ) × ((active_of state s).counts.left ≡ Some calls) × (calls < 4)))
          → (is_short (calls_left false os) ≡ true) ⊎ DisksFail (pair_of state s) (pair_of state s')
      cause_by (inl rose) = inr (fault_fell state s s' l.falls rose)
      cause_by (inr (calls, is, few)) = inl (short_is _ (calls, sym (d.left upos) ∙ is, few))

      pub cause : (is_short (calls_left false os) ≡ true) ⊎ DisksFail (pair_of state s) (pair_of state s')
      cause = cause_by l.falls.cause

      image_by : (b : Bool) → may_stand (calls_left false os) ≡ b → (x y : List ℕ) → (pair_of state s').first.may_leave x → (pair_of state s').second.may_leave y
          → AtOrBehind s' r rs (twin_extent (twin s)) x y → StandsFor s' rs x y ⊎ ((q : SessionRecord) × ((if b then session_record now (Given given) done else None) ≡ Some q) × StandsFor s' (q ∷ rs) x y)
      image_by b is x y first second (inl e) = inl e.0
      image_by true is x y first second (inr e) = inr (r, asked, e.0)
      image_by false is x y first second (inr e) =
          let few = cut_is (calls_left false os) is in
          inl (pairs_now (state_of state) _ (twin s') (l.not_begun rs kept_now few.0 (d.left upos ∙ few.1) few.2) x y first second).0

      pub on_lost : OnDisks state s' past (own_step given now (cut done) ∷ os)
      on_lost = record {
        down = l.down;
        keeps = λ e. false_true (sym e);
        left = λ e. false_true (sym e);
        images = λ x y first second. subst (λ b. StandsFor s' rs x y ⊎ ((q : SessionRecord) × ((if b then session_record now (Given given) done else None) ≡ Some q) × StandsFor s' (q ∷ rs) x y)) refl
            (image_by (may_stand (calls_left false os)) refl x y first second (pairs_now (state_of state) _ (twin s') (l.any_moment rs kept_now) x y first second));
        counted = faults_more (is_short (calls_left false os)) (fault_entries false os) (own_faults (pair_of state s)) (own_faults (pair_of state s')) d.counted (moved_fell state s s' l.falls).own cause;
      }

  -- ---- a stop and a crash

  module _ (s s' : Sessions (Stoppable D)) (past : List SessionRecord) (os : List Own) (d : OnDisks state s past os) (up : sessions_down s ≡ false) (now : ℕ) where
    pub on_armed : (calls : ℕ) → ArmsSessions state calls s s' → OnDisks state s' past (own_entry (Stopped calls) now (still act.Armed) ∷ os)
    on_armed calls a =
        let upos : down_by os ≡ false = sym d.down ∙ up in
        let keeps = a.keeps (sessions_left past os).records (d.keeps upos) in record {
          down = a.down ∙ d.down;
          keeps = λ e. keeps;
          left = λ e. a.left;
          images = λ x y first second. inl (keeps_images _ s' keeps x y first second);
          counted = omega (arith, d.counted, a.pair.own);
        }

    pub on_crashed : SameDisks s s' → SameOpening s s' → sessions_down s' ≡ true → OnDisks state s' past (own_entry Crashed now (still (act.Down None None)) ∷ os)
    on_crashed same opening down =
        let upos : down_by os ≡ false = sym d.down ∙ up in
        let first_same : (pair_of state s').first ≡ (pair_of state s).first = ap (state_of state) same.first in
        let second_same : (pair_of state s').second ≡ (pair_of state s).second = ap (state_of state) same.second in
        let pair : pair_of state s ≡ pair_of state s' = λ i. record { first = sym first_same i; second = sym second_same i } in record {
          down = down;
          keeps = λ e. false_true (sym e);
          left = λ e. false_true (sym e);
          images = λ x y first second. inl (stands_in s s' (sessions_left past os).records x y opening
              (keeps_images _ s (d.keeps upos) x y (subst (λ (k : DiskState). k.may_leave x) first_same first) (subst (λ (k : DiskState). k.may_leave y) second_same second)));
          counted = subst (λ p. min (fault_entries false os + 0) (2 ^ 64 - 1) ≤ own_faults p) pair (omega (arith, d.counted));
        }

-- a disk with a stop keeps the laws of disks
pub stopped : {D : Type 0} (state : D → DiskState) → ((d : D) → IsLawful (state d)) → (d : Stoppable D) → IsLawful (state_of state d)
stopped state law d = stopped_lawful (stop_of d) (failures_of d) (state (below d)) (law (below d))
