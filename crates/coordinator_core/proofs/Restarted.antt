-- The coordinator after a restart.
use Rattle.std.proofs.Common.{◌≡◌, ◌⊎◌, inl, inr, ◌+◌, ◌-◌, ◌<◌, ◌≤◌, ◌^◌, ℕ, suc, min, Bool, true, false, if◌then◌else◌, List, [], ◌∷◌, length, Option, Some, None, option_map, is_some, refl, sym, ap, subst, ◌∙◌, arith}
use Rattle.std.specs.Prelude.{nat_lt, IsSome, Result, Ok, Err}
use Rattle.std.specs.Option.{option_and_then}
use Rattle.std.proofs.lemmas.Bool.Decides.{nat_tests}
use Rattle.disk_model.specs.Disk.{DiskState, Content, Counts, IsLawful, SameKind, Rose, present, last_pick}
use Rattle.disk_model.specs.Stop.{state_of}
use Rattle.disk_model.specs.declared.stoppable.Stoppable.{Stoppable}
use Rattle.journal_checkpoint.specs.Images.{Pair, FailsItself}
use Rattle.journal_checkpoint.specs.Extents.{Extent}
use Rattle.journal_checkpoint.specs.Keeping.{AreSized, active_disk, other_disk, first_disk, second_disk, is_second}
use Rattle.memory_store.specs.Keeping.{ComesUp, IsDamage, IsNotFull, IsTold, StaysWhereShort}
use Rattle.seata_types.specs.declared.limits.TheConstants.{LATEST_MOMENT, MANAGERS}
use Rattle.seata_types.specs.declared.acts.Act.{Act}
use Rattle.seata_types.specs.declared.acts.Act.TheVariants as act
use Rattle.seata_types.specs.declared.acts.Durable.{Durable}
use Rattle.seata_types.specs.declared.errors.OpenError.{OpenError}
use Rattle.seata_types.specs.declared.errors.OpenError.TheVariants as open_error
use Rattle.durable_records.specs.declared.coordinators.SessionRecord.{SessionRecord}
use Rattle.session_log.specs.declared.sessions.Snapshot.{Snapshot}
use Rattle.session_store.specs.declared.sessions.Sessions.{Sessions}
use Rattle.session_store.specs.Keeping.{known, twin, is_down as sessions_down, managers_of, resources_of, SameOpening, StandsFor, KeepsRecords, BringsBack, GoesOnAs, IsNoDamage}
use Rattle.session_store.specs.Meaning.{meaning_of}
use Rattle.session_store.proofs.SessionLaws.{came_back, not_damaged}
use Rattle.history_rules.specs.Own.{Own, Left, Restarted, still, added, leaves, asked_act, kept_part}
use Rattle.history_rules.specs.Devices.{calls_left, in_flight, flight_after, may_stand, kept_act, is_down as down_by}
use Rattle.history_rules.specs.CoordinatorMemory.{Times, sessions_left, session_record}
use Rattle.history_rules.specs.Nodes.{Role, Resource, Manager, happens}
use Rattle.history_rules.specs.Nodes.{Coordinator as CoordinatorRole}
use Rattle.node_steps.specs.Durable.{StandsForRecords, keepable, of_coordinator, own_faults}
use Rattle.node_steps.specs.Promises.{NodeState, own_entry, AreTold, Brings, BringsKept, DisksFail, IsRestartError, Restarts, StandsAsBefore, StaysItself}
use Rattle.node_steps.proofs.Kept.{brings_kept}
use Rattle.session_memory.proofs.Small.{none_some}
use Rattle.coordinator_core.specs.declared.nodes.Coordinator.{Coordinator}
use Rattle.coordinator_core.specs.Knowledge.{knowledge, memory}
use Rattle.coordinator_core.specs.Lying.{AtEither, extent_after}
use Rattle.coordinator_core.specs.NodeLaws.{stands_for_records}
use Rattle.coordinator_core.specs.Moving.{ArmsPair, ArmsWith, FallsAgain, SameRest, StartsAgain, kept_of}
use Rattle.coordinator_core.specs.Serving.{ServesInput}
use Rattle.coordinator_core.specs.Standing.{node_state, StandsOver, LiesOver, OnDisks, IsFallen, StandsForEither, course, pair_of, active_of, disks_of, sessions_of, start_of, is_down, times_of}
use Rattle.coordinator_core.specs.Stepping.{RestartsBy}
use Rattle.coordinator_rules.specs.Starting.{started_on, no_moments}
use Rattle.coordinator_rules.specs.Tracks.{Tracks, Follows}
use Rattle.coordinator_core.proofs.Arms.{same_pair}
use Rattle.coordinator_core.proofs.Disks.{false_true, keeps_images, pair_on, stands_in}
use Rattle.coordinator_core.proofs.Laid.{fits_none, keeps_back, lies_alone, lies_kept}
use Rattle.coordinator_rules.proofs.StartLaws.{starts}

-- ---- an act in flight

at_by : (f : Durable → Option SessionRecord) (at : Option Durable) (r : SessionRecord) → option_and_then f at ≡ Some r → (d : Durable) × (at ≡ Some d)
at_by f None r e = none_some e
at_by f (Some d) r e = (d, refl)

flight_step : (a : Act) (f : Durable → Option SessionRecord) (left : Left SessionRecord) (before : Option Durable) → ((q : SessionRecord) → left.flight ≡ Some q → (d : Durable) × (before ≡ Some d))
    → (r : SessionRecord) → (leaves a (option_and_then f (asked_act a)) left).flight ≡ Some r → (d : Durable) × (flight_after a before ≡ Some d)
flight_step (act.Durable done) f left before below r e = none_some e
flight_step (act.Down kept at) f left before below r e = at_by f at r e
flight_step (act.Restarted kept) f left before below r e = none_some e
flight_step _ f left before below r e = below r e

-- a record in flight is that of an act in flight
flight_act : (past : List SessionRecord) (os : List Own) (r : SessionRecord) → (sessions_left past os).flight ≡ Some r → (d : Durable) × (in_flight os ≡ Some d)
flight_act past [] r e = none_some e
flight_act past (o ∷ os) r e = flight_step o.step.act (session_record o.now o.event) (sessions_left past os) (in_flight os) (flight_act past os) r e

keepable_by : (b : Bool) (flight : Option SessionRecord) (r : SessionRecord) → (if b then flight else None) ≡ Some r → (b ≡ true) × (flight ≡ Some r)
keepable_by true flight r e = (refl, e)
keepable_by false flight r e = none_some e

not_less : (n : ℕ) → nat_lt n n ≡ false
not_less n = grind (arith, nat_tests)

less_one : (n : ℕ) → nat_lt n (suc n) ≡ true
less_one n = grind (arith, nat_tests)

-- ---- what is armed, or nothing

pub record Rearmed {D : Type 0} (state : D → DiskState) (calls : Option ℕ) (old new : Sessions (Stoppable D)) : Type 0 where
  pub keeps : (rs : List SessionRecord) → KeepsRecords (state_of state) rs old → KeepsRecords (state_of state) rs new
  pub back : (pick : ℕ) (before : Sessions (Stoppable D)) → BringsBack (state_of state) pick before old → BringsBack (state_of state) pick before new
  pub left : (active_of state new).counts.left ≡ calls
  pub pair : ArmsPair (pair_of state old) (pair_of state new)
  pub known : known new ≡ known old
  pub opening : SameOpening old new
  pub down : sessions_down new ≡ sessions_down old

module _ {D : Type 0} (state : D → DiskState) where
  rearmed_itself : (s : Sessions (Stoppable D)) → (active_of state s).counts.left ≡ None → Rearmed state None s s
  rearmed_itself s unarmed = record {
    keeps = λ rs k. k;
    back = λ pick before b. b;
    left = unarmed;
    pair = record {
      own = refl;
      first_content = refl;
      second_content = refl;
      first_size = refl;
      second_size = refl;
      first_moments = refl;
      second_moments = refl;
    };
    known = refl;
    opening = record { managers = refl; resources = refl; found = refl };
    down = refl;
  }

  rearmed : (calls : Option ℕ) (c c' : Coordinator D) → (active_of state (sessions_of c)).counts.left ≡ None → ArmsWith state calls c c' → Rearmed state calls (sessions_of c) (sessions_of c')
  rearmed None c c' unarmed same = subst (λ (q : Coordinator D). Rearmed state None (sessions_of c) (sessions_of q)) (sym same) (rearmed_itself (sessions_of c) unarmed)
  rearmed (Some calls) c c' unarmed a = record {
    keeps = a.sessions.keeps;
    back = a.sessions.back;
    left = a.sessions.left;
    pair = a.sessions.pair;
    known = a.sessions.known;
    opening = a.sessions.opening;
    down = a.sessions.down;
  }

  rest_itself : (c : Coordinator D) → SameRest c c
  rest_itself c = record { start = refl; retry = refl; forget = refl; flight = refl; records = refl; left = refl }

  rest_armed : (calls : Option ℕ) (c c' : Coordinator D) → ArmsWith state calls c c' → SameRest c c'
  rest_armed None c c' same = subst (λ (q : Coordinator D). SameRest c q) (sym same) (rest_itself c)
  rest_armed (Some calls) c c' a = a.rest

  moments_armed : (calls : Option ℕ) (c c' : Coordinator D) → ArmsWith state calls c c' → c'.table.moments ≡ c.table.moments
  moments_armed None c c' same = ap (λ (q : Coordinator D). q.table.moments) same
  moments_armed (Some calls) c c' a = a.moments

  pub unarmed_by : (second : Bool) (a o : Stoppable D) → (pair_on (state_of state) second a o).first.counts.left ≡ None → (pair_on (state_of state) second a o).second.counts.left ≡ None
      → (state_of state a).counts.left ≡ None
  unarmed_by false a o first second = first
  unarmed_by true a o first second = second

module _ {D : Type 0} (state : D → DiskState) (law : (d : Stoppable D) → IsLawful (state_of state d)) (c c' : Coordinator D) (s1 : Sessions (Stoppable D)) (past : List SessionRecord) (os : List Own)
    (st : StandsOver state c past os) (down : is_down c ≡ true) (pick now : ℕ) (calls : Option ℕ)
    (back : BringsBack (state_of state) pick (sessions_of c) s1) (opening : SameOpening (sessions_of c) s1) (up : sessions_down s1 ≡ false)
    (grown : own_faults (pair_of state (sessions_of c)) ≤ own_faults (pair_of state s1))
    (armed : Rearmed state calls s1 (sessions_of c')) where
  abbrev rs : List SessionRecord
  rs = (sessions_left past os).records

  abbrev left : Left SessionRecord
  left = sessions_left past os

  abbrev may_keep : Option SessionRecord
  may_keep = keepable false os left

  is_fallen : IsFallen c past os
  is_fallen = st.fallen (sym st.disks.down ∙ down)

  either_in : (a b : List ℕ) → StandsForEither (sessions_of c) left may_keep a b → StandsFor s1 rs a b ⊎ ((r : SessionRecord) × (may_keep ≡ Some r) × StandsFor s1 (r ∷ rs) a b)
  either_in a b (inl e) = inl (stands_in state law (sessions_of c) s1 rs a b opening e)
  either_in a b (inr (r, is, e)) = inr (r, is, stands_in state law (sessions_of c) s1 (r ∷ rs) a b opening e)

  brought : KeepsRecords (state_of state) rs s1 ⊎ ((r : SessionRecord) × (may_keep ≡ Some r) × KeepsRecords (state_of state) (r ∷ rs) s1)
  brought = came_back (state_of state) pick (sessions_of c) s1 rs may_keep back (λ a b first second. either_in a b (st.disks.images a b first second))

  abbrev entry : Option Durable → Own
  entry kept = own_entry (Restarted pick calls) now (still (act.Restarted kept))

  on_back : (kept : Option Durable) → KeepsRecords (state_of state) (added (kept_part kept left.flight) rs) s1 → OnDisks state (sessions_of c') past (entry kept ∷ os)
  on_back kept k =
      let keeps = armed.keeps (added (kept_part kept left.flight) rs) k in record {
        down = armed.down ∙ up;
        keeps = λ e. keeps;
        left = λ e. armed.left;
        images = λ a b first second. inl (keeps_images state law _ (sessions_of c') keeps a b first second);
        counted = omega (arith, st.disks.counted, grown, armed.pair.own);
      }

  -- it starts at this moment with the records that came back
  module _ (in_time : now < 2 ^ 64) (moments : c'.table.moments ≡ started_on now (known s1).sessions no_moments) (clock : start_of c' ≡ start_of c) where
    follows_back : (kept : Option Durable) → KeepsRecords (state_of state) (added (kept_part kept left.flight) rs) s1 → Follows (knowledge c'.table) (course past (entry kept ∷ os))
    follows_back kept k = record {
      tracks = subst (λ m. Tracks (known (sessions_of c')) m (added (kept_part kept left.flight) rs) (λ x. now) (λ x. now)) (sym (moments ∙ ap (λ (s : Snapshot). started_on now s.sessions no_moments) (sym armed.known)))
          (starts (added (kept_part kept left.flight) rs) (known (sessions_of c')) now k.list.made.allowed (armed.known ∙ k.knows) in_time);
    }

    stands_back : (kept : Option Durable) → KeepsRecords (state_of state) (added (kept_part kept left.flight) rs) s1 → StandsOver state c' past (entry kept ∷ os)
    stands_back kept k = record {
      disks = on_back kept k;
      starts = clock ∙ st.starts;
      few = subst (λ n. n ≤ MANAGERS) (sym (armed.opening.managers ∙ opening.managers)) st.few;
      follows = λ e. follows_back kept k;
      fallen = λ e. false_true e;
    }

    -- the record in flight was kept or not, as the number of records says
    module _ (flight : c'.flight ≡ c.flight) (records : c'.records ≡ c.records) where
      count : c'.records ≡ length rs
      count = records ∙ is_fallen.count

      kept_when : (n : ℕ) → (known (sessions_of c')).acts ≡ n → kept_of c' ≡ (if nat_lt (length rs) n then c'.flight else None)
      kept_when n acts = ap (λ (k : ℕ). if nat_lt k (memory c'.table).acts then c'.flight else None) count ∙ ap (λ (k : ℕ). if nat_lt (length rs) k then c'.flight else None) acts

      kept_none : KeepsRecords (state_of state) rs (sessions_of c') → kept_of c' ≡ None
      kept_none k = kept_when (length rs) (ap (λ (s : Snapshot). s.acts) k.knows) ∙ ap (λ b. if b then c'.flight else None) (not_less (length rs))

      kept_all : (r : SessionRecord) → KeepsRecords (state_of state) (r ∷ rs) (sessions_of c') → kept_of c' ≡ in_flight os
      kept_all r k = kept_when (suc (length rs)) (ap (λ (s : Snapshot). s.acts) k.knows) ∙ ap (λ b. if b then c'.flight else None) (less_one (length rs)) ∙ flight ∙ is_fallen.flight

      -- the records with the one in flight, where it may be kept
      with_kept : (r : SessionRecord) → may_keep ≡ Some r → added (kept_part (in_flight os) left.flight) rs ≡ r ∷ rs
      with_kept r is =
          let may = keepable_by (may_stand (calls_left false os)) left.flight r is in
          let done = flight_act past os r may.1 in
          ap (λ d. added (kept_part d left.flight) rs) done.1 ∙ ap (λ q. added q rs) may.1

      -- the images that came back stand for what is kept
      stand_kept : StandsForRecords of_coordinator (added (kept_part (kept_of c') left.flight) rs) back.a back.b
      stand_kept = by (either_in back.a back.b (st.disks.images back.a back.b back.first.0 back.second.0))
        where
          by : StandsFor s1 rs back.a back.b ⊎ ((r : SessionRecord) × (may_keep ≡ Some r) × StandsFor s1 (r ∷ rs) back.a back.b)
              → StandsForRecords of_coordinator (added (kept_part (kept_of c') left.flight) rs) back.a back.b
          by (inl e) =
              subst (λ k. StandsForRecords of_coordinator (added (kept_part k left.flight) rs) back.a back.b) (sym (kept_none (armed.keeps rs (back.keeps rs e))))
              (stands_for_records (managers_of s1) (resources_of s1) rs back.a back.b e)
          by (inr (r, is, e)) =
              subst (λ k. StandsForRecords of_coordinator (added (kept_part k left.flight) rs) back.a back.b) (sym (kept_all r (armed.keeps (r ∷ rs) (back.keeps (r ∷ rs) e))))
              (subst (λ l. StandsForRecords of_coordinator l back.a back.b) (sym (with_kept r is)) (stands_for_records (managers_of s1) (resources_of s1) (r ∷ rs) back.a back.b e))

      pub brings_back : BringsKept of_coordinator left (disks_of state c) pick (act.Restarted (kept_of c'))
      brings_back = brings_kept of_coordinator (λ (s : Snapshot). s.acts) (λ l. refl) left (disks_of state c) pick (act.Restarted (kept_of c')) back.a back.b back.first back.second stand_kept

      abbrev pub Comes : Type 0
      Comes = (keeps : Bool) × (kept_of c' ≡ kept_act keeps os (calls_left false os)) × StandsOver state c' past (entry (kept_of c') ∷ os)

      without : KeepsRecords (state_of state) rs s1 → Comes
      without k =
          let none = kept_none (armed.keeps rs k) in
          (false, none, subst (λ q. StandsOver state c' past (entry q ∷ os)) (sym none) (stands_back None k))

      with_flight : (r : SessionRecord) → may_keep ≡ Some r → KeepsRecords (state_of state) (r ∷ rs) s1 → Comes
      with_flight r is k =
          let may = keepable_by (may_stand (calls_left false os)) left.flight r is in
          let kept = kept_all r (armed.keeps (r ∷ rs) k) in (
            true,
            kept ∙ sym (ap (λ b. if b then in_flight os else None) may.0),
            subst (λ q. StandsOver state c' past (entry q ∷ os)) (sym kept)
                (stands_back (in_flight os) (subst (λ l. KeepsRecords (state_of state) l s1) (sym (with_kept r is)) k)),
          )

      pub comes : Comes
      comes = by brought
        where
          by : KeepsRecords (state_of state) rs s1 ⊎ ((r : SessionRecord) × (may_keep ≡ Some r) × KeepsRecords (state_of state) (r ∷ rs) s1) → Comes
          by (inl k) = without k
          by (inr (r, is, k)) = with_flight r is k

      -- its journal stands where what was kept leaves it, with a snapshot in place of all where one is due
      module _ (start : Extent) (size : ℕ) (lies : LiesOver state c past start size os) (sized : AreSized (state_of state) (twin (sessions_of c')) size) where
        again : BringsBack (state_of state) pick (sessions_of c) (sessions_of c')
        again = armed.back pick (sessions_of c) back

        scenario : SameOpening (sessions_of c) (sessions_of c')
        scenario = record { managers = armed.opening.managers ∙ opening.managers; resources = armed.opening.resources ∙ opening.resources; found = armed.opening.found ∙ opening.found }

        lies_here : AtEither (sessions_of c) left (extent_after past start size os) again.a again.b → LiesOver state c' past start size (entry (kept_of c') ∷ os)
        lies_here (inl at) =
            subst (λ q. LiesOver state c' past start size (entry q ∷ os)) (sym (kept_none (keeps_back (state_of state) law (sessions_of c) (sessions_of c') past start size os lies pick again scenario sized now calls rs at.0)))
            (lies_alone (state_of state) law (sessions_of c) (sessions_of c') past start size os lies pick again scenario sized now calls at)
        lies_here (inr (r, flies, at)) =
            let done = flight_act past os r flies in
            let kept = kept_all r (keeps_back (state_of state) law (sessions_of c) (sessions_of c') past start size os lies pick again scenario sized now calls (r ∷ rs) at.0) in
            subst (λ q. LiesOver state c' past start size (entry q ∷ os)) (sym (kept ∙ done.1))
            (lies_kept (state_of state) law (sessions_of c) (sessions_of c') past start size os lies pick again scenario sized now calls r done.0 flies at)

        pub lies_back : LiesOver state c' past start size (entry (kept_of c') ∷ os)
        lies_back = lies_here (lies.images again.a again.b again.first.0 again.second.0)

happens_back : (times : Times) (past : List SessionRecord) (os : List Own) (now pick : ℕ) (calls : Option ℕ) (keeps : Bool) (kept : Option Durable) → down_by os ≡ true → kept ≡ kept_act keeps os (calls_left false os)
    → still (act.Restarted kept) ≡ happens (CoordinatorRole times past) os now false keeps (Restarted pick calls)
happens_back times past os now pick calls keeps kept down is = rw down (ap (λ k. still (act.Restarted k)) is)

-- ---- two disks after a restart

both_grow : (a b a' b' : ℕ) → a ≤ a' → b ≤ b' → min (a + b) (2 ^ 64 - 1) ≤ min (a' + b') (2 ^ 64 - 1)
both_grow a b a' b' one two = omega (arith, one, two)

either_fails : (a b a' b' : Counts) → a.own ≤ a'.own → b.own ≤ b'.own → FailsItself a a' ⊎ FailsItself b b' → Rose (min (a.own + b.own) (2 ^ 64 - 1)) (min (a'.own + b'.own) (2 ^ 64 - 1))
either_fails a b a' b' one two (inl f) = let rose = f.own in omega (arith, one, two, rose)
either_fails a b a' b' one two (inr f) = let rose = f.own in omega (arith, one, two, rose)

-- a restart that answered Ok or not brought up both disks of these sessions
pub record ComeUp {D : Type 0} (state : D → DiskState) (ok : Bool) (pick : ℕ) (old new : Sessions (Stoppable D)) : Type 0 where
  pub first : ComesUp ok pick (pair_of state old).first (pair_of state new).first
  pub second : ComesUp ok pick (pair_of state old).second (pair_of state new).second

module _ {D : Type 0} (state : D → DiskState) (ok : Bool) (pick : ℕ) (old new : Sessions (Stoppable D)) (u : ComeUp state ok pick old new) where
  pub up_grown : own_faults (pair_of state old) ≤ own_faults (pair_of state new)
  up_grown = both_grow _ _ _ _ u.first.own u.second.own

  pub up_fails : FailsItself (pair_of state old).first.counts (pair_of state new).first.counts ⊎ FailsItself (pair_of state old).second.counts (pair_of state new).second.counts
      → DisksFail (pair_of state old) (pair_of state new)
  up_fails f = either_fails _ _ _ _ u.first.own u.second.own f

-- what stays of a coordinator whose disks are of the same kind
same_by : {D : Type 0} (state : D → DiskState) (c c' : Coordinator D) → SameOpening (sessions_of c) (sessions_of c') → SameKind (disks_of state c).first (disks_of state c').first
    → SameKind (disks_of state c).second (disks_of state c').second → StaysItself (node_state state c) (node_state state c')
same_by state c c' opening first second = record {
  same_place = refl;
  same_inputs = λ given s. subst (λ m. ServesInput m (resources_of (sessions_of c')) given) (sym opening.managers) (subst (λ k. ServesInput (managers_of (sessions_of c)) k given) (sym opening.resources) s);
  first = first;
  second = second;
}

times_rest : {D : Type 0} (c c' : Coordinator D) → SameRest c c' → times_of c ≡ times_of c'
times_rest c c' rest = λ i. record { retry = sym rest.retry i; forget = sym rest.forget i }

-- ---- a restart that ended in an error

-- each pair of images of the one goes on as one of the other's
abbrev pub GoOn : {D : Type 0} → (D → DiskState) → Sessions (Stoppable D) → Sessions (Stoppable D) → Type 0
GoOn state s s' = (x y : List ℕ) → (pair_of state s').first.may_leave x → (pair_of state s').second.may_leave y
    → (a b : List ℕ) × (pair_of state s).first.may_leave a × (pair_of state s).second.may_leave b × GoesOnAs (managers_of s) (resources_of s) a b x y

told_bytes : (o : Option Content) → IsSome o → (a : List ℕ) × (option_map (λ (c : Content). c.present) o ≡ Some a)
told_bytes None told = false_true told
told_bytes (Some c) told = (c.present, refl)

module _ {D : Type 0} (state : D → DiskState) (law : (d : Stoppable D) → IsLawful (state_of state d)) (c : Coordinator D) (s' : Sessions (Stoppable D)) (go_on : GoOn state (sessions_of c) s') where
  some_list : (past : List SessionRecord) (owns : List Own) (a b : List ℕ) → StandsForEither (sessions_of c) (sessions_left past owns) (keepable false owns (sessions_left past owns)) a b
      → (rs : List SessionRecord) × StandsFor (sessions_of c) rs a b
  some_list past owns a b (inl e) = ((sessions_left past owns).records, e)
  some_list past owns a b (inr (r, is, e)) = (r ∷ (sessions_left past owns).records, e)

  cause_by : (role : Role) (owns : List Own) (old new : NodeState) (pick : ℕ) (calls : Option ℕ) (now : ℕ) (error : OpenError) → IsNoDamage error → (error ≡ open_error.Failed → DisksFail old.disks new.disks)
      → IsRestartError old new pick calls now role owns error
  cause_by role owns old new pick calls now open_error.Failed none fails = fails refl
  cause_by role owns old new pick calls now (open_error.Damaged second at) none fails = absurd none
  cause_by role owns old new pick calls now (open_error.Full full) none fails = absurd none
  cause_by role owns old new pick calls now open_error.NoMemory none fails = tt

  -- bytes that it stands for are never damaged
  pub restart_cause : (c' : Coordinator D) (pick : ℕ) (calls : Option ℕ) (now : ℕ) (error : OpenError) → AreTold (disks_of state c)
      → SameKind (disks_of state c).first (pair_of state s').first → SameKind (disks_of state c).second (pair_of state s').second
      → ((a b : List ℕ) → present (pair_of state s').first ≡ Some a → present (pair_of state s').second ≡ Some b → IsDamage (meaning_of (managers_of (sessions_of c)) (resources_of (sessions_of c))) a b error)
      → (error ≡ open_error.Failed → DisksFail (disks_of state c) (disks_of state c')) → (role : Role) (owns : List Own) → (node_state state c).stands_for role owns
      → IsRestartError (node_state state c) (node_state state c') pick calls now role owns error
  restart_cause c' pick calls now error told first second damaged fails (CoordinatorRole times past) owns (same, s) =
      let one = told_bytes (pair_of state s').first.content (first.tells_images ∙ told.first) in
      let two = told_bytes (pair_of state s').second.content (second.tells_images ∙ told.second) in
      let from = go_on one.0 two.0 ((law (first_disk (twin s'))).present_may_stay one.0 one.1) ((law (second_disk (twin s'))).present_may_stay two.0 two.1) in
      let list = some_list past owns from.0 from.1 (s.disks.images from.0 from.1 from.2 from.3) in
      cause_by (CoordinatorRole times past) owns (node_state state c) (node_state state c') pick calls now error
      (not_damaged (managers_of (sessions_of c)) (resources_of (sessions_of c)) one.0 two.0 error (damaged one.0 two.0 one.1 two.1) list.0 (from.4 list.0 list.1)) fails
  restart_cause c' pick calls now error told first second damaged fails (Resource setup past) owns s = absurd s
  restart_cause c' pick calls now error told first second damaged fails (Manager settings) owns s = absurd s

module _ {D : Type 0} (state : D → DiskState) (law : (d : Stoppable D) → IsLawful (state_of state d)) (c c' : Coordinator D) (down : is_down c ≡ true) (go_on : GoOn state (sessions_of c) (sessions_of c'))
    (grown : own_faults (disks_of state c) ≤ own_faults (disks_of state c')) (opening : SameOpening (sessions_of c) (sessions_of c')) (still_down : is_down c' ≡ true) (rest : SameRest c c') where
  either_on : (left : Left SessionRecord) (kept : Option SessionRecord) (a b x y : List ℕ) → GoesOnAs (managers_of (sessions_of c)) (resources_of (sessions_of c)) a b x y
      → StandsForEither (sessions_of c) left kept a b → StandsForEither (sessions_of c') left kept x y
  either_on left kept a b x y on (inl e) = inl (stands_in state law (sessions_of c) (sessions_of c') left.records x y opening (on left.records e))
  either_on left kept a b x y on (inr (r, is, e)) = inr (r, is, stands_in state law (sessions_of c) (sessions_of c') (r ∷ left.records) x y opening (on (r ∷ left.records) e))

  stands_fallen : (past : List SessionRecord) (owns : List Own) → StandsOver state c past owns → StandsOver state c' past owns
  stands_fallen past owns s =
      let downos : down_by owns ≡ true = sym s.disks.down ∙ down in record {
        disks = record {
          down = still_down ∙ sym downos;
          keeps = λ e. false_true (sym e ∙ downos);
          left = λ e. false_true (sym e ∙ downos);
          images = λ x y first second. let from = go_on x y first second in
              either_on (sessions_left past owns) (keepable false owns (sessions_left past owns)) from.0 from.1 x y from.4 (s.disks.images from.0 from.1 from.2 from.3);
          counted = omega (arith, s.disks.counted, grown);
        };
        starts = rest.start ∙ s.starts;
        few = subst (λ n. n ≤ MANAGERS) (sym opening.managers) s.few;
        follows = λ e. false_true (sym e ∙ downos);
        fallen = λ e. let f = s.fallen e in record { flight = rest.flight ∙ f.flight; count = rest.records ∙ f.count };
      }

  pub after_error : StandsAsBefore (node_state state c) (node_state state c')
  after_error (CoordinatorRole times past) owns (same, s) = (same ∙ times_rest c c' rest, stands_fallen past owns s)
  after_error (Resource setup past) owns s = absurd s
  after_error (Manager settings) owns s = absurd s

-- ---- all that is promised of a restart

abbrev pub unit_error : OpenError → Result (Unit {0}) OpenError
unit_error e = Err e

abbrev act_error : OpenError → Result Act OpenError
act_error e = Err e

abbrev ended : Option Durable → Result Act OpenError
ended kept = Ok (act.Restarted kept)

same_error : (e f : OpenError) → act_error e ≡ act_error f → e ≡ f
same_error e f same = cc

module _ {D : Type 0} (state : D → DiskState) (law : (d : Stoppable D) → IsLawful (state_of state d)) (c : Coordinator D) (s1 : Sessions (Stoppable D)) (pick now : ℕ) (calls : Option ℕ) (down : is_down c ≡ true)
    (opening : SameOpening (sessions_of c) s1) (go_on : GoOn state (sessions_of c) s1) (stays : StaysWhereShort (state_of state) (twin (sessions_of c)) (twin s1)) where
  -- its disks weren't brought back
  pub not_back : (c' : Coordinator D) (error : OpenError) → sessions_of c' ≡ s1 → SameRest c c' → sessions_down s1 ≡ true → ComeUp state false pick (sessions_of c) s1
      → ((a b : List ℕ) → present (pair_of state s1).first ≡ Some a → present (pair_of state s1).second ≡ Some b → IsDamage (meaning_of (managers_of (sessions_of c)) (resources_of (sessions_of c))) a b error)
      → IsNotFull error
      → (error ≡ open_error.Failed → FailsItself (disks_of state c).first.counts (pair_of state s1).first.counts ⊎ FailsItself (disks_of state c).second.counts (pair_of state s1).second.counts)
      → RestartsBy state c c' pick calls now (Err error)
  not_back c' error is rest fell up damaged not_full fails = record {
    restarts = λ told. tt;
    after = λ told role owns s. (
      after_error state law c c' down (subst (GoOn state (sessions_of c)) (sym is) go_on) (subst (λ q. own_faults (disks_of state c) ≤ own_faults (pair_of state q)) (sym is) (up_grown state false pick (sessions_of c) s1 up))
          (subst (SameOpening (sessions_of c)) (sym is) opening) (ap sessions_down is ∙ fell) rest role owns s,
      restart_cause state law c s1 go_on c' pick calls now error told up.first.kind up.second.kind damaged failing role owns s,
    );
    brings = λ told. tt;
    not_full = not_full;
    not_due = subst (λ q. StaysWhereShort (state_of state) (twin (sessions_of c)) (twin q)) (sym is) stays;
    settles = λ told. tt;
    picked = tt;
    failed = λ e. failing (same_error error open_error.Failed e);
    same = same_by state c c' (subst (SameOpening (sessions_of c)) (sym is) opening) (subst (λ q. SameKind (disks_of state c).first (pair_of state q).first) (sym is) up.first.kind)
        (subst (λ q. SameKind (disks_of state c).second (pair_of state q).second) (sym is) up.second.kind);
    counted = rest.left;
    down = ap sessions_down is ∙ fell;
    opening = subst (SameOpening (sessions_of c)) (sym is) opening;
  }
    where
      failing : error ≡ open_error.Failed → DisksFail (disks_of state c) (disks_of state c')
      failing e = subst (λ q. DisksFail (disks_of state c) (pair_of state q)) (sym is) (up_fails state false pick (sessions_of c) s1 up (fails e))

  module _ (up : sessions_down s1 ≡ false) (both : ComeUp state true pick (sessions_of c) s1) where
    -- they were, and memory was refused
    pub no_memory : (c1 c' : Coordinator D) → sessions_of c1 ≡ s1 → SameRest c c1 → FallsAgain c1 c' → RestartsBy state c c' pick calls now (Err open_error.NoMemory)
    no_memory c1 c' is rest fell =
        let pair : pair_of state s1 ≡ disks_of state c' = ap (pair_of state) (sym is) ∙ same_pair state (sessions_of c1) (sessions_of c') fell.disks in
        let now_opening = over opening (subst (λ q. SameOpening q (sessions_of c')) is fell.opening) in
        let beside = then_rest c c1 c' rest fell.rest in record {
          restarts = λ told. tt;
          after = λ told role owns s. (
            after_error state law c c' down (λ x y first second. go_on x y (subst (λ (p : Pair). p.first.may_leave x) (sym pair) first) (subst (λ (p : Pair). p.second.may_leave y) (sym pair) second))
                (subst (λ p. own_faults (disks_of state c) ≤ own_faults p) pair (up_grown state true pick (sessions_of c) s1 both)) now_opening fell.down beside role owns s,
            tt,
          );
          brings = λ told. tt;
          not_full = tt;
          not_due = λ short x y first second. stays short x y (subst (λ (p : Pair). p.first.may_leave x) (sym pair) first) (subst (λ (p : Pair). p.second.may_leave y) (sym pair) second);
          settles = λ told. tt;
          picked = tt;
          failed = λ e. absurd (let no : act_error open_error.NoMemory ≡ act_error open_error.Failed = e in cc);
          same = same_by state c c' now_opening (subst (λ (p : Pair). SameKind (disks_of state c).first p.first) pair both.first.kind) (subst (λ (p : Pair). SameKind (disks_of state c).second p.second) pair both.second.kind);
          counted = beside.left;
          down = fell.down;
          opening = now_opening;
        }
      where
        over : {s t : Sessions (Stoppable D)} → SameOpening (sessions_of c) s → SameOpening s t → SameOpening (sessions_of c) t
        over one two = record { managers = two.managers ∙ one.managers; resources = two.resources ∙ one.resources; found = two.found ∙ one.found }

        then_rest : (x y z : Coordinator D) → SameRest x y → SameRest y z → SameRest x z
        then_rest x y z one two = record {
          start = two.start ∙ one.start;
          retry = two.retry ∙ one.retry;
          forget = two.forget ∙ one.forget;
          flight = two.flight ∙ one.flight;
          records = two.records ∙ one.records;
          left = two.left ∙ one.left;
        }

    -- it came back, and is armed where calls are given
    module _ (back : IsTold (disks_of state c).first → IsTold (disks_of state c).second → BringsBack (state_of state) pick (sessions_of c) s1) (in_time : now ≤ LATEST_MOMENT) where
      pub is_back : (c1 c2 c' : Coordinator D) → sessions_of c1 ≡ s1 → SameRest c c1 → StartsAgain now c1 c2 → ArmsWith state calls c2 c' → (kept : Option Durable) → kept ≡ kept_of c'
          → RestartsBy state c c' pick calls now (Ok (act.Restarted kept))
      is_back c1 c2 c' is rest starts_again arms kept kept_is = subst (λ k. RestartsBy state c c' pick calls now (Ok (act.Restarted k))) (sym kept_is) (record {
        restarts = λ told. comes_back told;
        after = λ told. tt;
        brings = λ told. brings_all told;
        not_full = tt;
        not_due = tt;
        settles = λ told. armed.back pick (sessions_of c) (back told.first told.second);
        picked = (λ told e. both.first.picked refl told (sym (content_first) ∙ e), λ told e. both.second.picked refl told (sym (content_second) ∙ e));
        failed = λ e. absurd (let no : ended (kept_of c') ≡ act_error open_error.Failed = e in cc);
        same = same_by state c c' all_opening kind_first kind_second;
        counted = all_rest.left;
        down = armed.down ∙ up;
        opening = all_opening;
      })
        where
          sessions2 : sessions_of c2 ≡ s1
          sessions2 = starts_again.sessions ∙ is

          unarmed : (active_of state (sessions_of c2)).counts.left ≡ None
          unarmed = subst (λ q. (active_of state q).counts.left ≡ None) (sym sessions2)
              (unarmed_by state (is_second (twin s1)) (active_disk (twin s1)) (other_disk (twin s1)) (both.first.unarmed refl) (both.second.unarmed refl))

          armed : Rearmed state calls s1 (sessions_of c')
          armed = subst (λ q. Rearmed state calls q (sessions_of c')) sessions2 (rearmed state calls c2 c' unarmed arms)

          last : SameRest c2 c'
          last = rest_armed state calls c2 c' arms

          all_rest : SameRest c c'
          all_rest = record {
            start = last.start ∙ starts_again.rest.start ∙ rest.start;
            retry = last.retry ∙ starts_again.rest.retry ∙ rest.retry;
            forget = last.forget ∙ starts_again.rest.forget ∙ rest.forget;
            flight = last.flight ∙ starts_again.rest.flight ∙ rest.flight;
            records = last.records ∙ starts_again.rest.records ∙ rest.records;
            left = last.left ∙ starts_again.rest.left ∙ rest.left;
          }

          moments : c'.table.moments ≡ started_on now (known s1).sessions no_moments
          moments = moments_armed state calls c2 c' arms ∙ starts_again.moments ∙ ap (λ (q : Sessions (Stoppable D)). started_on now (known q).sessions no_moments) is

          all_opening : SameOpening (sessions_of c) (sessions_of c')
          all_opening = record {
            managers = armed.opening.managers ∙ opening.managers;
            resources = armed.opening.resources ∙ opening.resources;
            found = armed.opening.found ∙ opening.found;
          }

          kind_first : SameKind (disks_of state c).first (disks_of state c').first
          kind_first = record {
            size = armed.pair.first_size ∙ both.first.kind.size;
            tells_images = ap is_some armed.pair.first_content ∙ both.first.kind.tells_images;
            tells_moments = armed.pair.first_moments ∙ both.first.kind.tells_moments;
          }

          kind_second : SameKind (disks_of state c).second (disks_of state c').second
          kind_second = record {
            size = armed.pair.second_size ∙ both.second.kind.size;
            tells_images = ap is_some armed.pair.second_content ∙ both.second.kind.tells_images;
            tells_moments = armed.pair.second_moments ∙ both.second.kind.tells_moments;
          }

          content_first : last_pick (disks_of state c').first ≡ last_pick (pair_of state s1).first
          content_first = ap (option_map (λ (k : Content). k.last_pick)) armed.pair.first_content

          content_second : last_pick (disks_of state c').second ≡ last_pick (pair_of state s1).second
          content_second = ap (option_map (λ (k : Content). k.last_pick)) armed.pair.second_content

          comes_back : AreTold (disks_of state c) → Restarts (node_state state c) (node_state state c') pick calls now (act.Restarted (kept_of c'))
          comes_back told (CoordinatorRole times past) owns (same, s) =
              let k = comes state law c c' s1 past owns s down pick now calls (back told.first told.second) opening up (up_grown state true pick (sessions_of c) s1 both) armed (omega (arith, in_time)) moments all_rest.start all_rest.flight all_rest.records in (
                false,
                k.0,
                happens_back times past owns now pick calls k.0 (kept_of c') (sym s.disks.down ∙ down) k.1,
                (same ∙ times_rest c c' all_rest, k.2),
                (λ e. false_true e),
                λ start size lies. (
                  fits_none past start size owns (own_entry (Restarted pick calls) now (still (act.Restarted (kept_of c')))) refl,
                  lies_back state law c c' s1 past owns s down pick now calls (back told.first told.second) opening up (up_grown state true pick (sessions_of c) s1 both) armed (omega (arith, in_time)) moments all_rest.start
                      all_rest.flight all_rest.records start size lies (record { first = kind_first.size ∙ lies.sized.first; second = kind_second.size ∙ lies.sized.second }),
                ),
              )
          comes_back told (Resource setup past) owns s = absurd s
          comes_back told (Manager settings) owns s = absurd s

          brings_all : AreTold (disks_of state c) → Brings (node_state state c) pick (act.Restarted (kept_of c'))
          brings_all told (CoordinatorRole times past) owns (same, s) =
              brings_back state law c c' s1 past owns s down pick now calls (back told.first told.second) opening up (up_grown state true pick (sessions_of c) s1 both) armed (omega (arith, in_time)) moments all_rest.start
              all_rest.flight all_rest.records
          brings_all told (Resource setup past) owns s = absurd s
          brings_all told (Manager settings) owns s = absurd s
