-- A resource after a restart, in place.
use Rattle.std.proofs.Common.{◌≡◌, ◌⊎◌, inl, inr, ◌+◌, ◌-◌, ◌≤◌, ◌^◌, ℕ, suc, min, nat_lt, Bool, true, false, if◌then◌else◌, List, [], ◌∷◌, length, Option, Some, None, option_map, Result, Ok, Err, refl, sym, ap, subst, ◌∙◌, arith}
use Rattle.std.specs.List.{AllByRecursion}
use Rattle.std.specs.Option.{option_and_then}
use Rattle.std.proofs.lemmas.Bool.Decides.{nat_tests}
use Rattle.disk_model.specs.Disk.{DiskState, Counts, IsLawful, SameKind, Rose, last_pick}
use Rattle.disk_model.specs.Stop.{state_of}
use Rattle.disk_model.specs.declared.stoppable.Stoppable.{Stoppable}
use Rattle.journal_checkpoint.specs.Images.{Pair, FailsItself}
use Rattle.disk_journal.specs.Keeping.{IsFull}
use Rattle.journal_checkpoint.specs.Ends.{HasNoPlace}
use Rattle.journal_checkpoint.specs.Extents.{Extent, longer, needed}
use Rattle.journal_checkpoint.specs.Keeping.{AreSized, active_disk, other_disk, is_second, needed_for, twin_extent}
use Rattle.journal_checkpoint.specs.Pairs.{chosen}
use Rattle.memory_store.specs.Checkpoints.{checked}
use Rattle.memory_store.specs.Keeping.{ComesUp, StaysWhereShort}
use Rattle.journal_checkpoint.proofs.Ends.{no_place}
use Rattle.seata_types.specs.declared.acts.Act.{Act}
use Rattle.seata_types.specs.declared.acts.Act.TheVariants as act
use Rattle.seata_types.specs.declared.acts.Durable.{Durable}
use Rattle.seata_types.specs.declared.acts.Durable.TheVariants as durable
use Rattle.seata_types.specs.declared.errors.Full.{Full}
use Rattle.seata_types.specs.declared.errors.OpenError.{OpenError}
use Rattle.seata_types.specs.declared.errors.OpenError.TheVariants as open_error
use Rattle.seata_types.specs.declared.errors.StoreError.TheVariants as store_error
use Rattle.local_txn.specs.Answers.{no_tickets}
use Rattle.durable_records.specs.declared.resources.ResourceRecord.{ResourceRecord}
use Rattle.durable_records.specs.declared.resources.ResourceRecord.TheVariants as log
use Rattle.durable_records.specs.UndoRecords.{boots}
use Rattle.history_rules.specs.Own.{Left, Own, Restarted, added, asked_act, kept_part, kept_records, leaves, still}
use Rattle.history_rules.specs.Devices.{calls_left, fails, fault_entries, flight_after, in_flight, is_short, kept_act, may_stand, restarted, spent, is_down as down_by}
use Rattle.history_rules.specs.ResourceMemory.{Memory, Setup, booted, boot_over, memory, memory_after, opening_tables}
use Rattle.history_rules.specs.Nodes.{Role, Coordinator, Manager, happens}
use Rattle.history_rules.specs.Nodes.{Resource as ResourceRole}
use Rattle.node_steps.specs.Durable.{HavePick, StandsForRecords as Stand, keepable, of_resource, own_faults}
use Rattle.node_steps.specs.Ends.{IsOver, extent, reopened, resource_recording, resource_saving, with_added}
use Rattle.node_steps.specs.Nodes.{NodeState}
use Rattle.node_steps.specs.Promises.{AreTold, BootOverflows, Brings, BringsKept, DisksFail, HasNoBootPlace, IsRestartError, LiesWith, Restarts, StandsAsBefore, own_entry}
use Rattle.node_steps.proofs.Kept.{brings_kept}
use Rattle.resource_log.specs.declared.states.ResourceSnapshot.{ResourceSnapshot}
use Rattle.resource_log.specs.Records.{fields_bytes, record_bytes}
use Rattle.resource_memory.specs.Changes.{after}
use Rattle.resource_memory.specs.Known.{Known}
use Rattle.resource_store.specs.declared.store.Store.{Store}
use Rattle.resource_store.specs.Keeping.{Adds, BringsBack, Changes, GoesOnAs, IsNoDamage, KeepsRecords, Loses, StandsAlways, StandsAt, boot_record, found_of, is_down as store_is_down, known, setting_of, twin}
use Rattle.resource_store.specs.Meaning.{IsOf, Opens, Setting, meaning_of}
use Rattle.resource_store.specs.Standing.{StandsForRecords}
use Rattle.resource_store.proofs.OpeningLaws.{boot_sound, came_back}
use Rattle.record_places.specs.Within.{IsTableWithin}
use Rattle.resource_core.specs.declared.nodes.Resource.{Resource}
use Rattle.resource_core.specs.Lying.{AtEither, Lies}
use Rattle.resource_core.specs.NodeLaws.{stands_for_records}
use Rattle.resource_core.specs.NodeMoving.{ArmsPair, ArmsWith, Boots, kept_of, with_store}
use Rattle.resource_core.specs.NodeStanding.{IsFallen, IsSound, StandsAs, StandsForEither, StandsOver, node_state}
use Rattle.resource_core.specs.NodeStepping.{RestartsBy}
use Rattle.resource_core.specs.Shown.{active_of, disks_of, is_down, pair_of, store_of}
use Rattle.resource_core.proofs.LyingLaws.{at_there, fits_for, flies_behind, lies_up, loaded, sized_after}
use Rattle.resource_core.proofs.NodeArms.{moved_armed, setup_still}
use Rattle.resource_core.proofs.NodeDisks.{Moved, false_true, faults_more, fell_for, keeps_images, lost_images, moved, pair_on, passed_left, passed_long}
use Rattle.resource_core.proofs.NodeStepped.{stays_itself}

none_some : {X : Type 0} (r : ResourceRecord) → None ≡ Some r → X
none_some r e = absurd cc

-- ---- an act in flight

at_by : (f : Durable → Option ResourceRecord) (at : Option Durable) (r : ResourceRecord) → option_and_then f at ≡ Some r → (d : Durable) × (at ≡ Some d)
at_by f None r e = none_some r e
at_by f (Some d) r e = (d, refl)

flight_step : (a : Act) (f : Durable → Option ResourceRecord) (left : Left ResourceRecord) (before : Option Durable) → ((q : ResourceRecord) → left.flight ≡ Some q → (d : Durable) × (before ≡ Some d))
    → (r : ResourceRecord) → (booted a (leaves a (option_and_then f (asked_act a)) left)).flight ≡ Some r → (d : Durable) × (flight_after a before ≡ Some d)
flight_step (act.Durable done) f left before below r e = none_some r e
flight_step (act.Down kept at) f left before below r e = at_by f at r e
flight_step (act.Restarted kept) f left before below r e = none_some r e
flight_step _ f left before below r e = below r e

-- a record in flight is that of an act in flight
flight_act : (setup : Setup) (past : List ResourceRecord) (os : List Own) (r : ResourceRecord) → (memory setup past os).left.flight ≡ Some r → (d : Durable) × (in_flight os ≡ Some d)
flight_act setup past [] r e = none_some r e
flight_act setup past (o ∷ os) r e = by (memory setup past os) (flight_act setup past os) e
  where
    by : (m : Memory) → ((q : ResourceRecord) → m.left.flight ≡ Some q → (d : Durable) × (in_flight os ≡ Some d)) → (memory_after setup o m).left.flight ≡ Some r → (d : Durable) × (in_flight (o ∷ os) ≡ Some d)
    by m below e = flight_step o.step.act _ m.left (in_flight os) below r e

keepable_by : (b : Bool) (flight : Option ResourceRecord) (r : ResourceRecord) → (if b then flight else None) ≡ Some r → (b ≡ true) × (flight ≡ Some r)
keepable_by true flight r e = (refl, e)
keepable_by false flight r e = none_some r e

not_less : (n : ℕ) → nat_lt n n ≡ false
not_less n = grind (arith, nat_tests)

less_one : (n : ℕ) → nat_lt n (suc n) ≡ true
less_one n = grind (arith, nat_tests)

-- the record of a boot has as many bytes for each number
boot_length : (n k : ℕ) → length (record_bytes (log.Boot n)) ≡ length (record_bytes (log.Boot k))
unfolding fields_bytes
boot_length n k = refl

-- ---- two disks

-- the active disk is one of both
one_of_both : {D : Type 0} (state : D → DiskState) (P : ℕ → Type 0) (second : Bool) (a o : D) → P (state a).size → P (state (chosen second a o)).size ⊎ P (state (chosen second o a)).size
one_of_both state P true a o said = inr said
one_of_both state P false a o said = inl said

pub fails_more : (a b c : ℕ) → a ≤ b → Rose b c → Rose a c
fails_more a b c one rose = omega (arith, one, rose)

both_grow : (a b a' b' : ℕ) → a ≤ a' → b ≤ b' → min (a + b) (2 ^ 64 - 1) ≤ min (a' + b') (2 ^ 64 - 1)
both_grow a b a' b' one two = omega (arith, one, two)

either_fails : (a b a' b' : Counts) → a.own ≤ a'.own → b.own ≤ b'.own → FailsItself a a' ⊎ FailsItself b b' → Rose (min (a.own + b.own) (2 ^ 64 - 1)) (min (a'.own + b'.own) (2 ^ 64 - 1))
either_fails a b a' b' one two (inl f) = let rose = f.own in omega (arith, one, two, rose)
either_fails a b a' b' one two (inr f) = let rose = f.own in omega (arith, one, two, rose)

-- a restart that answered Ok or not brought up both disks
pub record ComeUp (ok : Bool) (pick : ℕ) (old new : Pair) : Type 0 where
  pub first : ComesUp ok pick old.first new.first
  pub second : ComesUp ok pick old.second new.second

up_grown : (ok : Bool) (pick : ℕ) (old new : Pair) → ComeUp ok pick old new → own_faults old ≤ own_faults new
up_grown ok pick old new u = both_grow _ _ _ _ u.first.own u.second.own

-- each pair of images of the one goes on as one of the other's
abbrev pub GoOn : Setting → Pair → Pair → Type 0
GoOn t old new = (x y : List ℕ) → new.first.may_leave x → new.second.may_leave y → (a b : List ℕ) × old.first.may_leave a × old.second.may_leave b × GoesOnAs t a b x y

-- ---- what is armed, or nothing

pub record Rearmed {D : Type 0} (state : D → DiskState) (calls : Option ℕ) (old new : Store (Stoppable D)) : Type 0 where
  pub keeps : (t : Setting) (rs : List ResourceRecord) → KeepsRecords (state_of state) t rs old → KeepsRecords (state_of state) t rs new
  pub back : (pick : ℕ) (before : Store (Stoppable D)) → BringsBack (state_of state) pick before old → BringsBack (state_of state) pick before new
  pub left : (active_of state new).counts.left ≡ calls
  pub pair : ArmsPair (pair_of state old) (pair_of state new)
  pub known : known new ≡ known old
  pub setting : setting_of new ≡ setting_of old
  pub found : found_of new ≡ found_of old
  pub down : store_is_down new ≡ store_is_down old

module _ {D : Type 0} (state : D → DiskState) where
  rearmed_itself : (s : Store (Stoppable D)) → (active_of state s).counts.left ≡ None → Rearmed state None s s
  rearmed_itself s unarmed = record {
    keeps = λ t rs k. k;
    back = λ pick before b. b;
    left = unarmed;
    pair = record { own = refl; first_content = refl; second_content = refl; first_size = refl; second_size = refl; first_moments = refl; second_moments = refl; first_leaves = λ c e. e; second_leaves = λ c e. e };
    known = refl;
    setting = refl;
    found = refl;
    down = refl;
  }

  pub rearmed : (calls : Option ℕ) (r r' : Resource D) → (active_of state (store_of r)).counts.left ≡ None → ArmsWith state calls r r' → Rearmed state calls (store_of r) (store_of r')
  rearmed None r r' unarmed same = subst (λ (q : Resource D). Rearmed state None (store_of r) (store_of q)) (sym same) (rearmed_itself (store_of r) unarmed)
  rearmed (Some calls) r r' unarmed a = record {
    keeps = a.store.keeps;
    back = a.store.back;
    left = a.store.left;
    pair = a.store.pair;
    known = a.store.known;
    setting = a.store.setting;
    found = a.store.found;
    down = a.store.down;
  }

  pub rest_armed : (calls : Option ℕ) (r r' : Resource D) → ArmsWith state calls r r' → r' ≡ with_store r (store_of r')
  rest_armed None r r' same = same ∙ ap (λ (q : Resource D). with_store r (store_of q)) (sym same)
  rest_armed (Some calls) r r' a = a.rest

  pub up_armed : (calls : Option ℕ) (r r' : Resource D) → ArmsWith state calls r r' → store_is_down (store_of r) ≡ false → store_is_down (store_of r') ≡ false
  up_armed None r r' same up = ap (λ (q : Resource D). store_is_down (store_of q)) same ∙ up
  up_armed (Some calls) r r' a up = a.store.down ∙ up

  pub unarmed_by : (second : Bool) (a o : Stoppable D) → (pair_on (state_of state) second a o).first.counts.left ≡ None → (pair_on (state_of state) second a o).second.counts.left ≡ None
      → (state_of state a).counts.left ≡ None
  unarmed_by false a o first second = first
  unarmed_by true a o first second = second

-- ---- while it is down

module _ {D : Type 0} (state : D → DiskState) (r : Resource D) (s' : Store (Stoppable D)) (down : is_down r ≡ true) (setting : setting_of s' ≡ setting_of (store_of r)) where
  -- it needs nothing of what its store knows
  pub sound_down : IsSound r → IsSound (with_store r s')
  sound_down i = record {
    numbered = i.numbered ∙ ap (λ (t : Setting). t.resource) (sym setting);
    counted = i.counted;
    opens = subst Opens (sym setting) i.opens;
    tables = subst (λ (t : Setting). AllByRecursion IsTableWithin t.schema.tables) (sym setting) i.tables;
    actions = i.actions;
    locals = i.locals;
    steps = i.steps;
    up = λ e. false_true (sym e ∙ down);
    knows = λ e. false_true (sym e ∙ down);
    tickets = λ e. false_true (sym e ∙ down);
  }

  module _ (go_on : GoOn (setting_of (store_of r)) (disks_of state r) (pair_of state s')) (grown : own_faults (disks_of state r) ≤ own_faults (pair_of state s')) where
    either_on : (left : Left ResourceRecord) (kept : Option ResourceRecord) (a b x y : List ℕ) → GoesOnAs (setting_of (store_of r)) a b x y
        → StandsForEither (setting_of (store_of r)) left kept a b → StandsForEither (setting_of s') left kept x y
    either_on left kept a b x y on (inl e) = inl (subst (λ (t : Setting). StandsForRecords t left.records x y) (sym setting) (on left.records e))
    either_on left kept a b x y on (inr (q, is, e)) = inr (q, is, subst (λ (t : Setting). StandsForRecords t (q ∷ left.records) x y) (sym setting) (on (q ∷ left.records) e))

    stands_fallen : (setup : Setup) (past : List ResourceRecord) (owns : List Own) → StandsOver state r setup past owns → StandsOver state (with_store r s') setup past owns
    stands_fallen setup past owns s =
        let downos : down_by owns ≡ true = sym s.down ∙ down in
        let left : Left ResourceRecord = (memory setup past owns).left in
        let counted = s.disks.counted in
        record {
          is = s.is ∙ setup_still r s' setting;
          numbered = s.numbered;
          down = s.down;
          disks = record {
            passes = λ e. false_true (sym e ∙ downos);
            images = λ x y first second. let from = go_on x y first second in
                either_on left (keepable true owns left) from.0 from.1 x y from.4 (s.disks.images from.0 from.1 from.2 from.3);
            counted = omega (arith, counted, grown);
          };
          holds = λ e. false_true (sym e ∙ downos);
          fallen = λ e. let f = s.fallen e in record { flight = f.flight; count = f.count; closed = f.closed };
        }

    pub after_error : StandsAsBefore (node_state state r) (node_state state (with_store r s'))
    after_error (ResourceRole setup past) owns s = stands_fallen setup past owns s
    after_error (Coordinator times past) owns s = absurd s
    after_error (Manager settings) owns s = absurd s

-- each pair of images from before stands for some records
always : {D : Type 0} (state : D → DiskState) (r : Resource D) (setup : Setup) (past : List ResourceRecord) (owns : List Own) → StandsOver state r setup past owns
    → StandsAlways (state_of state) (setting_of (store_of r)) (twin (store_of r))
always state r setup past owns s a b one two = by (memory setup past owns).left (s.disks.images a b one two)
  where
    by : (left : Left ResourceRecord) → StandsForEither (setting_of (store_of r)) left (keepable true owns left) a b → (rs : List ResourceRecord) × StandsForRecords (setting_of (store_of r)) rs a b
    by left (inl e) = (left.records, e)
    by left (inr (q, is, e)) = (q ∷ left.records, e)

module _ (old new : NodeState) (pick : ℕ) (calls : Option ℕ) (now : ℕ) (role : Role) (owns : List Own) where
  cause_by : (e : OpenError) → IsNoDamage e → (e ≡ open_error.Failed → DisksFail old.disks new.disks) → IsRestartError old new pick calls now role owns e
  cause_by open_error.Failed none fails = fails refl
  cause_by (open_error.Damaged second at) none fails = absurd none
  cause_by (open_error.Full full) none fails = absurd none
  cause_by open_error.NoMemory none fails = tt

-- ---- all that is promised of a restart

abbrev pub unit_error : OpenError → Result (Unit {0}) OpenError
unit_error e = Err e

abbrev act_error : OpenError → Result Act OpenError
act_error e = Err e

abbrev act_done : Act → Result Act OpenError
act_done a = Ok a

same_error : (e f : OpenError) → act_error e ≡ act_error f → e ≡ f
same_error e f same = cc

never_error : {X : Type 0} (a : Act) (e : OpenError) → act_done a ≡ act_error e → X
never_error a e same = absurd cc

module _ {D : Type 0} (state : D → DiskState) (law : (d : Stoppable D) → IsLawful (state_of state d)) (r : Resource D) (s1 : Store (Stoppable D)) (pick now : ℕ) (calls : Option ℕ) (down : is_down r ≡ true)
    (setting : setting_of s1 ≡ setting_of (store_of r)) (found : found_of s1 ≡ found_of (store_of r)) (go_on : GoOn (setting_of (store_of r)) (disks_of state r) (pair_of state s1)) (stays : StaysWhereShort (state_of state) (twin (store_of r)) (twin s1)) where
  -- its disks weren't brought back
  pub not_back : (e : OpenError) → ComeUp false pick (disks_of state r) (pair_of state s1)
      → (AreTold (disks_of state r) → StandsAlways (state_of state) (setting_of (store_of r)) (twin (store_of r)) → IsNoDamage e)
      → (e ≡ open_error.Failed → FailsItself (disks_of state r).first.counts (pair_of state s1).first.counts ⊎ FailsItself (disks_of state r).second.counts (pair_of state s1).second.counts)
      → RestartsBy state r (with_store r s1) pick calls now (Err e)
  not_back e up recovers cause = record {
    restarts = λ told. tt;
    after = λ told role owns s. (after_error state r s1 down setting go_on (up_grown false pick (disks_of state r) (pair_of state s1) up) role owns s, by told role owns s);
    brings = λ told. tt;
    not_due = stays;
    settles = λ told. tt;
    picked = tt;
    failed = λ is. failing (same_error e open_error.Failed is);
    same = stays_itself state r (with_store r s1) refl (sound_down state r s1 down setting) up.first.kind up.second.kind;
    counted = refl;
    down = down;
    found = found;
  }
    where
      failing : e ≡ open_error.Failed → DisksFail (disks_of state r) (pair_of state s1)
      failing is = either_fails (disks_of state r).first.counts (disks_of state r).second.counts (pair_of state s1).first.counts (pair_of state s1).second.counts up.first.own up.second.own (cause is)

      by : AreTold (disks_of state r) → (role : Role) (owns : List Own) → StandsAs state r role owns → IsRestartError (node_state state r) (node_state state (with_store r s1)) pick calls now role owns e
      by told (ResourceRole setup past) owns s =
          cause_by (node_state state r) (node_state state (with_store r s1)) pick calls now (ResourceRole setup past) owns e (recovers told (always state r setup past owns s)) failing
      by told (Coordinator times past) owns s = absurd s
      by told (Manager settings) owns s = absurd s

  -- they were, and a stop was armed where calls are given
  module _ (both : ComeUp true pick (disks_of state r) (pair_of state s1)) (s2 : Store (Stoppable D)) (armed : Rearmed state calls s1 s2) (up : store_is_down s1 ≡ false)
      (back : AreTold (disks_of state r) → BringsBack (state_of state) pick (store_of r) s1) (sound : (meaning_of (setting_of (store_of r))).IsSound (known s1)) where
    abbrev r2 : Resource D
    r2 = with_store r s2

    setting2 : setting_of s2 ≡ setting_of (store_of r)
    setting2 = armed.setting ∙ setting

    found2 : found_of s2 ≡ found_of (store_of r)
    found2 = armed.found ∙ found

    grown2 : own_faults (disks_of state r) ≤ own_faults (pair_of state s2)
    grown2 = let own = armed.pair.own in let grown = up_grown true pick (disks_of state r) (pair_of state s1) both in omega (arith, own, grown)

    go_on2 : GoOn (setting_of (store_of r)) (disks_of state r) (pair_of state s2)
    go_on2 x y one two = go_on x y (armed.pair.first_leaves x one) (armed.pair.second_leaves y two)

    kind_of : (a b c : DiskState) → SameKind a b → SameKind b c → SameKind a c
    kind_of a b c one two = record { size = two.size ∙ one.size; tells_images = two.tells_images ∙ one.tells_images; tells_moments = two.tells_moments ∙ one.tells_moments }

    moved2 : Moved (pair_of state s1) (pair_of state s2)
    moved2 = moved_armed (pair_of state s1) (pair_of state s2) armed.pair

    first2 : SameKind (disks_of state r).first (pair_of state s2).first
    first2 = kind_of (disks_of state r).first (pair_of state s1).first (pair_of state s2).first both.first.kind moved2.first_kind

    second2 : SameKind (disks_of state r).second (pair_of state s2).second
    second2 = kind_of (disks_of state r).second (pair_of state s1).second (pair_of state s2).second both.second.kind moved2.second_kind

    -- both disks have the pick
    have_pick : (p : Pair) → last_pick p.first ≡ last_pick (pair_of state s2).first → last_pick p.second ≡ last_pick (pair_of state s2).second → HavePick pick p
    have_pick p one two = (λ told e. both.first.picked refl told (sym (one ∙ moved2.first_pick) ∙ e), λ told e. both.second.picked refl told (sym (two ∙ moved2.second_pick) ∙ e))

    -- ---- the records that came back, with the one in flight or without

    module _ (setup : Setup) (past : List ResourceRecord) (owns : List Own) (s : StandsOver state r setup past owns) where
      abbrev m : Memory
      m = memory setup past owns

      abbrev rs : List ResourceRecord
      rs = m.left.records

      downos : down_by owns ≡ true
      downos = sym s.down ∙ down

      fallen : IsFallen r m owns
      fallen = s.fallen downos

      -- the records with the one that is kept
      abbrev came : Option Durable → List ResourceRecord
      came kept = added (kept_part kept m.left.flight) rs

      -- what a restart kept, as the number of records tells it
      record Came : Type 0 where
        pub keeps : Bool
        pub is : kept_of r2 ≡ kept_act keeps owns (calls_left true owns)
        pub stands : KeepsRecords (state_of state) (setting_of (store_of r)) (came (kept_of r2)) s2

      -- it keeps these records now
      abbrev KeepsNow : List ResourceRecord → Type 0
      KeepsNow ks = KeepsRecords (state_of state) (setting_of (store_of r)) ks s2

      counts : (ks : List ResourceRecord) → KeepsNow ks → nat_lt r.records (known s2).acts ≡ nat_lt (length rs) (length ks)
      counts ks k = ap (λ (n : ℕ). nat_lt n (known s2).acts) fallen.count ∙ ap (λ (q : Known). nat_lt (length rs) q.acts) k.knows

      kept_none : KeepsNow rs → kept_of r2 ≡ None
      kept_none k = ap (λ (b : Bool). if b then r.flight else None) (counts rs k ∙ not_less (length rs))

      kept_flight : (q : ResourceRecord) → KeepsNow (q ∷ rs) → kept_of r2 ≡ in_flight owns
      kept_flight q k = ap (λ (b : Bool). if b then r.flight else None) (counts (q ∷ rs) k ∙ less_one (length rs)) ∙ fallen.flight

      -- the records with the one in flight, where it may be kept
      with_kept : (q : ResourceRecord) → keepable true owns m.left ≡ Some q → came (in_flight owns) ≡ q ∷ rs
      with_kept q is =
          let may = keepable_by (may_stand (calls_left true owns)) m.left.flight q is in
          ap came (flight_act setup past owns q may.1).1 ∙ ap (λ (o : Option ResourceRecord). added o rs) may.1

      without : KeepsNow rs → Came
      without k = record { keeps = false; is = kept_none k; stands = subst (λ (d : Option Durable). KeepsNow (came d)) (sym (kept_none k)) k }

      with_flight : (q : ResourceRecord) → keepable true owns m.left ≡ Some q → KeepsNow (q ∷ rs) → Came
      with_flight q is k =
          let may = keepable_by (may_stand (calls_left true owns)) m.left.flight q is in
          record {
            keeps = true;
            is = kept_flight q k ∙ sym (ap (λ (b : Bool). if b then in_flight owns else None) may.0);
            stands = subst (λ (d : Option Durable). KeepsNow (came d)) (sym (kept_flight q k)) (subst KeepsNow (sym (with_kept q is)) k);
          }

      back2 : AreTold (disks_of state r) → BringsBack (state_of state) pick (store_of r) s2
      back2 told = armed.back pick (store_of r) (back told)

      brought : AreTold (disks_of state r) → Came
      brought told = by (came_back (state_of state) law pick (store_of r) s2 rs (keepable true owns m.left) (back2 told) (λ a b one two. s.disks.images a b one two))
        where
          by : KeepsNow rs ⊎ ((q : ResourceRecord) × (keepable true owns m.left ≡ Some q) × KeepsNow (q ∷ rs)) → Came
          by (inl k) = without k
          by (inr (q, is, k)) = with_flight q is k

      -- the images that came back stand for what is kept
      abbrev StandsNow : (a b : List ℕ) → List ResourceRecord → Type 0
      StandsNow a b ks = Stand (of_resource (opening_tables setup)) ks a b

      stand_kept : (b : BringsBack (state_of state) pick (store_of r) s2) → StandsNow b.a b.b (came (kept_of r2))
      stand_kept b = by (s.disks.images b.a b.b b.first.0 b.second.0)
        where
          told : (ks : List ResourceRecord) → StandsForRecords (setting_of (store_of r)) ks b.a b.b → StandsNow b.a b.b ks
          told ks e = subst (λ (w : Setup). Stand (of_resource (opening_tables w)) ks b.a b.b) (sym s.is) (stands_for_records (setting_of (store_of r)) ks b.a b.b e)

          by : StandsForEither (setting_of (store_of r)) m.left (keepable true owns m.left) b.a b.b → StandsNow b.a b.b (came (kept_of r2))
          by (inl e) = subst (λ (d : Option Durable). StandsNow b.a b.b (came d)) (sym (kept_none (b.keeps rs e))) (told rs e)
          by (inr (q, is, e)) =
              subst (λ (d : Option Durable). StandsNow b.a b.b (came d)) (sym (kept_flight q (b.keeps (q ∷ rs) e))) (subst (StandsNow b.a b.b) (sym (with_kept q is)) (told (q ∷ rs) e))

      brings_back : (done : Act) → kept_records done m.left ≡ came (kept_of r2) → AreTold (disks_of state r) → BringsKept (of_resource (opening_tables setup)) m.left (disks_of state r) pick done
      brings_back done is told =
          let b = back2 told in
          brings_kept (of_resource (opening_tables setup)) (λ (k : ResourceSnapshot). k.acts) (λ ks. refl) m.left (disks_of state r) pick done b.a b.b b.first b.second (subst (StandsNow b.a b.b) (sym is) (stand_kept b))

      happens_back : (fault keeps : Bool) (kept : Option Durable) (b : Bool) → kept ≡ kept_act keeps owns (calls_left true owns) → fails fault calls ≡ b
          → happens (ResourceRole setup past) owns now fault keeps (Restarted pick calls) ≡ restarted true b kept
      happens_back fault keeps kept b is failing = rw downos (λ i. restarted true (failing i) (sym is i))

      -- the record of the boot is that of the rules
      boot_is : (c : Came) → boot_record (known s2) ≡ boot_over (came (kept_of r2))
      boot_is c = ap boot_record c.stands.knows

      came_now : (c : Came) → KeepsRecords (state_of state) (setting_of s2) (came (kept_of r2)) s2
      came_now c = subst (λ (t : Setting). KeepsRecords (state_of state) t (came (kept_of r2)) s2) (sym setting2) c.stands

      -- ---- where the journal stands that came back

      module _ (start : Extent) (size : ℕ) (l : Lies (state_of state) (store_of r) setup past start size owns) where
        abbrev there : Extent
        there = extent (resource_recording setup past) start size owns

        -- what is kept decides it
        abbrev again : Option Durable → Extent
        again kept = reopened (resource_recording setup past) start size (act.Restarted kept) m.left there

        sized2 : AreSized (state_of state) (twin s2) size
        sized2 = sized_after (state_of state) size (twin (store_of r)) (twin s2) first2 second2 l.sized

        module _ (b : BringsBack (state_of state) pick (store_of r) s2) where
          reads : (ks : List ResourceRecord) (e : Extent) → StandsAt (setting_of (store_of r)) ks e b.a b.b → twin_extent (twin s2) ≡ checked size (resource_saving setup ks) e
          reads ks e h = loaded (state_of state) (setting_of (store_of r)) setup (sym (ap opening_tables s.is)) s2 b.a b.b b.is size sized2 ks e h (b.keeps ks h.0).knows

          by_image : AtEither (setting_of (store_of r)) m.left there b.a b.b → twin_extent (twin s2) ≡ again (kept_of r2)
          by_image (inl h) = reads rs there h ∙ ap again (sym (kept_none (b.keeps rs h.0)))
          by_image (inr (q, flies, h)) =
              let done = flight_act setup past owns q flies in
              reads (q ∷ rs) (longer (length (record_bytes q)) there) h
              ∙ ap (λ (o : Option ResourceRecord). checked size (resource_saving setup (added o rs)) (with_added (resource_recording setup past) start size o there)) (sym flies)
              ∙ ap again (sym (kept_flight q (b.keeps (q ∷ rs) h.0) ∙ done.1))

        reopens : AreTold (disks_of state r) → twin_extent (twin s2) ≡ again (kept_of r2)
        reopens told = by_image (back2 told) (l.images (back2 told).a (back2 told).b (back2 told).first.0 (back2 told).second.0)

        -- where the record of its boot would end, and the disk's size
        boot_there : AreTold (disks_of state r) → Came → (P : ℕ → ℕ → Type 0) → P (needed_for (twin s2) (length (record_bytes (boot_record (known s2))))) (active_of state s2).size
            → P (needed (again (kept_of r2)) (length (record_bytes (boot_over (came (kept_of r2)))))) size
        boot_there told c P said =
            subst (λ (q : ResourceRecord). P (needed (again (kept_of r2)) (length (record_bytes q))) size) (boot_is c)
            (at_there (state_of state) size P s2 (again (kept_of r2)) (length (record_bytes (boot_record (known s2)))) (reopens told) sized2 said)

    -- what it keeps is what the pick brought back, whatever comes of its boot
    brings_all : (done : Act) → ((left : Left ResourceRecord) → kept_records done left ≡ added (kept_part (kept_of r2) left.flight) left.records) → AreTold (disks_of state r) → Brings (node_state state r) pick done
    brings_all done is told (ResourceRole setup past) owns s = brings_back setup past owns s done (is (memory setup past owns).left) told
    brings_all done is told (Coordinator times past) owns s = absurd s
    brings_all done is told (Manager settings) owns s = absurd s

    -- ---- it is up again

    module _ (s3 : Store (Stoppable D)) where
      module _ (made : Changes (state_of state) (boot_record (known s2)) (Ok tt) s2 s3) where
        abbrev booting : Resource D
        booting = record r { branches = record r.branches { store = s3; txns = no_tickets (known s3).boots }; down = false }

        setting3 : setting_of s3 ≡ setting_of (store_of r)
        setting3 = made.setting ∙ setting2

        moved3 : Moved (pair_of state s2) (pair_of state s3)
        moved3 = moved state s2 s3 (Ok tt) made.disks

        long : is_short calls ≡ false
        long = subst (λ (l : Option ℕ). is_short l ≡ false) armed.left (passed_long _ _ made.disks.counts.passed)

        -- the entry of the restart
        abbrev entry : Own
        entry = own_entry (Restarted pick calls) now (still (act.Restarted (kept_of r2)))

        -- the records with that of the boot
        boot_added : (setup : Setup) (past : List ResourceRecord) (owns : List Own) (s : StandsOver state r setup past owns) → Came setup past owns s → Adds (state_of state) (boot_record (known s2)) (came setup past owns s (kept_of r2)) s2 s3
        boot_added setup past owns s c = made.makes (came setup past owns s (kept_of r2)) (came_now setup past owns s c)

        keeps_boot : (setup : Setup) (past : List ResourceRecord) (owns : List Own) (s : StandsOver state r setup past owns) → Came setup past owns s
            → KeepsRecords (state_of state) (setting_of s3) (boot_over (came setup past owns s (kept_of r2)) ∷ came setup past owns s (kept_of r2)) s3
        keeps_boot setup past owns s c =
            let rs : List ResourceRecord = came setup past owns s (kept_of r2) in
            subst (λ (q : ResourceRecord). KeepsRecords (state_of state) (setting_of s3) (q ∷ rs) s3) (boot_is setup past owns s c)
            (subst (λ (t : Setting). KeepsRecords (state_of state) t (boot_record (known s2) ∷ rs) s3) (sym made.setting) (boot_added setup past owns s c).keeps)

        stands_up : (setup : Setup) (past : List ResourceRecord) (owns : List Own) (s : StandsOver state r setup past owns) → Came setup past owns s → StandsOver state booting setup past (entry ∷ owns)
        stands_up setup past owns s c =
            let rs : List ResourceRecord = came setup past owns s (kept_of r2) in
            let keeps = keeps_boot setup past owns s c in
            let counted = s.disks.counted in
            let own = moved3.own in
            record {
              is = s.is ∙ setup_still r s3 setting3;
              numbered = s.numbered;
              down = refl;
              disks = record {
                passes = λ e. passed_left _ _ made.disks.counts.passed ∙ ap (option_map spent) armed.left;
                images = λ x y first second. inl (keeps_images state law (setting_of s3) (boot_over rs ∷ rs) s3 keeps x y first second);
                counted = omega (arith, counted, grown2, own);
              };
              holds = λ e. record {
                keeps = keeps;
                tickets = λ i. record { boot = (ap (λ (k : Known). k.boots) keeps.knows) i; opened = 0; opens = (sym (s.fallen (sym s.down ∙ down)).closed) i };
              };
              fallen = λ e. false_true e;
            }

        lies_again : (setup : Setup) (past : List ResourceRecord) (owns : List Own) (s : StandsOver state r setup past owns) → AreTold (disks_of state r) → Came setup past owns s
            → LiesWith (node_state state r) (node_state state booting) (ResourceRole setup past) owns entry
        lies_again setup past owns s told c start size l =
            let boot : ResourceRecord = boot_over (came setup past owns s (kept_of r2)) in
            let adds = boot_added setup past owns s c in
            let e : Extent = again setup past owns s start size l (kept_of r2) in (
              fits_for e size (Some boot) boot refl (boot_there setup past owns s start size l told c (λ (n k : ℕ). n ≤ k) adds.fits),
              lies_up (state_of state) law setup past start size (entry ∷ owns) s3 (sized_after (state_of state) size (twin s2) (twin s3) moved3.first_kind moved3.second_kind (sized2 setup past owns s start size l))
                  (keeps_boot setup past owns s c)
                  (adds.extent ∙ ap (λ (q : ResourceRecord). longer (length (record_bytes q)) (twin_extent (twin s2))) (boot_is setup past owns s c) ∙ ap (longer (length (record_bytes boot))) (reopens setup past owns s start size l told)),
            )

        restarts_up : AreTold (disks_of state r) → Restarts (node_state state r) (node_state state booting) pick calls now (act.Restarted (kept_of r2))
        restarts_up told (ResourceRole setup past) owns s =
            let c = brought setup past owns s told in
            (false, c.keeps, sym (happens_back setup past owns s false c.keeps (kept_of r2) false c.is long), stands_up setup past owns s c, λ e. false_true e, lies_again setup past owns s told c)
        restarts_up told (Coordinator times past) owns s = absurd s
        restarts_up told (Manager settings) owns s = absurd s

        sound_up : IsSound r → IsSound booting
        sound_up i =
            let steps = i.steps in
            record {
              numbered = i.numbered ∙ ap (λ (t : Setting). t.resource) (sym setting3);
              counted = i.counted;
              opens = subst Opens (sym setting3) i.opens;
              tables = subst (λ (t : Setting). AllByRecursion IsTableWithin t.schema.tables) (sym setting3) i.tables;
              actions = i.actions;
              locals = i.locals;
              steps = omega (arith, steps);
              up = λ e. made.down;
              knows = λ e. subst (λ (t : Setting). IsOf t (known s3)) (sym setting3)
                  (subst (λ (k : Known). IsOf (setting_of (store_of r)) k) (sym (made.knows ∙ ap (λ (k : Known). after (boot_record k) k) armed.known))
                  (boot_sound (setting_of (store_of r)) (known s1) sound i.opens));
              tickets = λ e. tt;
            }

        pub is_up : RestartsBy state r booting pick calls now (Ok (act.Restarted (kept_of r2)))
        is_up = record {
          restarts = restarts_up;
          after = λ told. tt;
          brings = brings_all (act.Restarted (kept_of r2)) (λ left. refl);
          not_due = tt;
          settles = λ told. record { back = s2; setting = setting2; brings = armed.back pick (store_of r) (back told); boots = made };
          picked = have_pick (pair_of state s3) moved3.first_pick moved3.second_pick;
          failed = λ e. never_error (act.Restarted (kept_of r2)) open_error.Failed e;
          same = stays_itself state r booting refl sound_up (kind_of (disks_of state r).first (pair_of state s2).first (pair_of state s3).first first2 moved3.first_kind)
              (kind_of (disks_of state r).second (pair_of state s2).second (pair_of state s3).second second2 moved3.second_kind);
          counted = refl;
          down = refl;
          found = made.found ∙ found2;
        }

      -- ---- the disks failed at the boot

      module _ (lost : Changes (state_of state) (boot_record (known s2)) (Err store_error.Failed) s2 s3) where
        abbrev falling : Resource D
        falling = record (with_store r s3) { flight = Some durable.Boot; records = (known s2).acts }

        setting_lost : setting_of s3 ≡ setting_of (store_of r)
        setting_lost = lost.setting ∙ setting2

        moved_lost : Moved (pair_of state s2) (pair_of state s3)
        moved_lost = moved state s2 s3 (Err store_error.Failed) lost.disks

        -- a stop that came with the restart, or a fault
        cause : (is_short calls ≡ true) ⊎ DisksFail (disks_of state r) (pair_of state s3)
        cause = by (fell_for state s2 s3 calls armed.left lost.disks)
          where
            by : (is_short calls ≡ true) ⊎ DisksFail (pair_of state s2) (pair_of state s3) → (is_short calls ≡ true) ⊎ DisksFail (disks_of state r) (pair_of state s3)
            by (inl short) = inl short
            by (inr fail) = inr (fails_more (own_faults (disks_of state r)) (own_faults (pair_of state s2)) (own_faults (pair_of state s3)) grown2 fail)

        abbrev entry_down : Own
        entry_down = own_entry (Restarted pick calls) now (still (act.Down (kept_of r2) (Some durable.Boot)))

        boot_lost : (setup : Setup) (past : List ResourceRecord) (owns : List Own) (s : StandsOver state r setup past owns) → Came setup past owns s → Loses (state_of state) (boot_record (known s2)) (came setup past owns s (kept_of r2)) s2 s3
        boot_lost setup past owns s c = lost.makes (came setup past owns s (kept_of r2)) (came_now setup past owns s c)

        stands_down : (setup : Setup) (past : List ResourceRecord) (owns : List Own) (s : StandsOver state r setup past owns) → Came setup past owns s → StandsOver state falling setup past (entry_down ∷ owns)
        stands_down setup past owns s c =
            let rs : List ResourceRecord = came setup past owns s (kept_of r2) in
            let images = lost_images state law s2 s3 rs (boot_record (known s2)) calls armed.left lost.setting (boot_lost setup past owns s c) in
            let own = moved_lost.own in
            record {
              is = s.is ∙ setup_still r s3 setting_lost;
              numbered = s.numbered;
              down = down;
              disks = record {
                passes = λ e. false_true (sym e);
                images = λ x y first second. subst (λ (q : ResourceRecord). StandsForEither (setting_of s3) (record { records = rs; flight = Some q }) (if may_stand calls then Some q else None) x y)
                    (boot_is setup past owns s c) (images x y first second);
                counted = faults_more (is_short calls) (fault_entries true owns) (own_faults (disks_of state r)) (own_faults (pair_of state s3)) s.disks.counted (omega (arith, grown2, own)) cause;
              };
              holds = λ e. false_true (sym e);
              fallen = λ e. record { flight = refl; count = ap (λ (k : Known). k.acts) c.stands.knows; closed = refl };
            }

        lies_down : (setup : Setup) (past : List ResourceRecord) (owns : List Own) (s : StandsOver state r setup past owns) → AreTold (disks_of state r) → Came setup past owns s
            → LiesWith (node_state state r) (node_state state falling) (ResourceRole setup past) owns entry_down
        lies_down setup past owns s told c start size l =
            let rs : List ResourceRecord = came setup past owns s (kept_of r2) in
            let loses = boot_lost setup past owns s c in
            let e : Extent = again setup past owns s start size l (kept_of r2) in (
              fits_for e size (Some (boot_over rs)) (boot_over rs) refl (boot_there setup past owns s start size l told c (λ (n k : ℕ). n ≤ k) loses.fits),
              record {
                sized = sized_after (state_of state) size (twin s2) (twin s3) moved_lost.first_kind moved_lost.second_kind (sized2 setup past owns s start size l);
                up = λ e. false_true (sym e);
                images = λ x y first second. subst (λ (q : ResourceRecord). AtEither (setting_of s3) (record { records = rs; flight = Some q }) e x y) (boot_is setup past owns s c)
                    (flies_behind (state_of state) s2 s3 rs (boot_record (known s2)) e lost.setting (reopens setup past owns s start size l told) loses x y first second);
              },
            )

        abbrev Fell : (setup : Setup) (past : List ResourceRecord) (owns : List Own) → Type 0
        Fell setup past owns = (fault : Bool) × (keeps : Bool) × (still (act.Down (kept_of r2) (Some durable.Boot)) ≡ happens (ResourceRole setup past) owns now fault keeps (Restarted pick calls))
            × StandsOver state falling setup past (entry_down ∷ owns) × (fault ≡ true → DisksFail (disks_of state r) (disks_of state falling))
            × LiesWith (node_state state r) (node_state state falling) (ResourceRole setup past) owns entry_down

        fell : (setup : Setup) (past : List ResourceRecord) (owns : List Own) (s : StandsOver state r setup past owns) → AreTold (disks_of state r) → Came setup past owns s → (is_short calls ≡ true) ⊎ DisksFail (disks_of state r) (pair_of state s3)
            → Fell setup past owns
        fell setup past owns s told c (inl short) =
            (false, c.keeps, sym (happens_back setup past owns s false c.keeps (kept_of r2) true c.is short), stands_down setup past owns s c, λ e. false_true e, lies_down setup past owns s told c)
        fell setup past owns s told c (inr fail) =
            (true, c.keeps, sym (happens_back setup past owns s true c.keeps (kept_of r2) true c.is refl), stands_down setup past owns s c, λ e. fail, lies_down setup past owns s told c)

        restarts_down : AreTold (disks_of state r) → Restarts (node_state state r) (node_state state falling) pick calls now (act.Down (kept_of r2) (Some durable.Boot))
        restarts_down told (ResourceRole setup past) owns s = fell setup past owns s told (brought setup past owns s told) cause
        restarts_down told (Coordinator times past) owns s = absurd s
        restarts_down told (Manager settings) owns s = absurd s

        sound_falling : IsSound r → IsSound falling
        sound_falling i = let d = sound_down state r s3 down setting_lost i in record {
          numbered = d.numbered;
          counted = d.counted;
          opens = d.opens;
          tables = d.tables;
          actions = d.actions;
          locals = d.locals;
          steps = d.steps;
          up = d.up;
          knows = d.knows;
          tickets = d.tickets;
        }

        pub is_falling : RestartsBy state r falling pick calls now (Ok (act.Down (kept_of r2) (Some durable.Boot)))
        is_falling = record {
          restarts = restarts_down;
          after = λ told. tt;
          brings = brings_all (act.Down (kept_of r2) (Some durable.Boot)) (λ left. refl);
          not_due = tt;
          settles = λ told. record { back = s2; setting = setting2; brings = armed.back pick (store_of r) (back told); boots = lost };
          picked = have_pick (pair_of state s3) moved_lost.first_pick moved_lost.second_pick;
          failed = λ e. never_error (act.Down (kept_of r2) (Some durable.Boot)) open_error.Failed e;
          same = stays_itself state r falling refl sound_falling (kind_of (disks_of state r).first (pair_of state s2).first (pair_of state s3).first first2 moved_lost.first_kind)
              (kind_of (disks_of state r).second (pair_of state s2).second (pair_of state s3).second second2 moved_lost.second_kind);
          counted = refl;
          down = down;
          found = lost.found ∙ found2;
        }

    -- ---- the boot isn't made, and nothing more changed

    not_booted : (e : OpenError) → (e ≡ open_error.Failed → DisksFail (disks_of state r) (pair_of state s2))
        → (AreTold (disks_of state r) → (role : Role) (owns : List Own) → StandsAs state r role owns → IsRestartError (node_state state r) (node_state state r2) pick calls now role owns e)
        → RestartsBy state r r2 pick calls now (Err e)
    not_booted e failing causes = record {
      restarts = λ told. tt;
      after = λ told role owns s. (after_error state r s2 down setting2 go_on2 grown2 role owns s, causes told role owns s);
      brings = λ told. tt;
      not_due = λ short x y one two. stays short x y (armed.pair.first_leaves x one) (armed.pair.second_leaves y two);
      settles = λ told. tt;
      picked = tt;
      failed = λ is. failing (same_error e open_error.Failed is);
      same = stays_itself state r r2 refl (sound_down state r s2 down setting2) first2 second2;
      counted = refl;
      down = down;
      found = found2;
    }

    -- a boot that doesn't fit
    module _ (full : Full) (changes : Changes (state_of state) (boot_record (known s2)) (Err (store_error.Full full)) s2 s2) (told : AreTold (disks_of state r)) where
      module _ (setup : Setup) (past : List ResourceRecord) (owns : List Own) (s : StandsOver state r setup past owns) (c : Came setup past owns s) where
        is_full : IsFull (needed_for (twin s2) (length (record_bytes (boot_record (known s2))))) (active_of state s2).size full
        is_full = changes.makes (came setup past owns s (kept_of r2)) (came_now setup past owns s c)

        overflows_by : BootOverflows (node_state state r) (ResourceRole setup past) owns now pick calls full
        overflows_by start size l = (
          c.keeps,
          subst (λ (kept : Option Durable). IsOver (resource_recording setup past) start size owns (own_entry (Restarted pick calls) now (still (act.Down kept (Some durable.Boot)))) full) c.is
              (boot_over (came setup past owns s (kept_of r2)), refl, boot_there setup past owns s start size l told c (λ (n k : ℕ). IsFull n k full) is_full),
        )

        no_boot_place : HasNoBootPlace (ResourceRole setup past) (pair_of state s2) full
        no_boot_place =
            let kept = came_now setup past owns s c in
            one_of_both (state_of state) (λ (n : ℕ). HasNoPlace (pair_of state s2) n (length (record_bytes (boot_over past))) full) (is_second (twin s2)) (active_disk (twin s2)) (other_disk (twin s2))
            (subst (λ (n : ℕ). HasNoPlace (pair_of state s2) (active_of state s2).size n full) (boot_length ((known s2).boots + 1) (boots past + 1))
            (no_place (state_of state) law kept.found (twin s2) kept.kept.pair (active_of state s2).size (length (record_bytes (boot_record (known s2)))) full is_full))

      too_full : (role : Role) (owns : List Own) → StandsAs state r role owns → IsRestartError (node_state state r) (node_state state r2) pick calls now role owns (open_error.Full full)
      too_full (ResourceRole setup past) owns s = let c = brought setup past owns s told in (overflows_by setup past owns s c, no_boot_place setup past owns s c)
      too_full (Coordinator times past) owns s = absurd s
      too_full (Manager settings) owns s = absurd s

    free : (role : Role) (owns : List Own) → StandsAs state r role owns → IsRestartError (node_state state r) (node_state state r2) pick calls now role owns open_error.NoMemory
    free (ResourceRole setup past) owns s = tt
    free (Coordinator times past) owns s = absurd s
    free (Manager settings) owns s = absurd s

    by_boot : (r3 : Resource D) (result : Result Act OpenError) → Boots state (kept_of r2) r2 r3 result → RestartsBy state r r3 pick calls now result
    by_boot r3 (Ok (act.Restarted k)) b =
        subst (λ (d : Option Durable). RestartsBy state r r3 pick calls now (Ok (act.Restarted d))) (sym b.0)
        (subst (λ (q : Resource D). RestartsBy state r q pick calls now (Ok (act.Restarted (kept_of r2)))) (sym b.2) (is_up (store_of r3) b.1))
    by_boot r3 (Ok (act.Down k at)) b =
        subst (λ (d : Option Durable). RestartsBy state r r3 pick calls now (Ok (act.Down d at))) (sym b.0)
        (subst (λ (d : Option Durable). RestartsBy state r r3 pick calls now (Ok (act.Down (kept_of r2) d))) (sym b.1)
        (subst (λ (q : Resource D). RestartsBy state r q pick calls now (Ok (act.Down (kept_of r2) (Some durable.Boot)))) (sym b.3) (is_falling (store_of r3) b.2)))
    by_boot r3 (Err (open_error.Full full)) b =
        subst (λ (q : Resource D). RestartsBy state r q pick calls now (Err (open_error.Full full))) (sym b.1)
        (not_booted (open_error.Full full) (λ e. absurd cc) (too_full full (subst (λ (q : Resource D). Changes (state_of state) (boot_record (known s2)) (Err (store_error.Full full)) s2 (store_of q)) b.1 b.0)))
    by_boot r3 (Err open_error.NoMemory) b =
        subst (λ (q : Resource D). RestartsBy state r q pick calls now (Err open_error.NoMemory)) (sym b) (not_booted open_error.NoMemory (λ e. absurd cc) (λ told role owns s. free role owns s))
    by_boot r3 (Err open_error.Failed) b = absurd b
    by_boot r3 (Err (open_error.Damaged second at)) b = absurd b
    by_boot r3 (Ok _) b = absurd b

  -- the calls of a restart, one after the other
  pub restarted_by : ComeUp true pick (disks_of state r) (pair_of state s1) → store_is_down s1 ≡ false → (AreTold (disks_of state r) → BringsBack (state_of state) pick (store_of r) s1)
      → (meaning_of (setting_of (store_of r))).IsSound (known s1) → (r2 r3 : Resource D) → ArmsWith state calls (with_store r s1) r2 → (kept : Option Durable) → kept ≡ kept_of r2 → (result : Result Act OpenError)
      → Boots state kept r2 r3 result → RestartsBy state r r3 pick calls now result
  restarted_by both up back sound r2 r3 arms kept is result b =
      let unarmed = unarmed_by state (is_second (twin s1)) (active_disk (twin s1)) (other_disk (twin s1)) (both.first.unarmed refl) (both.second.unarmed refl) in
      let armed = rearmed state calls (with_store r s1) r2 unarmed arms in
      by_boot both (store_of r2) armed up back sound r3 result
      (subst (λ (q : Resource D). Boots state (kept_of q) q r3 result) (rest_armed state calls (with_store r s1) r2 arms) (subst (λ (d : Option Durable). Boots state d r2 r3 result) is b))
