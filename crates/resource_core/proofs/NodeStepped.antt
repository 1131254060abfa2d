-- A step of a resource is what happens by the rules, as far as its disks let it.
use Rattle.std.proofs.Common.{◌≡◌, ◌⊎◌, ⊎_elim, inl, ◌+◌, ◌-◌, ◌<◌, ◌≤◌, ◌^◌, ℕ, min, Bool, true, false, if◌then◌else◌, List, ◌∷◌, length, Option, Some, None, is_some, option_map, Result, Ok, Err, refl, sym, ap, subst, ◌∙◌, arith}
use Rattle.std.specs.List.{AllByRecursion}
use Rattle.std.specs.Option.{option_and_then}
use Rattle.disk_model.specs.Disk.{DiskState, IsLawful, SameKind}
use Rattle.disk_model.specs.Stop.{state_of}
use Rattle.disk_model.specs.declared.stoppable.Stoppable.{Stoppable}
use Rattle.disk_journal.specs.Keeping.{IsFull}
use Rattle.journal_checkpoint.specs.Extents.{Extent, longer}
use Rattle.seata_types.specs.declared.acts.Act.{Act}
use Rattle.seata_types.specs.declared.acts.Act.TheVariants as act
use Rattle.seata_types.specs.declared.acts.Durable.{Durable}
use Rattle.seata_types.specs.declared.errors.Full.{Full}
use Rattle.seata_types.specs.declared.errors.NodeError.{NodeError}
use Rattle.seata_types.specs.declared.errors.NodeError.TheVariants as error
use Rattle.seata_types.specs.declared.errors.StoreError.{StoreError}
use Rattle.seata_types.specs.declared.errors.StoreError.TheVariants as store_error
use Rattle.seata_types.specs.declared.ids.Place.TheVariants as place
use Rattle.seata_types.specs.declared.limits.TheConstants.{RESOURCES}
use Rattle.seata_types.specs.declared.messages.Input.{Input}
use Rattle.seata_types.specs.declared.messages.Step.{Step}
use Rattle.local_txn.specs.Answers.{Tickets}
use Rattle.durable_records.specs.declared.resources.ResourceRecord.{ResourceRecord}
use Rattle.frame_codec.specs.Limits.{IsCounted}
use Rattle.history_rules.specs.Own.{Given, Own, asked_act, kept_records}
use Rattle.history_rules.specs.Devices.{calls_left, down_after, fails, fault_entries, fault_of, is_short, left_after, may_stand, spent, written, is_down as down_by}
use Rattle.history_rules.specs.ResourceMemory.{Memory, Setup, memory, memory_after, resource_asked, resource_record}
use Rattle.history_rules.specs.ResourceRules.{resource_answer}
use Rattle.history_rules.specs.Nodes.{Coordinator, Manager, happens, left_at}
use Rattle.history_rules.specs.Nodes.{Resource as ResourceRole}
use Rattle.node_steps.specs.Durable.{own_faults}
use Rattle.node_steps.specs.Ends.{boot_or, extent, resource_recording}
use Rattle.node_steps.specs.Promises.{AfterError, TakesStep, FailsAt, LiesWith, StaysItself, Overflows, own_step, cut, goes_down, steps_of, DisksFail}
use Rattle.resource_log.specs.Records.{record_bytes}
use Rattle.resource_memory.specs.Known.{Known}
use Rattle.resource_store.specs.declared.store.Store.{Store}
use Rattle.resource_store.specs.Answers.{Does, Leaves, outcome}
use Rattle.resource_store.specs.Keeping.{Adds, Changes, Loses, Makes, HasRoom as HasRecordRoom, is_down as store_is_down, found_of, known, setting_of, twin}
use Rattle.resource_store.specs.Meaning.{IsOf, Opens, Setting}
use Rattle.record_places.specs.Within.{IsTableWithin}
use Rattle.resource_rules.specs.declared.setups.Setup.{Setup as TheSetup}
use Rattle.resource_core.specs.declared.branches.Branches.{Branches}
use Rattle.resource_core.specs.declared.nodes.Resource.{Resource}
use Rattle.seata_types.specs.declared.limits.TheConstants.{NODE_STEPS}
use Rattle.resource_core.specs.Holding.{Holds}
use Rattle.resource_core.specs.NodeMoving.{Misses}
use Rattle.resource_core.specs.NodeLaws.{on_same}
use Rattle.resource_core.specs.NodeStanding.{IsSound, OnDisks, StandsForEither, StandsOver, node_state, serves}
use Rattle.resource_core.specs.Lying.{AtEither, Lies}
use Rattle.resource_core.specs.NodeStepping.{HasNoRoom, HasRoom, HadRoom, StepsBy}
use Rattle.resource_core.specs.Ready.{AreTicketsWithin, HasActionWithin, HasStmtsWithin, IsReady}
use Rattle.resource_core.specs.Shown.{active_of, disks_of, is_down, needs, pair_of, size_of, store_of}
use Rattle.resource_core.specs.Stepping.{Answers, asked_record, made_as}
use Rattle.resource_core.proofs.HappensLaws as happening
use Rattle.resource_core.proofs.HappensLaws.{same_setup}
use Rattle.resource_core.proofs.LyingLaws.{at_there, behind_durable, behind_still, boot_durable, boot_still, fits_for, fits_none, flies_behind, lies_still, lies_up, sized_after}
use Rattle.resource_core.proofs.NodeDisks.{Moved, false_true, faults_more, fell_for, is_still, keeps_images, lost_images, moved, moved_same, passed_left, passed_long, same_kind, same_picks, still_down, still_fault, still_leaves, still_left}
use Rattle.resource_core.proofs.QuietLaws.{answers_are_recorded, is_recorded}
use Rattle.resource_core.proofs.StayReady.{known_after, stays_ready}

-- ---- what a resource needs to answer

pub ready_by : {D : Type 0} (r : Resource D) → IsSound r → is_down r ≡ false → 0 < r.left → IsReady r.branches
ready_by r s up able =
    let k = s.knows up in
    let steps = s.steps in
    record {
      up = s.up up;
      numbered = s.numbered;
      within = record {
        room = omega (arith, steps, able);
        counted = s.counted;
        knows = record {
          resource = subst (IsCounted RESOURCES) (s.numbered ∙ sym k.resource) s.counted;
          schema = subst (λ (tables : _). AllByRecursion IsTableWithin tables) (ap (λ (schema : _). schema.tables) (sym k.schema)) s.tables;
          kept = k.kept;
          parts = k.fits;
        };
        tickets = s.tickets up;
        actions = s.actions;
        locals = s.locals;
      };
    }

abbrev number_of : TheSetup → ℕ
number_of s = s.number

module _ {D : Type 0} (r r' : Resource D) (sound : IsSound r) (same : r'.branches.setup ≡ r.branches.setup) (setting : setting_of (store_of r') ≡ setting_of (store_of r)) where
  numbered_still : r'.branches.setup.number ≡ (setting_of (store_of r')).resource
  numbered_still = ap number_of same ∙ sound.numbered ∙ ap (λ (t : Setting). t.resource) (sym setting)

  -- what is asked of its setup holds, and the rest where it is up
  pub sound_by : r'.branches.txns.opened + r'.left ≤ NODE_STEPS → (r'.down ≡ false → store_is_down (store_of r') ≡ false)
      → (r'.down ≡ false → IsOf (setting_of (store_of r')) (known (store_of r'))) → (r'.down ≡ false → AreTicketsWithin (known (store_of r')).tables r'.branches.txns.opens) → IsSound r'
  sound_by steps up knows tickets =
      record {
        numbered = numbered_still;
        counted = subst (λ (s : TheSetup). IsCounted RESOURCES s.number) (sym same) sound.counted;
        opens = subst Opens (sym setting) sound.opens;
        tables = subst (λ (t : Setting). AllByRecursion IsTableWithin t.schema.tables) (sym setting) sound.tables;
        actions = subst (λ (s : TheSetup). AllByRecursion HasActionWithin s.actions) (sym same) sound.actions;
        locals = subst (λ (s : TheSetup). AllByRecursion HasStmtsWithin s.locals) (sym same) sound.locals;
        steps = steps;
        up = up;
        knows = knows;
        tickets = tickets;
      }

-- ---- a record is asked for where the answer is durable

quiet_none : (asked : Option ResourceRecord) (a : Act) → is_recorded asked a ≡ true → asked ≡ None → is_still a ≡ true
quiet_none asked (act.Durable done) e none = false_true (sym (ap is_some none) ∙ e)
quiet_none asked (act.Down kept at) e none = false_true e
quiet_none asked (act.Restarted kept) e none = false_true e
quiet_none asked act.Armed e none = false_true e
quiet_none asked _ e none = refl

no_record : {X : Type 0} (r : ResourceRecord) → None ≡ Some r → X
no_record r e = absurd cc

durable_some : (f : Durable → Option ResourceRecord) (asked : Option ResourceRecord) (a : Act) (r : ResourceRecord) → is_recorded asked a ≡ true → option_and_then f (asked_act a) ≡ Some r → (d : Durable) × (a ≡ act.Durable d)
durable_some f asked (act.Durable done) r e some = (done, refl)
durable_some f asked (act.Down kept at) r e some = false_true e
durable_some f asked (act.Restarted kept) r e some = no_record r some
durable_some f asked act.Armed r e some = no_record r some
durable_some f asked _ r e some = no_record r some

still_written : (b : Bool) (step : Step) (a : Act) → is_still a ≡ true → written b step a ≡ step
still_written b step (act.Durable done) e = false_true e
still_written b step (act.Down kept at) e = refl
still_written b step (act.Restarted kept) e = refl
still_written b step act.Armed e = refl
still_written b step _ e = refl

module _ {D : Type 0} (state : D → DiskState) (law : (d : Stoppable D) → IsLawful (state_of state d)) (r r' : Resource D) (given : Input) (now : ℕ) (up : is_down r ≡ false) where
  upon : (setup : Setup) (past : List ResourceRecord) (owns : List Own) → StandsOver state r setup past owns → down_by owns ≡ false
  upon setup past owns s = sym s.down ∙ up

  passes : (setup : Setup) (past : List ResourceRecord) (owns : List Own) → StandsOver state r setup past owns → (active_of state (store_of r)).counts.left ≡ calls_left true owns
  passes setup past owns s = s.disks.passes (upon setup past owns s)

  -- ---- an answer

  module _ (step : Step) (a : Answers (state_of state) r.branches r'.branches given (Ok step)) (same_down : r'.down ≡ r.down) where
    module _ (setup : Setup) (past : List ResourceRecord) (owns : List Own) (s : StandsOver state r setup past owns) where
      abbrev m : Memory
      m = memory setup past owns

      abbrev asked : Option ResourceRecord
      asked = resource_asked setup m (own_step given 0 step)

      h : Holds (state_of state) r.branches m
      h = s.holds (upon setup past owns s)

      is_rule : step ≡ resource_answer setup m given
      is_rule = (a.steps m h).tells.is ∙ ap (λ (t : Setup). resource_answer t m given) (sym s.is)

      holds : Holds (state_of state) r'.branches (memory_after setup (own_step given now step) m)
      holds = subst (λ (t : Setup). Holds (state_of state) r'.branches (memory_after t (own_step given now step) m)) (sym s.is) ((a.steps m h).tells.holds now)

      asked_is : asked_record setup m given ≡ asked
      asked_is = ap (λ (x : Step). resource_asked setup m (own_step given 0 x)) (sym is_rule)

      does : Does {A = Unit {0}} (state_of state) asked (Ok tt) (store_of r) (store_of r')
      does = subst (λ (o : Option ResourceRecord). Does {A = Unit {0}} (state_of state) o (Ok tt) (store_of r) (store_of r')) asked_is
          (subst (λ (t : Setup). Does {A = Unit {0}} (state_of state) (asked_record t m given) (Ok tt) (store_of r) (store_of r')) (sym s.is) (a.steps m h).does)

      recorded : is_recorded asked step.act ≡ true
      recorded = subst (λ (x : Step). is_recorded (resource_asked setup m (own_step given 0 x)) x.act ≡ true) (sym is_rule) (answers_are_recorded setup m given)

      happens_as : (fault : Bool) → happens (ResourceRole setup past) owns now fault false (Given given) ≡ written (fails fault (calls_left true owns)) step step.act
      happens_as fault = happening.happens_up setup past owns now (upon setup past owns s) fault given ∙ ap (λ (x : Step). written (fails fault (calls_left true owns)) x x.act) (sym is_rule)

      -- it is up after the answer, on these disks
      stands_so : OnDisks state (store_of r') (memory_after setup (own_step given now step) m).left (own_step given now step ∷ owns) → down_by (own_step given now step ∷ owns) ≡ false
          → StandsOver state r' setup past (own_step given now step ∷ owns)
      stands_so disks up_now = record {
        is = s.is ∙ same_setup (state_of state) r.branches r'.branches a.leaves.setting a.same;
        numbered = ap number_of a.same ∙ s.numbered;
        down = same_down ∙ up ∙ sym up_now;
        disks = disks;
        holds = λ e. holds;
        fallen = λ e. false_true (sym up_now ∙ e);
      }

      abbrev entry : Own
      entry = own_step given now step

      abbrev Done : Type 0
      Done = (step ≡ happens (ResourceRole setup past) owns now false false (Given given)) × StandsOver state r' setup past (entry ∷ owns)
          × LiesWith (node_state state r) (node_state state r') (ResourceRole setup past) owns entry

      -- where its journal stood
      abbrev there : Extent → (size : ℕ) → Extent
      there start size = extent (resource_recording setup past) start size owns

      -- without a record
      quiet : asked ≡ None → is_still step.act ≡ true → store_of r' ≡ store_of r → Done
      quiet none e same = (
        sym (happens_as false ∙ still_written (fails false (calls_left true owns)) step step.act e),
        stands_so
            (subst (λ (k : Store (Stoppable D)). OnDisks state k (memory_after setup (own_step given now step) m).left (own_step given now step ∷ owns)) (sym same)
            (on_same state (store_of r) m.left (memory_after setup (own_step given now step) m).left owns (own_step given now step ∷ owns) (still_down step.act (down_by owns) e)
            (still_leaves step.act (resource_asked setup m (own_step given now step)) m.left e) (still_left given step.act (calls_left true owns) e)
            (let none = still_fault step.act (calls_left true owns) e in omega (arith, none)) s.disks))
            (still_down step.act (down_by owns) e ∙ upon setup past owns s),
        λ start size l. (
          λ q some. fits_none (boot_or step.act m.left asked) (boot_still m.left asked step.act e ∙ none) q some,
          subst (λ (k : Store (Stoppable D)). Lies (state_of state) k setup past start size (entry ∷ owns)) (sym same)
              (lies_still (state_of state) (store_of r) setup past start size owns (entry ∷ owns) (still_down step.act (down_by owns) e) (still_leaves step.act asked m.left e)
              (behind_still m.left asked setup past start size (there start size) step.act (boot_or step.act m.left asked) e) l),
        ),
      )

      -- with one
      made : (d : Durable) (q : ResourceRecord) → asked ≡ Some q → step.act ≡ act.Durable d → Changes (state_of state) q (Ok tt) (store_of r) (store_of r') → Done
      made d q some is changes =
          let took = changes.disks in
          let moves = moved state (store_of r) (store_of r') (Ok tt) took in
          let adds : Adds (state_of state) q m.left.records (store_of r) (store_of r') = changes.makes m.left.records h.keeps in
          let long : is_short (calls_left true owns) ≡ false = subst (λ (l : Option ℕ). is_short l ≡ false) (passes setup past owns s) (passed_long _ _ took.counts.passed) in
          let grown = moves.own in (
            sym (happens_as false ∙ ap (λ (b : Bool). written b step step.act) long ∙ ap (written false step) is),
            stands_so (record {
              passes = λ e. passed_left _ _ took.counts.passed ∙ ap (option_map spent) (passes setup past owns s) ∙ sym (ap (λ (k : Act). left_of k) is);
              images = λ x y first second. inl (keeps_images state law (setting_of (store_of r')) (memory_after setup (own_step given now step) m).left.records (store_of r') holds.keeps x y first second);
              counted = subst (λ (k : Act). min (fault_entries true owns + fault_of k (calls_left true owns)) (2 ^ 64 - 1) ≤ own_faults (pair_of state (store_of r'))) (sym is) (let counted = s.disks.counted in omega (arith, counted, grown));
            }) (ap (λ (k : Act). down_after k (down_by owns)) is ∙ upon setup past owns s),
            λ start size l. (
              fits_for (there start size) size (boot_or step.act m.left asked) q (boot_durable m.left asked step.act d is ∙ some)
                  (at_there (state_of state) size (λ (n k : ℕ). n ≤ k) (store_of r) (there start size) (length (record_bytes q)) (l.up (upon setup past owns s)) l.sized adds.fits),
              lies_up (state_of state) law setup past start size (entry ∷ owns) (store_of r') (sized_after (state_of state) size (twin (store_of r)) (twin (store_of r')) moves.first_kind moves.second_kind l.sized) holds.keeps
                  (adds.extent ∙ ap (longer (length (record_bytes q))) (l.up (upon setup past owns s)) ∙ sym (behind_durable m.left asked setup past start size (there start size) step.act d q is some)),
            ),
          )
        where
          left_of : Act → Option ℕ
          left_of k = left_after true (Given given) k (calls_left true owns)

      done : Done
      done = by asked refl
        where
          by : (o : Option ResourceRecord) → asked ≡ o → Done
          by None none = quiet none (quiet_none asked step.act recorded none) (subst (λ (o : Option ResourceRecord). Does {A = Unit {0}} (state_of state) o (Ok tt) (store_of r) (store_of r')) none does)
          by (Some q) some =
              let d = durable_some (resource_record setup (kept_records step.act m.left) m.opens (Given given)) asked step.act q recorded some in
              made d.0 q some d.1 (subst (λ (o : Option ResourceRecord). Does {A = Unit {0}} (state_of state) o (Ok tt) (store_of r) (store_of r')) some does)

    pub takes_step : TakesStep (node_state state r) (node_state state r') given now step
    takes_step (ResourceRole setup past) owns s = done setup past owns s
    takes_step (Coordinator times past) owns s = absurd s
    takes_step (Manager settings) owns s = absurd s

  -- ---- the disks failed

  module _ (flight : Durable) (a : Answers (state_of state) r.branches r'.branches given (Err (error.Failed flight))) (down : r'.down ≡ true) (in_flight : r'.flight ≡ Some flight) (count : r'.records ≡ (known (store_of r)).acts) where
    module _ (setup : Setup) (past : List ResourceRecord) (owns : List Own) (s : StandsOver state r setup past owns) where
      abbrev mem : Memory
      mem = memory setup past owns

      abbrev Fell : Type 0
      Fell = (cut flight ≡ happens (ResourceRole setup past) owns now true false (Given given)) × StandsOver state r' setup past (own_step given now (cut flight) ∷ owns)
          × ((is_short (left_at (ResourceRole setup past) owns) ≡ true) ⊎ DisksFail (disks_of state r) (disks_of state r'))
          × LiesWith (node_state state r) (node_state state r') (ResourceRole setup past) owns (own_step given now (cut flight))

      held : Holds (state_of state) r.branches mem
      held = s.holds (upon setup past owns s)

      at : (resource_answer setup mem given).act ≡ act.Durable flight
      at = subst (λ (t : Setup). (resource_answer t mem given).act ≡ act.Durable flight) (sym s.is) (a.steps mem held).tells

      -- the record in flight is the one that the answer asks for
      abbrev asked_at : Act → Option ResourceRecord
      asked_at k = option_and_then (resource_record setup (kept_records k mem.left) mem.opens (Given given)) (asked_act k)

      fell : (q : ResourceRecord) → asked_record setup mem given ≡ Some q → Changes (state_of state) q (Err store_error.Failed) (store_of r) (store_of r') → Fell
      fell q some changes =
          let falls = changes.disks in
          let cause = fell_for state (store_of r) (store_of r') (calls_left true owns) (passes setup past owns s) falls in
          let flies : asked_at (act.Durable flight) ≡ Some q = sym (ap asked_at at) ∙ some in
          let keeps = held.keeps in
          let loses : Loses (state_of state) q mem.left.records (store_of r) (store_of r') = changes.makes mem.left.records keeps in
          let lost = lost_images state law (store_of r) (store_of r') mem.left.records q (calls_left true owns) (passes setup past owns s) changes.setting loses in
          let moves = moved state (store_of r) (store_of r') (Err store_error.Failed) falls in (
            happening.cut setup past owns now (upon setup past owns s) given flight at,
            record {
              is = s.is ∙ same_setup (state_of state) r.branches r'.branches a.leaves.setting a.same;
              numbered = ap number_of a.same ∙ s.numbered;
              down = down;
              disks = record {
                passes = λ e. false_true (sym e);
                images = λ x y first second. subst (λ (o : Option ResourceRecord). StandsForEither (setting_of (store_of r')) (record { records = mem.left.records; flight = o }) (if may_stand (calls_left true owns) then o else None) x y)
                    (sym flies) (lost x y first second);
                counted = faults_more (is_short (calls_left true owns)) (fault_entries true owns) (own_faults (disks_of state r)) (own_faults (disks_of state r')) s.disks.counted
                    moves.own cause;
              };
              holds = λ e. false_true (sym e);
              fallen = λ e. record { flight = in_flight; count = count ∙ ap (λ (k : Known). k.acts) keeps.knows; closed = refl };
            },
            cause,
            λ start size l.
                let there : Extent = extent (resource_recording setup past) start size owns in
                let stood = l.up (upon setup past owns s) in (
                  fits_for there size (asked_at (act.Durable flight)) q flies (at_there (state_of state) size (λ (n k : ℕ). n ≤ k) (store_of r) there (length (record_bytes q)) stood l.sized loses.fits),
                  record {
                    sized = sized_after (state_of state) size (twin (store_of r)) (twin (store_of r')) moves.first_kind moves.second_kind l.sized;
                    up = λ e. false_true (sym e);
                    images = λ x y first second. subst (λ (o : Option ResourceRecord). AtEither (setting_of (store_of r')) (record { records = mem.left.records; flight = o }) there x y) (sym flies)
                        (flies_behind (state_of state) (store_of r) (store_of r') mem.left.records q there changes.setting stood loses x y first second);
                  },
                ),
          )

      failed : Fell
      failed = by (asked_record setup mem given) refl (subst (λ (t : Setup). Does {A = Unit {0}} (state_of state) (asked_record t mem given) (Err store_error.Failed) (store_of r) (store_of r')) (sym s.is) (a.steps mem held).does)
        where
          by : (o : Option ResourceRecord) → asked_record setup mem given ≡ o → Does {A = Unit {0}} (state_of state) o (Err store_error.Failed) (store_of r) (store_of r') → Fell
          by None none does = absurd (let no : store_error.Failed ≡ store_error.NoMemory = does.0 in cc)
          by (Some q) some does = fell q some does

    pub fails_at : FailsAt (node_state state r) (node_state state r') given now flight
    fails_at (ResourceRole setup past) owns s = failed setup past owns s
    fails_at (Coordinator times past) owns s = absurd s
    fails_at (Manager settings) owns s = absurd s

  -- ---- a record that doesn't fit, or does

  module _ (result : Result Step NodeError) (b' : Branches (Stoppable D)) (a : Answers (state_of state) r.branches b' given result) where
    -- what became of the record that was asked for
    abbrev DoesFor : Option ResourceRecord → Type 0
    DoesFor o = Does {A = Unit {0}} (state_of state) o (made_as result) (store_of r) b'.store

    does_for : (setup : Setup) (past : List ResourceRecord) (owns : List Own) → StandsOver state r setup past owns → DoesFor (asked_record setup (memory setup past owns) given)
    does_for setup past owns s = subst (λ (t : Setup). DoesFor (asked_record t (memory setup past owns) given)) (sym s.is) (a.steps (memory setup past owns) (s.holds (upon setup past owns s))).does

    -- whatever record the store makes with this outcome fits
    pub has_room : ((q : ResourceRecord) (rs : List ResourceRecord) → Makes (state_of state) q rs (outcome (made_as result)) (store_of r) b'.store → HasRecordRoom (state_of state) q (store_of r)) → HasRoom state r given
    has_room fits setup past owns s q some =
        fits q (memory setup past owns).left.records ((subst DoesFor some (does_for setup past owns s)).makes (memory setup past owns).left.records (s.holds (upon setup past owns s)).keeps)

  pub has_no_room : (full : Full) (b' : Branches (Stoppable D)) → Answers (state_of state) r.branches b' given (Err (error.Full full)) → HasNoRoom state r given full
  has_no_room full b' a setup past owns s = by (asked_record setup (memory setup past owns) given) refl (does_for (Err (error.Full full)) b' a setup past owns s)
    where
      by : (o : Option ResourceRecord) → asked_record setup (memory setup past owns) given ≡ o → DoesFor (Err (error.Full full)) b' a o
          → (q : ResourceRecord) × (asked_record setup (memory setup past owns) given ≡ Some q) × IsFull (needs r (length (record_bytes q))) (size_of state r) full
      by None none does = absurd (let no : store_error.Full full ≡ store_error.NoMemory = does.0 in cc)
      by (Some q) some does = (q, some, does.makes (memory setup past owns).left.records (s.holds (upon setup past owns s)).keeps)

  -- by where its journal stands
  pub overflows : (full : Full) → HasNoRoom state r given full → Overflows (node_state state r) given now full
  overflows full none (ResourceRole setup past) start size owns s l =
      let m : Memory = memory setup past owns in
      let (q, some, is) = none setup past owns s in
      let rule = (resource_answer setup m given).act in
      let d = durable_some (resource_record setup (kept_records rule m.left) m.opens (Given given)) (asked_record setup m given) rule q (answers_are_recorded setup m given) some in (
        q,
        boot_durable m.left (asked_record setup m given) rule d.0 d.1 ∙ some,
        at_there (state_of state) size (λ (n k : ℕ). IsFull n k full) (store_of r) (extent (resource_recording setup past) start size owns) (length (record_bytes q)) (l.up (upon setup past owns s)) l.sized is,
      )
  overflows full none (Coordinator times past) start size owns s l = absurd s
  overflows full none (Manager settings) start size owns s l = absurd s

-- ---- all that is promised of a step

-- nothing changed for want of room or of memory
same_store : {D : Type 0} (state : D → DiskState) (e : StoreError) (old new : Store D) → Leaves {A = Unit {0}} state (Err e) old new → (store_error.Failed ≡ e → ⊥) → new ≡ old
same_store state store_error.Failed old new l never = absurd (never refl)
same_store state (store_error.Full full) old new l never = ⊎_elim (λ same. same) (λ made. made.2.disks) l.changes
same_store state store_error.NoMemory old new l never = ⊎_elim (λ same. same) (λ made. made.2.disks) l.changes

same_branches : {D : Type 0} (old new : Branches D) → new.store ≡ old.store → new.txns ≡ old.txns → new.setup ≡ old.setup → new ≡ old
same_branches old new store txns same = λ i. record { setup = same i; store = store i; txns = txns i }

pub stays_itself : {D : Type 0} (state : D → DiskState) (r r' : Resource D) → r'.branches.setup.number ≡ r.branches.setup.number → (IsSound r → IsSound r')
    → SameKind (disks_of state r).first (disks_of state r').first → SameKind (disks_of state r).second (disks_of state r').second → StaysItself (node_state state r) (node_state state r')
stays_itself state r r' number sound first second = record {
  same_place = ap place.Res number;
  same_inputs = λ given s. (sound s.0, s.1);
  first = first;
  second = second;
}

-- what a call leaves of the disks
left_moved : {A D : Type 0} (state : D → DiskState) (result : Result A StoreError) (old new : Store (Stoppable D)) → Leaves (state_of state) result old new → Moved (pair_of state old) (pair_of state new)
left_moved state result old new l =
    ⊎_elim (λ same. subst (λ (k : Store (Stoppable _)). Moved (pair_of state old) (pair_of state k)) (sym same) (moved_same (pair_of state old)))
    (λ made. moved state old new (outcome result) made.2.disks) l.changes

-- what its first opening found stays
left_found : {A D : Type 0} (state : D → DiskState) (result : Result A StoreError) (old new : Store D) → Leaves state result old new → found_of new ≡ found_of old
left_found state result old new l = ⊎_elim (λ same. ap found_of same) (λ made. made.2.found) l.changes

module _ {D : Type 0} (state : D → DiskState) (law : (d : Stoppable D) → IsLawful (state_of state d)) (r : Resource D) (given : Input) (now : ℕ) (up : is_down r ≡ false) (able : 0 < r.left) (served : serves r given) where
  ready : IsReady r.branches
  ready = ready_by r served.0 up able

  pub stepped : (r' : Resource D) (step : Step) → Answers (state_of state) r.branches r'.branches given (Ok step) → r'.down ≡ r.down → r'.left + 1 ≡ r.left → StepsBy state r r' given now (Ok step)
  stepped r' step a down counted =
      let up' : store_is_down (store_of r') ≡ false = a.leaves.down in
      let steps = served.0.steps in
      let opened = a.opened in
      let k = known_after (state_of state) (store_of r) (store_of r') ready.within.knows up' (Ok tt) a.leaves.changes in
      let next = stays_ready (state_of state) r.branches r'.branches given (Ok step) a ready served.1 up' (omega (arith, steps, opened, able)) in
      let of = served.0.knows up in
      let moves = left_moved state (made_as (Ok step)) (store_of r) (store_of r') a.leaves in
      let sound : IsSound r' = sound_by r r' served.0 a.same a.leaves.setting (omega (arith, steps, opened, counted)) (λ e. up')
      (λ e. subst (λ (t : Setting). IsOf t (known (store_of r'))) (sym a.leaves.setting) (record { kept = k.within.kept; fits = k.within.parts; resource = sym k.same.resource ∙ of.resource; schema = sym k.same.schema ∙ of.schema }))
      (λ e. next.within.tickets) in
      record {
        answers = takes_step state law r r' given now up step a down;
        framable = λ comes. a.frames ready served.1;
        after = tt;
        room = has_room state law r r' given now up (Ok step) r'.branches a (λ q rs made. made.fits);
        same = stays_itself state r r' (ap number_of a.same) (λ s. sound) moves.first_kind moves.second_kind;
        picks = same_picks (disks_of state r) (disks_of state r') moves;
        counted = counted;
        down = down ∙ up;
        found = left_found (state_of state) (made_as (Ok step)) (store_of r) (store_of r') a.leaves;
      }

  -- nothing changed
  itself : (e : NodeError) → AfterError (node_state state r) (node_state state r) given now e → HadRoom state r given (Err e) → steps_of (Err e) ≡ 0
      → goes_down (Err e) ≡ false → StepsBy state r r given now (Err e)
  itself e after room none not = record {
    answers = tt;
    framable = λ f. tt;
    after = after;
    room = room;
    same = stays_itself state r r refl (λ s. s) (same_kind (disks_of state r).first) (same_kind (disks_of state r).second);
    picks = same_picks (disks_of state r) (disks_of state r) (moved_same (disks_of state r));
    counted = omega (arith, none);
    down = up ∙ sym not;
    found = refl;
  }

  as_before : (b' : Branches (Stoppable D)) (r' : Resource D) (e : NodeError) → r' ≡ record r { branches = b' } → b' ≡ r.branches → StepsBy state r r given now (Err e) → StepsBy state r r' given now (Err e)
  as_before b' r' e is same s = subst (λ (q : Resource D). StepsBy state r q given now (Err e)) (sym (is ∙ ap (λ (b : Branches (Stoppable D)). record r { branches = b }) same)) s

  -- it ends without an answer, after which the branches are b'
  pub missed : (b' : Branches (Stoppable D)) (r' : Resource D) (count : ℕ) (counts : count ≡ (known (store_of r)).acts) (failed : NodeError) → Answers (state_of state) r.branches b' given (Err failed) → Misses count failed (record r { branches = b' }) r'
      → StepsBy state r r' given now (Err failed)
  missed b' r' count counts (error.Failed flight) a m =
      let steps = served.0.steps in
      let opens : r'.branches.txns ≡ r.branches.txns = ap (λ (b : Branches (Stoppable D)). b.txns) m.0 ∙ a.tickets in
      let opened : r'.branches.txns.opened ≡ r.branches.txns.opened = ap (λ (ts : Tickets). ts.opened) opens in
      let counted = m.4 in
      let a' : Answers (state_of state) r.branches r'.branches given (Err (error.Failed flight)) = subst (λ (b : Branches (Stoppable D)). Answers (state_of state) r.branches b given (Err (error.Failed flight))) (sym m.0) a in
      let moves = left_moved state (made_as (Err (error.Failed flight))) (store_of r) (store_of r') a'.leaves in
      let sound : IsSound r' = sound_by r r' served.0 a'.same a'.leaves.setting (omega (arith, steps, opened, counted))
      (λ e. false_true (sym e ∙ m.1)) (λ e. false_true (sym e ∙ m.1)) (λ e. false_true (sym e ∙ m.1)) in
      record {
        answers = tt;
        framable = λ f. tt;
        after = fails_at state law r r' given now up flight a' m.1 m.2 (m.3 ∙ counts);
        room = has_room state law r r' given now up (Err (error.Failed flight)) r'.branches a' (λ q rs made. made.fits);
        same = stays_itself state r r' (ap number_of a'.same) (λ s. sound) moves.first_kind moves.second_kind;
        picks = same_picks (disks_of state r) (disks_of state r') moves;
        counted = counted;
        down = m.1;
        found = left_found (state_of state) (made_as (Err (error.Failed flight))) (store_of r) (store_of r') a'.leaves;
      }
  missed b' r' count counts (error.Full full) a m =
      let none = has_no_room state law r r given now up full b' a in
      as_before b' r' (error.Full full) m
      (same_branches r.branches b' (same_store (state_of state) (store_error.Full full) (store_of r) b'.store a.leaves (λ e. absurd cc)) a.tickets a.same)
      (itself (error.Full full) (λ role owns s. s, λ role start size owns l. l, overflows state law r r given now up full none) none refl refl)
  missed b' r' count counts error.NoMemory a m =
      as_before b' r' error.NoMemory m
      (same_branches r.branches b' (same_store (state_of state) store_error.NoMemory (store_of r) b'.store a.leaves (λ e. absurd cc)) a.tickets a.same)
      (itself error.NoMemory (λ role owns s. s, λ role start size owns l. l) tt refl refl)
