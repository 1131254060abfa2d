-- What a stop and a crash leave of a resource.
use Rattle.std.proofs.Common.{◌≡◌, ◌*◌, ◌≤◌, inl, inr, ℕ, Bool, true, false, List, ◌∷◌, None, option_map, is_some, refl, sym, ap, subst, ◌∙◌, arith}
use Rattle.std.specs.List.{AllByRecursion}
use Rattle.disk_model.specs.Disk.{DiskState, Content, IsLawful, SameKind}
use Rattle.disk_model.specs.Stop.{below, stop_of, failures_of, state_of}
use Rattle.disk_model.specs.declared.stoppable.Stop.TheVariants.{Armed}
use Rattle.disk_model.specs.declared.stoppable.Stoppable.{Stoppable}
use Rattle.journal_checkpoint.specs.Images.{Pair}
use Rattle.disk_journal.specs.Reading.{row_length}
use Rattle.journal_checkpoint.specs.declared.types.Found.{Found}
use Rattle.journal_checkpoint.specs.Keeping.{AreSized, KeepsPair, active_disk, other_disk, is_second}
use Rattle.journal_checkpoint.specs.Pairs.{chosen}
use Rattle.memory_store.specs.Settling.{KeepsOrSettled, settled}
use Rattle.seata_types.specs.declared.acts.Act.TheVariants as act
use Rattle.durable_records.specs.declared.resources.ResourceRecord.{ResourceRecord}
use Rattle.history_rules.specs.Own.{Own, Stopped, Crashed, still}
use Rattle.history_rules.specs.Devices.{is_down as down_by}
use Rattle.history_rules.specs.ResourceMemory.{Setup, memory}
use Rattle.history_rules.specs.Nodes.{Coordinator, Manager, happens}
use Rattle.history_rules.specs.Nodes.{Resource as ResourceRole}
use Rattle.node_steps.specs.Ends.{extent, resource_recording}
use Rattle.node_steps.specs.Promises.{Does, own_entry}
use Rattle.resource_memory.specs.Known.{Known}
use Rattle.resource_store.specs.declared.store.Store.{Store}
use Rattle.resource_store.specs.Keeping.{twin, known, setting_of, is_down as store_is_down, BringsBack, KeepsRecords, with_disk}
use Rattle.resource_store.specs.Meaning.{IsOf, Opens, Setting, meaning_of}
use Rattle.record_places.specs.Within.{IsTableWithin}
use Rattle.resource_core.specs.declared.nodes.Resource.{Resource}
use Rattle.resource_core.specs.Holding.{Holds}
use Rattle.resource_core.specs.NodeMoving.{ArmsPair, ArmsStore, with_store}
use Rattle.resource_core.specs.NodeStanding.{IsSound, StandsOver, node_state}
use Rattle.resource_core.specs.NodeStepping.{ArmsBy, CrashesBy}
use Rattle.resource_core.specs.Ready.{AreTicketsWithin}
use Rattle.resource_rules.specs.Setups.{actions_of}
use Rattle.resource_core.specs.Shown.{disks_of, is_down, pair_of, setup_in, store_of}
use Rattle.resource_core.proofs.LyingLaws.{fits_none, lies_up, sized_after, stands_there}
use Rattle.resource_core.proofs.NodeDisks.{Moved, false_true, keeps_images, moved_same, pair_on, same_kind, same_picks}
use Rattle.resource_core.proofs.NodeStepped.{stays_itself}

-- ---- a stop on the active disk

-- a disk of which a stop lets so many calls pass
abbrev armed_disk : {D : Type 0} → ℕ → Stoppable D → Stoppable D
armed_disk calls d = record { disk = below d; stop = Armed calls; failures = failures_of d }

is_armed_disk : {D : Type 0} (calls : ℕ) (d d' : Stoppable D) → below d' ≡ below d → stop_of d' ≡ Armed calls → failures_of d' ≡ failures_of d → armed_disk calls d ≡ d'
is_armed_disk calls d d' same stop failures = λ i. record { disk = sym same i; stop = sym stop i; failures = sym failures i }

module _ {D : Type 0} (state : D → DiskState) (calls : ℕ) where
  pair_armed : (second : Bool) (a o : Stoppable D) → ArmsPair (pair_on (state_of state) second a o) (pair_on (state_of state) second (armed_disk calls a) o)
  pair_armed false a o = record { own = refl; first_content = refl; second_content = refl; first_size = refl; second_size = refl; first_moments = refl; second_moments = refl; first_leaves = λ c e. e; second_leaves = λ c e. e }
  pair_armed true a o = record { own = refl; first_content = refl; second_content = refl; first_size = refl; second_size = refl; first_moments = refl; second_moments = refl; first_leaves = λ c e. e; second_leaves = λ c e. e }

  abbrev armed : Store (Stoppable D) → Store (Stoppable D)
  armed s = with_disk s (armed_disk calls (active_disk (twin s)))

  kept_armed : (s : Store (Stoppable D)) (found : Found) → KeepsPair (state_of state) found (twin s) → KeepsPair (state_of state) found (twin (armed s))
  kept_armed s found k = record {
    journal = record {
      disk = record { settled = k.journal.disk.settled; images = k.journal.disk.images };
      end = k.journal.end;
    };
    settled = k.settled;
    active = k.active;
    passive = k.passive;
    side = k.side;
    extent = k.extent;
  }

  keeps_armed : (s : Store (Stoppable D)) (t : Setting) (rs : List ResourceRecord) → KeepsRecords (state_of state) t rs s → KeepsRecords (state_of state) t rs (armed s)
  keeps_armed s t rs k = record {
    found = k.found;
    kept = record { pair = kept_armed s k.found k.kept.pair; held = k.kept.held };
    list = k.list;
    knows = k.knows;
  }

  settled_armed : (s : Store (Stoppable D)) (t : Setting) (found : Found) → KeepsOrSettled (state_of state) (meaning_of t) found (known s) (twin s)
      → KeepsOrSettled (state_of state) (meaning_of t) found (known s) (twin (armed s))
  settled_armed s t found (inl k) = inl (kept_armed s found k)
  settled_armed s t found (inr (writable, k)) = inr (writable, kept_armed s (settled (meaning_of t) found (known s)) k)

  leaves_armed : (second : Bool) (a o : Stoppable D) (c : List ℕ)
      → ((state_of state (chosen second (armed_disk calls a) o)).may_leave c → (state_of state (chosen second a o)).may_leave c)
      × ((state_of state (chosen second o (armed_disk calls a))).may_leave c → (state_of state (chosen second o a)).may_leave c)
  leaves_armed false a o c = (λ e. e, λ e. e)
  leaves_armed true a o c = (λ e. e, λ e. e)

  size_armed : (second : Bool) (a o : Stoppable D)
      → ((state_of state (chosen second (armed_disk calls a) o)).size ≡ (state_of state (chosen second a o)).size)
      × ((state_of state (chosen second o (armed_disk calls a))).size ≡ (state_of state (chosen second o a)).size)
  size_armed false a o = (refl, refl)
  size_armed true a o = (refl, refl)

  sized_armed : (s : Store (Stoppable D)) (size : ℕ) → AreSized (state_of state) (twin (armed s)) size → AreSized (state_of state) (twin s) size
  sized_armed s size sized =
      let same = size_armed (is_second (twin s)) (active_disk (twin s)) (other_disk (twin s)) in
      record { first = sym same.0 ∙ sized.first; second = sym same.1 ∙ sized.second }

  back_armed : (s : Store (Stoppable D)) (pick : ℕ) (before : Store (Stoppable D)) → BringsBack (state_of state) pick before s → BringsBack (state_of state) pick before (armed s)
  back_armed s pick before back = record {
    a = back.a;
    b = back.b;
    first = back.first;
    second = back.second;
    is = record {
      found = back.is.found;
      stands = back.is.stands;
      held = back.is.held;
      kept = settled_armed s (setting_of before) back.is.found back.is.kept;
      short = back.is.short;
      extent = λ size sized. back.is.extent size (sized_armed s size sized);
      same = λ one two.
          let alone = back.is.same (subst (λ (n : ℕ). 2 * row_length back.is.found.records ≤ n) (size_armed (is_second (twin s)) (active_disk (twin s)) (other_disk (twin s))).0 one)
          (subst (λ (n : ℕ). 2 * row_length back.is.found.records ≤ n) (size_armed (is_second (twin s)) (active_disk (twin s)) (other_disk (twin s))).1 two) in (
            λ c e. alone.0 c ((leaves_armed (is_second (twin s)) (active_disk (twin s)) (other_disk (twin s)) c).0 e),
            λ c e. alone.1 c ((leaves_armed (is_second (twin s)) (active_disk (twin s)) (other_disk (twin s)) c).1 e),
          );
    };
    keeps = λ rs stands. keeps_armed s (setting_of before) rs (back.keeps rs stands);
  }

  store_armed : (s : Store (Stoppable D)) → ArmsStore state calls s (with_disk s (armed_disk calls (active_disk (twin s))))
  store_armed s = record {
    keeps = keeps_armed s;
    back = back_armed s;
    left = refl;
    pair = pair_armed (is_second (twin s)) (active_disk (twin s)) (other_disk (twin s));
    extent = refl;
    known = refl;
    setting = refl;
    found = refl;
    down = refl;
  }

  pub arms_store : (s : Store (Stoppable D)) (lent disk : Stoppable D) → lent ≡ active_disk (twin s) → below disk ≡ below lent → stop_of disk ≡ Armed calls → failures_of disk ≡ failures_of lent
      → ArmsStore state calls s (with_disk s disk)
  arms_store s lent disk is same stop failures =
      subst (λ (d : Stoppable D). ArmsStore state calls s (with_disk s d)) (is_armed_disk calls (active_disk (twin s)) disk (same ∙ ap below is) stop (failures ∙ ap failures_of is)) (store_armed s)

-- ---- what stays

same_kind_by : (old new : DiskState) → new.size ≡ old.size → new.content ≡ old.content → new.tells_moments ≡ old.tells_moments → SameKind old new
same_kind_by old new size content moments = record { size = size; tells_images = ap is_some content; tells_moments = moments }

pub moved_armed : (old new : Pair) → ArmsPair old new → Moved old new
moved_armed old new a = record {
  own = let own = a.own in omega (arith, own);
  first_pick = ap (option_map (λ (c : Content). c.last_pick)) a.first_content;
  second_pick = ap (option_map (λ (c : Content). c.last_pick)) a.second_content;
  first_kind = same_kind_by old.first new.first a.first_size a.first_content a.first_moments;
  second_kind = same_kind_by old.second new.second a.second_size a.second_content a.second_moments;
}

-- a resource with another store of its setting is what it was
pub setup_still : {D : Type 0} (r : Resource D) (s : Store (Stoppable D)) → setting_of s ≡ setting_of (store_of r) → setup_in r ≡ setup_in (with_store r s)
setup_still r s setting = ap of_setting (sym setting)
  where
    of_setting : Setting → Setup
    of_setting t = record { number = t.resource; schema = t.schema; opening = t.opening; tries = r.branches.setup.tries; actions = actions_of r.branches.setup.actions; locals = r.branches.setup.locals }

module _ {D : Type 0} (r : Resource D) (s : Store (Stoppable D)) (same : known s ≡ known (store_of r)) (setting : setting_of s ≡ setting_of (store_of r)) (down : store_is_down s ≡ store_is_down (store_of r)) where
  -- it needs nothing of its disks
  pub sound_still : IsSound r → IsSound (with_store r s)
  sound_still i = record {
    numbered = i.numbered ∙ ap (λ (t : Setting). t.resource) (sym setting);
    counted = i.counted;
    opens = subst Opens (sym setting) i.opens;
    tables = subst (λ (t : Setting). AllByRecursion IsTableWithin t.schema.tables) (sym setting) i.tables;
    actions = i.actions;
    locals = i.locals;
    steps = i.steps;
    up = λ e. down ∙ i.up e;
    knows = λ e. subst (λ (t : Setting). IsOf t (known s)) (sym setting) (subst (λ (k : Known). IsOf (setting_of (store_of r)) k) (sym same) (i.knows e));
    tickets = λ e. subst (λ (k : Known). AreTicketsWithin k.tables r.branches.txns.opens) (sym same) (i.tickets e);
  }

-- ---- an entry that stops it, or takes it down

armed_happens : (setup : Setup) (past : List ResourceRecord) (owns : List Own) (now calls : ℕ) → down_by owns ≡ false → still act.Armed ≡ happens (ResourceRole setup past) owns now false false (Stopped calls)
armed_happens setup past owns now calls up = rw up refl

crashed_happens : (setup : Setup) (past : List ResourceRecord) (owns : List Own) (now : ℕ) → down_by owns ≡ false → still (act.Down None None) ≡ happens (ResourceRole setup past) owns now false false Crashed
crashed_happens setup past owns now up = rw up refl

module _ {D : Type 0} (state : D → DiskState) (law : (d : Stoppable D) → IsLawful (state_of state d)) (r : Resource D) (up : is_down r ≡ false) where
  upon : (setup : Setup) (past : List ResourceRecord) (owns : List Own) → StandsOver state r setup past owns → down_by owns ≡ false
  upon setup past owns s = sym s.down ∙ up

  -- armed, with this store
  module _ (s' : Store (Stoppable D)) (calls : ℕ) (a : ArmsStore state calls (store_of r) s') where
    holds_armed : (setup : Setup) (past : List ResourceRecord) (owns : List Own) → StandsOver state r setup past owns → Holds (state_of state) (with_store r s').branches (memory setup past owns)
    holds_armed setup past owns s =
        let h = s.holds (upon setup past owns s) in
        record {
          keeps = subst (λ (t : Setting). KeepsRecords (state_of state) t (memory setup past owns).left.records s') (sym a.setting) (a.keeps (setting_of (store_of r)) (memory setup past owns).left.records h.keeps);
          tickets = h.tickets;
        }

    armed_so : (setup : Setup) (past : List ResourceRecord) (owns : List Own) (now : ℕ) → StandsOver state r setup past owns
        → StandsOver state (with_store r s') setup past (own_entry (Stopped calls) now (still act.Armed) ∷ owns)
    armed_so setup past owns now s =
        let h = holds_armed setup past owns s in
        let own = a.pair.own in
        let counted = s.disks.counted in
        record {
          is = s.is ∙ setup_still r s' a.setting;
          numbered = s.numbered;
          down = s.down;
          disks = record {
            passes = λ e. a.left;
            images = λ x y first second. inl (keeps_images state law (setting_of s') (memory setup past owns).left.records s' h.keeps x y first second);
            counted = omega (arith, counted, own);
          };
          holds = λ e. h;
          fallen = λ e. false_true (sym (upon setup past owns s) ∙ e);
        }

    arm_does : (now : ℕ) → Does (node_state state r) (node_state state (with_store r s')) (Stopped calls) now (still act.Armed)
    arm_does now (ResourceRole setup past) owns s =
        let moves = moved_armed (disks_of state r) (pair_of state s') a.pair in (
          armed_happens setup past owns now calls (upon setup past owns s),
          armed_so setup past owns now s,
          λ start size l. (
            λ q some. fits_none None refl q some,
            lies_up (state_of state) law setup past start size (own_entry (Stopped calls) now (still act.Armed) ∷ owns) s' (sized_after (state_of state) size (twin (store_of r)) (twin s') moves.first_kind moves.second_kind l.sized)
                (holds_armed setup past owns s).keeps (a.extent ∙ l.up (upon setup past owns s)),
          ),
        )
    arm_does now (Coordinator times past) owns s = absurd s
    arm_does now (Manager settings) owns s = absurd s

    pub arms_by : ArmsBy state r (with_store r s') calls
    arms_by =
        let moved = moved_armed (disks_of state r) (pair_of state s') a.pair in record {
          does = arm_does;
          same = stays_itself state r (with_store r s') refl (sound_still r s' a.known a.setting a.down) moved.first_kind moved.second_kind;
          picks = same_picks (disks_of state r) (pair_of state s') moved;
          counted = refl;
          up = up;
          found = a.found;
        }

  -- ---- a crash, over so many records

  module _ (count : ℕ) (counts : count ≡ (known (store_of r)).acts) where
    abbrev pub crashed : Resource D
    crashed = record r { down = true; flight = None; records = count }

    crashed_so : (setup : Setup) (past : List ResourceRecord) (owns : List Own) (now : ℕ) → StandsOver state r setup past owns
        → StandsOver state crashed setup past (own_entry Crashed now (still (act.Down None None)) ∷ owns)
    crashed_so setup past owns now s =
        let h = s.holds (upon setup past owns s) in
        let counted = s.disks.counted in
        record {
          is = s.is;
          numbered = s.numbered;
          down = refl;
          disks = record {
            passes = λ e. false_true (sym e);
            images = λ x y first second. inl (keeps_images state law (setting_of (store_of r)) (memory setup past owns).left.records (store_of r) h.keeps x y first second);
            counted = omega (arith, counted);
          };
          holds = λ e. false_true (sym e);
          fallen = λ e. record { flight = refl; count = counts ∙ ap (λ (k : Known). k.acts) h.keeps.knows; closed = refl };
        }

    crash_does : (now : ℕ) → Does (node_state state r) (node_state state crashed) Crashed now (still (act.Down None None))
    crash_does now (ResourceRole setup past) owns s = (
      crashed_happens setup past owns now (upon setup past owns s),
      crashed_so setup past owns now s,
      λ start size l. (
        λ q some. fits_none None refl q some,
        record {
          sized = l.sized;
          up = λ e. false_true (sym e);
          images = λ x y first second. inl (stands_there (state_of state) law (setting_of (store_of r)) (memory setup past owns).left.records (store_of r) (extent (resource_recording setup past) start size owns)
              (s.holds (upon setup past owns s)).keeps (l.up (upon setup past owns s)) x y first second);
        },
      ),
    )
    crash_does now (Coordinator times past) owns s = absurd s
    crash_does now (Manager settings) owns s = absurd s

    sound_crashed : IsSound r → IsSound crashed
    sound_crashed i = record {
      numbered = i.numbered;
      counted = i.counted;
      opens = i.opens;
      tables = i.tables;
      actions = i.actions;
      locals = i.locals;
      steps = i.steps;
      up = λ e. false_true (sym e);
      knows = λ e. false_true (sym e);
      tickets = λ e. false_true (sym e);
    }

    pub crashes_by : CrashesBy state r crashed
    crashes_by = record {
      does = crash_does;
      same = stays_itself state r crashed refl sound_crashed (same_kind (disks_of state r).first) (same_kind (disks_of state r).second);
      picks = same_picks (disks_of state r) (disks_of state r) (moved_same (disks_of state r));
      counted = refl;
      down = refl;
      found = refl;
    }
