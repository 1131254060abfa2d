-- What a stop and a crash leave of the coordinator.
use Rattle.std.proofs.Common.{◌≡◌, ◌*◌, ◌≤◌, inl, inr, ℕ, Bool, true, false, List, ◌∷◌, None, option_map, is_some, refl, sym, ap, subst, ◌∙◌, arith}
use Rattle.disk_model.specs.Disk.{DiskState, Content, IsLawful, SameKind}
use Rattle.disk_model.specs.Stop.{below, stop_of, failures_of, state_of}
use Rattle.disk_model.specs.declared.stoppable.Stop.TheVariants.{Armed}
use Rattle.disk_model.specs.declared.stoppable.Stoppable.{Stoppable}
use Rattle.disk_journal.specs.Reading.{row_length}
use Rattle.journal_checkpoint.specs.declared.types.Found.{Found}
use Rattle.journal_checkpoint.specs.Keeping.{AreSized, KeepsPair, active_disk, other_disk, is_second, with_active}
use Rattle.journal_checkpoint.specs.Pairs.{chosen}
use Rattle.memory_store.specs.Settling.{KeepsOrSettled, settled}
use Rattle.seata_types.specs.declared.acts.Act.TheVariants as act
use Rattle.seata_types.specs.declared.limits.TheConstants.{MANAGERS}
use Rattle.durable_records.specs.declared.coordinators.SessionRecord.{SessionRecord}
use Rattle.session_log.specs.declared.sessions.Snapshot.{Snapshot}
use Rattle.session_store.specs.declared.sessions.Sessions.{Sessions}
use Rattle.session_store.specs.Keeping.{twin, known, meaning, BringsBack, SameOpening, SameDisks, KeepsRecords}
use Rattle.history_rules.specs.Own.{Own, Stopped, Crashed, still}
use Rattle.history_rules.specs.Devices.{is_down as down_by}
use Rattle.history_rules.specs.CoordinatorMemory.{Times, sessions_left}
use Rattle.history_rules.specs.Nodes.{Resource, Manager, happens}
use Rattle.history_rules.specs.Nodes.{Coordinator as CoordinatorRole}
use Rattle.node_steps.specs.Promises.{Does, LiesWith, own_entry}
use Rattle.coordinator_core.specs.declared.nodes.Coordinator.{Coordinator}
use Rattle.coordinator_core.specs.Knowledge.{knowledge, times_in}
use Rattle.coordinator_core.specs.Moving.{ArmsPair, ArmsSessions, Arms}
use Rattle.coordinator_core.specs.Standing.{node_state, StandsOver, course, pair_of, sessions_of, start_of, is_down, times_of}
use Rattle.coordinator_core.specs.Stepping.{ArmsBy, CrashesBy}
use Rattle.coordinator_rules.specs.Tracks.{Follows}
use Rattle.coordinator_core.proofs.Disks.{false_true, Moved, pair_on, same_kind, on_armed, on_crashed}
use Rattle.coordinator_core.proofs.Laid.{fits_none, lies_crashed, lies_up}
use Rattle.coordinator_core.proofs.Stays.{Remains, stays_itself, same_picks}

-- ---- a stop on the active disk

-- a disk of which a stop lets so many calls pass
abbrev armed_disk : {D : Type 0} → ℕ → Stoppable D → Stoppable D
armed_disk calls d = record { disk = below d; stop = Armed calls; failures = failures_of d }

is_armed_disk : {D : Type 0} (calls : ℕ) (d d' : Stoppable D) → below d' ≡ below d → stop_of d' ≡ Armed calls → failures_of d' ≡ failures_of d → armed_disk calls d ≡ d'
is_armed_disk calls d d' same stop failures = λ i. record { disk = sym same i; stop = sym stop i; failures = sym failures i }

-- sessions with another active disk
abbrev pub put_active : {D : Type 0} → Sessions D → D → Sessions D
put_active s disk = record s { store = record s.store { twin = with_active (twin s) disk } }

module _ {D : Type 0} (state : D → DiskState) (calls : ℕ) where
  pair_armed : (second : Bool) (a o : Stoppable D) → ArmsPair (pair_on (state_of state) second a o) (pair_on (state_of state) second (armed_disk calls a) o)
  pair_armed false a o = record {
    own = refl;
    first_content = refl;
    second_content = refl;
    first_size = refl;
    second_size = refl;
    first_moments = refl;
    second_moments = refl;
  }
  pair_armed true a o = record {
    own = refl;
    first_content = refl;
    second_content = refl;
    first_size = refl;
    second_size = refl;
    first_moments = refl;
    second_moments = refl;
  }

  abbrev armed : Sessions (Stoppable D) → Sessions (Stoppable D)
  armed s = put_active s (armed_disk calls (active_disk (twin s)))

  kept_armed : (s : Sessions (Stoppable D)) (found : Found) → KeepsPair (state_of state) found (twin s) → KeepsPair (state_of state) found (twin (armed s))
  kept_armed s found k = record {
    journal = record {
      disk = record { settled = k.journal.disk.settled; images = k.journal.disk.images };
      end = k.journal.end;
    };
    settled = k.settled;
    active = k.active;
    passive = k.passive;
    side = k.side;
    extent = k.extent;
  }

  keeps_armed : (s : Sessions (Stoppable D)) (rs : List SessionRecord) → KeepsRecords (state_of state) rs s → KeepsRecords (state_of state) rs (armed s)
  keeps_armed s rs k = record {
    found = k.found;
    kept = record { pair = kept_armed s k.found k.kept.pair; held = k.kept.held };
    list = k.list;
    knows = k.knows;
  }

  settled_armed : (s : Sessions (Stoppable D)) (found : Found) → KeepsOrSettled (state_of state) (meaning s) found (known s) (twin s) → KeepsOrSettled (state_of state) (meaning s) found (known s) (twin (armed s))
  settled_armed s found (inl k) = inl (kept_armed s found k)
  settled_armed s found (inr (writable, k)) = inr (writable, kept_armed s (settled (meaning s) found (known s)) k)

  leaves_armed : (second : Bool) (a o : Stoppable D) (c : List ℕ)
      → ((state_of state (chosen second (armed_disk calls a) o)).may_leave c → (state_of state (chosen second a o)).may_leave c)
      × ((state_of state (chosen second o (armed_disk calls a))).may_leave c → (state_of state (chosen second o a)).may_leave c)
  leaves_armed false a o c = (λ e. e, λ e. e)
  leaves_armed true a o c = (λ e. e, λ e. e)

  size_armed : (second : Bool) (a o : Stoppable D)
      → ((state_of state (chosen second (armed_disk calls a) o)).size ≡ (state_of state (chosen second a o)).size)
      × ((state_of state (chosen second o (armed_disk calls a))).size ≡ (state_of state (chosen second o a)).size)
  size_armed false a o = (refl, refl)
  size_armed true a o = (refl, refl)

  sized_armed : (s : Sessions (Stoppable D)) (size : ℕ) → AreSized (state_of state) (twin (armed s)) size → AreSized (state_of state) (twin s) size
  sized_armed s size sized =
      let same = size_armed (is_second (twin s)) (active_disk (twin s)) (other_disk (twin s)) in
      record { first = sym same.0 ∙ sized.first; second = sym same.1 ∙ sized.second }

  back_armed : (s : Sessions (Stoppable D)) (pick : ℕ) (before : Sessions (Stoppable D)) → BringsBack (state_of state) pick before s → BringsBack (state_of state) pick before (armed s)
  back_armed s pick before back = record {
    a = back.a;
    b = back.b;
    first = back.first;
    second = back.second;
    is = record {
      found = back.is.found;
      stands = back.is.stands;
      held = back.is.held;
      kept = settled_armed s back.is.found back.is.kept;
      short = back.is.short;
      extent = λ size sized. back.is.extent size (sized_armed s size sized);
      same = λ one two.
          let alone = back.is.same (subst (λ (n : ℕ). 2 * row_length back.is.found.records ≤ n) (size_armed (is_second (twin s)) (active_disk (twin s)) (other_disk (twin s))).0 one)
          (subst (λ (n : ℕ). 2 * row_length back.is.found.records ≤ n) (size_armed (is_second (twin s)) (active_disk (twin s)) (other_disk (twin s))).1 two) in (
            λ c e. alone.0 c ((leaves_armed (is_second (twin s)) (active_disk (twin s)) (other_disk (twin s)) c).0 e),
            λ c e. alone.1 c ((leaves_armed (is_second (twin s)) (active_disk (twin s)) (other_disk (twin s)) c).1 e),
          );
    };
    keeps = λ rs stands. keeps_armed s rs (back.keeps rs stands);
  }

  sessions_armed : (s : Sessions (Stoppable D)) → ArmsSessions state calls s (put_active s (armed_disk calls (active_disk (twin s))))
  sessions_armed s = record {
    keeps = keeps_armed s;
    back = back_armed s;
    left = refl;
    pair = pair_armed (is_second (twin s)) (active_disk (twin s)) (other_disk (twin s));
    extent = refl;
    known = refl;
    opening = record { managers = refl; resources = refl; found = refl };
    down = refl;
  }

  pub arms_sessions : (s : Sessions (Stoppable D)) (lent disk : Stoppable D) → lent ≡ active_disk (twin s) → below disk ≡ below lent → stop_of disk ≡ Armed calls → failures_of disk ≡ failures_of lent
      → ArmsSessions state calls s (put_active s disk)
  arms_sessions s lent disk is same stop failures =
      subst (λ d. ArmsSessions state calls s (put_active s d)) (is_armed_disk calls (active_disk (twin s)) disk (same ∙ ap below is) stop (failures ∙ ap failures_of is)) (sessions_armed s)

-- ---- what stays

module _ {D : Type 0} (state : D → DiskState) where
  same_kind_by : (old new : DiskState) → new.size ≡ old.size → new.content ≡ old.content → new.tells_moments ≡ old.tells_moments → SameKind old new
  same_kind_by old new size content moments = record { size = size; tells_images = ap is_some content; tells_moments = moments }

  pub remains_armed : (calls : ℕ) (old new : Sessions (Stoppable D)) → ArmsSessions state calls old new → Remains state old new
  remains_armed calls old new a = record {
    opening = a.opening;
    moved = record {
      own = omega (arith, a.pair.own);
      first_pick = ap (option_map (λ (c : Content). c.last_pick)) a.pair.first_content;
      second_pick = ap (option_map (λ (c : Content). c.last_pick)) a.pair.second_content;
      first_kind = same_kind_by (pair_of state old).first (pair_of state new).first a.pair.first_size a.pair.first_content a.pair.first_moments;
      second_kind = same_kind_by (pair_of state old).second (pair_of state new).second a.pair.second_size a.pair.second_content a.pair.second_moments;
    };
  }

  pub same_pair : (old new : Sessions (Stoppable D)) → SameDisks old new → pair_of state old ≡ pair_of state new
  same_pair old new same = λ i. record { first = sym (ap (state_of state) same.first) i; second = sym (ap (state_of state) same.second) i }

  pub remains_fallen : (old new : Sessions (Stoppable D)) → SameDisks old new → SameOpening old new → Remains state old new
  remains_fallen old new same opening = record {
    opening = opening;
    moved = subst (λ p. Moved (pair_of state old) p) (same_pair old new same) (record {
      own = omega arith;
      first_pick = refl;
      second_pick = refl;
      first_kind = same_kind (pair_of state old).first;
      second_kind = same_kind (pair_of state old).second;
    });
  }

  -- ---- an entry that stops it, or takes it down

  upon : (c : Coordinator D) (past : List SessionRecord) (owns : List Own) → is_down c ≡ false → StandsOver state c past owns → down_by owns ≡ false
  upon c past owns up s = sym s.disks.down ∙ up

  armed_happens : (times : Times) (past : List SessionRecord) (owns : List Own) (now calls : ℕ) → down_by owns ≡ false → still act.Armed ≡ happens (CoordinatorRole times past) owns now false false (Stopped calls)
  armed_happens times past owns now calls up = rw up refl

  crashed_happens : (times : Times) (past : List SessionRecord) (owns : List Own) (now : ℕ) → down_by owns ≡ false → still (act.Down None None) ≡ happens (CoordinatorRole times past) owns now false false Crashed
  crashed_happens times past owns now up = rw up refl

  module _ (law : (d : Stoppable D) → IsLawful (state_of state d)) (c c' : Coordinator D) (up : is_down c ≡ false) where
    module _ (calls : ℕ) (a : Arms state calls c c') where
      same_knowledge : knowledge c.table ≡ knowledge c'.table
      same_knowledge = λ i. record { retry = sym a.rest.retry i; forget = sym a.rest.forget i; memory = sym a.sessions.known i; moments = sym a.moments i }

      arm_lies : (now : ℕ) (times : Times) (past : List SessionRecord) (owns : List Own) → StandsOver state c past owns
          → LiesWith (node_state state c) (node_state state c') (CoordinatorRole times past) owns (own_entry (Stopped calls) now (still act.Armed))
      arm_lies now times past owns s start size lies =
          let upos = upon c past owns up s in (
            fits_none past start size owns (own_entry (Stopped calls) now (still act.Armed)) refl,
            lies_up (state_of state) law (sessions_of c') past start size (own_entry (Stopped calls) now (still act.Armed) ∷ owns) (a.sessions.keeps (sessions_left past owns).records (s.disks.keeps upos))
                (record { first = a.sessions.pair.first_size ∙ lies.sized.first; second = a.sessions.pair.second_size ∙ lies.sized.second }) (a.sessions.extent ∙ lies.up upos),
          )

      arm_does : (now : ℕ) → Does (node_state state c) (node_state state c') (Stopped calls) now (still act.Armed)
      arm_does now (CoordinatorRole times past) owns (same, s) = (
        armed_happens times past owns now calls (upon c past owns up s),
        (
          same ∙ ap times_in same_knowledge,
          record {
            disks = on_armed state law (sessions_of c) (sessions_of c') past owns s.disks up now calls a.sessions;
            starts = a.rest.start ∙ s.starts;
            few = subst (λ n. n ≤ MANAGERS) (sym a.sessions.opening.managers) s.few;
            follows = λ e. subst (λ k. Follows k (course past (own_entry (Stopped calls) now (still act.Armed) ∷ owns))) same_knowledge (record { tracks = (s.follows (upon c past owns up s)).tracks });
            fallen = λ e. false_true (sym (upon c past owns up s) ∙ e);
          },
        ),
        arm_lies now times past owns s,
      )
      arm_does now (Resource setup past) owns s = absurd s
      arm_does now (Manager settings) owns s = absurd s

      pub arms_by : ArmsBy state c c' calls
      arms_by =
          let remains = remains_armed calls (sessions_of c) (sessions_of c') a.sessions in record {
            does = arm_does;
            same = stays_itself state c c' remains;
            picks = same_picks state c c' remains;
            counted = a.rest.left;
            up = a.sessions.down ∙ up;
            opening = remains.opening;
          }

    -- its sessions fell, and nothing was in flight
    module _ (disks : SameDisks (sessions_of c) (sessions_of c')) (opening : SameOpening (sessions_of c) (sessions_of c')) (down : is_down c' ≡ true) where
      module _ (times : times_of c ≡ times_of c') (clock : start_of c' ≡ start_of c) (flight : c'.flight ≡ None) (count : c'.records ≡ (known (sessions_of c)).acts) where
        crash_does : (now : ℕ) → Does (node_state state c) (node_state state c') Crashed now (still (act.Down None None))
        crash_does now (CoordinatorRole role past) owns (same, s) =
            let keeps = s.disks.keeps (upon c past owns up s) in (
              crashed_happens role past owns now (upon c past owns up s),
              (
                same ∙ times,
                record {
                  disks = on_crashed state law (sessions_of c) (sessions_of c') past owns s.disks up now disks opening down;
                  starts = clock ∙ s.starts;
                  few = subst (λ n. n ≤ MANAGERS) (sym opening.managers) s.few;
                  follows = λ e. false_true (sym e);
                  fallen = λ e. record {
                    flight = flight;
                    count = count ∙ ap (λ (k : Snapshot). k.acts) keeps.knows;
                  };
                },
              ),
              λ start size lies. (
                fits_none past start size owns (own_entry Crashed now (still (act.Down None None))) refl,
                lies_crashed (state_of state) law (sessions_of c) (sessions_of c') past start size owns lies (upon c past owns up s) now keeps disks opening,
              ),
            )
        crash_does now (Resource setup past) owns s = absurd s
        crash_does now (Manager settings) owns s = absurd s

        pub crashes_by : c'.left ≡ c.left → CrashesBy state c c'
        crashes_by left =
            let remains = remains_fallen (sessions_of c) (sessions_of c') disks opening in record {
              does = crash_does;
              same = stays_itself state c c' remains;
              picks = same_picks state c c' remains;
              counted = left;
              down = down;
              opening = remains.opening;
            }
