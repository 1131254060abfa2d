-- A replay or a run, after the text of its scenario was kept on the disk `net`.
use Rattle.std.proofs.Common.{◌≡◌, ◌⊎◌, ⊎_elim, inl, inr, ◌+◌, ◌++◌, ℕ, IsTrue, true, List, [], ◌∷◌, map, Result, Ok, Err, refl, ap, sym, subst, ◌∙◌, arith}
use Rattle.std.specs.List.{AllByRecursion}
use Rattle.disk_model.specs.Disk.{DiskState, Rose}
use Rattle.disk_model.specs.Shelf.{KeepsOthers, SameUnder, ShelfState}
use Rattle.seata_types.specs.declared.limits.TheConstants.{BODY_BYTES, SCENARIO_DISK}
use Rattle.seata_types.specs.declared.errors.Full.{Full}
use Rattle.seata_types.specs.declared.ids.Place.{Place}
use Rattle.seata_types.specs.declared.ids.Place.TheVariants as place
use Rattle.base_records.specs.Pieces.{IsFront}
use Rattle.base_disk.specs.Keeping.{LacksRoom}
use Rattle.base_shelf.specs.Keeping.{HoldsBase, IsNetBack, IsNoNet, KeepsBase, net_name}
use Rattle.base_shelf.proofs.NetName.{nodes_away}
use Rattle.scenario_form.specs.declared.scenarios.Scenario.{Scenario}
use Rattle.scenario_form.specs.declared.scenarios.ResourceDef.{ResourceDef}
use Rattle.scenario_form.specs.Runnable.{IsRunnable, resource_name}
use Rattle.node_seat.specs.declared.faults.RunFault.{RunFault}
use Rattle.node_seat.specs.declared.faults.RunFault.TheVariants as run_fault
use Rattle.scenario_nodes.specs.Nodes.{Held, HoldAll, Holds, Server, coordinator_server, none_held, resource_server, servers_of}
use Rattle.scenario_nodes.specs.Opening.{AreNotOpened, IsShelfFault}
use Rattle.scenario_nodes.specs.Reading.{HoldStill, IsReadFault, IsSound}
use Rattle.scenario_nodes.specs.Shelves.{IsDiskName, IsGivenIn, second_name}
use Rattle.scenario_nodes.specs.Together.{IsOfOne, numbered}
use Rattle.scenario_nodes.proofs.Returned.{are_next_since, is_next_since, still}
use Rattle.scenario_nodes.proofs.Together.{all_behind}
use Rattle.replay_runner.specs.Leaving.{IsCalmEnd, IsCalmShelf, IsServerDisk, Showing}
use Rattle.replay_runner.proofs.Calm.{NeverDamaged}
use Rattle.lab_calls.specs.declared.played.Played.{Played}
use Rattle.lab_calls.specs.Answers.{IsEndText, ended_status, is_among, status_of}
use Rattle.lab_calls.specs.Kept.{EndsKept, HasBase, IsCalmNet, PlaysKept}
use Rattle.lab_calls.specs.Once.{TellsBase, TellsSound}
use Rattle.lab_calls.specs.Over.{AllSound, EndsOver, entries_of}
use Rattle.lab_calls.proofs.Concluded.{false_true}
use Rattle.lab_calls.proofs.Over.{given_over, over_calmly}

-- ---- the disk of the text

-- a disk that was given back is there still
given_still : {D : Type 0} (Others : List ℕ → Type 0) (old mid new : ShelfState D) (name : List ℕ) (disk : D) → SameUnder name mid new → KeepsOthers Others mid new → IsGivenIn old mid name disk → IsGivenIn old new name disk
given_still Others old mid new name disk same keeps given = record {
  back = record {
    given = λ told. (same disk).1 (given.back.given (still new.tells mid.tells (sym keeps.tells) told));
    only = λ d there. given.back.only d ((same d).0 there);
  };
  counted = λ told. let rose = given.counted told in let more = keeps.gives name in omega (arith, rose, more);
}

-- the disks of the nodes weren't damaged before either
module _ {D : Type 0} (state : D → DiskState) (s : Scenario) (old mid : ShelfState D) where
  one_sound : (v : Server) → ((n : List ℕ) → IsDiskName v.name n → SameUnder n old mid) → IsSound state mid s v → IsSound state old s v
  one_sound v same sound a b next = sound a b (are_next_since state s.disk v.name a b old mid (same v.name (inl refl)) (same (second_name v.name) (inr refl)) next)

  resources_sound : (held : Held) (k : ℕ) (defs : List ResourceDef) → ((n : List ℕ) → IsOfOne (map resource_name defs) n → SameUnder n old mid)
      → AllByRecursion (IsSound state mid s) (map (resource_server s held) (numbered k defs)) → AllByRecursion (IsSound state old s) (map (resource_server s held) (numbered k defs))
  resources_sound held k [] same sound = tt
  resources_sound held k (def ∷ defs) same sound = (
    one_sound (resource_server s held (k, def)) (λ n its. same n (inl its)) sound.0,
    resources_sound held (k + 1) defs (λ n its. same n (inr its)) sound.1,
  )

  sound_before : ((n : List ℕ) → IsServerDisk s n → SameUnder n old mid) → AllSound state mid s → AllSound state old s
  sound_before same sound held = (
    one_sound (coordinator_server s held) (λ n its. same n (inl its)) (sound held).0,
    resources_sound held 1 s.resources (λ n its. same n (inr its)) (sound held).1,
  )

module _ {D S : Type 0} (Shows : Held → Showing) (state : D → DiskState) (seen : S → ShelfState D) (s : Scenario) where
  pub kept_over : (old mid new : S) → IsRunnable s → KeepsBase state s.base (seen old) (seen mid) (Ok tt) → HoldStill state s (seen old) (seen mid) → (ended : Result Played RunFault) → EndsOver Shows state seen mid new s ended
      → KeepsOthers (IsServerDisk s) (seen mid) (seen new) → EndsKept Shows state seen old new s ended
  kept_over old mid new runs kept holds ended ends keeps = inl (record {
    between = mid;
    kept = kept;
    still = holds;
    same = λ name its. kept.keeps.others name (nodes_away s runs name its);
    ends = ends;
    stays = keeps.others net_name (λ its. nodes_away s runs net_name its refl);
    keeps = keeps;
  })

  module _ (old new : S) where
    -- what was made behind the text was made on the disks that the shelf gave before
    pub done_kept : (p : Played) → (k : PlaysKept Shows state seen old new s (Ok p)) → EndsOver Shows state seen old new s (Ok p)
    done_kept p k = (
      given_over (λ n. n ≡ net_name) Shows state s (seen old) (seen k.between) (seen new) (Ok p.history) k.still k.kept.keeps k.ends.0,
      λ held had. k.ends.1 held (k.still held had),
      sound_before state s (seen old) (seen k.between) k.same k.ends.2,
    )

    pub has_base : (ended : Result Played RunFault) → PlaysKept Shows state seen old new s ended → HasBase state (seen old) (seen new) s
    has_base ended k = by k.kept.net
      where
        mid : ShelfState D
        mid = seen k.between

        by : IsNetBack state s.base (seen old) mid (Ok tt) ⊎ IsNoNet (seen old) mid (Ok tt) → HasBase state (seen old) (seen new) s
        by (inl b) = record {
          disk = b.disk;
          back = given_still (IsServerDisk s) (seen old) mid (seen new) net_name b.disk k.stays k.keeps b.back;
          whole = b.whole;
          next = λ content told.
              let h = b.kept content told in
              record { bytes = h.bytes; next = is_next_since state SCENARIO_DISK net_name h.bytes mid (seen new) k.stays h.next; stand = h.stand };
        }
        by (inr n) = absurd (let no : Ok tt ≡ Err n.missed = n.is in cc)

-- ---- where nothing fails

abbrev fault_in : Result (Unit {0}) RunFault → RunFault
fault_in (Ok done) = run_fault.NoMemory
fault_in (Err missed) = missed

module _ {D : Type 0} (state : D → DiskState) (text : List ℕ) (old new : ShelfState D) (tells : IsTrue new.tells) (shelf : ¬ Rose old.faults new.faults) (calm : IsCalmNet state old new text) where
  no_fault : (at : _) → IsNetBack state text old new (Err (run_fault.Store at)) ⊎ IsNoNet old new (Err (run_fault.Store at)) → ⊥
  no_fault at (inl b) = let none = calm.disks b.disk (b.back.back.given tells) in let some = b.cause.1 in omega (arith, none, some)
  no_fault at (inr n) = not_had n.missed (ap fault_in n.is) n.cause
    where
      not_had : (missed : RunFault) → run_fault.Store at ≡ missed → IsShelfFault place.Net old new missed → ⊥
      not_had (run_fault.Store p) is cause = shelf cause.1
      not_had run_fault.NoMemory is cause = cc
      not_had (run_fault.Full p full) is cause = cause
      not_had (run_fault.Damaged p second offset) is cause = cause
      not_had run_fault.Other is cause = cause

  unkept_calmly : (missed : RunFault) → KeepsBase state text old new (Err missed) → IsCalmEnd (Err missed)
  unkept_calmly (run_fault.Store at) k = no_fault at k.net
  unkept_calmly (run_fault.Full at full) k = tt
  unkept_calmly (run_fault.Damaged at second offset) k = k.answers calm.records calm.holds
  unkept_calmly run_fault.Other k = k.answers calm.records calm.holds calm.front
  unkept_calmly run_fault.NoMemory k = tt

module _ {D S : Type 0} (Shows : Held → Showing) (state : D → DiskState) (seen : S → ShelfState D) (s : Scenario) (old new : S) (held : Held) (never : NeverDamaged (Shows held)) (holds : HoldAll state (seen old) s held) where
  pub kept_calmly : (ended : Result Played RunFault) → EndsKept Shows state seen old new s ended → (seen new).tells ≡ (seen old).tells → IsCalmShelf state s (seen old) (seen new) → IsCalmNet state (seen old) (seen new) s.base
      → IsCalmEnd (entries_of ended)
  kept_calmly ended (inl k) same calm net =
      over_calmly Shows state seen s k.between new held never (k.still held holds) k.keeps.tells ended k.ends
      (record {
        tells = still (seen old).tells (seen k.between).tells k.kept.keeps.tells calm.tells;
        shelf = λ rose. calm.shelf (let faults = k.kept.keeps.faults in omega (arith, rose, faults));
        disks = calm.disks;
      })
  kept_calmly (Ok p) (inr none) same calm net = absurd none
  kept_calmly (Err missed) (inr u) same calm net = unkept_calmly state s.base (seen old) (seen new) (still (seen old).tells (seen new).tells same calm.tells) calm.shelf net missed u

-- ---- the records that it held

-- disks that hold the records of their nodes are of no other scenario
module _ {D : Type 0} (state : D → DiskState) (s : Scenario) (held : Held) (old new : ShelfState D) (holds : HoldAll state old s held) where
  holds_at : (before behind servers : List Server) (v : Server) → servers ≡ before ++ v ∷ behind → AllByRecursion (Holds state old s) servers → Holds state old s v
  holds_at before behind servers v is each = (all_behind (Holds state old s) before (v ∷ behind) (subst (AllByRecursion (Holds state old s)) is each)).0

  not_other : AreNotOpened state s (servers_of s held) old new run_fault.Other → ⊥
  not_other (inl t) = ⊎_elim (λ n. n.cause) (λ b. b.shows.cause (holds_at t.before t.behind (servers_of s held) t.server t.all holds)) t.refused
  not_other (inr t) = (t.refused.unopened (holds_at t.before t.behind (servers_of s held) t.server t.all holds)).cause

module _ {D S : Type 0} (Shows : Held → Showing) (state : D → DiskState) (seen : S → ShelfState D) (s : Scenario) (held : Held) (never : NeverDamaged (Shows held)) where
  pub never_other : (old new : S) → HoldAll state (seen old) s held → EndsOver Shows state seen old new s (Err run_fault.Other) → ⊥
  never_other old new holds (inl g) = never.other _ (g.0.leaves held holds)
  never_other old new holds (inr (inl u)) = u.cause held
  never_other old new holds (inr (inr n)) = not_other state s held (seen n.between) (seen new) (n.still held holds) (n.refused held)

  module _ (old new : S) (holds : HoldAll state (seen old) s held) (records : List (List ℕ)) (had : HoldsBase state (seen old) records) where
    kept_base : (ended : Result Played RunFault) (text : List ℕ) (n : ℕ) → PlaysKept Shows state seen old new s ended → IsEndText s ended text n → TellsBase n s.base records
    kept_base (Ok p) text n k t = record { front = λ _. k.kept.answers records had; other = λ three. absurd (let zero = t.0 in omega (arith, zero, three)) }
    kept_base (Err missed) text n k t = record { front = λ _. k.kept.answers records had; other = λ three. by missed k.ends (sym t.1 ∙ three) }
      where
        by : (why : RunFault) → EndsOver Shows state seen k.between new s (Err why) → status_of why ≡ 3 → IsFront BODY_BYTES records s.base → ⊥
        by run_fault.Other ends three front = never_other k.between new (k.still held holds) ends
        by (run_fault.Store at) ends three front = cc
        by (run_fault.Full at full) ends three front = cc
        by (run_fault.Damaged at second offset) ends three front = cc
        by run_fault.NoMemory ends three front = cc

    unkept_base : (missed : RunFault) (text : List ℕ) (n : ℕ) → KeepsBase state s.base (seen old) (seen new) (Err missed) → IsEndText s (Err missed) text n → TellsBase n s.base records
    unkept_base (run_fault.Full at full) text n k t = record { front = λ _. k.answers records had; other = λ three. absurd (let eight = t.1 in omega (arith, eight, three)) }
    unkept_base (run_fault.Damaged at second offset) text n k t = absurd (k.answers records had)
    unkept_base run_fault.Other text n k t = record { front = λ known. false_true (rw t.1 at known); other = λ _. k.answers records had }
    unkept_base (run_fault.Store at) text n k t = record { front = λ known. false_true (rw t.1 at known); other = λ three. absurd (let seven = t.1 in omega (arith, seven, three)) }
    unkept_base run_fault.NoMemory text n k t = absurd (t.0 refl)

    pub tells_base : (ended : Result Played RunFault) (text : List ℕ) (n : ℕ) → EndsKept Shows state seen old new s ended → IsEndText s ended text n → TellsBase n s.base records
    tells_base ended text n (inl k) t = kept_base ended text n k t
    tells_base (Ok p) text n (inr none) t = absurd none
    tells_base (Err missed) text n (inr k) t = unkept_base missed text n k t

-- ---- damaged bytes

-- a reading never ends with a status where no disk failed
read_never : (servers : List Server) (missed : RunFault) → IsReadFault servers missed → is_among (0 ∷ 3 ∷ 8 ∷ []) (status_of missed) ≡ true → ⊥
read_never servers (run_fault.Store at) cause known = false_true known
read_never servers (run_fault.Full at full) cause known = cause
read_never servers (run_fault.Damaged at second offset) cause known = false_true known
read_never servers run_fault.Other cause known = cause
read_never servers run_fault.NoMemory cause known = false_true known

module _ {D S : Type 0} (Shows : Held → Showing) (state : D → DiskState) (seen : S → ShelfState D) (s : Scenario) where
  over_sound : (old new : S) (ended : Result Played RunFault) → EndsOver Shows state seen old new s ended → is_among (0 ∷ 3 ∷ 8 ∷ []) (ended_status ended) ≡ true → AllSound state (seen old) s
  over_sound old new (Ok p) ends known = ends.2
  over_sound old new (Err missed) (inl g) known = g.1
  over_sound old new (Err missed) (inr (inl u)) known = absurd (read_never (servers_of s none_held) missed (u.cause none_held) known)
  over_sound old new (Err missed) (inr (inr n)) known = n.sound

  module _ (old new : S) where
    status_is : (ended : Result Played RunFault) (text : List ℕ) (n : ℕ) → IsEndText s ended text n → n ≡ ended_status ended
    status_is (Ok p) text n t = t.0
    status_is (Err missed) text n t = t.1

    kept_sound : (ended : Result Played RunFault) (text : List ℕ) (n : ℕ) → PlaysKept Shows state seen old new s ended → IsEndText s ended text n → is_among (0 ∷ 3 ∷ 8 ∷ []) n ≡ true
        → TellsSound state (seen old) n s
    kept_sound ended text n k t known = record {
      net = λ bytes is. let first = k.kept.tells bytes is in (first.records, first.stand);
      nodes = inl (sound_before state s (seen old) (seen k.between) k.same
          (over_sound k.between new ended k.ends (subst (λ m. is_among (0 ∷ 3 ∷ 8 ∷ []) m ≡ true) (status_is ended text n t) known)));
    }

    -- the text had no room
    no_room : (at : Place) (full : Full) → IsNetBack state s.base (seen old) (seen new) (Err (run_fault.Full at full)) ⊎ IsNoNet (seen old) (seen new) (Err (run_fault.Full at full)) → LacksRoom s.base SCENARIO_DISK full
    no_room at full (inl b) = b.cause.1
    no_room at full (inr n) = absurd (not_had n.missed (ap fault_in n.is) n.cause)
      where
        not_had : (missed : RunFault) → run_fault.Full at full ≡ missed → IsShelfFault place.Net (seen old) (seen new) missed → ⊥
        not_had (run_fault.Store p) is cause = cc
        not_had run_fault.NoMemory is cause = cc
        not_had (run_fault.Full p more) is cause = cause
        not_had (run_fault.Damaged p second offset) is cause = cause
        not_had run_fault.Other is cause = cause

    unkept_sound : (missed : RunFault) (text : List ℕ) (n : ℕ) → KeepsBase state s.base (seen old) (seen new) (Err missed) → IsEndText s (Err missed) text n → is_among (0 ∷ 3 ∷ 8 ∷ []) n ≡ true
        → TellsSound state (seen old) n s
    unkept_sound (run_fault.Full at full) text n k t known = record {
      net = λ bytes is. let first = k.tells bytes is in (first.records, first.stand);
      nodes = inr (inr (t.1, (full, no_room at full k.net)));
    }
    unkept_sound run_fault.Other text n k t known = record {
      net = λ bytes is. let others = k.tells bytes is in (others.records, others.stand);
      nodes = inr (inl (t.1, λ records had. k.answers records had));
    }
    unkept_sound (run_fault.Store at) text n k t known = false_true (rw t.1 at known)
    unkept_sound (run_fault.Damaged at second offset) text n k t known = false_true (rw t.1 at known)
    unkept_sound run_fault.NoMemory text n k t known = absurd (t.0 refl)

    pub tells_sound : (ended : Result Played RunFault) (text : List ℕ) (n : ℕ) → EndsKept Shows state seen old new s ended → IsEndText s ended text n → is_among (0 ∷ 3 ∷ 8 ∷ []) n ≡ true → TellsSound state (seen old) n s
    tells_sound ended text n (inl k) t known = kept_sound ended text n k t known
    tells_sound (Ok p) text n (inr none) t known = absurd none
    tells_sound (Err missed) text n (inr k) t known = unkept_sound missed text n k t known
