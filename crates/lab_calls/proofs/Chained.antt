-- What a replay or a run leaves on a shelf, the next call of its scenario may begin with.
use Rattle.std.proofs.Common.{◌≡◌, ◌⊎◌, inl, inr, ◌∙◌, ◌++◌, ◌<◌, ℕ, zero, suc, IsTrue, List, [], replicate, Result, Ok, Err, refl, ap, sym, subst, append-nil, arith}
use Rattle.disk_model.specs.Disk.{DiskState}
use Rattle.disk_model.specs.Shelf.{ShelfState}
use Rattle.disk_journal.specs.Keeping.{StandsFor}
use Rattle.disk_journal.specs.Reading.{found, reading, reading_from}
use Rattle.seata_types.specs.declared.limits.TheConstants.{BODY_BYTES, SCENARIO_DISK}
use Rattle.base_records.specs.Pieces.{IsFront, records_of}
use Rattle.base_shelf.specs.Keeping.{net_name}
use Rattle.base_shelf.proofs.NetName.{nodes_hold}
use Rattle.scenario_form.specs.declared.scenarios.Scenario.{Scenario}
use Rattle.scenario_form.specs.Runnable.{IsRunnable}
use Rattle.history_rules.specs.Histories.{Moment}
use Rattle.history_rules.specs.Nodes.{Past}
use Rattle.node_seat.specs.declared.faults.RunFault.{RunFault}
use Rattle.scenario_nodes.specs.Nodes.{Held}
use Rattle.scenario_nodes.specs.Shelves.{BackTell}
use Rattle.scenario_nodes.proofs.Holding.{blank_next}
use Rattle.scenario_nodes.proofs.Returned.{back_tell_later, still}
use Rattle.replay_runner.specs.Leaving.{IsServerDisk, Showing}
use Rattle.replay_runner.specs.Leaving as replayed
use Rattle.thread_runner.specs.Running as ran
use Rattle.chain_law.specs.Chained.{CallsGoOn, ChainsStay, IsAfter, StaysAfter}
use Rattle.lab_calls.specs.declared.played.Played.{Played}
use Rattle.lab_calls.specs.Chained.{CallsStayKept, KeptCallsGoOn, NewBeginKept, NewNetHoldsNone, NoneAreFirst}
use Rattle.lab_calls.specs.Over.{EndsOver}
use Rattle.lab_calls.proofs.Kept.{has_base}

-- ---- first records of a text

all_front : (text : List ℕ) → IsFront BODY_BYTES (records_of BODY_BYTES text) text
all_front text = record { missing = []; whole = append-nil (records_of BODY_BYTES text) }

more_front : (text : List ℕ) (rs more : List (List ℕ)) → IsFront BODY_BYTES rs text → (more ≡ []) ⊎ IsFront BODY_BYTES (rs ++ more) text → IsFront BODY_BYTES (rs ++ more) text
more_front text rs more front (inl none) = subst (λ (them : List (List ℕ)). IsFront BODY_BYTES them text) (sym (ap (λ (them : List (List ℕ)). rs ++ them) none ∙ append-nil rs)) front
more_front text rs more front (inr longer) = longer

-- ---- calls

module _ {D S : Type 0} (Shows : Scenario → Held → Showing) (state : D → DiskState) (seen : S → ShelfState D) (go : CallsGoOn state seen) (any : ChainsStay state seen Shows) where
  over_stays : (old new : S) (s : Scenario) (ended : Result Played RunFault) → IsRunnable s → EndsOver (Shows s) state seen old new s ended → BackTell state (seen old) (seen new) → IsTrue (seen new).tells
      → (chain : List (Past × List Moment)) (held : Held) → IsAfter state (seen old) s chain held → StaysAfter state (seen new) s chain
  over_stays old new s (Ok p) runs ends all tells chain held after = any old new s (Ok p.history) runs (inl ends.0) all tells chain held after
  over_stays old new s (Err missed) runs (inl g) all tells chain held after = any old new s (Err missed) runs (inl g.0) all tells chain held after
  over_stays old new s (Err missed) runs (inr (inl u)) all tells chain held after = any old new s (Err missed) runs (inr (λ some. inl (u.refused some))) all tells chain held after
  over_stays old new s (Err missed) runs (inr (inr n)) all tells chain held after =
      any n.between new s (Err missed) runs (inr n.refused) (back_tell_later state (IsServerDisk s) (seen old) (seen n.between) (seen new) n.keeps all) tells chain held (go.still old n.between s n.still chain held after)

  stay_kept : CallsStayKept state seen Shows
  stay_kept old new s ended runs (inl k) all tells chain held before =
      let to_mid = still (seen old).tells (seen k.between).tells k.kept.keeps.tells tells in
      let to_new = still (seen k.between).tells (seen new).tells k.keeps.tells to_mid in
      let stays = over_stays k.between new s ended runs k.ends (back_tell_later state (λ n. n ≡ net_name) (seen old) (seen k.between) (seen new) k.kept.keeps all) to_new chain held (go.still old k.between s k.still chain held before.after) in
      let base = has_base (Shows s) state seen s old new ended k in
      let h = base.next (all net_name base.disk base.back) tells in
      record {
        longer = stays.longer;
        is = stays.is;
        held = stays.held;
        kept = record {
          after = stays.after;
          records = records_of BODY_BYTES s.base;
          net = h;
          front = all_front s.base;
        };
      }
  stay_kept old new s (Ok p) runs (inr none) all tells chain held before = absurd none
  stay_kept old new s (Err missed) runs (inr k) all tells chain held before =
      let m = k.next tells before.records before.net in
      record {
        longer = chain;
        is = inl refl;
        held = held;
        kept = record {
          after = go.still old new s (nodes_hold state s (seen old) (seen new) runs k.keeps) chain held before.after;
          records = before.records ++ m.stand.more;
          net = record { bytes = m.bytes; next = m.next; stand = m.stand.stand };
          front = more_front s.base before.records m.stand.more before.front m.stand.front;
        };
      }

module _ {D S : Type 0} (state : D → DiskState) (seen : S → ShelfState D) (go : CallsGoOn state seen) where
  pub kept_calls_go_on : KeptCallsGoOn state seen
  kept_calls_go_on = record {
    replay = stay_kept replayed.Leaves state seen go go.any_replay;
    run = stay_kept ran.Leaves state seen go go.any_run;
    schedule = λ shelf s chain held before stops schedule.
        record { after = go.schedule shelf s chain held before.after stops schedule; records = before.records; net = before.net; front = before.front };
  }

-- ---- the first call

-- zero bytes stand for no records: the first gate is closed
zeros_stand : (n : ℕ) → 0 < n → StandsFor 0 [] (replicate n 0)
unfolding reading reading_from found
zeros_stand zero some = absurd (omega (arith, some))
zeros_stand (suc n) some = refl

pub none_are_first : NoneAreFirst
none_are_first text = record { missing = records_of BODY_BYTES text; whole = refl }

module _ {D S : Type 0} (state : D → DiskState) (seen : S → ShelfState D) where
  pub new_net_holds_none : NewNetHoldsNone state seen
  new_net_holds_none shelf blanks unused = record {
    bytes = replicate SCENARIO_DISK 0;
    next = blank_next state (seen shelf) SCENARIO_DISK blanks net_name unused;
    stand = zeros_stand SCENARIO_DISK (omega arith);
  }

  pub new_begin_kept : CallsGoOn state seen → NewBeginKept state seen
  new_begin_kept go shelf s runs blanks nodes blank_net net =
      record { after = go.first shelf s runs blanks nodes; records = []; net = new_net_holds_none shelf blank_net net; front = none_are_first s.base }
