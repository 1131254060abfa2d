-- Replays and runs, whose disks the next call may begin with.
use Rattle.std.proofs.Common.{◌≡◌, inl, inr, ◌+◌, ℕ, IsTrue, List, [], ◌∷◌, map, Result, Ok, Err, refl, ap, sym, subst}
use Rattle.std.specs.List.{AllByRecursion}
use Rattle.disk_model.specs.Disk.{DiskState, IsLawful}
use Rattle.disk_model.specs.Shelf.{ShelfState}
use Rattle.seata_types.specs.declared.ids.Place.{Place}
use Rattle.scenario_form.specs.declared.scenarios.ResourceDef.{ResourceDef}
use Rattle.scenario_form.specs.declared.scenarios.Scenario.{Scenario}
use Rattle.scenario_form.specs.declared.scenarios.ScheduleItem.{ScheduleItem}
use Rattle.scenario_form.specs.Runnable.{IsRunnable}
use Rattle.journal_checkpoint.specs.Images.{Pair}
use Rattle.history_rules.specs.Chains.{IsChain}
use Rattle.history_rules.specs.Histories.{Legal, Moment}
use Rattle.history_rules.specs.Nodes.{Past, World}
use Rattle.history_law.specs.ChainSafety.{MayFollow}
use Rattle.history_rules.specs.ResourceMemory.{Setup}
use Rattle.history_text.specs.declared.entries.Entry.{Entry}
use Rattle.history_text.specs.Worlds.{resources_from, resources_of, setup_of, world_of}
use Rattle.node_seat.specs.declared.faults.RunFault.{RunFault}
use Rattle.scenario_nodes.specs.Nodes.{Held, HoldAll, Holds, Server, resource_server, servers_of}
use Rattle.scenario_nodes.specs.Reading.{GivesStill}
use Rattle.scenario_nodes.specs.Shelves.{BackTell, pair_of, second_name}
use Rattle.scenario_nodes.specs.Together.{numbered}
use Rattle.scenario_nodes.proofs.Holding.{unused_hold}
use Rattle.replay_runner.specs.Leaving.{EndsAtOpening, GivesBack, Showing}
use Rattle.replay_runner.specs.Leaving as replayed
use Rattle.thread_runner.specs.Running as ran
use Rattle.chain_law.specs.Chained.{CallsGoOn, ChainsGrow, ChainsStay, GoesOn, IsAfter, ReplaysAreChained, StaysAfter, RunsAreChained, ran_history, replayed_history, with_schedule}
use Rattle.chain_law.proofs.Going.{goes_on}
use Rattle.chain_law.proofs.Unopened.{after_opening}

module _ {D S : Type 0} (state : D → DiskState) (seen : S → ShelfState D) (lawful : (d : D) → IsLawful (state d)) where
  module _ (old new : ShelfState D) (s : Scenario) (runs : IsRunnable s) (all : BackTell state old new) (tells : IsTrue new.tells) (held : Held) (holds : HoldAll state old s held) where
    replay_on : (result : Result (List Entry) RunFault) (g : GivesBack (replayed.Leaves s) state old new s result) (left : replayed.Leaves s held (map (pair_of state) g.disks) result)
        → GoesOn state new s held (replayed_history s held (map (pair_of state) g.disks) result left)
    replay_on (Ok es) g left = goes_on state lawful s runs held old new all tells holds left.history left.is_run.legal g.disks g.back left.opens
    replay_on (Err missed) g left = goes_on state lawful s runs held old new all tells holds left.history left.legal g.disks g.back left.opens

    run_on : (result : Result (List Entry) RunFault) (g : GivesBack (ran.Leaves s) state old new s result) (left : ran.Leaves s held (map (pair_of state) g.disks) result)
        → GoesOn state new s held (ran_history s held (map (pair_of state) g.disks) result left)
    run_on (Ok es) g left = goes_on state lawful s runs held old new all tells holds left.history left.is_run.legal g.disks g.back left.opens
    run_on (Err missed) g left = goes_on state lawful s runs held old new all tells holds left.history left.is_run.legal g.disks g.back left.opens

  pub replays_chained : ReplaysAreChained state seen
  replays_chained old new s result runs g all tells held holds = replay_on (seen old) (seen new) s runs all tells held holds result g (g.leaves held holds)

  pub runs_chained : RunsAreChained state seen
  runs_chained old new s result runs g all tells held holds = run_on (seen old) (seen new) s runs all tells held holds result g (g.leaves held holds)

-- ---- another schedule

module _ (s : Scenario) (stops : List (Place × ℕ × ℕ)) (schedule : List ScheduleItem) where
  same_from : (n : ℕ) (defs : List ResourceDef) → resources_from (with_schedule s stops schedule) n defs ≡ resources_from s n defs
  same_from n [] = refl
  same_from n (def ∷ defs) = ap (λ (rest : List Setup). setup_of s n def ∷ rest) (same_from (n + 1) defs)

  same_resources : resources_of (with_schedule s stops schedule) ≡ resources_of s
  unfolding resources_of
  same_resources = same_from 1 s.resources

  pub same_world : world_of (with_schedule s stops schedule) ≡ world_of s
  same_world = ap (λ (rs : List Setup). record (world_of s) { resources = rs }) same_resources

-- the disks of its nodes hold the same
module _ {D : Type 0} (state : D → DiskState) (shelf : ShelfState D) (s : Scenario) (stops : List (Place × ℕ × ℕ)) (schedule : List ScheduleItem) (held : Held) where
  each_hold : (defs : List (ℕ × ResourceDef)) → AllByRecursion (Holds state shelf s) (map (resource_server s held) defs)
      → AllByRecursion (Holds state shelf (with_schedule s stops schedule)) (map (resource_server (with_schedule s stops schedule) held) defs)
  each_hold [] holds = tt
  each_hold (def ∷ defs) holds = (record { first = holds.0.first; second = holds.0.second; next = holds.0.next; stand = holds.0.stand }, each_hold defs holds.1)

  all_hold : HoldAll state shelf s held → HoldAll state shelf (with_schedule s stops schedule) held
  all_hold holds = (record { first = holds.0.first; second = holds.0.second; next = holds.0.next; stand = holds.0.stand }, each_hold (numbered 1 s.resources) holds.1)

  after_schedule : (chain : List (Past × List Moment)) → IsAfter state shelf s chain held → IsAfter state shelf (with_schedule s stops schedule) chain held
  after_schedule chain after = record {
    is_chain = subst (λ (w : World). IsChain w chain) (sym (same_world s stops schedule)) after.is_chain;
    hold = all_hold after.hold;
    follows = subst (λ (w : World). MayFollow w chain held.past) (sym (same_world s stops schedule)) after.follows;
  }

-- ---- disks that were read and given back

module _ {D : Type 0} (state : D → DiskState) (s : Scenario) (old new : ShelfState D) (still : GivesStill state s.disk old new) where
  still_holds : (vs : List Server) → AllByRecursion (Holds state old s) vs → AllByRecursion (Holds state new s) vs
  still_holds [] holds = tt
  still_holds (v ∷ vs) holds = (
    record {
      first = holds.0.first;
      second = holds.0.second;
      next = record { first = still.next v.name holds.0.first holds.0.next.first; second = still.next (second_name v.name) holds.0.second holds.0.next.second };
      stand = holds.0.stand;
    },
    still_holds vs holds.1,
  )

  after_reading : (chain : List (Past × List Moment)) (held : Held) → IsAfter state old s chain held → IsAfter state new s chain held
  after_reading chain held after = record { is_chain = after.is_chain; hold = still_holds (servers_of s held) after.hold; follows = after.follows }

-- ---- calls in a row

-- a history over what a chain may leave makes it longer
is_longer : (w : World) (past : Past) (ms : List Moment) (chain : List (Past × List Moment)) → IsChain w chain → MayFollow w chain past → Legal w past ms → IsChain w ((past, ms) ∷ chain)
is_longer w past ms [] chain follows legal = (follows, legal)
is_longer w past ms ((before, es) ∷ rest) chain follows legal = (chain, follows, legal)

-- what a replay made is legal, and what a run made
replay_legal : (s : Scenario) (held : Held) (disks : List Pair) (result : Result (List Entry) RunFault) (left : replayed.Leaves s held disks result)
    → Legal (world_of s) held.past (replayed_history s held disks result left)
replay_legal s held disks (Ok es) left = left.is_run.legal
replay_legal s held disks (Err missed) left = left.legal

run_legal : (s : Scenario) (held : Held) (disks : List Pair) (result : Result (List Entry) RunFault) (left : ran.Leaves s held disks result)
    → Legal (world_of s) held.past (ran_history s held disks result left)
run_legal s held disks (Ok es) left = left.is_run.legal
run_legal s held disks (Err missed) left = left.is_run.legal

module _ {D : Type 0} (state : D → DiskState) (old new : ShelfState D) (s : Scenario) (chain : List (Past × List Moment)) (held : Held) (after : IsAfter state old s chain held) where
  grows : (ms : List Moment) → Legal (world_of s) held.past ms → GoesOn state new s held ms → (next : Held) × IsAfter state new s ((held.past, ms) ∷ chain) next
  grows ms legal on = (on.next, record { is_chain = is_longer (world_of s) held.past ms chain after.is_chain after.follows legal; hold = on.hold; follows = on.follows })

module _ {D S : Type 0} (state : D → DiskState) (seen : S → ShelfState D) (lawful : (d : D) → IsLawful (state d)) where
  replays_grow : ChainsGrow state seen replayed.Leaves replayed_history
  replays_grow old new s result runs g all tells chain held after =
      let left = g.leaves held after.hold in
      grows state (seen old) (seen new) s chain held after (replayed_history s held (map (pair_of state) g.disks) result left) (replay_legal s held (map (pair_of state) g.disks) result left)
      (replays_chained state seen lawful old new s result runs g all tells held after.hold)

  runs_grow : ChainsGrow state seen ran.Leaves ran_history
  runs_grow old new s result runs g all tells chain held after =
      let left = g.leaves held after.hold in
      grows state (seen old) (seen new) s chain held after (ran_history s held (map (pair_of state) g.disks) result left) (run_legal s held (map (pair_of state) g.disks) result left)
      (runs_chained state seen lawful old new s result runs g all tells held after.hold)

  -- however they end
  unopened_stays : (old new : S) (s : Scenario) (result : Result (List Entry) RunFault) → EndsAtOpening state (seen old) (seen new) s result → BackTell state (seen old) (seen new) → IsTrue (seen new).tells
      → (chain : List (Past × List Moment)) (held : Held) → IsAfter state (seen old) s chain held → StaysAfter state (seen new) s chain
  unopened_stays old new s (Ok es) none all tells chain held after = absurd none
  unopened_stays old new s (Err missed) refused all tells chain held after =
      let (next, is) = after_opening state lawful s (seen old) (seen new) all tells missed refused chain held after in
      record { longer = chain; is = inl refl; held = next; after = is }

  stay : (Shows : Scenario → Held → Showing) (history : (s : Scenario) (held : Held) (disks : List Pair) (result : Result (List Entry) RunFault) → Shows s held disks result → List Moment)
      → ChainsGrow state seen Shows history → ChainsStay state seen Shows
  stay Shows history grow old new s result runs (inl g) all tells chain held after =
      let made = history s held (map (pair_of state) g.disks) result (g.leaves held after.hold) in
      let (next, is) = grow old new s result runs g all tells chain held after in
      record { longer = (held.past, made) ∷ chain; is = inr (held.past, made, refl); held = next; after = is }
  stay Shows history grow old new s result runs (inr refused) all tells chain held after = unopened_stays old new s result refused all tells chain held after

  pub calls_go_on : CallsGoOn state seen
  calls_go_on = record {
    first = λ shelf s runs blanks unused. record {
      is_chain = tt;
      hold = unused_hold state (seen shelf) s runs blanks unused;
      follows = record { sessions = refl; resources = λ n. (0, refl) };
    };
    replay = replays_grow;
    run = runs_grow;
    any_replay = stay replayed.Leaves replayed_history replays_grow;
    any_run = stay ran.Leaves ran_history runs_grow;
    schedule = λ shelf s chain held after stops schedule. after_schedule state (seen shelf) s stops schedule held chain after;
    reading = λ old new s still chain held after. after_reading state s (seen old) (seen new) still chain held after;
    still = λ old new s still chain held after. record { is_chain = after.is_chain; hold = still held after.hold; follows = after.follows };
    unopened = λ old new s missed refused all tells chain held after. after_opening state lawful s (seen old) (seen new) all tells missed refused chain held after;
  }
