-- How a replay ends, by the disks that are given back.
use Rattle.std.proofs.Common.{inl, inr, ◌≡◌, ◌+◌, ◌≤◌, ◌<◌, List, [], ◌∷◌, length, slice_get, Option, Some, None, Result, Ok, Err, IfErr, refl, subst, arith}
use Rattle.std.proofs.lemmas.Option.{slice_get_within}
use Rattle.disk_model.specs.Disk.{DiskState}
use Rattle.disk_model.specs.Shelf.{ShelfState}
use Rattle.scenario_form.specs.declared.scenarios.Scenario.{Scenario}
use Rattle.scenario_form.specs.Runnable.{IsRunnable}
use Rattle.history_rules.specs.Nodes.{Past, World}
use Rattle.history_rules.specs.Histories.{Moment, own}
use Rattle.history_rules.specs.Schedules.{Follows, IsStep, Item, singles}
use Rattle.history_law.specs.MessageSafety.{AreOfResources}
use Rattle.history_text.specs.declared.entries.Entry.{Entry}
use Rattle.history_text.specs.History.{entries}
use Rattle.history_text.specs.Worlds.{items_of, world_of}
use Rattle.node_seat.specs.declared.faults.RunFault.{RunFault}
use Rattle.node_seat.specs.declared.faults.RunFault.TheVariants as fault
use Rattle.scenario_nodes.specs.Nodes.{Held, HoldAll, server_names}
use Rattle.scenario_nodes.specs.Together.{Takes}
use Rattle.scenario_nodes.specs.Together.{GivesBack as GivesDisks}
use Rattle.scenario_nodes.proofs.Returned.{all_same, keeps_then}
use Rattle.scenario_nodes.proofs.Together.{backs_since, have_still, none_taken, returned_all}
use Rattle.replay_runner.specs.declared.nodes.Nodes.{Nodes}
use Rattle.replay_runner.specs.declared.runs.Run.{Run}
use Rattle.replay_runner.specs.Collecting.{AreTraces, trace_of}
use Rattle.replay_runner.specs.Ends.{HaveCountedAt, IsCause, StopsAt}
use Rattle.replay_runner.specs.Leaving.{Broken, Completed, CountsFailure, IsServerDisk, Leaves, Showing, disks_in}
use Rattle.replay_runner.specs.OnShelves.{BeginOver, Closes, OpensNodes, RunsOn}
use Rattle.replay_runner.specs.Opened.{node_disks}
use Rattle.replay_runner.specs.Plays.{Ends, HasPlayed, Plays}
use Rattle.replay_runner.specs.Standing.{AllStand, AreNodes, disks_at}
use Rattle.replay_runner.specs.Steps.{left_of}
use Rattle.replay_runner.specs.Traces.{places_of}
use Rattle.replay_runner.proofs.Blamed.{blames_alike}
use Rattle.replay_runner.proofs.Failed.{failure_back}
use Rattle.replay_runner.proofs.Gathered.{gathered}
use Rattle.replay_runner.proofs.Lists.{drop_all}
use Rattle.replay_runner.proofs.Safe.{run_is_safe}
use Rattle.replay_runner.proofs.Servers.{none_asked}
use Rattle.replay_runner.proofs.Shown.{alike_in, all_disks, all_laid, all_left, all_open, all_show, all_sized, all_stand, count_disks}

-- ---- a whole schedule

module _ (w : World) (past : Past) (schedule : List Item) where
  step_within : (ms : List Moment) (m : Moment) (o : Option Item) → slice_get (singles schedule) (length ms) ≡ o → IsStep w past ms m o → length ms < length (singles schedule)
  step_within ms m None e h = absurd h
  step_within ms m (Some step) e h = slice_get_within (singles schedule) (length ms) step e

  follows_within : (ms : List Moment) → Follows w past schedule ms → length ms ≤ length (singles schedule)
  follows_within [] f = omega arith
  follows_within (m ∷ ms) f = let below = step_within ms m (slice_get (singles schedule) (length ms)) refl f.1 in omega (arith, below)

-- ---- a replay that ended, by what its disks show

module _ {D K : Type 0} (state : D → DiskState) (s : Scenario) (r : Run D K) (held : Held) where
  stops : (ms : List Moment) (missed : RunFault) → AllStand state s held r.nodes ms → StopsAt s held ms (disks_at state r.nodes) missed → StopsAt s held ms (disks_in (all_disks state r.nodes)) missed
  stops ms missed stand t = record {
    at = t.at;
    role = t.role;
    there = t.there;
    now = t.now;
    event = t.event;
    is_next = t.is_next;
    blames = blames_alike (disks_at state r.nodes t.at) (disks_in (all_disks state r.nodes) t.at) (alike_in state s held r.nodes t.at t.role (own t.at ms) (stand t.at t.role t.there)) t.role (held.starts t.at) s.disk
        (own t.at ms) t.at t.now t.event missed t.blames;
  }

  cause_left : (ms : List Moment) (missed : RunFault) → AllStand state s held r.nodes ms → IsCause s held ms (disks_at state r.nodes) missed → IsCause s held ms (disks_in (all_disks state r.nodes)) missed
  cause_left ms fault.NoMemory stand cause = tt
  cause_left ms (fault.Store q) stand cause = stops ms (fault.Store q) stand cause
  cause_left ms (fault.Full q full) stand cause = stops ms (fault.Full q full) stand cause
  cause_left ms (fault.Damaged q second offset) stand cause = stops ms (fault.Damaged q second offset) stand cause
  cause_left ms fault.Other stand cause = stops ms fault.Other stand cause

  module _ (runs : IsRunnable s) (count : length r.nodes.resources.items ≡ length s.resources) where
    count_left : length (all_disks state r.nodes) ≡ length s.resources + 1
    count_left = let size = count_disks state r.nodes in omega (arith, size, count)

    broken : (missed : RunFault) → Ends state s held r missed → Broken s held (all_disks state r.nodes) missed
    broken missed e = record {
      history = e.history;
      legal = e.legal;
      safe = run_is_safe s held.past e.history runs e.legal;
      follows = e.follows;
      fits = e.fits;
      count = count_left;
      device = all_show state s held r.nodes e.history e.stands;
      opens = all_open state s held r.nodes e.history e.stands;
      sized = all_sized state s held r.nodes count e.history e.stands;
      cause = cause_left e.history missed e.stands e.cause;
    }

    done : (ms : List Moment) → Plays state s held r ms → left_of s ms ≡ [] → (es : List Entry) → es ≡ entries ms → Completed s held (all_disks state r.nodes) es
    done ms t left es printed = record {
      history = ms;
      is_run = record {
        legal = t.legal;
        follows = t.follows;
        whole = let all = drop_all (singles (items_of s)) (length ms) left in let within = follows_within (world_of s) held.past (items_of s) ms t.follows in omega (arith, all, within);
      };
      safe = run_is_safe s held.past ms runs t.legal;
      printed = printed;
      fits = t.fits;
      device = all_left state s held r.nodes ms t.nodes;
      laid = all_laid state s held r.nodes ms t.nodes;
      opens = all_open state s held r.nodes ms (all_stand state s held r.nodes ms t.nodes);
      sized = all_sized state s held r.nodes count ms (all_stand state s held r.nodes ms t.nodes);
    }

    -- memory was refused once all was played
    uncollected : (ms : List Moment) → Plays state s held r ms → Broken s held (all_disks state r.nodes) fault.NoMemory
    uncollected ms t = record {
      history = ms;
      legal = t.legal;
      safe = run_is_safe s held.past ms runs t.legal;
      follows = t.follows;
      fits = t.fits;
      count = count_left;
      device = all_show state s held r.nodes ms (all_stand state s held r.nodes ms t.nodes);
      opens = all_open state s held r.nodes ms (all_stand state s held r.nodes ms t.nodes);
      sized = all_sized state s held r.nodes count ms (all_stand state s held r.nodes ms t.nodes);
      cause = tt;
    }

-- ---- with the disks that were given back, of nodes that began over what these held

module _ {D K : Type 0} (state : D → DiskState) (s : Scenario) (r : Run D K) (runs : IsRunnable s) (count : length r.nodes.resources.items ≡ length s.resources) (n : Nodes D K)
    (old new : ShelfState D) (gives : GivesDisks (server_names s) (node_disks r.nodes) old new) where
  -- the disks of the replay, once they were given back
  abbrev pub Closed : Result (List Entry) RunFault → Type 0
  Closed result = Closes (BeginOver state s n) (Leaves s) state s old new result

  -- the schedule was played over it
  abbrev Over : Result (Unit {0}) RunFault → Type 0
  Over played = (held : Held) → AreNodes state s held n [] → AreOfResources (world_of s) held.past.sessions → HasPlayed state s held r [] played

  pub ended : (played : Result (Unit {0}) RunFault) (missed : RunFault) → played ≡ Err missed → Over played → IfErr played (HaveCountedAt (disks_at state r.nodes)) → Closed (Err missed)
  ended (Ok u) missed e has counted = absurd (let no : Ok u ≡ Err missed = e in cc)
  ended (Err why) missed e has counted =
      let same : why ≡ missed = let is : Err why ≡ Err missed = e in cc in
      record {
        disks = node_disks r.nodes;
        gives = gives;
        counted = subst (λ (f : RunFault). CountsFailure (all_disks state r.nodes) (Err f)) same (failure_back state r.nodes why counted);
        leaves = λ held begun. subst (Broken s held (all_disks state r.nodes)) same (broken state s r held runs count why (has held begun.nodes begun.named));
      }

  pub finished : (played : Result (Unit {0}) RunFault) (u : Unit {0}) → played ≡ Ok u → Over played → (es : List Entry)
      → ((ms : List Moment) → r.places.items ≡ places_of ms → AreTraces (trace_of r.network.items r.nodes) ms → es ≡ entries ms) → Closed (Ok es)
  finished (Err missed) u e has es collected = absurd (let no : Err missed ≡ Ok u = e in cc)
  finished (Ok v) u e has es collected = record { disks = node_disks r.nodes; gives = gives; counted = tt; leaves = λ held begun. whole held (has held begun.nodes begun.named) }
    where
      whole : (held : Held) → HasPlayed state s held r [] (Ok v) → Completed s held (all_disks state r.nodes) es
      whole held (ms, plays, left) = done state s r held runs count ms plays left es (collected ms plays.standing (gathered state s held r.network.items r.nodes ms plays.nodes plays.passed plays.legal))

  pub unfinished : (played : Result (Unit {0}) RunFault) (u : Unit {0}) → played ≡ Ok u → Over played → Closed (Err fault.NoMemory)
  unfinished (Err missed) u e has = absurd (let no : Err missed ≡ Ok u = e in cc)
  unfinished (Ok v) u e has = record { disks = node_disks r.nodes; gives = gives; counted = tt; leaves = λ held begun. whole held (has held begun.nodes begun.named) }
    where
      whole : (held : Held) → HasPlayed state s held r [] (Ok v) → Broken s held (all_disks state r.nodes) fault.NoMemory
      whole held (ms, plays, left) = uncollected state s r held runs count ms plays

-- ---- a whole replay or run

module _ {D : Type 0} (Shows : Held → Showing) (state : D → DiskState) (s : Scenario) where
  -- memory was refused before any disk was asked for
  pub unasked : (shelf : ShelfState D) → RunsOn Shows state s shelf shelf (Err fault.NoMemory)
  unasked shelf =
      let none = none_taken {A = Unit {0}} (server_names s) shelf fault.NoMemory in
      record { uses = inr (none_asked state s shelf); returned = none.returned; keeps = none.keeps }

  -- the nodes weren't opened
  pub unopened : {K : Type 0} (old new : ShelfState D) (missed : RunFault) → OpensNodes {K = K} state s old new (Err missed) → RunsOn Shows state s old new (Err missed)
  unopened old new missed o = record { uses = inr o.refused; returned = o.shelf.returned; keeps = o.shelf.keeps }

  -- they were, and went on, over what their disks held where these tell it
  pub played_on : (Begins : Held → Type 0) (old mid new : ShelfState D) (result : Result (List Entry) RunFault) → ((held : Held) → HoldAll state old s held → Begins held) → Takes (server_names s) old mid
      → Closes Begins Shows state s mid new result → RunsOn Shows state s old new result
  played_on Begins old mid new result begins takes c = record {
    uses = inl (record {
      disks = c.disks;
      taken = have_still mid new (server_names s) (λ n. (c.gives.places n).1) takes.both;
      back = backs_since (server_names s) c.disks (IsServerDisk s) old mid new takes.keeps c.gives.back;
      counted = c.counted;
      leaves = λ held holds. c.leaves held (begins held holds);
    });
    returned = returned_all (server_names s) c.disks old mid mid new takes refl (all_same mid) c.gives;
    keeps = keeps_then (IsServerDisk s) (IsServerDisk s) (IsServerDisk s) old mid new (λ n its. its) (λ n its. its) takes.keeps c.gives.keeps;
  }
