-- What is told of the disks of a shelf, and that they have the bytes that they had.
use Rattle.std.proofs.Common.{◌≡◌, ◌≢◌, ◌⊎◌, ⊎_elim, inl, inr, ◌∙◌, ℕ, IsSome, List, [], ◌∷◌, Option, Some, None, Result, Ok, Err, IfOk, refl, sym, subst}
use Rattle.std.specs.List.{AllByRecursion}
use Rattle.disk_model.specs.Disk.{DiskState, present}
use Rattle.disk_model.specs.Shelf.{KeepsOthers, OnlyTellersHave, ShelfState, TakenAs}
use Rattle.disk_model.proofs.Named.{same_or_other}
use Rattle.seata_types.specs.declared.copies.NoMemory.{NoMemory}
use Rattle.seata_types.specs.declared.limits.TheConstants.{SCENARIO_DISK}
use Rattle.scenario_form.specs.declared.scenarios.Scenario.{Scenario}
use Rattle.scenario_form.specs.Runnable.{IsRunnable}
use Rattle.scenario_reader.specs.declared.errors.ScenarioError.{ScenarioError}
use Rattle.scenario_reader.specs.declared.errors.ScenarioError.TheVariants as error
use Rattle.scenario_reader.specs.Reading.{IsFault, IsScenario}
use Rattle.base_records.specs.Pieces.{IsWhole, joined}
use Rattle.base_shelf.specs.Keeping.{NetIs, net_name}
use Rattle.base_shelf.proofs.NetName.{nodes_away, nodes_hold, nodes_sound}
use Rattle.history_text.specs.declared.entries.Names.{Names}
use Rattle.history_text.specs.Report.{names_of}
use Rattle.node_seat.specs.declared.faults.RunFault.{RunFault}
use Rattle.node_seat.specs.declared.faults.RunFault.TheVariants as fault
use Rattle.report_text.specs.declared.before.Before.{Before}
use Rattle.scenario_nodes.specs.Nodes.{Held, Holds, Server, none_held, server_names, servers_of}
use Rattle.scenario_nodes.specs.Reading.{GivesStill, HoldStill, IsReadFault, IsSound}
use Rattle.scenario_nodes.specs.Shelves.{IsNext, ReturnsAll, second_name}
use Rattle.scenario_nodes.specs.Together.{IsOfOne}
use Rattle.scenario_nodes.proofs.Holding.{bytes_of, next_given, told_of}
use Rattle.scenario_nodes.proofs.Returned.{all_after, is_next_since, keeps_then}
use Rattle.store_shown.specs.declared.found.Shown.{Shown}
use Rattle.store_shown.specs.declared.found.Shown.TheVariants as shown
use Rattle.store_shown.specs.Bases.{IsNetUnread, NetHolds, ReadsBase}
use Rattle.store_shown.specs.Before.{ReadsBefore}
use Rattle.store_shown.specs.Showing.{IsFound, IsFoundAt, IsOfReading, IsState, KeepsBytes, KeepsScenario, Shows, ShowsNodes, TouchesNodes}

-- ---- the nodes

module _ {D : Type 0} (state : D → DiskState) (s : Scenario) (old new : ShelfState D) where
  -- what was read is told
  pub nodes_shown : (before : Before) (result : Result Shown NoMemory) → IfOk result (IsState s before) → ReadsBefore state s old new (Ok before) → ShowsNodes state s old new result
  nodes_shown before result is r = record { found = by result is; still = r.still; keeps = r.keeps; returned = r.returned }
    where
      by : (a : Result Shown NoMemory) → IfOk a (IsState s before) → IfOk a (IsFoundAt state s old new)
      by (Ok (shown.State text)) told = (λ held holds. told held.past (r.says held holds), r.sound)
      by (Ok shown.Empty) told = absurd told
      by (Ok (shown.NoScenario e)) told = absurd told
      by (Ok (shown.Unread missed names)) told = absurd told
      by (Err refused) told = tt

  -- or why they weren't read
  pub nodes_unread : (missed : RunFault) (names : Names) (result : Result Shown NoMemory) → names ≡ names_of s → IfOk result (λ found. (missed ≢ fault.NoMemory) × (found ≡ shown.Unread missed names))
      → ReadsBefore state s old new (Err missed) → ShowsNodes state s old new result
  nodes_unread missed names result named is r = record { found = by result is; still = r.still; keeps = r.keeps; returned = r.returned }
    where
      by : (a : Result Shown NoMemory) → IfOk a (λ found. (missed ≢ fault.NoMemory) × (found ≡ shown.Unread missed names)) → IfOk a (IsFoundAt state s old new)
      by (Ok found) told = subst (IsFoundAt state s old new) (sym told.1) (told.0, named, r.refused, r.cause)
      by (Err refused) told = tt

-- ---- bytes

module _ {D : Type 0} (state : D → DiskState) where
  -- a disk that was there is there with its bytes, where the shelf gives those next
  kept_under : (old new : ShelfState D) → OnlyTellersHave old → ReturnsAll old new → (size : ℕ) (name : List ℕ)
      → ((x : List ℕ) → IsNext state old size name x → IsNext state new size name x)
      → (disk : D) → old.given_back name disk → IsSome (state disk).content → (same : D) × new.given_back name same × (present (state same) ≡ present (state disk))
  kept_under old new law returned size name stays disk given told =
      let (x, is_x) = bytes_of (state disk) told in
      by x is_x (stays x (next_given state old size name disk x given is_x)).has
    where
      by : (x : List ℕ) → present (state disk) ≡ Some x → TakenAs state (new.given_back name) size x → (same : D) × new.given_back name same × (present (state same) ≡ present (state disk))
      by x is_x (inl (same, there, is)) = (same, there, is ∙ sym is_x)
      by x is_x (inr (none, zero)) = let (same, there) = returned.kept (law name disk given) name (disk, given) in absurd (none same there)

  -- where only the disk `net` was read
  net_kept : (old new : ShelfState D) → OnlyTellersHave old → ReturnsAll old new → KeepsOthers (λ n. n ≡ net_name) old new → ((x : List ℕ) → NetIs state old x → NetIs state new x) → KeepsBytes state old new
  net_kept old new law returned keeps stays name disk given told = by (same_or_other name net_name)
    where
      by : (name ≡ net_name) ⊎ (name ≢ net_name) → (same : D) × new.given_back name same × (present (state same) ≡ present (state disk))
      by (inl is) =
          kept_under old new law returned SCENARIO_DISK name
          (subst (λ (n : List ℕ). (x : List ℕ) → IsNext state old SCENARIO_DISK n x → IsNext state new SCENARIO_DISK n x) (sym is) stays) disk given told
      by (inr other) = (disk, (keeps.others name other disk).1 given, refl)

  -- where the nodes' disks were
  nodes_kept : (old new : ShelfState D) → OnlyTellersHave old → ReturnsAll old new → (size : ℕ) → GivesStill state size old new → KeepsBytes state old new
  nodes_kept old new law returned size still name disk given told = kept_under old new law returned size name (still.next name) disk given told

  kept_then : (old mid new : ShelfState D) → KeepsBytes state old mid → KeepsBytes state mid new → KeepsBytes state old new
  kept_then old mid new one two name disk given told =
      let (a, there, is) = one name disk given told in
      let (x, is_x) = bytes_of (state disk) told in
      let (b, here, iz) = two name a there (told_of (state a) x (is ∙ is_x)) in
      (b, here, iz ∙ is)

  -- the nodes' disks hold what they held
  all_still : (s : Scenario) (old new : ShelfState D) → GivesStill state s.disk old new → (vs : List Server) → AllByRecursion (Holds state old s) vs → AllByRecursion (Holds state new s) vs
  all_still s old new still [] holds = tt
  all_still s old new still (v ∷ vs) holds = (
    record {
      first = holds.0.first;
      second = holds.0.second;
      next = record { first = still.next v.name holds.0.first holds.0.next.first; second = still.next (second_name v.name) holds.0.second holds.0.next.second };
      stand = holds.0.stand;
    },
    all_still s old new still vs holds.1,
  )

-- ---- faults

-- a disk that wasn't read is neither full nor that of another text
module _ {D : Type 0} (state : D → DiskState) (old new : ShelfState D) where
  net_kind : (missed : RunFault) → missed ≢ fault.NoMemory → IsNetUnread state old new missed → IsOfReading missed
  net_kind (fault.Store at) other cause = tt
  net_kind (fault.Damaged at second offset) other cause = tt
  net_kind fault.NoMemory other cause = other refl
  net_kind (fault.Full at full) other cause = ⊎_elim (λ none. none) (λ back. back.cause) cause
  net_kind fault.Other other cause = ⊎_elim (λ none. none) (λ back. back.cause) cause

nodes_kind : (servers : List Server) (missed : RunFault) → missed ≢ fault.NoMemory → IsReadFault servers missed → IsOfReading missed
nodes_kind servers (fault.Store at) other cause = tt
nodes_kind servers (fault.Damaged at second offset) other cause = tt
nodes_kind servers fault.NoMemory other cause = other refl
nodes_kind servers (fault.Full at full) other cause = cause
nodes_kind servers fault.Other other cause = cause

-- ---- all of it

module _ {D S : Type 0} (state : D → DiskState) (seen : S → ShelfState D) (law : (shelf : S) → OnlyTellersHave (seen shelf)) (old mid : S) where
  -- the disk `net` alone was read
  pub net_shown : (read : Result (Option (List ℕ)) RunFault) (result : Result Shown NoMemory) → ReadsBase state (seen old) (seen mid) read → IfOk result (IsFound state seen old mid) → Shows state seen old mid result
  net_shown read result base found = record {
    found = found;
    bytes = net_kept state (seen old) (seen mid) (law old) base.returned base.keeps base.still;
    net = base.still;
    touches = inl base.keeps;
    tells = base.keeps.tells;
    returned = base.returned;
  }

  -- it wasn't read
  pub base_unread : (missed : RunFault) (names : Names) (result : Result Shown NoMemory) → ReadsBase state (seen old) (seen mid) (Err missed)
      → IfOk result (λ found. (missed ≢ fault.NoMemory) × (found ≡ shown.Unread missed names)) → Shows state seen old mid result
  base_unread missed names result base is = net_shown (Err missed) result base (by result is)
    where
      by : (a : Result Shown NoMemory) → IfOk a (λ found. (missed ≢ fault.NoMemory) × (found ≡ shown.Unread missed names)) → IfOk a (IsFound state seen old mid)
      by (Ok found) told = subst (IsFound state seen old mid) (sym told.1) (net_kind state (seen old) (seen mid) missed told.0 base.refused, inl (base.refused, base.keeps))
      by (Err refused) told = tt

  -- it keeps no text
  pub base_empty : ReadsBase state (seen old) (seen mid) (Ok None) → Shows state seen old mid (Ok shown.Empty)
  base_empty base = net_shown (Ok None) (Ok shown.Empty) base (base.reads, base.keeps)

  module _ (text : List ℕ) (base : ReadsBase state (seen old) (seen mid) (Ok (Some text))) where
    -- what holds of the text holds of that of the records
    such : (Is : List ℕ → Type 0) → Is text → NetHolds state (seen old) (λ records. IsWhole records × Is (joined records))
    such Is its bytes next = let h = base.reads bytes next in record { records = h.records; stand = h.stand; is = (h.is.0, subst Is h.is.1 its) }

    -- or one that is no scenario
    pub text_refused : (e : ScenarioError) (result : Result Shown NoMemory) → (e ≢ error.NoMemory → IsFault text e) → IfOk result (λ found. (e ≢ error.NoMemory) × (found ≡ shown.NoScenario e))
        → Shows state seen old mid result
    text_refused e result refused is = net_shown (Ok (Some text)) result base (by result is)
      where
        by : (a : Result Shown NoMemory) → IfOk a (λ found. (e ≢ error.NoMemory) × (found ≡ shown.NoScenario e)) → IfOk a (IsFound state seen old mid)
        by (Ok found) told =
            let its : NetHolds state (seen old) (λ records. IsWhole records × IsFault (joined records) e) = such (λ t. IsFault t e) (refused told.0) in subst (IsFound state seen old mid) (sym told.1) (its, base.keeps)
        by (Err _) told = tt

    -- or that of a scenario, whose nodes' disks were read
    module _ (new : S) (s : Scenario) (is : IsScenario text s) (runs : IsRunnable s) (result : Result Shown NoMemory) (nodes : ShowsNodes state s (seen mid) (seen new) result) where
      kept_scenario : KeepsScenario state (seen old) s
      kept_scenario = such (λ t. IsScenario t s) is

      touches : TouchesNodes state s (seen old) (seen new)
      touches = record {
        keeps = keeps_then (λ n. n ≡ net_name) (IsOfOne (server_names s)) (λ n. (n ≡ net_name) ⊎ IsOfOne (server_names s) n) (seen old) (seen mid) (seen new) (λ n its. inl its) (λ n its. inr its) base.keeps nodes.keeps;
        next = λ n other bytes before. nodes.still.next n bytes (is_next_since state s.disk n bytes (seen old) (seen mid) (base.keeps.others n other) before);
      }

      to_mid : HoldStill state s (seen old) (seen mid)
      to_mid = nodes_hold state s (seen old) (seen mid) runs base.keeps

      still : HoldStill state s (seen old) (seen new)
      still held holds = all_still state s (seen mid) (seen new) nodes.still (servers_of s held) (to_mid held holds)

      sound : ((held : Held) → AllByRecursion (IsSound state (seen mid) s) (servers_of s held)) → (held : Held) → AllByRecursion (IsSound state (seen old) s) (servers_of s held)
      sound its held = nodes_sound state s (seen old) (seen mid) runs base.keeps held (its held)

      by : (a : Result Shown NoMemory) → IfOk a (IsFoundAt state s (seen mid) (seen new)) → IfOk a (IsFound state seen old new)
      by (Ok (shown.State t)) told = record { scenario = s; kept = kept_scenario; is_text = λ held holds. told.0 held (to_mid held holds); sound = sound told.1; still = still; touches = touches }
      by (Ok (shown.Unread missed names)) told = (
        nodes_kind (servers_of s none_held) missed told.0 (told.3 none_held),
        inr (record { scenario = s; kept = kept_scenario; named = told.1; between = mid; keeps = base.keeps; refused = told.2; cause = told.3; still = still; touches = touches }),
      )
      by (Ok shown.Empty) told = absurd told
      by (Ok (shown.NoScenario e)) told = absurd told
      by (Err refused) told = tt

      pub scenario_shown : Shows state seen old new result
      scenario_shown = record {
        found = by result nodes.found;
        bytes = kept_then state (seen old) (seen mid) (seen new) (net_kept state (seen old) (seen mid) (law old) base.returned base.keeps base.still)
            (nodes_kept state (seen mid) (seen new) (law mid) nodes.returned s.disk nodes.still);
        net = λ bytes next. is_next_since state SCENARIO_DISK net_name bytes (seen mid) (seen new) (nodes.keeps.others net_name (λ its. nodes_away s runs net_name its refl)) (base.still bytes next);
        touches = inr (record { scenario = s; kept = kept_scenario; nodes = touches });
        tells = nodes.keeps.tells ∙ base.keeps.tells;
        returned = all_after (seen old) (seen mid) (seen new) base.keeps.tells base.returned nodes.returned;
      }
