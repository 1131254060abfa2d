-- A replay or a run, after the disks of the nodes were read.
use Rattle.std.proofs.Common.{◌≡◌, ◌∙◌, inl, inr, ℕ, List, Result, Ok, Err, sym, arith}
use Rattle.disk_model.specs.Disk.{DiskState}
use Rattle.disk_model.specs.Shelf.{KeepsOthers, ShelfState}
use Rattle.scenario_form.specs.declared.scenarios.Scenario.{Scenario}
use Rattle.history_text.specs.declared.entries.Entry.{Entry}
use Rattle.node_seat.specs.declared.faults.RunFault.{RunFault}
use Rattle.scenario_nodes.specs.Nodes.{Held, HoldAll, server_names}
use Rattle.scenario_nodes.specs.Reading.{HoldStill}
use Rattle.scenario_nodes.proofs.ReadAll.{hold_still}
use Rattle.scenario_nodes.proofs.Returned.{keeps_then, still}
use Rattle.scenario_nodes.proofs.Together.{backs_since}
use Rattle.replay_runner.specs.Leaving.{GivesBack, IsCalmEnd, IsCalmShelf, IsServerDisk, Showing, UsesShelf}
use Rattle.replay_runner.proofs.Calm.{NeverDamaged, ends_calmly}
use Rattle.report_text.specs.declared.before.Before.{Before}
use Rattle.lab_calls.specs.declared.played.Played.{Played}
use Rattle.store_shown.specs.Before.{ReadsBefore}
use Rattle.lab_calls.specs.Over.{EndsOver, entries_of}

-- what was made on the disks of a shelf was made on those that it gave before these were read
pub given_over : {D : Type 0} (Others : List ℕ → Type 0) (Shows : Held → Showing) (state : D → DiskState) (s : Scenario) (old mid new : ShelfState D) (ended : Result (List Entry) RunFault) → HoldStill state s old mid
    → KeepsOthers Others old mid → GivesBack Shows state mid new s ended → GivesBack Shows state old new s ended
given_over Others Shows state s old mid new ended holds keeps g = record {
  disks = g.disks;
  taken = g.taken;
  back = backs_since (server_names s) g.disks Others old mid new keeps g.back;
  counted = g.counted;
  leaves = λ held had. g.leaves held (holds held had);
}

-- the disks of the nodes were read, and then used
pub keeps_both : {D : Type 0} (s : Scenario) (old mid new : ShelfState D) → KeepsOthers (IsServerDisk s) old mid → KeepsOthers (IsServerDisk s) mid new → KeepsOthers (IsServerDisk s) old new
keeps_both s old mid new one two = keeps_then (IsServerDisk s) (IsServerDisk s) (IsServerDisk s) old mid new (λ n its. its) (λ n its. its) one two

module _ {D S : Type 0} (Shows : Held → Showing) (state : D → DiskState) (seen : S → ShelfState D) (s : Scenario) (old mid new : S) where
  -- the disks couldn't be read
  pub unread_over : (missed : RunFault) → ReadsBefore state s (seen old) (seen mid) (Err missed) → EndsOver Shows state seen old mid s (Err missed)
  unread_over missed r = inr (inl (record { refused = r.refused; cause = r.cause }))

  module _ (before : Before) (r : ReadsBefore state s (seen old) (seen mid) (Ok before)) where
    holds : HoldStill state s (seen old) (seen mid)
    holds = hold_still state s (seen old) (seen mid) r.back

    pub made_over : (es : List Entry) → UsesShelf Shows state (seen mid) (seen new) s (Ok es) → EndsOver Shows state seen old new s (Ok (record { before = before; history = es }))
    made_over es (inl g) = (given_over (IsServerDisk s) Shows state s (seen old) (seen mid) (seen new) (Ok es) holds r.keeps g, λ held had. r.says held had, λ held. r.sound held)
    made_over es (inr none) = absurd none

    pub broken_over : (missed : RunFault) → UsesShelf Shows state (seen mid) (seen new) s (Err missed) → EndsOver Shows state seen old new s (Err missed)
    broken_over missed (inl g) = inl (given_over (IsServerDisk s) Shows state s (seen old) (seen mid) (seen new) (Err missed) holds r.keeps g, λ held. r.sound held)
    broken_over missed (inr refused) = inr (inr (record { sound = λ held. r.sound held; between = mid; still = holds; keeps = r.keeps; refused = refused }))

-- ---- where nothing fails

module _ {D S : Type 0} (Shows : Held → Showing) (state : D → DiskState) (seen : S → ShelfState D) (s : Scenario) (old new : S) (held : Held) (never : NeverDamaged (Shows held)) (holds : HoldAll state (seen old) s held)
    (same : (seen new).tells ≡ (seen old).tells) where
  pub over_calmly : (ended : Result Played RunFault) → EndsOver Shows state seen old new s ended → IsCalmShelf state s (seen old) (seen new) → IsCalmEnd (entries_of ended)
  over_calmly (Ok p) ends calm = tt
  over_calmly (Err missed) (inl g) calm = ends_calmly Shows state s (seen old) (seen new) held never holds (Err missed) same (inl g.0) calm
  over_calmly (Err missed) (inr (inl u)) calm = ends_calmly Shows state s (seen old) (seen new) held never holds (Err missed) same (inr (λ some. inl (u.refused some))) calm
  over_calmly (Err missed) (inr (inr n)) calm =
      ends_calmly Shows state s (seen n.between) (seen new) held never (n.still held holds) (Err missed) (same ∙ sym n.keeps.tells) (inr n.refused)
      (record {
        tells = still (seen old).tells (seen n.between).tells n.keeps.tells calm.tells;
        shelf = λ rose. calm.shelf (let faults = n.keeps.faults in omega (arith, rose, faults));
        disks = calm.disks;
      })
