-- The status of a replay or a run where no device fails.
use Rattle.std.proofs.Common.{◌≡◌, ◌⊎◌, inl, inr, ◌||◌, ℕ, nat_eq, Bool, true, false, List, [], ◌∷◌, Some, Result, Ok, Err, refl, sym, subst, arith}
use Rattle.std.proofs.lemmas.Bool.Decides.{nat_tests}
use Rattle.disk_model.specs.Disk.{DiskState}
use Rattle.disk_model.specs.Shelf.{ShelfState}
use Rattle.std.specs.List.{AllByRecursion}
use Rattle.history_rules.specs.Nodes.{Role, Coordinator, Resource, Manager}
use Rattle.scenario_form.specs.declared.scenarios.Scenario.{Scenario}
use Rattle.scenario_reader.specs.Reading.{IsScenario, with_base}
use Rattle.node_seat.specs.declared.faults.RunFault.{RunFault}
use Rattle.node_seat.specs.declared.faults.RunFault.TheVariants as run_fault
use Rattle.scenario_nodes.specs.Nodes.{Held, HoldAll, Holds, Server, StandAs, server_names, servers_of}
use Rattle.scenario_nodes.specs.Shelves.{AreNext}
use Rattle.scenario_nodes.specs.Together.{IsOfOne}
use Rattle.replay_runner.specs.Leaving.{IsCalmEnd, IsCalmShelf, Showing}
use Rattle.replay_runner.proofs.Calm.{NeverDamaged}
use Rattle.report_judge.proofs.OneScenario.{same_form}
use Rattle.lab_calls.specs.declared.played.Played.{Played}
use Rattle.lab_calls.specs.Answers.{IsEndText, Plays, TellsPlay, is_calm_end, is_end}
use Rattle.lab_calls.specs.Kept.{EndsKept, IsCalmNet}
use Rattle.lab_calls.specs.Over.{entries_of}
use Rattle.lab_calls.specs.Streams.{Devices, IsCalm}
use Rattle.lab_calls.proofs.Kept.{kept_calmly}

-- ---- an input is no other scenario, but for the text under which it is kept

pub calm_of : {D : Type 0} (state : D → DiskState) (before after : ShelfState D) (r s : Scenario) → with_base [] r ≡ with_base [] s → IsCalmShelf state s before after → IsCalmShelf state r before after
calm_of state before after r s same calm = record {
  tells = calm.tells;
  shelf = calm.shelf;
  disks = λ name disk is given. calm.disks name disk (subst (λ (v : Scenario). IsOfOne (server_names v) name) same is) given;
}

-- what disks hold says nothing of that text
module _ {D : Type 0} (state : D → DiskState) (shelf : ShelfState D) where
  stand_with : (s : Scenario) (text : List ℕ) (v : Server) (a b : List ℕ) → StandAs s v.role v.start a b → StandAs (with_base text s) v.role v.start a b
  stand_with s text v a b = by v.role
    where
      by : (role : Role) → StandAs s role v.start a b → StandAs (with_base text s) role v.start a b
      by (Coordinator times past) stand = stand
      by (Resource setup past) stand = stand
      by (Manager settings) stand = tt

  stand_without : (s : Scenario) (text : List ℕ) (v : Server) (a b : List ℕ) → StandAs (with_base text s) v.role v.start a b → StandAs s v.role v.start a b
  stand_without s text v a b = by v.role
    where
      by : (role : Role) → StandAs (with_base text s) role v.start a b → StandAs s role v.start a b
      by (Coordinator times past) stand = stand
      by (Resource setup past) stand = stand
      by (Manager settings) stand = tt

  holds_each : (r s : Scenario) → r.disk ≡ s.disk → ((v : Server) (a b : List ℕ) → StandAs r v.role v.start a b → StandAs s v.role v.start a b) → (servers : List Server)
      → AllByRecursion (Holds state shelf r) servers → AllByRecursion (Holds state shelf s) servers
  holds_each r s same to [] all = tt
  holds_each r s same to (v ∷ servers) all = (
    record { first = all.0.first; second = all.0.second; next = subst (λ n. AreNext state shelf n v.name all.0.first all.0.second) same all.0.next; stand = to v all.0.first all.0.second all.0.stand },
    holds_each r s same to servers all.1,
  )

  pub holds_of : (held : Held) (r s : Scenario) → with_base [] r ≡ with_base [] s → HoldAll state shelf s held → HoldAll state shelf r held
  holds_of held r s same holds =
      holds_each (with_base [] r) r refl (stand_without r []) (servers_of r held)
      (subst (λ v. HoldAll state shelf v held) (sym same)
      (holds_each s (with_base [] s) refl (stand_with s []) (servers_of s held) holds))

-- the status of such an end
calm_text : (s : Scenario) (ended : Result Played RunFault) (text : List ℕ) (n : ℕ) → IsCalmEnd (entries_of ended) → IsEndText s ended text n → is_calm_end n ≡ true
calm_text s (Ok p) text n calm t = rw t.0 refl
calm_text s (Err (run_fault.Full at full)) text n calm t = rw t.1 refl
calm_text s (Err run_fault.NoMemory) text n calm t = absurd (t.0 refl)
calm_text s (Err (run_fault.Store at)) text n calm t = absurd calm
calm_text s (Err (run_fault.Damaged at second offset)) text n calm t = absurd calm
calm_text s (Err run_fault.Other) text n calm t = absurd calm

module _ {D S : Type 0} (Shows : Scenario → Held → Showing) (never : (s : Scenario) (held : Held) → NeverDamaged (Shows s held)) (state : D → DiskState) (seen : S → ShelfState D) (before after : S) (same_tells : (seen after).tells ≡ (seen before).tells)
    (result : ℕ) (old new : Devices) (input : List ℕ) (told : old.source.left ≡ Some input) (s : Scenario) (is : IsScenario input s)
    (held : Held) (holds : HoldAll state (seen before) s held) (net : (v : Scenario) → IsScenario input v → IsCalmNet state (seen before) (seen after) v.base) {IsDone : Scenario → List ℕ → Type 0} (said : TellsPlay (λ v r. EndsKept (Shows v) state seen before after v r) IsDone result old new) where
  abbrev HasPlayed : ℕ → Type 0
  HasPlayed n = Plays (λ v r. EndsKept (Shows v) state seen before after v r) n input old new

  of_play : (n : ℕ) → HasPlayed n → IsCalmShelf state s (seen before) (seen after) → is_calm_end n ≡ true
  of_play n r calm =
      let v = r.scenario in
      let same = same_form input v s r.is_scenario is in
      calm_text v r.is_play.ended r.text n
      (kept_calmly (Shows v) state seen v before after held (never v held) (holds_of state (seen before) held v s same holds) r.is_play.ended r.is_play.has_ended same_tells
      (calm_of state (seen before) (seen after) v s same calm) (net v r.is_scenario))
      r.is_play.is_text

  pub calm_status : IsCalm old new → IsCalmShelf state s (seen before) (seen after) → is_calm_end result ≡ true
  calm_status still calm = by (said.complete input s told is still)
    where
      three_never : is_calm_end 3 ≡ true → is_calm_end result ≡ true
      three_never e = absurd (let no : false ≡ true = e in cc)

      at : (zero six seven eight nine : Bool) → nat_eq result 0 ≡ zero → nat_eq result 6 ≡ six → nat_eq result 7 ≡ seven → nat_eq result 8 ≡ eight → nat_eq result 9 ≡ nine
          → (zero || (six || (seven || (eight || (nine || false))))) ≡ true → (zero || (six || (eight || false))) ≡ true
      at true six seven eight nine a b c d e known = refl
      at false true seven eight nine a b c d e known = refl
      at false false true eight nine a b c d e known =
          let seven : result ≡ 7 = grind (arith, nat_tests) in
          absurd (let no : is_calm_end 7 ≡ true = of_play 7 (subst (λ n. HasPlayed n) seven (said.replayed (rw seven refl) input told)) calm in
          let never : false ≡ true = no in cc)
      at false false false true nine a b c d e known = refl
      at false false false false true a b c d e known =
          let nine : result ≡ 9 = grind (arith, nat_tests) in
          absurd (let no : is_calm_end 9 ≡ true = of_play 9 (subst (λ n. HasPlayed n) nine (said.replayed (rw nine refl) input told)) calm in
          let never : false ≡ true = no in cc)
      at false false false false false a b c d e known = absurd (let no : false ≡ true = known in cc)

      by : (is_end result ≡ true) ⊎ HasPlayed 3 → is_calm_end result ≡ true
      by (inl known) = at (nat_eq result 0) (nat_eq result 6) (nat_eq result 7) (nat_eq result 8) (nat_eq result 9) refl refl refl refl refl known
      by (inr r) = three_never (of_play 3 r calm)
