-- Entries judged one after the other.
use Rattle.std.proofs.Common.{◌≡◌, ◌+◌, ◌≤◌, ◌<◌, ℕ, zero, suc, List, [], ◌∷◌, ◌++◌, length, take, slice_get, Option, Some, None, Result, Ok, Err, refl, sym, ap, ◌∙◌, arith}
use Rattle.std.specs.Prelude.{IfOk}
use Rattle.std.proofs.lemmas.List.{length_push, take_all, take_more}
use Rattle.std.proofs.lemmas.Option.{get_or_from_slice_get, slice_get_within}
use Rattle.seata_types.specs.declared.copies.NoMemory.{NoMemory}
use Rattle.scenario_form.specs.declared.scenarios.Scenario.{Scenario}
use Rattle.scenario_form.specs.Runnable.{IsRunnable}
use Rattle.history_rules.specs.Nodes.{World, no_past}
use Rattle.history_rules.specs.Histories.{Moment}
use Rattle.history_text.specs.declared.entries.Entry.{Entry}
use Rattle.history_text.specs.History.{entry_of, entries}
use Rattle.history_text.specs.Worlds.{world_of}
use Rattle.judged_devices.specs.declared.limits.TheConstants.{OWN_ENTRIES}
use Rattle.verdict_law.specs.declared.rules.Rule.{Rule}
use Rattle.verdict_law.specs.Verdicts.{AreLegal, BreakAt, IsVerdict, moment_at}
use Rattle.verdict_law.proofs.Judged.{printed_as, stands}
use Rattle.history_audit.specs.declared.kept.Judge.{Judge}
use Rattle.history_audit.specs.Judging.{CanJudge, Follows, HasJudged, HasJudgedAll, HasTaken}

module _ (w : World) (es : List Entry) (k : ℕ) (old new : Judge) (e : Entry) (t : HasTaken w old (take k es)) (there : slice_get es k ≡ Some e) where
  taken : take (k + 1) es ≡ take k es ++ e ∷ []
  taken = take_more es k e (slice_get_within es k e there) ∙ ap (λ (z : Entry). take k es ++ z ∷ []) (get_or_from_slice_get es k e e there)

  pub one_more : HasJudged old new e None → HasTaken w new (take (k + 1) es)
  one_more j =
      let (step, passes, follows) = j w t.history t.legal t.follows in
      record {
        history = moment_at t.history e step ∷ t.history;
        legal = (t.legal, stands w no_past t.history e step passes);
        printed = ap (λ (z : List Entry). z ++ entry_of (moment_at t.history e step) ∷ []) t.printed ∙ ap (λ (z : Entry). take k es ++ z ∷ []) (printed_as w no_past t.history e step passes)
            ∙ sym taken;
        follows = follows;
      }

  pub broken_at : (broken : Rule) → HasJudged old new e (Some broken) → BreakAt w no_past es k broken
  broken_at broken j = record { before = t.history; legal = t.legal; printed = t.printed; entry = e; there = there; breaks = j w t.history t.legal t.follows }

pub none_taken : (w : World) (j : Judge) (es : List Entry) → Follows w j [] → HasTaken w j (take 0 es)
none_taken w j es f = record { history = []; legal = tt; printed = refl; follows = f }

pub all_taken : (w : World) (j : Judge) (es : List Entry) (k : ℕ) → k ≡ length es → HasTaken w j (take k es) → AreLegal w no_past es
all_taken w j es k end t = record { history = t.history; legal = t.legal; printed = t.printed ∙ take_all k es (omega (arith, end)) }

-- what is judged of the scenario's entries is the verdict
pub verdict_of : (s : Scenario) → IsRunnable s → (j : Judge) (es : List Entry) → Follows (world_of s) j [] → (r : Result (Option (ℕ × Rule)) NoMemory) → IfOk r (HasJudgedAll j es)
    → IfOk r (IsVerdict (world_of s) no_past es)
verdict_of s runs j es follows (Ok verdict) all = all s runs follows
verdict_of s runs j es follows (Err error) all = tt

-- ---- room

length-entries : (ms : List Moment) → length (entries ms) ≡ length ms
length-entries [] = refl
length-entries (m ∷ ms) = let last = length_push (entries ms) (entry_of m) in let below = length-entries ms in omega (arith, last, below)

length_taken : (es : List Entry) (k : ℕ) → length (take k es) ≤ k
length_taken es zero = omega arith
length_taken [] (suc k) = omega arith
length_taken (e ∷ es) (suc k) = let below = length_taken es k in omega (arith, below)

pub can_judge : (s : Scenario) → IsRunnable s → (j : Judge) (es : List Entry) (k : ℕ) → k < OWN_ENTRIES → HasTaken (world_of s) j (take k es) → CanJudge j
can_judge s runs j es k low t = record {
  scenario = s;
  runs = runs;
  history = t.history;
  legal = t.legal;
  follows = t.follows;
  room = let size = length-entries t.history in let taken = length_taken es k in let same : length (entries t.history) ≡ length (take k es) = ap (λ (z : List Entry). length z) t.printed in omega (arith, size, taken, same, low);
}
