-- The numbers of what is kept of a history are those of its report.
use Rattle.std.proofs.Common.{◌≡◌, ◌+◌, ℕ, ℤ, cond, List, [], ◌∷◌, ◌++◌, length, map, count_by, fold, codes, Option, Some, None, Result, Ok, Err, IfOk, refl, sym, ap, ◌∙◌, append_assoc, append-nil}
use Rattle.std.proofs.lemmas.List.{length-map}
use Rattle.seata_types.specs.declared.copies.NoMemory.{NoMemory}
use Rattle.durable_records.specs.SessionOrder.{Allowed}
use Rattle.session_log.specs.declared.sessions.SessionEntry.{SessionEntry}
use Rattle.scenario_form.specs.declared.scenarios.Scenario.{Scenario}
use Rattle.history_law.proofs.SessionHistory.{both_allowed}
use Rattle.history_rules.specs.Histories.{Moment, coordinator_left}
use Rattle.history_rules.specs.Nodes.{Past}
use Rattle.history_rules.specs.Reports.{each}
use Rattle.history_rules.specs.Reports.{report as report_of}
use Rattle.history_text.specs.declared.entries.Entry.{Entry}
use Rattle.history_text.specs.Worlds.{world_of}
use Rattle.report_text.specs.declared.before.Before.{Before}
use Rattle.report_text.specs.Folds.{FoldedKept}
use Rattle.report_text.specs.Following.{Follows, FollowsAll}
use Rattle.report_text.specs.Sections.{line_in}
use Rattle.report_text.specs.Totals.{CountsOver, column_sum, history_totals, is_over_entry, is_over_line, listed, totals_kept}
use Rattle.report_text.specs.declared.kept.Totals.{Totals}
use Rattle.report_text.proofs.SectionLaws.{all_locks, all_rows, all_sessions}

-- ---- lists

each_both : {A B : Type 0} (f : A → List B) (xs ys : List A) → each f (xs ++ ys) ≡ each f xs ++ each f ys
each_both f [] ys = refl
each_both f (x ∷ xs) ys = ap (λ rest. f x ++ rest) (each_both f xs ys) ∙ sym (append_assoc (f x) (each f xs) (each f ys))

-- what one more gives is added, if it gives something
pub listed_added : (before after : List ℤ) (found : Option ℤ) → ((n : ℤ) → found ≡ Some n → after ≡ before ++ n ∷ []) → (found ≡ None → after ≡ before) → after ≡ before ++ listed found
listed_added before after None some none = none refl ∙ sym (append-nil before)
listed_added before after (Some n) some none = some n refl

-- with what the first ones give added, what the rest give is left
pub rest_added : {A B : Type 0} (f : A → List B) (xs rest : List A) (before after whole : List B) → after ≡ before ++ each f xs → before ++ each f (xs ++ rest) ≡ whole
    → after ++ each f rest ≡ whole
rest_added f xs rest before after whole added is =
    ap (λ l. l ++ each f rest) added ∙ append_assoc before (each f xs) (each f rest) ∙ ap (λ l. before ++ l) (sym (each_both f xs rest)) ∙ is

over_from : (n : ℕ) (es : List SessionEntry)
    → fold (λ a e. a + cond (is_over_entry e) 1 0) n es ≡ fold (λ a l. a + cond (is_over_line l) 1 0) n (map line_in es)
over_from n [] = refl
over_from n (e ∷ es) = over_from (n + cond (is_over_entry e) 1 0) es

over_alike : (es : List SessionEntry) → count_by is_over_entry es ≡ count_by is_over_line (map line_in es)
over_alike es = over_from 0 es

-- ---- the numbers

module _ (s : Scenario) (past : Past) (f : FoldedKept) (ms : List Moment) (follows : Follows s past f ms) where
  sessions_alike : map line_in f.coordinator.known.sessions ≡ (report_of (world_of s) past ms).sessions
  sessions_alike = all_sessions s past f ms follows

  totals_alike : Allowed (coordinator_left past ms).records → totals_kept f.coordinator f.resources ≡ history_totals s past ms
  unfolding history_totals
  totals_alike a =
      let r = report_of (world_of s) past ms in
      let begun : length f.coordinator.known.sessions ≡ length r.sessions = sym (length-map f.coordinator.known.sessions line_in) ∙ ap length sessions_alike in
      let ended : count_by is_over_entry f.coordinator.known.sessions ≡ count_by is_over_line r.sessions = over_alike f.coordinator.known.sessions ∙ ap (count_by is_over_line) sessions_alike in
      (λ i. record {
        begun = begun i;
        ended = ended i;
        money = column_sum (codes "acc") 1 (all_rows s past f ms follows i);
        held = column_sum (codes "stock") 2 (all_rows s past f ms follows i);
        locks = length (all_locks s past f ms follows a i);
      })

pub counts : (s : Scenario) (before : Before) (es : List Entry) (f : FoldedKept) (r : Result Totals NoMemory) → FollowsAll s before es f
    → IfOk r (λ t. t ≡ totals_kept f.coordinator f.resources) → IfOk r (CountsOver s before es)
counts s before es f (Err e) follows is = tt
counts s before es f (Ok t) follows is =
    λ past read ms legal same counted.
    is ∙ totals_alike s past f ms (follows past ms read legal same counted) (both_allowed (world_of s) past ms read.allowed legal).stand
