-- The index of a history finds what its entries sent.
use Rattle.std.proofs.Common.{◌≡◌, ◌==◌, ◌&&◌, ◌<◌, ◌+◌, ℕ, Bool, true, false, cond, List, [], ◌∷◌, ◌++◌, length, Option, Some, None, option_map, refl, sym, ap, ◌∙◌, arith}
use Rattle.std.specs.Option.{option_and_then}
use Rattle.std.proofs.lemmas.Option.{same_Some}
use Rattle.seata_types.specs.declared.ids.Place.{Place}
use Rattle.seata_types.specs.declared.messages.Outgoing.{Outgoing}
use Rattle.resource_memory.proofs.Maps.{at_insert}
use Rattle.history_rules.specs.Histories.{Moment, same_place, sent_if, sent_from}
use Rattle.history_text.specs.declared.entries.Entry.{Entry}
use Rattle.history_text.specs.declared.entries.Sent.{Sent}
use Rattle.history_text.specs.History.{entries, entry_of}
use Rattle.history_text.specs.Notes.{sent_of}
use Rattle.history_text.specs.Origins.{origin_cmp, origin_of}
use Rattle.history_text.proofs.OriginLaws.{origin_total, origin_exact, origin_test}
use Rattle.report_text.specs.SentIndex.{Index, IsIndexOf, place_of, with_place, with_entry, sent_by_entry, sent_in, printed_sent}
use Rattle.report_text.proofs.Lists.{snoc_below, snoc_end, length-snoc}

-- ---- no entry

pub none_sent : IsIndexOf [] []
none_sent = record { within = λ stamp from k e. absurd (let no : None ≡ Some k = e in cc); finds = λ stamp from. refl }

-- ---- one more entry

-- an entry that stood before is found as before
old_sent : (es : List Entry) (e : Entry) (o : Option ℕ) → ((k : ℕ) → o ≡ Some k → k < length es) → option_and_then (sent_in (es ++ e ∷ [])) o ≡ option_and_then (sent_in es) o
old_sent es e None below = refl
old_sent es e (Some k) below = ap (option_and_then sent_by_entry) (snoc_below es e k (below k refl))

abbrev place_after : Option Sent → (is_new : Bool) → ℕ → Option ℕ → Option ℕ
place_after None is_new k before = before
place_after (Some sent) is_new k before = cond is_new (Some k) before

placed : (index : Index) (o : Option Sent) (at : ℕ) (from : Place) (k stamp : ℕ) (p : Place)
    → place_of (with_place o (origin_of at from) k index) stamp p ≡ place_after o ((at == stamp) && same_place from p) k (place_of index stamp p)
placed index None at from k stamp p = refl
placed index (Some sent) at from k stamp p =
    at_insert origin_cmp origin_total origin_exact index (origin_of at from) k (origin_of stamp p)
    ∙ ap (λ b. cond b (Some k) (place_of index stamp p)) (origin_test at from stamp p)

place_within : (o : Option Sent) (is_new : Bool) (n : ℕ) (before : Option ℕ) → ((k : ℕ) → before ≡ Some k → k < n) → (k : ℕ) → place_after o is_new n before ≡ Some k → k < n + 1
place_within None is_new n before below k e = let low = below k e in omega (arith, low)
place_within (Some sent) true n before below k e = let same : n ≡ k = same_Some n k e in omega (arith, same)
place_within (Some sent) false n before below k e = let low = below k e in omega (arith, low)

module _ (es : List Entry) (m : Moment) where
  -- what is found is what was sent last
  finds_by : (sent : Option Outgoing) → m.step.sent ≡ sent → (is_new : Bool) (old : Option ℕ) (before : Option (Place × Outgoing))
      → ((k : ℕ) → old ≡ Some k → k < length es) → option_and_then (sent_in es) old ≡ option_map printed_sent before
      → option_and_then (sent_in (es ++ entry_of m ∷ [])) (place_after (option_map sent_of sent) is_new (length es) old) ≡ option_map printed_sent (sent_if is_new m sent before)
  finds_by None is true old before below same = old_sent es (entry_of m) old below ∙ same
  finds_by None is false old before below same = old_sent es (entry_of m) old below ∙ same
  finds_by (Some out) is true old before below same =
      ap (option_and_then sent_by_entry) (snoc_end es (entry_of m)) ∙ ap (option_map sent_of) is
  finds_by (Some out) is false old before below same = old_sent es (entry_of m) old below ∙ same

pub next_sent : (index : Index) (ms : List Moment) (m : Moment) → IsIndexOf index ms → IsIndexOf (with_entry index (length (entries ms)) (entry_of m)) (m ∷ ms)
next_sent index ms m is = record {
  within = λ stamp p k e.
      let low = place_within (entry_of m).sent ((m.stamp == stamp) && same_place m.place p) (length (entries ms)) (place_of index stamp p) (is.within stamp p) k
      (sym (placed index (entry_of m).sent m.stamp m.place (length (entries ms)) stamp p) ∙ e) in
      let size = length-snoc (entries ms) (entry_of m) in
      omega (arith, low, size);
  finds = λ stamp p.
      ap (option_and_then (sent_in (entries ms ++ entry_of m ∷ []))) (placed index (entry_of m).sent m.stamp m.place (length (entries ms)) stamp p)
      ∙ finds_by (entries ms) m m.step.sent refl ((m.stamp == stamp) && same_place m.place p) (place_of index stamp p) (sent_from stamp p ms) (is.within stamp p) (is.finds stamp p);
}
