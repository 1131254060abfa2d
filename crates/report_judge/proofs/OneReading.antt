-- Lines are read in one way, and a line that isn't readable is the line of no entry.
use Rattle.std.proofs.Common.{◌≡◌, ◌+◌, inl, inr, ℕ, List, [], ◌∷◌, Result, ap, sym, subst, ◌∙◌}
use Rattle.history_text.specs.declared.entries.Entry.{Entry}
use Rattle.history_text.specs.declared.entries.Names.{Names}
use Rattle.history_text.specs.Report.{names_of}
use Rattle.entry_reader.proofs.EntryTexts.{reads_back}
use Rattle.entry_reader.specs.Reading.{IsLineOf, entry_of}
use Rattle.report_judge.specs.Exact.{UnreadableIsNoEntry}
use Rattle.report_judge.specs.Lines.{behind_line, lines}
use Rattle.report_judge.specs.Reading.{ReadFrom, Reads, with_entry}
use Rattle.report_judge.proofs.NodeNames.{names_are}

one_from : (names : Names) (n : ℕ) (ls : List (List ℕ)) (r t : Result (List Entry) ℕ) → ReadFrom names n ls r → ReadFrom names n ls t → r ≡ t
one_from names n [] r t a b = a ∙ sym b
one_from names n (l ∷ ls) r t (inl a) (inl b) = a.1 ∙ sym b.1
one_from names n (l ∷ ls) r t (inl a) (inr (inl b)) = absurd (b.0 a.0)
one_from names n (l ∷ ls) r t (inl a) (inr (inr b)) = absurd (b.0 a.0)
one_from names n (l ∷ ls) r t (inr (inl a)) (inl b) = absurd (a.0 b.0)
one_from names n (l ∷ ls) r t (inr (inl a)) (inr (inl b)) = a.2 ∙ sym b.2
one_from names n (l ∷ ls) r t (inr (inl a)) (inr (inr b)) = absurd (a.1 b.1)
one_from names n (l ∷ ls) r t (inr (inr a)) (inl b) = absurd (a.0 b.0)
one_from names n (l ∷ ls) r t (inr (inr a)) (inr (inl b)) = absurd (b.1 a.1)
one_from names n (l ∷ ls) r t (inr (inr a)) (inr (inr b)) =
    a.2.2 ∙ ap (with_entry (entry_of names l)) (one_from names (n + 1) ls a.2.0 b.2.0 a.2.1 b.2.1) ∙ sym b.2.2

pub one_reading : (names : Names) (text : List ℕ) (r t : Result (List Entry) ℕ) → Reads names text r → Reads names text t → r ≡ t
one_reading names text r t (inl a) (inl b) = one_from names 3 (lines (behind_line text)) r t a.1 b.1
one_reading names text r t (inl a) (inr b) = absurd (b.0 a.0)
one_reading names text r t (inr a) (inl b) = absurd (a.0 b.0)
one_reading names text r t (inr a) (inr b) = a.1 ∙ sym b.1

pub no_entry : UnreadableIsNoEntry
no_entry s line runs text bad e types is =
    let names : Names = names_of s in
    let back : e ≡ entry_of names line = sym (reads_back names e (names_are s runs) types is.fits) ∙ ap (entry_of names) is.text in
    bad (record { text = text; printed = subst (λ x. IsLineOf names x line) back is })
