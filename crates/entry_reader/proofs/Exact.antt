-- What the comparison of a line with the entry's own line tells.
use Rattle.std.proofs.Common.{◌≡◌, Bool, true, false, List, ℕ, ap, sym, subst, ◌∙◌}
use Rattle.std.specs.Prelude.{◌&&◌}
use Rattle.seata_types.specs.Orders.{same_text}
use Rattle.history_text.specs.Lines.{entry_text}
use Rattle.history_text.specs.declared.entries.Entry.{Entry}
use Rattle.history_text.specs.declared.entries.Names.{Names}
use Rattle.entry_reader.specs.Reading.{IsLineOf, IsNoLine, entry_of}
use Rattle.entry_reader.specs.Writable.{is_entry}
use Rattle.entry_reader.proofs.Ascii.{both_left, both_right}
use Rattle.entry_reader.proofs.EntryTexts.{reads_back}
use Rattle.entry_reader.proofs.Tests.{equal_texts, same_self}

pub line_of : (names : Names) (e : Entry) (line : List ℕ) → (same_text (entry_text names e) line && is_entry names e) ≡ true → IsLineOf names e line
line_of names e line is = record {
  text = equal_texts (entry_text names e) line (both_left (same_text (entry_text names e) line) (is_entry names e) is);
  fits = both_right (same_text (entry_text names e) line) (is_entry names e) is;
}

no_both : (a b : Bool) → (a && b) ≡ false → a ≡ true → b ≡ true → ⊥
no_both true true h p q = cc
no_both true false h p q = cc
no_both false b h p q = cc

own_line : (names : Names) (line : List ℕ) (e : Entry) → entry_text names e ≡ line → same_text (entry_text names e) line ≡ true
own_line names line e is = ap (λ t. same_text t line) is ∙ same_self line

pub no_line : (names : Names) (line : List ℕ) (found : Entry) → found ≡ entry_of names line → (same_text (entry_text names found) line && is_entry names found) ≡ false → IsNoLine names line
no_line names line found is differs = λ are e types fits text.
    let back : found ≡ e = is ∙ ap (λ t. entry_of names t) (sym text) ∙ reads_back names e are types fits in
    no_both (same_text (entry_text names e) line) (is_entry names e)
    (subst (λ (x : Entry). (same_text (entry_text names x) line && is_entry names x) ≡ false) back differs) (own_line names line e text) fits

pub unlike : (names : Names) (line : List ℕ) (found : Entry) → found ≡ entry_of names line → (same_text (entry_text names found) line && is_entry names found) ≡ false
    → IsLineOf names (entry_of names line) line → ⊥
unlike names line found is differs of =
    no_both (same_text (entry_text names found) line) (is_entry names found) differs
    (own_line names line found (ap (entry_text names) is ∙ of.text)) (ap (is_entry names) is ∙ of.fits)
