-- Lines are read one after the other.
use Rattle.std.proofs.Common.{◌≡◌, ◌≢◌, ◌<◌, ◌≤◌, ◌+◌, ◌==◌, inl, inr, ℕ, Bool, true, false, List, [], ◌∷◌, ◌++◌, length, Result, Ok, Err, codes, refl, ap, sym, subst, ◌∙◌, append_assoc, append-nil, arith}
use Rattle.std.proofs.lemmas.Bool.Decides.{nat_tests}
use Rattle.seata_types.specs.Orders.{same_text}
use Rattle.seata_types.specs.declared.limits.TheConstants.{HISTORY_BYTES}
use Rattle.history_text.specs.declared.entries.Entry.{Entry}
use Rattle.history_text.specs.declared.entries.Names.{Names}
use Rattle.entry_reader.proofs.Tests.{equal_texts, same_self}
use Rattle.entry_reader.specs.Reading.{entry_of}
use Rattle.report_judge.specs.Lines.{behind_line, first_line, lines}
use Rattle.report_judge.specs.Reading.{IsReadable, ReadFrom, Reads, with_entry}
use Rattle.report_judge.specs.Steps.{Gives, RefusesLine}
use Rattle.report_judge.specs.declared.errors.LinesError.{LinesError}
use Rattle.report_judge.specs.declared.errors.LinesError.TheVariants as error
use Rattle.report_judge.proofs.Cuts.{behind_shorter, few_lines, behind_short, lines_cut}

-- ---- one line

pub other_text : (a b : List ℕ) → same_text a b ≡ false → a ≢ b
other_text a b differs same = let no_one : true ≡ false = sym (same_self b) ∙ ap (λ t. same_text t b) (sym same) ∙ differs in cc

-- ---- the lines so far

-- these entries, and then what follows
abbrev pub with_all : List Entry → Result (List Entry) ℕ → Result (List Entry) ℕ
with_all es (Ok fs) = Ok (es ++ fs)
with_all es (Err n) = Err n

none_more : (r : Result (List Entry) ℕ) → with_all [] r ≡ r
none_more (Ok fs) = refl
none_more (Err n) = refl

one_more : (es : List Entry) (e : Entry) (r : Result (List Entry) ℕ) → with_all es (with_entry e r) ≡ with_all (es ++ e ∷ []) r
one_more es e (Ok fs) = ap (λ l. Ok l) (sym (append_assoc es (e ∷ []) fs))
one_more es e (Err n) = refl

-- the lines of a text are read as these entries up to line number n, with which this is left
pub record HasRead (names : Names) (text : List ℕ) (es : List Entry) (n : ℕ) (left : List ℕ) : Type 0 where
  pub reads : (r : Result (List Entry) ℕ) → ReadFrom names n (lines left) r → ReadFrom names 3 (lines text) (with_all es r)
  pub numbered : n + length left ≤ 3 + length text

module _ (names : Names) (text : List ℕ) where
  none_read : HasRead names text [] 3 text
  none_read = record { reads = λ r is. subst (ReadFrom names 3 (lines text)) (sym (none_more r)) is; numbered = omega arith }

  pub at_start : (es : List Entry) → es ≡ [] → HasRead names text es 3 text
  at_start es none = subst (λ fs. HasRead names text fs 3 text) (sym none) none_read

  -- where the text ends
  pub at_end : (es : List Entry) (n : ℕ) (left : List ℕ) → length left ≡ 0 → HasRead names text es n left → ReadFrom names 3 (lines text) (Err n)
  at_end es n [] none h = h.reads (Err n) refl
  at_end es n (c ∷ cs) none h = absurd (omega (arith, none))

  module _ (es : List Entry) (n : ℕ) where
    -- the lines that are left, by the first of them
    by_line : (left : List ℕ) → 0 < length left → HasRead names text es n left → (r : Result (List Entry) ℕ)
        → ReadFrom names n (first_line left ∷ lines (behind_line left)) r → ReadFrom names 3 (lines text) (with_all es r)
    by_line [] some h r is = absurd (omega (arith, some))
    by_line (c ∷ cs) some h r is = h.reads r (subst (λ ls. ReadFrom names n ls r) (sym (lines_cut c cs)) is)

    pub at_sessions : (left : List ℕ) → 0 < length left → HasRead names text es n left → first_line left ≡ codes "sessions" → ReadFrom names 3 (lines text) (Ok es)
    at_sessions left some h is = subst (λ l. ReadFrom names 3 (lines text) (Ok l)) (append-nil es) (by_line left some h (Ok []) (inl (is, refl)))

    pub at_unreadable : (left : List ℕ) → 0 < length left → HasRead names text es n left → first_line left ≢ codes "sessions" → (IsReadable names (first_line left) → ⊥)
        → ReadFrom names 3 (lines text) (Err n)
    at_unreadable left some h other bad = by_line left some h (Err n) (inr (inl (other, bad, refl)))

    pub at_entry : (left : List ℕ) → 0 < length left → HasRead names text es n left → first_line left ≢ codes "sessions"
        → IsReadable names (first_line left) → HasRead names text (es ++ entry_of names (first_line left) ∷ []) (n + 1) (behind_line left)
    at_entry left some h other is = let e = entry_of names (first_line left) in record {
      reads = λ r more. subst (ReadFrom names 3 (lines text)) (one_more es e r) (by_line left some h (with_entry e r) (inr (inr (other, is, (r, more, refl)))));
      numbered = let less = behind_shorter left some in let before = h.numbered in omega (arith, less, before);
    }

-- ---- how many

few_by : (names : Names) (n : ℕ) (ls : List (List ℕ)) (es : List Entry) → ReadFrom names n ls (Ok es) → length es ≤ length ls
few_by names n [] es is = absurd (let no_one : Ok es ≡ Err n = is in cc)
few_by names n (l ∷ ls) es (inl heading) = let none : es ≡ [] = cc in let zero_long : length es ≡ 0 = ap (λ l. length l) none in omega (arith, zero_long)
few_by names n (l ∷ ls) es (inr (inl bad)) = absurd (let no_one : Ok es ≡ Err n = bad.2 in cc)
few_by names n (l ∷ ls) es (inr (inr more)) = behind more.2.0 more.2.2 (λ fs is. few_by names (n + 1) ls fs is) more.2.1
  where
    behind : (rest : Result (List Entry) ℕ) → Ok es ≡ with_entry (entry_of names l) rest → ((fs : List Entry) → ReadFrom names (n + 1) ls (Ok fs) → length fs ≤ length ls)
        → ReadFrom names (n + 1) ls rest → length es ≤ length (l ∷ ls)
    behind (Err m) same below is = absurd cc
    behind (Ok fs) same below is =
        let few = below fs is in
        let whole : es ≡ entry_of names l ∷ fs = cc in
        let long : length es ≡ length (entry_of names l ∷ fs) = ap (λ l. length l) whole in
        omega (arith, few, long)

-- the entries of a text are no more than its bytes
pub few_read : (names : Names) (text : List ℕ) (es : List Entry) → Reads names text (Ok es) → length es ≤ length text
few_read names text es (inl is) =
    let few = few_by names 3 (lines (behind_line text)) es is.1 in
    let lines_few = few_lines (behind_line text) in
    let short = behind_short text in omega (arith, few, lines_few, short)
few_read names text es (inr no_one) = absurd (let other : Ok es ≡ Err 2 = no_one.1 in cc)

pub few_judged : (names : Names) (text : List ℕ) (es : List Entry) → Reads names text (Ok es) → length text ≤ HISTORY_BYTES → length es ≤ HISTORY_BYTES
few_judged names text es is short = let few = few_read names text es is in omega (arith, few, short)

-- ---- the steps of reading

pub some_left : (left : List ℕ) (b : Bool) → b ≡ (length left == 0) → b ≡ false → 0 < length left
some_left left b is e = let test : (length left == 0) ≡ false = sym is ∙ e in grind (arith, nat_tests)

pub none_left : (left : List ℕ) (b : Bool) → b ≡ (length left == 0) → b ≡ true → length left ≡ 0
none_left left b is e = let test : (length left == 0) ≡ true = sym is ∙ e in grind (arith, nat_tests)

-- the first line is a word, or another
pub line_is : (left line word : List ℕ) (b : Bool) → b ≡ same_text line word → line ≡ first_line left → b ≡ true → first_line left ≡ word
line_is left line word b is same e = sym same ∙ equal_texts line word (sym is ∙ e)

pub line_is_not : (left line word : List ℕ) (b : Bool) → b ≡ same_text line word → line ≡ first_line left → b ≡ false → first_line left ≢ word
line_is_not left line word b is same e = λ equal. other_text line word (sym is ∙ e) (same ∙ equal)

-- a line that isn't readable, or want of memory, at which nothing is asked
pub refused_line : (asked : Result (List Entry) ℕ → Type 0) (names : Names) (line : List ℕ) (n : ℕ) (e : LinesError) → RefusesLine names line n e
    → ((IsReadable names line → ⊥) → asked (Err n)) → Gives asked (Err e)
refused_line asked names line n (error.Line told) bad is = subst (λ k. asked (Err k)) (sym bad.1) (is bad.0)
refused_line asked names line n error.NoMemory bad is = tt
