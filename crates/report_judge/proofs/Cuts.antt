-- A text that isn't empty is its first line and the lines of what stands behind.
use Rattle.std.proofs.Common.{◌≡◌, ◌<◌, ◌≤◌, ◌+◌, ◌-◌, ℕ, suc, Bool, true, false, if◌then◌else◌, cond, not, List, [], ◌∷◌, length, take, drop, Some, None, refl, ap, sym, ◌∙◌, arith}
use Rattle.std.specs.Prelude.{nat_lt, position}
use Rattle.std.specs.List.{position_or_len}
use Rattle.std.proofs.lemmas.Bool.Decides.{nat_tests}
use Rattle.std.proofs.lemmas.List.{drop_all, length-drop, take_all}
use Rattle.std.proofs.lemmas.List.Sums.{prefix_len-le-length}
use Rattle.std.proofs.lemmas.Option.{same_Some}
use Rattle.report_judge.specs.Lines.{behind_line, first_line, is_feed, lines, with_byte}

-- ---- where the first line ends

-- how long it is
abbrev pub long : List ℕ → ℕ
long text = position_or_len is_feed text

long_within : (text : List ℕ) → long text ≤ length text
long_within text = prefix_len-le-length (λ c. not (is_feed c)) text

place_by : (b : Bool) (n m at : ℕ) → nat_lt n m ≡ b → cond b (Some n) None ≡ Some at → (n ≡ at) × (n < m)
place_by true n m at less e = (same_Some n at e, grind (arith, nat_tests))
place_by false n m at less e = absurd cc

pub feed_at : (text : List ℕ) (at : ℕ) → position is_feed text ≡ Some at → (long text ≡ at) × (at < length text)
feed_at text at e =
    let p = place_by (nat_lt (long text) (length text)) (long text) (length text) at refl e in
    let is : long text ≡ at = p.0 in
    let within : long text < length text = p.1 in
    (is, omega (arith, is, within))

none_by : (b : Bool) (n m : ℕ) → nat_lt n m ≡ b → cond b (Some n) None ≡ None → m ≤ n
none_by true n m less e = absurd cc
none_by false n m less e = grind (arith, nat_tests)

-- without a line feed it is the whole text
pub no_feed : (text : List ℕ) → position is_feed text ≡ None → long text ≡ length text
no_feed text e =
    let most : length text ≤ long text = none_by (nat_lt (long text) (length text)) (long text) (length text) refl e in
    let within : long text ≤ length text = long_within text in
    omega (arith, most, within)

-- ---- the two parts

pub front_at : (text : List ℕ) (at : ℕ) → position is_feed text ≡ Some at → take at text ≡ first_line text
front_at text at e = ap (λ k. take k text) (sym (feed_at text at e).0)

pub rest_at : (text : List ℕ) (at : ℕ) → position is_feed text ≡ Some at → drop (at + 1) text ≡ behind_line text
rest_at text at e = ap (λ k. drop (k + 1) text) (sym (feed_at text at e).0)

pub front_none : (text : List ℕ) → position is_feed text ≡ None → text ≡ first_line text
front_none text e = let all = no_feed text e in sym (take_all (long text) text (omega (arith, all)))

pub rest_none : (text : List ℕ) → position is_feed text ≡ None → [] ≡ behind_line text
rest_none text e = let all = no_feed text e in sym (drop_all (long text + 1) text (omega (arith, all)))

-- ---- lines

take_more : (n : ℕ) (c : ℕ) (cs : List ℕ) → take (1 + n) (c ∷ cs) ≡ c ∷ take n cs
take_more n c cs = let one : 1 + n ≡ suc n = omega arith in ap (λ k. take k (c ∷ cs)) one

drop_more : (n : ℕ) (c : ℕ) (cs : List ℕ) → drop ((1 + n) + 1) (c ∷ cs) ≡ drop (n + 1) cs
drop_more n c cs = let two : (1 + n) + 1 ≡ suc (n + 1) = omega arith in ap (λ k. drop k (c ∷ cs)) two

-- the lines of one byte more
more_by : (b : Bool) (n : ℕ) (c : ℕ) (cs : List ℕ) → with_byte c (lines cs) ≡ (c ∷ take n cs) ∷ lines (drop (n + 1) cs)
    → (if b then [] ∷ lines cs else with_byte c (lines cs)) ≡ take (cond (not b) (1 + n) 0) (c ∷ cs) ∷ lines (drop (cond (not b) (1 + n) 0 + 1) (c ∷ cs))
more_by true n c cs e = refl
more_by false n c cs e =
    e ∙ ap (λ l. l ∷ lines (drop (n + 1) cs)) (sym (take_more n c cs)) ∙ ap (λ t. take (1 + n) (c ∷ cs) ∷ lines t) (sym (drop_more n c cs))

pub lines_cut : (c : ℕ) (cs : List ℕ) → lines (c ∷ cs) ≡ first_line (c ∷ cs) ∷ lines (behind_line (c ∷ cs))
lines_cut c [] = more_by (is_feed c) 0 c [] refl
lines_cut c (d ∷ ds) = more_by (is_feed c) (long (d ∷ ds)) c (d ∷ ds) (ap (with_byte c) (lines_cut d ds))

-- what stands behind a line is shorter
drop_short : (n : ℕ) (text : List ℕ) → length (drop n text) ≤ length text
drop_short n text = let left : length (drop n text) ≡ length text - n = length-drop n text in omega (arith, left)

pub behind_short : (text : List ℕ) → length (behind_line text) ≤ length text
behind_short text = drop_short (long text + 1) text

pub behind_shorter : (text : List ℕ) → 0 < length text → length (behind_line text) + 1 ≤ length text
behind_shorter text some = shorter (long text) text some
  where
    shorter : (n : ℕ) (t : List ℕ) → 0 < length t → length (drop (n + 1) t) + 1 ≤ length t
    shorter n t more = let left : length (drop (n + 1) t) ≡ length t - (n + 1) = length-drop (n + 1) t in omega (arith, left, more)

-- there are no more lines than bytes
byte_lines : (c : ℕ) (ls : List (List ℕ)) → length (with_byte c ls) ≤ length ls + 1
byte_lines c [] = omega arith
byte_lines c (l ∷ ls) = omega arith

pub few_lines : (text : List ℕ) → length (lines text) ≤ length text
few_lines [] = omega arith
few_lines (c ∷ cs) = by (is_feed c) (few_lines cs)
  where
    by : (b : Bool) → length (lines cs) ≤ length cs → length (if b then [] ∷ lines cs else with_byte c (lines cs)) ≤ length (c ∷ cs)
    by true below = omega (arith, below)
    by false below = let one = byte_lines c (lines cs) in omega (arith, below, one)
