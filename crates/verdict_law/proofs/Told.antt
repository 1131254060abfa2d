-- A legal history is told by its entries.
use Rattle.std.proofs.Common.{◌≡◌, List, [], ◌∷◌, ◌++◌, map, refl, sym, ap, ◌∙◌}
use Rattle.history_rules.specs.Nodes.{World, Past}
use Rattle.history_rules.specs.Histories.{Cause, Moment, Turn, Deliver, Missing, Wait, Stop, Crash, Restart, Local, Outside, Legal}
use Rattle.history_law.specs.EntrySafety.{Shown, shown}
use Rattle.history_law.proofs.ShownMoments.{entries_tell_moments}
use Rattle.history_text.specs.declared.entries.Cause.{Cause as Printed}
use Rattle.history_text.specs.declared.entries.Cause.TheVariants as cause
use Rattle.history_text.specs.declared.entries.Entry.{Entry}
use Rattle.history_text.specs.History.{cause_of, entry_of, entries}
use Rattle.verdict_law.specs.Verdicts.{reason_of}

-- ---- causes

reason_back : (c : Cause) → reason_of (cause_of c) ≡ c
reason_back Turn = refl
reason_back (Deliver stamp from) = refl
reason_back (Missing stamp) = refl
reason_back (Wait ticks) = refl
reason_back (Stop calls) = refl
reason_back Crash = refl
reason_back (Restart pick calls) = refl
reason_back (Local number) = refl
reason_back (Outside number) = refl

pub cause_back : (c : Printed) → cause_of (reason_of c) ≡ c
cause_back cause.Turn = refl
cause_back (cause.Deliver stamp from) = refl
cause_back (cause.Missing stamp) = refl
cause_back (cause.Wait ticks) = refl
cause_back (cause.Stop calls) = refl
cause_back cause.Crash = refl
cause_back (cause.Restart pick calls) = refl
cause_back (cause.Local number) = refl
cause_back (cause.Outside number) = refl

-- the cause of a moment is that of its entry
pub reasoned : (m : Moment) (e : Entry) → entry_of m ≡ e → m.cause ≡ reason_of e.cause
reasoned m e is = sym (reason_back m.cause) ∙ ap (λ (z : Entry). reason_of z.cause) is

-- ---- lists that end with one more

not_empty : {A : Type 0} (xs : List A) (x : A) → [] ≡ xs ++ x ∷ [] → ⊥
not_empty [] x e = absurd cc
not_empty (y ∷ ys) x e = absurd cc

last_same : {A : Type 0} (xs ys : List A) (x y : A) → xs ++ x ∷ [] ≡ ys ++ y ∷ [] → (xs ≡ ys) × (x ≡ y)
last_same [] [] x y e = (refl, cc)
last_same [] (b ∷ ys) x y e = let tail : [] ≡ ys ++ y ∷ [] = cc in absurd (not_empty ys y tail)
last_same (a ∷ xs) [] x y e = let tail : [] ≡ xs ++ x ∷ [] = cc in absurd (not_empty xs x tail)
last_same (a ∷ xs) (b ∷ ys) x y e =
    let tail : xs ++ x ∷ [] ≡ ys ++ y ∷ [] = cc in
    let head : a ≡ b = cc in
    let below = last_same xs ys x y tail in
    (ap (λ z. z ∷ xs) head ∙ ap (λ zs. b ∷ zs) below.0, below.1)

-- ---- histories

-- what an entry shows
abbrev shown_of : Entry → Shown
shown_of e = record { stamp = e.stamp; place = e.place; now = e.now; cause = reason_of e.cause; act = e.act }

shown_by : (m : Moment) → shown_of (entry_of m) ≡ shown m
shown_by m = λ i. record { stamp = m.stamp; place = m.place; now = m.now; cause = reason_back m.cause i; act = m.step.act }

same_shown : (ms ns : List Moment) → entries ms ≡ entries ns → map shown ms ≡ map shown ns
same_shown [] [] e = refl
same_shown [] (n ∷ ns) e = absurd (not_empty (entries ns) (entry_of n) e)
same_shown (m ∷ ms) [] e = absurd (not_empty (entries ms) (entry_of m) (sym e))
same_shown (m ∷ ms) (n ∷ ns) e =
    let both = last_same (entries ms) (entries ns) (entry_of m) (entry_of n) e in
    let head : shown m ≡ shown n = sym (shown_by m) ∙ ap shown_of both.1 ∙ shown_by n in
    ap (λ z. z ∷ map shown ms) head ∙ ap (λ zs. shown n ∷ zs) (same_shown ms ns both.0)

-- two legal histories with the same entries are the same
pub entries_tell : (w : World) (past : Past) (ms ns : List Moment) → Legal w past ms → Legal w past ns → entries ms ≡ entries ns → ms ≡ ns
entries_tell w past ms ns a b e = entries_tell_moments w past ms ns a b (same_shown ms ns e)
