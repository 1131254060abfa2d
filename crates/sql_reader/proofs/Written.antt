-- Pieces one after another.
use Rattle.std.proofs.Common.{◌≡◌, ℕ, suc, ◌+◌, ◌-◌, ◌<◌, List, [], ◌∷◌, ◌++◌, length, take, drop, get_or, add-one, drop-cons, arith, true, refl, ap, ◌∙◌, sym, append_assoc, append-nil}
use Rattle.std.specs.List.{flat_map}
use Rattle.std.proofs.Math.Seq.{take-length}
use Rattle.sql_reader.specs.declared.symbols.Symbol.TheVariants as symbol
use Rattle.sql_reader.specs.Canonical.{Piece, Fixed, Written, comma_separated, put, written, spaced}

pub written_append : (w : Written) (ps qs : List Piece) → written w (ps ++ qs) ≡ written (written w ps) qs
written_append w [] qs = refl
written_append w (p ∷ ps) qs = written_append (put w p) ps qs

written-text : (w : Written) (ps : List Piece) → (written w ps).text ≡ w.text ++ spaced w.is_tight ps
unfolding spaced put
written-text w [] = sym (append-nil w.text)
written-text w (p ∷ ps) = written-text (put w p) ps ∙ simp append_assoc

pub written_text : (ps : List Piece) → (written (record { text = []; is_tight = true }) ps).text ≡ spaced true ps
written_text ps = written-text (record { text = []; is_tight = true }) ps

take-all : {A : Type 0} (xs : List A) → take (suc (length xs) - 1) xs ≡ xs
take-all xs = let e : suc (length xs) - 1 ≡ length xs = omega arith in rw e (take-length xs)

-- the first of several items
pub first_written : {A : Type 0} (item : A → List Piece) (w : Written) (xs : List A) (x : A) → 0 < length xs → x ≡ get_or xs 0 x
    → written (written w (item x)) (flat_map (λ y. Fixed symbol.Comma ∷ item y) (take (length xs - 1) (drop 1 xs))) ≡ written w (comma_separated item xs)
first_written item w [] x some is = absurd (omega arith)
first_written item w (y ∷ ys) x some is =
    rw (is, take-all ys) (sym (written_append w (item y) (flat_map (λ y. Fixed symbol.Comma ∷ item y) ys)))

-- a further one
pub next_written : {A : Type 0} (item : A → List Piece) (w : Written) (xs : List A) (i : ℕ) (x : A) → i < length xs → x ≡ get_or xs i x
    → written (written (put w (Fixed symbol.Comma)) (item x)) (flat_map (λ y. Fixed symbol.Comma ∷ item y) (drop (i + 1) xs))
    ≡ written w (flat_map (λ y. Fixed symbol.Comma ∷ item y) (drop i xs))
next_written item w xs i x inside is =
    let here : drop i xs ≡ x ∷ drop (i + 1) xs = rw (add-one, drop-cons xs i x) (ap (λ y. y ∷ drop (suc i) xs) (sym is)) in
    rw here (sym (written_append (put w (Fixed symbol.Comma)) (item x) (flat_map (λ y. Fixed symbol.Comma ∷ item y) (drop (i + 1) xs))))
