-- Texts that are cut nowhere, whatever follows them.
use Rattle.std.proofs.Common.{◌≡◌, ℕ, ◌+◌, ◌%◌, ◌^◌, ◌<◌, ◌==◌, Bool, true, false, List, [], ◌∷◌, ◌++◌, refl, ap, sym, ◌∙◌, append_assoc, arith}
use Rattle.std.specs.Prelude.{not, ◌&&◌}
use Rattle.std.specs.List.{list_all}
use Rattle.std.specs.Fmt.{decimal}
use Rattle.std.proofs.lemmas.Bool.Decides.{nat_tests}
use Rattle.std.proofs.lemmas.List.Folds.{list_all-append}
use Rattle.std.proofs.lemmas.Fmt.{decimal_by_steps}
use Rattle.entry_reader.specs.declared.pieces.Separator.{Separator}
use Rattle.entry_reader.specs.declared.pieces.Separator.TheVariants as at
use Rattle.entry_reader.specs.declared.pieces.Inside.TheVariants as inside
use Rattle.entry_reader.specs.Cuts.{separates, after, prefixed, placed, cut}
use Rattle.entry_reader.proofs.Ascii.{both_left, both_right}
use Rattle.entry_reader.proofs.CutBytes.{prefixed-prefixed, prefixed-nothing}

-- a byte that neither separates nor opens anything
abbrev pub goes : Separator → ℕ → Bool
goes s c = not (separates s c) && (not (c == 39) && not (c == 40))

abbrev pub IsClosed : Separator → List ℕ → Type 0
IsClosed s t = (rest : List ℕ) → cut s inside.Nothing (t ++ rest) ≡ prefixed t (cut s inside.Nothing rest)

pub closed-nil : (s : Separator) → IsClosed s []
closed-nil s rest = sym (prefixed-nothing s inside.Nothing rest)

pub closed-append : (s : Separator) (a b : List ℕ) → IsClosed s a → IsClosed s b → IsClosed s (a ++ b)
closed-append s a b first second rest =
    ap (λ t. cut s inside.Nothing t) (append_assoc a b rest) ∙ first (b ++ rest) ∙ ap (λ ps. prefixed a ps) (second rest)
    ∙ prefixed-prefixed a b (cut s inside.Nothing rest)

not-true : (b : Bool) → not b ≡ true → b ≡ false
not-true true h = cc
not-true false h = refl

stays : (c : ℕ) → (c == 39) ≡ false → (c == 40) ≡ false → after inside.Nothing c ≡ inside.Nothing
stays c quote bracket = rw (quote, bracket) refl

pub closed-byte : (s : Separator) (c : ℕ) → goes s c ≡ true → IsClosed s (c ∷ [])
closed-byte s c is rest =
    let no_separator : separates s c ≡ false = not-true (separates s c) (both_left (not (separates s c)) (not (c == 39) && not (c == 40)) is) in
    let opens_nothing : (not (c == 39) && not (c == 40)) ≡ true = both_right (not (separates s c)) (not (c == 39) && not (c == 40)) is in
    let same : after inside.Nothing c ≡ inside.Nothing =
    stays c (not-true (c == 39) (both_left (not (c == 39)) (not (c == 40)) opens_nothing)) (not-true (c == 40) (both_right (not (c == 39)) (not (c == 40)) opens_nothing)) in
    ap (λ b. placed b c (cut s (after inside.Nothing c) rest)) no_separator ∙ ap (λ i. prefixed (c ∷ []) (cut s i rest)) same

pub closed-all : (s : Separator) (t : List ℕ) → list_all (goes s) t ≡ true → IsClosed s t
closed-all s [] all = closed-nil s
closed-all s (c ∷ cs) all =
    closed-append s (c ∷ []) cs (closed-byte s c (both_left (goes s c) (list_all (goes s) cs) all)) (closed-all s cs (both_right (goes s c) (list_all (goes s) cs) all))

pub goes_digit : (s : Separator) (k : ℕ) → k < 10 → goes s (48 + k) ≡ true
goes_digit at.Bar k low = grind (arith, nat_tests)
goes_digit at.Space k low = grind (arith, nat_tests)
goes_digit at.Name k low = grind (arith, nat_tests)
goes_digit at.Part k low = grind (arith, nat_tests)
goes_digit at.Item k low = grind (arith, nat_tests)

both : (a b : Bool) → a ≡ true → b ≡ true → (a && b) ≡ true
both true true p q = refl
both true false p q = q
both false b p q = p

pub all-append : (s : Separator) (a b : List ℕ) → list_all (goes s) a ≡ true → list_all (goes s) b ≡ true → list_all (goes s) (a ++ b) ≡ true
all-append s a b first second = list_all-append (goes s) a b ∙ both (list_all (goes s) a) (list_all (goes s) b) first second

pub decimal-goes : (s : Separator) (n : ℕ) → n < 2 ^ 64 → list_all (goes s) (decimal n) ≡ true
decimal-goes s n small = decimal_by_steps (λ k ds. list_all (goes s) ds ≡ true)
    (λ k low. both (goes s (48 + k)) true (goes_digit s k low) refl)
    (λ k ds high so_far.
    let low : k % 10 < 10 = omega arith in
    all-append s ds ((48 + k % 10) ∷ []) so_far (both (goes s (48 + k % 10)) true (goes_digit s (k % 10) low) refl))
    n small
