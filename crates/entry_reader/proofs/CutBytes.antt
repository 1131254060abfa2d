-- Cutting a text byte by byte.
use Rattle.std.proofs.Common.{◌≡◌, ℕ, Bool, true, false, List, [], ◌∷◌, ◌++◌, refl, ap, sym, ◌∙◌, append_assoc, append-nil}
use Rattle.entry_reader.specs.declared.pieces.Separator.{Separator}
use Rattle.entry_reader.specs.declared.pieces.Inside.{Inside}
use Rattle.entry_reader.specs.Cuts.{ends, after, prefixed, placed, cut}

pub prefixed-prefixed : (a b : List ℕ) (ps : List (List ℕ)) → prefixed a (prefixed b ps) ≡ prefixed (a ++ b) ps
prefixed-prefixed a b [] = refl
prefixed-prefixed a b (p ∷ ps) = ap (λ q. q ∷ ps) (sym (append_assoc a b p))

placed-nothing : (b : Bool) (c : ℕ) (ps : List (List ℕ)) → prefixed [] (placed b c ps) ≡ placed b c ps
placed-nothing true c ps = refl
placed-nothing false c [] = refl
placed-nothing false c (p ∷ ps) = refl

pub prefixed-nothing : (s : Separator) (i : Inside) (text : List ℕ) → prefixed [] (cut s i text) ≡ cut s i text
prefixed-nothing s i [] = refl
prefixed-nothing s i (c ∷ cs) = placed-nothing (ends s i c) c (cut s (after i c) cs)

-- a separator ends the piece
pub cut-ended : (s : Separator) (i : Inside) (c : ℕ) (cs text piece : List ℕ) (found next whole : List (List ℕ)) → text ≡ c ∷ cs → ends s i c ≡ true → next ≡ found ++ piece ∷ []
    → found ++ prefixed piece (cut s i text) ≡ whole → next ++ prefixed [] (cut s (after i c) cs) ≡ whole
cut-ended s i c cs text piece found next whole is ended wrote so_far =
    let here : cut s i text ≡ [] ∷ cut s (after i c) cs = ap (λ t. cut s i t) is ∙ ap (λ b. placed b c (cut s (after i c) cs)) ended in
    let told : found ++ (piece ++ []) ∷ cut s (after i c) cs ≡ whole = rw here at so_far in
    let whole_piece : found ++ piece ∷ cut s (after i c) cs ≡ whole = rw append-nil at told in
    rw (wrote, prefixed-nothing s (after i c) cs, append_assoc) whole_piece

-- any other byte goes on with it
pub cut-went_on : (s : Separator) (i : Inside) (c : ℕ) (cs text piece more : List ℕ) (found whole : List (List ℕ)) → text ≡ c ∷ cs → ends s i c ≡ false → more ≡ piece ++ c ∷ []
    → found ++ prefixed piece (cut s i text) ≡ whole → found ++ prefixed more (cut s (after i c) cs) ≡ whole
cut-went_on s i c cs text piece more found whole is goes_on wrote so_far =
    let here : cut s i text ≡ prefixed (c ∷ []) (cut s (after i c) cs) = ap (λ t. cut s i t) is ∙ ap (λ b. placed b c (cut s (after i c) cs)) goes_on in
    let joined : prefixed piece (cut s i text) ≡ prefixed more (cut s (after i c) cs) =
    ap (λ ps. prefixed piece ps) here ∙ prefixed-prefixed piece (c ∷ []) (cut s (after i c) cs) ∙ ap (λ m. prefixed m (cut s (after i c) cs)) (sym wrote) in
    ap (λ ps. found ++ ps) (sym joined) ∙ so_far
