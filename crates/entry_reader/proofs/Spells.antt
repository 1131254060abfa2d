-- Texts that are cut into certain pieces at spaces, and nowhere at bars.
use Rattle.std.proofs.Common.{◌≡◌, ℕ, ◌^◌, ◌<◌, true, List, [], ◌∷◌, ◌++◌, refl, ap, ◌∙◌, append_assoc, append-nil}
use Rattle.std.specs.List.{list_all}
use Rattle.std.specs.Fmt.{decimal}
use Rattle.entry_reader.specs.declared.pieces.Separator.TheVariants as at
use Rattle.entry_reader.specs.declared.pieces.Inside.TheVariants as inside
use Rattle.entry_reader.specs.Cuts.{prefixed, cut}
use Rattle.entry_reader.proofs.Closed.{goes, IsClosed, closed-append, closed-byte, closed-all, decimal-goes}

-- pieces in front of the first of others, which the last of them runs into
abbrev pub attach : List (List ℕ) → List (List ℕ) → List (List ℕ)
attach [] others = others
attach (p ∷ []) others = prefixed p others
attach (p ∷ q ∷ ps) others = p ∷ attach (q ∷ ps) others

pub record Spells (t : List ℕ) (ps : List (List ℕ)) : Type 0 where
  pub spaces : (rest : List ℕ) → cut at.Space inside.Nothing (t ++ rest) ≡ attach ps (cut at.Space inside.Nothing rest)
  pub bars : IsClosed at.Bar t

-- one piece
pub record IsPiece (t : List ℕ) : Type 0 where
  pub spaces : IsClosed at.Space t
  pub bars : IsClosed at.Bar t

pub one : {t : List ℕ} → IsPiece t → Spells t (t ∷ [])
one p = record { spaces = p.spaces; bars = p.bars }

attach-beside : (p : List ℕ) (ps : List (List ℕ)) (q : List ℕ) (qs rest : List (List ℕ)) → attach (p ∷ ps) ([] ∷ attach (q ∷ qs) rest) ≡ attach (p ∷ (ps ++ (q ∷ qs))) rest
attach-beside p [] q qs rest = ap (λ x. x ∷ attach (q ∷ qs) rest) (append-nil p)
attach-beside p (r ∷ ps) q qs rest = ap (λ z. p ∷ z) (attach-beside r ps q qs rest)

-- pieces, a space and further pieces
pub beside : {t u p q : List ℕ} {ps qs : List (List ℕ)} → Spells t (p ∷ ps) → Spells u (q ∷ qs) → Spells (t ++ (32 ∷ u)) (p ∷ (ps ++ (q ∷ qs)))
beside {t = t} {u = u} {p = p} {q = q} {ps = ps} {qs = qs} first second = record {
  spaces = λ rest.
      ap (λ z. cut at.Space inside.Nothing z) (append_assoc t (32 ∷ u) rest) ∙ first.spaces (32 ∷ (u ++ rest))
      ∙ ap (λ z. attach (p ∷ ps) ([] ∷ z)) (second.spaces rest) ∙ attach-beside p ps q qs (cut at.Space inside.Nothing rest);
  bars = closed-append at.Bar t (32 ∷ u) first.bars (closed-append at.Bar (32 ∷ []) u (closed-byte at.Bar 32 refl) second.bars);
}

-- ---- single pieces

pub word : (w : List ℕ) → list_all (goes at.Space) w ≡ true → list_all (goes at.Bar) w ≡ true → IsPiece w
word w spaces bars = record { spaces = closed-all at.Space w spaces; bars = closed-all at.Bar w bars }

pub joined : {a b : List ℕ} → IsPiece a → IsPiece b → IsPiece (a ++ b)
joined {a = a} {b = b} first second = record {
  spaces = closed-append at.Space a b first.spaces second.spaces;
  bars = closed-append at.Bar a b first.bars second.bars;
}

pub decimal_piece : (n : ℕ) → n < 2 ^ 64 → IsPiece (decimal n)
decimal_piece n small = word (decimal n) (decimal-goes at.Space n small) (decimal-goes at.Bar n small)

-- a word and a space in front
pub after_word : {t p : List ℕ} {ps : List (List ℕ)} (w : List ℕ) → list_all (goes at.Space) w ≡ true → list_all (goes at.Bar) w ≡ true → Spells t (p ∷ ps) → Spells (w ++ (32 ∷ t)) (w ∷ (p ∷ ps))
after_word w spaces bars others = beside (one (word w spaces bars)) others
