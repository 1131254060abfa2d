-- Texts whose pieces read back as a value.
use Rattle.std.proofs.Common.{◌≡◌, ℕ, ◌^◌, ◌<◌, ◌≤◌, Bool, true, false, List, [], ◌∷◌, ◌++◌, ap, ◌∙◌, nat_eq, arith}
use Rattle.std.specs.Prelude.{◌&&◌, not, codes}
use Rattle.std.specs.List.{list_all}
use Rattle.std.specs.Fmt.{decimal}
use Rattle.std.proofs.lemmas.Bool.Decides.{nat_tests}
use Rattle.seata_types.specs.Orders.{same_text}
use Rattle.seata_types.specs.declared.ids.BranchId.{BranchId}
use Rattle.seata_types.specs.declared.ids.Xid.{Xid}
use Rattle.history_text.specs.Lines.{xid_text, branch_text, leg_text, call_text}
use Rattle.entry_reader.specs.declared.pieces.Separator.TheVariants as at
use Rattle.entry_reader.specs.Words.{is_empty}
use Rattle.entry_reader.specs.Types.{Is16, IsXid, IsBranch}
use Rattle.entry_reader.proofs.Closed.{goes, closed-nil}
use Rattle.entry_reader.proofs.Spells.{Spells, IsPiece, one, after_word}
use Rattle.entry_reader.proofs.Identities.{xid_piece, leg_spells, call_spells}
use Rattle.entry_reader.proofs.Literals.{decimal-starts}

-- the text's pieces read as the value, whatever pieces follow
pub record Reads {X : Type 0} (read : List (List ℕ) → X) (t : List ℕ) (x : X) : Type 0 where
  pub first : List ℕ
  pub more : List (List ℕ)
  pub spells : Spells t (first ∷ more)
  pub back : (rest : List (List ℕ)) → read (first ∷ (more ++ rest)) ≡ x

-- the same where an empty piece follows
pub record ReadsLast {X : Type 0} (read : List (List ℕ) → X) (t : List ℕ) (x : X) : Type 0 where
  pub first : List ℕ
  pub more : List (List ℕ)
  pub spells : Spells t (first ∷ more)
  pub back : read (first ∷ (more ++ ([] ∷ []))) ≡ x

pub ap2 : {A B C : Type 0} (f : A → B → C) {a x : A} {b y : B} → a ≡ x → b ≡ y → f a b ≡ f x y
ap2 f {a = a} {x = x} {b = b} {y = y} p q = ap (λ z. f z b) p ∙ ap (λ z. f x z) q

pub ap3 : {A B C D : Type 0} (f : A → B → C → D) {a x : A} {b y : B} {c z : C} → a ≡ x → b ≡ y → c ≡ z → f a b c ≡ f x y z
ap3 f {a = a} {x = x} {b = b} {y = y} {c = c} {z = z} p q r = ap (λ w. f w b c) p ∙ ap2 (f x) q r

pub ap4 : {A B C D E : Type 0} (f : A → B → C → D → E) {a x : A} {b y : B} {c z : C} {d w : D} → a ≡ x → b ≡ y → c ≡ z → d ≡ w → f a b c d ≡ f x y z w
ap4 f {a = a} {x = x} {b = b} {y = y} {c = c} {z = z} {d = d} {w = w} p q r s = ap (λ v. f v b c d) p ∙ ap3 (f x) q r s

pub ap5 : {A B C D E F : Type 0} (f : A → B → C → D → E → F) {a x : A} {b y : B} {c z : C} {d w : D} {e v : E} → a ≡ x → b ≡ y → c ≡ z → d ≡ w → e ≡ v → f a b c d e ≡ f x y z w v
ap5 f {a = a} {x = x} {b = b} {y = y} {c = c} {z = z} {d = d} {w = w} {e = e} {v = v} p q r s t = ap (λ u. f u b c d e) p ∙ ap4 (f x) q r s t

-- ---- words in front of identities

pub xid_word : (w : List ℕ) → list_all (goes at.Space) w ≡ true → list_all (goes at.Bar) w ≡ true → (xid : Xid) → IsXid xid → Spells (w ++ (32 ∷ xid_text xid)) (w ∷ xid_text xid ∷ [])
xid_word w spaces bars xid h = after_word w spaces bars (one (xid_piece xid h))

pub leg_word : (w : List ℕ) → list_all (goes at.Space) w ≡ true → list_all (goes at.Bar) w ≡ true → (xid : Xid) (branch : BranchId) → IsXid xid → IsBranch branch
    → Spells (w ++ (32 ∷ leg_text xid branch)) (w ∷ xid_text xid ∷ branch_text branch ∷ [])
leg_word w spaces bars xid branch h k = after_word w spaces bars (leg_spells xid branch h k)

pub call_word : (w : List ℕ) → list_all (goes at.Space) w ≡ true → list_all (goes at.Bar) w ≡ true → (xid : Xid) (call : ℕ) → IsXid xid → Is16 call
    → Spells (w ++ (32 ∷ call_text xid call)) (w ∷ xid_text xid ∷ (codes "c" ++ decimal call) ∷ [])
call_word w spaces bars xid call h k = after_word w spaces bars (call_spells xid call h k)

pub empty_piece : IsPiece []
empty_piece = record { spaces = closed-nil at.Space; bars = closed-nil at.Bar }

-- ---- numbers are neither empty nor words

pub decimal_some : (n : ℕ) → n < 2 ^ 64 → is_empty (decimal n) ≡ false
decimal_some n small = ap is_empty (decimal-starts n small).is

-- none of the words before a durable act
abbrev pub is_apart : List ℕ → Bool
is_apart p = not (same_text p (codes "kept")) && not (same_text p (codes "at"))

digit_apart : (c : ℕ) (cs : List ℕ) → c ≤ 57 → is_apart (c ∷ cs) ≡ true
digit_apart c cs low =
    let kept : nat_eq c 107 ≡ false = grind (arith, nat_tests) in
    let flight : nat_eq c 97 ≡ false = grind (arith, nat_tests) in
    ap (λ b. not (b && same_text cs (codes "ept")) && not (nat_eq c 97 && same_text cs (codes "t"))) kept
    ∙ ap (λ b. not (b && same_text cs (codes "t"))) flight

pub decimal_apart : (n : ℕ) → n < 2 ^ 64 → is_apart (decimal n) ≡ true
decimal_apart n small =
    let starts = decimal-starts n small in ap is_apart starts.is ∙ digit_apart starts.first starts.others starts.low
