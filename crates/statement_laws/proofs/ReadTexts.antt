-- A text in quotes is written with the very bytes that it is read from.
use Rattle.std.proofs.Common.{◌≡◌, ℕ, ◌+◌, Bool, true, false, List, [], ◌∷◌, ◌++◌, length, Option, Some, None, refl, ap, arith}
use Rattle.std.specs.Prelude.{if◌then◌else◌, ◌==◌, IfSome}
use Rattle.std.proofs.lemmas.Bool.{eqb-true}
use Rattle.sql_reader.specs.Canonical.{doubled}
use Rattle.sql_reader.specs.Lexing.{quote, behind, text_at}

-- the value and the bytes of a text behind its opening quote
pub record IsReadFrom (z : List ℕ) (found : List ℕ × ℕ) : Type 0 where
  pub rest : List ℕ
  pub whole : z ≡ doubled found.0 ++ quote ∷ rest
  pub bytes : found.1 ≡ length (doubled found.0) + 1

double-read : (z : List ℕ) (o : Option (List ℕ × ℕ)) → IfSome o (IsReadFrom z) → IfSome (behind (quote ∷ []) 2 o) (IsReadFrom (quote ∷ quote ∷ z))
double-read z None is = tt
double-read z (Some found) is = record { rest = is.rest; whole = ap (λ w. quote ∷ quote ∷ w) is.whole; bytes = omega (arith, is.bytes) }

plain-read : (b : ℕ) (z : List ℕ) (o : Option (List ℕ × ℕ)) → (b == quote) ≡ false → IfSome o (IsReadFrom z) → IfSome (behind (b ∷ []) 1 o) (IsReadFrom (b ∷ z))
plain-read b z None plain is = tt
plain-read b z (Some found) plain is = record { rest = is.rest; whole = rw plain (ap (λ w. b ∷ w) is.whole); bytes = rw plain (omega (arith, is.bytes)) }

end-read : (z : List ℕ) → IsReadFrom (quote ∷ z) ([], 1)
end-read z = record { rest = z; whole = refl; bytes = refl }

pub text-read : (z : List ℕ) → IfSome (text_at z) (IsReadFrom z)
text-read [] = tt
text-read (b ∷ []) = by_test (b == quote) refl
  where
    by_test : (is : Bool) → (b == quote) ≡ is → IfSome (if is then Some ([], 1) else None) (IsReadFrom (b ∷ []))
    by_test true e = rw (eqb-true b quote e) (end-read [])
    by_test false e = tt
text-read (b ∷ c ∷ z) = by_tests (b == quote) refl (c == quote) refl (text-read z) (text-read (c ∷ z))
  where
    by_tests : (is : Bool) → (b == quote) ≡ is → (next : Bool) → (c == quote) ≡ next → IfSome (text_at z) (IsReadFrom z) → IfSome (text_at (c ∷ z)) (IsReadFrom (c ∷ z))
        → IfSome (if is then (if next then behind (quote ∷ []) 2 (text_at z) else Some ([], 1)) else behind (b ∷ []) 1 (text_at (c ∷ z))) (IsReadFrom (b ∷ c ∷ z))
    by_tests true e true f shorter short = rw (eqb-true b quote e, eqb-true c quote f) (double-read z (text_at z) shorter)
    by_tests true e false f shorter short = rw (eqb-true b quote e) (end-read (c ∷ z))
    by_tests false e next f shorter short = plain-read b (c ∷ z) (text_at (c ∷ z)) e short
