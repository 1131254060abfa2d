-- A number is read back, and what is read as a number stands there.
use Rattle.std.proofs.Common.{◌≡◌, ℕ, ◌+◌, ◌^◌, ◌<◌, ◌≤◌, Bool, true, false, cond, ltb, List, [], ◌∷◌, ◌++◌, length, get_or, take, Ok, Err, refl, sym, ap, subst, ◌∙◌, arith, inl, inr}
use Rattle.std.specs.Int.{Width, w8, w16, w32, w64, byte_len, from_be_bytes, to_be_bytes}
use Rattle.std.proofs.lemmas.Bool.{cases_lt, ltb-false, le-ltb}
use Rattle.std.proofs.lemmas.List.{take_at, drop_at, take-append-drop, length-append, length-take, get_or_append_left, get_or_past}
use Rattle.std.proofs.lemmas.Nat.{be_bytes_2, be_bytes_4, be_bytes_8, from_be_bytes-to_be_bytes_2, from_be_bytes-to_be_bytes_4, from_be_bytes-to_be_bytes_8}
use Rattle.byte_fields.specs.declared.errors.FieldError.{FieldError}
use Rattle.byte_fields.specs.Reading.{Position, Read, and_then, gives, past, bytes_of, number_at}
use Rattle.byte_fields.specs.Exactness.{AreBytes, Stands, ReadsExactly}
use Rattle.byte_fields.proofs.Chains.{step_ok, ok_is}

-- a test that did not fail
pub guard_ok : {A : Type 0} (b : Bool) (d : FieldError) (x y : A) → cond b (Err d) (Ok x) ≡ Ok y → (b ≡ false) × (x ≡ y)
guard_ok true d x y e = absurd cc
guard_ok false d x y e = (refl, cc)

pub bytes_back : (start n : ℕ) (bytes : List ℕ) (at : ℕ) (rest : List ℕ) → length bytes ≡ n → bytes_of start n (record { at = at; rest = bytes ++ rest }) ≡ Ok (bytes, record { at = at + length bytes; rest = rest })
bytes_back start n bytes at rest len =
    let long : ltb (length (bytes ++ rest)) n ≡ false = le-ltb _ _ (omega (arith, length-append bytes rest)) in
    rw (long, take_at bytes rest n len, drop_at bytes rest n len, len) refl

pub bytes_only : (start n : ℕ) (bytes : List ℕ) (place after : Position) → bytes_of start n place ≡ Ok (bytes, after) → (length bytes ≡ n) × Stands place bytes after
bytes_only start n bytes place after e =
    let g = guard_ok (ltb (length place.rest) n) _ (take n place.rest, past n place) (bytes, after) e in
    let long : n ≤ length place.rest = ltb-false _ _ g.0 in
    let len : length (take n place.rest) ≡ n = omega (arith, length-take n place.rest) in
    subst (λ (r : List ℕ × Position). (length r.0 ≡ n) × Stands place r.0 r.1) g.1
    (len, record { rest = sym (take-append-drop n place.rest); at = omega arith })

-- each number of a front of bytes, also past its end
front_fits : (bytes rest place : List ℕ) → AreBytes place → place ≡ bytes ++ rest → (i : ℕ) → get_or bytes i 0 < 256
front_fits bytes rest place all same i =
    elim (cases_lt i (length bytes)) [
      | inl lt ↦
          let within : i < length place = omega (arith, ap length same, length-append bytes rest) in
          rw (← get_or_append_left bytes rest 0 i lt, ← same) (all i 0 within)
      | inr le ↦ rw (get_or_past bytes i 0 le) (omega arith)
    ]

pub record IsWide (w : Width) (limit : ℕ) : Type 0 where
  pub len : (n : ℕ) → length (to_be_bytes w n) ≡ byte_len w
  pub back : (bytes : List ℕ) → length bytes ≡ byte_len w → ((i : ℕ) → get_or bytes i 0 < 256) → to_be_bytes w (from_be_bytes w bytes) ≡ bytes
  pub again : (n : ℕ) → n < limit → from_be_bytes w (to_be_bytes w n) ≡ n
  pub below : (bytes : List ℕ) → ((i : ℕ) → get_or bytes i 0 < 256) → from_be_bytes w bytes < limit

pub wide16 : IsWide w16 (2 ^ 16)
wide16 = record {
  len = λ n. refl;
  back = λ bytes len fits. be_bytes_2 bytes _ len fits refl;
  again = λ n lt. from_be_bytes-to_be_bytes_2 n lt;
  below = λ bytes fits. omega (arith, fits 0, fits 1);
}

pub wide32 : IsWide w32 (2 ^ 32)
wide32 = record {
  len = λ n. refl;
  back = λ bytes len fits. be_bytes_4 bytes _ len fits refl;
  again = λ n lt. from_be_bytes-to_be_bytes_4 n lt;
  below = λ bytes fits. omega (arith, fits 0, fits 1, fits 2, fits 3);
}

pub wide64 : IsWide w64 (2 ^ 64)
wide64 = record {
  len = λ n. refl;
  back = λ bytes len fits. be_bytes_8 bytes _ len fits refl;
  again = λ n lt. from_be_bytes-to_be_bytes_8 n lt;
  below = λ bytes fits. omega (arith, fits 0, fits 1, fits 2, fits 3, fits 4, fits 5, fits 6, fits 7);
}

pub number_exact : (w : Width) (limit : ℕ) → IsWide w limit → ReadsExactly (number_at w) (to_be_bytes w) (λ n. n < limit)
unfolding number_at
number_exact w limit wide = record {
  back = λ n at rest lt.
      let one = bytes_back at (byte_len w) (to_be_bytes w n) at rest (wide.len n) in
      ap (λ (r : Read (List ℕ)). and_then r (λ bytes. gives (from_be_bytes w bytes))) one ∙ ap (λ (m : ℕ). Ok (m, record { at = at + length (to_be_bytes w n); rest = rest })) (wide.again n lt);
  only = λ n place after all e.
      let a = step_ok (bytes_of place.at (byte_len w) place) (λ bytes. gives (from_be_bytes w bytes)) (n, after) e in
      let b = bytes_only place.at (byte_len w) a.0.0 place a.0.1 a.1 in
      let fits = front_fits a.0.0 a.0.1.rest place.rest all b.1.rest in
      let same = ok_is (from_be_bytes w a.0.0, a.0.1) (n, after) a.2 in
      subst (λ (r : ℕ × Position). (r.0 < limit) × Stands place (to_be_bytes w r.0) r.1) same
      (wide.below a.0.0 fits, rw (wide.back a.0.0 b.0 fits) b.1);
}

pub two_bytes_exact : ReadsExactly (number_at w16) (to_be_bytes w16) (λ n. n < 2 ^ 16)
two_bytes_exact = number_exact w16 (2 ^ 16) wide16

pub four_bytes_exact : ReadsExactly (number_at w32) (to_be_bytes w32) (λ n. n < 2 ^ 32)
four_bytes_exact = number_exact w32 (2 ^ 32) wide32

pub eight_bytes_exact : ReadsExactly (number_at w64) (to_be_bytes w64) (λ n. n < 2 ^ 64)
eight_bytes_exact = number_exact w64 (2 ^ 64) wide64

-- one byte
pub byte_back : (b at : ℕ) (rest : List ℕ) → number_at w8 (record { at = at; rest = b ∷ rest }) ≡ Ok (b, record { at = at + 1; rest = rest })
unfolding number_at
byte_back b at rest = ap (λ (r : Read (List ℕ)). and_then r (λ bytes. gives (from_be_bytes w8 bytes))) (bytes_back at 1 (b ∷ []) at rest refl)

one_item : (xs : List ℕ) → length xs ≡ 1 → xs ≡ get_or xs 0 0 ∷ []
one_item [] e = absurd (omega arith)
one_item (x ∷ []) e = refl
one_item (x ∷ y ∷ ys) e = absurd (omega arith)

pub byte_only : (b : ℕ) (place after : Position) → number_at w8 place ≡ Ok (b, after) → Stands place (b ∷ []) after
unfolding number_at
byte_only b place after e =
    let a = step_ok (bytes_of place.at 1 place) (λ bytes. gives (from_be_bytes w8 bytes)) (b, after) e in
    let found = bytes_only place.at 1 a.0.0 place a.0.1 a.1 in
    let same = ok_is (get_or a.0.0 0 0, a.0.1) (b, after) a.2 in
    subst (λ (r : ℕ × Position). Stands place (r.0 ∷ []) r.1) same (rw (← one_item a.0.0 found.0) found.1)

pub byte_exact : ReadsExactly (number_at w8) (λ b. b ∷ []) (λ b. b < 2 ^ 8)
byte_exact = record {
  back = λ b at rest fits. byte_back b at rest;
  only = λ b place after all e.
      let stands = byte_only b place after e in
      let within : AreBytes (b ∷ after.rest) = rw stands.rest at all in
      (within 0 0 (omega arith), stands);
}
