-- A value is read back, and what is read as a value stands there.
use Rattle.std.proofs.Common.{◌≡◌, ℕ, zero, suc, ◌+◌, ◌^◌, ◌<◌, List, [], ◌∷◌, ◌++◌, length, Ok, sym, ap, subst, ◌∙◌, arith}
use Rattle.std.specs.Prelude.{ℤ, pos, negsuc, FitsSigned}
use Rattle.std.specs.Int.{w64, to_be_bytes, cast_signed, cast_unsigned}
use Rattle.std.proofs.lemmas.Int.{to_z-of_z, of_z-to_z}
use borrow.Author.Gap.{read_sfits}
use Rattle.seata_types.specs.declared.rows.Value.{Value}
use Rattle.seata_types.specs.declared.rows.Value.TheVariants as value
use Rattle.byte_fields.specs.Layout.{text_bytes, FitsValue, value_bytes}
use Rattle.byte_fields.specs.Reading.{Position, tagged_value, value_at}
use Rattle.byte_fields.specs.Exactness.{AreBytes, Stands, ReadsExactly}
use Rattle.byte_fields.proofs.Chains.{Stands-then, ReadsParts, last_part}
use Rattle.byte_fields.proofs.Numbers.{eight_bytes_exact}
use Rattle.byte_fields.proofs.Texts.{IsShort, short_text_exact}
use Rattle.byte_fields.proofs.Tags.{tag_back, tag_only}

unsigned_fits : (n : ℤ) → FitsSigned w64 n → cast_unsigned w64 n < 2 ^ 64
unsigned_fits (pos n) fits = omega (arith, fits.sfits)
unsigned_fits (negsuc n) fits = omega arith

number_part : (place : ℕ) → ReadsParts (tagged_value place 0) (λ n. value.Int (cast_signed w64 n)) (to_be_bytes w64) (λ n. n < 2 ^ 64)
number_part place = last_part (λ n. value.Int (cast_signed w64 n)) eight_bytes_exact

text_part : (place : ℕ) → ReadsParts (tagged_value place 1) value.Text text_bytes IsShort
text_part place = last_part value.Text short_text_exact

number_only : (v : Value) (place body after : Position) → AreBytes body.rest → Stands place (0 ∷ []) body → tagged_value place.at 0 body ≡ Ok (v, after) → FitsValue v × Stands place (value_bytes v) after
unfolding value_bytes
number_only v place body after all tag e =
    let found = (number_part place.at).only v body after all e in
    let both = Stands-then place body after (0 ∷ []) (to_be_bytes w64 found.0) tag found.3 in
    let bits : cast_unsigned w64 (cast_signed w64 found.0) ≡ found.0 = of_z-to_z w64 found.0 found.2 in
    let made : FitsValue (value.Int (cast_signed w64 found.0)) × Stands place (value_bytes (value.Int (cast_signed w64 found.0))) after = (read_sfits w64 found.0, rw bits both) in
    subst (λ (x : Value). FitsValue x × Stands place (value_bytes x) after) (sym found.1) made

text_only : (v : Value) (place body after : Position) → AreBytes body.rest → Stands place (1 ∷ []) body → tagged_value place.at 1 body ≡ Ok (v, after) → FitsValue v × Stands place (value_bytes v) after
unfolding value_bytes
text_only v place body after all tag e =
    let found = (text_part place.at).only v body after all e in
    let both = Stands-then place body after (1 ∷ []) (text_bytes found.0) tag found.3 in
    let made : FitsValue (value.Text found.0) × Stands place (value_bytes (value.Text found.0)) after = ((found.2.short, found.2.plain), both) in
    subst (λ (x : Value). FitsValue x × Stands place (value_bytes x) after) (sym found.1) made

value_only : (tag : ℕ) (v : Value) (place body after : Position) → AreBytes body.rest → Stands place (tag ∷ []) body → tagged_value place.at tag body ≡ Ok (v, after) → FitsValue v × Stands place (value_bytes v) after
value_only zero v place body after all stands e = number_only v place body after all stands e
value_only (suc zero) v place body after all stands e = text_only v place body after all stands e
value_only (suc (suc tag)) v place body after all stands e = absurd cc

value_back : (v : Value) (at : ℕ) (rest : List ℕ) → FitsValue v → value_at (record { at = at; rest = value_bytes v ++ rest }) ≡ Ok (v, record { at = at + length (value_bytes v); rest = rest })
unfolding value_at value_bytes
value_back (value.Int n) at rest fits =
    let read = tag_back tagged_value 0 (λ b. value.Int (cast_signed w64 b)) (to_be_bytes w64) (λ b. b < 2 ^ 64) number_part (cast_unsigned w64 n) at rest (unsigned_fits n fits) in
    read ∙ ap (λ (z : ℤ). Ok (value.Int z, record { at = at + length (0 ∷ to_be_bytes w64 (cast_unsigned w64 n)); rest = rest })) (to_z-of_z w64 n fits)
value_back (value.Text text) at rest fits =
    tag_back tagged_value 1 value.Text text_bytes IsShort text_part text at rest (record { short = fits.0; plain = fits.1 })

pub value_exact : ReadsExactly value_at value_bytes FitsValue
unfolding value_at
value_exact = record {
  back = value_back;
  only = λ v place after all e.
      let t = tag_only tagged_value v place after all e in
      value_only t.tag v place t.body after t.fits t.stands t.gave;
}
