-- Two numbers are the values of a key.
use Rattle.std.proofs.Common.{◌≡◌, ℤ, List, [], ◌∷◌, sym, subst, arith}
use Rattle.std.specs.Int.{w64}
use Rattle.std.specs.Prelude.{FitsSigned}
use Rattle.std.proofs.lemmas.List.Elements.{All-nil, All-cons}
use Rattle.seata_types.specs.declared.rows.Value.{Value}
use Rattle.seata_types.specs.declared.rows.Value.TheVariants as value
use Rattle.byte_fields.specs.Layout.{FitsValue, FitsParts}
use Rattle.byte_fields.specs.declared.layouts.KeyLayout.TheVariants as layout

pub two_numbers : (a b : ℤ) (pk : List Value) → FitsSigned w64 a → FitsSigned w64 b → pk ≡ value.Int a ∷ value.Int b ∷ [] → FitsParts layout.Counted pk
two_numbers a b pk first second is =
    let two : FitsParts layout.Counted (value.Int a ∷ value.Int b ∷ []) = record {
      count = (omega arith, omega arith);
      each = All-cons FitsValue (value.Int a) (value.Int b ∷ []) first (All-cons FitsValue (value.Int b) [] second (All-nil FitsValue));
    } in
    subst (FitsParts layout.Counted) (sym is) two
