-- The row of the opening is one of its table, and has a place in a snapshot.
use Rattle.std.proofs.Common.{◌≡◌, ℕ, pos, List, [], ◌∷◌, All, IsSome, refl, sym, subst, arith}
use Rattle.std.specs.Prelude.{codes}
use Rattle.std.specs.List.{IsDistinct}
use Rattle.std.proofs.lemmas.List.Elements.{All-nil, All-cons}
use Rattle.seata_types.specs.declared.rows.Row.{Row}
use Rattle.seata_types.specs.declared.rows.Value.TheVariants as value
use Rattle.byte_fields.specs.Layout.{FitsValue}
use Rattle.byte_fields.specs.Parts.{FitsNamedRow}
use Rattle.byte_fields.proofs.Texts.{is_plain_printable}
use Rattle.local_tables.specs.Rows.{IsOpening, keyed_row}
use Rattle.local_tables.specs.declared.schemas.Schema.{Schema}
use Rattle.branch_tests.specs.Accounts.{accounts, account_rows}

abbrev account_row : Row
account_row = record { 0 = value.Int (pos 1) ∷ (value.Int (pos 1000) ∷ []) }

is_opening : IsOpening 1 accounts account_rows
unfolding IsDistinct
is_opening = record {
  each = All-cons (λ o. IsSome (keyed_row 1 accounts o)) (codes "acc", account_row) [] refl (All-nil (λ o. IsSome (keyed_row 1 accounts o)));
  different = (tt, tt);
}

pub opens : (schema : Schema) (rows : List (List ℕ × Row)) → schema ≡ accounts → rows ≡ account_rows → IsOpening 1 schema rows
opens schema rows same made =
    subst (λ (s : Schema). IsOpening 1 s rows) (sym same) (subst (λ (o : List (List ℕ × Row)). IsOpening 1 accounts o) (sym made) is_opening)

row_fits : FitsNamedRow (codes "acc", account_row)
row_fits = (
  record { short = omega arith; plain = is_plain_printable _ refl },
  record {
    count = omega arith;
    each = All-cons FitsValue (value.Int (pos 1)) (value.Int (pos 1000) ∷ []) (record { sfits = omega arith }) (All-cons FitsValue (value.Int (pos 1000)) [] (record { sfits = omega arith }) (All-nil FitsValue));
  },
)

pub rows_fit : (rows : List (List ℕ × Row)) → rows ≡ account_rows → All FitsNamedRow rows
rows_fit rows made = subst (All FitsNamedRow) (sym made) (All-cons FitsNamedRow (codes "acc", account_row) [] row_fits (All-nil FitsNamedRow))
