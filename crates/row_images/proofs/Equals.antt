-- That two rows compare as equal exactly where they are one.
use Rattle.std.proofs.Common.{◌≡◌, ◌≢◌, Bool, not, List, Some, refl, ap, sym, ◌↔◌, IsTrue, true≢false}
use Rattle.std.specs.Bool.{Decides}
use Rattle.std.specs.Cmp.Lexicographic.{pointwise, bytes_decides}
use Rattle.std.proofs.lemmas.Bool.Decides.{Decides-int_eq, Decides-like, Decides-at, Decides-not}
use Rattle.std.proofs.lemmas.Slice.Eq.{slice_eq-Decides}
use Rattle.std.proofs.lemmas.Option.{same_Some}
use Rattle.seata_types.specs.contracts.rows.ValuePartialEq.TheImpl
use Rattle.seata_types.specs.declared.rows.Row.{Row}
use Rattle.seata_types.specs.declared.rows.Value.{Value}
use Rattle.seata_types.specs.declared.rows.Value.TheVariants as value

abbrev pub same_value : Value → Value → Bool
same_value a b = TheImpl.ghosts.eq a b

pub value_decides : (a b : Value) → Decides (same_value a b) (a ≡ b)
value_decides (value.Int a) (value.Int b) = Decides-like _ (λ e. ap value.Int e) (λ e. let same : value.Int a ≡ value.Int b = e in cc) (Decides-int_eq a b)
value_decides (value.Int a) (value.Text t) = (λ e. absurd (true≢false (sym e)), λ e. absurd (let no : value.Int a ≡ value.Text t = e in cc))
value_decides (value.Text s) (value.Int b) = (λ e. absurd (true≢false (sym e)), λ e. absurd (let no : value.Text s ≡ value.Int b = e in cc))
value_decides (value.Text s) (value.Text t) = Decides-like _ (λ e. ap value.Text e) (λ e. let same : value.Text s ≡ value.Text t = e in cc) (bytes_decides s t)

abbrev row_of : List Value → Row
row_of cells = record { 0 = cells }

-- what a comparison of two rows says
pub differs_exactly : (a b : Row) (r : Bool) → r ≡ not (pointwise same_value a.0 b.0) → IsTrue r ↔ (Some b ≢ Some a)
differs_exactly a b r e =
    let p : Bool = pointwise same_value a.0 b.0 in
    let d : Decides r (¬ (a.0 ≡ b.0)) = Decides-at r (not p) e (Decides-not p (slice_eq-Decides value_decides a.0 b.0 p refl)) in
    (λ t same. d.0 t (ap (λ (row : Row). row.0) (sym (same_Some b a same))), λ apart. d.1 (λ same. apart (ap (λ cells. Some (row_of cells)) (sym same))))
