-- Conditions as trees, and how the logic stores one.
use Rattle.std.proofs.Common.{◌≡◌, ◌≢◌, ◌+◌, ℕ, List, ap, arith}
use Rattle.std.specs.Coded.{Coded, coded_ℕ, coded_list}
use base.Stored.{Gv, gnil, gnum, gcons}
use Rattle.seata_types.specs.declared.conditions.Op.{Op}
use Rattle.seata_types.specs.contracts.conditions.Op as op
use Rattle.seata_types.specs.declared.rows.Value.{Value}
use Rattle.seata_types.specs.contracts.rows.Value as value

-- a condition: a column compared with a literal, or conditions joined
pub data Condition : Type 0 where
  Cmp : (column : List ℕ) → Op → Value → Condition
  And : Condition → Condition → Condition
  Or : Condition → Condition → Condition
  Not : Condition → Condition

-- how many comparisons, joints and negations it has
abbrev pub nodes : Condition → ℕ
nodes (Cmp column test literal) = 1
nodes (And left right) = nodes left + nodes right + 1
nodes (Or left right) = nodes left + nodes right + 1
nodes (Not inner) = nodes inner + 1

abbrev head : Gv → Gv
head gnil = gnil
head (gnum n) = gnil
head (gcons a b) = a

abbrev tail : Gv → Gv
tail gnil = gnil
tail (gnum n) = gnil
tail (gcons a b) = b

apart : (m n : ℕ) {a b : Gv} → gcons (gnum m) a ≡ gcons (gnum n) b → m ≢ n → ⊥
apart m n p other = other (cc)

-- a condition is stored as a number for its form, and its parts
abbrev pub condition_code : Condition → Gv
condition_code (Cmp a0 a1 a2) =
    gcons (gnum 0) (gcons ((coded_list coded_ℕ).code a0) (gcons (op.the_row.coded.code a1) (value.the_row.coded.code a2)))
condition_code (And a0 a1) = gcons (gnum 1) (gcons (condition_code a0) (condition_code a1))
condition_code (Or a0 a1) = gcons (gnum 2) (gcons (condition_code a0) (condition_code a1))
condition_code (Not a0) = gcons (gnum 3) (condition_code a0)

-- different conditions are stored differently
pub condition_inj : (x y : Condition) → condition_code x ≡ condition_code y → x ≡ y
condition_inj (Cmp a0 a1 a2) (Cmp b0 b1 b2) p =
    λ i. Cmp
    ((coded_list coded_ℕ).inj a0 b0 (ap (λ g. head (tail g)) p) i)
    (op.the_row.coded.inj a1 b1 (ap (λ g. head (tail (tail g))) p) i)
    (value.the_row.coded.inj a2 b2 (ap (λ g. tail (tail (tail g))) p) i)
condition_inj (Cmp a0 a1 a2) (And b0 b1) p = absurd (apart 0 1 p (omega arith))
condition_inj (Cmp a0 a1 a2) (Or b0 b1) p = absurd (apart 0 2 p (omega arith))
condition_inj (Cmp a0 a1 a2) (Not b0) p = absurd (apart 0 3 p (omega arith))
condition_inj (And a0 a1) (Cmp b0 b1 b2) p = absurd (apart 1 0 p (omega arith))
condition_inj (And a0 a1) (And b0 b1) p =
    λ i. And (condition_inj a0 b0 (ap (λ g. head (tail g)) p) i) (condition_inj a1 b1 (ap (λ g. tail (tail g)) p) i)
condition_inj (And a0 a1) (Or b0 b1) p = absurd (apart 1 2 p (omega arith))
condition_inj (And a0 a1) (Not b0) p = absurd (apart 1 3 p (omega arith))
condition_inj (Or a0 a1) (Cmp b0 b1 b2) p = absurd (apart 2 0 p (omega arith))
condition_inj (Or a0 a1) (And b0 b1) p = absurd (apart 2 1 p (omega arith))
condition_inj (Or a0 a1) (Or b0 b1) p =
    λ i. Or (condition_inj a0 b0 (ap (λ g. head (tail g)) p) i) (condition_inj a1 b1 (ap (λ g. tail (tail g)) p) i)
condition_inj (Or a0 a1) (Not b0) p = absurd (apart 2 3 p (omega arith))
condition_inj (Not a0) (Cmp b0 b1 b2) p = absurd (apart 3 0 p (omega arith))
condition_inj (Not a0) (And b0 b1) p = absurd (apart 3 1 p (omega arith))
condition_inj (Not a0) (Or b0 b1) p = absurd (apart 3 2 p (omega arith))
condition_inj (Not a0) (Not b0) p = λ i. Not (condition_inj a0 b0 (ap (λ g. tail g) p) i)

abbrev pub coded_condition : Coded Condition
coded_condition = record { code = condition_code; inj = condition_inj }
