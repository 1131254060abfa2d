-- The boots, undo records and markers of a resource's records. Lists of records stand newest first.
use Rattle.std.specs.Prelude.{ℕ, ◌+◌, ◌==◌, ◌&&◌, Bool, true, false, not, if◌then◌else◌, List, [], ◌∷◌, filter, find, Option}
use Rattle.seata_types.specs.declared.rows.Image.{Image}
use Rattle.seata_types.specs.declared.rows.ReadRow.{ReadRow}
use Rattle.durable_records.specs.declared.resources.ResourceRecord.{ResourceRecord}
use Rattle.durable_records.specs.declared.resources.ResourceRecord.TheVariants as log

-- how often the resource was opened
abbrev pub boots : List ResourceRecord → ℕ
boots [] = 0
boots (log.Boot number ∷ rs) = boots rs + 1
boots (_ ∷ rs) = boots rs

-- the local commit of an AT branch: what it did to rows, and the rows that it read
pub record Undo : Type 0 where
  pub xid : ℕ
  pub branch : ℕ
  pub call : ℕ
  pub images : List Image
  pub reads : List ReadRow

-- whether an undo record is that of branch b of x, and below it whether it is that of another branch
abbrev pub is_leg : ℕ → ℕ → Undo → Bool
is_leg x b u = (u.xid == x) && (u.branch == b)

abbrev pub is_other_leg : ℕ → ℕ → Undo → Bool
is_other_leg x b u = not (is_leg x b u)

-- the undo records: each local commit, until it is undone or cleared
abbrev pub undos : List ResourceRecord → List Undo
undos [] = []
undos (log.Committed xid branch call images reads ∷ rs) =
    record { xid = xid.0; branch = branch.0; call = call; images = images; reads = reads } ∷ undos rs
undos (log.Undone xid branch ∷ rs) = filter (is_other_leg xid.0 branch.0) (undos rs)
undos (log.Cleared xid branch ∷ rs) = filter (is_other_leg xid.0 branch.0) (undos rs)
undos (_ ∷ rs) = undos rs

-- the undo record of branch b of x
abbrev pub undo_of : List ResourceRecord → ℕ → ℕ → Option Undo
undo_of rs x b = find (is_leg x b) (undos rs)

-- the undo records of call c of x
abbrev pub undos_of_call : List ResourceRecord → ℕ → ℕ → List Undo
undos_of_call rs x c = filter (λ u. (u.xid == x) && (u.call == c)) (undos rs)

-- whether branch b of x was rolled back before it committed
abbrev pub is_marked : List ResourceRecord → ℕ → ℕ → Bool
is_marked [] x b = false
is_marked (log.Marked xid branch ∷ rs) x b = if (xid.0 == x) && (branch.0 == b) then true else is_marked rs x b
is_marked (_ ∷ rs) x b = is_marked rs x b
