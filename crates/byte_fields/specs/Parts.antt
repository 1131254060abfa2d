-- The parts that messages, records and snapshots share: identities, codes of one byte, and
-- rows with their tables. Of each: its bytes, which values have such bytes, and how it is read.
use Rattle.std.specs.Prelude.{ℕ, ◌<◌, ◌^◌, Bool, true, false, List, [], ◌∷◌, ◌++◌}
use Rattle.std.specs.Int.{w64, to_be_bytes}
use Rattle.seata_types.specs.declared.ids.Xid.{Xid}
use Rattle.seata_types.specs.declared.ids.BranchId.{BranchId}
use Rattle.seata_types.specs.declared.ids.Leg.{Leg}
use Rattle.seata_types.specs.declared.statuses.BranchKind.{BranchKind}
use Rattle.seata_types.specs.declared.statuses.BranchKind.TheVariants as kind
use Rattle.seata_types.specs.declared.statuses.GlobalStatus.{GlobalStatus}
use Rattle.seata_types.specs.declared.statuses.GlobalStatus.TheVariants as global
use Rattle.seata_types.specs.declared.statuses.BranchStatus.{BranchStatus}
use Rattle.seata_types.specs.declared.statuses.BranchStatus.TheVariants as branch
use Rattle.seata_types.specs.Statuses.{code_of, branch_code_of}
use Rattle.seata_types.specs.declared.rows.Row.{Row}
use Rattle.byte_fields.specs.Layout.{FitsText, FitsRow, text_bytes, row_bytes}
use Rattle.byte_fields.specs.Reading.{Reader, ◌>>=◌, gives, number_at, text_at, row_at}
use Rattle.byte_fields.specs.Tags.{coded}

-- parts one after the other
abbrev pub joined : List (List ℕ) → List ℕ
joined [] = []
joined (part ∷ []) = part
joined (part ∷ next ∷ parts) = part ++ joined (next ∷ parts)

-- ---- identities

-- a transaction's number and a branch's number have eight bytes each
abbrev pub xid_bytes : Xid → List ℕ
xid_bytes xid = to_be_bytes w64 xid.0

abbrev pub FitsXid : Xid → Type 0
FitsXid xid = xid.0 < 2 ^ 64

unfoldable pub xid_at : Reader Xid
xid_at = do
  n ← number_at w64
  gives (record { 0 = n })

abbrev pub branch_bytes : BranchId → List ℕ
branch_bytes id = to_be_bytes w64 id.0

abbrev pub FitsBranch : BranchId → Type 0
FitsBranch id = id.0 < 2 ^ 64

unfoldable pub branch_at : Reader BranchId
branch_at = do
  n ← number_at w64
  gives (record { 0 = n })

-- a branch behind its transaction
abbrev pub leg_bytes : Leg → List ℕ
leg_bytes leg = xid_bytes leg.xid ++ branch_bytes leg.branch

abbrev pub FitsLeg : Leg → Type 0
FitsLeg leg = FitsXid leg.xid × FitsBranch leg.branch

unfoldable pub leg_at : Reader Leg
leg_at = do
  xid ← xid_at
  branch ← branch_at
  gives (record { xid = xid; branch = branch })

-- ---- codes of one byte

abbrev pub kind_code : BranchKind → ℕ
kind_code kind.At = 0
kind_code kind.Tcc = 1

unfoldable pub kind_at : Reader BranchKind
kind_at = coded kind_code (kind.At ∷ kind.Tcc ∷ [])

abbrev pub truth_code : Bool → ℕ
truth_code false = 0
truth_code true = 1

unfoldable pub truth_at : Reader Bool
truth_at = coded truth_code (false ∷ true ∷ [])

-- all statuses of a transaction, and below all of a branch, in the order of their codes
abbrev pub statuses : List GlobalStatus
statuses =
    global.UnKnown ∷ global.Begin ∷ global.Committing ∷ global.CommitRetrying ∷ global.Rollbacking ∷ global.RollbackRetrying ∷
    global.TimeoutRollbacking ∷ global.TimeoutRollbackRetrying ∷ global.AsyncCommitting ∷ global.Committed ∷ global.CommitFailed ∷
    global.Rollbacked ∷ global.RollbackFailed ∷ global.TimeoutRollbacked ∷ global.TimeoutRollbackFailed ∷ global.Finished ∷ []

unfoldable pub status_at : Reader GlobalStatus
status_at = coded code_of statuses

abbrev pub branch_statuses : List BranchStatus
branch_statuses =
    branch.Unknown ∷ branch.Registered ∷ branch.PhaseOneDone ∷ branch.PhaseOneFailed ∷ branch.PhaseOneTimeout ∷
    branch.PhaseTwoCommitted ∷ branch.PhaseTwoCommitFailedRetryable ∷ branch.PhaseTwoCommitFailedUnretryable ∷
    branch.PhaseTwoRollbacked ∷ branch.PhaseTwoRollbackFailedRetryable ∷ branch.PhaseTwoRollbackFailedUnretryable ∷ []

unfoldable pub branch_status_at : Reader BranchStatus
branch_status_at = coded branch_code_of branch_statuses

-- ---- a row behind its table's name

abbrev pub named_row_bytes : List ℕ × Row → List ℕ
named_row_bytes named = text_bytes named.0 ++ row_bytes named.1

abbrev pub FitsNamedRow : List ℕ × Row → Type 0
FitsNamedRow named = FitsText named.0 × FitsRow named.1

unfoldable pub named_row_at : Reader (List ℕ × Row)
named_row_at = do
  table ← text_at
  row ← row_at
  gives (table, row)
