-- What the statuses and answers of the code are in the words of a resource's records, and the fences that a map holds.
use Rattle.std.specs.Prelude.{◌≡◌, ℕ, List, map, Option, None, Some}
use Rattle.std.specs.BTreeMap.{is_at}
use Rattle.std.specs.Map.{lookup, remove_entry}
use Rattle.seata_types.specs.declared.ids.Leg.{Leg}
use Rattle.durable_records.specs.declared.resources.ResourceRecord.{ResourceRecord}
use Rattle.durable_records.specs.Fences.{fence, fences, Fence, IsTried, IsCommitted, IsRollbacked, IsSuspended, Runs, WasDone, Suspends, Refuses, leg_cmp}
use Rattle.durable_records.specs.Fences as log
use Rattle.tcc_fence.specs.declared.statuses.FenceAnswer.{FenceAnswer}
use Rattle.tcc_fence.specs.declared.statuses.FenceAnswer.TheVariants as answer
use Rattle.tcc_fence.specs.declared.statuses.FenceStatus.{FenceStatus}
use Rattle.tcc_fence.specs.declared.statuses.FenceStatus.TheVariants as status

-- the code's statuses in the words of the records
abbrev pub status_of : FenceStatus → Fence
status_of status.Tried = IsTried
status_of status.Committed = IsCommitted
status_of status.Rollbacked = IsRollbacked
status_of status.Suspended = IsSuspended

-- the statuses' numbers in Seata's tcc_fence_log
abbrev pub code_of : FenceStatus → ℕ
code_of status.Tried = 1
code_of status.Committed = 2
code_of status.Rollbacked = 3
code_of status.Suspended = 4

-- the code's answers in the words of the records
abbrev pub answer_of : FenceAnswer → log.FenceAnswer
answer_of answer.Run = Runs
answer_of answer.Already = WasDone
answer_of answer.Suspend = Suspends
answer_of answer.Refuse = Refuses

-- branches with their fences, in order of transaction and number
abbrev pub Fences : Type 0
Fences = List ((ℕ × ℕ) × Fence)

-- a branch, a branch with its status, and all such in the words of the records
abbrev pub pair_of : Leg → ℕ × ℕ
pair_of leg = (leg.xid.0, leg.branch.0)

abbrev pub entry_of : Leg × FenceStatus → (ℕ × ℕ) × Fence
entry_of e = (pair_of e.0, status_of e.1)

abbrev pub fences_of : List (Leg × FenceStatus) → Fences
fences_of es = map entry_of es

-- the fence of a branch among these
abbrev pub fence_at : Fences → Leg → Option Fence
fence_at fences leg = lookup (is_at (leg_cmp (pair_of leg))) fences

-- the fences without one of this branch
abbrev pub without_fence : Fences → Leg → Fences
without_fence fences leg = remove_entry (is_at (leg_cmp (pair_of leg))) fences

-- what stands at a branch among all fences of a resource's records is its fence, by its last record
abbrev pub FencesStandAtBranches : Type 0
FencesStandAtBranches = (rs : List ResourceRecord) (leg : Leg) → fence_at (fences rs) leg ≡ fence rs leg.xid.0 leg.branch.0

-- The fence's table: what a Try, a Confirm and a Cancel are answered, by the status of the branch. `durable_records` has a function for
-- each of the three.
abbrev pub table : Option FenceStatus → FenceAnswer × FenceAnswer × FenceAnswer
table None = (answer.Run, answer.Refuse, answer.Suspend)
table (Some status.Tried) = (answer.Refuse, answer.Run, answer.Run)
table (Some status.Committed) = (answer.Refuse, answer.Already, answer.Refuse)
table (Some status.Rollbacked) = (answer.Refuse, answer.Refuse, answer.Already)
table (Some status.Suspended) = (answer.Refuse, answer.Refuse, answer.Already)
