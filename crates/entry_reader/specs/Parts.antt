-- What single pieces stand for. Each piece stands for something: a reading that doesn't fit is found out when the entry
-- is written again.
use Rattle.std.specs.Prelude.{ℕ, zero, suc, ◌+◌, ◌-◌, ◌*◌, ◌^◌, ◌==◌, min, nat_lt, Bool, true, false, if◌then◌else◌, List, [], ◌∷◌, drop, slice_get, unwrap_or, codes}
use Rattle.std.specs.Str.{is_utf8}
use Rattle.std.specs.List.{list_all}
use Rattle.std.specs.Char.{is_ascii_digit}
use Rattle.seata_types.specs.Orders.{same_text}
use Rattle.seata_types.specs.declared.ids.BranchId.{BranchId}
use Rattle.seata_types.specs.declared.ids.Place.{Place}
use Rattle.seata_types.specs.declared.ids.Place.TheVariants as place
use Rattle.seata_types.specs.declared.ids.Ticket.{Ticket}
use Rattle.seata_types.specs.declared.ids.Xid.{Xid}
use Rattle.seata_types.specs.declared.statuses.BranchKind.{BranchKind}
use Rattle.seata_types.specs.declared.statuses.BranchKind.TheVariants as kind
use Rattle.seata_types.specs.declared.statuses.BranchStatus.{BranchStatus}
use Rattle.seata_types.specs.declared.statuses.BranchStatus.TheVariants as branch
use Rattle.seata_types.specs.declared.statuses.Decision.{Decision}
use Rattle.seata_types.specs.declared.statuses.Decision.TheVariants as how
use Rattle.seata_types.specs.declared.statuses.GlobalStatus.{GlobalStatus}
use Rattle.seata_types.specs.declared.statuses.GlobalStatus.TheVariants as global
use Rattle.history_text.specs.declared.entries.Names.{Names}

-- ---- numbers

-- the number that digits write behind those of n, up to what is no digit
abbrev pub number_on : ℕ → List ℕ → ℕ
number_on n [] = n
number_on n (c ∷ cs) = if is_ascii_digit c then number_on (n * 10 + (c - 48)) cs else n

-- what stands behind the digits at the front
abbrev pub behind_number : List ℕ → List ℕ
behind_number [] = []
behind_number (c ∷ cs) = if is_ascii_digit c then behind_number cs else c ∷ cs

-- the number at the front of a piece; one that is too large stays at the greatest
unfoldable pub number : List ℕ → ℕ
number text = min (number_on 0 text) (2 ^ 64 - 1)

-- the same for 16 and 32 bits
abbrev pub number_16 : List ℕ → ℕ
number_16 text = min (number text) (2 ^ 16 - 1)

abbrev pub number_32 : List ℕ → ℕ
number_32 text = min (number text) (2 ^ 32 - 1)

-- ---- identities

-- `tc:1`
abbrev pub xid_of : List ℕ → Xid
xid_of text = record { 0 = number (drop 3 text) }

-- `b1`
abbrev pub branch_of : List ℕ → BranchId
branch_of text = record { 0 = number (drop 1 text) }

-- `c1`
abbrev pub call_of : List ℕ → ℕ
call_of text = number_16 (drop 1 text)

-- `t1.2`
abbrev pub ticket_of : List ℕ → Ticket
ticket_of text = record { boot = number_32 (drop 1 text); seq = number_32 (drop 1 (behind_number (drop 1 text))) }

-- ---- words

-- a piece as a word; what isn't ASCII is none
abbrev pub word_in : List ℕ → List ℕ
word_in text = if list_all (λ b. nat_lt b 128) text then text else []

-- a mode, a decision, and whether a holder rolls back; another word is read as AT, as a timeout and as no
abbrev pub kind_of : List ℕ → BranchKind
kind_of text = if same_text (word_in text) (codes "TCC") then kind.Tcc else kind.At

abbrev pub decision_of : List ℕ → Decision
decision_of text =
    if same_text (word_in text) (codes "commit") then how.Commit
    else (if same_text (word_in text) (codes "rollback") then how.Rollback else how.Timeout)

abbrev pub rolling_of : List ℕ → Bool
rolling_of text = if same_text (word_in text) (codes "rolling") then true else false

-- ---- statuses

-- the statuses of transactions, and those of branches, by their codes from 0 on
abbrev pub global_statuses : List GlobalStatus
global_statuses =
    global.UnKnown ∷ global.Begin ∷ global.Committing ∷ global.CommitRetrying ∷ global.Rollbacking ∷ global.RollbackRetrying ∷ global.TimeoutRollbacking
    ∷ global.TimeoutRollbackRetrying ∷ global.AsyncCommitting ∷ global.Committed ∷ global.CommitFailed ∷ global.Rollbacked ∷ global.RollbackFailed
    ∷ global.TimeoutRollbacked ∷ global.TimeoutRollbackFailed ∷ global.Finished ∷ []

abbrev pub branch_statuses : List BranchStatus
branch_statuses =
    branch.Unknown ∷ branch.Registered ∷ branch.PhaseOneDone ∷ branch.PhaseOneFailed ∷ branch.PhaseOneTimeout ∷ branch.PhaseTwoCommitted
    ∷ branch.PhaseTwoCommitFailedRetryable ∷ branch.PhaseTwoCommitFailedUnretryable ∷ branch.PhaseTwoRollbacked ∷ branch.PhaseTwoRollbackFailedRetryable
    ∷ branch.PhaseTwoRollbackFailedUnretryable ∷ []

-- the status of a code; the first one where there is none
unfoldable pub global_with : ℕ → GlobalStatus
global_with code = unwrap_or (slice_get global_statuses code) global.UnKnown

unfoldable pub branch_with : ℕ → BranchStatus
branch_with code = unwrap_or (slice_get branch_statuses code) branch.Unknown

-- a number above the last status is read as that
abbrev pub status_of : List ℕ → GlobalStatus
status_of text = global_with (min (number text) 15)

abbrev pub branch_status_of : List ℕ → BranchStatus
branch_status_of text = branch_with (min (number text) 10)

-- ---- places

-- the number of a name, where the first of the names has the number n; 0 for none
abbrev pub numbered_from : ℕ → List (List ℕ) → List ℕ → ℕ
numbered_from n [] text = 0
numbered_from n (name ∷ names) text = if same_text name text then n else numbered_from (n + 1) names text

-- the number of a name, counted from 1; 0 for none
unfoldable pub number_in : List (List ℕ) → List ℕ → ℕ
number_in names text = min (numbered_from 1 names (word_in text)) (2 ^ 16 - 1)

-- a place by the number that its name has among the resources, and among the managers; 0 for none
abbrev pub place_by : ℕ → ℕ → Place
place_by zero zero = place.Net
place_by zero (suc k) = place.Man (suc k)
place_by (suc n) k = place.Res (suc n)

-- the place with a name
unfoldable pub place_of : Names → List ℕ → Place
place_of names text =
    if same_text (word_in text) (codes "tc") then place.Tc else place_by (number_in names.resources text) (number_in names.managers text)

-- ---- texts

-- bytes that aren't UTF-8 are read as the empty text
unfoldable pub text_from : List ℕ → List ℕ
text_from bytes = if is_utf8 bytes then bytes else []

-- what a byte of a text in quotes adds to what the bytes behind it give: `is_second` says whether a quote stands before it
-- that has no partner yet
abbrev pub shown : Bool → Bool → ℕ → List ℕ → List ℕ
shown true true c rest = c ∷ rest
shown true false c rest = rest
shown false true c rest = []
shown false false c rest = c ∷ rest

-- the text behind an opening quote, up to its closing one; two quotes in a row are one
abbrev pub unquoted : Bool → List ℕ → List ℕ
unquoted is_second [] = []
unquoted is_second (c ∷ cs) = shown (c == 39) is_second c (unquoted (if c == 39 then (if is_second then false else true) else false) cs)
