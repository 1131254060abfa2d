-- Identities and codes are read back, and what is read as one stands there.
use Rattle.std.proofs.Common.{◌≡◌, ℕ, ◌+◌, Bool, true, false, Some, List, [], ◌∷◌, Ok, refl}
use Rattle.seata_types.specs.declared.ids.Xid.{Xid}
use Rattle.seata_types.specs.declared.ids.BranchId.{BranchId}
use Rattle.seata_types.specs.declared.ids.Leg.{Leg}
use Rattle.seata_types.specs.declared.statuses.BranchKind.{BranchKind}
use Rattle.seata_types.specs.declared.statuses.BranchKind.TheVariants as kind
use Rattle.seata_types.specs.Statuses.{code_of, branch_code_of}
use Rattle.byte_fields.specs.Reading.{gives}
use Rattle.byte_fields.specs.Exactness.{ReadsExactly}
use Rattle.byte_fields.specs.Tags.{look_up}
use Rattle.seata_types.specs.declared.rows.Row.{Row}
use Rattle.byte_fields.specs.Parts.{named_row_bytes, FitsNamedRow, named_row_at, xid_bytes, FitsXid, xid_at, branch_bytes, FitsBranch, branch_at, leg_bytes, FitsLeg, leg_at, kind_code, kind_at, truth_code, truth_at, statuses, status_at, branch_statuses, branch_status_at}
use Rattle.byte_fields.proofs.Chains.{part, last_part, no_part, whole}
use Rattle.byte_fields.proofs.Numbers.{eight_bytes_exact}
use Rattle.byte_fields.proofs.Records.{row_exact}
use Rattle.byte_fields.proofs.Texts.{text_exact}
use Rattle.byte_fields.proofs.StatusCodes.{by_code, status_found, branch_status_found}
use Rattle.byte_fields.proofs.Tables.{coded_exact}

pub alone : {X : Type 0} (x : X) (at : ℕ) (rest : List ℕ) → gives x (record { at = at; rest = rest }) ≡ Ok (x, record { at = at + 0; rest = rest })
alone x at rest = (no_part x).back tt at rest tt

-- ---- identities

pub xid_exact : ReadsExactly xid_at xid_bytes FitsXid
unfolding xid_at
xid_exact = whole xid_bytes FitsXid (λ (xid : Xid). xid.0) (last_part (λ n. record { 0 = n }) eight_bytes_exact)
    (λ xid. refl) (λ xid. refl) (λ n. refl) (λ xid fits. fits) (λ n fits. fits)

pub branch_exact : ReadsExactly branch_at branch_bytes FitsBranch
unfolding branch_at
branch_exact = whole branch_bytes FitsBranch (λ (id : BranchId). id.0) (last_part (λ n. record { 0 = n }) eight_bytes_exact)
    (λ id. refl) (λ id. refl) (λ n. refl) (λ id fits. fits) (λ n fits. fits)

pub leg_exact : ReadsExactly leg_at leg_bytes FitsLeg
unfolding leg_at
leg_exact = whole leg_bytes FitsLeg (λ (leg : Leg). (leg.xid, leg.branch))
    (part xid_exact (λ xid. last_part (λ branch. record { xid = xid; branch = branch }) branch_exact))
    (λ leg. refl) (λ leg. refl) (λ t. refl) (λ leg fits. fits) (λ t fits. fits)

-- ---- codes of one byte

kind_found : (x : BranchKind) → look_up (kind_code x) (by_code kind_code (kind.At ∷ kind.Tcc ∷ [])) ≡ Some (gives x)
kind_found kind.At = refl
kind_found kind.Tcc = refl

pub kind_exact : ReadsExactly kind_at (λ x. kind_code x ∷ []) (λ x. Unit {0})
unfolding kind_at
kind_exact = coded_exact kind_code (kind.At ∷ kind.Tcc ∷ []) kind_found

truth_found : (x : Bool) → look_up (truth_code x) (by_code truth_code (false ∷ true ∷ [])) ≡ Some (gives x)
truth_found false = refl
truth_found true = refl

pub truth_exact : ReadsExactly truth_at (λ x. truth_code x ∷ []) (λ x. Unit {0})
unfolding truth_at
truth_exact = coded_exact truth_code (false ∷ true ∷ []) truth_found

pub status_exact : ReadsExactly status_at (λ x. code_of x ∷ []) (λ x. Unit {0})
unfolding status_at
status_exact = coded_exact code_of statuses status_found

pub branch_status_exact : ReadsExactly branch_status_at (λ x. branch_code_of x ∷ []) (λ x. Unit {0})
unfolding branch_status_at
branch_status_exact = coded_exact branch_code_of branch_statuses branch_status_found

-- ---- a row behind its table's name

pub named_row_exact : ReadsExactly named_row_at named_row_bytes FitsNamedRow
unfolding named_row_at
named_row_exact = whole named_row_bytes FitsNamedRow (λ (named : List ℕ × Row). named)
    (part text_exact (λ table. last_part (λ row. (table, row)) row_exact))
    (λ named. refl) (λ named. refl) (λ t. refl) (λ named fits. fits) (λ t fits. fits)
