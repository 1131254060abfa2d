use Rattle.std.proofs.Common.{refl}
use Rattle.seata_types.specs.Statuses.{branch_code_of}
use Rattle.byte_fields.specs.Cursors.{position}
use Rattle.byte_fields.specs.Parts.{branch_statuses, branch_status_at}
use Rattle.byte_fields.proofs.StatusCodes.{by_code, tagged_found, tagged_missed, branch_status_found, branch_status_missed}
use Rattle.byte_fields.proofs.codes.branch_status.Goals as goal

pub returns-in-Some : goal.returns-in-Some
unfolding branch_status_at
returns-in-Some c =
    tagged_found (by_code branch_code_of branch_statuses) c.in_ok-code.code c.in-Some.status (position c.args.from) (position c.in_ok-code.after) c.in_ok-code.ensures (rw (← c.in-Some.ensures.found) (branch_status_found c.in-Some.status))

pub returns-in-None : goal.returns-in-None
unfolding branch_status_at
returns-in-None c =
    λ other. tagged_missed (by_code branch_code_of branch_statuses) c.in_ok-code.code (position c.args.from) (position c.in_ok-code.after) c.in_ok-code.ensures (branch_status_missed c.in_ok-code.code (c.in-None.ensures.none.0 refl))
