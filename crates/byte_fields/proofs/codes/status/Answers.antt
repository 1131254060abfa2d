use Rattle.std.proofs.Common.{refl}
use Rattle.seata_types.specs.Statuses.{code_of}
use Rattle.byte_fields.specs.Cursors.{position}
use Rattle.byte_fields.specs.Parts.{statuses, status_at}
use Rattle.byte_fields.proofs.StatusCodes.{by_code, tagged_found, tagged_missed, status_found, status_missed}
use Rattle.byte_fields.proofs.codes.status.Goals as goal

pub returns-in-Some : goal.returns-in-Some
unfolding status_at
returns-in-Some c =
    tagged_found (by_code code_of statuses) c.in_ok-code.code c.in-Some.status (position c.args.from) (position c.in_ok-code.after) c.in_ok-code.ensures (rw (← c.in-Some.ensures.found) (status_found c.in-Some.status))

pub returns-in-None : goal.returns-in-None
unfolding status_at
returns-in-None c =
    λ other. tagged_missed (by_code code_of statuses) c.in_ok-code.code (position c.args.from) (position c.in_ok-code.after) c.in_ok-code.ensures (status_missed c.in_ok-code.code (c.in-None.ensures.none.0 refl))
