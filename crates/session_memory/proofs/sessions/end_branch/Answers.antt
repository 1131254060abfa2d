use Rattle.std.proofs.Common.{◌∙◌, sym}
use Rattle.session_memory.specs.Lookups.{has_number}
use Rattle.session_memory.proofs.PlaceLaws.{first_place, no_place, ended_first, ended_none}
use Rattle.session_memory.proofs.sessions.end_branch.Goals as goal

pub returns-in-Some : goal.returns-in-Some
returns-in-Some c =
    ended_first c.args.id.0 c.args.branches.now c.in-Some.at c.index-branches-at.result
    (first_place (has_number c.args.id.0) c.args.branches.now c.in-Some.at (sym c.branch_place.ensures ∙ c.in-Some.is))

pub returns-in_default : goal.returns-in_default
returns-in_default c =
    sym (ended_none c.args.id.0 c.args.branches.now (no_place (has_number c.args.id.0) c.args.branches.now (sym c.branch_place.ensures ∙ c.in_default.is)))
