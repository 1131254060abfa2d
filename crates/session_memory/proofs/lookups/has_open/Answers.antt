use Rattle.std.proofs.Common.{◌∙◌, sym}
use Rattle.session_memory.specs.Lookups.{has_number}
use Rattle.session_memory.proofs.EndsLaws.{open_first, open_none}
use Rattle.session_memory.proofs.PlaceLaws.{first_place, no_place}
use Rattle.session_memory.proofs.lookups.has_open.Goals as goal

pub returns-in-Some : goal.returns-in-Some
returns-in-Some c =
    open_first c.args.id.0 c.args.branches.now c.in-Some.at c.index-branches-at.result c.requires.rising
    (first_place (has_number c.args.id.0) c.args.branches.now c.in-Some.at (sym c.branch_place.ensures ∙ c.in-Some.is))

pub returns-in-None : goal.returns-in-None
returns-in-None c = open_none c.args.id.0 c.args.branches.now (no_place (has_number c.args.id.0) c.args.branches.now (sym c.branch_place.ensures ∙ c.in-None.is))
