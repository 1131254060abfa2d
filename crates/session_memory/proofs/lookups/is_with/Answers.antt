use Rattle.std.proofs.Common.{◌∙◌, sym, ap}
use Rattle.session_log.specs.declared.sessions.Branch.{Branch}
use Rattle.session_memory.specs.Lookups.{has_number, has_ticket}
use Rattle.session_memory.proofs.OwnerLaws.{with_first, with_none}
use Rattle.session_memory.proofs.PlaceLaws.{first_place, no_place}
use Rattle.session_memory.proofs.lookups.is_with.Goals as goal

pub returns-in-Some : goal.returns-in-Some
returns-in-Some c =
    c.has_ticket.ensures ∙ ap (λ (b : Branch). has_ticket c.args.resource c.args.ticket b) c.index-branches-at.is
    ∙ with_first c.args.id.0 c.args.resource c.args.ticket c.args.branches.now c.in-Some.at c.index-branches-at.result c.requires.rising
    (first_place (has_number c.args.id.0) c.args.branches.now c.in-Some.at (sym c.branch_place.ensures ∙ c.in-Some.is))

pub returns-in-None : goal.returns-in-None
returns-in-None c =
    with_none c.args.id.0 c.args.resource c.args.ticket c.args.branches.now (no_place (has_number c.args.id.0) c.args.branches.now (sym c.branch_place.ensures ∙ c.in-None.is))
