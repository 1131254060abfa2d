use Rattle.session_memory.proofs.EndsLaws.{first_found, first_none}
use Rattle.session_memory.proofs.ends.first_open.Goals as goal

pub returns-then-at-branches : goal.returns-then-at-branches
returns-then-at-branches c =
    first_found c.first_from-at.result c.args.branches.now c.index-branches-at.result c.if-at-branches.true c.first_from-at.ensures c.index-branches-at.is

pub returns : goal.returns
returns c = first_none c.first_from-at.result c.args.branches.now c.if-at-branches.false c.first_from-at.ensures.before
