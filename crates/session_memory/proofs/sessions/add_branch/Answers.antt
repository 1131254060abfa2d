use Rattle.std.proofs.Common.{◌∙◌, sym}
use Rattle.session_memory.specs.Lookups.{has_xid}
use Rattle.session_memory.specs.Changes.{with_branch}
use Rattle.session_memory.proofs.PlaceLaws.{first_place, no_place, changed_ok, changed_none}
use Rattle.session_memory.proofs.sessions.add_branch.Goals as goal

pub returns-in-Some-clause-ok : goal.returns-in-Some-clause-ok
returns-in-Some-clause-ok c =
    changed_ok c.push_branch.result c.args.xid.0 (with_branch c.args.branch) c.args.sessions.now c.in-Some.at c.index-sessions-at.result c.push_branch.new.session
    (first_place (has_xid c.args.xid.0) c.args.sessions.now c.in-Some.at (sym c.place.ensures ∙ c.in-Some.is)) c.push_branch.ensures.ok

pub returns-in-None-clause-ok : goal.returns-in-None-clause-ok
returns-in-None-clause-ok c =
    sym (changed_none c.args.xid.0 (with_branch c.args.branch) c.args.sessions.now (no_place (has_xid c.args.xid.0) c.args.sessions.now (sym c.place.ensures ∙ c.in-None.is)))
