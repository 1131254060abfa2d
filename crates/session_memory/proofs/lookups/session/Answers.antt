use Rattle.session_memory.proofs.SearchLaws.{session_at, session_nowhere}
use Rattle.session_memory.proofs.lookups.session.Goals as goal

pub returns-in-Some : goal.returns-in-Some
returns-in-Some c =
    session_at c.args.xid.0 c.args.sessions.now c.in-Some.at c.index-sessions-at.result c.in-Some.ensures

pub returns-in-None : goal.returns-in-None
returns-in-None c = session_nowhere c.args.xid.0 c.args.sessions.now c.in-None.ensures
