use Rattle.session_store.proofs.SessionLaws.{same_opening}
use Rattle.session_store.proofs.sessions.Sessions.fall.Goals as goal

pub returns-clause-opening : goal.returns-clause-opening
returns-clause-opening g c = same_opening c.args.self.now (record { store = c.fall.new.self }) c.fall.ensures.machine c.fall.ensures.found
