use Rattle.run_rounds.proofs.Ended.{ends_err}
use Rattle.run_rounds.proofs.rounds.make_rounds.Goals as goal

pub returns-clause-stopped : goal.returns-clause-stopped
returns-clause-stopped g c = ends_err g.D.Disk.state c.args.seats.now c.rounds.new.seats c.rounds.result c.rounds.ensures.ended
