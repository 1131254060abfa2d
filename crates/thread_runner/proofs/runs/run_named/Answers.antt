use Rattle.std.proofs.Common.{inr, rules}
use Rattle.replay_runner.proofs.Finished.{played_on, unasked}
use Rattle.thread_runner.specs.Running.{Leaves}
use Rattle.thread_runner.specs.Seats.{IsKnown}
use Rattle.thread_runner.proofs.runs.run_named.Goals as goal

pub returns-in_default : goal.returns-in_default
returns-in_default g c = unasked (Leaves c.args.scenario.now) g.H.D.Disk.state c.args.scenario.now (g.H.Shelf.state c.args.shelf.now)

pub returns-in_default-prepare : goal.returns-in_default-prepare
returns-in_default-prepare g c = unasked (Leaves c.args.scenario.now) g.H.D.Disk.state c.args.scenario.now (g.H.Shelf.state c.args.shelf.now)

pub run_nodes-requires-clause-taken : goal.run_nodes-requires-clause-taken
run_nodes-requires-clause-taken g c κs within = c.in-Ok-open_servers.ensures.shelf.takes.both

pub run_nodes-requires-clause-opened : goal.run_nodes-requires-clause-opened
run_nodes-requires-clause-opened g c κs within = record { before = c.args.shelf.now; new = c.in-Ok-open_servers.ensures.new; disks = c.requires.disks }

pub returns-in-Ok-open_servers : goal.returns-in-Ok-open_servers
returns-in-Ok-open_servers g c =
    let state = g.H.Shelf.state in
    played_on (Leaves c.args.scenario.now) g.H.D.Disk.state c.args.scenario.now (IsKnown g.K.RunName.held g.K.RunName.run) (state c.args.shelf.now) (state c.open_servers.new.shelf) (state c.run_nodes.new.shelf) c.run_nodes.result
    (λ held holds. (c.requires.disks.tells held holds, c.requires.disks.holds held holds)) c.in-Ok-open_servers.ensures.shelf.takes c.run_nodes.ensures

pub returns : goal.returns
returns g c = let e = c.in-Err.ensures in record { uses = inr e.refused; returned = e.shelf.returned; keeps = e.shelf.keeps }
