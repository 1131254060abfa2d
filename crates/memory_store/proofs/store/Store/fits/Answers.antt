use Rattle.std.proofs.Common.{arith}
use Rattle.memory_store.proofs.Replaying.{few_acts, rows_are_long}
use Rattle.memory_store.proofs.TwinFacts.{end_is_small}
use Rattle.memory_store.proofs.store.Store.fits.Goals as goal

pub returns-then-acts-clause-exact : goal.returns-then-acts-clause-exact
returns-then-acts-clause-exact g c = λ found keeps.
    absurd (omega (
      arith,
      few_acts (g.M.StateMachine.meaning c.args.self.now.machine) (g.met.M.StateMachine.lawful c.args.self.now.machine) found c.args.self.now.memory keeps.held,
      rows_are_long found.records,
      end_is_small g.D.Disk.state found c.args.self.now.twin keeps.pair,
    ))
