use Rattle.std.proofs.Common.{refl, arith}
use Rattle.coordinator_core.proofs.Disks.{stopped}
use Rattle.coordinator_core.proofs.Stepped.{stepped, missed_after}
use Rattle.coordinator_core.proofs.nodes.Coordinator.step_counting_passes.Goals as goal

pub returns-in-Ok-clause-counts : goal.returns-in-Ok-clause-counts
returns-in-Ok-clause-counts g c = record {
  steps = stepped g.D.Disk.state (stopped g.D.Disk.state g.met.D.Disk.lawful) c.args.self.now _ c.args.input c.args.now c.requires.up refl c.in-Ok.step c.in-Ok.ensures.answers
      (omega (arith, c.requires.able));
  start = refl;
  cost = c.in-Ok.ensures.cost;
}

pub returns-in-Err-clause-counts : goal.returns-in-Err-clause-counts
returns-in-Err-clause-counts g c =
    let s = c.args.self.now in record {
      steps = missed_after g.D.Disk.state (stopped g.D.Disk.state g.met.D.Disk.lawful) s c.miss.new.self c.args.input c.args.now c.requires.up c.miss.ensures.start
          (record s { table = c.answer.new.self }) c.records-records.result c.records-records.ensures refl c.in-Err.error c.in-Err.ensures.answers.answers c.miss.ensures.misses;
      start = c.miss.ensures.start;
      cost = c.in-Err.ensures.cost;
    }
