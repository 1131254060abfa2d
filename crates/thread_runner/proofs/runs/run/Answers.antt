use Rattle.std.proofs.Common.{refl}
use Rattle.thread_runner.specs.Running.{Leaves}
use Rattle.replay_runner.proofs.Calm.{ends_calmly}
use Rattle.replay_runner.proofs.Finished.{unasked}
use Rattle.thread_runner.proofs.Calm.{never_damaged}
use Rattle.thread_runner.proofs.runs.run.Goals as goal

pub run_named-requires-clause-named : goal.run_named-requires-clause-named
run_named-requires-clause-named g c κs within = record {
  is_world = refl;
  stops = refl;
  bytes = refl;
  managers = refl;
  resources = refl;
}

pub run_named-requires-clause-disks : goal.run_named-requires-clause-disks
run_named-requires-clause-disks g c κs within = record { tells = λ h holds. (h, holds); told = λ told. told; holds = λ h holds. holds; held_all = λ h holds. holds }

pub returns-clause-calm : goal.returns-clause-calm
returns-clause-calm g c held holds =
    let s = c.args.scenario.now in
    ends_calmly (Leaves s) g.H.D.Disk.state s (g.H.Shelf.state c.args.shelf.now) (g.H.Shelf.state c.run_named.new.shelf) held (never_damaged s held) holds c.run_named.result
    c.run_named.ensures.keeps.tells c.run_named.ensures.uses

pub returns-in_default-clause-runs : goal.returns-in_default-clause-runs
returns-in_default-clause-runs g c = (unasked (Leaves c.args.scenario.now) g.H.D.Disk.state c.args.scenario.now (g.H.Shelf.state c.args.shelf.now)).uses
