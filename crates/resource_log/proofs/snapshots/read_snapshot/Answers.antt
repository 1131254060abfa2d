use Rattle.resource_log.proofs.SnapshotLaws.{snapshots_are_of_layouts}
use Rattle.resource_log.proofs.snapshots.read_snapshot.Goals as goal

pub returns-in_err-found-clause-layouts : goal.returns-in_err-found-clause-layouts
returns-in_err-found-clause-layouts c = snapshots_are_of_layouts

pub returns-in-Ok-true-clause-layouts : goal.returns-in-Ok-true-clause-layouts
returns-in-Ok-true-clause-layouts c = snapshots_are_of_layouts

pub returns-in-Ok-false-clause-layouts : goal.returns-in-Ok-false-clause-layouts
returns-in-Ok-false-clause-layouts c = snapshots_are_of_layouts

pub returns-in-Err-clause-layouts : goal.returns-in-Err-clause-layouts
returns-in-Err-clause-layouts c = snapshots_are_of_layouts
