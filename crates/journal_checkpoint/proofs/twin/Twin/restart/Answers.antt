use Rattle.std.proofs.Common.{true, false, subst}
use Rattle.journal_checkpoint.specs.Images.{Restarts}
use Rattle.journal_checkpoint.specs.Keeping.{first_disk, second_disk}
use Rattle.journal_checkpoint.proofs.Loads.{alike_same, present_same, restarts_then, tells_same}
use Rattle.journal_checkpoint.proofs.twin.Twin.restart.Goals as goal

pub returns-in-Ok-clause-keeps : goal.returns-in-Ok-clause-keeps
returns-in-Ok-clause-keeps g c = λ alike. c.in-Ok.ensures.keeps (alike_same (present_same c.reload.ensures.reads.first_reads) (present_same c.reload.ensures.reads.second_reads) alike)

pub returns-in-Ok-clause-tells : goal.returns-in-Ok-clause-tells
returns-in-Ok-clause-tells g c = tells_same (present_same c.reload.ensures.reads.first_reads) (present_same c.reload.ensures.reads.second_reads) _ c.in-Ok.ensures.reads.tells

pub returns-in-Err-reload-clause-tells : goal.returns-in-Err-reload-clause-tells
returns-in-Err-reload-clause-tells g c = tells_same (present_same c.reload.ensures.reads.first_reads) (present_same c.reload.ensures.reads.second_reads) _ c.in-Err-reload.ensures.reads.tells

pub returns-in-Ok-clause-restarts : goal.returns-in-Ok-clause-restarts
returns-in-Ok-clause-restarts g c = record {
  first = subst (λ (d : g.row.D.Denot). Restarts true c.args.pick (g.D.Disk.state d) (g.D.Disk.state (first_disk c.reload.new.self))) c.fall.ensures.first
      (restarts_then true c.args.pick c.in_default.ensures.restarts.first c.reload.ensures.reads.first_reads);
  second = subst (λ (d : g.row.D.Denot). Restarts true c.args.pick (g.D.Disk.state d) (g.D.Disk.state (second_disk c.reload.new.self))) c.fall.ensures.second
      (restarts_then true c.args.pick c.in_default.ensures.restarts.second c.reload.ensures.reads.second_reads);
}

pub returns-in-Err-reload-clause-restarts : goal.returns-in-Err-reload-clause-restarts
returns-in-Err-reload-clause-restarts g c = record {
  first = subst (λ (d : g.row.D.Denot). Restarts false c.args.pick (g.D.Disk.state d) (g.D.Disk.state (first_disk c.reload.new.self))) c.fall.ensures.first
      (restarts_then false c.args.pick c.in_default.ensures.restarts.first c.reload.ensures.reads.first_reads);
  second = subst (λ (d : g.row.D.Denot). Restarts false c.args.pick (g.D.Disk.state d) (g.D.Disk.state (second_disk c.reload.new.self))) c.fall.ensures.second
      (restarts_then false c.args.pick c.in_default.ensures.restarts.second c.reload.ensures.reads.second_reads);
}
