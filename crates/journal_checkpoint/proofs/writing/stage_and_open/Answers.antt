use Rattle.std.proofs.Common.{rules, arith}
use Rattle.journal_checkpoint.proofs.Writes.{staged_leaves, both_leave, are_fresh}
use Rattle.journal_checkpoint.proofs.writing.stage_and_open.Goals as goal

pub returns-in_err-stage : goal.returns-in_err-stage
returns-in_err-stage g c = record {
  any_moment = λ shut.
      staged_leaves c.args.generation c.args.snapshot.now (omega (arith, c.requires.small)) (omega (arith, c.requires.fits, c.size-size.ensures.size, c.size-size.ensures.small)) _ (g.met.D.Disk.lawful c.args.disk.now) c.requires.fits shut _ _ c.stage.ensures.images;
  written = search rules;
  settled = search rules;
  counts = search rules;
  rest = search rules;
}

pub returns-in_err-write_through : goal.returns-in_err-write_through
returns-in_err-write_through g c = record {
  any_moment = λ shut.
      both_leave c.args.generation c.args.snapshot.now (omega (arith, c.requires.small)) (omega (arith, c.requires.fits, c.size-size.ensures.size, c.size-size.ensures.small)) _ (g.met.D.Disk.lawful c.args.disk.now) c.requires.fits shut _ (g.D.Disk.state c.stage.new.disk) _ c.stage.ensures.images c.in_ok-stage.ensures.written c.write_through.ensures.images;
  written = search rules;
  settled = search rules;
  counts = search rules;
  rest = search rules;
}

pub returns : goal.returns
returns g c = record {
  any_moment = λ shut.
      both_leave c.args.generation c.args.snapshot.now (omega (arith, c.requires.small)) (omega (arith, c.requires.fits, c.size-size.ensures.size, c.size-size.ensures.small)) _ (g.met.D.Disk.lawful c.args.disk.now) c.requires.fits shut _ (g.D.Disk.state c.stage.new.disk) _ c.stage.ensures.images c.in_ok-stage.ensures.written c.write_through.ensures.images;
  written = are_fresh c.args.generation c.args.snapshot.now (omega (arith, c.requires.small)) (omega (arith, c.requires.fits, c.size-size.ensures.size, c.size-size.ensures.small)) (g.D.Disk.state c.args.disk.now) (g.met.D.Disk.lawful c.args.disk.now) c.requires.fits (g.D.Disk.state c.stage.new.disk) c.in_ok-stage.ensures.written (g.D.Disk.state c.write_through.new.disk) c.in_ok-write_through.ensures.written;
  settled = search rules;
  counts = search rules;
  rest = search rules;
}
