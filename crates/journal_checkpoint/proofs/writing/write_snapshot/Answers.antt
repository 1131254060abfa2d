use Rattle.std.proofs.Common.{rules, Bool, subst, sym, arith}
use Rattle.disk_model.proofs.Calls.{leaves_then}
use Rattle.journal_checkpoint.specs.Pairs.{head_of}
use Rattle.journal_checkpoint.specs.Images.{IsOtherHead, WritesSnapshot}
use Rattle.journal_checkpoint.proofs.Writes.{closing_leaves, are_closed}
use Rattle.journal_checkpoint.proofs.writing.write_snapshot.Goals as goal

pub returns-in_err-write_through : goal.returns-in_err-write_through
returns-in_err-write_through g c = record {
  any_moment = λ older.
      closing_leaves c.args.generation c.args.snapshot.now _ _ (g.met.D.Disk.lawful c.args.disk.now) (omega (arith, c.requires.fits))
      (λ k left. subst (λ (b : Bool). IsOtherHead c.args.generation b (head_of k)) c.if-was_open.true (older k left)) c.write_through.ensures.images;
  written = search rules;
  settled = search rules;
  counts = search rules;
  rest = search rules;
}

pub returns-in_err-stage_and_open : goal.returns-in_err-stage_and_open
returns-in_err-stage_and_open g c = record {
  any_moment = λ older.
      leaves_then (closing_leaves c.args.generation c.args.snapshot.now _ _ (g.met.D.Disk.lawful c.args.disk.now) (omega (arith, c.requires.fits))
      (λ k left. subst (λ (b : Bool). IsOtherHead c.args.generation b (head_of k)) c.if-was_open.true (older k left)) c.write_through.ensures.images)
      (c.stage_and_open.ensures.any_moment (are_closed c.args.generation c.args.snapshot.now (g.D.Disk.state c.args.disk.now) (g.D.Disk.state c.write_through.new.disk) (g.met.D.Disk.lawful c.args.disk.now) (omega (arith, c.requires.fits)) c.in_ok-write_through.ensures.written));
  written = search rules;
  settled = search rules;
  counts = search rules;
  rest = search rules;
}

pub returns-then-was_open : goal.returns-then-was_open
returns-then-was_open g c = record {
  any_moment = λ older.
      leaves_then (closing_leaves c.args.generation c.args.snapshot.now _ _ (g.met.D.Disk.lawful c.args.disk.now) (omega (arith, c.requires.fits))
      (λ k left. subst (λ (b : Bool). IsOtherHead c.args.generation b (head_of k)) c.if-was_open.true (older k left)) c.write_through.ensures.images)
      (c.stage_and_open.ensures.any_moment (are_closed c.args.generation c.args.snapshot.now (g.D.Disk.state c.args.disk.now) (g.D.Disk.state c.write_through.new.disk) (g.met.D.Disk.lawful c.args.disk.now) (omega (arith, c.requires.fits)) c.in_ok-write_through.ensures.written));
  written = search rules;
  settled = search rules;
  counts = search rules;
  rest = search rules;
}

pub returns : goal.returns
returns g c =
    subst (λ (b : Bool). WritesSnapshot b c.args.generation c.args.snapshot.now c.stage_and_open-2.result (g.D.Disk.state c.args.disk.now) (g.D.Disk.state c.stage_and_open-2.new.disk)) (sym c.if-was_open.false) c.stage_and_open-2.ensures
