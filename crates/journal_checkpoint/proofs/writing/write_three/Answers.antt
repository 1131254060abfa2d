use Rattle.std.proofs.Common.{rules}
use Rattle.journal_checkpoint.proofs.Puts.{one_written, two_written, all_written, pending_synced, three_written}
use Rattle.journal_checkpoint.proofs.writing.write_three.Goals as goal

pub returns-in_err-write_at : goal.returns-in_err-write_at
returns-in_err-write_at g c = record {
  written = search rules;
  settled = search rules;
  images = one_written c.args.at c.args.one.now c.args.two.now c.args.three.now c.write_at.ensures.images;
  counts = search rules;
  rest = search rules;
}

pub returns-in_err-write_at-2 : goal.returns-in_err-write_at-2
returns-in_err-write_at-2 g c = record {
  written = search rules;
  settled = search rules;
  images = two_written c.args.at c.args.one.now c.args.two.now c.args.three.now c.write_at.ensures.images c.write_at-2.ensures.images;
  counts = search rules;
  rest = search rules;
}

pub returns-in_err-write_at-3 : goal.returns-in_err-write_at-3
returns-in_err-write_at-3 g c = record {
  written = search rules;
  settled = search rules;
  images = all_written c.args.at c.args.one.now c.args.two.now c.args.three.now c.write_at.ensures.images c.write_at-2.ensures.images c.write_at-3.ensures.images;
  counts = search rules;
  rest = search rules;
}

pub returns-in_err-sync : goal.returns-in_err-sync
returns-in_err-sync g c = record {
  written = search rules;
  settled = search rules;
  images = pending_synced c.args.at _ (all_written c.args.at c.args.one.now c.args.two.now c.args.three.now c.write_at.ensures.images c.write_at-2.ensures.images c.write_at-3.ensures.images) c.sync.ensures.images;
  counts = search rules;
  rest = search rules;
}

pub returns : goal.returns
returns g c = record {
  written = three_written c.args.at c.args.one.now c.args.two.now c.args.three.now (g.met.D.Disk.lawful c.args.disk.now) c.requires.fits
      c.in_ok-write_at.ensures.written c.in_ok-write_at-2.ensures.written c.in_ok-write_at-3.ensures.written c.in_ok-sync.ensures.synced;
  settled = search rules;
  images = pending_synced c.args.at _ (all_written c.args.at c.args.one.now c.args.two.now c.args.three.now c.write_at.ensures.images c.write_at-2.ensures.images c.write_at-3.ensures.images) c.sync.ensures.images;
  counts = search rules;
  rest = search rules;
}
