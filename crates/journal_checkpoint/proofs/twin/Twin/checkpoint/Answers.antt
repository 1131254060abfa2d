use Rattle.std.proofs.Common.{sym, subst, arith, rules}
use Rattle.std.specs.Prelude.{length}
use Rattle.disk_journal.specs.Journals.{from_of}
use Rattle.journal_checkpoint.specs.Images.{LeavesPairs, Either, only_snapshot}
use Rattle.journal_checkpoint.specs.Keeping.{ordered}
use Rattle.journal_checkpoint.proofs.Twins.{is_former, turned}
use Rattle.journal_checkpoint.proofs.Kept.{other_still, kept_or_fresh, kept_there, stands_there}
use Rattle.journal_checkpoint.proofs.twin.Twin.checkpoint.Goals as goal

pub returns-then-length-size-clause-any_moment : goal.returns-then-length-size-clause-any_moment
returns-then-length-size-clause-any_moment g c = λ found keeps.
    kept_or_fresh g.D.Disk.state g.met.D.Disk.lawful found c.args.self.now keeps c.args.snapshot.now
    (other_still g.D.Disk.state g.met.D.Disk.lawful found c.args.self.now keeps c.args.snapshot.now)

pub returns-then-self-clause-any_moment : goal.returns-then-self-clause-any_moment
returns-then-self-clause-any_moment g c = λ found keeps.
    kept_or_fresh g.D.Disk.state g.met.D.Disk.lawful found c.args.self.now keeps c.args.snapshot.now
    (other_still g.D.Disk.state g.met.D.Disk.lawful found c.args.self.now keeps c.args.snapshot.now)

pub returns-in-Err-clause-any_moment : goal.returns-in-Err-clause-any_moment
returns-in-Err-clause-any_moment g c = λ found keeps.
    subst (λ d. LeavesPairs (ordered c.args.self.now.second (g.D.Disk.state c.args.self.now.journal.disk) (g.D.Disk.state c.args.self.now.other)) (ordered c.args.self.now.second (g.D.Disk.state d) (g.D.Disk.state c.write_snapshot.new.disk)) (Either found (only_snapshot found c.args.snapshot.now))) (sym c.fall.ensures.disk)
    (kept_or_fresh g.D.Disk.state g.met.D.Disk.lawful found c.args.self.now keeps c.args.snapshot.now (c.write_snapshot.ensures.any_moment keeps.passive))

pub returns-in-Ok-clause-any_moment : goal.returns-in-Ok-clause-any_moment
returns-in-Ok-clause-any_moment g c = λ found keeps.
    rw (c.exchange.ensures.disk, c.exchange.ensures.former) (turned c.args.self.now.second (g.D.Disk.state c.args.self.now.journal.disk) (g.D.Disk.state c.args.self.now.other) (g.D.Disk.state c.write_snapshot.new.disk)
    (kept_or_fresh g.D.Disk.state g.met.D.Disk.lawful found c.args.self.now keeps c.args.snapshot.now (c.write_snapshot.ensures.any_moment keeps.passive)))

pub returns-in-Ok-clause-done : goal.returns-in-Ok-clause-done
returns-in-Ok-clause-done g c = λ is found keeps. record {
  journal = c.exchange.ensures.keeps (record { settled = c.in-Ok.ensures.settled; images = λ k left. (c.in-Ok.ensures.written k left).empty });
  settled = rw c.exchange.ensures.former keeps.journal.disk.settled;
  active = rw (c.exchange.ensures.disk, c.exchange.ensures.begins) (λ k left. (c.in-Ok.ensures.written k left).active);
  passive = rw c.exchange.ensures.former (λ k left. is_former c.args.self.now.generation (from_of c.args.self.now.journal) found.snapshot k (keeps.active k left));
  side = λ none. absurd (omega arith);
  extent = kept_there g.D.Disk.state g.met.D.Disk.lawful found c.args.self.now keeps c.exchange.new.self c.args.snapshot.now c.exchange.ensures.begins
      (c.exchange.ensures.keeps (record { settled = c.in-Ok.ensures.settled; images = λ k left. (c.in-Ok.ensures.written k left).empty }));
}

pub returns-in-Ok-clause-exchanged : goal.returns-in-Ok-clause-exchanged
returns-in-Ok-clause-exchanged g c = λ is. record {
  former = search rules;
  extent = stands_there c.args.self.now c.exchange.new.self (length c.args.snapshot.now) c.exchange.ensures.begins c.exchange.ensures.ends;
  counts = search rules;
  rest = search rules;
}
