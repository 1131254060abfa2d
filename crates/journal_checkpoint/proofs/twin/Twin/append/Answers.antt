use Rattle.std.specs.Prelude.{length}
use Rattle.journal_checkpoint.proofs.Twins.{on_ok}
use Rattle.journal_checkpoint.proofs.Kept.{active_kept, kept_or_added, kept_alone, kept_more, stands_behind}
use Rattle.journal_checkpoint.proofs.twin.Twin.append.Goals as goal

pub returns-clause-acknowledged : goal.returns-clause-acknowledged
returns-clause-acknowledged g c = on_ok c.append.result (λ acked found keeps. record {
  journal = acked found.records keeps.journal;
  settled = keeps.settled;
  active = λ k left. rw c.append.ensures.begins (active_kept g.D.Disk.state g.met.D.Disk.lawful found c.args.self.now keeps c.append.ensures.front k left);
  passive = keeps.passive;
  side = keeps.side;
  extent = kept_more g.D.Disk.state g.met.D.Disk.lawful found c.args.self.now keeps c.append.new.self c.args.body.now c.append.ensures.begins (acked found.records keeps.journal);
}) c.append.ensures.acknowledged

pub returns-clause-any_moment : goal.returns-clause-any_moment
returns-clause-any_moment g c = λ found keeps.
    kept_or_added g.D.Disk.state g.met.D.Disk.lawful found c.args.self.now keeps c.append.ensures.front c.args.body.now (c.append.ensures.any_moment found.records keeps.journal)

pub returns-clause-not_begun : goal.returns-clause-not_begun
returns-clause-not_begun g c = λ found keeps calls left few.
    kept_alone g.D.Disk.state g.met.D.Disk.lawful found c.args.self.now keeps c.append.ensures.front (c.append.ensures.not_begun found.records keeps.journal calls left few)

pub returns-clause-extent : goal.returns-clause-extent
returns-clause-extent g c = on_ok c.append.result (stands_behind c.args.self.now c.append.new.self (length c.args.body.now) c.append.ensures.begins) c.append.ensures.moved
