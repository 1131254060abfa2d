use Rattle.std.proofs.Common.{subst}
use Rattle.coordinator_rules.specs.Changes.{GivesUp}
use Rattle.coordinator_core.specs.Plain.{is_failure}
use Rattle.coordinator_core.proofs.Errors.{unmade_after}
use Rattle.coordinator_core.proofs.table.Table.add.Goals as goal

pub returns-in-Err-put-clause-added : goal.returns-in-Err-put-clause-added
returns-in-Err-put-clause-added g c =
    unmade_after g.D.Disk.state c.args.self.now c.put.new.sessions c.give_up.new.self c.args.item.now c.args.now c.ranges.now.fits c.requires.made.allowed c.in-Err-put.error c.in-Err-put.ensures.made
    (subst (λ m. GivesUp (is_failure c.in-Err-put.error) c.args.self.now.retry c.args.now c.args.item.now m c.give_up.new.self) c.in_default.ensures.ok
    (subst (λ b. GivesUp b c.args.self.now.retry c.args.now c.args.item.now c.prepare.new.self c.give_up.new.self) c.is_failure.ensures c.give_up.ensures))
