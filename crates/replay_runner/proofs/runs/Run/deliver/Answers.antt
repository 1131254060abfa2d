use Rattle.std.proofs.Common.{ap, length, refl, sym, ◌∙◌}
use Rattle.history_text.specs.declared.entries.Cause.TheVariants as cause
use Rattle.replay_runner.specs.Standing.{disks_at}
use Rattle.replay_runner.proofs.Failed.{memory_at}
use Rattle.replay_runner.proofs.Stepping.{ends_before, missed_or_ends}
use Rattle.replay_runner.proofs.Sound.{went_missing}
use Rattle.replay_runner.proofs.runs.Run.deliver.Goals as goal

pub hear-requires-clause-sent : goal.hear-requires-clause-sent
hear-requires-clause-sent g c = sym c.in-Ok-Some.ensures.found ∙ c.in-Ok-Some.field-0-is

pub returns-in-Ok-Some-clause-made : goal.returns-in-Ok-Some-clause-made
returns-in-Ok-Some-clause-made g c = λ names.
    let framable = rw c.in-Ok-Some.field-0-is at c.in-Ok-Some.ensures.framable in
    c.hear.ensures.made (record { step = names; is_found = sym c.in-Ok-Some.ensures.found ∙ c.in-Ok-Some.field-0-is; framable = framable })

pub returns-in-Err-clause-made : goal.returns-in-Err-clause-made
returns-in-Err-clause-made g c = λ names. ends_before g.D.Disk.state c.args.self.now c.args.self.now names.here refl

pub returns-in-Ok-None-clause-made : goal.returns-in-Ok-None-clause-made
returns-in-Ok-None-clause-made g c = λ names.
    missed_or_ends g.D.Disk.state c.args.self.now c.make_without_node.new.self c.args.stamp names (sym c.in-Ok-None.ensures.found ∙ c.in-Ok-None.field-0-is) c.make_without_node.result c.make_without_node.ensures.passed c.make_without_node.ensures.fault
    c.make_without_node.ensures.nodes c.make_without_node.ensures.waiting c.make_without_node.ensures.clock

pub returns-in-Ok-None-clause-gone : goal.returns-in-Ok-None-clause-gone
returns-in-Ok-None-clause-gone g c = record {
  failed = memory_at (disks_at g.D.Disk.state c.make_without_node.new.self.nodes) c.make_without_node.result c.make_without_node.ensures.fault;
  went = went_missing (length c.args.self.now.nodes.managers.items) (length c.args.self.now.nodes.resources.items) (length c.args.self.now.places.items) c.args.self.now c.make_without_node.new.self c.requires.can.goes (cause.Missing c.args.stamp) c.make_without_node.result c.make_without_node.ensures.passed c.make_without_node.ensures.nodes c.make_without_node.ensures.waiting c.make_without_node.ensures.clock;
  count = ap (λ v. length v.resources.items) c.make_without_node.ensures.nodes;
}
