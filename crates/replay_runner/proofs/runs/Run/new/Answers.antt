use Rattle.std.proofs.Common.{◌∙◌, refl, ap, length}
use Rattle.seata_types.specs.declared.ids.Place.TheVariants as place
use Rattle.coordinator_core.specs.Standing.{start_of}
use Rattle.scenario_nodes.specs.Nodes.{coordinator_role}
use Rattle.replay_runner.proofs.Playing.{plays_nothing}
use Rattle.replay_runner.proofs.Sound.{goes_nothing}
use Rattle.replay_runner.proofs.runs.Run.new.Goals as goal

pub returns-clause-plays : goal.returns-clause-plays
returns-clause-plays g c = λ s held nodes named.
    plays_nothing g.D.Disk.state s held (record {
      nodes = c.args.nodes;
      network = c.new.result;
      places = c.new-2.result;
      messages = c.new-3.result;
      clock = c.start-clock.result;
    }) nodes named c.new.ensures.items c.new-2.ensures.items c.new-3.ensures
    (c.start-clock.ensures.value ∙ ap start_of c.node.ensures ∙ (nodes.each place.Tc (coordinator_role s held) refl).member.stands.1.starts)

pub returns-clause-goes : goal.returns-clause-goes
returns-clause-goes g c =
    goes_nothing (length c.args.nodes.managers.items) (length c.args.nodes.resources.items) (start_of c.args.nodes.coordinator.seat.node) (record {
      nodes = c.args.nodes;
      network = c.new.result;
      places = c.new-2.result;
      messages = c.new-3.result;
      clock = c.start-clock.result;
    }) c.requires.going c.new-2.ensures.items c.new-3.ensures (c.start-clock.ensures.value ∙ ap start_of c.node.ensures) c.requires.early
