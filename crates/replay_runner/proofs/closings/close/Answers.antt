use Rattle.std.proofs.Common.{◌∙◌, List, refl, subst, sym}
use Rattle.scenario_nodes.specs.Nodes.{server_names}
use Rattle.scenario_nodes.specs.Together.{GivesBack}
use Rattle.scenario_nodes.proofs.Together.{each_length}
use Rattle.replay_runner.specs.Collecting.{IsNodeOf}
use Rattle.replay_runner.specs.OnShelves.{IsRoom}
use Rattle.replay_runner.proofs.Gathered.{gathered_history}
use Rattle.replay_runner.proofs.Unseated.{disks_out}
use Rattle.replay_runner.proofs.closings.close.Goals as goal

pub unseated-resources-requires : goal.unseated-resources-requires
unseated-resources-requires g c = subst (λ n. IsRoom n c.args.room) (sym c.requires.whole) c.requires.room

pub close_servers-requires-clause-whole : goal.close_servers-requires-clause-whole
close_servers-requires-clause-whole g c κs within =
    sym (each_length IsNodeOf c.args.run.nodes.resources.items c.unseated-resources.result.0.items c.unseated-resources.ensures.nodes) ∙ c.requires.whole

pub returns-in_err-managers-clause-gives : goal.returns-in_err-managers-clause-gives
returns-in_err-managers-clause-gives g c =
    subst (λ (ds : List (g.row.H-D.Denot × g.row.H-D.Denot)). GivesBack (server_names c.args.scenario.now) ds (g.H.Shelf.state c.args.shelf.now) (g.H.Shelf.state c.close_servers.new.shelf))
    (disks_out c.args.run.nodes c.finish-coordinator.result.0 c.unseated-resources.result.0.items c.finish-coordinator.ensures.node c.unseated-resources.ensures.nodes) c.close_servers.ensures

pub returns-clause-gives : goal.returns-clause-gives
returns-clause-gives g c =
    subst (λ (ds : List (g.row.H-D.Denot × g.row.H-D.Denot)). GivesBack (server_names c.args.scenario.now) ds (g.H.Shelf.state c.args.shelf.now) (g.H.Shelf.state c.close_servers.new.shelf))
    (disks_out c.args.run.nodes c.finish-coordinator.result.0 c.unseated-resources.result.0.items c.finish-coordinator.ensures.node c.unseated-resources.ensures.nodes) c.close_servers.ensures

pub returns-clause-history : goal.returns-clause-history
returns-clause-history g c =
    gathered_history c.collected.result c.args.run.nodes
    (record { network = c.args.run.network; coordinator = c.into_vec.result; resources = c.unseated-resources.result.1; managers = c.in_ok-managers.managers }) c.args.run.network.items c.args.run.places.items
    c.as_slice.result.now c.unseated-resources.ensures.traces c.in_ok-managers.ensures refl (c.into_vec.ensures ∙ c.finish-coordinator.ensures.trace) c.as_slice.ensures.value c.collected.ensures
