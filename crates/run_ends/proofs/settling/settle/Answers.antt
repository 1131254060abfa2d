use Rattle.std.proofs.Common.{◌∙◌, drop, length}
use Rattle.run_ends.proofs.OneHistory.{settled}
use Rattle.run_ends.proofs.Walking.{lent_joined, lent_traces}
use Rattle.run_ends.proofs.settling.settle.Goals as goal

pub returns-clause-traces : goal.returns-clause-traces
returns-clause-traces g c =
    let nodes = c.args.nodes in
    let left = c.join_nodes.new.nodes in
    c.traces_of.ensures
    ∙ lent_traces nodes.items c.as_mut_slice.result.now left c.as_mut_slice.ensures.value c.in_ok-join_nodes.ensures nodes.len nodes.ok.0 (drop (length left) nodes.items)

pub returns-clause-joined : goal.returns-clause-joined
returns-clause-joined g c = lent_joined c.args.nodes.items c.as_mut_slice.result.now c.join_nodes.new.nodes c.as_mut_slice.ensures.value c.in_ok-join_nodes.ensures

pub returns-clause-settled : goal.returns-clause-settled
returns-clause-settled g c past =
    settled c.ended_nodes_make_a_run.ensures c.ended_nodes_make_a_history.ensures g.K.RunName.world past g.K.RunName.run.stops c.args.nodes.items (c.requires.run past)
    (lent_joined c.args.nodes.items c.as_mut_slice.result.now c.join_nodes.new.nodes c.as_mut_slice.ensures.value c.in_ok-join_nodes.ensures)
