use Rattle.std.proofs.Common.{◌∙◌}
use Rattle.replay_runner.proofs.Earliest.{longest_among, longest_is, waits_longest}
use Rattle.replay_runner.proofs.nodes.Nodes.longest_waiting.Goals as goal

pub returns-clause-earliest : goal.returns-clause-earliest
returns-clause-earliest g c = λ s held ms t.
    longest_is g.D.Disk.state c.args.self.now c.as_slice.result.now c.as_slice-2.result.now c.earlier-first.result c.earlier.result c.as_slice.ensures.value c.as_slice-2.ensures.value c.earlier-first.ensures c.earlier.ensures
    ∙ waits_longest g.D.Disk.state s held c.args.self.now ms t

pub returns-clause-there : goal.returns-clause-there
returns-clause-there g c =
    let (stamp, now, going) = c.requires.numbered in
    longest_among g.D.Disk.state c.args.self.now stamp now going c.earlier.result.0
    (longest_is g.D.Disk.state c.args.self.now c.as_slice.result.now c.as_slice-2.result.now c.earlier-first.result c.earlier.result c.as_slice.ensures.value c.as_slice-2.ensures.value c.earlier-first.ensures c.earlier.ensures)
