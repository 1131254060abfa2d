use Rattle.std.proofs.Common.{◌+◌, drop, arith}
use Rattle.session_memory.proofs.LoadLaws.{next_left}
use Rattle.session_memory.proofs.OwnerLaws.{branches_next, branches_all}
use Rattle.session_memory.proofs.owners.TicketOwners.take_each.Goals as goal

pub loop-branch-preserved : goal.loop-branch-preserved
loop-branch-preserved c =
    let all = c.args.branches.now in
    let at = c.loop-branch.branch-index in
    branches_next c.args.xid c.args.self.now c.loop-branch.self c.take.new.self all (drop at all) (drop (at + 1) all) c.branch-item.result
    (next_left all at (at + 1) c.branch-item.result c.loop-branch-test.true (omega arith) c.branch-item.is) c.in_ok-take.ensures c.loop-branch.invariant

pub returns : goal.returns
returns c = branches_all c.args.xid c.args.self.now c.loop-branch.self c.loop-branch.branch-index c.args.branches.now c.loop-branch-test.false c.loop-branch.invariant
