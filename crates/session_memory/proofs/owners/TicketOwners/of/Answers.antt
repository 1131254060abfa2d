use Rattle.std.proofs.Common.{◌+◌, List, [], drop, subst, arith}
use Rattle.session_log.specs.declared.sessions.Branch.{Branch}
use Rattle.session_memory.specs.Owners.{owned_among, Takes}
use Rattle.session_memory.proofs.LoadLaws.{next_left}
use Rattle.session_memory.proofs.OwnerLaws.{entries_next, entries_all}
use Rattle.session_memory.proofs.owners.TicketOwners.of.Goals as goal

pub loop-entry-preserved : goal.loop-entry-preserved
loop-entry-preserved c =
    let all = c.args.sessions.now in
    let at = c.loop-entry.entry-index in
    entries_next [] c.loop-entry.owners c.take_each.new.self all (drop at all) (drop (at + 1) all) c.entry-item.result
    (next_left all at (at + 1) c.entry-item.result c.loop-entry-test.true (omega arith) c.entry-item.is)
    (subst (λ (bs : List Branch). Takes c.loop-entry.owners (owned_among c.entry-item.result.xid bs) c.take_each.new.self) c.as_slice.ensures c.in_ok-take_each.ensures) c.loop-entry.invariant

pub returns : goal.returns
returns c = entries_all [] c.loop-entry.owners c.loop-entry.entry-index c.args.sessions.now c.loop-entry-test.false c.loop-entry.invariant
