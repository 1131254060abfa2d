use Rattle.std.proofs.Common.{◌≤◌, sym, arith}
use Rattle.branch_tests.proofs.SavedMemories.{can_be_written}
use Rattle.branch_tests.proofs.kept_snapshots.written.Goals as goal

pub write-requires : goal.write-requires
write-requires c =
    let few : c.args.memory.now.acts ≤ 100 = omega arith in
    can_be_written c.args.memory.now c.requires few (sym c.if-not-has_room.ensures)
