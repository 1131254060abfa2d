use Rattle.std.proofs.Common.{refl, ap}
use Rattle.coordinator_core.proofs.Disks.{stopped}
use Rattle.coordinator_core.proofs.Restarted.{not_back, no_memory, is_back, unit_error}
use Rattle.coordinator_core.proofs.nodes.CoordinatorNode.restart.Goals as goal

pub returns-in-Err : goal.returns-in-Err
returns-in-Err g c =
    let s = c.args.self.now in
    let law = stopped g.D.Disk.state g.met.D.Disk.lawful in
    let e = c.in-Err.ensures in
    not_back g.D.Disk.state law s c.restart.new.self c.args.pick c.args.now c.args.calls c.requires.down e.opening e.comes.images e.comes.not_due (record s { table = record s.table { sessions = c.restart.new.self } }) c.in-Err.error
    refl (record { start = refl; retry = refl; forget = refl; flight = refl; records = refl; left = refl }) e.comes.up (record { first = e.comes.first; second = e.comes.second }) e.comes.damaged e.comes.not_full (λ same. e.comes.failed (ap unit_error same))

pub returns-in-Err-come_back : goal.returns-in-Err-come_back
returns-in-Err-come_back g c =
    let s = c.args.self.now in
    let law = stopped g.D.Disk.state g.met.D.Disk.lawful in
    let e = c.in_default.ensures in
    no_memory g.D.Disk.state law s c.restart.new.self c.args.pick c.args.now c.args.calls c.requires.down e.opening e.comes.images e.comes.not_due e.comes.up (record { first = e.comes.first; second = e.comes.second })
    (record s { table = record s.table { sessions = c.restart.new.self } }) c.come_back.new.self refl (record { start = refl; retry = refl; forget = refl; flight = refl; records = refl; left = refl }) c.in-Err-come_back.ensures

pub returns : goal.returns
returns g c =
    let s = c.args.self.now in
    let law = stopped g.D.Disk.state g.met.D.Disk.lawful in
    let e = c.in_default.ensures in
    is_back g.D.Disk.state law s c.restart.new.self c.args.pick c.args.now c.args.calls c.requires.down e.opening e.comes.images e.comes.not_due e.comes.up (record { first = e.comes.first; second = e.comes.second }) e.back c.requires.moment
    (record s { table = record s.table { sessions = c.restart.new.self } }) c.come_back.new.self c.arm_with.new.self refl (record { start = refl; retry = refl; forget = refl; flight = refl; records = refl; left = refl })
    c.in_default-come_back.ensures c.arm_with.ensures c.kept-kept.result c.kept-kept.ensures
