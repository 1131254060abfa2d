use Rattle.std.proofs.Common.{[]}
use Rattle.history_rules.specs.Nodes.{Coordinator as CoordinatorRole}
use Rattle.judged_devices.specs.Taking.{event_of}
use Rattle.judged_desk.specs.declared.desks.Desk.{Desk}
use Rattle.judged_desk.proofs.Served.{can_serve, follows_on}
use Rattle.judged_desk.proofs.Took.{takes}
use Rattle.judged_desk.proofs.desks.Desk.take.Goals as goal

pub take-requires : goal.take-requires
take-requires c = record { ready = can_serve c.args.self.now c.requires.stands c.requires.room }

pub returns-in-Ok : goal.returns-in-Ok
returns-in-Ok c = λ t os f.
    let old : Desk = c.args.self.now in
    let new : Desk = record { device = c.note.new.self; coordinator = c.take.new.self } in
    follows_on (CoordinatorRole t []) t os (event_of c.args.event.now) c.args.now c.args.done.now old new f.device c.note.ensures c.in-Ok.step
    (takes t os c.args.now c.ranges.now.fits old.device f.device old.coordinator new.coordinator f.stands (event_of c.args.event.now) c.args.done.now c.in-Ok.step c.in-Ok.ensures)
