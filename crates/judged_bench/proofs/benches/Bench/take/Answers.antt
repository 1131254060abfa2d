use Rattle.history_rules.specs.Nodes.{Resource as ResourceRole}
use Rattle.std.proofs.Common.{[]}
use Rattle.judged_devices.specs.Taking.{event_of}
use Rattle.judged_bench.specs.declared.benches.Bench.{Bench}
use Rattle.judged_bench.proofs.Served.{can_serve, follows_on}
use Rattle.judged_bench.proofs.Took.{takes}
use Rattle.judged_bench.proofs.benches.Bench.take.Goals as goal

pub take-requires-clause-ready : goal.take-requires-clause-ready
take-requires-clause-ready c = can_serve c.args.self.now c.requires.stands c.requires.room

pub returns-in-Ok : goal.returns-in-Ok
returns-in-Ok c = λ s os now f.
    let old : Bench = c.args.self.now in
    let new : Bench = record { device = c.note.new.self; resource = c.take.new.self } in
    follows_on (ResourceRole s []) s os (event_of c.args.event.now) now c.args.done.now old new f.device c.note.ensures c.in-Ok.step
    (takes s os now old.device f.device old.resource new.resource f.stands (event_of c.args.event.now) c.requires.served c.args.done.now c.in-Ok.step c.in-Ok.ensures)
