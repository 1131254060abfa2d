use Rattle.std.proofs.Common.{ap, ◌∙◌}
use Rattle.std.specs.Prelude.{is_err}
use Rattle.memory_store.proofs.Adding.{is_full, no_memory, is_added}
use Rattle.memory_store.proofs.store.Store.add.Goals as goal

pub returns-in-Err : goal.returns-in-Err
returns-in-Err g c =
    is_full g.D.Disk.state g.met.D.Disk.lawful (g.M.StateMachine.meaning c.args.self.now.machine) c.args.item.now c.args.body.now c.args.self.now c.requires.up c.in-Err.full c.in-Err.ensures.full c.in-Err.ensures.exact

pub returns-in-Err-apply : goal.returns-in-Err-apply
returns-in-Err-apply g c =
    no_memory g.D.Disk.state g.met.D.Disk.lawful (g.M.StateMachine.meaning c.args.self.now.machine) c.args.item.now c.args.body.now c.args.self.now c.requires.up c.apply.new.memory c.in-Err-apply.ensures.err

pub returns-in-Ok : goal.returns-in-Ok
returns-in-Ok g c =
    is_added g.D.Disk.state g.met.D.Disk.lawful (g.M.StateMachine.meaning c.args.self.now.machine) c.args.item.now c.args.body.now c.args.self.now c.requires.up c.append.new.self
    c.requires.is c.requires.allowed c.in_default.ensures.room c.in_default.ensures.ok (c.append.ensures.memory ∙ c.in_default-apply.ensures.ok) c.in-Ok.ensures.acknowledged
    c.append.ensures.any_moment c.append.ensures.not_begun c.in-Ok.ensures.took c.in-Ok.ensures.extent (c.append.ensures.down ∙ ap is_err c.in-Ok.is) c.append.ensures.machine c.append.ensures.found
