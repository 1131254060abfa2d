use Rattle.std.proofs.Common.{refl}
use Rattle.rule_calls.proofs.CallLaws.{does_err, does_ok, leaves_err, leaves_ok}
use Rattle.rule_calls.proofs.carrying.carry_out.Goals as goal

pub returns-in-Ok-clause-gives : goal.returns-in-Ok-clause-gives
returns-in-Ok-clause-gives g c = record { told = refl; does = does_ok g.D.Disk.state _ _ c.args.store.now c.settle.new.self c.args.answer.asked tt c.args.answer.step.act c.in-Ok.ensures.does }

pub returns-in-Ok-clause-leaves : goal.returns-in-Ok-clause-leaves
returns-in-Ok-clause-leaves g c = leaves_ok g.D.Disk.state _ _ c.args.store.now c.settle.new.self tt c.args.answer.step.act c.in-Ok.ensures.leaves

pub returns-in-Err-clause-gives : goal.returns-in-Err-clause-gives
returns-in-Err-clause-gives g c = record { told = tt; does = does_err g.D.Disk.state _ _ c.args.store.now c.settle.new.self c.args.answer.asked c.in-Err.error c.in-Err.ensures.does }

pub returns-in-Err-clause-leaves : goal.returns-in-Err-clause-leaves
returns-in-Err-clause-leaves g c = leaves_err g.D.Disk.state _ _ c.args.store.now c.settle.new.self c.in-Err.error c.in-Err.ensures.leaves
