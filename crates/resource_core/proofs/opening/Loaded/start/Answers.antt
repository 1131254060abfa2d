use Rattle.std.proofs.Common.{◌∙◌, sym, subst, ap}
use Rattle.local_txn.specs.Answers.{no_tickets}
use Rattle.resource_core.specs.NodeOpening.{HandsBack, StaysUnwritten}
use Rattle.resource_core.proofs.NodeDisks.{stopped}
use Rattle.resource_core.proofs.NodeOpened.{given_back, hands_back, is_opened, unwritten}
use Rattle.resource_core.proofs.opening.Loaded.start.Goals as goal

pub returns-in-Ok-clause-opened : goal.returns-in-Ok-clause-opened
returns-in-Ok-clause-opened g c = λ first second number w i.
    is_opened g.D.Disk.state (stopped g.D.Disk.state g.met.D.Disk.lawful) c.args.self first second number w i c.start.new.self c.in-Ok.ensures c.new.result (c.new.ensures ∙ ap no_tickets c.boot.ensures)

pub returns-in-Err-clause-refused : goal.returns-in-Err-clause-refused
returns-in-Err-clause-refused g c = λ first second number w i.
    subst (HandsBack g.D.Disk.state first second number w)
    (sym (c.give_back.ensures ∙ given_back _ _ _ _ c.opening_error.ensures c.into_disks-first.ensures))
    (hands_back g.D.Disk.state (stopped g.D.Disk.state g.met.D.Disk.lawful) c.args.self first second number w i c.start.new.self c.in-Err.error c.in-Err.ensures)

pub returns-in-Err-clause-unwritten : goal.returns-in-Err-clause-unwritten
returns-in-Err-clause-unwritten g c =
    subst (StaysUnwritten c.args.self) (sym (c.give_back.ensures ∙ given_back _ _ _ _ c.opening_error.ensures c.into_disks-first.ensures))
    (unwritten g.D.Disk.state c.args.self c.start.new.self c.in-Err.error c.in-Err.ensures)
