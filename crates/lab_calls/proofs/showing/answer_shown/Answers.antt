use Rattle.std.proofs.Common.{subst}
use Rattle.store_shown.specs.Showing.{Shows}
use Rattle.lab_calls.proofs.Shown.{answered, unanswered}
use Rattle.lab_calls.proofs.showing.answer_shown.Goals as goal

pub returns-in-Ok : goal.returns-in-Ok
returns-in-Ok g c =
    let seen = g.H.Shelf.state in
    let s = subst (Shows g.H.D.Disk.state seen c.args.shelf.now c.shown.new.shelf) c.in-Ok.is c.shown.ensures in
    answered g.H.D.Disk.state seen c.args.shelf.now c.shown.new.shelf c.in-Ok.found s c.found_answer.result c.found_answer.ensures.text c.found_answer.ensures.memory

pub returns-in-Err : goal.returns-in-Err
returns-in-Err g c = unanswered g.H.D.Disk.state g.H.Shelf.state c.args.shelf.now c.shown.new.shelf c.shown.result c.shown.ensures
