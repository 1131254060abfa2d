use Rattle.std.proofs.Common.{◌+◌, Bool, refl, subst}
use Rattle.judged_devices.specs.Looking.{AreSame}
use Rattle.judged_talk.specs.declared.talks.Talk.{Talk}
use Rattle.judged_talk.proofs.Taken.{has_room, taken_not, taken_same}
use Rattle.judged_talk.proofs.talks.Talk.take.Goals as goal

pub answer-requires : goal.answer-requires
answer-requires c = record { room = has_room c.args.self.now c.requires.stands c.requires.room }

pub returns-then-same_act : goal.returns-then-same_act
returns-then-same_act c = λ m os now f.
    let new : Talk = record { taken = c.args.self.now.taken + 1; talk = c.answer.new.self } in
    taken_same c.args.self.now new m os f c.args.input.now c.in_ok-step.step now c.in_ok-step.ensures refl c.args.done.now
    (subst (λ (b : Bool). AreSame c.in_ok-step.step.act c.args.done.now b) c.if-same_act.true c.same_act.ensures)

pub returns : goal.returns
returns c = λ m os now f.
    let new : Talk = record { taken = c.args.self.now.taken + 1; talk = c.answer.new.self } in
    taken_not c.args.self.now new m os f c.args.input.now c.in_ok-step.step now c.in_ok-step.ensures refl c.args.done.now
    (subst (λ (b : Bool). AreSame c.in_ok-step.step.act c.args.done.now b) c.if-same_act.false c.same_act.ensures)
