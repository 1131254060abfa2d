use Rattle.std.proofs.Common.{sym, ap, ◌∙◌}
use Rattle.std.specs.BinaryHeap.{heap_items, heap_capacity}
use Rattle.retry_turns.specs.Plans.{Plans, moment_of}
use Rattle.retry_turns.proofs.QueueLaws.{none_due, none_planned}
use Rattle.retry_turns.proofs.turns.Turns.next_due.Goals as goal

pub returns-in_default : goal.returns-in_default
returns-in_default c = λ y n planned.
    none_due c.self.inside.moments.entries (heap_items c.self.inside.queue) (heap_capacity c.self.inside.queue) c.args.now c.in-Some.at c.in-Some.number c.self.invariant.keeps
    (c.in-Some.ensures.least c.self.invariant.keeps.order) c.if-at-now.false y n (ap (λ (ps : Plans). moment_of ps y) c.self.view_is ∙ planned)

pub returns-in_default-2 : goal.returns-in_default-2
returns-in_default-2 c = λ y n planned.
    none_planned c.self.inside.moments.entries (heap_items c.self.inside.queue) (heap_capacity c.self.inside.queue) c.args.now c.self.invariant.keeps
    (sym c.first.ensures.first ∙ c.in_default.is) y n (ap (λ (ps : Plans). moment_of ps y) c.self.view_is ∙ planned)
