use Rattle.std.proofs.Common.{◌≡◌, length, refl, sym, ◌∙◌, ap, arith}
use Rattle.disk_model.specs.Bounds.{marks_with}
use Rattle.disk_model.proofs.Marks.{set_joined, length-marks_with, none_bounded, bounded_by_marks}
use Rattle.disk_model.proofs.pending.PendingBytes.add.Goals as goal
use Rattle.disk_model.proofs.pending.PendingBytes.add.Goals.{then-self-3, else-self-3}

pub invariant_of-self : goal.invariant_of-self
invariant_of-self c =
    let kept = c.self.inside in
    let size = sym (length-marks_with kept.whole kept.low kept.high kept.marks c.self.invariant) ∙ ap length c.self.view_is in
    record {
      order = c.requires.order;
      end = omega arith;
      clear = λ is. none_bounded kept.whole kept.low kept.high kept.marks c.self.invariant c.if-self.true;
      within = λ is. cc;
    }

pub invariant_of-self-else-self-2 : goal.invariant_of-self-else-self-2
invariant_of-self-else-self-2 c =
    let kept = c.self.inside in
    let size = sym (length-marks_with kept.whole kept.low kept.high kept.marks c.self.invariant) ∙ ap length c.self.view_is in
    let marked = c.if-self-3.self-inside in
    let same : (marked.marks ≡ marks_with kept.whole kept.low kept.high kept.marks) × (marked.low ≡ kept.low) × (marked.high ≡ kept.high) = elim c.if-self-3.branch [
      | then-self-3 w ↦ rw w.self-inside-is (w.fill.ensures ∙ ap (λ whole. marks_with whole kept.low kept.high kept.marks) (sym w.if-self-3.true), refl, refl)
      | else-self-3 w ↦ rw w.self-inside-is (ap (λ whole. marks_with whole kept.low kept.high kept.marks) (sym w.if-self-3.false), refl, refl)
    ] in
    rw (c.fill-else-self-2.ensures, same.0) (bounded_by_marks kept.whole kept.low kept.high kept.marks c.self.invariant c.args.low c.args.high _ _ c.requires.order (omega arith) (rw (← same.1) c.min-self-inside-else-self-2.ensures) (rw (← same.2) c.max-self-inside-else-self-2.ensures))

pub returns-then-self-high : goal.returns-then-self-high
returns-then-self-high c =
    let kept = c.self.inside in
    let size = sym (length-marks_with kept.whole kept.low kept.high kept.marks c.self.invariant) ∙ ap length c.self.view_is in
    let joined = set_joined kept.marks kept.low kept.high c.args.low c.args.high c.min-self-inside.result c.max-self-inside.result c.self.invariant.order c.self.invariant.end c.requires.order (omega arith) (omega arith) (omega arith) c.min-self-inside.ensures c.max-self-inside.ensures in
    rw (← c.self.view_is, c.if-self-2.true) joined
