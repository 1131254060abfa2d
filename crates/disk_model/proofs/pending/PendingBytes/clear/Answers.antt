use Rattle.std.proofs.Common.{◌≡◌, false, length, replicate, sym, ◌∙◌, ap, arith}
use Rattle.std.proofs.lemmas.List.{length-replicate}
use Rattle.disk_model.proofs.Marks.{all_cleared, length-marks_with}
use Rattle.disk_model.proofs.pending.PendingBytes.clear.Goals as goal
use Rattle.disk_model.proofs.pending.PendingBytes.clear.Goals.{then-not-self, else-not-self}

-- no mark is left
none : (c : goal.After-self-3-1) → c.if-not-self.self-inside.marks ≡ replicate (length c.self.inside.marks) false
none c =
    let kept = c.self.inside in
    elim c.if-not-self.branch [
      | then-not-self w ↦ rw (w.self-inside-is, w.fill.ensures) (all_cleared kept.low kept.high kept.marks c.self.invariant.order c.self.invariant.end (c.self.invariant.within w.if-not-self.true))
      | else-not-self w ↦ rw w.self-inside-is (c.self.invariant.clear w.if-not-self.false)
    ]

pub invariant_of-self : goal.invariant_of-self
invariant_of-self c = record {
  order = omega arith;
  end = omega arith;
  clear = λ is. none c ∙ ap (λ n. replicate n false) (sym (ap length (none c) ∙ length-replicate (length c.self.inside.marks) false));
  within = λ is. cc;
}

pub returns : goal.returns
returns c =
    let kept = c.self.inside in
    none c ∙ ap (λ n. replicate n false) (sym (length-marks_with kept.whole kept.low kept.high kept.marks c.self.invariant) ∙ ap length c.self.view_is)
