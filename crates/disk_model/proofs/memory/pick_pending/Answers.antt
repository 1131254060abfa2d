use Rattle.std.proofs.Common.{arith, rules, get_or, sym, refl, ◌∙◌, ap, ℕ, List, inl, inr, ◌≡◌, ◌+◌, ◌≤◌, [], ◌∷◌, length}
use Rattle.disk_model.proofs.Marks.{clear_below, clear_above}
use Rattle.disk_model.proofs.Put.{length-put, put_after}
use Rattle.disk_model.proofs.Picked.{picked_at, picked_clear, length-picked, done_by_write, done_already}
use Rattle.disk_model.proofs.memory.pick_pending.Goals as goal
use Rattle.disk_model.proofs.memory.pick_pending.Goals.{then-contains, else-contains}
use Rattle.std.proofs.lemmas.Grind.{same_number_lists}
use Rattle.std.proofs.lemmas.Bool.{cases_lt}
use Rattle.disk_model.specs.Memory.{picked}
use Rattle.disk_model.specs.Sides.{Sides}

abbrev sides : List ℕ → List ℕ → Sides
sides stable present = record { stable = stable; present = present }

pub loop-k-init : goal.loop-k-init
loop-k-init c = record {
  stable = refl;
  size = search rules;
  done = λ j h. let clear = clear_below _ _ _ c.bounds-low.ensures.within j h in sym (picked_clear c.args.pick c.args.pending.now c.args.bytes.now.stable c.args.bytes.now.present c.requires.marks c.requires.stable j clear);
  left = λ j h. search rules;
}

pub loop-k-preserved : goal.loop-k-preserved
loop-k-preserved c =
    let old = c.loop-k.invariant in
    let goes_to = picked c.args.pick c.args.pending.now c.args.bytes.now.stable c.args.bytes.now.present in
    let fits : c.loop-k.k + 1 ≤ length c.loop-k.bytes.present = omega (arith, c.bounds-low.ensures.end, c.requires.marks, old.size) in
    let here = old.left c.loop-k.k (omega arith) in
    let at_k = picked_at c.args.pick c.args.pending.now c.args.bytes.now.stable c.args.bytes.now.present c.requires.marks c.requires.stable c.loop-k.k in
    elim c.if-contains.branch [
      | then-contains w ↦
          let stable_is = ap (λ l. get_or l c.loop-k.k 0) (sym old.stable) ∙ w.stable.ensures 0 in
          let present_is = w.present.ensures 0 in
          let value : w.picked_byte-byte.result ≡ get_or goes_to c.loop-k.k 0 = w.picked_byte-byte.ensures ∙ sym (rw (at_k, ← c.contains.ensures, w.if-contains.true, stable_is, ← here, present_is) refl) in
          let after = put_after c.loop-k.k (w.picked_byte-byte.result ∷ []) c.loop-k.bytes.present fits in
          record {
            stable = rw (w.bytes-is, w.write.ensures) old.stable;
            size = rw (w.bytes-is, w.write.ensures) (length-put c.loop-k.k (w.picked_byte-byte.result ∷ []) c.loop-k.bytes.present fits ∙ old.size);
            done = rw (w.bytes-is, w.write.ensures) (done_by_write c.loop-k.k c.loop-k.bytes.present goes_to old.done w.picked_byte-byte.result fits value);
            left = λ j h. rw (w.bytes-is, w.write.ensures) (after j 0 h ∙ old.left j (omega arith));
          }
      | else-contains w ↦ record {
        stable = rw w.bytes-is old.stable;
        size = search rules;
        done = rw w.bytes-is (done_already c.loop-k.k c.loop-k.bytes.present goes_to old.done (here ∙ sym (rw (at_k, ← c.contains.ensures, w.if-contains.false) refl)));
        left = λ j h. rw w.bytes-is (old.left j (omega arith));
      }
    ]

pub returns : goal.returns
returns c =
    let old = c.args.bytes.now in
    let r = c.requires in
    let goes_to = picked c.args.pick c.args.pending.now old.stable old.present in
    let present : c.loop-k.bytes.present ≡ goes_to = same_number_lists c.loop-k.bytes.present goes_to
    (c.loop-k.invariant.size ∙ sym (length-picked c.args.pick _ _ _ r.marks r.stable))
    (λ j h. elim (cases_lt j c.loop-k.k) [
      | inl below ↦ c.loop-k.invariant.done j below
      | inr above ↦ c.loop-k.invariant.left j above ∙ sym (picked_clear c.args.pick c.args.pending.now old.stable old.present r.marks r.stable j (clear_above _ _ _ c.bounds-low.ensures.within j (omega arith)))
    ]) in
    ap (λ (l : List ℕ). sides l c.loop-k.bytes.present) c.loop-k.invariant.stable ∙ ap (sides old.stable) present
