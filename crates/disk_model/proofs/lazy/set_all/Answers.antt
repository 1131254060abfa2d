use Rattle.std.proofs.Common.{rules, length, replicate, sym, ◌∙◌, arith, inl, inr}
use Rattle.std.proofs.lemmas.Bool.{cases_eq}
use Rattle.std.proofs.lemmas.List.{length-replicate, get_or-replicate, ext_get_or, get_or-set_same, get_or-set_other}
use Rattle.disk_model.proofs.lazy.set_all.Goals as goal

pub loop-k-preserved : goal.loop-k-preserved
loop-k-preserved g c = record {
  size = search rules;
  done = λ j h. elim (cases_eq j c.loop-k.k) [
    | inl here ↦ rw here (get_or-set_same c.loop-k.part c.loop-k.k c.args.value c.args.value (omega arith))
    | inr other ↦ get_or-set_other c.loop-k.part c.loop-k.k j c.args.value c.args.value other ∙ c.loop-k.invariant.done j (omega arith)
  ];
}

pub returns : goal.returns
returns g c =
    let old = c.loop-k.invariant in
    let count = length c.args.part.now in
    ext_get_or c.args.value c.loop-k.part (replicate count c.args.value) (old.size ∙ sym (length-replicate count c.args.value)) (λ j h. old.done j (omega arith) ∙ sym (get_or-replicate count j c.args.value c.args.value (omega arith)))
