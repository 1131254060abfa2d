use Rattle.std.proofs.Common.{Some, None, arith, subst, lit<}
use Rattle.std.specs.Prelude.{IsUtf8}
use Rattle.std.proofs.lemmas.Grind.{common_steps}
use Rattle.std.proofs.lemmas.Str.Pattern.{split_parts}
use Rattle.history_text.proofs.Texts.{quoted_plain, IsUtf8-after_quote, written_on}
use Rattle.history_text.proofs.parts.add_quoted.Goals as goal

pub loop-before-preserved : goal.loop-before-preserved
loop-before-preserved c =
    let parts = split_parts 39 c.loop-before.rest.now (Some (c.in-Some.before, c.in-Some.after)) c.in-Some.ensures.cases (lit< tt) in
    record {
      written = written_on _ _ c.in-Some.before.now c.in-Some.after.now c.loop-before.rest.now _ c.loop-before.invariant.written parts.0 parts.1 (grind (arith, common_steps));
      is_text = IsUtf8-after_quote c.in-Some.before.now c.in-Some.after.now (subst (λ t. IsUtf8 t) parts.0 c.loop-before.invariant.is_text);
    }

pub returns : goal.returns
returns c =
    let none = split_parts 39 c.loop-before.rest.now None c.in_default.ensures.cases (lit< tt) in
    let plain = quoted_plain c.loop-before.rest.now none in
    grind (arith, common_steps, plain, c.loop-before.invariant.written)
