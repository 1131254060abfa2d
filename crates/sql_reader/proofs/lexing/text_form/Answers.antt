use Rattle.std.proofs.Common.{◌≡◌, ◌∙◌, ◌+◌, ℕ, Bool, true, false, List, [], ◌∷◌, ◌++◌, length, length-append, get_or, Option, Some, option_map, refl, ap, sym, arith}
use Rattle.std.specs.Prelude.{◌&&◌, nat_le}
use Rattle.std.specs.List.{list_all}
use Rattle.std.proofs.lemmas.Grind.{common_steps}
use Rattle.std.proofs.lemmas.Bool.Decides.{nat_tests}
use Rattle.std.proofs.lemmas.List.Folds.{list_all-append}
use Rattle.seata_types.specs.declared.limits.TheConstants.{TEXT_BYTES}
use Rattle.sql_reader.specs.Texts.{text_at}
use Rattle.sql_reader.specs.Lexing.{is_printable, has_text_form}
use Rattle.sql_reader.proofs.QuotedTexts.{nil-behind, text_at_plain_at, text_at_double, text_at_closed}
use Rattle.sql_reader.proofs.lexing.text_form.Goals as goal
use Rattle.sql_reader.proofs.lexing.text_form.Goals.{then-z-at-eq39+else-byte-ne39, else-z-at-eq39}

and-true : (b : Bool) → (b && true) ≡ b
and-true true = refl
and-true false = refl

plain-more : (v : List ℕ) (b : ℕ) → list_all is_printable (v ++ (b ∷ [])) ≡ (list_all is_printable v && is_printable b)
plain-more v b = list_all-append is_printable v (b ∷ []) ∙ ap (λ t. list_all is_printable v && t) (and-true (is_printable b))

-- the form of a value that ends here
form-closed : (z v : List ℕ) (at : ℕ) (fits plain : Bool) → ◌≡◌ {A = Option (List ℕ × ℕ)} (Some (v, at)) (text_at z) → nat_le (length v) TEXT_BYTES ≡ fits → list_all is_printable v ≡ plain
    → ◌≡◌ {A = Option (ℕ × Bool)} (Some (at, fits && plain)) (option_map (λ f. (f.1, has_text_form f.0)) (text_at z))
unfolding has_text_form
form-closed z v at fits plain closed is_fit is_plain = rw (← closed, ← is_fit, ← is_plain) refl

pub loop-at-init : goal.loop-at-init
loop-at-init c = record {
  value = [];
  so_far = sym (nil-behind (text_at c.args.z.now));
  count = refl;
  plain = refl;
  within = omega arith;
  few = omega arith;
}

pub returns-then-len-le-TEXT_BYTES-clause-value : goal.returns-then-len-le-TEXT_BYTES-clause-value
returns-then-len-le-TEXT_BYTES-clause-value c =
    let i = c.loop-at.invariant in
    let closed = text_at_closed c.args.z.now c.loop-at.at i.value c.loop-at-test.true c.if-z-at-eq39.true (grind arith) ∙ i.so_far in
    let fits : nat_le (length i.value) TEXT_BYTES ≡ true = grind (arith, nat_tests) in
    form-closed c.args.z.now i.value (c.loop-at.at + 1) true c.loop-at.is_plain closed fits (sym i.plain)

pub returns-else-len-le-TEXT_BYTES-clause-value : goal.returns-else-len-le-TEXT_BYTES-clause-value
returns-else-len-le-TEXT_BYTES-clause-value c =
    let i = c.loop-at.invariant in
    let closed = text_at_closed c.args.z.now c.loop-at.at i.value c.loop-at-test.true c.if-z-at-eq39.true (grind arith) ∙ i.so_far in
    let fits : nat_le (length i.value) TEXT_BYTES ≡ false = grind (arith, nat_tests) in
    let long : nat_le c.loop-at.len TEXT_BYTES ≡ false = grind (arith, nat_tests) in
    rw long (form-closed c.args.z.now i.value (c.loop-at.at + 1) false c.loop-at.is_plain closed fits (sym i.plain))

pub loop-at-preserved : goal.loop-at-preserved
loop-at-preserved c =
    let i = c.loop-at.invariant in
    let z = c.args.z.now in
    let next = c.if-z-at-eq39.at in
    let count : c.loop-at.len + 1 ≡ length (i.value ++ (get_or z next 0 ∷ [])) = omega (arith, i.count, length-append i.value (get_or z next 0 ∷ [])) in
    let plain : c.still_plain-is_plain.result ≡ list_all is_printable (i.value ++ (get_or z next 0 ∷ [])) = rw (plain-more i.value (get_or z next 0), ← i.plain) (grind (arith, common_steps)) in
    elim c.if-z-at-eq39.branch [
      | then-z-at-eq39+else-byte-ne39 w ↦ record {
        value = i.value ++ (get_or z next 0 ∷ []);
        so_far = text_at_double z c.loop-at.at next i.value w.at-is c.loop-at-test.true w.if-z-at-eq39.true (grind arith) ∙ i.so_far;
        count = count;
        plain = plain;
        within = grind (arith, common_steps);
        few = omega (arith, w.at-is, i.few);
      }
      | else-z-at-eq39 w ↦ record {
        value = i.value ++ (get_or z next 0 ∷ []);
        so_far = text_at_plain_at z c.loop-at.at next i.value w.at-is c.loop-at-test.true w.if-z-at-eq39.false ∙ i.so_far;
        count = count;
        plain = plain;
        within = grind (arith, common_steps);
        few = omega (arith, w.at-is, i.few);
      }
    ]
