use Rattle.std.proofs.Common.{◌≡◌, ◌+◌, ℕ, suc, Bool, true, List, Option, Some, None, option_map, refl, ap, sym, arith}
use Rattle.sql_reader.specs.declared.tokens.Token.{Token}
use Rattle.sql_reader.specs.declared.tokens.Token.TheVariants as token
use Rattle.sql_reader.specs.Texts.{text_at, value_of}
use Rattle.sql_reader.specs.Lexing.{has_text_form, text_by}
use Rattle.sql_reader.proofs.lexing.text_token.Goals as goal

quoted : (z : List ℕ) (found : Option (List ℕ × ℕ)) (len : ℕ) → ◌≡◌ {A = Option (ℕ × Bool)} (Some (len, true)) (option_map (λ f. (f.1, has_text_form f.0)) found)
    → ◌≡◌ {A = Token × ℕ} (token.Quoted (value_of found), len + 1) (text_by z found)
quoted z None len is = cc
quoted z (Some f) len is =
    let same : ◌≡◌ {A = ℕ × Bool} (len, true) (f.1, has_text_form f.0) = cc in
    let fits : has_text_form f.0 ≡ true = sym (ap (λ (p : ℕ × Bool). p.1) same) in
    let long : len ≡ f.1 = ap (λ (p : ℕ × Bool). p.0) same in
    let bytes : len + 1 ≡ suc f.1 = omega (arith, long) in
    rw (fits, bytes) refl

pub returns-in-Some-default-true-clause-value : goal.returns-in-Some-default-true-clause-value
returns-in-Some-default-true-clause-value c =
    let is = rw (c.in-Some-default-true.field-0-1-test, c.as_bytes.ensures.value) at c.in-Some-default-true.ensures.value in
    rw c.before-in-Some-default-true.ensures (quoted c.args.rest.now (text_at c.args.rest.now) c.in-Some-default-true.len is)
