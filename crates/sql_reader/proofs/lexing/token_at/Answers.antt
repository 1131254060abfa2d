use Rattle.std.proofs.Common.{◌≡◌, ◌+◌, inl, inr, get_or, drop, length, arith}
use Rattle.std.proofs.lemmas.Grind.{common_steps}
use Rattle.std.proofs.lemmas.Bool.{cases_lt}
use Rattle.std.proofs.lemmas.List.{drop-drop, get_or_past}
use Rattle.std.proofs.lemmas.Str.{IsCharBoundary-after_ascii}
use Rattle.sql_reader.specs.Lexing.{token_at}
use Rattle.sql_reader.proofs.lexing.token_at.Goals as goal

pub range_from-requires : goal.range_from-requires
range_from-requires c _ =
    let quoted : get_or c.args.text.now c.args.at 0 ≡ 39 = grind (arith, common_steps) in
    IsCharBoundary-after_ascii c.args.text.now c.args.at c.utf8.text (omega arith) (omega arith)

pub returns-in-Some-clause-within : goal.returns-in-Some-clause-within
returns-in-Some-clause-within c =
    let short = c.in-Some.ensures.short in
    elim (cases_lt (c.args.at + 1) (length c.args.text.now)) [
      | inl more ↦ (short.0, omega (arith, short.1))
      | inr last ↦
          let none : get_or c.args.text.now (c.args.at + 1) 0 ≡ 0 = get_or_past c.args.text.now (c.args.at + 1) 0 last in
          let next : c.byte.result ≡ 0 = grind (arith, common_steps) in
          (short.0, omega (arith, short.2 next))
    ]

pub returns-then-first-eq39-clause-value : goal.returns-then-first-eq39-clause-value
unfolding token_at
returns-then-first-eq39-clause-value c =
    let later : drop 1 (drop c.args.at c.args.text.now) ≡ drop (c.args.at + 1) c.args.text.now = drop-drop 1 c.args.at c.args.text.now in
    grind (arith, common_steps)
