use Rattle.std.proofs.Common.{◌≡◌, ◌<◌, ◌+◌, ◌*◌, ◌-◌, ◌^◌, length, drop, get_or, ◌∷◌, drop-cons, add-one, ◌∙◌, arith}
use Rattle.std.proofs.lemmas.Grind.{common_steps}
use Rattle.scenario_reader.proofs.Capped.{number_after-capped}
use Rattle.scenario_reader.proofs.numbers.number_of_text.Goals as goal

pub loop-digit-preserved : goal.loop-digit-preserved
loop-digit-preserved c =
    let i = c.loop-digit.digit-index in
    let ds = c.args.digits.now in
    let inside : i < length ds = c.loop-digit-test.true in
    let first : drop i ds ≡ get_or ds i 0 ∷ drop (i + 1) ds = rw (add-one, drop-cons ds i 0) in
    let before = rw first at c.loop-digit.invariant.0 in
    (number_after-capped (2 ^ 64 - 1) (c.loop-digit.number * 10 + (get_or ds i 0 - 48)) c.saturating_add-number.result (drop (i + 1) ds) (omega arith) ∙ before, omega arith)

pub returns : goal.returns
returns c = grind (arith, common_steps)
