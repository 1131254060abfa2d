use Rattle.std.proofs.Common.{◌≡◌, ◌<◌, ◌+◌, ◌-◌, ◌*◌, ◌^◌, min, true, length, drop, get_or, ◌∷◌, drop-cons, add-one, arith}
use Rattle.std.specs.Char.{is_ascii_digit}
use Rattle.std.proofs.lemmas.Grind.{common_steps}
use Rattle.entry_reader.proofs.Numbers.{number_on-digit}
use Rattle.entry_reader.proofs.parts.number.Goals as goal

pub loop-digit-preserved : goal.loop-digit-preserved
loop-digit-preserved c =
    let i = c.loop-digit.digit-index in
    let ds = c.args.text.now in
    let inside : i < length ds = c.loop-digit-test.true in
    let first : drop i ds ≡ get_or ds i 0 ∷ drop (i + 1) ds = rw (add-one, drop-cons ds i 0) in
    let digit : is_ascii_digit (get_or ds i 0) ≡ true = grind (arith, common_steps) in
    let capped : c.saturating_add-number.result ≡ min (c.loop-digit.number * 10 + (get_or ds i 0 - 48)) (2 ^ 64 - 1) = omega arith in
    record {
      number = number_on-digit c.loop-digit.number c.saturating_add-number.result (get_or ds i 0) (drop (i + 1) ds) (drop i ds) _ first digit capped c.loop-digit.invariant.number;
      bounded = omega arith;
    }
