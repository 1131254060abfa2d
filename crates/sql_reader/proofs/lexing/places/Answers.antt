use Rattle.std.proofs.Common.{◌≡◌, ◌++◌, ◌∷◌, [], length, ◌-◌, drop, get_or, false, sym, ap, length-drop, arith}
use Rattle.std.proofs.lemmas.Grind.{common_steps}
use Rattle.sql_reader.specs.Lexing.{places, token_at, is_blank}
use Rattle.sql_reader.proofs.Starts.{starts_blank, map_starts_token, map_starts_end}
use Rattle.sql_reader.proofs.lexing.places.Goals as goal

pub loop-at-preserved-then-is_blank : goal.loop-at-preserved-then-is_blank
loop-at-preserved-then-is_blank c =
    let same = starts_blank c.args.text.now c.loop-at.at (omega arith) (grind (arith, common_steps)) in
    record { places = rw same c.loop-at.invariant.places; within = omega arith }

pub loop-at-preserved : goal.loop-at-preserved
loop-at-preserved c =
    let text = c.args.text.now in
    let at = c.loop-at.at in
    let found = c.token_at-len.ensures.value in
    let bytes : (token_at (drop at text)).1 ≡ c.token_at-len.result.1 = ap (λ p. p.1) (sym found) in
    let place : at ≡ length text - length (drop at text) = omega (arith, length-drop at text) in
    let pushed : c.push.new.self.items ≡ c.loop-at.places.items ++ at ∷ [] = grind (arith, common_steps) in
    let plain : is_blank (get_or text at 0) ≡ false = grind (arith, common_steps) in
    record {
      places = map_starts_token (λ z. length text - length z) text at c.token_at-len.result.1 c.loop-at.places.items c.push.new.self.items _ at (omega arith) plain
          bytes c.token_at-len.ensures.within.0 place pushed c.loop-at.invariant.places;
      within = c.token_at-len.ensures.within.1;
    }

pub returns : goal.returns
unfolding places
returns c = map_starts_end (λ z. length c.args.text.now - length z) c.args.text.now c.loop-at.at _ _ (omega arith) c.loop-at.invariant.places
