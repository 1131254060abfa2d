use Rattle.std.proofs.Common.{◌≡◌, ◌++◌, ◌∷◌, [], drop, get_or, false, sym, ap, arith}
use Rattle.std.proofs.lemmas.Grind.{common_steps}
use Rattle.sql_reader.specs.Lexing.{tokens, token_at, is_blank}
use Rattle.sql_reader.proofs.Starts.{starts_blank, map_starts_token, map_starts_end}
use Rattle.sql_reader.proofs.lexing.lex.Goals as goal

pub loop-at-preserved-then-is_blank : goal.loop-at-preserved-then-is_blank
loop-at-preserved-then-is_blank c =
    let same = starts_blank c.args.text.now c.loop-at.at (omega arith) (grind (arith, common_steps)) in
    record { tokens = rw same c.loop-at.invariant.tokens; within = omega arith }

pub loop-at-preserved : goal.loop-at-preserved
loop-at-preserved c =
    let text = c.args.text.now in
    let at = c.loop-at.at in
    let found = c.token_at-token.ensures.value in
    let bytes : (token_at (drop at text)).1 ≡ c.token_at-token.result.1 = ap (λ p. p.1) (sym found) in
    let pushed : c.push.new.self.items ≡ c.loop-at.tokens.items ++ c.token_at-token.result.0 ∷ [] = grind (arith, common_steps) in
    let plain : is_blank (get_or text at 0) ≡ false = grind (arith, common_steps) in
    record {
      tokens = map_starts_token (λ z. (token_at z).0) text at c.token_at-token.result.1 c.loop-at.tokens.items c.push.new.self.items _ c.token_at-token.result.0 (omega arith) plain
          bytes c.token_at-token.ensures.within.0 (ap (λ p. p.0) found) pushed c.loop-at.invariant.tokens;
      within = c.token_at-token.ensures.within.1;
    }

pub returns : goal.returns
unfolding tokens
returns c = map_starts_end (λ z. (token_at z).0) c.args.text.now c.loop-at.at _ _ (omega arith) c.loop-at.invariant.tokens
