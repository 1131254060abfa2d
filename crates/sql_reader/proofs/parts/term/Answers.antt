use Rattle.std.proofs.Common.{◌≡◌, ◌<◌, length, List, [], ◌∷◌, refl, arith}
use Rattle.std.proofs.lemmas.Grind.{common_steps}
use Rattle.sql_reader.specs.declared.tokens.Token.{Token}
use Rattle.sql_reader.specs.Parsing.{unexpected}
use Rattle.sql_reader.specs.Grammar.{term, literal}
use Rattle.sql_reader.proofs.parts.term.Goals as goal

no_term : (ts : List Token) → length ts < 1 → term ts ≡ unexpected ts
unfolding term literal
no_term [] few = refl
no_term (t ∷ ts) few = absurd (omega (arith, few))

pub returns-in_default : goal.returns-in_default
returns-in_default c =
    let few : length c.args.tokens.now < 1 = grind (arith, common_steps) in
    let none = no_term c.args.tokens.now few in
    grind (arith, common_steps)
