use Rattle.std.proofs.Common.{◌≡◌, subst, sym, arith}
use Rattle.std.proofs.lemmas.Grind.{common_steps}
use Rattle.row_images.specs.Joining.{merged, IsJoined}
use Rattle.row_images.proofs.Merges.{merged_joined}
use Rattle.row_images.proofs.joined.join.Goals as goal

pub returns : goal.returns
returns c =
    let all : c.of.result ≡ merged c.args.first.now c.args.second.now = grind (arith, common_steps) in
    subst (λ l. IsJoined c.args.first.now c.args.second.now l) (sym all) (merged_joined c.args.first.now c.args.second.now c.requires.first c.requires.second)
