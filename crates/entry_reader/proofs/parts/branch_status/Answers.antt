use Rattle.std.proofs.Common.{◌≡◌, min, sym, ap, ◌∙◌, arith}
use Rattle.std.proofs.lemmas.Grind.{common_steps}
use Rattle.seata_types.specs.Statuses.{branch_code_of}
use Rattle.entry_reader.specs.Parts.{number, branch_with}
use Rattle.entry_reader.proofs.StatusCodes.{branch_with-code_of}
use Rattle.entry_reader.proofs.parts.branch_status.Goals as goal

pub returns-in-Some : goal.returns-in-Some
returns-in-Some c =
    let same : branch_code_of c.in-Some.status ≡ min (number c.args.text.now) 10 = grind (arith, common_steps, c.in-Some.ensures.found) in
    sym (branch_with-code_of c.in-Some.status) ∙ ap branch_with same
