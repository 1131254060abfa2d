use Rattle.std.proofs.Common.{◌≡◌, min, sym, ap, ◌∙◌, arith}
use Rattle.std.proofs.lemmas.Grind.{common_steps}
use Rattle.seata_types.specs.Statuses.{code_of}
use Rattle.entry_reader.specs.Parts.{number, global_with}
use Rattle.entry_reader.proofs.StatusCodes.{global_with-code_of}
use Rattle.entry_reader.proofs.parts.status.Goals as goal

pub returns-in-Some : goal.returns-in-Some
returns-in-Some c =
    let same : code_of c.in-Some.status ≡ min (number c.args.text.now) 15 = grind (arith, common_steps, c.in-Some.ensures.found) in
    sym (global_with-code_of c.in-Some.status) ∙ ap global_with same
