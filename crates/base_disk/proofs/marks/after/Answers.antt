use Rattle.std.proofs.Common.{◌≡◌, ◌-◌, length, min, nat_eq, arith, rules}
use Rattle.std.proofs.lemmas.Bool.Decides.{nat_tests}
use Rattle.seata_types.specs.declared.limits.TheConstants.{BODY_BYTES}
use Rattle.base_disk.proofs.Records.{next_left}
use Rattle.base_disk.proofs.marks.after.Goals as goal

pub returns-clause-left : goal.returns-clause-left
returns-clause-left c =
    let text = c.args.text.now in
    let at = c.args.at in
    let step : c.min.result ≡ min (length text - at) BODY_BYTES = search rules in
    let within = c.requires in
    next_left text at c.min.result (nat_eq (length text - at) 0) step (λ e. grind (arith, nat_tests)) (λ e. grind (arith, nat_tests, within))
