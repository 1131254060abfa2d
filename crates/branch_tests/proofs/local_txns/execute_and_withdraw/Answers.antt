use Rattle.std.proofs.Common.{◌≡◌, ◌+◌, ◌-◌, ap, ◌∙◌, arith}
use Rattle.local_txn.specs.Answers.{Tickets}
use Rattle.branch_tests.proofs.Openings.{is_last, is_open}
use Rattle.branch_tests.proofs.local_txns.execute_and_withdraw.Goals as goal

pub withdraw-requires-clause-last : goal.withdraw-requires-clause-last
withdraw-requires-clause-last c = is_last c.args.txns.now c.execute.new.self _ _ c.in-Ok.ticket c.in-Ok.ensures

pub withdraw-requires-clause-is_open : goal.withdraw-requires-clause-is_open
withdraw-requires-clause-is_open c = is_open c.args.txns.now c.execute.new.self _ _ c.in-Ok.ticket c.in-Ok.ensures

pub returns-in-Ok : goal.returns-in-Ok
returns-in-Ok c =
    let more : c.execute.new.self.opened ≡ c.args.txns.now.opened + 1 = ap (λ (u : Tickets). u.opened) c.in-Ok.ensures.opens in
    let less : c.withdraw.new.self.opened ≡ c.execute.new.self.opened - 1 = ap (λ (u : Tickets). u.opened) c.withdraw.ensures.gone in
    omega (arith, more, less)
