use Rattle.std.proofs.Common.{◌≡◌, ◌++◌, ◌∙◌, None, sym, ap, append-nil}
use Rattle.report_text.specs.Totals.{listed}
use Rattle.report_text.proofs.totals.add_number.Goals as goal

pub returns-in_default : goal.returns-in_default
returns-in_default c =
    let none : c.number_at.result ≡ None = search in
    sym (append-nil c.args.numbers.now.items) ∙ ap (λ o. c.args.numbers.now.items ++ listed o) (sym none ∙ c.number_at.ensures)
