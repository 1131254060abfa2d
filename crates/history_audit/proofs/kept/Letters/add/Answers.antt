use Rattle.std.proofs.Common.{ap, ◌∙◌}
use Rattle.history_audit.specs.Letters.{with_letter}
use Rattle.history_audit.proofs.LetterLaws.{none_added, one_added}
use Rattle.history_audit.proofs.kept.Letters.add.Goals as goal

pub returns-in_default : goal.returns-in_default
returns-in_default c = none_added c.args.self.now c.args.stamp c.args.from c.args.sent c.in_default.is

pub returns : goal.returns
returns c =
    one_added c.args.self.now (record { sent = c.put.new.sent; numbers = c.note.new.numbers }) c.args.stamp c.args.from c.args.sent c.in-Some.out c.in-Some.is
    (c.in_ok-put.ensures ∙ ap (λ at. with_letter c.args.self.now.sent.entries at c.in-Some.out) c.origin_of.ensures) c.in_ok-note.ensures
