use Rattle.std.proofs.Common.{◌++◌, codes, string_bytes, sym, ap, ◌∙◌, arith, append_assoc}
use Rattle.std.specs.Fmt.{decimal}
use Rattle.std.proofs.lemmas.Grind.{common_steps}
use Rattle.history_text.specs.Lines as lines
use Rattle.history_text.proofs.Texts.{two_more}
use Rattle.history_text.proofs.durables.add_durable.Goals as goal

pub returns-in_ok-add_word_leg-in-Committed : goal.returns-in_ok-add_word_leg-in-Committed
returns-in_ok-add_word_leg-in-Committed c = grind (arith, common_steps, append_assoc)

pub returns-in_ok-add_after_space-in-LocalCommitted : goal.returns-in_ok-add_after_space-in-LocalCommitted
returns-in_ok-add_after_space-in-LocalCommitted c =
    two_more (string_bytes c.args.out.now) (codes "local-committed ") (decimal c.in-LocalCommitted.number) (codes " " ++ lines.ticket_text c.in-LocalCommitted.ticket) _ _
    c.in_ok-add_word_number-in-LocalCommitted.ensures c.in_ok-add_after_space-in-LocalCommitted.ensures
    ∙ ap (λ d. string_bytes c.args.out.now ++ lines.durable_text d) (sym c.in-LocalCommitted.is)
