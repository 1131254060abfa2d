use Rattle.std.proofs.Common.{◌++◌, codes, string_bytes, sym, ap, ◌∙◌, arith, append_assoc}
use Rattle.std.specs.Fmt.{decimal}
use Rattle.std.proofs.lemmas.Grind.{common_steps}
use Rattle.history_text.specs.Lines as lines
use Rattle.history_text.proofs.Texts.{two_more, three_more}
use Rattle.history_text.proofs.acts.add_act.Goals as goal

pub returns-in_ok-add_word_xid-in-Conflict : goal.returns-in_ok-add_word_xid-in-Conflict
returns-in_ok-add_word_xid-in-Conflict c = grind (arith, common_steps, append_assoc)

pub returns-in_ok-add_why-in-RefusedLocal : goal.returns-in_ok-add_why-in-RefusedLocal
returns-in_ok-add_why-in-RefusedLocal c =
    three_more (string_bytes c.args.out.now) (codes "refused-local ") (decimal c.in-RefusedLocal.number) (codes " ") (lines.why_text c.args.names.now c.in-RefusedLocal.why) _ _ _
    c.in_ok-add_word_number-in-RefusedLocal.ensures c.in_ok-push_str-in-RefusedLocal.ensures.bytes c.in_ok-add_why-in-RefusedLocal.ensures
    ∙ ap (λ a. string_bytes c.args.out.now ++ lines.act_text c.args.names.now a) (sym c.in-RefusedLocal.is)

pub returns-in_ok-add_after_space-in-OpenedLocal : goal.returns-in_ok-add_after_space-in-OpenedLocal
returns-in_ok-add_after_space-in-OpenedLocal c =
    two_more (string_bytes c.args.out.now) (codes "opened-local ") (decimal c.in-OpenedLocal.number) (codes " " ++ lines.ticket_text c.in-OpenedLocal.ticket) _ _
    c.in_ok-add_word_number-in-OpenedLocal.ensures c.in_ok-add_after_space-in-OpenedLocal.ensures
    ∙ ap (λ a. string_bytes c.args.out.now ++ lines.act_text c.args.names.now a) (sym c.in-OpenedLocal.is)
