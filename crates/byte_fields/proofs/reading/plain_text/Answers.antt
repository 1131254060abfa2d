use Rattle.std.proofs.Common.{sym, ◌∙◌}
use Rattle.byte_fields.proofs.Texts.{is_plain-true, is_plain-control, is_plain-no_text}
use Rattle.byte_fields.proofs.reading.plain_text.Goals as goal

pub returns-then-has_no_control : goal.returns-then-has_no_control
returns-then-has_no_control c =
    let same = c.in-Ok.ensures.cases.0 in
    (same, is_plain-true _ _ same c.in-Ok.ensures.cases.1 (sym c.has_no_control.ensures ∙ c.if-has_no_control.true))

pub returns-else-has_no_control : goal.returns-else-has_no_control
returns-else-has_no_control c =
    is_plain-control _ _ c.in-Ok.ensures.cases.0 (sym c.has_no_control.ensures ∙ c.if-has_no_control.false)

pub returns-in-Err : goal.returns-in-Err
returns-in-Err c = is_plain-no_text c.args.bytes.now c.in-Err.ensures.cases.0
