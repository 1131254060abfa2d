use Rattle.std.proofs.Common.{string_bytes}
use Rattle.report_text.proofs.ShownLaws.{text_shown}
use Rattle.report_text.proofs.reports.write_state.Goals as goal

pub returns-in-Ok : goal.returns-in-Ok
returns-in-Ok c =
    text_shown c.args.scenario.now c.args.before c.in_ok-folded.folded c.in_ok-names.names (string_bytes c.new-out.result) (string_bytes c.put_state.new.out)
    c.in_ok-folded.ensures c.in_ok-names.ensures c.new-out.ensures.bytes c.in-Ok.ensures
