use Rattle.std.proofs.Common.{◌∙◌, ap}
use Rattle.report_text.specs.Following.{unused_from}
use Rattle.report_text.proofs.ReportLaws.{none_read}
use Rattle.report_text.proofs.before.Before.none.Goals as goal

pub returns : goal.returns
returns c = none_read c.args.scenario.now (record { sessions = c.new.result; resources = c.in_ok-resources.resources }) c.new.ensures (c.in_ok-resources.ensures ∙ ap (unused_from 1) c.as_slice.ensures)
