use Rattle.report_judge.specs.Judging.{Judges}
use Rattle.report_judge.proofs.Found.{judged, refused}
use Rattle.report_judge.proofs.judging.judge.Goals as goal

pub returns-then-bytes-gt-HISTORY_BYTES : goal.returns-then-bytes-gt-HISTORY_BYTES
unfolding Judges
returns-then-bytes-gt-HISTORY_BYTES c = c.if-bytes-gt-HISTORY_BYTES.true

pub returns-in-Ok : goal.returns-in-Ok
returns-in-Ok c =
    judged c.args.bytes.now c.cut.result.0.now c.cut.result.1.now c.if-bytes-gt-HISTORY_BYTES.false c.cut.ensures.line c.cut.ensures.rest
    c.in-Ok.scenario c.in-Ok.ensures.ok c.judge_text.result c.judge_text.ensures

pub returns-in-Err : goal.returns-in-Err
returns-in-Err c =
    refused c.args.bytes.now c.cut.result.0.now c.cut.result.1.now c.if-bytes-gt-HISTORY_BYTES.false c.cut.ensures.line c.in-Err.error c.in-Err.ensures.err c.refused.result c.refused.ensures
