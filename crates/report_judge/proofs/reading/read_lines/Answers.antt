use Rattle.std.proofs.Common.{◌+◌, [], ◌∷◌, ◌++◌, Ok, Err, codes, sym, subst}
use Rattle.std.proofs.lemmas.Result.{err_from_is_err_and}
use Rattle.entry_reader.specs.Reading.{entry_of}
use Rattle.report_judge.specs.Lines.{first_line, lines}
use Rattle.report_judge.specs.Reading.{IsReadable, ReadFrom}
use Rattle.report_judge.specs.Steps.{Gives}
use Rattle.report_judge.proofs.Readings.{HasRead, at_end, at_entry, at_sessions, at_start, at_unreadable, line_is, line_is_not, none_left, refused_line, some_left}
use Rattle.report_judge.proofs.reading.read_lines.Goals as goal

pub loop-left-init : goal.loop-left-init
loop-left-init c = at_start c.args.names.now c.args.text.now c.new-entries.result.items c.new-entries.ensures.items

pub returns-then-is_word : goal.returns-then-is_word
returns-then-is_word c =
    let some = some_left c.loop-left.left.now c.is_empty.result c.is_empty.ensures c.loop-left-test.true in
    let is = line_is c.loop-left.left.now c.cut.result.0.now (codes "sessions") c.is_word.result c.is_word.ensures c.cut.ensures.line c.if-is_word.true in
    subst (λ es. ReadFrom c.args.names.now 3 (lines c.args.text.now) (Ok es)) (sym c.of.ensures)
    (at_sessions c.args.names.now c.args.text.now c.loop-left.entries.items c.loop-left.number c.loop-left.left.now some c.loop-left.invariant is)

pub returns-in_err-add : goal.returns-in_err-add
returns-in_err-add c =
    let some = some_left c.loop-left.left.now c.is_empty.result c.is_empty.ensures c.loop-left-test.true in
    let other = line_is_not c.loop-left.left.now c.cut.result.0.now (codes "sessions") c.is_word.result c.is_word.ensures c.cut.ensures.line c.if-is_word.false in
    let p = err_from_is_err_and c.from_residual.result c.from_residual.ensures.1 in
    subst (Gives (ReadFrom c.args.names.now 3 (lines c.args.text.now))) (sym p.1)
    (subst (λ e. Gives (ReadFrom c.args.names.now 3 (lines c.args.text.now)) (Err e)) (sym p.2)
    (refused_line (ReadFrom c.args.names.now 3 (lines c.args.text.now)) c.args.names.now c.cut.result.0.now c.loop-left.number c.in_err-add.field-0.0 c.in_err-add.ensures.refused
    (λ bad. at_unreadable c.args.names.now c.args.text.now c.loop-left.entries.items c.loop-left.number c.loop-left.left.now some c.loop-left.invariant other
    (subst (λ l. IsReadable c.args.names.now l → ⊥) c.cut.ensures.line bad))))

pub loop-left-preserved : goal.loop-left-preserved
loop-left-preserved c =
    let some = some_left c.loop-left.left.now c.is_empty.result c.is_empty.ensures c.loop-left-test.true in
    let other = line_is_not c.loop-left.left.now c.cut.result.0.now (codes "sessions") c.is_word.result c.is_word.ensures c.cut.ensures.line c.if-is_word.false in
    let added = c.in_ok-add.ensures.added in
    subst (λ es. HasRead c.args.names.now c.args.text.now es (c.loop-left.number + 1) c.cut.result.1.now) (sym added.1)
    (subst (λ l. HasRead c.args.names.now c.args.text.now (c.loop-left.entries.items ++ entry_of c.args.names.now l ∷ []) (c.loop-left.number + 1) c.cut.result.1.now)
    (sym c.cut.ensures.line)
    (subst (HasRead c.args.names.now c.args.text.now (c.loop-left.entries.items ++ entry_of c.args.names.now (first_line c.loop-left.left.now) ∷ []) (c.loop-left.number + 1))
    (sym c.cut.ensures.rest)
    (at_entry c.args.names.now c.args.text.now c.loop-left.entries.items c.loop-left.number c.loop-left.left.now some c.loop-left.invariant other
    (subst (IsReadable c.args.names.now) c.cut.ensures.line added.0))))

pub returns : goal.returns
returns c =
    at_end c.args.names.now c.args.text.now c.loop-left.entries.items c.loop-left.number c.loop-left.left.now
    (none_left c.loop-left.left.now c.is_empty.result c.is_empty.ensures c.loop-left-test.false) c.loop-left.invariant
