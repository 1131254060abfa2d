use Rattle.std.proofs.Common.{[], ◌∷◌, ◌∙◌, arith}
use Rattle.disk_journal.proofs.Rows.{row_length-append}
use Rattle.disk_model.proofs.Calls.{leaves_weaker}
use Rattle.disk_journal.proofs.Adding.{front_less}
use Rattle.disk_journal.proofs.journal.Journal.append.Goals as goal

pub returns-in-Err-add_record-clause-not_begun : goal.returns-in-Err-add_record-clause-not_begun
returns-in-Err-add_record-clause-not_begun g c = λ bodies keeps calls left few.
    c.add_record.ensures.not_begun c.args.self.now.from bodies c.args.body.now (record { gate_is = keeps.end; bytes_are = c.deref.ensures.value ∙ c.stage.ensures.staged; small = c.requires.small }) keeps.disk calls left few

pub returns-in-Ok-clause-acknowledged : goal.returns-in-Ok-clause-acknowledged
returns-in-Ok-clause-acknowledged g c = λ bodies keeps. record {
  disk = c.in-Ok.ensures.added c.args.self.now.from bodies c.args.body.now (record { gate_is = keeps.end; bytes_are = c.deref.ensures.value ∙ c.stage.ensures.staged; small = c.requires.small }) keeps.disk;
  end = omega (arith, keeps.end, row_length-append bodies (c.args.body.now ∷ []));
}

pub returns-in-Ok-clause-any_moment : goal.returns-in-Ok-clause-any_moment
returns-in-Ok-clause-any_moment g c = λ bodies keeps.
    c.add_record.ensures.any_moment c.args.self.now.from bodies c.args.body.now (record { gate_is = keeps.end; bytes_are = c.deref.ensures.value ∙ c.stage.ensures.staged; small = c.requires.small }) keeps.disk

pub returns-in-Err-add_record-clause-any_moment : goal.returns-in-Err-add_record-clause-any_moment
returns-in-Err-add_record-clause-any_moment g c = λ bodies keeps.
    c.add_record.ensures.any_moment c.args.self.now.from bodies c.args.body.now (record { gate_is = keeps.end; bytes_are = c.deref.ensures.value ∙ c.stage.ensures.staged; small = c.requires.small }) keeps.disk

pub returns-in-Ok-clause-front : goal.returns-in-Ok-clause-front
returns-in-Ok-clause-front g c = leaves_weaker c.add_record.ensures.front (λ d is. front_less _ _ d c.args.self.now.order is)

pub returns-in-Err-add_record-clause-front : goal.returns-in-Err-add_record-clause-front
returns-in-Err-add_record-clause-front g c = leaves_weaker c.add_record.ensures.front (λ d is. front_less _ _ d c.args.self.now.order is)
