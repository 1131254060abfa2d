use Rattle.std.proofs.Common.{sym, ◌∙◌}
use Rattle.lab_words.proofs.Spelling.{is_some_copied}
use Rattle.lab_words.proofs.values.has_store.Goals as goal

pub returns : goal.returns
returns c = c.is_some.ensures ∙ sym (is_some_copied c.args.given.store)
