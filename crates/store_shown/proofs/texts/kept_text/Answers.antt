use Rattle.std.proofs.Common.{◌∙◌, sym}
use Rattle.store_shown.proofs.Joined.{not_whole, whole_is}
use Rattle.store_shown.proofs.texts.kept_text.Goals as goal

pub returns-then-not-is_whole : goal.returns-then-not-is_whole
returns-then-not-is_whole c = not_whole c.args.records.now (sym c.is_whole.ensures ∙ c.if-not-is_whole.true)

pub returns : goal.returns
returns c = (whole_is c.args.records.now (sym c.is_whole.ensures ∙ c.if-not-is_whole.false), c.in_ok-text.ensures)
