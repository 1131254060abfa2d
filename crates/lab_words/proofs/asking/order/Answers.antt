use Rattle.std.proofs.Common.{sym}
use Rattle.lab_words.specs.Seen.{seen}
use Rattle.lab_words.proofs.Ranges.{words_in_range}
use Rattle.lab_words.proofs.asking.order.Goals as goal

pub returns-clause-ranges : goal.returns-clause-ranges
returns-clause-ranges c = words_in_range c.args.words.now (c.in_ok-order.order, seen c.in_ok-order.field-0-1) (sym c.in_ok-order.ensures)
