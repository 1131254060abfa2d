use Rattle.lab_words.proofs.Joined.{spelt_alike}
use Rattle.lab_words.proofs.Swapped.{any_order, only_once}
use Rattle.lab_words.proofs.laws.options_stand_in_any_order.Goals as goal

pub returns-clause-order : goal.returns-clause-order
returns-clause-order c = any_order

pub returns-clause-once : goal.returns-clause-once
returns-clause-once c = only_once

pub returns-clause-alike : goal.returns-clause-alike
returns-clause-alike c = spelt_alike
