use Rattle.std.specs.List.{AllByRecursion, sum_by}
use Rattle.seata_types.specs.Condition.{nodes}
use Rattle.statement_laws.specs.Texts.{HasTextsIn}
use Rattle.statement_laws.proofs.texts.tell_cond.Given as goal

-- what is still to be told of tells of the whole
abbrev pub invariant-loop-part : goal.invariant-loop-part
invariant-loop-part l = AllByRecursion HasTextsIn l.parts.items → HasTextsIn l.fn.cond

abbrev pub decreases-loop-part : goal.decreases-loop-part
decreases-loop-part l = sum_by nodes l.parts.items
