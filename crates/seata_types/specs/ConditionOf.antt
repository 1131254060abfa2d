-- The tree of a condition's node.
use Rattle.seata_types.specs.declared.conditions.CondNode.{CondNode}
use Rattle.seata_types.specs.declared.conditions.CondNode.TheVariants as node
use Rattle.seata_types.specs.Condition.{Condition}
use Rattle.seata_types.specs.Condition as tree

-- what a node says, without its boxes
abbrev pub condition_of : CondNode → Condition
condition_of (node.Cmp column op value) = tree.Cmp column op value
condition_of (node.And parts) = tree.And parts.value.0 parts.value.1
condition_of (node.Or parts) = tree.Or parts.value.0 parts.value.1
condition_of (node.Not inner) = tree.Not inner.value
