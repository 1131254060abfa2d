use Rattle.std.proofs.Common.{◌≡◌, drop}
use Rattle.report_text.specs.Following.{most_of}
use Rattle.report_text.proofs.before.most_of.Given as goal

abbrev pub invariant-loop-resource : goal.invariant-loop-resource
invariant-loop-resource l = most_of l.most (drop l.resource-index l.resources) ≡ most_of l.first l.resources
