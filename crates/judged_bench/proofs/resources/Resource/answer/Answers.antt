use Rattle.std.proofs.Common.{sym, subst}
use Rattle.resource_memory.specs.Known.{Known}
use Rattle.resource_rules.specs.Answers.{AreOpenOn}
use Rattle.judged_bench.proofs.resources.Resource.answer.Goals as goal

pub answer-requires-clause-open_on : goal.answer-requires-clause-open_on
answer-requires-clause-open_on c =
    subst (λ (k : Known). AreOpenOn k c.args.self.now.txns) (sym c.kept-memory.ensures.same) c.requires.ready.open_on
