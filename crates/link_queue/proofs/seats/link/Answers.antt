use Rattle.std.proofs.Common.{rules}
use Rattle.link_queue.proofs.Keeping.{begins, fork_keeps}
use Rattle.link_queue.proofs.seats.link.Goals as goal

pub ruled-requires-clause-rule : goal.ruled-requires-clause-rule
ruled-requires-clause-rule c = begins

pub another-taking-requires-clause-rule : goal.another-taking-requires-clause-rule
another-taking-requires-clause-rule c = fork_keeps _ _ (search rules) (search rules)
