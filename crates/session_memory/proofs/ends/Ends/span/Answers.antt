use Rattle.std.proofs.Common.{◌∙◌, sym, subst, Option}
use Rattle.session_memory.specs.declared.ends.Span.{Span}
use Rattle.session_memory.specs.Ends.{IsSpanIn}
use Rattle.session_memory.proofs.EndsLaws.{behind_all}
use Rattle.session_memory.proofs.ends.Ends.span.Goals as goal

pub returns-in-Some : goal.returns-in-Some
returns-in-Some c = subst (λ (o : Option Span). IsSpanIn o c.args.branches.now) (sym c.known.ensures ∙ c.in-Some.is) c.requires

pub returns-in-None : goal.returns-in-None
returns-in-None c = record { before = tt; behind = behind_all c.args.branches.now }
