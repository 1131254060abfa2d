use Rattle.std.proofs.Common.{◌∙◌, refl}
use Rattle.lab_calls.proofs.Audited.{no_audit}
use Rattle.lab_calls.proofs.tops.top.Goals as goal

pub returns-in-Make-clause-audit : goal.returns-in-Make-clause-audit
returns-in-Make-clause-audit g c asked = no_audit c.in-Make.is (c.task_of.ensures.exact ∙ asked) refl

pub returns-in-Stress-clause-audit : goal.returns-in-Stress-clause-audit
returns-in-Stress-clause-audit g c asked = no_audit c.in-Stress.is (c.task_of.ensures.exact ∙ asked) refl

pub returns-in-Show-clause-audit : goal.returns-in-Show-clause-audit
returns-in-Show-clause-audit g c asked = no_audit c.in-Show.is (c.task_of.ensures.exact ∙ asked) refl

pub returns-in-Usage-clause-audit : goal.returns-in-Usage-clause-audit
returns-in-Usage-clause-audit g c asked = no_audit c.in-Usage.is (c.task_of.ensures.exact ∙ asked) refl
