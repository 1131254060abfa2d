-- A turn of the table by the rules' own, where a branch is asked with numbers of its scenario.
use Rattle.std.proofs.Common.{◌≡◌, ◌∙◌, ℕ, Bool, false, sym, ap, subst}
use Rattle.std.specs.Prelude.{Ok}
use Rattle.disk_model.specs.Disk.{DiskState}
use Rattle.seata_types.specs.declared.acts.Act.TheVariants as act
use Rattle.seata_types.specs.declared.messages.Input.{Input}
use Rattle.seata_types.specs.declared.messages.Input.TheVariants as input
use Rattle.seata_types.specs.declared.messages.Step.{Step}
use Rattle.history_rules.specs.Own.{still}
use Rattle.session_log.specs.declared.sessions.Snapshot.{Snapshot}
use Rattle.session_store.specs.Keeping.{managers_of, resources_of}
use Rattle.coordinator_rules.specs.Answers as rules
use Rattle.coordinator_rules.specs.Answers.{asks_nodes}
use Rattle.coordinator_rules.specs.Knowledge.{knows, waits}
use Rattle.coordinator_rules.specs.declared.answers.Answer.{Answer}
use Rattle.coordinator_core.specs.declared.table.Table.{Table}
use Rattle.coordinator_core.specs.Answers.{Answers, IsWithin}
use Rattle.coordinator_core.specs.Knowledge.{knowledge, memory}
use Rattle.coordinator_core.proofs.Taken.{never_taken}
use Rattle.coordinator_core.proofs.Within.{asks_within}

module _ {D : Type 0} (t : Table D) where
  -- what is said of what is known is said of the table's
  pub input_ruled : (given : Input) (s : Snapshot) (now : ℕ) (a : Answer) → s ≡ memory t → ((retry : ℕ) → rules.Answers (knows (waits retry t.forget) s t.moments) given now a) → rules.Answers (knowledge t) given now a
  input_ruled given s now a same is = subst (λ (m : Snapshot). rules.Answers (knows (waits t.retry t.forget) m t.moments) given now a) same (is t.retry)

  pub asks_here : (a : Answer) (managers resources : ℕ) → managers ≡ managers_of t.sessions → resources ≡ resources_of t.sessions → {b : Bool} → asks_nodes managers resources a.step.sent ≡ b
      → asks_nodes (managers_of t.sessions) (resources_of t.sessions) a.step.sent ≡ b
  asks_here a managers resources m r is = (λ i. asks_nodes (sym m i) (sym r i) a.step.sent) ∙ is

  -- the rules ask no other
  pub never_asked : (state : D → DiskState) (now : ℕ) (a : Answer) → rules.Answers (knowledge t) input.Turn now a → (managers resources : ℕ) → managers ≡ managers_of t.sessions → resources ≡ resources_of t.sessions
      → asks_nodes managers resources a.step.sent ≡ false → (step : Step) → step ≡ still act.Nothing → Answers state (IsWithin t) t t input.Turn now (Ok step)
  never_asked state now a is managers resources m r other step same =
      never_taken state (IsWithin t) t input.Turn now step same
      (λ owns s w. sym (asks_here a managers resources m r other) ∙ ap (λ (z : Step). asks_nodes (managers_of t.sessions) (resources_of t.sessions) z.sent) (is.ruled.rules owns s).step
      ∙ asks_within (managers_of t.sessions) (resources_of t.sessions) (knowledge t) now owns w)
