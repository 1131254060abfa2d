-- What is answered whatever is known, and one input by another one.
use Rattle.std.proofs.Common.{◌≡◌, ◌∙◌, ℕ, List, None, Result, Ok, Err, refl, sym, ap, subst}
use Rattle.std.specs.Prelude.{IfOk}
use Rattle.seata_types.specs.declared.acts.Act.TheVariants as act
use Rattle.seata_types.specs.declared.copies.NoMemory.{NoMemory}
use Rattle.seata_types.specs.declared.ids.Place.{Place}
use Rattle.seata_types.specs.declared.ids.Ticket.{Ticket}
use Rattle.seata_types.specs.declared.ids.Xid.{Xid}
use Rattle.seata_types.specs.declared.messages.Input.{Input}
use Rattle.seata_types.specs.declared.messages.Input.TheVariants as input
use Rattle.seata_types.specs.declared.messages.Message.{Message}
use Rattle.seata_types.specs.declared.messages.Message.TheVariants as message
use Rattle.seata_types.specs.declared.rows.RowKey.{RowKey}
use Rattle.history_rules.specs.CoordinatorMemory.{Times}
use Rattle.history_rules.specs.Own.{still}
use Rattle.session_log.specs.declared.sessions.RegisterPlace.{RegisterPlace}
use Rattle.session_log.specs.declared.sessions.Snapshot.{Snapshot}
use Rattle.coordinator_rules.specs.declared.answers.Answer.{Answer}
use Rattle.coordinator_rules.specs.declared.moments.Moments.{Moments}
use Rattle.coordinator_rules.specs.Answers.{Answers, Hears, answer}
use Rattle.coordinator_rules.specs.Knowledge.{Knowledge, knows, times_in}
use Rattle.coordinator_rules.specs.Registering.{registers}
use Rattle.coordinator_rules.specs.Tracks.{Course, rule_answer}
use Rattle.coordinator_rules.proofs.AnswerLaws.{told, still_sent}

-- what is said of a value is said of its like
pub of_like : {I : Type 0} (P : I → Type 0) (i j : I) → i ≡ j → P j → P i
of_like P i j same p = subst P (sym same) p

-- what is said of a message is said of the input that has its like
pub of_heard : (P : Input → Type 0) (given : Input) (from : Place) (m n : Message) → given ≡ input.Message from m → n ≡ m → P (input.Message from n) → P given
of_heard P given from m n is same p = of_like P given (input.Message from n) (is ∙ ap (input.Message from) (sym same)) p

-- where there is memory for it
pub ok_as : {A E : Type 0} {P Q : A → Type 0} (result : Result A E) → ((a : A) → P a → Q a) → IfOk result P → IfOk result Q
ok_as (Ok a) f p = f a p
ok_as (Err e) f p = tt

-- what is said of any settings and moments
abbrev Says : Snapshot → Input → ℕ → Answer → Type 0
Says s given now a = (times : Times) (m : Moments) → Answers (knows times s m) given now a

module _ (s : Snapshot) (from : Place) (heard : Message) (now : ℕ) where
  pub registers_heard : (xid : Xid) (p : RegisterPlace) (hold check rows others : List RowKey) → heard ≡ registers xid p hold check → rows ≡ hold → others ≡ check → (result : Result Answer NoMemory)
      → IfOk result (Hears s (registers xid p rows others) now) → IfOk result (Says s (input.Message from heard) now)
  registers_heard xid p hold check rows others is r o result given =
      ok_as result (λ a all times m. subst (λ (h : Message). Answers (knows times s m) (input.Message from h) now a) ((λ i. registers xid p (r i) (o i)) ∙ sym is) (all times m from)) given

  pub query_heard : (resource : ℕ) (ticket : Ticket) (check rows : List RowKey) → heard ≡ message.LockQuery resource ticket check → rows ≡ check → (result : Result Answer NoMemory)
      → IfOk result (Says s (input.Message from (message.LockQuery resource ticket rows)) now) → IfOk result (Says s (input.Message from heard) now)
  query_heard resource ticket check rows is r result given =
      ok_as result (λ a all times m. subst (λ (h : Message). Answers (knows times s m) (input.Message from h) now a) (ap (message.LockQuery resource ticket) r ∙ sym is) (all times m)) given

module _ (k : Knowledge) (now : ℕ) where
  pub ignores : (given : Input) → ((owns : Course) → still act.Ignored ≡ rule_answer (times_in k) owns now given) → (a : Answer) → a ≡ answer None (still act.Ignored) → Answers k given now a
  ignores given rule = told k given now act.Ignored None refl (λ owns s. rule owns) (still_sent given act.Ignored (λ resources. tt))

  others : (from : Place) (heard : Message) (owns : Course)
      → ((manager timeout : ℕ) → heard ≡ message.Begin manager timeout → ⊥)
      → ((xid : _) → heard ≡ message.GlobalCommit xid → ⊥)
      → ((xid : _) → heard ≡ message.GlobalRollback xid → ⊥)
      → ((xid : _) → heard ≡ message.GlobalStatus xid → ⊥)
      → ((xid : _) (resource call : ℕ) (ticket : _) (mode : _) (hold check : _) → heard ≡ message.Register xid resource call ticket mode hold check → ⊥)
      → ((resource : ℕ) (ticket : _) (check : _) → heard ≡ message.LockQuery resource ticket check → ⊥)
      → ((xid : _) (id : _) (status : _) (stmt : ℕ) → heard ≡ message.BranchCommitted xid id status stmt → ⊥)
      → ((xid : _) (id : _) (status : _) (stmt : ℕ) → heard ≡ message.BranchRollbacked xid id status stmt → ⊥)
      → still act.Ignored ≡ rule_answer (times_in k) owns now (input.Message from heard)
  others from (message.Begin manager timeout) owns a b c d e f g h = absurd (a manager timeout refl)
  others from (message.GlobalCommit xid) owns a b c d e f g h = absurd (b xid refl)
  others from (message.GlobalRollback xid) owns a b c d e f g h = absurd (c xid refl)
  others from (message.GlobalStatus xid) owns a b c d e f g h = absurd (d xid refl)
  others from (message.Register xid resource call ticket mode hold check) owns a b c d e f g h = absurd (e xid resource call ticket mode hold check refl)
  others from (message.LockQuery resource ticket check) owns a b c d e f g h = absurd (f resource ticket check refl)
  others from (message.BranchCommitted xid id status stmt) owns a b c d e f g h = absurd (g xid id status stmt refl)
  others from (message.BranchRollbacked xid id status stmt) owns a b c d e f g h = absurd (h xid id status stmt refl)
  others from (message.Begun xid) owns a b c d e f g h = refl
  others from (message.BranchCommit xid id mode manager call) owns a b c d e f g h = refl
  others from (message.BranchRollback xid id mode manager call) owns a b c d e f g h = refl
  others from (message.CommitStatus xid status) owns a b c d e f g h = refl
  others from (message.RollbackStatus xid status) owns a b c d e f g h = refl
  others from (message.RegisterAnswer ticket xid given) owns a b c d e f g h = refl
  others from (message.StatusAnswer xid status) owns a b c d e f g h = refl
  others from (message.LockAnswer ticket held) owns a b c d e f g h = refl
  others from (message.Call xid manager resource call asked) owns a b c d e f g h = refl
  others from (message.Answer xid call given) owns a b c d e f g h = refl

  pub others_ignored : (from : Place) (heard : Message)
      → ((manager timeout : ℕ) → heard ≡ message.Begin manager timeout → ⊥)
      → ((xid : _) → heard ≡ message.GlobalCommit xid → ⊥)
      → ((xid : _) → heard ≡ message.GlobalRollback xid → ⊥)
      → ((xid : _) → heard ≡ message.GlobalStatus xid → ⊥)
      → ((xid : _) (resource call : ℕ) (ticket : _) (mode : _) (hold check : _) → heard ≡ message.Register xid resource call ticket mode hold check → ⊥)
      → ((resource : ℕ) (ticket : _) (check : _) → heard ≡ message.LockQuery resource ticket check → ⊥)
      → ((xid : _) (id : _) (status : _) (stmt : ℕ) → heard ≡ message.BranchCommitted xid id status stmt → ⊥)
      → ((xid : _) (id : _) (status : _) (stmt : ℕ) → heard ≡ message.BranchRollbacked xid id status stmt → ⊥)
      → (a : Answer) → a ≡ answer None (still act.Ignored) → Answers k (input.Message from heard) now a
  others_ignored from heard a b c d e f g h = ignores (input.Message from heard) (λ owns. others from heard owns a b c d e f g h)
