-- One answer by another one, and messages that a resource ignores.
use Rattle.std.proofs.Common.{◌≡◌, ℕ, Result, Ok, Err, refl, sym, subst}
use Rattle.std.specs.Prelude.{IfOk}
use Rattle.seata_types.specs.declared.acts.Act.TheVariants as act
use Rattle.seata_types.specs.declared.messages.Message.{Message}
use Rattle.seata_types.specs.declared.messages.Message.TheVariants as message
use Rattle.local_txn.specs.Answers.{Tickets}
use Rattle.history_rules.specs.Own.{still}
use Rattle.history_rules.specs.ResourceMemory.{Setup, Memory, next_ticket}
use Rattle.history_rules.specs.ResourceRules as rules
use Rattle.resource_memory.specs.Known.{Known}
use Rattle.resource_rules.specs.Answers.{Hears, ignored}
use Rattle.resource_rules.specs.declared.answers.Answer.{Answer}
use Rattle.resource_rules.specs.declared.answers.Change.TheVariants as change
use Rattle.resource_rules.specs.declared.setups.Setup.{Setup as TheSetup}
use Rattle.resource_rules.proofs.AnswerLaws.{rests}

-- where there is memory for it
pub ok_as : {A E : Type 0} {P Q : A → Type 0} (result : Result A E) → ((a : A) → P a → Q a) → IfOk result P → IfOk result Q
ok_as (Ok a) f p = f a p
ok_as (Err e) f p = tt

-- what is said of a value is said of its like
pub of_like : {A I E : Type 0} (P : I → A → Type 0) (i j : I) (result : Result A E) → i ≡ j → IfOk result (P j) → IfOk result (P i)
of_like P i j result same p = subst (λ (k : _). IfOk result (P k)) (sym same) p

module _ (s : Setup) (m : Memory) where
  others : (heard : Message) → ((xid : _) (manager resource call : ℕ) (asked : _) → heard ≡ message.Call xid manager resource call asked → ⊥)
      → ((ticket : _) (xid : _) (given : _) → heard ≡ message.RegisterAnswer ticket xid given → ⊥)
      → ((ticket : _) (held : _) → heard ≡ message.LockAnswer ticket held → ⊥)
      → ((xid : _) (id : _) (mode : _) (manager call : ℕ) → heard ≡ message.BranchCommit xid id mode manager call → ⊥)
      → ((xid : _) (id : _) (mode : _) (manager call : ℕ) → heard ≡ message.BranchRollback xid id mode manager call → ⊥)
      → still act.Ignored ≡ rules.on_message s m.left.records m.opens (next_ticket m) heard
  others (message.Begin manager timeout) a b c d e = refl
  others (message.Begun xid) a b c d e = refl
  others (message.BranchCommitted xid id status stmt) a b c d e = refl
  others (message.BranchRollbacked xid id status stmt) a b c d e = refl
  others (message.GlobalCommit xid) a b c d e = refl
  others (message.CommitStatus xid status) a b c d e = refl
  others (message.GlobalRollback xid) a b c d e = refl
  others (message.RollbackStatus xid status) a b c d e = refl
  others (message.Register xid resource call ticket mode hold check) a b c d e = refl
  others (message.GlobalStatus xid) a b c d e = refl
  others (message.StatusAnswer xid status) a b c d e = refl
  others (message.LockQuery resource ticket check) a b c d e = refl
  others (message.Answer xid call given) a b c d e = refl
  others (message.Call xid manager resource call asked) a b c d e = absurd (a xid manager resource call asked refl)
  others (message.RegisterAnswer ticket xid given) a b c d e = absurd (b ticket xid given refl)
  others (message.LockAnswer ticket held) a b c d e = absurd (c ticket held refl)
  others (message.BranchCommit xid id mode manager call) a b c d e = absurd (d xid id mode manager call refl)
  others (message.BranchRollback xid id mode manager call) a b c d e = absurd (e xid id mode manager call refl)

pub ignores : (is : TheSetup) (k : Known) (ts : Tickets) (heard : Message) → ((xid : _) (manager resource call : ℕ) (asked : _) → heard ≡ message.Call xid manager resource call asked → ⊥)
    → ((ticket : _) (xid : _) (given : _) → heard ≡ message.RegisterAnswer ticket xid given → ⊥)
    → ((ticket : _) (held : _) → heard ≡ message.LockAnswer ticket held → ⊥)
    → ((xid : _) (id : _) (mode : _) (manager call : ℕ) → heard ≡ message.BranchCommit xid id mode manager call → ⊥)
    → ((xid : _) (id : _) (mode : _) (manager call : ℕ) → heard ≡ message.BranchRollback xid id mode manager call → ⊥) → (a : Answer) → a ≡ ignored → Hears is k ts heard a
ignores is k ts heard a b c d e given same = λ from. rests change.Stays tt _ (λ s m sh. others s m heard a b c d e) (λ s m. refl) (λ s m now sh. refl) (λ ready served. (tt, tt)) given same
