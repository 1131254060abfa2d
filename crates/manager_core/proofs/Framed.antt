-- All that a manager with settings within the limits says can be framed.
use Rattle.std.proofs.Common.{◌≡◌, ◌<◌, ◌^◌, ℕ, zero, suc, length, Option, Some, None, Result, Ok, Err, ap, sym, subst, arith}
use Rattle.std.specs.Prelude.{IfOk}
use Rattle.std.proofs.lemmas.Option.{get_or_from_slice_get, slice_get_within}
use Rattle.seata_types.specs.declared.copies.NoMemory.{NoMemory}
use Rattle.seata_types.specs.declared.ids.Xid.{Xid}
use Rattle.seata_types.specs.declared.limits.TheConstants.{MANAGERS, TICKS}
use Rattle.seata_types.specs.declared.messages.Input.{Input}
use Rattle.seata_types.specs.declared.messages.Message.{Message}
use Rattle.seata_types.specs.declared.messages.Message.TheVariants as message
use Rattle.seata_types.specs.declared.messages.Outgoing.{Outgoing}
use Rattle.seata_types.specs.declared.messages.Step.{Step}
use Rattle.seata_types.specs.declared.statements.Work.{Work}
use Rattle.frame_codec.specs.Limits.{IsCounted, IsFramable}
use Rattle.history_rules.specs.ManagerRules.{Settings}
use Rattle.manager_rules.specs.Answers.{Answers}
use Rattle.manager_rules.specs.Calls.{IsCallAt, IsSaid, SendsSaid}
use Rattle.manager_rules.specs.declared.talks.Talk.{Talk}
use Rattle.node_steps.specs.Framing.{SendsFramable}
use Rattle.manager_core.specs.Within.{IsCallWithin, IsWithin}

module _ (m : Settings) (w : IsWithin m) where
  call_framed : (xid : Xid) (resource number : ℕ) (asked : Work) → xid.0 < 2 ^ 64 → IsCallAt m.calls number (resource, asked) → IsFramable (message.Call xid m.number resource number asked)
  call_framed xid resource zero asked few at = absurd at
  call_framed xid resource (suc done) asked few at =
      let here : done < length m.calls = slice_get_within m.calls done (resource, asked) at in
      let call : IsCallWithin (resource, asked) = subst IsCallWithin (get_or_from_slice_get m.calls done (resource, asked) (resource, asked) at) (w.calls done (resource, asked) here) in
      record {
        layout = (few, omega (arith, w.numbered.1), omega (arith, call.resource.1), omega (arith, here, w.few), call.layout);
        limits = (w.numbered, call.resource, (omega arith, omega (arith, here, w.few)), call.limits);
      }

  said_framed : (heard : Message) → IsSaid m heard → IsFramable heard
  said_framed (message.Begin manager timeout) (of, at) = record {
    layout = (omega (arith, of, w.numbered.1), omega (arith, at, w.timed.1));
    limits = (subst (λ (n : ℕ). IsCounted MANAGERS n) (sym of) w.numbered, subst (λ (n : ℕ). IsCounted TICKS n) (sym at) w.timed);
  }
  said_framed (message.Call xid manager resource number asked) (few, of, at) =
      subst (λ (n : ℕ). IsFramable (message.Call xid n resource number asked)) (sym of) (call_framed xid resource number asked few at)
  said_framed (message.GlobalCommit xid) few = record { layout = few; limits = tt }
  said_framed (message.GlobalRollback xid) few = record { layout = few; limits = tt }
  said_framed (message.GlobalStatus xid) few = record { layout = few; limits = tt }
  said_framed (message.Begun x) never = absurd never
  said_framed (message.BranchCommit x id mode manager call) never = absurd never
  said_framed (message.BranchCommitted x id status stmt) never = absurd never
  said_framed (message.BranchRollback x id mode manager call) never = absurd never
  said_framed (message.BranchRollbacked x id status stmt) never = absurd never
  said_framed (message.CommitStatus x status) never = absurd never
  said_framed (message.RollbackStatus x status) never = absurd never
  said_framed (message.Register x resource call ticket mode hold check) never = absurd never
  said_framed (message.RegisterAnswer ticket x given) never = absurd never
  said_framed (message.StatusAnswer x status) never = absurd never
  said_framed (message.LockQuery resource ticket check) never = absurd never
  said_framed (message.LockAnswer ticket held) never = absurd never
  said_framed (message.Answer x call given) never = absurd never

  step_framed : (step : Step) → SendsSaid m step → SendsFramable step
  step_framed step said = by step.sent said
    where
      by : (sent : Option Outgoing) → SendsSaid m (record { act = step.act; sent = sent }) → SendsFramable (record { act = step.act; sent = sent })
      by None said = tt
      by (Some out) said = said_framed out.message said

-- what an answer sends can be framed, and the settings stay
module _ (old new : Talk) (given : Input) where
  pub framed_by : (result : Result Step NoMemory) → IsWithin old.settings → Answers old new given result → IfOk result SendsFramable
  framed_by (Ok step) w a = step_framed old.settings w step a.sent
  framed_by (Err refused) w a = tt

  pub stays : (result : Result Step NoMemory) → Answers old new given result → new.settings ≡ old.settings
  stays (Ok step) a = a.same
  stays (Err refused) same = ap (λ (t : Talk). t.settings) same
