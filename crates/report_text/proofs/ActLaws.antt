-- The statements of an entry, found by what is printed of it, are those that the rules take.
use Rattle.std.proofs.Common.{◌≡◌, ◌+◌, ℕ, zero, suc, Bool, true, false, if◌then◌else◌, List, slice_get, Option, Some, None, option_map, refl, sym, ap, ◌∙◌, subst, arith}
use Rattle.std.specs.Option.{option_and_then}
use Rattle.seata_types.specs.declared.ids.BranchId.{BranchId}
use Rattle.seata_types.specs.declared.ids.Place.{Place}
use Rattle.seata_types.specs.declared.ids.Place.TheVariants as place
use Rattle.seata_types.specs.declared.ids.Ticket.{Ticket}
use Rattle.seata_types.specs.declared.ids.Xid.{Xid}
use Rattle.seata_types.specs.declared.messages.Input.TheVariants as input
use Rattle.seata_types.specs.declared.messages.Message.{Message}
use Rattle.seata_types.specs.declared.messages.Message.TheVariants as message
use Rattle.seata_types.specs.declared.messages.Outgoing.{Outgoing}
use Rattle.seata_types.specs.declared.statements.Action.{Action}
use Rattle.seata_types.specs.declared.statements.Stmt.{Stmt}
use Rattle.seata_types.specs.declared.statements.Work.{Work}
use Rattle.seata_types.specs.declared.statements.Work.TheVariants as work
use Rattle.seata_types.specs.declared.statuses.BranchKind.{BranchKind}
use Rattle.local_tables.specs.Rows.{Database}
use Rattle.local_tables.specs.declared.schemas.Effect.{Effect}
use Rattle.durable_records.specs.declared.coordinators.SessionRecord.{SessionRecord}
use Rattle.scenario_form.specs.declared.scenarios.ManagerDef.{ManagerDef}
use Rattle.scenario_form.specs.declared.scenarios.Scenario.{Scenario}
use Rattle.history_law.specs.Network.{EachSent}
use Rattle.history_law.proofs.ManagerOwn.{SlotIs}
use Rattle.history_law.proofs.Tests.{none_some}
use Rattle.history_rules.specs.Histories.{Moment, Cause, Turn, Deliver, Missing, Wait, Stop, Crash, Restart, Local, Outside, same_place, sent_from, delivered, brings}
use Rattle.history_rules.specs.ManagerRules.{Settings}
use Rattle.history_rules.specs.Nodes.{counted_at}
use Rattle.history_rules.specs.Own.{Given}
use Rattle.history_rules.specs.ResourceMemory.{Setup, OfCall, OfLocal, action_of, local_of, effect_on, or_empty, confirms_of, cancels_of, phase_two, opening_of, no_effect}
use Rattle.history_text.specs.declared.entries.Cause.TheVariants as cause
use Rattle.history_text.specs.Worlds.{settings_of, world_of}
use Rattle.history_text.proofs.Worlds.{slice_get-managers}
use Rattle.report_text.specs.Keeping.{CoordinatorKept, number_at, work_now}
use Rattle.report_text.specs.Following.{FindCalls, FindManagers}
use Rattle.report_text.specs.Made.{sending_manager}
use Rattle.report_text.specs.declared.kept.OpenWork.{OpenWork}
use Rattle.report_text.specs.Numbered.{call_at, call_in, statements_at, tries_at, statements_in, tries_in, action_at, confirms_at, cancels_at, confirms_in, cancels_in, local_at}
use Rattle.report_text.proofs.EffectsOfNone.{no_statements}
use Rattle.report_text.proofs.HeardLaws.{IsBranch, TellsBranch, TellBranches, manager_found, call_found}
use Rattle.report_text.proofs.MadeLaws.{sent_is}
use Rattle.report_text.proofs.NumberedLaws.{IsSetupOf, action_of-setup, local_of-setup}
use Rattle.report_text.proofs.ResourceLaws.{OpensFor}

-- ---- the message of an entry

-- who sent it, with what every message of the history has
pub record IsMessage (P : Place → Outgoing → Type 0) (why : Cause) (from : Place) (msg : Message) : Type 0 where
  pub stamp : ℕ
  pub cause : why ≡ Deliver stamp from
  pub out : Outgoing
  pub is : out.message ≡ msg
  pub says : P from out

module _ (P : Place → Outgoing → Type 0) (ms : List Moment) (each : EachSent P ms) (to from : Place) (msg : Message) where
  sent_by : (stamp : ℕ) (f : Place) (o : Option (Place × Outgoing)) → sent_from stamp f ms ≡ o → Some (Given (input.Message from msg)) ≡ delivered to o → IsMessage P (Deliver stamp f) from msg
  sent_by stamp f None at e = none_some (sym e)
  sent_by stamp f (Some (q, out)) at e = by (same_place out.to to) e
    where
      by : (b : Bool) → Some (Given (input.Message from msg)) ≡ (if b then Some (Given (input.Message q out.message)) else None) → IsMessage P (Deliver stamp f) from msg
      by false g = none_some (sym g)
      by true g =
          let there = sent_is P ms stamp f q out each at in
          let sender : from ≡ q = cc in
          let same : msg ≡ out.message = cc in
          record {
            stamp = stamp;
            cause = ap (Deliver stamp) (sym there.place ∙ sym sender);
            out = out;
            is = sym same;
            says = subst (λ (p : Place). P p out) (sym sender) there.says;
          }

  pub message_is : (why : Cause) → Some (Given (input.Message from msg)) ≡ brings ms to why → IsMessage P why from msg
  message_is (Deliver stamp f) e = sent_by stamp f (sent_from stamp f ms) refl e
  message_is Turn e = absurd cc
  message_is (Missing stamp) e = none_some (sym e)
  message_is (Wait ticks) e = none_some (sym e)
  message_is (Stop calls) e = absurd cc
  message_is Crash e = absurd cc
  message_is (Restart pick calls) e = absurd cc
  message_is (Local k) e = absurd cc
  message_is (Outside k) e = absurd cc

-- ---- the second phase

confirms_same : (o : Option Action) → or_empty (option_map confirms_in o) ≡ confirms_of o
confirms_same None = refl
confirms_same (Some a) = refl

cancels_same : (o : Option Action) → or_empty (option_map cancels_in o) ≡ cancels_of o
cancels_same None = refl
cancels_same (Some a) = refl

module _ (s : Scenario) (k : ℕ) (u : Setup) (is : IsSetupOf s k u) (past rs : List SessionRecord) (kept : CoordinatorKept) (managers : FindManagers past rs kept.managers) (calls : FindCalls past rs kept.calls) where
  abbrev manager : ℕ → ℕ
  manager x = number_at kept.managers x

  abbrev call : ℕ → ℕ
  call b = number_at kept.calls b

  -- by the transaction and the branch the same action is found as by what the message names
  action_found : (x b m c : ℕ) → IsBranch past rs x b m c → action_at s (k + 1) (manager x) (call b) ≡ action_of u m c
  action_found x b m c branch =
      ap (λ n. action_at s (k + 1) n (call b)) (manager_found past rs kept.managers x b m c managers branch) ∙ ap (λ n. action_at s (k + 1) m n) (call_found past rs kept.calls x b m c calls branch)
      ∙ sym (action_of-setup s k u m c is)

  module _ (ms : List Moment) (each : EachSent (TellBranches past rs) ms) (why : Cause) (from to : Place) (xid : Xid) (b : BranchId) (kind : BranchKind) (m c : ℕ) where
    pub confirms_found : Some (Given (input.Message from (message.BranchCommit xid b kind m c))) ≡ brings ms to why
        → or_empty (confirms_at s (k + 1) (manager xid.0) (call b.0)) ≡ phase_two u (Given (input.Message from (message.BranchCommit xid b kind m c)))
    confirms_found brought =
        let sent = message_is (TellBranches past rs) ms each to from (message.BranchCommit xid b kind m c) why brought in
        let branch : IsBranch past rs xid.0 b.0 m c = subst (λ (q : Message). TellsBranch past rs q) sent.is sent.says in
        ap (λ o. or_empty (option_map confirms_in o)) (action_found xid.0 b.0 m c branch) ∙ confirms_same (action_of u m c)

    pub cancels_found : Some (Given (input.Message from (message.BranchRollback xid b kind m c))) ≡ brings ms to why
        → or_empty (cancels_at s (k + 1) (manager xid.0) (call b.0)) ≡ phase_two u (Given (input.Message from (message.BranchRollback xid b kind m c)))
    cancels_found brought =
        let sent = message_is (TellBranches past rs) ms each to from (message.BranchRollback xid b kind m c) why brought in
        let branch : IsBranch past rs xid.0 b.0 m c = subst (λ (q : Message). TellsBranch past rs q) sent.is sent.says in
        ap (λ o. or_empty (option_map cancels_in o)) (action_found xid.0 b.0 m c branch) ∙ cancels_same (action_of u m c)

  -- an outside write
  pub outside_found : (n : ℕ) → or_empty (local_at s (k + 1) n) ≡ or_empty (local_of u n)
  outside_found n = ap or_empty (sym (local_of-setup s k u n is))

-- ---- the first phase

-- the slot of a manager's settings is that of its definition
pub slot_found : (s : Scenario) (m r c : ℕ) (wk : Work) (settings : Settings) → counted_at (world_of s).managers m ≡ Some settings → SlotIs settings r c wk → call_at s m c ≡ Some (r, wk)
slot_found s zero r c wk settings known slot = none_some known
slot_found s (suc j) r c wk settings known slot = by (slice_get s.managers j) refl (sym (slice_get-managers s.lock_tries 1 s.managers j) ∙ known)
  where
    by : (o : Option ManagerDef) → slice_get s.managers j ≡ o → option_map (settings_of s.lock_tries (1 + j)) o ≡ Some settings → call_at s (suc j) c ≡ Some (r, wk)
    by None at e = none_some e
    by (Some def) at e =
        let same : settings_of s.lock_tries (1 + j) def ≡ settings = cc in
        ap (option_and_then (call_in c)) at ∙ ap (λ n. counted_at def.calls n) (let next : c ≡ suc slot.0 = slot.1 ∙ omega arith in next) ∙ ap (λ (v : Settings). slice_get v.calls slot.0) same ∙ slot.2

abbrev work_by : ℕ → List Stmt → Effect → OpenWork
work_by c tries e = record { call = c; tries = tries; images = e.images; reads = e.reads }

module _ (s : Scenario) (u : Setup) (db : Database) (t : Ticket) (xid : Xid) (man r c m : ℕ) (from : Place) (at : from ≡ place.Man m) (stamp : ℕ) where
  -- a call's ticket is opened as the rules open it, where its slot is the scenario's
  pub call_opened : (wk : Work) → call_at s m c ≡ Some (r, wk)
      → OpensFor u db (Given (input.Message from (message.Call xid man r c wk))) (statements_at s (sending_manager (cause.Deliver stamp from)) c)
      (tries_at s (sending_manager (cause.Deliver stamp from)) c) t c
  call_opened (work.At stmts) there = record {
    opens = opening_of t (OfCall man xid.0 c (work.At stmts)) (effect_on db stmts);
    by_event = refl;
    ticket = refl;
    kept =
        sym
        (ap (λ (p : Place). work_now db c (statements_at s (sending_manager (cause.Deliver stamp p)) c) (tries_at s (sending_manager (cause.Deliver stamp p)) c)) at
        ∙ ap (λ o. work_now db c (option_and_then statements_in o) (option_and_then tries_in o)) there);
  }
  call_opened (work.Tcc action) there = record {
    opens = opening_of t (OfCall man xid.0 c (work.Tcc action)) no_effect;
    by_event = refl;
    ticket = refl;
    kept =
        sym
        (ap (λ (p : Place). work_now db c (statements_at s (sending_manager (cause.Deliver stamp p)) c) (tries_at s (sending_manager (cause.Deliver stamp p)) c)) at
        ∙ ap (λ o. work_now db c (option_and_then statements_in o) (option_and_then tries_in o)) there ∙ ap (work_by c action.tries) (no_statements db));
  }

-- a local transaction's ticket
pub local_opened : (s : Scenario) (k : ℕ) (u : Setup) → IsSetupOf s k u → (db : Database) (t : Ticket) (n : ℕ)
    → OpensFor u db (Given (input.Local n)) (local_at s (k + 1) n) None t 0
local_opened s k u is db t n = record {
  opens = opening_of t (OfLocal n) (effect_on db (or_empty (local_of u n)));
  by_event = refl;
  ticket = refl;
  kept = ap (λ o. work_now db 0 o None) (local_of-setup s k u n is);
}
