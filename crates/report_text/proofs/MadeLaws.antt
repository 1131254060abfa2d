-- The records that are made of what is printed are those of the rules.
use Rattle.std.proofs.Common.{◌≡◌, ◌==◌, ◌&&◌, ℕ, Bool, true, false, if◌then◌else◌, List, [], ◌∷◌, Option, Some, None, option_map, refl, sym, ap, ◌∙◌, subst}
use Rattle.seata_types.specs.declared.acts.Durable.{Durable}
use Rattle.seata_types.specs.declared.acts.Durable.TheVariants as durable
use Rattle.seata_types.specs.declared.ids.BranchId.{BranchId}
use Rattle.seata_types.specs.declared.ids.Place.{Place}
use Rattle.seata_types.specs.declared.ids.Place.TheVariants as place
use Rattle.seata_types.specs.declared.ids.Xid.{Xid}
use Rattle.seata_types.specs.declared.messages.Input.TheVariants as input
use Rattle.seata_types.specs.declared.messages.Message.{Message}
use Rattle.seata_types.specs.declared.messages.Message.TheVariants as message
use Rattle.seata_types.specs.declared.messages.Outgoing.{Outgoing}
use Rattle.history_rules.specs.Own.{Event, Given, Stopped, Crashed, Restarted}
use Rattle.history_rules.specs.CoordinatorMemory.{begun_by, granted_by, session_record}
use Rattle.history_rules.specs.Histories.{Moment, Cause, Turn, Deliver, Missing, Wait, Stop, Crash, Restart, Local, Outside, same_place, sent_if, sent_from, delivered, brings}
use Rattle.history_law.specs.Network.{OnSent, EachSent}
use Rattle.history_law.proofs.Deliveries.{one_place}
use Rattle.history_law.proofs.Tests.{none_some, and_right}
use Rattle.history_text.specs.declared.entries.Cause.TheVariants as cause
use Rattle.history_text.specs.declared.entries.Entry.{Entry}
use Rattle.history_text.specs.History.{entries, entry_of, cause_of}
use Rattle.history_text.specs.Notes.{note_of_message}
use Rattle.report_text.specs.Made.{begun_from, granted_from, session_made, sending_resource}
use Rattle.report_text.specs.SentIndex.{Index, IsIndexOf, delivered_note, note_in, found, printed_sent}

-- ---- by the message

-- a Register tells the resource that sends it
abbrev pub TellsResource : Place → Message → Type 0
TellsResource from (message.Register xid r c t k hold check) = from ≡ place.Res r
TellsResource from _ = Unit {0}

abbrev pub TellResources : Place → Outgoing → Type 0
TellResources from out = TellsResource from out.message

begun_is : (xid : Xid) (now : ℕ) (from : Place) (msg : Message) → begun_from xid now (Some (note_of_message msg)) ≡ begun_by xid now (Given (input.Message from msg))
begun_is xid now from (message.Begin manager timeout) = refl
begun_is xid now from (message.Begun x) = refl
begun_is xid now from (message.BranchCommit x b k m c) = refl
begun_is xid now from (message.BranchCommitted x b st stmt) = refl
begun_is xid now from (message.BranchRollback x b k m c) = refl
begun_is xid now from (message.BranchRollbacked x b st stmt) = refl
begun_is xid now from (message.GlobalCommit x) = refl
begun_is xid now from (message.CommitStatus x st) = refl
begun_is xid now from (message.GlobalRollback x) = refl
begun_is xid now from (message.RollbackStatus x st) = refl
begun_is xid now from (message.Register x r c t k hold check) = refl
begun_is xid now from (message.RegisterAnswer t x answer) = refl
begun_is xid now from (message.GlobalStatus x) = refl
begun_is xid now from (message.StatusAnswer x st) = refl
begun_is xid now from (message.LockQuery r t check) = refl
begun_is xid now from (message.LockAnswer t held) = refl
begun_is xid now from (message.Call x m r c w) = refl
begun_is xid now from (message.Answer x c answer) = refl

granted_is : (xid : Xid) (branch : BranchId) (stamp : ℕ) (from : Place) (msg : Message) → TellsResource from msg
    → granted_from xid branch (Some (note_of_message msg)) (sending_resource (cause.Deliver stamp from)) ≡ granted_by xid branch (Given (input.Message from msg))
granted_is xid branch stamp from (message.Register x r c t k hold check) tells =
    subst (λ (p : Place). granted_from xid branch (Some (note_of_message (message.Register x r c t k hold check))) (sending_resource (cause.Deliver stamp p))
    ≡ granted_by xid branch (Given (input.Message p (message.Register x r c t k hold check)))) (sym tells) refl
granted_is xid branch stamp from (message.Begin manager timeout) tells = refl
granted_is xid branch stamp from (message.Begun x) tells = refl
granted_is xid branch stamp from (message.BranchCommit x b k m c) tells = refl
granted_is xid branch stamp from (message.BranchCommitted x b st stmt) tells = refl
granted_is xid branch stamp from (message.BranchRollback x b k m c) tells = refl
granted_is xid branch stamp from (message.BranchRollbacked x b st stmt) tells = refl
granted_is xid branch stamp from (message.GlobalCommit x) tells = refl
granted_is xid branch stamp from (message.CommitStatus x st) tells = refl
granted_is xid branch stamp from (message.GlobalRollback x) tells = refl
granted_is xid branch stamp from (message.RollbackStatus x st) tells = refl
granted_is xid branch stamp from (message.RegisterAnswer t x answer) tells = refl
granted_is xid branch stamp from (message.GlobalStatus x) tells = refl
granted_is xid branch stamp from (message.StatusAnswer x st) tells = refl
granted_is xid branch stamp from (message.LockQuery r t check) tells = refl
granted_is xid branch stamp from (message.LockAnswer t held) tells = refl
granted_is xid branch stamp from (message.Call x m r c w) tells = refl
granted_is xid branch stamp from (message.Answer x c answer) tells = refl

made_by_message : (e : Entry) (stamp : ℕ) (from : Place) (msg : Message) → e.cause ≡ cause.Deliver stamp from → TellsResource from msg → (d : Durable)
    → session_made e (Some (note_of_message msg)) d ≡ session_record e.now (Given (input.Message from msg)) d
made_by_message e stamp from msg is tells (durable.Begun xid) = begun_is xid e.now from msg
made_by_message e stamp from msg is tells (durable.Granted xid branch) =
    ap (λ c. granted_from xid branch (Some (note_of_message msg)) (sending_resource c)) is ∙ granted_is xid branch stamp from msg tells
made_by_message e stamp from msg is tells (durable.Late xid) = refl
made_by_message e stamp from msg is tells (durable.Decided xid decision) = refl
made_by_message e stamp from msg is tells (durable.Ended xid branch) = refl
made_by_message e stamp from msg is tells (durable.Retrying xid branch) = refl
made_by_message e stamp from msg is tells (durable.Failed xid branch stmt) = refl
made_by_message e stamp from msg is tells (durable.Finished xid final) = refl
made_by_message e stamp from msg is tells (durable.Forgot xid) = refl
made_by_message e stamp from msg is tells _ = refl

-- ---- without a message

-- no message comes with an event
abbrev IsQuiet : Event → Type 0
IsQuiet (Given (input.Message from msg)) = ⊥
IsQuiet _ = Unit {0}

quiet_begun : (xid : Xid) (now : ℕ) (event : Event) → IsQuiet event → None ≡ begun_by xid now event
quiet_begun xid now (Given input.Turn) q = refl
quiet_begun xid now (Given (input.Message from msg)) q = absurd q
quiet_begun xid now (Given (input.Local k)) q = refl
quiet_begun xid now (Given (input.Outside k)) q = refl
quiet_begun xid now (Stopped calls) q = refl
quiet_begun xid now Crashed q = refl
quiet_begun xid now (Restarted pick calls) q = refl

quiet_granted : (xid : Xid) (branch : BranchId) (event : Event) → IsQuiet event → None ≡ granted_by xid branch event
quiet_granted xid branch (Given input.Turn) q = refl
quiet_granted xid branch (Given (input.Message from msg)) q = absurd q
quiet_granted xid branch (Given (input.Local k)) q = refl
quiet_granted xid branch (Given (input.Outside k)) q = refl
quiet_granted xid branch (Stopped calls) q = refl
quiet_granted xid branch Crashed q = refl
quiet_granted xid branch (Restarted pick calls) q = refl

made_quietly : (e : Entry) (event : Event) → IsQuiet event → (d : Durable) → session_made e None d ≡ session_record e.now event d
made_quietly e event q (durable.Begun xid) = quiet_begun xid e.now event q
made_quietly e event q (durable.Granted xid branch) = quiet_granted xid branch event q
made_quietly e event q (durable.Late xid) = refl
made_quietly e event q (durable.Decided xid decision) = refl
made_quietly e event q (durable.Ended xid branch) = refl
made_quietly e event q (durable.Retrying xid branch) = refl
made_quietly e event q (durable.Failed xid branch stmt) = refl
made_quietly e event q (durable.Finished xid final) = refl
made_quietly e event q (durable.Forgot xid) = refl
made_quietly e event q _ = refl

-- ---- what was sent

-- of a message that is found: the place that sent it is the one that was asked for, and it has what every message has
pub record IsSentFrom (P : Place → Outgoing → Type 0) (from p : Place) (out : Outgoing) : Type 0 where
  pub place : p ≡ from
  pub says : P p out

pub sent_is : (P : Place → Outgoing → Type 0) (ms : List Moment) (stamp : ℕ) (from p : Place) (out : Outgoing) → EachSent P ms → sent_from stamp from ms ≡ Some (p, out) → IsSentFrom P from p out
sent_is P [] stamp from p out each e = none_some e
sent_is P (m ∷ ms) stamp from p out each e = by ((m.stamp == stamp) && same_place m.place from) refl m.step.sent refl each.1 (sent_is P ms stamp from p out each.0) e
  where
    by : (b : Bool) → ((m.stamp == stamp) && same_place m.place from) ≡ b → (sent : Option Outgoing) → m.step.sent ≡ sent → OnSent P m.place sent
        → (sent_from stamp from ms ≡ Some (p, out) → IsSentFrom P from p out) → sent_if b m sent (sent_from stamp from ms) ≡ Some (p, out) → IsSentFrom P from p out
    by true t (Some o) is says below f =
        let both : (m.place, o) ≡ (p, out) = cc in
        let at = ap (λ (z : Place × Outgoing). z.0) both in
        let same = ap (λ (z : Place × Outgoing). z.1) both in
        record {
          place = sym at ∙ one_place m.place from (and_right (m.stamp == stamp) (same_place m.place from) t);
          says = subst (λ (q : Place). P q out) at (subst (λ (q : Outgoing). P m.place q) same says);
        }
    by true t None is says below f = below f
    by false t (Some o) is says below f = below f
    by false t None is says below f = below f

-- ---- an entry of the coordinator

module _ (index : Index) (ms : List Moment) (is : IsIndexOf index ms) (each : EachSent TellResources ms) (m : Moment) (event : Event) where
  delivered_by : (stamp : ℕ) (from : Place) → m.cause ≡ Deliver stamp from → (o : Option (Place × Outgoing)) → sent_from stamp from ms ≡ o → Some event ≡ delivered m.place o → (d : Durable)
      → session_made (entry_of m) (option_map note_in (found index (entries ms) stamp from)) d ≡ session_record m.now event d
  delivered_by stamp from why None found_none e d = none_some (sym e)
  delivered_by stamp from why (Some (p, out)) at e d = by (same_place out.to m.place) e
    where
      there : IsSentFrom TellResources from p out
      there = sent_is TellResources ms stamp from p out each at

      noted : option_map note_in (found index (entries ms) stamp from) ≡ Some (note_of_message out.message)
      noted = ap (option_map note_in) (is.finds stamp from ∙ ap (option_map printed_sent) at)

      by : (b : Bool) → Some event ≡ (if b then Some (Given (input.Message p out.message)) else None)
          → session_made (entry_of m) (option_map note_in (found index (entries ms) stamp from)) d ≡ session_record m.now event d
      by false f = none_some (sym f)
      by true f =
          let same : event ≡ Given (input.Message p out.message) = cc in
          ap (λ h. session_made (entry_of m) h d) noted
          ∙ made_by_message (entry_of m) stamp p out.message (ap cause_of why ∙ ap (cause.Deliver stamp) (sym there.place)) there.says d
          ∙ ap (λ (v : Event). session_record m.now v d) (sym same)

  made_by : (why : Cause) → m.cause ≡ why → Some event ≡ brings ms m.place why → (d : Durable)
      → session_made (entry_of m) (delivered_note index (entries ms) (cause_of why)) d ≡ session_record m.now event d
  made_by (Deliver stamp from) at e d = delivered_by stamp from at (sent_from stamp from ms) refl e d
  made_by Turn at e d = made_quietly (entry_of m) event (subst IsQuiet (let same : Given input.Turn ≡ event = cc in same) tt) d
  made_by (Missing stamp) at e d = none_some (sym e)
  made_by (Wait ticks) at e d = none_some (sym e)
  made_by (Stop calls) at e d = made_quietly (entry_of m) event (subst IsQuiet (let same : Stopped calls ≡ event = cc in same) tt) d
  made_by Crash at e d = made_quietly (entry_of m) event (subst IsQuiet (let same : Crashed ≡ event = cc in same) tt) d
  made_by (Restart pick calls) at e d = made_quietly (entry_of m) event (subst IsQuiet (let same : Restarted pick calls ≡ event = cc in same) tt) d
  made_by (Local k) at e d = made_quietly (entry_of m) event (subst IsQuiet (let same : Given (input.Local k) ≡ event = cc in same) tt) d
  made_by (Outside k) at e d = made_quietly (entry_of m) event (subst IsQuiet (let same : Given (input.Outside k) ≡ event = cc in same) tt) d

  -- the record that is made of an entry is the one of its event
  pub made_is : Some event ≡ brings ms m.place m.cause → (d : Durable)
      → session_made (entry_of m) (delivered_note index (entries ms) (cause_of m.cause)) d ≡ session_record m.now event d
  made_is e d = made_by m.cause refl e d
