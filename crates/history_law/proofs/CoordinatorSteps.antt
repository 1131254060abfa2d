-- What an entry of the coordinator leaves, by what its rule answers.
use Rattle.std.proofs.Common.{◌≡◌, ℕ, Bool, true, false, List, ◌∷◌, Option, Some, None, refl, sym, subst}
use Rattle.std.specs.Option.{option_and_then}
use Rattle.seata_types.specs.declared.acts.Act.{Act}
use Rattle.seata_types.specs.declared.acts.Act.TheVariants as act
use Rattle.seata_types.specs.declared.acts.Durable.{Durable}
use Rattle.seata_types.specs.declared.messages.Input.{Input}
use Rattle.seata_types.specs.declared.messages.Outgoing.{Outgoing}
use Rattle.seata_types.specs.declared.messages.Step.{Step}
use Rattle.durable_records.specs.declared.coordinators.SessionRecord.{SessionRecord}
use Rattle.history_rules.specs.Own.{Event, Given, Stopped, Crashed, Restarted, Own, Left, asked_act, added, kept_records, leaves}
use Rattle.history_rules.specs.Devices.{is_down, fails, kept_act, written}
use Rattle.history_rules.specs.CoordinatorMemory.{Times, session_record, sessions_left}
use Rattle.history_rules.specs.CoordinatorRules.{coordinator_answer}
use Rattle.history_rules.specs.Nodes.{Role, Coordinator, Happens, happens, up_answer, down_answer, left_at}
use Rattle.history_law.specs.Cover.{all_of}
use Rattle.history_law.proofs.CoordinatorAnswers.{OnRecord, OnAct}

-- what holds of the records, and of these with the one in flight, goes on, where each record that may be added keeps it
abbrev pub KeepsRecords : (SessionRecord → Type 0) → Left SessionRecord → Left SessionRecord → Type 1
KeepsRecords C l n = (Q : List SessionRecord → Type 0) → ((r : SessionRecord) → C r → Q l.records → Q (r ∷ l.records))
    → Q l.records × Q (all_of l) → Q n.records × Q (all_of n)

-- a record with C is added, and what is sent has S
module _ (l : Left SessionRecord) (event : Event) (now : ℕ) (C : SessionRecord → Type 0) (S : List SessionRecord → Option Outgoing → Type 0) where
  abbrev pub asked_for : Act → Option SessionRecord
  asked_for done = option_and_then (session_record now event) (asked_act done)

  abbrev pub left_by : Step → Left SessionRecord
  left_by step = leaves step.act (asked_for step.act) l

  abbrev pub Moves : Step → Type 1
  Moves step = KeepsRecords C l (left_by step) × S (left_by step).records step.sent

  add : (Q : List SessionRecord → Type 0) → ((r : SessionRecord) → C r → Q l.records → Q (r ∷ l.records)) → (r : Option SessionRecord) → OnRecord C r → Q l.records → Q (added r l.records)
  add Q keeps None c q = q
  add Q keeps (Some r) c q = keeps r c q

  module _ (silent : (rs : List SessionRecord) → S rs None) where
    answered : (done : Act) (sent : Option Outgoing) → OnAct C now event done → S (added (asked_for done) l.records) sent → (failed : Bool)
        → Moves (written failed (record { act = done; sent = sent }) done)
    answered (act.Durable d) sent c s true = (λ Q keeps q. (q.0, add Q keeps (session_record now event d) c q.0), silent l.records)
    answered (act.Durable d) sent c s false = (λ Q keeps q. let k = add Q keeps (session_record now event d) c q.0 in (k, k), s)
    answered (act.Down kept at) sent c s failed = absurd c
    answered (act.Restarted kept) sent c s failed = absurd c
    answered _ sent c s failed = (λ Q keeps q. q, s)

    kept_too : (Q : List SessionRecord → Type 0) (kept : Option Durable) → Q l.records × Q (all_of l) → Q (kept_records (act.Restarted kept) l)
    kept_too Q None q = q.0
    kept_too Q (Some d) q = q.1

    module _ (times : Times) (past : List SessionRecord) (os : List Own) (fault keeps_flight : Bool) (is_left : sessions_left past os ≡ l)
        (answer_has : (given : Input) → event ≡ Given given → let step = coordinator_answer times past os l.records now given in
        OnAct C now event step.act × S (added (asked_for step.act) l.records) step.sent) where
      abbrev role : Role
      role = Coordinator times past

      when_up : (given : Event) → given ≡ event → Moves (up_answer role os now fault keeps_flight given)
      when_up (Given given) is =
          let step = coordinator_answer times past os l.records now given in
          let has = answer_has given (sym is) in
          subst (λ (left : Left SessionRecord). Moves (written (fails fault (left_at role os)) (coordinator_answer times past os left.records now given) (coordinator_answer times past os left.records now given).act))
          (sym is_left) (answered step.act step.sent has.0 has.1 (fails fault (left_at role os)))
      when_up (Stopped calls) is = (λ Q keeps q. q, silent l.records)
      when_up Crashed is = (λ Q keeps q. (q.0, q.0), silent l.records)
      when_up (Restarted pick calls) is = (λ Q keeps q. q, silent l.records)

      when_down : (given : Event) → Moves (down_answer role os now fault keeps_flight given)
      when_down (Given given) = (λ Q keeps q. q, silent l.records)
      when_down (Stopped calls) = (λ Q keeps q. q, silent l.records)
      when_down Crashed = (λ Q keeps q. q, silent l.records)
      when_down (Restarted pick calls) =
          let kept = kept_act keeps_flight os (left_at role os) in
          (λ Q keeps q. let k = kept_too Q kept q in (k, k), silent (kept_records (act.Restarted kept) l))

      moves_by : (down : Bool) → is_down os ≡ down → Moves (happens role os now fault keeps_flight event)
      moves_by true e = rw e (when_down event)
      moves_by false e = rw e (when_up event refl)

-- of what happens at the coordinator
pub coordinator_moves : (event : Event) (now : ℕ) (C : SessionRecord → Type 0) (S : List SessionRecord → Option Outgoing → Type 0) (silent : (rs : List SessionRecord) → S rs None)
    (times : Times) (past : List SessionRecord) (os : List Own) (step : Step)
    → ((given : Input) → event ≡ Given given → let step = coordinator_answer times past os (sessions_left past os).records now given in
    OnAct C now event step.act × S (added (asked_for (sessions_left past os) event now C S step.act) (sessions_left past os).records) step.sent)
    → Happens (Coordinator times past) os now event step → Moves (sessions_left past os) event now C S step
coordinator_moves event now C S silent times past os step has h =
    subst (λ (st : Step). Moves (sessions_left past os) event now C S st) (sym h.done)
    (moves_by (sessions_left past os) event now C S silent times past os h.fault h.keeps refl has (is_down os) refl)
