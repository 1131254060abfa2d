-- The coordinator's records in all legal histories.
use Rattle.std.proofs.Common.{◌≡◌, inl, inr, List, [], ◌∷◌, Option, Some, None, refl, sym, subst}
use Rattle.seata_types.specs.declared.ids.Place.{Place}
use Rattle.seata_types.specs.declared.ids.Place.TheVariants as place
use Rattle.seata_types.specs.declared.acts.Act.{Act}
use Rattle.seata_types.specs.declared.acts.Act.TheVariants as act
use Rattle.seata_types.specs.declared.messages.Step.{Step}
use Rattle.durable_records.specs.declared.coordinators.SessionRecord.{SessionRecord}
use Rattle.durable_records.specs.SessionOrder.{May, Allowed}
use Rattle.history_rules.specs.Own.{Event, Own, Left, added}
use Rattle.history_rules.specs.CoordinatorMemory.{session_record, sessions_left}
use Rattle.history_rules.specs.CoordinatorRules.{coordinator_answer}
use Rattle.history_rules.specs.Nodes.{World, Past, Coordinator, Happens, MayStand, role_at}
use Rattle.history_rules.specs.Histories.{Moment, own, own_if, same_place, HappensAt, IsDone, Legal, coordinator_left}
use Rattle.history_rules.specs.Chains.{IsChain}
use Rattle.history_law.specs.SessionSafety.{SessionsAreSafe, SessionsLaw, SessionsOfChains, Asks, QuestionsLaw}
use Rattle.history_law.proofs.Transactions.{decided_once, in_order, by_table}
use Rattle.history_law.proofs.Holders.{one_holder, holders_change}
use Rattle.history_law.proofs.CoordinatorAnswers.{OnRecord, OnAct, MayAct, coordinator_may}
use Rattle.history_law.specs.Cover.{all_of}
use Rattle.history_law.proofs.CoordinatorSteps.{coordinator_moves}

-- records each of which may come after those before it are safe
pub sessions_safe : (rs : List SessionRecord) → Allowed rs → SessionsAreSafe rs
sessions_safe rs a = record {
  decided_once = decided_once rs a;
  in_order = in_order rs a;
  by_table = by_table rs a;
  one_holder = one_holder rs a;
  holders_change = holders_change rs a;
}

-- the records that stand, and those with the one in flight
pub record BothAllowed (left : Left SessionRecord) : Type 0 where
  pub stand : Allowed left.records
  pub fly : Allowed (all_of left)

module _ (w : World) (past : Past) (ms : List Moment) (m : Moment) where
  abbrev before : List Own
  before = own place.Tc ms

  abbrev after : Event → List Own
  after event = record { event = event; now = m.now; step = m.step } ∷ own place.Tc ms

  at_coordinator : (event : Event) → Happens (Coordinator w.times past.sessions) before m.now event m.step → BothAllowed (sessions_left past.sessions before) → BothAllowed (sessions_left past.sessions (after event))
  at_coordinator event h both =
      let rs = (sessions_left past.sessions before).records in
      let moves = coordinator_moves event m.now (May rs) (λ _ sent. Unit {0}) (λ _. tt) w.times past.sessions before m.step
      (λ given is. (
        subst (λ e. MayAct rs m.now e (coordinator_answer w.times past.sessions before rs m.now given).act) (sym is)
            (coordinator_may w.times past.sessions before rs m.now given).0,
        tt,
      )) h in
      let kept = moves.0 Allowed (λ r may a. (a, may)) (both.stand, both.fly) in
      record { stand = kept.0; fly = kept.1 }

  at_place : (p : Place) (event : Option Event) → p ≡ m.place → IsDone w past ms m event → BothAllowed (sessions_left past.sessions before)
      → BothAllowed (sessions_left past.sessions (own_if (same_place place.Tc p) event m before))
  at_place place.Tc (Some event) e done both = at_coordinator event (subst (λ p. HappensAt (role_at w past p) (own p ms) m.now event m.step) (sym e) done) both
  at_place place.Tc None e done both = both
  at_place place.Net event e done both = both
  at_place (place.Res n) event e done both = both
  at_place (place.Man n) event e done both = both

pub both_allowed : (w : World) (past : Past) (ms : List Moment) → Allowed past.sessions → Legal w past ms → BothAllowed (coordinator_left past ms)
both_allowed w past [] a legal = record { stand = a; fly = a }
both_allowed w past (m ∷ ms) a legal = at_place w past ms m m.place m.event refl legal.1.done (both_allowed w past ms a legal.0)

pub sessions_law : SessionsLaw
sessions_law w past [] a legal = sessions_safe past.sessions a
sessions_law w past (m ∷ ms) a legal =
    (sessions_law w past ms a legal.0, sessions_safe (coordinator_left past (m ∷ ms)).records (both_allowed w past (m ∷ ms) a legal).stand)

-- ---- questions

module _ (w : World) (past : Past) (ms : List Moment) (m : Moment) where
  asks_here : (event : Option Event) → m.place ≡ place.Tc → IsDone w past ms m event → Asks (coordinator_left past ms).records m.step.sent
  asks_here (Some event) at done =
      let os = own place.Tc ms in
      let rs = (sessions_left past.sessions os).records in
      (coordinator_moves event m.now (λ r. Unit {0}) (λ _ sent. Asks rs sent) (λ _. tt) w.times past.sessions os m.step
      (λ given is. (any_act event (coordinator_answer w.times past.sessions os rs m.now given).act (subst (λ e. MayAct rs m.now e (coordinator_answer w.times past.sessions os rs m.now given).act) (sym is) (coordinator_may w.times past.sessions os rs m.now given).0), (coordinator_may w.times past.sessions os rs m.now given).1))
      (subst (λ p. HappensAt (role_at w past p) (own p ms) m.now event m.step) at done)).1
    where
      any_record : (r : Option SessionRecord) → OnRecord (λ r. Unit {0}) r
      any_record None = tt
      any_record (Some r) = tt

      any_act : (e : Event) (done : Act) → MayAct (coordinator_left past ms).records m.now e done → OnAct (λ r. Unit {0}) m.now e done
      any_act e (act.Durable d) may = any_record (session_record m.now e d)
      any_act e (act.Down kept at) may = absurd may
      any_act e (act.Restarted kept) may = absurd may
      any_act e _ may = tt
  asks_here None at done = subst (λ (step : Step). Asks (coordinator_left past ms).records step.sent) (sym done.1) tt

pub questions_law : QuestionsLaw
questions_law w past [] legal = tt
questions_law w past (m ∷ ms) legal = (questions_law w past ms legal.0, λ at. asks_here w past ms m m.event at legal.1.done)

-- ---- chains

may_stand_allowed : (left : Left SessionRecord) (rs : List SessionRecord) → BothAllowed left → MayStand left rs → Allowed rs
may_stand_allowed left rs both (inl is) = subst Allowed (sym is) both.stand
may_stand_allowed left rs both (inr (r, flies, is)) = subst Allowed (sym is) (subst (λ o. Allowed (added o left.records)) flies both.fly)

-- what the disks had before the last history of a chain
pub chain_allowed : (w : World) (past : Past) (ms : List Moment) (rest : List (Past × List Moment)) → IsChain w ((past, ms) ∷ rest) → Allowed past.sessions × Legal w past ms
chain_allowed w past ms [] chain = (subst Allowed (sym chain.0.sessions) tt, chain.1)
chain_allowed w past ms ((before, entries) ∷ rest) chain =
    let earlier = chain_allowed w before entries rest chain.0 in
    (may_stand_allowed (coordinator_left before entries) past.sessions (both_allowed w before entries earlier.0 earlier.1) chain.1.coordinator, chain.2)

shorter_chain : (w : World) (past : Past) (ms : List Moment) (rest : List (Past × List Moment)) → IsChain w ((past, ms) ∷ rest) → IsChain w rest
shorter_chain w past ms [] chain = tt
shorter_chain w past ms (_ ∷ rest) chain = chain.0

pub sessions_of_chains : SessionsOfChains
sessions_of_chains w [] chain = tt
sessions_of_chains w ((past, ms) ∷ rest) chain =
    let last = chain_allowed w past ms rest chain in
    (sessions_of_chains w rest (shorter_chain w past ms rest chain), sessions_law w past ms last.0 last.1)
