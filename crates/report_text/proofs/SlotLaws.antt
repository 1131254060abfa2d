-- What the calls of a legal history say, over disks with any records: each is a slot of the settings of its manager.
use Rattle.std.proofs.Common.{◌≡◌, ◌⊎◌, ◌∙◌, inl, inr, ℕ, List, [], ◌∷◌, Option, Some, None, refl, sym, subst}
use Rattle.seata_types.specs.declared.ids.Place.{Place}
use Rattle.seata_types.specs.declared.ids.Place.TheVariants as place
use Rattle.seata_types.specs.declared.messages.Message.{Message}
use Rattle.seata_types.specs.declared.messages.Message.TheVariants as message
use Rattle.seata_types.specs.declared.messages.Outgoing.{Outgoing}
use Rattle.seata_types.specs.declared.messages.Step.{Step}
use Rattle.seata_types.specs.declared.statements.Work.{Work}
use Rattle.durable_records.specs.declared.coordinators.SessionRecord.{SessionRecord}
use Rattle.history_law.specs.Network.{OnSent, EachSent}
use Rattle.history_law.specs.TicketSafety.{AreNumbered}
use Rattle.history_law.proofs.CoordinatorCauses.{Tells, TellsOf}
use Rattle.history_law.proofs.ManagerOwn.{SlotIs, ManagerIs, SentIs, LastIs, manager_is}
use Rattle.history_law.proofs.ResourceFits.{MessageFits, SentFits, Fits}
use Rattle.history_law.proofs.Steps.{HaveTickets, KeepsOver, over_any}
use Rattle.history_law.proofs.Tests.{none_some}
use Rattle.history_rules.specs.Histories.{Moment, Legal, own}
use Rattle.history_rules.specs.ManagerRules.{Settings, last_sent, sent_after}
use Rattle.history_rules.specs.Nodes.{World, Past, Manager, Ran, counted_at}
use Rattle.history_rules.specs.Own.{Event, Left, Own}
use Rattle.history_rules.specs.ResourceMemory.{Setup, Memory}

-- a manager called by a slot of its settings
pub record CallSaid (w : World) (from : Place) (r c : ℕ) (wk : Work) : Type 0 where
  pub manager : ℕ
  pub at : from ≡ place.Man manager
  pub settings : Settings
  pub known : counted_at w.managers manager ≡ Some settings
  pub slot : SlotIs settings r c wk

abbrev pub SaysSlot : World → Place → Message → Type 0
SaysSlot w from (message.Call xid man r c wk) = CallSaid w from r c wk
SaysSlot w from _ = Unit {0}

abbrev pub SaysSlots : World → Place → Outgoing → Type 0
SaysSlots w from out = SaysSlot w from out.message

-- ---- the coordinator and resources call nobody

module _ (w : World) where
  tc_says : (rs : List SessionRecord) (event : Event) (to : Place) (msg : Message) → Tells rs event to msg → SaysSlot w place.Tc msg
  tc_says rs event to (message.Call xid man r c wk) t = absurd t
  tc_says rs event to _ t = tt

  tc_sends : (rs : List SessionRecord) (event : Event) (sent : Option Outgoing) → TellsOf rs event sent → OnSent (SaysSlots w) place.Tc sent
  tc_sends rs event None t = tt
  tc_sends rs event (Some out) t = tc_says rs event out.to out.message t

  res_says : (s : Setup) (before : Memory) (event : Event) (step : Step) (from : Place) (msg : Message) → MessageFits s before event step.act msg → SaysSlot w from msg
  res_says s before event step from (message.Call xid man r c wk) f = absurd f
  res_says s before event step from _ f = tt

  res_sends : (s : Setup) (before : Memory) (event : Event) (step : Step) (from : Place) (sent : Option Outgoing) → step.sent ≡ sent → Fits s before event step ⊎ (step.sent ≡ None) → OnSent (SaysSlots w) from sent
  res_sends s before event step from None e f = tt
  res_sends s before event step from (Some out) e (inr none) = none_some (sym none ∙ e)
  res_sends s before event step from (Some out) e (inl f) = res_says s before event step from out.message (subst (λ z. SentFits s before event step.act z) e f.1)

-- ---- a manager

abbrev Any : ℕ → Type 0
Any n = Unit {0}

module _ (settings : Settings) where
  last_after : (sent : Option Outgoing) → SentIs settings Any Any sent → (before : Option Message) → LastIs settings Any Any before → LastIs settings Any Any (sent_after sent before)
  last_after None is before last = last
  last_after (Some out) is before last = is.0

  last_is : (os : List Own) → Ran (Manager settings) os → LastIs settings Any Any (last_sent os)
  last_is [] ran = tt
  last_is (o ∷ os) ran =
      let last = last_is os ran.0 in
      last_after o.step.sent (manager_is settings Any Any tt os last o.event o.now o.step (λ from xid e. tt) ran.1) (last_sent os) last

  module _ (w : World) (k : ℕ) (known : counted_at w.managers k ≡ Some settings) where
    man_says : (msg : Message) → ManagerIs settings Any Any msg → SaysSlot w (place.Man k) msg
    man_says (message.Call xid man r c wk) is = record { manager = k; at = refl; settings = settings; known = known; slot = is.2 }
    man_says _ is = tt

    man_sends : (sent : Option Outgoing) → SentIs settings Any Any sent → OnSent (SaysSlots w) (place.Man k) sent
    man_sends None is = tt
    man_sends (Some out) is = man_says out.message is.0

-- ---- the induction

abbrev Slots : World → Left SessionRecord → (ℕ → Setup → Memory) → List Moment → Type 0
Slots w tc mem ms = EachSent (SaysSlots w) ms

slots_keep : (w : World) (past : Past) → KeepsOver w past (HaveTickets w past) (Slots w)
slots_keep w past = record {
  at_tc = λ ms m c i t. (i, subst (λ p. OnSent (SaysSlots w) p m.step.sent) (sym t.at) (tc_sends w t.after.records t.event m.step.sent t.tells));
  at_res = λ ms m c i r. (i, res_sends w r.s _ r.event m.step m.place m.step.sent refl r.moves.fits);
  at_man = λ ms m c i t.
      let owns = own (place.Man t.k) ms in
      let is = manager_is t.settings Any Any tt owns (last_is t.settings owns t.ran) t.event m.now m.step (λ from xid e. tt) t.happens in
      (i, subst (λ p. OnSent (SaysSlots w) p m.step.sent) (sym t.at) (man_sends t.settings w t.k t.known m.step.sent is));
  quiet = λ ms m i is. (i, subst (λ (step : Step). OnSent (SaysSlots w) m.place step.sent) (sym is) tt);
}

pub slots : (w : World) (past : Past) → AreNumbered w → (ms : List Moment) → Legal w past ms → EachSent (SaysSlots w) ms
slots w past numbered ms legal = over_any w past numbered (Slots w) (slots_keep w past) tt ms legal
