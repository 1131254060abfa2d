-- Calls that are done in all legal histories: a commit is asked for only after an entry told so of each call.
use Rattle.std.proofs.Common.{◌≡◌, ◌⊎◌, inl, inr, ◌+◌, ◌<◌, ◌≤◌, ℕ, zero, suc, Bool, true, false, List, [], ◌∷◌, length, Option, Some, None, refl, ap, sym, subst, ◌∙◌, arith}
use Rattle.std.proofs.lemmas.Bool.{cases_lt}
use Rattle.seata_types.specs.declared.ids.BranchId.{BranchId}
use Rattle.seata_types.specs.declared.ids.Place.{Place}
use Rattle.seata_types.specs.declared.ids.Place.TheVariants as place
use Rattle.seata_types.specs.declared.ids.Xid.{Xid}
use Rattle.seata_types.specs.declared.messages.CallAnswer.TheVariants as called
use Rattle.seata_types.specs.declared.messages.Message.{Message}
use Rattle.seata_types.specs.declared.messages.Message.TheVariants as message
use Rattle.seata_types.specs.declared.messages.Outgoing.{Outgoing}
use Rattle.seata_types.specs.declared.messages.Step.{Step}
use Rattle.durable_records.specs.declared.coordinators.SessionRecord.{SessionRecord}
use Rattle.history_rules.specs.Own.{Event, Left}
use Rattle.history_rules.specs.ResourceMemory.{Setup, Memory}
use Rattle.history_rules.specs.ManagerRules.{Settings, last_sent, sent_after}
use Rattle.history_rules.specs.Nodes.{World, Past, counted_at}
use Rattle.history_rules.specs.Histories.{Moment, own, own_if, same_place}
use Rattle.history_law.specs.Network.{OnSent, EachSent}
use Rattle.history_law.specs.AskSafety.{IsToldDone, AreToldDone, IsAskedWhenDone, AskWhenDone, AskingLaw}
use Rattle.history_law.proofs.Tests.{none_some}
use Rattle.history_law.proofs.Deliveries.{one_place, each_grows}
use Rattle.history_law.proofs.CoordinatorCauses.{Tells, TellsOf}
use Rattle.history_law.proofs.ResourceFits.{MessageFits, SentFits, Fits}
use Rattle.history_law.proofs.ManagerSteps.{IsManagers, SendsManagers}
use Rattle.history_law.proofs.ManagerCalls.{ManagerSays, SentSays, LastSays, manager_calls}
use Rattle.history_law.proofs.Steps.{HaveTickets, KeepsOver, over_any}

-- ---- what entries told

done_on : (m : Moment) (ms : List Moment) (k x c : ℕ) → IsToldDone ms k x c → IsToldDone (m ∷ ms) k x c
done_on m ms k x c d = record { entry = d.entry; there = inr d.there; sent = d.sent; is = d.is; to = d.to; xid = d.xid; of = d.of; branch = d.branch; tells = d.tells }

dones_on : (m : Moment) (ms : List Moment) (k x last : ℕ) → AreToldDone ms k x last → AreToldDone (m ∷ ms) k x last
dones_on m ms k x last all c low high = done_on m ms k x c (all c low high)

-- each answer of a call that is done was told by an entry
abbrev Told : List Moment → Place → Outgoing → Type 0
Told ms from out = (k : ℕ) (xid : Xid) (c : ℕ) (b : BranchId) → out.to ≡ place.Man k → out.message ≡ message.Answer xid c (called.Done b) → IsToldDone ms k xid.0 c

told_now : (m : Moment) (ms : List Moment) (sent : Option Outgoing) → m.step.sent ≡ sent → OnSent (Told (m ∷ ms)) m.place sent
told_now m ms None e = tt
told_now m ms (Some out) e = λ k xid c b to tells. record { entry = m; there = inl refl; sent = out; is = e; to = to; xid = xid; of = refl; branch = b; tells = tells }

told : (ms : List Moment) → EachSent (Told ms) ms
told [] = tt
told (m ∷ ms) = (each_grows (Told ms) (Told (m ∷ ms)) (λ p o t k xid c b to tells. done_on m ms k xid.0 c (t k xid c b to tells)) ms (told ms), told_now m ms m.step.sent refl)

-- ---- counts of calls

to_none : (ms : List Moment) (k x : ℕ) → AreToldDone ms k x 0
to_none ms k x c low high = absurd (omega arith)

to_fewer : (ms : List Moment) (k x d e : ℕ) → AreToldDone ms k x d → e ≤ d → AreToldDone ms k x e
to_fewer ms k x d e all le c low high = all c low (omega arith)

one_more : (ms : List Moment) (k x d e : ℕ) → AreToldDone ms k x d → IsToldDone ms k x (suc d) → 0 < e → e ≤ suc d → (e < suc d) ⊎ (suc d ≤ e) → IsToldDone ms k x e
one_more ms k x d e all here low high (inl less) = all e low (omega arith)
one_more ms k x d e all here low high (inr more) = let is : suc d ≡ e = omega arith in subst (IsToldDone ms k x) is here

to_more : (ms : List Moment) (k x c : ℕ) → ((d : ℕ) → c ≡ d + 1 → AreToldDone ms k x d) → IsToldDone ms k x c → AreToldDone ms k x c
to_more ms k x zero below here e low high = absurd (omega arith)
to_more ms k x (suc d) below here e low high = one_more ms k x d e (below d (omega arith)) here low high (cases_lt e (suc d))

-- ---- what the messages of managers say

module _ (w : World) (ms : List Moment) where
  abbrev SaysDone : Place → Message → Type 0
  SaysDone from (message.GlobalCommit xid) = IsAskedWhenDone w ms from xid.0
  SaysDone from (message.Call xid manager r c work) = (k : ℕ) → from ≡ place.Man k → (d : ℕ) → c ≡ d + 1 → AreToldDone ms k xid.0 d
  SaysDone from _ = Unit {0}

  abbrev SaysDones : Place → Outgoing → Type 0
  SaysDones from out = SaysDone from out.message

  -- where all that an entry sent says so, a commit is asked for so
  asked : (from : Place) (sent : Option Outgoing) → OnSent SaysDones from sent → (out : Outgoing) (xid : Xid) → sent ≡ Some out → out.message ≡ message.GlobalCommit xid → IsAskedWhenDone w ms from xid.0
  asked from sent said out xid is commits = subst (SaysDone from) commits (subst (OnSent SaysDones from) is said)

says_on : (w : World) (m : Moment) (ms : List Moment) (from : Place) (msg : Message) → SaysDone w ms from msg → SaysDone w (m ∷ ms) from msg
says_on w m ms from (message.GlobalCommit xid) said =
    record { manager = said.manager; settings = said.settings; known = said.known; at = said.at; done = dones_on m ms said.manager xid.0 (length said.settings.calls) said.done }
says_on w m ms from (message.Call xid manager r c work) said = λ k at d e. dones_on m ms k xid.0 d (said k at d e)
says_on w m ms from _ said = tt

sent_on : (w : World) (m : Moment) (ms : List Moment) (from : Place) (sent : Option Outgoing) → OnSent (SaysDones w ms) from sent → OnSent (SaysDones w (m ∷ ms)) from sent
sent_on w m ms from None said = tt
sent_on w m ms from (Some out) said = says_on w m ms from out.message said

-- ---- at the coordinator and at a resource: neither calls, nor asks for a commit

module _ (w : World) (ms : List Moment) where
  tc_done : (rs : List SessionRecord) (event : Event) (to : Place) (msg : Message) → Tells rs event to msg → SaysDone w ms place.Tc msg
  tc_done rs event to (message.GlobalCommit xid) t = absurd t
  tc_done rs event to (message.Call xid manager r c work) t = absurd t
  tc_done rs event to _ t = tt

  tc_sends : (rs : List SessionRecord) (event : Event) (sent : Option Outgoing) → TellsOf rs event sent → OnSent (SaysDones w ms) place.Tc sent
  tc_sends rs event None t = tt
  tc_sends rs event (Some out) t = tc_done rs event out.to out.message t

  res_done : (s : Setup) (before : Memory) (event : Event) (step : Step) (from : Place) (msg : Message) → MessageFits s before event step.act msg → SaysDone w ms from msg
  res_done s before event step from (message.GlobalCommit xid) f = absurd f
  res_done s before event step from (message.Call xid manager r c work) f = absurd f
  res_done s before event step from _ f = tt

  res_sends : (s : Setup) (before : Memory) (event : Event) (step : Step) (from : Place) (sent : Option Outgoing) → step.sent ≡ sent → Fits s before event step ⊎ (step.sent ≡ None) → OnSent (SaysDones w ms) from sent
  res_sends s before event step from None e f = tt
  res_sends s before event step from (Some out) e (inr none) = none_some (sym none ∙ e)
  res_sends s before event step from (Some out) e (inl f) = res_done s before event step from out.message (subst (λ z. SentFits s before event step.act z) e f.1)

-- ---- at a manager

man_number : (n k : ℕ) → place.Man n ≡ place.Man k → n ≡ k
man_number n k e = cc

module _ (w : World) (before : List Moment) (k : ℕ) (settings : Settings) (known : counted_at w.managers k ≡ Some settings) where
  one_settings_by : (q : Settings) → Some q ≡ Some settings → q ≡ settings
  one_settings_by q e = cc

  one_settings : (j : ℕ) (q : Settings) → place.Man k ≡ place.Man j → counted_at w.managers j ≡ Some q → q ≡ settings
  one_settings j q e f = one_settings_by q (sym f ∙ ap (counted_at w.managers) (sym (man_number k j e)) ∙ known)

  abbrev Says : Message → Type 0
  Says msg = ManagerSays settings (AreToldDone before k) (to_none before k) (to_fewer before k) msg

  of_manager : (msg : Message) → SaysDone w before (place.Man k) msg → Says msg
  of_manager (message.GlobalCommit xid) said =
      let done = subst (λ j. AreToldDone before j xid.0 (length said.settings.calls)) (sym (man_number k said.manager said.at)) said.done in
      subst (λ (z : Settings). AreToldDone before k xid.0 (length z.calls)) (one_settings said.manager said.settings said.at said.known) done
  of_manager (message.Call xid man r c work) said = said k refl
  of_manager _ said = tt

  as_said : (msg : Message) → IsManagers msg → Says msg → SaysDone w before (place.Man k) msg
  as_said (message.GlobalCommit xid) is says = record { manager = k; settings = settings; known = known; at = refl; done = says }
  as_said (message.Call xid man r c work) is says = λ j e d f. subst (λ q. AreToldDone before q xid.0 d) (man_number k j e) (says d f)
  as_said (message.Begin number timeout) is says = tt
  as_said (message.GlobalRollback xid) is says = tt
  as_said (message.GlobalStatus xid) is says = tt
  as_said _ is says = absurd is

  sent_said : (o : Option Outgoing) → SendsManagers o → SentSays settings (AreToldDone before k) (to_none before k) (to_fewer before k) o → OnSent (SaysDones w before) (place.Man k) o
  sent_said None is says = tt
  sent_said (Some out) is says = as_said out.message is says

  abbrev Last : Option Message → Type 0
  Last o = LastSays settings (AreToldDone before k) (to_none before k) (to_fewer before k) o

  newest : (sent : Option Outgoing) → OnSent (SaysDones w before) (place.Man k) sent → (last : Option Message) → Last last → Last (sent_after sent last)
  newest None said last says = says
  newest (Some out) said last says = of_manager out.message said

  newest_by : (m : Moment) (event : Option Event) (b : Bool) → (b ≡ true → place.Man k ≡ m.place) → OnSent (SaysDones w before) m.place m.step.sent → (ms : List Moment) → Last (last_sent (own (place.Man k) ms))
      → Last (last_sent (own_if b event m (own (place.Man k) ms)))
  newest_by m (Some event) true here said ms says = newest m.step.sent (subst (λ p. OnSent (SaysDones w before) p m.step.sent) (sym (here refl)) said) (last_sent (own (place.Man k) ms)) says
  newest_by m None true here said ms says = says
  newest_by m (Some event) false here said ms says = says
  newest_by m None false here said ms says = says

  -- what the last message says that it sent
  last_said : (ms : List Moment) → EachSent (SaysDones w before) ms → Last (last_sent (own (place.Man k) ms))
  last_said [] each = tt
  last_said (m ∷ ms) each = newest_by m m.event (same_place (place.Man k) m.place) (one_place (place.Man k) m.place) each.1 ms (last_said ms each.0)

-- ---- the induction

record DonesBy (w : World) (ms : List Moment) : Type 0 where
  said : EachSent (SaysDones w ms) ms
  asks : AskWhenDone w ms

abbrev Dones : World → Left SessionRecord → (ℕ → Setup → Memory) → List Moment → Type 0
Dones w tc mem ms = DonesBy w ms

-- one more entry, of which it is known what it sent
one_entry : (w : World) (m : Moment) (ms : List Moment) (i : DonesBy w ms) → OnSent (SaysDones w ms) m.place m.step.sent → DonesBy w (m ∷ ms)
one_entry w m ms i said = record {
  said = (each_grows (SaysDones w ms) (SaysDones w (m ∷ ms)) (λ p o. says_on w m ms p o.message) ms i.said, sent_on w m ms m.place m.step.sent said);
  asks = (i.asks, asked w ms m.place m.step.sent said);
}

dones_keep : (w : World) (past : Past) → KeepsOver w past (HaveTickets w past) (Dones w)
dones_keep w past = record {
  at_tc = λ ms m c i t. one_entry w m ms i (subst (λ p. OnSent (SaysDones w ms) p m.step.sent) (sym t.at) (tc_sends w ms t.after.records t.event m.step.sent t.tells));
  at_res = λ ms m c i r. one_entry w m ms i (res_sends w ms r.s _ r.event m.step m.place m.step.sent refl r.moves.fits);
  at_man = λ ms m c i t.
      let says = manager_calls t.settings (AreToldDone ms t.k) (to_none ms t.k) (to_fewer ms t.k) (own (place.Man t.k) ms) (last_said w ms t.k t.settings t.known ms i.said) t.event m.now m.step
      (λ from xid d b is below. to_more ms t.k xid.0 d below (t.heard (Told ms) (told ms) from (message.Answer xid d (called.Done b)) is t.k xid d b refl refl)) t.happens in
      one_entry w m ms i (subst (λ p. OnSent (SaysDones w ms) p m.step.sent) (sym t.at) (sent_said w ms t.k t.settings t.known m.step.sent t.sends says));
  quiet = λ ms m i is. one_entry w m ms i (subst (λ (step : Step). OnSent (SaysDones w ms) m.place step.sent) (sym is) tt);
}

pub asking_law : AskingLaw
asking_law w past ms numbered legal = (over_any w past numbered (Dones w) (dones_keep w past) (record { said = tt; asks = tt }) ms legal).asks
