-- Each message of a legal history of a scenario is one that its receiver serves: a Call is counted from 1, and has few statements.
use Rattle.std.proofs.Common.{◌≡◌, ◌⊎◌, inl, inr, ◌+◌, ◌≤◌, ℕ, zero, suc, List, [], ◌∷◌, All, length, slice_get, Option, Some, None, option_map, refl, sym, subst, ◌∙◌, arith}
use Rattle.std.proofs.lemmas.List.Elements.{All-head, All-tail}
use Rattle.seata_types.specs.declared.limits.TheConstants.{FIELD_ITEMS}
use Rattle.seata_types.specs.declared.acts.Act.{Act}
use Rattle.seata_types.specs.declared.ids.Place.{Place}
use Rattle.seata_types.specs.declared.ids.Place.TheVariants as place
use Rattle.seata_types.specs.declared.messages.Input.TheVariants as input
use Rattle.seata_types.specs.declared.messages.Message.{Message}
use Rattle.seata_types.specs.declared.messages.Message.TheVariants as message
use Rattle.seata_types.specs.declared.messages.Outgoing.{Outgoing}
use Rattle.seata_types.specs.declared.messages.Step.{Step}
use Rattle.seata_types.specs.declared.statements.Work.{Work}
use Rattle.seata_types.specs.declared.statements.Work.TheVariants as work
use Rattle.durable_records.specs.declared.coordinators.SessionRecord.{SessionRecord}
use Rattle.scenario_form.specs.declared.scenarios.ManagerDef.{ManagerDef}
use Rattle.scenario_form.specs.declared.scenarios.ResourceDef.{ResourceDef}
use Rattle.scenario_form.specs.declared.scenarios.Scenario.{Scenario}
use Rattle.scenario_form.specs.Contents.{IsCall}
use Rattle.scenario_form.specs.Runnable.{IsManager, IsRunnable}
use Rattle.history_rules.specs.Own.{Event, Own, Left}
use Rattle.history_rules.specs.ManagerRules.{Settings, last_sent, sent_after}
use Rattle.history_rules.specs.ResourceMemory.{Setup, Memory}
use Rattle.history_rules.specs.Nodes.{Manager, Ran, World, counted_at, no_past}
use Rattle.history_rules.specs.Histories.{Moment, Legal, own, brings}
use Rattle.history_rules.specs.Histories.{Cause as Reason}
use Rattle.history_law.specs.Network.{EachSent, OnSent}
use Rattle.history_law.proofs.CoordinatorCauses.{Tells, TellsOf}
use Rattle.history_law.proofs.Deliveries.{brought_says}
use Rattle.history_law.proofs.ManagerOwn.{LastIs, ManagerIs, SentIs, SlotIs, manager_is}
use Rattle.history_law.proofs.ResourceFits.{Fits, MessageFits, SentFits}
use Rattle.history_law.proofs.Steps.{HaveTickets, KeepsOver, ManStep, ResStep, over_any}
use Rattle.history_law.specs.Cover.{memory_of}
use Rattle.history_text.specs.Worlds.{settings_of, world_of}
use Rattle.history_text.proofs.Worlds.{slice_get-managers, world_of-numbered}
use Rattle.resource_rules.specs.Serving.{Serves}
use Rattle.judged_bench.specs.Leaving.{HasFewTries, ServesEvent}
use Rattle.judged_devices.specs.declared.events.Event.{Event as Comes}
use Rattle.judged_devices.specs.declared.events.Event.TheVariants as event
use Rattle.judged_devices.specs.Taking.{event_of}

-- a call and its Try have few statements
abbrev WorkFew : Work → Type 0
WorkFew (work.At stmts) = length stmts ≤ FIELD_ITEMS
WorkFew (work.Tcc action) = length action.tries ≤ FIELD_ITEMS

-- a Call is counted from 1, with few statements
abbrev IsServed : Message → Type 0
IsServed (message.Call xid manager resource call w) = (1 ≤ call) × WorkFew w
IsServed _ = Unit {0}

abbrev Served : Place → Outgoing → Type 0
Served from out = IsServed out.message

-- such a message is served
is_served : (from : Place) (msg : Message) → IsServed msg → Serves (input.Message from msg) × HasFewTries (input.Message from msg)
is_served from (message.Call xid manager resource call (work.At stmts)) is = (is, tt)
is_served from (message.Call xid manager resource call (work.Tcc action)) is = ((is.0, tt), is.1)
is_served from _ is = (tt, tt)

-- ---- by the coordinator and by a resource, which send no Call

told_served : (rs : List SessionRecord) (e : Event) (to : Place) (msg : Message) → Tells rs e to msg → IsServed msg
told_served rs e to (message.Call xid manager resource call w) says = absurd says
told_served rs e to _ says = tt

tells_served : (rs : List SessionRecord) (e : Event) (from : Place) (sent : Option Outgoing) → TellsOf rs e sent → OnSent Served from sent
tells_served rs e from None says = tt
tells_served rs e from (Some out) says = told_served rs e out.to out.message says

fits_served : (s : Setup) (m : Memory) (e : Event) (done : Act) (msg : Message) → MessageFits s m e done msg → IsServed msg
fits_served s m e done (message.Call xid manager resource call w) fits = absurd fits
fits_served s m e done _ fits = tt

sent_served : (s : Setup) (m : Memory) (e : Event) (done : Act) (from : Place) (sent : Option Outgoing) → SentFits s m e done sent → OnSent Served from sent
sent_served s m e done from None fits = tt
sent_served s m e done from (Some out) fits = fits_served s m e done out.message fits

-- ---- by a manager, whose calls are those of the scenario

-- a call of these settings has few statements
abbrev HaveFew : Settings → Type 0
HaveFew m = (d r : ℕ) (w : Work) → slice_get m.calls d ≡ Some (r, w) → WorkFew w

module _ (m : Settings) (few : HaveFew m) where
  abbrev Free : ℕ → Type 0
  Free x = Unit {0}

  call_served : (r c : ℕ) (w : Work) → SlotIs m r c w → (1 ≤ c) × WorkFew w
  call_served r c w (d, is, there) = (omega (arith, is), few d r w there)

  said_served : (msg : Message) → ManagerIs m Free Free msg → IsServed msg
  said_served (message.Call xid manager resource call w) is = call_served resource call w is.2
  said_served _ is = tt

  says_served : (from : Place) (sent : Option Outgoing) → SentIs m Free Free sent → OnSent Served from sent
  says_served from None is = tt
  says_served from (Some out) is = said_served out.message is.0

  last_after : (sent : Option Outgoing) → SentIs m Free Free sent → (before : Option Message) → LastIs m Free Free before → LastIs m Free Free (sent_after sent before)
  last_after None is before last = last
  last_after (Some out) is before last = is.0

  last_is : (os : List Own) → Ran (Manager m) os → LastIs m Free Free (last_sent os)
  last_is [] ran = tt
  last_is (o ∷ os) ran =
      let last = last_is os ran.0 in
      last_after o.step.sent (manager_is m Free Free tt os last o.event o.now o.step (λ from xid e. tt) ran.1) (last_sent os) last

-- ---- the statements of a scenario

pub all_at : {A : Type 0} (P : A → Type 0) (xs : List A) (k : ℕ) (x : A) → All P xs → slice_get xs k ≡ Some x → P x
all_at P [] k x all e = absurd (let no : None ≡ Some x = e in cc)
all_at P (y ∷ xs) zero x all e = subst P (let same : y ≡ x = cc in same) (All-head P y xs all)
all_at P (y ∷ xs) (suc k) x all e = all_at P xs k x (All-tail P y xs all) e

work_few : (defs : List ResourceDef) (r : ℕ) (w : Work) → IsCall defs (r, w) → WorkFew w
work_few defs r (work.At stmts) (def, numbered, is) = let most : length stmts ≤ 16 = is.few in omega (arith, most)
work_few defs r (work.Tcc action) (def, numbered, is) = let most : length action.tries ≤ 16 = is.0.few in omega (arith, most)

def_few : (s : Scenario) (def : ManagerDef) → IsManager s.resources def → (tries n : ℕ) → HaveFew (settings_of tries n def)
def_few s def is tries n d r w there = work_few s.resources r w (all_at (IsCall s.resources) def.calls d (r, w) is.calls there)

settings_few : (s : Scenario) → IsRunnable s → (k : ℕ) (m : Settings) → counted_at (world_of s).managers k ≡ Some m → HaveFew m
settings_few s runs zero m e = absurd (let no : None ≡ Some m = e in cc)
settings_few s runs (suc k) m e = by (slice_get s.managers k) refl (sym (slice_get-managers s.lock_tries 1 s.managers k) ∙ e)
  where
    by : (o : Option ManagerDef) → slice_get s.managers k ≡ o → option_map (settings_of s.lock_tries (1 + k)) o ≡ Some m → HaveFew m
    by None is f = absurd (let no : None ≡ Some m = f in cc)
    by (Some def) is f =
        let same : settings_of s.lock_tries (1 + k) def ≡ m = cc in
        subst HaveFew same (def_few s def (all_at (IsManager s.resources) s.managers k def runs.managers is) s.lock_tries (1 + k))

-- ---- each legal history

abbrev AllServed : Left SessionRecord → (ℕ → Setup → Memory) → List Moment → Type 0
AllServed left mem ms = EachSent Served ms

module _ (s : Scenario) (runs : IsRunnable s) where
  abbrev world : World
  world = world_of s

  at_resource : (ms : List Moment) (m : Moment) (r : ResStep world no_past ms m) → OnSent Served m.place m.step.sent
  at_resource ms m r = by r.moves.fits
    where
      by : Fits r.s (memory_of no_past ms r.k r.s) r.event m.step ⊎ (m.step.sent ≡ None) → OnSent Served m.place m.step.sent
      by (inl fits) = sent_served r.s (memory_of no_past ms r.k r.s) r.event m.step.act m.place m.step.sent fits.1
      by (inr none) = subst (OnSent Served m.place) (sym none) tt

  at_manager : (ms : List Moment) (m : Moment) (t : ManStep world no_past ms m) → OnSent Served m.place m.step.sent
  at_manager ms m t =
      let few = settings_few s runs t.k t.settings t.known in
      let os = own (place.Man t.k) ms in
      says_served t.settings few m.place m.step.sent
      (manager_is t.settings (Free t.settings few) (Free t.settings few) tt os (last_is t.settings few os t.ran) t.event m.now m.step (λ from xid e. tt) t.happens)

  all_served : (ms : List Moment) → Legal world no_past ms → EachSent Served ms
  all_served ms legal = over_any world no_past (world_of-numbered s) AllServed keeps tt ms legal
    where
      keeps : KeepsOver world no_past (HaveTickets world no_past) AllServed
      keeps = record {
        at_tc = λ ms m c i t. (i, tells_served t.after.records t.event m.place m.step.sent t.tells);
        at_res = λ ms m c i r. (i, at_resource ms m r);
        at_man = λ ms m c i t. (i, at_manager ms m t);
        quiet = λ ms m i is. (i, subst (λ (step : Step). OnSent Served m.place step.sent) (sym is) tt);
      }

  -- what comes of them is served
  pub served : (ms : List Moment) → Legal world no_past ms → (to : Place) (why : Reason) (comes : Comes) → brings ms to why ≡ Some (event_of comes) → ServesEvent comes
  served ms legal to why (event.Given input.Turn) e = (tt, tt)
  served ms legal to why (event.Given (input.Message from heard)) e = is_served from heard (brought_says Served ms to why from heard (all_served ms legal) e)
  served ms legal to why (event.Given (input.Local k)) e = (tt, tt)
  served ms legal to why (event.Given (input.Outside k)) e = (tt, tt)
  served ms legal to why (event.Stopped calls) e = tt
  served ms legal to why event.Crashed e = tt
  served ms legal to why (event.Restarted pick calls) e = tt
