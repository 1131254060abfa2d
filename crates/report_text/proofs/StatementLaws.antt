-- The statements of a resource's entry, found by what is printed of it, are those that its rules take.
use Rattle.std.proofs.Common.{◌≡◌, ◌+◌, ℕ, zero, suc, List, ◌∷◌, Option, Some, None, option_map, refl, sym, ap, ◌∙◌, subst, arith}
use Rattle.seata_types.specs.declared.acts.Act.{Act}
use Rattle.seata_types.specs.declared.acts.Act.TheVariants as act
use Rattle.seata_types.specs.declared.acts.Durable.{Durable}
use Rattle.seata_types.specs.declared.acts.Durable.TheVariants as durable
use Rattle.seata_types.specs.declared.ids.Place.{Place}
use Rattle.seata_types.specs.declared.ids.Place.TheVariants as place
use Rattle.seata_types.specs.declared.ids.Ticket.{Ticket}
use Rattle.seata_types.specs.declared.ids.Xid.{Xid}
use Rattle.seata_types.specs.declared.messages.Input.TheVariants as input
use Rattle.seata_types.specs.declared.messages.Message.{Message}
use Rattle.seata_types.specs.declared.messages.Message.TheVariants as message
use Rattle.seata_types.specs.declared.statements.Work.{Work}
use Rattle.local_tables.specs.Rows.{Database}
use Rattle.durable_records.specs.RowsKept.{tables}
use Rattle.durable_records.specs.SessionOrder.{Allowed}
use Rattle.durable_records.specs.declared.coordinators.SessionRecord.{SessionRecord}
use Rattle.scenario_form.specs.declared.scenarios.Scenario.{Scenario}
use Rattle.history_law.specs.Network.{EachSent}
use Rattle.history_law.proofs.Steps.{have_tickets}
use Rattle.history_rules.specs.Histories.{Moment, Cause, Legal, HappensAt, IsDone, brings, own, coordinator_left, memory_at}
use Rattle.history_rules.specs.Nodes.{Past, Resource, counted_at, role_at}
use Rattle.history_rules.specs.Own.{Event, Given}
use Rattle.history_rules.specs.ResourceMemory.{Setup, Memory, opening_tables, or_empty, phase_two}
use Rattle.history_text.specs.History.{cause_of}
use Rattle.history_text.specs.Worlds.{world_of}
use Rattle.history_text.specs.declared.entries.Cause.{Cause as Printed}
use Rattle.history_text.proofs.Worlds.{world_of-numbered}
use Rattle.report_text.specs.Folds.{FoldedKept}
use Rattle.report_text.specs.Following.{FindCalls, FindManagers, Follows}
use Rattle.report_text.specs.Keeping.{CoordinatorKept, number_at}
use Rattle.report_text.specs.Made.{run_by, run_for, tries_for, sending_manager}
use Rattle.report_text.specs.Numbered.{statements_at, tries_at, confirms_at, cancels_at, local_at}
use Rattle.report_text.proofs.ActLaws.{message_is, confirms_found, cancels_found, outside_found, slot_found, call_opened, local_opened}
use Rattle.report_text.proofs.AskLaws.{AsksFor, ActAsks, is_asked}
use Rattle.report_text.proofs.FoldLaws.{ActsFor, ActsHere}
use Rattle.report_text.proofs.HeardLaws.{TellBranches, heard}
use Rattle.report_text.proofs.NumberedLaws.{IsSetupOf, setup_at}
use Rattle.report_text.proofs.ReportLaws.{StatementsAre}
use Rattle.report_text.proofs.ResourceLaws.{RunsFor, OpensFor, ActIs}
use Rattle.report_text.proofs.SlotLaws.{CallSaid, SaysSlot, SaysSlots, slots}

-- ---- one entry

module _ (s : Scenario) (k : ℕ) (u : Setup) (is : IsSetupOf s k u) (past rs : List SessionRecord) (kept : CoordinatorKept) (managers : FindManagers past rs kept.managers) (calls : FindCalls past rs kept.calls) (ms : List Moment) where
  abbrev manager : ℕ → ℕ
  manager x = number_at kept.managers x

  abbrev call : ℕ → ℕ
  call b = number_at kept.calls b

  abbrev here : Place
  here = place.Res (suc k)

  after_it : k + 1 ≡ suc k
  after_it = omega arith

  module _ (branches : EachSent (TellBranches past rs) ms) (called : EachSent (SaysSlots (world_of s)) ms) (why : Cause) (event : Event)
      (brought : Some event ≡ brings ms here why) where
    brings_it : (other : Event) → event ≡ other → Some other ≡ brings ms here why
    brings_it other same = ap (λ (e : Event). Some e) (sym same) ∙ brought

    runs_are : (m : Memory) (d : Durable) → AsksFor m event d → RunsFor u event (run_by s manager call (suc k) d) d
    runs_are m (durable.Confirmed xid b) (from, kind, man, c, same) =
        ap (λ n. or_empty (confirms_at s n (manager xid.0) (call b.0))) (sym after_it)
        ∙ confirms_found s k u is past rs kept managers calls ms branches why from here xid b kind man c (brings_it (Given (input.Message from (message.BranchCommit xid b kind man c))) same)
        ∙ ap (phase_two u) (sym same)
    runs_are m (durable.Cancelled xid b) (from, kind, man, c, same) =
        ap (λ n. or_empty (cancels_at s n (manager xid.0) (call b.0))) (sym after_it)
        ∙ cancels_found s k u is past rs kept managers calls ms branches why from here xid b kind man c (brings_it (Given (input.Message from (message.BranchRollback xid b kind man c))) same)
        ∙ ap (phase_two u) (sym same)
    runs_are m (durable.Outside n) asks = ap (λ j. or_empty (local_at s j n)) (sym after_it) ∙ outside_found s k u is past rs kept managers calls n
    runs_are m _ asks = tt

    -- a ticket that is opened for a Call
    opened_by : (db : Database) (xid : Xid) (c : ℕ) (t : Ticket) (from : Place) (man r : ℕ) (w : Work) → event ≡ Given (input.Message from (message.Call xid man r c w))
        → OpensFor u db event (statements_at s (sending_manager (cause_of why)) c) (tries_at s (sending_manager (cause_of why)) c) t c
    opened_by db xid c t from man r w same =
        let sent = message_is (SaysSlots (world_of s)) ms called here from (message.Call xid man r c w) why
        (brings_it (Given (input.Message from (message.Call xid man r c w))) same) in
        let said : CallSaid (world_of s) from r c w = subst (λ (q : Message). SaysSlot (world_of s) from q) sent.is sent.says in
        let found = slot_found s said.manager r c w said.settings said.known said.slot in
        subst (λ (e : Event). OpensFor u db e (statements_at s (sending_manager (cause_of why)) c) (tries_at s (sending_manager (cause_of why)) c) t c) (sym same)
        (subst (λ (q : Cause). OpensFor u db (Given (input.Message from (message.Call xid man r c w))) (statements_at s (sending_manager (cause_of q)) c) (tries_at s (sending_manager (cause_of q)) c) t c)
        (sym sent.cause) (call_opened s u db t xid man r c said.manager from said.at sent.stamp w found))

    local_by : (db : Database) (n : ℕ) (t : Ticket) → event ≡ Given (input.Local n) → OpensFor u db event (local_at s (suc k) n) None t 0
    local_by db n t same =
        subst (λ (e : Event). OpensFor u db e (local_at s (suc k) n) None t 0) (sym same)
        (subst (λ j. OpensFor u db (Given (input.Local n)) (local_at s j n) None t 0) after_it (local_opened s k u is db t n))

    act_is : (m : Memory) (db : Database) (done : Act) → ActAsks m event done
        → ActIs u db event (run_for s manager call (suc k) (cause_of why) done) (tries_for s (cause_of why) done) done
    act_is m db (act.Durable d) asks = runs_are m d asks
    act_is m db (act.Down kept (Some d)) asks = runs_are m d asks
    act_is m db (act.Opened xid c t) (from, man, r, w, same) = opened_by db xid c t from man r w same
    act_is m db (act.OpenedLocal n t) same = local_by db n t same
    act_is m db _ asks = tt

-- ---- all legal histories

module _ (s : Scenario) (past : Past) (allowed : Allowed past.sessions) (ms : List Moment) (m : Moment) (f : FoldedKept) (follows : Follows s past f ms) (legal : Legal (world_of s) past (m ∷ ms)) where
  abbrev left : List SessionRecord
  left = (coordinator_left past ms).records

  acts_are : (k : ℕ) (event : Event) → m.place ≡ place.Res (suc k) → m.event ≡ Some event → ActsFor s past ms f k event m.now m.cause m.step
  unfolding ActsFor
  acts_are k event at given u e there cause done =
      let is = setup_at s k u there in
      let number : u.number ≡ suc k = ap (λ (v : Setup). v.number) is.is ∙ omega arith in
      let w = world_of s in
      let known : counted_at w.resources u.number ≡ Some u = ap (counted_at w.resources) number ∙ there in
      let tickets = have_tickets w past ms legal.0 u.number u known in
      let at_it : m.place ≡ place.Res u.number = at ∙ ap place.Res (sym number) in
      let happens : HappensAt (role_at w past m.place) (own m.place ms) m.now event m.step = subst (λ (o : Option Event). IsDone w past ms m o) given legal.1.done in
      let here = subst (λ p. HappensAt (role_at w past p) (own p ms) m.now event m.step) at_it happens in
      let role : role_at w past (place.Res u.number) ≡ Some (Resource u (past.resource u.number)) = ap (option_map (λ v. Resource v (past.resource u.number))) known in
      let ran = subst (λ r. HappensAt r (own (place.Res u.number) ms) m.now event m.step) role here in
      let asked = is_asked u (past.resource u.number) (own (place.Res u.number) ms) event m.now m.step tickets ran in
      let told = heard w past (world_of-numbered s) allowed ms legal.0 in
      let called = slots w past (world_of-numbered s) ms legal.0 in
      let brought : Some event ≡ brings ms (place.Res (suc k)) m.cause = sym given ∙ legal.1.brought ∙ ap (λ (p : Place). brings ms p m.cause) at in
      let db = tables (opening_tables u) (memory_at past u ms).left.records in
      let kept = act_is s k u is past.sessions left f.coordinator follows.coordinator.managers follows.coordinator.calls ms told.branches called m.cause event brought (memory_at past u ms) db m.step.act asked.asks in
      let causes : ActIs u db event (run_for s (number_at f.coordinator.managers) (number_at f.coordinator.calls) (suc k) e.cause m.step.act) (tries_for s e.cause m.step.act) m.step.act =
      subst (λ (c : Printed). ActIs u db event (run_for s (number_at f.coordinator.managers) (number_at f.coordinator.calls) (suc k) c m.step.act) (tries_for s c m.step.act) m.step.act) (sym cause) kept in
      subst (λ (d : Act). ActIs u db event (run_for s (number_at f.coordinator.managers) (number_at f.coordinator.calls) (suc k) e.cause d) (tries_for s e.cause d) m.step.act) (sym done) causes

  acts_by : (p : Place) (event : Option Event) → m.place ≡ p → m.event ≡ event → ActsHere s past f ms follows m.stamp m.now m.cause m.step p event
  acts_by (place.Res (suc k)) (Some event) at given = acts_are k event at given
  acts_by (place.Res zero) (Some event) at given = tt
  acts_by (place.Res zero) None at given = tt
  acts_by (place.Res (suc k)) None at given = tt
  acts_by place.Net event at given = tt
  acts_by place.Tc event at given = tt
  acts_by (place.Man n) event at given = tt

pub statements_are : (s : Scenario) → StatementsAre s
unfolding StatementsAre
statements_are s past ms m f follows allowed legal = acts_by s past allowed ms m f follows legal m.place m.event refl refl
