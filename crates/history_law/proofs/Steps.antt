-- An induction over the entries of a legal history, by the node of each entry, where something is known of the tickets at each point: cover,
-- or, over disks with any records, that of the tickets alone.
use Rattle.std.proofs.Common.{◌≡◌, ◌==◌, ℕ, false, List, [], ◌∷◌, Option, Some, None, option_map, refl, ap, sym, subst, ◌∙◌}
use Rattle.std.specs.Option.{option_and_then}
use Rattle.seata_types.specs.declared.acts.Act.TheVariants as act
use Rattle.seata_types.specs.declared.ids.Place.{Place}
use Rattle.seata_types.specs.declared.ids.Place.TheVariants as place
use Rattle.seata_types.specs.declared.messages.Input.{Input}
use Rattle.seata_types.specs.declared.messages.Input.TheVariants as input
use Rattle.seata_types.specs.declared.messages.Message.{Message}
use Rattle.seata_types.specs.declared.messages.Outgoing.{Outgoing}
use Rattle.seata_types.specs.declared.messages.Step.{Step}
use Rattle.durable_records.specs.declared.coordinators.SessionRecord.{SessionRecord}
use Rattle.durable_records.specs.declared.resources.ResourceRecord.{ResourceRecord}
use Rattle.durable_records.specs.SessionOrder.{May}
use Rattle.history_rules.specs.Own.{Event, Given, Left, Own, asked_act, added, still}
use Rattle.history_rules.specs.CoordinatorMemory.{session_record, sessions_left}
use Rattle.history_rules.specs.CoordinatorRules.{coordinator_answer}
use Rattle.history_rules.specs.ResourceMemory.{Setup, Memory, memory}
use Rattle.history_rules.specs.ManagerRules.{Settings}
use Rattle.history_rules.specs.Nodes.{World, Past, Coordinator, Resource, Manager, Happens, Ran, role_at, counted_at}
use Rattle.history_rules.specs.Histories.{Moment, own, own_if, same_place, brings, Legal, Stands, IsDone, HappensAt, ComesToNone, coordinator_left}
use Rattle.history_law.specs.Network.{EachSent}
use Rattle.history_law.specs.Tickets.{Tickets}
use Rattle.history_law.specs.Cover.{memory_of, Covers}
use Rattle.history_law.specs.TicketSafety.{AreNumbered}
use Rattle.history_law.proofs.Tests.{nat_same}
use Rattle.history_law.proofs.Deliveries.{brought_says}
use Rattle.history_law.proofs.Nodes.{ran}
use Rattle.history_law.proofs.ManagerSteps.{SendsManagers, manager_says}
use Rattle.history_law.proofs.CoordinatorAnswers.{OnAct, MayAct, coordinator_may}
use Rattle.history_law.proofs.CoordinatorCauses.{CausedBy, TellsOf, coordinator_says}
use Rattle.history_law.proofs.CoordinatorSteps.{KeepsRecords, coordinator_moves}
use Rattle.history_law.proofs.ResourceSteps.{ResourceMoves, resource_moves}
use Rattle.history_law.proofs.TicketSteps.{memory_by}
use Rattle.history_law.proofs.CoverCoordinator.{MayCaused}
use Rattle.history_law.proofs.CoverHistory.{both_acts, covers}

-- the tickets of a resource alone, over any records
tickets_own : (s : Setup) (past : List ResourceRecord) (os : List Own) → Ran (Resource s past) os → Tickets (memory s past os)
tickets_own s past [] r = record { given = λ o i. absurd i; distinct = λ o p i. absurd i; disjoint = λ o p i. absurd i }
tickets_own s past (o ∷ os) r = (resource_moves s past os o.event o.now o.step (tickets_own s past os r.0) r.1).tickets

-- those of each resource, after a history
abbrev pub HaveTickets : World → Past → List Moment → Type 0
HaveTickets w past ms = (k : ℕ) (s : Setup) → counted_at w.resources k ≡ Some s → Tickets (memory_of past ms k s)

pub have_tickets : (w : World) (past : Past) (ms : List Moment) → Legal w past ms → HaveTickets w past ms
have_tickets w past ms legal k s known =
    let role : role_at w past (place.Res k) ≡ Some (Resource s (past.resource k)) = ap (option_map (λ q. Resource q (past.resource k))) known in
    tickets_own s (past.resource k) (own (place.Res k) ms) (ran w past (place.Res k) (Resource s (past.resource k)) role ms legal)

-- a message that comes has what every message has that was sent
abbrev pub Heard : List Moment → Place → Event → Type 1
Heard ms to event = (P : Place → Outgoing → Type 0) → EachSent P ms → (from : Place) (msg : Message) → event ≡ Given (input.Message from msg) → P from (record { to = to; message = msg })

module _ (w : World) (past : Past) (ms : List Moment) (m : Moment) where
  -- an entry of the coordinator: what it leaves, and what it tells
  pub record TcStep : Type 1 where
    pub event : Event
    pub at : m.place ≡ place.Tc
    pub heard : Heard ms place.Tc event
    pub after : Left SessionRecord
    pub keeps : KeepsRecords (MayCaused (coordinator_left past ms).records event) (coordinator_left past ms) after
    pub tells : TellsOf after.records event m.step.sent

  -- an entry of a resource
  pub record ResStep : Type 1 where
    pub k : ℕ
    pub s : Setup
    pub known : counted_at w.resources k ≡ Some s
    pub named : s.number ≡ k
    pub event : Event
    pub at : m.place ≡ place.Res k
    pub heard : Heard ms (place.Res k) event
    pub happens : Happens (Resource s (past.resource k)) (own (place.Res k) ms) m.now event m.step
    pub moves : ResourceMoves s (memory_of past ms k s) event m.now m.step
    pub after : ℕ → Setup → Memory
    pub here : after k s ≡ memory_by s (memory_of past ms k s) event m.now m.step
    pub there : (j : ℕ) (q : Setup) → (j == k) ≡ false → after j q ≡ memory_of past ms j q

  -- an entry of a manager
  pub record ManStep : Type 1 where
    pub k : ℕ
    pub settings : Settings
    pub known : counted_at w.managers k ≡ Some settings
    pub event : Event
    pub at : m.place ≡ place.Man k
    pub heard : Heard ms (place.Man k) event
    pub ran : Ran (Manager settings) (own (place.Man k) ms)
    pub happens : Happens (Manager settings) (own (place.Man k) ms) m.now event m.step
    pub sends : SendsManagers m.step.sent

-- what an induction shows of each kind of entry, where C is known of the entries before
pub record KeepsOver (w : World) (past : Past) (C : List Moment → Type 0) (I : Left SessionRecord → (ℕ → Setup → Memory) → List Moment → Type 0) : Type 1 where
  pub at_tc : (ms : List Moment) (m : Moment) → C ms → I (coordinator_left past ms) (memory_of past ms) ms → (t : TcStep w past ms m) → I t.after (memory_of past ms) (m ∷ ms)
  pub at_res : (ms : List Moment) (m : Moment) → C ms → I (coordinator_left past ms) (memory_of past ms) ms → (r : ResStep w past ms m) → I (coordinator_left past ms) r.after (m ∷ ms)
  pub at_man : (ms : List Moment) (m : Moment) → C ms → I (coordinator_left past ms) (memory_of past ms) ms → ManStep w past ms m → I (coordinator_left past ms) (memory_of past ms) (m ∷ ms)
  pub quiet : (ms : List Moment) (m : Moment) → I (coordinator_left past ms) (memory_of past ms) ms → m.step ≡ still act.Nothing → I (coordinator_left past ms) (memory_of past ms) (m ∷ ms)

-- the same where cover is known
abbrev pub Keeps : World → Past → (Left SessionRecord → (ℕ → Setup → Memory) → List Moment → Type 0) → Type 1
Keeps w past I = KeepsOver w past (Covers w past) I

module _ (w : World) (past : Past) (numbered : AreNumbered w) (C : List Moment → Type 0) (have : (ms : List Moment) → C ms → HaveTickets w past ms)
    (I : Left SessionRecord → (ℕ → Setup → Memory) → List Moment → Type 0) (keeps : KeepsOver w past C I) where
  module _ (ms : List Moment) (m : Moment) (legal : Legal w past ms) (stands : Stands w past ms m) (c : C ms) (before : I (coordinator_left past ms) (memory_of past ms) ms) where
    abbrev tc_by : Place → Option Event → Left SessionRecord
    tc_by p event = sessions_left past.sessions (own_if (same_place place.Tc p) event m (own place.Tc ms))

    abbrev mem_by : Place → Option Event → ℕ → Setup → Memory
    mem_by p event n s = memory s (past.resource n) (own_if (same_place (place.Res n) p) event m (own (place.Res n) ms))

    heard_at : (p : Place) (event : Event) → p ≡ m.place → Some event ≡ m.event → Heard ms p event
    heard_at p event at same P each from msg is =
        brought_says P ms p m.cause from msg each (ap (λ q. brings ms q m.cause) at ∙ sym stands.brought ∙ sym same ∙ ap (λ e. Some e) is)

    told : (event : Event) (given : Input) → Given given ≡ event → (step : Step)
        → TellsOf (added (option_and_then (session_record m.now (Given given)) (asked_act step.act)) (coordinator_left past ms).records) (Given given) step.sent
        → TellsOf (added (option_and_then (session_record m.now event) (asked_act step.act)) (coordinator_left past ms).records) event step.sent
    told event given is step said = subst (λ e. TellsOf (added (option_and_then (session_record m.now e) (asked_act step.act)) (coordinator_left past ms).records) e step.sent) is said

    at_coordinator : (event : Event) → place.Tc ≡ m.place → Some event ≡ m.event → Happens (Coordinator w.times past.sessions) (own place.Tc ms) m.now event m.step
        → I (tc_by place.Tc (Some event)) (memory_of past ms) (m ∷ ms)
    at_coordinator event at same h =
        let os = own place.Tc ms in
        let rs = (coordinator_left past ms).records in
        let v = coordinator_moves event m.now (MayCaused rs event) (λ after sent. TellsOf after event sent) (λ after. tt) w.times past.sessions os m.step
        (λ given is.
        let step = coordinator_answer w.times past.sessions os rs m.now given in
        let may = (coordinator_may w.times past.sessions os rs m.now given).0 in
        let says = coordinator_says w.times past.sessions os rs m.now given in (
          both_acts (May rs) (CausedBy rs event) m.now event step.act
              (subst (λ e. MayAct rs m.now e step.act) (sym is) may) (subst (λ e. OnAct (CausedBy rs e) m.now e step.act) (sym is) says.0),
          told event given (sym is) step says.1,
        )) h in
        keeps.at_tc ms m c before (record { event = event; at = sym at; heard = heard_at place.Tc event at same; after = tc_by place.Tc (Some event); keeps = v.0; tells = v.1 })

    at_resource : (k : ℕ) (event : Event) → place.Res k ≡ m.place → Some event ≡ m.event → (o : Option Setup) → counted_at w.resources k ≡ o
        → HappensAt (option_map (λ s. Resource s (past.resource k)) o) (own (place.Res k) ms) m.now event m.step
        → I (coordinator_left past ms) (mem_by (place.Res k) (Some event)) (m ∷ ms)
    at_resource k event at same None known d = absurd d
    at_resource k event at same (Some s) known d =
        keeps.at_res ms m c before (record {
          k = k;
          s = s;
          known = known;
          named = numbered k s known;
          event = event;
          at = sym at;
          heard = heard_at (place.Res k) event at same;
          happens = d;
          moves = resource_moves s (past.resource k) (own (place.Res k) ms) event m.now m.step (have ms c k s known) d;
          after = mem_by (place.Res k) (Some event);
          here = ap (λ b. memory s (past.resource k) (own_if b (Some event) m (own (place.Res k) ms))) (nat_same k k refl);
          there = λ j q e. ap (λ b. memory q (past.resource j) (own_if b (Some event) m (own (place.Res j) ms))) e;
        })

    at_manager : (k : ℕ) (event : Event) → place.Man k ≡ m.place → Some event ≡ m.event → (o : Option Settings) → counted_at w.managers k ≡ o
        → HappensAt (option_map (λ s. Manager s) o) (own (place.Man k) ms) m.now event m.step → I (coordinator_left past ms) (memory_of past ms) (m ∷ ms)
    at_manager k event at same None known d = absurd d
    at_manager k event at same (Some settings) known d =
        let role : role_at w past (place.Man k) ≡ Some (Manager settings) = ap (option_map (λ s. Manager s)) known in
        let r = ran w past (place.Man k) (Manager settings) role ms legal in
        keeps.at_man ms m c before (record {
          k = k;
          settings = settings;
          known = known;
          event = event;
          at = sym at;
          heard = heard_at (place.Man k) event at same;
          ran = r;
          happens = d;
          sends = manager_says settings (own (place.Man k) ms) r event m.now m.step d;
        })

    at_place : (p : Place) (event : Option Event) → p ≡ m.place → event ≡ m.event → IsDone w past ms m event → I (tc_by p event) (mem_by p event) (m ∷ ms)
    at_place place.Tc (Some event) at same done = at_coordinator event at same (subst (λ p. HappensAt (role_at w past p) (own p ms) m.now event m.step) (sym at) done)
    at_place place.Tc None at same done = keeps.quiet ms m before done.1
    at_place (place.Res k) (Some event) at same done =
        at_resource k event at same (counted_at w.resources k) refl (subst (λ p. HappensAt (role_at w past p) (own p ms) m.now event m.step) (sym at) done)
    at_place (place.Res k) None at same done = absurd (subst (λ p. ComesToNone ms p m.cause) (sym at) done.0)
    at_place (place.Man k) (Some event) at same done =
        at_manager k event at same (counted_at w.managers k) refl (subst (λ p. HappensAt (role_at w past p) (own p ms) m.now event m.step) (sym at) done)
    at_place (place.Man k) None at same done = keeps.quiet ms m before done.1
    at_place place.Net (Some event) at same done = absurd (subst (λ p. HappensAt (role_at w past p) (own p ms) m.now event m.step) (sym at) done)
    at_place place.Net None at same done = keeps.quiet ms m before done.1

  -- one entry
  entry_over : (ms : List Moment) (m : Moment) → Legal w past (m ∷ ms) → C ms → I (coordinator_left past ms) (memory_of past ms) ms → I (coordinator_left past (m ∷ ms)) (memory_of past (m ∷ ms)) (m ∷ ms)
  entry_over ms m legal c before = at_place ms m legal.0 legal.1 c before m.place m.event refl refl legal.1.done

  entries_over : ((ms : List Moment) → Legal w past ms → C ms) → I (coordinator_left past []) (memory_of past []) [] → (ms : List Moment) → Legal w past ms → I (coordinator_left past ms) (memory_of past ms) ms
  entries_over always first [] legal = first
  entries_over always first (m ∷ ms) legal = entry_over ms m legal (always ms legal.0) (entries_over always first ms legal.0)

-- over disks with any records
pub over_any : (w : World) (past : Past) → AreNumbered w → (I : Left SessionRecord → (ℕ → Setup → Memory) → List Moment → Type 0) → KeepsOver w past (HaveTickets w past) I
    → I (coordinator_left past []) (memory_of past []) [] → (ms : List Moment) → Legal w past ms → I (coordinator_left past ms) (memory_of past ms) ms
over_any w past numbered I keeps first ms legal = entries_over w past numbered (HaveTickets w past) (λ ms have. have) I keeps (have_tickets w past) first ms legal

-- where cover is known
module _ (w : World) (past : Past) (numbered : AreNumbered w) (I : Left SessionRecord → (ℕ → Setup → Memory) → List Moment → Type 0) (keeps : Keeps w past I) where
  covered_tickets : (ms : List Moment) → Covers w past ms → HaveTickets w past ms
  covered_tickets ms c k s known = (c.at k s known).tickets

  pub by_entry : (ms : List Moment) (m : Moment) → Legal w past (m ∷ ms) → Covers w past ms → I (coordinator_left past ms) (memory_of past ms) ms → I (coordinator_left past (m ∷ ms)) (memory_of past (m ∷ ms)) (m ∷ ms)
  by_entry ms m legal c before = entry_over w past numbered (Covers w past) covered_tickets I keeps ms m legal c before

  pub by_entries : Covers w past [] → I (coordinator_left past []) (memory_of past []) [] → (ms : List Moment) → Legal w past ms → I (coordinator_left past ms) (memory_of past ms) ms
  by_entries start first ms legal = entries_over w past numbered (Covers w past) covered_tickets I keeps (covers w past numbered start) first ms legal
