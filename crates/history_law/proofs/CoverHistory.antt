-- Tickets, markers and cover in all legal histories.
use Rattle.history_law.proofs.Holders.{one_holder}
use Rattle.std.proofs.Common.{◌≡◌, ◌⊎◌, inl, inr, ◌==◌, not, ℕ, Bool, true, false, List, [], ◌∷◌, Option, Some, None, option_map, refl, ap, sym, subst, ◌∙◌}
use Rattle.seata_types.specs.declared.ids.Place.{Place}
use Rattle.seata_types.specs.declared.ids.Place.TheVariants as place
use Rattle.seata_types.specs.declared.messages.Input.TheVariants as input
use Rattle.seata_types.specs.declared.messages.Message.{Message}
use Rattle.seata_types.specs.declared.messages.Message.TheVariants as message
use Rattle.seata_types.specs.declared.messages.Outgoing.{Outgoing}
use Rattle.seata_types.specs.declared.messages.Step.{Step}
use Rattle.seata_types.specs.declared.rows.RowKey.{RowKey}
use Rattle.seata_types.specs.declared.statuses.BranchKind.TheVariants as kind
use Rattle.durable_records.specs.declared.coordinators.SessionRecord.{SessionRecord}
use Rattle.durable_records.specs.Transactions.{decided, is_commit}
use Rattle.durable_records.specs.Branches.{Grant, grants, is_ended}
use Rattle.durable_records.specs.SessionOrder.{May}
use Rattle.history_rules.specs.Own.{Event, Given, Own, Left, added}
use Rattle.history_law.specs.Network.{OnSent}
use Rattle.seata_types.specs.declared.acts.Act.TheVariants as act
use Rattle.durable_records.specs.Locks.{has_key, is_holding, holds_row, holding, holds}
use Rattle.durable_records.specs.UndoRecords.{Undo, undos, undo_of, is_leg}
use Rattle.durable_records.specs.ResourceOrder.{image_keys}
use Rattle.durable_records.specs.RowsKept.{Change, ByBranch, ByLocal, ByOutside, changes}
use Rattle.history_rules.specs.Own.{still}
use Rattle.history_rules.specs.CoordinatorMemory.{sessions_left}
use Rattle.history_rules.specs.ResourceMemory.{Setup, Memory, memory}
use Rattle.history_rules.specs.ManagerRules.{Settings}
use Rattle.history_rules.specs.CoordinatorRules.{coordinator_answer}
use Rattle.history_rules.specs.Nodes.{World, Past, Coordinator, Resource, Manager, Happens, role_at, counted_at}
use Rattle.history_rules.specs.Histories.{Moment, own, own_if, same_place, brings, Legal, Stands, IsDone, HappensAt, ComesToNone, coordinator_left}
use Rattle.history_law.specs.Points.{In}
use Rattle.history_law.specs.Cover.{memory_of, IsUndone, Backs, SaysIn, Says, CoversBy, Covers}
use Rattle.history_law.specs.TicketSafety.{IsCovered, IsOpen, xid_in, IsOfGrant, TicketsAreSafe, AreNumbered, EachIsSafe, TicketsLaw}
use Rattle.history_law.proofs.Tests.{true_false, and_both, false_not, nat_same, find_none, in_filter, member_found}
use Rattle.history_law.proofs.Branches.{one_branch}
use Rattle.history_law.proofs.UndoRecords.{HasCommit, WithUndo, IsCleared, change_has, leg_of}
use Rattle.history_law.proofs.Deliveries.{brought_says}
use Rattle.history_law.proofs.Nodes.{ran}
use Rattle.history_law.proofs.ManagerSteps.{IsManagers, SendsManagers, manager_says}
use Rattle.history_law.proofs.CoordinatorAnswers.{OnRecord, OnAct, MayAct, coordinator_may}
use Rattle.history_law.proofs.CoordinatorCauses.{CausedBy, TellsOf, coordinator_says}
use Rattle.history_law.proofs.CoordinatorSteps.{coordinator_moves}
use Rattle.history_law.proofs.ResourceSteps.{resource_moves}
use Rattle.history_law.proofs.CoverCoordinator.{MayCaused, covers_coordinator}
use Rattle.history_law.proofs.CoverResource.{covers_resource, in_added}
use Rattle.seata_types.specs.declared.acts.Act.{Act}
use Rattle.history_rules.specs.CoordinatorMemory.{session_record}

-- two things that hold of what an act asks for
both_records : (C D : SessionRecord → Type 0) (r : Option SessionRecord) → OnRecord C r → OnRecord D r → OnRecord (λ r. C r × D r) r
both_records C D None c d = tt
both_records C D (Some r) c d = (c, d)

pub both_acts : (C D : SessionRecord → Type 0) (now : ℕ) (event : Event) (done : Act) → OnAct C now event done → OnAct D now event done → OnAct (λ r. C r × D r) now event done
both_acts C D now event (act.Durable d) c e = both_records C D (session_record now event d) c e
both_acts C D now event (act.Down kept at) c e = absurd c
both_acts C D now event (act.Restarted kept) c e = absurd c
both_acts C D now event _ c e = tt

module _ (w : World) (past : Past) (numbered : AreNumbered w) (ms : List Moment) (m : Moment) (legal : Legal w past ms) (stands : Stands w past ms m) (c : Covers w past ms) where
  abbrev tc : Left SessionRecord
  tc = coordinator_left past ms

  abbrev mem : ℕ → Setup → Memory
  mem = memory_of past ms

  abbrev tc_by : Place → Option Event → Left SessionRecord
  tc_by p event = sessions_left past.sessions (own_if (same_place place.Tc p) event m (own place.Tc ms))

  abbrev mem_by : Place → Option Event → ℕ → Setup → Memory
  mem_by p event n s = memory s (past.resource n) (own_if (same_place (place.Res n) p) event m (own (place.Res n) ms))

  -- what a message says that comes
  heard_at : (p : Place) (event : Event) → p ≡ m.place → Some event ≡ m.event → (from : Place) (msg : Message) → event ≡ Given (input.Message from msg) → SaysIn w tc mem from p msg
  heard_at p event at same from msg is =
      brought_says (Says w tc mem) ms p m.cause from msg c.said
      (ap (λ q. brings ms q m.cause) at ∙ sym stands.brought ∙ sym same ∙ ap (λ e. Some e) is)

  -- an entry that changes nothing that stands
  quiet : OnSent (Says w tc mem) m.place m.step.sent → CoversBy w tc mem (m ∷ ms)
  quiet said = record { allowed = c.allowed; at = c.at; ended = c.ended; said = (c.said, said) }

  silent : m.step ≡ still act.Nothing → OnSent (Says w tc mem) m.place m.step.sent
  silent e = subst (λ (step : Step). OnSent (Says w tc mem) m.place step.sent) (sym e) tt

  manager_message : (to : Place) (msg : Message) → IsManagers msg → SaysIn w tc mem m.place to msg
  manager_message to (message.Begin k timeout) is = tt
  manager_message to (message.Call xid k r d work) is = tt
  manager_message to (message.GlobalCommit xid) is = tt
  manager_message to (message.GlobalRollback xid) is = tt
  manager_message to (message.GlobalStatus xid) is = tt
  manager_message to _ is = absurd is

  managers_say : (sent : Option Outgoing) → SendsManagers sent → OnSent (Says w tc mem) m.place sent
  managers_say None s = tt
  managers_say (Some out) s = manager_message out.to out.message s

  at_tc : (event : Event) → place.Tc ≡ m.place → Some event ≡ m.event → Happens (Coordinator w.times past.sessions) (own place.Tc ms) m.now event m.step
      → CoversBy w (tc_by place.Tc (Some event)) mem (m ∷ ms)
  at_tc event at same h =
      let os = own place.Tc ms in
      let rs = tc.records in
      let v = coordinator_moves event m.now (MayCaused rs event) (λ after sent. TellsOf after event sent) (λ after. tt) w.times past.sessions os m.step
      (λ given is.
      let step = coordinator_answer w.times past.sessions os rs m.now given in
      let may = (coordinator_may w.times past.sessions os rs m.now given).0 in
      let says = coordinator_says w.times past.sessions os rs m.now given in (
        both_acts (May rs) (CausedBy rs event) m.now event step.act
            (subst (λ e. MayAct rs m.now e step.act) (sym is) may) (subst (λ e. OnAct (CausedBy rs e) m.now e step.act) (sym is) says.0),
        told event given (sym is) step says.1,
      )) h in
      covers_coordinator w tc mem ms c event (heard_at place.Tc event at same) (tc_by place.Tc (Some event)) v.0 m (sym at) v.1
    where
      told : (event : Event) (given : Rattle.seata_types.specs.declared.messages.Input.Input) → Given given ≡ event → (step : Step)
          → TellsOf (added (Rattle.std.specs.Option.option_and_then (session_record m.now (Given given)) (Rattle.history_rules.specs.Own.asked_act step.act)) (coordinator_left past ms).records) (Given given) step.sent
          → TellsOf (added (Rattle.std.specs.Option.option_and_then (session_record m.now event) (Rattle.history_rules.specs.Own.asked_act step.act)) (coordinator_left past ms).records) event step.sent
      told event given is step said =
          subst (λ e. TellsOf (added (Rattle.std.specs.Option.option_and_then (session_record m.now e) (Rattle.history_rules.specs.Own.asked_act step.act)) (coordinator_left past ms).records) e step.sent) is said

  at_resource : (k : ℕ) (event : Event) → place.Res k ≡ m.place → Some event ≡ m.event → (o : Option Setup) → counted_at w.resources k ≡ o
      → HappensAt (option_map (λ s. Resource s (past.resource k)) o) (own (place.Res k) ms) m.now event m.step
      → CoversBy w tc (mem_by (place.Res k) (Some event)) (m ∷ ms)
  at_resource k event at same None known d = absurd d
  at_resource k event at same (Some s) known d =
      let moves = resource_moves s (past.resource k) (own (place.Res k) ms) event m.now m.step (c.at k s known).tickets d in
      covers_resource w tc mem ms c k s known (numbered k s known) event (heard_at (place.Res k) event at same) m.now m.step moves
      (mem_by (place.Res k) (Some event))
      (ap (λ b. memory s (past.resource k) (own_if b (Some event) m (own (place.Res k) ms))) (nat_same k k refl))
      (λ j q e. ap (λ b. memory q (past.resource j) (own_if b (Some event) m (own (place.Res j) ms))) e)
      m (sym at) refl

  at_manager : (k : ℕ) (event : Event) → (o : Option Settings) → counted_at w.managers k ≡ o → HappensAt (option_map (λ s. Manager s) o) (own (place.Man k) ms) m.now event m.step
      → CoversBy w tc mem (m ∷ ms)
  at_manager k event None known d = absurd d
  at_manager k event (Some settings) known d =
      let role : role_at w past (place.Man k) ≡ Some (Manager settings) = ap (option_map (λ s. Manager s)) known in
      quiet (managers_say m.step.sent (manager_says settings (own (place.Man k) ms) (ran w past (place.Man k) (Manager settings) role ms legal) event m.now m.step d))

  at_place : (p : Place) (event : Option Event) → p ≡ m.place → event ≡ m.event → IsDone w past ms m event → CoversBy w (tc_by p event) (mem_by p event) (m ∷ ms)
  at_place place.Tc (Some event) at same done = at_tc event at same (subst (λ p. HappensAt (role_at w past p) (own p ms) m.now event m.step) (sym at) done)
  at_place place.Tc None at same done = quiet (silent done.1)
  at_place (place.Res k) (Some event) at same done =
      at_resource k event at same (counted_at w.resources k) refl (subst (λ p. HappensAt (role_at w past p) (own p ms) m.now event m.step) (sym at) done)
  at_place (place.Res k) None at same done = absurd (subst (λ p. ComesToNone ms p m.cause) (sym at) done.0)
  at_place (place.Man k) (Some event) at same done =
      at_manager k event (counted_at w.managers k) refl (subst (λ p. HappensAt (role_at w past p) (own p ms) m.now event m.step) (sym at) done)
  at_place (place.Man k) None at same done = quiet (silent done.1)
  at_place place.Net (Some event) at same done = absurd (subst (λ p. HappensAt (role_at w past p) (own p ms) m.now event m.step) (sym at) done)
  at_place place.Net None at same done = quiet (silent done.1)

pub covers : (w : World) (past : Past) → AreNumbered w → Covers w past [] → (ms : List Moment) → Legal w past ms → Covers w past ms
covers w past numbered start [] legal = start
covers w past numbered start (m ∷ ms) legal = at_place w past numbered ms m legal.0 legal.1 (covers w past numbered start ms legal.0) m.place m.event refl refl legal.1.done

-- ---- what is claimed

module _ (w : World) (past : Past) (ms : List Moment) (c : Covers w past ms) where
  abbrev rs : List SessionRecord
  rs = (coordinator_left past ms).records

  -- an ended branch that isn't committed has no undo record
  pub ended_none : (n : ℕ) (s : Setup) → counted_at w.resources n ≡ Some s → (g : Grant) → In g (grants rs) → g.kind ≡ kind.At → g.resource ≡ n → is_ended rs g.xid g.branch ≡ true
      → (is_commit (decided rs g.xid) ≡ true) ⊎ (undo_of (memory_of past ms n s).left.records g.xid g.branch ≡ None)
  ended_none n s is g i at here e = by (c.ended.0 g.xid g.branch e)
    where
      by : (is_commit (decided (coordinator_left past ms).records g.xid) ≡ true)
          ⊎ ((h : Grant) × (In h (grants (coordinator_left past ms).records)) × (h.xid ≡ g.xid) × (h.branch ≡ g.branch)
          × (h.kind ≡ kind.At → (q : Setup) → counted_at w.resources h.resource ≡ Some q → IsUndone (memory_of past ms h.resource q) h))
          → (is_commit (decided (coordinator_left past ms).records g.xid) ≡ true) ⊎ (undo_of (memory_of past ms n s).left.records g.xid g.branch ≡ None)
      by (inl commits) = inl commits
      by (inr (h, j, hx, hb, undone)) =
          let same : h ≡ g = one_branch (coordinator_left past ms).records c.allowed.0 h g j i hb in
          let there : h.resource ≡ n = ap (λ q. q.resource) same ∙ here in
          let none = undone (ap (λ q. q.kind) same ∙ at) s (ap (counted_at w.resources) there ∙ is) in
          inr (subst (λ q. undo_of (memory_of past ms n s).left.records q g.branch ≡ None) hx
          (subst (λ q. undo_of (memory_of past ms n s).left.records h.xid q ≡ None) hb
          (subst (λ q. undo_of (memory_of past ms q s).left.records h.xid h.branch ≡ None) there none.0.0)))

  module _ (n : ℕ) (s : Setup) (is : counted_at w.resources n ≡ Some s) where
    abbrev m : Memory
    m = memory_of past ms n s

    holds_it : (key : RowKey) (u : Undo) (b : Backs rs n m u) → has_key (image_keys u.images) key ≡ true → is_holding rs b.branch ≡ true → holds rs u.xid key ≡ true
    holds_it key u b h holding_it =
        let row : holds_row rs key b.branch ≡ true = and_both (has_key b.branch.hold key) (is_holding rs b.branch) (ap (λ ks. has_key ks key) (sym b.hold) ∙ h) holding_it in
        member_found (λ g. g.xid == u.xid) (holding rs key) b.branch (in_filter (holds_row rs key) (grants rs) b.branch b.granted row) (nat_same b.branch.xid u.xid b.xid)

    no_such_undo : (u : Undo) → In u (undos m.left.records) → (b : Backs rs n m u) → undo_of m.left.records b.branch.xid b.branch.branch ≡ None → ⊥
    no_such_undo u i b none =
        true_false (sym (leg_of u b.branch.xid b.branch.branch (sym b.xid) (sym b.number)) ∙ find_none (is_leg b.branch.xid b.branch.branch) (undos m.left.records) u none i)

    covered_by : (key : RowKey) (u : Undo) → In u (undos m.left.records) → has_key (image_keys u.images) key ≡ true → (b : Backs rs n m u)
        → (ended committed : Bool) → is_ended rs b.branch.xid b.branch.branch ≡ ended → is_commit (decided rs b.branch.xid) ≡ committed
        → (is_commit (decided rs u.xid) ≡ true) ⊎ (holds rs u.xid key ≡ true)
    covered_by key u i h b ended true e k = inl (subst (λ x. is_commit (decided rs x) ≡ true) b.xid k)
    covered_by key u i h b false false e k =
        inr (holds_it key u b h (and_both (not (is_ended rs b.branch.xid b.branch.branch)) (not (is_commit (decided rs b.branch.xid)))
        (false_not (is_ended rs b.branch.xid b.branch.branch) e) (false_not (is_commit (decided rs b.branch.xid)) k)))
    covered_by key u i h b true false e k = by (ended_none n s is b.branch b.granted b.at b.resource e)
      where
        by : (is_commit (decided (coordinator_left past ms).records b.branch.xid) ≡ true) ⊎ (undo_of (memory_of past ms n s).left.records b.branch.xid b.branch.branch ≡ None)
            → (is_commit (decided (coordinator_left past ms).records u.xid) ≡ true) ⊎ (holds (coordinator_left past ms).records u.xid key ≡ true)
        by (inl commits) = true_false (sym commits ∙ k)
        by (inr none) = absurd (no_such_undo u i b none)

    commit_covered : (x b : ℕ) (key : RowKey) → HasCommit m.left.records x b key → (is_commit (decided rs x) ≡ true) ⊎ (holds rs x key ≡ true)
    commit_covered x b key (WithUndo u i ex eb h) =
        let back = (c.at n s is).backed u (inl i) in
        subst (λ q. (is_commit (decided rs q) ≡ true) ⊎ (holds rs q key ≡ true)) ex
        (covered_by key u i h back (is_ended rs back.branch.xid back.branch.branch) (is_commit (decided rs back.branch.xid)) refl refl)
    commit_covered x b key (IsCleared i) = inl ((c.at n s is).cleared x b (in_added m.left.flight m.left.records _ i))

    change_covered : (key : RowKey) (d : Change) → In d (changes m.left.records key) → IsCovered rs key d
    change_covered key (ByBranch x b before after) i = commit_covered x b key (change_has x b before after key m.left.records i)
    change_covered key (ByLocal after) i = tt
    change_covered key (ByOutside after) i = tt

    holder_of : (x : ℕ) (key : RowKey) → is_commit (decided rs x) ≡ false → (is_commit (decided rs x) ≡ true) ⊎ (holds rs x key ≡ true) → holds rs x key ≡ true
    holder_of x key undecided (inl commits) = true_false (sym commits ∙ undecided)
    holder_of x key undecided (inr held) = held

    -- those on a row that aren't decided commit hold it, and so are of one transaction
    one_open : (key : RowKey) (d e : Change) → In d (changes m.left.records key) → In e (changes m.left.records key) → IsOpen rs d → IsOpen rs e → xid_in d ≡ xid_in e
    one_open key (ByBranch x b before after) (ByBranch y f p q) i j undecided other =
        one_holder rs c.allowed.0 key x y (holder_of x key undecided (change_covered key (ByBranch x b before after) i)) (holder_of y key other (change_covered key (ByBranch y f p q) j))
    one_open key (ByLocal after) e i j undecided other = absurd undecided
    one_open key (ByOutside after) e i j undecided other = absurd undecided
    one_open key (ByBranch x b before after) (ByLocal q) i j undecided other = absurd other
    one_open key (ByBranch x b before after) (ByOutside q) i j undecided other = absurd other

    of_grant : (u : Undo) → In u (undos m.left.records) → IsOfGrant rs n u
    of_grant u i =
        let b = (c.at n s is).backed u (inl i) in
        record { branch = b.branch; granted = b.granted; xid = b.xid; number = b.number; resource = b.resource; hold = sym b.hold }

    tickets_safe : TicketsAreSafe rs n m
    tickets_safe =
        let a = c.at n s is in
        record {
          covered = change_covered;
          one_open = one_open;
          granted = of_grant;
          disjoint = λ o p i j key ho hp. a.tickets.distinct o p i j (a.tickets.disjoint o p i j key ho hp);
          marked = a.marks.0;
          ended = λ g i at here e. ended_none n s is g i at here e;
        }

  pub each_safe : EachIsSafe w past ms
  each_safe n s is = tickets_safe n s is

pub tickets_law : TicketsLaw
tickets_law w past [] numbered start legal = each_safe w past [] start
tickets_law w past (m ∷ ms) numbered start legal =
    (tickets_law w past ms numbered start legal.0, each_safe w past (m ∷ ms) (covers w past numbered start (m ∷ ms) legal))
