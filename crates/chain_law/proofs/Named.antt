-- The coordinator's records in a legal history name managers and resources of its scenario.
use Rattle.std.proofs.Common.{◌≡◌, inl, inr, ◌&&◌, ℕ, nat_le, true, List, [], ◌∷◌, length, Option, Some, None, refl, ap, sym, subst, ◌∙◌}
use Rattle.std.specs.List.{AllByRecursion, list_all}
use Rattle.std.specs.Option.{option_and_then}
use Rattle.seata_types.specs.declared.acts.Act.{Act}
use Rattle.seata_types.specs.declared.acts.Act.TheVariants as act
use Rattle.seata_types.specs.declared.acts.Durable.{Durable}
use Rattle.seata_types.specs.declared.acts.Durable.TheVariants as durable
use Rattle.seata_types.specs.declared.ids.BranchId.{BranchId}
use Rattle.seata_types.specs.declared.ids.Place.{Place}
use Rattle.seata_types.specs.declared.ids.Place.TheVariants as place
use Rattle.seata_types.specs.declared.ids.Xid.{Xid}
use Rattle.seata_types.specs.declared.limits.TheConstants.{CALLS, CALL_ROWS}
use Rattle.seata_types.specs.declared.messages.Input.TheVariants as input
use Rattle.seata_types.specs.declared.messages.Message.TheVariants as message
use Rattle.durable_records.specs.declared.coordinators.SessionRecord.{SessionRecord}
use Rattle.durable_records.specs.declared.coordinators.SessionRecord.TheVariants as log
use Rattle.durable_records.specs.SessionOrder.{has_resource, is_counted, is_within}
use Rattle.history_rules.specs.Own.{Event, Given, Left, added, asked_act, kept_part, leaves}
use Rattle.history_rules.specs.CoordinatorMemory.{begun_by, granted_by, session_asked, session_record, sessions_left}
use Rattle.history_rules.specs.Nodes.{MayStand, Past, World}
use Rattle.history_rules.specs.Histories.{Legal, Moment, brings, coordinator_left, own, own_if, same_place}
use Rattle.history_law.specs.MessageSafety.{NamesNodes, ReachesNode}
use Rattle.history_law.specs.Network.{EachSent}
use Rattle.history_law.proofs.Deliveries.{brought_says}
use Rattle.history_law.proofs.Tests.{and_both, and_left, and_right}

-- ---- records

-- what a record names is there
abbrev pub Named : World → SessionRecord → Type 0
Named w (log.Begun xid manager begun timeout) = is_counted (length w.managers) manager ≡ true
Named w (log.Granted xid branch resource call ticket kind hold) =
    (is_counted (length w.resources) resource ≡ true) × (list_all (has_resource (length w.resources)) hold ≡ true)
Named w _ = Unit {0}

abbrev pub AreNamed : World → List SessionRecord → Type 0
AreNamed w rs = AllByRecursion (Named w) rs

-- of a record, if there is one
abbrev pub IfNamed : World → Option SessionRecord → Type 0
IfNamed w None = Unit {0}
IfNamed w (Some r) = Named w r

-- records that are within numbers name what is there
within_named : (w : World) (r : SessionRecord) → is_within (length w.managers) (length w.resources) r ≡ true → Named w r
within_named w (log.Begun xid manager begun timeout) all = all
within_named w (log.Granted xid branch resource call ticket kind hold) all =
    let rest = and_right (is_counted (length w.resources) resource) (is_counted CALLS call && (list_all (has_resource (length w.resources)) hold && nat_le (length hold) CALL_ROWS)) all in (
      and_left (is_counted (length w.resources) resource) (is_counted CALLS call && (list_all (has_resource (length w.resources)) hold && nat_le (length hold) CALL_ROWS)) all,
      and_left (list_all (has_resource (length w.resources)) hold) (nat_le (length hold) CALL_ROWS)
          (and_right (is_counted CALLS call) (list_all (has_resource (length w.resources)) hold && nat_le (length hold) CALL_ROWS) rest),
    )
within_named w _ all = tt

pub are_named : (w : World) (rs : List SessionRecord) → list_all (is_within (length w.managers) (length w.resources)) rs ≡ true → AreNamed w rs
are_named w [] all = tt
are_named w (r ∷ rs) all = (
  within_named w r (and_left (is_within (length w.managers) (length w.resources) r) (list_all (is_within (length w.managers) (length w.resources)) rs) all),
  are_named w rs (and_right (is_within (length w.managers) (length w.resources) r) (list_all (is_within (length w.managers) (length w.resources)) rs) all),
)

-- and the other way round, where they are within some numbers
named_within : (w : World) (managers resources : ℕ) (r : SessionRecord) → is_within managers resources r ≡ true → Named w r → is_within (length w.managers) (length w.resources) r ≡ true
named_within w managers resources (log.Begun xid manager begun timeout) all named = named
named_within w managers resources (log.Granted xid branch resource call ticket kind hold) all named =
    let rest = and_right (is_counted resources resource) (is_counted CALLS call && (list_all (has_resource resources) hold && nat_le (length hold) CALL_ROWS)) all in
    let rows = and_right (is_counted CALLS call) (list_all (has_resource resources) hold && nat_le (length hold) CALL_ROWS) rest in
    and_both (is_counted (length w.resources) resource) (is_counted CALLS call && (list_all (has_resource (length w.resources)) hold && nat_le (length hold) CALL_ROWS)) named.0
    (and_both (is_counted CALLS call) (list_all (has_resource (length w.resources)) hold && nat_le (length hold) CALL_ROWS)
    (and_left (is_counted CALLS call) (list_all (has_resource resources) hold && nat_le (length hold) CALL_ROWS) rest)
    (and_both (list_all (has_resource (length w.resources)) hold) (nat_le (length hold) CALL_ROWS) named.1 (and_right (list_all (has_resource resources) hold) (nat_le (length hold) CALL_ROWS) rows)))
named_within w managers resources _ all named = refl

pub are_within : (w : World) (managers resources : ℕ) (rs : List SessionRecord) → list_all (is_within managers resources) rs ≡ true → AreNamed w rs
    → list_all (is_within (length w.managers) (length w.resources)) rs ≡ true
are_within w managers resources [] all named = refl
are_within w managers resources (r ∷ rs) all named =
    and_both (is_within (length w.managers) (length w.resources) r) (list_all (is_within (length w.managers) (length w.resources)) rs)
    (named_within w managers resources r (and_left (is_within managers resources r) (list_all (is_within managers resources) rs) all) named.0)
    (are_within w managers resources rs (and_right (is_within managers resources r) (list_all (is_within managers resources) rs) all) named.1)

-- ---- the record of an entry

-- what an event names is there
abbrev EventNamed : World → Event → Type 0
EventNamed w (Given (input.Message from heard)) = NamesNodes w heard
EventNamed w _ = Unit {0}

module _ (w : World) where
  begun_named : (xid : Xid) (now : ℕ) (event : Event) → EventNamed w event → IfNamed w (begun_by xid now event)
  begun_named xid now (Given (input.Message from (message.Begin manager timeout))) named = named
  begun_named xid now _ named = tt

  granted_named : (xid : Xid) (branch : BranchId) (event : Event) → EventNamed w event → IfNamed w (granted_by xid branch event)
  granted_named xid branch (Given (input.Message from (message.Register asked resource call ticket kind hold check))) named = named
  granted_named xid branch _ named = tt

  record_named : (now : ℕ) (event : Event) → EventNamed w event → (d : Durable) → IfNamed w (session_record now event d)
  record_named now event named (durable.Begun xid) = begun_named xid now event named
  record_named now event named (durable.Granted xid branch) = granted_named xid branch event named
  record_named now event named _ = tt

  asked_named : (now : ℕ) (event : Event) → EventNamed w event → (d : Option Durable) → IfNamed w (option_and_then (session_record now event) d)
  asked_named now event named None = tt
  asked_named now event named (Some d) = record_named now event named d

  -- ---- what entries leave

  pub record LeftNamed (left : Left SessionRecord) : Type 0 where
    pub stand : AreNamed w left.records
    pub fly : IfNamed w left.flight

  added_named : (r : Option SessionRecord) (rs : List SessionRecord) → IfNamed w r → AreNamed w rs → AreNamed w (added r rs)
  added_named None rs named all = all
  added_named (Some r) rs named all = (named, all)

  part_named : (kept : Option Durable) (flight : Option SessionRecord) → IfNamed w flight → IfNamed w (kept_part kept flight)
  part_named None flight named = tt
  part_named (Some d) flight named = named

  left_after : (done : Act) (asked : Option SessionRecord) (left : Left SessionRecord) → IfNamed w asked → LeftNamed left → LeftNamed (leaves done asked left)
  left_after (act.Durable d) asked left named before = record { stand = added_named asked left.records named before.stand; fly = tt }
  left_after (act.Down kept at) asked left named before = record { stand = added_named (kept_part kept left.flight) left.records (part_named kept left.flight before.fly) before.stand; fly = named }
  left_after (act.Restarted kept) asked left named before = record { stand = added_named (kept_part kept left.flight) left.records (part_named kept left.flight before.fly) before.stand; fly = tt }
  left_after _ asked left named before = before

  pub may_stand_named : (left : Left SessionRecord) (rs : List SessionRecord) → LeftNamed left → MayStand left rs → AreNamed w rs
  may_stand_named left rs named (inl is) = subst (AreNamed w) (sym is) named.stand
  may_stand_named left rs named (inr (r, flies, is)) = subst (AreNamed w) (sym is) (subst (IfNamed w) flies named.fly, named.stand)

  -- ---- in a legal history, whose messages name what is there

  module _ (past : Past) where
    module _ (ms : List Moment) (m : Moment) (sent : EachSent (ReachesNode w past) ms) (brought : m.event ≡ brings ms m.place m.cause) where
      event_named : (event : Event) → Some event ≡ brings ms place.Tc m.cause → EventNamed w event
      event_named (Given (input.Message from heard)) e = (brought_says (ReachesNode w past) ms place.Tc m.cause from heard sent (sym e)).named
      event_named _ e = tt

      at_place : (p : Place) (event : Option Event) → p ≡ m.place → event ≡ m.event → LeftNamed (coordinator_left past ms)
          → LeftNamed (sessions_left past.sessions (own_if (same_place place.Tc p) event m (own place.Tc ms)))
      at_place place.Tc (Some event) at is before =
          let here : Some event ≡ brings ms place.Tc m.cause = is ∙ brought ∙ ap (λ (p : Place). brings ms p m.cause) (sym at) in
          left_after m.step.act (session_asked (record { event = event; now = m.now; step = m.step })) (coordinator_left past ms) (asked_named m.now event (event_named event here) (asked_act m.step.act)) before
      at_place place.Tc None at is before = before
      at_place place.Net event at is before = before
      at_place (place.Res n) event at is before = before
      at_place (place.Man n) event at is before = before

    pub left_named : (ms : List Moment) → Legal w past ms → EachSent (ReachesNode w past) ms → AreNamed w past.sessions → LeftNamed (coordinator_left past ms)
    left_named [] legal sent first = record { stand = first; fly = tt }
    left_named (m ∷ ms) legal sent first = at_place ms m sent.0 legal.1.brought m.place m.event refl refl (left_named ms legal.0 sent.0 first)
