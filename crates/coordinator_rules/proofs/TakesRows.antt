-- The answers to registrations and questions for rows are those of the rules.
use Rattle.std.proofs.Common.{◌≡◌, ◌==◌, ◌&&◌, ◌<◌, ◌+◌, ◌^◌, not, ℕ, Bool, true, false, if◌then◌else◌, List, [], ◌∷◌, ◌++◌, Option, Some, None, option_map, is_none, refl, sym, ap, subst, ◌∙◌, arith}
use Rattle.std.specs.Prelude.{All, IfSome}
use Rattle.std.specs.List.{AllByRecursion, list_all}
use Rattle.std.proofs.lemmas.List.{append-nil}
use Rattle.std.proofs.lemmas.List.Elements.{recursion_from_All}
use Rattle.std.proofs.lemmas.List.Folds.{list_all-append}
use Rattle.seata_types.specs.declared.acts.Act.TheVariants as act
use Rattle.seata_types.specs.declared.acts.Durable.TheVariants as durable
use Rattle.seata_types.specs.declared.ids.Xid.{Xid}
use Rattle.seata_types.specs.declared.ids.Leg.{Leg}
use Rattle.seata_types.specs.declared.ids.Ticket.{Ticket}
use Rattle.seata_types.specs.declared.ids.Place.{Place}
use Rattle.seata_types.specs.declared.ids.Place.TheVariants as place
use Rattle.seata_types.specs.declared.messages.Input.{Input}
use Rattle.seata_types.specs.declared.messages.Input.TheVariants as input
use Rattle.seata_types.specs.declared.messages.Message.TheVariants as message
use Rattle.seata_types.specs.declared.messages.Registered.TheVariants as registered
use Rattle.seata_types.specs.declared.messages.Step.{Step}
use Rattle.seata_types.specs.declared.rows.RowKey.{RowKey}
use Rattle.seata_types.specs.declared.statuses.BranchKind.{BranchKind}
use Rattle.seata_types.specs.declared.statuses.BranchKind.TheVariants as kind
use Rattle.seata_types.specs.declared.statuses.Decision.TheVariants as how
use Rattle.durable_records.specs.declared.coordinators.SessionRecord.{SessionRecord}
use Rattle.durable_records.specs.declared.coordinators.SessionRecord.TheVariants as log
use Rattle.durable_records.specs.Transactions.{session, decided, is_rollback}
use Rattle.durable_records.specs.Branches.{Grant, granted}
use Rattle.durable_records.specs.Progress.{status_of, may_decide}
use Rattle.durable_records.specs.Locks.{first_held as held_first}
use Rattle.durable_records.specs.SessionOrder.{has_resource}
use Rattle.byte_fields.specs.Layout.{FitsKey}
use Rattle.frame_codec.specs.Limits.{IsKeyWithin}
use Rattle.history_rules.specs.Own.{sends}
use Rattle.history_rules.specs.CoordinatorMemory.{is_past}
use Rattle.history_rules.specs.CoordinatorRules.{Request, register_answer, open_answer, timely_answer, hold_answer, query_answer}
use Rattle.lock_table.specs.Locks.{Locks, locked, if_other, first_locked, first_held, locks}
use Rattle.session_log.specs.declared.sessions.RegisterPlace.{RegisterPlace}
use Rattle.session_log.specs.declared.sessions.Snapshot.{Snapshot}
use Rattle.session_memory.specs.Changes.{may_come, is_begin, is_new, are_free, granted_record}
use Rattle.session_memory.specs.Holding.{keeps_rows, held_in}
use Rattle.session_memory.specs.Lookups.{status_in, session_in, ticket_leg, call_leg}
use Rattle.session_memory.proofs.Small.{true_false, none_some, and_left, and_right, and_both, nat_same}
use Rattle.coordinator_rules.specs.declared.answers.Answer.{Answer}
use Rattle.coordinator_rules.specs.Answers.{Answers, IsRuled, IsSentBy, answer}
use Rattle.coordinator_rules.specs.Choices.{has_passed_in, leg_of_kind, leg_in, nobody, is_rolling}
use Rattle.coordinator_rules.specs.Framing.{ComesFramable, SendsFramable}
use Rattle.coordinator_rules.specs.Knowledge.{Knowledge}
use Rattle.coordinator_rules.specs.Naming.{AreRows, ComesNamed, IsNamed, NamesResource}
use Rattle.coordinator_rules.specs.Registering.{GoesByRows, conflict_answer, granted_answer, next_leg, registers, rows_answer}
use Rattle.coordinator_rules.specs.Steps.{regranted_step, closed_step, late_step, granted_step, conflict_step, held_step, IsFramableKey, IsFramableRow}
use Rattle.coordinator_rules.specs.Tracks.{Course, Follows, records}
use Rattle.coordinator_rules.proofs.AnswerLaws.{told, told_ruled, made, made_ruled}
use Rattle.coordinator_rules.proofs.Kept.{is_quiet}
use Rattle.coordinator_rules.proofs.Laws.{leg_of_grant, held_row}
use Rattle.coordinator_rules.proofs.Takes.{alike, status_is, begins_is, passed_is, known_may}

-- ---- rows

kept_by : (a : RowKey) (y : Xid) (more less : Option (RowKey × Xid)) → (more ≡ None → less ≡ None) → (b : Bool) → (if b then more else Some (a, y)) ≡ None → (if b then less else Some (a, y)) ≡ None
kept_by a y more less below true e = below e
kept_by a y more less below false e = none_some (sym e)

free_more : (x : Xid) (a : RowKey) (more less : Option (RowKey × Xid)) → (more ≡ None → less ≡ None) → (o : Option Xid) → if_other a x o more ≡ None → if_other a x o less ≡ None
free_more x a more less below None e = below e
free_more x a more less below (Some y) e = kept_by a y more less below (y.0 == x.0) e

first_of_more : (ls : Locks) (x : Xid) (front bs : List RowKey) → first_locked ls x (front ++ bs) ≡ None → first_locked ls x front ≡ None
first_of_more ls x [] bs e = refl
first_of_more ls x (a ∷ front) bs e = free_more x a (first_locked ls x (front ++ bs)) (first_locked ls x front) (first_of_more ls x front bs) (locked ls a) e

-- no branch was registered for this
new_of_kind : (s : Snapshot) (xid : Xid) (p : RegisterPlace) (k : BranchKind) → leg_of_kind s xid p.resource p.call p.ticket k ≡ None → is_new s xid p.resource p.call p.ticket k ≡ true
new_of_kind s xid p kind.At e = ap is_none e
new_of_kind s xid p kind.Tcc e = ap is_none e

pub is_new_branch : (s : Snapshot) (xid : Xid) (p : RegisterPlace) → leg_in s xid p ≡ None → is_new s xid p.resource p.call p.ticket p.kind ≡ true
is_new_branch s xid p e = new_of_kind s xid p p.kind e

-- the row that is found is one of those that were asked for
module _ (P : RowKey → Type 0) where
  other_by : (k key : RowKey) (y by : Xid) (rest : Option (RowKey × Xid)) → P k → (rest ≡ Some (key, by) → P key) → (b : Bool) → (if b then rest else Some (k, y)) ≡ Some (key, by) → P key
  other_by k key y by rest here below true e = below e
  other_by k key y by rest here below false e = let pair : (k, y) ≡ (key, by) = cc in subst P (ap (λ (z : RowKey × Xid). z.0) pair) here

  among_by : (x : Xid) (k key : RowKey) (by : Xid) (rest : Option (RowKey × Xid)) → P k → (rest ≡ Some (key, by) → P key) → (o : Option Xid) → if_other k x o rest ≡ Some (key, by) → P key
  among_by x k key by rest here below None e = below e
  among_by x k key by rest here below (Some y) e = other_by k key y by rest here below (y.0 == x.0) e

  found_among : (ls : Locks) (x : Xid) (ks : List RowKey) (key : RowKey) (by : Xid) → AllByRecursion P ks → first_locked ls x ks ≡ Some (key, by) → P key
  found_among ls x [] key by a e = none_some e
  found_among ls x (k ∷ ks) key by a e = among_by x k key by (first_locked ls x ks) a.0 (found_among ls x ks key by a.1) (locked ls k) e

  both_among : (front bs : List RowKey) → AllByRecursion P front → AllByRecursion P bs → AllByRecursion P (front ++ bs)
  both_among [] bs a b = b
  both_among (k ∷ front) bs a b = (a.0, both_among front bs a.1 b)

  row_among : (ls : Locks) (x : Xid) (front bs : List RowKey) (key : RowKey) (by : Xid) → All P front → All P bs → first_locked ls x (front ++ bs) ≡ Some (key, by) → P key
  row_among ls x front bs key by a b e = found_among ls x (front ++ bs) key by (both_among front bs (recursion_from_All P front a) (recursion_from_All P bs b)) e

tested : (test : RowKey → Bool) (ks : List RowKey) → list_all test ks ≡ true → AllByRecursion (λ k. test k ≡ true) ks
tested test [] e = tt
tested test (k ∷ ks) e = (and_left (test k) (list_all test ks) e, tested test ks (and_right (test k) (list_all test ks) e))

-- and it is of a resource where they all are
row_named : (s : Snapshot) (resources : ℕ) (x : Xid) (ks : List RowKey) (key : RowKey) (by : Xid) → AreRows resources ks → first_held (held_in s) x ks ≡ Some (key, by) → has_resource resources key ≡ true
row_named s resources x ks key by rows there = found_among (λ k. has_resource resources k ≡ true) (locks (held_in s)) x ks key by (tested (has_resource resources) ks rows) there

-- ---- registrations

found_by : (rs : List SessionRecord) (now : ℕ) (q : Request) (p : RegisterPlace) (leg : Leg) (o : Option Grant) → q.resource ≡ p.resource → q.ticket ≡ p.ticket → option_map leg_of_grant o ≡ Some leg
    → regranted_step p leg ≡ register_answer rs now q o
found_by rs now q p leg None r t e = none_some e
found_by rs now q p leg (Some g) r t e =
    let same : leg_of_grant g ≡ leg = cc in
    ap (regranted_step p) (sym same)
    ∙ ap (λ n. sends (act.Regranted (leg_of_grant g).xid (leg_of_grant g).branch) (place.Res n) (message.RegisterAnswer p.ticket (leg_of_grant g).xid (registered.Granted (leg_of_grant g).branch))) (sym r)
    ∙ ap (λ k. sends (act.Regranted (leg_of_grant g).xid (leg_of_grant g).branch) (place.Res q.resource) (message.RegisterAnswer k (leg_of_grant g).xid (registered.Granted (leg_of_grant g).branch))) (sym t)

none_granted : (o : Option Grant) → option_map leg_of_grant o ≡ None → o ≡ None
none_granted None e = refl
none_granted (Some g) e = none_some (sym e)

-- what is sent to the resource that asked
pub to_asker : (from : Place) (xid : Xid) (p : RegisterPlace) (hold check : List RowKey) (step : Step) → SendsFramable step → NamesResource p.resource step
    → IsSentBy (input.Message from (registers xid p hold check)) step
to_asker from xid p hold check step framable named = λ managers resources. record { framable = λ f. framable; named = λ n. named managers resources n.1.0 }

module _ (k : Knowledge) (now : ℕ) (from : Place) (xid : Xid) (p : RegisterPlace) (hold check : List RowKey) where
  abbrev pub asked : Input
  asked = input.Message from (registers xid p hold check)

  abbrev request : Request
  request = record { xid = xid.0; resource = p.resource; call = p.call; ticket = p.ticket; kind = p.kind; hold = hold; check = check }

  abbrev granted_now : Course → Option Grant
  granted_now owns = granted (records owns) xid.0 p.resource p.call p.ticket p.kind

  leg_by : (owns : Course) → Follows k owns → (kd : BranchKind) → leg_of_kind k.memory xid p.resource p.call p.ticket kd ≡ option_map leg_of_grant (granted (records owns) xid.0 p.resource p.call p.ticket kd)
  leg_by owns s kind.At = ap (λ m. ticket_leg m p.resource p.ticket) s.tracks.known ∙ (alike k owns s).ticket xid.0 p.resource p.call p.ticket
  leg_by owns s kind.Tcc = ap (λ m. call_leg m xid p.resource p.call) s.tracks.known ∙ (alike k owns s).call xid p.resource p.call p.ticket

  pub regrants : (leg : Leg) → leg_in k.memory xid p ≡ Some leg → IsSentBy asked (regranted_step p leg) → (a : Answer) → a ≡ answer None (regranted_step p leg) → Answers k asked now a
  regrants leg there =
      told k asked now (act.Regranted leg.xid leg.branch) (regranted_step p leg).sent refl
      (λ owns s. found_by (records owns) now request p leg (granted_now owns) refl refl (sym (leg_by owns s p.kind) ∙ there))

  -- nothing was registered for this
  module _ (new : leg_in k.memory xid p ≡ None) where
    not_granted : (owns : Course) → Follows k owns → granted_now owns ≡ None
    not_granted owns s = none_granted (granted_now owns) (sym (leg_by owns s p.kind) ∙ new)

    closed_by : (rs : List SessionRecord) (may : Bool) → may ≡ false → closed_step p xid (status_of rs xid.0) ≡ open_answer rs now request may
    closed_by rs false e = refl
    closed_by rs true e = true_false e

    pub closes : (st : _) → st ≡ status_in k.memory xid.0 → is_begin (status_in k.memory xid.0) ≡ false → IsSentBy asked (closed_step p xid st) → (a : Answer) → a ≡ answer None (closed_step p xid st) → Answers k asked now a
    closes st is refused =
        told k asked now (act.Closed xid st) (closed_step p xid st).sent refl
        (λ owns s. ap (closed_step p xid) (is ∙ status_is k owns s xid.0)
        ∙ closed_by (records owns) (may_decide (records owns) xid.0) (sym (begins_is k owns s xid.0) ∙ refused)
        ∙ ap (register_answer (records owns) now request) (sym (not_granted owns s)))

    module _ (begins : is_begin (status_in k.memory xid.0) ≡ true) where
      may_here : (owns : Course) → Follows k owns → may_decide (records owns) xid.0 ≡ true
      may_here owns s = sym (begins_is k owns s xid.0) ∙ begins

      past_here : (owns : Course) → Follows k owns → has_passed_in (session_in k.memory xid.0) now ≡ is_past (session (records owns) xid.0) now
      past_here owns s = passed_is k owns s now xid.0 (known_may k owns s xid.0 (may_here owns s))

      open_here : (owns : Course) → Follows k owns → (past : Bool) → has_passed_in (session_in k.memory xid.0) now ≡ past
          → timely_answer (records owns) now request past ≡ register_answer (records owns) now request (granted_now owns)
      open_here owns s past e =
          ap (timely_answer (records owns) now request) (sym e ∙ past_here owns s)
          ∙ ap (open_answer (records owns) now request) (sym (may_here owns s))
          ∙ ap (register_answer (records owns) now request) (sym (not_granted owns s))

      pub comes_late : now < 2 ^ 64 → has_passed_in (session_in k.memory xid.0) now ≡ true → IsSentBy asked (late_step p xid)
          → (a : Answer) → a ≡ answer (Some (log.Decided xid how.Timeout)) (late_step p xid) → Answers k asked now a
      comes_late in_time past =
          made k asked now (log.Decided xid how.Timeout) (durable.Late xid) (late_step p xid).sent in_time begins refl (λ x before. refl) (λ x before. refl) (λ owns s. open_here owns s true past)

  -- it goes by its rows
  module _ (g : GoesByRows k.memory xid p now) where
    held_rows_by : (owns : Course) → Follows k owns → first_held (held_in k.memory) xid (hold ++ check) ≡ option_map held_row (held_first (records owns) xid.0 (hold ++ check))
    held_rows_by owns s = ap (λ m. first_held (held_in m) xid (hold ++ check)) s.tracks.known ∙ (alike k owns s).held xid (hold ++ check)

    free_by : (o : Option (RowKey × Grant)) → option_map held_row o ≡ None → o ≡ None
    free_by None e = refl
    free_by (Some h) e = none_some (sym e)

    abbrev granted_as : SessionRecord
    granted_as = granted_record xid (k.memory.granted + 1) p hold

    -- the record may come where the rows are free
    pub granted_may : first_held (held_in k.memory) xid (hold ++ check) ≡ None → may_come k.memory granted_as ≡ true
    granted_may free =
        and_both (is_begin (status_in k.memory xid.0)) _ g.begins
        (and_both (k.memory.granted + 1 == k.memory.granted + 1) _ (nat_same (k.memory.granted + 1) (k.memory.granted + 1) refl)
        (and_both (is_new k.memory xid p.resource p.call p.ticket p.kind) (are_free k.memory xid hold) (is_new_branch k.memory xid p g.new)
        (ap is_none (first_of_more (locks (held_in k.memory)) xid hold check free))))

    granted_by : first_held (held_in k.memory) xid (hold ++ check) ≡ None → (owns : Course) → Follows k owns → granted_step p (next_leg k.memory xid) ≡ register_answer (records owns) now request (granted_now owns)
    granted_by free owns s =
        ap (λ n. granted_step p (record { xid = xid; branch = record { 0 = n } })) (ap (λ (m : Snapshot). m.granted + 1) s.tracks.known ∙ (alike k owns s).next_branch)
        ∙ ap (hold_answer (records owns) now request) (sym (free_by (held_first (records owns) xid.0 (hold ++ check)) (sym (held_rows_by owns s) ∙ free)))
        ∙ open_here g.new g.begins owns s false g.timely

    pub grants_ruled : now < 2 ^ 64 → first_held (held_in k.memory) xid (hold ++ check) ≡ None → IsRuled k asked now (granted_answer k.memory xid p hold)
    grants_ruled in_time free =
        made_ruled k asked now granted_as (durable.Granted xid (record { 0 = k.memory.granted + 1 })) (granted_step p (next_leg k.memory xid)).sent in_time (granted_may free) refl (λ x before. refl) (λ x before. refl)
        (granted_by free)

    -- another transaction holds a row
    conflict_by : (owns : Course) (s : Follows k owns) (key : RowKey) (by : Xid) (o : Option (RowKey × Grant)) → held_first (records owns) xid.0 (hold ++ check) ≡ o → option_map held_row o ≡ Some (key, by)
        → conflict_step p xid key by (is_rolling (status_in k.memory by.0)) ≡ hold_answer (records owns) now request o
    conflict_by owns s key by None there e = none_some e
    conflict_by owns s key by (Some (one, g)) there e =
        let pair : held_row (one, g) ≡ (key, by) = cc in
        let rolling : (keeps_rows (status_in k.memory g.xid) && not (is_begin (status_in k.memory g.xid))) ≡ is_rollback (decided (records owns) g.xid) =
        ap (λ m. keeps_rows (status_in m g.xid) && not (is_begin (status_in m g.xid))) s.tracks.known ∙ ((alike k owns s).branches g.xid ((alike k owns s).holder xid.0 (hold ++ check) one g there)).rollback in
        ap (λ (h : RowKey × Xid). conflict_step p xid h.0 h.1 (keeps_rows (status_in k.memory h.1.0) && not (is_begin (status_in k.memory h.1.0)))) (sym pair)
        ∙ ap (conflict_step p xid one (record { 0 = g.xid })) rolling

    pub conflicts_ruled : (key : RowKey) (by : Xid) → first_held (held_in k.memory) xid (hold ++ check) ≡ Some (key, by) → IsRuled k asked now (conflict_answer k.memory xid p key by)
    conflicts_ruled key by there =
        told_ruled k asked now (act.Conflict xid key by (is_rolling (status_in k.memory by.0))) (conflict_step p xid key by (is_rolling (status_in k.memory by.0))).sent refl
        (λ owns s. conflict_by owns s key by (held_first (records owns) xid.0 (hold ++ check)) refl (sym (held_rows_by owns s) ∙ there) ∙ open_here g.new g.begins owns s false g.timely)

    -- by what was found of the rows
    ruled_rows : (o : Option (RowKey × Xid)) → first_held (held_in k.memory) xid (hold ++ check) ≡ o → now < 2 ^ 64 → IsRuled k asked now (rows_answer k.memory xid p hold o)
    ruled_rows None free in_time = grants_ruled in_time free
    ruled_rows (Some (key, by)) there in_time = conflicts_ruled key by there

    pub goes_by_rows : now < 2 ^ 64 → (a : Answer) → a ≡ rows_answer k.memory xid p hold (first_held (held_in k.memory) xid (hold ++ check)) → IsSentBy asked a.step → Answers k asked now a
    goes_by_rows in_time a same out = record { ruled = subst (IsRuled k asked now) (sym same) (ruled_rows (first_held (held_in k.memory) xid (hold ++ check)) refl in_time); sent = out }

-- a row that is told is one of those that came
pub conflict_framable : (s : Snapshot) (from : Place) (xid : Xid) (p : RegisterPlace) (hold check : List RowKey) (key : RowKey) (by : Xid) → first_held (held_in s) xid (hold ++ check) ≡ Some (key, by)
    → ComesFramable (input.Message from (registers xid p hold check)) → IsFramableKey key
conflict_framable s from xid p hold check key by there f = record {
  layout = row_among FitsKey (locks (held_in s)) xid hold check key by f.layout.4.each f.layout.5.each there;
  limits = row_among IsKeyWithin (locks (held_in s)) xid hold check key by f.limits.2.each f.limits.3.each there;
}

-- what tells it names nodes where the registration does
pub conflict_named : (s : Snapshot) (managers resources : ℕ) (from : Place) (xid : Xid) (p : RegisterPlace) (hold check : List RowKey) (key : RowKey) (by : Xid) (rolling : Bool) (step : Step)
    → first_held (held_in s) xid (hold ++ check) ≡ Some (key, by) → step ≡ conflict_step p xid key by rolling
    → ComesNamed managers resources (input.Message from (registers xid p hold check)) → IsNamed managers resources step
conflict_named s managers resources from xid p hold check key by rolling step there is n =
    let rows : AreRows resources (hold ++ check) = list_all-append (has_resource resources) hold check ∙ and_both (list_all (has_resource resources) hold) (list_all (has_resource resources) check) n.1.1 n.1.2 in
    let row = row_named s resources xid (hold ++ check) key by rows there in
    subst (IsNamed managers resources) (sym is) (record { act = row; sent = (n.1.0, row) })

-- what tells a row that is held
pub conflict_sent : (s : Snapshot) (from : Place) (xid : Xid) (p : RegisterPlace) (hold check : List RowKey) (key : RowKey) (by : Xid) (rolling : Bool) (step : Step) → first_held (held_in s) xid (hold ++ check) ≡ Some (key, by)
    → step ≡ conflict_step p xid key by rolling → (IsFramableKey key → SendsFramable step) → IsSentBy (input.Message from (registers xid p hold check)) step
conflict_sent s from xid p hold check key by rolling step there is framable = λ managers resources. record {
  framable = λ f. framable (conflict_framable s from xid p hold check key by there f);
  named = λ n. conflict_named s managers resources from xid p hold check key by rolling step there is n;
}

-- ---- questions for rows

held_by : (rs : List SessionRecord) (from : Place) (ticket : Ticket) (o : Option (RowKey × Grant)) → held_step from ticket (option_map held_row o) ≡ query_answer rs from ticket o
held_by rs from ticket None = refl
held_by rs from ticket (Some (key, g)) = refl

module _ (k : Knowledge) (now : ℕ) (from : Place) (resource : ℕ) (ticket : Ticket) (check : List RowKey) where
  abbrev queried : Input
  queried = input.Message from (message.LockQuery resource ticket check)

  quiet_by : (found : Option (RowKey × Xid)) → is_quiet (held_step from ticket found).act ≡ true
  quiet_by None = refl
  quiet_by (Some h) = refl

  query_framable : (found : Option (RowKey × Xid)) → first_held (held_in k.memory) nobody check ≡ found → ComesFramable queried → IfSome found IsFramableRow
  query_framable None e f = tt
  query_framable (Some (key, by)) e f = record {
    layout = row_among FitsKey (locks (held_in k.memory)) nobody check [] key by f.layout.2.each (λ k d lt. absurd (omega (arith, lt))) (ap (first_locked (locks (held_in k.memory)) nobody) (append-nil check) ∙ e);
    limits = row_among IsKeyWithin (locks (held_in k.memory)) nobody check [] key by f.limits.1.each (λ k d lt. absurd (omega (arith, lt))) (ap (first_locked (locks (held_in k.memory)) nobody) (append-nil check) ∙ e);
  }

  query_named : (managers resources : ℕ) (found : Option (RowKey × Xid)) → first_held (held_in k.memory) nobody check ≡ found → ComesNamed managers resources queried → IsNamed managers resources (held_step from ticket found)
  query_named managers resources None there n = record { act = tt; sent = (n.0, tt) }
  query_named managers resources (Some (key, by)) there n = let row = row_named k.memory resources nobody check key by n.1.1 there in record { act = row; sent = (n.0, row) }

  pub queries : (found : Option (RowKey × Xid)) → first_held (held_in k.memory) nobody check ≡ found → (a : Answer) → a ≡ answer None (held_step from ticket found) → (IfSome found IsFramableRow → SendsFramable a.step) → Answers k queried now a
  queries found there a same framable =
      told k queried now (held_step from ticket found).act (held_step from ticket found).sent (quiet_by found)
      (λ owns s. ap (held_step from ticket) (sym there ∙ ap (λ m. first_held (held_in m) nobody check) s.tracks.known ∙ (alike k owns s).held nobody check) ∙ held_by (records owns) from ticket (held_first (records owns) 0 check))
      (λ managers resources. record {
        framable = λ f. subst (λ (z : Answer). SendsFramable z.step) same (framable (query_framable found there f));
        named = query_named managers resources found there;
      })
      a same
