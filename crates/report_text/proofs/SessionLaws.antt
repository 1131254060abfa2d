-- What is kept of the coordinator, after one more of its entries.
use Rattle.std.proofs.Common.{◌≡◌, inl, inr, ◌<◌, ◌^◌, ℕ, suc, Bool, true, false, if◌then◌else◌, List, ◌∷◌, length, Option, Some, None, refl, sym, ap, ◌∙◌, subst, arith}
use Rattle.std.specs.Option.{option_and_then}
use Rattle.std.proofs.lemmas.Bool.Decides.{nat_tests}
use Rattle.seata_types.specs.declared.acts.Act.{Act}
use Rattle.seata_types.specs.declared.acts.Act.TheVariants as act
use Rattle.seata_types.specs.declared.acts.Durable.{Durable}
use Rattle.durable_records.specs.declared.coordinators.SessionRecord.{SessionRecord}
use Rattle.durable_records.specs.declared.coordinators.SessionRecord.TheVariants as log
use Rattle.durable_records.specs.Transactions.{Session, sessions}
use Rattle.durable_records.specs.Branches.{Grant, grants}
use Rattle.durable_records.specs.Members.{In}
use Rattle.durable_records.specs.SessionOrder.{Allowed}
use Rattle.durable_records.proofs.MemberFacts.{counted_in}
use Rattle.durable_records.proofs.RecordFacts.{began_xid, grant_branch, numbered}
use Rattle.session_log.specs.SnapshotOf.{snapshot_of}
use Rattle.session_log.specs.declared.sessions.Snapshot.{Snapshot}
use Rattle.session_memory.specs.Changes.{may_come, after}
use Rattle.session_memory.proofs.LookupLaws.{may_alike}
use Rattle.session_memory.proofs.StepLaws.{snapshot_after}
use Rattle.history_law.proofs.Tests.{and_both}
use Rattle.history_rules.specs.Own.{Left, added, asked_act, kept_part, leaves}
use Rattle.report_text.specs.Following.{FindCalls, FindManagers, IsOfCoordinator}
use Rattle.report_text.specs.Keeping.{CoordinatorKept, Numbers, coordinator_over, has_room, may_stand, number_at, session_taken, settled, with_call, with_flight, with_manager, with_number, with_session, with_sessions}
use Rattle.report_text.proofs.NumberLaws.{calls_found, managers_found, number_here, number_there}

-- the records that stand, and those with the one in flight, may come one after the other; they are counted in 32 bits
pub record MayStand (left : Left SessionRecord) : Type 0 where
  pub stand : Allowed left.records
  pub fly : Allowed (added left.flight left.records)
  pub few : length (added left.flight left.records) < 2 ^ 32

pub few_stand : {R : Type 0} (flight : Option R) (rs : List R) → length (added flight rs) < 2 ^ 32 → length rs < 2 ^ 32
few_stand None rs few = few
few_stand (Some r) rs few = omega (arith, few)

pub room_for : (n : ℕ) → suc n < 2 ^ 32 → has_room n ≡ true
room_for n few = grind (arith, nat_tests)

-- ---- one more record

-- what is kept of these records, over those that the disks had before
pub record AreKept (past : List SessionRecord) (k : CoordinatorKept) (rs : List SessionRecord) : Type 0 where
  pub known : k.known ≡ snapshot_of rs
  pub managers : FindManagers past rs k.managers
  pub calls : FindCalls past rs k.calls

managers_after : (past : List SessionRecord) (r : SessionRecord) (rs : List SessionRecord) (m : Numbers) → Allowed (r ∷ rs) → FindManagers past rs m → FindManagers past (r ∷ rs) (with_manager r m)
managers_after past (log.Begun xid manager begun timeout) rs m a find = next
  where
    older : (s : Session) → In s (sessions rs) → xid.0 ≡ s.xid → ⊥
    older s i same =
        let counted = (numbered (log.Begun xid manager begun timeout ∷ rs) a).began in
        let number = counted.0 in
        let within = (counted_in began_xid (sessions rs) counted.1 s i).1 in
        omega (arith, number, within, same)

    next : FindManagers past (log.Begun xid manager begun timeout ∷ rs) (with_number m xid.0 manager)
    next s (inl is) known = subst (λ (q : Session). number_at (with_number m xid.0 manager) q.xid ≡ q.manager) (sym is) (number_here m xid.0 manager)
    next s (inr i) known = number_there m xid.0 manager s.xid (older s i) ∙ find s i known
managers_after past _ rs m a find = find

calls_after : (past : List SessionRecord) (r : SessionRecord) (rs : List SessionRecord) (m : Numbers) → Allowed (r ∷ rs) → FindCalls past rs m → FindCalls past (r ∷ rs) (with_call r m)
calls_after past (log.Granted xid branch resource call ticket kind hold) rs m a find = next
  where
    older : (g : Grant) → In g (grants rs) → branch.0 ≡ g.branch → ⊥
    older g i same =
        let counted = (numbered (log.Granted xid branch resource call ticket kind hold ∷ rs) a).branched in
        let number = counted.0 in
        let within = (counted_in grant_branch (grants rs) counted.1 g i).1 in
        omega (arith, number, within, same)

    next : FindCalls past (log.Granted xid branch resource call ticket kind hold ∷ rs) (with_number m branch.0 call)
    next g (inl is) known = subst (λ (q : Grant). number_at (with_number m branch.0 call) q.branch ≡ q.call) (sym is) (number_here m branch.0 call)
    next g (inr i) known = number_there m branch.0 call g.branch (older g i) ∙ find g i known
calls_after past _ rs m a find = find

may_now : (past : List SessionRecord) (k : CoordinatorKept) (r : SessionRecord) (rs : List SessionRecord) → AreKept past k rs → Allowed (r ∷ rs) → length (r ∷ rs) < 2 ^ 32 → may_stand k r ≡ true
may_now past k r rs kept a few =
    and_both (has_room k.known.acts) (may_come k.known r)
    (ap (λ (s : Snapshot). has_room s.acts) kept.known ∙ room_for (length rs) few)
    (ap (λ s. may_come s r) kept.known ∙ may_alike rs a.0 r ∙ a.1)

-- where a record may come, it stands
stands_now : (k : CoordinatorKept) (r : SessionRecord) → may_stand k r ≡ true
    → with_session r k ≡ record k { known = after r k.known; managers = with_manager r k.managers; calls = with_call r k.calls }
stands_now k r may = ap (λ b. if b then record k { known = after r k.known; managers = with_manager r k.managers; calls = with_call r k.calls } else k) may

kept_more : (past : List SessionRecord) (k : CoordinatorKept) (r : SessionRecord) (rs : List SessionRecord) → AreKept past k rs → Allowed (r ∷ rs) → length (r ∷ rs) < 2 ^ 32 → AreKept past (with_session r k) (r ∷ rs)
kept_more past k r rs kept a few =
    let stands = stands_now k r (may_now past k r rs kept a few) in
    record {
      known = ap (λ (j : CoordinatorKept). j.known) stands ∙ ap (after r) kept.known ∙ sym (snapshot_after rs a.0 r a.1);
      managers = subst (FindManagers past (r ∷ rs)) (sym (ap (λ (j : CoordinatorKept). j.managers) stands)) (managers_after past r rs k.managers a kept.managers);
      calls = subst (FindCalls past (r ∷ rs)) (sym (ap (λ (j : CoordinatorKept). j.calls) stands)) (calls_after past r rs k.calls a kept.calls);
    }

kept_added : (past : List SessionRecord) (k : CoordinatorKept) (o : Option SessionRecord) (rs : List SessionRecord) → AreKept past k rs → Allowed (added o rs) → length (added o rs) < 2 ^ 32 → AreKept past (with_sessions o k) (added o rs)
kept_added past k None rs kept a few = kept
kept_added past k (Some r) rs kept a few = kept_more past k r rs kept a few

-- no record changes what is in flight
flight_by : (b : Bool) (j k : CoordinatorKept) → j.flight ≡ k.flight → (if b then j else k).flight ≡ k.flight
flight_by true j k same = same
flight_by false j k same = refl

flight_kept : (k : CoordinatorKept) (o : Option SessionRecord) → (with_sessions o k).flight ≡ k.flight
flight_kept k None = refl
flight_kept k (Some r) =
    flight_by (may_stand k r) (record k { known = after r k.known; managers = with_manager r k.managers; calls = with_call r k.calls }) k refl

-- ---- one more entry

module _ (past : List SessionRecord) (k : CoordinatorKept) (left : Left SessionRecord) (is : IsOfCoordinator past k left) where
  without_flight : AreKept past (with_flight None k) left.records
  without_flight = record { known = is.known; managers = is.managers; calls = is.calls }

  -- what was in flight stands where it was kept
  settled_kept : (kept : Option Durable) → Allowed (added (kept_part kept left.flight) left.records) → length (added (kept_part kept left.flight) left.records) < 2 ^ 32
      → AreKept past (settled kept k) (added (kept_part kept left.flight) left.records)
  settled_kept kept a few =
      subst (λ (o : Option SessionRecord). AreKept past (with_sessions (kept_part kept o) (with_flight None k)) (added (kept_part kept left.flight) left.records)) (sym is.flight)
      (kept_added past (with_flight None k) (kept_part kept left.flight) left.records without_flight a few)

  settled_flight : (kept : Option Durable) → (settled kept k).flight ≡ None
  settled_flight kept = flight_kept (with_flight None k) (kept_part kept k.flight)

  of_kept : (j : CoordinatorKept) (rs : List SessionRecord) (flight : Option SessionRecord) → AreKept past j rs → j.flight ≡ flight → IsOfCoordinator past j (record { records = rs; flight = flight })
  of_kept j rs flight kept same = record { known = kept.known; flight = same; managers = kept.managers; calls = kept.calls }

  pub taken_is : (made : Durable → Option SessionRecord) (done : Act) → MayStand left → MayStand (leaves done (option_and_then made (asked_act done)) left)
      → IsOfCoordinator past (session_taken made done k) (leaves done (option_and_then made (asked_act done)) left)
  taken_is made (act.Durable d) before now =
      of_kept (with_sessions (made d) (settled None k)) (added (made d) left.records) None
      (kept_added past (settled None k) (made d) left.records (settled_kept None before.stand (few_stand left.flight left.records before.few)) now.stand now.few)
      (flight_kept (settled None k) (made d) ∙ settled_flight None)
  taken_is made (act.Down kept at) before now =
      let records = added (kept_part kept left.flight) left.records in
      let stands = settled_kept kept now.stand (few_stand (option_and_then made at) records now.few) in
      record { known = stands.known; flight = refl; managers = stands.managers; calls = stands.calls }
  taken_is made (act.Restarted kept) before now =
      of_kept (settled kept k) (added (kept_part kept left.flight) left.records) None (settled_kept kept now.stand now.few) (settled_flight kept)
  taken_is made _ before now = is

-- before the first entry
pub over_is : (rs : List SessionRecord) → Allowed rs → IsOfCoordinator rs (coordinator_over (snapshot_of rs)) (record { records = rs; flight = None })
over_is rs a = record { known = refl; flight = refl; managers = managers_found rs a; calls = calls_found rs a }

-- what is taken depends on the records that are made alone
pub taken_alike : (made other : Durable → Option SessionRecord) → ((d : Durable) → made d ≡ other d) → (done : Act) (k : CoordinatorKept) → session_taken made done k ≡ session_taken other done k
taken_alike made other same (act.Durable d) k = ap (λ o. with_sessions o (settled None k)) (same d)
taken_alike made other same (act.Down kept None) k = refl
taken_alike made other same (act.Down kept (Some d)) k = ap (λ o. with_flight o (settled kept k)) (same d)
taken_alike made other same (act.Restarted kept) k = refl
taken_alike made other same _ k = refl
