-- A snapshot of records answers each look-up as the records do.
use Rattle.std.proofs.Common.{◌≡◌, ◌⊎◌, inl, inr, ◌==◌, ◌&&◌, not, ℕ, Bool, true, false, cond, if◌then◌else◌, List, [], ◌∷◌, map, Option, Some, None, is_some, is_none, refl, sym, ap, ◌∙◌}
use Rattle.std.specs.Prelude.{find, filter, option_map}
use Rattle.std.specs.List.{list_all}
use Rattle.seata_types.specs.declared.ids.Xid.{Xid}
use Rattle.seata_types.specs.declared.ids.Leg.{Leg}
use Rattle.seata_types.specs.declared.ids.Ticket.{Ticket}
use Rattle.seata_types.specs.declared.statuses.BranchKind.{BranchKind}
use Rattle.seata_types.specs.declared.statuses.BranchKind.TheVariants as kind
use Rattle.seata_types.specs.declared.statuses.Decision.{Decision}
use Rattle.seata_types.specs.declared.statuses.Decision.TheVariants as how
use Rattle.durable_records.specs.declared.coordinators.SessionRecord.{SessionRecord}
use Rattle.durable_records.specs.declared.coordinators.SessionRecord.TheVariants as log
use Rattle.durable_records.specs.Transactions.{Session as Began, sessions, session, has_manager as began_by, session_for, decided, is_forgotten, is_commit, is_rollback}
use Rattle.durable_records.specs.Branches.{Grant, grants, branches, all_at, is_at, is_named, same_ticket, is_unended, unended, unended_branch, granted, next_branch}
use Rattle.durable_records.specs.Progress.{Progress, Goes, Retries, IsFailed, IsDone, progress, status_of, is_known, may_decide}
use Rattle.durable_records.specs.Locks.{first_held as held_first}
use Rattle.durable_records.specs.SessionOrder.{Allowed, may}
use Rattle.lock_table.specs.Locks.{first_held}
use Rattle.session_log.specs.declared.sessions.Branch.{Branch}
use Rattle.session_log.specs.declared.sessions.SessionEntry.{SessionEntry}
use Rattle.session_log.specs.SnapshotOf.{in_order, branch_now, session_now, entry_now, forgotten_now, is_kept_session, is_forgotten_session, snapshot_of}
use Rattle.session_log.specs.Soundness.{is_at_branch, is_open_branch, is_open_with}
use Rattle.session_log.proofs.Members.{In, of_order, of_filter, of_map, pair_of}
use Rattle.session_log.proofs.RecordFacts.{Other, other_symmetric, sessions_differ, Apart, apart_symmetric, Names, grants_differ}
use Rattle.session_memory.specs.Lookups.{branches_or_none, branches_in, has_manager, was_of_manager, xid_of, forgotten_xid, or_else, xid_for, leg_of, leg_with, first_leg, has_number, has_ticket, has_call, ticket_leg, call_leg}
use Rattle.session_memory.specs.Holding.{keeps_rows, held_in}
use Rattle.session_memory.specs.Changes.{is_begin, is_going, is_finished, is_new, may_come}
use Rattle.session_memory.specs.Laws.{TellsTransaction, TellsBranches, AnswersAlike, began_as, leg_of_grant, held_row}
use Rattle.session_memory.proofs.Small.{false_true, none_some, and_left, and_right, and_both, not_true, same_nat, nat_same}
use Rattle.session_memory.proofs.Lists.{find_mapped, keep}
use Rattle.session_memory.proofs.Passing.{found_passes, only_found, nothing_found, find_turned, find_filtered, filter_now, mapped_some, same_option, counted_once}
use Rattle.durable_records.proofs.RecordFacts.{numbered, grant_branch}
use Rattle.session_memory.proofs.StepLaws.{session_found, began_found, all_at_now}
use Rattle.session_memory.proofs.MayLaws.{state, status_found, begin_state, going_state, finished_state, branches_found, manager_found, none_mapped, allowed_alike}
use Rattle.session_memory.proofs.GrantLaws.{grant_begun, tickets_alike, new_alike}
use Rattle.session_memory.proofs.HolderLaws.{known_kept, keeps_known, held_alike, first_known}

-- ---- a transaction

module _ (rs : List SessionRecord) (a : Allowed rs) (x : ℕ) where
  known_session_by : (s : Began) (b : Bool) → is_forgotten rs x ≡ b → is_kept_session rs s ≡ not b →
      option_map (session_now rs) (cond (is_kept_session rs s) (Some s) None) ≡ (if not (is_forgotten rs x) then Some (session_now rs s) else None)
  known_session_by s true gone is = ap (λ (b : Bool). option_map (session_now rs) (cond b (Some s) None)) is ∙ sym (ap (λ (b : Bool). if not b then Some (session_now rs s) else None) gone)
  known_session_by s false kept is = ap (λ (b : Bool). option_map (session_now rs) (cond b (Some s) None)) is ∙ sym (ap (λ (b : Bool). if not b then Some (session_now rs s) else None) kept)

  known_session : (o : Option Began) → session rs x ≡ o → option_map (session_now rs) (keep (is_kept_session rs) o) ≡ (if is_some o && not (is_forgotten rs x) then option_map (session_now rs) o else None)
  known_session None is = refl
  known_session (Some s) is =
      known_session_by s (is_forgotten rs x) refl (ap (λ n. not (is_forgotten rs n)) (began_found x (sessions rs) s is))

  transaction_alike : TellsTransaction rs x
  transaction_alike = record {
    session = session_found rs (numbered rs a) x ∙ known_session (session rs x) refl;
    status = status_found rs (numbered rs a) x;
    undecided = ap is_begin (status_found rs (numbered rs a) x) ∙ begin_state (is_known rs x) (all_at (branches rs x)) (decided rs x) (progress rs x);
    going = ap is_going (status_found rs (numbered rs a) x) ∙ going_state (is_known rs x) (all_at (branches rs x)) (decided rs x) (progress rs x);
    over = ap is_finished (status_found rs (numbered rs a) x) ∙ finished_state (is_known rs x) (all_at (branches rs x)) (decided rs x) (progress rs x);
  }

-- ---- branches

not_not : (b : Bool) → not (not b) ≡ b
not_not true = refl
not_not false = refl

rolls_state : (at : Bool) (d : Option Decision) (far : Progress) → (keeps_rows (state true at d far) && not (is_begin (state true at d far))) ≡ is_rollback d
rolls_state at None far = refl
rolls_state true (Some how.Commit) Goes = refl
rolls_state true (Some how.Commit) Retries = refl
rolls_state false (Some how.Commit) Goes = refl
rolls_state false (Some how.Commit) Retries = refl
rolls_state at (Some how.Commit) IsFailed = refl
rolls_state at (Some how.Commit) IsDone = refl
rolls_state at (Some how.Rollback) Goes = refl
rolls_state at (Some how.Rollback) Retries = refl
rolls_state at (Some how.Rollback) IsFailed = refl
rolls_state at (Some how.Rollback) IsDone = refl
rolls_state at (Some how.Timeout) Goes = refl
rolls_state at (Some how.Timeout) Retries = refl
rolls_state at (Some how.Timeout) IsFailed = refl
rolls_state at (Some how.Timeout) IsDone = refl

module _ (rs : List SessionRecord) (a : Allowed rs) (x : ℕ) (k : is_known rs x ≡ true) where
  left_alike : filter is_open_branch (branches_in (snapshot_of rs) x) ≡ map (branch_now rs) (in_order (unended rs x))
  left_alike = ap (filter is_open_branch) (branches_found rs (numbered rs a) x k) ∙ filter_now is_open_branch (branch_now rs) (branches rs x)

  of_grants : (g : Grant) → In g (unended rs x) → In g (grants rs)
  of_grants g i = (of_filter (λ h. h.xid == x) (grants rs) g (of_filter (is_unended rs) (branches rs x) g i).0).0

  one_alike : (b : ℕ) → find (is_open_with b) (branches_in (snapshot_of rs) x) ≡ option_map (branch_now rs) (unended_branch rs x b)
  one_alike b =
      sym (find_filtered is_open_branch (has_number b) (branches_in (snapshot_of rs) x))
      ∙ ap (find (has_number b)) left_alike
      ∙ find_mapped (branch_now rs) (has_number b) (in_order (unended rs x))
      ∙ ap (option_map (branch_now rs)) (find_turned (λ g. g.branch == b) (unended rs x)
      (λ g h i j is too. counted_once grant_branch (grants rs) (numbered rs a).branched g h (of_grants g i) (of_grants h j) (same_nat g.branch b is ∙ sym (same_nat h.branch b too))))

  rolls_known : (keeps_rows (status_of rs x) && not (is_begin (status_of rs x))) ≡ is_rollback (decided rs x)
  rolls_known =
      ap (λ b. keeps_rows (state b (all_at (branches rs x)) (decided rs x) (progress rs x)) && not (is_begin (state b (all_at (branches rs x)) (decided rs x) (progress rs x)))) k
      ∙ rolls_state (all_at (branches rs x)) (decided rs x) (progress rs x)

  branches_alike : TellsBranches rs x
  branches_alike = record {
    all = branches_found rs (numbered rs a) x k;
    left = left_alike;
    one = one_alike;
    at = ap (list_all is_at_branch) (branches_found rs (numbered rs a) x k) ∙ all_at_now rs (branches rs x);
    commit = ap (λ st. not (keeps_rows st)) (status_found rs (numbered rs a) x) ∙ ap not (keeps_known rs x k) ∙ not_not (is_commit (decided rs x));
    rollback = ap (λ st. keeps_rows st && not (is_begin st)) (status_found rs (numbered rs a) x) ∙ rolls_known;
  }

-- ---- managers

either_some : {X : Type 0} (o p : Option X) (x : X) → or_else o p ≡ Some x → (o ≡ Some x) ⊎ (p ≡ Some x)
either_some None p x e = inr e
either_some (Some y) p x e = inl e

module _ (rs : List SessionRecord) (a : Allowed rs) (m : ℕ) where
  same_manager : (s q : Began) → (s.manager == m) ≡ true → (q.manager == m) ≡ true → (s ≡ q) ⊎ Other s q → s ≡ q
  same_manager s q is too (inl e) = e
  same_manager s q is too (inr other) = absurd (other.manager (same_nat s.manager m is ∙ sym (same_nat q.manager m too)))

  manager_is : (s : Began) → In s (sessions rs) → (s.manager == m) ≡ true → option_map began_as (session_for rs m) ≡ Some (record { 0 = s.xid })
  manager_is s i is =
      ap (option_map began_as) (only_found (began_by m) s (sessions rs) i is
      (λ q j too. same_manager s q is too (pair_of Other other_symmetric (sessions rs) s q (sessions_differ rs a) i j)))

  known_manager : (y : Xid) → option_map xid_of (find (has_manager m) (snapshot_of rs).sessions) ≡ Some y → option_map began_as (session_for rs m) ≡ Some y
  known_manager y e =
      let entry = mapped_some xid_of (find (has_manager m) (snapshot_of rs).sessions) y e in
      let s = mapped_some (entry_now rs) (find (began_by m) (in_order (filter (is_kept_session rs) (sessions rs)))) entry.0
      (sym (find_mapped (entry_now rs) (has_manager m) (in_order (filter (is_kept_session rs) (sessions rs)))) ∙ entry.1) in
      let there = found_passes (began_by m) s.0 (in_order (filter (is_kept_session rs) (sessions rs))) s.1 in
      manager_is s.0 (of_filter (is_kept_session rs) (sessions rs) s.0 (of_order (filter (is_kept_session rs) (sessions rs)) s.0 there.0)).0 there.1
      ∙ ap (λ (z : Xid). Some z) (sym (entry.2 ∙ ap xid_of s.2))

  gone_manager : (y : Xid) → option_map forgotten_xid (find (was_of_manager m) (snapshot_of rs).forgotten) ≡ Some y → option_map began_as (session_for rs m) ≡ Some y
  gone_manager y e =
      let entry = mapped_some forgotten_xid (find (was_of_manager m) (snapshot_of rs).forgotten) y e in
      let s = mapped_some forgotten_now (find (began_by m) (in_order (filter (is_forgotten_session rs) (sessions rs)))) entry.0
      (sym (find_mapped forgotten_now (was_of_manager m) (in_order (filter (is_forgotten_session rs) (sessions rs)))) ∙ entry.1) in
      let there = found_passes (began_by m) s.0 (in_order (filter (is_forgotten_session rs) (sessions rs))) s.1 in
      manager_is s.0 (of_filter (is_forgotten_session rs) (sessions rs) s.0 (of_order (filter (is_forgotten_session rs) (sessions rs)) s.0 there.0)).0 there.1
      ∙ ap (λ (z : Xid). Some z) (sym (entry.2 ∙ ap forgotten_xid s.2))

  manager_by : (y : Xid) → (option_map xid_of (find (has_manager m) (snapshot_of rs).sessions) ≡ Some y) ⊎ (option_map forgotten_xid (find (was_of_manager m) (snapshot_of rs).forgotten) ≡ Some y) → option_map began_as (session_for rs m) ≡ Some y
  manager_by y (inl e) = known_manager y e
  manager_by y (inr e) = gone_manager y e

  manager_alike : xid_for (snapshot_of rs) m ≡ option_map began_as (session_for rs m)
  manager_alike =
      same_option (xid_for (snapshot_of rs) m) (option_map began_as (session_for rs m)) (manager_found rs m ∙ sym (none_mapped began_as (session_for rs m)))
      (λ y e. manager_by y (either_some (option_map xid_of (find (has_manager m) (snapshot_of rs).sessions)) (option_map forgotten_xid (find (was_of_manager m) (snapshot_of rs).forgotten)) y e))

-- ---- registrations

at_is : (k : BranchKind) → is_at k ≡ true → k ≡ kind.At
at_is kind.At e = refl
at_is kind.Tcc e = false_true e

tcc_is : (k : BranchKind) → not (is_at k) ≡ true → k ≡ kind.Tcc
tcc_is kind.At e = false_true e
tcc_is kind.Tcc e = refl

module _ (rs : List SessionRecord) (a : Allowed rs) (x resource call : ℕ) (ticket : Ticket) where
  abbrev is_granted : BranchKind → Grant → Bool
  is_granted k g = not (is_forgotten rs g.xid) && is_named x resource call ticket k g

  names_alike : (k : BranchKind) (g h : Grant) → is_named x resource call ticket k g ≡ true → is_named x resource call ticket k h ≡ true → (g.kind ≡ k) × (h.kind ≡ k) × Names k g h
  names_alike kind.At g h is too =
      let one = and_right (is_at g.kind) ((g.resource == resource) && same_ticket g.ticket ticket) is in
      let two = and_right (is_at h.kind) ((h.resource == resource) && same_ticket h.ticket ticket) too in
      let first = and_right (g.resource == resource) (same_ticket g.ticket ticket) one in
      let second = and_right (h.resource == resource) (same_ticket h.ticket ticket) two in (
        at_is g.kind (and_left (is_at g.kind) ((g.resource == resource) && same_ticket g.ticket ticket) is),
        at_is h.kind (and_left (is_at h.kind) ((h.resource == resource) && same_ticket h.ticket ticket) too),
        (
          same_nat g.resource resource (and_left (g.resource == resource) (same_ticket g.ticket ticket) one) ∙ sym (same_nat h.resource resource (and_left (h.resource == resource) (same_ticket h.ticket ticket) two)),
          same_nat g.ticket.boot ticket.boot (and_left (g.ticket.boot == ticket.boot) (g.ticket.seq == ticket.seq) first) ∙ sym (same_nat h.ticket.boot ticket.boot (and_left (h.ticket.boot == ticket.boot) (h.ticket.seq == ticket.seq) second)),
          same_nat g.ticket.seq ticket.seq (and_right (g.ticket.boot == ticket.boot) (g.ticket.seq == ticket.seq) first) ∙ sym (same_nat h.ticket.seq ticket.seq (and_right (h.ticket.boot == ticket.boot) (h.ticket.seq == ticket.seq) second)),
        ),
      )
  names_alike kind.Tcc g h is too =
      let one = and_right (not (is_at g.kind)) ((g.xid == x) && ((g.resource == resource) && (g.call == call))) is in
      let two = and_right (not (is_at h.kind)) ((h.xid == x) && ((h.resource == resource) && (h.call == call))) too in
      let first = and_right (g.xid == x) ((g.resource == resource) && (g.call == call)) one in
      let second = and_right (h.xid == x) ((h.resource == resource) && (h.call == call)) two in (
        tcc_is g.kind (and_left (not (is_at g.kind)) ((g.xid == x) && ((g.resource == resource) && (g.call == call))) is),
        tcc_is h.kind (and_left (not (is_at h.kind)) ((h.xid == x) && ((h.resource == resource) && (h.call == call))) too),
        (
          same_nat g.xid x (and_left (g.xid == x) ((g.resource == resource) && (g.call == call)) one) ∙ sym (same_nat h.xid x (and_left (h.xid == x) ((h.resource == resource) && (h.call == call)) two)),
          same_nat g.resource resource (and_left (g.resource == resource) (g.call == call) first) ∙ sym (same_nat h.resource resource (and_left (h.resource == resource) (h.call == call) second)),
          same_nat g.call call (and_right (g.resource == resource) (g.call == call) first) ∙ sym (same_nat h.call call (and_right (h.resource == resource) (h.call == call) second)),
        ),
      )

  same_by : (k : BranchKind) (g h : Grant) → is_granted k g ≡ true → is_granted k h ≡ true → (g ≡ h) ⊎ Apart (λ y. is_forgotten rs y) k g h → g ≡ h
  same_by k g h is too (inl e) = e
  same_by k g h is too (inr apart) =
      let named = names_alike k g h (and_right (not (is_forgotten rs g.xid)) (is_named x resource call ticket k g) is) (and_right (not (is_forgotten rs h.xid)) (is_named x resource call ticket k h) too) in
      absurd (apart (record {
        first = not_true (is_forgotten rs g.xid) (and_left (not (is_forgotten rs g.xid)) (is_named x resource call ticket k g) is);
        second = not_true (is_forgotten rs h.xid) (and_left (not (is_forgotten rs h.xid)) (is_named x resource call ticket k h) too);
        of_first = named.0;
        of_second = named.1;
        names = named.2;
      }))

  -- the one branch that was granted to this
  granted_is : (k : BranchKind) (g : Grant) → In g (grants rs) → is_granted k g ≡ true → granted rs x resource call ticket k ≡ Some g
  granted_is k g i is =
      only_found (is_granted k) g (grants rs) i is
      (λ h j too. same_by k g h is too (pair_of (Apart (λ y. is_forgotten rs y) k) (apart_symmetric (λ y. is_forgotten rs y) k) (grants rs) g h (grants_differ rs a k) i j))

abbrev FoundIn : (Branch → Bool) → Leg → List SessionEntry → Type 0
FoundIn test leg es = (d : SessionEntry) × In d es × (leg_with test d.xid d.session.branches ≡ Some leg)

leg_by : (test : Branch → Bool) (e : SessionEntry) (es : List SessionEntry) (leg : Leg) (o : Option Leg) → leg_with test e.xid e.session.branches ≡ o →
    or_else o (first_leg test es) ≡ Some leg → (first_leg test es ≡ Some leg → FoundIn test leg es) → FoundIn test leg (e ∷ es)
leg_by test e es leg None is found below = let k = below found in (k.0, inr k.1, k.2)
leg_by test e es leg (Some other) is found below = (e, inl refl, is ∙ found)

leg_found : (test : Branch → Bool) (es : List SessionEntry) (leg : Leg) → first_leg test es ≡ Some leg → FoundIn test leg es
leg_found test [] leg e = none_some e
leg_found test (d ∷ es) leg e = leg_by test d es leg (leg_with test d.xid d.session.branches) refl e (leg_found test es leg)

-- the branch of a transaction that passes
module _ (rs : List SessionRecord) (test : Branch → Bool) (y : Xid) (leg : Leg) where
  grant_found : leg_with test y (map (branch_now rs) (in_order (branches rs y.0))) ≡ Some leg → (g : Grant) × In g (grants rs) × (g.xid ≡ y.0) × (test (branch_now rs g) ≡ true) × (Some leg ≡ Some (leg_of_grant g))
  grant_found e =
      let b = mapped_some (leg_of y) (find test (map (branch_now rs) (in_order (branches rs y.0)))) leg e in
      let g = mapped_some (branch_now rs) (find (λ h. test (branch_now rs h)) (in_order (branches rs y.0))) b.0 (sym (find_mapped (branch_now rs) test (in_order (branches rs y.0))) ∙ b.1) in
      let passes = found_passes (λ h. test (branch_now rs h)) g.0 (in_order (branches rs y.0)) g.1 in
      let there = of_filter (λ h. h.xid == y.0) (grants rs) g.0 (of_order (branches rs y.0) g.0 passes.0) in
      let of : g.0.xid ≡ y.0 = same_nat g.0.xid y.0 there.1 in (
        g.0,
        there.0,
        of,
        passes.1,
        ap (λ (l : Leg). Some l) (b.2 ∙ ap (leg_of y) g.2) ∙ ap (λ (n : ℕ). Some (record { xid = record { 0 = n }; branch = record { 0 = g.0.branch } })) (sym of),
      )

module _ (rs : List SessionRecord) (a : Allowed rs) (x : Xid) (resource call : ℕ) (ticket : Ticket) where
  ticket_by : (leg : Leg) → ticket_leg (snapshot_of rs) resource ticket ≡ Some leg → option_map leg_of_grant (granted rs x.0 resource call ticket kind.At) ≡ Some leg
  ticket_by leg e =
      let d = leg_found (has_ticket resource ticket) (snapshot_of rs).sessions leg e in
      let s = of_map (entry_now rs) (in_order (filter (is_kept_session rs) (sessions rs))) d.0 d.1 in
      let kept = of_filter (is_kept_session rs) (sessions rs) s.0 (of_order (filter (is_kept_session rs) (sessions rs)) s.0 s.1) in
      let g = grant_found rs (has_ticket resource ticket) (record { 0 = s.0.xid }) leg (sym (ap (λ (f : SessionEntry). leg_with (has_ticket resource ticket) f.xid f.session.branches) s.2) ∙ d.2) in
      ap (option_map leg_of_grant) (granted_is rs a x.0 resource call ticket kind.At g.0 g.1
      (and_both (not (is_forgotten rs g.0.xid)) (is_named x.0 resource call ticket kind.At g.0) (ap (λ n. not (is_forgotten rs n)) g.2 ∙ kept.1) g.3))
      ∙ sym g.4

  ticket_alike : ticket_leg (snapshot_of rs) resource ticket ≡ option_map leg_of_grant (granted rs x.0 resource call ticket kind.At)
  ticket_alike =
      same_option (ticket_leg (snapshot_of rs) resource ticket) (option_map leg_of_grant (granted rs x.0 resource call ticket kind.At))
      (tickets_alike rs a x resource call ticket ∙ sym (none_mapped leg_of_grant (granted rs x.0 resource call ticket kind.At)))
      ticket_by

  call_named : (g : Grant) → g.xid ≡ x.0 → has_call resource call (branch_now rs g) ≡ true → is_named x.0 resource call ticket kind.Tcc g ≡ true
  call_named g of is =
      and_both (not (is_at g.kind)) ((g.xid == x.0) && ((g.resource == resource) && (g.call == call))) (and_left (not (is_at g.kind)) ((g.resource == resource) && (g.call == call)) is)
      (and_both (g.xid == x.0) ((g.resource == resource) && (g.call == call)) (nat_same g.xid x.0 of) (and_right (not (is_at g.kind)) ((g.resource == resource) && (g.call == call)) is))

  call_by : is_known rs x.0 ≡ true → (leg : Leg) → call_leg (snapshot_of rs) x resource call ≡ Some leg → option_map leg_of_grant (granted rs x.0 resource call ticket kind.Tcc) ≡ Some leg
  call_by k leg e =
      let g = grant_found rs (has_call resource call) x leg (sym (ap (leg_with (has_call resource call) x) (branches_found rs (numbered rs a) x.0 k)) ∙ e) in
      ap (option_map leg_of_grant) (granted_is rs a x.0 resource call ticket kind.Tcc g.0 g.1
      (and_both (not (is_forgotten rs g.0.xid)) (is_named x.0 resource call ticket kind.Tcc g.0)
      (ap not (ap (is_forgotten rs) g.2 ∙ known_kept rs x.0 k)) (call_named g.0 g.2 g.3)))
      ∙ sym g.4

  no_branches : is_known rs x.0 ≡ false → branches_in (snapshot_of rs) x.0 ≡ []
  no_branches unknown =
      ap branches_or_none ((transaction_alike rs a x.0).session ∙ ap (λ (b : Bool). if b then option_map (session_now rs) (session rs x.0) else None) unknown)

  unknown_granted : is_known rs x.0 ≡ false → (g : Grant) → In g (grants rs) → is_granted rs a x.0 resource call ticket kind.Tcc g ≡ true → ⊥
  unknown_granted unknown g i is =
      let named = and_right (not (is_forgotten rs g.xid)) (is_named x.0 resource call ticket kind.Tcc g) is in
      let of : g.xid ≡ x.0 = same_nat g.xid x.0 (and_left (g.xid == x.0) ((g.resource == resource) && (g.call == call)) (and_right (not (is_at g.kind)) ((g.xid == x.0) && ((g.resource == resource) && (g.call == call))) named)) in
      let begun : is_known rs g.xid ≡ true =
      and_both (is_some (session rs g.xid)) (not (is_forgotten rs g.xid)) (grant_begun rs a g i) (and_left (not (is_forgotten rs g.xid)) (is_named x.0 resource call ticket kind.Tcc g) is) in
      false_true (sym unknown ∙ ap (is_known rs) (sym of) ∙ begun)

  call_alike_by : (b : Bool) → is_known rs x.0 ≡ b → call_leg (snapshot_of rs) x resource call ≡ option_map leg_of_grant (granted rs x.0 resource call ticket kind.Tcc)
  call_alike_by true k =
      same_option (call_leg (snapshot_of rs) x resource call) (option_map leg_of_grant (granted rs x.0 resource call ticket kind.Tcc))
      (new_alike rs a x resource call ticket kind.Tcc k ∙ sym (none_mapped leg_of_grant (granted rs x.0 resource call ticket kind.Tcc))) (call_by k)
  call_alike_by false unknown =
      ap (leg_with (has_call resource call) x) (no_branches unknown)
      ∙ sym (ap (option_map leg_of_grant) (nothing_found (is_granted rs a x.0 resource call ticket kind.Tcc) (grants rs) (unknown_granted unknown)))

  call_alike : call_leg (snapshot_of rs) x resource call ≡ option_map leg_of_grant (granted rs x.0 resource call ticket kind.Tcc)
  call_alike = call_alike_by (is_known rs x.0) refl

  granted_alike : (k : BranchKind) → is_new (snapshot_of rs) x resource call ticket k ≡ is_none (granted rs x.0 resource call ticket k)
  granted_alike kind.At = ap is_none ticket_alike ∙ none_mapped leg_of_grant (granted rs x.0 resource call ticket kind.At)
  granted_alike kind.Tcc = ap is_none call_alike ∙ none_mapped leg_of_grant (granted rs x.0 resource call ticket kind.Tcc)

-- ---- all of it

pub answers_alike : (rs : List SessionRecord) → Allowed rs → AnswersAlike rs
answers_alike rs a = record {
  next_xid = refl;
  next_branch = refl;
  transaction = transaction_alike rs a;
  branches = branches_alike rs a;
  manager = manager_alike rs a;
  ticket = λ x resource call ticket. ticket_alike rs a (record { 0 = x }) resource call ticket;
  call = call_alike rs a;
  held = held_alike rs a;
  holder = first_known rs a;
}

parted : (a b c d : Bool) → (a && (b && (c && d))) ≡ ((a && (b && d)) && c)
parted true true true d = swap_true d
  where
    swap_true : (d : Bool) → d ≡ (d && true)
    swap_true true = refl
    swap_true false = refl
parted true true false true = refl
parted true true false false = refl
parted true false c d = refl
parted false b c d = refl

-- a record may come after the snapshot of records exactly where it may come after the records
pub may_alike : (rs : List SessionRecord) → Allowed rs → (r : SessionRecord) → may_come (snapshot_of rs) r ≡ may rs r
may_alike rs a (log.Granted xid branch resource call ticket kind hold) =
    ap (λ p. p && ((branch.0 == next_branch rs) && (is_new (snapshot_of rs) xid resource call ticket kind && is_none (first_held (held_in (snapshot_of rs)) xid hold)))) (transaction_alike rs a xid.0).undecided
    ∙ ap (λ p. may_decide rs xid.0 && ((branch.0 == next_branch rs) && (p && is_none (first_held (held_in (snapshot_of rs)) xid hold)))) (granted_alike rs a xid resource call ticket kind)
    ∙ ap (λ p. may_decide rs xid.0 && ((branch.0 == next_branch rs) && (is_none (granted rs xid.0 resource call ticket kind) && p)))
    (ap is_none (held_alike rs a xid hold) ∙ none_mapped held_row (held_first rs xid.0 hold))
    ∙ parted (may_decide rs xid.0) (branch.0 == next_branch rs) (is_none (granted rs xid.0 resource call ticket kind)) (is_none (held_first rs xid.0 hold))
may_alike rs a (log.Begun xid manager begun timeout) = allowed_alike rs a (log.Begun xid manager begun timeout) refl
may_alike rs a (log.Decided xid d) = allowed_alike rs a (log.Decided xid d) refl
may_alike rs a (log.Retrying xid) = allowed_alike rs a (log.Retrying xid) refl
may_alike rs a (log.Ended xid branch) = allowed_alike rs a (log.Ended xid branch) refl
may_alike rs a (log.Failed xid branch stmt) = allowed_alike rs a (log.Failed xid branch stmt) refl
may_alike rs a (log.Finished xid) = allowed_alike rs a (log.Finished xid) refl
may_alike rs a (log.Forgot xid) = allowed_alike rs a (log.Forgot xid) refl
