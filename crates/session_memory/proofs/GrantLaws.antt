-- A snapshot of records finds what is registered as the records do.
use Rattle.std.proofs.Common.{◌≡◌, ◌==◌, ◌&&◌, ◌||◌, not, ℕ, Bool, true, false, List, [], ◌∷◌, map, Option, Some, None, is_some, is_none, refl, sym, ap, ◌∙◌}
use Rattle.std.specs.Prelude.{find, filter}
use Rattle.std.specs.List.{list_any}
use Rattle.seata_types.specs.declared.ids.Xid.{Xid}
use Rattle.seata_types.specs.declared.ids.Ticket.{Ticket}
use Rattle.seata_types.specs.declared.statuses.BranchKind.{BranchKind}
use Rattle.seata_types.specs.declared.statuses.BranchKind.TheVariants as kind
use Rattle.durable_records.specs.declared.coordinators.SessionRecord.{SessionRecord}
use Rattle.durable_records.specs.Transactions.{Session as Began, sessions, session, has_xid as began_as, is_forgotten}
use Rattle.durable_records.specs.Branches.{Grant, grants, branches, is_at, is_named, granted}
use Rattle.durable_records.specs.Progress.{is_known}
use Rattle.durable_records.specs.SessionOrder.{Allowed}
use Rattle.session_log.specs.declared.sessions.Branch.{Branch}
use Rattle.session_log.specs.declared.sessions.SessionEntry.{SessionEntry}
use Rattle.session_log.specs.SnapshotOf.{in_order, branch_now, entry_now, is_kept_session, snapshot_of}
use Rattle.session_memory.specs.Lookups.{leg_of, leg_with, first_leg, has_ticket, has_call, branches_in}
use Rattle.session_memory.specs.Changes.{is_new}
use Rattle.session_log.proofs.Members.{In, of_filter, in_filter}
use Rattle.session_memory.proofs.Small.{false_true, and_left, and_right, and_both, not_true, same_nat, nat_same}
use Rattle.session_memory.proofs.Passing.{passing, any_of, found_in, both_ways, any_same, filter_any}
use Rattle.durable_records.proofs.RecordFacts.{known, numbered}
use Rattle.session_memory.proofs.StepLaws.{began_found}
use Rattle.session_memory.proofs.MayLaws.{any_now, none_both, none_mapped, none_found, branches_found}

-- a branch that was granted is of a transaction that began
pub grant_begun : (rs : List SessionRecord) → Allowed rs → (g : Grant) → In g (grants rs) → is_some (session rs g.xid) ≡ true
grant_begun rs a g i = begun_by (is_some (session rs g.xid)) refl
  where
    in_nothing : (hs : List Grant) → hs ≡ [] → In g hs → ⊥
    in_nothing [] is j = j
    in_nothing (k ∷ ks) is j = cc

    begun_by : (b : Bool) → is_some (session rs g.xid) ≡ b → is_some (session rs g.xid) ≡ true
    begun_by true is = is
    begun_by false is =
        let member : In g (branches rs g.xid) = in_filter (λ h. h.xid == g.xid) (grants rs) g i (nat_same g.xid g.xid refl) in
        absurd (in_nothing (branches rs g.xid) ((known rs a g.xid).empty is) member)

-- ---- branches of the transactions that are known

module _ (rs : List SessionRecord) (a : Allowed rs) (t : Grant → Bool) where
  abbrev of_known : Grant → Bool
  of_known g = not (is_forgotten rs g.xid) && t g

  abbrev has_one : Began → Bool
  has_one s = list_any t (branches rs s.xid)

  forth : list_any has_one (filter (is_kept_session rs) (sessions rs)) ≡ true → list_any of_known (grants rs) ≡ true
  forth e =
      let s = passing has_one (filter (is_kept_session rs) (sessions rs)) e in
      let kept = of_filter (is_kept_session rs) (sessions rs) s.it s.member in
      let g = passing t (branches rs s.it.xid) s.passes in
      let granted_one = of_filter (λ h. h.xid == s.it.xid) (grants rs) g.it g.member in
      any_of of_known g.it (grants rs) granted_one.0
      (and_both (not (is_forgotten rs g.it.xid)) (t g.it) (ap (λ n. not (is_forgotten rs n)) (same_nat g.it.xid s.it.xid granted_one.1) ∙ kept.1) g.passes)

  back_at : (g : Grant) → In g (grants rs) → of_known g ≡ true → (o : Option Began) → session rs g.xid ≡ o → list_any has_one (filter (is_kept_session rs) (sessions rs)) ≡ true
  back_at g i e None none = false_true (sym (ap is_some none) ∙ grant_begun rs a g i)
  back_at g i e (Some s) is =
      let at = began_found g.xid (sessions rs) s is in
      any_of has_one s (filter (is_kept_session rs) (sessions rs))
      (in_filter (is_kept_session rs) (sessions rs) s (found_in (began_as g.xid) s (sessions rs) is)
      (ap (λ n. not (is_forgotten rs n)) at ∙ and_left (not (is_forgotten rs g.xid)) (t g) e))
      (any_of t g (branches rs s.xid) (in_filter (λ h. h.xid == s.xid) (grants rs) g i (nat_same g.xid s.xid (sym at))) (and_right (not (is_forgotten rs g.xid)) (t g) e))

  back : list_any of_known (grants rs) ≡ true → list_any has_one (filter (is_kept_session rs) (sessions rs)) ≡ true
  back e = let g = passing of_known (grants rs) e in back_at g.it g.member g.passes (session rs g.it.xid) refl

  pub by_sessions : list_any has_one (filter (is_kept_session rs) (sessions rs)) ≡ list_any of_known (grants rs)
  by_sessions = both_ways (list_any has_one (filter (is_kept_session rs) (sessions rs))) (list_any of_known (grants rs)) forth back

-- ---- what is registered

first_none : (test : Branch → Bool) (es : List SessionEntry) → is_none (first_leg test es) ≡ not (list_any (λ e. list_any test e.session.branches) es)
first_none test [] = refl
first_none test (e ∷ es) =
    none_both (leg_with test e.xid e.session.branches) (first_leg test es)
    ∙ ap (λ b. b && is_none (first_leg test es)) (none_mapped (leg_of e.xid) (find test e.session.branches) ∙ none_found test e.session.branches)
    ∙ ap (λ b. not (list_any test e.session.branches) && b) (first_none test es)
    ∙ not_either (list_any test e.session.branches) (list_any (λ d. list_any test d.session.branches) es)
  where
    not_either : (p q : Bool) → (not p && not q) ≡ not (p || q)
    not_either true q = refl
    not_either false q = refl

module _ (rs : List SessionRecord) (a : Allowed rs) (x : Xid) (resource call : ℕ) (ticket : Ticket) where
  pub tickets_alike : is_new (snapshot_of rs) x resource call ticket kind.At ≡ is_none (granted rs x.0 resource call ticket kind.At)
  tickets_alike =
      first_none (has_ticket resource ticket) (snapshot_of rs).sessions
      ∙ ap not (any_now (λ e. list_any (has_ticket resource ticket) e.session.branches) (entry_now rs) (filter (is_kept_session rs) (sessions rs))
      ∙ any_same (λ s. list_any (has_ticket resource ticket) (map (branch_now rs) (in_order (branches rs s.xid)))) (has_one rs a (is_named x.0 resource call ticket kind.At))
      (λ s. any_now (has_ticket resource ticket) (branch_now rs) (branches rs s.xid)) (filter (is_kept_session rs) (sessions rs))
      ∙ by_sessions rs a (is_named x.0 resource call ticket kind.At))
      ∙ sym (none_found (of_known rs a (is_named x.0 resource call ticket kind.At)) (grants rs))

  call_by : (g : Grant) (b : Bool) → (g.xid == x.0) ≡ b → is_forgotten rs x.0 ≡ false →
      (b && has_call resource call (branch_now rs g)) ≡ (not (is_forgotten rs g.xid) && (not (is_at g.kind) && (b && ((g.resource == resource) && (g.call == call)))))
  call_by g true is here = sym (ap (λ f. not f && (not (is_at g.kind) && ((g.resource == resource) && (g.call == call)))) (ap (is_forgotten rs) (same_nat g.xid x.0 is) ∙ here))
  call_by g false is here = sym (no_call (not (is_forgotten rs g.xid)) (not (is_at g.kind)))
    where
      no_call : (p q : Bool) → (p && (q && false)) ≡ false
      no_call true true = refl
      no_call true false = refl
      no_call false q = refl

  calls_alike : is_known rs x.0 ≡ true → is_new (snapshot_of rs) x resource call ticket kind.Tcc ≡ is_none (granted rs x.0 resource call ticket kind.Tcc)
  calls_alike k =
      none_mapped (leg_of x) (find (has_call resource call) (branches_in (snapshot_of rs) x.0))
      ∙ none_found (has_call resource call) (branches_in (snapshot_of rs) x.0)
      ∙ ap not (ap (list_any (has_call resource call)) (branches_found rs (numbered rs a) x.0 k)
      ∙ any_now (has_call resource call) (branch_now rs) (branches rs x.0)
      ∙ filter_any (λ g. g.xid == x.0) (λ g. has_call resource call (branch_now rs g)) (grants rs)
      ∙ any_same (λ g. (g.xid == x.0) && has_call resource call (branch_now rs g)) (of_known rs a (is_named x.0 resource call ticket kind.Tcc))
      (λ g. call_by g (g.xid == x.0) refl (not_true (is_forgotten rs x.0) (and_right (is_some (session rs x.0)) (not (is_forgotten rs x.0)) k))) (grants rs))
      ∙ sym (none_found (of_known rs a (is_named x.0 resource call ticket kind.Tcc)) (grants rs))

  -- nothing is registered for this by the snapshot exactly where nothing is by the records
  pub new_alike : (kind : BranchKind) → is_known rs x.0 ≡ true → is_new (snapshot_of rs) x resource call ticket kind ≡ is_none (granted rs x.0 resource call ticket kind)
  new_alike kind.At k = tickets_alike
  new_alike kind.Tcc k = calls_alike k
