-- The AT branch of each ticket, beside a snapshot.
use Rattle.std.proofs.Common.{◌≡◌, ◌==◌, ◌&&◌, ◌||◌, ◌<◌, ◌≤◌, ℕ, zero, suc, get_or, Bool, true, false, cond, if◌then◌else◌, List, [], ◌∷◌, length, drop, Option, Some, None, Ordering, Less, Equal, Greater, refl, sym, ap, subst, ◌∙◌, arith}
use Rattle.std.specs.Prelude.{find, option_map, Result, Ok, Err, OnOk, OnErr}
use Rattle.std.specs.BTreeMap.{insert_entry, is_at as is_at_key}
use Rattle.std.specs.List.{list_any}
use Rattle.std.specs.Map.{lookup, remove_entry}
use Rattle.std.specs.Ordering.{nat_cmp, ordering_then, match_ordering, is_eq}
use Rattle.std.proofs.lemmas.Bool.Decides.{nat_tests}
use Rattle.std.proofs.lemmas.List.{drop_all}
use Rattle.seata_types.specs.declared.ids.Xid.{Xid}
use Rattle.seata_types.specs.declared.ids.Leg.{Leg}
use Rattle.seata_types.specs.declared.ids.Ticket.{Ticket}
use Rattle.durable_records.specs.Branches.{is_at, same_ticket}
use Rattle.durable_records.specs.declared.coordinators.SessionRecord.{SessionRecord}
use Rattle.durable_records.specs.declared.coordinators.SessionRecord.TheVariants as log
use Rattle.lock_table.specs.Locks.{is_holder}
use Rattle.session_log.specs.declared.keys.TicketKey.{TicketKey}
use Rattle.session_log.specs.declared.sessions.Branch.{Branch}
use Rattle.session_log.specs.declared.sessions.SessionEntry.{SessionEntry}
use Rattle.session_log.specs.declared.sessions.Snapshot.{Snapshot}
use Rattle.session_log.specs.Soundness.{entry_xid, is_at_branch}
use Rattle.session_memory.specs.Lookups.{or_else, has_xid, session_of, branches_or_none, branches_in, leg_of, has_number, has_ticket, is_with, leg_with, first_leg}
use Rattle.seata_types.specs.declared.statuses.BranchKind.{BranchKind}
use Rattle.seata_types.specs.declared.statuses.BranchKind.TheVariants as kind
use Rattle.session_memory.specs.Changes.{is_new, with_branch, with_ended, turned, changed, without, begun_entry, xid_in, with_turned, with_registered, after}
use Rattle.session_memory.specs.Order.{Each, AreAbove, AreRising, branch_number}
use Rattle.session_memory.specs.Owners.{ticket_order, Owners, owned_leg, leg_xid, owner_of, IsOwned, EachOwned, AreOwned, KeepsOthers, OthersStay, first_owned, owned_among, Takes}
use Rattle.session_memory.proofs.Small.{cmp_is, and_left, and_right, same_nat, nat_same, none_some, true_false, false_true, differ, is_none_none}
use Rattle.session_memory.proofs.Lists.{each_all, each_same, each_pair, each_both, find_missing, or_none}
use Rattle.session_memory.proofs.KeptLaws.{each_changed, each_without}
use Rattle.session_memory.proofs.PlaceLaws.{IsFirst}

-- ---- keys

then_equal : (a b : Ordering) → is_eq (ordering_then a b) ≡ (is_eq a && is_eq b)
then_equal Less b = refl
then_equal Equal b = refl
then_equal Greater b = refl

equal_by : (m n : ℕ) (o : Ordering) → nat_cmp m n ≡ o → is_eq o ≡ (n == m)
equal_by m n Less is = let less : m < n = cmp_is m n Less is in grind (arith, nat_tests)
equal_by m n Equal is = let same : m ≡ n = cmp_is m n Equal is in grind (arith, nat_tests)
equal_by m n Greater is = let more : n < m = cmp_is m n Greater is in grind (arith, nat_tests)

equal : (m n : ℕ) → is_eq (nat_cmp m n) ≡ (n == m)
equal m n = equal_by m n (nat_cmp m n) refl

-- two keys are equal where their parts are
key_equal : (q k : TicketKey) → is_eq (ticket_order q k) ≡ ((k.resource == q.resource) && same_ticket k.ticket q.ticket)
key_equal q k =
    then_equal (nat_cmp q.resource k.resource) (ordering_then (nat_cmp q.ticket.boot k.ticket.boot) (nat_cmp q.ticket.seq k.ticket.seq))
    ∙ rw (then_equal (nat_cmp q.ticket.boot k.ticket.boot) (nat_cmp q.ticket.seq k.ticket.seq), equal q.resource k.resource, equal q.ticket.boot k.ticket.boot, equal q.ticket.seq k.ticket.seq) refl

parts_equal : (r s : ℕ) (t u : Ticket) → ((r == s) && same_ticket t u) ≡ true → (r ≡ s) × (t ≡ u)
parts_equal r s t u e =
    let ticket = and_right (r == s) (same_ticket t u) e in
    let boot : t.boot ≡ u.boot = same_nat t.boot u.boot (and_left (t.boot == u.boot) (t.seq == u.seq) ticket) in
    let seq : t.seq ≡ u.seq = same_nat t.seq u.seq (and_right (t.boot == u.boot) (t.seq == u.seq) ticket) in
    (same_nat r s (and_left (r == s) (same_ticket t u) e), λ i. record { boot = boot i; seq = seq i })

key_is : (q k : TicketKey) → is_eq (ticket_order q k) ≡ true → q ≡ k
key_is q k e =
    let parts = parts_equal k.resource q.resource k.ticket q.ticket (sym (key_equal q k) ∙ e) in
    λ i. record { resource = sym parts.0 i; ticket = sym parts.1 i }

ticket_itself : (t : Ticket) → same_ticket t t ≡ true
ticket_itself t = grind (arith, nat_tests)

key_itself : (k : TicketKey) → is_eq (ticket_order k k) ≡ true
key_itself k = key_equal k k ∙ rw (nat_same k.resource, ticket_itself k.ticket) refl

is_equal : (o : Ordering) → is_eq o ≡ true → o ≡ Equal
is_equal Less e = cc
is_equal Equal e = refl
is_equal Greater e = cc

-- ---- a map after an insertion and a removal

module _ (q k : TicketKey) (x : Leg) where
  same_there : (b c : Bool) (y : Leg) (rest : Option Leg) → c ≡ b → cond c (Some x) rest ≡ cond b (Some x) (cond c (Some y) rest)
  same_there true true y rest is = refl
  same_there false false y rest is = refl
  same_there true false y rest is = cc
  same_there false true y rest is = cc

  further : (b c : Bool) (y : Leg) (new rest : Option Leg) → (b ≡ true → c ≡ true → ⊥) → new ≡ cond b (Some x) rest → cond c (Some y) new ≡ cond b (Some x) (cond c (Some y) rest)
  further true true y new rest apart is = absurd (apart refl refl)
  further true false y new rest apart is = is
  further false true y new rest apart is = refl
  further false false y new rest apart is = is

  inserted_by : (e : TicketKey × Leg) (os rest : Owners) (o : Ordering) → ticket_order k e.0 ≡ o → lookup (is_at_key (ticket_order q)) rest ≡ cond (is_eq (ticket_order q k)) (Some x) (lookup (is_at_key (ticket_order q)) os) →
      lookup (is_at_key (ticket_order q)) (match_ordering o ((k, x) ∷ e ∷ os) ((e.0, x) ∷ os) (e ∷ rest)) ≡ cond (is_eq (ticket_order q k)) (Some x) (lookup (is_at_key (ticket_order q)) (e ∷ os))
  inserted_by e os rest Less is below = refl
  inserted_by e os rest Equal is below =
      same_there (is_eq (ticket_order q k)) (is_eq (ticket_order q e.0)) e.1 (lookup (is_at_key (ticket_order q)) os)
      (ap (λ (z : TicketKey). is_eq (ticket_order q z)) (sym (key_is k e.0 (ap is_eq is))))
  inserted_by e os rest Greater is below =
      further (is_eq (ticket_order q k)) (is_eq (ticket_order q e.0)) e.1 (lookup (is_at_key (ticket_order q)) rest) (lookup (is_at_key (ticket_order q)) os)
      (λ one two. let same : k ≡ e.0 = sym (key_is q k one) ∙ key_is q e.0 two in
      true_false (sym (key_itself k) ∙ ap (λ (z : TicketKey). is_eq (ticket_order k z)) same ∙ ap is_eq is)) below

  inserted : (os : Owners) → lookup (is_at_key (ticket_order q)) (insert_entry ticket_order os k x) ≡ cond (is_eq (ticket_order q k)) (Some x) (lookup (is_at_key (ticket_order q)) os)
  inserted [] = refl
  inserted (e ∷ os) = inserted_by e os (insert_entry ticket_order os k x) (ticket_order k e.0) refl (inserted os)

removed_by : (q : TicketKey) (b c : Bool) (y : Leg) (new old : Option Leg) → (b ≡ true → c ≡ false) → new ≡ old → (if b then old else cond c (Some y) new) ≡ cond c (Some y) old
removed_by q true true y new old apart is = absurd (true_false (apart refl))
removed_by q true false y new old apart is = refl
removed_by q false c y new old apart is = ap (λ (o : Option Leg). cond c (Some y) o) is

look_by : (q : TicketKey) (b : Bool) (e : TicketKey × Leg) (os rest : Owners) →
    lookup (is_at_key (ticket_order q)) (cond b os (e ∷ rest)) ≡ (if b then lookup (is_at_key (ticket_order q)) os else cond (is_eq (ticket_order q e.0)) (Some e.1) (lookup (is_at_key (ticket_order q)) rest))
look_by q true e os rest = refl
look_by q false e os rest = refl

-- another key's entry stays
removed : (q k : TicketKey) → is_eq (ticket_order q k) ≡ false → (os : Owners) → lookup (is_at_key (ticket_order q)) (remove_entry (is_at_key (ticket_order k)) os) ≡ lookup (is_at_key (ticket_order q)) os
removed q k other [] = refl
removed q k other (e ∷ os) =
    look_by q (is_eq (ticket_order k e.0)) e os (remove_entry (is_at_key (ticket_order k)) os)
    ∙ removed_by q (is_eq (ticket_order k e.0)) (is_eq (ticket_order q e.0)) e.1 (lookup (is_at_key (ticket_order q)) (remove_entry (is_at_key (ticket_order k)) os)) (lookup (is_at_key (ticket_order q)) os)
    (λ at. ap (λ (z : TicketKey). is_eq (ticket_order q z)) (sym (key_is k e.0 at)) ∙ other) (removed q k other os)

-- ---- a branch that is put

-- the ticket of a branch that has this one is this one
pub has_key : (resource : ℕ) (t : Ticket) (b : Branch) → has_ticket resource t b ≡ true → (is_at_branch b ≡ true) × (b.place.resource ≡ resource) × (b.place.ticket ≡ t)
has_key resource t b e =
    let rest = and_right (is_at_branch b) ((b.place.resource == resource) && same_ticket b.place.ticket t) e in
    let parts = parts_equal b.place.resource resource b.place.ticket t rest in
    (and_left (is_at_branch b) ((b.place.resource == resource) && same_ticket b.place.ticket t) e, parts.0, parts.1)

pub has_own : (b : Branch) → is_at_branch b ≡ true → has_ticket b.place.resource b.place.ticket b ≡ true
has_own b at = rw (at, nat_same b.place.resource, ticket_itself b.place.ticket) refl

pub same_keys : (k : TicketKey) (b : Branch) → b.place.resource ≡ k.resource → b.place.ticket ≡ k.ticket → ((k.resource == b.place.resource) && same_ticket k.ticket b.place.ticket) ≡ true
same_keys k b resource ticket =
    ap (λ (n : ℕ). (k.resource == n) && same_ticket k.ticket b.place.ticket) resource ∙ ap (λ (t : Ticket). (k.resource == k.resource) && same_ticket k.ticket t) ticket
    ∙ rw (nat_same k.resource, ticket_itself k.ticket) refl

at_other : (at here : Bool) → at ≡ true → (at && here) ≡ false → here ≡ false
at_other true here is e = e
at_other false here is e = cc

module _ (old : Owners) (x : Xid) (b : Branch) where
  abbrev with_key : Owners
  with_key = insert_entry ticket_order old (record { resource = b.place.resource; ticket = b.place.ticket }) (leg_of x b)

  put_owned : (new : Owners) → new ≡ with_key → IsOwned new x b
  put_owned new is at =
      let k : TicketKey = record { resource = b.place.resource; ticket = b.place.ticket } in
      ap (λ (os : Owners). owned_leg os b.place.resource b.place.ticket) is ∙ inserted k k (leg_of x b) old
      ∙ ap (λ (c : Bool). cond c (Some (leg_of x b)) (lookup (is_at_key (ticket_order k)) old)) (key_itself k)

  put_others : (new : Owners) → is_at_branch b ≡ true → new ≡ with_key → KeepsOthers b old new
  put_others new at is resource t other =
      let k : TicketKey = record { resource = b.place.resource; ticket = b.place.ticket } in
      let q : TicketKey = record { resource = resource; ticket = t } in
      ap (λ (os : Owners). owned_leg os resource t) is ∙ inserted q k (leg_of x b) old
      ∙ ap (λ (c : Bool). cond c (Some (leg_of x b)) (lookup (is_at_key (ticket_order q)) old)) (key_equal q k ∙ at_other (is_at_branch b) ((b.place.resource == resource) && same_ticket b.place.ticket t) at other)

pub put_at : (old new : Owners) (x : Xid) (b : Branch) → is_at_branch b ≡ true → new ≡ insert_entry ticket_order old (record { resource = b.place.resource; ticket = b.place.ticket }) (leg_of x b) → IsOwned new x b × KeepsOthers b old new
put_at old new x b at is = (put_owned old x b new is, put_others old x b new at is)

pub not_at : (os : Owners) (x : Xid) (b : Branch) → is_at_branch b ≡ false → IsOwned os x b
not_at os x b other at = false_true (sym other ∙ at)

-- ---- tickets that are given up

other_key : (k q : TicketKey) (os : Owners) (x : Xid) (leg : Leg) → is_holder (owner_of os k.resource k.ticket) x ≡ true → (leg.xid.0 == x.0) ≡ false → owned_leg os q.resource q.ticket ≡ Some leg → (c : Bool) → is_eq (ticket_order q k) ≡ c → c ≡ false
other_key k q os x leg holds other of true is =
    let same : q ≡ k = key_is q k is in
    absurd (false_true (sym other ∙ ap (λ (o : Option Leg). is_holder (option_map leg_xid o) x) (sym of) ∙ ap (λ (z : TicketKey). is_holder (owner_of os z.resource z.ticket) x) same ∙ holds))
other_key k q os x leg holds other of false is = refl

pub dropped : (old new : Owners) (x : Xid) (k : TicketKey) → is_holder (owner_of old k.resource k.ticket) x ≡ true → new ≡ remove_entry (is_at_key (ticket_order k)) old → OthersStay x old new
dropped old new x k holds is resource t leg other of =
    let q : TicketKey = record { resource = resource; ticket = t } in
    ap (λ (os : Owners). owned_leg os resource t) is ∙ removed q k (other_key k q old x leg holds other of (is_eq (ticket_order q k)) refl) old ∙ of

-- ---- a record

module _ (os : Owners) where
  owned_ended_by : (x : Xid) (t : Bool) (c : Branch) (cs rest : List Branch) → IsOwned os x c → Each (IsOwned os x) cs → Each (IsOwned os x) rest → Each (IsOwned os x) (if t then record c { ended = true } ∷ cs else c ∷ rest)
  owned_ended_by x true c cs rest p each below = (p, each)
  owned_ended_by x false c cs rest p each below = (p, below)

  owned_ended : (x : Xid) (b : ℕ) (bs : List Branch) → Each (IsOwned os x) bs → Each (IsOwned os x) (with_ended b bs)
  owned_ended x b [] each = tt
  owned_ended x b (c ∷ cs) each = owned_ended_by x (c.id.0 == b) c cs (with_ended b cs) each.0 each.1 (owned_ended x b cs each.1)

  turned_owned : (r : SessionRecord) (e : SessionEntry) → EachOwned os e → EachOwned os (record e { session = turned r e.session })
  turned_owned (log.Begun xid manager moment timeout) e each = each
  turned_owned (log.Granted xid branch resource call ticket kind hold) e each = each
  turned_owned (log.Decided xid d) e each = each
  turned_owned (log.Retrying xid) e each = each
  turned_owned (log.Ended xid branch) e each = owned_ended e.xid branch.0 e.session.branches each
  turned_owned (log.Failed xid branch stmt) e each = each
  turned_owned (log.Finished xid) e each = each
  turned_owned (log.Forgot xid) e each = each

  pub owned_as : (s t : Snapshot) → t ≡ s → AreOwned os s.sessions → AreOwned os t.sessions
  owned_as s t is each = subst (λ (u : Snapshot). AreOwned os u.sessions) (sym is) each

  pub owned_turned : (r : SessionRecord) (s : Snapshot) → AreOwned os s.sessions → AreOwned os (with_turned r s).sessions
  owned_turned r s = each_changed (xid_in r) (turned r) (EachOwned os) (EachOwned os) (λ e each. each) (turned_owned r) s.sessions

  owned_begun : (s : Snapshot) (xid : Xid) (manager moment timeout : ℕ) → AreOwned os s.sessions → AreOwned os (after (log.Begun xid manager moment timeout) s).sessions
  owned_begun s xid manager moment timeout each = each_both (EachOwned os) s.sessions (begun_entry xid manager moment timeout ∷ []) each (tt, tt)

pub begun_owned : {E : Type 0} (r : Result (Unit {0}) E) (os : Owners) (s t : Snapshot) (xid : Xid) (manager moment timeout : ℕ) → AreOwned os s.sessions →
    OnOk r (t ≡ after (log.Begun xid manager moment timeout) s) → OnErr r (t ≡ s) → AreOwned os t.sessions
begun_owned (Ok u) os s t xid manager moment timeout each ok err =
    owned_as os (after (log.Begun xid manager moment timeout) s) t ok (owned_begun os s xid manager moment timeout each)
begun_owned (Err e) os s t xid manager moment timeout each ok err = owned_as os s t err each

-- ---- a transaction less

without_by : (x : ℕ) (b : Bool) (e : SessionEntry) (es rest : List SessionEntry) → (e.xid.0 == x) ≡ b → Each (λ (d : SessionEntry). e.xid.0 < d.xid.0) es → Each (λ (d : SessionEntry). (d.xid.0 == x) ≡ false) rest →
    Each (λ (d : SessionEntry). (d.xid.0 == x) ≡ false) (if b then es else e ∷ rest)
without_by x true e es rest is above others = each_same (λ (d : SessionEntry). e.xid.0 < d.xid.0) (λ (d : SessionEntry). (d.xid.0 == x) ≡ false) (λ d less. grind (arith, nat_tests)) es above
without_by x false e es rest is above others = (is, others)

above_each : (n : ℕ) (es : List SessionEntry) → AreAbove entry_xid n es → Each (λ (d : SessionEntry). n < d.xid.0) es
above_each n [] a = tt
above_each n (e ∷ es) a = (a.0, above_each n es a.1)

no_other : (x : ℕ) (es : List SessionEntry) → AreRising entry_xid es → Each (λ (d : SessionEntry). (d.xid.0 == x) ≡ false) (without x es)
no_other x [] r = tt
no_other x (e ∷ es) r = without_by x (e.xid.0 == x) e es (without x es) refl (above_each e.xid.0 es r.0) (no_other x es r.1)

stays_owned : (x : Xid) (old new : Owners) → OthersStay x old new → (e : SessionEntry) → (EachOwned old e) × ((e.xid.0 == x.0) ≡ false) → EachOwned new e
stays_owned x old new stay e both =
    each_same (IsOwned old e.xid) (IsOwned new e.xid) (λ b owned at. stay b.place.resource b.place.ticket (leg_of e.xid b) both.1 (owned at)) e.session.branches both.0

pub forgot_owned : (x : Xid) (old new : Owners) (s : Snapshot) → OthersStay x old new → AreRising entry_xid s.sessions → AreOwned old s.sessions → AreOwned new (after (log.Forgot x) s).sessions
forgot_owned x old new s stay rising each =
    each_same (λ (e : SessionEntry). EachOwned old e × ((e.xid.0 == x.0) ≡ false)) (EachOwned new) (stays_owned x old new stay) (without x.0 s.sessions)
    (each_pair (EachOwned old) (λ (e : SessionEntry). (e.xid.0 == x.0) ≡ false) (without x.0 s.sessions) (each_without x.0 (EachOwned old) s.sessions each) (no_other x.0 s.sessions rising))

-- ---- a branch more

-- no branch has the ticket of this one, if it is AT
abbrev pub IsApart : Branch → Branch → Type 0
IsApart nb b = is_at_branch nb ≡ true → has_ticket nb.place.resource nb.place.ticket b ≡ false

abbrev pub EachApart : Branch → SessionEntry → Type 0
EachApart nb e = Each (IsApart nb) e.session.branches

apart_by : (nb b : Branch) → is_at_branch b ≡ true → IsApart nb b → (c : Bool) → has_ticket b.place.resource b.place.ticket nb ≡ c → c ≡ false
apart_by nb b at apart true is =
    let key = has_key b.place.resource b.place.ticket nb is in
    absurd (false_true (sym (apart key.0) ∙ ap (λ (n : ℕ). has_ticket n nb.place.ticket b) key.1 ∙ ap (λ (t : Ticket). has_ticket b.place.resource t b) key.2 ∙ has_own b at))
apart_by nb b at apart false is = refl

module _ (old new : Owners) (nb : Branch) (keeps : KeepsOthers nb old new) where
  branch_stays : (x : Xid) (b : Branch) → IsOwned old x b × IsApart nb b → IsOwned new x b
  branch_stays x b both at =
      keeps b.place.resource b.place.ticket (apart_by nb b at both.1 (has_ticket b.place.resource b.place.ticket nb) refl) ∙ both.0 at

  branches_stay : (x : Xid) (bs : List Branch) → Each (IsOwned old x) bs → Each (IsApart nb) bs → Each (IsOwned new x) bs
  branches_stay x bs each apart = each_same (λ (b : Branch). IsOwned old x b × IsApart nb b) (IsOwned new x) (branch_stays x) bs (each_pair (IsOwned old x) (IsApart nb) bs each apart)

  entry_stays : (e : SessionEntry) → EachOwned old e × EachApart nb e → EachOwned new e
  entry_stays e both = branches_stay e.xid e.session.branches both.0 both.1

  pub stay_owned : (es : List SessionEntry) → AreOwned old es → Each (EachApart nb) es → AreOwned new es
  stay_owned es each apart = each_same (λ (e : SessionEntry). EachOwned old e × EachApart nb e) (EachOwned new) entry_stays es (each_pair (EachOwned old) (EachApart nb) es each apart)

  module _ (x : Xid) (owned : IsOwned new x nb) where
    granted_entry : (e : SessionEntry) → (e.xid.0 == x.0) ≡ true → EachOwned old e → EachApart nb e → EachOwned new (record e { session = with_branch nb e.session })
    granted_entry e at each apart =
        let number : e.xid.0 ≡ x.0 = same_nat e.xid.0 x.0 at in
        let same : x ≡ e.xid = λ i. record { 0 = sym number i } in
        each_both (IsOwned new e.xid) e.session.branches (nb ∷ []) (branches_stay e.xid e.session.branches each apart) (subst (λ (y : Xid). IsOwned new y nb) same owned, tt)

    granted_by : (b : Bool) (e : SessionEntry) (es rest : List SessionEntry) → (e.xid.0 == x.0) ≡ b → EachOwned old e → EachApart nb e → AreOwned old es → Each (EachApart nb) es → AreOwned new rest →
        AreOwned new (if b then record e { session = with_branch nb e.session } ∷ es else e ∷ rest)
    granted_by true e es rest is one two each apart below = (granted_entry e is one two, stay_owned es each apart)
    granted_by false e es rest is one two each apart below = (branches_stay e.xid e.session.branches one two, below)

    granted_each : (es : List SessionEntry) → AreOwned old es → Each (EachApart nb) es → AreOwned new (changed x.0 (with_branch nb) es)
    granted_each [] each apart = tt
    granted_each (e ∷ es) each apart = granted_by (e.xid.0 == x.0) e es (changed x.0 (with_branch nb) es) refl each.0 apart.0 each.1 apart.1 (granted_each es each.1 apart.1)

    pub granted_owned : (s : Snapshot) → AreOwned old s.sessions → Each (EachApart nb) s.sessions → AreOwned new (with_registered s x.0 nb).sessions
    granted_owned s each apart = granted_each s.sessions each apart

-- ---- nothing is registered for a ticket

both_none : {X : Type 0} (o p : Option X) → or_else o p ≡ None → (o ≡ None) × (p ≡ None)
both_none None p e = (refl, e)
both_none (Some y) p e = absurd (none_some (sym e))

missing_by : {X : Type 0} (c : Bool) (x : X) (rest : Option X) → cond c (Some x) rest ≡ None → (c ≡ false) × (rest ≡ None)
missing_by true x rest e = absurd (none_some (sym e))
missing_by false x rest e = (refl, e)

mapped_none : {X Y : Type 0} (f : X → Y) (o : Option X) → option_map f o ≡ None → o ≡ None
mapped_none f None e = refl
mapped_none f (Some x) e = absurd (none_some (sym e))

module _ (test : Branch → Bool) where
  none_here : (bs : List Branch) → find test bs ≡ None → Each (λ (b : Branch). test b ≡ false) bs
  none_here [] e = tt
  none_here (b ∷ bs) e = let k = missing_by (test b) b (find test bs) e in (k.0, none_here bs k.1)

  none_anywhere : (es : List SessionEntry) → first_leg test es ≡ None → Each (λ (e : SessionEntry). Each (λ (b : Branch). test b ≡ false) e.session.branches) es
  none_anywhere [] e = tt
  none_anywhere (d ∷ es) e =
      let k = both_none (leg_with test d.xid d.session.branches) (first_leg test es) e in
      (none_here d.session.branches (mapped_none (leg_of d.xid) (find test d.session.branches) k.0), none_anywhere es k.1)

apart_of : (nb : Branch) (es : List SessionEntry) → first_leg (has_ticket nb.place.resource nb.place.ticket) es ≡ None → Each (EachApart nb) es
apart_of nb es none =
    let test = has_ticket nb.place.resource nb.place.ticket in
    each_same (λ (e : SessionEntry). Each (λ (b : Branch). test b ≡ false) e.session.branches) (EachApart nb)
    (λ e each. each_same (λ (b : Branch). test b ≡ false) (IsApart nb) (λ b is at. is) e.session.branches each) es (none_anywhere test es none)

apart_by_kind : (k : BranchKind) (nb : Branch) (s : Snapshot) (x : Xid) → nb.place.kind ≡ k → is_new s x nb.place.resource nb.place.call nb.place.ticket k ≡ true → Each (EachApart nb) s.sessions
apart_by_kind kind.At nb s x is new = apart_of nb s.sessions (is_none_none (first_leg (has_ticket nb.place.resource nb.place.ticket) s.sessions) new)
apart_by_kind kind.Tcc nb s x is new =
    each_all (EachApart nb) (λ e. each_all (IsApart nb) (λ b at. false_true (sym (ap is_at is) ∙ at)) e.session.branches) s.sessions

pub new_apart : (nb : Branch) (s : Snapshot) (x : Xid) → is_new s x nb.place.resource nb.place.call nb.place.ticket nb.place.kind ≡ true → Each (EachApart nb) s.sessions
new_apart nb s x new = apart_by_kind nb.place.kind nb s x refl new

-- ---- a look-up

module _ (os : Owners) (resource : ℕ) (t : Ticket) where
  -- the branch of a ticket is the one that is kept
  owned_is : (y : Xid) (b : Branch) → IsOwned os y b → has_ticket resource t b ≡ true → owned_leg os resource t ≡ Some (leg_of y b)
  owned_is y b owned is =
      let key = has_key resource t b is in
      ap (λ (n : ℕ). owned_leg os n t) (sym key.1) ∙ ap (λ (u : Ticket). owned_leg os b.place.resource u) (sym key.2) ∙ owned key.0

  not_its_by : (y : Xid) (b : Branch) → IsOwned os y b → (owner_of os resource t ≡ Some y → ⊥) → (c : Bool) → has_ticket resource t b ≡ c → c ≡ false
  not_its_by y b owned other true is = absurd (other (ap (λ (o : Option Leg). option_map leg_xid o) (owned_is y b owned is)))
  not_its_by y b owned other false is = refl

  not_its : (y : Xid) → (owner_of os resource t ≡ Some y → ⊥) → (bs : List Branch) → Each (IsOwned os y) bs → find (has_ticket resource t) bs ≡ None
  not_its y other bs each =
      find_missing (has_ticket resource t) bs
      (each_same (IsOwned os y) (λ (b : Branch). has_ticket resource t b ≡ false) (λ b owned. not_its_by y b owned other (has_ticket resource t b) refl) bs each)

  none_of : (es : List SessionEntry) → AreOwned os es → Each (λ (e : SessionEntry). owner_of os resource t ≡ Some e.xid → ⊥) es → first_leg (has_ticket resource t) es ≡ None
  none_of [] each others = refl
  none_of (e ∷ es) each others = rw (not_its e.xid others.0 e.session.branches each.0) (none_of es each.1 others.1)

  pub none_owned : (es : List SessionEntry) → AreOwned os es → owned_leg os resource t ≡ None → first_leg (has_ticket resource t) es ≡ None
  none_owned es each none =
      none_of es each
      (each_all (λ (e : SessionEntry). owner_of os resource t ≡ Some e.xid → ⊥) (λ e is. none_some (sym (ap (λ (o : Option Leg). option_map leg_xid o) none) ∙ is)) es)

  module _ (leg : Leg) (of : owned_leg os resource t ≡ Some leg) where
    its_number : (y : Xid) → owner_of os resource t ≡ Some y → leg.xid.0 ≡ y.0
    its_number y is = let same : Some leg.xid ≡ Some y = sym (ap (λ (o : Option Leg). option_map leg_xid o) of) ∙ is in cc

    -- the branches of its transaction, where that is known
    abbrev its_branches : List SessionEntry → List Branch
    its_branches es = branches_or_none (option_map session_of (find (has_xid leg.xid.0) es))

    -- it, where one of these branches is it
    abbrev it_among : List Branch → Option Leg
    it_among bs = if list_any (is_with leg.branch.0 resource t) bs then Some leg else None

    among_by : (x : Xid) (c : Branch) (cs : List Branch) (h : Bool) → has_ticket resource t c ≡ h → IsOwned os x c → option_map (leg_of x) (find (has_ticket resource t) cs) ≡ it_among cs →
        option_map (leg_of x) (cond h (Some c) (find (has_ticket resource t) cs)) ≡ (if ((c.id.0 == leg.branch.0) && h) || list_any (is_with leg.branch.0 resource t) cs then Some leg else None)
    among_by x c cs true is owned below =
        let both : Some leg ≡ Some (leg_of x c) = sym of ∙ owned_is x c owned is in
        let same : leg ≡ leg_of x c = cc in
        let here : (c.id.0 == leg.branch.0) ≡ true = ap (λ (l : Leg). c.id.0 == l.branch.0) same ∙ nat_same c.id.0 c.id.0 refl in
        rw here (ap (λ (l : Leg). Some l) (sym same))
    among_by x c cs false is owned below = rw (and_none (c.id.0 == leg.branch.0)) below
      where
        and_none : (b : Bool) → (b && false) ≡ false
        and_none true = refl
        and_none false = refl

    among : (x : Xid) (bs : List Branch) → Each (IsOwned os x) bs → option_map (leg_of x) (find (has_ticket resource t) bs) ≡ it_among bs
    among x [] each = refl
    among x (c ∷ cs) each = among_by x c cs (has_ticket resource t c) refl each.0 (among x cs each.1)

    alone : (found : Option Leg) (o : Option Leg) → o ≡ None → or_else found o ≡ found
    alone None o is = is
    alone (Some found) o is = refl

    one_by : (b : Bool) (e : SessionEntry) (es : List SessionEntry) → (e.xid.0 == leg.xid.0) ≡ b → EachOwned os e → AreOwned os es → Each (λ (d : SessionEntry). e.xid.0 < d.xid.0) es →
        first_leg (has_ticket resource t) es ≡ it_among (its_branches es) →
        or_else (leg_with (has_ticket resource t) e.xid e.session.branches) (first_leg (has_ticket resource t) es) ≡ it_among (branches_or_none (option_map session_of (cond b (Some e) (find (has_xid leg.xid.0) es))))
    one_by true e es is each rest above below =
        let number : e.xid.0 ≡ leg.xid.0 = same_nat e.xid.0 leg.xid.0 is in
        alone (leg_with (has_ticket resource t) e.xid e.session.branches) (first_leg (has_ticket resource t) es)
        (none_of es rest (each_same (λ (d : SessionEntry). e.xid.0 < d.xid.0) (λ (d : SessionEntry). owner_of os resource t ≡ Some d.xid → ⊥) (λ d less its. let here = its_number d.xid its in omega (arith, number, here, less)) es above))
        ∙ among e.xid e.session.branches each
    one_by false e es is each rest above below =
        rw (not_its e.xid (λ its. differ e.xid.0 leg.xid.0 is (sym (its_number e.xid its))) e.session.branches each) below

    one_of : (es : List SessionEntry) → AreOwned os es → AreRising entry_xid es → first_leg (has_ticket resource t) es ≡ it_among (its_branches es)
    one_of [] each rising = refl
    one_of (e ∷ es) each rising = one_by (e.xid.0 == leg.xid.0) e es refl each.0 each.1 (above_each e.xid.0 es rising.0) (one_of es each.1 rising.1)

    -- the branch of a ticket is the one that is kept, where that is known
    pub leg_owned : (s : Snapshot) → AreOwned os s.sessions → AreRising entry_xid s.sessions → first_leg (has_ticket resource t) s.sessions ≡ it_among (branches_in s leg.xid.0)
    leg_owned s each rising = one_of s.sessions each rising

-- ---- a branch that is found by its number

module _ (x resource : ℕ) (t : Ticket) where
  others_with : (n : ℕ) (bs : List Branch) → AreAbove branch_number n bs → n ≡ x → list_any (is_with x resource t) bs ≡ false
  others_with n [] above is = refl
  others_with n (b ∷ bs) above is =
      let other : (b.id.0 == x) ≡ false = grind (arith, nat_tests, above.0, is) in rw other (others_with n bs above.1 is)

  pub with_first : (bs : List Branch) (i : ℕ) (d : Branch) → AreRising branch_number bs → IsFirst (has_number x) bs i → has_ticket resource t (get_or bs i d) ≡ list_any (is_with x resource t) bs
  with_first [] i d rising f = absurd f
  with_first (b ∷ bs) zero d rising f = rw (f, others_with b.id.0 bs rising.0 (same_nat b.id.0 x f)) (or_false (has_ticket resource t b))
    where
      or_false : (c : Bool) → c ≡ (c || false)
      or_false true = refl
      or_false false = refl
  with_first (b ∷ bs) (suc i) d rising f = rw f.0 (with_first bs i d rising.1 f.1)

  pub with_none : (bs : List Branch) → Each (λ (b : Branch). has_number x b ≡ false) bs → false ≡ list_any (is_with x resource t) bs
  with_none [] n = refl
  with_none (b ∷ bs) n = rw n.0 (with_none bs n.1)

-- ---- loading

assoc : {X : Type 0} (o p q : Option X) → or_else (or_else o p) q ≡ or_else o (or_else p q)
assoc None p q = refl
assoc (Some x) p q = refl

taken_by : (x : Xid) (b : Branch) (c : Bool) (rest : Option Branch) → option_map (leg_of x) (cond c (Some b) rest) ≡ or_else (option_map (leg_of x) (cond c (Some b) None)) (option_map (leg_of x) rest)
taken_by x b true rest = refl
taken_by x b false rest = refl

among_next : (x : Xid) (b : Branch) (bs : List Branch) (resource : ℕ) (t : Ticket) → owned_among x (b ∷ bs) resource t ≡ or_else (owned_among x (b ∷ []) resource t) (owned_among x bs resource t)
among_next x b bs resource t = taken_by x b (has_ticket resource t b) (find (has_ticket resource t) bs)

-- what is left is taken after the next one
step_by : {X : Type 0} (old one mid rest left all start : Option X) → left ≡ or_else one rest → mid ≡ or_else old one → or_else old left ≡ or_else start all → or_else mid rest ≡ or_else start all
step_by old one mid rest left all start is next before = ap (λ o. or_else o rest) next ∙ assoc old one rest ∙ ap (λ o. or_else old o) (sym is) ∙ before

pub branches_next : (x : Xid) (start old mid : Owners) (all left rest : List Branch) (b : Branch) → left ≡ b ∷ rest → Takes old (owned_among x (b ∷ [])) mid →
    ((resource : ℕ) (t : Ticket) → or_else (owned_leg old resource t) (owned_among x left resource t) ≡ or_else (owned_leg start resource t) (owned_among x all resource t)) →
    (resource : ℕ) (t : Ticket) → or_else (owned_leg mid resource t) (owned_among x rest resource t) ≡ or_else (owned_leg start resource t) (owned_among x all resource t)
branches_next x start old mid all left rest b is takes before resource t =
    step_by (owned_leg old resource t) (owned_among x (b ∷ []) resource t) (owned_leg mid resource t) (owned_among x rest resource t) (owned_among x left resource t) (owned_among x all resource t) (owned_leg start resource t)
    (ap (λ (bs : List Branch). owned_among x bs resource t) is ∙ among_next x b rest resource t) (takes resource t) (before resource t)

pub entries_next : (start old mid : Owners) (all left rest : List SessionEntry) (e : SessionEntry) → left ≡ e ∷ rest → Takes old (owned_among e.xid e.session.branches) mid →
    ((resource : ℕ) (t : Ticket) → or_else (owned_leg old resource t) (first_owned left resource t) ≡ or_else (owned_leg start resource t) (first_owned all resource t)) →
    (resource : ℕ) (t : Ticket) → or_else (owned_leg mid resource t) (first_owned rest resource t) ≡ or_else (owned_leg start resource t) (first_owned all resource t)
entries_next start old mid all left rest e is takes before resource t =
    step_by (owned_leg old resource t) (owned_among e.xid e.session.branches resource t) (owned_leg mid resource t) (first_owned rest resource t) (first_owned left resource t) (first_owned all resource t) (owned_leg start resource t)
    (ap (λ (es : List SessionEntry). first_owned es resource t) is) (takes resource t) (before resource t)

pub branches_all : (x : Xid) (start end : Owners) (i : ℕ) (bs : List Branch) → length bs ≤ i →
    ((resource : ℕ) (t : Ticket) → or_else (owned_leg end resource t) (owned_among x (drop i bs) resource t) ≡ or_else (owned_leg start resource t) (owned_among x bs resource t)) → Takes start (owned_among x bs) end
branches_all x start end i bs past before resource t =
    sym (or_none (owned_leg end resource t)) ∙ ap (λ (cs : List Branch). or_else (owned_leg end resource t) (owned_among x cs resource t)) (sym (drop_all i bs past)) ∙ before resource t

pub entries_all : (start end : Owners) (i : ℕ) (es : List SessionEntry) → length es ≤ i →
    ((resource : ℕ) (t : Ticket) → or_else (owned_leg end resource t) (first_owned (drop i es) resource t) ≡ or_else (owned_leg start resource t) (first_owned es resource t)) → Takes start (first_owned es) end
entries_all start end i es past before resource t =
    sym (or_none (owned_leg end resource t)) ∙ ap (λ (ds : List SessionEntry). or_else (owned_leg end resource t) (first_owned ds resource t)) (sym (drop_all i es past)) ∙ before resource t
