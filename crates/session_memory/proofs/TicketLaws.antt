-- Where no two AT branches have one ticket, each of them is the first one of its ticket.
use Rattle.std.proofs.Common.{◌≡◌, ◌||◌, not, Bool, true, false, cond, List, [], ◌∷◌, ◌++◌, Option, Some, None, refl, sym, ap, ◌∙◌}
use Rattle.std.specs.Prelude.{find, option_map}
use Rattle.std.specs.List.{list_any, flat_map}
use Rattle.seata_types.specs.declared.ids.Xid.{Xid}
use Rattle.seata_types.specs.declared.ids.Leg.{Leg}
use Rattle.seata_types.specs.declared.statuses.BranchKind.{BranchKind}
use Rattle.seata_types.specs.declared.statuses.BranchKind.TheVariants as kind
use Rattle.durable_records.specs.Branches.{is_at}
use Rattle.session_log.specs.declared.keys.TicketKey.{TicketKey}
use Rattle.session_log.specs.declared.sessions.Branch.{Branch}
use Rattle.session_log.specs.declared.sessions.SessionEntry.{SessionEntry}
use Rattle.session_log.specs.declared.sessions.Snapshot.{Snapshot}
use Rattle.session_log.specs.Soundness.{is_at_branch, differ_after, all_differ, same_ticket_key, ticket_of, branch_ticket, entry_tickets, tickets}
use Rattle.session_memory.specs.Lookups.{or_else, leg_of, has_ticket}
use Rattle.session_memory.specs.Order.{Each}
use Rattle.session_memory.specs.Owners.{Owners, IsOwned, EachOwned, AreOwned, first_owned, owned_among, Takes}
use Rattle.session_memory.proofs.Small.{and_left, and_right, not_true, false_true, true_false}
use Rattle.session_memory.proofs.Lists.{each_all, each_same, each_pair, find_missing}
use Rattle.session_memory.proofs.OwnerLaws.{has_key, has_own, same_keys}

-- ---- keys that differ

-- a key is none of these
abbrev IsOther : List TicketKey → TicketKey → Type 0
IsOther ks k = list_any (same_ticket_key k) ks ≡ false

either_false : (a b : Bool) → (a || b) ≡ false → (a ≡ false) × (b ≡ false)
either_false true b e = true_false e
either_false false b e = (refl, e)

both_false : (a b : Bool) → a ≡ false → b ≡ false → (a || b) ≡ false
both_false a b one two = rw one two

after_first : (k : TicketKey) (before ks : List TicketKey) → Each (IsOther (k ∷ before)) ks → Each (IsOther before) ks
after_first k before ks each =
    each_same (IsOther (k ∷ before)) (IsOther before) (λ j other. (either_false (same_ticket_key j k) (list_any (same_ticket_key j) before) other).1) ks each

others : (before ks : List TicketKey) → differ_after same_ticket_key before ks ≡ true → Each (IsOther before) ks
others before [] e = tt
others before (k ∷ ks) e = (
  not_true (list_any (same_ticket_key k) before) (and_left (not (list_any (same_ticket_key k) before)) (differ_after same_ticket_key (k ∷ before) ks) e),
  after_first k before ks (others (k ∷ before) ks (and_right (not (list_any (same_ticket_key k) before)) (differ_after same_ticket_key (k ∷ before) ks) e)),
)

rest_differs : (k : TicketKey) (before ks : List TicketKey) → differ_after same_ticket_key before (k ∷ ks) ≡ true → differ_after same_ticket_key (k ∷ before) ks ≡ true
rest_differs k before ks e = and_right (not (list_any (same_ticket_key k) before)) (differ_after same_ticket_key (k ∷ before) ks) e

behind_before : (front behind before : List TicketKey) → differ_after same_ticket_key before (front ++ behind) ≡ true → Each (IsOther before) behind
behind_before [] behind before e = others before behind e
behind_before (k ∷ ks) behind before e = after_first k before behind (behind_before ks behind (k ∷ before) (rest_differs k before (ks ++ behind) e))

behind_front : (front behind before : List TicketKey) → differ_after same_ticket_key before (front ++ behind) ≡ true → Each (IsOther front) behind
behind_front [] behind before e = each_all (IsOther []) (λ j. refl) behind
behind_front (k ∷ ks) behind before e =
    let rest = rest_differs k before (ks ++ behind) e in
    each_same (λ (j : TicketKey). IsOther (k ∷ before) j × IsOther ks j) (IsOther (k ∷ ks))
    (λ j both. both_false (same_ticket_key j k) (list_any (same_ticket_key j) ks) (either_false (same_ticket_key j k) (list_any (same_ticket_key j) before) both.0).0 both.1) behind
    (each_pair (IsOther (k ∷ before)) (IsOther ks) behind (behind_before ks behind (k ∷ before) rest) (behind_front ks behind (k ∷ before) rest))

behind_differs : (front behind before : List TicketKey) → differ_after same_ticket_key before (front ++ behind) ≡ true → (b : List TicketKey) × (differ_after same_ticket_key b behind ≡ true)
behind_differs [] behind before e = (before, e)
behind_differs (k ∷ ks) behind before e = behind_differs ks behind (k ∷ before) (rest_differs k before (ks ++ behind) e)

front_differs : (front behind before : List TicketKey) → differ_after same_ticket_key before (front ++ behind) ≡ true → differ_after same_ticket_key before front ≡ true
front_differs [] behind before e = refl
front_differs (k ∷ ks) behind before e =
    rw (and_left (not (list_any (same_ticket_key k) before)) (differ_after same_ticket_key (k ∷ before) (ks ++ behind)) e) (front_differs ks behind (k ∷ before) (rest_differs k before (ks ++ behind) e))

-- ---- the keys of branches

abbrev key_of : Branch → TicketKey
key_of b = record { resource = b.place.resource; ticket = b.place.ticket }

module _ (P : TicketKey → Type 0) where
  abbrev OfTicket : Branch → Type 0
  OfTicket b = is_at_branch b ≡ true → P (key_of b)

  split : (xs ys : List TicketKey) → Each P (xs ++ ys) → Each P xs × Each P ys
  split [] ys each = (tt, each)
  split (x ∷ xs) ys each = let rest = split xs ys each.1 in ((each.0, rest.0), rest.1)

  branch_by : (k : BranchKind) (b : Branch) → b.place.kind ≡ k → Each P (ticket_of k b) → OfTicket b
  branch_by kind.At b is each at = each.0
  branch_by kind.Tcc b is each at = false_true (sym (ap is_at is) ∙ at)

  of_branches : (bs : List Branch) → Each P (flat_map branch_ticket bs) → Each OfTicket bs
  of_branches [] each = tt
  of_branches (b ∷ bs) each = let k = split (branch_ticket b) (flat_map branch_ticket bs) each in (branch_by b.place.kind b refl k.0, of_branches bs k.1)

  of_entries : (es : List SessionEntry) → Each P (flat_map entry_tickets es) → Each (λ (e : SessionEntry). Each OfTicket e.session.branches) es
  of_entries [] each = tt
  of_entries (e ∷ es) each = let k = split (entry_tickets e) (flat_map entry_tickets es) each in (of_branches e.session.branches k.0, of_entries es k.1)

-- ---- a ticket that none of these branches has

no_branch_by : (k : TicketKey) (b : Branch) (rest : List TicketKey) (of : BranchKind) → b.place.kind ≡ of → list_any (same_ticket_key k) (ticket_of of b ++ rest) ≡ false → (c : Bool) → has_ticket k.resource k.ticket b ≡ c →
    (c ≡ false) × (list_any (same_ticket_key k) rest ≡ false)
no_branch_by k b rest kind.At is other true has =
    let key = has_key k.resource k.ticket b has in
    let same : same_ticket_key k (key_of b) ≡ true = same_keys k b key.1 key.2 in
    true_false (sym same ∙ (either_false (same_ticket_key k (key_of b)) (list_any (same_ticket_key k) rest) other).0)
no_branch_by k b rest kind.At is other false has = (refl, (either_false (same_ticket_key k (key_of b)) (list_any (same_ticket_key k) rest) other).1)
no_branch_by k b rest kind.Tcc is other true has =
    let key = has_key k.resource k.ticket b has in
    false_true (sym (ap is_at is) ∙ key.0)
no_branch_by k b rest kind.Tcc is other false has = (refl, other)

no_branch : (k : TicketKey) (bs : List Branch) → list_any (same_ticket_key k) (flat_map branch_ticket bs) ≡ false → Each (λ (b : Branch). has_ticket k.resource k.ticket b ≡ false) bs
no_branch k [] other = tt
no_branch k (b ∷ bs) other =
    let one = no_branch_by k b (flat_map branch_ticket bs) b.place.kind refl other (has_ticket k.resource k.ticket b) refl in
    (one.0, no_branch k bs one.1)

no_one_by : (k : TicketKey) (b : Branch) (of : BranchKind) → b.place.kind ≡ of → list_any (same_ticket_key k) (ticket_of of b) ≡ false → has_ticket k.resource k.ticket b ≡ false
no_one_by k b kind.At is other = (no_branch_by k b [] kind.At is other (has_ticket k.resource k.ticket b) refl).0
no_one_by k b kind.Tcc is other = (no_branch_by k b [] kind.Tcc is other (has_ticket k.resource k.ticket b) refl).0

none_among : (x : Xid) (k : TicketKey) (bs : List Branch) → list_any (same_ticket_key k) (flat_map branch_ticket bs) ≡ false → owned_among x bs k.resource k.ticket ≡ None
none_among x k bs other = rw (find_missing (has_ticket k.resource k.ticket) bs (no_branch k bs other)) refl

-- ---- a ticket that one of these branches has

abbrev IsAmong : Xid → List Branch → Branch → Type 0
IsAmong x bs b = is_at_branch b ≡ true → owned_among x bs b.place.resource b.place.ticket ≡ Some (leg_of x b)

module _ (x : Xid) (b : Branch) (bs : List Branch) where
  among_own : IsAmong x (b ∷ bs) b
  among_own at = ap (λ (c : Bool). option_map (leg_of x) (cond c (Some b) (find (has_ticket b.place.resource b.place.ticket) bs))) (has_own b at)

  among_later : (c : Branch) → OfTicket (IsOther (branch_ticket b)) c × IsAmong x bs c → IsAmong x (b ∷ bs) c
  among_later c both at =
      ap (λ (h : Bool). option_map (leg_of x) (cond h (Some b) (find (has_ticket c.place.resource c.place.ticket) bs))) (no_one_by (key_of c) b b.place.kind refl (both.0 at)) ∙ both.1 at

some_among : (x : Xid) (bs : List Branch) (before : List TicketKey) → differ_after same_ticket_key before (flat_map branch_ticket bs) ≡ true → Each (IsAmong x bs) bs
some_among x [] before e = tt
some_among x (b ∷ bs) before e =
    let rest = behind_differs (branch_ticket b) (flat_map branch_ticket bs) before e in (
      among_own x b bs,
      each_same (λ (c : Branch). OfTicket (IsOther (branch_ticket b)) c × IsAmong x bs c) (IsAmong x (b ∷ bs)) (among_later x b bs) bs
          (each_pair (OfTicket (IsOther (branch_ticket b))) (IsAmong x bs) bs (of_branches (IsOther (branch_ticket b)) bs (behind_front (branch_ticket b) (flat_map branch_ticket bs) before e)) (some_among x bs rest.0 rest.1)),
    )

-- ---- all transactions

abbrev IsFirst : List SessionEntry → Xid → Branch → Type 0
IsFirst es x b = is_at_branch b ≡ true → first_owned es b.place.resource b.place.ticket ≡ Some (leg_of x b)

abbrev EachFirst : List SessionEntry → SessionEntry → Type 0
EachFirst es e = Each (IsFirst es e.xid) e.session.branches

module _ (e : SessionEntry) (es : List SessionEntry) where
  first_own : (b : Branch) → IsAmong e.xid e.session.branches b → IsFirst (e ∷ es) e.xid b
  first_own b there at = ap (λ (o : Option Leg). or_else o (first_owned es b.place.resource b.place.ticket)) (there at)

  first_later : (y : Xid) (b : Branch) → (OfTicket (IsOther (entry_tickets e)) b) × IsFirst es y b → IsFirst (e ∷ es) y b
  first_later y b both at =
      ap (λ (o : Option Leg). or_else o (first_owned es b.place.resource b.place.ticket)) (none_among e.xid (key_of b) e.session.branches (both.0 at)) ∙ both.1 at

  later_each : (d : SessionEntry) → Each (OfTicket (IsOther (entry_tickets e))) d.session.branches × EachFirst es d → EachFirst (e ∷ es) d
  later_each d both =
      each_same (λ (b : Branch). OfTicket (IsOther (entry_tickets e)) b × IsFirst es d.xid b) (IsFirst (e ∷ es) d.xid) (first_later d.xid) d.session.branches
      (each_pair (OfTicket (IsOther (entry_tickets e))) (IsFirst es d.xid) d.session.branches both.0 both.1)

firsts : (es : List SessionEntry) (before : List TicketKey) → differ_after same_ticket_key before (flat_map entry_tickets es) ≡ true → Each (EachFirst es) es
firsts [] before e = tt
firsts (d ∷ es) before e =
    let rest = behind_differs (entry_tickets d) (flat_map entry_tickets es) before e in (
      each_same (IsAmong d.xid d.session.branches) (IsFirst (d ∷ es) d.xid) (first_own d es) d.session.branches
          (some_among d.xid d.session.branches before (front_differs (entry_tickets d) (flat_map entry_tickets es) before e)),
      each_same (λ (c : SessionEntry). Each (OfTicket (IsOther (entry_tickets d))) c.session.branches × EachFirst es c) (EachFirst (d ∷ es)) (later_each d es) es
          (each_pair (λ (c : SessionEntry). Each (OfTicket (IsOther (entry_tickets d))) c.session.branches) (EachFirst es) es
          (of_entries (IsOther (entry_tickets d)) es (behind_front (entry_tickets d) (flat_map entry_tickets es) before e)) (firsts es rest.0 rest.1)),
    )

pub loaded_owned : (os : Owners) (s : Snapshot) → all_differ same_ticket_key (tickets s) ≡ true → Takes [] (first_owned s.sessions) os → AreOwned os s.sessions
loaded_owned os s differ takes =
    each_same (EachFirst s.sessions) (EachOwned os)
    (λ e each. each_same (IsFirst s.sessions e.xid) (IsOwned os e.xid) (λ b first at. takes b.place.resource b.place.ticket ∙ first at) e.session.branches each) s.sessions (firsts s.sessions [] differ)
