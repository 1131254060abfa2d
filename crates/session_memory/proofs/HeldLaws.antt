-- What a change of transactions does to the rows that they hold.
use Rattle.std.proofs.Common.{◌≡◌, ◌==◌, ◌<◌, ◌≤◌, ℕ, Bool, true, false, cond, if◌then◌else◌, List, [], ◌∷◌, ◌++◌, Option, Some, Ordering, Less, Equal, Greater, refl, sym, ap, subst, ◌∙◌, arith, append_assoc}
use Rattle.std.specs.Prelude.{find, filter}
use Rattle.std.specs.BTreeMap.{insert_entry}
use Rattle.std.specs.Map.{remove_entry}
use Rattle.std.specs.Ordering.{nat_cmp, ordering_then, is_eq}
use Rattle.std.proofs.lemmas.Cmp.{nat_cmp_total, tied_itself}
use Rattle.seata_types.specs.declared.ids.Xid.{Xid}
use Rattle.seata_types.specs.declared.ids.Leg.{Leg}
use Rattle.seata_types.specs.declared.rows.RowKey.{RowKey}
use Rattle.lock_table.specs.Locks.{Holds, leg_cmp, is_leg, with_rows, without_leg, without_xid, is_of_other}
use Rattle.lock_table.proofs.Puts.{same_xid}
use Rattle.session_log.specs.declared.sessions.Branch.{Branch}
use Rattle.session_log.specs.declared.sessions.Session.{Session}
use Rattle.session_log.specs.declared.sessions.SessionEntry.{SessionEntry}
use Rattle.session_log.specs.Soundness.{entry_xid}
use Rattle.session_memory.specs.Lookups.{has_xid, leg_of}
use Rattle.session_memory.specs.Holding.{keeps_rows, held_by_branches, held_by, held}
use Rattle.session_memory.specs.Changes.{with_branch, with_ended, changed, without}
use Rattle.session_memory.specs.Order.{Each, AreAbove, AreRising, IsNumbered, IsGranted, branch_number}
use Rattle.session_memory.proofs.Small.{true_false, none_some, same_nat, nat_differs, differ, cmp_less, cmp_greater, cmp_is}
use Rattle.session_memory.proofs.EntryLaws.{AreOthers, others_both, removed_none, found_none, removed_left, removed_right, Compare, others_compared, compared_both, put_behind, put_before}

pub leg_itself : (leg : Leg) → is_leg leg leg ≡ true
leg_itself leg = ap (λ (o : Ordering). is_eq (ordering_then o (nat_cmp leg.branch.0 leg.branch.0))) (tied_itself nat_cmp_total leg.xid.0) ∙ ap is_eq (tied_itself nat_cmp_total leg.branch.0)

-- ---- order

above_more : {X : Type 0} (number : X → ℕ) (m n : ℕ) → m ≤ n → (xs : List X) → AreAbove number n xs → AreAbove number m xs
above_more number m n le [] a = tt
above_more number m n le (x ∷ xs) a = (omega (arith, le, a.0), above_more number m n le xs a.1)

-- what is found among those above a number is above it
found_by : (b : Bool) (x : ℕ) (e f : SessionEntry) (rest : Option SessionEntry) → (e.xid.0 == x) ≡ b → cond b (Some e) rest ≡ Some f → (rest ≡ Some f → f.xid.0 ≡ x) → f.xid.0 ≡ x
found_by true x e f rest is found below = let same : e ≡ f = cc in ap (λ (g : SessionEntry). g.xid.0) (sym same) ∙ same_nat e.xid.0 x is
found_by false x e f rest is found below = below found

pub found_xid : (x : ℕ) (es : List SessionEntry) (f : SessionEntry) → find (has_xid x) es ≡ Some f → f.xid.0 ≡ x
found_xid x [] f found = none_some found
found_xid x (e ∷ es) f found = found_by (e.xid.0 == x) x e f (find (has_xid x) es) refl found (found_xid x es f)

above_by : (b : Bool) (n x : ℕ) (e f : SessionEntry) (rest : Option SessionEntry) → n < e.xid.0 → cond b (Some e) rest ≡ Some f → (rest ≡ Some f → n < f.xid.0) → n < f.xid.0
above_by true n x e f rest lt found below = let same : e ≡ f = cc in subst (λ (g : SessionEntry). n < g.xid.0) same lt
above_by false n x e f rest lt found below = below found

found_above : (n x : ℕ) (es : List SessionEntry) (f : SessionEntry) → AreAbove entry_xid n es → find (has_xid x) es ≡ Some f → n < f.xid.0
found_above n x [] f a found = none_some found
found_above n x (e ∷ es) f a found = above_by (e.xid.0 == x) n x e f (find (has_xid x) es) a.0 found (found_above n x es f a.1)

pub below_found : (n x : ℕ) (es : List SessionEntry) (f : SessionEntry) → AreAbove entry_xid n es → find (has_xid x) es ≡ Some f → n < x
below_found n x es f a found = let is = found_xid x es f found in omega (arith, is, found_above n x es f a found)

-- ---- the entries of one transaction, beside a branch

module _ (leg : Leg) where
  greater_leg : (x : Xid) (b : Branch) → x.0 < leg.xid.0 → leg_cmp leg (leg_of x b) ≡ Greater
  greater_leg x b lt = ap (λ (o : Ordering). ordering_then o (nat_cmp leg.branch.0 b.id.0)) (cmp_greater leg.xid.0 x.0 lt)

  less_leg : (x : Xid) (b : Branch) → leg.xid.0 < x.0 → leg_cmp leg (leg_of x b) ≡ Less
  less_leg x b lt = ap (λ (o : Ordering). ordering_then o (nat_cmp leg.branch.0 b.id.0)) (cmp_less leg.xid.0 x.0 lt)

  pub later_leg : (x : Xid) (b : Branch) → leg.xid.0 ≡ x.0 → b.id.0 < leg.branch.0 → leg_cmp leg (leg_of x b) ≡ Greater
  later_leg x b same lt =
      ap (λ (n : ℕ). ordering_then (nat_cmp leg.xid.0 n) (nat_cmp leg.branch.0 b.id.0)) (sym same)
      ∙ ap (λ (o : Ordering). ordering_then o (nat_cmp leg.branch.0 b.id.0)) (tied_itself nat_cmp_total leg.xid.0)
      ∙ cmp_greater leg.branch.0 b.id.0 lt

  -- entries of branches that compare alike
  branches_by : (o : Ordering) (x : Xid) (b : Branch) (bs : List Branch) (c : Bool) → leg_cmp leg (leg_of x b) ≡ o → Compare o leg (held_by_branches x bs)
      → Compare o leg (if c then held_by_branches x bs else ((leg_of x b, b.hold) ∷ held_by_branches x bs))
  branches_by o x b bs true here rest = rest
  branches_by o x b bs false here rest = (here, rest)

  branches_greater : (x : Xid) → x.0 < leg.xid.0 → (bs : List Branch) → Compare Greater leg (held_by_branches x bs)
  branches_greater x lt [] = tt
  branches_greater x lt (b ∷ bs) = branches_by Greater x b bs b.ended (greater_leg x b lt) (branches_greater x lt bs)

  branches_less : (x : Xid) → leg.xid.0 < x.0 → (bs : List Branch) → Compare Less leg (held_by_branches x bs)
  branches_less x lt [] = tt
  branches_less x lt (b ∷ bs) = branches_by Less x b bs b.ended (less_leg x b lt) (branches_less x lt bs)

  branches_later : (x : Xid) (granted : ℕ) → leg.xid.0 ≡ x.0 → granted < leg.branch.0 → (bs : List Branch) → Each (IsGranted granted) bs → Compare Greater leg (held_by_branches x bs)
  branches_later x granted same lt [] each = tt
  branches_later x granted same lt (b ∷ bs) each =
      branches_by Greater x b bs b.ended (later_leg x b same (omega (arith, lt, each.0))) (branches_later x granted same lt bs each.1)

  kept_by : (o : Ordering) (c : Bool) (hs : Holds) → Compare o leg hs → Compare o leg (if c then hs else [])
  kept_by o true hs n = n
  kept_by o false hs n = tt

  pub entry_greater : (e : SessionEntry) → e.xid.0 < leg.xid.0 → Compare Greater leg (held_by e)
  entry_greater e lt = kept_by Greater (keeps_rows e.session.status) (held_by_branches e.xid e.session.branches) (branches_greater e.xid lt e.session.branches)

  entry_less : (e : SessionEntry) → leg.xid.0 < e.xid.0 → Compare Less leg (held_by e)
  entry_less e lt = kept_by Less (keeps_rows e.session.status) (held_by_branches e.xid e.session.branches) (branches_less e.xid lt e.session.branches)

  entry_later : (granted : ℕ) (e : SessionEntry) → leg.xid.0 ≡ e.xid.0 → granted < leg.branch.0 → Each (IsGranted granted) e.session.branches → Compare Greater leg (held_by e)
  entry_later granted e same lt each =
      kept_by Greater (keeps_rows e.session.status) (held_by_branches e.xid e.session.branches) (branches_later e.xid granted same lt e.session.branches each)

  held_less : (es : List SessionEntry) → AreAbove entry_xid leg.xid.0 es → Compare Less leg (held es)
  held_less [] a = tt
  held_less (e ∷ es) a = compared_both leg Less (held_by e) (held es) (entry_less e a.0) (held_less es a.1)

  pub others_above : (es : List SessionEntry) → AreAbove entry_xid leg.xid.0 es → AreOthers leg (held es)
  others_above es a = others_compared leg Less refl (held es) (held_less es a)

  pub others_before : (e : SessionEntry) → e.xid.0 < leg.xid.0 → AreOthers leg (held_by e)
  others_before e lt = others_compared leg Greater refl (held_by e) (entry_greater e lt)

-- ---- a branch is registered

held_more_by : (x : Xid) (nb b : Branch) (bs : List Branch) (c : Bool) → held_by_branches x (bs ++ nb ∷ []) ≡ held_by_branches x bs ++ (leg_of x nb, nb.hold) ∷ [] →
    (if c then held_by_branches x (bs ++ nb ∷ []) else ((leg_of x b, b.hold) ∷ held_by_branches x (bs ++ nb ∷ [])))
    ≡ (if c then held_by_branches x bs else ((leg_of x b, b.hold) ∷ held_by_branches x bs)) ++ (leg_of x nb, nb.hold) ∷ []
held_more_by x nb b bs true below = below
held_more_by x nb b bs false below = ap (λ (r : Holds). (leg_of x b, b.hold) ∷ r) below

held_more : (x : Xid) (nb : Branch) → nb.ended ≡ false → (bs : List Branch) → held_by_branches x (bs ++ nb ∷ []) ≡ held_by_branches x bs ++ (leg_of x nb, nb.hold) ∷ []
held_more x nb unended [] = rw unended refl
held_more x nb unended (b ∷ bs) = held_more_by x nb b bs b.ended (held_more x nb unended bs)

module _ (x : Xid) (nb : Branch) (unended : nb.ended ≡ false) (granted : ℕ) (new : granted < nb.id.0) where
  abbrev leg : Leg
  leg = leg_of x nb

  at_entry : (begun : ℕ) (e : SessionEntry) (es : List SessionEntry) → e.xid ≡ x → keeps_rows e.session.status ≡ true → AreAbove entry_xid e.xid.0 es → IsNumbered begun granted e →
      insert_entry leg_cmp (held_by e ++ held es) leg nb.hold ≡ held_by (record e { session = with_branch nb e.session }) ++ held es
  at_entry begun e es is keeps a n =
      put_behind leg nb.hold (held_by e) (held es) (entry_later leg granted e (ap (λ (y : Xid). y.0) (sym is)) new n.branches)
      ∙ ap (λ (r : Holds). held_by e ++ r) (put_before leg nb.hold (held es) (held_less leg es (subst (λ (y : Xid). AreAbove entry_xid y.0 es) is a)))
      ∙ sym (append_assoc (held_by e) ((leg, nb.hold) ∷ []) (held es))
      ∙ ap (λ (r : Holds). r ++ held es) (rw keeps (ap (λ (y : Xid). held_by_branches e.xid e.session.branches ++ (leg_of y nb, nb.hold) ∷ []) (sym is) ∙ sym (held_more e.xid nb unended e.session.branches)))

  granted_by : (begun : ℕ) (b : Bool) (e f : SessionEntry) (es : List SessionEntry) → (e.xid.0 == x.0) ≡ b → cond b (Some e) (find (has_xid x.0) es) ≡ Some f → keeps_rows f.session.status ≡ true →
      AreAbove entry_xid e.xid.0 es → IsNumbered begun granted e →
      (find (has_xid x.0) es ≡ Some f → insert_entry leg_cmp (held es) leg nb.hold ≡ held (changed x.0 (with_branch nb) es)) →
      insert_entry leg_cmp (held_by e ++ held es) leg nb.hold ≡ held (if b then record e { session = with_branch nb e.session } ∷ es else e ∷ changed x.0 (with_branch nb) es)
  granted_by begun true e f es is found keeps a n below =
      let same : e ≡ f = cc in
      at_entry begun e es (same_xid e.xid x (same_nat e.xid.0 x.0 is)) (ap (λ (g : SessionEntry). keeps_rows g.session.status) same ∙ keeps) a n
  granted_by begun false e f es is found keeps a n below =
      put_behind leg nb.hold (held_by e) (held es) (entry_greater leg e (below_found e.xid.0 x.0 es f a found)) ∙ ap (λ (r : Holds). held_by e ++ r) (below found)

  put_granted : (begun : ℕ) (f : SessionEntry) (es : List SessionEntry) → find (has_xid x.0) es ≡ Some f → keeps_rows f.session.status ≡ true → AreRising entry_xid es → Each (IsNumbered begun granted) es →
      insert_entry leg_cmp (held es) leg nb.hold ≡ held (changed x.0 (with_branch nb) es)
  put_granted begun f [] found keeps a n = none_some found
  put_granted begun f (e ∷ es) found keeps a n =
      granted_by begun (e.xid.0 == x.0) e f es refl found keeps a.0 n.0 (λ below. put_granted begun f es below keeps a.1 n.1)

  -- the branch holds nothing before
  new_by : (begun : ℕ) (e : SessionEntry) (es : List SessionEntry) (o : Ordering) → nat_cmp x.0 e.xid.0 ≡ o → IsNumbered begun granted e → AreOthers leg (held_by e)
  new_by begun e es Less is n = others_compared leg Less refl (held_by e) (entry_less leg e (cmp_is x.0 e.xid.0 Less is))
  new_by begun e es Equal is n = others_compared leg Greater refl (held_by e) (entry_later leg granted e (cmp_is x.0 e.xid.0 Equal is) new n.branches)
  new_by begun e es Greater is n = others_compared leg Greater refl (held_by e) (entry_greater leg e (cmp_is x.0 e.xid.0 Greater is))

  pub is_new_leg : (begun : ℕ) (es : List SessionEntry) → Each (IsNumbered begun granted) es → AreOthers leg (held es)
  is_new_leg begun [] n = tt
  is_new_leg begun (e ∷ es) n = others_both leg (held_by e) (held es) (new_by begun e es (nat_cmp x.0 e.xid.0) refl n.0) (is_new_leg begun es n.1)

  pub held_granted : (begun : ℕ) (f : SessionEntry) (es : List SessionEntry) → find (has_xid x.0) es ≡ Some f → keeps_rows f.session.status ≡ true → AreRising entry_xid es → Each (IsNumbered begun granted) es →
      with_rows (held es) leg nb.hold ≡ held (changed x.0 (with_branch nb) es)
  held_granted begun f es found keeps a n =
      rw (found_none leg (held es) (is_new_leg begun es n)) (put_granted begun f es found keeps a n)

-- ---- a transaction changes, and holds the same

module _ (x : ℕ) (f : Session → Session) where
  abbrev after_f : SessionEntry → SessionEntry
  after_f e = record e { session = f e.session }

  same_by : (b : Bool) (e : SessionEntry) (es : List SessionEntry) → ((d : SessionEntry) → cond b (Some e) (find (has_xid x) es) ≡ Some d → held_by (after_f d) ≡ held_by d) →
      (((d : SessionEntry) → find (has_xid x) es ≡ Some d → held_by (after_f d) ≡ held_by d) → held (changed x f es) ≡ held es) →
      held (if b then after_f e ∷ es else e ∷ changed x f es) ≡ held_by e ++ held es
  same_by true e es here below = ap (λ (r : Holds). r ++ held es) (here e refl)
  same_by false e es here below = ap (λ (r : Holds). held_by e ++ r) (below here)

  pub held_same : (es : List SessionEntry) → ((d : SessionEntry) → find (has_xid x) es ≡ Some d → held_by (after_f d) ≡ held_by d) → held (changed x f es) ≡ held es
  held_same [] here = refl
  held_same (e ∷ es) here = same_by (e.xid.0 == x) e es here (held_same es)

-- ---- a transaction gives back all its rows

filter_by : (p : Leg × List RowKey → Bool) (b : Bool) (x : Leg × List RowKey) (xs ys rest : Holds) → rest ≡ filter p xs ++ filter p ys → cond b (x ∷ rest) rest ≡ cond b (x ∷ filter p xs) (filter p xs) ++ filter p ys
filter_by p true x xs ys rest e = ap (λ (r : Holds). x ∷ r) e
filter_by p false x xs ys rest e = e

filter_both : (p : Leg × List RowKey → Bool) (xs ys : Holds) → filter p (xs ++ ys) ≡ filter p xs ++ filter p ys
filter_both p [] ys = refl
filter_both p (x ∷ xs) ys = filter_by p (p x) x xs ys (filter p (xs ++ ys)) (filter_both p xs ys)

module _ (x : Xid) where
  all_kept : (hs : Holds) → Each (λ (h : Leg × List RowKey). (h.0.xid.0 == x.0) ≡ false) hs → filter (is_of_other x) hs ≡ hs
  all_kept [] n = refl
  all_kept (h ∷ hs) n = rw n.0 (ap (λ (r : Holds). h ∷ r) (all_kept hs n.1))

  none_kept : (hs : Holds) → Each (λ (h : Leg × List RowKey). (h.0.xid.0 == x.0) ≡ true) hs → filter (is_of_other x) hs ≡ []
  none_kept [] n = refl
  none_kept (h ∷ hs) n = rw n.0 (none_kept hs n.1)

  branches_have_by : (t : Bool) (y : Xid) (b : Branch) (bs : List Branch) (c : Bool) → (y.0 == x.0) ≡ t → Each (λ (h : Leg × List RowKey). (h.0.xid.0 == x.0) ≡ t) (held_by_branches y bs) →
      Each (λ (h : Leg × List RowKey). (h.0.xid.0 == x.0) ≡ t) (if c then held_by_branches y bs else ((leg_of y b, b.hold) ∷ held_by_branches y bs))
  branches_have_by t y b bs true is below = below
  branches_have_by t y b bs false is below = (is, below)

  branches_have : (t : Bool) (y : Xid) (bs : List Branch) → (y.0 == x.0) ≡ t → Each (λ (h : Leg × List RowKey). (h.0.xid.0 == x.0) ≡ t) (held_by_branches y bs)
  branches_have t y [] is = tt
  branches_have t y (b ∷ bs) is = branches_have_by t y b bs b.ended is (branches_have t y bs is)

  entry_has_by : (t c : Bool) (hs : Holds) → Each (λ (h : Leg × List RowKey). (h.0.xid.0 == x.0) ≡ t) hs → Each (λ (h : Leg × List RowKey). (h.0.xid.0 == x.0) ≡ t) (if c then hs else [])
  entry_has_by t true hs n = n
  entry_has_by t false hs n = tt

  entry_has : (t : Bool) (e : SessionEntry) → (e.xid.0 == x.0) ≡ t → Each (λ (h : Leg × List RowKey). (h.0.xid.0 == x.0) ≡ t) (held_by e)
  entry_has t e is = entry_has_by t (keeps_rows e.session.status) (held_by_branches e.xid e.session.branches) (branches_have t e.xid e.session.branches is)

  pub above_kept : (es : List SessionEntry) → AreAbove entry_xid x.0 es → filter (is_of_other x) (held es) ≡ held es
  above_kept [] a = refl
  above_kept (e ∷ es) a =
      filter_both (is_of_other x) (held_by e) (held es)
      ∙ ap (λ (r : Holds). r ++ filter (is_of_other x) (held es)) (all_kept (held_by e) (entry_has false e (nat_differs e.xid.0 x.0 (λ is. omega (arith, is, a.0)))))
      ∙ ap (λ (r : Holds). held_by e ++ r) (above_kept es a.1)

  given_here : (e : SessionEntry) (es : List SessionEntry) → (e.xid.0 == x.0) ≡ true → AreAbove entry_xid e.xid.0 es → filter (is_of_other x) (held_by e ++ held es) ≡ held es
  given_here e es is a =
      filter_both (is_of_other x) (held_by e) (held es)
      ∙ ap (λ (r : Holds). r ++ filter (is_of_other x) (held es)) (none_kept (held_by e) (entry_has true e is))
      ∙ above_kept es (subst (λ (n : ℕ). AreAbove entry_xid n es) (same_nat e.xid.0 x.0 is) a)

  given_there : (e : SessionEntry) (es : List SessionEntry) (rest : Holds) → (e.xid.0 == x.0) ≡ false → filter (is_of_other x) (held es) ≡ rest → filter (is_of_other x) (held_by e ++ held es) ≡ held_by e ++ rest
  given_there e es rest is below =
      filter_both (is_of_other x) (held_by e) (held es)
      ∙ ap (λ (r : Holds). r ++ filter (is_of_other x) (held es)) (all_kept (held_by e) (entry_has false e is))
      ∙ ap (λ (r : Holds). held_by e ++ r) below

  module _ (f : Session → Session) (frees : (t : Session) → keeps_rows (f t).status ≡ false) where
    given_by : (b : Bool) (e : SessionEntry) (es : List SessionEntry) → (e.xid.0 == x.0) ≡ b → AreAbove entry_xid e.xid.0 es → filter (is_of_other x) (held es) ≡ held (changed x.0 f es) →
        filter (is_of_other x) (held_by e ++ held es) ≡ held (if b then record e { session = f e.session } ∷ es else e ∷ changed x.0 f es)
    given_by true e es is a below = rw (frees e.session) (given_here e es is a)
    given_by false e es is a below = given_there e es (held (changed x.0 f es)) is below

    pub held_given_back : (es : List SessionEntry) → AreRising entry_xid es → without_xid (held es) x ≡ held (changed x.0 f es)
    held_given_back [] a = refl
    held_given_back (e ∷ es) a = given_by (e.xid.0 == x.0) e es refl a.0 (held_given_back es a.1)

  without_by : (b : Bool) (e : SessionEntry) (es : List SessionEntry) → (e.xid.0 == x.0) ≡ b → AreAbove entry_xid e.xid.0 es → filter (is_of_other x) (held es) ≡ held (without x.0 es) →
      filter (is_of_other x) (held_by e ++ held es) ≡ held (if b then es else e ∷ without x.0 es)
  without_by true e es is a below = given_here e es is a
  without_by false e es is a below = given_there e es (held (without x.0 es)) is below

  pub held_without : (es : List SessionEntry) → AreRising entry_xid es → without_xid (held es) x ≡ held (without x.0 es)
  held_without [] a = refl
  held_without (e ∷ es) a = without_by (e.xid.0 == x.0) e es refl a.0 (held_without es a.1)

-- ---- a branch is ended

not_tied : (p q : Ordering) → is_eq q ≡ false → is_eq (ordering_then p q) ≡ false
not_tied Less q e = refl
not_tied Equal q e = e
not_tied Greater q e = refl

first_differs : (p q : Ordering) → is_eq p ≡ false → is_eq (ordering_then p q) ≡ false
first_differs Less q e = refl
first_differs Equal q e = true_false e
first_differs Greater q e = refl

apart_by : (m n : ℕ) (o : Ordering) → nat_cmp m n ≡ o → (m ≡ n → ⊥) → is_eq o ≡ false
apart_by m n Less e d = refl
apart_by m n Equal e d = absurd (d (cmp_is m n Equal e))
apart_by m n Greater e d = refl

apart : (m n : ℕ) → (m ≡ n → ⊥) → is_eq (nat_cmp m n) ≡ false
apart m n d = apart_by m n (nat_cmp m n) refl d

module _ (leg : Leg) where
  other_branch : (y : Xid) (c : Branch) → (leg.branch.0 ≡ c.id.0 → ⊥) → is_leg leg (leg_of y c) ≡ false
  other_branch y c d = not_tied (nat_cmp leg.xid.0 y.0) (nat_cmp leg.branch.0 c.id.0) (apart leg.branch.0 c.id.0 d)

  other_xid : (y : Xid) (c : Branch) → (leg.xid.0 ≡ y.0 → ⊥) → is_leg leg (leg_of y c) ≡ false
  other_xid y c d = first_differs (nat_cmp leg.xid.0 y.0) (nat_cmp leg.branch.0 c.id.0) (apart leg.xid.0 y.0 d)

  same_leg : (y : Xid) (c : Branch) → leg.xid.0 ≡ y.0 → leg.branch.0 ≡ c.id.0 → is_leg leg (leg_of y c) ≡ true
  same_leg y c p q = ap (λ (n : ℕ). is_eq (ordering_then (nat_cmp leg.xid.0 n) (nat_cmp leg.branch.0 c.id.0))) (sym p) ∙ ap (λ (n : ℕ). is_eq (ordering_then (nat_cmp leg.xid.0 leg.xid.0) (nat_cmp leg.branch.0 n))) (sym q) ∙ leg_itself leg

  others_by : (y : Xid) (b : Branch) (bs : List Branch) (c : Bool) → is_leg leg (leg_of y b) ≡ false → AreOthers leg (held_by_branches y bs) →
      AreOthers leg (if c then held_by_branches y bs else ((leg_of y b, b.hold) ∷ held_by_branches y bs))
  others_by y b bs true is below = below
  others_by y b bs false is below = (is, below)

  branches_above : (y : Xid) (bs : List Branch) → AreAbove branch_number leg.branch.0 bs → AreOthers leg (held_by_branches y bs)
  branches_above y [] a = tt
  branches_above y (b ∷ bs) a = others_by y b bs b.ended (other_branch y b (λ is. omega (arith, is, a.0))) (branches_above y bs a.1)

  branches_apart : (y : Xid) → (leg.xid.0 ≡ y.0 → ⊥) → (bs : List Branch) → AreOthers leg (held_by_branches y bs)
  branches_apart y d [] = tt
  branches_apart y d (b ∷ bs) = others_by y b bs b.ended (other_xid y b d) (branches_apart y d bs)

  entry_apart_by : (c : Bool) (hs : Holds) → AreOthers leg hs → AreOthers leg (if c then hs else [])
  entry_apart_by true hs n = n
  entry_apart_by false hs n = tt

  entry_apart : (e : SessionEntry) → (leg.xid.0 ≡ e.xid.0 → ⊥) → AreOthers leg (held_by e)
  entry_apart e d = entry_apart_by (keeps_rows e.session.status) (held_by_branches e.xid e.session.branches) (branches_apart e.xid d e.session.branches)

  -- the branches of its transaction
  ended_here : (y : Xid) (b : Branch) (bs : List Branch) (c : Bool) → leg.xid.0 ≡ y.0 → leg.branch.0 ≡ b.id.0 → AreAbove branch_number leg.branch.0 bs →
      remove_entry (is_leg leg) (if c then held_by_branches y bs else ((leg_of y b, b.hold) ∷ held_by_branches y bs)) ≡ held_by_branches y bs
  ended_here y b bs true p q a = removed_none leg (held_by_branches y bs) (branches_above y bs a)
  ended_here y b bs false p q a = rw (same_leg y b p q) refl

  ended_there : (y : Xid) (b : Branch) (bs : List Branch) (rest : Holds) (c : Bool) → is_leg leg (leg_of y b) ≡ false → remove_entry (is_leg leg) (held_by_branches y bs) ≡ rest →
      remove_entry (is_leg leg) (if c then held_by_branches y bs else ((leg_of y b, b.hold) ∷ held_by_branches y bs)) ≡ (if c then rest else ((leg_of y b, b.hold) ∷ rest))
  ended_there y b bs rest true is below = below
  ended_there y b bs rest false is below = rw is (ap (λ (r : Holds). (leg_of y b, b.hold) ∷ r) below)

  ended_by : (t : Bool) (y : Xid) (b : Branch) (bs : List Branch) → (b.id.0 == leg.branch.0) ≡ t → leg.xid.0 ≡ y.0 → AreAbove branch_number b.id.0 bs →
      remove_entry (is_leg leg) (held_by_branches y bs) ≡ held_by_branches y (with_ended leg.branch.0 bs) →
      remove_entry (is_leg leg) (held_by_branches y (b ∷ bs)) ≡ held_by_branches y (if t then record b { ended = true } ∷ bs else b ∷ with_ended leg.branch.0 bs)
  ended_by true y b bs is p a below =
      let same : b.id.0 ≡ leg.branch.0 = same_nat b.id.0 leg.branch.0 is in
      ended_here y b bs b.ended p (sym same) (subst (λ (n : ℕ). AreAbove branch_number n bs) same a)
  ended_by false y b bs is p a below =
      ended_there y b bs (held_by_branches y (with_ended leg.branch.0 bs)) b.ended (other_branch y b (λ e. differ b.id.0 leg.branch.0 is (sym e))) below

  branches_ended : (y : Xid) → leg.xid.0 ≡ y.0 → (bs : List Branch) → AreRising branch_number bs → remove_entry (is_leg leg) (held_by_branches y bs) ≡ held_by_branches y (with_ended leg.branch.0 bs)
  branches_ended y p [] a = refl
  branches_ended y p (b ∷ bs) a = ended_by (b.id.0 == leg.branch.0) y b bs refl p a.0 (branches_ended y p bs a.1)

  abbrev ends : Session → Session
  ends t = record t { branches = with_ended leg.branch.0 t.branches }

  entry_ended_by : (c : Bool) (hs ks : Holds) → remove_entry (is_leg leg) hs ≡ ks → remove_entry (is_leg leg) (if c then hs else []) ≡ (if c then ks else [])
  entry_ended_by true hs ks e = e
  entry_ended_by false hs ks e = refl

  entry_ended : (e : SessionEntry) → leg.xid.0 ≡ e.xid.0 → AreRising branch_number e.session.branches → remove_entry (is_leg leg) (held_by e) ≡ held_by (record e { session = ends e.session })
  entry_ended e p a =
      entry_ended_by (keeps_rows e.session.status) (held_by_branches e.xid e.session.branches) (held_by_branches e.xid (with_ended leg.branch.0 e.session.branches))
      (branches_ended e.xid p e.session.branches a)

  removed_at : (begun granted : ℕ) (b : Bool) (e : SessionEntry) (es : List SessionEntry) → (e.xid.0 == leg.xid.0) ≡ b → AreAbove entry_xid e.xid.0 es → IsNumbered begun granted e →
      remove_entry (is_leg leg) (held es) ≡ held (changed leg.xid.0 ends es) →
      remove_entry (is_leg leg) (held_by e ++ held es) ≡ held (if b then record e { session = ends e.session } ∷ es else e ∷ changed leg.xid.0 ends es)
  removed_at begun granted true e es is a n below =
      let same : e.xid.0 ≡ leg.xid.0 = same_nat e.xid.0 leg.xid.0 is in
      removed_left leg (held_by e) (held es) (others_above leg es (subst (λ (m : ℕ). AreAbove entry_xid m es) same a))
      ∙ ap (λ (r : Holds). r ++ held es) (entry_ended e (sym same) n.rising)
  removed_at begun granted false e es is a n below =
      removed_right leg (held_by e) (held es) (entry_apart e (λ same. differ e.xid.0 leg.xid.0 is (sym same))) ∙ ap (λ (r : Holds). held_by e ++ r) below

  pub held_ended : (begun granted : ℕ) (es : List SessionEntry) → AreRising entry_xid es → Each (IsNumbered begun granted) es → without_leg (held es) leg ≡ held (changed leg.xid.0 ends es)
  held_ended begun granted [] a n = refl
  held_ended begun granted (e ∷ es) a n = removed_at begun granted (e.xid.0 == leg.xid.0) e es refl a.0 n.0 (held_ended begun granted es a.1 n.1)

-- ---- transactions that begin

pub held_behind : (es : List SessionEntry) (e : SessionEntry) → held_by e ≡ [] → held (es ++ e ∷ []) ≡ held es
held_behind [] e none = rw none refl
held_behind (d ∷ es) e none = ap (λ (r : Holds). held_by d ++ r) (held_behind es e none)
