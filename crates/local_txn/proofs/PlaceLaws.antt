-- The place of a ticket: what stands there, what is left without it, and with a count.
use Rattle.std.proofs.Common.{◌≡◌, ◌+◌, ◌-◌, ◌==◌, ◌&&◌, ◌<◌, ℕ, zero, suc, Bool, true, false, cond, List, [], ◌∷◌, map, length, Option, Some, None, option_map, refl, ap, sym, subst, ◌∙◌, arith}
use Rattle.std.specs.Prelude.{slice_get, slice_set, slice_index_or, OnSome}
use Rattle.std.specs.List.{remove}
use Rattle.std.proofs.lemmas.Bool.Decides.{nat_tests}
use Rattle.seata_types.specs.declared.ids.Ticket.{Ticket}
use Rattle.durable_records.specs.Branches.{same_ticket}
use Rattle.local_txn.specs.declared.transactions.OpenTxn.{OpenTxn}
use Rattle.local_txn.specs.OpenTickets.{AreDistinct, Open, open_at, counting, last_of}
use Rattle.local_txn.specs.Answers.{open_of, is_for, owner_by, raised, counted}
use Rattle.local_txn.specs.RowIndex.{place_from, with_count, Raises, without_first}
use Rattle.local_txn.proofs.Tests.{none_some, one_ticket, cond_true, cond_false}

not_zero : (y : ℕ) → (suc y == 0) ≡ false
not_zero y = grind (arith, nat_tests)

zero_not : (x : ℕ) → (0 == suc x) ≡ false
zero_not x = grind (arith, nat_tests)

zero_is : (0 == 0) ≡ true
zero_is = grind (arith, nat_tests)

pub for_call : (x c : ℕ) (txn : OpenTxn) → is_for x c (open_of txn) ≡ ((txn.xid.0 == x) && (txn.call == c))
for_call zero c txn = by txn.xid.0
  where
    by : (y : ℕ) → is_for zero c (record (open_of txn) { owner = owner_by y txn.manager txn.call txn.work }) ≡ ((y == 0) && (txn.call == c))
    by zero = ap (λ b. b && (txn.call == c)) (sym zero_is)
    by (suc y) = ap (λ b. b && (txn.call == c)) (sym (not_zero y))
for_call (suc x) c txn = by txn.xid.0
  where
    by : (y : ℕ) → is_for (suc x) c (record (open_of txn) { owner = owner_by y txn.manager txn.call txn.work }) ≡ ((y == suc x) && (txn.call == c))
    by zero = ap (λ b. b && (txn.call == c)) (sym (zero_not x))
    by (suc y) = refl

-- ---- what stands at a place

suc_is : (n : ℕ) → n + 1 ≡ suc n
suc_is n = omega arith

same_some : {A : Type 0} (a b : A) → Some a ≡ Some b → a ≡ b
same_some a b e = cc

-- a place as it is counted from n
pub record StandsAt (n : ℕ) (t : Ticket) (xs : List OpenTxn) (i : ℕ) : Type 0 where
  pub past : ℕ
  pub place : i ≡ n + past
  pub within : past < length xs
  pub it : OpenTxn
  pub there : slice_get xs past ≡ Some it
  pub found : open_at (map open_of xs) t ≡ Some (open_of it)
  pub left : map open_of (remove xs past) ≡ without_first t (map open_of xs)

pub place_is : (n : ℕ) (t : Ticket) (xs : List OpenTxn) (i : ℕ) → place_from n t xs ≡ Some i → StandsAt n t xs i
place_is n t [] i e = none_some e
place_is n t (x ∷ xs) i e = by (place_is (n + 1) t xs i) (same_ticket x.ticket t) refl
  where
    by : (place_from (n + 1) t xs ≡ Some i → StandsAt (n + 1) t xs i) → (b : Bool) → same_ticket x.ticket t ≡ b → StandsAt n t (x ∷ xs) i
    by later true p =
        let at : i ≡ n = sym (same_some n i (sym (cond_true (same_ticket x.ticket t) (Some n) (place_from (n + 1) t xs) p) ∙ e)) in
        record {
          past = 0;
          place = omega (arith, at);
          within = omega arith;
          it = x;
          there = refl;
          found = cond_true (same_ticket x.ticket t) (Some (open_of x)) (open_at (map open_of xs) t) p;
          left = sym (cond_true (same_ticket x.ticket t) (map open_of xs) (open_of x ∷ without_first t (map open_of xs)) p);
        }
    by later false p =
        let s = later (sym (cond_false (same_ticket x.ticket t) (Some n) (place_from (n + 1) t xs) p) ∙ e) in
        record {
          past = suc s.past;
          place = omega (arith, s.place);
          within = omega (arith, s.within);
          it = s.it;
          there = s.there;
          found = cond_false (same_ticket x.ticket t) (Some (open_of x)) (open_at (map open_of xs) t) p ∙ s.found;
          left = ap (λ rest. open_of x ∷ rest) s.left ∙ sym (cond_false (same_ticket x.ticket t) (map open_of xs) (open_of x ∷ without_first t (map open_of xs)) p);
        }

pub no_place : (n : ℕ) (t : Ticket) (xs : List OpenTxn) → place_from n t xs ≡ None → (open_at (map open_of xs) t ≡ None) × (without_first t (map open_of xs) ≡ map open_of xs)
no_place n t [] e = (refl, refl)
no_place n t (x ∷ xs) e = by (no_place (n + 1) t xs) (same_ticket x.ticket t) refl
  where
    by : (place_from (n + 1) t xs ≡ None → (open_at (map open_of xs) t ≡ None) × (without_first t (map open_of xs) ≡ map open_of xs)) → (b : Bool) → same_ticket x.ticket t ≡ b
        → (open_at (map open_of (x ∷ xs)) t ≡ None) × (without_first t (map open_of (x ∷ xs)) ≡ map open_of (x ∷ xs))
    by later true p = none_some (sym e ∙ cond_true (same_ticket x.ticket t) (Some n) (place_from (n + 1) t xs) p)
    by later false p =
        let rest = later (sym (cond_false (same_ticket x.ticket t) (Some n) (place_from (n + 1) t xs) p) ∙ e) in (
          cond_false (same_ticket x.ticket t) (Some (open_of x)) (open_at (map open_of xs) t) p ∙ rest.0,
          cond_false (same_ticket x.ticket t) (map open_of xs) (open_of x ∷ without_first t (map open_of xs)) p ∙ ap (λ os. open_of x ∷ os) rest.1,
        )

-- ---- a count

none_counted : (t : Ticket) (k : ℕ) (opens : List Open) → open_at opens t ≡ None → map (counting t k) opens ≡ opens
none_counted t k [] e = refl
none_counted t k (o ∷ os) e = by (none_counted t k os) (same_ticket o.ticket t) refl
  where
    by : (open_at os t ≡ None → map (counting t k) os ≡ os) → (b : Bool) → same_ticket o.ticket t ≡ b → cond (same_ticket o.ticket t) (record o { conflicts = k }) o ∷ map (counting t k) os ≡ o ∷ os
    by later true p = none_some (sym e ∙ cond_true (same_ticket o.ticket t) (Some o) (open_at os t) p)
    by later false p =
        ap (λ q. q ∷ map (counting t k) os) (cond_false (same_ticket o.ticket t) (record o { conflicts = k }) o p)
        ∙ ap (λ rest. o ∷ rest) (later (sym (cond_false (same_ticket o.ticket t) (Some o) (open_at os t) p) ∙ e))

pub set_counts : (n : ℕ) (t : Ticket) (xs : List OpenTxn) (i past k : ℕ) (it : OpenTxn) → AreDistinct (map open_of xs) → place_from n t xs ≡ Some i → i ≡ n + past
    → slice_get xs past ≡ Some it → map open_of (slice_set xs past (with_count it k)) ≡ map (counting t k) (map open_of xs)
set_counts n t [] i past k it d e at there = none_some e
set_counts n t (x ∷ xs) i past k it d e at there = by (λ p. set_counts (n + 1) t xs i p k it d.0) (same_ticket x.ticket t) refl past at there
  where
    by : ((p : ℕ) → place_from (n + 1) t xs ≡ Some i → i ≡ n + 1 + p → slice_get xs p ≡ Some it → map open_of (slice_set xs p (with_count it k)) ≡ map (counting t k) (map open_of xs))
        → (b : Bool) → same_ticket x.ticket t ≡ b → (p : ℕ) → i ≡ n + p → slice_get (x ∷ xs) p ≡ Some it
        → map open_of (slice_set (x ∷ xs) p (with_count it k)) ≡ map (counting t k) (map open_of (x ∷ xs))
    by later true q zero at there =
        let same : x ≡ it = same_some x it there in
        let none : open_at (map open_of xs) t ≡ None = ap (open_at (map open_of xs)) (sym (one_ticket x.ticket t q)) ∙ d.1 in
        ap (λ y. open_of (with_count y k) ∷ map open_of xs) (sym same)
        ∙ ap (λ y. y ∷ map open_of xs) (sym (cond_true (same_ticket x.ticket t) (record (open_of x) { conflicts = k }) (open_of x) q))
        ∙ ap (λ rest. counting t k (open_of x) ∷ rest) (sym (none_counted t k (map open_of xs) none))
    by later true q (suc p) at there =
        let first : n ≡ i = same_some n i (sym (cond_true (same_ticket x.ticket t) (Some n) (place_from (n + 1) t xs) q) ∙ e) in
        absurd (let a : i ≡ n + suc p = at in omega (arith, first))
    by later false q zero at there =
        let s = place_is (n + 1) t xs i (sym (cond_false (same_ticket x.ticket t) (Some n) (place_from (n + 1) t xs) q) ∙ e) in
        absurd (let a : i ≡ n + zero = at in let b = s.place in omega arith)
    by later false q (suc p) at there =
        ap (λ y. y ∷ map open_of (slice_set xs p (with_count it k))) (sym (cond_false (same_ticket x.ticket t) (record (open_of x) { conflicts = k }) (open_of x) q))
        ∙ ap (λ rest. counting t k (open_of x) ∷ rest)
        (later p (sym (cond_false (same_ticket x.ticket t) (Some n) (place_from (n + 1) t xs) q) ∙ e) (let a : i ≡ n + suc p = at in omega arith) there)

-- ---- the last one

pub last_at : (xs : List OpenTxn) (x : OpenTxn) (k : ℕ) → k + 1 ≡ length xs → x ≡ slice_index_or xs k x → last_of (map open_of xs) ≡ Some (open_of x)
last_at [] x k p e = absurd (omega (arith, p))
last_at (y ∷ []) x zero p e = ap (λ z. Some (open_of z)) (sym e)
last_at (y ∷ []) x (suc k) p e = absurd (omega (arith, p))
last_at (y ∷ z ∷ zs) x zero p e = absurd (omega (arith, p))
last_at (y ∷ z ∷ zs) x (suc k) p e = last_at (z ∷ zs) x k (omega (arith, p)) e

pub item_is : (xs : List OpenTxn) (i : ℕ) (x it : OpenTxn) → slice_get xs i ≡ Some it → x ≡ slice_index_or xs i x → x ≡ it
item_is [] i x it e f = none_some e
item_is (y ∷ ys) zero x it e f = f ∙ same_some y it e
item_is (y ∷ ys) (suc i) x it e f = item_is ys i x it e f

-- what a place tells where it is asked for the first of all
pub record IsPlaced (t : Ticket) (xs : List OpenTxn) (i : ℕ) : Type 0 where
  pub within : i < length xs
  pub it : OpenTxn
  pub there : slice_get xs i ≡ Some it
  pub found : open_at (map open_of xs) t ≡ Some (open_of it)
  pub left : map open_of (remove xs i) ≡ without_first t (map open_of xs)

pub placed : (t : Ticket) (xs : List OpenTxn) (i : ℕ) → place_from 0 t xs ≡ Some i → IsPlaced t xs i
placed t xs i e =
    let s = place_is 0 t xs i e in
    let same : s.past ≡ i = omega (arith, s.place) in
    subst (IsPlaced t xs) same (record { within = s.within; it = s.it; there = s.there; found = s.found; left = s.left })

-- the count of a place that is raised
pub raised_count : (t : Ticket) (old new : List OpenTxn) (i n : ℕ) → AreDistinct (map open_of old) → place_from 0 t old ≡ Some i → Raises old i n new
    → Some n ≡ option_map raised (open_at (map open_of old) t)
raised_count t old new i n d e r =
    let p = placed t old i e in
    let same : p.it ≡ r.it = same_some p.it r.it (sym p.there ∙ r.there) in
    ap Some (r.count ∙ ap (λ it. raised (open_of it)) (sym same)) ∙ sym (ap (option_map raised) p.found)

pub raised_left : (t : Ticket) (old new : List OpenTxn) (i n : ℕ) → AreDistinct (map open_of old) → place_from 0 t old ≡ Some i → Raises old i n new
    → map open_of new ≡ counted (open_at (map open_of old) t) t (map open_of old)
raised_left t old new i n d e r =
    let p = placed t old i e in
    let same : p.it ≡ r.it = same_some p.it r.it (sym p.there ∙ r.there) in
    ap (map open_of) r.left ∙ set_counts 0 t old i i n r.it d e (omega arith) r.there
    ∙ ap (λ k. map (counting t k) (map open_of old)) (r.count ∙ ap (λ it. raised (open_of it)) (sym same))
    ∙ sym (ap (λ f. counted f t (map open_of old)) p.found)

pub not_counted : (t : Ticket) (xs : List OpenTxn) → place_from 0 t xs ≡ None → map open_of xs ≡ counted (open_at (map open_of xs) t) t (map open_of xs)
not_counted t xs e = sym (ap (λ f. counted f t (map open_of xs)) (no_place 0 t xs e).0)

get_is : (xs : List OpenTxn) (i : ℕ) (it d : OpenTxn) → slice_get xs i ≡ Some it → slice_index_or xs i d ≡ it
get_is [] i it d e = none_some e
get_is (y ∷ ys) zero it d e = same_some y it e
get_is (y ∷ ys) (suc i) it d e = get_is ys i it d e

-- what is taken out of a place
pub taken_is : (t : Ticket) (xs : List OpenTxn) (i : ℕ) (r : Option OpenTxn) (e : place_from 0 t xs ≡ Some i) → r ≡ Some (slice_index_or xs i (placed t xs i e).it)
    → option_map open_of r ≡ open_at (map open_of xs) t
taken_is t xs i r e is =
    let p = placed t xs i e in
    ap (option_map open_of) (is ∙ ap Some (get_is xs i p.it p.it p.there)) ∙ sym p.found

on_some : {A P : Type 0} (r : Option A) (a : A) → r ≡ Some a → OnSome r P → P
on_some None a e p = none_some e
on_some (Some b) a e p = p

pub took : (t : Ticket) (xs new : List OpenTxn) (i : ℕ) (r : Option OpenTxn) (e : place_from 0 t xs ≡ Some i) → r ≡ Some (slice_index_or xs i (placed t xs i e).it)
    → OnSome r (new ≡ remove xs i) → map open_of new ≡ without_first t (map open_of xs)
took t xs new i r e is left =
    ap (map open_of) (on_some r (slice_index_or xs i (placed t xs i e).it) is left) ∙ (placed t xs i e).left
