-- The moment of a transaction after it was planned, and after it is planned no more.
use Rattle.std.proofs.Common.{◌≡◌, ◌==◌, ◌<◌, ◌≤◌, ℕ, Bool, true, false, cond, [], ◌∷◌, Option, Some, None, Ordering, Less, Equal, Greater, refl, sym, ap, ◌∙◌, arith}
use Rattle.std.specs.BTreeMap.{insert_entry}
use Rattle.std.specs.Ordering.{nat_cmp, is_eq, match_ordering}
use Rattle.std.specs.Cmp.{unsigned_tied}
use Rattle.retry_turns.specs.Plans.{Plans, moment_of, with_plan, without_plan}
use Rattle.session_memory.specs.Order.{AreAbove}
use Rattle.session_memory.proofs.Small.{same_nat, nat_same, nat_differs, cmp_is, false_true}
use Rattle.coordinator_rules.specs.Tracks.{planned_xid, AreInOrder}

-- two numbers are tied where they are one
tied : (q k : ℕ) → is_eq (nat_cmp q k) ≡ (q == k)
tied q k = unsigned_tied q k

turned : (q x : ℕ) → (q == x) ≡ (x == q)
turned q x = by (x == q) refl
  where
    by : (b : Bool) → (x == q) ≡ b → (q == x) ≡ b
    by true e = nat_same q x (sym (same_nat x q e))
    by false e = nat_differs q x (λ is. false_true (sym e ∙ nat_same x q (sym is)))

abbrev step : ℕ → ℕ × ℕ → Plans → Option ℕ
step q p ps = cond (is_eq (nat_cmp q p.0)) (Some p.1) (moment_of ps q)

-- ---- planned

inserted : (x m q : ℕ) (p : ℕ × ℕ) (ps fs : Plans) (o : Ordering) → nat_cmp x p.0 ≡ o → moment_of fs q ≡ cond (x == q) (Some m) (moment_of ps q)
    → moment_of (match_ordering o ((x, m) ∷ p ∷ ps) ((p.0, m) ∷ ps) (p ∷ fs)) q ≡ cond (x == q) (Some m) (step q p ps)
inserted x m q p ps fs Less e below = ap (λ b. cond b (Some m) (step q p ps)) (tied q x ∙ turned q x)
inserted x m q p ps fs Equal e below =
    let same : x ≡ p.0 = cmp_is x p.0 Equal e in
    ap (λ b. cond b (Some m) (moment_of ps q)) (tied q p.0 ∙ ap (λ k. q == k) (sym same) ∙ turned q x)
    ∙ by (x == q) (is_eq (nat_cmp q p.0)) (ap (λ k. is_eq (nat_cmp q k)) (sym same) ∙ tied q x ∙ turned q x)
  where
    by : (b c : Bool) → c ≡ b → cond b (Some m) (moment_of ps q) ≡ cond b (Some m) (cond c (Some p.1) (moment_of ps q))
    by true c e = refl
    by false c e = ap (λ d. cond d (Some p.1) (moment_of ps q)) (sym e)
inserted x m q p ps fs Greater e below = by (x == q) refl
  where
    above : p.0 < x
    above = cmp_is x p.0 Greater e

    by : (b : Bool) → (x == q) ≡ b → cond (is_eq (nat_cmp q p.0)) (Some p.1) (moment_of fs q) ≡ cond b (Some m) (step q p ps)
    by true is =
        let other : is_eq (nat_cmp q p.0) ≡ false = tied q p.0 ∙ nat_differs q p.0 (λ same. let one = same_nat x q is in omega (arith, above, same, one)) in
        ap (λ b. cond b (Some p.1) (moment_of fs q)) other ∙ below ∙ ap (λ b. cond b (Some m) (moment_of ps q)) is
    by false is = ap (cond (is_eq (nat_cmp q p.0)) (Some p.1)) (below ∙ ap (λ b. cond b (Some m) (moment_of ps q)) is)

pub moment_with : (ps : Plans) (x m q : ℕ) → moment_of (with_plan ps x m) q ≡ cond (x == q) (Some m) (moment_of ps q)
moment_with [] x m q = ap (λ b. cond b (Some m) None) (tied q x ∙ turned q x)
moment_with (p ∷ ps) x m q = inserted x m q p ps (insert_entry nat_cmp ps x m) (nat_cmp x p.0) refl (moment_with ps x m q)

above_all : (n x : ℕ) → n < x → (ps : Plans) → AreAbove planned_xid x ps → AreAbove planned_xid n ps
above_all n x lt [] a = tt
above_all n x lt (p ∷ ps) a = (omega (arith, lt, a.0), above_all n x lt ps a.1)

above_by : (n x m : ℕ) (p : ℕ × ℕ) (ps fs : Plans) (o : Ordering) → n < x → AreAbove planned_xid n (p ∷ ps) → AreAbove planned_xid n fs
    → AreAbove planned_xid n (match_ordering o ((x, m) ∷ p ∷ ps) ((p.0, m) ∷ ps) (p ∷ fs))
above_by n x m p ps fs Less lt a b = (lt, a)
above_by n x m p ps fs Equal lt a b = a
above_by n x m p ps fs Greater lt a b = (a.0, b)

above_with : (n : ℕ) (ps : Plans) (x m : ℕ) → n < x → AreAbove planned_xid n ps → AreAbove planned_xid n (with_plan ps x m)
above_with n [] x m lt a = (lt, tt)
above_with n (p ∷ ps) x m lt a = above_by n x m p ps (insert_entry nat_cmp ps x m) (nat_cmp x p.0) lt a (above_with n ps x m lt a.1)

rising_by : (x m : ℕ) (p : ℕ × ℕ) (ps : Plans) (o : Ordering) → nat_cmp x p.0 ≡ o → AreInOrder (p ∷ ps) → AreInOrder (with_plan ps x m)
    → AreInOrder (match_ordering o ((x, m) ∷ p ∷ ps) ((p.0, m) ∷ ps) (p ∷ insert_entry nat_cmp ps x m))
rising_by x m p ps Less e r below = let lt : x < p.0 = cmp_is x p.0 Less e in ((lt, above_all x p.0 lt ps r.0), r)
rising_by x m p ps Equal e r below = r
rising_by x m p ps Greater e r below = (above_with p.0 ps x m (cmp_is x p.0 Greater e) r.0, below)

pub in_order_with : (ps : Plans) (x m : ℕ) → AreInOrder ps → AreInOrder (with_plan ps x m)
in_order_with [] x m r = (tt, tt)
in_order_with (p ∷ ps) x m r = rising_by x m p ps (nat_cmp x p.0) refl r (in_order_with ps x m r.1)

-- ---- planned no more

none_above : (n x : ℕ) → x ≤ n → (ps : Plans) → AreAbove planned_xid n ps → moment_of ps x ≡ None
none_above n x le [] a = refl
none_above n x le (p ∷ ps) a =
    ap (λ b. cond b (Some p.1) (moment_of ps x)) (tied x p.0 ∙ nat_differs x p.0 (λ same. let lt = a.0 in omega (arith, le, lt, same))) ∙ none_above n x le ps a.1

removed : (x q : ℕ) (p : ℕ × ℕ) (ps fs : Plans) (b : Bool) → (x == p.0) ≡ b → moment_of ps p.0 ≡ None → moment_of fs q ≡ cond (x == q) None (moment_of ps q)
    → moment_of (cond b ps (p ∷ fs)) q ≡ cond (x == q) None (step q p ps)
removed x q p ps fs true is gone below = by (x == q) refl
  where
    same : x ≡ p.0
    same = same_nat x p.0 is

    by : (c : Bool) → (x == q) ≡ c → moment_of ps q ≡ cond c None (step q p ps)
    by true e = ap (moment_of ps) (sym (same_nat x q e) ∙ same) ∙ gone
    by false e = ap (λ d. cond d (Some p.1) (moment_of ps q)) (sym (tied q p.0 ∙ ap (λ k. q == k) (sym same) ∙ turned q x ∙ e))
removed x q p ps fs false is gone below = by (x == q) refl
  where
    by : (c : Bool) → (x == q) ≡ c → cond (is_eq (nat_cmp q p.0)) (Some p.1) (moment_of fs q) ≡ cond c None (step q p ps)
    by true e =
        let other : is_eq (nat_cmp q p.0) ≡ false = tied q p.0 ∙ ap (λ k. k == p.0) (sym (same_nat x q e)) ∙ is in
        ap (λ b. cond b (Some p.1) (moment_of fs q)) other ∙ below ∙ ap (λ b. cond b None (moment_of ps q)) e
    by false e = ap (cond (is_eq (nat_cmp q p.0)) (Some p.1)) (below ∙ ap (λ b. cond b None (moment_of ps q)) e)

same_none : (b : Bool) (o : Option ℕ) → o ≡ None → o ≡ cond b None o
same_none true o e = e
same_none false o e = refl

pub moment_without : (ps : Plans) (x q : ℕ) → AreInOrder ps → moment_of (without_plan ps x) q ≡ cond (x == q) None (moment_of ps q)
moment_without [] x q r = same_none (x == q) None refl
moment_without (p ∷ ps) x q r =
    removed x q p ps (without_plan ps x) (is_eq (nat_cmp x p.0)) (sym (tied x p.0)) (none_above p.0 p.0 (omega arith) ps r.0) (moment_without ps x q r.1)

above_without_by : (n : ℕ) (p : ℕ × ℕ) (ps fs : Plans) (b : Bool) → AreAbove planned_xid n (p ∷ ps) → AreAbove planned_xid n fs → AreAbove planned_xid n (cond b ps (p ∷ fs))
above_without_by n p ps fs true a below = a.1
above_without_by n p ps fs false a below = (a.0, below)

above_without : (n : ℕ) (ps : Plans) (x : ℕ) → AreAbove planned_xid n ps → AreAbove planned_xid n (without_plan ps x)
above_without n [] x a = tt
above_without n (p ∷ ps) x a = above_without_by n p ps (without_plan ps x) (is_eq (nat_cmp x p.0)) a (above_without n ps x a.1)

rising_without_by : (p : ℕ × ℕ) (ps fs : Plans) (b : Bool) → AreInOrder (p ∷ ps) → AreAbove planned_xid p.0 fs → AreInOrder fs → AreInOrder (cond b ps (p ∷ fs))
rising_without_by p ps fs true r above below = r.1
rising_without_by p ps fs false r above below = (above, below)

pub in_order_without : (ps : Plans) (x : ℕ) → AreInOrder ps → AreInOrder (without_plan ps x)
in_order_without [] x r = tt
in_order_without (p ∷ ps) x r = rising_without_by p ps (without_plan ps x) (is_eq (nat_cmp x p.0)) r (above_without p.0 ps x r.0) (in_order_without ps x r.1)
