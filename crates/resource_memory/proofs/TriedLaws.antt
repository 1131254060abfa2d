-- A call that was tried is found at its least branch.
use Rattle.std.proofs.Common.{◌≡◌, ◌==◌, ◌&&◌, ◌≤◌, ◌<◌, ℕ, Bool, true, false, cond, List, [], ◌∷◌, Option, Some, None, option_map, min, Ordering, Less, Equal, Greater, refl, sym, ap, ◌∙◌, true≢false, arith}
use Rattle.std.specs.BTreeMap.{insert_entry}
use Rattle.std.specs.List.{AllByRecursion}
use Rattle.std.specs.List.Sorted.{IsStrictlySortedBy}
use Rattle.std.specs.Map.{lookup, keys_of}
use Rattle.std.specs.Ordering.{nat_cmp, ordering_then, match_ordering, is_eq}
use Rattle.std.specs.Cmp.{nat_cmp_is, ranked}
use Rattle.std.proofs.lemmas.Bool.{and_parts}
use Rattle.std.proofs.lemmas.Bool.Decides.{nat_tests}
use Rattle.seata_types.specs.declared.ids.Leg.{Leg}
use Rattle.local_tables.specs.Rows.{Database}
use Rattle.durable_records.specs.declared.resources.ResourceRecord.{ResourceRecord}
use Rattle.durable_records.specs.declared.resources.ResourceRecord.TheVariants as log
use Rattle.durable_records.specs.Fences.{tried_of_call}
use Rattle.durable_records.specs.ResourceOrder.{Allowed}
use Rattle.undo_log.specs.Entries.{is_leg, order}
use Rattle.resource_log.specs.Records.{leg_of}
use Rattle.resource_memory.specs.Known.{Calls, calls_tried, with_call}
use Rattle.resource_memory.specs.Laws.{FindsTriedCalls}
use Rattle.resource_memory.specs.Lookups.{is_for_call, tried_leg, branch_in, lesser, least_branch}
use Rattle.resource_memory.proofs.Legs.{leg_total}
use Rattle.resource_memory.proofs.RecordLaws.{calls_of, uncalled}

same_nat : (m n : ℕ) → (m == n) ≡ true → m ≡ n
same_nat m n e = grind (arith, nat_tests)

-- ---- branches of one transaction stand by their numbers

-- where a stands below b in order, and both are of one transaction
module _ (a b : Leg) (same : a.xid.0 ≡ b.xid.0) where
  tied : nat_cmp a.xid.0 b.xid.0 ≡ Equal
  tied = sym (nat_cmp_is a.xid.0 b.xid.0 Equal same)

  by_branch : order a b ≡ nat_cmp a.branch.0 b.branch.0
  by_branch = ap (λ o. ordering_then o (nat_cmp a.branch.0 b.branch.0)) tied

  below_branch : order a b ≡ Less → a.branch.0 < b.branch.0
  below_branch e = ranked a.branch.0 b.branch.0 Less (sym (sym by_branch ∙ e))

  above_branch : order a b ≡ Greater → b.branch.0 < a.branch.0
  above_branch e = ranked a.branch.0 b.branch.0 Greater (sym (sym by_branch ∙ e))

all_below : (a b : Leg) (ks : List Leg) → order a b ≡ Less → AllByRecursion (λ y. order b y ≡ Less) ks → AllByRecursion (λ y. order a y ≡ Less) ks
all_below a b [] l all = tt
all_below a b (k ∷ ks) l all = (leg_total.trans a b k l all.0, all_below a b ks l all.1)

lesser_first : (m n : ℕ) → m < n → min m n ≡ m
lesser_first m n l = omega arith

lesser_second : (m n : ℕ) → n < m → min m n ≡ n
lesser_second m n l = omega arith

module _ (x c : ℕ) where
  abbrev found : Calls → Option ℕ
  found es = option_map branch_in (tried_leg x c es)

  abbrev more : Leg → ℕ → Option ℕ → Option ℕ
  more leg call before = cond (is_for_call x c leg call) (lesser leg.branch.0 before) before

  -- a branch below all of these is the least
  first_of_all : (leg : Leg) (es : Calls) → leg.xid.0 ≡ x → AllByRecursion (λ y. order leg y ≡ Less) (keys_of es) → lesser leg.branch.0 (found es) ≡ Some leg.branch.0
  first_of_all leg [] is below = refl
  first_of_all leg (e ∷ es) is below = by (is_for_call x c e.0 e.1) refl (first_of_all leg es is below.1)
    where
      by : (s : Bool) → is_for_call x c e.0 e.1 ≡ s → lesser leg.branch.0 (found es) ≡ Some leg.branch.0 → lesser leg.branch.0 (option_map branch_in (cond s (Some e.0) (tried_leg x c es))) ≡ Some leg.branch.0
      by true s rest =
          let other : e.0.xid.0 ≡ x = same_nat e.0.xid.0 x (and_parts (e.0.xid.0 == x) (e.1 == c) s).0 in
          ap (λ (n : ℕ). Some n) (lesser_first leg.branch.0 e.0.branch.0 (below_branch leg e.0 (is ∙ sym other) below.0))
      by false s rest = rest

  head_below : (e : Leg × ℕ) (es : Calls) → IsStrictlySortedBy order (keys_of (e ∷ es)) → AllByRecursion (λ y. order e.0 y ≡ Less) (keys_of es)
  unfolding IsStrictlySortedBy
  head_below e es s = s.0

  tail_sorted : (e : Leg × ℕ) (es : Calls) → IsStrictlySortedBy order (keys_of (e ∷ es)) → IsStrictlySortedBy order (keys_of es)
  unfolding IsStrictlySortedBy
  tail_sorted e es s = s.1

  some_none : (v : ℕ) → Some v ≡ None → ⊥
  some_none v f = cc

  absent : (leg : Leg) (e : Leg × ℕ) (es : Calls) (s : Bool) → is_leg leg e.0 ≡ s → cond s (Some e.1) (lookup (is_leg leg) es) ≡ None → (is_leg leg e.0 ≡ false) × (lookup (is_leg leg) es ≡ None)
  absent leg e es true is none = absurd (some_none e.1 none)
  absent leg e es false is none = (is, none)

  abbrev put_by : Leg → ℕ → Leg × ℕ → Calls → Ordering → Calls
  put_by leg call e es r = match_ordering r ((leg, call) ∷ e ∷ es) ((e.0, call) ∷ es) (e ∷ insert_entry order es leg call)

  -- a branch that has no call yet
  found_after : (es : Calls) (leg : Leg) (call : ℕ) → IsStrictlySortedBy order (keys_of es) → lookup (is_leg leg) es ≡ None → found (insert_entry order es leg call) ≡ more leg call (found es)
  found_after [] leg call sorted none = by (is_for_call x c leg call)
    where
      by : (s : Bool) → option_map branch_in (cond s (Some leg) None) ≡ cond s (lesser leg.branch.0 None) None
      by true = refl
      by false = refl
  found_after (e ∷ es) leg call sorted none =
      let rest = absent leg e es (is_leg leg e.0) refl none in
      by (order leg e.0) refl rest.0 (found_after es leg call (tail_sorted e es sorted) rest.1)
    where
      below_all : (l : order leg e.0 ≡ Less) → AllByRecursion (λ y. order leg y ≡ Less) (keys_of (e ∷ es))
      below_all l = (l, all_below leg e.0 (keys_of es) l (head_below e es sorted))

      less : order leg e.0 ≡ Less → (s : Bool) → is_for_call x c leg call ≡ s → option_map branch_in (cond s (Some leg) (tried_leg x c (e ∷ es))) ≡ cond s (lesser leg.branch.0 (found (e ∷ es))) (found (e ∷ es))
      less l true s = sym (first_of_all leg (e ∷ es) (same_nat leg.xid.0 x (and_parts (leg.xid.0 == x) (call == c) s).0) (below_all l))
      less l false s = refl

      greater : order leg e.0 ≡ Greater → found (insert_entry order es leg call) ≡ more leg call (found es) → (t : Bool) → is_for_call x c e.0 e.1 ≡ t → (s : Bool) → is_for_call x c leg call ≡ s
          → option_map branch_in (cond t (Some e.0) (tried_leg x c (insert_entry order es leg call))) ≡ cond s (lesser leg.branch.0 (option_map branch_in (cond t (Some e.0) (tried_leg x c es)))) (option_map branch_in (cond t (Some e.0) (tried_leg x c es)))
      greater g rest true t true s =
          let one : leg.xid.0 ≡ x = same_nat leg.xid.0 x (and_parts (leg.xid.0 == x) (call == c) s).0 in
          let two : e.0.xid.0 ≡ x = same_nat e.0.xid.0 x (and_parts (e.0.xid.0 == x) (e.1 == c) t).0 in
          sym (ap (λ (n : ℕ). Some n) (lesser_second leg.branch.0 e.0.branch.0 (above_branch leg e.0 (one ∙ sym two) g)))
      greater g rest true t false s = refl
      greater g rest false t true s = rest ∙ ap (λ b. cond b (lesser leg.branch.0 (found es)) (found es)) s
      greater g rest false t false s = rest ∙ ap (λ b. cond b (lesser leg.branch.0 (found es)) (found es)) s

      by : (r : Ordering) → order leg e.0 ≡ r → is_leg leg e.0 ≡ false → found (insert_entry order es leg call) ≡ more leg call (found es) → found (put_by leg call e es r) ≡ more leg call (found (e ∷ es))
      by Less l other rest = less l (is_for_call x c leg call) refl
      by Equal p other rest = absurd (true≢false (sym (ap is_eq p) ∙ other))
      by Greater g other rest = greater g rest (is_for_call x c e.0 e.1) refl (is_for_call x c leg call) refl

  not_zero_call : (call : ℕ) → 1 ≤ c → (call == 0) ≡ true → (call == c) ≡ false
  not_zero_call call le e = grind (arith, nat_tests)

  and_last : (s t : Bool) → t ≡ false → (s && t) ≡ false
  and_last true t e = e
  and_last false t e = refl

  -- one more Try
  tried_more : (es : Calls) (leg : Leg) (call : ℕ) → 1 ≤ c → IsStrictlySortedBy order (keys_of es) → lookup (is_leg leg) es ≡ None → found (with_call es leg call) ≡ more leg call (found es)
  tried_more es leg call le sorted none = by (call == 0) refl
    where
      by : (b : Bool) → (call == 0) ≡ b → found (cond b es (insert_entry order es leg call)) ≡ more leg call (found es)
      by true zero = sym (ap (λ s. cond s (lesser leg.branch.0 (found es)) (found es)) (and_last (leg.xid.0 == x) (call == c) (not_zero_call call le zero)))
      by false zero = found_after es leg call sorted none

  pub finds : (opening : Database) (rs : List ResourceRecord) → Allowed opening rs → 1 ≤ c → found (calls_tried rs) ≡ least_branch (tried_of_call rs x c)
  finds opening [] a le = refl
  finds opening (log.Tried xid branch call images ∷ rs) a le =
      tried_more (calls_tried rs) (leg_of xid branch) call le (calls_of rs).in_order (uncalled rs (leg_of xid branch) a.1.0)
      ∙ ap (λ (o : Option ℕ). more (leg_of xid branch) call o) (finds opening rs a.0 le)
      ∙ by (is_for_call x c (leg_of xid branch) call)
    where
      by : (s : Bool) → cond s (lesser branch.0 (least_branch (tried_of_call rs x c))) (least_branch (tried_of_call rs x c)) ≡ least_branch (cond s (branch.0 ∷ tried_of_call rs x c) (tried_of_call rs x c))
      by true = refl
      by false = refl
  finds opening (log.Confirmed xid branch images ∷ rs) a le = finds opening rs a.0 le
  finds opening (log.Cancelled xid branch images ∷ rs) a le = finds opening rs a.0 le
  finds opening (log.Suspended xid branch ∷ rs) a le = finds opening rs a.0 le
  finds opening (log.Boot number ∷ rs) a le = finds opening rs a.0 le
  finds opening (log.Committed xid branch call images reads ∷ rs) a le = finds opening rs a.0 le
  finds opening (log.Undone xid branch ∷ rs) a le = finds opening rs a.0 le
  finds opening (log.Marked xid branch ∷ rs) a le = finds opening rs a.0 le
  finds opening (log.Cleared xid branch ∷ rs) a le = finds opening rs a.0 le
  finds opening (log.LocalCommitted number images ∷ rs) a le = finds opening rs a.0 le
  finds opening (log.Outside number images ∷ rs) a le = finds opening rs a.0 le

pub finds_tried_calls : FindsTriedCalls
finds_tried_calls opening rs a x c le = finds x c opening rs a le
