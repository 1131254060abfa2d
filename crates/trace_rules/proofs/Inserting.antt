-- Traces have a merge: a moment put into a sorted history, a whole trace, and all traces.
use Rattle.std.proofs.Common.{◌≡◌, ◌≢◌, ◌⊎◌, inr, ◌<◌, ℕ, Bool, true, false, if◌then◌else◌, List, [], ◌∷◌, refl, ◌∙◌, arith}
use Rattle.std.proofs.lemmas.Bool.Decides.{nat_tests}
use Rattle.seata_types.specs.declared.ids.Place.{Place}
use Rattle.durable_records.specs.Members.{In}
use Rattle.history_rules.specs.Histories.{Moment, Below, Rises, rank, same_place}
use Rattle.trace_rules.specs.Traces.{IsAfter, at}
use Rattle.trace_rules.specs.Merged.{IsMergeOf, IsTraceOf, MergesAll, Sorted, below_or, insert, insert_all, is_before, merged, place_before, trace_at}
use Rattle.trace_rules.proofs.Order.{Precedes, in_at, place-eq, precedes-apart, precedes-trans, same_place-eq, same_place-refl}

-- ---- the tests decide the order

below_or-true : (m n : ℕ) (same : Bool) → below_or m n same ≡ true → (m < n) ⊎ ((m ≡ n) × (same ≡ true))
below_or-true m n same t = grind (arith, nat_tests)

below_or-false : (m n : ℕ) (same : Bool) → below_or m n same ≡ false → (n < m) ⊎ ((m ≡ n) × (same ≡ false))
below_or-false m n same t = grind (arith, nat_tests)

place_before-true : (p q : Place) → place_before p q ≡ true → Below (rank p) (rank q)
place_before-true p q t = grind (arith, nat_tests)

place_before-false : (p q : Place) → place_before p q ≡ false → p ≢ q → Below (rank q) (rank p)
place_before-false p q t apart = grind (arith, nat_tests, place-eq)

is_before-true : (a b : Moment) → is_before a b ≡ true → Precedes a b
is_before-true a b t = grind (arith, nat_tests, place_before-true)

is_before-false : (a b : Moment) → is_before a b ≡ false → (a.stamp ≡ b.stamp → a.place ≢ b.place) → Precedes b a
is_before-false a b t apart = grind (arith, nat_tests, place_before-false)

-- ---- a moment more

-- the moments of its place among these come before it
abbrev IsNewest : Moment → List Moment → Type 0
IsNewest m ms = (x : Moment) → In x ms → x.place ≡ m.place → Precedes x m

-- what it doesn't come behind comes behind it
comes_behind : (m l : Moment) (ms : List Moment) → IsNewest m (l ∷ ms) → is_before l m ≡ false → Precedes m l
comes_behind m l ms newest e = grind (arith, is_before-false, precedes-apart)

rises_insert : (l m : Moment) (ms : List Moment) → Precedes m l → Rises ms l → Rises (insert m ms) l
rises_insert l m ms order rises = grind arith

sorted_insert : (m : Moment) (ms : List Moment) → Sorted ms → IsNewest m ms → Sorted (insert m ms)
sorted_insert m [] sorted newest = (tt, tt)
sorted_insert m (l ∷ ms) sorted newest = by (is_before l m) refl (sorted_insert m ms sorted.0 (λ x h. newest x (inr h)))
  where
    by : (b : Bool) → is_before l m ≡ b → Sorted (insert m ms) → Sorted (if b then m ∷ l ∷ ms else l ∷ insert m ms)
    by true e below = (sorted, is_before-true l m e)
    by false e below = (below, rises_insert l m ms (comes_behind m l ms newest e) sorted.1)

-- two moments of different places may stand either way
at_swap : (p : Place) (l m : Moment) (ms : List Moment) → l.place ≢ m.place → at p (l ∷ m ∷ ms) ≡ at p (m ∷ l ∷ ms)
at_swap p l m ms apart = grind (arith, same_place-eq)

at_insert : (p : Place) (m : Moment) (ms : List Moment) → IsNewest m ms → at p (insert m ms) ≡ at p (m ∷ ms)
at_insert p m [] newest = refl
at_insert p m (l ∷ ms) newest = grind (arith, at_insert p m ms, at_swap, precedes-apart, precedes-trans, comes_behind)

-- ---- a trace more

stamps_rise : (p : Place) (ms : List Moment) (stamp : ℕ) → IsTraceOf p ms → IsAfter ms stamp → (x : Moment) → In x ms → x.stamp < stamp
stamps_rise p [] stamp is after x h = absurd h
stamps_rise p (m ∷ ms) stamp is after x h = grind (arith, stamps_rise p ms m.stamp)

-- a sorted history of these moments and of a trace of a place where there were none
record WithTrace (p : Place) (trace ms all : List Moment) : Type 0 where
  sorted : Sorted all
  each : (q : Place) → at q all ≡ (if same_place q p then trace else at q ms)

with_none : (p : Place) (ms : List Moment) → Sorted ms → at p ms ≡ [] → WithTrace p [] ms ms
with_none p ms sorted none = record { sorted = sorted; each = λ q. grind (arith, same_place-eq) }

with_more : (p : Place) (m : Moment) (trace ms all : List Moment) → IsTraceOf p (m ∷ trace) → WithTrace p trace ms all → WithTrace p (m ∷ trace) ms (insert m all)
with_more p m trace ms all is w = record { sorted = sorted_insert m all w.sorted newest; each = λ q. at_insert q m all newest ∙ each_at q }
  where
    trace_here : at p all ≡ trace
    trace_here = grind (arith, w.each p, same_place-refl p)

    newest : IsNewest m all
    newest x h here = grind (arith, stamps_rise p trace m.stamp is.0 is.2 x, trace_here, in_at p all x h)

    each_at : (q : Place) → at q (m ∷ all) ≡ (if same_place q p then m ∷ trace else at q ms)
    each_at q = let here = is.1 in grind (arith, w.each q)

with_trace : (p : Place) (trace ms : List Moment) → IsTraceOf p trace → Sorted ms → at p ms ≡ [] → WithTrace p trace ms (insert_all trace ms)
with_trace p [] ms is sorted none = with_none p ms sorted none
with_trace p (m ∷ trace) ms is sorted none = with_more p m trace ms (insert_all trace ms) is (with_trace p trace ms is.0 sorted none)

-- ---- all traces

pub merges_all : MergesAll
merges_all [] are = record { sorted = tt; each = λ p. refl }
merges_all (t ∷ ts) are =
    let rest : IsMergeOf (trace_at ts) (merged ts) = merges_all ts are.0 in
    let w : WithTrace t.place t.moments (merged ts) (merged (t ∷ ts)) = with_trace t.place t.moments (merged ts) are.1 rest.sorted (rest.each t.place ∙ are.2) in
    record { sorted = w.sorted; each = λ q. grind (arith, w.each q, rest.each q) }
