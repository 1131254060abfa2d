-- The entries of traces are those of the history that they merge to.
use Rattle.std.proofs.Common.{◌≡◌, inl, inr, ◌<◌, ℕ, Bool, true, false, if◌then◌else◌, List, [], ◌∷◌, ◌++◌, map, ap, sym, subst, ◌∙◌, append_assoc, is_lt, nat_cmp, Ordering, Less, Equal}
use Rattle.std.specs.Cmp.{IsStrictWeakOrder, IsTotalOrder, nat_cmp_is, nat_cmp_total, on_total, then_total}
use Rattle.std.specs.List.{AllByRecursion}
use Rattle.std.specs.List.Sorted.{IsPermutation}
use Rattle.std.specs.Ordering.{ordering_then}
use Rattle.std.proofs.lemmas.List.Sorted.{IsPermutation-append_left, IsPermutation-append_right, IsPermutation-cons, IsPermutation-middle, IsPermutation-refl, IsPermutation-sym, IsPermutation-to_front, IsPermutation-trans, ranks_by}
use Rattle.seata_types.specs.declared.ids.Place.{Place}
use Rattle.history_rules.specs.Histories.{Below, Moment, Rises, rank}
use Rattle.history_text.specs.declared.entries.Entry.{Entry}
use Rattle.history_text.specs.History.{entries, entry_of}
use Rattle.trace_rules.specs.Merged.{Placed, Sorted, insert, insert_all, is_before, kind_of, merged, number_of}
use Rattle.trace_rules.proofs.Inserting.{merges_all}
use Rattle.trace_merge.specs.Merges.{MergesEntries, entry_cmp, joined, place_cmp, printed}
use Rattle.trace_merge.proofs.Unique.{IsStrict, each_map, each_more, strict_more, unique}

-- ---- the order

abbrev stands_before : Entry → Entry → Bool
stands_before a b = is_lt (entry_cmp a b)

total : IsTotalOrder entry_cmp
total = then_total (on_total (λ (e : Entry). e.stamp) nat_cmp_total)
    (then_total (on_total (λ (e : Entry). kind_of e.place) nat_cmp_total) (on_total (λ (e : Entry). number_of e.place) nat_cmp_total))

in_order : IsStrictWeakOrder stands_before
in_order = ranks_by total (λ (e : Entry). e)

less : (m n : ℕ) → m < n → nat_cmp m n ≡ Less
less m n low = sym (nat_cmp_is m n Less low)

then_less : (m n : ℕ) (rest : Ordering) → m ≡ n → rest ≡ Less → ordering_then (nat_cmp m n) rest ≡ Less
then_less m n rest same less = ap (λ (r : Ordering). ordering_then r rest) (sym (nat_cmp_is m n Equal same)) ∙ less

at_places : (p q : Place) → Below (rank p) (rank q) → place_cmp p q ≡ Less
at_places p q (inl kind) = ap (λ (r : Ordering). ordering_then r (nat_cmp (number_of p) (number_of q))) (less (kind_of p) (kind_of q) kind)
at_places p q (inr (kind, number)) = then_less (kind_of p) (kind_of q) (nat_cmp (number_of p) (number_of q)) kind (less (number_of p) (number_of q) number)

at_moments : (l m : Moment) → Rises (l ∷ []) m → entry_cmp (entry_of l) (entry_of m) ≡ Less
at_moments l m (inl stamp) = ap (λ (r : Ordering). ordering_then r (place_cmp l.place m.place)) (less l.stamp m.stamp stamp)
at_moments l m (inr (stamp, place)) = then_less l.stamp m.stamp (place_cmp l.place m.place) stamp (at_places l.place m.place place)

abbrev ComesBefore : Moment → Entry → Type 0
ComesBefore m e = entry_cmp e (entry_of m) ≡ Less

-- all entries of a sorted history come before a moment that may stand behind it
each_before : (ms : List Moment) (m : Moment) → Sorted ms → Rises ms m → AllByRecursion (ComesBefore m) (entries ms)
each_before [] m sorted rises = tt
each_before (l ∷ ms) m sorted rises =
    let last = at_moments l m rises in
    let front = each_map (ComesBefore l) (ComesBefore m) (λ e less. total.trans e (entry_of l) (entry_of m) less last) (entries ms) (each_before ms l sorted.0 sorted.1) in
    each_more (ComesBefore m) (entries ms) (entry_of l) front last

strict : (ms : List Moment) → Sorted ms → IsStrict stands_before (entries ms)
strict [] sorted = tt
strict (m ∷ ms) sorted =
    let front = each_map (ComesBefore m) (λ e. stands_before e (entry_of m) ≡ true) (λ e less. ap is_lt less) (entries ms) (each_before ms m sorted.0 sorted.1) in
    strict_more stands_before (entries ms) (entry_of m) (strict ms sorted.0) front

-- ---- the same entries

inserted : (m : Moment) (ms : List Moment) → IsPermutation (entry_of m ∷ entries ms) (entries (insert m ms))
inserted m [] = IsPermutation-refl (entry_of m ∷ [])
inserted m (l ∷ ms) = by (is_before l m) (inserted m ms)
  where
    by : (b : Bool) → IsPermutation (entry_of m ∷ entries ms) (entries (insert m ms))
        → IsPermutation (entry_of m ∷ (entries ms ++ entry_of l ∷ [])) (entries (if b then m ∷ l ∷ ms else l ∷ insert m ms))
    by true below = IsPermutation-sym _ _ (IsPermutation-to_front (entries ms ++ entry_of l ∷ []) (entry_of m))
    by false below = IsPermutation-append_left (entry_of l ∷ []) (entry_of m ∷ entries ms) (entries (insert m ms)) below

inserted_all : (trace ms : List Moment) → IsPermutation (entries trace ++ entries ms) (entries (insert_all trace ms))
inserted_all [] ms = IsPermutation-refl (entries ms)
inserted_all (m ∷ trace) ms =
    subst (λ (es : List Entry). IsPermutation es (entries (insert_all (m ∷ trace) ms))) (sym (append_assoc (entries trace) (entry_of m ∷ []) (entries ms)))
    (IsPermutation-trans _ _ _ (IsPermutation-middle (entries trace) (entry_of m) (entries ms))
    (IsPermutation-trans _ _ _ (IsPermutation-cons (entry_of m) (entries trace ++ entries ms) (entries (insert_all trace ms)) (inserted_all trace ms)) (inserted m (insert_all trace ms))))

all_merged : (ts : List Placed) → IsPermutation (joined (map printed ts)) (entries (merged ts))
all_merged [] = IsPermutation-refl []
all_merged (t ∷ ts) =
    IsPermutation-trans _ _ _ (IsPermutation-append_right (printed t) (joined (map printed ts)) (entries (merged ts)) (all_merged ts)) (inserted_all t.moments (merged ts))

pub merges_entries : MergesEntries
merges_entries ts are all is =
    unique stands_before in_order (entries (merged ts)) all (strict (merged ts) (merges_all ts are).sorted) is.sorted
    (IsPermutation-trans _ _ _ (IsPermutation-sym _ _ (all_merged ts)) is.same)
