-- The stops of a node: those so far, and that they can be restarted from.
use Rattle.std.proofs.Common.{◌≡◌, ◌+◌, ◌++◌, ◌<◌, ℕ, zero, suc, Bool, true, false, if◌then◌else◌, List, [], ◌∷◌, drop, All, get_or, length, slice_get, Some, ap, sym, ◌∙◌, arith, append_assoc}
use Rattle.seata_types.specs.declared.ids.Place.{Place}
use Rattle.scenario_form.specs.Runnable.{IsStop}
use Rattle.history_rules.specs.Histories.{same_place}
use Rattle.trace_rules.specs.Stops.{NodeStop}
use Rattle.node_seat.specs.Running.{HasPick}
use Rattle.run_links.specs.Plans.{stops_at}
use Rattle.run_links.proofs.Adding.{drop_at}

-- ---- those so far

module _ (p : Place) (k : ℕ) (stops : List (Place × ℕ × ℕ)) (stop : Place × ℕ × ℕ) (at : slice_get stops k ≡ Some stop) where
  here : (b : Bool) → same_place stop.0 p ≡ b → stops_at (drop k stops) p ≡ (if b then (stop.1, stop.2) ∷ stops_at (drop (k + 1) stops) p else stops_at (drop (k + 1) stops) p)
  here b is =
      ap (λ (l : List (Place × ℕ × ℕ)). stops_at l p) (drop_at stops k stop at)
      ∙ ap (λ c. if c then (stop.1, stop.2) ∷ stops_at (drop (k + 1) stops) p else stops_at (drop (k + 1) stops) p) is

  pub stop_taken : (made all : List NodeStop) → same_place stop.0 p ≡ true → made ++ stops_at (drop k stops) p ≡ all → (made ++ (stop.1, stop.2) ∷ []) ++ stops_at (drop (k + 1) stops) p ≡ all
  stop_taken made all is e =
      append_assoc made ((stop.1, stop.2) ∷ []) (stops_at (drop (k + 1) stops) p) ∙ ap (λ (l : List NodeStop). made ++ l) (sym (here true is)) ∙ e

  pub stop_passed : (made all : List NodeStop) → same_place stop.0 p ≡ false → made ++ stops_at (drop k stops) p ≡ all → made ++ stops_at (drop (k + 1) stops) p ≡ all
  stop_passed made all is e = ap (λ (l : List NodeStop). made ++ l) (sym (here false is)) ∙ e

-- ---- their picks

all_first : {A : Type 0} (P : A → Type 0) (x : A) (xs : List A) → All P (x ∷ xs) → P x
all_first P x xs all = all 0 x (omega arith)

all_rest : {A : Type 0} (P : A → Type 0) (x : A) (xs : List A) → All P (x ∷ xs) → All P xs
all_rest P x xs all = λ k d below. all (suc k) d (omega (arith, below))

all_more : {A : Type 0} (P : A → Type 0) (x : A) (xs : List A) → P x → All P xs → (k : ℕ) (d : A) → k < length (x ∷ xs) → P (get_or (x ∷ xs) k d)
all_more P x xs first all zero d below = first
all_more P x xs first all (suc k) d below = all k d (omega (arith, below))

pub picks_known : (servers : ℕ) (p : Place) (stops : List (Place × ℕ × ℕ)) → All (IsStop servers) stops → All HasPick (stops_at stops p)
picks_known servers p [] all = λ k d below. absurd (omega (arith, below))
picks_known servers p (stop ∷ stops) all = by (same_place stop.0 p) (picks_known servers p stops (all_rest (IsStop servers) stop stops all))
  where
    by : (b : Bool) → All HasPick (stops_at stops p) → All HasPick (if b then (stop.1, stop.2) ∷ stops_at stops p else stops_at stops p)
    by true rest = all_more HasPick (stop.1, stop.2) (stops_at stops p) ((all_first (IsStop servers) stop stops all).2) rest
    by false rest = rest
