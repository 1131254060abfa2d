-- Seats at the places of others, and the faults of seats.
use Rattle.std.proofs.Common.{◌≡◌, ◌⊎◌, inl, inr, ℕ, zero, suc, List, [], ◌∷◌, slice_get, Option, Some, None, sym, ap, ◌∙◌, refl}
use Rattle.std.proofs.lemmas.Option.{same_Some}
use Rattle.seata_types.specs.declared.ids.Place.{Place}
use Rattle.node_steps.specs.Nodes.{NodeState}
use Rattle.node_seat.specs.Seating.{Seated}
use Rattle.node_seat.specs.declared.faults.RunFault.{RunFault}
use Rattle.run_rounds.specs.Ending.{fault_in, first_fault, least_fault, or_fault}
use Rattle.run_rounds.specs.Seating.{node_place, place_in, places_of}
use Rattle.run_rounds.specs.declared.seats.Seats.{Seats}

heads : {A : Type 0} (x y : A) (xs ys : List A) → x ∷ xs ≡ y ∷ ys → x ≡ y
heads x y xs ys e = cc

tails : {A : Type 0} (x y : A) (xs ys : List A) → x ∷ xs ≡ y ∷ ys → xs ≡ ys
tails x y xs ys e = cc

-- ---- places

-- a seat is there where a place is told of it
pub stands_here : {N : Type 0} (state : N → NodeState) (o : Option (Seated N)) (p : Place) → place_in state o ≡ Some p → (t : Seated N) × (o ≡ Some t) × (node_place state t ≡ p)
stands_here state None p e = absurd (let no : None ≡ Some p = e in cc)
stands_here state (Some t) p e = (t, refl, same_Some (node_place state t) p e)

-- where a seat stood, one stands again, at the same place
pub stands_again : {N : Type 0} (state : N → NodeState) (old new : List (Option (Seated N))) → places_of state new ≡ places_of state old
    → (k : ℕ) (s : Seated N) → slice_get old k ≡ Some (Some s) → (t : Seated N) × (slice_get new k ≡ Some (Some t)) × (node_place state t ≡ node_place state s)
stands_again state [] new e k s at = absurd (let no : None ≡ Some (Some s) = at in cc)
stands_again state (o ∷ old) [] e k s at = absurd (let no : [] ≡ place_in state o ∷ places_of state old = e in cc)
stands_again state (o ∷ old) (n ∷ new) e zero s at =
    let one = heads (place_in state n) (place_in state o) (places_of state new) (places_of state old) e in
    let here = stands_here state n (node_place state s) (one ∙ ap (place_in state) (same_Some o (Some s) at)) in
    (here.0, ap Some here.1, here.2)
stands_again state (o ∷ old) (n ∷ new) e (suc k) s at =
    stands_again state old new (tails (place_in state n) (place_in state o) (places_of state new) (places_of state old) e) k s at

-- ---- faults

-- neither of two faults, where none is the first of them
none_first : (one other : Option RunFault) → or_fault one other ≡ None → (one ≡ None) × (other ≡ None)
none_first None other e = (refl, e)
none_first (Some missed) other e = absurd (let no : Some missed ≡ None = e in cc)

-- one of two faults, where one is the first of them
some_first : (one other : Option RunFault) (missed : RunFault) → or_fault one other ≡ Some missed → (one ≡ Some missed) ⊎ (other ≡ Some missed)
some_first None other missed e = inr e
some_first (Some first) other missed e = inl e

-- none of these seats answered a fault
pub calm_each : {N : Type 0} (seats : List (Option (Seated N))) → first_fault seats ≡ None → (k : ℕ) (s : Seated N) → slice_get seats k ≡ Some (Some s) → s.fault ≡ None
calm_each [] e k s at = absurd (let no : None ≡ Some (Some s) = at in cc)
calm_each (o ∷ seats) e zero s at = ap fault_in (sym (same_Some o (Some s) at)) ∙ (none_first (fault_in o) (first_fault seats) e).0
calm_each (o ∷ seats) e (suc k) s at = calm_each seats (none_first (fault_in o) (first_fault seats) e).1 k s at

-- one of them answered this fault
pub fault_there : {N : Type 0} (seats : List (Option (Seated N))) (missed : RunFault) → first_fault seats ≡ Some missed
    → (k : ℕ) × (s : Seated N) × (slice_get seats k ≡ Some (Some s)) × (s.fault ≡ Some missed)
fault_there [] missed e = absurd (let no : None ≡ Some missed = e in cc)
fault_there {N} (None ∷ seats) missed e = let (k, s, at, fault) = fault_there seats missed e in (suc k, s, at, fault)
fault_there {N} (Some s ∷ seats) missed e = by (some_first s.fault (first_fault seats) missed e) (fault_there seats missed)
  where
    by : (s.fault ≡ Some missed) ⊎ (first_fault seats ≡ Some missed)
        → (first_fault seats ≡ Some missed → (k : ℕ) × (t : Seated N) × (slice_get seats k ≡ Some (Some t)) × (t.fault ≡ Some missed))
        → (k : ℕ) × (t : Seated N) × (slice_get (Some s ∷ seats) k ≡ Some (Some t)) × (t.fault ≡ Some missed)
    by (inl here) behind = (zero, s, refl, here)
    by (inr there) behind = let (k, t, at, fault) = behind there in (suc k, t, at, fault)

-- ---- a run's

module _ {C S M K : Type 0} (seats : Seats C S M K) where
  -- no seat of a run answered a fault
  pub none_least : least_fault seats ≡ None → (fault_in seats.coordinator ≡ None) × (first_fault seats.resources.items ≡ None) × (first_fault seats.managers.items ≡ None)
  none_least e =
      let one = none_first (fault_in seats.coordinator) (or_fault (first_fault seats.resources.items) (first_fault seats.managers.items)) e in
      let others = none_first (first_fault seats.resources.items) (first_fault seats.managers.items) one.1 in
      (one.0, others.0, others.1)

  -- one of them did
  pub some_least : (missed : RunFault) → least_fault seats ≡ Some missed
      → (fault_in seats.coordinator ≡ Some missed) ⊎ ((first_fault seats.resources.items ≡ Some missed) ⊎ (first_fault seats.managers.items ≡ Some missed))
  some_least missed e = by (some_first (fault_in seats.coordinator) (or_fault (first_fault seats.resources.items) (first_fault seats.managers.items)) missed e)
    where
      by : (fault_in seats.coordinator ≡ Some missed) ⊎ (or_fault (first_fault seats.resources.items) (first_fault seats.managers.items) ≡ Some missed)
          → (fault_in seats.coordinator ≡ Some missed) ⊎ ((first_fault seats.resources.items ≡ Some missed) ⊎ (first_fault seats.managers.items ≡ Some missed))
      by (inl here) = inl here
      by (inr there) = inr (some_first (first_fault seats.resources.items) (first_fault seats.managers.items) missed there)
