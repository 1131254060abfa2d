-- A map of fences, seen as the fences of records: an insertion and a look-up go over to it.
use Rattle.std.proofs.Common.{◌≡◌, Bool, true, false, cond, List, [], ◌∷◌, Option, Some, option_map, Ordering, Less, Equal, Greater, refl, ap, ◌∙◌}
use Rattle.std.specs.BTreeMap.{insert_entry, is_at}
use Rattle.std.specs.Map.{lookup, remove_entry}
use Rattle.std.specs.Ordering.{match_ordering, is_eq}
use Rattle.seata_types.specs.declared.ids.Leg.{Leg}
use Rattle.durable_records.specs.Fences.{leg_cmp}
use Rattle.tcc_fence.specs.declared.statuses.FenceStatus.{FenceStatus}
use Rattle.tcc_fence.specs.Meanings.{status_of, pair_of, entry_of, fences_of, fence_at, without_fence}

-- the order of branches
abbrev pub order : Leg → Leg → Ordering
order a b = leg_cmp (pair_of a) (pair_of b)

module _ (leg : Leg) (s : FenceStatus) (e : Leg × FenceStatus) (es fs : List (Leg × FenceStatus)) where
  inserted_by : (r : Ordering) → fences_of (match_ordering r ((leg, s) ∷ e ∷ es) ((e.0, s) ∷ es) (e ∷ fs))
      ≡ match_ordering r (entry_of (leg, s) ∷ entry_of e ∷ fences_of es) (entry_of (e.0, s) ∷ fences_of es) (entry_of e ∷ fences_of fs)
  inserted_by Less = refl
  inserted_by Equal = refl
  inserted_by Greater = refl

pub fences_insert : (es : List (Leg × FenceStatus)) (leg : Leg) (s : FenceStatus)
    → fences_of (insert_entry order es leg s) ≡ insert_entry leg_cmp (fences_of es) (pair_of leg) (status_of s)
fences_insert [] leg s = refl
fences_insert (e ∷ es) leg s =
    inserted_by leg s e es (insert_entry order es leg s) (order leg e.0)
    ∙ ap (λ rest. match_ordering (order leg e.0) (entry_of (leg, s) ∷ entry_of e ∷ fences_of es) (entry_of (e.0, s) ∷ fences_of es) (entry_of e ∷ rest)) (fences_insert es leg s)

found_by : (b : Bool) (s : FenceStatus) (rest : Option FenceStatus) → option_map status_of (cond b (Some s) rest) ≡ cond b (Some (status_of s)) (option_map status_of rest)
found_by true s rest = refl
found_by false s rest = refl

pub fences_found : (es : List (Leg × FenceStatus)) (leg : Leg) → option_map status_of (lookup (is_at (order leg)) es) ≡ fence_at (fences_of es) leg
fences_found [] leg = refl
fences_found (e ∷ es) leg =
    found_by (is_eq (order leg e.0)) e.1 (lookup (is_at (order leg)) es)
    ∙ ap (λ rest. cond (is_eq (order leg e.0)) (Some (status_of e.1)) rest) (fences_found es leg)

removed_by : (b : Bool) (e : Leg × FenceStatus) (es fs : List (Leg × FenceStatus)) → fences_of (cond b es (e ∷ fs)) ≡ cond b (fences_of es) (entry_of e ∷ fences_of fs)
removed_by true e es fs = refl
removed_by false e es fs = refl

pub fences_removed : (es : List (Leg × FenceStatus)) (leg : Leg) → fences_of (remove_entry (is_at (order leg)) es) ≡ without_fence (fences_of es) leg
fences_removed [] leg = refl
fences_removed (e ∷ es) leg =
    removed_by (is_eq (order leg e.0)) e es (remove_entry (is_at (order leg)) es)
    ∙ ap (λ rest. cond (is_eq (order leg e.0)) (fences_of es) (entry_of e ∷ rest)) (fences_removed es leg)
