-- Entries in the order of their keys, a stamp and a place, are in the order of entries.
use Rattle.std.proofs.Common.{◌≡◌, ℕ, ◌+◌, List, refl, sym, ap, ◌∙◌, is_lt, nat_cmp, Ordering, slice_index_or}
use Rattle.std.specs.List.Sorted.{IsSorted, IsSortedByKey}
use Rattle.std.specs.Ordering.{ordering_then}
use Rattle.seata_types.specs.contracts.ids.PlaceOrd.TheImpl.{ghosts}
use Rattle.seata_types.specs.declared.ids.Place.{Place}
use Rattle.seata_types.specs.declared.ids.Place.TheVariants as place
use Rattle.history_text.specs.declared.entries.Entry.{Entry}
use Rattle.trace_merge.specs.Merges.{entry_cmp, place_cmp}

place_is : (p q : Place) → ghosts.cmp p q ≡ place_cmp p q
place_is place.Net place.Net = refl
place_is place.Net place.Tc = refl
place_is place.Net (place.Res n) = refl
place_is place.Net (place.Man n) = refl
place_is place.Tc place.Net = refl
place_is place.Tc place.Tc = refl
place_is place.Tc (place.Res n) = refl
place_is place.Tc (place.Man n) = refl
place_is (place.Res m) place.Net = refl
place_is (place.Res m) place.Tc = refl
place_is (place.Res m) (place.Res n) = refl
place_is (place.Res m) (place.Man n) = refl
place_is (place.Man m) place.Net = refl
place_is (place.Man m) place.Tc = refl
place_is (place.Man m) (place.Res n) = refl
place_is (place.Man m) (place.Man n) = refl

abbrev pub key_of : Entry → ℕ × Place
key_of e = (e.stamp, e.place)

abbrev pub key_cmp : ℕ × Place → ℕ × Place → Ordering
key_cmp a b = ordering_then (nat_cmp a.0 b.0) (ghosts.cmp a.1 b.1)

entry_is : (a b : Entry) → is_lt (entry_cmp a b) ≡ is_lt (key_cmp (key_of a) (key_of b))
entry_is a b = ap (λ (r : Ordering). is_lt (ordering_then (nat_cmp a.stamp b.stamp) r)) (sym (place_is a.place b.place))

pub sorted_by_key : (es : List Entry) → IsSortedByKey key_of key_cmp es → IsSorted entry_cmp es
sorted_by_key es sorted k d low high = entry_is (slice_index_or es (k + 1) d) (slice_index_or es k d) ∙ sorted k d low high
