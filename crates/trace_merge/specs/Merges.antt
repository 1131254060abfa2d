-- All entries of traces by stamp and place, and that they are those of the history that the traces merge to.
use Rattle.std.specs.Prelude.{◌≡◌, List, [], ◌∷◌, ◌++◌, map}
use Rattle.std.specs.List.Sorted.{IsPermutation, IsSorted}
use Rattle.std.specs.Ordering.{nat_cmp, ordering_then}
use Rattle.std.specs.declared.cmp.Ordering.{Ordering}
use Rattle.seata_types.specs.declared.ids.Place.{Place}
use Rattle.history_text.specs.declared.entries.Entry.{Entry}
use Rattle.history_text.specs.History.{entries}
use Rattle.trace_rules.specs.Merged.{AreTraces, Placed, kind_of, merged, number_of}

-- which of two places stands first: by kind, and of one kind by number
abbrev pub place_cmp : Place → Place → Ordering
place_cmp p q = ordering_then (nat_cmp (kind_of p) (kind_of q)) (nat_cmp (number_of p) (number_of q))

-- which of two entries stands first: by stamp, and of one stamp by place
abbrev pub entry_cmp : Entry → Entry → Ordering
entry_cmp a b = ordering_then (nat_cmp a.stamp b.stamp) (place_cmp a.place b.place)

-- lists, one after the other
abbrev pub joined : {A : Type 0} → List (List A) → List A
joined [] = []
joined (xs ∷ rest) = xs ++ joined rest

-- these are all entries of the traces, in order
pub record IsMerged (traces : List (List Entry)) (all : List Entry) : Type 0 where
  pub same : IsPermutation (joined traces) all
  pub sorted : IsSorted entry_cmp all

-- ---- of the traces of nodes

-- what is printed of a trace
abbrev pub printed : Placed → List Entry
printed t = entries t.moments

-- what is printed of traces, merged, is what is printed of the history that they merge to
abbrev pub MergesEntries : Type 0
MergesEntries = (ts : List Placed) → AreTraces ts → (all : List Entry) → IsMerged (map printed ts) all → all ≡ entries (merged ts)
