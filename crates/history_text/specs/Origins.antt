-- Where the entries of a history stand among all.
use Rattle.std.specs.Prelude.{ℕ}
use Rattle.std.specs.Ordering.{nat_cmp, ordering_then}
use Rattle.std.specs.declared.cmp.Ordering.{Ordering}
use Rattle.seata_types.specs.declared.ids.Place.{Place}
use Rattle.history_rules.specs.Histories.{rank}
use Rattle.history_text.specs.declared.entries.Origin.{Origin}

-- where an entry of this number and place stands
abbrev pub origin_of : ℕ → Place → Origin
origin_of stamp at = record { stamp = stamp; kind = (rank at).0; number = (rank at).1 }

-- entries stand by their numbers, and those of one number by their places
abbrev pub origin_cmp : Origin → Origin → Ordering
origin_cmp a b = ordering_then (nat_cmp a.stamp b.stamp) (ordering_then (nat_cmp a.kind b.kind) (nat_cmp a.number b.number))
