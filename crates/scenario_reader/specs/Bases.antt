-- The text under which a scenario is kept.
use Rattle.std.specs.Prelude.{◌≡◌, ℕ, List, Some, false, IsUtf8, codes}
use Rattle.std.specs.Cmp.Lexicographic.{slice_cmp}
use Rattle.std.specs.Ordering.{nat_cmp, match_ordering}
use Rattle.serde_json.specs.Data.{Data, object, array, no_items, Members, no_members, member, put}
use Rattle.serde_json.specs.Read.{read}
use Rattle.serde_json.specs.Written.{compact_text, has_float}

-- the members without the one of this name
abbrev pub without : List ℕ → Members → Members
without name no_members = no_members
without name (member k d ms) = match_ordering (slice_cmp nat_cmp name k) (member k d (without name ms)) ms (member k d (without name ms))

-- the data of a scenario without stops
abbrev pub without_stops : Data → Data
without_stops (object ms) = object (without (codes "stops") ms)
without_stops d = d

-- the data of a scenario with an empty schedule
abbrev pub without_steps : Data → Data
without_steps (object ms) = object (put (codes "schedule") (array no_items) ms)
without_steps d = d

-- the data of a scenario with an empty schedule and without stops
abbrev pub kept : Data → Data
kept d = without_steps (without_stops d)

-- the compact text of this data, which reads as it
pub record IsTextOf (d : Data) (text : List ℕ) : Type 0 where
  pub utf8 : IsUtf8 text
  pub compact : has_float d ≡ false → text ≡ compact_text d
  pub reads : read text ≡ Some d
