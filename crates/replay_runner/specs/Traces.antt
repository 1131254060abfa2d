-- The traces of a history: the moments of each place.
use Rattle.std.specs.Prelude.{Bool, true, false, List, [], ◌∷◌, ◌++◌}
use Rattle.seata_types.specs.declared.ids.Place.{Place}
use Rattle.history_rules.specs.Histories.{Moment, same_place}

abbrev pub at_if : Bool → Moment → List Moment → List Moment
at_if true m ms = m ∷ ms
at_if false m ms = ms

-- the moments of a place, newest first
abbrev pub at : Place → List Moment → List Moment
at p [] = []
at p (m ∷ ms) = at_if (same_place p m.place) m (at p ms)

-- where each moment stands, oldest first
abbrev pub places_of : List Moment → List Place
places_of [] = []
places_of (m ∷ ms) = places_of ms ++ m.place ∷ []
