-- What a moment adds to the entries of each place.
use Rattle.std.proofs.Common.{◌≡◌, true, false, List, [], ◌∷◌, ◌++◌, length, refl, arith, length-append}
use Rattle.seata_types.specs.declared.ids.Place.{Place}
use Rattle.history_rules.specs.Histories.{Moment, same_place}
use Rattle.history_text.specs.History.{entries, entry_of}
use Rattle.replay_runner.specs.Traces.{at, places_of}

-- at its own place, and at another one
pub printed_here : (p : Place) (m : Moment) (ms : List Moment) → same_place p m.place ≡ true → entries (at p (m ∷ ms)) ≡ entries (at p ms) ++ entry_of m ∷ []
printed_here p m ms here = rw here refl

pub printed_there : (p : Place) (m : Moment) (ms : List Moment) → same_place p m.place ≡ false → entries (at p (m ∷ ms)) ≡ entries (at p ms)
printed_there p m ms away = rw away refl

pub length-places : (ms : List Moment) → length (places_of ms) ≡ length ms
length-places [] = refl
length-places (m ∷ ms) = let rest = length-places ms in omega (arith, length-append (places_of ms) (m.place ∷ []), rest)
