-- What two disks may stand for after a history is one of the lists that the next one may begin with.
use Rattle.std.proofs.Common.{◌≡◌, inl, inr, ℕ, Bool, true, false, if◌then◌else◌, List, ◌∷◌, Option, Some, None, refl}
use Rattle.journal_checkpoint.specs.Images.{Pair}
use Rattle.history_rules.specs.Own.{Own, Left}
use Rattle.history_rules.specs.Nodes.{MayStand}
use Rattle.history_rules.specs.Devices.{calls_left, may_stand}
use Rattle.node_steps.specs.Durable.{Reading, StandsForRecords, StandsForLeft, AreDisksOf, keepable}

flight_kept : {R : Type 0} (b : Bool) (flight : Option R) (r : R) → (if b then flight else None) ≡ Some r → flight ≡ Some r
flight_kept true flight r e = e
flight_kept false flight r e = absurd cc

module _ {R S : Type 0} (reading : Reading R S) (boots : Bool) (os : List Own) (left : Left R) where
  stand_by : (a b : List ℕ) → StandsForLeft reading left (keepable boots os left) a b → (rs : List R) × MayStand left rs × StandsForRecords reading rs a b
  stand_by a b (inl stands) = (left.records, inl refl, stands)
  stand_by a b (inr (r, kept, stands)) = (r ∷ left.records, inr (r, flight_kept (may_stand (calls_left boots os)) left.flight r kept, refl), stands)

  pub images_may_stand : (before : ℕ) (disks : Pair) → AreDisksOf reading boots os left before disks → (a b : List ℕ) → disks.first.may_leave a → disks.second.may_leave b
      → (rs : List R) × MayStand left rs × StandsForRecords reading rs a b
  images_may_stand before disks are a b i j = stand_by a b (are.images a b i j)
