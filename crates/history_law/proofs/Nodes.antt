-- What a node does in a legal history is what it may do by itself.
use Rattle.std.proofs.Common.{◌≡◌, Bool, true, false, List, [], ◌∷◌, Option, Some, None, refl, sym, subst}
use Rattle.seata_types.specs.declared.ids.Place.{Place}
use Rattle.history_rules.specs.Own.{Event}
use Rattle.history_rules.specs.Nodes.{World, Past, Role, role_at, Ran}
use Rattle.history_rules.specs.Histories.{Moment, own, own_if, same_place, Legal, IsDone, HappensAt}
use Rattle.history_law.proofs.Deliveries.{one_place}

module _ (w : World) (past : Past) (p : Place) (role : Role) (at : role_at w past p ≡ Some role) where
  one_more : (ms : List Moment) (m : Moment) (event : Option Event) → IsDone w past ms m event → (b : Bool) → (b ≡ true → p ≡ m.place) → Ran role (own p ms) → Ran role (own_if b event m (own p ms))
  one_more ms m (Some event) done true here ran =
      (ran, subst (λ (o : Option Role). HappensAt o (own p ms) m.now event m.step) at (subst (λ q. HappensAt (role_at w past q) (own q ms) m.now event m.step) (sym (here refl)) done))
  one_more ms m None done true here ran = ran
  one_more ms m event done false here ran = ran

  pub ran : (ms : List Moment) → Legal w past ms → Ran role (own p ms)
  ran [] legal = tt
  ran (m ∷ ms) legal = one_more ms m m.event legal.1.done (same_place p m.place) (one_place p m.place) (ran ms legal.0)
