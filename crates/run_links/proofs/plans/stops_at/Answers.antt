use Rattle.std.proofs.Common.{◌≡◌, ◌∙◌, ◌++◌, ◌∷◌, ◌+◌, ℕ, List, [], drop, get_or, sym, ap, subst}
use Rattle.std.proofs.lemmas.Option.{slice_get-get_or}
use Rattle.seata_types.specs.declared.ids.Place.{Place}
use Rattle.seata_types.specs.declared.ids.Place.TheVariants as place
use Rattle.trace_rules.specs.Stops.{NodeStop}
use Rattle.run_links.specs.Plans.{stops_at}
use Rattle.run_links.proofs.Planned.{stop_passed, stop_taken}
use Rattle.run_links.proofs.plans.stops_at.Goals as goal
use Rattle.run_links.proofs.plans.stops_at.Goals.{then-is_same+in_ok-put, else-is_same}

pub loop-at-preserved : goal.loop-at-preserved
loop-at-preserved c =
    let p = c.args.place in
    let k = c.loop-at.at-index in
    let stops = c.args.stops.now in
    let stop : Place × ℕ × ℕ = get_or stops k (place.Net, 0, 0) in
    let there = slice_get-get_or stops k (place.Net, 0, 0) c.loop-at-test.true in
    elim c.if-is_same.branch [
      | then-is_same+in_ok-put w ↦
          let items : c.if-is_same.made.items ≡ c.loop-at.made.items ++ (stop.1, stop.2) ∷ [] = ap (λ v. v.items) w.made-is ∙ w.in_ok-put.ensures in
          subst (λ (l : List NodeStop). l ++ stops_at (drop (k + 1) stops) p ≡ stops_at stops p) (sym items)
          (stop_taken p k stops stop there c.loop-at.made.items (stops_at stops p) (sym c.is_same.ensures ∙ w.if-is_same.true) c.loop-at.invariant)
      | else-is_same w ↦
          subst (λ (l : List NodeStop). l ++ stops_at (drop (k + 1) stops) p ≡ stops_at stops p) (sym (ap (λ v. v.items) w.made-is))
          (stop_passed p k stops stop there c.loop-at.made.items (stops_at stops p) (sym c.is_same.ensures ∙ w.if-is_same.false) c.loop-at.invariant)
    ]
