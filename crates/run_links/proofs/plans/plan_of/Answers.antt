use Rattle.std.proofs.Common.{◌≡◌, ◌∙◌, ℕ, List, All, length, ap, sym, subst}
use Rattle.seata_types.specs.declared.ids.Place.{Place}
use Rattle.trace_rules.specs.Stops.{NodeStop}
use Rattle.node_seat.specs.Running.{HasPick}
use Rattle.run_links.specs.Plans.{stops_at, stops_of}
use Rattle.run_links.proofs.Planned.{picks_known}
use Rattle.run_links.proofs.plans.plan_of.Goals as goal

pub returns : goal.returns
returns c =
    let s = c.args.scenario.now in
    let p = c.args.place in
    let stops : c.in_ok-stops.stops ≡ stops_of s p = c.in_ok-stops.ensures ∙ ap (λ (l : List (Place × ℕ × ℕ)). stops_at l p) c.as_slice.ensures in
    record {
      is = λ i. record { stops = stops i; from = c.args.from; managers = ap length c.as_slice-2.ensures i; resources = ap length c.as_slice-3.ensures i };
      starts = c.requires.early;
      picks = subst (λ (l : List NodeStop). All HasPick l) (sym stops) (picks_known (length s.resources) p s.stops c.requires.runnable.stops);
    }
