use Rattle.std.proofs.Common.{inl, inr, refl}
use Rattle.scenario_nodes.proofs.Returned.{all_same}
use Rattle.lab_calls.proofs.tops.stress_made.Goals as goal

pub returns-in_default : goal.returns-in_default
returns-in_default g c =
    let shelf = g.H.Shelf.state c.args.shelf.now in
    record { ran = inl (refl, refl); returned = all_same shelf; same_tells = refl }

pub returns : goal.returns
returns g c =
    let e = c.run_over-end.ensures in
    record {
      ran = inr (record {
        scenario = c.in-Ok.scenario;
        is_made = c.in-Ok.ensures.is_made;
        ended = c.run_over-end.result;
        has_ended = e.ends;
        told = inl c.stressed.ensures;
      });
      returned = e.returned;
      same_tells = e.keeps.tells;
    }
