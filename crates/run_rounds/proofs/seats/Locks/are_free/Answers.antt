use Rattle.std.proofs.Common.{◌≡◌, ◌∙◌, true, sym, ap, rules}
use Rattle.run_rounds.specs.Seating.{lock_places, places_of}
use Rattle.run_rounds.proofs.seats.Locks.are_free.Goals as goal

pub returns : goal.returns
returns g c = λ yes.
    let back : c.is_back.result ≡ true = search rules in
    let first : c.are_back.result ≡ true = search rules in
    record {
      of_coordinator = c.is_back.ensures back;
      of_resources = ap (places_of g.S.Node.state) (sym c.as_slice.ensures.value) ∙ c.are_back.ensures first ∙ ap lock_places c.as_slice-2.ensures.value;
      of_managers = ap (places_of g.M.Node.state) (sym c.as_slice-3.ensures.value) ∙ c.are_back-2.ensures yes ∙ ap lock_places c.as_slice-4.ensures.value;
    }
