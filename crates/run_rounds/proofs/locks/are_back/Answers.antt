use Rattle.std.proofs.Common.{◌≡◌, ◌<◌, ◌∙◌, true, length, refl, sym, ap, arith, rules}
use Rattle.std.proofs.lemmas.Option.{same_Some, slice_get_read}
use Rattle.run_rounds.specs.Seating.{lock_place, place_in}
use Rattle.run_rounds.proofs.Passes.{before_all, before_more, same_images}
use Rattle.run_rounds.proofs.locks.are_back.Goals as goal

pub loop-k-preserved : goal.loop-k-preserved
loop-k-preserved g c =
    let below : c.loop-k.k < length c.args.seats.now = search arith in
    let under : c.loop-k.k < length c.args.locks.now = search arith in
    let back : c.is_back.result ≡ true = search rules in
    before_more _ c.args.seats.now c.loop-k.k c.index-seats-k.result (slice_get_read c.args.seats.now _ c.loop-k.k _ refl below c.index-seats-k.is)
    (λ lock there.
    c.is_back.ensures back
    ∙ ap lock_place (same_Some c.index-locks-k.result lock (sym (slice_get_read c.args.locks.now _ c.loop-k.k _ refl under c.index-locks-k.is) ∙ there)))
    c.loop-k.invariant

pub returns : goal.returns
returns g c = λ yes.
    let end : length c.args.seats.now ≡ c.loop-k.k = search arith in
    let even : length c.args.seats.now ≡ length c.args.locks.now = search arith in
    same_images (place_in g.N.Node.state) lock_place c.args.seats.now c.args.locks.now even (before_all _ c.args.seats.now c.loop-k.k end c.loop-k.invariant)
