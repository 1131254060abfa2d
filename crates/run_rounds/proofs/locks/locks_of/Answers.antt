use Rattle.std.proofs.Common.{◌∙◌, refl, sym, ap, map}
use Rattle.std.proofs.lemmas.Option.{slice_get_read}
use Rattle.run_rounds.specs.Seating.{lock_place, place_in}
use Rattle.run_rounds.proofs.Passes.{images_more}
use Rattle.run_rounds.proofs.locks.locks_of.Goals as goal

pub loop-seat-preserved : goal.loop-seat-preserved
loop-seat-preserved g c =
    images_more (place_in g.N.Node.state) lock_place c.args.seats.now c.loop-seat.seat-index c.seat-item.result c.loop-seat.locks.items c.of.result
    (slice_get_read c.args.seats.now _ c.loop-seat.seat-index _ refl c.loop-seat-test.true c.seat-item.is) (sym c.of.ensures) c.loop-seat.invariant
    ∙ ap (map lock_place) (sym c.in_ok-push.ensures.items)
