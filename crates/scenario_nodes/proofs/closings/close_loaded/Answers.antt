use Rattle.std.proofs.Common.{◌∙◌, ◌+◌, refl, ap, sym, subst, arith}
use Rattle.std.proofs.lemmas.Option.{slice_get_read}
use Rattle.resource_core.specs.NodeOpening.{loaded_disks}
use Rattle.scenario_nodes.specs.Shelves.{HasBoth, second_name}
use Rattle.scenario_nodes.proofs.Closing.{IsClosing, closing_begins, emptied, left_count, next_closed, next_taken, none_left, second_at, seconds_count}
use Rattle.scenario_nodes.proofs.closings.close_loaded.Goals as goal
use Rattle.scenario_nodes.proofs.closings.close_loaded.Goals.{in-Some, in_default}

pub loop-k-init : goal.loop-k-init
loop-k-init g c = closing_begins loaded_disks c.args.defs.now c.args.loaded.items (g.H.Shelf.state c.args.shelf.now) c.args.loaded.items 0 refl refl

pub bounds-seconds-k : goal.bounds-seconds-k
bounds-seconds-k g c =
    let count = seconds_count c.args.defs.now c.args.seconds.now c.requires.seconds in
    let below = c.loop-k-test.true in
    omega (arith, count, below)

pub give_disks-requires-clause-second : goal.give_disks-requires-clause-second
give_disks-requires-clause-second g c κs within =
    let k = c.loop-k.k in
    let count = seconds_count c.args.defs.now c.args.seconds.now c.requires.seconds in
    let below = c.loop-k-test.true in
    let here = slice_get_read c.args.defs.now _ k c.index-defs-k.result refl below c.index-defs-k.is in
    let there = slice_get_read c.args.seconds.now _ k c.index-seconds-k.result refl (omega (arith, count, below)) c.index-seconds-k.is in
    c.as_str-in-Some.ensures.value ∙ second_at c.args.defs.now c.args.seconds.now k c.index-defs-k.result c.index-seconds-k.result c.requires.seconds here there ∙ ap second_name (sym c.as_str.ensures)

pub give_disks-requires-clause-both : goal.give_disks-requires-clause-both
give_disks-requires-clause-both g c κs within =
    let old = g.H.Shelf.state c.args.shelf.now in
    let now = g.H.Shelf.state c.loop-k.shelf in
    let k = c.loop-k.k in
    let here = slice_get_read c.args.defs.now _ k c.index-defs-k.result refl c.loop-k-test.true c.index-defs-k.is in
    subst (HasBoth now) (sym c.as_str.ensures)
    (next_taken loaded_disks c.args.defs.now c.args.loaded.items old now k c.loop-k.loaded.items c.loop-k.invariant c.requires.whole c.index-defs-k.result here c.in-Some.one c.pop_front.new.self.items
    c.in-Some.ensures.items c.requires.taken)

pub loop-k-preserved : goal.loop-k-preserved
loop-k-preserved g c =
    let old = g.H.Shelf.state c.args.shelf.now in
    let now = g.H.Shelf.state c.loop-k.shelf in
    let k = c.loop-k.k in
    let here = slice_get_read c.args.defs.now _ k c.index-defs-k.result refl c.loop-k-test.true c.index-defs-k.is in
    elim c.match-pop_front.branch [
      | in-Some w ↦
          let gives = w.give_disks.ensures in
          subst (λ h. IsClosing loaded_disks c.args.defs.now c.args.loaded.items old (g.H.Shelf.state h) (k + 1) c.pop_front.new.self.items) (sym w.shelf-is)
          (next_closed loaded_disks c.args.defs.now c.args.loaded.items old now k c.loop-k.loaded.items c.loop-k.invariant c.requires.whole c.index-defs-k.result here w.in-Some.one c.pop_front.new.self.items
          w.in-Some.ensures.items (g.H.Shelf.state w.give_disks.new.shelf) w.as_str.result.now w.into_disks.result w.as_str.ensures w.into_disks.ensures c.requires.apart gives.back gives.keeps gives.places
          gives.returned)
      | in_default w ↦
          let count = left_count loaded_disks c.args.defs.now c.args.loaded.items old now k c.loop-k.loaded.items c.loop-k.invariant c.requires.whole in
          let below = c.loop-k-test.true in
          let len = c.loop-k.loaded.ok.0 in
          let none = w.in_default.ensures.cases.0 in
          absurd (omega (arith, count, below, len, none))
    ]

pub returns : goal.returns
returns g c =
    let old = g.H.Shelf.state c.args.shelf.now in
    let now = g.H.Shelf.state c.loop-k.shelf in
    let k = c.loop-k.k in
    let past = c.loop-k-test.false in
    let count = left_count loaded_disks c.args.defs.now c.args.loaded.items old now k c.loop-k.loaded.items c.loop-k.invariant c.requires.whole in
    none_left loaded_disks c.args.defs.now c.args.loaded.items old now k c.loop-k.loaded.items c.loop-k.invariant c.requires.whole (emptied c.loop-k.loaded.items (omega (arith, count, past)))
