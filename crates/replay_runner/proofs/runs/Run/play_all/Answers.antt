use Rattle.std.proofs.Common.{[], ◌+◌, ◌∙◌, get_or, length, sym, subst, arith}
use Rattle.std.proofs.lemmas.Option.{slice_get-get_or}
use Rattle.seata_types.specs.declared.ids.Place.TheVariants as place
use Rattle.scenario_form.specs.declared.scenarios.ScheduleItem.TheVariants as item
use Rattle.scenario_form.specs.Runnable.{FitsNodes}
use Rattle.scenario_form.specs.Runnable.{steps_of}
use Rattle.replay_runner.specs.Going.{AreLocals}
use Rattle.replay_runner.proofs.Playing.{all_played, next_member, next_room, none_played}
use Rattle.replay_runner.proofs.Sound.{can_go, went_on}
use Rattle.replay_runner.proofs.runs.Run.play_all.Goals as goal

pub loop-item-init : goal.loop-item-init
loop-item-init g c = record {
  plays = λ s held runs listed same plays. ([], plays, none_played s c.args.schedule.now same);
  goes = (length c.args.self.now.places.items, c.requires.can.goes, c.requires.can.room);
}

pub play-requires-clause-can : goal.play-requires-clause-can
play-requires-clause-can g c =
    let k = c.loop-item.item-index in
    let next = get_or c.args.schedule.now k (item.Turn place.Net) in
    let here = slice_get-get_or c.args.schedule.now k (item.Turn place.Net) c.loop-item-test.true in
    let (entries, goes, room) = c.loop-item.invariant.goes in
    let steps = next_room c.args.schedule.now k next here in
    can_go (length c.args.self.now.nodes.managers.items) (length c.args.self.now.nodes.resources.items) entries (steps_of next) c.loop-item.self goes (omega (arith, room, steps))

pub play-requires-clause-fits : goal.play-requires-clause-fits
play-requires-clause-fits g c =
    let k = c.loop-item.item-index in
    let (entries, goes, room) = c.loop-item.invariant.goes in
    subst (λ n. FitsNodes n (length c.loop-item.self.nodes.managers.items) (length c.args.locals.now) (get_or c.args.schedule.now k (item.Turn place.Net))) (sym goes.nodes.resource_count)
    (subst (λ n. FitsNodes (length c.args.self.now.nodes.resources.items) n (length c.args.locals.now) (get_or c.args.schedule.now k (item.Turn place.Net))) (sym goes.nodes.manager_count)
    (c.requires.fits k (item.Turn place.Net) c.loop-item-test.true))

pub play-requires-clause-locals : goal.play-requires-clause-locals
play-requires-clause-locals g c =
    let (entries, goes, room) = c.loop-item.invariant.goes in
    subst (λ n. AreLocals n c.args.locals.now) (sym goes.nodes.resource_count) c.requires.locals

pub returns-in-Err-clause-played : goal.returns-in-Err-clause-played
returns-in-Err-clause-played g c = λ s held runs listed same plays.
    let k = c.loop-item.item-index in
    let here = slice_get-get_or c.args.schedule.now k (item.Turn place.Net) c.loop-item-test.true in
    let kept = c.loop-item.invariant.plays s held runs listed same plays in
    c.in-Err.ensures.played (record { ready = next_member g.D.Disk.state c.loop-item.self c.args.schedule.now k (get_or c.args.schedule.now k (item.Turn place.Net)) here s held runs kept.0 kept.1 kept.2; locals_are = listed })

pub loop-item-preserved : goal.loop-item-preserved
loop-item-preserved g c =
    let k = c.loop-item.item-index in
    let next = get_or c.args.schedule.now k (item.Turn place.Net) in
    let here = slice_get-get_or c.args.schedule.now k (item.Turn place.Net) c.loop-item-test.true in
    let (entries, goes, room) = c.loop-item.invariant.goes in
    let steps = next_room c.args.schedule.now k next here in
    record {
      plays = λ s held runs listed same plays.
          let kept = c.loop-item.invariant.plays s held runs listed same plays in
          c.in_default.ensures.played (record { ready = next_member g.D.Disk.state c.loop-item.self c.args.schedule.now k next here s held runs kept.0 kept.1 kept.2; locals_are = listed });
      goes = (
        entries + steps_of next,
        went_on (length c.args.self.now.nodes.managers.items) (length c.args.self.now.nodes.resources.items) entries (steps_of next) c.loop-item.self c.play.new.self goes c.in_default.ensures.gone.went,
        omega (arith, room, steps),
      );
    }

pub returns-clause-played : goal.returns-clause-played
returns-clause-played g c = λ s held runs listed same plays.
    let kept = c.loop-item.invariant.plays s held runs listed same plays in
    (kept.0, kept.1, all_played s c.args.schedule.now kept.0 c.loop-item.item-index (let past = c.loop-item-test.false in omega (arith, past)) kept.2)

pub returns-in-Err-clause-count : goal.returns-in-Err-clause-count
returns-in-Err-clause-count g c = let (entries, goes, room) = c.loop-item.invariant.goes in c.play.ensures.gone.count ∙ goes.nodes.resource_count

pub returns-clause-count : goal.returns-clause-count
returns-clause-count g c = let (entries, goes, room) = c.loop-item.invariant.goes in goes.nodes.resource_count
