use Rattle.std.proofs.Common.{OnOk, ap, sym, ◌+◌, length, refl, subst, arith}
use Rattle.scenario_form.specs.declared.scenarios.ScheduleItem.{ScheduleItem}
use Rattle.scenario_form.specs.declared.scenarios.ScheduleItem.TheVariants as item
use Rattle.scenario_form.specs.Runnable.{FitsNodes}
use Rattle.scenario_form.specs.Runnable.{steps_of}
use Rattle.history_rules.specs.Schedules.{DeliverOf, TurnOf}
use Rattle.history_text.specs.declared.entries.Cause.TheVariants as cause
use Rattle.replay_runner.specs.Going.{CanGo, Went}
use Rattle.replay_runner.specs.Standing.{disks_at}
use Rattle.replay_runner.proofs.Failed.{memory_at}
use Rattle.replay_runner.proofs.Playing.{crash_made, enters_disks, enters_local, enters_outside, local_made, outside_made, ready_as, restart_made, single, stop_made}
use Rattle.replay_runner.proofs.Sound.{went_waiting}
use Rattle.replay_runner.proofs.Stepping.{waited_or_ends}
use Rattle.replay_runner.proofs.runs.Run.play.Goals as goal

-- a turn
pub turn-requires-clause-can : goal.turn-requires-clause-can
turn-requires-clause-can g c = subst (λ (i : ScheduleItem). CanGo c.args.self.now (steps_of i)) c.in-Turn.is c.requires.can

pub turn-requires-clause-there : goal.turn-requires-clause-there
turn-requires-clause-there g c = subst (FitsNodes (length c.args.self.now.nodes.resources.items) (length c.args.self.now.nodes.managers.items) (length c.args.locals.now)) c.in-Turn.is c.requires.fits

pub returns-in-Turn-clause-played : goal.returns-in-Turn-clause-played
returns-in-Turn-clause-played g c = λ ready.
    c.turn.ensures.made (single g.D.Disk.state c.args.self.now (TurnOf c.in-Turn.place) refl (ready_as g.D.Disk.state c.args.self.now c.args.item (item.Turn c.in-Turn.place) c.in-Turn.is ready.ready))

-- a delivery
pub deliver-requires : goal.deliver-requires
deliver-requires g c = record { can = subst (λ (i : ScheduleItem). CanGo c.args.self.now (steps_of i)) c.in-Deliver.is c.requires.can }

pub returns-in-Deliver-clause-played : goal.returns-in-Deliver-clause-played
returns-in-Deliver-clause-played g c = λ ready.
    c.deliver.ensures.made
    (single g.D.Disk.state c.args.self.now (DeliverOf c.in-Deliver.stamp) refl (ready_as g.D.Disk.state c.args.self.now c.args.item (item.Deliver c.in-Deliver.stamp) c.in-Deliver.is ready.ready))

-- ticks that pass
pub make_without_node-requires : goal.make_without_node-requires
make_without_node-requires g c =
    let can = subst (λ (i : ScheduleItem). CanGo c.args.self.now (steps_of i)) c.in-Wait.is c.requires.can in
    let room = can.room in
    record { short = omega (arith, room) }

pub returns-in-Wait-clause-played : goal.returns-in-Wait-clause-played
returns-in-Wait-clause-played g c = λ ready.
    waited_or_ends g.D.Disk.state c.args.self.now c.make_without_node.new.self (record {
      nodes = c.args.self.now.nodes;
      network = c.args.self.now.network;
      places = c.args.self.now.places;
      messages = c.args.self.now.messages;
      clock = c.args.self.now.clock + c.in-Wait.ticks;
    }) c.in-Wait.ticks (ready_as g.D.Disk.state c.args.self.now c.args.item (item.Wait c.in-Wait.ticks) c.in-Wait.is ready.ready)
    (subst (FitsNodes (length c.args.self.now.nodes.resources.items) (length c.args.self.now.nodes.managers.items) (length c.args.locals.now)) c.in-Wait.is c.requires.fits).1
    c.make_without_node.result c.make_without_node.ensures.passed c.make_without_node.ensures.fault refl refl refl refl c.make_without_node.ensures.nodes c.make_without_node.ensures.waiting c.make_without_node.ensures.clock

pub returns-in-Wait-clause-gone : goal.returns-in-Wait-clause-gone
returns-in-Wait-clause-gone g c = record {
  failed = memory_at (disks_at g.D.Disk.state c.make_without_node.new.self.nodes) c.make_without_node.result c.make_without_node.ensures.fault;
  went = subst (λ (i : ScheduleItem). OnOk c.make_without_node.result (Went c.args.self.now c.make_without_node.new.self (steps_of i))) (sym c.in-Wait.is)
      (went_waiting (length c.args.self.now.nodes.managers.items) (length c.args.self.now.nodes.resources.items) (length c.args.self.now.places.items) c.args.self.now (record {
        nodes = c.args.self.now.nodes;
        network = c.args.self.now.network;
        places = c.args.self.now.places;
        messages = c.args.self.now.messages;
        clock = c.args.self.now.clock + c.in-Wait.ticks;
      }) c.make_without_node.new.self c.requires.can.goes (cause.Wait c.in-Wait.ticks) c.in-Wait.ticks
      (subst (FitsNodes (length c.args.self.now.nodes.resources.items) (length c.args.self.now.nodes.managers.items) (length c.args.locals.now)) c.in-Wait.is c.requires.fits).1
      c.make_without_node.result c.make_without_node.ensures.passed refl refl refl c.make_without_node.ensures.nodes c.make_without_node.ensures.waiting c.make_without_node.ensures.clock);
  count = ap (λ v. length v.resources.items) c.make_without_node.ensures.nodes;
}

-- a stop, a crash and a restart come to a node with disks
pub make-requires : goal.make-requires
make-requires g c = record {
  can = enters_disks c.args.self.now c.in-Stop.place (cause.Stop c.in-Stop.calls)
      (subst (FitsNodes (length c.args.self.now.nodes.resources.items) (length c.args.self.now.nodes.managers.items) (length c.args.locals.now)) c.in-Stop.is c.requires.fits).0 tt tt
      (subst (λ (i : ScheduleItem). CanGo c.args.self.now (steps_of i)) c.in-Stop.is c.requires.can);
}

pub returns-in-Stop-clause-played : goal.returns-in-Stop-clause-played
returns-in-Stop-clause-played g c = λ ready.
    let fits = (subst (FitsNodes (length c.args.self.now.nodes.resources.items) (length c.args.self.now.nodes.managers.items) (length c.args.locals.now)) c.in-Stop.is c.requires.fits).0 in
    stop_made g.D.Disk.state c.args.self.now c.make.new.self c.in-Stop.place fits c.in-Stop.calls
    (ready_as g.D.Disk.state c.args.self.now c.args.item (item.Stop c.in-Stop.place c.in-Stop.calls) c.in-Stop.is ready.ready) c.make.result c.make.ensures.made

pub make-requires-in-Crash : goal.make-requires-in-Crash
make-requires-in-Crash g c = record {
  can = enters_disks c.args.self.now c.in-Crash.place cause.Crash
      (subst (FitsNodes (length c.args.self.now.nodes.resources.items) (length c.args.self.now.nodes.managers.items) (length c.args.locals.now)) c.in-Crash.is c.requires.fits) tt tt
      (subst (λ (i : ScheduleItem). CanGo c.args.self.now (steps_of i)) c.in-Crash.is c.requires.can);
}

pub returns-in-Crash-clause-played : goal.returns-in-Crash-clause-played
returns-in-Crash-clause-played g c = λ ready.
    let fits = subst (FitsNodes (length c.args.self.now.nodes.resources.items) (length c.args.self.now.nodes.managers.items) (length c.args.locals.now)) c.in-Crash.is c.requires.fits in
    crash_made g.D.Disk.state c.args.self.now c.make-in-Crash.new.self c.in-Crash.place fits
    (ready_as g.D.Disk.state c.args.self.now c.args.item (item.Crash c.in-Crash.place) c.in-Crash.is ready.ready) c.make-in-Crash.result c.make-in-Crash.ensures.made

pub make-requires-in-Restart : goal.make-requires-in-Restart
make-requires-in-Restart g c =
    let fits = subst (FitsNodes (length c.args.self.now.nodes.resources.items) (length c.args.self.now.nodes.managers.items) (length c.args.locals.now)) c.in-Restart.is c.requires.fits in
    record {
      can = enters_disks c.args.self.now c.in-Restart.place (cause.Restart c.in-Restart.pick c.in-Restart.calls) fits.0 tt fits.1
          (subst (λ (i : ScheduleItem). CanGo c.args.self.now (steps_of i)) c.in-Restart.is c.requires.can);
    }

pub returns-in-Restart-clause-played : goal.returns-in-Restart-clause-played
returns-in-Restart-clause-played g c = λ ready.
    let fits = subst (FitsNodes (length c.args.self.now.nodes.resources.items) (length c.args.self.now.nodes.managers.items) (length c.args.locals.now)) c.in-Restart.is c.requires.fits in
    restart_made g.D.Disk.state c.args.self.now c.make-in-Restart.new.self c.in-Restart.place fits.0 c.in-Restart.pick c.in-Restart.calls
    (ready_as g.D.Disk.state c.args.self.now c.args.item (item.Restart c.in-Restart.place c.in-Restart.pick c.in-Restart.calls) c.in-Restart.is ready.ready) c.make-in-Restart.result c.make-in-Restart.ensures.made

-- local transactions, guarded or outside
pub place_of-requires : goal.place_of-requires
place_of-requires g c = subst (FitsNodes (length c.args.self.now.nodes.resources.items) (length c.args.self.now.nodes.managers.items) (length c.args.locals.now)) c.in-Local.is c.requires.fits

pub make-requires-in-Local : goal.make-requires-in-Local
make-requires-in-Local g c =
    let fits = subst (FitsNodes (length c.args.self.now.nodes.resources.items) (length c.args.self.now.nodes.managers.items) (length c.args.locals.now)) c.in-Local.is c.requires.fits in
    record {
      can = enters_local c.args.self.now c.args.locals.now c.in-Local.number fits c.requires.locals c.place_of.result c.place_of.ensures
          (subst (λ (i : ScheduleItem). CanGo c.args.self.now (steps_of i)) c.in-Local.is c.requires.can);
    }

pub returns-in-Local-clause-played : goal.returns-in-Local-clause-played
returns-in-Local-clause-played g c = λ ready.
    let fits = subst (FitsNodes (length c.args.self.now.nodes.resources.items) (length c.args.self.now.nodes.managers.items) (length c.args.locals.now)) c.in-Local.is c.requires.fits in
    local_made c.args.self.now c.args.locals.now c.in-Local.number fits c.requires.locals c.place_of.result c.place_of.ensures g.D.Disk.state c.make-in-Local.new.self c.make-in-Local.result
    (ready_as g.D.Disk.state c.args.self.now c.args.item (item.Local c.in-Local.number) c.in-Local.is ready.ready) ready.locals_are c.make-in-Local.ensures.made

pub place_of-requires-in-Outside : goal.place_of-requires-in-Outside
place_of-requires-in-Outside g c = subst (FitsNodes (length c.args.self.now.nodes.resources.items) (length c.args.self.now.nodes.managers.items) (length c.args.locals.now)) c.in-Outside.is c.requires.fits

pub make-requires-in-Outside : goal.make-requires-in-Outside
make-requires-in-Outside g c =
    let fits = subst (FitsNodes (length c.args.self.now.nodes.resources.items) (length c.args.self.now.nodes.managers.items) (length c.args.locals.now)) c.in-Outside.is c.requires.fits in
    record {
      can = enters_outside c.args.self.now c.args.locals.now c.in-Outside.number fits c.requires.locals c.place_of-in-Outside.result c.place_of-in-Outside.ensures
          (subst (λ (i : ScheduleItem). CanGo c.args.self.now (steps_of i)) c.in-Outside.is c.requires.can);
    }

pub returns-in-Outside-clause-played : goal.returns-in-Outside-clause-played
returns-in-Outside-clause-played g c = λ ready.
    let fits = subst (FitsNodes (length c.args.self.now.nodes.resources.items) (length c.args.self.now.nodes.managers.items) (length c.args.locals.now)) c.in-Outside.is c.requires.fits in
    outside_made c.args.self.now c.args.locals.now c.in-Outside.number fits c.requires.locals c.place_of-in-Outside.result c.place_of-in-Outside.ensures g.D.Disk.state c.make-in-Outside.new.self c.make-in-Outside.result
    (ready_as g.D.Disk.state c.args.self.now c.args.item (item.Outside c.in-Outside.number) c.in-Outside.is ready.ready) ready.locals_are c.make-in-Outside.ensures.made

-- steps that the replay chooses
pub choose_each-requires : goal.choose_each-requires
choose_each-requires g c = record { can = subst (λ (i : ScheduleItem). CanGo c.args.self.now (steps_of i)) c.in-Auto.is c.requires.can }

pub returns-in-Auto-clause-played : goal.returns-in-Auto-clause-played
returns-in-Auto-clause-played g c = λ ready.
    c.choose_each.ensures.played (ready_as g.D.Disk.state c.args.self.now c.args.item (item.Auto c.in-Auto.steps) c.in-Auto.is ready.ready)
