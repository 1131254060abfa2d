use Rattle.std.proofs.Common.{◌∙◌, ◌∷◌, sym, subst, arith}
use Rattle.std.specs.List.{AllByRecursion}
use Rattle.resource_core.specs.NodeOpening.{IsUp}
use Rattle.scenario_nodes.specs.Loading.{WritesBoot}
use Rattle.scenario_nodes.proofs.Closing.{emptied}
use Rattle.scenario_nodes.proofs.Together.{AreFirst, first_all, first_none, first_push}
use Rattle.scenario_nodes.proofs.loading.start_resources.Goals as goal

pub loop-one-init : goal.loop-one-init
loop-one-init g c =
    let P = WritesBoot g.D.Disk.state in
    let all = c.args.loaded.now.items in (
      subst (λ found. AreFirst P all found all) (sym c.requires.none) (first_none P all),
      c.requires.up,
      c.requires.room,
    )

pub start-requires : goal.start-requires
start-requires g c = record { up = (subst (AllByRecursion IsUp) c.in-Some.ensures.items c.loop-one.invariant.1).0 }

pub loop-one-preserved : goal.loop-one-preserved
loop-one-preserved g c =
    let P = WritesBoot g.D.Disk.state in
    let all = c.args.loaded.now.items in
    let left = c.pop_front.new.self.items in
    let next = c.in-Some.ensures.items in (
      first_push P all c.loop-one.started.items c.push_reserved.new.self.items c.in-Some.one c.loop-one.loaded.items left c.in-Ok.resource next c.push_reserved.ensures.items c.loop-one.invariant.0
          (record { starts = c.in-Ok.ensures.opened; at = c.in-Ok.ensures.at }),
      (subst (AllByRecursion IsUp) next c.loop-one.invariant.1).1,
      let popped = c.in-Some.ensures.cases in let more = c.push_reserved.ensures.len in let same = c.push_reserved.ensures.capacity in let room = c.loop-one.invariant.2 in omega (arith, popped, more, same, room),
    )

pub returns-in-Err : goal.returns-in-Err
returns-in-Err g c =
    let P = WritesBoot g.D.Disk.state in
    let all = c.args.loaded.now.items in
    let f : AreFirst P all c.loop-one.started.items (c.in-Some.one ∷ c.pop_front.new.self.items) = subst (λ ls. AreFirst P all c.loop-one.started.items ls) c.in-Some.ensures.items c.loop-one.invariant.0 in
    record { before = f.before; next = c.in-Some.one; all = f.split; each = f.each; fails = c.in-Err.ensures.refused; unwritten = c.in-Err.ensures.unwritten }

pub returns : goal.returns
returns g c =
    first_all (WritesBoot g.D.Disk.state) c.args.loaded.now.items c.loop-one.started.items c.loop-one.loaded.items
    (emptied c.loop-one.loaded.items (sym c.loop-one.loaded.ok.0 ∙ c.in_default.ensures.cases.0)) c.loop-one.invariant.0
