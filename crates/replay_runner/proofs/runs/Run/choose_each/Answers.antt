use Rattle.std.proofs.Common.{◌≡◌, ◌+◌, ◌-◌, ◌∙◌, length, subst, arith}
use Rattle.replay_runner.specs.Going.{Goes}
use Rattle.replay_runner.proofs.Playing.{all_chosen, choosing, none_chosen, one_fewer}
use Rattle.replay_runner.proofs.Sound.{can_go, goes_none, one_more}
use Rattle.replay_runner.proofs.runs.Run.choose_each.Goals as goal

pub loop-init : goal.loop-init
loop-init g c = record { plays = λ ready. (ready.ms, ready.plays, none_chosen ready.s ready.ms c.args.steps ready.rest ready.is_next); goes = goes_none (length c.args.self.now.nodes.managers.items) (length c.args.self.now.nodes.resources.items) (length c.args.self.now.places.items) c.args.self.now c.requires.can.goes }

pub choose-requires : goal.choose-requires
choose-requires g c =
    let room = c.requires.can.room in
    record { can = can_go (length c.args.self.now.nodes.managers.items) (length c.args.self.now.nodes.resources.items) (length c.args.self.now.places.items + c.loop.counter) 1 c.loop.self c.loop.invariant.goes (omega (arith, room)) }

pub returns-in-Err-clause-played : goal.returns-in-Err-clause-played
returns-in-Err-clause-played g c = λ ready.
    let kept = c.loop.invariant.plays ready in
    c.in-Err.ensures.made (choosing g.D.Disk.state c.loop.self ready.s ready.held kept.0 (c.args.steps - c.loop.counter) ready.rest ready.runnable kept.1 (omega arith) kept.2)

pub returns-in-Err-clause-gone : goal.returns-in-Err-clause-gone
returns-in-Err-clause-gone g c = record { failed = c.in-Err.ensures.gone.failed; went = tt; count = c.choose.ensures.gone.count ∙ c.loop.invariant.goes.nodes.resource_count }

pub loop-preserved : goal.loop-preserved
loop-preserved g c = record {
  plays = λ ready.
      let kept = c.loop.invariant.plays ready in
      let made = c.in_default.ensures.made (choosing g.D.Disk.state c.loop.self ready.s ready.held kept.0 (c.args.steps - c.loop.counter) ready.rest ready.runnable kept.1 (omega arith) kept.2) in
      (made.0, made.1, one_fewer ready.s made.0 c.args.steps c.loop.counter ready.rest made.2);
  goes = one_more (length c.args.self.now.nodes.managers.items) (length c.args.self.now.nodes.resources.items) (length c.args.self.now.places.items) c.loop.counter c.loop.self c.choose.new.self c.loop.invariant.goes c.in_default.ensures.gone.went;
}

pub returns-clause-played : goal.returns-clause-played
returns-clause-played g c = λ ready.
    let kept = c.loop.invariant.plays ready in
    (kept.0, kept.1, all_chosen ready.s kept.0 c.args.steps c.loop.counter ready.rest (let past = c.loop-test.false in omega (arith, past)) kept.2)

pub returns-clause-gone : goal.returns-clause-gone
returns-clause-gone g c =
    let past = c.loop-test.false in
    let all : c.loop.counter ≡ c.args.steps = omega (arith, past) in record {
      failed = tt;
      went = subst (λ n. Goes (length c.args.self.now.nodes.managers.items) (length c.args.self.now.nodes.resources.items) (length c.args.self.now.places.items + n) c.loop.self) all c.loop.invariant.goes;
      count = c.loop.invariant.goes.nodes.resource_count;
    }
