use Rattle.std.proofs.Common.{◌≡◌, ◌+◌, ◌*◌, ◌++◌, ◌∙◌, ap, sym, refl, arith, append-nil, string_bytes}
use Rattle.scenario_maker.specs.Draws.{draw}
use Rattle.scenario_maker.specs.Made.{listed, manager, manager_at, managers}
use Rattle.scenario_maker.proofs.ListLemmas.{one_more}
use Rattle.scenario_maker.proofs.making.add_managers.Goals as goal

pub loop-place-init : goal.loop-place-init
unfolding listed
loop-place-init c = record { drawn = c.of-draws.ensures; written = sym (append-nil (string_bytes c.args.out.now)) }

pub loop-place-preserved : goal.loop-place-preserved
unfolding manager_at
loop-place-preserved c =
    let place = c.loop-place.place in
    let behind = c.plan.ensures c.args.number (7 * place) c.loop-place.invariant.drawn in
    let seven : 7 * place + 7 ≡ 7 * (place + 1) = omega arith in
    record {
      drawn = behind.1 ∙ ap (draw c.args.number) seven;
      written = one_more (manager_at c.args.number) place (place + 1) (string_bytes c.args.out.now) (string_bytes c.loop-place.out) (string_bytes c.add_comma.new.out)
          (manager (place + 1) c.plan.result) (string_bytes c.add_manager.new.out) c.loop-place.invariant.written c.in_ok-add_comma.ensures
          (ap (manager (place + 1)) behind.0) c.in_ok-add_manager.ensures refl;
    }

pub returns : goal.returns
unfolding managers
returns c =
    let all : c.loop-place.place ≡ c.args.size = omega arith in
    c.loop-place.invariant.written ∙ ap (λ n. string_bytes c.args.out.now ++ listed (manager_at c.args.number) n) all
