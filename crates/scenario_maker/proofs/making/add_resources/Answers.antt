use Rattle.std.proofs.Common.{◌≡◌, ◌+◌, ◌++◌, ◌∙◌, ap, sym, refl, arith, append-nil, string_bytes}
use Rattle.scenario_maker.specs.Made.{listed, resource_at, resources}
use Rattle.scenario_maker.proofs.ListLemmas.{one_more}
use Rattle.scenario_maker.proofs.making.add_resources.Goals as goal

pub loop-place-init : goal.loop-place-init
unfolding listed
loop-place-init c = sym (append-nil (string_bytes c.args.out.now))

pub loop-place-preserved : goal.loop-place-preserved
loop-place-preserved c =
    let place = c.loop-place.place in
    one_more resource_at place (place + 1) (string_bytes c.args.out.now) (string_bytes c.loop-place.out) (string_bytes c.add_comma.new.out)
    (resource_at place) (string_bytes c.add_resource.new.out) c.loop-place.invariant c.in_ok-add_comma.ensures refl c.in_ok-add_resource.ensures refl

pub returns : goal.returns
unfolding resources
returns c =
    let all : c.loop-place.place ≡ 4 = omega arith in
    c.loop-place.invariant ∙ ap (λ n. string_bytes c.args.out.now ++ listed resource_at n) all
