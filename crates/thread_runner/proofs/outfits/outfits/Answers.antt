use Rattle.std.proofs.Common.{◌≡◌, ◌∙◌, ◌+◌, ◌∷◌, ℕ, ap, arith, length, refl, rules, subst, sym}
use Rattle.std.specs.Vec.Iter.{into_iter_items}
use Rattle.run_links.specs.Linked.{HasEndsAt}
use Rattle.replay_runner.proofs.Lists.{emptied}
use Rattle.thread_runner.specs.Seats.{IsOutfitAt, numbered_place}
use Rattle.thread_runner.specs.declared.outfits.Outfit.{Outfit}
use Rattle.thread_runner.proofs.Putting.{making_at, making_below, making_done, making_more, making_none}
use Rattle.thread_runner.proofs.outfits.outfits.Goals as goal

pub loop-ends-init : goal.loop-ends-init
loop-ends-init g c =
    let left = into_iter_items c.into_iter-ends-iterator.result in
    let whole : left ≡ c.args.links.items = search rules in
    making_none (λ k. IsOutfitAt c.args.scenario.now g.K.RunName.run.queue (numbered_place c.args.managers (k + 1))) c.args.links.items c.new-made.result.items left c.new-made.ensures.items whole

pub outfit_at-requires-clause-ends : goal.outfit_at-requires-clause-ends
outfit_at-requires-clause-ends g c =
    let here = making_at (λ k. IsOutfitAt c.args.scenario.now g.K.RunName.run.queue (numbered_place c.args.managers (k + 1))) c.args.links.items c.loop-ends.made.items (into_iter_items c.loop-ends.ends-iterator)
    (into_iter_items c.next.new.self) c.in-Some.ends c.loop-ends.invariant c.in-Some.ensures.steps.0 in
    let size : c.len.result ≡ length c.loop-ends.made.items = search rules in
    subst (λ p. HasEndsAt g.K.RunName.run.queue p c.in-Some.ends) (sym (c.numbered_place-place.ensures ∙ ap (λ n. numbered_place c.args.managers (n + 1)) size))
    (c.requires.ends (length c.loop-ends.made.items) c.in-Some.ends here)

pub loop-ends-preserved : goal.loop-ends-preserved
loop-ends-preserved g c =
    let size : c.len.result ≡ length c.loop-ends.made.items = search rules in
    making_more (λ k. IsOutfitAt c.args.scenario.now g.K.RunName.run.queue (numbered_place c.args.managers (k + 1))) c.args.links.items c.loop-ends.made.items c.put.new.made.items
    (into_iter_items c.loop-ends.ends-iterator) (into_iter_items c.next.new.self) c.in-Some.ends c.in_ok-outfit.outfit c.loop-ends.invariant c.in-Some.ensures.steps.0 c.in_ok-put.ensures
    (subst (λ p. IsOutfitAt c.args.scenario.now g.K.RunName.run.queue p c.in_ok-outfit.outfit) (c.numbered_place-place.ensures ∙ ap (λ n. numbered_place c.args.managers (n + 1)) size) c.in_ok-outfit.ensures)

pub returns : goal.returns
returns g c =
    let left = c.loop-ends.ends-iterator in
    let none = emptied (into_iter_items left) left.rest.len left.rest.ok.0 c.in-None.ensures.steps.0 in
    record {
      count = making_done (λ k. IsOutfitAt c.args.scenario.now g.K.RunName.run.queue (numbered_place c.args.managers (k + 1))) c.args.links.items c.loop-ends.made.items (into_iter_items left) c.loop-ends.invariant none;
      each = c.loop-ends.invariant.each;
    }
