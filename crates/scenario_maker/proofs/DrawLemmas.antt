-- Seven draws, one after the other, are a plan.
use Rattle.std.proofs.Common.{ℕ, suc, ◌≡◌, ◌+◌, ◌%◌, ◌==◌, ◌∙◌, ap, sym, arith}
use Rattle.scenario_maker.specs.declared.plans.Plan.{Plan}
use Rattle.scenario_maker.specs.Draws.{after, draw, plan}

pub draw_more : (number k j : ℕ) → j ≡ k + 1 → draw number j ≡ after (draw number k)
unfolding draw
draw_more number k j e = let next : j ≡ suc k = omega arith in ap (draw number) next

pub plan_of_draws : (number k last a b c d e f g : ℕ) → last ≡ draw number k → a ≡ after last → b ≡ after a → c ≡ after b → d ≡ after c →
    e ≡ after d → f ≡ after e → g ≡ after f →
    let p : Plan = record { first = a % 4 + 1; second = b % 4 + 1; payer = c % 8 + 1; payee = d % 8 + 1; amount = e % 50 + 1; reserves = f % 4 == 0; rolls_back = g % 8 == 0 } in
    (p ≡ plan number k) × (g ≡ draw number (k + 7))
unfolding plan
plan_of_draws number k last a b c d e f g is0 is1 is2 is3 is4 is5 is6 is7 =
    let at1 : a ≡ draw number (k + 1) = is1 ∙ ap after is0 ∙ sym (draw_more number k (k + 1) (omega arith)) in
    let at2 : b ≡ draw number (k + 2) = is2 ∙ ap after at1 ∙ sym (draw_more number (k + 1) (k + 2) (omega arith)) in
    let at3 : c ≡ draw number (k + 3) = is3 ∙ ap after at2 ∙ sym (draw_more number (k + 2) (k + 3) (omega arith)) in
    let at4 : d ≡ draw number (k + 4) = is4 ∙ ap after at3 ∙ sym (draw_more number (k + 3) (k + 4) (omega arith)) in
    let at5 : e ≡ draw number (k + 5) = is5 ∙ ap after at4 ∙ sym (draw_more number (k + 4) (k + 5) (omega arith)) in
    let at6 : f ≡ draw number (k + 6) = is6 ∙ ap after at5 ∙ sym (draw_more number (k + 5) (k + 6) (omega arith)) in
    let at7 : g ≡ draw number (k + 7) = is7 ∙ ap after at6 ∙ sym (draw_more number (k + 6) (k + 7) (omega arith)) in
    (cc, at7)
