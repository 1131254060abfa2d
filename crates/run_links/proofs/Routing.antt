-- Links by the places that they go between.
use Rattle.std.proofs.Common.{◌≡◌, ◌||◌, ◌++◌, ◌+◌, ℕ, suc, Bool, true, false, if◌then◌else◌, List, [], ◌∷◌, refl, ap, sym, ◌∙◌, arith}
use Rattle.std.proofs.lemmas.Bool.{or_parts, true≢false}
use Rattle.std.proofs.lemmas.List.Folds.{list_any-append}
use Rattle.seata_types.specs.declared.ids.Place.{Place}
use Rattle.seata_types.specs.declared.ids.Place.TheVariants as place
use Rattle.history_rules.specs.Histories.{same_place}
use Rattle.link_queue.specs.Links.{Sending}
use Rattle.trace_rules.proofs.Order.{same_place-eq, same_place-false, same_place-refl}
use Rattle.run_links.specs.Linked.{goes_to, queue_to}
use Rattle.run_links.specs.Routes.{Route, both_ways, goes_over, is_route, resource_routes}
use Rattle.run_links.proofs.Adding.{and_swap, one_if, or_swap}

pub same_place-sym : (p q : Place) → same_place p q ≡ same_place q p
same_place-sym p q = by (same_place p q) refl
  where
    by : (b : Bool) → same_place p q ≡ b → same_place p q ≡ same_place q p
    by true e = e ∙ sym (ap (λ x. same_place x p) (sym (same_place-eq p q e)) ∙ same_place-refl p)
    by false e = e ∙ sym (same_place-false q p (λ is. true≢false (sym (ap (same_place p) is ∙ same_place-refl p) ∙ e)))

-- ---- routes

pub routes_append : (js ks : List Route) (p q : Place) → is_route (js ++ ks) p q ≡ (is_route js p q || is_route ks p q)
routes_append js ks p q = list_any-append (goes_over p q) js ks

-- what is linked each way is so from both sides
pub both_mutual : (a b p q : Place) → is_route (both_ways a b) p q ≡ is_route (both_ways a b) q p
both_mutual a b p q =
    or_swap (goes_over p q (a, b)) (goes_over p q (b, a))
    ∙ ap (λ c. c || (goes_over p q (a, b) || false)) (and_swap (same_place p b) (same_place q a))
    ∙ ap (λ c. goes_over q p (a, b) || (c || false)) (and_swap (same_place p a) (same_place q b))

-- the resources up to the next
pub next_resource : (n : ℕ) → resource_routes (n + 1) ≡ resource_routes n ++ both_ways place.Tc (place.Res (n + 1))
next_resource n = let next : n + 1 ≡ suc n = omega arith in ap resource_routes next ∙ ap (λ m. resource_routes n ++ both_ways place.Tc (place.Res m)) (sym next)

-- ---- queues

either : {A : Type 0} (b c : Bool) (now more rest : A) → (b || c) ≡ true → (c ≡ true → more ≡ rest) → (if b then now else more) ≡ (if b then now else rest)
either true c now more rest e again = refl
either false c now more rest e again = again e

-- an end that goes there is found before what comes behind
pub queue_before : (p : Place) (xs ys : List Sending) → goes_to p xs ≡ true → queue_to p (xs ++ ys) ≡ queue_to p xs
queue_before p [] ys e = absurd (true≢false (sym e))
queue_before p (x ∷ xs) ys e = either (same_place x.line.to p) (goes_to p xs) x.line.queue (queue_to p (xs ++ ys)) (queue_to p xs) e (queue_before p xs ys)

-- where none goes there, the one behind is found
pub queue_behind : (p : Place) (xs : List Sending) (s : Sending) → goes_to p xs ≡ false → s.line.to ≡ p → queue_to p (xs ++ one_if true s) ≡ s.line.queue
queue_behind p [] s none is = ap (λ b. if b then s.line.queue else queue_to p []) (ap (λ q. same_place q p) is ∙ same_place-refl p)
queue_behind p (x ∷ xs) s none is =
    let parts = or_parts (same_place x.line.to p) (goes_to p xs) none in
    ap (λ b. if b then x.line.queue else queue_to p (xs ++ one_if true s)) parts.0 ∙ queue_behind p xs s parts.1 is
