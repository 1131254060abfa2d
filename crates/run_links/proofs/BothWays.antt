-- A link more each way between two places.
use Rattle.std.proofs.Common.{◌≡◌, ◌&&◌, ◌||◌, Bool, true, false, List, [], ◌∷◌, refl, ap, sym, ◌∙◌}
use Rattle.seata_types.specs.declared.ids.Place.{Place}
use Rattle.history_rules.specs.Histories.{same_place}
use Rattle.link_queue.specs.Links.{AreNew, Sending, Taking}
use Rattle.trace_rules.proofs.Order.{same_place-eq}
use Rattle.run_links.specs.Linked.{AreEnds, goes_to}
use Rattle.run_links.specs.Routes.{both_ways, is_route}
use Rattle.run_links.proofs.Adding.{or_assoc}
use Rattle.run_links.proofs.OneLink.{go_more, more_senders, more_takers, one_more}
use Rattle.run_links.proofs.Routing.{both_mutual, routes_append, same_place-sym}

-- the ends at two places, with a link more each way
module _ (T : Place → List Taking) (S : Place → List Sending) (a b : Place) (s : Sending) (t : Taking) (s' : Sending) (t' : Taking) where
  abbrev T1 : Place → List Taking
  T1 = more_takers T S a b s t

  abbrev S1 : Place → List Sending
  S1 = more_senders T S a b s t

  abbrev pub linked_takers : Place → List Taking
  linked_takers = more_takers T1 S1 b a s' t'

  abbrev pub linked_senders : Place → List Sending
  linked_senders = more_senders T1 S1 b a s' t'

  module _ (there : AreNew a b s t) (back : AreNew b a s' t') (are : AreEnds T S) (returned : (p q : Place) → goes_to q (S p) ≡ goes_to p (S q)) (apart : same_place a b ≡ false) (none : goes_to b (S a) ≡ false) where
    ends1 : AreEnds T1 S1
    ends1 = one_more T S a b s t there are none

    go1 : (p q : Place) → goes_to q (S1 p) ≡ (goes_to q (S p) || is_route ((a, b) ∷ []) p q)
    go1 = go_more T S a b s t there are none

    none1 : goes_to a (S1 b) ≡ false
    none1 =
        go1 b a ∙ ap (λ c. c || is_route ((a, b) ∷ []) b a) (returned b a ∙ none)
        ∙ ap (λ c. (c && same_place a b) || false) (same_place-sym b a ∙ apart)

    pub go_both : (p q : Place) → goes_to q (linked_senders p) ≡ (goes_to q (S p) || is_route (both_ways a b) p q)
    go_both p q =
        go_more T1 S1 b a s' t' back ends1 none1 p q ∙ ap (λ c. c || is_route ((b, a) ∷ []) p q) (go1 p q)
        ∙ or_assoc (goes_to q (S p)) (is_route ((a, b) ∷ []) p q) (is_route ((b, a) ∷ []) p q)
        ∙ ap (λ c. goes_to q (S p) || c) (sym (routes_append ((a, b) ∷ []) ((b, a) ∷ []) p q))

    pub both_ends : AreEnds linked_takers linked_senders
    both_ends = one_more T1 S1 b a s' t' back ends1 none1

    pub both_linked : (p q : Place) → goes_to q (linked_senders p) ≡ goes_to p (linked_senders q)
    both_linked p q =
        go_both p q ∙ ap (λ c. c || is_route (both_ways a b) p q) (returned p q)
        ∙ ap (λ c. goes_to p (S q) || c) (both_mutual a b p q) ∙ sym (go_both q p)

-- where two places are linked each way, a link more each way goes nowhere new
pub was_linked : (goes : Place → Place → Bool) (a b : Place) → goes a b ≡ true → goes b a ≡ true → (p q : Place) → goes p q ≡ (goes p q || is_route (both_ways a b) p q)
was_linked goes a b there back p q = by (same_place p a) (same_place q b) (same_place p b) (same_place q a) refl refl refl refl
  where
    known : (x y : Place) → goes x y ≡ true → same_place p x ≡ true → same_place q y ≡ true → (c : Bool) → goes p q ≡ (goes p q || c)
    known x y is e f c =
        let true_here : goes p q ≡ true = ap (λ z. goes z q) (same_place-eq p x e) ∙ ap (goes x) (same_place-eq q y f) ∙ is in
        true_here ∙ sym (ap (λ z. z || c) true_here)

    unknown : (g : Bool) → g ≡ (g || false)
    unknown true = refl
    unknown false = refl

    by : (pa qb pb qa : Bool) → same_place p a ≡ pa → same_place q b ≡ qb → same_place p b ≡ pb → same_place q a ≡ qa
        → goes p q ≡ (goes p q || ((pa && qb) || ((pb && qa) || false)))
    by true true pb qa e f g h = known a b there e f (true || ((pb && qa) || false))
    by pa qb true true e f g h = known b a back g h ((pa && qb) || (true || false))
    by true false true false e f g h = unknown (goes p q)
    by true false false qa e f g h = unknown (goes p q)
    by false qb true false e f g h = unknown (goes p q)
    by false qb false qa e f g h = unknown (goes p q)
