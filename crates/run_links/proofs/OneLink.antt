-- One link more, from a place to a place.
use Rattle.std.proofs.Common.{◌≡◌, ◌&&◌, ◌||◌, ◌++◌, ℕ, true, false, List, [], ◌∷◌, slice_get, Some, refl, ap, sym, ◌∙◌}
use Rattle.std.proofs.lemmas.Bool.{true≢false}
use Rattle.std.proofs.lemmas.Map.Keys.{any_passes_from_place}
use Rattle.seata_types.specs.declared.ids.Place.{Place}
use Rattle.history_rules.specs.Histories.{same_place}
use Rattle.link_queue.specs.Links.{AreNew, Sending, Taking}
use Rattle.trace_rules.proofs.Order.{same_place-eq, same_place-refl}
use Rattle.run_links.specs.Linked.{AreEnds, AreEndsAt, comes_from, goes_to, is_from, is_to, queue_by, queue_to}
use Rattle.run_links.specs.Routes.{is_route}
use Rattle.run_links.proofs.Adding.{and_swap, any_more, different_more, each_more, one_if, or_false}
use Rattle.run_links.proofs.Routing.{queue_before, queue_behind, same_place-sym}

-- an end of these that comes from a place, or goes to one
pub comes_there : (takers : List Taking) (k : ℕ) (t : Taking) (p : Place) → slice_get takers k ≡ Some t → t.line.from ≡ p → comes_from p takers ≡ true
comes_there takers k t p there is = any_passes_from_place (is_from p) takers k t there (ap (λ q. same_place q p) is ∙ same_place-refl p)

pub goes_there : (senders : List Sending) (k : ℕ) (s : Sending) (p : Place) → slice_get senders k ≡ Some s → s.line.to ≡ p → goes_to p senders ≡ true
goes_there senders k s p there is = any_passes_from_place (is_to p) senders k s there (ap (λ q. same_place q p) is ∙ same_place-refl p)

module _ (T : Place → List Taking) (S : Place → List Sending) (a b : Place) (s : Sending) (t : Taking) where
  abbrev pub more_takers : Place → List Taking
  more_takers p = T p ++ one_if (same_place p b) t

  abbrev pub more_senders : Place → List Sending
  more_senders p = S p ++ one_if (same_place p a) s

  module _ (new : AreNew a b s t) (are : AreEnds T S) (none : goes_to b (S a) ≡ false) where
    s_to : s.line.to ≡ b
    s_to = ap (λ (x : Sending). x.line.to) new.sends

    t_from : t.line.from ≡ a
    t_from = ap (λ (x : Taking). x.line.from) new.takes

    t_queue : t.line.queue ≡ s.line.queue
    t_queue = ap (λ (x : Taking). x.line.queue) new.takes

    -- the queue of a link that was there
    old_queue : (from to : Place) → goes_to to (S from) ≡ true → queue_by more_senders from to ≡ queue_by S from to
    old_queue from to goes = queue_before to (S from) (one_if (same_place from a) s) goes

    -- the queue of the new one
    new_queue : queue_by more_senders a b ≡ s.line.queue
    new_queue = ap (λ c. queue_to b (S a ++ one_if c s)) (same_place-refl a) ∙ queue_behind b (S a) s none s_to

    goes_from : (p : Place) (k : ℕ) (u : Taking) → slice_get (T p) k ≡ Some u → goes_to p (S u.line.from) ≡ true
    goes_from p k u there = sym (are.come u.line.from p) ∙ comes_there (T p) k u u.line.from there refl

    takes_here : (p : Place) (k : ℕ) (u : Taking) → slice_get (more_takers p) k ≡ Some u → (u.line.to ≡ p) × (u.line.queue ≡ queue_by more_senders u.line.from p)
    takes_here p =
        each_more (λ (u : Taking). (u.line.to ≡ p) × (u.line.queue ≡ queue_by more_senders u.line.from p)) (T p) (same_place p b) t
        (λ k u there. let old = (are.each p).to_here k u there in (old.0, old.1 ∙ sym (old_queue u.line.from p (goes_from p k u there))))
        (λ here.
        let is = same_place-eq p b here in (
          ap (λ (x : Taking). x.line.to) new.takes ∙ sym is,
          t_queue ∙ sym (ap (λ q. queue_by more_senders q p) t_from ∙ ap (queue_by more_senders a) is ∙ new_queue),
        ))

    sends_here : (p : Place) (k : ℕ) (u : Sending) → slice_get (more_senders p) k ≡ Some u → (u.line.from ≡ p) × (u.line.queue ≡ queue_by more_senders p u.line.to)
    sends_here p =
        each_more (λ (u : Sending). (u.line.from ≡ p) × (u.line.queue ≡ queue_by more_senders p u.line.to)) (S p) (same_place p a) s
        (λ k u there.
        let old = (are.each p).from_here k u there in (old.0, old.1 ∙ sym (old_queue p u.line.to (goes_there (S p) k u u.line.to there refl))))
        (λ here.
        let is = same_place-eq p a here in (
          ap (λ (x : Sending). x.line.from) new.sends ∙ sym is,
          sym (ap (queue_by more_senders p) s_to ∙ ap (λ q. queue_by more_senders q b) is ∙ new_queue),
        ))

    no_taker : (p : Place) → same_place p b ≡ true → (k : ℕ) (u : Taking) → slice_get (T p) k ≡ Some u → u.line.from ≡ t.line.from → ⊥
    no_taker p here k u there same =
        true≢false (sym (comes_there (T p) k u a there (same ∙ t_from)) ∙ are.come a p ∙ ap (λ q. goes_to q (S a)) (same_place-eq p b here) ∙ none)

    no_sender : (p : Place) → same_place p a ≡ true → (k : ℕ) (u : Sending) → slice_get (S p) k ≡ Some u → u.line.to ≡ s.line.to → ⊥
    no_sender p here k u there same =
        true≢false (sym (goes_there (S p) k u b there (same ∙ s_to)) ∙ ap (λ q. goes_to b (S q)) (same_place-eq p a here) ∙ none)

    each_ends : (p : Place) → AreEndsAt (queue_by more_senders) p (more_takers p) (more_senders p)
    each_ends p = record {
      to_here = takes_here p;
      from_here = sends_here p;
      apart = record {
        come = different_more (λ (u : Taking). u.line.from) (T p) (same_place p b) t (are.each p).apart.come (no_taker p);
        go = different_more (λ (u : Sending). u.line.to) (S p) (same_place p a) s (are.each p).apart.go (no_sender p);
      };
      unused = record {
        taken = each_more (λ (u : Taking). u.taken ≡ []) (T p) (same_place p b) t (are.each p).unused.taken (λ here. ap (λ (x : Taking). x.taken) new.takes);
        pushed = each_more (λ (u : Sending). (u.pushed ≡ []) × (u.refused ≡ 0)) (S p) (same_place p a) s (are.each p).unused.pushed
            (λ here. (ap (λ (x : Sending). x.pushed) new.sends, ap (λ (x : Sending). x.refused) new.sends));
      };
    }

    -- where links go now
    pub go_more : (p q : Place) → goes_to q (more_senders p) ≡ (goes_to q (S p) || is_route ((a, b) ∷ []) p q)
    go_more p q =
        any_more (is_to q) (S p) (same_place p a) s
        ∙ ap (λ c. goes_to q (S p) || (same_place p a && c)) (ap (λ x. same_place x q) s_to ∙ same_place-sym b q)
        ∙ ap (λ c. goes_to q (S p) || c) (sym (or_false (same_place p a && same_place q b)))

    come_more : (p q : Place) → comes_from p (more_takers q) ≡ (comes_from p (T q) || is_route ((a, b) ∷ []) p q)
    come_more p q =
        any_more (is_from p) (T q) (same_place q b) t
        ∙ ap (λ c. comes_from p (T q) || (same_place q b && c)) (ap (λ x. same_place x p) t_from ∙ same_place-sym a p)
        ∙ ap (λ c. comes_from p (T q) || c) (and_swap (same_place q b) (same_place p a) ∙ sym (or_false (same_place p a && same_place q b)))

    pub one_more : AreEnds more_takers more_senders
    one_more = record {
      each = each_ends;
      come = λ p q. come_more p q ∙ ap (λ c. c || is_route ((a, b) ∷ []) p q) (are.come p q) ∙ sym (go_more p q);
    }
