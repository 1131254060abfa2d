-- Each step keeps the rule of a link's queue.
use Rattle.std.proofs.Common.{◌≡◌, ◌≢◌, ◌⊎◌, inl, inr, ℕ, zero, suc, true, true≢false, List, [], ◌∷◌, ◌++◌, length, set, sym, refl, ap, ◌∙◌, subst, append_assoc}
use mathlib.Core.Option.{some, some-injective, some-ne-none}
use lib.ListN.{get_elem?}
use Rattle.crossbeam_queue.specs.Fifo.{Pushes, Pops, Forks, Merges, Learns}
use Rattle.crossbeam_queue.proofs.Lists.{at_set, at_snoc, set_else}
use Rattle.frame_codec.specs.Packets.{Sent}
use Rattle.link_queue.specs.declared.known.Known.{Known}
use Rattle.link_queue.specs.Links.{IsBack}
use Rattle.link_queue.specs.Knowing.{both_ends, sending_end, taking_end, spent_end, Fits, IsInOrder}

-- ---- ends by their numbers

abbrev Each : (ℕ → Known → Type 0) → List Known → Type 0
Each F ends = (number : ℕ) (end : Known) → get_elem? ends number ≡ some end → F number end

each_set : (F : ℕ → Known → Type 0) (ends : List Known) (at : ℕ) (new : Known) → F at new
    → ((number : ℕ) (end : Known) → number ≢ at → get_elem? ends number ≡ some end → F number end) → Each F (set ends at new)
each_set F ends at new mine others number end there = by (at_set ends at number new end there)
  where
    by : ((number ≡ at) × (new ≡ end)) ⊎ ((number ≢ at) × (get_elem? ends number ≡ some end)) → F number end
    by (inl is) = subst (λ (y : ℕ × Known). F y.0 y.1) (λ i. (sym is.0 i, is.1 i)) mine
    by (inr other) = others number end other.0 other.1

-- an end that wasn't there before another came last is that other
at_last : (ends : List Known) (new end : Known) (number : ℕ) → get_elem? ends number ≢ some end
    → get_elem? (ends ++ new ∷ []) number ≡ some end → number ≡ length ends
at_last [] new end zero not there = refl
at_last [] new end (suc number) not there = absurd (some-ne-none end (sym there))
at_last (e ∷ ends) new end zero not there = absurd (not there)
at_last (e ∷ ends) new end (suc number) not there = ap suc (at_last ends new end number not there)

module _ {sender taker number : ℕ} {pushed taken : List Sent} where
  sends_alone : number ≡ sender → Fits sender taker pushed taken number (sending_end pushed)
  sends_alone is = record { pushes = λ _. (is, refl); takes = λ may. absurd (true≢false (sym may)) }

  takes_alone : number ≡ taker → Fits sender taker pushed taken number (taking_end taken)
  takes_alone is = record { pushes = λ may. absurd (true≢false (sym may)); takes = λ _. (is, refl) }

  is_spent : Fits sender taker pushed taken number spent_end
  is_spent = record { pushes = λ may. absurd (true≢false (sym may)); takes = λ may. absurd (true≢false (sym may)) }

-- an end that may not take
abbrev Pushing : ℕ → List Sent → ℕ → Known → Type 0
Pushing sender pushed number end = (end.pushes ≡ true → (number ≡ sender) × (end.pushed ≡ pushed)) × (end.takes ≢ true)

-- behind such ends comes one that takes
with_taker : (sender : ℕ) (pushed taken : List Sent) (ends : List Known) → Each (Pushing sender pushed) ends
    → Each (Fits sender (length ends) pushed taken) (ends ++ taking_end taken ∷ [])
with_taker sender pushed taken ends none number end there = by (at_snoc ends (taking_end taken) end number there)
  where
    by : (get_elem? ends number ≡ some end) ⊎ (taking_end taken ≡ end) → Fits sender (length ends) pushed taken number end
    by (inl before) = let is = none number end before in record { pushes = is.0; takes = λ may. absurd (is.1 may) }
    by (inr new) =
        let last = at_last ends (taking_end taken) end number (λ before. (none number end before).1 (ap (λ (e : Known). e.takes) (sym new))) there in
        subst (Fits sender (length ends) pushed taken number) new (takes_alone last)

-- ---- the steps

pub begins : IsInOrder [] (both_ends [] [] ∷ [])
begins = record { sender = 0; taker = 0; pushed = []; taken = []; in_order = refl; each = each }
  where
    each : (number : ℕ) (end : Known) → get_elem? (both_ends [] [] ∷ []) number ≡ some end → Fits 0 0 [] [] number end
    each zero end there =
        subst (Fits 0 0 [] [] 0) (some-injective (both_ends [] []) end there) (record { pushes = λ _. (refl, refl); takes = λ _. (refl, refl) })
    each (suc number) end there = absurd (some-ne-none end (sym there))

pub push_keeps : (room at : ℕ) (v : Known) (packet : Sent) → v.pushes ≡ true
    → Pushes IsInOrder room at v packet (λ w. w ≡ sending_end (v.pushed ++ packet ∷ []))
push_keeps room at v packet may items ends _ rule here =
    let mine = (rule.each at v here).pushes may in
    let more : List Sent → List Sent = λ l. l ++ packet ∷ [] in (
      sending_end (more v.pushed),
      record {
        sender = rule.sender;
        taker = rule.taker;
        pushed = more v.pushed;
        taken = rule.taken;
        in_order = ap more (mine.1 ∙ rule.in_order) ∙ append_assoc rule.taken items (packet ∷ []);
        each = each_set (Fits rule.sender rule.taker (more v.pushed) rule.taken) ends at (sending_end (more v.pushed)) (sends_alone mine.0)
            (λ number end other there. record {
              pushes = λ p. absurd (other (((rule.each number end there).pushes p).0 ∙ sym mine.0));
              takes = (rule.each number end there).takes;
            });
      },
      refl,
    )

pub pop_keeps : (at : ℕ) (v : Known) → v.takes ≡ true → Pops IsInOrder at v (λ packet w. w ≡ taking_end (v.taken ++ packet ∷ []))
pop_keeps at v may packet items ends rule here =
    let mine = (rule.each at v here).takes may in
    let more : List Sent = v.taken ++ packet ∷ [] in (
      taking_end more,
      record {
        sender = rule.sender;
        taker = rule.taker;
        pushed = rule.pushed;
        taken = more;
        in_order = rule.in_order ∙ ap (λ (l : List Sent). l ++ packet ∷ items) (sym mine.1) ∙ sym (append_assoc v.taken (packet ∷ []) items);
        each = each_set (Fits rule.sender rule.taker rule.pushed more) ends at (taking_end more) (takes_alone mine.0)
            (λ number end other there. record {
              pushes = (rule.each number end there).pushes;
              takes = λ t. absurd (other (((rule.each number end there).takes t).0 ∙ sym mine.0));
            });
      },
      refl,
    )

-- a new end takes in place of one that did both
pub fork_keeps : (at : ℕ) (v : Known) → v.pushes ≡ true → v.takes ≡ true
    → Forks IsInOrder at v (sending_end v.pushed) (taking_end v.taken)
fork_keeps at v push take items ends rule here =
    let pushing = (rule.each at v here).pushes push in
    let taking = (rule.each at v here).takes take in
    let left = set ends at (sending_end v.pushed) in
    record {
      sender = rule.sender;
      taker = length left;
      pushed = v.pushed;
      taken = v.taken;
      in_order = pushing.1 ∙ rule.in_order ∙ ap (λ (l : List Sent). l ++ items) (sym taking.1);
      each = with_taker rule.sender v.pushed v.taken left
          (each_set (Pushing rule.sender v.pushed) ends at (sending_end v.pushed) ((λ _. (pushing.0, refl)), λ may. true≢false (sym may))
          (λ number end other there. (
            (λ p. let is = (rule.each number end there).pushes p in (is.0, is.1 ∙ sym pushing.1)),
            λ t. other (((rule.each number end there).takes t).0 ∙ sym taking.0),
          )));
    }

-- the end that sends takes in place of the other
pub merge_keeps : (at : ℕ) (v : Known) (other : ℕ) (w : Known) → v.pushes ≡ true → w.takes ≡ true
    → Merges IsInOrder at v other w (both_ends v.pushed w.taken) spent_end
merge_keeps at v other w push take items ends rule here two there =
    let both = both_ends v.pushed w.taken in
    let pushing = (rule.each at v here).pushes push in
    let taking = (rule.each other w (sym (set_else ends at other both two) ∙ there)).takes take in
    let Joined : ℕ → Known → Type 0 = Fits rule.sender at v.pushed w.taken in
    let joined : Each (λ number end. number ≢ other → Joined number end) (set ends at both) =
    each_set (λ number end. number ≢ other → Joined number end) ends at both
    (λ _. record { pushes = λ _. (pushing.0, refl); takes = λ _. (refl, refl) })
    (λ number end _ there' apart. record {
      pushes = λ p. let is = (rule.each number end there').pushes p in (is.0, is.1 ∙ sym pushing.1);
      takes = λ t. absurd (apart (((rule.each number end there').takes t).0 ∙ sym taking.0));
    }) in
    record {
      sender = rule.sender;
      taker = at;
      pushed = v.pushed;
      taken = w.taken;
      in_order = pushing.1 ∙ rule.in_order ∙ ap (λ (l : List Sent). l ++ items) (sym taking.1);
      each = each_set Joined (set ends at both) other spent_end is_spent (λ number end apart there'. joined number end there' apart);
    }

-- ---- what is learned

-- what the queue holds is the last of what was pushed
pub learns_back : (at : ℕ) (v : Known) → v.pushes ≡ true → Learns IsInOrder at v (λ items. IsBack items v.pushed)
learns_back at v may items ends rule here = (rule.taken, ((rule.each at v here).pushes may).1 ∙ rule.in_order)

pub learns_all : (at : ℕ) (v : Known) → v.pushes ≡ true → v.takes ≡ true → Learns IsInOrder at v (λ items. v.pushed ≡ v.taken ++ items)
learns_all at v push take items ends rule here =
    let mine = rule.each at v here in
    (mine.pushes push).1 ∙ rule.in_order ∙ ap (λ (l : List Sent). l ++ items) (sym (mine.takes take).1)
