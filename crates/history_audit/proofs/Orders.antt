-- Whether an entry stands in order, and is in time, is told by the tests.
use Rattle.std.proofs.Common.{◌≡◌, ◌⊎◌, inl, inr, ◌<◌, ◌&&◌, ◌==◌, nat_lt, ℕ, Bool, true, false, List, [], ◌∷◌, Option, None, Ordering, Less, Equal, Greater, refl, sym, ap, subst, ◌∙◌, arith}
use Rattle.std.specs.Bool.{Decides}
use Rattle.std.specs.Cmp.{nat_cmp_is}
use Rattle.std.specs.Ordering.{is_lt, nat_cmp, ordering_then}
use Rattle.std.proofs.lemmas.Bool.Decides.{Decides-and, Decides-at, Decides-like, nat_tests}
use Rattle.seata_types.specs.declared.messages.Step.{Step}
use Rattle.history_rules.specs.Histories.{Below, Moment, ReceivesLater, Rises, rank}
use Rattle.history_law.proofs.Tests.{same_nat}
use Rattle.history_text.specs.declared.entries.Cause.{Cause}
use Rattle.history_text.specs.declared.entries.Cause.TheVariants as cause
use Rattle.history_text.specs.declared.entries.Entry.{Entry}
use Rattle.history_text.specs.declared.entries.Origin.{Origin}
use Rattle.history_text.specs.Origins.{origin_of}
use Rattle.verdict_law.specs.Verdicts.{IsInOrder, moment_at, reason_of}
use Rattle.history_audit.specs.Order.{is_above, is_received_later, newest_of}

-- ---- numbers, one before the others

always : {P : Type 0} → P → Decides true P
always p = (λ e. p, λ q. refl)

never : {P : Type 0} → (P → ⊥) → Decides false P
never isnt = (λ e. absurd (let bad : false ≡ true = e in cc), λ p. absurd (isnt p))

-- how two numbers stand
data Stand (a b : ℕ) : Type 0 where
  Low : a < b → Stand a b
  Same : a ≡ b → Stand a b
  High : b < a → Stand a b

low : (a b : ℕ) → nat_lt a b ≡ true → a < b
low a b l = grind (arith, nat_tests)

is_low : (a b : ℕ) → a < b → nat_lt a b ≡ true
is_low a b l = grind (arith, nat_tests)

high : (a b : ℕ) → (a == b) ≡ false → nat_lt a b ≡ false → b < a
high a b e l = grind (arith, nat_tests)

stand : (a b : ℕ) → Stand a b
stand a b = by (a == b) (nat_lt a b) refl refl
  where
    by : (e l : Bool) → (a == b) ≡ e → nat_lt a b ≡ l → Stand a b
    by true l e f = Same (same_nat a b e)
    by false true e f = Low (low a b f)
    by false false e f = High (high a b e f)

then_decides : (a b : ℕ) (r : Ordering) (P : Type 0) → Decides (is_lt r) P → Decides (is_lt (ordering_then (nat_cmp a b) r)) ((a < b) ⊎ ((a ≡ b) × P))
then_decides a b r P d = by (stand a b)
  where
    at : (o : Ordering) → nat_cmp a b ≡ o → Decides (is_lt (ordering_then o r)) ((a < b) ⊎ ((a ≡ b) × P)) → Decides (is_lt (ordering_then (nat_cmp a b) r)) ((a < b) ⊎ ((a ≡ b) × P))
    at o e f = subst (λ z. Decides (is_lt (ordering_then z r)) ((a < b) ⊎ ((a ≡ b) × P))) (sym e) f

    by : Stand a b → Decides (is_lt (ordering_then (nat_cmp a b) r)) ((a < b) ⊎ ((a ≡ b) × P))
    by (Low l) = at Less (sym (nat_cmp_is a b Less l)) (always (inl l))
    by (Same e) = at Equal (sym (nat_cmp_is a b Equal e)) (λ t. inr (e, d.0 t), λ o. same o)
      where
        same : (a < b) ⊎ ((a ≡ b) × P) → is_lt r ≡ true
        same (inl l) = absurd (omega (arith, l, e))
        same (inr p) = d.1 p.1
    by (High h) = at Greater (sym (nat_cmp_is a b Greater h)) (never neither)
      where
        neither : (a < b) ⊎ ((a ≡ b) × P) → ⊥
        neither (inl l) = omega (arith, l, h)
        neither (inr p) = let e : a ≡ b = p.0 in omega (arith, e, h)

last_decides : (a b : ℕ) → Decides (is_lt (nat_cmp a b)) (a < b)
last_decides a b = by (stand a b)
  where
    by : Stand a b → Decides (is_lt (nat_cmp a b)) (a < b)
    by (Low l) = subst (λ z. Decides (is_lt z) (a < b)) (nat_cmp_is a b Less l) (always l)
    by (Same e) = subst (λ z. Decides (is_lt z) (a < b)) (nat_cmp_is a b Equal e) (never (λ l. omega (arith, l, e)))
    by (High h) = subst (λ z. Decides (is_lt z) (a < b)) (nat_cmp_is a b Greater h) (never (λ l. omega (arith, l, h)))

-- ---- an entry

rises_decides : (ms older : List Moment) (e : Entry) → Decides (is_above (newest_of ms) (origin_of e.stamp e.place)) ((step : Step) → Rises ms (moment_at older e step))
rises_decides [] older e = always (λ step. tt)
rises_decides (m ∷ ms) older e =
    let p = rank m.place in
    let q = rank e.place in
    let places = then_decides p.0 q.0 (nat_cmp p.1 q.1) (p.1 < q.1) (last_decides p.1 q.1) in
    let d = then_decides m.stamp e.stamp (ordering_then (nat_cmp p.0 q.0) (nat_cmp p.1 q.1)) (Below p q) places in
    (λ t step. d.0 t, λ rises. d.1 (rises (record { act = e.act; sent = None })))

later_decides : (c : Cause) (received : ℕ) → Decides (is_received_later c received) (ReceivesLater (reason_of c) received)
later_decides (cause.Deliver stamp from) received = (low stamp received, is_low stamp received)
later_decides cause.Turn received = always tt
later_decides (cause.Missing stamp) received = always tt
later_decides (cause.Wait ticks) received = always tt
later_decides (cause.Stop calls) received = always tt
later_decides cause.Crash received = always tt
later_decides (cause.Restart pick calls) received = always tt
later_decides (cause.Local number) received = always tt
later_decides (cause.Outside number) received = always tt

pub in_order : (newest : Option Origin) (e : Entry) (r : Bool) → r ≡ (is_above newest (origin_of e.stamp e.place) && is_received_later e.cause e.stamp)
    → (ms : List Moment) → newest ≡ newest_of ms → Decides r (IsInOrder ms e)
in_order newest e r is ms same =
    let above = subst (λ o. Decides (is_above o (origin_of e.stamp e.place)) ((step : Step) → Rises ms (moment_at ms e step))) (sym same) (rises_decides ms ms e) in
    let both = Decides-and (is_above newest (origin_of e.stamp e.place)) (is_received_later e.cause e.stamp) above (later_decides e.cause e.stamp) in
    Decides-at r _ is (Decides-like _ (λ p. record { rises = p.0; receives_later = p.1 }) (λ o. (o.rises, o.receives_later)) both)

-- both tests, one after the other
pub and_else : (a b r : Bool) → r ≡ a → r ≡ false → r ≡ (a && b)
and_else a b r same isnt = isnt ∙ sym (ap (λ (z : Bool). z && b) (sym same ∙ isnt))

pub and_then : (a b r q : Bool) → r ≡ a → r ≡ true → q ≡ b → q ≡ (a && b)
and_then a b r q same is also = also ∙ sym (ap (λ (z : Bool). z && b) (sym same ∙ is))
