-- The network: what is delivered was sent, and has what every message has that was sent.
use Rattle.std.proofs.Common.{◌≡◌, ◌==◌, ◌&&◌, Bool, true, false, if◌then◌else◌, List, [], ◌∷◌, Option, Some, None, refl, ap, subst}
use Rattle.seata_types.specs.declared.ids.Place.{Place}
use Rattle.seata_types.specs.declared.ids.Place.TheVariants as place
use Rattle.seata_types.specs.declared.messages.Input.TheVariants as input
use Rattle.seata_types.specs.declared.messages.Message.{Message}
use Rattle.seata_types.specs.declared.messages.Outgoing.{Outgoing}
use Rattle.history_rules.specs.Own.{Given, Stopped, Crashed, Restarted}
use Rattle.history_rules.specs.Histories.{Moment, Cause, Turn, Deliver, Missing, Wait, Stop, Crash, Restart, Local, Outside, same_place, sent_if, sent_by, sent_from, delivered, brings}
use Rattle.history_law.specs.Network.{OnSent, EachSent}
use Rattle.history_law.proofs.Tests.{false_true, none_some, same_nat}

pub one_place : (p q : Place) → same_place p q ≡ true → p ≡ q
one_place place.Net place.Net e = refl
one_place place.Tc place.Tc e = refl
one_place (place.Res m) (place.Res n) e = ap place.Res (same_nat m n e)
one_place (place.Man m) (place.Man n) e = ap place.Man (same_nat m n e)
one_place place.Net place.Tc e = false_true e
one_place place.Net (place.Res n) e = false_true e
one_place place.Net (place.Man n) e = false_true e
one_place place.Tc place.Net e = false_true e
one_place place.Tc (place.Res n) e = false_true e
one_place place.Tc (place.Man n) e = false_true e
one_place (place.Res m) place.Net e = false_true e
one_place (place.Res m) place.Tc e = false_true e
one_place (place.Res m) (place.Man n) e = false_true e
one_place (place.Man m) place.Net e = false_true e
one_place (place.Man m) place.Tc e = false_true e
one_place (place.Man m) (place.Res n) e = false_true e

module _ (P : Place → Outgoing → Type 0) where
  abbrev OnFound : Option (Place × Outgoing) → Type 0
  OnFound None = Unit {0}
  OnFound (Some (from, out)) = P from out

  newest_says : (m : Moment) (before : Option (Place × Outgoing)) (b : Bool) (sent : Option Outgoing) → OnSent P m.place sent → OnFound before → OnFound (sent_if b m sent before)
  newest_says m before true None said below = below
  newest_says m before true (Some out) said below = said
  newest_says m before false sent said below = below

  -- what an entry sent of which a test holds
  pub found_says : (test : Moment → Bool) (ms : List Moment) → EachSent P ms → OnFound (sent_by test ms)
  found_says test [] each = tt
  found_says test (m ∷ ms) each = newest_says m (sent_by test ms) (test m) m.step.sent each.1 (found_says test ms each.0)

  to_here : (from to : Place) (out : Outgoing) (by : Place) (heard : Message) (b : Bool) → same_place out.to to ≡ b → P from out
      → (if b then Some (Given (input.Message from out.message)) else None) ≡ Some (Given (input.Message by heard)) → P by (record { to = to; message = heard })
  to_here from to out by heard true at said e =
      let sender : from ≡ by = cc in
      let message : out.message ≡ heard = cc in
      let receiver : out.to ≡ to = one_place out.to to at in
      subst (λ q. P q (record { to = to; message = heard })) sender (subst (λ q. P from (record { to = to; message = q })) message (subst (λ q. P from (record { to = q; message = out.message })) receiver said))
  to_here from to out by heard false at said e = none_some e

  by_found : (to by : Place) (heard : Message) (o : Option (Place × Outgoing)) → OnFound o → delivered to o ≡ Some (Given (input.Message by heard)) → P by (record { to = to; message = heard })
  by_found to by heard None said e = none_some e
  by_found to by heard (Some (from, out)) said e = to_here from to out by heard (same_place out.to to) refl said e

  -- a message that a cause brings has what every message has that was sent
  pub brought_says : (ms : List Moment) (to : Place) (cause : Cause) (by : Place) (heard : Message) → EachSent P ms → brings ms to cause ≡ Some (Given (input.Message by heard)) → P by (record { to = to; message = heard })
  brought_says ms to (Deliver stamp from) by heard each e =
      by_found to by heard (sent_from stamp from ms) (found_says (λ m. (m.stamp == stamp) && same_place m.place from) ms each) e
  brought_says ms to Turn by heard each e = absurd (different e)
    where
      different : Some (Given input.Turn) ≡ Some (Given (input.Message by heard)) → ⊥
      different e = cc
  brought_says ms to (Local k) by heard each e = absurd (different e)
    where
      different : Some (Given (input.Local k)) ≡ Some (Given (input.Message by heard)) → ⊥
      different e = cc
  brought_says ms to (Outside k) by heard each e = absurd (different e)
    where
      different : Some (Given (input.Outside k)) ≡ Some (Given (input.Message by heard)) → ⊥
      different e = cc
  brought_says ms to (Stop calls) by heard each e = absurd (different e)
    where
      different : Some (Stopped calls) ≡ Some (Given (input.Message by heard)) → ⊥
      different e = cc
  brought_says ms to Crash by heard each e = absurd (different e)
    where
      different : Some Crashed ≡ Some (Given (input.Message by heard)) → ⊥
      different e = cc
  brought_says ms to (Restart pick calls) by heard each e = absurd (different e)
    where
      different : Some (Restarted pick calls) ≡ Some (Given (input.Message by heard)) → ⊥
      different e = cc
  brought_says ms to (Missing stamp) by heard each e = none_some e
  brought_says ms to (Wait ticks) by heard each e = none_some e

-- what every message says is kept where the property only grows
pub each_grows : (P Q : Place → Outgoing → Type 0) → ((p : Place) (o : Outgoing) → P p o → Q p o) → (ms : List Moment) → EachSent P ms → EachSent Q ms
each_grows P Q grows [] each = tt
each_grows P Q grows (m ∷ ms) each = (each_grows P Q grows ms each.0, on m.step.sent each.1)
  where
    on : (s : Option Outgoing) → OnSent P m.place s → OnSent Q m.place s
    on None said = tt
    on (Some o) said = grows m.place o said
