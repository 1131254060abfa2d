-- What is found of the messages is what the entries sent.
use Rattle.std.proofs.Common.{◌≡◌, ◌==◌, ◌&&◌, ℕ, Bool, true, false, cond, if◌then◌else◌, List, ◌∷◌, Option, Some, None, option_map, is_some, Result, Ok, Err, refl, sym, ap, subst, ◌∙◌}
use Rattle.std.specs.Prelude.{IfOk}
use Rattle.std.specs.BTreeMap.{is_at}
use Rattle.std.specs.Map.{lookup}
use Rattle.seata_types.specs.declared.copies.NoMemory.{NoMemory}
use Rattle.seata_types.specs.declared.ids.Place.{Place}
use Rattle.seata_types.specs.declared.messages.Outgoing.{Outgoing}
use Rattle.resource_memory.proofs.Maps.{at_insert}
use Rattle.history_rules.specs.Histories.{Moment, brings, delivered, same_place, sent_at, sent_from, sent_if}
use Rattle.history_law.proofs.Deliveries.{one_place}
use Rattle.history_law.proofs.Tests.{and_right}
use Rattle.history_text.specs.declared.entries.Cause.{Cause}
use Rattle.history_text.specs.declared.entries.Cause.TheVariants as cause
use Rattle.history_text.specs.declared.entries.Origin.{Origin}
use Rattle.history_text.specs.Origins.{origin_cmp, origin_of}
use Rattle.history_text.proofs.OriginLaws.{origin_exact, origin_test, origin_total}
use Rattle.verdict_law.specs.Verdicts.{reason_of}
use Rattle.judged_devices.specs.declared.events.Event.{Event as Brought}
use Rattle.judged_devices.specs.Taking.{event_of}
use Rattle.history_audit.specs.declared.kept.Letters.{Letters}
use Rattle.history_audit.specs.Letters.{AddsLetter, AreLetters, Notes, NotesSent, has_number, letter_at, message_by, with_letter, with_sender, with_sent}

-- ---- one message more

abbrev found_after : Option Outgoing → (is_new : Bool) → Option Outgoing → Option Outgoing
found_after None is_new before = before
found_after (Some out) is_new before = cond is_new (Some out) before

abbrev found_at : List (Origin × Outgoing) → ℕ → Place → Option Outgoing
found_at sent stamp from = lookup (is_at (origin_cmp (origin_of stamp from))) sent

placed : (sent : List (Origin × Outgoing)) (o : Option Outgoing) (at : ℕ) (from : Place) (stamp : ℕ) (p : Place)
    → found_at (with_sent sent at from o) stamp p ≡ found_after o ((at == stamp) && same_place from p) (found_at sent stamp p)
placed sent None at from stamp p = refl
placed sent (Some out) at from stamp p =
    at_insert origin_cmp origin_total origin_exact sent (origin_of at from) out (origin_of stamp p)
    ∙ ap (λ b. cond b (Some out) (found_at sent stamp p)) (origin_test at from stamp p)

finds_by : (m : Moment) (p : Place) (sent : Option Outgoing) (is_new : Bool) → (is_new ≡ true → m.place ≡ p) → (old : Option Outgoing) (before : Option (Place × Outgoing))
    → option_map (with_sender p) old ≡ before → option_map (with_sender p) (found_after sent is_new old) ≡ sent_if is_new m sent before
finds_by m p None true here old before same = same
finds_by m p None false here old before same = same
finds_by m p (Some out) true here old before same = ap (λ q. Some (q, out)) (sym (here refl))
finds_by m p (Some out) false here old before same = same

numbers_by : (m : Moment) (stamp : ℕ) (sent : Option Outgoing) (old new : List ℕ) (before : Option (Place × Outgoing)) → NotesSent m.stamp sent old new → has_number old stamp ≡ is_some before
    → has_number new stamp ≡ is_some (sent_if (m.stamp == stamp) m sent before)
numbers_by m stamp None old new before noted same = ap (λ (ns : List ℕ). has_number ns stamp) noted ∙ same ∙ none (m.stamp == stamp)
  where
    none : (b : Bool) → is_some before ≡ is_some (sent_if b m None before)
    none true = refl
    none false = refl
numbers_by m stamp (Some out) old new before noted same = noted stamp ∙ some (m.stamp == stamp)
  where
    some : (b : Bool) → (if b then true else has_number old stamp) ≡ is_some (sent_if b m (Some out) before)
    some true = refl
    some false = same

pub next_letters : (old new : Letters) (ms : List Moment) (m : Moment) → AreLetters old ms → AddsLetter old new m.stamp m.place m.step.sent → AreLetters new (m ∷ ms)
next_letters old new ms m are adds = record {
  finds = λ stamp p.
      ap (λ (sent : List (Origin × Outgoing)). letter_at sent stamp p) adds.letters
      ∙ ap (option_map (with_sender p)) (placed old.sent.entries m.step.sent m.stamp m.place stamp p)
      ∙ finds_by m p m.step.sent ((m.stamp == stamp) && same_place m.place p) (λ e. one_place m.place p (and_right (m.stamp == stamp) (same_place m.place p) e))
      (found_at old.sent.entries stamp p) (sent_from stamp p ms) (are.finds stamp p);
  numbers = λ stamp. numbers_by m stamp m.step.sent old.numbers.keys new.numbers.keys (sent_at stamp ms) adds.noted (are.numbers stamp);
}

-- ---- of a call

-- nothing is added where nothing was sent
pub none_added : (l : Letters) (stamp : ℕ) (from : Place) (sent : Option Outgoing) → sent ≡ None → AddsLetter l l stamp from sent
none_added l stamp from sent is = subst (AddsLetter l l stamp from) (sym is) (record { letters = refl; noted = refl })

pub one_added : (old new : Letters) (stamp : ℕ) (from : Place) (sent : Option Outgoing) (out : Outgoing) → sent ≡ Some out → new.sent.entries ≡ with_letter old.sent.entries (origin_of stamp from) out
    → Notes stamp old.numbers.keys new.numbers.keys → AddsLetter old new stamp from sent
one_added old new stamp from sent out is put noted = subst (AddsLetter old new stamp from) (sym is) (record { letters = put; noted = noted })

-- what a message brings is what the history brings
pub message_brings : (l : Letters) (stamp : ℕ) (from to : Place) (c : Cause) → c ≡ cause.Deliver stamp from → (r : Result (Option Brought) NoMemory) → IfOk r (λ e. option_map event_of e ≡ message_by l stamp from to)
    → IfOk r (λ e. (ms : List Moment) → AreLetters l ms → option_map event_of e ≡ brings ms to (reason_of c))
message_brings l stamp from to c by (Ok e) is = λ ms are. is ∙ ap (delivered to) (are.finds stamp from) ∙ sym (ap (λ (z : Cause). brings ms to (reason_of z)) by)
message_brings l stamp from to c by (Err error) is = tt
