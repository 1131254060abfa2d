-- What the status says of a call that shows what disks hold.
use Rattle.std.proofs.Common.{◌≡◌, ◌≢◌, ◌∙◌, ◌||◌, ℕ, nat_eq, Bool, true, false, List, ◌∷◌, Result, Ok, Err, IfErr, IfOk, refl, sym, ap, subst, arith, string_bytes}
use Rattle.std.proofs.lemmas.Bool.Decides.{nat_tests}
use Rattle.disk_model.specs.Disk.{DiskState}
use Rattle.disk_model.specs.Shelf.{ShelfState}
use Rattle.seata_types.specs.declared.copies.NoMemory.{NoMemory}
use Rattle.store_shown.specs.declared.found.Shown.{Shown}
use Rattle.store_shown.specs.declared.found.Shown.TheVariants as shown
use Rattle.store_shown.specs.Showing.{IsFound, IsOfReading, Shows}
use Rattle.node_seat.specs.declared.faults.RunFault.{RunFault}
use Rattle.node_seat.specs.declared.faults.RunFault.TheVariants as run_fault
use Rattle.lab_calls.specs.declared.answers.Answer.{Answer}
use Rattle.lab_calls.specs.Answers.{is_among, status_of}
use Rattle.lab_calls.specs.Showing.{AnswersShown, IsShownText, ShowsOnce, TellsFound, shown_statuses}
use Rattle.lab_calls.specs.Steps.{WritesAnswer}
use Rattle.lab_calls.specs.Streams.{SinkState}
use Rattle.lab_calls.proofs.Concluded.{false_true}

module _ {D S : Type 0} (state : D → DiskState) (seen : S → ShelfState D) (had has : S) where
  pub answered : (found : Shown) → Shows state seen had has (Ok found) → (r : Result Answer ℕ) → IfOk r (λ a. IsShownText found (string_bytes a.text) a.status) → IfErr r (λ n. n ≡ 6) → AnswersShown state seen had has r
  answered found s (Ok a) text memory = record {
    text = record { found = found; is_found = s.found; is_text = text };
    no_memory = tt;
    bytes = s.bytes;
    net = s.net;
    touches = s.touches;
    returned = s.returned;
    same_tells = s.tells;
  }
  answered found s (Err n) text memory = record { text = tt; no_memory = memory; bytes = s.bytes; net = s.net; touches = s.touches; returned = s.returned; same_tells = s.tells }

  pub unanswered : (r : Result Shown NoMemory) → Shows state seen had has r → AnswersShown state seen had has (Err 6)
  unanswered r s = record { text = tt; no_memory = refl; bytes = s.bytes; net = s.net; touches = s.touches; returned = s.returned; same_tells = s.tells }

-- ---- the statuses of a text

reading_known : (missed : RunFault) → IsOfReading missed → is_among shown_statuses (status_of missed) ≡ true
reading_known (run_fault.Store at) is = refl
reading_known (run_fault.Damaged at second offset) is = refl
reading_known (run_fault.Full at full) is = absurd is
reading_known run_fault.Other is = absurd is
reading_known run_fault.NoMemory is = absurd is

not_five : (n : ℕ) → is_among shown_statuses n ≡ true → n ≢ 5
not_five n known five = false_true (rw five at known)

not_six : (n : ℕ) → is_among shown_statuses n ≡ true → n ≢ 6
not_six n known six = false_true (rw six at known)

more_known : (n : ℕ) → is_among shown_statuses n ≡ true → is_among (5 ∷ 6 ∷ shown_statuses) n ≡ true
more_known n known = by (nat_eq n 5) (nat_eq n 6) known
  where
    by : (five six : Bool) {rest : Bool} → rest ≡ true → (five || (six || rest)) ≡ true
    by true six e = refl
    by false true e = refl
    by false false e = e

module _ {D S : Type 0} (state : D → DiskState) (seen : S → ShelfState D) (had has : S) (result : ℕ) (old new : SinkState) where
  known_of : (found : Shown) → IsFound state seen had has found → (text : List ℕ) (n : ℕ) → IsShownText found text n → is_among shown_statuses n ≡ true
  known_of (shown.State said) is text n t = rw t.0 refl
  known_of shown.Empty is text n t = rw t.0 refl
  known_of (shown.NoScenario e) is text n t = rw t.0 refl
  known_of (shown.Unread missed names) is text n t = ap (is_among shown_statuses) t.0 ∙ reading_known missed is.0

  -- memory was refused
  untold : (status : ℕ) → AnswersShown state seen had has (Err status) → WritesAnswer (Err status) result old new → ShowsOnce state seen had has result old new
  untold status m wrote =
      let six : result ≡ 6 = wrote.0 ∙ m.no_memory in
      record {
        statuses = rw six refl;
        told = λ known. false_true (rw six at known);
        cut_short = λ five. absurd (omega (arith, five, six));
        sink_failed = λ five. absurd (omega (arith, five, six));
        no_memory = λ _. wrote.1;
        bytes = m.bytes;
        net = m.net;
        touches = m.touches;
        returned = m.returned;
        same_tells = m.same_tells;
      }

  -- a text was told
  module _ (a : Answer) (m : AnswersShown state seen had has (Ok a)) (wrote : WritesAnswer (Ok a) result old new) where
    known : is_among shown_statuses a.status ≡ true
    known = known_of m.text.found m.text.is_found (string_bytes a.text) a.status m.text.is_text

    among : (b : Bool) → nat_eq result 5 ≡ b → is_among (5 ∷ 6 ∷ shown_statuses) result ≡ true
    among true e = let five : result ≡ 5 = grind (arith, nat_tests) in rw five refl
    among false e =
        let other : result ≢ 5 = grind (arith, nat_tests) in
        subst (λ k. is_among (5 ∷ 6 ∷ shown_statuses) k ≡ true) (sym (wrote.whole other).0) (more_known a.status known)

    told : ShowsOnce state seen had has result old new
    told = record {
      statuses = among (nat_eq result 5) refl;
      told = λ one.
          let w = wrote.whole (not_five result one) in
          record { text = string_bytes a.text; told = subst (λ n. TellsFound state seen had has (string_bytes a.text) n) (sym w.0) m.text; printed = w.1 };
      cut_short = λ five. record { text = string_bytes a.text; status = a.status; told = m.text; printed = (wrote.front five (not_five a.status known)).1 };
      sink_failed = λ five. (wrote.front five (not_five a.status known)).0;
      no_memory = λ six. absurd (not_six a.status known (sym (wrote.whole (λ five. absurd (omega (arith, six, five)))).0 ∙ six));
      bytes = m.bytes;
      net = m.net;
      touches = m.touches;
      returned = m.returned;
      same_tells = m.same_tells;
    }

  pub shown_once : (answer : Result Answer ℕ) → AnswersShown state seen had has answer → WritesAnswer answer result old new → ShowsOnce state seen had has result old new
  shown_once (Err status) m wrote = untold status m wrote
  shown_once (Ok a) m wrote = told a m wrote
