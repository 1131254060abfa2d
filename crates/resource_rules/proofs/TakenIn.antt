-- What is known and open once an answer is taken in.
use Rattle.std.proofs.Common.{◌≡◌, ◌∙◌, ◌∷◌, Option, Some, None, sym, ap}
use Rattle.std.specs.Prelude.{IfSome}
use Rattle.seata_types.specs.declared.messages.Input.{Input}
use Rattle.durable_records.specs.declared.resources.ResourceRecord.{ResourceRecord}
use Rattle.durable_records.specs.UndoRecords.{boots}
use Rattle.local_txn.specs.Answers.{Tickets}
use Rattle.history_rules.specs.ResourceMemory.{Setup, Memory, opening_tables}
use Rattle.resource_memory.specs.Changes as changes
use Rattle.resource_memory.specs.Changes.{may_come}
use Rattle.resource_memory.specs.Known.{Known, known_of}
use Rattle.resource_memory.proofs.RecordLaws.{allows, applies}
use Rattle.resource_rules.specs.Answers.{IsTakenBy, Shows, left_with, opened_by, opens_by}
use Rattle.resource_rules.specs.Laws.{TakesAnswersIn, known_after, tickets_after}
use Rattle.resource_rules.specs.declared.answers.Change.{Change}
use Rattle.resource_rules.specs.declared.setups.Setup.{Setup as TheSetup}

module _ (is : TheSetup) (k : Known) (ts : Tickets) (given : Input) (s : Setup) (m : Memory) (sh : Shows is k ts s m) where
  taken_in : (asked : Option ResourceRecord) (change : Change) → IfSome asked (IsTakenBy is k ts given)
      → Shows is (known_after asked k) (tickets_after change ts) s (record { left = left_with asked m.left; opens = opens_by change m.opens; opened = opened_by change m.opened })
  taken_in None change taken = record { setup = sh.setup; allowed = sh.allowed; knows = sh.knows; tickets = ap (tickets_after change) sh.tickets }
  taken_in (Some r) change taken =
      let ok = (allows (opening_tables s) m.left.records sh.allowed r).0 (ap (λ (z : Known). may_come z r) (sym sh.knows) ∙ taken.allowed) in
      let knows : changes.after r k ≡ known_of (opening_tables s) (r ∷ m.left.records) = ap (changes.after r) sh.knows ∙ sym (applies (opening_tables s) m.left.records sh.allowed r ok) in
      let boot : ts.boot ≡ boots (r ∷ m.left.records) =
      ap (λ (z : Tickets). z.boot) sh.tickets ∙ sym (ap (λ (z : Known). z.boots) sh.knows) ∙ sym taken.runs ∙ ap (λ (z : Known). z.boots) knows in
      record {
        setup = sh.setup;
        allowed = (sh.allowed, ok);
        knows = knows;
        tickets = λ i. record { boot = boot i; opened = opened_by change (sh.tickets i).opened; opens = opens_by change (sh.tickets i).opens };
      }

pub takes_in : TakesAnswersIn
takes_in is k ts given a are s m sh = taken_in is k ts given s m sh a.asked a.change are.taken
