-- Answers that are the rules': of those that ask for no record and change no ticket, and of those that ask for a record.
use Rattle.std.proofs.Common.{◌≡◌, ◌<◌, ◌^◌, ℕ, length, Option, Some, None, refl, sym, subst, arith}
use Rattle.std.specs.Prelude.{IfSome}
use Rattle.seata_types.specs.declared.acts.Act.TheVariants as act
use Rattle.seata_types.specs.declared.acts.Durable.{Durable}
use Rattle.seata_types.specs.declared.ids.Leg.{Leg}
use Rattle.seata_types.specs.declared.messages.Input.{Input}
use Rattle.seata_types.specs.declared.messages.Outgoing.{Outgoing}
use Rattle.seata_types.specs.declared.messages.Step.{Step}
use Rattle.frame_codec.specs.Limits.{IsFramable}
use Rattle.durable_records.specs.declared.resources.ResourceRecord.{ResourceRecord}
use Rattle.durable_records.specs.declared.resources.ResourceRecord.TheVariants as log
use Rattle.durable_records.specs.RowsKept.{tables}
use Rattle.local_txn.specs.Answers.{Tickets}
use Rattle.history_rules.specs.Own.{Given, added}
use Rattle.history_rules.specs.ResourceMemory.{Setup, Memory, memory_after, opening_tables, opens_after, resource_asked, resource_record}
use Rattle.history_rules.specs.ResourceRules.{resource_answer}
use Rattle.resource_log.specs.Records.{fields_bytes, record_bytes}
use Rattle.resource_memory.specs.Known.{Known}
use Rattle.record_places.specs.Within.{HasPlace}
use Rattle.resource_rules.specs.Answers.{Answers, IsTakenBy, OpensNext, Shows, StaysWithin, after, own_step, opens_by, opened_by}
use Rattle.resource_rules.specs.Ready.{IsReady, ServesWithin}
use Rattle.resource_rules.specs.declared.answers.Answer.{Answer}
use Rattle.resource_rules.specs.declared.answers.Change.{Change}
use Rattle.resource_rules.specs.declared.setups.Setup.{Setup as TheSetup}
use Rattle.resource_rules.proofs.TicketLists.{OpensWithin, tickets_by}

-- what a step sends can be framed, and a ticket that its change opens has places
abbrev pub Framed : TheSetup → Known → Tickets → Input → Change → Step → Type 0
Framed is k ts given change step = IsReady is k ts → ServesWithin given → IfSome step.sent (λ out. IsFramable out.message) × OpensWithin k.tables change

-- the rule gives this step
abbrev pub IsRule : TheSetup → Known → Tickets → Input → Step → Type 0
IsRule is k ts given step = (s : Setup) (m : Memory) → Shows is k ts s m → step ≡ resource_answer s m given

stays_within : (is : TheSetup) (k : Known) (ts : Tickets) (given : Input) (asked : Option ResourceRecord) (change : Change) (step : Step) → Framed is k ts given change step
    → StaysWithin is k ts given (record { step = step; asked = asked; change = change })
stays_within is k ts given asked change step framed = λ ready served. let f = framed ready served in record { frames = f.0; tickets = tickets_by k.tables change ts.opens ready.tickets f.1 }

module _ {is : TheSetup} {k : Known} {ts : Tickets} {given : Input} where
  -- no record is asked for, and these tickets change
  pub rests : (change : Change) → OpensNext ts None change → (step : Step) → IsRule is k ts given step → ((s : Setup) (m : Memory) → None ≡ resource_asked s m (own_step given 0 step))
      → ((s : Setup) (m : Memory) (now : ℕ) → Shows is k ts s m → memory_after s (own_step given now step) m ≡ after (record { step = step; asked = None; change = change }) m)
      → Framed is k ts given change step → (a : Answer) → a ≡ record { step = step; asked = None; change = change } → Answers is k ts given a
  rests change next step rule asked left framed a same = subst (Answers is k ts given) (sym same) (record {
    rules = λ s m sh. record { step = rule s m sh; asked = asked s m; left = λ now. left s m now sh };
    taken = tt;
    at = tt;
    opens = next;
    within = stays_within is k ts given None change step framed;
  })

  -- this record is asked for, and these tickets change
  pub asks : (change : Change) (r : ResourceRecord) → OpensNext ts (Some r) change → (d : Durable) (sent : Option Outgoing) → IsRule is k ts given (record { act = act.Durable d; sent = sent })
      → ((s : Setup) (m : Memory) → Shows is k ts s m → Some r ≡ resource_record s m.left.records m.opens (Given given) d)
      → ((s : Setup) (m : Memory) → opens_after s (tables (opening_tables s) m.left.records) (Given given) (act.Durable d) m.opens ≡ opens_by change m.opens)
      → ((n : ℕ) → n ≡ opened_by change n) → IsTakenBy is k ts given r → Framed is k ts given change (record { act = act.Durable d; sent = sent })
      → (a : Answer) → a ≡ record { step = record { act = act.Durable d; sent = sent }; asked = Some r; change = change } → Answers is k ts given a
  asks change r next d sent rule recorded opens opened taken framed a same = subst (Answers is k ts given) (sym same) (record {
    rules = λ s m sh. record {
      step = rule s m sh;
      asked = recorded s m sh;
      left = λ now i. record { left = record { records = added (sym (recorded s m sh) i) m.left.records; flight = None }; opens = opens s m i; opened = opened m.opened i };
    };
    taken = taken;
    at = (d, refl);
    opens = next;
    within = stays_within is k ts given (Some r) change (record { act = act.Durable d; sent = sent }) framed;
  })

-- ---- places of records without images

module _ (leg : Leg) (x : leg.xid.0 < 2 ^ 64) (b : leg.branch.0 < 2 ^ 64) where
  pub undone_placed : HasPlace (log.Undone leg.xid leg.branch)
  unfolding fields_bytes
  undone_placed = let n : length (record_bytes (log.Undone leg.xid leg.branch)) ≡ 17 = refl in record { fits = (x, b); small = omega (arith, n) }

  pub cleared_placed : HasPlace (log.Cleared leg.xid leg.branch)
  unfolding fields_bytes
  cleared_placed = let n : length (record_bytes (log.Cleared leg.xid leg.branch)) ≡ 17 = refl in record { fits = (x, b); small = omega (arith, n) }

  pub marked_placed : HasPlace (log.Marked leg.xid leg.branch)
  unfolding fields_bytes
  marked_placed = let n : length (record_bytes (log.Marked leg.xid leg.branch)) ≡ 17 = refl in record { fits = (x, b); small = omega (arith, n) }

  pub suspended_placed : HasPlace (log.Suspended leg.xid leg.branch)
  unfolding fields_bytes
  suspended_placed = let n : length (record_bytes (log.Suspended leg.xid leg.branch)) ≡ 17 = refl in record { fits = (x, b); small = omega (arith, n) }
