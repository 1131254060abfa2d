-- What a bench that stands for own entries can take.
use Rattle.std.proofs.Common.{◌≡◌, ◌+◌, ◌<◌, ◌≤◌, ◌-◌, ◌^◌, ℕ, true, false, List, [], length, Option, Some, None, sym, ap, subst, ◌∙◌, arith}
use Rattle.seata_types.specs.declared.acts.Act.{Act}
use Rattle.seata_types.specs.declared.messages.Step.{Step}
use Rattle.seata_types.specs.declared.limits.TheConstants.{FIELD_ITEMS}
use Rattle.seata_types.specs.declared.statements.Work.TheVariants as work
use Rattle.local_tables.specs.Rows.{Database}
use Rattle.local_txn.specs.Answers.{Tickets}
use Rattle.local_txn.specs.OpenTickets.{OfCall, OfLocal, Open, Owner, open_at}
use Rattle.history_rules.specs.Own.{Event, Own}
use Rattle.history_rules.specs.Devices.{is_down}
use Rattle.history_rules.specs.Nodes.{Role}
use Rattle.history_rules.specs.ResourceMemory.{Memory, Setup, memory, opening_tables, tries_of}
use Rattle.resource_memory.specs.Changes.{fit}
use Rattle.resource_memory.specs.Known.{Known}
use Rattle.resource_memory.proofs.Fits.{fit_alike}
use Rattle.resource_memory.proofs.RecordLaws.{tables_of}
use Rattle.resource_rules.specs.Answers.{AreOpenOn, IsOpenFor}
use Rattle.judged_devices.specs.declared.limits.TheConstants.{OWN_ENTRIES}
use Rattle.judged_devices.specs.Noting.{IsDevice, noted}
use Rattle.judged_devices.specs.Taking.{Takes, one_more}
use Rattle.judged_devices.proofs.Taking.{device_after}
use Rattle.judged_bench.specs.Following.{CanTake, Follows}
use Rattle.judged_bench.specs.Leaving.{CanServe}
use Rattle.judged_bench.specs.Standing.{IsFit, Stands}
use Rattle.judged_bench.specs.declared.benches.Bench.{Bench}
use Rattle.judged_bench.proofs.Counts.{records_few, tickets_few}
use Rattle.judged_bench.proofs.Opens.{found_open}

-- a ticket that fits the tables is open on them
open_for : (db : Database) (o : Open) (w : Owner) → fit db o.images o.reads ≡ true → length (tries_of w) ≤ FIELD_ITEMS → IsOpenFor db o w
open_for db o (OfCall m x c (work.At stmts)) rows tries = rows
open_for db o (OfCall m x c (work.Tcc action)) rows tries = tries
open_for db o (OfLocal k) rows tries = rows

module _ (s : Setup) (os : List Own) (b : Bench) (f : Follows s os b) (room : b.device.taken < OWN_ENTRIES) where
  abbrev m : Memory
  m = memory s [] os

  entries : length os < OWN_ENTRIES
  entries = let same = f.device.taken in omega (arith, same, room)

  acts : b.resource.memory.acts + 2 < 2 ^ 32
  acts =
      let few = records_few s [] os in
      let known : b.resource.memory.acts ≡ length m.left.records = ap (λ (k : Known). k.acts) f.stands.knows in
      let less = entries in
      omega (arith, few, known, less)

  was : b.device.down ≡ false → is_down os ≡ false
  was up = sym f.device.down ∙ up

  opened : b.device.down ≡ false → b.resource.txns.opened < 2 ^ 32 - 1
  opened up =
      let few = tickets_few s [] os in
      let same : b.resource.txns.opened ≡ m.opened = ap (λ (t : Tickets). t.opened) (f.stands.tickets (was up)) in
      let less = entries in
      omega (arith, few, same, less)

  open_on : b.device.down ≡ false → AreOpenOn b.resource.memory b.resource.txns
  open_on up t o found =
      let fits = found_open (IsFit (opening_tables s)) m.opens t o f.stands.opens
      (ap (λ (ts : Tickets). open_at ts.opens t) (sym (f.stands.tickets (was up))) ∙ found) in
      let tables = tables_of (opening_tables s) m.left.records in
      let resource : b.resource.memory.tables.resource ≡ (opening_tables s).resource = ap (λ (k : Known). k.tables.resource) f.stands.knows ∙ tables.resource in
      let schema : b.resource.memory.tables.schema ≡ (opening_tables s).schema = ap (λ (k : Known). k.tables.schema) f.stands.knows ∙ tables.schema in
      open_for b.resource.memory.tables o o.owner (fit_alike b.resource.memory.tables (opening_tables s) o.images o.reads resource schema ∙ fits.rows) fits.tries

  pub serves : CanServe b.device.down b.resource
  serves = record {
    answers = λ up. record {
      counted = f.stands.counted;
      acts = let more = acts in omega (arith, more);
      opened = opened up;
      open_on = open_on up;
    };
    restarts = record { acts = acts; comes = f.stands.comes };
  }

pub can_serve : (b : Bench) → CanTake b → b.device.taken < OWN_ENTRIES → CanServe b.device.down b.resource
can_serve b can room = serves can.0 can.1 b can.2 room

-- a bench follows the entries with one more, where its resource stands for them
pub follows_on : (role : Role) (s : Setup) (os : List Own) (event : Event) (now : ℕ) (done : Act) (old new : Bench) → IsDevice true os old.device
    → new.device ≡ noted true event done old.device → (result : Option Step)
    → Takes role os event now done (λ after. Stands s (memory s [] after) (is_down after) new.resource) result
    → Takes role os event now done (λ after. Follows s after new) result
follows_on role s os event now done old new is noted (Some step) t =
    (t.0, record { device = subst (IsDevice true (one_more os event now step)) (sym noted) (device_after true os old.device event now step done is t.0.same_act); stands = t.1 })
follows_on role s os event now done old new is noted None t = t
