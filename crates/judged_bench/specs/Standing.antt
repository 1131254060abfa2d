-- What a resource's own entries left.
use Rattle.std.specs.Prelude.{◌≡◌, ◌≤◌, Bool, true, false, [], None, IfSome, length}
use Rattle.std.specs.List.{AllByRecursion}
use Rattle.seata_types.specs.declared.limits.TheConstants.{FIELD_ITEMS}
use Rattle.local_tables.specs.Rows.{Database}
use Rattle.durable_records.specs.ResourceOrder.{Allowed}
use Rattle.local_txn.specs.OpenTickets.{Open}
use Rattle.history_rules.specs.ResourceMemory.{Setup, Memory, opening_tables, tries_of}
use Rattle.resource_memory.specs.Changes.{fit, may_come}
use Rattle.resource_memory.specs.Known.{known_of}
use Rattle.resource_rules.specs.Answers.{AreCounted, IsSetup, tickets_in}
use Rattle.judged_bench.specs.declared.resources.Resource.{Resource}

-- an open ticket has rows that fit the tables, and its Try no more statements than are counted
pub record IsFit (opening : Database) (o : Open) : Type 0 where
  pub rows : fit opening o.images o.reads ≡ true
  pub tries : length (tries_of o.owner) ≤ FIELD_ITEMS

-- a resource is what these entries left: its records, with the one in flight, which may come, and its open tickets while it is up
pub record Stands (s : Setup) (m : Memory) (down : Bool) (r : Resource) : Type 0 where
  pub setup : IsSetup r.setup s
  pub counted : AreCounted r.setup
  pub allowed : Allowed (opening_tables s) m.left.records
  pub knows : r.memory ≡ known_of (opening_tables s) m.left.records
  pub flight : r.flight ≡ m.left.flight
  pub comes : IfSome r.flight (λ item. may_come r.memory item ≡ true)
  pub tickets : down ≡ false → r.txns ≡ tickets_in m
  pub closed : down ≡ true → m.opens ≡ []
  pub idle : down ≡ false → r.flight ≡ None
  pub opens : AllByRecursion (IsFit (opening_tables s)) m.opens
