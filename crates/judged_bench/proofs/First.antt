-- A resource at its first opening, over disks without records.
use Rattle.std.proofs.Common.{◌≡◌, ℕ, false, List, [], None, refl, sym, true≢false}
use Rattle.seata_types.specs.declared.rows.Row.{Row}
use Rattle.local_tables.specs.Rows.{opened}
use Rattle.local_tables.specs.declared.schemas.Schema.{Schema}
use Rattle.local_txn.specs.Answers.{Tickets, no_tickets}
use Rattle.history_rules.specs.ResourceMemory.{memory}
use Rattle.resource_memory.specs.Known.{Known, known_of}
use Rattle.resource_rules.specs.Answers.{AreCounted}
use Rattle.resource_rules.specs.declared.setups.Setup.{Setup as TheSetup}
use Rattle.judged_bench.specs.Opening.{first_boot, setup_with}
use Rattle.judged_bench.specs.Standing.{Stands}

pub first_stands : (is : TheSetup) (schema : Schema) (opening : List (List ℕ × Row)) (k : Known) (ts : Tickets) → AreCounted is
    → k ≡ known_of (opened is.number schema opening) first_boot → ts ≡ no_tickets 1
    → Stands (setup_with is schema opening) (memory (setup_with is schema opening) [] []) false (record { setup = is; memory = k; txns = ts; flight = None })
first_stands is schema opening k ts counted knows tickets = record {
  setup = record { number = refl; tries = refl; actions = refl; locals = refl };
  counted = counted;
  allowed = (tt, refl);
  knows = knows;
  flight = refl;
  comes = tt;
  tickets = λ e. tickets;
  closed = λ e. absurd (true≢false (sym e));
  idle = λ e. refl;
  opens = tt;
}
