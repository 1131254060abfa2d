-- What is known and open, by the records.
use Rattle.std.proofs.Common.{◌≡◌, ◌∙◌, ℕ, sym, ap}
use Rattle.seata_types.specs.declared.ids.Leg.{Leg}
use Rattle.durable_records.specs.Fences.{fence}
use Rattle.durable_records.specs.RowsKept.{tables}
use Rattle.undo_log.specs.Entries.{entry_at}
use Rattle.tcc_fence.specs.Meanings.{fence_at}
use Rattle.tcc_fence.proofs.RecordLaws.{fences_stand}
use Rattle.local_txn.specs.Answers.{Tickets, new_ticket}
use Rattle.history_rules.specs.ResourceMemory.{Setup, Memory, action_in, action_of, local_in, local_of, next_ticket, opening_tables}
use Rattle.resource_memory.specs.Known.{Known}
use Rattle.resource_memory.specs.Lookups.{entry_now}
use Rattle.resource_memory.proofs.RecordLaws.{undo_now}
use Rattle.resource_rules.specs.Answers.{Shows}
use Rattle.resource_rules.specs.Setups.{actions_of}
use Rattle.resource_rules.specs.declared.setups.Setup.{Setup as TheSetup}

module _ {is : TheSetup} {k : Known} {ts : Tickets} (s : Setup) (m : Memory) (sh : Shows is k ts s m) where
  pub tables_seen : k.tables ≡ tables (opening_tables s) m.left.records
  tables_seen = ap (λ (z : Known). z.tables) sh.knows

  pub entry_seen : (leg : Leg) → entry_at k.undo_log leg ≡ entry_now m.left.records leg.xid.0 leg.branch.0
  entry_seen leg = ap (λ (z : Known). entry_at z.undo_log leg) sh.knows ∙ undo_now (opening_tables s) m.left.records sh.allowed leg

  pub fence_seen : (leg : Leg) → fence_at k.fences leg ≡ fence m.left.records leg.xid.0 leg.branch.0
  fence_seen leg = ap (λ (z : Known). fence_at z.fences leg) sh.knows ∙ fences_stand m.left.records leg

  pub opens_seen : ts.opens ≡ m.opens
  opens_seen = ap (λ (z : Tickets). z.opens) sh.tickets

  pub next_seen : new_ticket ts ≡ next_ticket m
  next_seen = ap new_ticket sh.tickets

  pub action_seen : (manager call : ℕ) → action_in manager call (actions_of is.actions) ≡ action_of s manager call
  action_seen manager call = ap (action_in manager call) (sym sh.setup.actions)

  pub local_seen : (number : ℕ) → local_in number is.locals ≡ local_of s number
  local_seen number = ap (local_in number) (sym sh.setup.locals)
