-- A branch that is registered has a record of the scenario, which is short enough for the disks.
use Rattle.std.proofs.Common.{◌≡◌, ◌*◌, ◌≤◌, ℕ, true, List, length, arith}
use Rattle.std.specs.Prelude.{nat_le}
use Rattle.std.specs.List.{list_all}
use Rattle.std.proofs.lemmas.Bool.Decides.{nat_tests}
use Rattle.std.proofs.lemmas.List.{length-append}
use Rattle.seata_types.specs.declared.ids.BranchId.{BranchId}
use Rattle.seata_types.specs.declared.ids.Ticket.{Ticket}
use Rattle.seata_types.specs.declared.ids.Xid.{Xid}
use Rattle.seata_types.specs.declared.limits.TheConstants.{BODY_BYTES, CALLS, CALL_ROWS}
use Rattle.seata_types.specs.declared.messages.Message.{Message}
use Rattle.seata_types.specs.declared.messages.Message.TheVariants as message
use Rattle.seata_types.specs.declared.rows.RowKey.{RowKey}
use Rattle.seata_types.specs.declared.statuses.BranchKind.{BranchKind}
use Rattle.byte_fields.specs.Layout.{FitsKeys, keys_bytes, ticket_bytes}
use Rattle.durable_records.specs.declared.coordinators.SessionRecord.TheVariants as log
use Rattle.durable_records.specs.SessionOrder.{is_counted, has_resource, is_within}
use Rattle.frame_codec.specs.Limits.{IsFramable}
use Rattle.frame_codec.specs.Messages as frames
use Rattle.frame_codec.proofs.Lengths.{framable_fits}
use Rattle.session_log.specs.Records as records
use Rattle.session_log.specs.Records.{record_bytes}
use Rattle.session_memory.proofs.Small.{and_both}
use Rattle.coordinator_core.specs.Serving.{ServesMessage}

module _ (xid : Xid) (resource call : ℕ) (ticket : Ticket) (kind : BranchKind) (hold check : List RowKey) where
  abbrev asks : Message
  asks = message.Register xid resource call ticket kind hold check

  -- the same message with its rows twice
  twice : IsFramable asks → IsFramable (message.Register xid resource call ticket kind hold hold)
  twice f = record {
    layout = (f.layout.0, f.layout.1, f.layout.2, f.layout.3, f.layout.4, f.layout.4);
    limits = (f.limits.0, f.limits.1, f.limits.2, f.limits.2);
  }

  rows_short : IsFramable asks → 2 * length (keys_bytes hold) ≤ BODY_BYTES
  unfolding frames.fields_bytes ticket_bytes
  rows_short f =
      let body = (framable_fits (message.Register xid resource call ticket kind hold hold) 0 (twice f) (omega arith)).body in
      omega (arith, body, length-append (keys_bytes hold) (keys_bytes hold))

  -- whatever transaction its record names
  pub record_short : (of : Xid) (branch : BranchId) → IsFramable asks → length (record_bytes (log.Granted of branch resource call ticket kind hold)) ≤ BODY_BYTES
  unfolding records.fields_bytes ticket_bytes
  record_short of branch f = let rows = rows_short f in omega (arith, rows)

  pub keys_fit : IsFramable asks → FitsKeys hold
  keys_fit f = f.layout.4

  pub record_within : (managers resources : ℕ) (of : Xid) (branch : BranchId) → ServesMessage managers resources asks → is_within managers resources (log.Granted of branch resource call ticket kind hold) ≡ true
  record_within managers resources of branch s =
      let call_counts : is_counted CALLS call ≡ true = counts CALLS call s.framable.limits.1 in
      let rows_few : nat_le (length hold) CALL_ROWS ≡ true = few (length hold) s.framable.limits.2.count in
      and_both (is_counted resources resource) _ s.numbers.0 (and_both (is_counted CALLS call) _ call_counts (and_both (list_all (has_resource resources) hold) _ s.numbers.1 rows_few))
    where
      counts : (most n : ℕ) → (1 ≤ n) × (n ≤ most) → is_counted most n ≡ true
      counts most n (low, high) = grind (arith, nat_tests)

      few : (n : ℕ) → n ≤ CALL_ROWS → nat_le n CALL_ROWS ≡ true
      few n le = grind (arith, nat_tests)
