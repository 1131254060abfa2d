-- What the coordinator of these tests is given can be framed.
use Rattle.std.proofs.Common.{◌≡◌, ◌<◌, ◌≤◌, ◌^◌, ◌&&◌, ℕ, true, List, [], Result, Ok, Err, refl, sym, subst, arith}
use Rattle.std.specs.Prelude.{IfOk}
use Rattle.std.proofs.lemmas.Bool.Decides.{nat_tests}
use Rattle.std.proofs.lemmas.List.Elements.{All-nil}
use Rattle.seata_types.specs.declared.ids.BranchId.{BranchId}
use Rattle.seata_types.specs.declared.ids.Place.{Place}
use Rattle.seata_types.specs.declared.ids.Place.TheVariants as place
use Rattle.seata_types.specs.declared.ids.Ticket.{Ticket}
use Rattle.seata_types.specs.declared.ids.Xid.{Xid}
use Rattle.seata_types.specs.declared.limits.TheConstants.{TICKS}
use Rattle.seata_types.specs.declared.messages.Input.{Input}
use Rattle.seata_types.specs.declared.messages.Input.TheVariants as input
use Rattle.seata_types.specs.declared.messages.Message.TheVariants as message
use Rattle.seata_types.specs.declared.rows.RowKey.{RowKey}
use Rattle.seata_types.specs.declared.statuses.BranchKind.{BranchKind}
use Rattle.byte_fields.specs.Layout.{FitsKey, FitsKeys, FitsTicket}
use Rattle.byte_fields.specs.Parts.{FitsXid}
use Rattle.durable_records.specs.SessionOrder.{is_counted}
use Rattle.frame_codec.specs.Limits.{AreKeysWithin, IsKeyWithin}
use Rattle.coordinator_core.specs.Serving.{ServesInput}

none_fit : FitsKeys []
none_fit = record { count = omega arith; each = All-nil FitsKey; order = tt }

none_within : AreKeysWithin []
none_within = record { count = omega arith; each = All-nil IsKeyWithin }

counted : (manager : ℕ) → 1 ≤ manager → manager ≤ 2 → is_counted 2 manager ≡ true
counted manager low high = grind (arith, nat_tests, low, high)

pub begin_served : (from : Place) (manager timeout : ℕ) → (1 ≤ manager) × (manager ≤ 2) → (1 ≤ timeout) × (timeout ≤ TICKS) → ServesInput 2 1 (input.Message from (message.Begin manager timeout))
begin_served from manager timeout (low, high) (some, most) = record {
  framable = record { layout = (omega (arith, high), omega (arith, most)); limits = ((low, omega (arith, high)), (some, most)) };
  numbers = counted manager low high;
}

-- a registration without rows
pub register_served : (from : Place) (xid : Xid) (call : ℕ) (ticket : Ticket) (kind : BranchKind) (hold check : List RowKey) → FitsXid xid → (1 ≤ call) × (call ≤ 2) → FitsTicket ticket → hold ≡ [] → check ≡ []
    → ServesInput 2 1 (input.Message from (message.Register xid 1 call ticket kind hold check))
register_served from xid call ticket kind hold check fits (low, high) known held free =
    subst (λ h. ServesInput 2 1 (input.Message from (message.Register xid 1 call ticket kind h check))) (sym held)
    (subst (λ f. ServesInput 2 1 (input.Message from (message.Register xid 1 call ticket kind [] f))) (sym free) (record {
      framable = record {
        layout = (fits, omega arith, omega (arith, high), known, none_fit, none_fit);
        limits = ((omega arith, omega arith), (low, omega (arith, high)), none_within, none_within);
      };
      numbers = (refl, refl);
    }))

-- what was asked for is served, unless memory was wanting
pub served_as : {E : Type 0} (result : Result Input E) (given : Input) → IfOk result (λ g. g ≡ given) → ServesInput 2 1 given → IfOk result (ServesInput 2 1)
served_as (Ok g) given same served = subst (ServesInput 2 1) (sym same) served
served_as (Err e) given same served = tt
