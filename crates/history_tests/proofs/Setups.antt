-- The setup of the resource of these tests, which has nothing, is within the limits.
use Rattle.std.proofs.Common.{◌≡◌, ◌<◌, ◌≤◌, ◌^◌, ℕ, List, [], All, IsSome, sym, subst, arith}
use Rattle.std.specs.List.{AllByRecursion, IsDistinct}
use Rattle.std.proofs.lemmas.List.Elements.{All-nil}
use Rattle.seata_types.specs.declared.rows.Row.{Row}
use Rattle.byte_fields.specs.Parts.{FitsNamedRow}
use Rattle.local_tables.specs.Rows.{IsOpening, keyed_row}
use Rattle.local_tables.specs.declared.schemas.Schema.{Schema}
use Rattle.record_places.specs.Within.{IsTableWithin}
use Rattle.resource_core.specs.NodeOpening.{IsSetupWithin}
use Rattle.resource_core.specs.Ready.{HasActionWithin, HasStmtsWithin}
use Rattle.resource_core.specs.declared.setup.Setup.{Setup}

no_rows : (schema : Schema) (opening : List (List ℕ × Row)) → opening ≡ [] → IsOpening 1 schema opening
unfolding IsDistinct
no_rows schema opening e =
    let none : IsOpening 1 schema [] = record { each = All-nil (λ o. IsSome (keyed_row 1 schema o)); different = tt } in
    subst (IsOpening 1 schema) (sym e) none

pub setup_within : (s : Setup) → s.schema.tables ≡ [] → s.opening ≡ [] → s.actions ≡ [] → s.locals ≡ [] → IsSetupWithin 1 s
setup_within s tables opening actions locals = record {
  counted = (omega arith, omega arith);
  opens = record { opens = no_rows s.schema s.opening opening; fits = subst (All FitsNamedRow) (sym opening) (All-nil FitsNamedRow) };
  tables = subst (AllByRecursion IsTableWithin) (sym tables) tt;
  actions = subst (AllByRecursion HasActionWithin) (sym actions) tt;
  locals = subst (AllByRecursion HasStmtsWithin) (sym locals) tt;
}
