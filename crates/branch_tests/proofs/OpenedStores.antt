-- What a store that was opened knows has places in its records.
use Rattle.std.proofs.Common.{◌≡◌, ◌∙◌, ◌<◌, ◌^◌, ℕ, List, [], ◌∷◌, refl, sym, subst, arith}
use Rattle.std.specs.List.{AllByRecursion}
use Rattle.std.proofs.lemmas.List.Elements.{recursion_from_All}
use Rattle.seata_types.specs.declared.rows.Row.{Row}
use Rattle.seata_types.specs.declared.rows.RowKey.{RowKey}
use Rattle.byte_fields.specs.Layout.{FitsValue}
use Rattle.byte_fields.specs.Parts.{FitsNamedRow}
use Rattle.byte_fields.proofs.Texts.{is_plain_printable}
use Rattle.local_tables.specs.declared.schemas.Schema.{Schema}
use Rattle.resource_log.specs.SnapshotOf.{named_row}
use Rattle.resource_memory.specs.Known.{Known}
use Rattle.record_places.specs.Within.{AreTablesWithin, HasValues, IsTableWithin}
use Rattle.resource_store.specs.Meaning.{IsOf, Opens, setting}
use Rattle.branch_tests.specs.Accounts.{account_table, accounts, account_rows}
use Rattle.branch_tests.proofs.AccountRows.{opens, rows_fit}

table_within : IsTableWithin account_table
table_within = record {
  name = record { short = omega arith; plain = is_plain_printable _ refl };
  short = omega arith;
  columns = omega arith;
  keyed = omega arith;
  parts = omega arith;
}

values_within : (es : List (RowKey × Row)) → AllByRecursion (λ e. FitsNamedRow (named_row e)) es → AllByRecursion HasValues es
values_within [] all = tt
values_within (e ∷ es) all = (recursion_from_All FitsValue e.1.0 all.0.1.each, values_within es all.1)

pub tables_within : (schema : Schema) (rows : List (List ℕ × Row)) (k : Known) → schema ≡ accounts → rows ≡ account_rows
    → (Opens (setting 1 schema rows) → IsOf (setting 1 schema rows) k) → AreTablesWithin k.tables
tables_within schema rows k same made sound =
    let is = sound (record { opens = opens schema rows same made; fits = rows_fit rows made }) in
    record {
      resource = subst (λ n. n < 2 ^ 16) (sym is.resource) (omega arith);
      tables = subst (λ (s : Schema). AllByRecursion IsTableWithin s.tables) (sym (is.schema ∙ same)) (table_within, tt);
      rows = is.kept.rows;
      values = values_within k.tables.rows is.fits.rows;
    }
