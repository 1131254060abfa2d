-- Lists of changes: what holds of each goes on where one is added and where some are struck out.
use Rattle.std.proofs.Common.{◌≡◌, ◌⊎◌, inl, inr, Bool, List, filter, Option, Some, sym, subst}
use Rattle.seata_types.specs.declared.rows.Image.{Image}
use Rattle.durable_records.specs.RowsKept.{Change, changed}
use Rattle.history_law.specs.Points.{In}
use Rattle.history_law.proofs.Tests.{of_filter}
use Rattle.history_law.proofs.UndoRecords.{changed_in}

module _ (P : Change → Type 0) where
  pub all_added : (by : Image → Change) (o : Option Image) (cs : List Change) → ((i : Image) → o ≡ Some i → P (by i)) → ((c : Change) → In c cs → P c) → (c : Change) → In c (changed by o cs) → P c
  all_added by o cs new all d j = each d (changed_in by o cs d j)
    where
      each : (d : Change) → ((i : Image) × (o ≡ Some i) × (d ≡ by i)) ⊎ In d cs → P d
      each d (inl (i, e, is)) = subst P (sym is) (new i e)
      each d (inr k) = all d k

  pub all_filter : (test : Change → Bool) (cs : List Change) → ((c : Change) → In c cs → P c) → (c : Change) → In c (filter test cs) → P c
  all_filter test cs all d j = all d (of_filter test cs d j).0
