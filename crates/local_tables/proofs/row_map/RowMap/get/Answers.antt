use Rattle.std.proofs.Common.{◌≡◌, ap, sym, ◌∙◌, subst, rules}
use Rattle.local_tables.specs.Lookups.{IsRising}
use Rattle.local_tables.specs.Places.{Entries}
use Rattle.local_tables.proofs.MapLaws.{at}
use Rattle.local_tables.proofs.PlaceLaws.{there_at, none_at}
use Rattle.local_tables.proofs.row_map.RowMap.get.Goals as goal

pub returns-in-Ok : goal.returns-in-Ok
returns-in-Ok g c =
    let inside : c.as_slice-entries.result.now ≡ c.self.inside.entries.items = search rules in
    there_at c.as_slice-entries.result.now c.args.key.now c.in-Ok.at c.index-entries-at.result (subst IsRising (sym inside) c.self.invariant) c.in-Ok.ensures.found
    ∙ ap (λ (es : Entries g.row.V.Denot). at es c.args.key.now) (inside ∙ c.self.view_is)

pub returns-in-Err : goal.returns-in-Err
returns-in-Err g c =
    let inside : c.as_slice-entries.result.now ≡ c.self.inside.entries.items = search rules in
    none_at c.as_slice-entries.result.now c.args.key.now c.in-Err.field-0 (subst IsRising (sym inside) c.self.invariant) c.in-Err.ensures.missing
    ∙ ap (λ (es : Entries g.row.V.Denot). at es c.args.key.now) (inside ∙ c.self.view_is)
