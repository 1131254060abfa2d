use Rattle.std.proofs.Common.{◌≡◌, ap, ◌∙◌, subst, rules}
use Rattle.std.specs.BTreeMap.{insert_entry}
use Rattle.seata_types.specs.Orders.{key_cmp}
use Rattle.local_tables.specs.Places.{Entries, IsPlace, IsGap}
use Rattle.local_tables.proofs.PlaceLaws.{set_place, insert_gap, rising_put, rising_inserted}
use Rattle.local_tables.proofs.row_map.RowMap.put.Goals as goal

pub invariant_of-self : goal.invariant_of-self
invariant_of-self g c =
    let inside : c.as_slice.result.now ≡ c.self.inside.entries.items = search rules in
    let place = subst (λ (es : Entries g.row.V.Denot). IsPlace es c.args.key c.in-Ok.at) inside c.in-Ok.ensures.found in
    rising_put c.self.inside.entries.items _ c.args.key c.args.value c.self.invariant (set_place c.self.inside.entries.items c.args.key c.args.value c.in-Ok.at c.self.invariant place)

pub returns-in-Ok-clause-ok : goal.returns-in-Ok-clause-ok
returns-in-Ok-clause-ok g c =
    let inside : c.as_slice.result.now ≡ c.self.inside.entries.items = search rules in
    let place = subst (λ (es : Entries g.row.V.Denot). IsPlace es c.args.key c.in-Ok.at) inside c.in-Ok.ensures.found in
    set_place c.self.inside.entries.items c.args.key c.args.value c.in-Ok.at c.self.invariant place
    ∙ ap (λ (es : Entries g.row.V.Denot). insert_entry key_cmp es c.args.key c.args.value) c.self.view_is

pub invariant_of-self-in-Err : goal.invariant_of-self-in-Err
invariant_of-self-in-Err g c =
    let inside : c.as_slice.result.now ≡ c.self.inside.entries.items = search rules in
    let gap = subst (λ (es : Entries g.row.V.Denot). IsGap es c.args.key c.in-Err.at) inside c.in-Err.ensures.missing in
    rising_inserted c.self.inside.entries.items _ c.args.key c.args.value c.in-Err.at _ c.self.invariant gap c.insert_at.ensures.ok c.insert_at.ensures.err

pub returns-in_ok-insert_at-in-Err-clause-ok : goal.returns-in_ok-insert_at-in-Err-clause-ok
returns-in_ok-insert_at-in-Err-clause-ok g c =
    let inside : c.as_slice.result.now ≡ c.self.inside.entries.items = search rules in
    let gap = subst (λ (es : Entries g.row.V.Denot). IsGap es c.args.key c.in-Err.at) inside c.in-Err.ensures.missing in
    c.in_ok-insert_at-in-Err.ensures.ok ∙ insert_gap c.self.inside.entries.items c.args.key c.args.value c.in-Err.at gap
    ∙ ap (λ (es : Entries g.row.V.Denot). insert_entry key_cmp es c.args.key c.args.value) c.self.view_is

pub returns-in-Ok-clause-in_order : goal.returns-in-Ok-clause-in_order
returns-in-Ok-clause-in_order g c =
    let inside : c.as_slice.result.now ≡ c.self.inside.entries.items = search rules in
    let place = subst (λ (es : Entries g.row.V.Denot). IsPlace es c.args.key c.in-Ok.at) inside c.in-Ok.ensures.found in
    rising_put c.self.inside.entries.items _ c.args.key c.args.value c.self.invariant (set_place c.self.inside.entries.items c.args.key c.args.value c.in-Ok.at c.self.invariant place)

pub returns-in_ok-insert_at-in-Err-clause-in_order : goal.returns-in_ok-insert_at-in-Err-clause-in_order
returns-in_ok-insert_at-in-Err-clause-in_order g c =
    let inside : c.as_slice.result.now ≡ c.self.inside.entries.items = search rules in
    let gap = subst (λ (es : Entries g.row.V.Denot). IsGap es c.args.key c.in-Err.at) inside c.in-Err.ensures.missing in
    rising_put c.self.inside.entries.items _ c.args.key c.args.value c.self.invariant (c.in_ok-insert_at-in-Err.ensures.ok ∙ insert_gap c.self.inside.entries.items c.args.key c.args.value c.in-Err.at gap)
