use Rattle.std.proofs.Common.{◌≡◌, ◌∙◌, ◌∷◌, ◌++◌, List, map, ap, sym, arith}
use Rattle.std.specs.Vec.Iter.{into_iter_items}
use Rattle.std.proofs.lemmas.Grind.{common_steps}
use Rattle.seata_types.specs.declared.ids.Leg.{Leg}
use Rattle.undo_log.specs.Entries.{with_entry}
use Rattle.undo_log.specs.declared.records.UndoEntry.{UndoEntry}
use Rattle.resource_log.specs.declared.states.UndoItem.{UndoItem}
use Rattle.resource_memory.specs.Snapshots.{undo_entry}
use Rattle.resource_memory.proofs.PartLaws.{entries_step}
use Rattle.resource_memory.proofs.loading.undo_log.Goals as goal

pub loop-item-preserved : goal.loop-item-preserved
loop-item-preserved c =
    let left : into_iter_items c.loop-item.item-iterator ≡ c.in-Some.item ∷ into_iter_items c.next.new.self = grind (arith, common_steps) in
    entries_step c.loop-item.log (undo_entry c.in-Some.item) (map undo_entry (into_iter_items c.next.new.self)) (map undo_entry c.args.items) _ c.requires
    (ap (λ (l : List UndoItem). c.loop-item.log ++ map undo_entry l) (sym left) ∙ c.loop-item.invariant)
    (c.in_ok-enter.ensures.ok ∙ ap (λ (e : Leg × UndoEntry). with_entry c.loop-item.log e.0 e.1) c.undo_entry-entry.ensures)
