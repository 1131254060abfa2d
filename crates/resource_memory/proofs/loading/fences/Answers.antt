use Rattle.std.proofs.Common.{◌≡◌, ◌∙◌, ◌∷◌, ◌++◌, List, map, ap, sym, arith}
use Rattle.std.specs.Vec.Iter.{into_iter_items}
use Rattle.std.proofs.lemmas.Grind.{common_steps}
use Rattle.resource_log.specs.declared.states.FenceItem.{FenceItem}
use Rattle.tcc_fence.specs.Meanings.{status_of}
use Rattle.resource_memory.specs.Snapshots.{fence_entry, calls_in}
use Rattle.resource_memory.proofs.PartLaws.{fences_step, calls_step}
use Rattle.resource_memory.proofs.loading.fences.Goals as goal

pub loop-item-preserved : goal.loop-item-preserved
loop-item-preserved c =
    let left : into_iter_items c.loop-item.item-iterator ≡ c.in-Some.item ∷ into_iter_items c.next.new.self = grind (arith, common_steps) in
    record {
      fences = fences_step c.loop-item.fence c.in-Some.item.leg (status_of c.in-Some.item.status) (map fence_entry (into_iter_items c.next.new.self)) (map fence_entry c.args.items) _ c.requires.fences
          (ap (λ (l : List FenceItem). c.loop-item.fence ++ map fence_entry l) (sym left) ∙ c.loop-item.invariant.fences) c.in_ok-set.ensures.done;
      calls = calls_step c.loop-item.calls c.in-Some.item (into_iter_items c.next.new.self) (calls_in c.args.items) _ c.requires.calls
          (ap (λ (l : List FenceItem). c.loop-item.calls ++ calls_in l) (sym left) ∙ c.loop-item.invariant.calls) c.in_ok-put.ensures.ok;
    }
