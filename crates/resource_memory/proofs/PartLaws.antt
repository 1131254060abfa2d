-- What the parts of a memory are given back, and take in again.
use Rattle.std.proofs.Common.{◌≡◌, ◌==◌, ◌++◌, ℕ, Bool, true, false, true≢false, cond, List, ◌∷◌, Some, None, Result, Ok, Err, is_err, OnOk, ap, sym, ◌∙◌}
use Rattle.std.proofs.lemmas.Cmp.{tied_itself}
use Rattle.std.specs.BTreeMap.{insert_entry}
use Rattle.std.specs.List.Sorted.{IsStrictlySortedBy}
use Rattle.std.specs.Map.{lookup, keys_of}
use Rattle.std.specs.Ordering.{is_eq}
use Rattle.seata_types.specs.declared.ids.Leg.{Leg}
use Rattle.seata_types.specs.declared.rows.Image.{Image}
use Rattle.seata_types.specs.declared.rows.ReadRow.{ReadRow}
use Rattle.durable_records.specs.Fences.{Fence, leg_cmp, with_fence}
use Rattle.undo_log.specs.Entries.{Log, IsInOrder, is_leg, order, entry_at, with_entry, without_entry}
use Rattle.undo_log.specs.declared.records.UndoEntry.{UndoEntry}
use Rattle.tcc_fence.specs.Meanings.{Fences, fence_at, pair_of, without_fence}
use Rattle.resource_log.specs.declared.states.FenceItem.{FenceItem}
use Rattle.resource_memory.specs.Changes.{undo_images, undo_record}
use Rattle.resource_memory.specs.Known.{Calls, with_call}
use Rattle.resource_memory.specs.Lookups.{without_call}
use Rattle.resource_memory.specs.Snapshots.{calls_in}
use Rattle.resource_memory.proofs.Legs.{pair_total, pair_exact, leg_total, leg_exact}
use Rattle.resource_memory.proofs.Maps.{at_insert, remove_insert, remove_none, put_last}

-- ---- put

-- what holds of a value, where no error came
pub put_well : {A E : Type 0} (r : Result A E) (P : Type 0) → false ≡ is_err r → OnOk r P → P
put_well (Ok v) P well p = p
put_well (Err e) P well p = absurd (true≢false (sym well))

-- an entry that was put is found
pub entry_put : (log : Log) (leg : Leg) (e : UndoEntry) → entry_at (with_entry log leg e) leg ≡ Some e
entry_put log leg e = at_insert order leg_total leg_exact log leg e leg ∙ ap (λ o. cond (is_eq o) (Some e) (entry_at log leg)) (tied_itself leg_total leg)

-- the images of an undo record that was put
pub images_put : (log new : Log) (leg : Leg) (call : ℕ) (images : List Image) (reads : List ReadRow) → new ≡ with_entry log leg (undo_record leg call images reads) → undo_images (entry_at new leg) ≡ images
images_put log new leg call images reads is =
    ap (λ (l : Log). undo_images (entry_at l leg)) is ∙ ap undo_images (entry_put log leg (undo_record leg call images reads))

-- ---- given back

pub entry_back : (log : Log) (leg : Leg) (e : UndoEntry) → entry_at log leg ≡ None → without_entry (with_entry log leg e) leg ≡ log
entry_back log leg e none = remove_insert order leg_total leg_exact log leg e none

pub fence_back : (fences : Fences) (leg : Leg) (here : Fence) → fence_at fences leg ≡ None → without_fence (with_fence leg.xid.0 leg.branch.0 here fences) leg ≡ fences
fence_back fences leg here none = remove_insert leg_cmp pair_total pair_exact fences (pair_of leg) here none

pub call_back : (calls : Calls) (leg : Leg) (call : ℕ) → lookup (is_leg leg) calls ≡ None → without_call (with_call calls leg call) leg ≡ calls
call_back calls leg call none = by (call == 0)
  where
    by : (b : Bool) → without_call (cond b calls (insert_entry order calls leg call)) leg ≡ calls
    by true = remove_none order leg_total leg_exact calls leg none
    by false = remove_insert order leg_total leg_exact calls leg call none

-- ---- taken in again

pub entries_step : (log : Log) (e : Leg × UndoEntry) (rest all new : Log) → IsInOrder all → log ++ e ∷ rest ≡ all → new ≡ with_entry log e.0 e.1 → new ++ rest ≡ all
entries_step log e rest all new s is put = put_last order leg_total leg_exact log e.0 e.1 rest all new s is put

pub fences_step : (fences : Fences) (leg : Leg) (here : Fence) (rest all new : Fences) → IsStrictlySortedBy leg_cmp (keys_of all) → fences ++ (pair_of leg, here) ∷ rest ≡ all → new ≡ with_fence leg.xid.0 leg.branch.0 here fences → new ++ rest ≡ all
fences_step fences leg here rest all new s is put = put_last leg_cmp pair_total pair_exact fences (pair_of leg) here rest all new s is put

pub calls_step : (calls : Calls) (f : FenceItem) (fs : List FenceItem) (all new : Calls) → IsStrictlySortedBy order (keys_of all) → calls ++ calls_in (f ∷ fs) ≡ all → new ≡ with_call calls f.leg f.call → new ++ calls_in fs ≡ all
calls_step calls f fs all new s is put = by (f.call == 0) is put
  where
    by : (b : Bool) → calls ++ cond b (calls_in fs) ((f.leg, f.call) ∷ calls_in fs) ≡ all → new ≡ cond b calls (insert_entry order calls f.leg f.call) → new ++ calls_in fs ≡ all
    by true held made = ap (λ l. l ++ calls_in fs) made ∙ held
    by false held made = put_last order leg_total leg_exact calls f.leg f.call (calls_in fs) all new s held made
