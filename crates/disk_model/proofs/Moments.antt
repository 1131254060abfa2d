-- The moments of a disk that keeps its calls.
use Rattle.std.proofs.Common.{◌≡◌, ◌⊎◌, ℕ, ◌+◌, ◌≤◌, Option, Some, List, [], ◌∷◌, ◌++◌, length, take, refl, sym, ◌∙◌, ap, subst, inl, inr, arith, length-append}
use Rattle.std.proofs.lemmas.Bool.{cases_lt}
use Rattle.std.proofs.lemmas.List.{take_all, take-append-le}
use Rattle.std.proofs.lemmas.List.Sums.{fold-append}
use Rattle.disk_model.specs.Disk.{Content, SameKind, IsWritten, IsSettled, IsPicked, IsSynced, Leaves}
use Rattle.disk_model.specs.Memory.{Memory, IsImage, new_memory, memory_state}
use Rattle.disk_model.specs.Trace.{Trace, Call, LeftSince, after_call, after_calls, disk_of, with_call, with_fault, trace_state}

pub disk_of-with_call : (trace : Trace) (call : Call) → disk_of (with_call call trace) ≡ after_call (disk_of trace) call
disk_of-with_call trace call = fold-append after_call (new_memory trace.size) trace.calls (call ∷ [])

module _ (trace : Trace) (call : Call) where
  more : length (trace.calls ++ call ∷ []) ≡ length trace.calls + 1
  more = length-append trace.calls (call ∷ [])

  earlier : (k : ℕ) (c : List ℕ) → k ≤ length trace.calls → IsImage (after_calls trace.size (take k (trace.calls ++ call ∷ []))) c ≡ IsImage (after_calls trace.size (take k trace.calls)) c
  earlier k c le = ap (λ (calls : List Call). IsImage (after_calls trace.size calls) c) (take-append-le k trace.calls (call ∷ []) le)

-- One call more: what a crash may leave then joins what one may have left before.
pub call_leaves : (trace : Trace) (call : Call) (P : List ℕ → Type 0) → ((c : List ℕ) → IsImage (after_call (disk_of trace) call) c → P c) → Leaves (trace_state trace) (trace_state (with_call call trace)) P
call_leaves trace call P follows = record {
  now = after;
  later = omega (arith, more trace call);
  since = since;
  kept = λ t c le (k, from, to, image). (k, from, omega (arith, more trace call), rw (take-append-le k trace.calls (call ∷ []) to) image);
}
  where
    after : (c : List ℕ) → IsImage (disk_of (with_call call trace)) c → P c
    after c image = follows c (subst (λ (d : Memory). IsImage d c) (disk_of-with_call trace call) image)

    since : (t : ℕ) (c : List ℕ) → t ≤ length trace.calls → LeftSince (with_call call trace) t c → LeftSince trace t c ⊎ P c
    since t c le (k, from, to, image) = elim (cases_lt (length trace.calls) k) [
      | inl last ↦ inr (after c (subst (λ (calls : List Call). IsImage (after_calls trace.size calls) c) (take_all k (trace.calls ++ call ∷ []) (omega (arith, more trace call))) image))
      | inr before ↦ inl (k, from, before, subst (λ (calls : List Call). IsImage (after_calls trace.size calls) c) (take-append-le k trace.calls (call ∷ []) before) image)
    ]

-- a call that was refused
pub refused_leaves : (trace : Trace) (P : List ℕ → Type 0) → ((c : List ℕ) → IsImage (disk_of trace) c → P c) → Leaves (trace_state trace) (trace_state (with_fault trace)) P
refused_leaves trace P follows = record {
  now = follows;
  later = omega arith;
  since = λ t c le left. inl left;
  kept = λ t c le left. left;
}

content_of : Memory → Option Content
content_of disk = Some (record { present = disk.present; last_pick = disk.last_pick })

-- what one call more makes of the disk, where it makes that of a disk in memory
module _ (trace : Trace) (call : Call) where
  next : disk_of (with_call call trace) ≡ after_call (disk_of trace) call
  next = disk_of-with_call trace call

  pub trace_written : (at : ℕ) (bytes : List ℕ) → IsWritten at bytes (memory_state (disk_of trace)) (memory_state (after_call (disk_of trace) call)) → IsWritten at bytes (trace_state trace) (trace_state (with_call call trace))
  trace_written at bytes is = record {
    present = ap (λ (d : Memory). Some d.present) next ∙ is.present;
    pending = λ c pending. subst (λ (d : Memory). IsImage d c) (sym next) (is.pending c pending);
  }

  pub trace_settled : IsSettled (memory_state (after_call (disk_of trace) call)) → IsSettled (trace_state (with_call call trace))
  trace_settled is c image = ap (λ (d : Memory). Some d.present) next ∙ is c (subst (λ (d : Memory). IsImage d c) next image)

  pub trace_picked : (pick : ℕ) → IsPicked pick (memory_state (disk_of trace)) (memory_state (after_call (disk_of trace) call)) → IsPicked pick (trace_state trace) (trace_state (with_call call trace))
  trace_picked pick is c image = is c (subst (λ (d : Memory). IsImage d c) next image)

  pub trace_synced : IsSynced (memory_state (disk_of trace)) (memory_state (after_call (disk_of trace) call)) → IsSynced (trace_state trace) (trace_state (with_call call trace))
  unfolding content_of
  trace_synced is = record {
    content = ap content_of next ∙ is.content;
    settled = trace_settled is.settled;
  }

  pub trace_kind : SameKind (memory_state (disk_of trace)) (memory_state (after_call (disk_of trace) call)) → SameKind (trace_state trace) (trace_state (with_call call trace))
  trace_kind is = record {
    size = ap (λ (d : Memory). length d.present) next ∙ is.size;
    tells_images = refl;
    tells_moments = refl;
  }
