-- The images of a disk in memory after each of its calls.
use Rattle.std.proofs.Common.{◌≡◌, ◌⊎◌, ℕ, ◌+◌, ◌-◌, ◌<◌, ◌≤◌, true, false, Some, List, length, get_or, take, drop, replicate, refl, sym, ◌∙◌, ap, subst, inl, inr, arith}
use Rattle.std.proofs.lemmas.Grind.{same_number_lists}
use Rattle.std.proofs.lemmas.List.{length-replicate, get_or-take, get_or-drop, length-take, length-drop}
use Rattle.disk_model.specs.Disk.{put, Pending, SameOutside, SameKind, IsWritten, IsSynced, IsSettled, IsPicked, Leaves}
use Rattle.disk_model.specs.Memory.{Memory, IsImage, IsSound, new_memory, written, settled, crashed, picked, memory_state}
use Rattle.std.proofs.lemmas.Option.{same_Some}
use Rattle.disk_model.specs.Shelf.{IsBlank}
use Rattle.disk_model.proofs.Marks.{none_marked}
use Rattle.disk_model.proofs.Stored.{unmarked_written}
use Rattle.disk_model.proofs.Picked.{length-picked, picked_clear}
use Rattle.disk_model.proofs.Put.{before, within, after, placed, outside, same_before, same_after, length-put, put_before, put_within, put_after}

-- which bytes are images doesn't depend on the stable ones
same_images : (a b : Memory) → a.present ≡ b.present → a.pending ≡ b.pending → (c : List ℕ) → IsImage a c → IsImage b c
same_images a b present pending c image = record {
  size = image.size ∙ ap length present;
  kept = λ k clear. image.kept k (ap (λ marks. get_or marks k false) pending ∙ clear) ∙ ap (λ there. get_or there k 0) present;
}

module _ (at : ℕ) (bytes : List ℕ) (disk : Memory) (fits : at + length bytes ≤ length disk.present) (sound : IsSound disk) where
  marks_fit : at + length (replicate (length bytes) true) ≤ length disk.pending
  marks_fit = omega (arith, sound.marks, length-replicate (length bytes) true)

  -- an image of before, with anything in the range, is one of after
  pub written_pending : (c : List ℕ) → Pending at (length bytes) (IsImage disk) c → IsImage (written at bytes disk) c
  written_pending c (d, image, same) = record {
    size = same.size ∙ image.size ∙ sym (length-put at bytes disk.present fits);
    kept = λ k clear. let was = unmarked_written at bytes disk fits sound k clear in same_there k was.2 ∙ image.kept k was.0 ∙ sym was.1;
  }
    where
      same_there : (k : ℕ) → (k < at) ⊎ (at + length bytes ≤ k) → get_or c k 0 ≡ get_or d k 0
      same_there k (inl l) = same_before same k l
      same_there k (inr l) = same_after same k l

  shown : List ℕ
  shown = take (length bytes) (drop at disk.present)

  length-shown : length shown ≡ length bytes
  unfolding shown
  length-shown = simp (length-take, length-drop) (omega arith)

  shown_at : (k : ℕ) → at ≤ k → k < at + length bytes → get_or shown (k - at) 0 ≡ get_or disk.present k 0
  unfolding shown
  shown_at k h l = get_or-take (length bytes) (drop at disk.present) (k - at) 0 (omega arith) ∙ get_or-drop at disk.present (k - at) 0 ∙ ap (λ i. get_or disk.present i 0) (omega arith)

  -- and each image of after is such a one
  pub image_written : (c : List ℕ) → IsImage (written at bytes disk) c → Pending at (length bytes) (IsImage disk) c
  image_written c image = (put at shown c, was, same)
    where
      size : length c ≡ length disk.present
      size = image.size ∙ length-put at bytes disk.present fits

      shown_fits : at + length shown ≤ length c
      shown_fits = omega (arith, length-shown, size)

      was : IsImage disk (put at shown c)
      was = record {
        size = length-put at shown c shown_fits ∙ size;
        kept = λ k clear. elim (placed at (length bytes) k) [
          | before l ↦ put_before at shown c shown_fits k 0 l ∙ image.kept k (put_before at (replicate (length bytes) true) disk.pending marks_fit k false l ∙ clear) ∙ put_before at bytes disk.present fits k 0 l
          | within g l ↦ put_within at shown c shown_fits k 0 g (omega (arith, length-shown)) ∙ shown_at k g l
          | after g ↦ put_after at shown c shown_fits k 0 (omega (arith, length-shown)) ∙ image.kept k (put_after at (replicate (length bytes) true) disk.pending marks_fit k false (omega (arith, length-replicate (length bytes) true)) ∙ clear) ∙ put_after at bytes disk.present fits k 0 g
        ];
      }

      same : SameOutside at (length bytes) (put at shown c) c
      same = outside at (length bytes) (put at shown c) c (sym (length-put at shown c shown_fits)) (λ k l. sym (put_before at shown c shown_fits k 0 l)) (λ k g. sym (put_after at shown c shown_fits k 0 (omega (arith, length-shown))))

  -- both hold whatever the stable bytes are after the write
  pub memory_written : (new : Memory) → new.present ≡ (written at bytes disk).present → new.pending ≡ (written at bytes disk).pending → IsWritten at bytes (memory_state disk) (memory_state new)
  memory_written new present pending = record {
    present = ap Some present;
    pending = λ c was. same_images (written at bytes disk) new (sym present) (sym pending) c (written_pending c was);
  }

  pub written_leaves : (new : Memory) → new.present ≡ (written at bytes disk).present → new.pending ≡ (written at bytes disk).pending → Leaves (memory_state disk) (memory_state new) (Pending at (length bytes) (IsImage disk))
  written_leaves new present pending = record {
    now = λ c image. image_written c (same_images new (written at bytes disk) present pending c image);
    later = omega arith;
    since = λ t c le never. absurd never;
    kept = λ t c le never. never;
  }

-- where nothing is pending the present bytes are the only image
pub image_settled : (disk : Memory) (c : List ℕ) → IsImage (settled disk) c → c ≡ disk.present
image_settled disk c image = same_number_lists c disk.present image.size (λ k h. image.kept k (none_marked (length disk.present) k))

pub memory_settled : (disk : Memory) → IsSettled (memory_state (settled disk))
memory_settled disk c image = ap Some (sym (image_settled disk c image))

pub memory_synced : (disk : Memory) → IsSynced (memory_state disk) (memory_state (settled disk))
memory_synced disk = record { content = refl; settled = memory_settled disk }

-- the disk as a crash finds it again, before that is stable
abbrev hit : ℕ → Memory → Memory
hit pick disk = record disk {
  present = picked pick disk.pending disk.stable disk.present;
  last_pick = Some pick;
}

module _ (pick : ℕ) (disk : Memory) (sound : IsSound disk) where
  size : length (picked pick disk.pending disk.stable disk.present) ≡ length disk.present
  size = length-picked pick disk.pending disk.stable disk.present sound.marks sound.stable.size

  -- what a crash picks is one of the images
  pub picked_image : IsImage disk (picked pick disk.pending disk.stable disk.present)
  picked_image = record {
    size = size;
    kept = picked_clear pick disk.pending disk.stable disk.present sound.marks sound.stable.size;
  }

  pub crashed_leaves : Leaves (memory_state disk) (memory_state (crashed pick disk)) (IsImage disk)
  crashed_leaves = record {
    now = λ c image. subst (IsImage disk) (sym (image_settled (hit pick disk) c image)) picked_image;
    later = omega arith;
    since = λ t c le never. absurd never;
    kept = λ t c le never. never;
  }

  pub crashed_kind : SameKind (memory_state disk) (memory_state (crashed pick disk))
  crashed_kind = record { size = size; tells_images = refl; tells_moments = refl }

  pub crashed_picked : IsPicked pick (memory_state disk) (memory_state (crashed pick disk))
  crashed_picked c image = image_settled (hit pick disk) c image

  pub crashed_settled : IsSettled (memory_state (crashed pick disk))
  crashed_settled = memory_settled (hit pick disk)

pub new_blank : (size : ℕ) → IsBlank size (memory_state (new_memory size))
new_blank n = record {
  size = length-replicate {A = ℕ} n 0;
  zero = λ c told. sym (same_Some _ _ told);
  settled = λ c image. ap Some (sym (same_number_lists c (replicate n 0) image.size (λ k h. image.kept k (none_marked n k))));
  no_fault = refl;
}
