-- What the calls of `MemDisk` do to its disk.
use Rattle.std.proofs.Common.{◌≡◌, ◌⊎◌, ℕ, ◌+◌, ◌-◌, ◌^◌, ◌<◌, ◌≤◌, true, false, List, length, get_or, replicate, refl, sym, ◌∙◌, inl, inr, arith}
use Rattle.std.proofs.lemmas.List.{length-replicate, get_or-replicate}
use Rattle.std.proofs.lemmas.Bool.{false≢true}
use Rattle.disk_model.specs.Memory.{Memory, IsSound, new_memory, written, settled, picked}
use Rattle.disk_model.specs.Bytes.{IsStored}
use Rattle.disk_model.proofs.Put.{before, within, after, placed, length-put, put_before, put_within, put_after}
use Rattle.disk_model.proofs.Picked.{length-picked, picked_clear}

module _ (at : ℕ) (bytes : List ℕ) (disk : Memory) (fits : at + length bytes ≤ length disk.present) (sound : IsSound disk) where
  marks_fit : at + length (replicate (length bytes) true) ≤ length disk.pending
  marks_fit = omega (arith, sound.marks, length-replicate (length bytes) true)

  -- what is not marked was not, holds its old byte and lies outside the range
  pub unmarked_written : (k : ℕ) → get_or (written at bytes disk).pending k false ≡ false → (get_or disk.pending k false ≡ false) × (get_or (written at bytes disk).present k 0 ≡ get_or disk.present k 0) × ((k < at) ⊎ (at + length bytes ≤ k))
  unmarked_written k clear = elim (placed at (length bytes) k) [
    | before h ↦ (sym (put_before at (replicate (length bytes) true) disk.pending marks_fit k false h) ∙ clear, put_before at bytes disk.present fits k 0 h, inl h)
    | within h l ↦ absurd (false≢true (sym clear ∙ put_within at (replicate (length bytes) true) disk.pending marks_fit k false h (omega (arith, length-replicate (length bytes) true)) ∙ get_or-replicate (length bytes) (k - at) true false (omega arith)))
    | after h ↦ (sym (put_after at (replicate (length bytes) true) disk.pending marks_fit k false (omega (arith, length-replicate (length bytes) true))) ∙ clear, put_after at bytes disk.present fits k 0 h, inr h)
  ]

  pub written_sound : IsSound (written at bytes disk)
  written_sound = record {
    marks = length-put at (replicate (length bytes) true) disk.pending marks_fit ∙ sound.marks ∙ sym (length-put at bytes disk.present fits);
    stable = record {
      size = sound.stable.size ∙ sym (length-put at bytes disk.present fits);
      kept = λ k clear. sound.stable.kept k (unmarked_written k clear).0 ∙ sym (unmarked_written k clear).1;
    };
  }

pub new_stored : (size : ℕ) → size < 2 ^ 32 → IsStored (new_memory size)
new_stored size small = record {
  sound = record {
    marks = length-replicate size false ∙ sym (length-replicate {A = ℕ} size 0);
    stable = record { size = refl; kept = λ k clear. refl };
  };
  small = omega (arith, length-replicate {A = ℕ} size 0);
}

module _ (disk : Memory) (stored : IsStored disk) where
  pub written_stored : (at : ℕ) (bytes : List ℕ) → at + length bytes ≤ length disk.present → IsStored (written at bytes disk)
  written_stored at bytes fits = record {
    sound = written_sound at bytes disk fits stored.sound;
    small = omega (arith, stored.small, length-put at bytes disk.present fits);
  }

  pub settled_stored : IsStored (settled disk)
  settled_stored = record {
    sound = record {
      marks = length-replicate (length disk.present) false;
      stable = record { size = refl; kept = λ k clear. refl };
    };
    small = stored.small;
  }

  pub picked_stored : (pick : ℕ) → IsStored (record disk { present = picked pick disk.pending disk.stable disk.present })
  picked_stored pick = record {
    sound = record {
      marks = stored.sound.marks ∙ sym same_size;
      stable = record {
        size = stored.sound.stable.size ∙ sym same_size;
        kept = λ k clear. stored.sound.stable.kept k clear ∙ sym (picked_clear pick disk.pending disk.stable disk.present stored.sound.marks stored.sound.stable.size k clear);
      };
    };
    small = omega (arith, stored.small, same_size);
  }
    where
      same_size : length (picked pick disk.pending disk.stable disk.present) ≡ length disk.present
      same_size = length-picked pick disk.pending disk.stable disk.present stored.sound.marks stored.sound.stable.size
