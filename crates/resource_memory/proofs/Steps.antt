-- A memory after a record, of which one part or another changed.
use Rattle.std.proofs.Common.{◌≡◌, ℕ, true, List, [], sym, subst}
use Rattle.local_tables.specs.declared.schemas.Schema.{Schema}
use Rattle.local_tables.specs.Rows.{Database, AreImagesOf, IsOpening, opened}
use Rattle.seata_types.specs.declared.rows.Image.{Image}
use Rattle.seata_types.specs.declared.rows.ReadRow.{ReadRow}
use Rattle.seata_types.specs.declared.rows.Row.{Row}
use Rattle.std.proofs.lemmas.Bool.{and_parts}
use Rattle.durable_records.specs.declared.resources.ResourceRecord.{ResourceRecord}
use Rattle.undo_log.specs.Entries.{Log}
use Rattle.tcc_fence.specs.Meanings.{Fences}
use Rattle.resource_log.specs.Soundness.{is_sound}
use Rattle.resource_log.specs.declared.states.ResourceSnapshot.{ResourceSnapshot}
use Rattle.resource_log.proofs.SoundLaws.{sound_rows_open}
use Rattle.resource_memory.specs.Changes.{after, may_come, fit}
use Rattle.resource_memory.specs.Keeping.{IsKept, known_as}
use Rattle.resource_memory.specs.Known.{Known, Calls, known_of}
use Rattle.resource_memory.proofs.Fits.{fit_images}
use Rattle.resource_memory.proofs.KeptLaws.{kept_after, kept_at_opening}
use Rattle.resource_memory.proofs.RowLaws.{opened_rows}

same_known : (a b : Known) → a.acts ≡ b.acts → a.boots ≡ b.boots → a.tables ≡ b.tables → a.undo_log ≡ b.undo_log → a.fences ≡ b.fences → a.calls ≡ b.calls → a ≡ b
same_known a b p q r s t u = λ i. record { acts = p i; boots = q i; tables = r i; undo_log = s i; fences = t i; calls = u i }

-- each part is as the record leaves it
pub kept_step : (r : ResourceRecord) (k n : Known) → IsKept k → may_come k r ≡ true → n.acts ≡ (after r k).acts → n.boots ≡ (after r k).boots → n.tables ≡ (after r k).tables → n.undo_log ≡ (after r k).undo_log → n.fences ≡ (after r k).fences → n.calls ≡ (after r k).calls → IsKept n
kept_step r k n kept may a b t l f c = subst (λ (x : Known). IsKept x) (sym (same_known n (after r k) a b t l f c)) (kept_after k kept r may)

-- a memory of no records
pub kept_new : (db t : Database) (l : Log) (f : Fences) (c : Calls) → IsKept (known_of db []) → t ≡ db → l ≡ [] → f ≡ [] → c ≡ [] → IsKept (known_as 0 0 t l f c)
kept_new db t l f c kept p q r s = subst (λ (x : Known). IsKept x) (sym (same_known (known_as 0 0 t l f c) (known_of db []) (λ i. 0) (λ i. 0) p q r s)) kept

pub kept_opened : (resource : ℕ) (schema : Schema) (opening : List (List ℕ × Row)) → IsKept (known_of (opened resource schema opening) [])
kept_opened resource schema opening = kept_at_opening (opened resource schema opening) (opened_rows resource schema opening)

-- a memory that is loaded
pub kept_loaded : (n k : Known) → IsKept k → n.tables ≡ k.tables → n.undo_log ≡ k.undo_log → n.fences ≡ k.fences → n.calls ≡ k.calls → n.acts ≡ k.acts → n.boots ≡ k.boots → IsKept n
kept_loaded n k kept t l f c a b = subst (λ (x : Known). IsKept x) (sym (same_known n k a b t l f c)) kept

-- images of a record that may come
pub images_as : (db : Database) (images same : List Image) (reads : List ReadRow) → same ≡ images → fit db images reads ≡ true → AreImagesOf db same
images_as db images same reads is e = subst (λ (l : List Image). AreImagesOf db l) (sym is) (fit_images db images reads e)

pub rows_open : (resource : ℕ) (schema : Schema) (s : ResourceSnapshot) → is_sound resource schema s ≡ true → IsOpening resource schema s.rows
unfolding is_sound
rows_open resource schema s sound = sound_rows_open resource schema s.rows (and_parts _ _ (and_parts _ _ sound).1).1
