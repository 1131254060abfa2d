-- Rows, images, reads and tickets are read back, and what is read as one stands there.
use Rattle.std.proofs.Common.{◌≡◌, ℕ, zero, suc, ◌+◌, IsTrue, Option, Some, None, option_map, List, [], ◌∷◌, ◌++◌, length, Ok, refl, sym, subst}
use Rattle.seata_types.specs.declared.ids.Ticket.{Ticket}
use Rattle.seata_types.specs.declared.rows.Row.{Row}
use Rattle.seata_types.specs.declared.rows.Image.{Image}
use Rattle.seata_types.specs.declared.rows.ReadRow.{ReadRow}
use Rattle.byte_fields.specs.declared.layouts.KeyLayout.{KeyLayout}
use Rattle.byte_fields.specs.declared.layouts.KeyLayout.TheVariants as layout
use Rattle.byte_fields.specs.KeyOrder.{is_below}
use Rattle.byte_fields.specs.Layout.{FitsValue, may_come, any_order, FitsRow, FitsOptionRow, FitsKeyIn, FitsKeysIn, FitsKeys, FitsImages, FitsReads, keys_bytes, images_bytes, reads_bytes, FitsImageIn, FitsImagesIn, FitsReadIn, FitsReadsIn, FitsTicket, value_bytes, row_bytes, option_row_bytes, key_bytes_in, keys_bytes_in, image_bytes_in, images_bytes_in, image_follows, read_bytes_in, reads_bytes_in, read_follows, ticket_bytes}
use Rattle.byte_fields.specs.Reading.{Position, any_value, row_at, tagged_row, option_row_at, next_key, keys_in, next_image, images_in, next_read, reads_in, keys_at, images_at, reads_at, ticket_at}
use Rattle.byte_fields.specs.Exactness.{AreBytes, Stands, ReadsExactly}
use Rattle.byte_fields.proofs.Chains.{ReadsParts, part, last_part, no_part, whole, Stands-then, ok_is}
use Rattle.byte_fields.proofs.KeyLaws.{in_no_order, values_follow, next_key_exact}
use Rattle.byte_fields.proofs.Numbers.{four_bytes_exact}
use Rattle.byte_fields.proofs.Tags.{tag_back, tag_only}
use Rattle.byte_fields.proofs.Sequences.{list_exact}

pub row_exact : ReadsExactly row_at row_bytes FitsRow
unfolding row_at row_bytes
row_exact = whole row_bytes FitsRow (λ (row : Row). row.0)
    (last_part (λ values. record { 0 = values }) (list_exact any_order any_value value_bytes FitsValue values_follow))
    (λ row. refl) (λ row. refl) (λ values. refl)
    (λ row fits. record { count = fits.count; each = fits.each; order = in_no_order None row.0 })
    (λ values fits. record { count = fits.count; each = fits.each })

-- the order of images and of reads is that of their keys
image_order : (last : Option Image) (i : Image) → IsTrue (may_come image_follows last i) → IsTrue (may_come is_below (option_map (λ (j : Image). j.key) last) i.key)
image_order None i comes = comes
image_order (Some last) i comes = comes

key_order : (last : Option Image) (i : Image) → IsTrue (may_come is_below (option_map (λ (j : Image). j.key) last) i.key) → IsTrue (may_come image_follows last i)
key_order None i comes = comes
key_order (Some last) i comes = comes

read_order : (last : Option ReadRow) (r : ReadRow) → IsTrue (may_come read_follows last r) → IsTrue (may_come is_below (option_map (λ (q : ReadRow). q.key) last) r.key)
read_order None r comes = comes
read_order (Some last) r comes = comes

read_key_order : (last : Option ReadRow) (r : ReadRow) → IsTrue (may_come is_below (option_map (λ (q : ReadRow). q.key) last) r.key) → IsTrue (may_come read_follows last r)
read_key_order None r comes = comes
read_key_order (Some last) r comes = comes

row_part : (place : ℕ) → ReadsParts (tagged_row place 1) (λ row. Some row) row_bytes FitsRow
row_part place = last_part (λ row. Some row) row_exact

option_row_only : (tag : ℕ) (row : Option Row) (place body after : Position) → AreBytes body.rest → Stands place (tag ∷ []) body → tagged_row place.at tag body ≡ Ok (row, after) → FitsOptionRow row × Stands place (option_row_bytes row) after
unfolding option_row_bytes
option_row_only zero row place body after all tag e =
    subst (λ (r : Option Row × Position). FitsOptionRow r.0 × Stands place (option_row_bytes r.0) r.1) (ok_is (None, body) (row, after) e) (tt, tag)
option_row_only (suc zero) row place body after all tag e =
    let found = (row_part place.at).only row body after all e in
    let both = Stands-then place body after (1 ∷ []) (row_bytes found.0) tag found.3 in
    subst (λ (r : Option Row). FitsOptionRow r × Stands place (option_row_bytes r) after) (sym found.1) (found.2, both)
option_row_only (suc (suc tag)) row place body after all stands e = absurd cc

option_row_back : (row : Option Row) (at : ℕ) (rest : List ℕ) → FitsOptionRow row → option_row_at (record { at = at; rest = option_row_bytes row ++ rest }) ≡ Ok (row, record { at = at + length (option_row_bytes row); rest = rest })
unfolding option_row_at option_row_bytes
option_row_back None at rest fits = tag_back tagged_row 0 (λ (u : Unit {0}). None) (λ u. []) (λ u. Unit {0}) (λ place. no_part None) tt at rest tt
option_row_back (Some row) at rest fits = tag_back tagged_row 1 (λ r. Some r) row_bytes FitsRow row_part row at rest fits

pub option_row_exact : ReadsExactly option_row_at option_row_bytes FitsOptionRow
unfolding option_row_at
option_row_exact = record {
  back = option_row_back;
  only = λ row place after all e.
      let t = tag_only tagged_row row place after all e in
      option_row_only t.tag row place t.body after t.fits t.stands t.gave;
}

-- the parts of an image or a read behind its key
image_next : (how : KeyLayout) (last : Option Image) → ReadsExactly (next_image how last) (image_bytes_in how) (λ i. FitsImageIn how i × IsTrue (may_come image_follows last i))
unfolding next_image image_bytes_in
image_next how last = whole (image_bytes_in how) (λ i. FitsImageIn how i × IsTrue (may_come image_follows last i)) (λ (i : Image). (i.key, (i.before, i.after)))
    (part (next_key_exact how (option_map (λ (i : Image). i.key) last)) (λ key. part option_row_exact (λ before. last_part (λ after. record { key = key; before = before; after = after }) option_row_exact)))
    (λ i. refl) (λ i. refl) (λ t. refl)
    (λ i fits. ((fits.0.key, image_order last i fits.1), (fits.0.before, fits.0.after)))
    (λ t fits. (record { key = fits.0.0; before = fits.1.0; after = fits.1.1 }, key_order last (record { key = t.0; before = t.1.0; after = t.1.1 }) fits.0.1))

read_next : (how : KeyLayout) (last : Option ReadRow) → ReadsExactly (next_read how last) (read_bytes_in how) (λ r. FitsReadIn how r × IsTrue (may_come read_follows last r))
unfolding next_read read_bytes_in
read_next how last = whole (read_bytes_in how) (λ r. FitsReadIn how r × IsTrue (may_come read_follows last r)) (λ (r : ReadRow). (r.key, r.row))
    (part (next_key_exact how (option_map (λ (r : ReadRow). r.key) last)) (λ key. last_part (λ row. record { key = key; row = row }) row_exact))
    (λ r. refl) (λ r. refl) (λ t. refl)
    (λ r fits. ((fits.0.key, read_order last r fits.1), fits.0.row))
    (λ t fits. (record { key = fits.0.0; row = fits.1 }, read_key_order last (record { key = t.0; row = t.1 }) fits.0.1))

pub keys_exact : (how : KeyLayout) → ReadsExactly (keys_in how) (keys_bytes_in how) (FitsKeysIn how)
keys_exact how = list_exact is_below (next_key how) (key_bytes_in how) (FitsKeyIn how) (next_key_exact how)

pub images_exact : (how : KeyLayout) → ReadsExactly (images_in how) (images_bytes_in how) (FitsImagesIn how)
images_exact how = list_exact image_follows (next_image how) (image_bytes_in how) (FitsImageIn how) (image_next how)

pub reads_exact : (how : KeyLayout) → ReadsExactly (reads_in how) (reads_bytes_in how) (FitsReadsIn how)
reads_exact how = list_exact read_follows (next_read how) (read_bytes_in how) (FitsReadIn how) (read_next how)

-- in the layout that is written
pub written_keys_exact : ReadsExactly keys_at keys_bytes FitsKeys
written_keys_exact = keys_exact layout.Counted

pub written_images_exact : ReadsExactly images_at images_bytes FitsImages
written_images_exact = images_exact layout.Counted

pub written_reads_exact : ReadsExactly reads_at reads_bytes FitsReads
written_reads_exact = reads_exact layout.Counted

pub ticket_exact : ReadsExactly ticket_at ticket_bytes FitsTicket
unfolding ticket_at ticket_bytes
ticket_exact = whole ticket_bytes FitsTicket (λ (t : Ticket). (t.boot, t.seq))
    (part four_bytes_exact (λ boot. last_part (λ seq. record { boot = boot; seq = seq }) four_bytes_exact))
    (λ t. refl) (λ t. refl) (λ t. refl)
    (λ t fits. (fits.boot, fits.seq))
    (λ t fits. record { boot = fits.0; seq = fits.1 })
