-- Reads in a row, and what they find at a gate.
use Rattle.std.proofs.Common.{◌≡◌, ◌≢◌, ℕ, ◌+◌, ◌<◌, ◌≤◌, Some, Ok, Err, List, [], ◌∷◌, ◌++◌, length, get_or, take, drop, refl, sym, ◌∙◌, ap, arith, length-drop}
use Rattle.std.specs.Prelude.{option_map}
use Rattle.std.specs.Int.{w32, from_be_bytes}
use Rattle.std.proofs.lemmas.List.{drop_more, drop-drop, get_or-take, get_or-drop}
use Rattle.seata_types.specs.declared.limits.TheConstants.{BODY_BYTES}
use Rattle.disk_journal.specs.Reading.{Closed, Record, Damage, number_in, record_in, found, record_length, row_length, reading}
use Rattle.disk_journal.proofs.Rows.{AreRecords, take_then, one_record, found_record, more_records, row_length-append, row_reads, damaged_reads, found_closed, found_open, record_whole, record_long, record_cut, number_is}
use Rattle.disk_model.specs.Disk.{DiskState, Content, IsLawful, IsSettled, present}
use Rattle.disk_model.proofs.Calls.{leaves_same, leaves_weaker, leaves_then, keeps_rest_then}
use Rattle.disk_journal.specs.Keeping.{StandsFor, Holds, OnlyReads, IsFoundAt, IsDamageIn}
use Rattle.disk_journal.specs.declared.errors.JournalError.{JournalError}
use Rattle.disk_journal.specs.declared.errors.JournalError.TheVariants as why

pub no_reads : (disk : DiskState) → OnlyReads disk disk
no_reads disk = record {
  content = record { content = refl; images = λ c left. left; outcomes = λ pick c back. back };
  images = leaves_same (λ c left. left);
  rest = record { kind = record { size = refl; tells_images = refl; tells_moments = refl }; last_pick = refl };
  faults = omega arith;
  own = omega arith;
  left = refl;
}

pub reads_then : {first second third : DiskState} → OnlyReads first second → OnlyReads second third → OnlyReads first third
reads_then one two = record {
  content = record { content = two.content.content ∙ one.content.content; images = λ c left. two.content.images c (one.content.images c left); outcomes = λ pick c back. one.content.outcomes pick c (two.content.outcomes pick c back) };
  images = leaves_then one.images (leaves_weaker two.images one.images.now);
  rest = keeps_rest_then one.rest two.rest;
  faults = omega (arith, one.faults, two.faults);
  own = omega (arith, one.own, two.own);
  left = two.left ∙ one.left;
}

pub still_present : {old new : DiskState} (c : List ℕ) → OnlyReads old new → present old ≡ Some c → present new ≡ Some c
still_present c reads is = ap (option_map (λ (k : Content). k.present)) reads.content.content ∙ is

pub present_size : {disk : DiskState} (c : List ℕ) → IsLawful disk → present disk ≡ Some c → length c ≡ disk.size
present_size c lawful is = lawful.full_size c (lawful.present_may_stay c is)

-- What stands at a gate, by what was read there: one byte, four bytes behind it, and a body behind those.
module _ (c : List ℕ) (gate : ℕ) (inside : gate < length c) (first : List ℕ) (one : length first ≡ 1) (first_read : first ≡ take (length first) (drop gate c)) where
  gate_is : get_or first 0 0 ≡ get_or c gate 0
  gate_is =
      ap (λ (l : List ℕ). get_or l 0 0) first_read ∙ get_or-take (length first) (drop gate c) 0 0 (omega arith) ∙ get_or-drop gate c 0 0 ∙ ap (λ (k : ℕ). get_or c k 0) (omega arith)

  pub closed_at : get_or first 0 0 ≢ 1 → found (drop gate c) ≡ Closed
  closed_at shut = ap found (drop_more c gate 0 inside) ∙ found_closed (get_or c gate 0) (drop (gate + 1) c) (λ is. shut (gate_is ∙ is))

  module _ (open_gate : get_or first 0 0 ≡ 1) where
    opened_at : found (drop gate c) ≡ record_in (drop (gate + 1) c)
    opened_at =
        ap found (drop_more c gate 0 inside ∙ ap (λ (g : ℕ). g ∷ drop (gate + 1) c) (sym gate_is ∙ open_gate)) ∙ found_open (drop (gate + 1) c)

    pub short_at : length c < gate + 6 → found (drop gate c) ≡ Damage
    short_at short = opened_at ∙ record_cut (drop (gate + 1) c) (omega (arith, length-drop (gate + 1) c))

    module _ (head : List ℕ) (four : length head ≡ 4) (head_read : head ≡ take (length head) (drop (gate + 1) c)) where
      count_is : number_in (drop (gate + 1) c) ≡ from_be_bytes w32 head
      count_is = number_is (drop (gate + 1) c) ∙ ap (from_be_bytes w32) (ap (λ (n : ℕ). take n (drop (gate + 1) c)) (sym four) ∙ sym head_read)

      pub long_at : (count : ℕ) → count ≡ from_be_bytes w32 head → BODY_BYTES < count → found (drop gate c) ≡ Damage
      long_at count is long = opened_at ∙ record_long (drop (gate + 1) c) (omega (arith, count_is, is))

      pub cut_at : (count : ℕ) → count ≡ from_be_bytes w32 head → length c < gate + count + 6 → found (drop gate c) ≡ Damage
      cut_at count is cut = opened_at ∙ record_cut (drop (gate + 1) c) (omega (arith, count_is, is, length-drop (gate + 1) c))

      pub record_at : (body : List ℕ) → length body ≡ from_be_bytes w32 head → length body ≤ BODY_BYTES → gate + length body + 6 ≤ length c → body ≡ take (length body) (drop (gate + 5) c) → found (drop gate c) ≡ Record body
      record_at body is small fits body_read =
          let count : number_in (drop (gate + 1) c) ≡ length body = count_is ∙ sym is in
          let behind : drop 4 (drop (gate + 1) c) ≡ drop (gate + 5) c = drop-drop 4 (gate + 1) c ∙ ap (λ (k : ℕ). drop k c) (omega arith) in
          let body_is : take (number_in (drop (gate + 1) c)) (drop 4 (drop (gate + 1) c)) ≡ body = ap (λ (n : ℕ). take n (drop 4 (drop (gate + 1) c))) count ∙ ap (take (length body)) behind ∙ sym body_read in
          opened_at ∙ record_whole (drop (gate + 1) c) (omega (arith, count)) (omega (arith, count, length-drop (gate + 1) c)) ∙ ap (λ (l : List ℕ). Record l) body_is

-- One more record was found behind others, or a closed gate, or damage.
module _ (c : List ℕ) (from : ℕ) (bodies : List (List ℕ)) (gate : ℕ) (is_gate : gate ≡ from + row_length bodies) (inside : gate < length c) (are : AreRecords bodies (take (row_length bodies) (drop from c))) where
  tail_is : drop gate c ≡ drop (row_length bodies) (drop from c)
  tail_is = ap (λ (k : ℕ). drop k c) (omega (arith, is_gate)) ∙ sym (drop-drop (row_length bodies) from c)

  pub next_records : (body : List ℕ) → found (drop gate c) ≡ Record body → AreRecords (bodies ++ body ∷ []) (take (row_length (bodies ++ body ∷ [])) (drop from c))
  next_records body is =
      let one = one_record body _ (found_record (drop gate c) body is) in
      let n = row_length bodies in
      let size : row_length (bodies ++ body ∷ []) ≡ n + record_length body = omega (arith, row_length-append bodies (body ∷ [])) in
      rw (size, take_then n (record_length body) (drop from c) (omega (arith, is_gate, length-drop from c)), ← tail_is) (more_records bodies (body ∷ []) _ _ are one)

  pub end_reads : found (drop gate c) ≡ Closed → reading from (drop from c) ≡ Ok bodies
  end_reads is = row_reads from bodies (drop from c) (record { records = are; closed = ap found (sym tail_is) ∙ is })

  damage_reads : found (drop gate c) ≡ Damage → reading from (drop from c) ≡ Err gate
  damage_reads is = rw is_gate (damaged_reads from bodies (drop from c) are (omega (arith, is_gate, length-drop from c)) (ap found (sym tail_is) ∙ is))

  pub damage_in : (e : JournalError) → IsFoundAt gate c (Err e) → IsDamageIn from c e
  damage_in (why.Damaged at) is = rw is.0 (damage_reads is.1)
  damage_in (why.Failed) is = tt
  damage_in (why.NoMemory) is = tt

-- reads change neither what stands on a settled disk nor that it is settled
pub holds_after : {old new : DiskState} (from : ℕ) (bodies : List (List ℕ)) → IsSettled old → OnlyReads old new → ((c : List ℕ) → present old ≡ Some c → StandsFor from bodies c) → Holds new from bodies
holds_after from bodies settled reads stands = record {
  settled = λ c left. still_present c reads (settled c (reads.images.now c left));
  images = λ c left. stands c (settled c (reads.images.now c left));
}
