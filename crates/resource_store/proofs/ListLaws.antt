-- The lists of a resource's records are lawful.
use Rattle.std.proofs.Common.{◌≡◌, inr, ◌<◌, ◌+◌, ◌^◌, ℕ, Bool, true, false, if◌then◌else◌, List, ◌∷◌, length, Option, Some, None, option_map, refl, sym, ap, ◌∙◌, arith}
use Rattle.std.proofs.lemmas.Bool.{and_parts, ltb-true}
use Rattle.std.proofs.lemmas.List.Elements.{All-cons, All-head, All-tail}
use Rattle.byte_fields.specs.declared.layouts.KeyLayout.TheVariants as key
use Rattle.local_tables.specs.Rows.{Database}
use Rattle.durable_records.specs.declared.resources.ResourceRecord.{ResourceRecord}
use Rattle.durable_records.specs.ResourceOrder.{May}
use Rattle.memory_store.specs.Lists.{AreLawful}
use Rattle.memory_store.specs.Settling.{IsWritable}
use Rattle.memory_store.proofs.Lists.{holds_records}
use Rattle.resource_log.specs.declared.states.ResourceSnapshot.{ResourceSnapshot}
use Rattle.seata_types.specs.declared.limits.TheConstants.{ACTS}
use Rattle.resource_log.specs.Records.{FitsRecord, record_of, record_bytes}
use Rattle.resource_log.specs.Snapshots.{snapshot_in_bytes, snapshot_bytes}
use Rattle.resource_log.specs.SnapshotOf.{snapshot_of}
use Rattle.resource_log.specs.Soundness.{is_sound, if_sound}
use Rattle.resource_log.proofs.RecordLaws.{records_are_of_layouts}
use Rattle.resource_log.proofs.SnapshotLaws.{snapshots_are_of_layouts}
use Rattle.resource_memory.specs.Changes.{may_come}
use Rattle.resource_memory.specs.Keeping.{HasCounts, IsKept, has_room}
use Rattle.resource_memory.specs.Known.{Known, known_of}
use Rattle.resource_memory.specs.Snapshots.{snapshot_in, known_in}
use Rattle.resource_memory.proofs.RecordLaws.{applies, allows, keeps, saves_records, tables_of}
use Rattle.resource_memory.proofs.RowLaws.{opened_rows}
use Rattle.resource_memory.proofs.Saved.{saved_sound, read_back, saves_known}
use Rattle.resource_store.specs.Lawful.{lawful}
use Rattle.resource_store.specs.Laws.{DisksHoldRecords}
use Rattle.resource_store.specs.Meaning.{Setting, opening_of, meaning_of, known_in_bytes}
use Rattle.resource_store.specs.Standing.{AreMade, lists_of}

-- the bytes that are written of a record are that record
pub written_back : (r : ResourceRecord) → FitsRecord r → record_of (record_bytes r) ≡ Some r
written_back r fits = records_are_of_layouts.back key.Counted r fits

-- what has room in a snapshot has these counts
pub has_counts : (k : Known) → k.acts < ACTS → has_room k ≡ true → HasCounts k
has_counts k few room =
    let one = and_parts _ _ room in
    let two = and_parts _ _ one.1 in
    record { acts = few; rows = ltb-true (length k.tables.rows) (2 ^ 32) one.0; undos = ltb-true (length k.undo_log) (2 ^ 32) two.0; fences = ltb-true (length k.fences) (2 ^ 32) two.1 }

module _ (s : Setting) where
  abbrev db : Database
  db = opening_of s

  -- ---- a record more or less

  made_tail : (r : ResourceRecord) (rs : List ResourceRecord) → AreMade s (r ∷ rs) → AreMade s rs
  made_tail r rs m = record { opens = m.opens; allowed = m.allowed.0; writable = All-tail FitsRecord r rs m.writable; few = let few = m.few in omega (arith, few) }

  -- a record that may come and has its places
  pub goes_behind : (r : ResourceRecord) → FitsRecord r → (rs : List ResourceRecord) → AreMade s rs → may_come (known_of db rs) r ≡ true → length rs + 1 < 2 ^ 32 → AreMade s (r ∷ rs)
  goes_behind r fits rs made may few = record {
    opens = made.opens;
    allowed = (made.allowed, (allows db rs made.allowed r).0 may);
    writable = All-cons FitsRecord r rs fits made.writable;
    few = omega (arith, few);
  }

  not_allowed : (rs : List ResourceRecord) (r : ResourceRecord) → AreMade s rs → (May db rs r → ⊥) → (b : Bool) → may_come (known_of db rs) r ≡ b → b ≡ false
  not_allowed rs r made never true is = absurd (never ((allows db rs made.allowed r).0 is))
  not_allowed rs r made never false is = refl

  -- ---- a snapshot

  -- what records say stands in order
  pub kept_of : (rs : List ResourceRecord) → AreMade s rs → IsKept (known_of db rs)
  kept_of rs m = keeps db rs (opened_rows s.resource s.schema s.opening) m.writable m.allowed

  abbrev loads : Option ResourceSnapshot → Option Known
  loads o = option_map (known_in s.resource s.schema) (if_sound s.resource s.schema o)

  known_back : (k : Known) → IsKept k → k.acts < ACTS → k.tables.resource ≡ s.resource → k.tables.schema ≡ s.schema → loads (Some (snapshot_in k)) ≡ Some k
  known_back k kept few number schema =
      ap (λ (b : Bool). option_map (known_in s.resource s.schema) (if b then Some (snapshot_in k) else None))
      (ap (λ (n : ℕ). is_sound n s.schema (snapshot_in k)) (sym number) ∙ ap (λ t. is_sound k.tables.resource t (snapshot_in k)) (sym schema) ∙ saved_sound k kept few)
      ∙ ap (λ (x : Known). Some x) (ap (λ (n : ℕ). known_in n s.schema (snapshot_in k)) (sym number) ∙ ap (λ t. known_in k.tables.resource t (snapshot_in k)) (sym schema) ∙ read_back k kept)

  snapshot_back : (bytes : List ℕ) (rs : List ResourceRecord) → snapshot_in_bytes bytes ≡ Some (snapshot_of db rs) → length rs < ACTS → AreMade s rs → known_in_bytes s bytes ≡ Some (known_of db rs)
  snapshot_back bytes rs is few m =
      let t = tables_of db rs in
      ap loads is ∙ ap (λ (x : ResourceSnapshot). loads (Some x)) (sym (saves_records db rs m.allowed))
      ∙ known_back (known_of db rs) (kept_of rs m) few t.resource t.schema

  snapshot_written : (rs : List ResourceRecord) → AreMade s rs → IsWritable (meaning_of s) (known_of db rs) → snapshot_in_bytes (snapshot_bytes (snapshot_in (known_of db rs))) ≡ Some (snapshot_of db rs)
  snapshot_written rs m w =
      let k = known_of db rs in
      let sound = w.sound m.opens in
      snapshots_are_of_layouts.back key.Counted (snapshot_in k) (saves_known k sound.kept sound.fits (has_counts k w.few w.can)).fits
      ∙ ap (λ (x : ResourceSnapshot). Some x) (saves_records db rs m.allowed)

  -- ---- all

  pub lists_lawful : AreLawful (lists_of s)
  lists_lawful = record {
    lawful = lawful s;
    none = refl;
    counted = λ rs. refl;
    few = λ rs made. made.few;
    before = made_tail;
    read = λ r rs body made is. is;
    may = λ r rs made. (allows db rs made.allowed.0 r).1 (All-head FitsRecord r rs made.writable) made.allowed.1;
    next = λ r rs made. applies db rs made.allowed.0 r made.allowed.1;
    alike = λ body. inr refl;
    refused = λ r rs body made is never. not_allowed rs r made never (may_come (known_of db rs) r) refl;
    read_back = snapshot_back;
    written = snapshot_written;
    sized = λ rs qs same. ap (λ (x : ResourceSnapshot). x.acts) same;
  }

pub hold_records : DisksHoldRecords
hold_records t = holds_records (lists_of t) (lists_lawful t)
