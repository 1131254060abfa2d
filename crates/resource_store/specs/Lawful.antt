-- What always holds of a resource's records and snapshots.
use Rattle.std.proofs.Common.{◌≡◌, ◌<◌, ◌+◌, ℕ, Bool, true, false, if◌then◌else◌, All, List, [], Option, Some, None, option_map, refl, sym, subst, ◌∙◌}
use Rattle.std.proofs.lemmas.Bool.{and_parts, ltb-true}
use Rattle.std.proofs.lemmas.List.Elements.{recursion_from_All}
use Rattle.byte_fields.specs.Parts.{FitsNamedRow}
use Rattle.durable_records.specs.declared.resources.ResourceRecord.{ResourceRecord}
use Rattle.durable_records.specs.declared.resources.ResourceRecord.TheVariants as log
use Rattle.memory_store.specs.Meanings.{IsLawful}
use Rattle.resource_log.specs.declared.states.ResourceSnapshot.{ResourceSnapshot}
use Rattle.seata_types.specs.declared.limits.TheConstants.{ACTS}
use Rattle.resource_log.specs.Records.{record_of}
use Rattle.resource_log.specs.Snapshots.{snapshot_in_bytes}
use Rattle.resource_log.specs.SnapshotOf.{named_row}
use Rattle.resource_log.specs.Soundness.{is_sound, if_sound}
use Rattle.resource_log.proofs.OldLayouts.{record_writable, snapshot_writable}
use Rattle.resource_memory.specs.Changes.{after, may_come}
use Rattle.resource_memory.specs.Known.{Known, known_of}
use Rattle.resource_memory.specs.Snapshots.{known_in}
use Rattle.resource_memory.proofs.KeptLaws.{kept_at_opening}
use Rattle.resource_memory.proofs.Room.{stays}
use Rattle.resource_memory.proofs.RowLaws.{opened_rows, opened_as, all_of_opening}
use Rattle.resource_memory.proofs.Saved.{loads_sound}
use Rattle.resource_store.specs.Meaning.{Setting, Opens, IsOf, opening_of, meaning_of, known_in_bytes}

none_some_bot : {A : Type 0} (a : A) → None ≡ Some a → ⊥
none_some_bot a e = cc

one_more : (k : Known) (r : ResourceRecord) → (after r k).acts ≡ k.acts + 1
one_more k (log.Boot number) = refl
one_more k (log.Committed xid branch call images reads) = refl
one_more k (log.Undone xid branch) = refl
one_more k (log.Marked xid branch) = refl
one_more k (log.Cleared xid branch) = refl
one_more k (log.Tried xid branch call images) = refl
one_more k (log.Confirmed xid branch images) = refl
one_more k (log.Cancelled xid branch images) = refl
one_more k (log.Suspended xid branch) = refl
one_more k (log.LocalCommitted number images) = refl
one_more k (log.Outside number images) = refl

-- a record leaves the tables' number and schema
record SameTables (old new : Known) : Type 0 where
  pub resource : new.tables.resource ≡ old.tables.resource
  pub schema : new.tables.schema ≡ old.tables.schema

same_tables : (k : Known) (r : ResourceRecord) → SameTables k (after r k)
same_tables k (log.Boot number) = record { resource = refl; schema = refl }
same_tables k (log.Committed xid branch call images reads) = record { resource = refl; schema = refl }
same_tables k (log.Undone xid branch) = record { resource = refl; schema = refl }
same_tables k (log.Marked xid branch) = record { resource = refl; schema = refl }
same_tables k (log.Cleared xid branch) = record { resource = refl; schema = refl }
same_tables k (log.Tried xid branch call images) = record { resource = refl; schema = refl }
same_tables k (log.Confirmed xid branch images) = record { resource = refl; schema = refl }
same_tables k (log.Cancelled xid branch images) = record { resource = refl; schema = refl }
same_tables k (log.Suspended xid branch) = record { resource = refl; schema = refl }
same_tables k (log.LocalCommitted number images) = record { resource = refl; schema = refl }
same_tables k (log.Outside number images) = record { resource = refl; schema = refl }

module _ (s : Setting) where
  -- ---- what is read

  record Reads (o : Option ResourceSnapshot) (k : Known) : Type 0 where
    pub snapshot : ResourceSnapshot
    pub is : o ≡ Some snapshot
    pub sound : is_sound s.resource s.schema snapshot ≡ true
    pub knows : known_in s.resource s.schema snapshot ≡ k

  some_is : (a b : Known) → Some a ≡ Some b → a ≡ b
  some_is a b e = cc

  reads_by : (o : Option ResourceSnapshot) (k : Known) → option_map (known_in s.resource s.schema) (if_sound s.resource s.schema o) ≡ Some k → Reads o k
  reads_by None k e = absurd (none_some_bot k e)
  reads_by (Some x) k e = by (is_sound s.resource s.schema x) refl e
    where
      by : (b : Bool) → is_sound s.resource s.schema x ≡ b → option_map (known_in s.resource s.schema) (if b then Some x else None) ≡ Some k → Reads (Some x) k
      by true sound f = record { snapshot = x; is = refl; sound = sound; knows = some_is (known_in s.resource s.schema x) k f }
      by false sound f = absurd (none_some_bot k f)

  few_acts : (x : ResourceSnapshot) → is_sound s.resource s.schema x ≡ true → x.acts < ACTS
  unfolding is_sound
  few_acts x sound = ltb-true x.acts ACTS (and_parts _ _ (and_parts _ _ sound).0).0

  few : (bytes : List ℕ) (k : Known) → known_in_bytes s bytes ≡ Some k → k.acts < ACTS
  few bytes k e =
      let r = reads_by (snapshot_in_bytes bytes) k e in
      subst (λ (x : Known). x.acts < ACTS) r.knows (few_acts r.snapshot r.sound)

  sound_read : (bytes : List ℕ) (k : Known) → All (λ b. b < 256) bytes → known_in_bytes s bytes ≡ Some k → Opens s → IsOf s k
  sound_read bytes k small e opens =
      let r = reads_by (snapshot_in_bytes bytes) k e in
      let loaded = loads_sound s.resource s.schema r.snapshot r.sound (snapshot_writable bytes r.snapshot small r.is) in
      subst (λ (x : Known). IsOf s x) r.knows (record { kept = loaded.0; fits = loaded.1; resource = refl; schema = refl })

  -- ---- no records, and one more

  sound_empty : Opens s → IsOf s (known_of (opening_of s) [])
  sound_empty opens = record {
    kept = kept_at_opening (opening_of s) (opened_rows s.resource s.schema s.opening);
    fits = record {
      rows = all_of_opening s.resource s.schema (λ e. FitsNamedRow (named_row e)) FitsNamedRow
          (λ o e f row. subst FitsNamedRow (sym (opened_as s.resource s.schema o e f)) row) s.opening (recursion_from_All FitsNamedRow s.opening opens.fits);
      undos = tt;
      fences = tt;
      calls = tt;
    };
    resource = refl;
    schema = refl;
  }

  sound_after : (k : Known) (body : List ℕ) (r : ResourceRecord) → All (λ b. b < 256) body → record_of body ≡ Some r → may_come k r ≡ true → (Opens s → IsOf s k) → Opens s → IsOf s (after r k)
  sound_after k body r small is may before opens =
      let old = before opens in
      let next = stays k r old.kept may in
      let same = same_tables k r in
      record {
        kept = next.0;
        fits = next.1 old.fits (record_writable body r small is);
        resource = same.resource ∙ old.resource;
        schema = same.schema ∙ old.schema;
      }

pub lawful : (s : Setting) → IsLawful (meaning_of s)
lawful s = record {
  none = refl;
  one_more = λ k r may. one_more k r;
  few = few s;
  sound_empty = sound_empty s;
  sound_read = sound_read s;
  sound_after = sound_after s;
}
