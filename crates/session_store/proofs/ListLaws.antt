-- The lists of a coordinator's records are lawful.
use Rattle.std.proofs.Common.{◌≡◌, ◌⊎◌, inl, inr, ◌<◌, ◌+◌, ◌^◌, ℕ, Bool, true, false, if◌then◌else◌, List, ◌∷◌, length, Option, Some, None, refl, sym, ap, ◌∙◌, arith}
use Rattle.std.specs.List.{list_all}
use Rattle.durable_records.specs.declared.coordinators.SessionRecord.{SessionRecord}
use Rattle.durable_records.specs.SessionOrder.{is_within, may}
use Rattle.session_log.specs.declared.sessions.Snapshot.{Snapshot}
use Rattle.session_log.specs.declared.layouts.SnapshotLayout.TheVariants as layout
use Rattle.seata_types.specs.declared.limits.TheConstants.{ACTS}
use Rattle.session_log.specs.Records.{FitsRecord, record_of, record_bytes}
use Rattle.session_log.specs.Snapshots.{snapshot_in_bytes}
use Rattle.session_log.specs.SnapshotOf.{snapshot_of}
use Rattle.session_log.specs.Soundness.{if_sound}
use Rattle.session_log.proofs.RecordLaws.{records_are_of_layouts}
use Rattle.session_log.proofs.SnapshotLaws.{snapshots_are_of_layouts}
use Rattle.session_log.proofs.SoundSnapshots.{snapshots_are_sound}
use Rattle.byte_fields.specs.declared.layouts.KeyLayout.TheVariants as key
use Rattle.memory_store.specs.Lists.{AreLawful}
use Rattle.session_memory.specs.Changes.{may_come}
use Rattle.session_memory.proofs.Small.{and_left, and_right, and_both}
use Rattle.session_memory.proofs.StepLaws.{snapshot_after}
use Rattle.session_memory.proofs.LookupLaws.{may_alike}
use Rattle.session_memory.proofs.LoadLaws.{loads_allowed}
use Rattle.session_memory.proofs.WritingLaws.{snapshot_written}
use Rattle.session_memory.specs.Writing.{if_within, if_held_once}
use Rattle.session_store.specs.Meaning.{lawful}
use Rattle.session_store.specs.Standing.{AreMade, lists_of}

-- the bytes that are written of a record are that record
pub written_back : (r : SessionRecord) → FitsRecord r → record_of (record_bytes r) ≡ Some r
written_back r fits = records_are_of_layouts.back key.Counted r fits

module _ (managers resources : ℕ) where
  abbrev all_within : List SessionRecord → Bool
  all_within = list_all (is_within managers resources)

  -- ---- a record more or less

  made_tail : (r : SessionRecord) (rs : List SessionRecord) → AreMade managers resources (r ∷ rs) → AreMade managers resources rs
  made_tail r rs m = record { allowed = m.allowed.0; within = and_right (is_within managers resources r) (all_within rs) m.within; few = let few = m.few in omega (arith, few) }

  -- a record that may come, of the scenario's numbers
  pub goes_behind : (r : SessionRecord) → is_within managers resources r ≡ true → (rs : List SessionRecord) → AreMade managers resources rs → may_come (snapshot_of rs) r ≡ true → length rs + 1 < 2 ^ 32
      → AreMade managers resources (r ∷ rs)
  goes_behind r within rs made may few = record {
    allowed = (made.allowed, sym (may_alike rs made.allowed r) ∙ may);
    within = and_both (is_within managers resources r) (all_within rs) within made.within;
    few = omega (arith, few);
  }

  -- ---- which are read

  within_is : (o : Option SessionRecord) (r : SessionRecord) → o ≡ Some r → is_within managers resources r ≡ true → if_within managers resources o ≡ Some r
  within_is o r is within = ap (if_within managers resources) is ∙ ap (λ (b : Bool). if b then Some r else None) within

  -- a record that was written is read, where its numbers are those of the scenario
  pub read_within : (r : SessionRecord) (body : List ℕ) → FitsRecord r → body ≡ record_bytes r → is_within managers resources r ≡ true → if_within managers resources (record_of body) ≡ Some r
  read_within r body fits is = within_is (record_of body) r (ap record_of is ∙ written_back r fits)

  alike : (o : Option SessionRecord) → (if_within managers resources o ≡ None) ⊎ (if_within managers resources o ≡ o)
  alike None = inl refl
  alike (Some r) = by (is_within managers resources r)
    where
      by : (b : Bool) → ((if b then Some r else None) ≡ None) ⊎ ((if b then Some r else None) ≡ Some r)
      by true = inr refl
      by false = inl refl

  -- no other numbers are
  not_without : (o : Option SessionRecord) (r : SessionRecord) → if_within managers resources o ≡ Some r → is_within managers resources r ≡ false → ⊥
  not_without None r is without = cc
  not_without (Some q) r is without = by (is_within managers resources q) refl is
    where
      by : (b : Bool) → is_within managers resources q ≡ b → (if b then Some q else None) ≡ Some r → ⊥
      by true within is = cc
      by false within is = cc

  refused : (r : SessionRecord) (rs : List SessionRecord) (body : List ℕ) → AreMade managers resources rs → if_within managers resources (record_of body) ≡ Some r
      → (is_within managers resources r ≡ false) ⊎ (may rs r ≡ false) → may_come (snapshot_of rs) r ≡ false
  refused r rs body made is (inl without) = absurd (not_without (record_of body) r is without)
  refused r rs body made is (inr refuses) = may_alike rs made.allowed r ∙ refuses

  read_back : (bytes : List ℕ) (rs : List SessionRecord) → snapshot_in_bytes bytes ≡ Some (snapshot_of rs) → length rs < ACTS → AreMade managers resources rs →
      if_held_once (if_sound managers resources (snapshot_in_bytes bytes)) ≡ Some (snapshot_of rs)
  read_back bytes rs is few m =
      ap (λ (o : Option Snapshot). if_held_once (if_sound managers resources o)) is
      ∙ ap (λ (b : Bool). if_held_once (if b then Some (snapshot_of rs) else None)) (snapshots_are_sound managers resources rs m.allowed m.within few)
      ∙ ap (λ (b : Bool). if b then Some (snapshot_of rs) else None) ((loads_allowed rs m.allowed).once)

  -- ---- all

  pub lists_lawful : AreLawful (lists_of managers resources)
  lists_lawful = record {
    lawful = lawful managers resources;
    none = refl;
    counted = λ rs. refl;
    few = λ rs made. made.few;
    before = made_tail;
    read = λ r rs body made is. within_is (record_of body) r is (and_left (is_within managers resources r) (all_within rs) made.within);
    may = λ r rs made. may_alike rs made.allowed.0 r ∙ made.allowed.1;
    next = λ r rs made. snapshot_after rs made.allowed.0 r made.allowed.1;
    alike = λ body. alike (record_of body);
    refused = refused;
    read_back = read_back;
    written = λ rs made w. snapshots_are_of_layouts.back layout.WithForgotten (snapshot_of rs) (snapshot_written (snapshot_of rs) w.can w.few w.sound);
    sized = λ rs qs same. ap (λ (s : Snapshot). s.acts) same;
  }
