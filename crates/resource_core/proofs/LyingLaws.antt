-- Where the journal of a resource stands after an entry.
use Rattle.std.proofs.Common.{◌≡◌, inl, inr, ◌≤◌, ℕ, Bool, true, false, List, length, Option, Some, None, refl, sym, ap, subst, ◌∙◌}
use Rattle.disk_model.specs.Disk.{DiskState, IsLawful, SameKind}
use Rattle.journal_checkpoint.specs.declared.twin.Twin.{Twin}
use Rattle.journal_checkpoint.specs.declared.types.Found.{Found}
use Rattle.journal_checkpoint.specs.Extents.{Extent, extent_of, longer, needed}
use Rattle.journal_checkpoint.specs.Keeping.{AreSized, active_disk, other_disk, first_disk, second_disk, disks, needed_for, twin_extent}
use Rattle.journal_checkpoint.specs.Pairs.{chosen}
use Rattle.journal_checkpoint.proofs.Kept.{kept_pairs}
use Rattle.memory_store.specs.Checkpoints.{Saving, checked, saving_by}
use Rattle.memory_store.specs.Keeping.{IsOf}
use Rattle.memory_store.proofs.Damages.{same_found}
use Rattle.memory_store.proofs.TwinFacts.{pairs_now}
use Rattle.seata_types.specs.declared.acts.Act.{Act}
use Rattle.seata_types.specs.declared.acts.Act.TheVariants as act
use Rattle.seata_types.specs.declared.acts.Durable.{Durable}
use Rattle.local_tables.specs.Rows.{Database}
use Rattle.durable_records.specs.declared.resources.ResourceRecord.{ResourceRecord}
use Rattle.durable_records.specs.declared.resources.ResourceRecord.TheVariants as log
use Rattle.history_rules.specs.Own.{Own, Left}
use Rattle.history_rules.specs.Devices.{is_down}
use Rattle.history_rules.specs.ResourceMemory.{Setup, memory, opening_tables}
use Rattle.node_steps.specs.Ends.{behind, boot_or, extent, resource_recording, resource_saving}
use Rattle.resource_log.specs.Records.{fields_bytes, record_bytes}
use Rattle.resource_memory.specs.Known.{Known, known_of}
use Rattle.resource_store.specs.declared.store.Store.{Store}
use Rattle.resource_store.specs.Keeping.{AtOrBehind, KeepsRecords, Loses, StandsAt, known, setting_of, twin}
use Rattle.resource_store.specs.Meaning.{Setting, meaning_of, opening_of}
use Rattle.resource_store.specs.Openings.{boot_length}
use Rattle.resource_core.specs.Lying.{AtEither, Lies}
use Rattle.resource_core.proofs.NodeDisks.{false_true, is_still}

-- ---- the record of an entry

same_record : (q r : ResourceRecord) → Some q ≡ Some r → q ≡ r
same_record q r e = cc

-- one that has a place is the one that the entry makes
pub fits_for : (e : Extent) (size : ℕ) (made : Option ResourceRecord) (q : ResourceRecord) → made ≡ Some q → needed e (length (record_bytes q)) ≤ size
    → (r : ResourceRecord) → made ≡ Some r → needed e (length (record_bytes r)) ≤ size
fits_for e size made q is room r some = subst (λ (z : ResourceRecord). needed e (length (record_bytes z)) ≤ size) (same_record q r (sym is ∙ some)) room

-- it makes none
pub fits_none : {X : Type 0} (made : Option ResourceRecord) → made ≡ None → (r : ResourceRecord) → made ≡ Some r → X
fits_none made none r some = absurd (let no : None ≡ Some r = sym none ∙ some in cc)

-- the record of a boot has as many bytes for each number
pub boot_bytes : (number : ℕ) → length (record_bytes (log.Boot number)) ≡ boot_length
unfolding fields_bytes
boot_bytes number = refl

module _ (left : Left ResourceRecord) (asked : Option ResourceRecord) where
  pub boot_still : (a : Act) → is_still a ≡ true → boot_or a left asked ≡ asked
  boot_still (act.Restarted kept) e = false_true e
  boot_still _ e = refl

  pub boot_durable : (a : Act) (d : Durable) → a ≡ act.Durable d → boot_or a left asked ≡ asked
  boot_durable a d is = ap (λ (k : Act). boot_or k left asked) is

  -- the journal stays, or stands behind the record
  module _ (setup : Setup) (past : List ResourceRecord) (start : Extent) (size : ℕ) (e : Extent) where
    abbrev moved_by : Act → Option ResourceRecord → Extent
    moved_by a made = behind (resource_recording setup past) start size a made e

    pub behind_still : (a : Act) (made : Option ResourceRecord) → is_still a ≡ true → moved_by a made ≡ e
    behind_still (act.Durable done) made is = false_true is
    behind_still (act.Restarted kept) made is = false_true is
    behind_still _ made is = refl

    pub behind_durable : (a : Act) (d : Durable) (q : ResourceRecord) → a ≡ act.Durable d → asked ≡ Some q → moved_by a (boot_or a left asked) ≡ longer (length (record_bytes q)) e
    behind_durable a d q is some = ap (λ (k : Act). moved_by k (boot_or k left asked)) is ∙ ap (moved_by (act.Durable d)) some

-- ---- sizes

module _ {D : Type 0} (state : D → DiskState) (size : ℕ) where
  active_by : (second : Bool) (x y : D) → (state (chosen second x y)).size ≡ size → (state (chosen second y x)).size ≡ size → (state x).size ≡ size
  active_by true x y one two = two
  active_by false x y one two = one

  active_size : (t : Twin D) → AreSized state t size → (state (active_disk t)).size ≡ size
  active_size t sized = active_by t.second (active_disk t) (other_disk t) sized.first sized.second

  -- what two disks are stays
  pub sized_after : (old new : Twin D) → SameKind (state (first_disk old)) (state (first_disk new)) → SameKind (state (second_disk old)) (state (second_disk new)) → AreSized state old size → AreSized state new size
  sized_after old new one two sized = record { first = one.size ∙ sized.first; second = two.size ∙ sized.second }

  -- what is said of where a record would end and of the active disk's size, by where the journal stands
  pub at_there : (P : ℕ → ℕ → Type 0) (s : Store D) (e : Extent) (body : ℕ) → twin_extent (twin s) ≡ e → AreSized state (twin s) size → P (needed_for (twin s) body) (state (active_disk (twin s))).size → P (needed e body) size
  at_there P s e body is sized said =
      subst (λ (x : Extent). P (needed x body) size) is (subst (λ (n : ℕ). P (needed (twin_extent (twin s)) body) n) (active_size (twin s) sized) said)

-- ---- what the disks hold

module _ {D : Type 0} (state : D → DiskState) (law : (d : D) → IsLawful (state d)) where
  -- each pair of images of a store that keeps records has these, with the journal where it stands
  pub stands_there : (t : Setting) (rs : List ResourceRecord) (s : Store D) (e : Extent) → KeepsRecords state t rs s → twin_extent (twin s) ≡ e
      → (a b : List ℕ) → (state (first_disk (twin s))).may_leave a → (state (second_disk (twin s))).may_leave b → StandsAt t rs e a b
  stands_there t rs s e k is a b one two = (
    record { found = k.found; pair = pairs_now state (disks state (twin s)) (twin s) (kept_pairs state law k.found (twin s) k.kept.pair) a b one two; list = k.list },
    sym k.kept.pair.extent ∙ is,
  )

  module _ (setup : Setup) (past : List ResourceRecord) (start : Extent) (size : ℕ) (os : List Own) where
    -- it keeps all that the entries leave
    pub lies_up : (s : Store D) → AreSized state (twin s) size → KeepsRecords state (setting_of s) (memory setup past os).left.records s → twin_extent (twin s) ≡ extent (resource_recording setup past) start size os
        → Lies state s setup past start size os
    lies_up s sized keeps is = record {
      sized = sized;
      up = λ e. is;
      images = λ a b one two. inl (stands_there (setting_of s) (memory setup past os).left.records s (extent (resource_recording setup past) start size os) keeps is a b one two);
    }

module _ {D : Type 0} (state : D → DiskState) where
  -- a record is in flight, behind the others
  pub flies_behind : (s s' : Store D) (rs : List ResourceRecord) (q : ResourceRecord) (e : Extent) → setting_of s' ≡ setting_of s → twin_extent (twin s) ≡ e → Loses state q rs s s'
      → (a b : List ℕ) → (state (first_disk (twin s'))).may_leave a → (state (second_disk (twin s'))).may_leave b → AtEither (setting_of s') (record { records = rs; flight = Some q }) e a b
  flies_behind s s' rs q e same is l a b one two =
      subst (λ (x : Extent). AtEither (setting_of s') (record { records = rs; flight = Some q }) x a b) is
      (subst (λ (t : Setting). AtEither t (record { records = rs; flight = Some q }) (twin_extent (twin s)) a b) (sym same)
      (by (pairs_now state (disks state (twin s)) (twin s') l.any_moment a b one two)))
    where
      by : AtOrBehind (setting_of s) q rs (twin_extent (twin s)) a b → AtEither (setting_of s) (record { records = rs; flight = Some q }) (twin_extent (twin s)) a b
      by (inl h) = inl h
      by (inr h) = inr (q, refl, h)

  -- an entry at which nothing changes
  pub lies_still : (s : Store D) (setup : Setup) (past : List ResourceRecord) (start : Extent) (size : ℕ) (os os' : List Own) → is_down os' ≡ is_down os → (memory setup past os').left ≡ (memory setup past os).left
      → extent (resource_recording setup past) start size os' ≡ extent (resource_recording setup past) start size os → Lies state s setup past start size os → Lies state s setup past start size os'
  lies_still s setup past start size os os' down left still l = record {
    sized = l.sized;
    up = λ e. l.up (sym down ∙ e) ∙ sym still;
    images = λ a b one two.
        subst (λ (w : Left ResourceRecord). AtEither (setting_of s) w (extent (resource_recording setup past) start size os') a b) (sym left)
        (subst (λ (e : Extent). AtEither (setting_of s) (memory setup past os).left e a b) (sym still) (l.images a b one two));
  }

-- ---- disks that were read

module _ {D : Type 0} (state : D → DiskState) (t : Setting) (setup : Setup) (opens : opening_of t ≡ opening_tables setup) (s : Store D) (a b : List ℕ) (is : IsOf state (meaning_of t) a b s.kept)
    (size : ℕ) (sized : AreSized state (twin s) size) where
  abbrev saved : Database → List ResourceRecord → Saving
  saved db rs = saving_by (meaning_of t) (known_of db rs)

  same_saving : (rs : List ResourceRecord) → known s ≡ known_of (opening_of t) rs → saving_by (meaning_of t) (known s) ≡ resource_saving setup rs
  same_saving rs knows = ap (λ (k : Known). saving_by (meaning_of t) k) knows ∙ ap (λ (db : Database). saved db rs) opens

  -- a snapshot came in place of their records where one was due
  pub loaded : (rs : List ResourceRecord) (e : Extent) → StandsAt t rs e a b → known s ≡ known_of (opening_of t) rs → twin_extent (twin s) ≡ checked size (resource_saving setup rs) e
  loaded rs e h knows =
      let found : is.found ≡ h.0.found = same_found a b is.found h.0.found is.stands h.0.pair in
      is.extent size sized ∙ ap (λ (v : Saving). checked size v (extent_of is.found)) (same_saving rs knows)
      ∙ ap (λ (f : Found). checked size (resource_saving setup rs) (extent_of f)) found ∙ ap (checked size (resource_saving setup rs)) h.1
