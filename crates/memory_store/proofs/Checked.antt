-- Where two disks of one size stand after a checkpoint, or without one.
use Rattle.std.proofs.Common.{◌≡◌, ◌⊎◌, inl, inr, ℕ, ◌+◌, ◌-◌, ◌*◌, ◌^◌, ◌<◌, Bool, true, false, length, refl, sym, ◌∙◌, ap, arith}
use Rattle.std.specs.Prelude.{nat_lt, nat_le, ◌==◌, not, ◌&&◌, if◌then◌else◌}
use Rattle.std.proofs.lemmas.Bool.Decides.{nat_tests}
use Rattle.disk_model.specs.Disk.{DiskState}
use Rattle.seata_types.specs.declared.limits.TheConstants.{ACTS}
use Rattle.journal_checkpoint.specs.declared.layout.TheConstants.{AROUND}
use Rattle.journal_checkpoint.specs.declared.twin.Twin.{Twin}
use Rattle.journal_checkpoint.specs.Pairs.{chosen}
use Rattle.journal_checkpoint.specs.Images.{CannotCheckpoint}
use Rattle.journal_checkpoint.specs.Extents.{Extent, on_snapshot}
use Rattle.journal_checkpoint.specs.Keeping.{AreSized, active_disk, other_disk, first_disk, second_disk, generation_of, records_length, twin_extent}
use Rattle.memory_store.specs.Meanings.{Meaning}
use Rattle.memory_store.specs.Checkpoints.{checked, saving_by}
use Rattle.memory_store.specs.Settling.{CannotSettle, IsShort, IsWritable, RunsOn}

-- ---- sizes

both_sizes : {D : Type 0} (state : D → DiskState) (size : ℕ) (s : Bool) (x y : D) → (state (chosen s x y)).size ≡ size → (state (chosen s y x)).size ≡ size → ((state x).size ≡ size) × ((state y).size ≡ size)
both_sizes state size true x y one two = (two, one)
both_sizes state size false x y one two = (one, two)

module _ {D : Type 0} (state : D → DiskState) where
  sizes : (t : Twin D) (size : ℕ) → AreSized state t size → ((state (active_disk t)).size ≡ size) × ((state (other_disk t)).size ≡ size)
  sizes t size sized = both_sizes state size t.second (active_disk t) (other_disk t) sized.first sized.second

  pub sized_before : (old new : Twin D) → RunsOn (state (first_disk old)) (state (first_disk new)) → RunsOn (state (second_disk old)) (state (second_disk new)) → (size : ℕ) → AreSized state new size → AreSized state old size
  sized_before old new one two size sized = record { first = sym one.rest.kind.size ∙ sized.first; second = sym two.rest.kind.size ∙ sized.second }

-- ---- by the tests

both : (a b : Bool) → a ≡ true → b ≡ true → (a && b) ≡ true
both a b one two = rw one two

not_first : (a b : Bool) → a ≡ false → (a && b) ≡ false
not_first a b one = rw one refl

not_second : (a b : Bool) → b ≡ false → (a && b) ≡ false
not_second true b two = two
not_second false b two = refl

chosen_if : (b : Bool) (x e : Extent) → b ≡ true → (if b then x else e) ≡ x
chosen_if b x e is = rw is refl

kept_unless : (b : Bool) (x e : Extent) → b ≡ false → (if b then x else e) ≡ e
kept_unless b x e is = rw is refl

module _ {K I D : Type 0} (state : D → DiskState) (m : Meaning K I) (known : K) (t : Twin D) (size : ℕ) (sized : AreSized state t size) where
  abbrev count : ℕ
  count = length (m.snapshot_bytes known)

  -- the tests in their order
  abbrev long : Bool
  long = nat_lt size (2 * records_length t)

  abbrev few : Bool
  few = nat_lt (m.acts known) ACTS

  abbrev fits : Bool
  fits = nat_le (count + AROUND) size

  abbrev last : Bool
  last = generation_of t == 2 ^ 32 - 1

  abbrev settles : Bool
  settles = few && (m.can_write known && (fits && not last))

  active_size : (state (active_disk t)).size ≡ size
  active_size = (sizes state t size sized).0

  other_size : (state (other_disk t)).size ≡ size
  other_size = (sizes state t size sized).1

  short_or_cannot : IsShort state t ⊎ CannotSettle m state known t → (long && settles) ≡ false
  short_or_cannot (inl short) = let is : long ≡ false = grind (arith, nat_tests, active_size, short) in not_first long settles is
  short_or_cannot (inr (inl many)) = let is : few ≡ false = grind (arith, nat_tests, many) in not_second long settles (not_first few (m.can_write known && (fits && not last)) is)
  short_or_cannot (inr (inr (inl never))) = not_second long settles (not_second few (m.can_write known && (fits && not last)) (not_first (m.can_write known) (fits && not last) never))
  short_or_cannot (inr (inr (inr (inl large)))) =
      let is : fits ≡ false = grind (arith, nat_tests, other_size, large) in
      not_second long settles (not_second few (m.can_write known && (fits && not last)) (not_second (m.can_write known) (fits && not last) (not_first fits (not last) is)))
  short_or_cannot (inr (inr (inr (inr worn)))) =
      let is : last ≡ true = grind (arith, nat_tests, worn) in
      not_second long settles (not_second few (m.can_write known && (fits && not last)) (not_second (m.can_write known) (fits && not last) (not_second fits (not last) (ap not is))))

  -- no checkpoint is due, or none can be made
  pub stays : IsShort state t ⊎ CannotSettle m state known t → twin_extent t ≡ checked size (saving_by m known) (twin_extent t)
  stays why = sym (kept_unless (long && settles) (on_snapshot count (twin_extent t)) (twin_extent t) (short_or_cannot why))

  module _ (can : CannotCheckpoint (state (other_disk t)).size count (generation_of t) → ⊥) where
    it_fits : (b : Bool) → fits ≡ b → fits ≡ true
    it_fits true is = is
    it_fits false is = let large : (state (other_disk t)).size < count + AROUND = grind (arith, nat_tests, other_size, is) in absurd (can (inl large))

    not_worn : (b : Bool) → last ≡ b → not last ≡ true
    not_worn false is = ap not is
    not_worn true is = let worn : generation_of t ≡ 2 ^ 32 - 1 = grind (arith, nat_tests, is) in absurd (can (inr worn))

    -- one was made
    pub turns : IsWritable m known → (state (active_disk t)).size < 2 * records_length t → on_snapshot count (twin_extent t) ≡ checked size (saving_by m known) (twin_extent t)
    turns writable due =
        let is_due : long ≡ true = grind (arith, nat_tests, active_size, due) in
        let are_few : few ≡ true = grind (arith, nat_tests, writable.few) in
        sym (chosen_if (long && settles) (on_snapshot count (twin_extent t)) (twin_extent t)
        (both long settles is_due (both few (m.can_write known && (fits && not last)) are_few (both (m.can_write known) (fits && not last) writable.can (both fits (not last) (it_fits fits refl) (not_worn last refl))))))
