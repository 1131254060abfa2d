-- What the calls of a store say of lists of records.
use Rattle.std.proofs.Common.{◌≡◌, ◌⊎◌, inl, inr, ⊎_elim, ◌<◌, ◌+◌, ◌^◌, ℕ, Bool, true, false, List, ◌∷◌, length, Option, Some, Result, Ok, Err, refl, sym, ap, subst, ◌∙◌, IsTrue, ◌↔◌, arith}
use Rattle.std.specs.Prelude.{OnOk}
use Rattle.disk_model.specs.Disk.{DiskState, IsLawful}
use Rattle.seata_types.specs.declared.errors.Full.{Full}
use Rattle.seata_types.specs.declared.errors.OpenError.{OpenError}
use Rattle.seata_types.specs.declared.errors.StoreError.{StoreError}
use Rattle.seata_types.specs.declared.errors.StoreError.TheVariants as store_error
use Rattle.journal_checkpoint.specs.declared.types.Found.{Found}
use Rattle.journal_checkpoint.specs.Images.{PairStandsFor, LeavesPairs, Either, with_record}
use Rattle.journal_checkpoint.specs.Extents.{Extent, extent_of, longer}
use Rattle.journal_checkpoint.specs.Keeping.{KeepsPair, disks, first_disk, second_disk, twin_extent}
use Rattle.journal_checkpoint.proofs.Kept.{found_behind, kept_pairs}
use Rattle.memory_store.specs.declared.store.Store.{Store}
use Rattle.memory_store.specs.Meanings.{Meaning}
use Rattle.memory_store.specs.Holdings.{held_in}
use Rattle.memory_store.specs.Settling.{KeepsOrSettled, settled}
use Rattle.memory_store.specs.Keeping.{HasRoomFor, IsFullFor, IsRead, IsOf, IsBack, IsTold, memory_of, twin_of, is_down}
use Rattle.memory_store.specs.Adding as body
use Rattle.memory_store.specs.Lists.{Lists, AreLawful, IsListOf, StandsForList}
use Rattle.memory_store.specs.ListKeeping.{KeepsRecords, StandsAt, AtOrBehind, LeavesEither, HasRoom, Adds, Makes, Moves, has_failed, Changes, BringsBack}
use Rattle.memory_store.proofs.Damages.{same_found}
use Rattle.memory_store.proofs.Replaying.{known_is, few_acts, rows_are_long}
use Rattle.memory_store.proofs.TwinFacts.{end_is_small, pairs_now, pairs_weaker}
use Rattle.memory_store.proofs.Lists.{held_of_list, knows_list, list_more, settled_list}

-- ---- small

not_down : {A : Type 0} (b : Bool) → IsTrue b ↔ A → (A → ⊥) → b ≡ false
not_down true both never = absurd (never (both.0 refl))
not_down false both never = refl

pub down_by : (b : Bool) (result : Result (Unit {0}) StoreError) → IsTrue b ↔ (result ≡ Err store_error.Failed) → b ≡ has_failed result
down_by b (Ok done) both = not_down b both (λ e. cc)
down_by b (Err store_error.Failed) both = both.1 refl
down_by b (Err (store_error.Full full)) both = not_down b both (λ e. cc)
down_by b (Err store_error.NoMemory) both = not_down b both (λ e. cc)

module _ {K I S : Type 0} (l : Lists K I S) (laws : AreLawful l) where
  abbrev m : Meaning K I
  m = l.meaning

  module _ {M D : Type 0} (state : D → DiskState) where
    -- no disk has room for as many records as can't be counted
    pub counts_more : (rs : List I) (s : Store M K D) → KeepsRecords state l rs s → m.acts (memory_of s) + 1 < 2 ^ 32
    counts_more rs s k = omega (
      arith,
      few_acts m laws.lawful k.found (memory_of s) k.kept.held,
      rows_are_long k.found.records,
      end_is_small state k.found (twin_of s) k.kept.pair,
    )

    -- ---- one record more

    module _ (old new : Store M K D) (r : I) (bytes : List ℕ) (is : bytes ≡ l.bytes_of r) (reads : l.reading.record_of bytes ≡ Some r) (may : m.may_come (memory_of old) r ≡ true)
        (goes_behind : (rs : List I) → l.AreMade rs → m.may_come (l.says rs) r ≡ true → length rs + 1 < 2 ^ 32 → l.AreMade (r ∷ rs)) where
      -- where their journal stands
      abbrev there : Extent
      there = twin_extent (twin_of old)

      module _ (rs : List I) (k : KeepsRecords state l rs old) where
        more : IsListOf l (r ∷ rs) (with_record k.found bytes)
        more = list_more l laws rs k.found r bytes k.list reads
            (goes_behind rs k.list.made (ap (λ (x : K). m.may_come x r) (sym k.knows) ∙ may) (omega (arith, counts_more rs old k, ap m.acts k.knows, laws.counted rs)))

        old_there : extent_of k.found ≡ there
        old_there = sym k.kept.pair.extent

        more_there : extent_of (with_record k.found bytes) ≡ longer (length (l.bytes_of r)) there
        more_there = found_behind k.found bytes ∙ ap (λ (b : List ℕ). longer (length b) (extent_of k.found)) is ∙ ap (λ (e : Extent). longer (length (l.bytes_of r)) e) old_there

        stands_old : (a b : List ℕ) → PairStandsFor k.found a b → StandsAt l rs there a b
        stands_old a b pair = (record { found = k.found; pair = pair; list = k.list }, old_there)

        stands_either : (a b : List ℕ) → Either k.found (with_record k.found bytes) a b → AtOrBehind l r rs there a b
        stands_either a b (inl pair) = inl (stands_old a b pair)
        stands_either a b (inr pair) = inr (record { found = with_record k.found bytes; pair = pair; list = more }, more_there)

        knows_more : memory_of new ≡ m.after r (memory_of old) → memory_of new ≡ l.says (r ∷ rs)
        knows_more now = now ∙ ap (λ (x : K). m.after r x) k.knows ∙ sym (laws.next r rs more.made)

        pub leaves_either : LeavesPairs (disks state (twin_of old)) (disks state (twin_of new)) (Either k.found (with_record k.found bytes)) → LeavesEither state l r rs old new
        leaves_either leaves = pairs_weaker leaves stands_either

        pub leaves_first : LeavesPairs (disks state (twin_of old)) (disks state (twin_of new)) (PairStandsFor k.found) → LeavesPairs (disks state (twin_of old)) (disks state (twin_of new)) (StandsAt l rs there)
        leaves_first leaves = pairs_weaker leaves stands_old

        -- the disks have it, and it is known
        pub keeps_more : KeepsPair state (with_record k.found bytes) (twin_of new) → memory_of new ≡ m.after r (memory_of old) → KeepsRecords state l (r ∷ rs) new
        keeps_more pair now = record {
          found = with_record k.found bytes;
          kept = record { pair = pair; held = held_of_list l laws (r ∷ rs) (with_record k.found bytes) more ∙ ap (λ (x : K). known_is x) (sym (knows_more now)) };
          list = more;
          knows = knows_more now;
        }

      -- the room that its bytes have is the record's
      pub has_room : HasRoomFor state (length bytes) old → HasRoom state l r old
      has_room = subst (λ (b : List ℕ). HasRoomFor state (length b) old) is

      pub goes_longer : twin_extent (twin_of new) ≡ longer (length bytes) there → twin_extent (twin_of new) ≡ longer (length (l.bytes_of r)) there
      goes_longer behind = behind ∙ ap (λ (b : List ℕ). longer (length b) there) is

      pub is_full : (full : Full) → IsFullFor state (length bytes) old full → IsFullFor state (length (l.bytes_of r)) old full
      is_full full = subst (λ (b : List ℕ). IsFullFor state (length b) old full) is

      makes : (result : Result (Unit {0}) StoreError) → body.Adds state m r bytes result old new → (rs : List I) → KeepsRecords state l rs old → Makes state l r rs result old new
      makes (Ok done) a rs k = record {
        fits = has_room a.room;
        extent = goes_longer a.extent;
        keeps = keeps_more rs k (a.keeps k.found k.kept).pair a.memory;
        any_moment = leaves_either rs k (a.any_moment k.found k.kept.pair);
      }
      makes (Err store_error.Failed) a rs k = record {
        fits = has_room a.room;
        any_moment = leaves_either rs k (a.any_moment k.found k.kept.pair);
        not_begun = λ calls left few. leaves_first rs k (a.not_begun k.found k.kept.pair calls left few);
      }
      makes (Err (store_error.Full full)) a rs k = is_full full (a.exact k.found full k.kept refl)
      makes (Err store_error.NoMemory) a rs k = tt

    -- ---- what adding a record answers, of what has a store in it

    module _ {O : Type 0} (store : O → Store M K D) (old new : O) (same : store new ≡ store old → new ≡ old) (r : I) (bytes : List ℕ) where
      moves : (result : Result (Unit {0}) StoreError) → body.Adds state m r bytes result (store old) (store new) → Moves state store result old new
      moves (Ok done) a = a.took
      moves (Err store_error.Failed) a = a.failed refl
      moves (Err (store_error.Full full)) a = same a.memory
      moves (Err store_error.NoMemory) a = same a.memory

      knows : (result : Result (Unit {0}) StoreError) → body.Adds state m r bytes result (store old) (store new) → OnOk result (memory_of (store new) ≡ m.after r (memory_of (store old)))
      knows (Ok done) a = a.memory
      knows (Err e) a = tt

      lost : (result : Result (Unit {0}) StoreError) → body.Adds state m r bytes result (store old) (store new) → result ≡ Err store_error.Failed → memory_of (store new) ≡ m.after r (memory_of (store old))
      lost (Ok done) a failed = a.memory
      lost (Err store_error.Failed) a failed = a.memory
      lost (Err (store_error.Full full)) a failed = absurd cc
      lost (Err store_error.NoMemory) a failed = absurd cc

      pub changes : bytes ≡ l.bytes_of r → l.reading.record_of bytes ≡ Some r → m.may_come (memory_of (store old)) r ≡ true
          → ((rs : List I) → l.AreMade rs → m.may_come (l.says rs) r ≡ true → length rs + 1 < 2 ^ 32 → l.AreMade (r ∷ rs))
          → (result : Result (Unit {0}) StoreError) → body.Adds state m r bytes result (store old) (store new) → Changes state l store r result old new
      changes is reads may goes_behind result a = record {
        makes = makes (store old) (store new) r bytes is reads may goes_behind result a;
        disks = moves result a;
        knows = knows result a;
        lost = lost result a;
        down = down_by (is_down (store new)) result a.down;
        setting = a.machine;
        found = a.found;
      }

    -- ---- openings

    -- what two disks hold is what is known
    kept_as : (found : Found) (rs : List I) (s : Store M K D) → IsListOf l rs found → held_in m found ≡ Ok (memory_of s) → KeepsPair state found (twin_of s) → KeepsRecords state l rs s
    kept_as found rs s list held pair = record { found = found; kept = record { pair = pair; held = held }; list = list; knows = knows_list l laws rs found (memory_of s) list held }

    module _ (a b : List ℕ) (s : Store M K D) where
      pub read_keeps : IsRead state m a b s → (rs : List I) → StandsForList l rs a b → KeepsRecords state l rs s
      read_keeps is rs stands =
          kept_as is.found rs s (subst (λ (f : Found). IsListOf l rs f) (same_found a b stands.found is.found stands.pair is.stands) stands.list) is.keeps.held is.keeps.pair

      kept_by : (found : Found) (rs : List I) → IsListOf l rs found → held_in m found ≡ Ok (memory_of s) → KeepsOrSettled state m found (memory_of s) (twin_of s) → KeepsRecords state l rs s
      kept_by found rs list held (inl pair) = kept_as found rs s list held pair
      kept_by found rs list held (inr both) =
          let more = settled_list l laws rs found (memory_of s) list held both.0 in
          kept_as (settled m found (memory_of s)) rs s more (held_of_list l laws rs (settled m found (memory_of s)) more ∙ ap (λ (x : K). known_is x) (sym (knows_list l laws rs found (memory_of s) list held))) both.1

      pub open_keeps : IsOf state m a b s → (rs : List I) → StandsForList l rs a b → KeepsRecords state l rs s
      open_keeps is rs stands =
          kept_by is.found rs (subst (λ (f : Found). IsListOf l rs f) (same_found a b stands.found is.found stands.pair is.stands) stands.list) is.held is.kept

    -- each pair of images stands for the records that are kept
    pub stands_now : ((d : D) → IsLawful (state d)) → (rs : List I) (s : Store M K D) → KeepsRecords state l rs s
        → (a b : List ℕ) → (state (first_disk (twin_of s))).may_leave a → (state (second_disk (twin_of s))).may_leave b → StandsForList l rs a b
    stands_now law rs s k a b one two = record {
      found = k.found;
      pair = pairs_now state (disks state (twin_of s)) (twin_of s) (kept_pairs state law k.found (twin_of s) k.kept.pair) a b one two;
      list = k.list;
    }

    -- ---- restarts

    module _ (pick : ℕ) (old new : Store M K D) where
      brings_back : IsBack state m pick old new → BringsBack state l pick old new
      brings_back is = record { a = is.a; b = is.b; first = is.first; second = is.second; is = is.is; keeps = open_keeps is.a is.b new is.is }

      pub restarted_back : (result : Result (Unit {0}) OpenError)
          → OnOk result (IsTold (state (first_disk (twin_of old))) → IsTold (state (second_disk (twin_of old))) → IsBack state m pick old new)
          → OnOk result (IsTold (state (first_disk (twin_of old))) → IsTold (state (second_disk (twin_of old))) → BringsBack state l pick old new)
      restarted_back (Ok done) back = λ one two. brings_back (back one two)
      restarted_back (Err e) back = tt

-- which records a restart brought back: where each pair of images from before stands for the records, or for these and the one
-- that may be kept
pub came_back : {M K D I S : Type 0} (state : D → DiskState) (l : Lists K I S) (pick : ℕ) (old new : Store M K D) (rs : List I) (kept : Option I) → BringsBack state l pick old new
    → ((a b : List ℕ) → (state (first_disk (twin_of old))).may_leave a → (state (second_disk (twin_of old))).may_leave b → StandsForList l rs a b ⊎ ((r : I) × (kept ≡ Some r) × StandsForList l (r ∷ rs) a b))
    → KeepsRecords state l rs new ⊎ ((r : I) × (kept ≡ Some r) × KeepsRecords state l (r ∷ rs) new)
came_back state l pick old new rs kept back stands = ⊎_elim
    (λ one. inl (back.keeps rs one))
    (λ more. inr (more.0, more.1, back.keeps (more.0 ∷ rs) more.2))
    (stands back.a back.b back.first.0 back.second.0)
