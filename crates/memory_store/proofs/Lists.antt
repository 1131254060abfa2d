-- What two disks hold, where they stand for a list of records: what this says.
use Rattle.std.proofs.Common.{◌≡◌, ◌⊎◌, inl, inr, ◌&&◌, ◌<◌, ◌≤◌, ◌+◌, ◌^◌, ℕ, Bool, true, false, if◌then◌else◌, List, [], ◌∷◌, ◌++◌, length, Option, Some, None, Result, Ok, Err, refl, sym, ap, subst, ◌∙◌, arith}
use Rattle.std.specs.Prelude.{nat_lt, option_and_then}
use Rattle.std.proofs.lemmas.Bool.Decides.{nat_tests}
use Rattle.std.proofs.lemmas.Option.{same_Some}
use Rattle.disk_journal.specs.Reading.{record_length, row_length}
use Rattle.seata_types.specs.declared.errors.OpenError.{OpenError}
use Rattle.seata_types.specs.declared.errors.OpenError.TheVariants as open_error
use Rattle.journal_checkpoint.specs.declared.types.Found.{Found}
use Rattle.journal_checkpoint.specs.Images.{with_record}
use Rattle.memory_store.specs.Meanings.{Meaning}
use Rattle.memory_store.specs.Holdings.{may_follow, after_one, and_then, replayed, start_of, from_start, records_at, held_in, memory_on, second_in, on_disk}
use Rattle.memory_store.specs.Readings.{records_on, AreRecords}
use Rattle.memory_store.specs.Settling.{IsWritable, IsNoDamage, settled, GoesOn, StandsOrSettled}
use Rattle.memory_store.specs.Keeping.{IsDamage}
use Rattle.memory_store.specs.Lists.{Lists, AreLawful, HasFewRecords, IsListOf, StandsForList, GoesOnAs, MayNotFollow, HoldsRecords}
use Rattle.memory_store.proofs.Replaying.{known_is, taken_one, may_follow_now}
use Rattle.memory_store.proofs.Damages.{same_found, memory_here}

none_some : {A B : Type 0} (a : A) → None ≡ Some a → B
none_some a e = absurd (cc)

-- ---- a body that stops a replay

module _ {K I : Type 0} (m : Meaning K I) (body : List ℕ) (last : K) (stops : (at : ℕ) → after_one m last at (m.record_of body) ≡ Err at) where
  abbrev at_offset : ℕ → Result K ℕ
  at_offset n = Err n

  one_known : (a b : K) → known_is a ≡ known_is b → a ≡ b
  one_known a b e = cc

  replayed_stops : (known : K) (at : ℕ) (bodies : List (List ℕ)) → replayed m known at bodies ≡ Ok last → replayed m known at (bodies ++ body ∷ []) ≡ Err (at + row_length bodies)
  replayed_stops known at [] is =
      ap (λ (r : Result K ℕ). and_then r known_is) (subst (λ (k : K). after_one m k at (m.record_of body) ≡ at_offset at) (sym (one_known known last is)) (stops at)) ∙ ap at_offset (omega arith)
  replayed_stops known at (b ∷ bodies) is = by (after_one m known at (m.record_of b)) (λ n held. replayed_stops n (at + record_length b) bodies held) is
    where
      by : (r : Result K ℕ) → ((n : K) → replayed m n (at + record_length b) bodies ≡ Ok last → replayed m n (at + record_length b) (bodies ++ body ∷ []) ≡ Err (at + record_length b + row_length bodies))
          → and_then r (λ n. replayed m n (at + record_length b) bodies) ≡ Ok last → and_then r (λ n. replayed m n (at + record_length b) (bodies ++ body ∷ [])) ≡ Err (at + (record_length b + row_length bodies))
      by (Ok n) rest held = rest n held ∙ ap at_offset (omega arith)
      by (Err x) rest held = absurd (cc)

  started_stops : (at : ℕ) (bodies : List (List ℕ)) (start : Option K) → from_start m at bodies start ≡ Ok last → from_start m at (bodies ++ body ∷ []) start ≡ Err (at + row_length bodies)
  started_stops at bodies None is = absurd (cc)
  started_stops at bodies (Some known) is = replayed_stops known at bodies is

module _ {K I S : Type 0} (l : Lists K I S) (laws : AreLawful l) where
  abbrev m : Meaning K I
  m = l.meaning

  abbrev read : List ℕ → Option I
  read = l.reading.record_of

  -- ---- records past others

  made_by : (o : Option I) (body : List ℕ) (bodies : List (List ℕ)) (before rs : List I) → read body ≡ o → option_and_then (λ r. records_on read (r ∷ before) bodies) o ≡ Some rs
      → ((r : I) → records_on read (r ∷ before) bodies ≡ Some rs → l.AreMade (r ∷ before))
      → (r : I) × (read body ≡ Some r) × (records_on read (r ∷ before) bodies ≡ Some rs) × l.AreMade (r ∷ before)
  made_by None body bodies before rs is e below = none_some rs e
  made_by (Some r) body bodies before rs is e below = (r, is, e, below r e)

  -- the records that were there before those of these bodies
  made_before : (bodies : List (List ℕ)) (before rs : List I) → records_on read before bodies ≡ Some rs → l.AreMade rs → l.AreMade before
  made_before [] before rs e made = subst (λ (q : List I). l.AreMade q) (sym (same_Some before rs e)) made
  made_before (body ∷ bodies) before rs e made =
      let k = made_by (read body) body bodies before rs refl e (λ r is. made_before bodies (r ∷ before) rs is made) in
      laws.before k.0 before k.3

  -- a record that can have been made is taken in
  one_taken : (at : ℕ) (body : List ℕ) (r : I) (before : List I) → read body ≡ Some r → l.AreMade (r ∷ before) → after_one m (l.says before) at (m.record_of body) ≡ Ok (l.says (r ∷ before))
  one_taken at body r before is made =
      let few : m.acts (l.says before) + 1 < 2 ^ 32 = omega (arith, laws.counted before, laws.few (r ∷ before) made) in
      taken_one m (l.says before) body r (laws.read r before body made is) (may_follow_now m (l.says before) r few (laws.may r before made)) at
      ∙ ap (λ (k : K). known_is k) (sym (laws.next r before made))

  all_taken : (bodies : List (List ℕ)) (at : ℕ) (before rs : List I) → records_on read before bodies ≡ Some rs → l.AreMade rs → replayed m (l.says before) at bodies ≡ Ok (l.says rs)
  all_taken [] at before rs e made = ap (λ (q : List I). known_is (l.says q)) (same_Some before rs e)
  all_taken (body ∷ bodies) at before rs e made =
      let k = made_by (read body) body bodies before rs refl e (λ r is. made_before bodies (r ∷ before) rs is made) in
      ap (λ (o : Result K ℕ). and_then o (λ next. replayed m next (at + record_length body) bodies)) (one_taken at body k.0 before k.1 k.3)
      ∙ all_taken bodies (at + record_length body) (k.0 ∷ before) rs k.2 made

  -- ---- a snapshot before them

  held_by : (snapshot : Option (List ℕ)) (bodies : List (List ℕ)) (rs : List I) → AreRecords l.reading snapshot bodies rs → l.AreMade rs → HasFewRecords l.reading snapshot
      → from_start m (records_at snapshot) bodies (start_of m snapshot) ≡ Ok (l.says rs)
  held_by None bodies rs is made few = ap (λ (k : K). replayed m k (records_at None) bodies) (sym laws.none) ∙ all_taken bodies (records_at None) [] rs is made
  held_by (Some bytes) bodies rs is made few =
      ap (from_start m (records_at (Some bytes)) bodies) (laws.read_back bytes is.0 is.1 (few is.0 is.1) (made_before bodies is.0 rs is.2 made))
      ∙ all_taken bodies (records_at (Some bytes)) is.0 rs is.2 made

  -- what two disks hold is what each list says that they stand for
  pub held_of_list : (rs : List I) (found : Found) → IsListOf l rs found → held_in m found ≡ Ok (l.says rs)
  held_of_list rs found list = held_by found.snapshot found.records rs list.records list.made list.few

  pub knows_list : (rs : List I) (found : Found) (k : K) → IsListOf l rs found → held_in m found ≡ Ok k → k ≡ l.says rs
  knows_list rs found k list held = let same : known_is k ≡ known_is (l.says rs) = sym held ∙ held_of_list rs found list in cc

  -- ---- one record more

  more_by : (o : Option I) (rest more : List (List ℕ)) (before rs rs' : List I) → option_and_then (λ r. records_on read (r ∷ before) rest) o ≡ Some rs
      → ((r : I) → records_on read (r ∷ before) rest ≡ Some rs → records_on read (r ∷ before) more ≡ Some rs') → option_and_then (λ r. records_on read (r ∷ before) more) o ≡ Some rs'
  more_by None rest more before rs rs' e below = none_some rs e
  more_by (Some r) rest more before rs rs' e below = below r e

  records_more : (bodies : List (List ℕ)) (body : List ℕ) (r : I) (before rs : List I) → records_on read before bodies ≡ Some rs → read body ≡ Some r → records_on read before (bodies ++ body ∷ []) ≡ Some (r ∷ rs)
  records_more [] body r before rs e is = ap (option_and_then (λ q. Some (q ∷ before))) is ∙ ap (λ (q : List I). Some (r ∷ q)) (same_Some before rs e)
  records_more (b ∷ bodies) body r before rs e is =
      more_by (read b) bodies (bodies ++ body ∷ []) before rs (r ∷ rs) e (λ q below. records_more bodies body r (q ∷ before) rs below is)

  more_of : (snapshot : Option (List ℕ)) (bodies : List (List ℕ)) (body : List ℕ) (r : I) (rs : List I) → AreRecords l.reading snapshot bodies rs → read body ≡ Some r → AreRecords l.reading snapshot (bodies ++ body ∷ []) (r ∷ rs)
  more_of None bodies body r rs is one = records_more bodies body r [] rs is one
  more_of (Some bytes) bodies body r rs is one = (is.0, is.1, records_more bodies body r is.0 rs is.2 one)

  -- a record that can have been made after these, behind them
  pub list_more : (rs : List I) (found : Found) (r : I) (body : List ℕ) → IsListOf l rs found → read body ≡ Some r → l.AreMade (r ∷ rs) → IsListOf l (r ∷ rs) (with_record found body)
  list_more rs found r body list is made = record { records = more_of found.snapshot found.records body r rs list.records is; made = made; few = list.few }

  -- ---- a snapshot in their place

  -- it is read back where it can be written
  pub settled_list : (rs : List I) (found : Found) (k : K) → IsListOf l rs found → held_in m found ≡ Ok k → IsWritable m k → IsListOf l rs (settled m found k)
  settled_list rs found k list held writable =
      let knows = knows_list rs found k list held in
      let back : l.reading.snapshot_in (m.snapshot_bytes k) ≡ Some (l.reading.snapshot_of rs) =
      ap (λ (x : K). l.reading.snapshot_in (m.snapshot_bytes x)) knows ∙ laws.written rs list.made (subst (λ (x : K). IsWritable m x) knows writable) in
      record {
        records = (rs, back, refl);
        made = list.made;
        few = λ qs is. omega (arith, laws.sized rs qs (same_Some _ _ (sym back ∙ is)), laws.counted rs, ap m.acts knows, writable.few);
      }

  stands_by : (found : Found) (k : K) (c d : List ℕ) (rs : List I) → IsListOf l rs found → held_in m found ≡ Ok k → StandsOrSettled m found k c d → StandsForList l rs c d
  stands_by found k c d rs list held (inl is) = record { found = found; pair = is; list = list }
  stands_by found k c d rs list held (inr both) = record { found = settled m found k; pair = both.1; list = settled_list rs found k list held both.0 }

  -- what goes on stands for the same records
  pub goes_on : (a b c d : List ℕ) → GoesOn m a b c d → GoesOnAs l a b c d
  goes_on a b c d (inl same) rs stands = subst (λ z. StandsForList l rs c z) (sym same.1) (subst (λ z. StandsForList l rs z b) (sym same.0) stands)
  goes_on a b c d (inr g) rs stands =
      stands_by g.0 g.1.0 c d rs (subst (λ (f : Found). IsListOf l rs f) (same_found a b stands.found g.0 stands.pair g.1.1) stands.list) g.1.2 g.1.3

  -- ---- damages

  -- bytes that stand for records aren't damaged
  memory_is : (a b : List ℕ) (rs : List I) → StandsForList l rs a b → memory_on m a b ≡ Ok (l.says rs)
  memory_is a b rs stands = memory_here m a b stands.found stands.pair ∙ ap (on_disk (second_in a b)) (held_of_list rs stands.found stands.list)

  pub not_damaged : (a b : List ℕ) (e : OpenError) → IsDamage m a b e → (rs : List I) → StandsForList l rs a b → IsNoDamage e
  not_damaged a b (open_error.Damaged second at) damage rs stands = let no : Ok (l.says rs) ≡ Err (open_error.Damaged second at) = sym (memory_is a b rs stands) ∙ damage in absurd (cc)
  not_damaged a b open_error.Failed damage rs stands = tt
  not_damaged a b (open_error.Full full) damage rs stands = damage
  not_damaged a b open_error.NoMemory damage rs stands = tt

  module _ (rs : List I) (made : l.AreMade rs) where
    no_right : (a b : Bool) → b ≡ false → (a && b) ≡ false
    no_right true b refuses = refuses
    no_right false b refuses = refl

    too_many : (r : I) → 2 ^ 32 ≤ length rs + 1 → may_follow m (l.says rs) r ≡ false
    too_many r many =
        let counted = laws.counted rs in
        let refuses : nat_lt (m.acts (l.says rs) + 1) (2 ^ 32) ≡ false = grind (arith, nat_tests) in
        ap (λ (b : Bool). b && m.may_come (l.says rs) r) refuses

    -- a record that may not come stops a replay
    stopped_at : (r : I) (body : List ℕ) (at : ℕ) → m.record_of body ≡ Some r → may_follow m (l.says rs) r ≡ false → after_one m (l.says rs) at (m.record_of body) ≡ Err at
    stopped_at r body at is refuses = ap (after_one m (l.says rs) at) is ∙ ap (λ (b : Bool). if b then Ok (m.after r (l.says rs)) else Err at) refuses

    stopped_by : (body : List ℕ) (o : Option I) (at : ℕ) → m.record_of body ≡ o → MayNotFollow l rs o → after_one m (l.says rs) at (m.record_of body) ≡ Err at
    stopped_by body None at is refuses = ap (after_one m (l.says rs) at) is
    stopped_by body (Some r) at is (inl never) = stopped_at r body at is (no_right (nat_lt (m.acts (l.says rs) + 1) (2 ^ 32)) (m.may_come (l.says rs) r) (laws.refused r rs body made is never))
    stopped_by body (Some r) at is (inr many) = stopped_at r body at is (too_many r many)

    stopped : (body : List ℕ) → MayNotFollow l rs (read body) → (at : ℕ) → after_one m (l.says rs) at (m.record_of body) ≡ Err at
    stopped body refuses at = by (laws.alike body)
      where
        by : (m.record_of body ≡ None) ⊎ (m.record_of body ≡ read body) → after_one m (l.says rs) at (m.record_of body) ≡ Err at
        by (inl none) = stopped_by body None at none tt
        by (inr same) = stopped_by body (read body) at same refuses

  -- a body that may not follow these records, behind them, is the damage
  damage_of_list : (rs : List I) (found : Found) (body : List ℕ) → IsListOf l rs found → MayNotFollow l rs (read body) → held_in m (with_record found body) ≡ Err (records_at found.snapshot + row_length found.records)
  damage_of_list rs found body list refuses =
      started_stops m body (l.says rs) (stopped rs list.made body refuses) (records_at found.snapshot) found.records (start_of m found.snapshot) (held_of_list rs found list)

  pub holds_records : HoldsRecords l
  holds_records = record {
    holds = held_of_list;
    damaged = damage_of_list;
    goes_on = goes_on;
    records = λ rs a b stands. record { found = stands.found; pair = stands.pair; records = stands.list.records };
  }
