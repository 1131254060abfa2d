-- Whole records, one behind another, and what is read of them.
use Rattle.std.proofs.Common.{◌≡◌, ◌≢◌, ℕ, zero, suc, ◌+◌, ◌-◌, ◌<◌, ◌≤◌, Bool, true, false, Result, Ok, Err, List, [], ◌∷◌, ◌++◌, length, take, drop, refl, sym, ◌∙◌, ap, subst, inl, inr, arith, append_assoc, length-append, length-take, length-drop, take-append-drop}
use Rattle.std.specs.Prelude.{◌&&◌, nat_le, nat_lt, if◌then◌else◌}
use Rattle.std.specs.Int.{w32, from_be_bytes}
use Rattle.std.proofs.lemmas.List.{take_at, drop_at, drop-drop, append-nil, length-take-le}
use Rattle.std.proofs.Math.Seq.{take-append-add}
use Rattle.std.proofs.lemmas.Bool.{cases_eq}
use Rattle.std.proofs.lemmas.Bool.Decides.{nat_tests}
use Rattle.seata_types.specs.declared.limits.TheConstants.{BODY_BYTES}
use Rattle.disk_journal.specs.Reading.{Found, Closed, Record, Damage, number_in, record_in, found, record_length, followed_by, records_by, reading_from, reading, row_length}

-- these bytes are a record, whatever follows them
pub record IsRecord (body bytes : List ℕ) : Type 0 where
  pub size : length bytes ≡ record_length body
  pub found_is : (tail : List ℕ) → 0 < length tail → found (bytes ++ tail) ≡ Record body

-- these bytes are records, and whatever follows them is read behind them
pub record AreRecords (bodies : List (List ℕ)) (bytes : List ℕ) : Type 0 where
  pub size : length bytes ≡ row_length bodies
  pub read : (gates more at : ℕ) (tail : List ℕ) → 0 < length tail → gates ≡ length bodies + more → reading_from gates at (bytes ++ tail) ≡ followed_by bodies (reading_from more (at + row_length bodies) tail)

-- these bytes begin with records, and a closed gate follows them
pub record IsRow (bodies : List (List ℕ)) (bytes : List ℕ) : Type 0 where
  pub records : AreRecords bodies (take (row_length bodies) bytes)
  pub closed : found (drop (row_length bodies) bytes) ≡ Closed

-- What stands at a gate

pub found_closed : (gate : ℕ) (rest : List ℕ) → gate ≢ 1 → found (gate ∷ rest) ≡ Closed
unfolding found
found_closed gate rest shut = grind (arith, nat_tests)

pub found_open : (rest : List ℕ) → found (1 ∷ rest) ≡ record_in rest
unfolding found
found_open rest = refl

record_in_not_closed : (rest : List ℕ) → record_in rest ≡ Closed → ⊥
unfolding record_in
record_in_not_closed rest is = grind (arith, nat_tests)

pub closed_gate : (gate : ℕ) (rest : List ℕ) → found (gate ∷ rest) ≡ Closed → gate ≢ 1
closed_gate gate rest is open_gate = record_in_not_closed rest (sym (found_open rest) ∙ ap (λ g. found (g ∷ rest)) (sym open_gate) ∙ is)

pub found_some : (bytes : List ℕ) → found bytes ≡ Closed → 0 < length bytes
unfolding found
found_some [] is = absurd (cc)
found_some (gate ∷ rest) is = omega arith

pub record_whole : (rest : List ℕ) → number_in rest ≤ BODY_BYTES → 4 + number_in rest < length rest → record_in rest ≡ Record (take (number_in rest) (drop 4 rest))
unfolding record_in
record_whole rest small fits = grind (arith, nat_tests)

pub record_long : (rest : List ℕ) → BODY_BYTES < number_in rest → record_in rest ≡ Damage
unfolding record_in
record_long rest long = grind (arith, nat_tests)

pub record_cut : (rest : List ℕ) → length rest ≤ 4 + number_in rest → record_in rest ≡ Damage
unfolding record_in
record_cut rest cut = grind (arith, nat_tests)

-- Records

pub number_is : (bytes : List ℕ) → number_in bytes ≡ from_be_bytes w32 (take 4 bytes)
unfolding number_in
number_is bytes = refl

-- a record behind an open gate: its length as four bytes, and its body
pub spelled_record : (head body : List ℕ) → length head ≡ 4 → from_be_bytes w32 head ≡ length body → length body ≤ BODY_BYTES → IsRecord body (1 ∷ head ++ body)
spelled_record head body four number small = record {
  size = simp length-append (omega arith);
  found_is = λ tail some.
      let split : head ++ body ++ tail ≡ head ++ (body ++ tail) = append_assoc head body tail in
      let count : number_in (head ++ body ++ tail) ≡ length body = number_is (head ++ body ++ tail) ∙ ap (λ (l : List ℕ). from_be_bytes w32 (take 4 l)) split ∙ ap (from_be_bytes w32) (take_at head (body ++ tail) 4 four) ∙ number in
      let is_body : take (number_in (head ++ body ++ tail)) (drop 4 (head ++ body ++ tail)) ≡ body =
      ap (λ (n : ℕ). take n (drop 4 (head ++ body ++ tail))) count ∙ ap (λ (l : List ℕ). take (length body) (drop 4 l)) split ∙ ap (take (length body)) (drop_at head (body ++ tail) 4 four) ∙ take_at body tail (length body) refl in
      found_open (head ++ body ++ tail) ∙ record_whole (head ++ body ++ tail) (omega (arith, count)) (rw count (simp length-append (omega arith))) ∙ ap (λ (l : List ℕ). Record l) is_body;
}

abbrev ok_of : List (List ℕ) → Result (List (List ℕ)) ℕ
ok_of bodies = Ok bodies

followed_by-nil : (r : Result (List (List ℕ)) ℕ) → followed_by [] r ≡ r
followed_by-nil (Ok more) = refl
followed_by-nil (Err at) = refl

followed_by-append : (before bodies : List (List ℕ)) (r : Result (List (List ℕ)) ℕ) → followed_by (before ++ bodies) r ≡ followed_by before (followed_by bodies r)
followed_by-append before bodies (Ok more) = ap ok_of (append_assoc before bodies more)
followed_by-append before bodies (Err at) = refl

pub no_records : AreRecords [] []
no_records = record {
  size = refl;
  read = λ gates more at tail some is. let same : gates ≡ more = omega arith in let here : at + row_length [] ≡ at = omega arith in rw (same, here) (sym (followed_by-nil (reading_from more at tail)));
}

pub read_next : (gates at : ℕ) (bytes : List ℕ) → reading_from (suc gates) at bytes ≡ records_by at (found bytes) (λ body. reading_from gates (at + record_length body) (drop (record_length body) bytes))
unfolding reading_from
read_next gates at bytes = refl

pub one_record : (body bytes : List ℕ) → IsRecord body bytes → AreRecords (body ∷ []) bytes
one_record body bytes is = record {
  size = omega (arith, is.size);
  read = λ gates more at tail some count.
      let next : gates ≡ suc more = omega arith in
      let end : at + row_length (body ∷ []) ≡ at + record_length body = omega arith in
      ap (λ (n : ℕ). reading_from n at (bytes ++ tail)) next ∙ read_next more at (bytes ++ tail) ∙ ap (λ (f : Found). records_by at f (λ b. reading_from more (at + record_length b) (drop (record_length b) (bytes ++ tail)))) (is.found_is tail some)
      ∙ ap (λ (l : List ℕ). followed_by (body ∷ []) (reading_from more (at + record_length body) l)) (drop_at bytes tail (record_length body) is.size) ∙ ap (λ (n : ℕ). followed_by (body ∷ []) (reading_from more n tail)) (sym end);
}

pub row_length-append : (before bodies : List (List ℕ)) → row_length (before ++ bodies) ≡ row_length before + row_length bodies
row_length-append [] bodies = omega arith
row_length-append (b ∷ before) bodies = omega (arith, row_length-append before bodies)

pub more_records : (before bodies : List (List ℕ)) (x y : List ℕ) → AreRecords before x → AreRecords bodies y → AreRecords (before ++ bodies) (x ++ y)
more_records before bodies x y first second = record {
  size = omega (arith, first.size, second.size, length-append x y, row_length-append before bodies);
  read = λ gates more at tail some count.
      let here : at + row_length before + row_length bodies ≡ at + row_length (before ++ bodies) = omega (arith, row_length-append before bodies) in
      ap (reading_from gates at) (append_assoc x y tail) ∙ first.read gates (length bodies + more) at (y ++ tail) (omega (arith, length-append y tail)) (omega (arith, length-append before bodies))
      ∙ ap (followed_by before) (second.read (length bodies + more) more (at + row_length before) tail some refl)
      ∙ sym (followed_by-append before bodies (reading_from more (at + row_length before + row_length bodies) tail)) ∙ ap (λ (n : ℕ). followed_by (before ++ bodies) (reading_from more n tail)) here;
}

-- there are fewer records than bytes
count_le : (bodies : List (List ℕ)) → length bodies ≤ row_length bodies
count_le [] = omega arith
count_le (b ∷ bodies) = omega (arith, count_le bodies)

-- What is read of bytes that begin with records: these, and what stands at the gate behind them.
pub reading_is : (from : ℕ) (bodies : List (List ℕ)) (bytes : List ℕ) → AreRecords bodies (take (row_length bodies) bytes) → row_length bodies < length bytes → (behind : List ℕ → Result (List (List ℕ)) ℕ) × (reading from bytes ≡ followed_by bodies (records_by (from + row_length bodies) (found (drop (row_length bodies) bytes)) behind))
unfolding reading
reading_is from bodies bytes are whole =
    let n = row_length bodies in
    let gates = length bytes - length bodies - 1 in
    let tail = drop n bytes in
    let all : length bytes ≡ length bodies + suc gates = omega (arith, count_le bodies) in (
      λ body. reading_from gates (from + n + record_length body) (drop (record_length body) tail),
      ap (reading_from (length bytes) from) (sym (take-append-drop n bytes)) ∙ are.read (length bytes) (suc gates) from tail (omega (arith, length-drop n bytes)) all
          ∙ ap (followed_by bodies) (read_next gates (from + n) tail),
    )

pub row_reads : (from : ℕ) (bodies : List (List ℕ)) (bytes : List ℕ) → IsRow bodies bytes → reading from bytes ≡ Ok bodies
row_reads from bodies bytes row =
    let r = reading_is from bodies bytes row.records (omega (arith, found_some _ row.closed, length-drop (row_length bodies) bytes)) in
    r.1 ∙ ap (λ (f : Found). followed_by bodies (records_by (from + row_length bodies) f r.0)) row.closed ∙ ap ok_of (append-nil bodies)

pub damaged_reads : (from : ℕ) (bodies : List (List ℕ)) (bytes : List ℕ) → AreRecords bodies (take (row_length bodies) bytes) → row_length bodies < length bytes → found (drop (row_length bodies) bytes) ≡ Damage → reading from bytes ≡ Err (from + row_length bodies)
damaged_reads from bodies bytes are whole damage =
    let r = reading_is from bodies bytes are whole in
    r.1 ∙ ap (λ (f : Found). followed_by bodies (records_by (from + row_length bodies) f r.0)) damage

pub empty_reads : (from : ℕ) (bytes : List ℕ) → length bytes ≡ 0 → reading from bytes ≡ Err from
unfolding reading reading_from
empty_reads from [] none = refl
empty_reads from (b ∷ bytes) none = absurd (omega arith)

pub row_at : (bodies : List (List ℕ)) (x y : List ℕ) → AreRecords bodies x → found y ≡ Closed → IsRow bodies (x ++ y)
row_at bodies x y are closed = record {
  records = rw (take_at x y (row_length bodies) are.size) are;
  closed = ap found (drop_at x y (row_length bodies) are.size) ∙ closed;
}

-- Back from what is read

pub take_then : (n m : ℕ) (l : List ℕ) → n ≤ length l → take (n + m) l ≡ take n l ++ take m (drop n l)
take_then n m l some =
    let size : length (take n l) ≡ n = length-take-le n l some in
    ap (take (n + m)) (sym (take-append-drop n l)) ∙ ap (λ (k : ℕ). take (k + m) (take n l ++ drop n l)) (sym size) ∙ take-append-add (take n l) (drop n l) m

-- the record that stands at a gate
record_back : (rest body : List ℕ) → record_in rest ≡ Record body → (number_in rest ≤ BODY_BYTES) × (4 + number_in rest < length rest) × (body ≡ take (number_in rest) (drop 4 rest))
unfolding record_in
record_back rest body is = back (nat_le (number_in rest) BODY_BYTES) (nat_lt (4 + number_in rest) (length rest)) refl refl is
  where
    back : (small fits : Bool) → nat_le (number_in rest) BODY_BYTES ≡ small → nat_lt (4 + number_in rest) (length rest) ≡ fits → (if small && fits then Record (take (number_in rest) (drop 4 rest)) else Damage) ≡ Record body → (number_in rest ≤ BODY_BYTES) × (4 + number_in rest < length rest) × (body ≡ take (number_in rest) (drop 4 rest))
    back true true small fits is = (grind (arith, nat_tests), grind (arith, nat_tests), cc)
    back true false small fits is = absurd (cc)
    back false fits small b is = absurd (cc)

open_record : (bytes body : List ℕ) → found bytes ≡ Record body → (rest : List ℕ) × (bytes ≡ 1 ∷ rest) × (record_in rest ≡ Record body)
unfolding found
open_record [] body is = absurd (cc)
open_record (gate ∷ rest) body is = elim (cases_eq gate 1) [
  | inl open_gate ↦ (rest, ap (λ g. g ∷ rest) open_gate, sym (found_open rest) ∙ ap (λ g. found (g ∷ rest)) (sym open_gate) ∙ is)
  | inr shut ↦ let closed : Closed ≡ Record body = sym (found_closed gate rest shut) ∙ is in absurd (cc)
]

record_fits : (bytes body : List ℕ) → found bytes ≡ Record body → record_length body ≤ length bytes
record_fits bytes body is =
    let o = open_record bytes body is in
    let b = record_back o.0 body o.2 in
    omega (arith, ap length o.1, b.1, ap length b.2, length-take (number_in o.0) (drop 4 o.0))

pub found_record : (bytes body : List ℕ) → found bytes ≡ Record body → IsRecord body (take (record_length body) bytes)
found_record bytes body is =
    let o = open_record bytes body is in
    let rest = o.0 in
    let b = record_back rest body o.2 in
    let n = number_in rest in
    let long : length (drop 4 rest) ≡ length rest - 4 = length-drop 4 rest in
    let size : length body ≡ n = ap length b.2 ∙ length-take-le n (drop 4 rest) (omega (arith, b.1)) in
    let four : length (take 4 rest) ≡ 4 = length-take-le 4 rest (omega (arith, b.1)) in
    let spelled = spelled_record (take 4 rest) body four (sym (number_is rest) ∙ sym size) (omega (arith, size, b.0)) in
    let five : record_length body ≡ suc (4 + n) = omega (arith, size) in
    let front : take (record_length body) bytes ≡ 1 ∷ take 4 rest ++ body =
    ap (take (record_length body)) o.1 ∙ ap (λ (k : ℕ). take k (1 ∷ rest)) five ∙ ap (λ (l : List ℕ). 1 ∷ l) (take_then 4 n rest (omega (arith, b.1)) ∙ ap (λ (l : List ℕ). take 4 rest ++ l) (sym b.2)) in
    rw front spelled

-- a gate's part in a row, given that what is read behind a record is one
module _ (bytes : List ℕ) (bodies : List (List ℕ)) (at : ℕ) (behind : List ℕ → Result (List (List ℕ)) ℕ) (rows : (body : List ℕ) (more : List (List ℕ)) → behind body ≡ Ok more → IsRow more (drop (record_length body) bytes)) where
  first_record : (body : List ℕ) → found bytes ≡ Record body → (read : Result (List (List ℕ)) ℕ) → behind body ≡ read → followed_by (body ∷ []) read ≡ Ok bodies → IsRow bodies bytes
  first_record body found_is (Err e) read_is is = absurd (cc)
  first_record body found_is (Ok more) read_is is =
      let row = rows body more read_is in
      let some : record_length body ≤ length bytes = record_fits bytes body found_is in
      let these : body ∷ more ≡ bodies = cc in
      let front = take_then (record_length body) (row_length more) bytes some in
      subst (λ bs. IsRow bs bytes) these (record {
        records = rw front (more_records (body ∷ []) more _ _ (one_record body _ (found_record bytes body found_is)) row.records);
        closed = ap found (sym (drop-drop (row_length more) (record_length body) bytes)) ∙ row.closed;
      })

  row_back : (f : Found) → found bytes ≡ f → records_by at f behind ≡ Ok bodies → IsRow bodies bytes
  row_back (Closed) closed is =
      let none : [] ≡ bodies = cc in
      subst (λ bs. IsRow bs bytes) none (record { records = no_records; closed = closed })
  row_back (Record body) found_is is = first_record body found_is (behind body) refl is
  row_back (Damage) found_is is = absurd (cc)

-- bytes that read as records begin with these records
reads_row : (gates at : ℕ) (bytes : List ℕ) (bodies : List (List ℕ)) → reading_from gates at bytes ≡ Ok bodies → IsRow bodies bytes
unfolding reading_from
reads_row zero at bytes bodies is = absurd (cc)
reads_row (suc gates) at bytes bodies is =
    row_back bytes bodies at (λ body. reading_from gates (at + record_length body) (drop (record_length body) bytes)) (λ body more read. reads_row gates (at + record_length body) (drop (record_length body) bytes) more read) (found bytes) refl is

pub row_of : (from : ℕ) (bytes : List ℕ) (bodies : List (List ℕ)) → reading from bytes ≡ Ok bodies → IsRow bodies bytes
unfolding reading
row_of from bytes bodies is = reads_row (length bytes) from bytes bodies is
