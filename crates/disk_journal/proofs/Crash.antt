-- What the two writes of an append make of a journal's bytes, and what a crash among them leaves.
use Rattle.std.proofs.Common.{◌≡◌, ◌≢◌, ◌⊎◌, ℕ, ◌+◌, ◌<◌, ◌≤◌, List, [], ◌∷◌, ◌++◌, Ok, length, get_or, take, drop, refl, sym, ◌∙◌, ap, inl, inr, arith, append_assoc, length-drop, take-append-drop}
use Rattle.std.specs.Int.{w32, to_be_bytes}
use Rattle.std.proofs.lemmas.List.{drop_at, take-take, drop_more, get_or-take, take-append-le, length-take-le}
use Rattle.std.proofs.lemmas.Bool.{cases_eq}
use Rattle.std.proofs.lemmas.Nat.{from_be_bytes-to_be_bytes_4}
use Rattle.seata_types.specs.declared.limits.TheConstants.{BODY_BYTES}
use Rattle.disk_model.specs.Disk.{put, SameOutside}
use Rattle.disk_model.proofs.Put.{put_outside}
use Rattle.disk_journal.specs.Reading.{found, reading, row_length, staged}
use Rattle.disk_journal.proofs.Rows.{AreRecords, IsRow, found_closed, closed_gate, found_some, spelled_record, one_record, more_records, row_at, row_reads}

-- Behind the gate at the end of these records stand the length and body of one more, and a closed gate.
pub record IsStaged (bodies : List (List ℕ)) (body bytes : List ℕ) : Type 0 where
  pub records : AreRecords bodies (take (row_length bodies) bytes)
  pub rest : List ℕ
  pub behind : drop (row_length bodies + 1) bytes ≡ staged body ++ rest
  pub whole : row_length bodies < length bytes

pub row_whole : (bodies : List (List ℕ)) (bytes : List ℕ) → IsRow bodies bytes → row_length bodies < length bytes
row_whole bodies bytes row = omega (arith, found_some _ row.closed, length-drop (row_length bodies) bytes)

-- what stands behind the closed gate is no part of a row
pub row_before : (bodies : List (List ℕ)) (old new : List ℕ) → length new ≡ length old → take (row_length bodies + 1) new ≡ take (row_length bodies + 1) old → IsRow bodies old → IsRow bodies new
row_before bodies old new size before row =
    let n = row_length bodies in
    let whole = row_whole bodies old row in
    let le : n ≤ n + 1 = omega arith in
    let same : take n new ≡ take n old = sym (take-take n (n + 1) new le) ∙ ap (take n) before ∙ take-take n (n + 1) old le in
    let gate : get_or new n 0 ≡ get_or old n 0 = sym (get_or-take (n + 1) new n 0 (omega arith)) ∙ ap (λ (l : List ℕ). get_or l n 0) before ∙ get_or-take (n + 1) old n 0 (omega arith) in
    let shut : get_or old n 0 ≢ 1 = closed_gate (get_or old n 0) (drop (n + 1) old) (ap found (sym (drop_more old n 0 whole)) ∙ row.closed) in
    let still : get_or new n 0 ≢ 1 = λ one. shut (sym gate ∙ one) in
    record {
      records = rw same row.records;
      closed = ap found (drop_more new n 0 (omega arith)) ∙ found_closed (get_or new n 0) (drop (n + 1) new) still;
    }

pub staged_put : (bodies : List (List ℕ)) (body old : List ℕ) → row_length bodies + 1 + length (staged body) ≤ length old → IsRow bodies old → IsStaged bodies body (put (row_length bodies + 1) (staged body) old)
staged_put bodies body old fits row =
    let n = row_length bodies in
    let behind = drop (n + 1 + length (staged body)) old in
    let front : length (take (n + 1) old) ≡ n + 1 = length-take-le (n + 1) old (omega arith) in
    let split : put (n + 1) (staged body) old ≡ take (n + 1) old ++ (staged body ++ behind) = append_assoc (take (n + 1) old) (staged body) behind in
    let same : take n (put (n + 1) (staged body) old) ≡ take n old = ap (take n) split ∙ take-append-le n (take (n + 1) old) (staged body ++ behind) (omega arith) ∙ take-take n (n + 1) old (omega arith) in
    record {
      records = rw same row.records;
      rest = behind;
      behind = ap (drop (n + 1)) split ∙ drop_at (take (n + 1) old) (staged body ++ behind) (n + 1) front;
      whole = omega (arith, (put_outside (n + 1) (staged body) old fits).size);
    }

-- records, and then an open gate before a staged record
opened : (from : ℕ) (bodies : List (List ℕ)) (body : List ℕ) → length body ≤ BODY_BYTES → (front rest : List ℕ) → AreRecords bodies front → reading from (front ++ 1 ∷ (staged body ++ rest)) ≡ Ok (bodies ++ body ∷ [])
unfolding staged
opened from bodies body small front rest are =
    let head = to_be_bytes w32 (length body) in
    let new = one_record body (1 ∷ head ++ body) (spelled_record head body refl (from_be_bytes-to_be_bytes_4 (length body) (omega arith)) small) in
    let split : front ++ 1 ∷ (head ++ body ++ 0 ∷ [] ++ rest) ≡ front ++ (1 ∷ head ++ body) ++ 0 ∷ rest =
    ap (λ (l : List ℕ). front ++ 1 ∷ l) (append_assoc (head ++ body) (0 ∷ []) rest) ∙ sym (append_assoc front (1 ∷ head ++ body) (0 ∷ rest)) in
    ap (reading from) split ∙ row_reads from (bodies ++ body ∷ []) _ (row_at (bodies ++ body ∷ []) (front ++ (1 ∷ head ++ body)) (0 ∷ rest) (more_records bodies (body ∷ []) front (1 ∷ head ++ body) are new) (found_closed 0 rest (omega arith)))

-- A gate that is torn is open, and the record counts, or it is closed, and it doesn't.
pub torn_gate : (from : ℕ) (bodies : List (List ℕ)) (body : List ℕ) → length body ≤ BODY_BYTES → (old new : List ℕ) → IsStaged bodies body old → SameOutside (row_length bodies) 1 old new → (reading from new ≡ Ok bodies) ⊎ (reading from new ≡ Ok (bodies ++ body ∷ []))
torn_gate from bodies body small old new is same =
    let n = row_length bodies in
    let gate = get_or new n 0 in
    let behind : drop (n + 1) new ≡ staged body ++ is.rest = same.after ∙ is.behind in
    let tail : drop n new ≡ gate ∷ (staged body ++ is.rest) = drop_more new n 0 (omega (arith, same.size, is.whole)) ∙ ap (λ (l : List ℕ). gate ∷ l) behind in
    let all : new ≡ take n old ++ gate ∷ (staged body ++ is.rest) = sym (take-append-drop n new) ∙ ap (λ (l : List ℕ). l ++ drop n new) same.before ∙ ap (λ (l : List ℕ). take n old ++ l) tail in
    elim (cases_eq gate 1) [
      | inl open_gate ↦ inr (ap (reading from) all ∙ ap (λ (g : ℕ). reading from (take n old ++ g ∷ (staged body ++ is.rest))) open_gate ∙ opened from bodies body small (take n old) is.rest is.records)
      | inr shut ↦ inl (ap (reading from) all ∙ row_reads from bodies _ (row_at bodies (take n old) _ is.records (found_closed gate (staged body ++ is.rest) shut)))
    ]

pub opened_gate : (from : ℕ) (bodies : List (List ℕ)) (body : List ℕ) → length body ≤ BODY_BYTES → (old : List ℕ) → IsStaged bodies body old → reading from (put (row_length bodies) (1 ∷ []) old) ≡ Ok (bodies ++ body ∷ [])
opened_gate from bodies body small old is =
    let n = row_length bodies in
    let all : put n (1 ∷ []) old ≡ take n old ++ 1 ∷ (staged body ++ is.rest) = append_assoc (take n old) (1 ∷ []) (drop (n + 1) old) ∙ ap (λ (l : List ℕ). take n old ++ 1 ∷ l) is.behind in
    ap (reading from) all ∙ opened from bodies body small (take n old) is.rest is.records
