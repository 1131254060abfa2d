-- What the bytes of a disk stand for. A journal is a row of records from an offset on. A record is a gate, the length of its
-- body as four bytes, the body, and then the next record's gate. A gate is open where it is 1, and closed elsewhere.
use Rattle.std.specs.Prelude.{ℕ, zero, suc, ◌+◌, ◌==◌, ◌&&◌, nat_lt, nat_le, if◌then◌else◌, List, [], ◌∷◌, ◌++◌, length, take, drop, Result, Ok, Err}
use Rattle.std.specs.Int.{w32, from_be_bytes, to_be_bytes}
use Rattle.seata_types.specs.declared.limits.TheConstants.{BODY_BYTES}
use Rattle.disk_journal.specs.declared.layout.TheConstants.{RECORD_HEAD_BYTES}

-- What stands at a gate: no record, since it is closed, or a record with this body, or damage.
pub data Found : Type 0 where
  Closed : Found
  Record : (body : List ℕ) → Found
  Damage : Found

-- the number that the first four bytes spell, the greatest byte first
unfoldable pub number_in : List ℕ → ℕ
number_in bytes = from_be_bytes w32 (take 4 bytes)

-- the record whose length and body begin these bytes: the length is within the limit, and a gate stands behind the body
unfoldable pub record_in : List ℕ → Found
record_in bytes =
    let count = number_in bytes in
    if nat_le count BODY_BYTES && nat_lt (4 + count) (length bytes) then Record (take count (drop 4 bytes)) else Damage

-- what stands at the gate that these bytes begin with
unfoldable pub found : List ℕ → Found
found [] = Damage
found (gate ∷ rest) = if gate == 1 then record_in rest else Closed

-- how many bytes a record takes, up to the next gate
abbrev pub record_length : List ℕ → ℕ
record_length body = RECORD_HEAD_BYTES + length body

-- these records and then the others, if there is no damage among them
abbrev pub followed_by : List (List ℕ) → Result (List (List ℕ)) ℕ → Result (List (List ℕ)) ℕ
followed_by bodies (Ok more) = Ok (bodies ++ more)
followed_by bodies (Err at) = Err at

-- the records from a gate at this offset on, by what stands there and by what is read behind a record
abbrev pub records_by : ℕ → Found → (List ℕ → Result (List (List ℕ)) ℕ) → Result (List (List ℕ)) ℕ
records_by at Closed behind = Ok []
records_by at (Record body) behind = followed_by (body ∷ []) (behind body)
records_by at Damage behind = Err at

-- the records from the gate at an offset on, where these bytes stand, or the offset of the damage: at most so many gates
unfoldable pub reading_from : ℕ → ℕ → List ℕ → Result (List (List ℕ)) ℕ
reading_from zero at bytes = Err at
reading_from (suc gates) at bytes =
    records_by at (found bytes) (λ body. reading_from gates (at + record_length body) (drop (record_length body) bytes))

-- The bodies of the records of these bytes, which begin at an offset, in order; or the offset of the damage. There are
-- fewer gates than bytes.
unfoldable pub reading : ℕ → List ℕ → Result (List (List ℕ)) ℕ
reading from bytes = reading_from (length bytes) from bytes

-- how many bytes these records take
abbrev pub row_length : List (List ℕ) → ℕ
row_length [] = 0
row_length (body ∷ bodies) = record_length body + row_length bodies

-- a record behind its gate, and a closed gate behind it
unfoldable pub staged : List ℕ → List ℕ
staged body = to_be_bytes w32 (length body) ++ body ++ 0 ∷ []
