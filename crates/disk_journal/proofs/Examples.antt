-- What some bytes stand for.
use Rattle.std.proofs.Common.{◌≡◌, [], ◌∷◌, Err, refl}
use Rattle.disk_journal.specs.Reading.{reading, reading_from, found, record_in, number_in, staged}
use Rattle.disk_journal.specs.Keeping.{StandsFor}

-- a journal with no record, and with one
no_record : StandsFor 0 [] (0 ∷ 0 ∷ 0 ∷ 0 ∷ [])
unfolding reading reading_from found record_in number_in
no_record = refl

one_record : StandsFor 0 ((170 ∷ 187 ∷ []) ∷ []) (1 ∷ 0 ∷ 0 ∷ 0 ∷ 2 ∷ 170 ∷ 187 ∷ 0 ∷ [])
unfolding reading reading_from found record_in number_in
one_record = refl

-- an empty record, and what stands behind a closed gate
empty_record : StandsFor 0 ([] ∷ []) (1 ∷ 0 ∷ 0 ∷ 0 ∷ 0 ∷ 2 ∷ 1 ∷ 1 ∷ [])
unfolding reading reading_from found record_in number_in
empty_record = refl

-- no gate, a gate with no length, a record with no gate behind it, and a length above the limit
no_gate : reading 0 [] ≡ Err 0
unfolding reading reading_from found record_in number_in
no_gate = refl

no_length : reading 0 (1 ∷ 0 ∷ 0 ∷ 0 ∷ []) ≡ Err 0
unfolding reading reading_from found record_in number_in
no_length = refl

no_gate_behind : reading 0 (1 ∷ 0 ∷ 0 ∷ 0 ∷ 0 ∷ 1 ∷ 0 ∷ 0 ∷ 0 ∷ 1 ∷ 5 ∷ []) ≡ Err 5
unfolding reading reading_from found record_in number_in
no_gate_behind = refl

too_long : reading 0 (1 ∷ 255 ∷ 255 ∷ 255 ∷ 255 ∷ 0 ∷ 0 ∷ []) ≡ Err 0
unfolding reading reading_from found record_in number_in
too_long = refl

-- what an append writes behind its gate
written : staged (170 ∷ 187 ∷ []) ≡ 0 ∷ 0 ∷ 0 ∷ 2 ∷ 170 ∷ 187 ∷ 0 ∷ []
unfolding staged
written = refl
