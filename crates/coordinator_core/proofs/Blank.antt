-- Blank disks stand for no records, for the crates above.
use Rattle.std.proofs.Common.{◌≡◌, ◌+◌, ◌-◌, ◌<◌, ◌≤◌, ℕ, zero, suc, false, List, [], drop, None, refl, ap, ◌∙◌, arith}
use Rattle.std.specs.Prelude.{replicate, Ok}
use Rattle.disk_journal.specs.Reading.{found, reading, reading_from}
use Rattle.journal_checkpoint.specs.declared.types.Found.{Found}
use Rattle.journal_checkpoint.specs.declared.types.Head.TheVariants as head
use Rattle.journal_checkpoint.specs.Extents.{blank, extent_of}
use Rattle.journal_checkpoint.specs.Pairs.{active_of, held_by, head_in, head_of, is_active, pair_reading, with_records}
use Rattle.journal_checkpoint.specs.Images.{PairStandsFor}
use Rattle.session_store.specs.Standing.{StandsForSessions}

-- so many zero bytes
abbrev pub zeros : ℕ → List ℕ
zeros n = replicate n 0

abbrev pub nothing : Found
nothing = record { second = false; generation = 0; snapshot = None; records = [] }

-- their journal stands where one begins
pub blank_extent : extent_of nothing ≡ blank
blank_extent = refl

blank_head : (n : ℕ) → 0 < n → head_of (zeros n) ≡ head.Shut
unfolding head_in
blank_head zero some = absurd (omega arith)
blank_head (suc n) some = refl

blank_rest : (k n m : ℕ) → n ≡ k + m → drop k (zeros n) ≡ zeros m
blank_rest zero n m e = ap zeros (omega (arith, e))
blank_rest (suc k) zero m e = absurd (omega (arith, e))
blank_rest (suc k) (suc n) m e = blank_rest k n m (omega (arith, e))

blank_reading : (m : ℕ) → 0 < m → reading 9 (zeros m) ≡ Ok []
unfolding reading reading_from found
blank_reading zero some = absurd (omega arith)
blank_reading (suc m) some = refl

pub blank_pair : (n : ℕ) → 10 ≤ n → PairStandsFor nothing (zeros n) (zeros n)
unfolding pair_reading
blank_pair n most =
    let shut = blank_head n (omega (arith, most)) in
    let rest = blank_rest 9 n (n - 9) (omega (arith, most)) in
    ap (λ h. held_by (zeros n) (zeros n) (active_of h (head_of (zeros n)))) shut
    ∙ ap (λ h. held_by (zeros n) (zeros n) (active_of head.Shut h)) shut
    ∙ ap (with_records (is_active false 0 None false) (zeros n)) (ap (reading 9) rest ∙ blank_reading (n - 9) (omega (arith, most)))

pub blank_sessions : (managers resources n : ℕ) → 10 ≤ n → StandsForSessions managers resources [] (zeros n) (zeros n)
blank_sessions managers resources n most = record {
  found = nothing;
  pair = blank_pair n most;
  list = record { records = refl; made = record { allowed = tt; within = refl; few = omega arith }; few = tt };
}
