-- The order of a snapshot, and what a memory keeps.
use Rattle.std.specs.Prelude.{◌≡◌, ℕ, ◌<◌, ◌≤◌, List, [], ◌∷◌}
use Rattle.lock_table.specs.Locks.{Holds}
use Rattle.session_log.specs.declared.sessions.Branch.{Branch}
use Rattle.session_log.specs.declared.sessions.SessionEntry.{SessionEntry}
use Rattle.session_log.specs.declared.sessions.Snapshot.{Snapshot}
use Rattle.session_log.specs.Soundness.{entry_xid}
use Rattle.session_memory.specs.Holding.{held_in}

-- P holds of each of these
abbrev pub Each : {X : Type 0} → (X → Type 0) → List X → Type 0
Each P [] = Unit {0}
Each P (x ∷ xs) = P x × Each P xs

-- the number of each of these is above n
abbrev pub AreAbove : {X : Type 0} → (X → ℕ) → ℕ → List X → Type 0
AreAbove number n [] = Unit {0}
AreAbove number n (x ∷ xs) = (n < number x) × AreAbove number n xs

-- their numbers rise
abbrev pub AreRising : {X : Type 0} → (X → ℕ) → List X → Type 0
AreRising number [] = Unit {0}
AreRising number (x ∷ xs) = AreAbove number (number x) xs × AreRising number xs

abbrev pub branch_number : Branch → ℕ
branch_number b = b.id.0

-- the numbers of its branches rise
abbrev pub HasRising : SessionEntry → Type 0
HasRising e = AreRising branch_number e.session.branches

abbrev pub IsGranted : ℕ → Branch → Type 0
IsGranted granted b = b.id.0 ≤ granted

-- its number is one of those that began, and its branches are some of those that were granted, in rising order
pub record IsNumbered (begun granted : ℕ) (e : SessionEntry) : Type 0 where
  pub xid : e.xid.0 ≤ begun
  pub branches : Each (IsGranted granted) e.session.branches
  pub rising : AreRising branch_number e.session.branches

-- transactions and branches are numbered in rising order, no further than the counts say
pub record IsCounted (s : Snapshot) : Type 0 where
  pub begun : s.begun ≤ s.acts
  pub granted : s.granted ≤ s.acts
  pub each : Each (IsNumbered s.begun s.granted) s.sessions
  pub rising : AreRising entry_xid s.sessions

-- the table of locks has the rows that the branches hold
pub record IsKept (s : Snapshot) (hs : Holds) : Type 0 where
  pub counted : IsCounted s
  pub locks : hs ≡ held_in s
