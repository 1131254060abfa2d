-- A disk as contracts see it, and what each of its calls does to it.
use Rattle.std.specs.Prelude.{◌≡◌, ◌⊎◌, ℕ, ◌+◌, ◌-◌, ◌^◌, ◌≤◌, min, Bool, IsTrue, Option, Some, None, option_map, is_some, IsSome, List, ◌++◌, length, take, drop, Result, OnOk, OnErr}

-- what a disk tells of its bytes
pub record Content : Type 0 where
  -- the bytes that a read gives
  pub present : List ℕ
  -- the pick of the last restart that answered Ok, if there was one
  pub last_pick : Option ℕ

-- what a disk tells of calls that failed, and of a stop
pub record Counts : Type 0 where
  -- how often a call failed, and how often it did by the disk's own fault
  pub faults : ℕ
  pub own : ℕ
  -- how many writes and syncs a stop still lets pass, if one is armed, and whether it has failed a call
  pub left : Option ℕ
  pub stopped : Bool

-- what contracts see of a disk
pub record DiskState : Type 1 where
  pub size : ℕ
  -- where told
  pub content : Option Content
  -- A crash now may leave these bytes. They are the disk's images.
  pub may_leave : List ℕ → Type 0
  -- a restart now that picks by this number may come back as these bytes
  pub comes_back : ℕ → List ℕ → Type 0
  -- a number that does not fall, and the test that a crash at some moment since then may have left these bytes
  pub moment : ℕ
  pub left_since : ℕ → List ℕ → Type 0
  pub tells_moments : Bool
  pub counts : Counts

-- the present bytes, and below them the last pick, where told
abbrev pub present : DiskState → Option (List ℕ)
present disk = option_map (λ (c : Content). c.present) disk.content

abbrev pub last_pick : DiskState → Option (Option ℕ)
last_pick disk = option_map (λ (c : Content). c.last_pick) disk.content

-- what holds of every disk
pub record IsLawful (disk : DiskState) : Type 0 where
  -- the present bytes are one of the images
  pub present_may_stay : (c : List ℕ) → present disk ≡ Some c → disk.may_leave c
  -- what is not told holds of no bytes
  pub told : (c : List ℕ) → disk.may_leave c → IsSome disk.content
  pub moments_told : (t : ℕ) (c : List ℕ) → disk.left_since t c → IsTrue disk.tells_moments
  pub full_size : (c : List ℕ) → disk.may_leave c → length c ≡ disk.size
  -- now is one of the moments since an earlier one, and the only one since now
  pub counts_now : IsTrue disk.tells_moments → (t : ℕ) (c : List ℕ) → t ≤ disk.moment → disk.may_leave c → disk.left_since t c
  pub only_now : (c : List ℕ) → disk.left_since disk.moment c → disk.may_leave c
  -- the failures of a stop are not the disk's own
  pub own_among_faults : disk.counts.own ≤ disk.counts.faults
  -- a stop that has failed a call lets none pass
  pub stopped_lets_none : IsTrue disk.counts.stopped → disk.counts.left ≡ Some 0

-- What no call changes.
pub record SameKind (old new : DiskState) : Type 0 where
  pub size : new.size ≡ old.size
  pub tells_images : is_some new.content ≡ is_some old.content
  pub tells_moments : new.tells_moments ≡ old.tells_moments

-- Nothing else changes, where no restart does.
pub record KeepsRest (old new : DiskState) : Type 0 where
  pub kind : SameKind old new
  pub last_pick : last_pick new ≡ last_pick old

-- these bytes with others written over them from an offset on
abbrev pub put : {A : Type 0} → ℕ → List A → List A → List A
put at bytes old = take at old ++ bytes ++ drop (at + length bytes) old

-- what was read from an offset on are the present bytes there, where told
abbrev pub Reads : DiskState → ℕ → List ℕ → Type 0
Reads disk at bytes = (c : List ℕ) → present disk ≡ Some c → bytes ≡ take (length bytes) (drop at c)

-- the two agree but for n bytes from an offset on
pub record SameOutside (at n : ℕ) (old new : List ℕ) : Type 0 where
  pub size : length new ≡ length old
  pub before : take at new ≡ take at old
  pub after : drop (at + n) new ≡ drop (at + n) old

-- one of these with n bytes from an offset on pending, so that they may hold anything
abbrev pub Pending : ℕ → ℕ → (List ℕ → Type 0) → List ℕ → Type 0
Pending at n outcomes c = (d : List ℕ) × outcomes d × SameOutside at n d c

-- A read changes no byte, no image and no outcome of a restart.
pub record KeepsContent (old new : DiskState) : Type 0 where
  pub content : new.content ≡ old.content
  pub images : (c : List ℕ) → old.may_leave c → new.may_leave c
  pub outcomes : (pick : ℕ) (c : List ℕ) → new.comes_back pick c → old.comes_back pick c

-- the present bytes have these from an offset on, and the range is pending beside what was
pub record IsWritten (at : ℕ) (bytes : List ℕ) (old new : DiskState) : Type 0 where
  pub present : present new ≡ option_map (put at bytes) (present old)
  pub pending : (c : List ℕ) → Pending at (length bytes) old.may_leave c → new.may_leave c

-- nothing is pending: the present bytes are the only image
abbrev pub IsSettled : DiskState → Type 0
IsSettled disk = (c : List ℕ) → disk.may_leave c → present disk ≡ Some c

-- a restart came back as it may by this pick
abbrev pub IsPicked : ℕ → DiskState → DiskState → Type 0
IsPicked pick old new = (c : List ℕ) → new.may_leave c → old.comes_back pick c

-- a sync changes no present byte, and leaves nothing pending
pub record IsSynced (old new : DiskState) : Type 0 where
  pub content : new.content ≡ old.content
  pub settled : IsSettled new

-- A crash after a call leaves bytes that have P, and at each moment of the call it leaves those or what it left before.
pub record Leaves (old new : DiskState) (P : List ℕ → Type 0) : Type 0 where
  pub now : (c : List ℕ) → new.may_leave c → P c
  pub later : old.moment ≤ new.moment
  pub since : (t : ℕ) (c : List ℕ) → t ≤ old.moment → new.left_since t c → old.left_since t c ⊎ P c
  pub kept : (t : ℕ) (c : List ℕ) → t ≤ old.moment → old.left_since t c → new.left_since t c

-- a count rose; at its type's end it stands still
abbrev pub Rose : ℕ → ℕ → Type 0
Rose before now = min (before + 1) (2 ^ 64 - 1) ≤ now

-- n writes and syncs went by a stop, if one is armed
abbrev pub Passed : ℕ → Option ℕ → Option ℕ → Type 0
Passed n None None = Unit {0}
Passed n (Some before) (Some after) = before ≡ after + n
Passed n _ _ = ⊥

-- at most n did
abbrev pub PassedAtMost : ℕ → Option ℕ → Option ℕ → Type 0
PassedAtMost n None None = Unit {0}
PassedAtMost n (Some before) (Some after) = (after ≤ before) × (before ≤ after + n)
PassedAtMost n _ _ = ⊥

-- a call failed by the disk's own fault, or since a stop lets no more pass
pub record HasCause (old new : Counts) : Type 0 where
  pub fault : Rose old.faults new.faults
  pub cause : Rose old.own new.own ⊎ (new.left ≡ Some 0)

-- why a read failed: a stop had failed a call before, or the disk's own fault
abbrev pub HasReadCause : Counts → Counts → Type 0
HasReadCause old new = IsTrue old.stopped ⊎ Rose old.own new.own

-- What n writes and syncs in a row do to the counts, with any reads among them before the last. A read alone is the case 0.
pub record CountsCalls {T E : Type 0} (n : ℕ) (result : Result T E) (old new : Counts) : Type 0 where
  pub faults : old.faults ≤ new.faults
  pub own : old.own ≤ new.own
  pub passed : OnOk result (Passed n old.left new.left)
  pub running : OnOk result (new.stopped ≡ old.stopped)
  pub stuck : OnErr result (PassedAtMost (n - 1) old.left new.left)
  pub cause : OnErr result (HasCause old new)

-- A restart ends a stop, and fails by the disk's own fault alone.
pub record CountsRestart {T E : Type 0} (result : Result T E) (old new : Counts) : Type 0 where
  pub faults : old.faults ≤ new.faults
  pub own : old.own ≤ new.own
  pub unarmed : OnOk result (new.left ≡ None)
  pub stuck : OnErr result (new.left ≡ old.left)
  pub held : OnErr result (new.stopped ≡ old.stopped)
  pub fault : OnErr result (Rose old.faults new.faults)
  pub cause : OnErr result (Rose old.own new.own)
