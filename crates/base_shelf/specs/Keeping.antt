-- The disk `net` of a shelf, which keeps the text of a scenario.
use Rattle.std.specs.Prelude.{◌≡◌, ◌⊎◌, ◌≤◌, ℕ, false, IsSome, IsTrue, List, Some, Result, Ok, Err, OnOk, IfErr, codes}
use Rattle.disk_model.specs.Disk.{DiskState, present}
use Rattle.disk_model.specs.Shelf.{KeepsOthers, ShelfState}
use Rattle.disk_journal.specs.Keeping.{Holds, IsDamageIn, StandsFor}
use Rattle.disk_journal.specs.declared.errors.JournalError.TheVariants as why
use Rattle.seata_types.specs.declared.ids.Place.TheVariants as place
use Rattle.seata_types.specs.declared.limits.TheConstants.{BODY_BYTES, SCENARIO_DISK}
use Rattle.base_records.specs.Pieces.{IsFront, records_of}
use Rattle.base_disk.specs.declared.errors.BaseError.{BaseError}
use Rattle.base_disk.specs.declared.errors.BaseError.TheVariants as error
use Rattle.base_disk.specs.Keeping.{HoldFirst, HoldOthers, IsOnTheWay, KeepsText, LacksRoom}
use Rattle.node_seat.specs.declared.faults.RunFault.{RunFault}
use Rattle.node_seat.specs.declared.faults.RunFault.TheVariants as fault
use Rattle.scenario_nodes.specs.Opening.{IsShelfFault, IsUntouched}
use Rattle.scenario_nodes.specs.Shelves.{IsGivenIn, IsNext, ReturnsAll}

-- ---- what the disk holds

-- its name
abbrev pub net_name : List ℕ
net_name = codes "net"

-- the shelf gives it next with these bytes, and it tells them
abbrev pub NetIs : {D : Type 0} → (D → DiskState) → ShelfState D → List ℕ → Type 0
NetIs state shelf bytes = IsNext state shelf SCENARIO_DISK net_name bytes

-- the shelf gives it next with bytes that stand for these records
pub record HoldsBase {D : Type 0} (state : D → DiskState) (shelf : ShelfState D) (records : List (List ℕ)) : Type 0 where
  pub bytes : List ℕ
  pub next : NetIs state shelf bytes
  pub stand : StandsFor 0 records bytes

-- it holds these records, or where they are the first ones of a text, these and some of its missing ones in order
pub record HoldsMore {D : Type 0} (state : D → DiskState) (shelf : ShelfState D) (text : List ℕ) (records : List (List ℕ)) : Type 0 where
  pub bytes : List ℕ
  pub next : NetIs state shelf bytes
  pub stand : IsOnTheWay text records bytes

-- ---- answers

-- What an answer tells of the bytes that it had: where the text is kept, or has no room, they are a journal of its first records; at `Other`
-- they are one of others; and damage stands there at that offset. So damaged bytes have no other answer than that, or that they weren't read.
abbrev pub TellsNet : (text bytes : List ℕ) → Result (Unit {0}) RunFault → Type 0
TellsNet text bytes (Ok done) = HoldFirst text bytes
TellsNet text bytes (Err (fault.Full at full)) = HoldFirst text bytes
TellsNet text bytes (Err fault.Other) = HoldOthers text bytes
TellsNet text bytes (Err (fault.Damaged at second offset)) = IsDamageIn 0 bytes (why.Damaged offset)
TellsNet text bytes (Err (fault.Store at)) = Unit {0}
TellsNet text bytes (Err fault.NoMemory) = Unit {0}

-- the bytes that it had were left alone, where they aren't those of the text's first records
abbrev pub LeavesNet : {D : Type 0} → (D → DiskState) → (old new : ShelfState D) → Result (Unit {0}) RunFault → Type 0
LeavesNet state old new (Err fault.Other) = IsTrue old.tells → (bytes : List ℕ) → NetIs state old bytes → NetIs state new bytes
LeavesNet state old new (Err (fault.Damaged at second offset)) = IsTrue old.tells → (bytes : List ℕ) → NetIs state old bytes → NetIs state new bytes
LeavesNet state old new _ = Unit {0}

-- What an answer tells of the records that it held: they are the first ones of the text, or at `Other` they aren't. Bytes that stand for
-- records are never damaged.
abbrev pub AnswersFor : (text : List ℕ) (records : List (List ℕ)) → Result (Unit {0}) RunFault → Type 0
AnswersFor text records (Ok done) = IsFront BODY_BYTES records text
AnswersFor text records (Err (fault.Full at full)) = IsFront BODY_BYTES records text
AnswersFor text records (Err fault.Other) = IsFront BODY_BYTES records text → ⊥
AnswersFor text records (Err (fault.Damaged at second offset)) = ⊥
AnswersFor text records (Err (fault.Store at)) = Unit {0}
AnswersFor text records (Err fault.NoMemory) = Unit {0}

-- Why the text wasn't kept, as the disk shows now that was taken and given back: it counted a fault; the next record has no place; the bytes
-- that it had are no journal; they are that of other records; or memory was refused.
abbrev pub IsNetFault : {D : Type 0} → (D → DiskState) → (old : ShelfState D) → (text : List ℕ) → (disk : DiskState) → RunFault → Type 0
IsNetFault state old text disk (fault.Store at) = (at ≡ place.Net) × (1 ≤ disk.counts.faults)
IsNetFault state old text disk (fault.Full at full) = (at ≡ place.Net) × LacksRoom text SCENARIO_DISK full
IsNetFault state old text disk (fault.Damaged at second offset) =
    (at ≡ place.Net) × (second ≡ false) × ((bytes : List ℕ) → NetIs state old bytes → IsDamageIn 0 bytes (why.Damaged offset))
IsNetFault state old text disk fault.Other = Unit {0}
IsNetFault state old text disk fault.NoMemory = Unit {0}

-- The disk was taken and given back. Where the text is kept, each image of it stands for its records; and where it tells its bytes and the
-- shelf what was given back, it is next with them. However it ends: where it told bytes that stood for records, each image stands for these, or
-- for some of the text's missing ones besides.
pub record IsNetBack {D : Type 0} (state : D → DiskState) (text : List ℕ) (old new : ShelfState D) (result : Result (Unit {0}) RunFault) : Type 0 where
  pub disk : D
  pub back : IsGivenIn old new net_name disk
  pub sized : (state disk).size ≡ SCENARIO_DISK
  pub whole : OnOk result (Holds (state disk) 0 (records_of BODY_BYTES text))
  pub kept : OnOk result (IsSome (state disk).content → IsTrue old.tells → HoldsBase state new (records_of BODY_BYTES text))
  pub images : (records : List (List ℕ)) → HoldsBase state old records → (c : List ℕ) → (state disk).may_leave c → IsOnTheWay text records c
  pub cause : IfErr result (IsNetFault state old text (state disk))

-- the disk wasn't had, and nothing was done under its name
pub record IsNoNet {D : Type 0} (old new : ShelfState D) (result : Result (Unit {0}) RunFault) : Type 0 where
  pub missed : RunFault
  pub is : result ≡ Err missed
  pub cause : IsShelfFault place.Net old new missed
  pub same : IsUntouched old new net_name

-- The text of a scenario was to be kept on the disk `net` of a shelf. Where that told its bytes and the shelf tells what was given back, the
-- records are there next that were, or some of the missing ones of the text besides. What the answer tells of the bytes that were there holds
-- of any, damaged ones too.
pub record KeepsBase {D : Type 0} (state : D → DiskState) (text : List ℕ) (old new : ShelfState D) (result : Result (Unit {0}) RunFault) : Type 0 where
  pub net : IsNetBack state text old new result ⊎ IsNoNet old new result
  pub next : IsTrue old.tells → (records : List (List ℕ)) → HoldsBase state old records → HoldsMore state new text records
  pub answers : (records : List (List ℕ)) → HoldsBase state old records → AnswersFor text records result
  pub tells : (bytes : List ℕ) → NetIs state old bytes → TellsNet text bytes result
  pub left : LeavesNet state old new result
  pub keeps : KeepsOthers (λ n. n ≡ net_name) old new
  pub returned : ReturnsAll old new

-- ---- for the proofs alone

-- the fault of a text that isn't kept on the disk
abbrev pub fault_of : BaseError → RunFault
fault_of error.Failed = fault.Store place.Net
fault_of (error.Damaged at) = fault.Damaged place.Net false at
fault_of (error.Full full) = fault.Full place.Net full
fault_of error.Other = fault.Other
fault_of error.NoMemory = fault.NoMemory

abbrev pub told_of : Result (Unit {0}) BaseError → Result (Unit {0}) RunFault
told_of (Ok done) = Ok done
told_of (Err e) = Err (fault_of e)

-- a text was to be kept on a disk, which comes back: this answer of its keeping is told, and the present bytes may stay at a crash
pub record KeepsNet (text : List ℕ) (old new : DiskState) (result : Result (Unit {0}) RunFault) : Type 0 where
  pub answer : Result (Unit {0}) BaseError
  pub kept : KeepsText text old new answer
  pub told : result ≡ told_of answer
  pub stays : (c : List ℕ) → present new ≡ Some c → new.may_leave c
