-- What is asked of the calls that were tried, and what the records say of it and of the undo log.
use Rattle.std.specs.Prelude.{ℕ, ◌==◌, ◌&&◌, min, Bool, true, false, if◌then◌else◌, List, [], ◌∷◌, Option, Some, None}
use Rattle.std.specs.Map.{lookup, remove_entry}
use Rattle.std.specs.Option.{unwrap_or}
use Rattle.seata_types.specs.declared.ids.Leg.{Leg}
use Rattle.durable_records.specs.declared.resources.ResourceRecord.{ResourceRecord}
use Rattle.durable_records.specs.UndoRecords.{Undo, undo_of, is_marked}
use Rattle.undo_log.specs.Entries.{is_leg}
use Rattle.undo_log.specs.declared.records.UndoEntry.{UndoEntry}
use Rattle.undo_log.specs.declared.records.UndoEntry.TheVariants as entry
use Rattle.resource_memory.specs.Changes.{undo_record}
use Rattle.resource_memory.specs.Known.{Calls}

-- the call that a branch was tried for, 0 for none
abbrev pub call_at : Calls → Leg → ℕ
call_at calls leg = unwrap_or (lookup (is_leg leg) calls) 0

-- the calls without that of this branch
abbrev pub without_call : Calls → Leg → Calls
without_call calls leg = remove_entry (is_leg leg) calls

-- whether this is a branch of x that was tried for its call c
abbrev pub is_for_call : (x c : ℕ) → Leg → ℕ → Bool
is_for_call x c leg call = (leg.xid.0 == x) && (call == c)

-- the least branch that was tried for call c of x: the first one, as branches stand in order
abbrev pub tried_leg : (x c : ℕ) → Calls → Option Leg
tried_leg x c [] = None
tried_leg x c (e ∷ es) = if is_for_call x c e.0 e.1 then Some e.0 else tried_leg x c es

-- ---- by the records

abbrev pub branch_in : Leg → ℕ
branch_in leg = leg.branch.0

abbrev pub lesser : ℕ → Option ℕ → Option ℕ
lesser b None = Some b
lesser b (Some c) = Some (min b c)

-- the least of these branches
abbrev pub least_branch : List ℕ → Option ℕ
least_branch [] = None
least_branch (b ∷ bs) = lesser b (least_branch bs)

abbrev pub entry_for : Undo → UndoEntry
entry_for u = undo_record (record { xid = record { 0 = u.xid }; branch = record { 0 = u.branch } }) u.call u.images u.reads

abbrev pub entry_by : Option Undo → (marked : Bool) → Option UndoEntry
entry_by (Some u) marked = Some (entry_for u)
entry_by None true = Some entry.Finished
entry_by None false = None

-- a branch's undo record, or else its marker
abbrev pub entry_now : List ResourceRecord → (x b : ℕ) → Option UndoEntry
entry_now rs x b = entry_by (undo_of rs x b) (is_marked rs x b)
