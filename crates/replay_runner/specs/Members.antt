-- The nodes of a replay: what each stands for, and what one entry of one is.
use Rattle.std.specs.Prelude.{◌≡◌, ◌⊎◌, ℕ, nat_lt, if◌then◌else◌, List, [], ◌∷◌, ◌++◌, Option, option_map, Result, Ok, Err, IfOk}
use Rattle.seata_types.specs.declared.ids.Place.{Place}
use Rattle.seata_types.specs.declared.messages.Step.{Step}
use Rattle.history_rules.specs.Own.{Event}
use Rattle.history_rules.specs.Nodes.{Role}
use Rattle.history_rules.specs.Histories.{Moment, own}
use Rattle.history_rules.specs.Schedules.{last_turn}
use Rattle.node_steps.specs.Nodes.{NodeState}
use Rattle.history_text.specs.declared.entries.Cause.{Cause}
use Rattle.history_text.specs.declared.entries.Cause.TheVariants as cause
use Rattle.history_text.specs.History.{entries}
use Rattle.node_seat.specs.Entering.{Does, Stays, entry_at}
use Rattle.node_seat.specs.Seating.{traced_of}
use Rattle.node_seat.specs.declared.faults.RunFault.{RunFault}
use Rattle.node_seat.specs.declared.faults.RunFault.TheVariants as fault
use Rattle.replay_runner.specs.declared.members.Member.{Member}
use Rattle.replay_runner.specs.declared.messages.Letter.{Letter}
use Rattle.replay_runner.specs.Letters.{letter_from}
use Rattle.replay_runner.specs.Traces.{at}

-- the stamp of a node's last turn, after an entry
abbrev pub turned_by : Cause → (stamp before : ℕ) → ℕ
turned_by cause.Turn stamp before = stamp
turned_by _ stamp before = before

-- A node did a step, its entry was added, and this is the message that it sent, unless memory for that was refused.
pub record Makes {N K : Type 0} (state : N → NodeState) (old new : Member N K) (stamp now : ℕ) (why : Cause) (event : Event) (step : Step) (result : Result (Option Letter) RunFault) : Type 0 where
  pub does : Does (state old.seat.node) (state new.seat.node) event now step
  pub printed : new.seat.trace ≡ old.seat.trace ++ entry_at stamp (state old.seat.node).place now why step ∷ []
  pub turned : IfOk result (λ letter. new.turned ≡ turned_by why stamp old.turned)
  pub sent : IfOk result (λ letter. letter ≡ option_map (letter_from (state old.seat.node).place stamp) step.sent)

-- One entry was made at Ok. After a fault none was; or, after want of memory, it was and its message is lost.
abbrev pub IsMade : {N K : Type 0} → (N → NodeState) → (old new : Member N K) → (stamp now : ℕ) → Cause → Event → Result (Option Letter) RunFault → Type 0
IsMade state old new stamp now why event (Ok letter) = (step : Step) × Makes state old new stamp now why event step (Ok letter)
IsMade state old new stamp now why event (Err missed) =
    Stays state (traced_of old.seat) (traced_of new.seat) now event missed ⊎ ((missed ≡ fault.NoMemory) × (step : Step) × Makes state old new stamp now why event step (Err missed))

-- the node of this role at a place, after these moments: it stands for its own entries, and its trace is what is printed of them
pub record IsMember {N K : Type 0} (state : N → NodeState) (p : Place) (role : Role) (m : Member N K) (ms : List Moment) : Type 0 where
  pub stands : (state m.seat.node).stands_for role (own p ms)
  pub traced : m.seat.trace ≡ entries (at p ms)
  pub turned : m.turned ≡ last_turn ms p

-- ---- turns

-- where a node stands, with the stamp of its last turn
abbrev pub turn_of : {N K : Type 0} → (N → NodeState) → Member N K → Place × ℕ
turn_of state m = ((state m.seat.node).place, m.turned)

-- of a place with the stamp of its last turn and of others, the one whose last turn is the earliest; of several the first
abbrev pub earliest_of : Place × ℕ → List (Place × ℕ) → Place × ℕ
earliest_of first [] = first
earliest_of first (turn ∷ turns) = earliest_of (if nat_lt turn.1 first.1 then turn else first) turns
