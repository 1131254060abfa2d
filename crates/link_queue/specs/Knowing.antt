-- What the ends of a link know, and the rule of its queue: what was pushed is what was taken and then what the queue holds.
use Rattle.std.specs.Prelude.{◌≡◌, ℕ, true, false, Option, List, [], ◌++◌}
use mathlib.Core.Option.{some}
use lib.ListN.{get_elem?}
use Rattle.crossbeam_queue.specs.declared.array_queue.Doing.{Doing}
use Rattle.crossbeam_queue.specs.declared.array_queue.Slotted.{Slotted}
use Rattle.crossbeam_queue.specs.Passes.{IsPassOf, Pass, ruled_capacity, view}
use Rattle.frame_codec.specs.Packets.{Sent}
use Rattle.link_queue.specs.Links.{room}
use Rattle.link_queue.specs.declared.known.Known.{Known}

-- an end that may push and take, one that may only push, one that may only take, and one that may do neither any longer
abbrev pub both_ends : (pushed taken : List Sent) → Known
both_ends pushed taken = record { pushes = true; takes = true; pushed = pushed; taken = taken }

abbrev pub sending_end : List Sent → Known
sending_end pushed = record { pushes = true; takes = false; pushed = pushed; taken = [] }

abbrev pub taking_end : List Sent → Known
taking_end taken = record { pushes = false; takes = true; pushed = []; taken = taken }

abbrev pub spent_end : Known
spent_end = record { pushes = false; takes = false; pushed = []; taken = [] }

-- an end that may push has this number and knows all that was pushed, and one that may take alike
pub record Fits (sender taker : ℕ) (pushed taken : List Sent) (number : ℕ) (end : Known) : Type 0 where
  pub pushes : end.pushes ≡ true → (number ≡ sender) × (end.pushed ≡ pushed)
  pub takes : end.takes ≡ true → (number ≡ taker) × (end.taken ≡ taken)

-- the rule, of what the queue holds, oldest first, and of its ends by their numbers
pub record IsInOrder (items : List Sent) (ends : List Known) : Type 0 where
  pub sender : ℕ
  pub taker : ℕ
  pub pushed : List Sent
  pub taken : List Sent
  pub in_order : pushed ≡ taken ++ items
  pub each : (number : ℕ) (end : Known) → get_elem? ends number ≡ some end → Fits sender taker pushed taken number end

module _ {Q A : Type 0} where
  -- the end of this queue, which has the room of a link, that may only push
  pub record IsSender (queue : Slotted (Option Sent) (Doing Sent Known) Q A) (end : Pass Sent Known) : Type 0 where
    pub of_queue : IsPassOf queue end
    pub room_is : ruled_capacity queue ≡ room
    pub pushes : view end ≡ sending_end (view end).pushed

  -- the end of this queue that may only take
  pub record IsTaker (queue : Slotted (Option Sent) (Doing Sent Known) Q A) (end : Pass Sent Known) : Type 0 where
    pub of_queue : IsPassOf queue end
    pub takes : view end ≡ taking_end (view end).taken
