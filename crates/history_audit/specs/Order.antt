-- The order of entries that are judged.
use Rattle.std.specs.Prelude.{ℕ, nat_lt, Bool, true, List, [], ◌∷◌, Option, Some, None}
use Rattle.std.specs.Ordering.{is_lt}
use Rattle.history_rules.specs.Histories.{Moment}
use Rattle.history_text.specs.declared.entries.Cause.{Cause}
use Rattle.history_text.specs.declared.entries.Cause.TheVariants as cause
use Rattle.history_text.specs.declared.entries.Origin.{Origin}
use Rattle.history_text.specs.Origins.{origin_cmp, origin_of}

-- where the newest entry stands
abbrev pub newest_of : List Moment → Option Origin
newest_of [] = None
newest_of (m ∷ ms) = Some (origin_of m.stamp m.place)

-- an entry stands above the newest one before it
abbrev pub is_above : Option Origin → Origin → Bool
is_above None next = true
is_above (Some before) next = is_lt (origin_cmp before next)

-- a message is received at a greater number than it was sent at
abbrev pub is_received_later : Cause → ℕ → Bool
is_received_later (cause.Deliver stamp from) received = nat_lt stamp received
is_received_later _ received = true
