-- What is said of every message that was sent.
use Rattle.std.specs.Prelude.{List, [], ◌∷◌, Option, Some, None}
use Rattle.seata_types.specs.declared.ids.Place.{Place}
use Rattle.seata_types.specs.declared.messages.Outgoing.{Outgoing}
use Rattle.history_rules.specs.Histories.{Moment}

-- what was sent, if anything, has a property, with the place that sent it
abbrev pub OnSent : (Place → Outgoing → Type 0) → Place → Option Outgoing → Type 0
OnSent P from None = Unit {0}
OnSent P from (Some out) = P from out

-- each message that was sent has a property, with the place that sent it
abbrev pub EachSent : (Place → Outgoing → Type 0) → List Moment → Type 0
EachSent P [] = Unit {0}
EachSent P (m ∷ ms) = EachSent P ms × OnSent P m.place m.step.sent
