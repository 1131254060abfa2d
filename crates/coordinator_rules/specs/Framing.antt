-- Messages that can be framed, as a coordinator is given them and sends them.
use Rattle.std.specs.Prelude.{IfSome}
use Rattle.seata_types.specs.declared.messages.Input.{Input}
use Rattle.seata_types.specs.declared.messages.Input.TheVariants as input
use Rattle.seata_types.specs.declared.messages.Outgoing.{Outgoing}
use Rattle.seata_types.specs.declared.messages.Step.{Step}
use Rattle.frame_codec.specs.Limits.{IsFramable}

-- a message that can be framed, or no message
abbrev pub ComesFramable : Input → Type 0
ComesFramable (input.Message from heard) = IsFramable heard
ComesFramable _ = Unit {0}

-- a message on its way, which can be framed
abbrev pub IsFramableTo : Outgoing → Type 0
IsFramableTo out = IsFramable out.message

-- what a step sends, if anything, can be framed
abbrev pub SendsFramable : Step → Type 0
SendsFramable step = IfSome step.sent IsFramableTo
