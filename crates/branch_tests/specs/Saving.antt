-- What a memory keeps from its opening on, so that its snapshot can be written.
use Rattle.resource_memory.specs.Keeping.{IsKept, FitsParts}
use Rattle.resource_memory.specs.Known.{Known}

-- its parts stand in order, and each has a place in a snapshot
abbrev pub CanBeSaved : Known → Type 0
CanBeSaved k = IsKept k × FitsParts k
