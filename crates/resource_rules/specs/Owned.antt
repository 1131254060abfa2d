-- An open ticket by what it was opened for: a call, or a guarded local transaction.
use Rattle.std.specs.Prelude.{Option, Some, None}
use Rattle.local_txn.specs.OpenTickets.{Owner, OfCall, OfLocal, Open}

-- one of a call
abbrev pub call_by : Open → Owner → Option Open
call_by o (OfCall m x c w) = Some o
call_by o (OfLocal k) = None

abbrev pub of_call : Option Open → Option Open
of_call None = None
of_call (Some o) = call_by o o.owner

-- one of a guarded local transaction
abbrev pub local_by : Open → Owner → Option Open
local_by o (OfCall m x c w) = None
local_by o (OfLocal k) = Some o

abbrev pub of_local : Option Open → Option Open
of_local None = None
of_local (Some o) = local_by o o.owner
