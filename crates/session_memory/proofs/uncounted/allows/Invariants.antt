use Rattle.session_memory.proofs.uncounted.allows.Given as goal

-- the ledger is the one that the blank opens
abbrev pub ghosts-allows_by : goal.ghosts-allows_by
ghosts-allows_by a = record { name = a.blank.name; parts = a.blank.parts }
