use Rattle.session_memory.proofs.uncounted.load.Given as goal

-- the ledger is the one that the blank opens
abbrev pub ghosts-load_by : goal.ghosts-load_by
ghosts-load_by a = record { name = a.blank.name; parts = a.blank.parts }
