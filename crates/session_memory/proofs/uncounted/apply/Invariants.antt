use Rattle.session_memory.proofs.uncounted.apply.Given as goal

-- the ledger is the one that the blank opens
abbrev pub ghosts-apply_by : goal.ghosts-apply_by
ghosts-apply_by a = record { name = a.blank.name; parts = a.blank.parts }
