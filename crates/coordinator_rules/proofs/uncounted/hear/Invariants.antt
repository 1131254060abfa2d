use Rattle.coordinator_rules.proofs.uncounted.hear.Given as goal

-- the ledgers are those that the blanks open
abbrev pub ghosts-hear_by-L-Ledger : goal.ghosts-hear_by-L-Ledger
ghosts-hear_by-L-Ledger a = record { name = a.blank.name; parts = a.blank.parts }

abbrev pub ghosts-hear_by-P-Ledger : goal.ghosts-hear_by-P-Ledger
ghosts-hear_by-P-Ledger a = record { name = a.other.name; parts = a.other.parts }
