use Rattle.history_tests.proofs.coordinator.begins.Given as goal

-- the ledgers are those that the blanks open
abbrev pub ghosts-counts-L-Ledger : goal.ghosts-counts-L-Ledger
ghosts-counts-L-Ledger a = record { name = a.steps.name; parts = a.steps.parts }

abbrev pub ghosts-counts-P-Ledger : goal.ghosts-counts-P-Ledger
ghosts-counts-P-Ledger a = record { name = a.passes.name; parts = a.passes.parts }
