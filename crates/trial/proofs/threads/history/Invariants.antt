use Rattle.trial.proofs.threads.history.Given as goal

-- the new ledger
abbrev pub ghosts-history_by : goal.ghosts-history_by
ghosts-history_by g a = record { name = a.blank.name; parts = a.blank.parts }
