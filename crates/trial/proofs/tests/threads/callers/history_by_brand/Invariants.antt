use Rattle.trial.proofs.tests.threads.callers.history_by_brand.Given as goal

-- the new ledger
abbrev pub ghosts-history : goal.ghosts-history
ghosts-history g a = record { name = a.blank.name; parts = a.blank.parts }
