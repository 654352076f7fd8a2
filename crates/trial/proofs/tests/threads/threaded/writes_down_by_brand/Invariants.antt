use Rattle.trial.proofs.tests.threads.threaded.writes_down_by_brand.Given as goal

-- the new ledger
abbrev pub ghosts-writes_down : goal.ghosts-writes_down
ghosts-writes_down g a = record { name = a.blank.name; parts = a.blank.parts }
