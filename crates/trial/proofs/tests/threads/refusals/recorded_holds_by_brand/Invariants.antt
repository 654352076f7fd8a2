use Rattle.trial.proofs.tests.threads.refusals.recorded_holds_by_brand.Given as goal

-- the new ledger
abbrev pub ghosts-recorded_holds : goal.ghosts-recorded_holds
ghosts-recorded_holds g a = record { name = a.blank.name; parts = a.blank.parts }
