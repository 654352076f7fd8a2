use Rattle.trial.proofs.tests.threads.refusals.unopened_by_brand.Given as goal

-- the new ledger
abbrev pub ghosts-recorded_unopened : goal.ghosts-recorded_unopened
ghosts-recorded_unopened g a = record { name = a.blank.name; parts = a.blank.parts }
