use Rattle.trial.proofs.tests.threads.histories.counts_by_brand.Given as goal

-- the new ledger
abbrev pub ghosts-counts : goal.ghosts-counts
ghosts-counts g a = record { name = a.blank.name; parts = a.blank.parts }
