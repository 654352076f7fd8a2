use Rattle.trial.proofs.examples.history.writes_of_two.Given as goal

-- the new ledger
abbrev pub ghosts-known_of_two : goal.ghosts-known_of_two
ghosts-known_of_two g a = record { name = a.blank.name; parts = a.blank.parts }
