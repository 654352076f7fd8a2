use Rattle.joint.proofs.threads.driver.drive.Goals as goal

pub returns-clause-turns : goal.returns-clause-turns
returns-clause-turns g c = rw c.new-answers.ensures at c.drive_to-done.ensures.turns
