use Rattle.joint.proofs.world.World.go_kept.Goals as goal

pub returns-then-finds_journal_full : goal.returns-then-finds_journal_full
returns-then-finds_journal_full g c = c.tell_journal_full.ensures c.args.noise
