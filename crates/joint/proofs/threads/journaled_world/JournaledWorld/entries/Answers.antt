use Rattle.std.proofs.Common.{◌∙◌}
use Rattle.joint.proofs.lemmas.threads.Watching.{journaled}
use Rattle.joint.proofs.threads.journaled_world.JournaledWorld.entries.Goals as goal

pub returns-in-Ok-clause-journal : goal.returns-in-Ok-clause-journal
returns-in-Ok-clause-journal g c = (c.args.self.now.world, journaled c.args.self.now.world c.sound.ensures.holds (c.args.self.now.some, c.args.self.now.few), c.in-Ok.ensures ∙ c.journal.ensures.entries)
