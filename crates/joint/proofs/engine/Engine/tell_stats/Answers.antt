use Rattle.std.proofs.Common.{◌∙◌, ap}
use Rattle.congee.specs.owned.Stats.{capped}
use Rattle.joint.proofs.lemmas.calls.CensusSteps.{count_of}
use Rattle.joint.proofs.engine.Engine.tell_stats.Goals as goal

pub stats-requires-clause-counted : goal.stats-requires-clause-counted
stats-requires-clause-counted g c m st = c.capped.ensures ∙ ap capped (count_of c.args.self.now.census c.args.self.now.nodes c.args.self.now.machines.items c.requires.counted m st)
