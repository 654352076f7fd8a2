use Rattle.std.proofs.Common.{refl}
use Rattle.joint.proofs.lemmas.calls.CensusSteps.{is_empty}
use Rattle.joint.proofs.engine.Engine.is_empty.Goals as goal

pub returns : goal.returns
returns g c m st = is_empty c.args.self.now.census c.args.self.now.nodes c.args.self.now.machines.items c.requires _ refl m st
