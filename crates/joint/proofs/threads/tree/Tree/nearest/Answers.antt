use Rattle.std.proofs.Common.{sym, ◌∙◌}
use Rattle.joint.proofs.lemmas.engine.Looking.{look_refused}
use Rattle.joint.proofs.lemmas.threads.WritingEnds.{serves_done}
use Rattle.joint.specs.nodes.Nearest.{IsNearest}
use Rattle.joint.proofs.threads.tree.Tree.nearest.Goals as goal

pub returns-clause-answers : goal.returns-clause-answers
returns-clause-answers g c = serves_done _ _ _ (sym c.serves.ensures ∙ c.if-not-serves.false) (c.world-machine.result.now, c.sound.ensures.holds, c.nearest.ensures)

pub returns-clause-refused : goal.returns-clause-refused
returns-clause-refused g c = look_refused g.P.Payload.always_copies c.world-machine.result.now c.args.worker.now.number (λ m pair. IsNearest m c.args.near pair) c.nearest.result c.nearest.ensures
