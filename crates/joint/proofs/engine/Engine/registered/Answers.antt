use Rattle.std.proofs.Common.{ap, arith}
use Rattle.std.specs.Vec.{vec_len}
use Rattle.joint.proofs.lemmas.nodes.Closing.{registered_few}
use Rattle.joint.proofs.engine.Engine.registered.Goals as goal

pub overflow_add-registered : goal.overflow_add-registered
overflow_add-registered g c =
    let few = registered_few c.args.self.now.nodes.collector c.loop-n.n in
    omega (arith, few, c.loop-n.invariant, c.loop-n-test.true, c.len-n-end.ensures, c.requires.few, c.args.self.now.calls.ok.0, ap (λ e. vec_len e.calls) c.self.view_is)
