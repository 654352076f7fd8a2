use Rattle.std.proofs.Common.{sym, ap, ◌∙◌}
use Rattle.joint.specs.nodes.View.{node_of, shape}
use Rattle.joint.proofs.nodes.slot.Slot.node.Goals as goal

pub returns-clause-shape : goal.returns-clause-shape
returns-clause-shape g c = ap (λ n. shape n c.args.self.now.word) c.deref.ensures ∙ ap (λ o. node_of (record c.args.self.now { node = o })) (sym c.in-Some.is)
