use Rattle.std.proofs.Common.{◌≡◌, ap, arith}
use Rattle.joint.specs.nodes.Nodes.{nodes}
use Rattle.joint.specs.nodes.View.{id_number}
use Rattle.joint.proofs.nodes.store.NodesStoreId.unlock.Goals as goal

pub overflow_add-word : goal.overflow_add-word
overflow_add-word g c =
    let e : (nodes c.args.self.now (id_number c.args.node)).version ≡ c.slot.result.now.word.version = ap (λ n. n.version) c.slot.ensures.node in
    omega (arith, e, c.requires.within, ap (λ s. s.version_max) c.self.view_is, c.self.ranges)
