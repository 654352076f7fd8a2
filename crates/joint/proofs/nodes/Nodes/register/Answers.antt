use Rattle.std.proofs.Common.{refl}
use Rattle.joint.proofs.lemmas.nodes.Accounts.{kept_same}
use Rattle.joint.proofs.lemmas.nodes.Registering.{registered_orderly, registered_store}
use Rattle.joint.proofs.nodes.Nodes.register.Goals as goal

pub invariant_of-self : goal.invariant_of-self
invariant_of-self g c =
    kept_same _ _ _ c.self.invariant
    (registered_orderly c.self.inside.collector c.self.invariant.orderly (c.order.ensures.registered c.self.inside.collector) c.register.result c.register.new.self c.register.ensures.state c.register.ensures.free)
    (registered_store c.self.inside.collector c.self.invariant.orderly c.register.result c.register.new.self c.register.ensures.state) refl refl
