use Rattle.std.specs.VecDeque.{deque_len, deque_capacity}
use Rattle.crossbeam_epoch.proofs.lemmas.world.Chains.{blocks_with}
use Rattle.crossbeam_epoch.proofs.chain.Chain.push_back_reserved.Goals as goal

pub invariant_of-self : goal.invariant_of-self
invariant_of-self g c = blocks_with (λ q. q.items) (λ q. deque_len q) (λ q. deque_capacity q) _ _ _ _ c.self.invariant c.push_back_reserved.ensures.capacity
