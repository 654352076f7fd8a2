use Rattle.std.proofs.Common.{◌≡◌, [], ◌∙◌, ap}
use Rattle.std.specs.VecDeque.{deque_len, deque_capacity}
use Rattle.crossbeam_epoch.proofs.lemmas.world.Chains.{nothing_first, last_alone, blocks_none}
use Rattle.crossbeam_epoch.proofs.chain.Chain.give_up.Goals as goal

pub invariant_of-self : goal.invariant_of-self
invariant_of-self g c =
    let none : c.self.inside.first.items ≡ [] = nothing_first _ _ (ap (λ v. v.items) c.self.view_is ∙ c.requires) in
    blocks_none (λ q. q.items) (λ q. deque_len q) (λ q. deque_capacity q) _ _ _ _ c.self.invariant none c.no_block.ensures.2

pub returns-clause-items : goal.returns-clause-items
returns-clause-items g c =
    let s = c.self.inside in
    let none : s.first.items ≡ [] = nothing_first _ _ (ap (λ v. v.items) c.self.view_is ∙ c.requires) in
    last_alone (λ q. q.items) s.first.items c.no_block.result.items s.between.items none (c.self.invariant.alone none) ∙ c.no_block.ensures.0
