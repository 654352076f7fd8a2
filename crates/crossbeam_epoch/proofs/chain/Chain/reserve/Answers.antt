use Rattle.std.proofs.Common.{◌≡◌, ◌++◌, ◌∷◌, [], ◌<◌, sym, ap, ◌∙◌, subst}
use Rattle.std.specs.VecDeque.{deque_len, deque_capacity}
use Rattle.crossbeam_epoch.specs.Chain.{joined, AreFilled}
use Rattle.crossbeam_epoch.proofs.lemmas.world.Chains.{refilled_same, nothing_in, something_in, not_nothing, moved, all_filled, blocks_made, blocks_moved, blocks_added}
use Rattle.crossbeam_epoch.proofs.chain.Chain.reserve.Goals as goal

pub returns-then-len-capacity-clause-ok : goal.returns-then-len-capacity-clause-ok
returns-then-len-capacity-clause-ok g c = refilled_same _ _ _ _ _ c.len.ensures c.capacity.ensures c.if-len-capacity.true (ap (λ v. v.room) c.self.view_is)

pub invariant_of-self : goal.invariant_of-self
invariant_of-self g c = blocks_made (λ q. q.items) (λ q. deque_len q) (λ q. deque_capacity q) _ _ _ _ c.self.invariant c.in_ok-block.ensures.exact

pub invariant_of-self-then-is_empty-2 : goal.invariant_of-self-then-is_empty-2
invariant_of-self-then-is_empty-2 g c =
    let s = c.self.inside in
    let some : 0 < deque_len s.last = something_in _ _ c.is_empty.ensures c.if-is_empty.false in
    let none : s.first.items ≡ [] = nothing_in s.first.items _ _ s.first.ok.0 c.is_empty-else-is_empty.ensures c.if-is_empty-2.true in
    blocks_moved (λ q. q.items) (λ q. deque_len q) (λ q. deque_capacity q) s.first c.replace.result s.last c.replace.new.dest s.between.items c.self.invariant none
    (λ e. not_nothing s.last.items (deque_len s.last) s.last.ok.0 some (sym (ap (λ q. q.items) c.replace.ensures.value) ∙ e))
    (ap (λ q. deque_capacity q) c.replace.ensures.after ∙ c.in_ok-block.ensures.exact)

pub invariant_of-self-else-is_empty-2 : goal.invariant_of-self-else-is_empty-2
invariant_of-self-else-is_empty-2 g c =
    let s = c.self.inside in
    let some : 0 < deque_len s.last = something_in _ _ c.is_empty.ensures c.if-is_empty.false in
    blocks_added (λ q. q.items) (λ q. deque_len q) (λ q. deque_capacity q) s.first s.last c.replace-else-is_empty-2.new.dest s.between.items c.push_back_reserved.new.self.items c.self.invariant
    (λ none. not_nothing s.first.items (deque_len s.first) s.first.ok.0 (something_in _ _ c.is_empty-else-is_empty.ensures c.if-is_empty-2.false) none)
    (subst (λ qs. AreFilled (λ q. deque_len q) qs) (sym (c.push_back_reserved.ensures.items ∙ ap (λ qs. qs ++ c.replace-else-is_empty-2.result ∷ []) c.reserve.ensures.items)) (all_filled (λ q. deque_len q) s.between.items c.replace-else-is_empty-2.result c.self.invariant.filled (subst (λ q. 0 < deque_len q) (sym c.replace-else-is_empty-2.ensures.value) some)))
    (ap (λ q. deque_capacity q) c.replace-else-is_empty-2.ensures.after ∙ c.in_ok-block.ensures.exact)

pub returns-then-is_empty-clause-items : goal.returns-then-is_empty-clause-items
returns-then-is_empty-clause-items g c =
    let s = c.self.inside in
    ap (λ l. s.first.items ++ (joined (λ q. q.items) s.between.items ++ l)) (c.in_ok-block.ensures.items ∙ sym (nothing_in s.last.items _ _ s.last.ok.0 c.is_empty.ensures c.if-is_empty.true)) ∙ ap (λ v. v.items) c.self.view_is

pub returns-then-is_empty-2-clause-items : goal.returns-then-is_empty-2-clause-items
returns-then-is_empty-2-clause-items g c =
    let s = c.self.inside in
    let none : s.first.items ≡ [] = nothing_in s.first.items _ _ s.first.ok.0 c.is_empty-else-is_empty.ensures c.if-is_empty-2.true in
    moved (λ q. q.items) s.first.items s.last.items c.replace.result.items c.replace.new.dest.items s.between.items none (c.self.invariant.alone none) (ap (λ q. q.items) c.replace.ensures.value) (ap (λ q. q.items) c.replace.ensures.after ∙ c.in_ok-block.ensures.items) ∙ ap (λ v. v.items) c.self.view_is
