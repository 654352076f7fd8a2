use Rattle.std.proofs.Common.{◌≡◌, ◌∷◌, [], sym, ap, ◌∙◌, length}
use Rattle.std.specs.VecDeque.{deque_len, deque_capacity}
use Rattle.crossbeam_epoch.proofs.lemmas.world.Chains.{nothing_in, something_in, not_nothing, last_alone, taken_off, taken_last, taken_first, taken_over, freed_last, freed_first, within, last_within, blocks_last, blocks_first, blocks_next}
use Rattle.crossbeam_epoch.proofs.lemmas.world.Endings.{none_left}
use Rattle.crossbeam_epoch.proofs.chain.Chain.take_front.Goals as goal
use Rattle.crossbeam_epoch.proofs.chain.Chain.take_front.Goals.{then-is_empty, else-is_empty}

pub invariant_of-self : goal.invariant_of-self
invariant_of-self g c =
    let s = c.self.inside in
    let none : s.first.items ≡ [] = none_left s.first.items c.pop_front.new.self.items c.in_default.ensures.items c.in_default.ensures.rest in
    blocks_last (λ q. q.items) (λ q. deque_len q) (λ q. deque_capacity q) s.first c.pop_front.new.self s.last c.pop_front-in_default.new.self s.between.items c.self.invariant none (sym c.in_default.ensures.items ∙ none) c.in_default.ensures.capacity c.pop_front-in_default.ensures.capacity

pub returns-in_default-clause-items : goal.returns-in_default-clause-items
returns-in_default-clause-items g c =
    let s = c.self.inside in
    let none : s.first.items ≡ [] = none_left s.first.items c.pop_front.new.self.items c.in_default.ensures.items c.in_default.ensures.rest in
    let last = c.pop_front-in_default in
    taken_last (λ q. q.items) last.result s.first.items c.pop_front.new.self.items s.last.items last.new.self.items _ s.between.items (ap (λ v. v.items) c.self.view_is) none (sym c.in_default.ensures.items ∙ none) (c.self.invariant.alone none)
    (taken_off last.result s.last.items last.new.self.items last.ensures.items last.ensures.rest)

pub returns-in_default-clause-room : goal.returns-in_default-clause-room
returns-in_default-clause-room g c =
    let s = c.self.inside in
    let none : s.first.items ≡ [] = none_left s.first.items c.pop_front.new.self.items c.in_default.ensures.items c.in_default.ensures.rest in
    let last = c.pop_front-in_default in
    freed_last last.result (deque_capacity s.last) (deque_capacity last.new.self) (deque_len s.last) (deque_len last.new.self) _ _ c.self.invariant.whole s.last.small.1 last.ensures.capacity last.ensures.cases
    (ap (λ l. length l) (last_alone (λ q. q.items) c.pop_front.new.self.items last.new.self.items s.between.items (sym c.in_default.ensures.items ∙ none) (c.self.invariant.alone none)) ∙ sym last.new.self.ok.0)
    (ap (λ v. v.room) c.self.view_is)

pub invariant_of-self-then-is_empty : goal.invariant_of-self-then-is_empty
invariant_of-self-then-is_empty g c =
    let s = c.self.inside in
    blocks_next (λ q. q.items) (λ q. deque_len q) (λ q. deque_capacity q) s.first c.take_block.result s.last s.between.items c.take_block.new.blocks.items c.self.invariant (λ none. cc (sym none ∙ c.in-Some.ensures.items)) c.take_block.ensures.filled c.take_block.ensures.none

pub invariant_of-self-else-is_empty : goal.invariant_of-self-else-is_empty
invariant_of-self-else-is_empty g c =
    let s = c.self.inside in
    blocks_first (λ q. q.items) (λ q. deque_len q) (λ q. deque_capacity q) s.first c.pop_front.new.self s.last s.between.items c.self.invariant (λ none. cc (sym none ∙ c.in-Some.ensures.items))
    (λ none. not_nothing c.pop_front.new.self.items (deque_len c.pop_front.new.self) c.pop_front.new.self.ok.0 (something_in _ _ c.is_empty.ensures c.if-is_empty.false) none)

pub returns-clause-items : goal.returns-clause-items
returns-clause-items g c =
    let s = c.self.inside in
    let are = ap (λ v. v.items) c.self.view_is in
    elim c.if-is_empty.branch [
      | then-is_empty w ↦ taken_over (λ q. q.items) s.first.items c.pop_front.new.self.items w.take_block.result.items s.last.items _ c.in-Some.bag s.between.items w.take_block.new.blocks.items are c.in-Some.ensures.items (nothing_in c.pop_front.new.self.items _ _ c.pop_front.new.self.ok.0 c.is_empty.ensures w.if-is_empty.true) w.take_block.ensures.items ∙ ap (λ v. c.in-Some.bag ∷ v.items) (sym w.self-is)
      | else-is_empty w ↦ taken_first (λ q. q.items) s.first.items c.pop_front.new.self.items s.last.items _ c.in-Some.bag s.between.items are c.in-Some.ensures.items ∙ ap (λ v. c.in-Some.bag ∷ v.items) (sym w.self-is)
    ]

pub returns-clause-room : goal.returns-clause-room
returns-clause-room g c =
    let s = c.self.inside in
    let free = ap (λ v. v.room) c.self.view_is in
    let whole = c.self.invariant.more (λ none. cc (sym none ∙ c.in-Some.ensures.items)) in
    elim c.if-is_empty.branch [
      | then-is_empty w ↦ ap (λ v. v.room) w.self-is ∙ free ∙ freed_first (deque_capacity s.last) (deque_len s.last) (length c.if-is_empty.self.items) _ whole s.last.small.1 free (within s.last.items (deque_len s.last) (sym (ap (λ v. v.items) w.self-is)) (last_within (λ q. q.items) w.take_block.result.items s.last.items w.take_block.new.blocks.items) s.last.ok.0)
      | else-is_empty w ↦ ap (λ v. v.room) w.self-is ∙ free ∙ freed_first (deque_capacity s.last) (deque_len s.last) (length c.if-is_empty.self.items) _ whole s.last.small.1 free (within s.last.items (deque_len s.last) (sym (ap (λ v. v.items) w.self-is)) (last_within (λ q. q.items) c.pop_front.new.self.items s.last.items s.between.items) s.last.ok.0)
    ]
