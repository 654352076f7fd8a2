use Rattle.std.proofs.Common.{◌≢◌, ℕ, subst, sym, ap, ◌∙◌}
use Rattle.congee.specs.Heap.{Node, Nothing}
use Rattle.congee.specs.protocol.Events.{HoldsNodes, IsOther}
use Rattle.congee.proofs.lemmas.protocol.PlainHeaps.{heap_at}
use Rattle.congee.proofs.protocol.plain.PlainStoreStoreUsizeU64.other.Goals as goal

pub other-requires-clause-nodes : goal.other-requires-clause-nodes
other-requires-clause-nodes c = let P : Node ℕ → Type 0 = λ y. HoldsNodes y in
    subst P (heap_at c.args.self.now.nodes.items c.args.node c.index.result.now c.requires.stands.made c.index.ensures) c.requires.nodes

pub other-requires-clause-two : goal.other-requires-clause-two
other-requires-clause-two c = sym (ap (λ y. y.count) (heap_at c.args.self.now.nodes.items c.args.node c.index.result.now c.requires.stands.made c.index.ensures)) ∙ c.requires.two

pub other-requires-clause-there : goal.other-requires-clause-there
other-requires-clause-there c = let P : Node ℕ → Type 0 = λ y. y.children c.args.byte ≢ Nothing in
    subst P (heap_at c.args.self.now.nodes.items c.args.node c.index.result.now c.requires.stands.made c.index.ensures) c.requires.there

pub returns : goal.returns
returns c = let P : Node ℕ → Type 0 = λ y. IsOther y c.args.byte c.other.result in
    subst P (sym (heap_at c.args.self.now.nodes.items c.args.node c.index.result.now c.requires.stands.made c.index.ensures)) c.other.ensures
