use Rattle.std.proofs.Common.{◌≢◌, ◌+◌, ◌∙◌, IsSome, refl, sym, subst}
use Rattle.congee.specs.Heap.{Node, Nothing}
use Rattle.congee.specs.protocol.Events.{HoldsNodes, IsOther}
use Rattle.joint.specs.nodes.View.{id_number}
use Rattle.joint.proofs.lemmas.nodes.OtherChild.{first_other, next_other, no_value, some_first, some_next}
use Rattle.joint.proofs.nodes.slot.Slot.other.Goals as goal

pub unreachable-requires : goal.unreachable-requires
unreachable-requires g c =
    let there = (let P : Node g.row.P.Denot → Type 0 = λ y. y.children c.args.byte ≢ Nothing in subst P (sym c.node-node.ensures.shape) c.requires.there) in
    some_first c.node-node.result.now c.node-node.ensures.solid (sym c.len.ensures.count ∙ c.if-prove.false) c.args.byte there c.in_default.ensures

pub name_in-requires-clause-name : goal.name_in-requires-clause-name
name_in-requires-clause-name g c = λ v.
    let nodes = (let P : Node g.row.P.Denot → Type 0 = λ y. HoldsNodes y in subst P (sym c.node-node.ensures.shape) c.requires.nodes) in
    no_value c.node-node.result.now 0 c.in-Some.at c.in-Some.first.now v nodes c.in-Some.ensures

pub returns-then-at-byte : goal.returns-then-at-byte
returns-then-at-byte g c =
    let there = (let P : Node g.row.P.Denot → Type 0 = λ y. y.children c.args.byte ≢ Nothing in subst P (sym c.node-node.ensures.shape) c.requires.there) in
    let P : Node g.row.P.Denot → Type 0 = λ y. IsOther y c.args.byte (id_number c.name_in.result) in
    subst P c.node-node.ensures.shape (first_other c.node-node.result.now c.node-node.ensures.solid (sym c.len.ensures.count ∙ c.if-prove.false) c.args.byte there c.args.self.now.word c.in-Some.at c.in-Some.first.now c.name_in.result
    (c.len.ensures.bytes c.in-Some.at (subst IsSome (sym c.in-Some.ensures.here) refl)) c.if-at-byte.true c.in-Some.ensures c.name_in.ensures)

pub unreachable-requires-in_default-first_from : goal.unreachable-requires-in_default-first_from
unreachable-requires-in_default-first_from g c =
    let there = (let P : Node g.row.P.Denot → Type 0 = λ y. y.children c.args.byte ≢ Nothing in subst P (sym c.node-node.ensures.shape) c.requires.there) in
    some_next c.node-node.result.now c.node-node.ensures.solid (sym c.len.ensures.count ∙ c.if-prove.false) c.args.byte there c.in-Some.at c.in-Some.first.now c.in-Some.ensures c.if-at-byte.false c.in_default-first_from.ensures

pub name_in-requires-2-clause-name : goal.name_in-requires-2-clause-name
name_in-requires-2-clause-name g c = λ v.
    let nodes = (let P : Node g.row.P.Denot → Type 0 = λ y. HoldsNodes y in subst P (sym c.node-node.ensures.shape) c.requires.nodes) in
    no_value c.node-node.result.now (c.args.byte + 1) c.in-Some-first_from.field-0-0 c.in-Some-first_from.next.now v nodes c.in-Some-first_from.ensures

pub returns : goal.returns
returns g c =
    let there = (let P : Node g.row.P.Denot → Type 0 = λ y. y.children c.args.byte ≢ Nothing in subst P (sym c.node-node.ensures.shape) c.requires.there) in
    let P : Node g.row.P.Denot → Type 0 = λ y. IsOther y c.args.byte (id_number c.name_in-2.result) in
    subst P c.node-node.ensures.shape (next_other c.node-node.result.now c.node-node.ensures.solid (sym c.len.ensures.count ∙ c.if-prove.false) c.args.byte there c.args.self.now.word c.in-Some-first_from.field-0-0 c.in-Some-first_from.next.now c.name_in-2.result
    (c.len.ensures.bytes c.in-Some-first_from.field-0-0 (subst IsSome (sym c.in-Some-first_from.ensures.here) refl)) c.in-Some-first_from.ensures c.name_in-2.ensures)
