use Rattle.std.proofs.Common.{rules, ◌<◌, sym, subst}
use Rattle.congee.specs.forms.Bytes.{IsFirst}
use Rattle.congee.specs.forms.Forms.{children_of}
use Rattle.congee.specs.owned.Entries.{child_there, lone_seen}
use Rattle.congee.specs.owned.Stores.{StandsWith}
use Rattle.congee.specs.declared.forms.child.Child.TheVariants.{Blank, Node as Sub, Value}
use Rattle.congee.proofs.lemmas.owned.Stored.{slot_there, inner_first, inner_last, leaf_first, leaf_last}
use Rattle.congee.proofs.lemmas.owned.SlotOps.{inline_stands}
use Rattle.congee.proofs.owned.nodes.Nodes.first_in_slot.Goals as goal

pub index-requires : goal.index-requires
index-requires g c = slot_there c.self.inside.slab c.args.slot (rw c.self.view_is c.requires)

pub returns-in-None-clause-first : goal.returns-in-None-clause-first
returns-in-None-clause-first g c = λ x e. inner_last c.self.inside.slab c.args.self.now c.self.view_is c.args.slot c.args.from c.index.result.now c.index.ensures x e c.in-Inner.n c.in-Inner.is c.in-None.ensures

pub returns-in-Some-default-Blank-clause-first : goal.returns-in-Some-default-Blank-clause-first
returns-in-Some-default-Blank-clause-first g c = λ x e. inner_first c.self.inside.slab c.args.self.now c.self.view_is c.args.slot c.args.from c.index.result.now c.index.ensures x e c.in-Inner.n c.in-Inner.is c.in-Some-default-Blank.byte (Blank) (subst (λ k. IsFirst (children_of c.in-Inner.n) c.args.from c.in-Some-default-Blank.byte (child_there k)) c.in-Some-default-Blank.field-0-1-is c.in-Some-default-Blank.ensures)

pub returns-in-Some-default-Node-clause-first : goal.returns-in-Some-default-Node-clause-first
returns-in-Some-default-Node-clause-first g c = λ x e. subst (λ k. IsFirst (children_of x) c.args.from c.in-Some-default-Node.byte (Sub k)) (sym c.of.ensures) (inner_first c.self.inside.slab c.args.self.now c.self.view_is c.args.slot c.args.from c.index.result.now c.index.ensures x e c.in-Inner.n c.in-Inner.is c.in-Some-default-Node.byte (Sub c.in-Some-default-Node.below) (subst (λ k. IsFirst (children_of c.in-Inner.n) c.args.from c.in-Some-default-Node.byte (child_there k)) c.in-Some-default-Node.field-0-1-is c.in-Some-default-Node.ensures))

pub returns-in-Some-default-Leaf-clause-first : goal.returns-in-Some-default-Leaf-clause-first
returns-in-Some-default-Leaf-clause-first g c = λ x e. subst (λ k. IsFirst (children_of x) c.args.from c.in-Some-default-Leaf.byte (Sub k)) (sym c.inline-name.ensures) (inner_first c.self.inside.slab c.args.self.now c.self.view_is c.args.slot c.args.from c.index.result.now c.index.ensures x e c.in-Inner.n c.in-Inner.is c.in-Some-default-Leaf.byte (Value (lone_seen c.in-Some-default-Leaf.lone)) (subst (λ k. IsFirst (children_of c.in-Inner.n) c.args.from c.in-Some-default-Leaf.byte (child_there k)) c.in-Some-default-Leaf.field-0-1-is c.in-Some-default-Leaf.ensures))

pub returns-in-Some-default-Leaf-clause-leaf : goal.returns-in-Some-default-Leaf-clause-leaf
returns-in-Some-default-Leaf-clause-leaf g c =
    let low : c.in-Some-default-Leaf.byte < 256 = search rules in
    let first : IsFirst (children_of c.in-Inner.n) c.args.from c.in-Some-default-Leaf.byte (Value (lone_seen c.in-Some-default-Leaf.lone)) =
    subst (λ k. IsFirst (children_of c.in-Inner.n) c.args.from c.in-Some-default-Leaf.byte (child_there k)) c.in-Some-default-Leaf.field-0-1-is c.in-Some-default-Leaf.ensures in
    subst (λ name. StandsWith c.args.self.now name c.key_of_bytes.result c.in-Some-default-Leaf.lone.value.now) (sym c.inline-name.ensures)
    (inline_stands c.self.inside.slab c.args.self.now c.self.view_is c.args.slot c.in-Some-default-Leaf.byte c.key_of_bytes.result c.index.result.now c.in-Inner.n (lone_seen c.in-Some-default-Leaf.lone) low c.index.ensures c.in-Inner.is first.here (sym c.key_of_bytes.ensures))

pub returns-in-None-first_from-clause-first : goal.returns-in-None-first_from-clause-first
returns-in-None-first_from-clause-first g c = λ x e. leaf_last c.self.inside.slab c.args.self.now c.self.view_is c.args.slot c.args.from c.index.result.now c.index.ensures x e c.in-Leaf.n c.in-Leaf.is c.in-None-first_from.ensures

pub returns-in-Some-clause-first : goal.returns-in-Some-clause-first
returns-in-Some-clause-first g c = λ x e. leaf_first c.self.inside.slab c.args.self.now c.self.view_is c.args.slot c.args.from c.index.result.now c.index.ensures x e c.in-Leaf.n c.in-Leaf.is c.in-Some.byte (Value c.in-Some.value.now) c.in-Some.ensures
