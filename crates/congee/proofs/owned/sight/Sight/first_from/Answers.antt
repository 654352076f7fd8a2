use Rattle.std.proofs.Common.{rules, ◌<◌, refl, sym, subst}
use Rattle.congee.specs.forms.Bytes.{IsFirst}
use Rattle.congee.specs.forms.Forms.{children_of}
use Rattle.congee.specs.owned.Entries.{child_there, lone_seen}
use Rattle.congee.specs.owned.Sights.{Sees}
use Rattle.congee.specs.owned.Stores.{StandsWith}
use Rattle.congee.specs.declared.forms.child.Child.TheVariants.{Blank, Node as Sub, Value}
use Rattle.congee.proofs.lemmas.owned.Stored.{lone_first, lone_last}
use Rattle.congee.proofs.lemmas.owned.Sights.{inner_first, inner_last, leaf_first, leaf_last, inline_found, inline_key, leaf_key}
use Rattle.congee.proofs.owned.sight.Sight.first_from.Goals as goal

pub returns-then-from-last-clause-first : goal.returns-then-from-last-clause-first
returns-then-from-last-clause-first g c = λ s at x seen e. lone_first s at (lone_seen c.in-Inline.lone) (subst (Sees s at) c.in-Inline.is seen) x e c.args.from c.if-from-last.true

pub returns-then-from-last-clause-key : goal.returns-then-from-last-clause-key
returns-then-from-last-clause-key g c = λ s at seen. inline_key s at c.key_of_bytes.result (lone_seen c.in-Inline.lone) (subst (Sees s at) c.in-Inline.is seen) (sym c.key_of_bytes.ensures)

pub returns-else-from-last-clause-first : goal.returns-else-from-last-clause-first
returns-else-from-last-clause-first g c = λ s at x seen e. lone_last s at (lone_seen c.in-Inline.lone) (subst (Sees s at) c.in-Inline.is seen) x e c.args.from c.if-from-last.false

pub returns-in-None-clause-first : goal.returns-in-None-clause-first
returns-in-None-clause-first g c = λ s at x seen e. inner_last s at c.args.from x e c.in-Inner.slot c.in-Inner.n.now (subst (Sees s at) c.in-Inner.is seen) c.in-None.ensures

pub returns-in-Some-default-Blank-clause-first : goal.returns-in-Some-default-Blank-clause-first
returns-in-Some-default-Blank-clause-first g c = λ s at x seen e. inner_first s at c.args.from x e c.in-Inner.slot c.in-Inner.n.now (subst (Sees s at) c.in-Inner.is seen) c.in-Some-default-Blank.byte Blank
    (subst (λ k. IsFirst (children_of c.in-Inner.n.now) c.args.from c.in-Some-default-Blank.byte (child_there k)) c.in-Some-default-Blank.field-0-1-is c.in-Some-default-Blank.ensures)

pub returns-in-Some-default-Node-clause-first : goal.returns-in-Some-default-Node-clause-first
returns-in-Some-default-Node-clause-first g c = λ s at x seen e. subst (λ k. IsFirst (children_of x) c.args.from c.in-Some-default-Node.byte (Sub k)) (sym c.of.ensures)
    (inner_first s at c.args.from x e c.in-Inner.slot c.in-Inner.n.now (subst (Sees s at) c.in-Inner.is seen) c.in-Some-default-Node.byte (Sub c.in-Some-default-Node.below)
    (subst (λ k. IsFirst (children_of c.in-Inner.n.now) c.args.from c.in-Some-default-Node.byte (child_there k)) c.in-Some-default-Node.field-0-1-is c.in-Some-default-Node.ensures))

pub returns-in-Some-default-Leaf-clause-first : goal.returns-in-Some-default-Leaf-clause-first
returns-in-Some-default-Leaf-clause-first g c = λ s at x seen e. subst (λ k. IsFirst (children_of x) c.args.from c.in-Some-default-Leaf.byte (Sub k)) (sym c.inline-name.ensures)
    (inner_first s at c.args.from x e c.in-Inner.slot c.in-Inner.n.now (subst (Sees s at) c.in-Inner.is seen) c.in-Some-default-Leaf.byte (Value (lone_seen c.in-Some-default-Leaf.lone))
    (subst (λ k. IsFirst (children_of c.in-Inner.n.now) c.args.from c.in-Some-default-Leaf.byte (child_there k)) c.in-Some-default-Leaf.field-0-1-is c.in-Some-default-Leaf.ensures))

pub returns-in-Some-default-Leaf-clause-leaf : goal.returns-in-Some-default-Leaf-clause-leaf
returns-in-Some-default-Leaf-clause-leaf g c = λ s at seen.
    let low : c.in-Some-default-Leaf.byte < 256 = search rules in
    let first : IsFirst (children_of c.in-Inner.n.now) c.args.from c.in-Some-default-Leaf.byte (Value (lone_seen c.in-Some-default-Leaf.lone)) =
    subst (λ k. IsFirst (children_of c.in-Inner.n.now) c.args.from c.in-Some-default-Leaf.byte (child_there k)) c.in-Some-default-Leaf.field-0-1-is c.in-Some-default-Leaf.ensures in
    subst (λ name. StandsWith s name c.key_of_bytes-in-Some-default-Leaf.result c.in-Some-default-Leaf.lone.value.now) (sym c.inline-name.ensures)
    (inline_found s at c.in-Inner.slot c.in-Some-default-Leaf.byte c.key_of_bytes-in-Some-default-Leaf.result c.in-Inner.n.now (lone_seen c.in-Some-default-Leaf.lone) (subst (Sees s at) c.in-Inner.is seen) low first.here (sym c.key_of_bytes-in-Some-default-Leaf.ensures))

pub returns-in-None-first_from-clause-first : goal.returns-in-None-first_from-clause-first
returns-in-None-first_from-clause-first g c = λ s at x seen e. leaf_last s at c.args.from x e c.in-Leaf.least c.in-Leaf.n.now (subst (Sees s at) c.in-Leaf.is seen) c.in-None-first_from.ensures

pub returns-in-Some-clause-first : goal.returns-in-Some-clause-first
returns-in-Some-clause-first g c = λ s at x seen e. leaf_first s at c.args.from x e c.in-Leaf.least c.in-Leaf.n.now (subst (Sees s at) c.in-Leaf.is seen) c.in-Some.byte (Value c.in-Some.value.now) c.in-Some.ensures

pub returns-in-Some-clause-key : goal.returns-in-Some-clause-key
returns-in-Some-clause-key g c = λ s at seen.
    let low : c.in-Some.byte < 256 = search rules in
    leaf_key s at c.in-Leaf.least c.in-Some.byte _ c.in-Leaf.n.now (subst (Sees s at) c.in-Leaf.is seen) low refl
