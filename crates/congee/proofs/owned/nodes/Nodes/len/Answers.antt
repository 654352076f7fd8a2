use Rattle.std.proofs.Common.{◌≡◌, ◌*◌, ◌+◌, ◌<◌, ℕ, get_or, inl, inr, refl, sym, ap, subst, ◌∙◌, arith}
use Rattle.std.specs.Prelude.{Option, None, Some, IsSome}
use Rattle.std.specs.Option.{option_map}
use Rattle.std.specs.FinMap as map
use Rattle.congee.specs.forms.Forms.{children_of}
use Rattle.congee.specs.owned.Kinds.{HasLowBytes}
use Rattle.congee.specs.owned.Naming.{offset_of}
use Rattle.congee.specs.owned.Slots.{inner_child, leaf_child, lone_node, slot_node}
use Rattle.congee.specs.declared.forms.child.Child.TheVariants.{Value}
use Rattle.congee.specs.declared.owned.inline_leaf.Lone.{Lone}
use Rattle.congee.specs.declared.owned.slots.Slot.{Slot}
use Rattle.congee.specs.declared.owned.slots.Slot.TheVariants.{Inner, Leaf}
use Rattle.congee.proofs.lemmas.Tree.{same_or_not}
use Rattle.congee.proofs.lemmas.forms.MappedLemmas.{get_mapped}
use Rattle.congee.proofs.lemmas.owned.Moves.{insert_beside}
use Rattle.congee.proofs.lemmas.owned.Slots.{with_mapped}
use Rattle.congee.proofs.lemmas.owned.Stored.{named_slot, named_seen, seen_len, inline_seen, lone_len}
use Rattle.congee.proofs.owned.nodes.Nodes.len.Goals as goal

some_of : {X Y : Type 0} (f : X → Y) (o : Option X) → IsSome (option_map f o) → IsSome o
some_of f None h = h
some_of f (Some x) h = refl

-- what is seen in a slot's node hangs at bytes
seen_bytes : {P K : Type 0} (i : ℕ) (x : Slot P K) → HasLowBytes x → (b : ℕ) → IsSome (map.get (children_of (slot_node i x)) b) → b < 256
seen_bytes i (Inner n) low b h =
    let f = inner_child i in
    low b (some_of (f b) (map.get (children_of n) b) (subst IsSome (ap (λ m. map.get m b) (with_mapped f n) ∙ get_mapped f (children_of n) b) h))
seen_bytes i (Leaf n) low b h =
    low b (some_of (leaf_child b) (map.get (children_of n) b) (subst IsSome (ap (λ m. map.get m b) (with_mapped leaf_child n) ∙ get_mapped leaf_child (children_of n) b) h))

lone_bytes : {P : Type 0} (lone : Lone P) (b : ℕ) → IsSome (map.get (children_of (lone_node lone)) b) → b < 256
lone_bytes lone b h = elim (same_or_not b (get_or lone.key 7 0)) [
  | inl q ↦ omega (arith, q, lone.last)
  | inr ne ↦ (let none : map.get (children_of (lone_node lone)) b ≡ None = insert_beside map.empty (get_or lone.key 7 0) (Value lone.value) b ne ∙ map.get-empty _ b in absurd (cc (h, none)))
]

pub index-requires : goal.index-requires
index-requires g c = named_slot c.self.inside.slab c.args.self.now c.self.view_is c.args.at c.at.inside.slot c.at.inside.byte c.at.view_is c.in-None.is c.requires

pub returns-in-None-clause-count : goal.returns-in-None-clause-count
returns-in-None-clause-count g c = λ x e.
    c.len.ensures.count ∙ (sym (seen_len c.at.inside.slot c.index.result.now)
    ∙ ap (λ y. map.len (children_of y)) (named_seen c.self.inside.slab c.args.self.now c.self.view_is c.args.at c.at.inside.slot c.at.inside.byte c.at.view_is c.in-None.is c.index.result.now x c.index.ensures e))

pub returns-in-None-clause-inline : goal.returns-in-None-clause-inline
returns-in-None-clause-inline g c = λ no.
    let n : c.args.at ≡ 257 * c.at.inside.slot = sym c.at.view_is ∙ (ap (λ b. 257 * c.at.inside.slot + offset_of b) c.in-None.is ∙ omega arith) in
    absurd (no (omega (arith, n)))

pub returns-in-None-clause-bytes : goal.returns-in-None-clause-bytes
returns-in-None-clause-bytes g c = λ x e b h.
    let seen = named_seen c.self.inside.slab c.args.self.now c.self.view_is c.args.at c.at.inside.slot c.at.inside.byte c.at.view_is c.in-None.is c.index.result.now x c.index.ensures e in
    seen_bytes c.at.inside.slot c.index.result.now c.len.ensures.bytes b (subst (λ y. IsSome (map.get (children_of y) b)) (sym seen) h)

pub returns-in-Some-clause-count : goal.returns-in-Some-clause-count
returns-in-Some-clause-count g c = λ x e.
    let s = inline_seen c.self.inside.slab c.args.self.now c.self.view_is c.args.at c.at.inside.slot c.at.inside.byte c.at.view_is c.in-Some.field-0 x c.in-Some.is c.at.invariant e in
    sym (lone_len s.0) ∙ ap (λ y. map.len (children_of y)) s.1

pub returns-in-Some-clause-inline : goal.returns-in-Some-clause-inline
returns-in-Some-clause-inline g c = λ no. refl

pub returns-in-Some-clause-bytes : goal.returns-in-Some-clause-bytes
returns-in-Some-clause-bytes g c = λ x e b h.
    let s = inline_seen c.self.inside.slab c.args.self.now c.self.view_is c.args.at c.at.inside.slot c.at.inside.byte c.at.view_is c.in-Some.field-0 x c.in-Some.is c.at.invariant e in
    lone_bytes s.0 b (subst (λ y. IsSome (map.get (children_of y) b)) (sym s.1) h)
