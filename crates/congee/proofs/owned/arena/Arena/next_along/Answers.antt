use Rattle.std.proofs.Common.{rules, ◌≡◌, ◌<◌, ◌+◌, ◌^◌, [], ◌∷◌, ◌++◌, sym, ap, subst, arith}
use Rattle.congee.specs.forms.Bytes.{IsFirst}
use Rattle.congee.specs.forms.Forms.{children_of}
use Rattle.congee.specs.owned.Cursor.{IsCursor, steps_left}
use Rattle.congee.specs.owned.Sights.{HasKey, HasLeaf, child_of}
use Rattle.congee.specs.owned.Walks.{steps_of}
use Rattle.congee.proofs.lemmas.owned.Cursors.{SameAhead, branch_at, none_ahead, last_of, none_left}
use Rattle.congee.proofs.lemmas.owned.Walks.{Passes, GoesDown, room_there, goes_up, no_blank_there, passes_value, passes_leaf, goes_down}
use Rattle.congee.proofs.owned.arena.Arena.next_along.Given.{Over}
use Rattle.congee.proofs.owned.arena.Arena.next_along.Goals.{In-Value, In-Leaf, In-Node}
use Rattle.congee.proofs.owned.arena.Arena.next_along.Goals as goal

pub returns-in_default-pop-clause-walk : goal.returns-in_default-pop-clause-walk
returns-in_default-pop-clause-walk g c = record {
  way = subst (λ a. IsCursor c.args.self.now.nodes (a.items ++ branch_at c.steps.walk.at c.steps.walk.from ∷ [])) (sym c.in_default-pop.ensures.empty) c.steps.invariant.walk.way;
  sees = c.steps.invariant.walk.sees;
}

pub returns-in_default-pop-clause-first : goal.returns-in_default-pop-clause-first
returns-in_default-pop-clause-first g c =
    let s = c.args.self.now.nodes in
    let w = c.steps.walk in
    let i = c.steps.invariant in
    let on = goes_up s c.requires.tree w.above.items w.at w.from i.walk.way (steps_of c.args.walk.now) i.same (λ x e. c.in_default.ensures.first s w.at x i.walk.sees e) in
    let empty : w.above.items ≡ [] = none_left w.above.items c.pop.new.self.items c.pop.result c.in_default-pop.is c.pop.ensures.variant in
    λ from at. none_ahead s c.requires.tree (steps_of c.args.walk.now) from (subst (SameAhead s (steps_of c.args.walk.now)) empty on.same) at

pub sight-walk-requires : goal.sight-walk-requires
sight-walk-requires g c =
    let s = c.args.self.now.nodes in
    let w = c.steps.walk in
    let i = c.steps.invariant in
    let on = goes_up s c.requires.tree w.above.items w.at w.from i.walk.way (steps_of c.args.walk.now) i.same (λ x e. c.in_default.ensures.first s w.at x i.walk.sees e) in
    let way : IsCursor s (c.pop.new.self.items ++ branch_at c.in-Some-pop.branch.node c.in-Some-pop.branch.from ∷ []) = subst (IsCursor s) c.in-Some-pop.ensures.items on.way in
    (last_of s c.requires.tree c.pop.new.self.items (branch_at c.in-Some-pop.branch.node c.in-Some-pop.branch.from) way).stands

pub steps-smaller-in_default : goal.steps-smaller-in_default
steps-smaller-in_default g c =
    let s = c.args.self.now.nodes in
    let w = c.steps.walk in
    let i = c.steps.invariant in
    let on = goes_up s c.requires.tree w.above.items w.at w.from i.walk.way (steps_of c.args.walk.now) i.same (λ x e. c.in_default.ensures.first s w.at x i.walk.sees e) in
    omega (arith, on.fewer, ap (steps_left 8) c.in-Some-pop.ensures.items)

pub steps-preserved-in_default : goal.steps-preserved-in_default
steps-preserved-in_default g c =
    let s = c.args.self.now.nodes in
    let w = c.steps.walk in
    let i = c.steps.invariant in
    let on = goes_up s c.requires.tree w.above.items w.at w.from i.walk.way (steps_of c.args.walk.now) i.same (λ x e. c.in_default.ensures.first s w.at x i.walk.sees e) in
    record {
      walk = record { way = subst (IsCursor s) c.in-Some-pop.ensures.items on.way; sees = c.sight-walk.ensures };
      same = subst (SameAhead s (steps_of c.args.walk.now)) c.in-Some-pop.ensures.items on.same;
      left = omega (arith, on.fewer, ap (steps_left 8) c.in-Some-pop.ensures.items, i.left);
    }

pub unreachable-requires : goal.unreachable-requires
unreachable-requires g c =
    let s = c.args.self.now.nodes in
    let w = c.steps.walk in
    let i = c.steps.invariant in
    let low : c.in-Some.byte < 256 = search rules in
    no_blank_there s c.requires.tree w.above.items w.at w.from i.walk.way (steps_of c.args.walk.now) i.same c.in-Some.byte low
    (λ x e. subst (λ y. IsFirst (children_of x) w.from c.in-Some.byte (child_of y)) c.in-Blank.is (c.in-Some.ensures.first s w.at x i.walk.sees e))

-- the walk passes a value
abbrev PassesValue : (g : Over) → In-Value g → Type 0
PassesValue g c =
    Passes c.args.self.now.nodes (steps_of c.args.walk.now) (steps_of c.steps.walk) (c.steps.walk.above.items ++ branch_at c.steps.walk.at (c.in-Some.byte + 1) ∷ []) c.in-Value.key c.in-Value.value.now

value : (g : Over) (c : In-Value g) → PassesValue g c
value g c =
    let s = c.args.self.now.nodes in
    let w = c.steps.walk in
    let i = c.steps.invariant in
    let low : c.in-Some.byte < 256 = search rules in
    let large : c.in-Value.key < 2 ^ 64 = search rules in
    passes_value s c.requires.tree w.above.items w.at w.from i.walk.way (steps_of c.args.walk.now) i.same c.in-Some.byte low c.in-Value.key c.in-Value.value.now large
    (λ x e. subst (λ y. IsFirst (children_of x) w.from c.in-Some.byte (child_of y)) c.in-Value.is (c.in-Some.ensures.first s w.at x i.walk.sees e))
    (subst (HasKey s w.at c.in-Some.byte) c.in-Value.is (c.in-Some.ensures.key s w.at i.walk.sees))

pub returns-in-Value-clause-walk : goal.returns-in-Value-clause-walk
returns-in-Value-clause-walk g c = record { way = (value g (goal.at.returns-in-Value-clause-walk g c).In-Value).way; sees = c.steps.invariant.walk.sees }

pub returns-in-Value-clause-less : goal.returns-in-Value-clause-less
returns-in-Value-clause-less g c = omega (arith, (value g (goal.at.returns-in-Value-clause-less g c).In-Value).fewer, c.steps.invariant.left)

pub returns-in-Value-clause-first : goal.returns-in-Value-clause-first
returns-in-Value-clause-first g c = (value g (goal.at.returns-in-Value-clause-first g c).In-Value).first

-- a leaf that lies in its place
abbrev PassesLeaf : (g : Over) → In-Leaf g → Type 0
PassesLeaf g c =
    Passes c.args.self.now.nodes (steps_of c.args.walk.now) (steps_of c.steps.walk) (c.steps.walk.above.items ++ branch_at c.steps.walk.at (c.in-Some.byte + 1) ∷ []) c.in-Leaf.key c.in-Leaf.value.now

leaf : (g : Over) (c : In-Leaf g) → PassesLeaf g c
leaf g c =
    let s = c.args.self.now.nodes in
    let w = c.steps.walk in
    let i = c.steps.invariant in
    let low : c.in-Some.byte < 256 = search rules in
    let large : c.in-Leaf.key < 2 ^ 64 = search rules in
    passes_leaf s c.requires.tree w.above.items w.at w.from i.walk.way (steps_of c.args.walk.now) i.same c.in-Some.byte low c.in-Leaf.key c.in-Leaf.field-0 c.in-Leaf.value.now large
    (λ x e. subst (λ y. IsFirst (children_of x) w.from c.in-Some.byte (child_of y)) c.in-Leaf.is (c.in-Some.ensures.first s w.at x i.walk.sees e))
    (subst (HasLeaf s) c.in-Leaf.is (c.in-Some.ensures.leaf s w.at i.walk.sees))

pub returns-in-Leaf-clause-walk : goal.returns-in-Leaf-clause-walk
returns-in-Leaf-clause-walk g c = record { way = (leaf g (goal.at.returns-in-Leaf-clause-walk g c).In-Leaf).way; sees = c.steps.invariant.walk.sees }

pub returns-in-Leaf-clause-less : goal.returns-in-Leaf-clause-less
returns-in-Leaf-clause-less g c = omega (arith, (leaf g (goal.at.returns-in-Leaf-clause-less g c).In-Leaf).fewer, c.steps.invariant.left)

pub returns-in-Leaf-clause-first : goal.returns-in-Leaf-clause-first
returns-in-Leaf-clause-first g c = (leaf g (goal.at.returns-in-Leaf-clause-first g c).In-Leaf).first

-- goes down to a node
abbrev Down : (g : Over) → In-Node g → Type 0
Down g c =
    GoesDown c.args.self.now.nodes (steps_of c.args.walk.now) (steps_of c.steps.walk) (c.steps.walk.above.items ++ branch_at c.steps.walk.at (c.in-Some.byte + 1) ∷ []) c.in-Node.below

down : (g : Over) (c : In-Node g) → Down g c
down g c =
    let s = c.args.self.now.nodes in
    let w = c.steps.walk in
    let i = c.steps.invariant in
    let low : c.in-Some.byte < 256 = search rules in
    goes_down s c.requires.tree w.above.items w.at w.from i.walk.way (steps_of c.args.walk.now) i.same c.in-Some.byte low c.in-Node.below
    (λ x e. subst (λ y. IsFirst (children_of x) w.from c.in-Some.byte (child_of y)) c.in-Node.is (c.in-Some.ensures.first s w.at x i.walk.sees e))

pub push-requires : goal.push-requires
push-requires g c = (omega arith, room_there c.args.self.now.nodes c.requires.tree c.steps.walk.above.items c.steps.walk.at c.steps.walk.from c.steps.invariant.walk.way)

pub sight-walk-requires-in-Node : goal.sight-walk-requires-in-Node
sight-walk-requires-in-Node g c = (down g (goal.at.sight-walk-requires-in-Node g c).In-Node).stands

pub steps-smaller : goal.steps-smaller
steps-smaller g c =
    let on = (down g (goal.at.steps-smaller g c).In-Node).on in
    omega (arith, on.fewer, ap (λ ys. steps_left 8 (ys ++ branch_at c.in-Node.below 0 ∷ [])) c.push.ensures.items)

pub steps-preserved : goal.steps-preserved
steps-preserved g c =
    let s = c.args.self.now.nodes in
    let on = (down g (goal.at.steps-preserved g c).In-Node).on in
    record {
      walk = record { way = subst (λ ys. IsCursor s (ys ++ branch_at c.in-Node.below 0 ∷ [])) (sym c.push.ensures.items) on.way; sees = c.sight-walk-in-Node.ensures };
      same = subst (λ ys. SameAhead s (steps_of c.args.walk.now) (ys ++ branch_at c.in-Node.below 0 ∷ [])) (sym c.push.ensures.items) on.same;
      left = omega (arith, on.fewer, ap (λ ys. steps_left 8 (ys ++ branch_at c.in-Node.below 0 ∷ [])) c.push.ensures.items, c.steps.invariant.left);
    }
