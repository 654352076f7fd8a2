use Rattle.std.proofs.Common.{rules, ◌≡◌, ◌<◌, ◌+◌, ◌-◌, ◌^◌, [], ◌∷◌, ◌++◌, sym, subst, arith}
use Rattle.congee.specs.forms.Bytes.{IsFirst}
use Rattle.congee.specs.forms.Forms.{children_of}
use Rattle.congee.specs.owned.Cursor.{IsCursor}
use Rattle.congee.specs.owned.Sights.{HasKey, HasLeaf, child_of}
use Rattle.congee.specs.owned.Walks.{steps_of}
use Rattle.congee.proofs.lemmas.owned.BackSteps.{MovesBack, StopsBack, bound_there, goes_down_back, goes_up_back, no_blank_back, not_none, nothing_back, passed_one, stops_at_leaf, stops_at_value}
use Rattle.congee.proofs.lemmas.owned.BackWalks.{back_left}
use Rattle.congee.proofs.lemmas.owned.Cursors.{SameAhead, branch_at, few_before, last_of, none_left}
use Rattle.congee.proofs.lemmas.owned.Standing.{standing_at}
use Rattle.congee.proofs.owned.arena.Arena.back_along.Given.{Over}
use Rattle.congee.proofs.owned.arena.Arena.back_along.Goals.{In-Value, In-Leaf, In-Node, In-Some-pop}
use Rattle.congee.proofs.owned.arena.Arena.back_along.Goals as goal

pub last_below-requires : goal.last_below-requires
last_below-requires g c = bound_there c.args.self.now.nodes c.requires.tree c.steps.walk.above.items c.steps.walk.at c.steps.walk.from c.steps.invariant.walk.way

pub returns-in_default-pop-clause-walk : goal.returns-in_default-pop-clause-walk
returns-in_default-pop-clause-walk g c = record {
  way = subst (λ a. IsCursor c.args.self.now.nodes (a.items ++ branch_at c.steps.walk.at c.steps.walk.from ∷ [])) (sym c.in_default-pop.ensures.empty) c.steps.invariant.walk.way;
  sees = c.steps.invariant.walk.sees;
}

pub returns-in_default-pop-clause-last : goal.returns-in_default-pop-clause-last
returns-in_default-pop-clause-last g c =
    let s = c.args.self.now.nodes in
    let w = c.steps.walk in
    let i = c.steps.invariant in
    let empty : w.above.items ≡ [] = none_left w.above.items c.pop.new.self.items c.pop.result c.in_default-pop.is c.pop.ensures.variant in
    λ end at. nothing_back s c.requires.tree w.above.items w.at w.from i.walk.way (steps_of c.args.walk.now) i.same (λ x e. c.in_default.ensures s w.at x i.walk.sees e) empty end at

-- the walk goes up
abbrev Up : (g : Over) → In-Some-pop g → Type 0
Up g c = MovesBack c.args.self.now.nodes (steps_of c.args.walk.now) c.steps.walk.above.items c.pop.new.self.items c.steps.walk.from c.in-Some-pop.branch.node (c.in-Some-pop.branch.from - 1)

up : (g : Over) (c : In-Some-pop g) → Up g c
up g c =
    let s = c.args.self.now.nodes in
    let w = c.steps.walk in
    let i = c.steps.invariant in
    goes_up_back s c.requires.tree w.above.items w.at w.from i.walk.way (steps_of c.args.walk.now) i.same (λ x e. c.in_default.ensures s w.at x i.walk.sees e)
    c.pop.new.self.items c.in-Some-pop.branch.node c.in-Some-pop.branch.from c.in-Some-pop.ensures.items

pub overflow_sub-walk : goal.overflow_sub-walk
overflow_sub-walk g c =
    let s = c.args.self.now.nodes in
    let w = c.steps.walk in
    let i = c.steps.invariant in
    let one = passed_one s c.requires.tree w.above.items w.at w.from i.walk.way (steps_of c.args.walk.now) i.same c.pop.new.self.items c.in-Some-pop.branch.node c.in-Some-pop.branch.from c.in-Some-pop.ensures.items in
    omega (arith, one)

pub sight-walk-requires : goal.sight-walk-requires
sight-walk-requires g c = (up g (goal.at.sight-walk-requires g c).In-Some-pop).stands

pub steps-smaller-in_default : goal.steps-smaller-in_default
steps-smaller-in_default g c = (up g (goal.at.steps-smaller-in_default g c).In-Some-pop).fewer

pub steps-preserved-in_default : goal.steps-preserved-in_default
steps-preserved-in_default g c =
    let on = up g (goal.at.steps-preserved-in_default g c).In-Some-pop in
    record { walk = record { way = on.way; sees = c.sight-walk.ensures }; same = on.same }

-- what is found under the greatest byte before the step
pub unreachable-requires : goal.unreachable-requires
unreachable-requires g c =
    let s = c.args.self.now.nodes in
    let w = c.steps.walk in
    let i = c.steps.invariant in
    let there = standing_at s w.at (last_of s c.requires.tree w.above.items (branch_at w.at w.from) i.walk.way).stands in
    not_none (children_of there.node) w.from c.in-Some.last (c.in-Some.ensures s w.at there.node i.walk.sees there.is) (c.in_default-first_from.ensures.first s w.at there.node i.walk.sees there.is)

pub unreachable-requires-in-Blank : goal.unreachable-requires-in-Blank
unreachable-requires-in-Blank g c =
    let s = c.args.self.now.nodes in
    let w = c.steps.walk in
    let i = c.steps.invariant in
    let low : c.in-Some-first_from.byte < 256 = search rules in
    no_blank_back s c.requires.tree w.above.items w.at w.from i.walk.way (steps_of c.args.walk.now) i.same c.in-Some.last c.in-Some-first_from.byte low
    (λ x e. (c.in-Some.ensures s w.at x i.walk.sees e, subst (λ y. IsFirst (children_of x) c.in-Some.last c.in-Some-first_from.byte (child_of y)) c.in-Blank.is (c.in-Some-first_from.ensures.first s w.at x i.walk.sees e)))

-- the walk stops before a value
abbrev StopsAtValue : (g : Over) → In-Value g → Type 0
StopsAtValue g c =
    StopsBack c.args.self.now.nodes (steps_of c.args.walk.now) (c.steps.walk.above.items ++ branch_at c.steps.walk.at c.in-Some-first_from.byte ∷ []) c.in-Value.key c.in-Value.value.now

value : (g : Over) (c : In-Value g) → StopsAtValue g c
value g c =
    let s = c.args.self.now.nodes in
    let w = c.steps.walk in
    let i = c.steps.invariant in
    let low : c.in-Some-first_from.byte < 256 = search rules in
    let large : c.in-Value.key < 2 ^ 64 = search rules in
    stops_at_value s c.requires.tree w.above.items w.at w.from i.walk.way (steps_of c.args.walk.now) i.same c.in-Some.last c.in-Some-first_from.byte low c.in-Value.key c.in-Value.value.now large
    (λ x e. (c.in-Some.ensures s w.at x i.walk.sees e, subst (λ y. IsFirst (children_of x) c.in-Some.last c.in-Some-first_from.byte (child_of y)) c.in-Value.is (c.in-Some-first_from.ensures.first s w.at x i.walk.sees e)))
    (subst (HasKey s w.at c.in-Some-first_from.byte) c.in-Value.is (c.in-Some-first_from.ensures.key s w.at i.walk.sees))

pub returns-in-Value-clause-walk : goal.returns-in-Value-clause-walk
returns-in-Value-clause-walk g c = record { way = (value g (goal.at.returns-in-Value-clause-walk g c).In-Value).way; sees = c.steps.invariant.walk.sees }

pub returns-in-Value-clause-last : goal.returns-in-Value-clause-last
returns-in-Value-clause-last g c = (value g (goal.at.returns-in-Value-clause-last g c).In-Value).last

-- before a leaf that lies in its place
abbrev StopsAtLeaf : (g : Over) → In-Leaf g → Type 0
StopsAtLeaf g c =
    StopsBack c.args.self.now.nodes (steps_of c.args.walk.now) (c.steps.walk.above.items ++ branch_at c.steps.walk.at c.in-Some-first_from.byte ∷ []) c.in-Leaf.key c.in-Leaf.value.now

leaf : (g : Over) (c : In-Leaf g) → StopsAtLeaf g c
leaf g c =
    let s = c.args.self.now.nodes in
    let w = c.steps.walk in
    let i = c.steps.invariant in
    let low : c.in-Some-first_from.byte < 256 = search rules in
    let large : c.in-Leaf.key < 2 ^ 64 = search rules in
    stops_at_leaf s c.requires.tree w.above.items w.at w.from i.walk.way (steps_of c.args.walk.now) i.same c.in-Some.last c.in-Some-first_from.byte low c.in-Leaf.key c.in-Leaf.field-0 c.in-Leaf.value.now large
    (λ x e. (c.in-Some.ensures s w.at x i.walk.sees e, subst (λ y. IsFirst (children_of x) c.in-Some.last c.in-Some-first_from.byte (child_of y)) c.in-Leaf.is (c.in-Some-first_from.ensures.first s w.at x i.walk.sees e)))
    (subst (HasLeaf s) c.in-Leaf.is (c.in-Some-first_from.ensures.leaf s w.at i.walk.sees))

pub returns-in-Leaf-clause-walk : goal.returns-in-Leaf-clause-walk
returns-in-Leaf-clause-walk g c = record { way = (leaf g (goal.at.returns-in-Leaf-clause-walk g c).In-Leaf).way; sees = c.steps.invariant.walk.sees }

pub returns-in-Leaf-clause-last : goal.returns-in-Leaf-clause-last
returns-in-Leaf-clause-last g c = (leaf g (goal.at.returns-in-Leaf-clause-last g c).In-Leaf).last

-- goes down to a node
abbrev Down : (g : Over) → In-Node g → Type 0
Down g c =
    MovesBack c.args.self.now.nodes (steps_of c.args.walk.now) c.steps.walk.above.items (c.steps.walk.above.items ++ branch_at c.steps.walk.at (c.in-Some-first_from.byte + 1) ∷ []) c.steps.walk.from c.in-Node.below 256

down : (g : Over) (c : In-Node g) → Down g c
down g c =
    let s = c.args.self.now.nodes in
    let w = c.steps.walk in
    let i = c.steps.invariant in
    let low : c.in-Some-first_from.byte < 256 = search rules in
    goes_down_back s c.requires.tree w.above.items w.at w.from i.walk.way (steps_of c.args.walk.now) i.same c.in-Some.last c.in-Some-first_from.byte low c.in-Node.below
    (λ x e. (c.in-Some.ensures s w.at x i.walk.sees e, subst (λ y. IsFirst (children_of x) c.in-Some.last c.in-Some-first_from.byte (child_of y)) c.in-Node.is (c.in-Some-first_from.ensures.first s w.at x i.walk.sees e)))

pub push-requires : goal.push-requires
push-requires g c = (omega arith, few_before c.args.self.now.nodes c.requires.tree c.steps.walk.above.items (branch_at c.steps.walk.at c.steps.walk.from) c.steps.invariant.walk.way)

pub sight-walk-requires-in-Node : goal.sight-walk-requires-in-Node
sight-walk-requires-in-Node g c = (down g (goal.at.sight-walk-requires-in-Node g c).In-Node).stands

pub steps-smaller : goal.steps-smaller
steps-smaller g c = subst (λ ys. back_left ys 256 < back_left c.steps.walk.above.items c.steps.walk.from) (sym c.push.ensures.items) (down g (goal.at.steps-smaller g c).In-Node).fewer

pub steps-preserved : goal.steps-preserved
steps-preserved g c =
    let s = c.args.self.now.nodes in
    let on = down g (goal.at.steps-preserved g c).In-Node in
    record {
      walk = record { way = subst (λ ys. IsCursor s (ys ++ branch_at c.in-Node.below 256 ∷ [])) (sym c.push.ensures.items) on.way; sees = c.sight-walk-in-Node.ensures };
      same = subst (λ ys. SameAhead s (steps_of c.args.walk.now) (ys ++ branch_at c.in-Node.below 256 ∷ [])) (sym c.push.ensures.items) on.same;
    }
