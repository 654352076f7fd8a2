use Rattle.std.proofs.Common.{rules, ◌≡◌, ◌⊎◌, ◌<◌, ◌≤◌, ◌+◌, ◌-◌, ℕ, length, inl, inr, refl, sym, ap, subst, arith, Bor}
use Rattle.std.specs.Vec.{vec_len}
use Rattle.slab.specs.Slab.{get}
use Rattle.congee.specs.forms.Bytes.{IsFirst}
use Rattle.congee.specs.forms.Forms.{children_of}
use Rattle.congee.specs.owned.Arena.{heap_of}
use Rattle.congee.specs.owned.Sights.{child_of}
use Rattle.congee.specs.owned.Weights.{HasBytesFrom}
use Rattle.congee.specs.declared.forms.child.Child.{Child}
use Rattle.congee.specs.declared.forms.child.Child.TheVariants.{Blank, Node as Sub, Value}
use Rattle.congee.specs.declared.owned.sight.Next.{Next}
use Rattle.congee.specs.declared.owned.sight.Next.TheVariants.{Blank as NextBlank, Node as NextNode, Leaf as NextLeaf, Value as NextValue}
use Rattle.congee.specs.declared.owned.stats.NodeStats.{NodeStats}
use Rattle.congee.proofs.lemmas.owned.Standing.{standing_at}
use Rattle.congee.proofs.lemmas.owned.Weights.{passes, passed_all, below_is, no_node}
use Rattle.congee.proofs.lemmas.owned.Surveys.{Counted, node_counted, none_below, none_past, leaf_counted, went_below, went_past, child_stands, survey_counted}
use Rattle.congee.proofs.owned.arena.Arena.+count_from.Goals as goal
use Rattle.congee.proofs.owned.arena.Arena.+count_from.Goals.{in-Node+in_ok-count_from-in-Node, in_default-child}

module _ {P : Type 0} where
  -- a node's name, with a slot of its own or not
  named : (child : Next P) (below : ℕ) → (child ≡ NextNode below) ⊎ ((key : ℕ) × (value : Bor P) × (child ≡ NextLeaf below key value)) → child_of child ≡ Sub below
  named child below (inl e) = ap child_of e
  named child below (inr e) = ap child_of e.2

  -- the others have none
  nameless : (child : Next P) → ((name : ℕ) → child ≡ NextNode name → ⊥) → ((name key : ℕ) (value : Bor P) → child ≡ NextLeaf name key value → ⊥)
      → (c : ℕ) → child_of child ≡ Sub c → ⊥
  nameless NextBlank node leaf c e = let z : Blank ≡ Sub c = e in cc
  nameless (NextNode name) node leaf c e = node name refl
  nameless (NextLeaf name key value) node leaf c e = leaf name key value refl
  nameless (NextValue key value) node leaf c e = let z : Value value.now ≡ Sub c = e in cc

pub returns-then-is_leaf-clause-counted : goal.returns-then-is_leaf-clause-counted
returns-then-is_leaf-clause-counted g t c =
    let s = c.args.self.now.nodes in
    let x = standing_at s c.args.at c.requires.stands in
    let none = none_below s c.args.at x.node c.requires.tree c.requires.stands x.is ((c.is_leaf.ensures x.node x.is).0 c.if-is_leaf.true) in
    let form = c.node_type.ensures x.node x.is in
    let count = c.len.ensures.count x.node x.is in
    let alone = node_counted s c.args.stats.now c.count.new.self c.args.level x.node (rw (← form, ← count) c.in_ok-count.ensures.counted) in
    survey_counted s c.args.stats.now c.count.new.self c.args.level c.args.at x.node 256 c.requires.tree c.requires.stands x.is
    (leaf_counted s c.args.stats.now c.count.new.self c.args.level x.node none alone) (none_past x.node (c.len.ensures.bytes x.node x.is))

pub returns-then-is_leaf-clause-bytes : goal.returns-then-is_leaf-clause-bytes
returns-then-is_leaf-clause-bytes g t c =
    let s = c.args.self.now.nodes in
    let x = standing_at s c.args.at c.requires.stands in
    let none = none_below s c.args.at x.node c.requires.tree c.requires.stands x.is ((c.is_leaf.ensures x.node x.is).0 c.if-is_leaf.true) in
    let low = c.len.ensures.bytes x.node x.is in
    passed_all s c.args.at x.node 256 x.is low (λ b d l e. absurd (none b d e)) (none_past x.node low)

pub loop-byte-init : goal.loop-byte-init
loop-byte-init g t c = λ x is.
    let form = c.node_type.ensures x is in
    let count = c.len.ensures.count x is in
    (node_counted c.args.self.now.nodes c.args.stats.now c.count.new.self c.args.level x (rw (← form, ← count) c.in_ok-count.ensures.counted), λ b d l e. absurd (omega (arith, l)))

pub count_from-requires : goal.count_from-requires
count_from-requires g t c κs within =
    let s = c.args.self.now.nodes in
    let x = standing_at s c.args.at c.requires.stands in
    let below = child_stands s c.args.at x.node c.loop-byte.from c.in-Some.byte (child_of c.in-Some.child) c.in-Node.below c.requires.tree c.requires.stands x.is
    (c.in-Some.ensures.first s c.args.at x.node c.sight-sight.ensures x.is) (named c.in-Some.child c.in-Node.below c.in-Node.is) in
    let smaller : 8 - length (heap_of s c.in-Node.below).prefix < 8 - length (heap_of s c.args.at).prefix = omega (arith, below.1.0, below.1.1) in
    let level : c.args.level + 1 ≤ length (heap_of s c.in-Node.below).prefix = omega (arith, below.1.0, c.requires.level) in
    let opened : c.args.level + 1 ≤ vec_len c.loop-byte.stats.levels = let o = (c.loop-byte.invariant x.node x.is).0.opened in omega (arith, o) in
    (search rules, (within.0, (within.1.0, (within.1.1, (c.requires.tree, (below.0, (level, opened)))))))

pub loop-byte-smaller : goal.loop-byte-smaller
loop-byte-smaller g t c =
    let s = c.args.self.now.nodes in
    let x = standing_at s c.args.at c.requires.stands in
    let past = (c.in-Some.ensures.first s c.args.at x.node c.sight-sight.ensures x.is).past in
    let small : c.in-Some.byte < 256 = omega arith in
    omega (arith, past, small)

pub loop-byte-preserved : goal.loop-byte-preserved
loop-byte-preserved g t c = λ x is.
    let s = c.args.self.now.nodes in
    let child : Child ℕ _ = child_of c.in-Some.child in
    let first : IsFirst (children_of x) c.loop-byte.from c.in-Some.byte child = c.in-Some.ensures.first s c.args.at x c.sight-sight.ensures is in
    let counted = c.loop-byte.invariant x is in
    let past = passes s x c.loop-byte.from c.in-Some.byte child first counted.1 in
    let So : NodeStats → Type 0 = λ stats. Counted s c.args.stats.now stats c.args.level x (c.in-Some.byte + 1) in
    let small : c.in-Some.byte < 256 = omega arith in
    elim c.match-child.branch [
      | in-Node+in_ok-count_from-in-Node w ↦ (let name = named c.in-Some.child w.in-Node.below w.in-Node.is in (
        subst So (sym w.stats-is) (went_below s c.args.stats.now c.loop-byte.stats w.count_from.new.stats c.args.level x c.loop-byte.from c.in-Some.byte child w.in-Node.below
            counted.0 first small name w.in_ok-count_from-in-Node.ensures.levels w.in_ok-count_from-in-Node.ensures.counted),
        past (λ d e. subst (HasBytesFrom (get s) 8) (below_is child w.in-Node.below d name e) w.in_ok-count_from-in-Node.ensures.bytes),
      ))
      | in_default-child w ↦ (let none = nameless c.in-Some.child w.in_default-child.not-Node w.in_default-child.not-Leaf in (
        subst So (sym w.stats-is) (went_past s c.args.stats.now c.loop-byte.stats c.args.level c.args.at x c.loop-byte.from c.in-Some.byte child
            c.requires.tree c.requires.stands is counted.0 first small none),
        past (λ d e. absurd (no_node s c.requires.tree c.args.at x c.in-Some.byte child c.requires.stands is first.here none d e)),
      ))
    ]

pub returns-clause-counted : goal.returns-clause-counted
returns-clause-counted g t c =
    let s = c.args.self.now.nodes in
    let x = standing_at s c.args.at c.requires.stands in
    survey_counted s c.args.stats.now c.loop-byte.stats c.args.level c.args.at x.node c.loop-byte.from c.requires.tree c.requires.stands x.is (c.loop-byte.invariant x.node x.is).0
    (c.in_default.ensures.first s c.args.at x.node c.sight-sight.ensures x.is)

pub returns-clause-levels : goal.returns-clause-levels
returns-clause-levels g t c =
    let x = standing_at c.args.self.now.nodes c.args.at c.requires.stands in
    (c.loop-byte.invariant x.node x.is).0.levels

pub returns-clause-bytes : goal.returns-clause-bytes
returns-clause-bytes g t c =
    let s = c.args.self.now.nodes in
    let x = standing_at s c.args.at c.requires.stands in
    passed_all s c.args.at x.node c.loop-byte.from x.is (c.len.ensures.bytes x.node x.is) (c.loop-byte.invariant x.node x.is).1
    (c.in_default.ensures.first s c.args.at x.node c.sight-sight.ensures x.is)
