use Rattle.std.proofs.Common.{◌≡◌, ℕ, ◌+◌, ◌-◌, ◌*◌, ◌<◌, ◌≤◌, refl, rules, subst, arith}
use Rattle.optimistic.specs.Layout.{width}
use Rattle.optimistic.specs.tree.Reads.{Steady}
use Rattle.optimistic.proofs.lemmas.forms.Gaps.{gap_wide}
use Rattle.optimistic.proofs.lemmas.tree.Sights.{from_looks, from_words, from_zeros}
use Rattle.optimistic.proofs.tree.get.Tree.back_gap_of_wide.Goals as goal

wide_inside : (b : ℕ) → b < 256 → 8 + 2 * b < width 4
unfolding width
wide_inside b l = omega arith

-- the words of the bytes from one on up to another, counted from the last
back : (f : ℕ → ℕ) (to end : ℕ) → to < 256 → end ≤ to + 1 → ((b : ℕ) → 0 ≤ b → b < to + 1 - end → f (8 + 2 * (to - b)) ≡ 0) → (b : ℕ) → end ≤ b → b < to + 1 → f (8 + 2 * b) ≡ 0
back f to end low most zero b above below =
    let e : 8 + 2 * (to - (to - b)) ≡ 8 + 2 * b = omega (arith, below) in
    subst (λ (z : ℕ). f z ≡ 0) e (zero (to - b) (omega arith) (omega (arith, above, below, most)))

pub loop-end-init : goal.loop-end-init
loop-end-init c = (c.requires.of, c.requires.at, omega arith, (λ _. refl), (λ l. absurd (omega (arith, l))), λ f ag b above below. absurd (omega (arith, below)))

pub read-first-requires-clause-inside : goal.read-first-requires-clause-inside
read-first-requires-clause-inside c =
    let i = c.loop-end.invariant.2 in
    let t = c.loop-end-test.true in
    let low = c.ranges.to.fits in
    (omega arith, wide_inside (c.loop-end.end - 1) (omega (arith, i, t, low)))

pub loop-end-preserved : goal.loop-end-preserved
loop-end-preserved c =
    let i = c.loop-end.invariant in
    let to : ℕ = c.args.to in
    let end : ℕ = c.loop-end.end in
    let node : ℕ = c.args.node in
    let v = c.args.hand.now.me.0 in
    let u = c.loop-end.hand.me.0 in
    let w = c.read-first.new.hand.me.0 in
    let zero : c.read-first.result ≡ 0 = search rules in
    let t = c.loop-end-test.true in
    let most = i.2 in
    let low = c.ranges.to.fits in
    let done : ℕ = to + 1 - end in
    let looks = from_looks 0 done node 4 v u w (omega arith) i.3 i.4 c.read-first.ensures.looks in
    let place : 8 + 2 * (end - 1) ≡ 8 + 2 * (to - done) = omega (arith, t, most) in
    let here : Steady node 4 (8 + 2 * (to - done)) 0 u w = subst (λ (z : ℕ). Steady node 4 z 0 u w) place (subst (λ (z : ℕ). Steady node 4 (8 + 2 * (end - 1)) z u w) zero c.read-first.ensures.steady) in (
      c.read-first.ensures.of,
      c.read-first.ensures.at,
      omega (arith, most),
      (λ e. absurd (omega (arith, e, most, t))),
      (λ _. looks),
      λ f ag b above below. from_zeros 0 done node 4 v u w (omega arith) i.3 i.4 c.read-first.ensures.looks (λ (z : ℕ). 8 + 2 * (to - z)) (omega arith) (wide_inside (to - done) (omega (arith, low))) i.5 here f ag b above (omega (arith, below, most, t)),
    )

pub returns-then-first-ne0-clause-looks : goal.returns-then-first-ne0-clause-looks
returns-then-first-ne0-clause-looks c =
    let i = c.loop-end.invariant in
    from_looks 0 (c.args.to + 1 - c.loop-end.end) c.args.node 4 c.args.hand.now.me.0 c.loop-end.hand.me.0 c.read-first.new.hand.me.0 (omega arith) i.3 i.4 c.read-first.ensures.looks

pub returns-then-first-ne0-clause-lacks : goal.returns-then-first-ne0-clause-lacks
returns-then-first-ne0-clause-lacks c f ag is =
    let i = c.loop-end.invariant in
    let low = c.ranges.to.fits in
    gap_wide f c.loop-end.end (c.args.to + 1) (omega (arith, low))
    (back f c.args.to c.loop-end.end low i.2 (i.5 f (from_words 0 (c.args.to + 1 - c.loop-end.end) c.args.node 4 c.args.hand.now.me.0 c.loop-end.hand.me.0 c.read-first.new.hand.me.0 (omega arith) i.3 i.4 c.read-first.ensures.looks f ag).0))

pub returns-clause-looks : goal.returns-clause-looks
returns-clause-looks c = let t = c.loop-end-test.false in c.loop-end.invariant.4 (omega (arith, t))

pub returns-clause-lacks : goal.returns-clause-lacks
returns-clause-lacks c f ag is =
    let i = c.loop-end.invariant in
    let t = c.loop-end-test.false in
    let low = c.ranges.to.fits in
    gap_wide f 0 (c.args.to + 1) (omega (arith, low)) (λ b above below. back f c.args.to c.loop-end.end low i.2 (λ d up down. i.5 f ag d up down) b (omega (arith, t)) below)
