use Rattle.std.proofs.Common.{◌≡◌, ℕ, ◌+◌, ◌*◌, ◌<◌, refl, rules, subst, arith}
use Rattle.optimistic.specs.Layout.{width}
use Rattle.optimistic.specs.tree.Reads.{Steady}
use Rattle.optimistic.proofs.lemmas.forms.Gaps.{gap_wide}
use Rattle.optimistic.proofs.lemmas.tree.Sights.{from_looks, from_words, from_zeros}
use Rattle.optimistic.proofs.tree.get.Tree.gap_of_wide.Goals as goal

wide_inside : (b : ℕ) → b < 256 → 8 + 2 * b < width 4
unfolding width
wide_inside b l = omega arith

pub loop-byte-init : goal.loop-byte-init
loop-byte-init c = (c.requires.of, c.requires.at, omega arith, (λ _. refl), (λ l. absurd (omega (arith, l))), λ f ag b above below. absurd (omega arith))

pub read-first-requires-clause-inside : goal.read-first-requires-clause-inside
unfolding width
read-first-requires-clause-inside c = (omega arith, omega arith)

pub loop-byte-preserved : goal.loop-byte-preserved
loop-byte-preserved c =
    let i = c.loop-byte.invariant in
    let v = c.args.hand.now.me.0 in
    let u = c.loop-byte.hand.me.0 in
    let w = c.read-first.new.hand.me.0 in
    let zero : c.read-first.result ≡ 0 = search rules in
    let looks = from_looks c.args.from c.loop-byte.byte c.args.node 4 v u w i.2 i.3 i.4 c.read-first.ensures.looks in (
      c.read-first.ensures.of,
      c.read-first.ensures.at,
      (let o = i.2 in omega arith),
      (λ e. absurd (let o = i.2 in omega (arith, e))),
      (λ _. looks),
      λ f ag b above below. from_zeros c.args.from c.loop-byte.byte c.args.node 4 v u w i.2 i.3 i.4 c.read-first.ensures.looks (λ (z : ℕ). 8 + 2 * z) (omega arith) (wide_inside c.loop-byte.byte (omega arith)) i.5
          (subst (λ (z : ℕ). Steady c.args.node 4 (8 + 2 * c.loop-byte.byte) z u w) zero c.read-first.ensures.steady) f ag b above (omega arith),
    )

pub returns-then-first-ne0-clause-looks : goal.returns-then-first-ne0-clause-looks
returns-then-first-ne0-clause-looks c = let i = c.loop-byte.invariant in from_looks c.args.from c.loop-byte.byte c.args.node 4 c.args.hand.now.me.0 c.loop-byte.hand.me.0 c.read-first.new.hand.me.0 i.2 i.3 i.4 c.read-first.ensures.looks

pub returns-then-first-ne0-clause-lacks : goal.returns-then-first-ne0-clause-lacks
returns-then-first-ne0-clause-lacks c f ag is =
    let i = c.loop-byte.invariant in
    gap_wide f c.args.from c.loop-byte.byte (omega arith) (i.5 f (from_words c.args.from c.loop-byte.byte c.args.node 4 c.args.hand.now.me.0 c.loop-byte.hand.me.0 c.read-first.new.hand.me.0 i.2 i.3 i.4 c.read-first.ensures.looks f ag).0)

pub returns-clause-looks : goal.returns-clause-looks
returns-clause-looks c = c.loop-byte.invariant.4 (let l = c.ranges.from.fits in let t = c.loop-byte-test.false in omega (arith, l, t))

pub returns-clause-lacks : goal.returns-clause-lacks
returns-clause-lacks c f ag is = gap_wide f c.args.from 256 (omega arith) (λ b above below. c.loop-byte.invariant.5 f ag b above (let t = c.loop-byte-test.false in omega (arith, t)))
