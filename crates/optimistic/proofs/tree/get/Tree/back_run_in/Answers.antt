use Rattle.std.proofs.Common.{ℕ, ◌≡◌, ◌+◌, ◌-◌, List, take, sym, subst, inl, inr, refl, le_refl, arith, ◌∙◌}
use Rattle.optimistic.specs.declared.drain.nexts.Pair.{Pair}
use Rattle.optimistic.specs.tree.RunsBack.{ShowsRunBack}
use Rattle.optimistic.proofs.lemmas.tree.Runs.{bytes_since}
use Rattle.optimistic.proofs.lemmas.tree.RunsBack.{run_back_more, run_back_same, run_back_none}
use Rattle.optimistic.proofs.lemmas.words.Moments.{since_refl, since_trans}
use Rattle.optimistic.proofs.tree.get.Tree.back_run_in.Goals as goal

pub loop-count-init : goal.loop-count-init
loop-count-init c = (c.requires.of, c.requires.at, (λ a l. l), since_refl c.args.hand.now.me.0.seen, le_refl c.args.start, c.requires.order, omega arith, refl, λ a l has. run_back_none c.args.at c.args.start a c.args.hand.now.me.0)

pub returns-in-Down-clause-shows : goal.returns-in-Down-clause-shows
returns-in-Down-clause-shows c a l has =
    let i = c.loop-count.invariant in
    run_back_same c.args.at c.args.start c.loop-count.from (take c.loop-count.count c.loop-count.out) a c.loop-count.hand.me.0 c.back_bit_at.new.hand.me.0 (i.8 a l has) c.back_bit_at.ensures.since (c.requires.near c.loop-count.from i.5 i.4) i.4

pub returns-then-first-stop-clause-shows : goal.returns-then-first-stop-clause-shows
returns-then-first-stop-clause-shows c a l has =
    let i = c.loop-count.invariant in
    let v = c.args.hand.now.me.0 in
    let u = c.loop-count.hand.me.0 in
    let w = c.back_bit_at.new.hand.me.0 in
    let ps = take c.loop-count.count c.loop-count.out in
    let stop : ℕ = c.args.stop in
    let bit = c.in-Told.ensures.shows a (i.2 a l) (bytes_since c.args.at c.args.bytes.now c.args.places.now a v u has i.3) in
    subst (λ (q : List Pair). ShowsRunBack c.args.at c.args.start stop q a w) (sym c.put_back-count.ensures.pairs)
    (run_back_more c.args.at c.args.start c.loop-count.from ps a u w (i.8 a l has) c.back_bit_at.ensures.since (c.requires.near c.loop-count.from i.5 i.4) i.4 stop c.in-Told.first stop c.in-Told.pair bit c.if-first-stop.true i.5 (le_refl stop) (inl refl))

pub loop-count-preserved : goal.loop-count-preserved
loop-count-preserved c =
    let i = c.loop-count.invariant in
    let v = c.args.hand.now.me.0 in
    let u = c.loop-count.hand.me.0 in
    let w = c.back_bit_at.new.hand.me.0 in
    let ps = take c.loop-count.count c.loop-count.out in
    let stop : ℕ = c.args.stop in
    let first : ℕ = c.in-Told.first in
    let far = c.if-first-stop.false in
    let knows = c.in-Told.ensures.knows in
    let order = i.4 in
    let room = c.loop-count-test.true in
    let more = c.put_back-count.ensures.count in
    let same : first - 1 + 1 ≡ first = omega (arith, far) in (
      c.back_bit_at.ensures.of,
      c.back_bit_at.ensures.place,
      (λ a l. c.back_bit_at.ensures.looks a (i.2 a l)),
      since_trans v.seen u.seen w.seen i.3 c.back_bit_at.ensures.since,
      omega (arith, order, knows),
      omega (arith, far),
      omega (arith, room, more),
      c.put_back-count.ensures.same ∙ i.7,
      λ a l has.
          let bit = c.in-Told.ensures.shows a (i.2 a l) (bytes_since c.args.at c.args.bytes.now c.args.places.now a v u has i.3) in
          subst (λ (q : ℕ × List Pair). ShowsRunBack c.args.at c.args.start q.0 q.1 a w) (λ t. (sym same t, sym c.put_back-count.ensures.pairs t))
          (run_back_more c.args.at c.args.start c.loop-count.from ps a u w (i.8 a l has) c.back_bit_at.ensures.since (c.requires.near c.loop-count.from i.5 i.4) i.4 first first stop c.in-Told.pair bit (le_refl first) knows (omega (arith, far)) (inr refl)),
    )
