use Rattle.std.proofs.Common.{ℕ, ◌+◌, List, take, sym, subst, inl, inr, arith, ◌∙◌}
use Rattle.optimistic.specs.declared.drain.nexts.Pair.{Pair}
use Rattle.optimistic.specs.tree.Runs.{ShowsRun}
use Rattle.optimistic.proofs.lemmas.tree.Runs.{bytes_since, run_more, run_same}
use Rattle.optimistic.proofs.lemmas.words.Moments.{since_trans}
use Rattle.optimistic.proofs.tree.get.Tree.run_in.Goals as goal

pub returns-in-Down-clause-shows : goal.returns-in-Down-clause-shows
returns-in-Down-clause-shows c a l has =
    let i = c.loop-count.invariant in
    run_same c.args.at c.args.start c.loop-count.from (take c.loop-count.count c.loop-count.out) a c.loop-count.hand.me.0 c.bit_at.new.hand.me.0 (i.8 a l has) c.bit_at.ensures.since (c.requires.near c.loop-count.from i.4 i.5) i.4

pub returns-then-end-stop-clause-shows : goal.returns-then-end-stop-clause-shows
returns-then-end-stop-clause-shows c a l has =
    let i = c.loop-count.invariant in
    let v = c.args.hand.now.me.0 in
    let u = c.loop-count.hand.me.0 in
    let w = c.bit_at.new.hand.me.0 in
    let ps = take c.loop-count.count c.loop-count.out in
    let stop : ℕ = c.args.stop in
    let bit = c.in-Told.ensures.shows a (i.2 a l) (bytes_since c.args.at c.args.bytes.now c.args.places.now a v u has i.3) in
    subst (λ (q : List Pair). ShowsRun c.args.at c.args.start (stop + 1) q a w) (sym c.put_within-count.ensures.pairs)
    (run_more c.args.at c.args.start c.loop-count.from ps a u w (i.8 a l has) c.bit_at.ensures.since (c.requires.near c.loop-count.from i.4 i.5) i.4 stop c.in-Told.end stop c.in-Told.pair bit i.5 c.if-end-stop.true (omega arith) (inl cc))

pub loop-count-preserved : goal.loop-count-preserved
loop-count-preserved c =
    let i = c.loop-count.invariant in
    let v = c.args.hand.now.me.0 in
    let u = c.loop-count.hand.me.0 in
    let w = c.bit_at.new.hand.me.0 in
    let ps = take c.loop-count.count c.loop-count.out in
    let stop : ℕ = c.args.stop in
    let end : ℕ = c.in-Told.end in
    let short = c.if-end-stop.false in
    let knows = c.in-Told.ensures.knows in
    let order = i.4 in
    let room = c.loop-count-test.true in
    let more = c.put_within-count.ensures.count in (
      c.bit_at.ensures.of,
      c.bit_at.ensures.place,
      (λ a l. c.bit_at.ensures.looks a (i.2 a l)),
      since_trans v.seen u.seen w.seen i.3 c.bit_at.ensures.since,
      omega (arith, order, knows),
      omega (arith, short),
      omega (arith, room, more),
      c.put_within-count.ensures.same ∙ i.7,
      λ a l has.
          let bit = c.in-Told.ensures.shows a (i.2 a l) (bytes_since c.args.at c.args.bytes.now c.args.places.now a v u has i.3) in
          subst (λ (q : List Pair). ShowsRun c.args.at c.args.start (end + 1) q a w) (sym c.put_within-count.ensures.pairs)
          (run_more c.args.at c.args.start c.loop-count.from ps a u w (i.8 a l has) c.bit_at.ensures.since (c.requires.near c.loop-count.from i.4 i.5) i.4 end end stop c.in-Told.pair bit knows (omega arith) (omega (arith, short)) (inr cc)),
    )
