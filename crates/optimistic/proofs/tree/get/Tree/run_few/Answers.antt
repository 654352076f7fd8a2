use Rattle.std.proofs.Common.{◌≡◌, ◌≢◌, ℕ, ◌+◌, ◌<◌, ◌≤◌, List, take, get_or, ap, sym, ◌∙◌, subst, refl, inl, inr, le_refl, arith}
use Rattle.optimistic.specs.Layout.{room, byte_at}
use Rattle.optimistic.specs.declared.drain.nexts.Pair.{Pair}
use Rattle.optimistic.specs.declared.tree.run.Bit.TheVariants.{Told}
use Rattle.optimistic.specs.forms.Children.{byte_in, first_of, second_of}
use Rattle.optimistic.specs.tree.Runs.{behind, ShowsBit, ShowsRun}
use Rattle.optimistic.specs.tree.Sights.{Lacks}
use Rattle.optimistic.proofs.lemmas.drain.Keys.{reaches}
use Rattle.optimistic.proofs.lemmas.forms.Gaps.{only_gap}
use Rattle.optimistic.proofs.lemmas.tree.Few.{bit_few, byte_behind, run_append, run_end}
use Rattle.optimistic.proofs.lemmas.tree.Reading.{looks_trans, agrees_from, agrees_to}
use Rattle.optimistic.proofs.lemmas.tree.Runs.{bit_entry, bytes_since, run_more}
use Rattle.optimistic.proofs.lemmas.words.Moments.{since_trans}
use Rattle.optimistic.proofs.tree.get.Tree.run_few.Goals as goal

few_form : (form : ℕ) → form < 4 → room form ≢ 256
few_form form low = grind (arith, low)

pub returns-in_default-clause-shows : goal.returns-in_default-clause-shows
returns-in_default-clause-shows c a l has =
    let i = c.loop-count.invariant in
    let at = c.args.at in
    let low : ℕ = c.loop-count.low in
    let from : ℕ = c.loop-count.from in
    let stop : ℕ = c.args.stop in
    let v = c.args.hand.now.me.0 in
    let u = c.loop-count.hand.me.0 in
    let form = c.requires.form in
    let n4 : at.form ≢ 4 = omega (arith, form) in
    let none = c.in_default.ensures low i.9 in
    let lacks : Lacks at.node at.form low 256 a u = λ f ag is. only_gap at.form f c.args.bytes.now low 256 ((has n4).0 f (agrees_to at.node at.form a v u f ag i.3) is) (le_refl 256) none in
    run_end at c.args.start from low stop (take c.loop-count.count c.loop-count.out) a u c.requires.at.level i.8 lacks (i.10 a l has) (c.requires.near from i.4 i.5) (c.requires.near stop c.requires.order (le_refl stop)) i.4 i.5

pub entry-child-requires-clause-inside : goal.entry-child-requires-clause-inside
entry-child-requires-clause-inside c =
    let next = (c.in-Some.ensures c.loop-count.low c.loop-count.invariant.9).0 in
    c.requires.within (few_form c.args.at.form c.requires.form) c.in-Some.byte (omega arith) next.2

pub returns-then-child-ne9-clause-looks : goal.returns-then-child-ne9-clause-looks
returns-then-child-ne9-clause-looks c a l = c.run_rest.ensures.looks a (looks_trans a c.loop-count.hand.me.0 c.entry-child.new.hand.me.0 (c.loop-count.invariant.2 a l) c.entry-child.ensures.looks)

pub returns-then-child-ne9-clause-since : goal.returns-then-child-ne9-clause-since
returns-then-child-ne9-clause-since c = since_trans _ _ _ (since_trans _ _ _ c.loop-count.invariant.3 c.entry-child.ensures.looks.since) c.run_rest.ensures.since

pub returns-then-child-ne9-clause-shows : goal.returns-then-child-ne9-clause-shows
returns-then-child-ne9-clause-shows c a l has =
    let i = c.loop-count.invariant in
    let at = c.args.at in
    let start : ℕ = c.args.start in
    let from : ℕ = c.loop-count.from in
    let v = c.args.hand.now.me.0 in
    let u = c.loop-count.hand.me.0 in
    let w = c.entry-child.new.hand.me.0 in
    let x = c.run_rest.new.hand.me.0 in
    let next : ℕ = behind c.args.stop c.run_rest.result.next in
    let ps = take c.loop-count.count c.loop-count.out in
    let since = since_trans v.seen u.seen w.seen i.3 c.entry-child.ensures.looks.since in
    let rest = c.run_rest.ensures.shows a (looks_trans a u w (i.2 a l) c.entry-child.ensures.looks) (bytes_since at c.args.bytes.now c.args.places.now a v w has since) in
    subst (λ (q : List Pair). ShowsRun at start next q a x) (sym rest.2)
    (run_append at start from next ps rest.0 a u x (i.10 a l has) (since_trans u.seen w.seen x.seen c.entry-child.ensures.looks.since c.run_rest.ensures.since) rest.1 (c.requires.near from i.4 i.5) i.4 c.run_rest.ensures.order.0)

pub first_with-first-requires-clause-order : goal.first_with-first-requires-clause-order
first_with-first-requires-clause-order c = (c.in-Some.ensures c.loop-count.low c.loop-count.invariant.9).0.0

pub returns-then-end-stop-clause-looks : goal.returns-then-end-stop-clause-looks
returns-then-end-stop-clause-looks c a l = looks_trans a c.loop-count.hand.me.0 c.entry-child.new.hand.me.0 (c.loop-count.invariant.2 a l) c.entry-child.ensures.looks

pub returns-then-end-stop-clause-since : goal.returns-then-end-stop-clause-since
returns-then-end-stop-clause-since c = since_trans _ _ _ c.loop-count.invariant.3 c.entry-child.ensures.looks.since

pub returns-then-end-stop-clause-shows : goal.returns-then-end-stop-clause-shows
returns-then-end-stop-clause-shows c a l has =
    let i = c.loop-count.invariant in
    let at = c.args.at in
    let v = c.args.hand.now.me.0 in
    let u = c.loop-count.hand.me.0 in
    let w = c.entry-child.new.hand.me.0 in
    let low : ℕ = c.loop-count.low in
    let from : ℕ = c.loop-count.from in
    let byte : ℕ = c.in-Some.byte in
    let first : ℕ = c.first_with-first.result in
    let end : ℕ = c.last_key-end.result in
    let stop : ℕ = c.args.stop in
    let pair = c.lone_pair-pair.result in
    let ps = take c.loop-count.count c.loop-count.out in
    let next = (c.in-Some.ensures low i.9).0 in
    let form = c.requires.form in
    let n4 : at.form ≢ 4 = omega (arith, form) in
    let since = since_trans v.seen u.seen w.seen i.3 c.entry-child.ensures.looks.since in
    let e = c.first_with-first.ensures in
    let place : ℕ = get_or c.args.places.now byte 0 in
    let child : ShowsBit at first (Told pair end) a w = bit_entry at first a w c.requires.at.level c.entry-child.result.first c.entry-child.result.second (Told pair end)
    (λ f ag is k.
    let t = (has n4).1 (few_form at.form form) f (agrees_to at.node at.form a v w f ag since) is byte (omega arith) next.2 in
    let entry = c.entry-child.ensures.found f (agrees_from at.node at.form a u w f ag (i.2 a l)) is t.0 k in
    let b : byte_in at.form f place ≡ byte_at first at.level = t.1 ∙ sym e.byte in
    (ap (λ (z : ℕ). first_of at.form f k z) (sym b) ∙ entry.0, ap (λ (z : ℕ). second_of at.form f k z) (sym b) ∙ entry.1))
    (λ log makes. c.lone_pair-pair.ensures at.form log (omega (arith, form)) makes) in
    let lacks : Lacks at.node at.form low byte a w = λ f ag is. only_gap at.form f c.args.bytes.now low byte ((has n4).0 f (agrees_to at.node at.form a v w f ag since) is) (omega arith) next.3 in
    let same = e.byte in
    let reach : first ≤ end = reaches first at.level byte end c.requires.at.level c.last_key-end.ensures (omega (arith, same)) in
    let bit = bit_few at from low byte first end pair a w c.requires.at.level i.8 (omega arith) next.0 e.first.2 e.near e.first.1 lacks reach child in
    subst (λ (q : List Pair). ShowsRun at c.args.start (stop + 1) q a w) (sym c.put_within-count.ensures.pairs)
    (run_more at c.args.start from ps a u w (i.10 a l has) c.entry-child.ensures.looks.since (c.requires.near from i.4 i.5) i.4 stop end stop pair bit i.5 c.if-end-stop.true (le_refl stop) (inl refl))

pub overflow_add-low : goal.overflow_add-low
overflow_add-low c =
    let i = c.loop-count.invariant in
    let b = byte_behind c.args.at c.args.start c.first_with-first.result c.args.stop c.in-Some.byte c.last_key-end.result c.requires.at.level (omega arith) (c.first_with-first.ensures.near ∙ c.requires.near c.loop-count.from i.4 i.5)
    (c.requires.near c.args.stop c.requires.order (le_refl c.args.stop)) c.last_key-end.ensures c.if-end-stop.false in
    let l = b.0 in
    omega (arith, l)

pub loop-count-smaller : goal.loop-count-smaller
loop-count-smaller c =
    let up = c.first_with-first.ensures.first.0 in
    let same = c.first_with-first.ensures.byte in
    let reach : c.first_with-first.result ≤ c.last_key-end.result = reaches c.first_with-first.result c.args.at.level c.in-Some.byte c.last_key-end.result c.requires.at.level c.last_key-end.ensures (omega (arith, same)) in
    let short = c.if-end-stop.false in
    omega (arith, up, reach, short)

pub loop-count-preserved : goal.loop-count-preserved
loop-count-preserved c =
    let i = c.loop-count.invariant in
    let at = c.args.at in
    let v = c.args.hand.now.me.0 in
    let u = c.loop-count.hand.me.0 in
    let w = c.entry-child.new.hand.me.0 in
    let low : ℕ = c.loop-count.low in
    let from : ℕ = c.loop-count.from in
    let byte : ℕ = c.in-Some.byte in
    let first : ℕ = c.first_with-first.result in
    let end : ℕ = c.last_key-end.result in
    let stop : ℕ = c.args.stop in
    let pair = c.lone_pair-pair.result in
    let ps = take c.loop-count.count c.loop-count.out in
    let found = c.in-Some.ensures low i.9 in
    let next = found.0 in
    let form = c.requires.form in
    let n4 : at.form ≢ 4 = omega (arith, form) in
    let since = since_trans v.seen u.seen w.seen i.3 c.entry-child.ensures.looks.since in
    let e = c.first_with-first.ensures in
    let same = e.byte in
    let up = e.first.0 in
    let order = i.4 in
    let short = c.if-end-stop.false in
    let room = c.loop-count-test.true in
    let more = c.put_within-count.ensures.count in
    let reach : first ≤ end = reaches first at.level byte end c.requires.at.level c.last_key-end.ensures (omega (arith, same)) in
    let b = byte_behind at c.args.start first stop byte end c.requires.at.level (omega arith) (e.near ∙ c.requires.near from i.4 i.5) (c.requires.near stop c.requires.order (le_refl stop)) c.last_key-end.ensures short in (
      c.entry-child.ensures.of,
      c.entry-child.ensures.place,
      (λ a l. looks_trans a u w (i.2 a l) c.entry-child.ensures.looks),
      since,
      omega (arith, order, up, reach),
      omega (arith, short),
      omega (arith, room, more),
      c.put_within-count.ensures.same ∙ i.7,
      sym b.2,
      found.1,
      λ a l has.
          let place : ℕ = get_or c.args.places.now byte 0 in
          let child : ShowsBit at first (Told pair end) a w = bit_entry at first a w c.requires.at.level c.entry-child.result.first c.entry-child.result.second (Told pair end)
          (λ f ag is k.
          let t = (has n4).1 (few_form at.form form) f (agrees_to at.node at.form a v w f ag since) is byte (omega arith) next.2 in
          let entry = c.entry-child.ensures.found f (agrees_from at.node at.form a u w f ag (i.2 a l)) is t.0 k in
          let b : byte_in at.form f place ≡ byte_at first at.level = t.1 ∙ sym e.byte in
          (ap (λ (z : ℕ). first_of at.form f k z) (sym b) ∙ entry.0, ap (λ (z : ℕ). second_of at.form f k z) (sym b) ∙ entry.1))
          (λ log makes. c.lone_pair-pair.ensures at.form log (omega (arith, form)) makes) in
          let lacks : Lacks at.node at.form low byte a w = λ f ag is. only_gap at.form f c.args.bytes.now low byte ((has n4).0 f (agrees_to at.node at.form a v w f ag since) is) (omega arith) next.3 in
          let bit = bit_few at from low byte first end pair a w c.requires.at.level i.8 (omega arith) next.0 e.first.2 e.near e.first.1 lacks reach child in
          subst (λ (q : List Pair). ShowsRun at c.args.start (end + 1) q a w) (sym c.put_within-count.ensures.pairs)
          (run_more at c.args.start from ps a u w (i.10 a l has) c.entry-child.ensures.looks.since (c.requires.near from i.4 i.5) i.4 end end stop pair bit (omega (arith, up, reach)) (le_refl end) (omega (arith, short)) (inr refl)),
    )
