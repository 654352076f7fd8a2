use Rattle.std.proofs.Common.{◌≡◌, ◌+◌, ◌*◌, refl, sym, ap, ◌∙◌, arith}
use Rattle.optimistic.specs.Layout.{width, is_link}
use Rattle.optimistic.proofs.lemmas.words.Moments.{since_trans}
use Rattle.optimistic.proofs.lemmas.tree.Reading.{looks_trans, agrees_from, agrees_to, links_at}
use Rattle.optimistic.proofs.tree.get.Tree.child_of_sixteen.Goals as goal

pub read-a-requires-clause-inside : goal.read-a-requires-clause-inside
unfolding width
read-a-requires-clause-inside c = (omega arith, omega arith)

pub read-b-requires-clause-inside : goal.read-b-requires-clause-inside
unfolding width
read-b-requires-clause-inside c = (omega arith, omega arith)

pub pair-requires-clause-inside : goal.pair-requires-clause-inside
unfolding width
pair-requires-clause-inside c = let l = c.in-Some.ensures.inside in (omega arith, omega arith)

pub pair-requires-clause-link : goal.pair-requires-clause-link
unfolding is_link
pair-requires-clause-link c = let l = c.in-Some.ensures.inside in links_at 6 16 c.in-Some.place l

pub returns-in-Some-clause-looks : goal.returns-in-Some-clause-looks
returns-in-Some-clause-looks c = (looks_trans c.args.hand.now.me.0 c.read-a.new.hand.me.0 c.pair.new.hand.me.0 c.read-a.ensures.looks (looks_trans c.read-a.new.hand.me.0 c.read-b.new.hand.me.0 c.pair.new.hand.me.0 c.read-b.ensures.looks c.pair.ensures.looks))

pub returns-in-None-clause-looks : goal.returns-in-None-clause-looks
returns-in-None-clause-looks c = (looks_trans c.args.hand.now.me.0 c.read-a.new.hand.me.0 c.read-b.new.hand.me.0 c.read-a.ensures.looks c.read-b.ensures.looks)

pub returns-in-Some-clause-found : goal.returns-in-Some-clause-found
returns-in-Some-clause-found c f ag is =
    let r0 = c.read-a.ensures.steady f (agrees_to c.args.node 2 c.args.hand.now.me.0 c.read-a.new.hand.me.0 c.pair.new.hand.me.0 f ag (since_trans c.read-a.new.hand.me.0.seen c.read-b.new.hand.me.0.seen c.pair.new.hand.me.0.seen c.read-b.ensures.looks.since c.pair.ensures.looks.since)) in
    let r1 = c.read-b.ensures.steady f (agrees_to c.args.node 2 c.read-a.new.hand.me.0 c.read-b.new.hand.me.0 c.pair.new.hand.me.0 f (agrees_from c.args.node 2 c.args.hand.now.me.0 c.read-a.new.hand.me.0 c.pair.new.hand.me.0 f ag c.read-a.ensures.looks) c.pair.ensures.looks.since) in
    let s = c.in-Some.ensures.finds 2 f refl r0 r1 is in
    let first : f (6 + 2 * c.in-Some.place) ≡ c.pair.result.first = c.pair.ensures.first f (agrees_from c.args.node 2 c.args.hand.now.me.0 c.read-b.new.hand.me.0 c.pair.new.hand.me.0 f ag (looks_trans c.args.hand.now.me.0 c.read-a.new.hand.me.0 c.read-b.new.hand.me.0 c.read-a.ensures.looks c.read-b.ensures.looks)) in
    let second : f (6 + 2 * c.in-Some.place + 1) ≡ c.pair.result.second = c.pair.ensures.second f (agrees_from c.args.node 2 c.args.hand.now.me.0 c.read-b.new.hand.me.0 c.pair.new.hand.me.0 f ag (looks_trans c.args.hand.now.me.0 c.read-a.new.hand.me.0 c.read-b.new.hand.me.0 c.read-a.ensures.looks c.read-b.ensures.looks)) in
    let at : 6 + (2 * c.in-Some.place + 1) ≡ 6 + 2 * c.in-Some.place + 1 = omega arith in
    (s.first c.args.key ∙ first, λ ne. s.second c.args.key (λ e. ne (sym (s.first c.args.key ∙ first) ∙ e)) ∙ (ap f at ∙ second))

pub returns-in-None-clause-found : goal.returns-in-None-clause-found
returns-in-None-clause-found c f ag is =
    let r0 = c.read-a.ensures.steady f (agrees_to c.args.node 2 c.args.hand.now.me.0 c.read-a.new.hand.me.0 c.read-b.new.hand.me.0 f ag c.read-b.ensures.looks.since) in
    let r1 = c.read-b.ensures.steady f (agrees_from c.args.node 2 c.args.hand.now.me.0 c.read-a.new.hand.me.0 c.read-b.new.hand.me.0 f ag c.read-a.ensures.looks) in
    let s = c.in-None.ensures.finds 2 f refl r0 r1 is in (s.first c.args.key, λ ne. absurd (ne refl))
