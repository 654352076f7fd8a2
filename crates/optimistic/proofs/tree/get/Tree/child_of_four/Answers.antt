use Rattle.std.proofs.Common.{◌≡◌, ◌+◌, ◌*◌, refl, sym, ap, ◌∙◌, arith}
use Rattle.optimistic.specs.Layout.{width, is_link}
use Rattle.optimistic.proofs.lemmas.tree.Reading.{looks_trans, agrees_from, agrees_to, links_at}
use Rattle.optimistic.proofs.tree.get.Tree.child_of_four.Goals as goal

pub read-word-requires-clause-inside : goal.read-word-requires-clause-inside
unfolding width
read-word-requires-clause-inside c = (omega arith, omega arith)

pub pair-requires-clause-inside : goal.pair-requires-clause-inside
unfolding width
pair-requires-clause-inside c = let l = c.in-Some.ensures.inside in (omega arith, omega arith)

pub pair-requires-clause-link : goal.pair-requires-clause-link
unfolding is_link
pair-requires-clause-link c = let l = c.in-Some.ensures.inside in links_at 4 4 c.in-Some.place l

pub returns-in-Some-clause-looks : goal.returns-in-Some-clause-looks
returns-in-Some-clause-looks c = (looks_trans c.args.hand.now.me.0 c.read-word.new.hand.me.0 c.pair.new.hand.me.0 c.read-word.ensures.looks c.pair.ensures.looks)

pub returns-in-Some-clause-found : goal.returns-in-Some-clause-found
returns-in-Some-clause-found c f ag is =
    let r0 = c.read-word.ensures.steady f (agrees_to c.args.node 1 c.args.hand.now.me.0 c.read-word.new.hand.me.0 c.pair.new.hand.me.0 f ag c.pair.ensures.looks.since) in
    let s = c.in-Some.ensures.finds 1 f refl r0 is in
    let first : f (4 + 2 * c.in-Some.place) ≡ c.pair.result.first = c.pair.ensures.first f (agrees_from c.args.node 1 c.args.hand.now.me.0 c.read-word.new.hand.me.0 c.pair.new.hand.me.0 f ag c.read-word.ensures.looks) in
    let second : f (4 + 2 * c.in-Some.place + 1) ≡ c.pair.result.second = c.pair.ensures.second f (agrees_from c.args.node 1 c.args.hand.now.me.0 c.read-word.new.hand.me.0 c.pair.new.hand.me.0 f ag c.read-word.ensures.looks) in
    let at : 4 + (2 * c.in-Some.place + 1) ≡ 4 + 2 * c.in-Some.place + 1 = omega arith in
    (s.first c.args.key ∙ first, λ ne. s.second c.args.key (λ e. ne (sym (s.first c.args.key ∙ first) ∙ e)) ∙ (ap f at ∙ second))

pub returns-in-None-clause-found : goal.returns-in-None-clause-found
returns-in-None-clause-found c f ag is =
    let r0 = c.read-word.ensures.steady f ag in
    let s = c.in-None.ensures.finds 1 f refl r0 is in (s.first c.args.key, λ ne. absurd (ne refl))
