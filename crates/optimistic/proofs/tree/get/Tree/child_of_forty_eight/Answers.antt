use Rattle.std.proofs.Common.{◌≡◌, ◌+◌, ◌*◌, refl, sym, ap, ◌∙◌, arith}
use Rattle.optimistic.specs.Layout.{width, is_link}
use Rattle.optimistic.proofs.lemmas.words.Moments.{since_trans}
use Rattle.optimistic.proofs.lemmas.tree.Reading.{looks_trans, agrees_from, agrees_to, links_at}
use Rattle.optimistic.proofs.tree.get.Tree.child_of_forty_eight.Goals as goal

pub read-a-requires-clause-inside : goal.read-a-requires-clause-inside
unfolding width
read-a-requires-clause-inside c = (omega arith, omega arith)

pub read-b-requires-clause-inside : goal.read-b-requires-clause-inside
unfolding width
read-b-requires-clause-inside c = (omega arith, omega arith)

pub read-c-requires-clause-inside : goal.read-c-requires-clause-inside
unfolding width
read-c-requires-clause-inside c = (omega arith, omega arith)

pub read-d-requires-clause-inside : goal.read-d-requires-clause-inside
unfolding width
read-d-requires-clause-inside c = (omega arith, omega arith)

pub read-e-requires-clause-inside : goal.read-e-requires-clause-inside
unfolding width
read-e-requires-clause-inside c = (omega arith, omega arith)

pub read-f-requires-clause-inside : goal.read-f-requires-clause-inside
unfolding width
read-f-requires-clause-inside c = (omega arith, omega arith)

pub pair-requires-clause-inside : goal.pair-requires-clause-inside
unfolding width
pair-requires-clause-inside c = let l = c.in-Some.ensures.inside in (omega arith, omega arith)

pub pair-requires-clause-link : goal.pair-requires-clause-link
unfolding is_link
pair-requires-clause-link c = let l = c.in-Some.ensures.inside in links_at 10 48 c.in-Some.place l

pub returns-in-Some-clause-looks : goal.returns-in-Some-clause-looks
returns-in-Some-clause-looks c = (looks_trans c.args.hand.now.me.0 c.read-a.new.hand.me.0 c.pair.new.hand.me.0 c.read-a.ensures.looks (looks_trans c.read-a.new.hand.me.0 c.read-b.new.hand.me.0 c.pair.new.hand.me.0 c.read-b.ensures.looks (looks_trans c.read-b.new.hand.me.0 c.read-c.new.hand.me.0 c.pair.new.hand.me.0 c.read-c.ensures.looks (looks_trans c.read-c.new.hand.me.0 c.read-d.new.hand.me.0 c.pair.new.hand.me.0 c.read-d.ensures.looks (looks_trans c.read-d.new.hand.me.0 c.read-e.new.hand.me.0 c.pair.new.hand.me.0 c.read-e.ensures.looks (looks_trans c.read-e.new.hand.me.0 c.read-f.new.hand.me.0 c.pair.new.hand.me.0 c.read-f.ensures.looks c.pair.ensures.looks))))))

pub returns-in-None-clause-looks : goal.returns-in-None-clause-looks
returns-in-None-clause-looks c = (looks_trans c.args.hand.now.me.0 c.read-a.new.hand.me.0 c.read-f.new.hand.me.0 c.read-a.ensures.looks (looks_trans c.read-a.new.hand.me.0 c.read-b.new.hand.me.0 c.read-f.new.hand.me.0 c.read-b.ensures.looks (looks_trans c.read-b.new.hand.me.0 c.read-c.new.hand.me.0 c.read-f.new.hand.me.0 c.read-c.ensures.looks (looks_trans c.read-c.new.hand.me.0 c.read-d.new.hand.me.0 c.read-f.new.hand.me.0 c.read-d.ensures.looks (looks_trans c.read-d.new.hand.me.0 c.read-e.new.hand.me.0 c.read-f.new.hand.me.0 c.read-e.ensures.looks c.read-f.ensures.looks)))))

pub returns-in-Some-clause-found : goal.returns-in-Some-clause-found
returns-in-Some-clause-found c f ag is =
    let r0 = c.read-a.ensures.steady f (agrees_to c.args.node 3 c.args.hand.now.me.0 c.read-a.new.hand.me.0 c.pair.new.hand.me.0 f ag (since_trans c.read-a.new.hand.me.0.seen c.read-b.new.hand.me.0.seen c.pair.new.hand.me.0.seen c.read-b.ensures.looks.since (since_trans c.read-b.new.hand.me.0.seen c.read-c.new.hand.me.0.seen c.pair.new.hand.me.0.seen c.read-c.ensures.looks.since (since_trans c.read-c.new.hand.me.0.seen c.read-d.new.hand.me.0.seen c.pair.new.hand.me.0.seen c.read-d.ensures.looks.since (since_trans c.read-d.new.hand.me.0.seen c.read-e.new.hand.me.0.seen c.pair.new.hand.me.0.seen c.read-e.ensures.looks.since (since_trans c.read-e.new.hand.me.0.seen c.read-f.new.hand.me.0.seen c.pair.new.hand.me.0.seen c.read-f.ensures.looks.since c.pair.ensures.looks.since)))))) in
    let r1 = c.read-b.ensures.steady f (agrees_to c.args.node 3 c.read-a.new.hand.me.0 c.read-b.new.hand.me.0 c.pair.new.hand.me.0 f (agrees_from c.args.node 3 c.args.hand.now.me.0 c.read-a.new.hand.me.0 c.pair.new.hand.me.0 f ag c.read-a.ensures.looks) (since_trans c.read-b.new.hand.me.0.seen c.read-c.new.hand.me.0.seen c.pair.new.hand.me.0.seen c.read-c.ensures.looks.since (since_trans c.read-c.new.hand.me.0.seen c.read-d.new.hand.me.0.seen c.pair.new.hand.me.0.seen c.read-d.ensures.looks.since (since_trans c.read-d.new.hand.me.0.seen c.read-e.new.hand.me.0.seen c.pair.new.hand.me.0.seen c.read-e.ensures.looks.since (since_trans c.read-e.new.hand.me.0.seen c.read-f.new.hand.me.0.seen c.pair.new.hand.me.0.seen c.read-f.ensures.looks.since c.pair.ensures.looks.since))))) in
    let r2 = c.read-c.ensures.steady f (agrees_to c.args.node 3 c.read-b.new.hand.me.0 c.read-c.new.hand.me.0 c.pair.new.hand.me.0 f (agrees_from c.args.node 3 c.args.hand.now.me.0 c.read-b.new.hand.me.0 c.pair.new.hand.me.0 f ag (looks_trans c.args.hand.now.me.0 c.read-a.new.hand.me.0 c.read-b.new.hand.me.0 c.read-a.ensures.looks c.read-b.ensures.looks)) (since_trans c.read-c.new.hand.me.0.seen c.read-d.new.hand.me.0.seen c.pair.new.hand.me.0.seen c.read-d.ensures.looks.since (since_trans c.read-d.new.hand.me.0.seen c.read-e.new.hand.me.0.seen c.pair.new.hand.me.0.seen c.read-e.ensures.looks.since (since_trans c.read-e.new.hand.me.0.seen c.read-f.new.hand.me.0.seen c.pair.new.hand.me.0.seen c.read-f.ensures.looks.since c.pair.ensures.looks.since)))) in
    let r3 = c.read-d.ensures.steady f (agrees_to c.args.node 3 c.read-c.new.hand.me.0 c.read-d.new.hand.me.0 c.pair.new.hand.me.0 f (agrees_from c.args.node 3 c.args.hand.now.me.0 c.read-c.new.hand.me.0 c.pair.new.hand.me.0 f ag (looks_trans c.args.hand.now.me.0 c.read-a.new.hand.me.0 c.read-c.new.hand.me.0 c.read-a.ensures.looks (looks_trans c.read-a.new.hand.me.0 c.read-b.new.hand.me.0 c.read-c.new.hand.me.0 c.read-b.ensures.looks c.read-c.ensures.looks))) (since_trans c.read-d.new.hand.me.0.seen c.read-e.new.hand.me.0.seen c.pair.new.hand.me.0.seen c.read-e.ensures.looks.since (since_trans c.read-e.new.hand.me.0.seen c.read-f.new.hand.me.0.seen c.pair.new.hand.me.0.seen c.read-f.ensures.looks.since c.pair.ensures.looks.since))) in
    let r4 = c.read-e.ensures.steady f (agrees_to c.args.node 3 c.read-d.new.hand.me.0 c.read-e.new.hand.me.0 c.pair.new.hand.me.0 f (agrees_from c.args.node 3 c.args.hand.now.me.0 c.read-d.new.hand.me.0 c.pair.new.hand.me.0 f ag (looks_trans c.args.hand.now.me.0 c.read-a.new.hand.me.0 c.read-d.new.hand.me.0 c.read-a.ensures.looks (looks_trans c.read-a.new.hand.me.0 c.read-b.new.hand.me.0 c.read-d.new.hand.me.0 c.read-b.ensures.looks (looks_trans c.read-b.new.hand.me.0 c.read-c.new.hand.me.0 c.read-d.new.hand.me.0 c.read-c.ensures.looks c.read-d.ensures.looks)))) (since_trans c.read-e.new.hand.me.0.seen c.read-f.new.hand.me.0.seen c.pair.new.hand.me.0.seen c.read-f.ensures.looks.since c.pair.ensures.looks.since)) in
    let r5 = c.read-f.ensures.steady f (agrees_to c.args.node 3 c.read-e.new.hand.me.0 c.read-f.new.hand.me.0 c.pair.new.hand.me.0 f (agrees_from c.args.node 3 c.args.hand.now.me.0 c.read-e.new.hand.me.0 c.pair.new.hand.me.0 f ag (looks_trans c.args.hand.now.me.0 c.read-a.new.hand.me.0 c.read-e.new.hand.me.0 c.read-a.ensures.looks (looks_trans c.read-a.new.hand.me.0 c.read-b.new.hand.me.0 c.read-e.new.hand.me.0 c.read-b.ensures.looks (looks_trans c.read-b.new.hand.me.0 c.read-c.new.hand.me.0 c.read-e.new.hand.me.0 c.read-c.ensures.looks (looks_trans c.read-c.new.hand.me.0 c.read-d.new.hand.me.0 c.read-e.new.hand.me.0 c.read-d.ensures.looks c.read-e.ensures.looks))))) c.pair.ensures.looks.since) in
    let s = c.in-Some.ensures.finds 3 f refl r0 r1 r2 r3 r4 r5 is in
    let first : f (10 + 2 * c.in-Some.place) ≡ c.pair.result.first = c.pair.ensures.first f (agrees_from c.args.node 3 c.args.hand.now.me.0 c.read-f.new.hand.me.0 c.pair.new.hand.me.0 f ag (looks_trans c.args.hand.now.me.0 c.read-a.new.hand.me.0 c.read-f.new.hand.me.0 c.read-a.ensures.looks (looks_trans c.read-a.new.hand.me.0 c.read-b.new.hand.me.0 c.read-f.new.hand.me.0 c.read-b.ensures.looks (looks_trans c.read-b.new.hand.me.0 c.read-c.new.hand.me.0 c.read-f.new.hand.me.0 c.read-c.ensures.looks (looks_trans c.read-c.new.hand.me.0 c.read-d.new.hand.me.0 c.read-f.new.hand.me.0 c.read-d.ensures.looks (looks_trans c.read-d.new.hand.me.0 c.read-e.new.hand.me.0 c.read-f.new.hand.me.0 c.read-e.ensures.looks c.read-f.ensures.looks)))))) in
    let second : f (10 + 2 * c.in-Some.place + 1) ≡ c.pair.result.second = c.pair.ensures.second f (agrees_from c.args.node 3 c.args.hand.now.me.0 c.read-f.new.hand.me.0 c.pair.new.hand.me.0 f ag (looks_trans c.args.hand.now.me.0 c.read-a.new.hand.me.0 c.read-f.new.hand.me.0 c.read-a.ensures.looks (looks_trans c.read-a.new.hand.me.0 c.read-b.new.hand.me.0 c.read-f.new.hand.me.0 c.read-b.ensures.looks (looks_trans c.read-b.new.hand.me.0 c.read-c.new.hand.me.0 c.read-f.new.hand.me.0 c.read-c.ensures.looks (looks_trans c.read-c.new.hand.me.0 c.read-d.new.hand.me.0 c.read-f.new.hand.me.0 c.read-d.ensures.looks (looks_trans c.read-d.new.hand.me.0 c.read-e.new.hand.me.0 c.read-f.new.hand.me.0 c.read-e.ensures.looks c.read-f.ensures.looks)))))) in
    let at : 10 + (2 * c.in-Some.place + 1) ≡ 10 + 2 * c.in-Some.place + 1 = omega arith in
    (s.first c.args.key ∙ first, λ ne. s.second c.args.key (λ e. ne (sym (s.first c.args.key ∙ first) ∙ e)) ∙ (ap f at ∙ second))

pub returns-in-None-clause-found : goal.returns-in-None-clause-found
returns-in-None-clause-found c f ag is =
    let r0 = c.read-a.ensures.steady f (agrees_to c.args.node 3 c.args.hand.now.me.0 c.read-a.new.hand.me.0 c.read-f.new.hand.me.0 f ag (since_trans c.read-a.new.hand.me.0.seen c.read-b.new.hand.me.0.seen c.read-f.new.hand.me.0.seen c.read-b.ensures.looks.since (since_trans c.read-b.new.hand.me.0.seen c.read-c.new.hand.me.0.seen c.read-f.new.hand.me.0.seen c.read-c.ensures.looks.since (since_trans c.read-c.new.hand.me.0.seen c.read-d.new.hand.me.0.seen c.read-f.new.hand.me.0.seen c.read-d.ensures.looks.since (since_trans c.read-d.new.hand.me.0.seen c.read-e.new.hand.me.0.seen c.read-f.new.hand.me.0.seen c.read-e.ensures.looks.since c.read-f.ensures.looks.since))))) in
    let r1 = c.read-b.ensures.steady f (agrees_to c.args.node 3 c.read-a.new.hand.me.0 c.read-b.new.hand.me.0 c.read-f.new.hand.me.0 f (agrees_from c.args.node 3 c.args.hand.now.me.0 c.read-a.new.hand.me.0 c.read-f.new.hand.me.0 f ag c.read-a.ensures.looks) (since_trans c.read-b.new.hand.me.0.seen c.read-c.new.hand.me.0.seen c.read-f.new.hand.me.0.seen c.read-c.ensures.looks.since (since_trans c.read-c.new.hand.me.0.seen c.read-d.new.hand.me.0.seen c.read-f.new.hand.me.0.seen c.read-d.ensures.looks.since (since_trans c.read-d.new.hand.me.0.seen c.read-e.new.hand.me.0.seen c.read-f.new.hand.me.0.seen c.read-e.ensures.looks.since c.read-f.ensures.looks.since)))) in
    let r2 = c.read-c.ensures.steady f (agrees_to c.args.node 3 c.read-b.new.hand.me.0 c.read-c.new.hand.me.0 c.read-f.new.hand.me.0 f (agrees_from c.args.node 3 c.args.hand.now.me.0 c.read-b.new.hand.me.0 c.read-f.new.hand.me.0 f ag (looks_trans c.args.hand.now.me.0 c.read-a.new.hand.me.0 c.read-b.new.hand.me.0 c.read-a.ensures.looks c.read-b.ensures.looks)) (since_trans c.read-c.new.hand.me.0.seen c.read-d.new.hand.me.0.seen c.read-f.new.hand.me.0.seen c.read-d.ensures.looks.since (since_trans c.read-d.new.hand.me.0.seen c.read-e.new.hand.me.0.seen c.read-f.new.hand.me.0.seen c.read-e.ensures.looks.since c.read-f.ensures.looks.since))) in
    let r3 = c.read-d.ensures.steady f (agrees_to c.args.node 3 c.read-c.new.hand.me.0 c.read-d.new.hand.me.0 c.read-f.new.hand.me.0 f (agrees_from c.args.node 3 c.args.hand.now.me.0 c.read-c.new.hand.me.0 c.read-f.new.hand.me.0 f ag (looks_trans c.args.hand.now.me.0 c.read-a.new.hand.me.0 c.read-c.new.hand.me.0 c.read-a.ensures.looks (looks_trans c.read-a.new.hand.me.0 c.read-b.new.hand.me.0 c.read-c.new.hand.me.0 c.read-b.ensures.looks c.read-c.ensures.looks))) (since_trans c.read-d.new.hand.me.0.seen c.read-e.new.hand.me.0.seen c.read-f.new.hand.me.0.seen c.read-e.ensures.looks.since c.read-f.ensures.looks.since)) in
    let r4 = c.read-e.ensures.steady f (agrees_to c.args.node 3 c.read-d.new.hand.me.0 c.read-e.new.hand.me.0 c.read-f.new.hand.me.0 f (agrees_from c.args.node 3 c.args.hand.now.me.0 c.read-d.new.hand.me.0 c.read-f.new.hand.me.0 f ag (looks_trans c.args.hand.now.me.0 c.read-a.new.hand.me.0 c.read-d.new.hand.me.0 c.read-a.ensures.looks (looks_trans c.read-a.new.hand.me.0 c.read-b.new.hand.me.0 c.read-d.new.hand.me.0 c.read-b.ensures.looks (looks_trans c.read-b.new.hand.me.0 c.read-c.new.hand.me.0 c.read-d.new.hand.me.0 c.read-c.ensures.looks c.read-d.ensures.looks)))) c.read-f.ensures.looks.since) in
    let r5 = c.read-f.ensures.steady f (agrees_from c.args.node 3 c.args.hand.now.me.0 c.read-e.new.hand.me.0 c.read-f.new.hand.me.0 f ag (looks_trans c.args.hand.now.me.0 c.read-a.new.hand.me.0 c.read-e.new.hand.me.0 c.read-a.ensures.looks (looks_trans c.read-a.new.hand.me.0 c.read-b.new.hand.me.0 c.read-e.new.hand.me.0 c.read-b.ensures.looks (looks_trans c.read-b.new.hand.me.0 c.read-c.new.hand.me.0 c.read-e.new.hand.me.0 c.read-c.ensures.looks (looks_trans c.read-c.new.hand.me.0 c.read-d.new.hand.me.0 c.read-e.new.hand.me.0 c.read-d.ensures.looks c.read-e.ensures.looks))))) in
    let s = c.in-None.ensures.finds 3 f refl r0 r1 r2 r3 r4 r5 is in (s.first c.args.key, λ ne. absurd (ne refl))
