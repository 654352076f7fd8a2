use Rattle.std.proofs.Common.{◌≡◌, ℕ, ◌+◌, eqb, if◌then◌else◌, refl, sym, ap, ◌∙◌, arith}
use Rattle.std.specs.Int.{bit_at}
use Rattle.optimistic.specs.forms.Children.{first_of}
use Rattle.optimistic.specs.Layout.{width, leaf_of}
use Rattle.optimistic.proofs.lemmas.words.Moments.{since_trans}
use Rattle.optimistic.proofs.lemmas.tree.Reading.{looks_trans, agrees_from, agrees_to, taken_first}
use Rattle.optimistic.proofs.tree.get.Tree.value_of_forty_eight.Goals as goal

pub read-a-requires-clause-inside : goal.read-a-requires-clause-inside
unfolding width
read-a-requires-clause-inside c = (omega arith, omega arith)

pub read-b-requires-clause-inside : goal.read-b-requires-clause-inside
unfolding width
read-b-requires-clause-inside c = (omega arith, omega arith)

pub read-c-requires-clause-inside : goal.read-c-requires-clause-inside
unfolding width
read-c-requires-clause-inside c = (omega arith, omega arith)

pub read-d-requires-clause-inside : goal.read-d-requires-clause-inside
unfolding width
read-d-requires-clause-inside c = (omega arith, omega arith)

pub read-e-requires-clause-inside : goal.read-e-requires-clause-inside
unfolding width
read-e-requires-clause-inside c = (omega arith, omega arith)

pub read-f-requires-clause-inside : goal.read-f-requires-clause-inside
unfolding width
read-f-requires-clause-inside c = (omega arith, omega arith)

pub read-mask-requires-clause-inside : goal.read-mask-requires-clause-inside
unfolding width
read-mask-requires-clause-inside c = (omega arith, omega arith)

pub lone-requires-clause-inside : goal.lone-requires-clause-inside
unfolding width
lone-requires-clause-inside c = let l = c.in-Some.ensures.inside in (omega arith, omega arith)

pub returns-in-Some-clause-looks : goal.returns-in-Some-clause-looks
returns-in-Some-clause-looks c = (looks_trans c.args.hand.now.me.0 c.read-a.new.hand.me.0 c.lone.new.hand.me.0 c.read-a.ensures.looks (looks_trans c.read-a.new.hand.me.0 c.read-b.new.hand.me.0 c.lone.new.hand.me.0 c.read-b.ensures.looks (looks_trans c.read-b.new.hand.me.0 c.read-c.new.hand.me.0 c.lone.new.hand.me.0 c.read-c.ensures.looks (looks_trans c.read-c.new.hand.me.0 c.read-d.new.hand.me.0 c.lone.new.hand.me.0 c.read-d.ensures.looks (looks_trans c.read-d.new.hand.me.0 c.read-e.new.hand.me.0 c.lone.new.hand.me.0 c.read-e.ensures.looks (looks_trans c.read-e.new.hand.me.0 c.read-f.new.hand.me.0 c.lone.new.hand.me.0 c.read-f.ensures.looks (looks_trans c.read-f.new.hand.me.0 c.read-mask.new.hand.me.0 c.lone.new.hand.me.0 c.read-mask.ensures.looks c.lone.ensures.looks)))))))

pub returns-in-None-clause-looks : goal.returns-in-None-clause-looks
returns-in-None-clause-looks c = (looks_trans c.args.hand.now.me.0 c.read-a.new.hand.me.0 c.read-mask.new.hand.me.0 c.read-a.ensures.looks (looks_trans c.read-a.new.hand.me.0 c.read-b.new.hand.me.0 c.read-mask.new.hand.me.0 c.read-b.ensures.looks (looks_trans c.read-b.new.hand.me.0 c.read-c.new.hand.me.0 c.read-mask.new.hand.me.0 c.read-c.ensures.looks (looks_trans c.read-c.new.hand.me.0 c.read-d.new.hand.me.0 c.read-mask.new.hand.me.0 c.read-d.ensures.looks (looks_trans c.read-d.new.hand.me.0 c.read-e.new.hand.me.0 c.read-mask.new.hand.me.0 c.read-e.ensures.looks (looks_trans c.read-e.new.hand.me.0 c.read-f.new.hand.me.0 c.read-mask.new.hand.me.0 c.read-f.ensures.looks c.read-mask.ensures.looks))))))

pub returns-in-Some-clause-found : goal.returns-in-Some-clause-found
returns-in-Some-clause-found c f ag is =
    let r0 = c.read-a.ensures.steady f (agrees_to c.args.node 7 c.args.hand.now.me.0 c.read-a.new.hand.me.0 c.lone.new.hand.me.0 f ag (since_trans c.read-a.new.hand.me.0.seen c.read-b.new.hand.me.0.seen c.lone.new.hand.me.0.seen c.read-b.ensures.looks.since (since_trans c.read-b.new.hand.me.0.seen c.read-c.new.hand.me.0.seen c.lone.new.hand.me.0.seen c.read-c.ensures.looks.since (since_trans c.read-c.new.hand.me.0.seen c.read-d.new.hand.me.0.seen c.lone.new.hand.me.0.seen c.read-d.ensures.looks.since (since_trans c.read-d.new.hand.me.0.seen c.read-e.new.hand.me.0.seen c.lone.new.hand.me.0.seen c.read-e.ensures.looks.since (since_trans c.read-e.new.hand.me.0.seen c.read-f.new.hand.me.0.seen c.lone.new.hand.me.0.seen c.read-f.ensures.looks.since (since_trans c.read-f.new.hand.me.0.seen c.read-mask.new.hand.me.0.seen c.lone.new.hand.me.0.seen c.read-mask.ensures.looks.since c.lone.ensures.looks.since))))))) in
    let r1 = c.read-b.ensures.steady f (agrees_to c.args.node 7 c.read-a.new.hand.me.0 c.read-b.new.hand.me.0 c.lone.new.hand.me.0 f (agrees_from c.args.node 7 c.args.hand.now.me.0 c.read-a.new.hand.me.0 c.lone.new.hand.me.0 f ag c.read-a.ensures.looks) (since_trans c.read-b.new.hand.me.0.seen c.read-c.new.hand.me.0.seen c.lone.new.hand.me.0.seen c.read-c.ensures.looks.since (since_trans c.read-c.new.hand.me.0.seen c.read-d.new.hand.me.0.seen c.lone.new.hand.me.0.seen c.read-d.ensures.looks.since (since_trans c.read-d.new.hand.me.0.seen c.read-e.new.hand.me.0.seen c.lone.new.hand.me.0.seen c.read-e.ensures.looks.since (since_trans c.read-e.new.hand.me.0.seen c.read-f.new.hand.me.0.seen c.lone.new.hand.me.0.seen c.read-f.ensures.looks.since (since_trans c.read-f.new.hand.me.0.seen c.read-mask.new.hand.me.0.seen c.lone.new.hand.me.0.seen c.read-mask.ensures.looks.since c.lone.ensures.looks.since)))))) in
    let r2 = c.read-c.ensures.steady f (agrees_to c.args.node 7 c.read-b.new.hand.me.0 c.read-c.new.hand.me.0 c.lone.new.hand.me.0 f (agrees_from c.args.node 7 c.args.hand.now.me.0 c.read-b.new.hand.me.0 c.lone.new.hand.me.0 f ag (looks_trans c.args.hand.now.me.0 c.read-a.new.hand.me.0 c.read-b.new.hand.me.0 c.read-a.ensures.looks c.read-b.ensures.looks)) (since_trans c.read-c.new.hand.me.0.seen c.read-d.new.hand.me.0.seen c.lone.new.hand.me.0.seen c.read-d.ensures.looks.since (since_trans c.read-d.new.hand.me.0.seen c.read-e.new.hand.me.0.seen c.lone.new.hand.me.0.seen c.read-e.ensures.looks.since (since_trans c.read-e.new.hand.me.0.seen c.read-f.new.hand.me.0.seen c.lone.new.hand.me.0.seen c.read-f.ensures.looks.since (since_trans c.read-f.new.hand.me.0.seen c.read-mask.new.hand.me.0.seen c.lone.new.hand.me.0.seen c.read-mask.ensures.looks.since c.lone.ensures.looks.since))))) in
    let r3 = c.read-d.ensures.steady f (agrees_to c.args.node 7 c.read-c.new.hand.me.0 c.read-d.new.hand.me.0 c.lone.new.hand.me.0 f (agrees_from c.args.node 7 c.args.hand.now.me.0 c.read-c.new.hand.me.0 c.lone.new.hand.me.0 f ag (looks_trans c.args.hand.now.me.0 c.read-a.new.hand.me.0 c.read-c.new.hand.me.0 c.read-a.ensures.looks (looks_trans c.read-a.new.hand.me.0 c.read-b.new.hand.me.0 c.read-c.new.hand.me.0 c.read-b.ensures.looks c.read-c.ensures.looks))) (since_trans c.read-d.new.hand.me.0.seen c.read-e.new.hand.me.0.seen c.lone.new.hand.me.0.seen c.read-e.ensures.looks.since (since_trans c.read-e.new.hand.me.0.seen c.read-f.new.hand.me.0.seen c.lone.new.hand.me.0.seen c.read-f.ensures.looks.since (since_trans c.read-f.new.hand.me.0.seen c.read-mask.new.hand.me.0.seen c.lone.new.hand.me.0.seen c.read-mask.ensures.looks.since c.lone.ensures.looks.since)))) in
    let r4 = c.read-e.ensures.steady f (agrees_to c.args.node 7 c.read-d.new.hand.me.0 c.read-e.new.hand.me.0 c.lone.new.hand.me.0 f (agrees_from c.args.node 7 c.args.hand.now.me.0 c.read-d.new.hand.me.0 c.lone.new.hand.me.0 f ag (looks_trans c.args.hand.now.me.0 c.read-a.new.hand.me.0 c.read-d.new.hand.me.0 c.read-a.ensures.looks (looks_trans c.read-a.new.hand.me.0 c.read-b.new.hand.me.0 c.read-d.new.hand.me.0 c.read-b.ensures.looks (looks_trans c.read-b.new.hand.me.0 c.read-c.new.hand.me.0 c.read-d.new.hand.me.0 c.read-c.ensures.looks c.read-d.ensures.looks)))) (since_trans c.read-e.new.hand.me.0.seen c.read-f.new.hand.me.0.seen c.lone.new.hand.me.0.seen c.read-f.ensures.looks.since (since_trans c.read-f.new.hand.me.0.seen c.read-mask.new.hand.me.0.seen c.lone.new.hand.me.0.seen c.read-mask.ensures.looks.since c.lone.ensures.looks.since))) in
    let r5 = c.read-f.ensures.steady f (agrees_to c.args.node 7 c.read-e.new.hand.me.0 c.read-f.new.hand.me.0 c.lone.new.hand.me.0 f (agrees_from c.args.node 7 c.args.hand.now.me.0 c.read-e.new.hand.me.0 c.lone.new.hand.me.0 f ag (looks_trans c.args.hand.now.me.0 c.read-a.new.hand.me.0 c.read-e.new.hand.me.0 c.read-a.ensures.looks (looks_trans c.read-a.new.hand.me.0 c.read-b.new.hand.me.0 c.read-e.new.hand.me.0 c.read-b.ensures.looks (looks_trans c.read-b.new.hand.me.0 c.read-c.new.hand.me.0 c.read-e.new.hand.me.0 c.read-c.ensures.looks (looks_trans c.read-c.new.hand.me.0 c.read-d.new.hand.me.0 c.read-e.new.hand.me.0 c.read-d.ensures.looks c.read-e.ensures.looks))))) (since_trans c.read-f.new.hand.me.0.seen c.read-mask.new.hand.me.0.seen c.lone.new.hand.me.0.seen c.read-mask.ensures.looks.since c.lone.ensures.looks.since)) in
    let r6 = c.read-mask.ensures.steady f (agrees_to c.args.node 7 c.read-f.new.hand.me.0 c.read-mask.new.hand.me.0 c.lone.new.hand.me.0 f (agrees_from c.args.node 7 c.args.hand.now.me.0 c.read-f.new.hand.me.0 c.lone.new.hand.me.0 f ag (looks_trans c.args.hand.now.me.0 c.read-a.new.hand.me.0 c.read-f.new.hand.me.0 c.read-a.ensures.looks (looks_trans c.read-a.new.hand.me.0 c.read-b.new.hand.me.0 c.read-f.new.hand.me.0 c.read-b.ensures.looks (looks_trans c.read-b.new.hand.me.0 c.read-c.new.hand.me.0 c.read-f.new.hand.me.0 c.read-c.ensures.looks (looks_trans c.read-c.new.hand.me.0 c.read-d.new.hand.me.0 c.read-f.new.hand.me.0 c.read-d.ensures.looks (looks_trans c.read-d.new.hand.me.0 c.read-e.new.hand.me.0 c.read-f.new.hand.me.0 c.read-e.ensures.looks c.read-f.ensures.looks)))))) c.lone.ensures.looks.since) in
    let s = c.in-Some.ensures.finds 7 f refl r0 r1 r2 r3 r4 r5 is in
    let second : f (10 + c.in-Some.place) ≡ c.lone.result.second = c.lone.ensures.second f (agrees_from c.args.node 7 c.args.hand.now.me.0 c.read-mask.new.hand.me.0 c.lone.new.hand.me.0 f ag (looks_trans c.args.hand.now.me.0 c.read-a.new.hand.me.0 c.read-mask.new.hand.me.0 c.read-a.ensures.looks (looks_trans c.read-a.new.hand.me.0 c.read-b.new.hand.me.0 c.read-mask.new.hand.me.0 c.read-b.ensures.looks (looks_trans c.read-b.new.hand.me.0 c.read-c.new.hand.me.0 c.read-mask.new.hand.me.0 c.read-c.ensures.looks (looks_trans c.read-c.new.hand.me.0 c.read-d.new.hand.me.0 c.read-mask.new.hand.me.0 c.read-d.ensures.looks (looks_trans c.read-d.new.hand.me.0 c.read-e.new.hand.me.0 c.read-mask.new.hand.me.0 c.read-e.ensures.looks (looks_trans c.read-e.new.hand.me.0 c.read-f.new.hand.me.0 c.read-mask.new.hand.me.0 c.read-f.ensures.looks c.read-mask.ensures.looks))))))) in
    let first : first_of 7 f c.args.key c.args.byte ≡ c.lone.result.first = s.first c.args.key ∙ (ap (λ (z : ℕ). if eqb (bit_at z c.in-Some.place) 1 then leaf_of c.args.key else 0) r6 ∙ (taken_first (bit_at c.read-mask.result c.in-Some.place) c.has_bit.result c.args.key c.has_bit.ensures ∙ sym c.lone.ensures.first)) in
    (first, λ ne. s.second c.args.key (λ e. ne (sym first ∙ e)) ∙ second)

pub returns-in-None-clause-found : goal.returns-in-None-clause-found
returns-in-None-clause-found c f ag is =
    let r0 = c.read-a.ensures.steady f (agrees_to c.args.node 7 c.args.hand.now.me.0 c.read-a.new.hand.me.0 c.read-mask.new.hand.me.0 f ag (since_trans c.read-a.new.hand.me.0.seen c.read-b.new.hand.me.0.seen c.read-mask.new.hand.me.0.seen c.read-b.ensures.looks.since (since_trans c.read-b.new.hand.me.0.seen c.read-c.new.hand.me.0.seen c.read-mask.new.hand.me.0.seen c.read-c.ensures.looks.since (since_trans c.read-c.new.hand.me.0.seen c.read-d.new.hand.me.0.seen c.read-mask.new.hand.me.0.seen c.read-d.ensures.looks.since (since_trans c.read-d.new.hand.me.0.seen c.read-e.new.hand.me.0.seen c.read-mask.new.hand.me.0.seen c.read-e.ensures.looks.since (since_trans c.read-e.new.hand.me.0.seen c.read-f.new.hand.me.0.seen c.read-mask.new.hand.me.0.seen c.read-f.ensures.looks.since c.read-mask.ensures.looks.since)))))) in
    let r1 = c.read-b.ensures.steady f (agrees_to c.args.node 7 c.read-a.new.hand.me.0 c.read-b.new.hand.me.0 c.read-mask.new.hand.me.0 f (agrees_from c.args.node 7 c.args.hand.now.me.0 c.read-a.new.hand.me.0 c.read-mask.new.hand.me.0 f ag c.read-a.ensures.looks) (since_trans c.read-b.new.hand.me.0.seen c.read-c.new.hand.me.0.seen c.read-mask.new.hand.me.0.seen c.read-c.ensures.looks.since (since_trans c.read-c.new.hand.me.0.seen c.read-d.new.hand.me.0.seen c.read-mask.new.hand.me.0.seen c.read-d.ensures.looks.since (since_trans c.read-d.new.hand.me.0.seen c.read-e.new.hand.me.0.seen c.read-mask.new.hand.me.0.seen c.read-e.ensures.looks.since (since_trans c.read-e.new.hand.me.0.seen c.read-f.new.hand.me.0.seen c.read-mask.new.hand.me.0.seen c.read-f.ensures.looks.since c.read-mask.ensures.looks.since))))) in
    let r2 = c.read-c.ensures.steady f (agrees_to c.args.node 7 c.read-b.new.hand.me.0 c.read-c.new.hand.me.0 c.read-mask.new.hand.me.0 f (agrees_from c.args.node 7 c.args.hand.now.me.0 c.read-b.new.hand.me.0 c.read-mask.new.hand.me.0 f ag (looks_trans c.args.hand.now.me.0 c.read-a.new.hand.me.0 c.read-b.new.hand.me.0 c.read-a.ensures.looks c.read-b.ensures.looks)) (since_trans c.read-c.new.hand.me.0.seen c.read-d.new.hand.me.0.seen c.read-mask.new.hand.me.0.seen c.read-d.ensures.looks.since (since_trans c.read-d.new.hand.me.0.seen c.read-e.new.hand.me.0.seen c.read-mask.new.hand.me.0.seen c.read-e.ensures.looks.since (since_trans c.read-e.new.hand.me.0.seen c.read-f.new.hand.me.0.seen c.read-mask.new.hand.me.0.seen c.read-f.ensures.looks.since c.read-mask.ensures.looks.since)))) in
    let r3 = c.read-d.ensures.steady f (agrees_to c.args.node 7 c.read-c.new.hand.me.0 c.read-d.new.hand.me.0 c.read-mask.new.hand.me.0 f (agrees_from c.args.node 7 c.args.hand.now.me.0 c.read-c.new.hand.me.0 c.read-mask.new.hand.me.0 f ag (looks_trans c.args.hand.now.me.0 c.read-a.new.hand.me.0 c.read-c.new.hand.me.0 c.read-a.ensures.looks (looks_trans c.read-a.new.hand.me.0 c.read-b.new.hand.me.0 c.read-c.new.hand.me.0 c.read-b.ensures.looks c.read-c.ensures.looks))) (since_trans c.read-d.new.hand.me.0.seen c.read-e.new.hand.me.0.seen c.read-mask.new.hand.me.0.seen c.read-e.ensures.looks.since (since_trans c.read-e.new.hand.me.0.seen c.read-f.new.hand.me.0.seen c.read-mask.new.hand.me.0.seen c.read-f.ensures.looks.since c.read-mask.ensures.looks.since))) in
    let r4 = c.read-e.ensures.steady f (agrees_to c.args.node 7 c.read-d.new.hand.me.0 c.read-e.new.hand.me.0 c.read-mask.new.hand.me.0 f (agrees_from c.args.node 7 c.args.hand.now.me.0 c.read-d.new.hand.me.0 c.read-mask.new.hand.me.0 f ag (looks_trans c.args.hand.now.me.0 c.read-a.new.hand.me.0 c.read-d.new.hand.me.0 c.read-a.ensures.looks (looks_trans c.read-a.new.hand.me.0 c.read-b.new.hand.me.0 c.read-d.new.hand.me.0 c.read-b.ensures.looks (looks_trans c.read-b.new.hand.me.0 c.read-c.new.hand.me.0 c.read-d.new.hand.me.0 c.read-c.ensures.looks c.read-d.ensures.looks)))) (since_trans c.read-e.new.hand.me.0.seen c.read-f.new.hand.me.0.seen c.read-mask.new.hand.me.0.seen c.read-f.ensures.looks.since c.read-mask.ensures.looks.since)) in
    let r5 = c.read-f.ensures.steady f (agrees_to c.args.node 7 c.read-e.new.hand.me.0 c.read-f.new.hand.me.0 c.read-mask.new.hand.me.0 f (agrees_from c.args.node 7 c.args.hand.now.me.0 c.read-e.new.hand.me.0 c.read-mask.new.hand.me.0 f ag (looks_trans c.args.hand.now.me.0 c.read-a.new.hand.me.0 c.read-e.new.hand.me.0 c.read-a.ensures.looks (looks_trans c.read-a.new.hand.me.0 c.read-b.new.hand.me.0 c.read-e.new.hand.me.0 c.read-b.ensures.looks (looks_trans c.read-b.new.hand.me.0 c.read-c.new.hand.me.0 c.read-e.new.hand.me.0 c.read-c.ensures.looks (looks_trans c.read-c.new.hand.me.0 c.read-d.new.hand.me.0 c.read-e.new.hand.me.0 c.read-d.ensures.looks c.read-e.ensures.looks))))) c.read-mask.ensures.looks.since) in
    let r6 = c.read-mask.ensures.steady f (agrees_from c.args.node 7 c.args.hand.now.me.0 c.read-f.new.hand.me.0 c.read-mask.new.hand.me.0 f ag (looks_trans c.args.hand.now.me.0 c.read-a.new.hand.me.0 c.read-f.new.hand.me.0 c.read-a.ensures.looks (looks_trans c.read-a.new.hand.me.0 c.read-b.new.hand.me.0 c.read-f.new.hand.me.0 c.read-b.ensures.looks (looks_trans c.read-b.new.hand.me.0 c.read-c.new.hand.me.0 c.read-f.new.hand.me.0 c.read-c.ensures.looks (looks_trans c.read-c.new.hand.me.0 c.read-d.new.hand.me.0 c.read-f.new.hand.me.0 c.read-d.ensures.looks (looks_trans c.read-d.new.hand.me.0 c.read-e.new.hand.me.0 c.read-f.new.hand.me.0 c.read-e.ensures.looks c.read-f.ensures.looks)))))) in
    let s = c.in-None.ensures.finds 7 f refl r0 r1 r2 r3 r4 r5 is in (s.first c.args.key, λ ne. absurd (ne refl))
