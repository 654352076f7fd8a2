use Rattle.std.proofs.Common.{◌≡◌, sym, ◌∙◌, arith, ◌%◌, get_or}
use native.Mathlib.Nat.{mod-eq_of_lt}
use Rattle.optimistic.specs.Layout.{room}
use Rattle.optimistic.proofs.lemmas.forms.Gaps.{has_six}
use Rattle.optimistic.proofs.lemmas.forms.PlaceLemmas.{mask_forty_eight, entries_forty_eight}
use Rattle.optimistic.proofs.lemmas.MoveLemmas.{below_inside, forty_eight_small}
use Rattle.optimistic.proofs.lemmas.tree.Reading.{looks_trans, steady_until}
use Rattle.optimistic.proofs.lemmas.tree.Sights.{steady_in}
use Rattle.optimistic.proofs.lemmas.words.Moments.{since_trans, since_refl}
use Rattle.optimistic.proofs.lemmas.forms.Scans.{place_within}
use Rattle.optimistic.proofs.tree.get.Tree.bytes_of_forty_eight.Goals as goal

pub read-a-requires-clause-inside : goal.read-a-requires-clause-inside
read-a-requires-clause-inside c = (omega arith, below_inside c.args.at.form 2 (omega (arith, c.requires.form)) (omega (arith, entries_forty_eight c.args.at.form c.requires.form)))

pub read-b-requires-clause-inside : goal.read-b-requires-clause-inside
read-b-requires-clause-inside c = (omega arith, below_inside c.args.at.form 3 (omega (arith, c.requires.form)) (omega (arith, entries_forty_eight c.args.at.form c.requires.form)))

pub read-c-requires-clause-inside : goal.read-c-requires-clause-inside
read-c-requires-clause-inside c = (omega arith, below_inside c.args.at.form 4 (omega (arith, c.requires.form)) (omega (arith, entries_forty_eight c.args.at.form c.requires.form)))

pub read-d-requires-clause-inside : goal.read-d-requires-clause-inside
read-d-requires-clause-inside c = (omega arith, below_inside c.args.at.form 5 (omega (arith, c.requires.form)) (omega (arith, entries_forty_eight c.args.at.form c.requires.form)))

pub read-e-requires-clause-inside : goal.read-e-requires-clause-inside
read-e-requires-clause-inside c = (omega arith, below_inside c.args.at.form 6 (omega (arith, c.requires.form)) (omega (arith, entries_forty_eight c.args.at.form c.requires.form)))

pub read-f-requires-clause-inside : goal.read-f-requires-clause-inside
read-f-requires-clause-inside c = (omega arith, below_inside c.args.at.form 7 (omega (arith, c.requires.form)) (omega (arith, entries_forty_eight c.args.at.form c.requires.form)))

pub read-mask-requires-clause-inside : goal.read-mask-requires-clause-inside
read-mask-requires-clause-inside c = (omega arith, below_inside c.args.at.form 8 (omega (arith, c.requires.form)) (omega (arith, entries_forty_eight c.args.at.form c.requires.form)))

pub returns-clause-looks : goal.returns-clause-looks
returns-clause-looks c = (looks_trans _ _ _ c.read-a.ensures.looks (looks_trans _ _ _ c.read-b.ensures.looks (looks_trans _ _ _ c.read-c.ensures.looks (looks_trans _ _ _ c.read-d.ensures.looks (looks_trans _ _ _ c.read-e.ensures.looks (looks_trans _ _ _ c.read-f.ensures.looks c.read-mask.ensures.looks))))))

pub returns-clause-only : goal.returns-clause-only
returns-clause-only c f ag is =
    let r0 : f 2 ≡ c.read-a.result = steady_until c.args.at.node c.args.at.form 2 c.read-a.result c.args.hand.now.me.0 c.read-a.new.hand.me.0 c.read-mask.new.hand.me.0 c.read-a.ensures.steady (since_trans c.read-a.new.hand.me.0.seen c.read-b.new.hand.me.0.seen c.read-mask.new.hand.me.0.seen c.read-b.ensures.looks.since (since_trans c.read-b.new.hand.me.0.seen c.read-c.new.hand.me.0.seen c.read-mask.new.hand.me.0.seen c.read-c.ensures.looks.since (since_trans c.read-c.new.hand.me.0.seen c.read-d.new.hand.me.0.seen c.read-mask.new.hand.me.0.seen c.read-d.ensures.looks.since (since_trans c.read-d.new.hand.me.0.seen c.read-e.new.hand.me.0.seen c.read-mask.new.hand.me.0.seen c.read-e.ensures.looks.since (since_trans c.read-e.new.hand.me.0.seen c.read-f.new.hand.me.0.seen c.read-mask.new.hand.me.0.seen c.read-f.ensures.looks.since c.read-mask.ensures.looks.since))))) f ag in
    let r1 : f 3 ≡ c.read-b.result = steady_in c.args.at.node c.args.at.form 3 c.read-b.result c.args.hand.now.me.0 c.read-a.new.hand.me.0 c.read-b.new.hand.me.0 c.read-mask.new.hand.me.0 c.read-a.ensures.looks c.read-b.ensures.steady (since_trans c.read-b.new.hand.me.0.seen c.read-c.new.hand.me.0.seen c.read-mask.new.hand.me.0.seen c.read-c.ensures.looks.since (since_trans c.read-c.new.hand.me.0.seen c.read-d.new.hand.me.0.seen c.read-mask.new.hand.me.0.seen c.read-d.ensures.looks.since (since_trans c.read-d.new.hand.me.0.seen c.read-e.new.hand.me.0.seen c.read-mask.new.hand.me.0.seen c.read-e.ensures.looks.since (since_trans c.read-e.new.hand.me.0.seen c.read-f.new.hand.me.0.seen c.read-mask.new.hand.me.0.seen c.read-f.ensures.looks.since c.read-mask.ensures.looks.since)))) f ag in
    let r2 : f 4 ≡ c.read-c.result = steady_in c.args.at.node c.args.at.form 4 c.read-c.result c.args.hand.now.me.0 c.read-b.new.hand.me.0 c.read-c.new.hand.me.0 c.read-mask.new.hand.me.0 (looks_trans _ _ _ c.read-a.ensures.looks c.read-b.ensures.looks) c.read-c.ensures.steady (since_trans c.read-c.new.hand.me.0.seen c.read-d.new.hand.me.0.seen c.read-mask.new.hand.me.0.seen c.read-d.ensures.looks.since (since_trans c.read-d.new.hand.me.0.seen c.read-e.new.hand.me.0.seen c.read-mask.new.hand.me.0.seen c.read-e.ensures.looks.since (since_trans c.read-e.new.hand.me.0.seen c.read-f.new.hand.me.0.seen c.read-mask.new.hand.me.0.seen c.read-f.ensures.looks.since c.read-mask.ensures.looks.since))) f ag in
    let r3 : f 5 ≡ c.read-d.result = steady_in c.args.at.node c.args.at.form 5 c.read-d.result c.args.hand.now.me.0 c.read-c.new.hand.me.0 c.read-d.new.hand.me.0 c.read-mask.new.hand.me.0 (looks_trans _ _ _ c.read-a.ensures.looks (looks_trans _ _ _ c.read-b.ensures.looks c.read-c.ensures.looks)) c.read-d.ensures.steady (since_trans c.read-d.new.hand.me.0.seen c.read-e.new.hand.me.0.seen c.read-mask.new.hand.me.0.seen c.read-e.ensures.looks.since (since_trans c.read-e.new.hand.me.0.seen c.read-f.new.hand.me.0.seen c.read-mask.new.hand.me.0.seen c.read-f.ensures.looks.since c.read-mask.ensures.looks.since)) f ag in
    let r4 : f 6 ≡ c.read-e.result = steady_in c.args.at.node c.args.at.form 6 c.read-e.result c.args.hand.now.me.0 c.read-d.new.hand.me.0 c.read-e.new.hand.me.0 c.read-mask.new.hand.me.0 (looks_trans _ _ _ c.read-a.ensures.looks (looks_trans _ _ _ c.read-b.ensures.looks (looks_trans _ _ _ c.read-c.ensures.looks c.read-d.ensures.looks))) c.read-e.ensures.steady (since_trans c.read-e.new.hand.me.0.seen c.read-f.new.hand.me.0.seen c.read-mask.new.hand.me.0.seen c.read-f.ensures.looks.since c.read-mask.ensures.looks.since) f ag in
    let r5 : f 7 ≡ c.read-f.result = steady_in c.args.at.node c.args.at.form 7 c.read-f.result c.args.hand.now.me.0 c.read-e.new.hand.me.0 c.read-f.new.hand.me.0 c.read-mask.new.hand.me.0 (looks_trans _ _ _ c.read-a.ensures.looks (looks_trans _ _ _ c.read-b.ensures.looks (looks_trans _ _ _ c.read-c.ensures.looks (looks_trans _ _ _ c.read-d.ensures.looks c.read-e.ensures.looks)))) c.read-f.ensures.steady c.read-mask.ensures.looks.since f ag in
    let r6 : f 8 ≡ c.read-mask.result = steady_in c.args.at.node c.args.at.form 8 c.read-mask.result c.args.hand.now.me.0 c.read-f.new.hand.me.0 c.read-mask.new.hand.me.0 c.read-mask.new.hand.me.0 (looks_trans _ _ _ c.read-a.ensures.looks (looks_trans _ _ _ c.read-b.ensures.looks (looks_trans _ _ _ c.read-c.ensures.looks (looks_trans _ _ _ c.read-d.ensures.looks (looks_trans _ _ _ c.read-e.ensures.looks c.read-f.ensures.looks))))) c.read-mask.ensures.steady (since_refl c.read-mask.new.hand.me.0.seen) f ag in
    let small = forty_eight_small c.args.at.form f c.read-mask.result c.requires.form is (sym r6) in
    c.places_among.ensures.only c.args.at.form f (λ (e : room c.args.at.form ≡ 256). absurd (omega (arith, e, c.requires.form))) (omega (arith, c.requires.form))
    (has_six f c.read-a.result c.read-b.result c.read-c.result c.read-d.result c.read-e.result c.read-f.result r0 r1 r2 r3 r4 r5) (mask_forty_eight c.args.at.form f c.requires.form ∙ r6 ∙ sym (mod-eq_of_lt (omega (arith, small)))) is

pub returns-clause-places : goal.returns-clause-places
returns-clause-places c f ag is =
    let r0 : f 2 ≡ c.read-a.result = steady_until c.args.at.node c.args.at.form 2 c.read-a.result c.args.hand.now.me.0 c.read-a.new.hand.me.0 c.read-mask.new.hand.me.0 c.read-a.ensures.steady (since_trans c.read-a.new.hand.me.0.seen c.read-b.new.hand.me.0.seen c.read-mask.new.hand.me.0.seen c.read-b.ensures.looks.since (since_trans c.read-b.new.hand.me.0.seen c.read-c.new.hand.me.0.seen c.read-mask.new.hand.me.0.seen c.read-c.ensures.looks.since (since_trans c.read-c.new.hand.me.0.seen c.read-d.new.hand.me.0.seen c.read-mask.new.hand.me.0.seen c.read-d.ensures.looks.since (since_trans c.read-d.new.hand.me.0.seen c.read-e.new.hand.me.0.seen c.read-mask.new.hand.me.0.seen c.read-e.ensures.looks.since (since_trans c.read-e.new.hand.me.0.seen c.read-f.new.hand.me.0.seen c.read-mask.new.hand.me.0.seen c.read-f.ensures.looks.since c.read-mask.ensures.looks.since))))) f ag in
    let r1 : f 3 ≡ c.read-b.result = steady_in c.args.at.node c.args.at.form 3 c.read-b.result c.args.hand.now.me.0 c.read-a.new.hand.me.0 c.read-b.new.hand.me.0 c.read-mask.new.hand.me.0 c.read-a.ensures.looks c.read-b.ensures.steady (since_trans c.read-b.new.hand.me.0.seen c.read-c.new.hand.me.0.seen c.read-mask.new.hand.me.0.seen c.read-c.ensures.looks.since (since_trans c.read-c.new.hand.me.0.seen c.read-d.new.hand.me.0.seen c.read-mask.new.hand.me.0.seen c.read-d.ensures.looks.since (since_trans c.read-d.new.hand.me.0.seen c.read-e.new.hand.me.0.seen c.read-mask.new.hand.me.0.seen c.read-e.ensures.looks.since (since_trans c.read-e.new.hand.me.0.seen c.read-f.new.hand.me.0.seen c.read-mask.new.hand.me.0.seen c.read-f.ensures.looks.since c.read-mask.ensures.looks.since)))) f ag in
    let r2 : f 4 ≡ c.read-c.result = steady_in c.args.at.node c.args.at.form 4 c.read-c.result c.args.hand.now.me.0 c.read-b.new.hand.me.0 c.read-c.new.hand.me.0 c.read-mask.new.hand.me.0 (looks_trans _ _ _ c.read-a.ensures.looks c.read-b.ensures.looks) c.read-c.ensures.steady (since_trans c.read-c.new.hand.me.0.seen c.read-d.new.hand.me.0.seen c.read-mask.new.hand.me.0.seen c.read-d.ensures.looks.since (since_trans c.read-d.new.hand.me.0.seen c.read-e.new.hand.me.0.seen c.read-mask.new.hand.me.0.seen c.read-e.ensures.looks.since (since_trans c.read-e.new.hand.me.0.seen c.read-f.new.hand.me.0.seen c.read-mask.new.hand.me.0.seen c.read-f.ensures.looks.since c.read-mask.ensures.looks.since))) f ag in
    let r3 : f 5 ≡ c.read-d.result = steady_in c.args.at.node c.args.at.form 5 c.read-d.result c.args.hand.now.me.0 c.read-c.new.hand.me.0 c.read-d.new.hand.me.0 c.read-mask.new.hand.me.0 (looks_trans _ _ _ c.read-a.ensures.looks (looks_trans _ _ _ c.read-b.ensures.looks c.read-c.ensures.looks)) c.read-d.ensures.steady (since_trans c.read-d.new.hand.me.0.seen c.read-e.new.hand.me.0.seen c.read-mask.new.hand.me.0.seen c.read-e.ensures.looks.since (since_trans c.read-e.new.hand.me.0.seen c.read-f.new.hand.me.0.seen c.read-mask.new.hand.me.0.seen c.read-f.ensures.looks.since c.read-mask.ensures.looks.since)) f ag in
    let r4 : f 6 ≡ c.read-e.result = steady_in c.args.at.node c.args.at.form 6 c.read-e.result c.args.hand.now.me.0 c.read-d.new.hand.me.0 c.read-e.new.hand.me.0 c.read-mask.new.hand.me.0 (looks_trans _ _ _ c.read-a.ensures.looks (looks_trans _ _ _ c.read-b.ensures.looks (looks_trans _ _ _ c.read-c.ensures.looks c.read-d.ensures.looks))) c.read-e.ensures.steady (since_trans c.read-e.new.hand.me.0.seen c.read-f.new.hand.me.0.seen c.read-mask.new.hand.me.0.seen c.read-f.ensures.looks.since c.read-mask.ensures.looks.since) f ag in
    let r5 : f 7 ≡ c.read-f.result = steady_in c.args.at.node c.args.at.form 7 c.read-f.result c.args.hand.now.me.0 c.read-e.new.hand.me.0 c.read-f.new.hand.me.0 c.read-mask.new.hand.me.0 (looks_trans _ _ _ c.read-a.ensures.looks (looks_trans _ _ _ c.read-b.ensures.looks (looks_trans _ _ _ c.read-c.ensures.looks (looks_trans _ _ _ c.read-d.ensures.looks c.read-e.ensures.looks)))) c.read-f.ensures.steady c.read-mask.ensures.looks.since f ag in
    let r6 : f 8 ≡ c.read-mask.result = steady_in c.args.at.node c.args.at.form 8 c.read-mask.result c.args.hand.now.me.0 c.read-f.new.hand.me.0 c.read-mask.new.hand.me.0 c.read-mask.new.hand.me.0 (looks_trans _ _ _ c.read-a.ensures.looks (looks_trans _ _ _ c.read-b.ensures.looks (looks_trans _ _ _ c.read-c.ensures.looks (looks_trans _ _ _ c.read-d.ensures.looks (looks_trans _ _ _ c.read-e.ensures.looks c.read-f.ensures.looks))))) c.read-mask.ensures.steady (since_refl c.read-mask.new.hand.me.0.seen) f ag in
    let small = forty_eight_small c.args.at.form f c.read-mask.result c.requires.form is (sym r6) in
    c.places_among.ensures.places c.args.at.form f (λ (e : room c.args.at.form ≡ 256). absurd (omega (arith, e, c.requires.form)))
    (has_six f c.read-a.result c.read-b.result c.read-c.result c.read-d.result c.read-e.result c.read-f.result r0 r1 r2 r3 r4 r5) (mask_forty_eight c.args.at.form f c.requires.form ∙ r6 ∙ sym (mod-eq_of_lt (omega (arith, small))))

pub returns-clause-within : goal.returns-clause-within
returns-clause-within c b l e = let low = place_within (c.read-mask.result % 281474976710656) 48 (get_or c.places_among.new.places b 0) (omega arith) (c.places_among.ensures.within b l e) in let form = c.requires.form in omega (arith, low, form)
