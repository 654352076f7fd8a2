use Rattle.std.proofs.Common.{◌≡◌, ◌<◌, sym, ◌∙◌, arith}
use Rattle.optimistic.specs.Layout.{room}
use Rattle.optimistic.specs.Moves.{words_of}
use Rattle.optimistic.proofs.lemmas.forms.PlaceLemmas.{entries_forty_eight}
use Rattle.optimistic.proofs.lemmas.MoveLemmas.{below_inside, looks_word, looks_trans}
use Rattle.optimistic.proofs.lemmas.forms.PlaceLemmas.{lowest_forty_eight}
use Rattle.optimistic.proofs.changes.find_among_forty_eight.Goals as goal

pub load-a-requires-clause-of : goal.load-a-requires-clause-of
load-a-requires-clause-of g c =
    c.requires.of

pub load-a-requires-clause-at : goal.load-a-requires-clause-at
load-a-requires-clause-at g c =
    c.requires.at

pub load-a-requires-clause-inside : goal.load-a-requires-clause-inside
load-a-requires-clause-inside g c =
    let n = c.args.node in
    let f = c.args.form in
    let v = c.args.hand.now.me.0 in
    let w = words_of v n in
    let r : room f ≡ 48 = c.requires.form in
    let some : 0 < room f = omega (arith, r) in
    let en = entries_forty_eight f r in
    below_inside f 2 some (omega (arith, en))

pub load-b-requires-clause-of : goal.load-b-requires-clause-of
load-b-requires-clause-of g c =
    c.load-a.ensures.of

pub load-b-requires-clause-at : goal.load-b-requires-clause-at
load-b-requires-clause-at g c =
    c.load-a.ensures.at

pub load-b-requires-clause-inside : goal.load-b-requires-clause-inside
load-b-requires-clause-inside g c =
    let n = c.args.node in
    let f = c.args.form in
    let v = c.args.hand.now.me.0 in
    let w = words_of v n in
    let r : room f ≡ 48 = c.requires.form in
    let some : 0 < room f = omega (arith, r) in
    let en = entries_forty_eight f r in
    below_inside f 3 some (omega (arith, en))

pub load-c-requires-clause-of : goal.load-c-requires-clause-of
load-c-requires-clause-of g c =
    c.load-b.ensures.of

pub load-c-requires-clause-at : goal.load-c-requires-clause-at
load-c-requires-clause-at g c =
    c.load-b.ensures.at

pub load-c-requires-clause-inside : goal.load-c-requires-clause-inside
load-c-requires-clause-inside g c =
    let n = c.args.node in
    let f = c.args.form in
    let v = c.args.hand.now.me.0 in
    let w = words_of v n in
    let r : room f ≡ 48 = c.requires.form in
    let some : 0 < room f = omega (arith, r) in
    let en = entries_forty_eight f r in
    below_inside f 4 some (omega (arith, en))

pub load-d-requires-clause-of : goal.load-d-requires-clause-of
load-d-requires-clause-of g c =
    c.load-c.ensures.of

pub load-d-requires-clause-at : goal.load-d-requires-clause-at
load-d-requires-clause-at g c =
    c.load-c.ensures.at

pub load-d-requires-clause-inside : goal.load-d-requires-clause-inside
load-d-requires-clause-inside g c =
    let n = c.args.node in
    let f = c.args.form in
    let v = c.args.hand.now.me.0 in
    let w = words_of v n in
    let r : room f ≡ 48 = c.requires.form in
    let some : 0 < room f = omega (arith, r) in
    let en = entries_forty_eight f r in
    below_inside f 5 some (omega (arith, en))

pub load-e-requires-clause-of : goal.load-e-requires-clause-of
load-e-requires-clause-of g c =
    c.load-d.ensures.of

pub load-e-requires-clause-at : goal.load-e-requires-clause-at
load-e-requires-clause-at g c =
    c.load-d.ensures.at

pub load-e-requires-clause-inside : goal.load-e-requires-clause-inside
load-e-requires-clause-inside g c =
    let n = c.args.node in
    let f = c.args.form in
    let v = c.args.hand.now.me.0 in
    let w = words_of v n in
    let r : room f ≡ 48 = c.requires.form in
    let some : 0 < room f = omega (arith, r) in
    let en = entries_forty_eight f r in
    below_inside f 6 some (omega (arith, en))

pub load-f-requires-clause-of : goal.load-f-requires-clause-of
load-f-requires-clause-of g c =
    c.load-e.ensures.of

pub load-f-requires-clause-at : goal.load-f-requires-clause-at
load-f-requires-clause-at g c =
    c.load-e.ensures.at

pub load-f-requires-clause-inside : goal.load-f-requires-clause-inside
load-f-requires-clause-inside g c =
    let n = c.args.node in
    let f = c.args.form in
    let v = c.args.hand.now.me.0 in
    let w = words_of v n in
    let r : room f ≡ 48 = c.requires.form in
    let some : 0 < room f = omega (arith, r) in
    let en = entries_forty_eight f r in
    below_inside f 7 some (omega (arith, en))

pub returns-clause-of : goal.returns-clause-of
returns-clause-of g c =
    c.load-f.ensures.of

pub returns-clause-at : goal.returns-clause-at
returns-clause-at g c =
    c.load-f.ensures.at

pub returns-clause-looks : goal.returns-clause-looks
returns-clause-looks g c =
    let n = c.args.node in
    let f = c.args.form in
    let v = c.args.hand.now.me.0 in
    let w = words_of v n in
    let k1 = c.load-a.ensures.looks in
    let k2 = looks_trans _ _ _ _ k1 c.load-b.ensures.looks in
    let k3 = looks_trans _ _ _ _ k2 c.load-c.ensures.looks in
    let k4 = looks_trans _ _ _ _ k3 c.load-d.ensures.looks in
    let k5 = looks_trans _ _ _ _ k4 c.load-e.ensures.looks in
    let k6 = looks_trans _ _ _ _ k5 c.load-f.ensures.looks in
    k6

pub returns-clause-lowest : goal.returns-clause-lowest
returns-clause-lowest g c =
    let n = c.args.node in
    let f = c.args.form in
    let v = c.args.hand.now.me.0 in
    let w = words_of v n in
    let r : room f ≡ 48 = c.requires.form in
    let some : 0 < room f = omega (arith, r) in
    let en = entries_forty_eight f r in
    let k1 = c.load-a.ensures.looks in
    let k2 = looks_trans _ _ _ _ k1 c.load-b.ensures.looks in
    let k3 = looks_trans _ _ _ _ k2 c.load-c.ensures.looks in
    let k4 = looks_trans _ _ _ _ k3 c.load-d.ensures.looks in
    let k5 = looks_trans _ _ _ _ k4 c.load-e.ensures.looks in
    let k6 = looks_trans _ _ _ _ k5 c.load-f.ensures.looks in
    let e2 : w 2 ≡ c.load-a.result = sym (c.load-a.ensures.found ∙ looks_word _ n f 2 v c.load-a.new.hand.me.0 c.requires.at c.requires.mine (below_inside f 2 some (omega (arith, en))) k1) in
    let e3 : w 3 ≡ c.load-b.result = sym (c.load-b.ensures.found ∙ looks_word _ n f 3 v c.load-b.new.hand.me.0 c.requires.at c.requires.mine (below_inside f 3 some (omega (arith, en))) k2) in
    let e4 : w 4 ≡ c.load-c.result = sym (c.load-c.ensures.found ∙ looks_word _ n f 4 v c.load-c.new.hand.me.0 c.requires.at c.requires.mine (below_inside f 4 some (omega (arith, en))) k3) in
    let e5 : w 5 ≡ c.load-d.result = sym (c.load-d.ensures.found ∙ looks_word _ n f 5 v c.load-d.new.hand.me.0 c.requires.at c.requires.mine (below_inside f 5 some (omega (arith, en))) k4) in
    let e6 : w 6 ≡ c.load-e.result = sym (c.load-e.ensures.found ∙ looks_word _ n f 6 v c.load-e.new.hand.me.0 c.requires.at c.requires.mine (below_inside f 6 some (omega (arith, en))) k5) in
    let e7 : w 7 ≡ c.load-f.result = sym (c.load-f.ensures.found ∙ looks_word _ n f 7 v c.load-f.new.hand.me.0 c.requires.at c.requires.mine (below_inside f 7 some (omega (arith, en))) k6) in
    lowest_forty_eight f w c.args.byte c.find_forty_eight.result c.load-a.result c.load-b.result c.load-c.result c.load-d.result c.load-e.result c.load-f.result r e2 e3 e4 e5 e6 e7 c.find_forty_eight.ensures.lowest

pub returns-clause-finds : goal.returns-clause-finds
returns-clause-finds g c =
    let n = c.args.node in
    let f = c.args.form in
    let v = c.args.hand.now.me.0 in
    let w = words_of v n in
    let r : room f ≡ 48 = c.requires.form in
    let some : 0 < room f = omega (arith, r) in
    let en = entries_forty_eight f r in
    let k1 = c.load-a.ensures.looks in
    let k2 = looks_trans _ _ _ _ k1 c.load-b.ensures.looks in
    let k3 = looks_trans _ _ _ _ k2 c.load-c.ensures.looks in
    let k4 = looks_trans _ _ _ _ k3 c.load-d.ensures.looks in
    let k5 = looks_trans _ _ _ _ k4 c.load-e.ensures.looks in
    let k6 = looks_trans _ _ _ _ k5 c.load-f.ensures.looks in
    let e2 : w 2 ≡ c.load-a.result = sym (c.load-a.ensures.found ∙ looks_word _ n f 2 v c.load-a.new.hand.me.0 c.requires.at c.requires.mine (below_inside f 2 some (omega (arith, en))) k1) in
    let e3 : w 3 ≡ c.load-b.result = sym (c.load-b.ensures.found ∙ looks_word _ n f 3 v c.load-b.new.hand.me.0 c.requires.at c.requires.mine (below_inside f 3 some (omega (arith, en))) k2) in
    let e4 : w 4 ≡ c.load-c.result = sym (c.load-c.ensures.found ∙ looks_word _ n f 4 v c.load-c.new.hand.me.0 c.requires.at c.requires.mine (below_inside f 4 some (omega (arith, en))) k3) in
    let e5 : w 5 ≡ c.load-d.result = sym (c.load-d.ensures.found ∙ looks_word _ n f 5 v c.load-d.new.hand.me.0 c.requires.at c.requires.mine (below_inside f 5 some (omega (arith, en))) k4) in
    let e6 : w 6 ≡ c.load-e.result = sym (c.load-e.ensures.found ∙ looks_word _ n f 6 v c.load-e.new.hand.me.0 c.requires.at c.requires.mine (below_inside f 6 some (omega (arith, en))) k5) in
    let e7 : w 7 ≡ c.load-f.result = sym (c.load-f.ensures.found ∙ looks_word _ n f 7 v c.load-f.new.hand.me.0 c.requires.at c.requires.mine (below_inside f 7 some (omega (arith, en))) k6) in
    c.find_forty_eight.ensures.finds f w r e2 e3 e4 e5 e6 e7 c.requires.words
