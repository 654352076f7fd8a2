use Rattle.std.proofs.Common.{◌≡◌, [], ◌∷◌, refl, arith}
use Rattle.optimistic.specs.Layout.{width}
use Rattle.optimistic.proofs.lemmas.forms.Gaps.{only_values, has_four}
use Rattle.optimistic.proofs.lemmas.tree.Reading.{looks_trans, steady_until}
use Rattle.optimistic.proofs.lemmas.tree.Sights.{steady_in}
use Rattle.optimistic.proofs.lemmas.words.Moments.{since_trans, since_refl}
use Rattle.optimistic.proofs.tree.get.Tree.bytes_of_values.Goals as goal

pub read-a-requires-clause-inside : goal.read-a-requires-clause-inside
unfolding width
read-a-requires-clause-inside c = (omega arith, omega arith)

pub read-b-requires-clause-inside : goal.read-b-requires-clause-inside
unfolding width
read-b-requires-clause-inside c = (omega arith, omega arith)

pub read-c-requires-clause-inside : goal.read-c-requires-clause-inside
unfolding width
read-c-requires-clause-inside c = (omega arith, omega arith)

pub read-d-requires-clause-inside : goal.read-d-requires-clause-inside
unfolding width
read-d-requires-clause-inside c = (omega arith, omega arith)

pub returns-clause-looks : goal.returns-clause-looks
returns-clause-looks c = (looks_trans _ _ _ c.read-a.ensures.looks (looks_trans _ _ _ c.read-b.ensures.looks (looks_trans _ _ _ c.read-c.ensures.looks c.read-d.ensures.looks)))

pub returns-clause-only : goal.returns-clause-only
returns-clause-only c f ag is =
    let r0 : f 2 ≡ c.read-a.result = steady_until c.args.node 8 2 c.read-a.result c.args.hand.now.me.0 c.read-a.new.hand.me.0 c.read-d.new.hand.me.0 c.read-a.ensures.steady (since_trans c.read-a.new.hand.me.0.seen c.read-b.new.hand.me.0.seen c.read-d.new.hand.me.0.seen c.read-b.ensures.looks.since (since_trans c.read-b.new.hand.me.0.seen c.read-c.new.hand.me.0.seen c.read-d.new.hand.me.0.seen c.read-c.ensures.looks.since c.read-d.ensures.looks.since)) f ag in
    let r1 : f 3 ≡ c.read-b.result = steady_in c.args.node 8 3 c.read-b.result c.args.hand.now.me.0 c.read-a.new.hand.me.0 c.read-b.new.hand.me.0 c.read-d.new.hand.me.0 c.read-a.ensures.looks c.read-b.ensures.steady (since_trans c.read-b.new.hand.me.0.seen c.read-c.new.hand.me.0.seen c.read-d.new.hand.me.0.seen c.read-c.ensures.looks.since c.read-d.ensures.looks.since) f ag in
    let r2 : f 4 ≡ c.read-c.result = steady_in c.args.node 8 4 c.read-c.result c.args.hand.now.me.0 c.read-b.new.hand.me.0 c.read-c.new.hand.me.0 c.read-d.new.hand.me.0 (looks_trans _ _ _ c.read-a.ensures.looks c.read-b.ensures.looks) c.read-c.ensures.steady c.read-d.ensures.looks.since f ag in
    let r3 : f 5 ≡ c.read-d.result = steady_in c.args.node 8 5 c.read-d.result c.args.hand.now.me.0 c.read-c.new.hand.me.0 c.read-d.new.hand.me.0 c.read-d.new.hand.me.0 (looks_trans _ _ _ c.read-a.ensures.looks (looks_trans _ _ _ c.read-b.ensures.looks c.read-c.ensures.looks)) c.read-d.ensures.steady (since_refl c.read-d.new.hand.me.0.seen) f ag in
    only_values f (c.read-a.result ∷ c.read-b.result ∷ c.read-c.result ∷ c.read-d.result ∷ []) refl (has_four f c.read-a.result c.read-b.result c.read-c.result c.read-d.result r0 r1 r2 r3)
