use Rattle.optimistic.specs.tree.Alone.{IsDisturbedFrom}
use Rattle.optimistic.proofs.lemmas.tree.Alone.{disturbed_in, none_map, run_dated}
use Rattle.optimistic.proofs.lemmas.tree.Trails.{trail_since}
use Rattle.optimistic.proofs.lemmas.words.Moments.{since_refl}
use Rattle.optimistic.proofs.tree.get.Tree.look_on.Goals as goal

pub returns-clause-trail : goal.returns-clause-trail
returns-clause-trail c = trail_since c.trail.result c.look_by.new.hand.me.0 c.look_anew.new.hand.me.0 c.look_anew.ensures.looks.since c.trail.ensures

pub returns-clause-dated : goal.returns-clause-dated
returns-clause-dated c = let w = c.look_anew.new.hand.me.0.seen in run_dated c.look_anew.result c.args.hand.now.me.0.seen c.look_by.new.hand.me.0.seen w w c.look_by.ensures.looks.since c.look_anew.ensures.dated (since_refl w)

pub returns-clause-alone : goal.returns-clause-alone
returns-clause-alone c =
    let v = c.args.hand.now.me.0 in
    let u = c.look_by.new.hand.me.0 in
    let w = c.look_anew.new.hand.me.0 in
    none_map c.look_anew.result (IsDisturbedFrom u w) (IsDisturbedFrom v w) (λ d. disturbed_in v.seen u.seen w.seen w.seen c.look_by.ensures.looks.since d (since_refl w.seen)) c.look_anew.ensures.alone
