use Rattle.std.proofs.Common.{false, List, ◌∷◌, refl, ap, ◌∙◌}
use Rattle.optimistic.specs.declared.words.rule.Tenure.{Tenure}
use Rattle.optimistic.specs.words.Told.{tenure}
use Rattle.optimistic.specs.tree.Trees.{IsTree}
use Rattle.optimistic.proofs.lemmas.words.Chains.{later_keeps, looks_keeps, releases_keeps}
use Rattle.optimistic.proofs.lemmas.words.Moments.{since_trans}
use Rattle.optimistic.proofs.lemmas.tree.Holding.{locked_looks, pair_now, locked_mine}
use Rattle.optimistic.proofs.tree.get.Tree.lock_below.Goals as goal

pub returns-in-Had-clause-lower : goal.returns-in-Had-clause-lower
returns-in-Had-clause-lower c =
    let v = c.args.hand.now.me.0 in
    let w = c.try_lock.new.hand.me.0 in
    let t = c.in-Had.ensures.locking in
    (refl, refl, pair_now c.args.above c.args.old c.in-Had.version v w c.requires.above c.try_lock.ensures.place t, locked_mine c.args.old.node c.in-Had.version v w t)

pub let_go-requires-clause-locked : goal.let_go-requires-clause-locked
let_go-requires-clause-locked c = locked_looks c.args.above c.args.hand.now.me.0 c.try_lock.new.hand.me.0 c.in-Busy.ensures.locking c.requires.above

pub let_go-requires-in-Exhausted-clause-locked : goal.let_go-requires-in-Exhausted-clause-locked
let_go-requires-in-Exhausted-clause-locked c = locked_looks c.args.above c.args.hand.now.me.0 c.try_lock.new.hand.me.0 c.in-Exhausted.ensures.locking.0 c.requires.above

pub returns-in-Busy-clause-lower : goal.returns-in-Busy-clause-lower
returns-in-Busy-clause-lower c =
    let v = c.args.hand.now.me.0 in
    let u = c.try_lock.new.hand.me.0 in
    let w = c.let_go.new.hand.me.0 in
    let t = c.in-Busy.ensures.locking in
    let r = c.let_go.ensures.releases in
    (later_keeps v u w (looks_keeps IsTree v u t).0 (releases_keeps IsTree c.args.above.at.node u w r), since_trans v.seen u.seen w.seen t.since r.since, r.mine ∙ ap (λ (z : List Tenure). tenure c.args.above.at.node false ∷ z) t.mine)

pub returns-in-Exhausted-clause-lower : goal.returns-in-Exhausted-clause-lower
returns-in-Exhausted-clause-lower c =
    let v = c.args.hand.now.me.0 in
    let u = c.try_lock.new.hand.me.0 in
    let w = c.let_go-in-Exhausted.new.hand.me.0 in
    let t = c.in-Exhausted.ensures.locking.0 in
    let r = c.let_go-in-Exhausted.ensures.releases in
    (later_keeps v u w (looks_keeps IsTree v u t).0 (releases_keeps IsTree c.args.above.at.node u w r), since_trans v.seen u.seen w.seen t.since r.since, r.mine ∙ ap (λ (z : List Tenure). tenure c.args.above.at.node false ∷ z) t.mine)
