use Rattle.std.proofs.Common.{◌≡◌, ◌≢◌, rules, sym, ◌∙◌, take, arith}
use Rattle.optimistic.proofs.lemmas.tree.Alone.{dated_moved}
use Rattle.optimistic.proofs.lemmas.tree.Reading.{looks_trans}
use Rattle.optimistic.proofs.lemmas.tree.Runs.{run_told}
use Rattle.optimistic.proofs.lemmas.tree.Trails.{trail_since}
use Rattle.optimistic.proofs.lemmas.words.Moments.{width_more}
use Rattle.optimistic.proofs.tree.get.Tree.try_run.Goals as goal

pub load-version-requires-clause-inside : goal.load-version-requires-clause-inside
load-version-requires-clause-inside c = let p = c.in-Some.ensures.run.place in let m = width_more c.in-Some.run'.at.form p.some p.form in omega arith

pub returns-then-version-run-clause-looks : goal.returns-then-version-run-clause-looks
returns-then-version-run-clause-looks c = looks_trans _ _ _ c.look_on.ensures.looks c.load-version.ensures.looks

pub returns-then-version-run-clause-trail : goal.returns-then-version-run-clause-trail
returns-then-version-run-clause-trail c = trail_since c.look_on.new.trail c.look_on.new.hand.me.0 c.load-version.new.hand.me.0 c.load-version.ensures.looks.since c.look_on.ensures.trail

pub returns-clause-looks : goal.returns-clause-looks
returns-clause-looks c = looks_trans _ _ _ c.look_on.ensures.looks c.load-version.ensures.looks

pub returns-clause-trail : goal.returns-clause-trail
returns-clause-trail c = trail_since c.look_on.new.trail c.look_on.new.hand.me.0 c.load-version.new.hand.me.0 c.load-version.ensures.looks.since c.look_on.ensures.trail

pub returns-clause-told : goal.returns-clause-told
returns-clause-told c =
    let r = c.in-Some.run' in
    let v = c.args.hand.now.me.0 in
    let u = c.look_on.new.hand.me.0 in
    let w = c.load-version.new.hand.me.0 in
    let same : c.load-version.result ≡ r.version = search rules in
    run_told r c.args.from c.args.last c.args.places (take r.count c.look_on.new.out) v u w c.look_on.ensures.looks c.load-version.ensures.looks c.in-Some.ensures.run c.in-Some.ensures.later (sym c.load-version.ensures.found ∙ same)

pub returns-then-version-run-clause-alone : goal.returns-then-version-run-clause-alone
returns-then-version-run-clause-alone c =
    let r = c.in-Some.run' in
    let ne : c.load-version.result ≢ r.version = search rules in
    dated_moved r.at.node r.version c.args.hand.now.me.0.seen c.look_on.new.hand.me.0.seen c.load-version.new.hand.me.0.seen c.in-Some.ensures.dated c.load-version.ensures.looks.since (λ e. ne (c.load-version.ensures.found ∙ e))
