use Rattle.std.proofs.Common.{◌≡◌, ◌≢◌, ℕ, ◌%◌, ◌≤◌, take, rules, sym, ◌∙◌, subst, inl, inr, arith}
use Rattle.optimistic.specs.Layout.{where_of}
use Rattle.optimistic.specs.declared.tree.place.Place.{Place}
use Rattle.optimistic.specs.words.Told.{Looks}
use Rattle.optimistic.specs.tree.Alone.{IsDated}
use Rattle.optimistic.specs.tree.Reads.{Steady}
use Rattle.optimistic.specs.tree.Runs.{behind, ShowsRun, IsRun}
use Rattle.optimistic.specs.tree.Trees.{IsTree}
use Rattle.optimistic.proofs.lemmas.drain.Keys.{between, reaches}
use Rattle.optimistic.proofs.lemmas.tree.Alone.{dated}
use Rattle.optimistic.proofs.lemmas.tree.Reading.{looks_trans}
use Rattle.optimistic.proofs.lemmas.tree.Runs.{run_there, run_made}
use Rattle.optimistic.proofs.lemmas.tree.Setting.{place_since}
use Rattle.optimistic.proofs.lemmas.words.Moments.{since_trans, width_more}
use Rattle.optimistic.proofs.tree.get.Tree.look_run.Goals as goal

pub load-version-requires-clause-at : goal.load-version-requires-clause-at
load-version-requires-clause-at c = c.requires.at.at

pub load-version-requires-clause-inside : goal.load-version-requires-clause-inside
load-version-requires-clause-inside c = let m = width_more c.args.at.form c.requires.at.some c.requires.at.form in omega arith

pub read-found-requires-clause-at : goal.read-found-requires-clause-at
read-found-requires-clause-at c = (place_since c.args.at c.args.hand.now.me.0 c.load-version.new.hand.me.0 c.load-version.ensures.looks.since c.requires.at).at

pub read-found-requires-clause-inside : goal.read-found-requires-clause-inside
read-found-requires-clause-inside c = let m = width_more c.args.at.form c.requires.at.some c.requires.at.form in (omega arith, omega arith)

pub returns-then-found-word-clause-looks : goal.returns-then-found-word-clause-looks
returns-then-found-word-clause-looks c = looks_trans _ _ _ c.load-version.ensures.looks c.read-found.ensures.looks

pub returns-then-version-eq1-clause-looks : goal.returns-then-version-eq1-clause-looks
returns-then-version-eq1-clause-looks c = looks_trans _ _ _ c.load-version.ensures.looks c.read-found.ensures.looks

pub run_of_form-part-requires-clause-order : goal.run_of_form-part-requires-clause-order
run_of_form-part-requires-clause-order c =
    let whole : c.args.from ≤ c.last_key.result = reaches c.args.from c.args.at.level 255 c.last_key.result c.requires.at.level c.last_key.ensures (omega arith) in
    let order = c.requires.order in
    elim c.lesser-stop.ensures.2 [
      | inl e ↦ omega (arith, e, order)
      | inr e ↦ omega (arith, e, whole)
    ]

pub run_of_form-part-requires-clause-near : goal.run_of_form-part-requires-clause-near
run_of_form-part-requires-clause-near c k above below =
    let low = c.lesser-stop.ensures.1 in
    (between c.args.from c.args.at.level 255 c.last_key.result c.requires.at.level (omega arith) c.last_key.ensures k above (omega (arith, below, low))).0

pub returns-clause-looks : goal.returns-clause-looks
returns-clause-looks c =
    let v = c.args.hand.now.me.0 in
    c.run_of_form-part.ensures.looks v (looks_trans v c.load-version.new.hand.me.0 c.read-found.new.hand.me.0 c.load-version.ensures.looks c.read-found.ensures.looks)

pub returns-clause-run : goal.returns-clause-run
returns-clause-run c =
    let at = c.args.at in
    let from : ℕ = c.args.from in
    let a = c.load-version.new.hand.me.0 in
    let u = c.read-found.new.hand.me.0 in
    let w = c.run_of_form-part.new.hand.me.0 in
    let r = c.run_of.result in
    let part = c.run_of_form-part.result in
    let e = c.run_of.ensures in
    let stop : ℕ = c.lesser-stop.result in
    let last : ℕ = c.args.last in
    let pairs = take part.count c.run_of_form-part.new.out in
    let odd : c.load-version.result % 2 ≢ 1 = search rules in
    let here : c.read-found.result ≡ c.where_word-word.result = search rules in
    let even : c.load-version.result % 2 ≡ 0 = omega (arith, odd) in
    let covers : Steady at.node at.form 1 (where_of at.form at.level from) a u =
    subst (λ (z : ℕ). Steady at.node at.form 1 z a u) (here ∙ c.where_word-word.ensures.word) c.read-found.ensures.steady in
    let later : Looks IsTree a w = c.run_of_form-part.ensures.looks a c.read-found.ensures.looks in
    let until = c.run_of_form-part.ensures.since in
    let shows : ShowsRun at from (behind last r.next) pairs a w =
    subst (λ (z : ℕ). ShowsRun at from z pairs a w) (sym e.next) (c.run_of_form-part.ensures.shows a c.read-found.ensures.looks) in
    let order : from ≤ behind last r.next = subst (λ (z : ℕ). from ≤ z) (sym e.next) c.run_of_form-part.ensures.order.0 in
    subst (λ (z : ℕ). IsRun r from last c.args.places (take z c.run_of_form-part.new.out) w) (sym e.same.2)
    (run_made r at c.load-version.result part.count e.same.0 e.same.1 e.same.2 from last c.args.places pairs w
    (run_there record { at = at; version = c.load-version.result; next = r.next; count = part.count; turn = r.turn } from last c.args.places pairs a u w
    (place_since at c.args.hand.now.me.0 a c.load-version.ensures.looks.since c.requires.at) c.load-version.ensures.found even c.read-found.ensures.looks later until covers shows
    (e.turn w c.run_of_form-part.ensures.below) c.run_of_form-part.ensures.count order (e.inside c.run_of_form-part.ensures.order.1)))

pub returns-clause-dated : goal.returns-clause-dated
returns-clause-dated c =
    let at = c.args.at in
    let v = c.args.hand.now.me.0 in
    let a = c.load-version.new.hand.me.0 in
    let u = c.read-found.new.hand.me.0 in
    let w = c.run_of_form-part.new.hand.me.0 in
    let e = c.run_of.ensures in
    let until = since_trans a.seen u.seen w.seen c.read-found.ensures.looks.since c.run_of_form-part.ensures.since in
    subst (λ (z : Place × ℕ). IsDated z.0.node z.1 v.seen w.seen) (λ i. (sym e.same.0 i, sym e.same.1 i))
    (dated at.node at.form c.load-version.result v.seen a w.seen c.requires.at.some c.requires.at.form c.load-version.ensures.at c.load-version.ensures.looks.since until c.load-version.ensures.found)
