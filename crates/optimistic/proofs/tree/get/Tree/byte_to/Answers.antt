use Rattle.std.proofs.Common.{ℕ, ◌+◌, sym, subst, arith}
use Rattle.optimistic.specs.words.Told.{HasForm}
use Rattle.optimistic.specs.tree.Sights.{Lacks}
use Rattle.optimistic.proofs.lemmas.forms.Gaps.{only_gap}
use Rattle.optimistic.proofs.lemmas.tree.Reading.{looks_trans}
use Rattle.optimistic.proofs.lemmas.tree.Runs.{lacks_in}
use Rattle.optimistic.proofs.lemmas.tree.Setting.{place_since}
use Rattle.optimistic.proofs.lemmas.words.Moments.{since_refl}
use Rattle.optimistic.proofs.tree.get.Tree.byte_to.Goals as goal

pub back_gap_of_wide-requires-clause-at : goal.back_gap_of_wide-requires-clause-at
back_gap_of_wide-requires-clause-at c = subst (λ (z : ℕ). HasForm c.args.at.node z c.args.hand.now.me.0) c.if-at-eq4.true c.requires.at.at

pub returns-then-at-eq4-clause-place : goal.returns-then-at-eq4-clause-place
returns-then-at-eq4-clause-place c = place_since c.args.at c.args.hand.now.me.0 c.back_gap_of_wide.new.hand.me.0 c.back_gap_of_wide.ensures.looks.since c.requires.at

pub returns-then-at-eq4-clause-looks : goal.returns-then-at-eq4-clause-looks
returns-then-at-eq4-clause-looks c a l = looks_trans a c.args.hand.now.me.0 c.back_gap_of_wide.new.hand.me.0 l c.back_gap_of_wide.ensures.looks

pub returns-then-at-eq4-clause-lacks : goal.returns-then-at-eq4-clause-lacks
returns-then-at-eq4-clause-lacks c a l has =
    let v = c.args.hand.now.me.0 in
    let w = c.back_gap_of_wide.new.hand.me.0 in
    lacks_in c.args.at.node c.args.at.form c.back_gap_of_wide.result (c.args.to + 1) a v w w l
    (subst (λ (z : ℕ). Lacks c.args.at.node z c.back_gap_of_wide.result (c.args.to + 1) v w) (sym c.if-at-eq4.true) c.back_gap_of_wide.ensures.lacks) (since_refl w.seen)

pub returns-clause-lacks : goal.returns-clause-lacks
returns-clause-lacks c a l has f ag is =
    let low = c.ranges.to.fits in
    only_gap c.args.at.form f c.args.bytes.now c.last_set.result (c.args.to + 1) (has c.if-at-eq4.false f ag is) (omega (arith, low)) c.last_set.ensures.none
