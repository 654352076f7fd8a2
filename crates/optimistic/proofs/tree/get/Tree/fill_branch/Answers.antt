use Rattle.std.proofs.Common.{◌≡◌, ◌<◌, ◌∙◌, arith}
use Rattle.optimistic.specs.Layout.{room, width}
use Rattle.optimistic.specs.Moves.{words_of}
use Rattle.optimistic.proofs.lemmas.forms.Maps.{with_here}
use Rattle.optimistic.proofs.lemmas.words.Moments.{width_more, width_some, tells_since}
use Rattle.optimistic.proofs.lemmas.tree.Splitting.{four_is, where_no_link, leaf_tells, stays_but, inside}
use Rattle.optimistic.proofs.lemmas.tree.Writing.{but_trans}
use Rattle.optimistic.proofs.tree.get.Tree.fill_branch.Goals as goal

pub write-requires-clause-inside : goal.write-requires-clause-inside
write-requires-clause-inside c =
    let f = four_is c.args.branch.form c.args.branch.level c.requires.form in
    (omega arith, omega (arith, width_more c.args.branch.form f.0 f.1))

pub write-requires-clause-tells : goal.write-requires-clause-tells
write-requires-clause-tells c =
    let f = four_is c.args.branch.form c.args.branch.level c.requires.form in
    let r : room c.args.branch.form ≡ 4 = f.2 in
    λ e. absurd (where_no_link c.args.branch.form (omega (arith, r)) e)

pub fill_two-requires-clause-tells : goal.fill_two-requires-clause-tells
fill_two-requires-clause-tells c = λ _. (
  tells_since c.args.child.first c.args.hand.now.me.0 c.write.new.hand.me.0 c.requires.tells c.write.ensures.keeps.since,
  leaf_tells c.leaf_word.result c.args.key c.write.new.hand.me.0 c.leaf_word.ensures.word,
)

pub returns-clause-keeps : goal.returns-clause-keeps
returns-clause-keeps c =
    let f = four_is c.args.branch.form c.args.branch.level c.requires.form in
    but_trans c.args.node c.args.hand.now.me.0 c.write.new.hand.me.0 c.fill_two.new.hand.me.0 c.write.ensures.keeps
    (stays_but c.args.node c.args.branch.form c.write.new.hand.me.0 c.fill_two.new.hand.me.0 c.write.ensures.at (width_some c.args.branch.form f.0 f.1) c.write.ensures.mine c.fill_two.ensures.stays)

pub returns-clause-covers : goal.returns-clause-covers
returns-clause-covers c =
    let f = four_is c.args.branch.form c.args.branch.level c.requires.form in
    let n = c.args.node in
    let wide : 1 < width c.args.branch.form = omega (arith, width_more c.args.branch.form f.0 f.1) in
    c.fill_two.ensures.stays.low c.write.ensures.mine 1 (omega arith) (inside n c.args.branch.form 1 c.write.new.hand.me.0 c.write.ensures.at wide)
    ∙ (c.write.ensures.written 1 wide ∙ (with_here (words_of c.args.hand.now.me.0 n) 1 c.where_word.result ∙ c.where_word.ensures.word))
