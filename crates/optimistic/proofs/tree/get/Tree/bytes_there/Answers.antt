use Rattle.optimistic.proofs.lemmas.tree.Reading.{looks_trans, agrees_from}
use Rattle.optimistic.proofs.lemmas.tree.Setting.{place_since}
use Rattle.optimistic.proofs.tree.get.Tree.bytes_there.Goals as goal

pub returns-else-at-eq4-clause-place : goal.returns-else-at-eq4-clause-place
returns-else-at-eq4-clause-place c = place_since c.args.at c.args.hand.now.me.0 c.bytes.new.hand.me.0 c.bytes.ensures.looks.since c.requires.at

pub returns-else-at-eq4-clause-looks : goal.returns-else-at-eq4-clause-looks
returns-else-at-eq4-clause-looks c a l = looks_trans a c.args.hand.now.me.0 c.bytes.new.hand.me.0 l c.bytes.ensures.looks

pub returns-else-at-eq4-clause-bytes : goal.returns-else-at-eq4-clause-bytes
returns-else-at-eq4-clause-bytes c a l narrow =
    let v = c.args.hand.now.me.0 in
    let w = c.bytes.new.hand.me.0 in (
      λ f ag is. c.bytes.ensures.only f (agrees_from c.args.at.node c.args.at.form a v w f ag l) is,
      λ r f ag is. c.bytes.ensures.places r f (agrees_from c.args.at.node c.args.at.form a v w f ag l) is,
    )
