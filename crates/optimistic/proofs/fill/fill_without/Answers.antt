use Rattle.std.proofs.Common.{arith}
use Rattle.optimistic.specs.Moves.{words_of}
use Rattle.optimistic.proofs.lemmas.words.Moments.{form_since}
use Rattle.optimistic.proofs.lemmas.CopyLemmas.{copies_of}
use Rattle.optimistic.proofs.lemmas.MoveLemmas.{stays_trans, two_inside}
use Rattle.optimistic.proofs.fill.fill_without.Goals as goal

pub returns-clause-at : goal.returns-clause-at
returns-clause-at g c =
    (form_since c.args.node c.args.form c.fill-filled.new.hand.me.0 c.remove.new.hand.me.0 (omega (arith, two_inside c.args.form c.requires.kind.2)) c.fill-filled.ensures.at.0 c.remove.ensures.stays.since, c.remove.ensures.at)

pub returns-clause-stays : goal.returns-clause-stays
returns-clause-stays g c = stays_trans c.args.to _ _ _ c.fill-filled.ensures.stays c.remove.ensures.stays

pub returns-clause-copies : goal.returns-clause-copies
returns-clause-copies g c = λ e.
    copies_of c.args.form (words_of c.args.hand.now.me.0 c.args.node) c.args.new (words_of c.fill-filled.new.hand.me.0 c.args.to) (words_of c.remove.new.hand.me.0 c.args.to) c.args.byte (λ k. 0) 0
    (c.fill-filled.ensures.alike c.if-not-filled.false).1 (c.remove.ensures.gone e)
