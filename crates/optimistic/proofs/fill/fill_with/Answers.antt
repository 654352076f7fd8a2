use Rattle.std.proofs.Common.{arith}
use Rattle.optimistic.proofs.lemmas.words.Moments.{form_since, tells_since}
use Rattle.optimistic.proofs.lemmas.MoveLemmas.{stays_trans, two_inside}
use Rattle.optimistic.proofs.fill.fill_with.Goals as goal

pub put_in-requires-clause-tells : goal.put_in-requires-clause-tells
put_in-requires-clause-tells g c = λ e. tells_since c.args.item.first c.args.hand.now.me.0 c.fill-filled.new.hand.me.0 (c.requires.tells e) c.fill-filled.ensures.stays.since

pub returns-clause-at : goal.returns-clause-at
returns-clause-at g c =
    (form_since c.args.node c.args.form c.fill-filled.new.hand.me.0 c.put_in.new.hand.me.0 (omega (arith, two_inside c.args.form c.requires.kind.2)) c.fill-filled.ensures.at.0 c.put_in.ensures.stays.since, c.put_in.ensures.at)

pub returns-clause-stays : goal.returns-clause-stays
returns-clause-stays g c = stays_trans c.args.to _ _ _ c.fill-filled.ensures.stays c.put_in.ensures.stays
