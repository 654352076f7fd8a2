use Rattle.congee.proofs.lemmas.owned.RangeLemmas.{none_told}
use Rattle.congee.proofs.owned.scan.Arena+u64+A.first_from.Goals as goal

pub returns-in-Some : goal.returns-in-Some
returns-in-Some g c = (c.in-Some.ensures.first c.args.from c.seek-walk.ensures.at).0

pub returns-in-None : goal.returns-in-None
returns-in-None g c = none_told c.next_along.result _ _ c.in-None.is (c.next_along.ensures.first c.args.from c.seek-walk.ensures.at)
