use Rattle.std.proofs.Common.{◌+◌}
use Rattle.congee.proofs.lemmas.owned.RangeLemmas.{none_told}
use Rattle.congee.proofs.owned.scan.Arena+u64+A.last_to.Goals as goal

pub returns-in-Some : goal.returns-in-Some
returns-in-Some g c = (c.in-Some.ensures.last (c.args.last + 1) c.seek_past-walk.ensures.at).0

pub returns-in-None : goal.returns-in-None
returns-in-None g c = none_told c.back_along.result _ _ c.in-None.is (c.back_along.ensures.last (c.args.last + 1) c.seek_past-walk.ensures.at)
