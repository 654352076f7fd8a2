use Rattle.std.proofs.Common.{◌∙◌, sym, subst, arith}
use Rattle.congee.specs.owned.Iterating.{IsFirstIn}
use Rattle.congee.specs.owned.Table.{pairs_of}
use Rattle.congee.proofs.lemmas.owned.RangeEnds.{range_beyond, range_empty}
use Rattle.congee.proofs.lemmas.owned.Tables.{pairs_stand}
use Rattle.congee.proofs.owned.arena.Arena.bounded_run.Goals as goal

pub returns-in_default : goal.returns-in_default
returns-in_default g c =
    let m = pairs_of c.args.self.now.nodes in
    λ a b x y. c.run.ensures ∙ (range_empty m 1 1 (omega arith) ∙ sym (range_beyond m a b (pairs_stand c.args.self.now.nodes).none_beyond (subst (λ o. IsFirstIn o a) c.in_default.is x)))
