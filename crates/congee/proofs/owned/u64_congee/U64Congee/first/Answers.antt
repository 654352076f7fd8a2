use Rattle.std.proofs.Common.{refl}
use Rattle.congee.proofs.owned.u64_congee.U64Congee.first.Goals as goal

pub returns-clause-exact : goal.returns-clause-exact
returns-clause-exact g c = λ value. c.first.ensures.exact (λ n. refl) value
