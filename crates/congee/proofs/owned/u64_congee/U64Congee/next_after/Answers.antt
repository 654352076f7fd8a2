use Rattle.std.proofs.Common.{refl}
use Rattle.congee.proofs.owned.u64_congee.U64Congee.next_after.Goals as goal

pub returns-clause-exact : goal.returns-clause-exact
returns-clause-exact g c = λ value. c.next_after.ensures.exact (λ n. refl) value
