use Rattle.std.proofs.Common.{ℕ}
use Rattle.congee.specs.owned.Nearest.{IsLeast}
use Rattle.congee.proofs.lemmas.owned.Building.{AreSame}
use Rattle.congee.proofs.lemmas.owned.Several.{left_from}
use Rattle.congee.proofs.owned.congee.Congee.has_pairs_of.Given as goal

abbrev pub invariant-loop-left : goal.invariant-loop-left
invariant-loop-left g l =
    (n : ℕ) × IsLeast l.self.pairs n l.left × IsLeast l.other.pairs n l.right × AreSame l.self.pairs l.other.pairs n

abbrev pub decreases-loop-left : goal.decreases-loop-left
decreases-loop-left g l = left_from l.left
