use Rattle.std.proofs.Common.{ℕ}
use Rattle.congee.specs.owned.Building.{IsOver}
use Rattle.congee.specs.owned.Nearest.{IsLeast}
use Rattle.congee.proofs.lemmas.owned.Building.{Copied}
use Rattle.congee.proofs.lemmas.owned.Several.{left_from}
use Rattle.congee.proofs.owned.congee.Congee.try_clone.Given as goal

abbrev pub invariant-loop-next : goal.invariant-loop-next
invariant-loop-next g l =
    ((n : ℕ) × IsLeast l.self.pairs n l.next × Copied l.self.pairs l.copy.pairs n)
    × IsOver g.B.Allocator.charged_of g.B.Allocator.limit_of l.fn.allocator l.copy

abbrev pub decreases-loop-next : goal.decreases-loop-next
decreases-loop-next g l = left_from l.next
