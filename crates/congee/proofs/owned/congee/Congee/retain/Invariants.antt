use Rattle.std.proofs.Common.{◌≡◌, ◌-◌, ◌^◌, ℕ}
use Rattle.std.specs.FinMap as map
use Rattle.congee.specs.owned.Nearest.{IsLeast, NoneFrom}
use Rattle.congee.specs.owned.Several.{Lightens}
use Rattle.congee.proofs.lemmas.owned.Several.{Goes, left_from}
use Rattle.congee.proofs.owned.congee.Congee.retain.Given as goal

abbrev pub invariant-loop-next : goal.invariant-loop-next
invariant-loop-next g l =
    goal.F-IsAlwaysCallable g l.f
    × ((n : ℕ) × IsLeast l.self.pairs n l.next
    × Goes (goal.F-step g) g.K.Word64.of_word g.V.Word64.of_word l.fn.f (map.entries l.fn.self.pairs) l.f l.self.pairs n)
    × Lightens g.A.Allocator.charged_of g.A.Allocator.limit_of l.fn.self l.self
    × (l.self.base ≡ l.fn.self.base)
    × NoneFrom l.self.pairs (2 ^ 64)

abbrev pub decreases-loop-next : goal.decreases-loop-next
decreases-loop-next g l = left_from l.next
