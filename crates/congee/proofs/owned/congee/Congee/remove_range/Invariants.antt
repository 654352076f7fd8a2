use Rattle.std.proofs.Common.{◌≡◌, ◌-◌, ◌^◌}
use Rattle.congee.specs.owned.Several.{Lightens}
use Rattle.congee.proofs.lemmas.owned.Several.{Cuts}
use Rattle.congee.proofs.owned.congee.Congee.remove_range.Given as goal

abbrev pub invariant-loop-key : goal.invariant-loop-key
invariant-loop-key g l =
    Cuts l.fn.self.pairs l.self.pairs (g.K.Word64.word l.fn.start) (g.K.Word64.word l.fn.end) l.from l.count
    × Lightens g.A.Allocator.charged_of g.A.Allocator.limit_of l.fn.self l.self
    × (l.self.base ≡ l.fn.self.base)

abbrev pub decreases-loop-key : goal.decreases-loop-key
decreases-loop-key g l = 2 ^ 64 - l.from
