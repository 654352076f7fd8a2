use Rattle.std.proofs.Common.{◌≡◌}
use Rattle.congee.specs.owned.Content.{KeepsCharge}
use Rattle.congee.specs.owned.Several.{put_all}
use Rattle.congee.proofs.owned.congee.Congee.extend.Given as goal

abbrev pub invariant-loop-pair : goal.invariant-loop-pair
invariant-loop-pair g l =
    (l.self.pairs ≡ put_all g.K.Word64.word g.V.Word64.word l.fn.self.pairs l.yielded)
    × KeepsCharge g.A.Allocator.charged_of g.A.Allocator.limit_of l.fn.self l.self
    × (l.self.base ≡ l.fn.self.base)
