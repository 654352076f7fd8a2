use Rattle.congee.proofs.lemmas.owned.Building.{Built}
use Rattle.congee.proofs.owned.building.Congee+K+V+A+NoDrain.from_sorted.Given as goal

abbrev pub invariant-loop-pair : goal.invariant-loop-pair
invariant-loop-pair g l =
    Built g.K.Word64.word g.V.Word64.word g.A.Allocator.charged_of g.A.Allocator.limit_of l.fn.allocator l.tree l.last l.place l.yielded
