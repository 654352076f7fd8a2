use Rattle.std.proofs.Common.{refl, sym, ap, ◌∙◌}
use Rattle.congee.specs.Heap.{fits}
use Rattle.congee.specs.owned.Arena.{heap_of}
use Rattle.congee.proofs.owned.nodes.Nodes.way_on.Goals as goal

pub returns-then-is_prefix_of : goal.returns-then-is_prefix_of
returns-then-is_prefix_of g c = (refl, sym c.is_prefix_of.ensures ∙ c.if-is_prefix_of.true)

pub returns-else-is_prefix_of : goal.returns-else-is_prefix_of
returns-else-is_prefix_of g c = (
  c.of.ensures,
  ap (λ n. fits (heap_of c.args.self.now n).prefix c.args.key.now) c.of.ensures ∙ (sym c.is_prefix_of.ensures ∙ c.if-is_prefix_of.false),
)
