use Rattle.std.specs.Prelude.{◌≡◌, length}
use Rattle.optimistic.specs.tree.Trades.{Stay}
use Rattle.optimistic.proofs.tree.fresh.Free.trade.Given as goal

abbrev pub invariant-loop-form : goal.invariant-loop-form
invariant-loop-form l = (length l.self.lists.items ≡ 9) × (length l.other.lists.items ≡ 9) × Stay l.initial.self l.initial.other l.self l.other
