use Rattle.std.specs.Prelude.{◌≡◌, length}
use Rattle.optimistic.specs.tree.Trades.{Stay}
use Rattle.optimistic.proofs.tree.fresh.Free.pass_some.Given as goal

abbrev pub invariant-loop : goal.invariant-loop
invariant-loop l = (length l.self.lists.items ≡ 9) × (length l.to.lists.items ≡ 9) × Stay l.initial.self l.initial.to l.self l.to
