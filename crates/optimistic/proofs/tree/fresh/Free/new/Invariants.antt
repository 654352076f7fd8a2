use Rattle.std.specs.Prelude.{◌≡◌, [], length, All}
use Rattle.optimistic.proofs.tree.fresh.Free.new.Given as goal

abbrev pub invariant-loop : goal.invariant-loop
invariant-loop l = (length l.lists.items ≡ l.counter) × All (λ list. list.items ≡ []) l.lists.items
