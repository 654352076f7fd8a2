use Rattle.std.proofs.Common.{◌≡◌, ◌<◌, ℕ, Some, slice_get}
use Rattle.optimistic.specs.declared.drain.nexts.Pair.{Pair}
use Rattle.trial.proofs.lockfree.tallies.value_in.Given as goal

-- none of the pairs so far is of the key
abbrev pub invariant-loop-pair : goal.invariant-loop-pair
invariant-loop-pair l = (i : ℕ) (p : Pair) → i < l.pair-index → slice_get l.pairs i ≡ Some p → p.key ≡ l.key → ⊥
