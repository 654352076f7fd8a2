use Rattle.std.proofs.Common.{◌≡◌, ◌≤◌, ◌+◌, ℕ, ◌++◌, map}
use Rattle.std.specs.Vec.{vec_len, vec_capacity}
use Rattle.std.specs.Vec.Iter.{into_iter_len, into_iter_items}
use Rattle.congee.specs.Heap.{Node}
use Rattle.congee.specs.protocol.Opening.{RootAlone}
use Rattle.congee.specs.protocol.Play.{Begins, begun}
use Rattle.congee.proofs.protocol.plain.PlainStore.calls.Given as goal

abbrev pub invariant-loop-op : goal.invariant-loop-op
invariant-loop-op l = record {
  begins : (h : ℕ → Node ℕ) → RootAlone h → Begins (λ n. n) h l.calls.items;
  each : l.calls.items ++ map (begun 0) (into_iter_items l.rest) ≡ map (begun 0) l.fn.ops.items;
  count : vec_len l.calls + into_iter_len l.rest ≡ vec_len l.fn.ops;
  room : vec_len l.fn.ops ≤ vec_capacity l.calls;
}

abbrev pub decreases-loop-op : goal.decreases-loop-op
decreases-loop-op l = into_iter_len l.rest
