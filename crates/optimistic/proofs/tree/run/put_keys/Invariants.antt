use Rattle.std.specs.Prelude.{◌≡◌, ◌+◌, ◌++◌, length, map, take, drop}
use Rattle.optimistic.specs.declared.drain.nexts.Pair.{Pair}
use Rattle.optimistic.proofs.tree.run.put_keys.Given as goal

abbrev pub invariant-loop-i : goal.invariant-loop-i
invariant-loop-i l =
    (take (l.count + l.i) l.out ≡ take l.count l.initial.out ++ map (λ (p : Pair). p.key) (take l.i l.pairs)) × (length l.out ≡ length l.initial.out) × (drop (l.count + l.i) l.out ≡ drop (l.count + l.i) l.initial.out)
