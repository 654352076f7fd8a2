use Rattle.std.proofs.Common.{ℕ, ◌≤◌, [], length, inl, inr, arith}
use Rattle.std.proofs.lemmas.Bool.{cases_lt}
use Rattle.optimistic.specs.tree.WholesBack.{IsRangeBack}
use Rattle.optimistic.proofs.lemmas.face.Scanning.{once_here}
use Rattle.optimistic.proofs.lemmas.tree.WholesBack.{range_back_empty}
use Rattle.optimistic.proofs.face.worker.Worker.range_rev_at_once.Goals as goal

-- no key is below the end
none_below : (start end : ℕ) → (1 ≤ end → ⊥) → end ≤ start
none_below start end none = elim (cases_lt 0 end) [
  | inl some ↦ absurd (none (omega (arith, some)))
  | inr zero ↦ omega (arith, zero)
]

pub returns-in-None-clause-range : goal.returns-in-None-clause-range
returns-in-None-clause-range g c =
    once_here (λ log. IsRangeBack log c.args.start c.args.end (length c.args.out.now) []) c.args.self.now
    (range_back_empty c.args.self.now.seen c.args.start c.args.end (length c.args.out.now) (none_below c.args.start c.args.end c.in-None.ensures))
