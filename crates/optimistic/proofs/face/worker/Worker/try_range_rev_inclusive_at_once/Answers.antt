use Rattle.std.proofs.Common.{◌≡◌, ℕ, ◌+◌, [], length, subst, arith}
use Rattle.optimistic.specs.tree.WholesBack.{IsRangeBack}
use Rattle.optimistic.proofs.lemmas.face.Scanning.{once_here}
use Rattle.optimistic.proofs.lemmas.tree.WholesBack.{range_back_empty, range_back_placeless}
use Rattle.optimistic.proofs.face.worker.Worker.try_range_rev_inclusive_at_once.Goals as goal

pub returns-then-start-last-clause-range : goal.returns-then-start-last-clause-range
returns-then-start-last-clause-range c =
    let past = c.if-start-last.true in
    once_here (λ log. IsRangeBack log c.args.start (c.args.last + 1) (length c.args.out.now) []) c.args.self.now (range_back_empty c.args.self.now.seen c.args.start (c.args.last + 1) (length c.args.out.now) (omega (arith, past)))

pub returns-then-places-eq0-clause-range : goal.returns-then-places-eq0-clause-range
returns-then-places-eq0-clause-range c =
    let order = c.if-start-last.false in
    let zero = c.if-places-eq0.true in
    let none : 0 ≡ length c.args.out.now = omega (arith, zero) in
    once_here (λ log. IsRangeBack log c.args.start (c.args.last + 1) (length c.args.out.now) []) c.args.self.now
    (subst (λ (z : ℕ). IsRangeBack c.args.self.now.seen c.args.start (c.args.last + 1) z []) none (range_back_placeless c.args.self.now.seen c.args.start (c.args.last + 1) (omega (arith, order))))
