use Rattle.std.proofs.Common.{◌+◌, ◌*◌, ◌<◌, ℕ, Bool, if◌then◌else◌, sym, ap, ◌∙◌, subst}
use Rattle.optimistic.specs.Layout.{entries, width}
use Rattle.optimistic.proofs.lemmas.MoveLemmas.{is_inner_of, is_values_of, last_bounds}
use Rattle.optimistic.proofs.moves.last_at.Goals as goal

pub returns-then-form-lt5-clause-inside : goal.returns-then-form-lt5-clause-inside
returns-then-form-lt5-clause-inside c =
    let e = is_inner_of c.args.form c.if-form-lt5.true in
    subst (λ (z : ℕ). (2 < z) × (z < width c.args.form)) (ap (λ (b : Bool). entries c.args.form + (if b then 2 * c.args.place + 1 else c.args.place)) e ∙ ap (λ (z : ℕ). z + (2 * c.args.place + 1)) (sym c.entries_of-entries.ensures)) (last_bounds c.args.form c.args.place c.requires)

pub returns-else-form-lt5-clause-inside : goal.returns-else-form-lt5-clause-inside
returns-else-form-lt5-clause-inside c =
    let e = is_values_of c.args.form c.if-form-lt5.false in
    subst (λ (z : ℕ). (2 < z) × (z < width c.args.form)) (ap (λ (b : Bool). entries c.args.form + (if b then 2 * c.args.place + 1 else c.args.place)) e ∙ ap (λ (z : ℕ). z + c.args.place) (sym c.entries_of-entries.ensures)) (last_bounds c.args.form c.args.place c.requires)
