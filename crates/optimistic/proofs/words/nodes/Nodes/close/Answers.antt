use Rattle.std.proofs.Common.{◌≡◌, ℕ, sym, ◌∙◌, subst}
use Rattle.optimistic.specs.words.Kept.{calls_by, moment}
use Rattle.optimistic.specs.words.Told.{view}
use Rattle.optimistic.proofs.words.nodes.Nodes.close.Goals as goal

pub returns : goal.returns
returns g c =
    let last = c.close_with.ensures.values.2 in
    let kept = last.1.0 in
    let fits = kept.each _ _ last.1.1 c.requires.4 in (
      moment last.0.words kept.plots kept.calm kept.log,
      last.2 ∙ sym c.of.ensures,
      record { sound = kept.sound; since = fits.since; calls = subst (λ (by : ℕ). calls_by by kept.log ≡ (view c.args.hand).made) (sym fits.named) fits.calls },
    )
