-- The form that a node takes as it fills or empties.
use Rattle.std.specs.Prelude.{◌≡◌, ℕ, ◌<◌}
use Rattle.optimistic.specs.declared.tree.sizes.Fit.{Fit}
use Rattle.optimistic.specs.declared.tree.sizes.Fit.TheVariants.{Stays, Becomes, Lifts}
use Rattle.optimistic.specs.forms.Children.{is_inner}

-- a form with entries of the same kind
abbrev pub IsLike : ℕ → ℕ → Type 0
IsLike form g = (0 < g) × (g < 9) × (is_inner g ≡ is_inner form)

abbrev pub IsFit : ℕ → Fit → Type 0
IsFit form Stays = Unit {0}
IsFit form (Becomes g) = IsLike form g
IsFit form Lifts = Unit {0}
