-- The node above one, where there is one.
use Rattle.std.proofs.Common.{◌≡◌, subst, Option, Some, IfSome}
use Rattle.optimistic.specs.declared.tree.place.Place.{Place}
use Rattle.optimistic.specs.declared.words.rule.View.{View}
use Rattle.optimistic.specs.tree.Reads.{IsPlace}

-- the place that there is
pub some_place : (o : Option Place) (p : Place) (v : View) → o ≡ Some p → IfSome o (λ q. IsPlace q v) → IsPlace p v
some_place o p v e t = subst (λ (z : Option Place). IfSome z (λ q. IsPlace q v)) e t
