-- A scan on its way through the tree.
use Rattle.std.specs.Prelude.{List, [], ◌∷◌, ◌++◌}
use Rattle.congee.specs.owned.Arena.{Nodes}
use Rattle.congee.specs.owned.Cursor.{IsCursor}
use Rattle.congee.specs.owned.Sights.{Sees}
use Rattle.congee.specs.declared.owned.scan.Branch.{Branch}
use Rattle.congee.specs.declared.owned.scan.Walk.{Walk}

module _ {P K : Type 0} where
  -- the steps down to the node that the walk is in, and the one there
  abbrev pub steps_of : Walk P K → List Branch
  steps_of w = w.above.items ++ record { node = w.at; from = w.from } ∷ []

  -- these are a way from the root down, and the node there is as it was read
  pub record IsWalk (s : Nodes P) (w : Walk P K) : Type 0 where
    pub way : IsCursor s (steps_of w)
    pub sees : Sees s w.at w.sight
