-- How the nodes of the tree and the cells of the collector belong together.
use Rattle.std.specs.Prelude.{◌≡◌, ℕ, true, List, [], ◌∷◌, Some, is_some}
use Rattle.std.specs.List.{Contains}
use Rattle.crossbeam_epoch.specs.declared.names.Name.{Name}
use Rattle.crossbeam_epoch.specs.declared.names.Ptr.{Ptr}
use Rattle.crossbeam_epoch.specs.world.Store.{Store, value_at, was_given}
use Rattle.crossbeam_epoch.specs.world.Reach.{links_of}
use Rattle.congee.specs.Heap.{Node, Below, Stands}
use Rattle.joint.specs.Names.{number}

-- a node stands just where its name does, was made where that was given, and has the value's names below it
pub record Ties {T V : Type 0} (names : T → List Name) (st : Store T) (h : ℕ → Node V) : Type 0 where
  pub live : (n : Name) → Stands (h (number n)) → is_some (value_at st n) ≡ true
  pub stands : (n : Name) → is_some (value_at st n) ≡ true → Stands (h (number n))
  pub given : (n : Name) → was_given st n ≡ true → (h (number n)).made ≡ true
  pub links : (n c : Name) → Contains (links_of names st n) c → (b : ℕ) × ((h (number n)).children b ≡ Below (number c))
  pub hangs : (n : Name) (b k : ℕ) → (h (number n)).children b ≡ Below k → (c : Name) × Contains (links_of names st n) c × (number c ≡ k)

-- the collector's one root holds the tree's
pub record Rooted (roots : List Ptr) (top : Name) : Type 0 where
  pub only : roots ≡ record { name = Some top; tag = 0 } ∷ []
  pub first : number top ≡ 0
