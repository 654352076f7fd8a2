-- The nodes of the tree as they stand in the collector's cells.
use Rattle.std.specs.Prelude.{◌≡◌, ℕ, Bool, true, false, List, Option, None, Some}
use Rattle.std.specs.List.{Contains}
use Rattle.crossbeam_epoch.specs.declared.names.Name.{Name}
use Rattle.crossbeam_epoch.specs.world.Store.{Store, value_at, was_given}
use Rattle.congee.specs.Heap.{Node, Nothing, Below, Stands}
use Rattle.joint.specs.Names.{number, named}

-- how a node is read off its cell: whether its name was given, and the value that stands under it
pub record IsView {T V : Type 0} (names : T → List Name) (view : Bool → Option T → Node V) : Type 0 where
  pub stands : (g : Bool) (v : T) → Stands (view g (Some v))
  pub used : (view true None).made ≡ true
  pub lost : (view true None).destroyed ≡ true
  pub unmade : (view false None).made ≡ false
  pub bare : (g : Bool) (b : ℕ) → (view g None).children b ≡ Nothing
  pub links : (g : Bool) (v : T) (c : Name) → Contains (names v) c → (b : ℕ) × ((view g (Some v)).children b ≡ Below (number c))
  pub hangs : (g : Bool) (v : T) (b k : ℕ) → (view g (Some v)).children b ≡ Below k → (c : Name) × Contains (names v) c × (number c ≡ k)

-- the node under a name
abbrev pub node_at : {T V : Type 0} → (Bool → Option T → Node V) → Store T → Name → Node V
node_at view st n = view (was_given st n) (value_at st n)

-- the nodes by their numbers
abbrev pub heap_of : {T V : Type 0} → (Bool → Option T → Node V) → Store T → ℕ → Node V
heap_of view st k = node_at view st (named k)
