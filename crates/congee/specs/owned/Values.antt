-- What stands in the places of a leaf with a slot of its own: by its form, a finite map from bytes to what is kept of values.
use Rattle.std.specs.Prelude.{◌≡◌, ℕ, Bool, false, ◌==◌, List, Option, None, Some, IsSome}
use Rattle.std.specs.Ordering.{nat_cmp}
use Rattle.std.specs.FinMap.{FinMap, get, len}
use Rattle.congee.specs.forms.Laid.{laid_node}
use Rattle.congee.specs.forms.Mapped.{mapped}
use Rattle.congee.specs.declared.forms.base_node.Node.{Node}
use Rattle.congee.specs.declared.forms.base_node.NodeType.{NodeType}
use Rattle.congee.specs.declared.forms.base_node.NodeType.TheVariants.{N4 as T4, N16 as T16, N48 as T48, N256 as T256}
use Rattle.congee.specs.declared.forms.child.Child.{Child}
use Rattle.congee.specs.declared.forms.child.Child.TheVariants.{Blank, Value}
use Rattle.congee.specs.declared.owned.values.Values.{Values}
use Rattle.congee.specs.declared.owned.values.Values.TheVariants.{N4, N16, N48, N256}

module _ {K : Type 0} where
  -- the form of the places
  abbrev pub form_in : Values K → NodeType
  form_in (N4 n) = T4
  form_in (N16 n) = T16
  form_in (N48 n) = T48
  form_in (N256 n) = T256

  -- what is kept, by the bytes
  abbrev pub kept_in : Values K → FinMap nat_cmp K
  kept_in (N4 n) = n
  kept_in (N16 n) = n.value.values
  kept_in (N48 n) = n.value.values
  kept_in (N256 n) = n.value.values

  -- no further value fits. A leaf of 256 is never full
  abbrev pub full_in : Values K → Bool
  full_in (N4 n) = len n == 4
  full_in (N16 n) = len n.value.values == 16
  full_in (N48 n) = len n.value.values == 48
  full_in (N256 n) = false

  -- what is kept alone changes
  pub record Refills (old new : Values K) (m : FinMap nat_cmp K) : Type 0 where
    pub form : form_in new ≡ form_in old
    pub kept : kept_in new ≡ m

module _ {P : Type 0} where
  -- a value as a child; without one it is a blank
  abbrev pub child_with : Option P → Child ℕ P
  child_with None = Blank
  child_with (Some value) = Value value

module _ {P K : Type 0} where
  -- what is kept under a byte, as a child
  abbrev pub child_kept : (K → Option P) → ℕ → K → Child ℕ P
  child_kept value byte k = child_with (value k)

  -- what places with a prefix are as a node; where they lie in memory isn't told
  abbrev pub node_with : (K → Option P) → List ℕ → Values K → Node ℕ P
  node_with value prefix v = laid_node (form_in v) prefix (mapped (child_kept value) (kept_in v))

  -- if something is kept, it has a value
  abbrev pub KeepsValue : (K → Option P) → Option K → Type 0
  KeepsValue value None = Unit {0}
  KeepsValue value (Some k) = IsSome (value k)

  -- each byte that has something kept has a value
  abbrev pub HoldsValues : (K → Option P) → Values K → Type 0
  HoldsValues value v = (b : ℕ) → KeepsValue value (get (kept_in v) b)
