-- Codes of nodes, by which a proof tells them apart.
use Rattle.std.specs.Prelude.{◌≡◌, ◌⊎◌, ℕ, List, refl}
use mathlib.Core.Logic.{inl, inr}
use base.Stored.{coded_unit}
use denote.RawPtr.{Ptr, coded_ptr}
use Rattle.std.specs.Ordering.{nat_cmp}
use Rattle.std.specs.Coded.{Coded, code_by, coded×, coded⊎, coded_ℕ, coded_list}
use Rattle.std.specs.FinMap as map
use Rattle.congee.specs.declared.forms.base_node.Node.{Node}
use Rattle.congee.specs.declared.forms.base_node.Node.TheVariants.{N4, N16, N48, N256}
use Rattle.congee.specs.declared.forms.child.Child.{Child}
use Rattle.congee.specs.declared.forms.child.Child.TheVariants.{Blank, Node as Sub, Value}

-- a prefix and children
abbrev Plain : Type 0 → Type 0
Plain P = List ℕ × map.FinMap nat_cmp (Child ℕ P)

-- where they lie in a box
abbrev InBox : Type 0 → Type 0
InBox P = Ptr × Plain P

module _ {P : Type 0} where
  -- a child is nothing, a name or a value
  abbrev child_parts : Child ℕ P → Unit {0} ⊎ (ℕ ⊎ P)
  child_parts Blank = inl tt
  child_parts (Sub name) = inr (inl name)
  child_parts (Value value) = inr (inr value)

  -- the child of these parts
  abbrev child_whole : Unit {0} ⊎ (ℕ ⊎ P) → Child ℕ P
  child_whole (inl u) = Blank
  child_whole (inr (inl name)) = Sub name
  child_whole (inr (inr value)) = Value value

  -- a child is told by its parts
  pub child_back : (c : Child ℕ P) → child_whole (child_parts c) ≡ c
  child_back Blank = refl
  child_back (Sub name) = refl
  child_back (Value value) = refl

  -- a child is told by its variant and what that holds
  abbrev child_code : Coded P → Coded (Child ℕ P)
  child_code value = code_by (Unit {0} ⊎ (ℕ ⊎ P)) (coded⊎ coded_unit (coded⊎ coded_ℕ value)) child_parts child_whole child_back

  -- a node's parts: its form, its prefix, its children and the pointer to its box
  abbrev node_parts : Node ℕ P → Plain P ⊎ (InBox P ⊎ (InBox P ⊎ InBox P))
  node_parts (N4 n) = inl (n.prefix, n.children)
  node_parts (N16 n) = inr (inl (n.ptr, (n.value.prefix, n.value.children)))
  node_parts (N48 n) = inr (inr (inl (n.ptr, (n.value.prefix, n.value.children))))
  node_parts (N256 n) = inr (inr (inr (n.ptr, (n.value.prefix, n.value.children))))

  -- the node of these parts
  abbrev node_whole : Plain P ⊎ (InBox P ⊎ (InBox P ⊎ InBox P)) → Node ℕ P
  node_whole (inl p) = N4 (record { prefix = p.0; children = p.1 })
  node_whole (inr (inl b)) = N16 (record { ptr = b.0; alloc = record { memory = record { seal = tt } }; value = record { prefix = b.1.0; children = b.1.1 } })
  node_whole (inr (inr (inl b))) = N48 (record { ptr = b.0; alloc = record { memory = record { seal = tt } }; value = record { prefix = b.1.0; children = b.1.1 } })
  node_whole (inr (inr (inr b))) = N256 (record { ptr = b.0; alloc = record { memory = record { seal = tt } }; value = record { prefix = b.1.0; children = b.1.1 } })

  -- a node is told by its parts
  pub node_back : (n : Node ℕ P) → node_whole (node_parts n) ≡ n
  node_back (N4 n) = refl
  node_back (N16 n) = refl
  node_back (N48 n) = refl
  node_back (N256 n) = refl

  -- a prefix and children are told by both
  abbrev plain_code : Coded P → Coded (Plain P)
  plain_code value = coded× (coded_list coded_ℕ) (map.code coded_ℕ (child_code value))

  -- and in a box, by the pointer too
  abbrev boxed_code : Coded P → Coded (InBox P)
  boxed_code value = coded× coded_ptr (plain_code value)

  -- a node is its form, its prefix and its children, and where these lie in a box, the pointer to it
  abbrev pub node_code : Coded P → Coded (Node ℕ P)
  node_code value = code_by (Plain P ⊎ (InBox P ⊎ (InBox P ⊎ InBox P))) (coded⊎ (plain_code value) (coded⊎ (boxed_code value) (coded⊎ (boxed_code value) (boxed_code value)))) node_parts node_whole node_back
