-- What is true of the slots of an owned tree's nodes.
use Rattle.std.specs.Prelude.{◌≡◌, ℕ, ◌+◌, ◌<◌, ◌≤◌, length, Option, None, Some}
use Rattle.slab.specs.Slab.{Slab, get, slab_len}
use Rattle.congee.specs.forms.Forms.{prefix_of}
use Rattle.congee.specs.owned.Slots.{nodes_in}
use Rattle.congee.specs.declared.owned.slots.Slot.{Slot}
use Rattle.congee.specs.declared.owned.slots.Slot.TheVariants.{Inner, Leaf}
use Rattle.congee.specs.declared.forms.prefix.TheConstants.{MAX_PREFIX_LEN}

module _ {P K : Type 0} where
  -- a node with a prefix of seven bytes is a leaf, and every other one an inner node
  abbrev pub HasKind : Option (Slot P K) → Type 0
  HasKind None = Unit {0}
  HasKind (Some (Inner n)) = length (prefix_of n) < MAX_PREFIX_LEN
  HasKind (Some (Leaf n)) = length (prefix_of n) ≡ MAX_PREFIX_LEN

  -- so many leaves lie in the places of their parents, and each of them could take a slot
  pub record IsStored (slab : Slab (Slot P K)) (inline : ℕ) : Type 0 where
    pub counted : slab_len (nodes_in slab) ≡ slab_len slab + inline
    pub room : slab_len slab + inline ≤ slab.capacity
    pub kinds : (slot : ℕ) → HasKind (get slab slot)
