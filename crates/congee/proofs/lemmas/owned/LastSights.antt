-- The greatest byte below an end under which something hangs in a node that a walk has read.
use Rattle.std.proofs.Common.{◌≡◌, ℕ, ◌<◌, ◌≤◌, get_or, Option, None, Some, subst, arith}
use Rattle.slab.specs.Slab.{get}
use Rattle.congee.specs.forms.Bytes.{IsLast, IsLastBelow}
use Rattle.congee.specs.forms.Forms.{children_of}
use Rattle.congee.specs.owned.Arena.{Nodes}
use Rattle.congee.specs.owned.Sights.{SeesInner, SeesLeaf}
use Rattle.congee.specs.owned.Slots.{inner_child, leaf_child, lone_node}
use Rattle.congee.specs.declared.forms.base_node.Node.{Node}
use Rattle.congee.specs.declared.owned.inline_leaf.Lone.{Lone}
use Rattle.congee.proofs.lemmas.forms.LastBytes.{last_mapped, some_is}
use Rattle.congee.proofs.lemmas.owned.Sights.{inner_map, leaf_map}
use Rattle.congee.proofs.lemmas.owned.Stored.{lone_beside, lone_first}
use Rattle.std.specs.FinMap as map

module _ {P : Type 0} (s : Nodes P) (at : ℕ) where
  -- an inner node
  pub inner_below : (x : Node ℕ P) → get s at ≡ Some x → (slot : ℕ) (n : Node ℕ (Lone P)) → SeesInner s at slot n → (end : ℕ) (o : Option ℕ)
      → IsLastBelow (children_of n) end o → IsLastBelow (children_of x) end o
  inner_below x e slot n k end o h = subst (λ m. IsLastBelow m end o) (inner_map s at 0 x e slot n k) (last_mapped (inner_child slot) (children_of n) end o h)

  -- a leaf in a slot
  pub leaf_below : (x : Node ℕ P) → get s at ≡ Some x → (least : ℕ) (n : Node ℕ P) → SeesLeaf s at least n → (end : ℕ) (o : Option ℕ)
      → IsLastBelow (children_of n) end o → IsLastBelow (children_of x) end o
  leaf_below x e least n k end o h = subst (λ m. IsLastBelow m end o) (leaf_map s at 0 x e least n k) (last_mapped leaf_child (children_of n) end o h)

  -- a leaf with one value, whose last byte comes before the end
  pub lone_above : (lone : Lone P) (e : get s at ≡ Some (lone_node lone)) (x : Node ℕ P) (h : get s at ≡ Some x) (end : ℕ) → get_or lone.key 7 0 < end
      → IsLast (children_of x) end (get_or lone.key 7 0)
  lone_above lone e x h end l = record {
    below = l;
    here = some_is _ _ (lone_first s at lone e x h 0 (omega arith)).here;
    after = λ q lo hi. lone_beside s at lone e x h 0 q (λ z. absurd (omega (arith, z, lo)));
  }

  -- or doesn't
  pub lone_below : (lone : Lone P) (e : get s at ≡ Some (lone_node lone)) (x : Node ℕ P) (h : get s at ≡ Some x) (end : ℕ) → end ≤ get_or lone.key 7 0
      → (b : ℕ) → b < end → map.get (children_of x) b ≡ None
  lone_below lone e x h end l b lo = lone_beside s at lone e x h 0 b (λ z. absurd (omega (arith, z, lo, l)))
