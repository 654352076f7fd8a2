-- A node that stands under a name, and what is read of it.
use Rattle.std.proofs.Common.{◌≡◌, ℕ, length, refl, sym, ap, ◌∙◌}
use Rattle.std.specs.Prelude.{Option, Some, None, IsSome}
use Rattle.slab.specs.Slab.{get, ContainsKey}
use Rattle.congee.specs.forms.Forms.{prefix_of}
use Rattle.congee.specs.owned.Arena.{Nodes, heap_of}
use Rattle.congee.specs.declared.forms.base_node.Node.{Node as Form}
use Rattle.congee.proofs.lemmas.owned.Ways.{prefix_is}

module _ {P : Type 0} where
  -- the node of a name
  pub record Standing (s : Nodes P) (n : ℕ) : Type 0 where
    pub node : Form ℕ P
    pub is : get s n ≡ Some node

  -- a name under which a node stands has that node
  pub standing_at : (s : Nodes P) (n : ℕ) → ContainsKey s n → Standing s n
  standing_at s n h =
      let it = of (get s n) h in
      record { node = it.0; is = it.1 }
    where
      of : (o : Option (Form ℕ P)) → IsSome o → (x : Form ℕ P) × (o ≡ Some x)
      of None h = absurd (cc h)
      of (Some x) h = (x, refl)

  -- the length of its prefix, as it was read
  pub length_read : (s : Nodes P) (n len : ℕ) → ContainsKey s n → ((x : Form ℕ P) → get s n ≡ Some x → len ≡ length (prefix_of x)) → len ≡ length (heap_of s n).prefix
  length_read s n len h e =
      let x = standing_at s n h in
      e x.node x.is ∙ ap length (sym (prefix_is s n x.node x.is))
