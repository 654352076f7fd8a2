-- The first bytes of the keys below a node.
use Rattle.std.proofs.Common.{◌≡◌, ℕ, zero, suc, ◌<◌, true, List, [], ◌∷◌, length, take, get_or, refl, sym, ap, ◌∙◌, arith}
use Rattle.std.specs.Prelude.{Some}
use Rattle.std.specs.FinMap as map
use Rattle.slab.specs.Slab.{get}
use Rattle.congee.specs.Heap.{fits}
use Rattle.congee.specs.Notes.{IsChild}
use Rattle.congee.specs.forms.Forms.{children_of, prefix_of}
use Rattle.congee.specs.owned.Arena.{IsTree, Nodes, hung_in, heap_of, notes_of, node_of}
use Rattle.congee.specs.owned.Entries.{first_byte}
use Rattle.congee.specs.declared.forms.base_node.Node.{Node}
use Rattle.congee.specs.declared.forms.child.Child.TheVariants.{Node as Sub}
use Rattle.congee.proofs.lemmas.Fits.{fits_byte}
use Rattle.congee.proofs.lemmas.owned.Moves.{prefix_at}
use Rattle.congee.proofs.lemmas.owned.Ways.{linked_of}

-- a key begins with the byte that leads to it
pub first_of_key : (p key : List ℕ) → fits p key ≡ true → get_or key 0 0 ≡ first_byte p (get_or key (length p) 0)
first_of_key [] key f = refl
first_of_key (x ∷ p) key f = fits_byte (x ∷ p) key 0 f (omega arith)

-- the first byte of a key is that of its beginning, or of the byte behind an empty one
pub first_taken : (n : ℕ) (key : List ℕ) → n < length key → get_or key 0 0 ≡ first_byte (take n key) (get_or key n 0)
first_taken zero key l = refl
first_taken (suc n) [] l = absurd (omega (arith, l))
first_taken (suc n) (x ∷ key) l = refl

module _ {P : Type 0} (s : Nodes P) (t : IsTree s) where
  -- so does the prefix of a node that hangs there
  pub first_below : (n b c : ℕ) (x y : Node ℕ P) → get s n ≡ Some x → get s c ≡ Some y → map.get (children_of x) b ≡ Some (Sub c) → get_or (prefix_of y) 0 0 ≡ first_byte (prefix_of x) b
  first_below n b c x y e h k =
      let i : IsChild (notes_of s t.parent) (heap_of s) n b c = t.tree.down n b c (linked_of s t.parent n (rw e refl)) (ap (λ o. (node_of o).children b) e ∙ ap hung_in k) in
      let px = prefix_at s n x e in
      let py = prefix_at s c y h in
      of (prefix_of x) (prefix_of y)
      (ap (λ p. fits p (prefix_of y)) (sym px) ∙ (ap (fits (heap_of s n).prefix) (sym py) ∙ i.fitted))
      (ap (λ p. get_or (prefix_of y) (length p) 0) (sym px) ∙ (ap (λ q. get_or q (length (heap_of s n).prefix) 0) (sym py) ∙ i.byte))
    where
      of : (p q : List ℕ) → fits p q ≡ true → get_or q (length p) 0 ≡ b → get_or q 0 0 ≡ first_byte p b
      of p q f d = first_of_key p q f ∙ ap (first_byte p) d
