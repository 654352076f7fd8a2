-- The tree and its map after a change of the nodes of an arena.
use Rattle.std.proofs.Common.{◌≡◌, ◌≢◌, ℕ, List, length, get_or, refl, sym, ◌∙◌, ap, subst, inl, inr}
use Rattle.std.specs.Prelude.{Option, Some, None, is_some, cond}
use Rattle.slab.specs.Slab.{get, Updates}
use Rattle.congee.specs.Heap.{child_for}
use Rattle.congee.specs.Notes.{Linked, Gone, Note, Tree}
use Rattle.congee.specs.forms.Forms.{prefix_of, form_of, capacity_of}
use Rattle.congee.specs.owned.Arena.{Nodes, hung_in, node_of, heap_of, notes_of, IsFilled, IsTree, OnWay}
use Rattle.congee.specs.owned.Changes.{Differs, MapChange}
use Rattle.congee.specs.declared.forms.base_node.Node.{Node as Form}
use Rattle.congee.specs.declared.forms.child.Child.{Child}
use Rattle.congee.specs.declared.forms.child.Child.TheVariants.{Value}
use Rattle.congee.proofs.lemmas.Tree.{same_or_not}
use Rattle.congee.proofs.lemmas.owned.Puts.{Puts, put_child, put_tree, put_map}
use Rattle.congee.proofs.lemmas.owned.Filled.{filled_at}
use Rattle.congee.proofs.lemmas.owned.Ways.{linked_of}

module _ {P : Type 0} where
  -- a value as a child of a node, if there is one
  abbrev pub child_of : Option P → Option (Child ℕ P)
  child_of None = None
  child_of (Some v) = Some (Value v)

  hung_child : (o : Option P) → hung_in (child_of o) ≡ put_child o
  hung_child None = refl
  hung_child (Some v) = refl

  -- the notes of two slabs that have the same places taken
  notes_same : (s s' : Nodes P) (parent : ℕ → ℕ) → ((n : ℕ) → is_some (get s' n) ≡ is_some (get s n)) → notes_of s parent ≡ notes_of s' parent
  notes_same s s' parent e =
      let p : (n : ℕ) → notes_of s parent n ≡ notes_of s' parent n = λ n. ap (λ b. record { status = cond b Linked Gone; owner = None; parent = parent n }) (sym (e n)) in
      λ i n. p n i

  taken_same : (s s' : Nodes P) (at : ℕ) (x y : Form ℕ P) → get s at ≡ Some x → Updates s s' at (Some y) → (n : ℕ) → is_some (get s' n) ≡ is_some (get s n)
  taken_same s s' at x y e u n = elim (same_or_not n at) [
    | inl p ↦ (let Q : ℕ → Type 0 = λ m. is_some (get s' m) ≡ is_some (get s m) in subst Q (sym p) (rw (u.changed, e) refl))
    | inr q ↦ ap is_some (u.others n q)
  ]

  -- the root keeps its places where one node changes
  pub wide_after : (s s' : Nodes P) (at : ℕ) (x y : Form ℕ P) → (heap_of s 0).capacity ≡ 256 → get s at ≡ Some x → get s' at ≡ Some y
      → (capacity_of (form_of x) ≡ 256 → capacity_of (form_of y) ≡ 256) → (0 ≢ at → get s' 0 ≡ get s 0) → (heap_of s' 0).capacity ≡ 256
  wide_after s s' at x y w was now keeps others = elim (same_or_not 0 at) [
    | inl e ↦ (let Q : ℕ → Type 0 = λ n. (heap_of s n).capacity ≡ 256 in let R : ℕ → Type 0 = λ n. (heap_of s' n).capacity ≡ 256 in let b : capacity_of (form_of x) ≡ 256 = sym (ap (λ o. (node_of o).capacity) was) ∙ subst Q e w in subst R (sym e) (ap (λ o. (node_of o).capacity) now ∙ keeps b))
    | inr ne ↦ ap (λ o. (node_of o).capacity) (others ne) ∙ w
  ]

  -- no leaf is empty after a change of one node
  filled_after : (s s' : Nodes P) (at : ℕ) (y : Form ℕ P) → IsTree s → Updates s s' at (Some y) → IsFilled (Some y) → (n : ℕ) → IsFilled (get s' n)
  filled_after s s' at y t u filled n = elim (same_or_not n at) [
    | inl e ↦ filled_at s' n at (Some y) e u.changed filled
    | inr ne ↦ subst IsFilled (sym (u.others n ne)) (t.filled n)
  ]

  -- what a leaf has for one key changes
  pub put_done : (s s' : Nodes P) (key : List ℕ) (at : ℕ) (x y : Form ℕ P) (old new : Option P) → length key ≡ 8 → IsTree s → OnWay s key at
      → get s at ≡ Some x → length (prefix_of x) ≡ 7 → child_for (heap_of s at) key ≡ put_child old
      → Differs x y (get_or key (length (prefix_of x)) 0) (child_of new) → IsFilled (Some y) → Updates s s' at (Some y)
      → IsTree s' × MapChange s s' key old new
  put_done s s' key at x y old new len t w e seven before d filled u =
      let hx : heap_of s at ≡ node_of (Some x) = ap node_of e in
      let hy : heap_of s' at ≡ node_of (Some y) = ap node_of u.changed in
      let a = notes_of s t.parent in
      let k : Puts a (heap_of s) (heap_of s') at key old new = record {
        linked = linked_of s t.parent at w.stands;
        fitted = w.fitted;
        seven = rw hx seven;
        before = before;
        prefix = rw (hx, hy) d.prefix;
        child = rw (hx, hy) (ap hung_in d.here ∙ hung_child new);
        beside = λ c ne. let ne' : c ≢ get_or key (length (prefix_of x)) 0 = rw hx at ne in rw (hx, hy) (ap hung_in (d.beside c ne'));
        nodes = λ m ne. ap node_of (u.others m ne);
      } in
      let m = put_map a (heap_of s) (heap_of s') at key old new len t.tree k in
      let T : (ℕ → Note) → Type 0 = λ b. Tree b (heap_of s') in (
        record { parent = t.parent; tree = subst T (notes_same s s' t.parent (taken_same s s' at x y e u)) (put_tree a (heap_of s) (heap_of s') at key old new t.tree k); wide = wide_after s s' at x y t.wide e u.changed d.wide (λ ne. u.others 0 ne); filled = filled_after s s' at y t u filled },
        record { was = m.0; now = m.1; others = m.2 },
      )
