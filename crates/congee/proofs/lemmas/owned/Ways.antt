-- The way of a key through an arena.
use Rattle.std.proofs.Common.{rules, ◌≡◌, ◌≢◌, ℕ, ◌<◌, ◌≤◌, ◌-◌, true, List, length, get_or, refl, sym, ap, subst, ◌∙◌, arith}
use Rattle.std.specs.Prelude.{Option, Some, None, is_some, cond, IsSome}
use Rattle.slab.specs.Slab.{get, ContainsKey}
use Rattle.congee.specs.Heap.{Nothing, Below, fits, child_for}
use Rattle.congee.specs.Notes.{Linked, Gone, IsChild}
use Rattle.congee.specs.forms.Forms.{prefix_of}
use Rattle.congee.specs.declared.forms.base_node.Node.{Node as Form}
use Rattle.congee.specs.owned.OwnedSteps.{SameNodes}
use Rattle.congee.specs.owned.Arena.{Nodes, node_of, heap_of, notes_of, IsFilled, IsTree, Hangs, Reached}
use Rattle.congee.specs.owned.Place.{EndsAt, Located}
use Rattle.congee.specs.declared.owned.place.Place.{Place}
use Rattle.congee.specs.declared.owned.place.Spot.{Spot}

module _ {P : Type 0} where
  -- the prefix that the tree sees of a node is the node's
  pub prefix_is : (s : Nodes P) (n : ℕ) (x : Form ℕ P) → get s n ≡ Some x → (heap_of s n).prefix ≡ prefix_of x
  prefix_is s n x e = rw e refl

  -- a place is a node of the tree exactly where it has a node
  pub linked_of : (s : Nodes P) (parent : ℕ → ℕ) (n : ℕ) → ContainsKey s n → (notes_of s parent n).status ≡ Linked
  linked_of s parent n h = of (get s n) h
    where
      of : (o : Option (Form ℕ P)) → IsSome o → cond (is_some o) Linked Gone ≡ Linked
      of None h = absurd (cc h)
      of (Some x) h = refl

  -- a name that is in the tree has a node
  pub stands_of : (s : Nodes P) (parent : ℕ → ℕ) (n : ℕ) → (notes_of s parent n).status ≡ Linked → ContainsKey s n
  stands_of s parent n h = of (get s n) h
    where
      of : (o : Option (Form ℕ P)) → cond (is_some o) Linked Gone ≡ Linked → IsSome o
      of None h = absurd (let z : Gone ≡ Linked = h in cc)
      of (Some x) h = search rules

  -- the root
  pub root_reached : (s : Nodes P) (key : List ℕ) → IsTree s → Reached s key 0 0
  root_reached s key t = record {
    way = record { stands = stands_of s t.parent 0 t.tree.root; fitted = rw t.tree.empty refl };
    hangs = λ ne. absurd (ne refl);
  }

  -- a node that hangs at the key's byte of one that stands is its child
  pub is_child : (s : Nodes P) (t : IsTree s) (n c : ℕ) (key : List ℕ) → ContainsKey s n → child_for (heap_of s n) key ≡ Below c
      → IsChild (notes_of s t.parent) (heap_of s) n (get_or key (length (heap_of s n).prefix) 0) c
  is_child s t n c key h e = t.tree.down n _ c (linked_of s t.parent n h) e

  -- what hangs at any byte is a child, of a node that stands
  pub hung_child : (s : Nodes P) (t : IsTree s) (n b c : ℕ) → (heap_of s n).children b ≡ Below c → ContainsKey s n × IsChild (notes_of s t.parent) (heap_of s) n b c
  hung_child s t n b c e =
      let h : ContainsKey s n = there (get s n) e in
      (h, t.tree.down n b c (linked_of s t.parent n h) e)
    where
      there : (o : Option (Form ℕ P)) → (node_of o).children b ≡ Below c → IsSome o
      there None e = absurd (let z : Nothing ≡ Below c = e in cc)
      there (Some x) e = refl

  -- a node that hangs in one of the tree stands
  pub below_stands : (s : Nodes P) → IsTree s → (n c : ℕ) (key : List ℕ) → ContainsKey s n → child_for (heap_of s n) key ≡ Below c → ContainsKey s c
  below_stands s t n c key h e = stands_of s t.parent c (is_child s t n c key h e).linked

  -- no node of a tree has a prefix of more than seven bytes
  pub short_prefix : (s : Nodes P) → IsTree s → (n : ℕ) → ContainsKey s n → length (heap_of s n).prefix ≤ 7
  short_prefix s t n h = t.tree.short n (linked_of s t.parent n h)

  -- one node further
  pub reached_below : (s : Nodes P) → IsTree s → (key : List ℕ) (above n c : ℕ) → Reached s key above n
      → child_for (heap_of s n) key ≡ Below c → fits (heap_of s c).prefix key ≡ true → Reached s key n c
  reached_below s t key above n c r e f = record {
    way = record { stands = below_stands s t n c key r.way.stands e; fitted = f };
    hangs = λ ne. record { way = r.way; child = e };
  }

  -- a way that ends so
  pub located_at : (s : Nodes P) (key : List ℕ) (p : Place) (top above at : ℕ) (spot : Spot) → p.top ≡ top → p.above ≡ above → p.at ≡ at → p.spot ≡ spot
      → Reached s key top above → Reached s key above at → EndsAt s key at spot → Located s key p
  located_at s key p top above at spot a b c d h r e = record { reached = rw (b, c) r; higher = rw (a, b) h; ends = rw (c, d) e }

  -- a node's child has fewer bytes left of eight than the node
  pub depth_falls : (s : Nodes P) → IsTree s → (key : List ℕ) (n c : ℕ) → ContainsKey s n → child_for (heap_of s n) key ≡ Below c
      → 8 - length (heap_of s c).prefix < 8 - length (heap_of s n).prefix
  depth_falls s t key n c h e = let i = is_child s t n c key h e in omega (arith, i.longer, short_prefix s t c (below_stands s t n c key h e))

  -- no blank hangs anywhere
  pub no_blank : (s : Nodes P) → IsTree s → (key : List ℕ) (n : ℕ) → ContainsKey s n → child_for (heap_of s n) key ≡ Below 0 → ⊥
  no_blank s t key n h e =
      let i = is_child s t n 0 key h e in
      let z : length (heap_of s 0).prefix ≡ 0 = ap length t.tree.empty in
      absurd (omega (arith, i.longer, z))

  -- a node isn't the one that it hangs in
  pub above_apart : (s : Nodes P) → IsTree s → (key : List ℕ) (above n : ℕ) → Hangs s key above n → above ≢ n
  above_apart s t key above n h q =
      let i = is_child s t above n key h.way.stands h.child in
      let z : length (heap_of s above).prefix ≡ length (heap_of s n).prefix = ap (λ y. length (heap_of s y).prefix) q in
      absurd (omega (arith, i.longer, z))

  -- nodes that are the same are the same tree
  pub same_tree : (s s' : Nodes P) → SameNodes s s' → IsTree s → IsTree s'
  same_tree s s' e t =
      let h : heap_of s ≡ heap_of s' = λ i n. ap node_of (sym (e n)) i in
      let a : notes_of s t.parent ≡ notes_of s' t.parent = λ i n. ap (λ o. record { status = cond (is_some o) Linked Gone; owner = None; parent = t.parent n }) (sym (e n)) i in
      record { parent = t.parent; tree = rw (← h, ← a) t.tree; wide = ap (λ o. (node_of o).capacity) (e 0) ∙ t.wide; filled = λ n. subst IsFilled (sym (e n)) (t.filled n) }
