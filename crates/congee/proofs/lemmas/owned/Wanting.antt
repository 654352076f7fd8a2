-- What an insertion makes, by the last node on the key's way.
use Rattle.std.proofs.Common.{◌≡◌, ◌≢◌, ℕ, zero, suc, ◌+◌, ◌<◌, ◌≤◌, ◌^◌, inl, inr, Bool, true, false, cond, List, [], ◌∷◌, length, get_or, refl, sym, ap, subst, ◌∙◌, arith}
use Rattle.std.specs.Prelude.{None, Some, ◌==◌}
use Rattle.std.proofs.lemmas.Bool.Decides.{eqb_tells}
use Rattle.std.specs.FinMap as map
use Rattle.slab.specs.Slab.{get}
use Rattle.congee.specs.Heap.{Hung, Nothing, Below, Holds, Node, fits, child_for}
use Rattle.congee.specs.Notes.{Linked, Note, IsChild, Tree}
use Rattle.congee.specs.forms.Forms.{form_of, prefix_of, children_of, size_of, next_form, is_full_of}
use Rattle.congee.specs.owned.Arena.{Nodes, hung_in, heap_of, node_of, IsTree, OnWay, Hangs}
use Rattle.congee.specs.Keys.{key_bytes}
use Rattle.congee.specs.owned.OwnedSteps.{SameNodes, Sets, IsRefusal}
use Rattle.congee.specs.owned.Place.{Ends, EndsAt, IsOpen}
use Rattle.congee.specs.declared.owned.place.Place.{Place}
use Rattle.congee.specs.declared.owned.place.Spot.{Spot}
use Rattle.congee.specs.declared.owned.place.Spot.TheVariants.{Held, Free, Apart}
use Rattle.congee.specs.declared.allocator.OOMError.{OOMError}
use Rattle.congee.specs.owned.Sizes.{bytes_at}
use Rattle.congee.specs.owned.Table.{table}
use Rattle.congee.specs.owned.Wanted.{size_by, net, at_end, descend, room_for, free_wants, last_wants, wants_at, wants_of, AllFit, IsRefusedOf, WantsLeaf}
use Rattle.congee.specs.declared.forms.base_node.Node.{Node as Form}
use Rattle.congee.specs.declared.forms.base_node.Node.TheVariants.{N4, N16, N48, N256}
use Rattle.congee.specs.declared.forms.base_node.NodeType.TheVariants.{N256 as T256}
use Rattle.congee.proofs.lemmas.owned.Tables.{table_below}
use Rattle.congee.proofs.lemmas.Tree.{down_to}
use Rattle.congee.proofs.lemmas.owned.Ways.{linked_of, above_apart}
use Rattle.congee.proofs.lemmas.owned.Moves.{node_at}

module _ {V X : Type 0} (apart : X) (last : Node V → Hung V → X) where
  end_same : (f g : ℕ → X) (n : Node V) (x : Hung V) → ((c : ℕ) → x ≡ Below c → f c ≡ g c) → at_end last n f x ≡ at_end last n g x
  end_same f g n Nothing e = refl
  end_same f g n (Below c) e = e c refl
  end_same f g n (Holds v) e = refl

  pick : (b : Bool) (x y : X) → x ≡ y → cond b x apart ≡ cond b y apart
  pick b x y e = ap (λ z. cond b z apart) e

  stable : (a : ℕ → Note) (h : ℕ → Node V) → Tree a h → (f g n : ℕ) (key : List ℕ) → (a n).status ≡ Linked
      → 8 ≤ f + length (h n).prefix → 8 ≤ g + length (h n).prefix → descend apart last h f n key ≡ descend apart last h g n key
  stable a h t zero g n key l p q = absurd (omega (arith, t.short n l))
  stable a h t (suc f) zero n key l p q = absurd (omega (arith, t.short n l))
  stable a h t (suc f) (suc g) n key l p q =
      pick (fits (h n).prefix key) _ _ (end_same (λ c. descend apart last h f c key) (λ c. descend apart last h g c key) (h n) (child_for (h n) key)
      (λ c e. let i : IsChild a h n (get_or key (length (h n).prefix) 0) c = t.down n _ c l e in
      stable a h t f g c key i.linked (omega (arith, i.longer)) (omega (arith, i.longer))))

  -- from a node on whose prefix the key has
  enter : (h : ℕ → Node V) (f n : ℕ) (key : List ℕ) (x : Hung V) → fits (h n).prefix key ≡ true → child_for (h n) key ≡ x
      → descend apart last h (suc f) n key ≡ at_end last (h n) (λ c. descend apart last h f c key) x
  enter h f n key x p e = rw (p, e) refl

  -- the way of a key leads through each linked node whose prefix it has
  lead : (a : ℕ → Note) (h : ℕ → Node V) → Tree a h → (d n : ℕ) (key : List ℕ) → length (h n).prefix ≤ d → (a n).status ≡ Linked
      → fits (h n).prefix key ≡ true → descend apart last h 8 0 key ≡ descend apart last h 8 n key
  lead a h t d n key =
      down_to a h t key (λ m. descend apart last h 8 0 key ≡ descend apart last h 8 m key) refl
      (λ p b m i g x before. before ∙ (enter h 7 p key (Below m) g x ∙ stable a h t 7 8 m key i.linked (omega (arith, i.longer)) (omega arith))) d n

  -- what is said at the end of a key's way is what is said from a node on it
  pub ends : (s : Nodes V) (key : List ℕ) (n : ℕ) (x : Hung V) → IsTree s → OnWay s key n → child_for (heap_of s n) key ≡ x
      → descend apart last (heap_of s) 8 0 key ≡ at_end last (heap_of s n) (λ c. descend apart last (heap_of s) 7 c key) x
  ends s key n x t w e =
      let l = linked_of s t.parent n w.stands in
      lead _ (heap_of s) t.tree (length (heap_of s n).prefix) n key (omega arith) l w.fitted ∙ enter (heap_of s) 7 n key x w.fitted e

  -- no node there has the key's prefix
  ends_apart : (s : Nodes V) (key : List ℕ) (n c : ℕ) → IsTree s → OnWay s key n → child_for (heap_of s n) key ≡ Below c → fits (heap_of s c).prefix key ≡ false
      → descend apart last (heap_of s) 8 0 key ≡ apart
  ends_apart s key n c t w e f = ends s key n (Below c) t w e ∙ rw f refl

-- two least nodes that fitted one after the other
pub both_fit : (c c' l l' : ℕ) → c' ≡ c + 64 → l' ≡ l → c + 64 ≤ l → c' + 64 ≤ l' → AllFit (64 ∷ 64 ∷ []) c l
both_fit c c' l l' ec el f g = (f, (omega (arith, g, ec, el), tt))

-- a refusal of the second of two least nodes
pub refused_second : (c c' l l' : ℕ) (e : OOMError) → c' ≡ c + 64 → l' ≡ l → c + 64 ≤ l → IsRefusal c' 64 l' e → IsRefusedOf (64 ∷ 64 ∷ []) c l e
refused_second c c' l l' e ec el f r =
    let Q2 : ℕ → Type 0 = λ z. IsRefusal z 64 l' e in
    let Q3 : ℕ → Type 0 = λ z. IsRefusal (c + 64) 64 z e in
    inr (f, inl (subst Q3 el (subst Q2 ec r)))

module _ {P : Type 0} where
  wants_free : (s : Nodes P) (key : List ℕ) (n : ℕ) → IsTree s → OnWay s key n → child_for (heap_of s n) key ≡ Nothing → wants_at (heap_of s) key ≡ Some (free_wants (heap_of s n))
  unfolding wants_at
  wants_free s key n t w e = ends (Some (64 ∷ 64 ∷ [])) last_wants s key n Nothing t w e

  wants_held : (s : Nodes P) (key : List ℕ) (n : ℕ) (v : P) → IsTree s → OnWay s key n → child_for (heap_of s n) key ≡ Holds v → wants_at (heap_of s) key ≡ None
  unfolding wants_at
  wants_held s key n v t w e = ends (Some (64 ∷ 64 ∷ [])) last_wants s key n (Holds v) t w e

  -- an insertion beside a node with another prefix makes two nodes of the least size
  pub wants_apart : (s : Nodes P) (key : List ℕ) (n c : ℕ) → IsTree s → OnWay s key n → child_for (heap_of s n) key ≡ Below c → fits (heap_of s c).prefix key ≡ false
      → wants_at (heap_of s) key ≡ Some (64 ∷ 64 ∷ [])
  unfolding wants_at
  wants_apart s key n c t w e f = ends_apart (Some (64 ∷ 64 ∷ [])) last_wants s key n c t w e f

  -- in a tree whose root has no children
  pub wants_leaf : (s : Nodes P) (root : Form ℕ P) → IsTree s → get s 0 ≡ Some root → form_of root ≡ T256 → children_of root ≡ map.empty → WantsLeaf (wants_of s)
  unfolding wants_of
  wants_leaf s root t e f c k l =
      let r : heap_of s 0 ≡ node_of (Some root) = ap node_of e in
      let empty : prefix_of root ≡ [] = sym (ap (λ n. n.prefix) r) ∙ t.tree.empty in
      let way : OnWay s (key_bytes k) 0 = record { stands = rw e refl; fitted = rw t.tree.empty refl } in
      let nothing : child_for (heap_of s 0) (key_bytes k) ≡ Nothing = rw r (ap hung_in (ap (λ m. map.get m (get_or (key_bytes k) (length (prefix_of root)) 0)) c ∙ map.get-empty _ _)) in
      let leaf : free_wants (heap_of s 0) ≡ 64 ∷ [] = rw (r, empty, f) refl in
      table_below (λ k. wants_at (heap_of s) (key_bytes k)) (2 ^ 64) k l ∙ (wants_free s (key_bytes k) 0 t way nothing ∙ ap Some leaf)

  -- the room of a node of a form
  pub full_room : (x : Form ℕ P) → is_full_of x ≡ true → room_for (node_of (Some x)) ≡ size_of (next_form (form_of x)) ∷ []
  full_room (N4 n) e = rw e refl
  full_room (N16 n) e = rw e refl
  full_room (N48 n) e = rw e refl
  full_room (N256 n) e = absurd (cc e)

  -- room in a node that isn't full takes no other
  pub roomy_none : (x : Form ℕ P) → is_full_of x ≡ false → room_for (node_of (Some x)) ≡ []
  roomy_none (N4 n) e = rw e refl
  roomy_none (N16 n) e = rw e refl
  roomy_none (N48 n) e = rw e refl
  roomy_none (N256 n) e = refl

  -- the size of a full node, with what the sizes grow by, is that of the next form
  pub grown_by : (x : Form ℕ P) → is_full_of x ≡ true → size_of (form_of x) + net (size_of (next_form (form_of x))) ≡ size_of (next_form (form_of x))
  grown_by (N4 n) e = refl
  grown_by (N16 n) e = refl
  grown_by (N48 n) e = refl
  grown_by (N256 n) e = absurd (cc e)

  -- the size by a node's places is that of its form
  pub sized : (x : Form ℕ P) → size_by (node_of (Some x)).capacity ≡ size_of (form_of x)
  sized (N4 n) = refl
  sized (N16 n) = refl
  sized (N48 n) = refl
  sized (N256 n) = refl

  -- the size of a leaf that was emptied and taken from the node above it
  pub dropped_size : (s0 s1 s2 : Nodes P) (key : List ℕ) (above at byte up : ℕ) → IsTree s0 → OnWay s0 key at → Hangs s0 key above at
      → ((x : Form ℕ P) → get s0 at ≡ Some x → Sets s0 s1 at x (map.remove (children_of x) byte))
      → ((x : Form ℕ P) → get s1 above ≡ Some x → Sets s1 s2 above x (map.remove (children_of x) up)) → bytes_at (get s2 at) ≡ size_by (heap_of s0 at).capacity
  dropped_size s0 s1 s2 key above at byte up t w hangs sets1 sets2 =
      let l = node_at s0 at w.stands in
      let n = node_at s0 above hangs.way.stands in
      let j = sets1 l.0 l.1 in
      let ne = above_apart s0 t key above at hangs in
      let e1 : get s1 above ≡ Some n.0 = j.updates.others above ne ∙ n.1 in
      let k = sets2 n.0 e1 in
      let e2 : get s2 at ≡ Some j.node = k.updates.others at (λ q. ne (sym q)) ∙ j.updates.changed in
      ap bytes_at e2 ∙ (ap size_of j.becomes.form ∙ (sym (sized l.0) ∙ ap (λ o. size_by (node_of o).capacity) (sym l.1)))

  -- an insertion at a leaf's free byte makes what its room takes
  pub free_leaf : (n : Node P) → length n.prefix ≡ 7 → free_wants n ≡ room_for n
  free_leaf n e = rw e refl

  -- an insertion at another node's free byte makes a leaf, and what its room takes
  pub free_inner : (n : Node P) → length n.prefix ≢ 7 → free_wants n ≡ 64 ∷ room_for n
  free_inner n ne =
      let f : (length n.prefix == 7) ≡ false = elim (eqb_tells (length n.prefix) 7) [ inl q ↦ absurd (ne q.1) | inr q ↦ q.0 ] in
      ap (λ b. cond b (room_for n) (64 ∷ room_for n)) f

  -- room that was found after a leaf was made
  pub fit_after : (n n' : Node P) (c c' l l' : ℕ) → n' ≡ n → c' ≡ c + 64 → l' ≡ l → c + 64 ≤ l → AllFit (room_for n') c' l' → AllFit (64 ∷ room_for n) c l
  fit_after n n' c c' l l' en ec el f r =
      let Q1 : Node P → Type 0 = λ z. AllFit (room_for z) c' l' in
      let Q2 : ℕ → Type 0 = λ z. AllFit (room_for n) z l' in
      let Q3 : ℕ → Type 0 = λ z. AllFit (room_for n) (c + 64) z in
      (f, subst Q3 el (subst Q2 ec (subst Q1 en r)))

  -- a refusal after a leaf was made
  pub refused_after : (n n' : Node P) (c c' l l' : ℕ) (e : OOMError) → n' ≡ n → c' ≡ c + 64 → l' ≡ l → c + 64 ≤ l → IsRefusedOf (room_for n') c' l' e → IsRefusedOf (64 ∷ room_for n) c l e
  refused_after n n' c c' l l' e en ec el f r =
      let Q1 : Node P → Type 0 = λ z. IsRefusedOf (room_for z) c' l' e in
      let Q2 : ℕ → Type 0 = λ z. IsRefusedOf (room_for n) z l' e in
      let Q3 : ℕ → Type 0 = λ z. IsRefusedOf (room_for n) (c + 64) z e in
      inr (f, subst Q3 el (subst Q2 ec (subst Q1 en r)))

  -- what the end of a key's way tells of its insertion
  pub ends_wants_held : (s : Nodes P) (key : List ℕ) (p : Place) → IsTree s → Ends s key p → p.spot ≡ Held → wants_at (heap_of s) key ≡ None
  ends_wants_held s key p t l e =
      let E : Spot → Type 0 = λ x. EndsAt s key p.at x in
      let d : EndsAt s key p.at Held = subst E e l.ends in
      wants_held s key p.at d.0 t l.way d.1

  -- where a key's place is free, its insertion makes what the last node's free byte takes
  pub ends_wants_free : (s : Nodes P) (key : List ℕ) (p : Place) → IsTree s → Ends s key p → p.spot ≡ Free → wants_at (heap_of s) key ≡ Some (free_wants (heap_of s p.at))
  ends_wants_free s key p t l e =
      let E : Spot → Type 0 = λ x. EndsAt s key p.at x in
      wants_free s key p.at t l.way (subst E e l.ends)

  -- where a key's place is beside a node with another prefix, its insertion makes two least nodes
  pub ends_wants_apart : (s : Nodes P) (key : List ℕ) (p : Place) (c : ℕ) → IsTree s → Ends s key p → p.spot ≡ Apart c → wants_at (heap_of s) key ≡ Some (64 ∷ 64 ∷ [])
  ends_wants_apart s key p c t l e =
      let E : Spot → Type 0 = λ x. EndsAt s key p.at x in
      let d : EndsAt s key p.at (Apart c) = subst E e l.ends in
      wants_apart s key p.at c t l.way d.0 d.1

  -- an insertion into an open leaf makes no node
  pub open_wants : (s : Nodes P) (key : List ℕ) (n : ℕ) → IsTree s → IsOpen s key n → wants_at (heap_of s) key ≡ Some []
  open_wants s key n t o =
      let y = node_at s n o.way.stands in
      let h : heap_of s n ≡ node_of (Some y.0) = ap node_of y.1 in
      let r : room_for (heap_of s n) ≡ [] = ap room_for h ∙ roomy_none y.0 (o.room y.0 y.1) in
      wants_free s key n t o.way o.free ∙ ap Some (free_leaf (heap_of s n) o.leaf ∙ r)

  -- what the map of wants has for a key is what its insertion makes
  pub get_wants : (s : Nodes P) (k : ℕ) → k < 2 ^ 64 → map.get (wants_of s) k ≡ wants_at (heap_of s) (key_bytes k)
  unfolding wants_of
  get_wants s k small = table_below (λ k. wants_at (heap_of s) (key_bytes k)) (2 ^ 64) k small

  -- on nodes that are the same the same is made for each key
  pub same_wants : (s s' : Nodes P) → SameNodes s s' → wants_of s' ≡ wants_of s
  unfolding wants_of
  same_wants s s' e =
      let h : heap_of s' ≡ heap_of s = λ i n. ap node_of (e n) i in
      ap (λ g. table (λ k. wants_at g (key_bytes k)) (2 ^ 64)) h
