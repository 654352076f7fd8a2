-- A node takes the form below.
use Rattle.std.proofs.Common.{◌≡◌, ◌≢◌, ℕ, suc, ◌+◌, ◌*◌, ◌<◌, ◌≤◌, inl, inr, length, refl, sym, ap, subst, ◌∙◌, arith}
use Rattle.std.specs.Prelude.{Option, None, Some, Result, Ok, Err, OnOk, OnErr, is_some, cond}
use Rattle.std.specs.FinMap as map
use Rattle.slab.specs.Slab.{Slab, get, ContainsKey, Updates, SameValues, slab_len, with_value}
use Rattle.slab.proofs.SlabLemmas.{Updates-with_value}
use Rattle.congee.specs.Heap.{Hung, Nothing, Below, Holds, value_at}
use Rattle.congee.specs.Notes.{Linked, Gone}
use Rattle.congee.specs.forms.Forms.{capacity_of, children_of, form_of, prefix_of, size_of}
use Rattle.congee.specs.forms.Mapped.{mapped}
use Rattle.congee.specs.owned.Arena.{Nodes, hung_in, node_of, heap_of, notes_of, IsFilled, IsTree}
use Rattle.congee.specs.owned.Lesser.{IsShrunk, Shrunk, ShrinksTo, SameMap}
use Rattle.congee.specs.owned.Naming.{offset_of, IsByte}
use Rattle.congee.specs.owned.OwnedSteps.{SameNodes}
use Rattle.congee.specs.owned.Sizes.{bytes_at, bytes_of}
use Rattle.congee.specs.owned.Slots.{inner_child, leaf_child, slot_node, lone_in, inline_at, in_slot, nodes_in}
use Rattle.congee.specs.owned.Storage.{HasKind, IsStored}
use Rattle.congee.specs.protocol.Steps.{form_below}
use Rattle.congee.specs.declared.forms.base_node.Node.{Node}
use Rattle.congee.specs.declared.forms.base_node.NodeType.TheVariants.{N4}
use Rattle.congee.specs.declared.owned.slots.Slot.{Slot}
use Rattle.congee.specs.declared.owned.slots.Slot.TheVariants.{Inner, Leaf}
use Rattle.congee.specs.owned.Kinds.{form_in, len_in}
use Rattle.congee.proofs.lemmas.Rename.{Renamed, named, renamed_tree, renamed_map}
use Rattle.congee.proofs.lemmas.Tree.{same_or_not}
use Rattle.congee.proofs.lemmas.owned.Filled.{filled_some}
use Rattle.congee.proofs.lemmas.owned.Moves.{node_at}
use Rattle.congee.proofs.lemmas.owned.Sizes.{bytes_update}
use Rattle.congee.proofs.lemmas.owned.SlotComes.{slot_updates, slot_stored}
use Rattle.congee.proofs.lemmas.owned.SlotLens.{count_if_some, len_update}
use Rattle.congee.proofs.lemmas.owned.Slots.{with_form, with_prefix, with_mapped}
use Rattle.congee.proofs.lemmas.owned.Stored.{slot_seen, slot_there, inline_seen, seen_len}
use Rattle.congee.proofs.lemmas.owned.Ways.{same_tree}

-- the clauses of a call that shrinks a node are one relation
pub is_shrunk : {C P U V : Type 0} (old new : Node C P) (r : Result U V) → OnOk r (form_of new ≡ form_below (form_of old)) → OnOk r (prefix_of new ≡ prefix_of old) → OnOk r (children_of new ≡ children_of old) → OnOk r (IsShrunk old new)
is_shrunk old new (Ok u) f p c = record { form = f; prefix = p; children = c }
is_shrunk old new (Err w) f p c = tt

-- a node of a greater form has a slot, and takes the form below there
module _ {P K : Type 0} (s : Slab (Slot P K)) (v : Nodes P) (is : nodes_in s ≡ v) (inline : ℕ) (st : IsStored s inline) (at i : ℕ) (byte : Option ℕ) (name : 257 * i + offset_of byte ≡ at) (low : IsByte byte)
    (stands : ContainsKey v at) (greater : (y : Node ℕ P) → get v at ≡ Some y → form_of y ≢ N4) where
  great_own : byte ≡ None
  great_own = of byte refl
    where
      of : (o : Option ℕ) → byte ≡ o → byte ≡ None
      of None e = e
      of (Some b) e =
          let y = node_at v at stands in
          let k = inline_seen s v is at i byte name b y.0 e low y.1 in
          absurd (greater y.0 y.1 (sym (ap form_of k.1)))

  great_name : at ≡ 257 * i
  great_name = sym name ∙ (ap (λ b. 257 * i + offset_of b) great_own ∙ omega arith)

  -- a node of a greater form has a slot that isn't vacant
  pub great_slot : ContainsKey s i
  great_slot = slot_there s i (subst (λ w. ContainsKey w (257 * i)) (sym is) (subst (ContainsKey v) great_name stands))

  module _ (x : Slot P K) (e : get s i ≡ Some x) where
    great_seen : (y : Node ℕ P) → get v at ≡ Some y → slot_node i x ≡ y
    great_seen y h =
        let z : Some (slot_node i x) ≡ Some y = sym (slot_seen s i x e) ∙ (ap (λ w. get w (257 * i)) is ∙ (ap (get v) (sym great_name) ∙ h)) in cc

    seen_form : (x : Slot P K) → form_of (slot_node i x) ≡ form_in x
    seen_form (Inner n) = with_form (inner_child i) n
    seen_form (Leaf n) = with_form leaf_child n

    great_form : (y : Node ℕ P) → get v at ≡ Some y → form_of y ≡ form_in x
    great_form y h = sym (ap form_of (great_seen y h)) ∙ seen_form x

    -- children that fit in the form below for the tree fit there in the slot
    pub great_room : ((y : Node ℕ P) → get v at ≡ Some y → map.len (children_of y) ≤ capacity_of (form_below (form_of y))) → len_in x ≤ capacity_of (form_below (form_in x))
    great_room room =
        let y = node_at v at stands in
        let l : map.len (children_of y.0) ≡ len_in x = sym (ap (λ n. map.len (children_of n)) (great_seen y.0 y.1)) ∙ seen_len i x in
        let f : capacity_of (form_below (form_of y.0)) ≡ capacity_of (form_below (form_in x)) = ap (λ t. capacity_of (form_below t)) (great_form y.0 y.1) in
        let r = room y.0 y.1 in
        omega (arith, l, f, r)

    great_memory : form_below (form_in x) ≢ N4 → (y : Node ℕ P) → get v at ≡ Some y → form_below (form_of y) ≢ N4
    great_memory ne y h q = ne (ap form_below (sym (great_form y h)) ∙ q)

    module _ (x' : Slot P K) where
      updates : Updates s (with_value s i x') i (Some x')
      updates = Updates-with_value s i x' (rw e refl)

      same_inline : (x x' : Slot P K) → Shrunk x x' → (b : ℕ) → inline_at x' b ≡ inline_at x b
      same_inline (Inner n) (Inner m) k b = ap (λ c. lone_in (map.get c b)) k.children
      same_inline (Leaf n) (Leaf m) k b = refl
      same_inline (Inner n) (Leaf m) k b = absurd k
      same_inline (Leaf n) (Inner m) k b = absurd k

      same_kind : (x x' : Slot P K) → Shrunk x x' → HasKind (Some x) → HasKind (Some x')
      same_kind (Inner n) (Inner m) k h = (let p : length (prefix_of m) ≡ length (prefix_of n) = ap length k.prefix in omega (arith, p, h))
      same_kind (Leaf n) (Leaf m) k h = ap length k.prefix ∙ h
      same_kind (Inner n) (Leaf m) k h = absurd k
      same_kind (Leaf n) (Inner m) k h = absurd k

      inlines : Shrunk x x' → (b : ℕ) → in_slot i (Some x') (suc b) ≡ in_slot i (get s i) (suc b)
      inlines k b = same_inline x x' k b ∙ sym (ap (λ o. in_slot i o (suc b)) e)

      length_kept : slab_len (with_value s i x') + inline ≤ s.capacity
      length_kept =
          let l = len_update s (with_value s i x') i (Some x') updates in
          let c : count_if_some (get s i) ≡ 1 = ap count_if_some e in
          let r = st.room in
          omega (arith, l, c, r)

      shrunk_stored : Shrunk x x' → IsStored (with_value s i x') inline
      shrunk_stored k = slot_stored s (with_value s i x') i inline (Some x') st updates (inlines k) (same_kind x x' k (subst HasKind e (st.kinds i))) refl length_kept

      shrunk_node : (x x' : Slot P K) → Shrunk x x' → (form_of (slot_node i x') ≡ form_below (form_of (slot_node i x))) × (prefix_of (slot_node i x') ≡ prefix_of (slot_node i x)) × (children_of (slot_node i x') ≡ children_of (slot_node i x))
      shrunk_node (Inner n) (Inner m) k = (
        with_form (inner_child i) m ∙ (k.form ∙ ap form_below (sym (with_form (inner_child i) n))),
        with_prefix (inner_child i) m ∙ (k.prefix ∙ sym (with_prefix (inner_child i) n)),
        with_mapped (inner_child i) m ∙ (ap (mapped (inner_child i)) k.children ∙ sym (with_mapped (inner_child i) n)),
      )
      shrunk_node (Leaf n) (Leaf m) k = (
        with_form leaf_child m ∙ (k.form ∙ ap form_below (sym (with_form leaf_child n))),
        with_prefix leaf_child m ∙ (k.prefix ∙ sym (with_prefix leaf_child n)),
        with_mapped leaf_child m ∙ (ap (mapped leaf_child) k.children ∙ sym (with_mapped leaf_child n)),
      )
      shrunk_node (Inner n) (Leaf m) k = absurd k
      shrunk_node (Leaf n) (Inner m) k = absurd k

      shrunk_done : Shrunk x x' → (y : Node ℕ P) → get v at ≡ Some y → ShrinksTo v (nodes_in (with_value s i x')) at y
      shrunk_done k y h =
          let q = great_seen y h in
          let g = shrunk_node x x' k in
          let w = slot_updates s (with_value s i x') i (Some x') updates (inlines k) in
          record {
            node = slot_node i x';
            shrunk = record { form = g.0 ∙ ap (λ n. form_below (form_of n)) q; prefix = g.1 ∙ ap prefix_of q; children = g.2 ∙ ap children_of q };
            updates = subst (λ k. Updates v (nodes_in (with_value s i x')) k (Some (slot_node i x'))) (sym great_name) (subst (λ w. Updates w (nodes_in (with_value s i x')) (257 * i) (Some (slot_node i x'))) is w);
          }

      -- where memory is refused the slot's node is as it was
      module _ (q : x' ≡ x) where
        kept_inlines : (b : ℕ) → in_slot i (Some x') (suc b) ≡ in_slot i (get s i) (suc b)
        kept_inlines b = ap (λ w. in_slot i (Some w) (suc b)) q ∙ sym (ap (λ o. in_slot i o (suc b)) e)

        still_stored : IsStored (with_value s i x') inline
        still_stored = slot_stored s (with_value s i x') i inline (Some x') st updates kept_inlines (subst (λ w. HasKind (Some w)) (sym q) (subst HasKind e (st.kinds i))) refl length_kept

        still_done : SameValues v (nodes_in (with_value s i x'))
        still_done m =
            let w = slot_updates s (with_value s i x') i (Some x') updates kept_inlines in
            elim (same_or_not m (257 * i)) [
              | inl z ↦ (let Q : ℕ → Type 0 = λ k. get (nodes_in (with_value s i x')) k ≡ get v k in
                  subst Q (sym z) (w.changed ∙ (ap (λ w. Some (slot_node i w)) q ∙ (sym (slot_seen s i x e) ∙ ap (λ w. get w (257 * i)) is))))
              | inr ne ↦ w.others m ne ∙ ap (λ w. get w m) is
            ]

      module _ {U V : Type 0} (r : Result U V) where
        -- the slots are sound, whether the node took the form below or memory was refused
        pub shrink_stored : OnOk r (Shrunk x x') → OnErr r (x' ≡ x) → IsStored (with_value s i x') inline
        shrink_stored a b = of r a b
          where
            of : (r : Result U V) → OnOk r (Shrunk x x') → OnErr r (x' ≡ x) → IsStored (with_value s i x') inline
            of (Ok u) a b = shrunk_stored a
            of (Err w) a b = still_stored b

        -- where it took the form below, it did so for the tree
        pub shrink_done : OnOk r (Shrunk x x') → OnOk r ((y : Node ℕ P) → get v at ≡ Some y → ShrinksTo v (nodes_in (with_value s i x')) at y)
        shrink_done a = of r a
          where
            of : (r : Result U V) → OnOk r (Shrunk x x') → OnOk r ((y : Node ℕ P) → get v at ≡ Some y → ShrinksTo v (nodes_in (with_value s i x')) at y)
            of (Ok u) a = shrunk_done a
            of (Err w) a = tt

        -- where memory was refused, every name has the node that it had
        pub shrink_kept : OnErr r (x' ≡ x) → OnErr r (SameValues v (nodes_in (with_value s i x')))
        shrink_kept b = of r b
          where
            of : (r : Result U V) → OnErr r (x' ≡ x) → OnErr r (SameValues v (nodes_in (with_value s i x')))
            of (Ok u) b = tt
            of (Err w) b = still_done b

        -- memory is never refused for the least form
        pub shrink_memory : OnErr r (form_below (form_in x) ≢ N4) → OnErr r ((y : Node ℕ P) → get v at ≡ Some y → form_below (form_of y) ≢ N4)
        shrink_memory b = of r b
          where
            of : (r : Result U V) → OnErr r (form_below (form_in x) ≢ N4) → OnErr r ((y : Node ℕ P) → get v at ≡ Some y → form_below (form_of y) ≢ N4)
            of (Ok u) b = tt
            of (Err w) b = great_memory b

-- the tree and its map are the same where one node but the root takes another form
module _ {P : Type 0} (s s' : Nodes P) (at : ℕ) (x y : Node ℕ P) (t : IsTree s) (below : at ≢ 0) (was : get s at ≡ Some x) (u : Updates s s' at (Some y)) (prefix : prefix_of y ≡ prefix_of x)
    (children : children_of y ≡ children_of x) where
  here_or : (Q : ℕ → Type 0) (n : ℕ) → Q at → (n ≢ at → Q n) → Q n
  here_or Q n h o = elim (same_or_not n at) [
    | inl e ↦ subst Q (sym e) h
    | inr ne ↦ o ne
  ]

  linked_same : (n : ℕ) → (notes_of s' t.parent n).status ≡ (notes_of s t.parent n).status
  linked_same n = ap (λ b. cond b Linked Gone) (here_or (λ m. is_some (get s' m) ≡ is_some (get s m)) n (rw (u.changed, was) refl) (λ ne. ap is_some (u.others n ne)))

  prefix_same : (n : ℕ) → (heap_of s' n).prefix ≡ (heap_of s n).prefix
  prefix_same n = here_or (λ m. (heap_of s' m).prefix ≡ (heap_of s m).prefix) n (rw (u.changed, was) prefix) (λ ne. ap (λ o. (node_of o).prefix) (u.others n ne))

  children_same : (n b : ℕ) → (heap_of s' n).children b ≡ (heap_of s n).children b
  children_same n b = here_or (λ m. (heap_of s' m).children b ≡ (heap_of s m).children b) n (rw (u.changed, was) (ap (λ c. hung_in (map.get c b)) children)) (λ ne. ap (λ o. (node_of o).children b) (u.others n ne))

  same_named : (z : Hung P) → z ≡ named (λ n. n) z
  same_named Nothing = refl
  same_named (Below c) = refl
  same_named (Holds v) = refl

  as_named : Renamed (λ n. n) (notes_of s t.parent) (heap_of s) (notes_of s' t.parent) (heap_of s')
  as_named = record {
    root = refl;
    linked = λ n l. linked_same n ∙ l;
    only = λ n l. record { before = n; linked = sym (linked_same n) ∙ l; is = refl };
    parent = λ n l. refl;
    prefix = λ n l. prefix_same n;
    children = λ n b l. children_same n b ∙ same_named ((heap_of s n).children b);
  }

  filled_same : (n : ℕ) → IsFilled (get s' n)
  filled_same n = here_or (λ m. IsFilled (get s' m)) n
      (subst IsFilled (sym u.changed) (filled_some y (λ seven. subst (λ c. 0 < map.len c) (sym children) (t.filled at x was (ap length (sym prefix) ∙ seven)))))
      (λ ne. subst IsFilled (sym (u.others n ne)) (t.filled n))

  -- a node in another form, with the same prefix and children, leaves the tree and its map
  pub reformed : SameMap s s'
  reformed = record {
    tree = record {
      parent = t.parent;
      tree = renamed_tree (λ n. n) (notes_of s t.parent) (heap_of s) (notes_of s' t.parent) (heap_of s') t.tree as_named;
      wide = ap (λ o. (node_of o).capacity) (u.others 0 (λ e. below (sym e))) ∙ t.wide;
      filled = filled_same;
    };
    values = λ key len. renamed_map (λ n. n) (notes_of s t.parent) (heap_of s) (notes_of s' t.parent) (heap_of s') t.tree as_named key;
  }

  -- a node in another form changes the sizes by those of the two forms
  pub reformed_bytes : bytes_of s' + size_of (form_of x) ≡ bytes_of s + size_of (form_of y)
  reformed_bytes =
      let r = bytes_update s s' at (Some y) u in
      let b : bytes_at (get s at) ≡ size_of (form_of x) = ap bytes_at was in
      omega (arith, r, b)

-- where every name has the node that it had, the map stays
pub still_map : {P : Type 0} (s s' : Nodes P) → IsTree s → SameNodes s s' → SameMap s s'
still_map s s' t e =
    let h : heap_of s' ≡ heap_of s = λ i n. ap node_of (e n) i in
    record { tree = same_tree s s' e t; values = λ key len. ap (λ z. value_at z key) h }
