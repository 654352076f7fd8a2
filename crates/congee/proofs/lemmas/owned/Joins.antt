-- The tree and its map after a leaf or a fork comes in, or a leaf goes.
use Rattle.std.proofs.Common.{◌≡◌, ◌≢◌, ℕ, ◌==◌, ◌<◌, ◌≤◌, true, false, List, length, take, get_or, refl, sym, ◌∙◌, ap, subst, arith, inl, inr, zero, suc}
use Rattle.std.specs.Prelude.{Some, None, is_some, cond}
use Rattle.std.proofs.lemmas.List.{get_or-take, length-take-le}
use Rattle.std.proofs.lemmas.Bool.{cases_lt}
use Rattle.slab.specs.Slab.{get, ContainsKey}
use Rattle.congee.specs.Heap.{Node, Below, Nothing, fits, child_for, walk, value_at}
use Rattle.congee.specs.Notes.{Linked, Gone, Note, Tree, IsChild, HasParent}
use Rattle.congee.specs.forms.Forms.{prefix_of}
use Rattle.congee.specs.owned.Arena.{Nodes, hung_in, node_of, heap_of, notes_of, IsFilled, IsTree, OnWay, Hangs}
use Rattle.congee.specs.owned.Changes.{MapChange, IsLeafOf, AddsLeaf, AddsFork, DropsLeaf, DiffersAt}
use Rattle.congee.specs.declared.forms.base_node.Node.{Node as Form}
use Rattle.congee.proofs.lemmas.Fits.{same_test, other_test, fits_byte}
use Rattle.congee.proofs.lemmas.forms.Prefixes.{fits_every}
use Rattle.congee.proofs.lemmas.Tree.{same_or_not, step_same}
use Rattle.congee.proofs.lemmas.Link.{Leaf, Links, link_tree, link_map}
use Rattle.congee.proofs.lemmas.Unlink.{Unlinks, unlink_tree, unlink_map}
use Rattle.congee.proofs.lemmas.Split.{Splits, split_tree, split_map}
use Rattle.congee.proofs.lemmas.owned.Ways.{linked_of, is_child, short_prefix, below_stands}
use Rattle.congee.proofs.lemmas.owned.Edits.{wide_after}
use Rattle.congee.proofs.lemmas.owned.Filled.{filled_at, filled_some, filled_none, filled_with}

-- the first bytes of a key are a prefix of it
pub front_fits : (n : ℕ) (key : List ℕ) → n ≤ length key → fits (take n key) key ≡ true
front_fits n key l = fits_every (take n key) key (rw (length-take-le n key l) l) (λ j b. sym (get_or-take n key j 0 (rw (length-take-le n key l) at b)))

-- a tree of nodes that are the same as far as they are linked
agree_tree : {V : Type 0} (a : ℕ → Note) (h h' : ℕ → Node V) → ((n : ℕ) → (a n).status ≡ Linked → h' n ≡ h n) → Tree a h → Tree a h'
agree_tree a h h' e t = record {
  root = t.root;
  empty = rw (e 0 t.root) t.empty;
  short = λ n l. rw (e n l) (t.short n l);
  leaves = λ n b v l q. rw (e n l) (t.leaves n b v l (rw (e n l) at q));
  down = λ n b c l q. let i : IsChild a h n b c = t.down n b c l (rw (e n l) at q) in record {
    linked = i.linked;
    parent = i.parent;
    fitted = rw (e n l, e c i.linked) i.fitted;
    longer = rw (e n l, e c i.linked) i.longer;
    byte = rw (e n l, e c i.linked) i.byte;
  };
  up = λ n l ne. let u : HasParent a h n = t.up n l ne in record {
    linked = u.linked;
    byte = u.byte;
    holds = rw (e (a n).parent u.linked) u.holds;
  };
}

-- a walk from a node of the tree finds the same where all nodes of the tree are as they were
agree_walk : {V : Type 0} (a : ℕ → Note) (h h' : ℕ → Node V) → ((n : ℕ) → (a n).status ≡ Linked → h' n ≡ h n) → Tree a h
    → (f n : ℕ) (key : List ℕ) → (a n).status ≡ Linked → walk h' f n key ≡ walk h f n key
agree_walk a h h' e t zero n key l = refl
agree_walk a h h' e t (suc f) n key l =
    step_same h h' f f n key (ap (λ x. x.prefix) (e n l)) (λ _. ap (λ x. x.children (get_or key (length (h n).prefix) 0)) (e n l))
    (λ c q. agree_walk a h h' e t f c key (t.down n _ c l q).linked)

-- a child's prefix parts from the key below the byte where the child hangs
parted_below : (p q key : List ℕ) (n : ℕ) → fits p key ≡ true → fits p q ≡ true → length p < length q → get_or key (length p) 0 ≡ get_or q (length p) 0 → DiffersAt key q n → length p < n
parted_below p q key n f g l e parts = elim (cases_lt (length p) n) [
  | inl lt ↦ lt
  | inr ge ↦ absurd (parts.apart (elim (same_or_not n (length p)) [
    | inl same ↦ (let Q : ℕ → Type 0 = λ y. get_or key y 0 ≡ get_or q y 0 in subst Q (sym same) e)
    | inr ne ↦ (let lt : n < length p = omega (arith, ge, ne) in fits_byte p key n f lt ∙ sym (fits_byte p q n g lt))
  ]))
]

module _ {P : Type 0} where
  vacant_not : (s : Nodes P) (parent : ℕ → ℕ) (n : ℕ) → get s n ≡ None → (notes_of s parent n).status ≢ Linked
  vacant_not s parent n e h = let z : Gone ≡ Linked = rw e at h in cc

  root_not : (s : Nodes P) (t : IsTree s) (n : ℕ) → get s n ≡ None → 0 ≢ n
  root_not s t n e q = let Q : ℕ → Type 0 = λ y. (notes_of s t.parent y).status ≡ Linked in vacant_not s t.parent n e (subst Q q t.tree.root)

  -- where a node is read, one stands
  pub stands_at : (s : Nodes P) (n : ℕ) (x : Form ℕ P) → get s n ≡ Some x → ContainsKey s n
  stands_at s n x e = rw e refl

  note_same : (s s' : Nodes P) (parent parent' : ℕ → ℕ) (m : ℕ) → is_some (get s' m) ≡ is_some (get s m) → parent' m ≡ parent m → notes_of s' parent' m ≡ notes_of s parent m
  note_same s s' parent parent' m e f = rw (e, f) refl

  -- a node that has the key's value alone is a leaf of the key's for the tree
  pub leaf_of : (s : Nodes P) (key : List ℕ) (d : ℕ) (n : Form ℕ P) (v : P) → length key ≡ 8 → get s d ≡ Some n → IsLeafOf n key v → Leaf (heap_of s) d key v
  leaf_of s key d n v len e l =
      let h : heap_of s d ≡ node_of (Some n) = ap node_of e in
      let seven : length (prefix_of n) ≡ 7 = rw (l.prefix) (length-take-le 7 key (omega (arith, len))) in
      record {
        fitted = rw (h, l.prefix) (front_fits 7 key (omega (arith, len)));
        seven = rw h seven;
        value = rw (h, seven) (ap hung_in l.value);
        empty = λ c ne. let ne' : c ≢ get_or key 7 0 = rw (h, seven) at ne in rw h (ap hung_in (l.beside c ne'));
      }

  -- no leaf is empty after any of the three
  add_filled : (s s' : Nodes P) (key : List ℕ) (at leaf : ℕ) (v : P) → IsTree s → AddsLeaf s s' key at leaf v → (n : ℕ) → IsFilled (get s' n)
  add_filled s s' key at d v t k n = elim (same_or_not n d) [
    | inl e ↦ filled_at s' n d (Some k.made) e k.taken (filled_with k.made _ _ k.has.value)
    | inr nd ↦ elim (same_or_not n at) [
      | inl e ↦ filled_at s' n at (Some k.after) e k.now (filled_with k.after _ _ k.differs.here)
      | inr na ↦ subst IsFilled (sym (k.others n nd na)) (t.filled n)
    ]
  ]

  drop_filled : (s s' : Nodes P) (key : List ℕ) (above at : ℕ) (v : P) → IsTree s → (k : DropsLeaf s s' key above at v) → length (prefix_of k.before) < 7
      → (n : ℕ) → IsFilled (get s' n)
  drop_filled s s' key above at v t k inner n = elim (same_or_not n at) [
    | inl e ↦ filled_at s' n at None e k.left filled_none
    | inr na ↦ elim (same_or_not n above) [
      | inl e ↦ filled_at s' n above (Some k.after) e k.now (filled_some k.after (λ seven. let p : length (prefix_of k.after) ≡ length (prefix_of k.before) = ap length k.differs.prefix in absurd (omega (arith, p, seven, inner))))
      | inr ne ↦ subst IsFilled (sym (k.others n ne na)) (t.filled n)
    ]
  ]

  fork_filled : (s s' : Nodes P) (key : List ℕ) (at below common over leaf : ℕ) (v : P) → IsTree s → AddsFork s s' key at below common over leaf v
      → (n : ℕ) → IsFilled (get s' n)
  fork_filled s s' key at b common c d v t k n = elim (same_or_not n c) [
    | inl e ↦ filled_at s' n c (Some k.fork) e k.taken_over (filled_with k.fork _ _ k.new_child)
    | inr nc ↦ elim (same_or_not n d) [
      | inl e ↦ filled_at s' n d (Some k.made) e k.taken_leaf (filled_with k.made _ _ k.has.value)
      | inr nd ↦ elim (same_or_not n at) [
        | inl e ↦ filled_at s' n at (Some k.after) e k.now (filled_with k.after _ _ k.differs.here)
        | inr na ↦ subst IsFilled (sym (k.others n nc nd na)) (t.filled n)
      ]
    ]
  ]

  -- a leaf that came in below a node with nothing at the key's byte is the key's insertion in the tree
  pub add_leaf_done : (s s' : Nodes P) (key : List ℕ) (at leaf : ℕ) (v : P) → length key ≡ 8 → IsTree s → OnWay s key at
      → length (heap_of s at).prefix < 7 → child_for (heap_of s at) key ≡ Nothing → AddsLeaf s s' key at leaf v
      → IsTree s' × MapChange s s' key None (Some v)
  add_leaf_done s s' key at d v len t w inner free k =
      let hx : heap_of s at ≡ node_of (Some k.before) = ap node_of k.was in
      let hy : heap_of s' at ≡ node_of (Some k.after) = ap node_of k.now in
      let parent' : ℕ → ℕ = λ n. cond (n == d) at (t.parent n) in
      let a : ℕ → Note = notes_of s t.parent in
      let a' : ℕ → Note = notes_of s' parent' in
      let links : Links a (heap_of s) a' (heap_of s') at d key v = record {
        linked = linked_of s t.parent at w.stands;
        fitted = w.fitted;
        inner = inner;
        nothing = free;
        unlinked = vacant_not s t.parent d k.vacant;
        prefix = rw (hx, hy) k.differs.prefix;
        child = rw (hx, hy) (ap hung_in k.differs.here);
        beside = λ c ne. let ne' : c ≢ get_or key (length (prefix_of k.before)) 0 = rw hx at ne in rw (hx, hy) (ap hung_in (k.differs.beside c ne'));
        leaf = leaf_of s' key d k.made v len k.taken k.has;
        joined = linked_of s' parent' d (stands_at s' d k.made k.taken);
        parent = rw (same_test d d refl) refl;
        notes = λ m ne. note_same s s' t.parent parent' m
            (elim (same_or_not m at) [
              | inl p ↦ (let Q : ℕ → Type 0 = λ y. is_some (get s' y) ≡ is_some (get s y) in subst Q (sym p) (rw (k.now, k.was) refl))
              | inr q ↦ ap is_some (k.others m ne q)
            ])
            (rw (other_test m d ne) refl);
        nodes = λ m nd na. ap node_of (k.others m nd na);
      } in
      let m = link_map a (heap_of s) a' (heap_of s') at d key v len t.tree links in (
        record { parent = parent'; tree = link_tree a (heap_of s) a' (heap_of s') at d key v t.tree links; wide = wide_after s s' at k.before k.after t.wide k.was k.now k.differs.wide (λ ne. k.others 0 (root_not s t d k.vacant) ne); filled = add_filled s s' key at d v t k },
        record { was = m.0; now = m.1; others = m.2 },
      )

  -- a leaf with the key's value alone that went is the key's removal from the tree
  pub drop_leaf_done : (s s' : Nodes P) (key : List ℕ) (above at : ℕ) (v : P) → length key ≡ 8 → IsTree s → OnWay s key at → Hangs s key above at
      → length (heap_of s at).prefix ≡ 7 → DropsLeaf s s' key above at v
      → IsTree s' × MapChange s s' key (Some v) None
  drop_leaf_done s s' key above at v len t w hangs seven k =
      let hx : heap_of s above ≡ node_of (Some k.before) = ap node_of k.was in
      let hy : heap_of s' above ≡ node_of (Some k.after) = ap node_of k.now in
      let hl : heap_of s at ≡ node_of (Some k.last) = ap node_of k.stood in
      let a : ℕ → Note = notes_of s t.parent in
      let a' : ℕ → Note = notes_of s' t.parent in
      let last : Leaf (heap_of s) at key v = record {
        fitted = w.fitted;
        seven = seven;
        value = rw hl (ap hung_in k.value);
        empty = λ c ne. let ne' : c ≢ get_or key (length (prefix_of k.last)) 0 = rw hl at ne in rw hl (ap hung_in (k.beside c ne'));
      } in
      let i : IsChild a (heap_of s) above (get_or key (length (heap_of s above).prefix) 0) at = is_child s t above at key hangs.way.stands hangs.child in
      let inner : length (prefix_of k.before) < 7 = (let p : length (heap_of s above).prefix ≡ length (prefix_of k.before) = rw hx refl in let l = i.longer in omega (arith, p, l, seven)) in
      let apart : above ≢ at = (λ q. let z : length (heap_of s above).prefix ≡ length (heap_of s at).prefix = ap (λ y. length (heap_of s y).prefix) q in absurd (omega (arith, i.longer))) in
      let h' : ℕ → Node P = λ x. cond (x == at) (heap_of s at) (heap_of s' x) in
      let elsewhere : (x : ℕ) → x ≢ at → h' x ≡ heap_of s' x = λ x ne. rw (other_test x at ne) refl in
      let hz : h' above ≡ node_of (Some k.after) = elsewhere above apart ∙ hy in
      let goes : Unlinks a (heap_of s) a' h' above at key v = record {
        linked = linked_of s t.parent above hangs.way.stands;
        fitted = hangs.way.fitted;
        hung = hangs.child;
        last = last;
        prefix = rw (hx, hz) k.differs.prefix;
        child = rw (hx, hz) (ap hung_in k.differs.here);
        beside = λ c ne. let ne' : c ≢ get_or key (length (prefix_of k.before)) 0 = rw hx at ne in rw (hx, hz) (ap hung_in (k.differs.beside c ne'));
        left = vacant_not s' t.parent at k.left;
        notes = λ m ne. note_same s s' t.parent t.parent m
            (elim (same_or_not m above) [
              | inl p ↦ (let Q : ℕ → Type 0 = λ y. is_some (get s' y) ≡ is_some (get s y) in subst Q (sym p) (rw (k.now, k.was) refl))
              | inr q ↦ ap is_some (k.others m q ne)
            ])
            refl;
        nodes = λ m ne. elim (same_or_not m at) [
          | inl p ↦ (let Q : ℕ → Type 0 = λ y. h' y ≡ heap_of s y in subst Q (sym p) (rw (same_test at at refl) refl))
          | inr q ↦ elsewhere m q ∙ ap node_of (k.others m ne q)
        ];
      } in
      let m = unlink_map a (heap_of s) a' h' above at key v len t.tree goes in
      let nr : 0 ≢ at = (λ q. let Q : ℕ → Type 0 = λ y. length (heap_of s y).prefix ≡ 7 in let y : length (heap_of s 0).prefix ≡ 7 = subst Q (sym q) seven in let z : length (heap_of s 0).prefix ≡ 0 = ap length t.tree.empty in absurd (omega (arith, y, z))) in
      let t' : Tree a' h' = unlink_tree a (heap_of s) a' h' above at key v t.tree goes in
      let agrees : (n : ℕ) → (a' n).status ≡ Linked → heap_of s' n ≡ h' n = λ n l. sym (elsewhere n (λ q. vacant_not s' t.parent at k.left (let Q : ℕ → Type 0 = λ y. (a' y).status ≡ Linked in subst Q q l))) in
      let same : (x : List ℕ) → value_at (heap_of s') x ≡ value_at h' x = λ x. agree_walk a' h' (heap_of s') agrees t' 8 0 x t'.root in (
        record { parent = t.parent; tree = agree_tree a' h' (heap_of s') agrees t'; wide = wide_after s s' above k.before k.after t.wide k.was k.now k.differs.wide (λ ne. k.others 0 ne nr); filled = drop_filled s s' key above at v t k inner },
        record { was = m.0; now = same key ∙ m.1; others = λ x lx ne. same x ∙ m.2 x lx ne },
      )

  -- a fork that came in over a node with another prefix is the key's insertion in the tree
  pub add_fork_done : (s s' : Nodes P) (key : List ℕ) (at below common over leaf : ℕ) (v : P) → length key ≡ 8 → IsTree s → OnWay s key at
      → child_for (heap_of s at) key ≡ Below below → fits (heap_of s below).prefix key ≡ false → DiffersAt key (heap_of s below).prefix common
      → AddsFork s s' key at below common over leaf v
      → IsTree s' × MapChange s s' key None (Some v)
  add_fork_done s s' key at b n c d v len t w hangs differs parts k =
      let hx : heap_of s at ≡ node_of (Some k.before) = ap node_of k.was in
      let hy : heap_of s' at ≡ node_of (Some k.after) = ap node_of k.now in
      let hb : heap_of s b ≡ node_of (Some k.lower) = ap node_of k.stands in
      let hc : heap_of s' c ≡ node_of (Some k.fork) = ap node_of k.taken_over in
      let parent' : ℕ → ℕ = λ m. cond (m == c) at (cond (m == d) c (cond (m == b) c (t.parent m))) in
      let a : ℕ → Note = notes_of s t.parent in
      let a' : ℕ → Note = notes_of s' parent' in
      let i : IsChild a (heap_of s) at (get_or key (length (heap_of s at).prefix) 0) b = is_child s t at b key w.stands hangs in
      let short : length (heap_of s b).prefix ≤ 7 = short_prefix s t b (below_stands s t at b key w.stands hangs) in
      let here : n < length (heap_of s b).prefix = parts.within in
      let long : n ≤ length key = omega (arith, len, short, here) in
      let size : length (take n key) ≡ n = length-take-le n key long in
      let pc : (heap_of s' c).prefix ≡ take n key = rw hc k.prefix in
      let lc : length (heap_of s' c).prefix ≡ n = rw pc size in
      let past : length (heap_of s at).prefix < n = parted_below (heap_of s at).prefix (heap_of s b).prefix key n w.fitted i.fitted i.longer (sym i.byte) parts in
      let ab : at ≢ b = (λ q. let z : length (heap_of s at).prefix ≡ length (heap_of s b).prefix = ap (λ y. length (heap_of s y).prefix) q in absurd (omega (arith, i.longer))) in
      let stands_not : (m x : ℕ) → ContainsKey s m → get s x ≡ None → m ≢ x = λ m x st e q. (let Q : ℕ → Type 0 = λ y. ContainsKey s y in let z : ContainsKey s x = subst Q q st in let y : false ≡ true = rw e at z in cc) in
      let bs : ContainsKey s b = stands_at s b k.lower k.stands in
      let splits : Splits a (heap_of s) a' (heap_of s') at b c d key v = record {
        linked = linked_of s t.parent at w.stands;
        fitted = w.fitted;
        hung = hangs;
        differs = differs;
        over_key = rw pc (front_fits n key long);
        over_old = rw pc (fits_every (take n key) (heap_of s b).prefix (rw size (omega (arith, here))) (λ j q. let q' : j < n = rw size at q in sym (get_or-take n key j 0 q' ∙ parts.same j q')));
        longer = rw lc past;
        shorter = rw lc here;
        apart = rw lc parts.apart;
        old_child = rw (lc, hc, hb) (ap hung_in k.old_child);
        new_child = rw (lc, hc) (ap hung_in k.new_child);
        empty = λ x no nk. let no' : x ≢ get_or (prefix_of k.lower) n 0 = rw (lc, hb) at no in let nk' : x ≢ get_or key n 0 = rw lc at nk in rw hc (ap hung_in (k.beside x no' nk'));
        leaf = leaf_of s' key d k.made v len k.taken_leaf k.has;
        unlinked_above = vacant_not s t.parent c k.vacant_over;
        unlinked_leaf = vacant_not s t.parent d k.vacant_leaf;
        prefix = rw (hx, hy) k.differs.prefix;
        child = rw (hx, hy) (ap hung_in k.differs.here);
        beside = λ x ne. let ne' : x ≢ get_or key (length (prefix_of k.before)) 0 = rw hx at ne in rw (hx, hy) (ap hung_in (k.differs.beside x ne'));
        joined_above = linked_of s' parent' c (stands_at s' c k.fork k.taken_over);
        parent_above = rw (same_test c c refl) refl;
        joined_leaf = linked_of s' parent' d (stands_at s' d k.made k.taken_leaf);
        parent_leaf = rw (other_test d c (λ q. k.apart (sym q)), same_test d d refl) refl;
        stays_old = linked_of s' parent' b (stands_at s' b k.lower (k.others b (stands_not b c bs k.vacant_over) (stands_not b d bs k.vacant_leaf) (λ q. ab (sym q)) ∙ k.stands));
        parent_old = rw (other_test b c (stands_not b c bs k.vacant_over), other_test b d (stands_not b d bs k.vacant_leaf), same_test b b refl) refl;
        notes = λ m nc nd nb. note_same s s' t.parent parent' m
            (elim (same_or_not m at) [
              | inl p ↦ (let Q : ℕ → Type 0 = λ y. is_some (get s' y) ≡ is_some (get s y) in subst Q (sym p) (rw (k.now, k.was) refl))
              | inr q ↦ ap is_some (k.others m nc nd q)
            ])
            (rw (other_test m c nc, other_test m d nd, other_test m b nb) refl);
        nodes = λ m nc nd na. ap node_of (k.others m nc nd na);
      } in
      let m = split_map a (heap_of s) a' (heap_of s') at b c d key v len t.tree splits in (
        record { parent = parent'; tree = split_tree a (heap_of s) a' (heap_of s') at b c d key v t.tree splits; wide = wide_after s s' at k.before k.after t.wide k.was k.now k.differs.wide (λ ne. k.others 0 (root_not s t c k.vacant_over) (root_not s t d k.vacant_leaf) ne); filled = fork_filled s s' key at b n c d v t k },
        record { was = m.0; now = m.1; others = m.2 },
      )
