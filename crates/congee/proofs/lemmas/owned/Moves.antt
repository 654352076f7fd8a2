-- What single changes of nodes make of the tree, one after another.
use Rattle.std.proofs.Common.{rules, ◌≡◌, ◌≢◌, ℕ, ◌<◌, true, false, List, length, get_or, refl, sym, ◌∙◌, ap, subst}
use Rattle.std.specs.Prelude.{Option, Some, None, is_some, IsSome}
use Rattle.std.specs.Ordering.{nat_cmp}
use Rattle.std.specs.FinMap as map
use Rattle.std.specs.FinMap.{gets}
use Rattle.std.specs.Cmp.{nat_cmp_total}
use Rattle.slab.specs.Slab.{get, ContainsKey, Updates}
use Rattle.congee.specs.Heap.{Holds, Nothing, child_for}
use Rattle.congee.specs.forms.Forms.{prefix_of, children_of, form_of, capacity_of, is_full_of, Becomes}
use Rattle.congee.specs.owned.Arena.{Nodes, hung_in, node_of, heap_of, IsFilled, IsTree, OnWay, Hangs}
use Rattle.congee.specs.owned.Sizes.{bytes_of}
use Rattle.congee.specs.owned.Changes.{Differs, MapChange, DropsLeaf}
use Rattle.congee.specs.owned.OwnedSteps.{Sets, Makes, MakesRoom, FreshNode, IsHeld}
use Rattle.congee.specs.declared.forms.base_node.Node.{Node as Form}
use Rattle.congee.specs.declared.forms.base_node.NodeType.TheVariants.{N4}
use Rattle.congee.specs.declared.forms.child.Child.{Child}
use Rattle.congee.specs.declared.forms.child.Child.TheVariants.{Blank, Node as Sub, Value}
use Rattle.congee.proofs.lemmas.owned.Puts.{put_child}
use Rattle.congee.proofs.lemmas.owned.Filled.{filled_some, filled_with, has_further}
use Rattle.congee.proofs.lemmas.owned.Ways.{linked_of, above_apart}
use Rattle.congee.proofs.lemmas.owned.Sizes.{sets_bytes}
use Rattle.congee.proofs.lemmas.forms.Full.{full_at, full_is}
use Rattle.congee.proofs.lemmas.owned.Edits.{child_of, put_done}
use Rattle.congee.proofs.lemmas.owned.Joins.{drop_leaf_done}
pub use Rattle.congee.proofs.lemmas.owned.Joins.{stands_at}
pub use Rattle.congee.proofs.lemmas.forms.MapLemmas.{insert_at, insert_beside, remove_at, remove_beside}

-- look-ups in a map of children after a change at one byte
module _ {X : Type 0} where
  -- an empty map into which a pair is put has one
  pub len_one : (k : ℕ) (x : X) → map.len (map.insert {R = nat_cmp} map.empty k x) ≡ 1
  len_one k x = grind (gets, rules)

  -- a map of one pair has nothing elsewhere
  pub single : (m : map.FinMap nat_cmp X) (k : ℕ) (x : X) (q : ℕ) → map.len m ≡ 1 → map.get m k ≡ Some x → q ≢ k → map.get m q ≡ None
  single m k x q one e ne =
      let c : map.contains_key m k ≡ true = ap is_some e in
      let l : map.len (map.remove m k) ≡ 0 = map.len-remove nat_cmp_total m k ∙ rw (c, one) refl in
      let z : map.remove m k ≡ map.empty = map.empty_of_len (map.remove m k) l in
      sym (remove_beside m k q ne) ∙ (ap (λ n. map.get n q) z ∙ map.get-empty _ q)

module _ {P : Type 0} where
  -- the node at a name
  pub node_at : (s : Nodes P) (n : ℕ) → ContainsKey s n → (x : Form ℕ P) × (get s n ≡ Some x)
  node_at s n h = of (get s n) h
    where
      of : (o : Option (Form ℕ P)) → IsSome o → (x : Form ℕ P) × (o ≡ Some x)
      of None h = absurd (cc h)
      of (Some x) h = (x, refl)

  -- two nodes that are read under one name are one
  pub one_node : (s : Nodes P) (n : ℕ) (x y : Form ℕ P) → get s n ≡ Some x → get s n ≡ Some y → x ≡ y
  one_node s n x y e f = let z : Some x ≡ Some y = sym e ∙ f in cc

  held_child : (o : Option (Child ℕ P)) (v : P) → hung_in o ≡ Holds v → o ≡ Some (Value v)
  held_child None v e = absurd (cc)
  held_child (Some Blank) v e = absurd (cc)
  held_child (Some (Sub c)) v e = absurd (cc)
  held_child (Some (Value w)) v e = ap (λ z. Some (Value z)) (let f : Holds w ≡ Holds v = e in cc)

  free_child : (o : Option (Child ℕ P)) → hung_in o ≡ Nothing → o ≡ None
  free_child None e = refl
  free_child (Some Blank) e = absurd (cc)
  free_child (Some (Sub c)) e = absurd (cc)
  free_child (Some (Value w)) e = absurd (cc)

  -- a node that gets a child differs from the one before by this child alone
  pub differs_insert : (x y : Form ℕ P) (byte : ℕ) (c : Child ℕ P) → Becomes x y (map.insert (children_of x) byte c) → Differs x y byte (Some c)
  differs_insert x y byte c b = record {
    prefix = b.prefix;
    here = ap (λ m. map.get m byte) b.children ∙ insert_at (children_of x) byte c;
    beside = λ q ne. ap (λ m. map.get m q) b.children ∙ insert_beside (children_of x) byte c q ne;
    wide = λ w. ap capacity_of b.form ∙ w;
  }

  -- a node that loses a child differs from the one before by this child alone
  pub differs_remove : (x y : Form ℕ P) (byte : ℕ) → Becomes x y (map.remove (children_of x) byte) → Differs x y byte None
  differs_remove x y byte b = record {
    prefix = b.prefix;
    here = ap (λ m. map.get m byte) b.children ∙ remove_at (children_of x) byte;
    beside = λ q ne. ap (λ m. map.get m q) b.children ∙ remove_beside (children_of x) byte q ne;
    wide = λ w. ap capacity_of b.form ∙ w;
  }

  updates_twice : (s s' s'' : Nodes P) (at : ℕ) (o p : Option (Form ℕ P)) → Updates s s' at o → Updates s' s'' at p → Updates s s'' at p
  updates_twice s s' s'' at o p u w = record { changed = w.changed; others = λ m ne. w.others m ne ∙ u.others m ne }

  -- what a leaf has for the key changes
  leaf_edit : (s s' : Nodes P) (key : List ℕ) (at : ℕ) (x y : Form ℕ P) (old new : Option P) → length key ≡ 8 → IsTree s → OnWay s key at
      → get s at ≡ Some x → length (heap_of s at).prefix ≡ 7 → map.get (children_of x) (get_or key (length (heap_of s at).prefix) 0) ≡ child_of old
      → Differs x y (get_or key (length (heap_of s at).prefix) 0) (child_of new) → IsFilled (Some y) → Updates s s' at (Some y)
      → IsTree s' × MapChange s s' key old new
  leaf_edit s s' key at x y old new len t w e seven was d filled u =
      let hx : heap_of s at ≡ node_of (Some x) = ap node_of e in
      let p : (heap_of s at).prefix ≡ prefix_of x = ap (λ n. n.prefix) hx in
      let was' : map.get (children_of x) (get_or key (length (prefix_of x)) 0) ≡ child_of old = rw p at was in
      put_done s s' key at x y old new len t w e (rw p at seven)
      (rw hx (ap hung_in was' ∙ plain old))
      (rw p at d) filled u
    where
      plain : (o : Option P) → hung_in (child_of o) ≡ put_child o
      plain None = refl
      plain (Some v) = refl

  -- a node of a tree that has a value for a key on its way has a prefix of seven bytes
  pub held_seven : (s : Nodes P) (key : List ℕ) (at : ℕ) → IsTree s → OnWay s key at → (h : IsHeld s key at) → length (heap_of s at).prefix ≡ 7
  held_seven s key at t w h = t.tree.leaves at _ h.value (linked_of s t.parent at w.stands) h.holds

  -- the child behind a value
  pub held_is : (s : Nodes P) (key : List ℕ) (at : ℕ) (x : Form ℕ P) → get s at ≡ Some x → (h : IsHeld s key at)
      → map.get (children_of x) (get_or key (length (heap_of s at).prefix) 0) ≡ Some (Value h.value)
  held_is s key at x e h =
      let hx : heap_of s at ≡ node_of (Some x) = ap node_of e in
      let f : hung_in (map.get (children_of x) (get_or key (length (prefix_of x)) 0)) ≡ Holds h.value = rw hx at h.holds in
      rw hx (held_child _ h.value f)

  -- a node that was just made
  pub fresh_absent : (s : Nodes P) (n : ℕ) (p : List ℕ) → FreshNode s n p → (x : Form ℕ P) → get s n ≡ Some x → (b : ℕ) → map.get (children_of x) b ≡ None
  fresh_absent s n p f x e b =
      let i : x ≡ f.node = one_node s n x f.node e f.stands in
      ap (λ y. map.get (children_of y) b) i ∙ (ap (λ m. map.get m b) f.children ∙ map.get-empty _ b)

  -- a node that was just made isn't full
  pub fresh_room : (s : Nodes P) (n : ℕ) (p : List ℕ) → FreshNode s n p → (x : Form ℕ P) → get s n ≡ Some x → is_full_of x ≡ false
  fresh_room s n p f x e =
      let i : x ≡ f.node = one_node s n x f.node e f.stands in
      ap is_full_of i ∙ full_is f.node ∙ (ap (λ t. full_at t (map.len (children_of f.node))) f.form ∙ (ap (λ m. full_at N4 (map.len m)) f.children ∙ grind (gets, rules)))

  -- a node that was made is fresh, in each later arena where it stands as it was made
  pub fresh_made : (s s' s'' : Nodes P) (n : ℕ) (p : List ℕ) → Makes s s' n p → get s'' n ≡ get s' n → FreshNode s'' n p
  fresh_made s s' s'' n p k e = record { node = k.node; stands = e ∙ k.updates.changed; form = k.form; prefixed = k.prefixed; children = k.children }

  -- another value in the place of the key's
  pub replaced : (s s' : Nodes P) (key : List ℕ) (at byte : ℕ) (old new : P) → length key ≡ 8 → IsTree s → OnWay s key at → IsHeld s key at
      → byte ≡ get_or key (length (heap_of s at).prefix) 0
      → ((x : Form ℕ P) → get s at ≡ Some x → Some (Value old) ≡ map.get (children_of x) byte)
      → ((x : Form ℕ P) → get s at ≡ Some x → Sets s s' at x (map.insert (children_of x) byte (Value new)))
      → (IsTree s' × MapChange s s' key (Some old) (Some new)) × (bytes_of s' ≡ bytes_of s)
  replaced s s' key at byte old new len t w h b was node =
      let n = node_at s at w.stands in
      let k = node n.0 n.1 in
      let W : ℕ → Type 0 = λ z. map.get (children_of n.0) z ≡ Some (Value old) in
      let D : ℕ → Type 0 = λ z. Differs n.0 k.node z (Some (Value new)) in (
        leaf_edit s s' key at n.0 k.node (Some old) (Some new) len t w n.1 (held_seven s key at t w h) (subst W b (sym (was n.0 n.1)))
            (subst D b (differs_insert n.0 k.node byte (Value new) k.becomes))
            (filled_with k.node byte (Value new) (differs_insert n.0 k.node byte (Value new) k.becomes).here) k.updates,
        sets_bytes s s' at n.0 _ n.1 k,
      )

  -- the key's value goes, others stay
  pub taken : (s s' : Nodes P) (key : List ℕ) (at byte : ℕ) (old : P) → length key ≡ 8 → IsTree s → OnWay s key at → IsHeld s key at
      → ((x : Form ℕ P) → get s at ≡ Some x → map.len (children_of x) ≢ 1)
      → byte ≡ get_or key (length (heap_of s at).prefix) 0
      → ((x : Form ℕ P) → get s at ≡ Some x → Some (Value old) ≡ map.get (children_of x) byte)
      → ((x : Form ℕ P) → get s at ≡ Some x → Sets s s' at x (map.remove (children_of x) byte))
      → (IsTree s' × MapChange s s' key (Some old) None) × (bytes_of s' ≡ bytes_of s)
  taken s s' key at byte old len t w h others b was node =
      let n = node_at s at w.stands in
      let k = node n.0 n.1 in
      let W : ℕ → Type 0 = λ z. map.get (children_of n.0) z ≡ Some (Value old) in
      let D : ℕ → Type 0 = λ z. Differs n.0 k.node z None in
      let more : 0 < map.len (children_of k.node) = subst (λ m. 0 < map.len m) (sym k.becomes.children) (has_further (children_of n.0) byte (Value old) (sym (was n.0 n.1)) (others n.0 n.1)) in (
        leaf_edit s s' key at n.0 k.node (Some old) None len t w n.1 (held_seven s key at t w h) (subst W b (sym (was n.0 n.1)))
            (subst D b (differs_remove n.0 k.node byte k.becomes)) (filled_some k.node (λ _. more)) k.updates,
        sets_bytes s s' at n.0 _ n.1 k,
      )

  free_is : (s : Nodes P) (key : List ℕ) (at : ℕ) (x : Form ℕ P) → get s at ≡ Some x → child_for (heap_of s at) key ≡ Nothing
      → map.get (children_of x) (get_or key (length (prefix_of x)) 0) ≡ None
  free_is s key at x e f =
      let hx : heap_of s at ≡ node_of (Some x) = ap node_of e in
      free_child _ (rw hx at f)

  -- the prefix that the tree sees under a name is that of the node there
  pub prefix_at : (s : Nodes P) (at : ℕ) (x : Form ℕ P) → get s at ≡ Some x → (heap_of s at).prefix ≡ prefix_of x
  prefix_at s at x e = rw e refl

  -- a name with a node and one without are two
  pub apart_of : (s : Nodes P) (m n : ℕ) (x : Form ℕ P) → get s m ≡ Some x → get s n ≡ None → m ≢ n
  apart_of s m n x e f q = let Q : ℕ → Type 0 = λ y. get s y ≡ Some x in let z : None ≡ Some x = sym f ∙ subst Q q e in cc

  -- node `at` as before, in another slab, with room
  pub record Roomy (s s' : Nodes P) (at : ℕ) : Type 0 where
    pub before : Form ℕ P
    pub was : get s at ≡ Some before
    pub node : Form ℕ P
    pub now : get s' at ≡ Some node
    pub prefix : prefix_of node ≡ prefix_of before
    pub children : children_of node ≡ children_of before
    pub room : is_full_of node ≡ false
    pub wide : capacity_of (form_of before) ≡ 256 → capacity_of (form_of node) ≡ 256

  -- a node that was given room stands
  pub roomy_stands : (s s' : Nodes P) (at : ℕ) → Roomy s s' at → ContainsKey s' at
  roomy_stands s s' at r = stands_at s' at r.node r.now

  -- the key's byte at the node with room is the one that it was at the node before
  pub roomy_byte : (s s' : Nodes P) (key : List ℕ) (at byte : ℕ) → (r : Roomy s s' at) → byte ≡ get_or key (length (heap_of s' at).prefix) 0 → byte ≡ get_or key (length (prefix_of r.before)) 0
  roomy_byte s s' key at byte r b = b ∙ ap (λ p. get_or key (length p) 0) (prefix_at s' at r.node r.now ∙ r.prefix)

  -- what had nothing at the key's byte has nothing there with room
  pub roomy_absent : (s s' : Nodes P) (key : List ℕ) (at byte : ℕ) → (r : Roomy s s' at) → child_for (heap_of s at) key ≡ Nothing → byte ≡ get_or key (length (heap_of s' at).prefix) 0
      → (x : Form ℕ P) → get s' at ≡ Some x → map.get (children_of x) byte ≡ None
  roomy_absent s s' key at byte r f b x e =
      let i : x ≡ r.node = one_node s' at x r.node e r.now in
      ap (λ y. map.get (children_of y) byte) i ∙ (ap (λ m. map.get m byte) r.children ∙ (ap (map.get (children_of r.before)) (roomy_byte s s' key at byte r b) ∙ free_is s key at r.before r.was f))

  -- a node that was given room isn't full
  pub roomy_room : (s s' : Nodes P) (at : ℕ) → Roomy s s' at → (x : Form ℕ P) → get s' at ≡ Some x → is_full_of x ≡ false
  roomy_room s s' at r x e = ap is_full_of (one_node s' at x r.node e r.now) ∙ r.room

  roomy_differs : (s s' s'' : Nodes P) (key : List ℕ) (at byte : ℕ) (ch : Child ℕ P) → (r : Roomy s s' at) → byte ≡ get_or key (length (heap_of s' at).prefix) 0
      → (k : Sets s' s'' at r.node (map.insert (children_of r.node) byte ch)) → Differs r.before k.node (get_or key (length (prefix_of r.before)) 0) (Some ch)
  roomy_differs s s' s'' key at byte ch r b k =
      let d = differs_insert r.node k.node byte ch k.becomes in
      let D : ℕ → Type 0 = λ z. Differs r.before k.node z (Some ch) in
      subst D (roomy_byte s s' key at byte r b) (record {
        prefix = d.prefix ∙ r.prefix;
        here = d.here;
        beside = λ q ne. d.beside q ne ∙ ap (λ m. map.get m q) r.children;
        wide = λ w. d.wide (r.wide w);
      })

  -- a node for which room was made is the one before, with room
  pub grown_roomy : (s s' : Nodes P) (at : ℕ) → ContainsKey s at → ((x : Form ℕ P) → get s at ≡ Some x → MakesRoom s s' at x) → Roomy s s' at
  grown_roomy s s' at st g =
      let n = node_at s at st in
      let k = g n.0 n.1 in
      record { before = n.0; was = n.1; node = k.node; now = k.updates.changed; prefix = k.prefixed; children = k.children; room = k.room; wide = k.wide }

  -- a value comes into a leaf
  pub value_added : (s s1 s2 : Nodes P) (key : List ℕ) (at byte : ℕ) (v : P) → length key ≡ 8 → IsTree s → OnWay s key at
      → child_for (heap_of s at) key ≡ Nothing → length (heap_of s at).prefix ≡ 7
      → ((x : Form ℕ P) → get s at ≡ Some x → MakesRoom s s1 at x)
      → byte ≡ get_or key (length (heap_of s1 at).prefix) 0
      → ((x : Form ℕ P) → get s1 at ≡ Some x → Sets s1 s2 at x (map.insert (children_of x) byte (Value v)))
      → (IsTree s2 × MapChange s s2 key None (Some v)) × (bytes_of s2 ≡ bytes_of s1)
  value_added s s1 s2 key at byte v len t w f seven g b sets =
      let r = grown_roomy s s1 at w.stands g in
      let n = node_at s at w.stands in
      let k0 = g r.before r.was in
      let k = sets r.node r.now in
      let p : (heap_of s at).prefix ≡ prefix_of r.before = prefix_at s at r.before r.was in
      let d = roomy_differs s s1 s2 key at byte (Value v) r b k in (
        leaf_edit s s2 key at r.before k.node None (Some v) len t w r.was seven (rw p (free_is s key at r.before r.was f)) (rw p d) (filled_with k.node _ (Value v) d.here)
            (updates_twice s s1 s2 at _ _ k0.updates k.updates),
        sets_bytes s1 s2 at r.node _ r.now k,
      )

  -- a leaf goes with its only value
  pub leaf_dropped : (s0 s1 s2 s3 : Nodes P) (key : List ℕ) (above at byte up : ℕ) (v : P) → length key ≡ 8 → IsTree s0 → OnWay s0 key at → (h : IsHeld s0 key at)
      → Hangs s0 key above at → ((x : Form ℕ P) → get s0 at ≡ Some x → map.len (children_of x) ≡ 1)
      → byte ≡ get_or key (length (heap_of s0 at).prefix) 0
      → ((x : Form ℕ P) → get s0 at ≡ Some x → Some (Value v) ≡ map.get (children_of x) byte)
      → ((x : Form ℕ P) → get s0 at ≡ Some x → Sets s0 s1 at x (map.remove (children_of x) byte))
      → up ≡ get_or key (length (heap_of s1 above).prefix) 0
      → ((x : Form ℕ P) → get s1 above ≡ Some x → Sets s1 s2 above x (map.remove (children_of x) up))
      → Updates s2 s3 at None
      → (IsTree s3 × MapChange s0 s3 key (Some v) None) × (bytes_of s2 ≡ bytes_of s0)
  leaf_dropped s0 s1 s2 s3 key above at byte up v len t w h hangs one b was sets1 bu sets2 u =
      let seven : length (heap_of s0 at).prefix ≡ 7 = held_seven s0 key at t w h in
      let l = node_at s0 at w.stands in
      let n = node_at s0 above hangs.way.stands in
      let ne : above ≢ at = above_apart s0 t key above at hangs in
      let j = sets1 l.0 l.1 in
      let e1 : get s1 above ≡ Some n.0 = j.updates.others above ne ∙ n.1 in
      let k = sets2 n.0 e1 in
      let pl : (heap_of s0 at).prefix ≡ prefix_of l.0 = prefix_at s0 at l.0 l.1 in
      let bl : byte ≡ get_or key (length (prefix_of l.0)) 0 = b ∙ ap (λ p. get_or key (length p) 0) pl in
      let bn : up ≡ get_or key (length (prefix_of n.0)) 0 = bu ∙ ap (λ p. get_or key (length p) 0) (prefix_at s1 above n.0 e1) in
      let d = differs_remove n.0 k.node up k.becomes in
      let D : ℕ → Type 0 = λ z. Differs n.0 k.node z None in
      let W : ℕ → Type 0 = λ z. map.get (children_of l.0) z ≡ Some (Value v) in
      let value : map.get (children_of l.0) (get_or key (length (prefix_of l.0)) 0) ≡ Some (Value v) = subst W bl (sym (was l.0 l.1)) in
      let drops : DropsLeaf s0 s3 key above at v = record {
        before = n.0;
        after = k.node;
        last = l.0;
        was = n.1;
        now = u.others above ne ∙ k.updates.changed;
        differs = subst D bn d;
        stood = l.1;
        value = value;
        beside = λ q nq. single (children_of l.0) (get_or key (length (prefix_of l.0)) 0) (Value v) q (one l.0 l.1) value nq;
        left = u.changed;
        others = λ m nm na. u.others m na ∙ (k.updates.others m nm ∙ j.updates.others m na);
      } in (
        drop_leaf_done s0 s3 key above at v len t w hangs seven drops,
        sets_bytes s1 s2 above n.0 _ e1 k ∙ sets_bytes s0 s1 at l.0 _ l.1 j,
      )

  -- the node above a leaf after the leaf's value was taken
  pub up_stands : (s0 s1 : Nodes P) (key : List ℕ) (above at byte : ℕ) → IsTree s0 → OnWay s0 key at → Hangs s0 key above at
      → ((x : Form ℕ P) → get s0 at ≡ Some x → Sets s0 s1 at x (map.remove (children_of x) byte)) → get s1 above ≡ get s0 above
  up_stands s0 s1 key above at byte t w hangs sets1 =
      let l = node_at s0 at w.stands in
      (sets1 l.0 l.1).updates.others above (above_apart s0 t key above at hangs)

  -- and the leaf itself stands still
  pub leaf_stands : (s0 s1 s2 : Nodes P) (key : List ℕ) (above at byte up : ℕ) → IsTree s0 → OnWay s0 key at → Hangs s0 key above at
      → ((x : Form ℕ P) → get s0 at ≡ Some x → Sets s0 s1 at x (map.remove (children_of x) byte))
      → ((x : Form ℕ P) → get s1 above ≡ Some x → Sets s1 s2 above x (map.remove (children_of x) up)) → ContainsKey s2 at
  leaf_stands s0 s1 s2 key above at byte up t w hangs sets1 sets2 =
      let l = node_at s0 at w.stands in
      let n = node_at s0 above hangs.way.stands in
      let ne : above ≢ at = above_apart s0 t key above at hangs in
      let j = sets1 l.0 l.1 in
      let k = sets2 n.0 (j.updates.others above ne ∙ n.1) in
      stands_at s2 at j.node (k.updates.others at (λ q. ne (sym q)) ∙ j.updates.changed)
