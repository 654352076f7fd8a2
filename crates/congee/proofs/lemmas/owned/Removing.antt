-- A removal on an arena, step by step: a leaf goes, the node above it loses a child, and gives place to a lesser one or to its
-- other child.
use Rattle.std.proofs.Common.{◌≡◌, ◌≢◌, ℕ, zero, suc, ◌+◌, ◌-◌, ◌<◌, ◌≤◌, ◌⊎◌, ◌==◌, inl, inr, Bool, true, false, cond, List, [], ◌∷◌, length, get_or, refl, sym, ap, subst, ◌∙◌, arith}
use Rattle.std.specs.Prelude.{Option, None, Some, is_some, IsSome}
use Rattle.std.specs.Ordering.{nat_cmp}
use Rattle.std.specs.Cmp.{nat_cmp_total}
use Rattle.std.specs.FinMap as map
use Rattle.std.proofs.lemmas.Bool.Decides.{eqb_tells, nat_tests}
use Rattle.slab.specs.Slab.{get, ContainsKey, Updates}
use Rattle.congee.specs.Heap.{Node as HeapNode}
use Rattle.congee.specs.Notes.{IsChild, Linked}
use Rattle.congee.specs.forms.Forms.{Becomes, capacity_of, children_of, form_of, prefix_of, size_of}
use Rattle.congee.specs.owned.Arena.{Nodes, hung_in, node_of, heap_of, notes_of, IsTree, OnWay, Hangs}
use Rattle.congee.specs.owned.Changes.{MapChange}
use Rattle.congee.specs.owned.Entries.{first_byte}
use Rattle.congee.specs.owned.Going.{GaveWay, going_from, going_last, going_one, lesser_if, lesser_of}
use Rattle.congee.specs.owned.Lesser.{Charges, LosesChild, SameMap}
use Rattle.congee.specs.owned.Lifting.{HasOneNode, MayLift}
use Rattle.congee.specs.owned.OwnedSteps.{Sets}
use Rattle.congee.specs.owned.Sizes.{bytes_of}
use Rattle.congee.specs.owned.Stores.{LosesLeaf}
use Rattle.congee.specs.owned.Wanted.{form_by, size_by}
use Rattle.congee.specs.protocol.Steps.{form_below, shrinks}
use Rattle.congee.specs.declared.forms.base_node.Node.{Node}
use Rattle.congee.specs.declared.forms.base_node.Node.TheVariants.{N4, N16, N48, N256}
use Rattle.congee.specs.declared.forms.base_node.NodeType.{NodeType}
use Rattle.congee.specs.declared.forms.base_node.NodeType.TheVariants.{N4 as T4, N16 as T16, N48 as T48, N256 as T256}
use Rattle.congee.specs.declared.forms.child.Child.{Child}
use Rattle.congee.specs.declared.forms.child.Child.TheVariants.{Blank, Node as Sub, Value}
use Rattle.congee.proofs.lemmas.owned.Hangings.{above_inner, child_there, only_pair}
use Rattle.congee.proofs.lemmas.owned.Firsts.{first_below}
use Rattle.congee.proofs.lemmas.owned.Moves.{insert_at, node_at, one_node, prefix_at, stands_at}
use Rattle.congee.proofs.lemmas.owned.Ways.{above_apart, is_child, linked_of, stands_of}

module _ {P : Type 0} where
  form_is : (x : Node ℕ P) → form_by (node_of (Some x)).capacity ≡ form_of x
  form_is (N4 n) = refl
  form_is (N16 n) = refl
  form_is (N48 n) = refl
  form_is (N256 n) = refl

  -- a node's form and count, as the tree sees it
  pub seen_form : (s : Nodes P) (n : ℕ) (x : Node ℕ P) → get s n ≡ Some x → form_by (heap_of s n).capacity ≡ form_of x
  seen_form s n x e = ap (λ o. form_by (node_of o).capacity) e ∙ form_is x

  -- the size that the tree sees of a node is that of its form
  pub seen_size : (s : Nodes P) (n : ℕ) (x : Node ℕ P) → get s n ≡ Some x → size_by (heap_of s n).capacity ≡ size_of (form_of x)
  seen_size s n x e = ap size_of (seen_form s n x e)

  -- how many children the tree sees is how many the node has
  pub seen_count : (s : Nodes P) (n : ℕ) (x : Node ℕ P) → get s n ≡ Some x → (heap_of s n).count ≡ map.len (children_of x)
  seen_count s n x e = ap (λ o. (node_of o).count) e

  lesser_is : (s : Nodes P) (n : ℕ) (x : Node ℕ P) → get s n ≡ Some x → lesser_of (heap_of s n) ≡ lesser_if (shrinks (form_of x) (map.len (children_of x))) (form_of x)
  lesser_is s n x e = ap (λ f. lesser_if (shrinks f (heap_of s n).count) f) (seen_form s n x e) ∙ ap (λ c. lesser_if (shrinks (form_of x) c) (form_of x)) (seen_count s n x e)

module _ {P : Type 0} where
  -- as a call read the node's form and count
  pub lesser_read : (s : Nodes P) (at : ℕ) (x : Node ℕ P) (f : NodeType) (n : ℕ) → get s at ≡ Some x → f ≡ form_of x → n ≡ map.len (children_of x) → lesser_of (heap_of s at) ≡ lesser_if (shrinks f n) f
  lesser_read s at x f n e ef en =
      lesser_is s at x e ∙ (ap (λ t. lesser_if (shrinks t (map.len (children_of x))) t) (sym ef) ∙ ap (λ c. lesser_if (shrinks f c) f) (sym en))

-- a node that gives place to a lesser one is no least one, and its children fit there
shrinks_greater : (f : NodeType) (n : ℕ) → shrinks f n ≡ true → f ≢ T4
shrinks_greater T4 n s e = absurd (let z : false ≡ true = s in cc)
shrinks_greater T16 n s e = absurd (cc)
shrinks_greater T48 n s e = absurd (cc)
shrinks_greater T256 n s e = absurd (cc)

-- the children of a node that gives place to a lesser one fit in the form below
shrinks_room : (f : NodeType) (n : ℕ) → shrinks f n ≡ true → n ≤ capacity_of (form_below f)
shrinks_room T4 n e = absurd (let z : false ≡ true = e in cc)
shrinks_room T16 n e = grind (arith, nat_tests)
shrinks_room T48 n e = grind (arith, nat_tests)
shrinks_room T256 n e = grind (arith, nat_tests)

-- the least form alone has the least size
size_not_least : (f : NodeType) → f ≢ T4 → size_of f ≢ 64
size_not_least T4 ne e = ne refl
size_not_least T16 ne e = absurd (omega (arith, e))
size_not_least T48 ne e = absurd (omega (arith, e))
size_not_least T256 ne e = absurd (omega (arith, e))

-- a map without one of the keys has no more pairs than with it
pub len_left : {X : Type 0} (m : map.FinMap nat_cmp X) (k : ℕ) → map.len (map.remove m k) ≤ map.len m
len_left m k = of (map.contains_key m k) (map.len-remove nat_cmp_total m k)
  where
    of : (b : Bool) → map.len (map.remove m k) ≡ cond b (map.len m - 1) (map.len m) → map.len (map.remove m k) ≤ map.len m
    of true e = omega (arith, e)
    of false e = omega (arith, e)

-- a map without a key that it had has one pair fewer
pub len_fewer : {X : Type 0} (m : map.FinMap nat_cmp X) (k : ℕ) (x : X) → map.get m k ≡ Some x → map.len (map.remove m k) ≡ map.len m - 1
len_fewer m k x e = let c : map.contains_key m k ≡ true = ap is_some e in map.len-remove nat_cmp_total m k ∙ rw c refl

-- what a prefix begins with
first_some : (p : List ℕ) (b : ℕ) → 0 < length p → first_byte p b ≡ get_or p 0 0
first_some [] b l = absurd (omega (arith, l))
first_some (x ∷ p) b l = refl

-- what a lesser node's coming does, by the charge and the sizes before and after
abbrev pub LessensBy : (cm bm cn bn : ℕ) → NodeType → Type 0
LessensBy cm bm cn bn f =
    ((cn + size_of f ≡ cm) × (bn + size_of f ≡ bm + size_of (form_below f))) ⊎ ((cn + size_of (form_below f) ≡ cm) × (bn ≡ bm) × (form_below f ≢ T4))

-- how the charge and the sizes moved
module _ {A : Type 0} (charged limit : A → ℕ) (c0 c1 : A) where
  -- where a lesser node was charged, one was wanted, its size came to the charge, and it fitted
  pub charges_true : (b : Bool) (f : NodeType) (r : Bool) → r ≡ true → Charges charged limit c0 c1 (lesser_if b f) r → (b ≡ true) × (charged c1 ≡ charged c0 + size_of (form_below f)) × (charged c0 + size_of (form_below f) ≤ limit c0)
  charges_true true f true e k = (refl, k.charges.0, k.charges.1)
  charges_true false f true e k = absurd (k.charges)
  charges_true b f false e k = absurd (let z : false ≡ true = e in cc)

  -- where no lesser node was charged, the charge is as it was
  pub charges_false : (b : Bool) (f : NodeType) (r : Bool) → r ≡ false → Charges charged limit c0 c1 (lesser_if b f) r → charged c1 ≡ charged c0
  charges_false true f false e k = k.charges.0
  charges_false false f false e k = k.charges
  charges_false b f true e k = absurd (let z : true ≡ false = e in cc)

  -- the charge is no less
  pub charges_more : (b : Bool) (f : NodeType) (r : Bool) → Charges charged limit c0 c1 (lesser_if b f) r → charged c0 ≤ charged c1
  charges_more true f true k = (let z = k.charges.0 in omega (arith, z))
  charges_more false f true k = absurd (k.charges)
  charges_more true f false k = (let z = k.charges.0 in omega (arith, z))
  charges_more false f false k = (let z = k.charges in omega (arith, z))

  -- no lesser node was charged
  pub stayed : (b : Bool) (f : NodeType) (r : Bool) (before after gone : ℕ) → r ≡ false → Charges charged limit c0 c1 (lesser_if b f) r → after + gone ≡ before → GaveWay (charged c0) (limit c0) before after gone (lesser_if b f)
  stayed true f false before after gone q k e = inr (e, inl k.charges.1)
  stayed false f false before after gone q k e = e
  stayed b f true before after gone q k e = absurd (let z : true ≡ false = q in cc)

  -- one was, after which nodes of so many bytes went
  module _ (cm bm cn bn : ℕ) where
    -- where a lesser node was charged, the sizes move as where a node gives way
    pub gave_way : (b : Bool) (f : NodeType) (r : Bool) (before gone : ℕ) → r ≡ true → Charges charged limit c0 c1 (lesser_if b f) r → bm + gone ≡ before → LessensBy cm bm cn bn f
        → GaveWay (charged c0) (limit c0) before bn gone (lesser_if b f)
    gave_way false f true before gone q k e l = absurd (k.charges)
    gave_way true f true before gone q k e l = elim l [
      | inl m ↦ inl (k.charges.1, (let z = m.1 in omega (arith, z, e)))
      | inr m ↦ inr ((let z = m.1 in omega (arith, z, e)), inr (size_not_least (form_below f) m.2))
    ]
    gave_way b f false before gone q k e l = absurd (let z : false ≡ true = q in cc)

    -- where a lesser node was charged, and its coming is done, the charge moves as the nodes' sizes do
    pub gave_balance : (b : Bool) (f : NodeType) (r : Bool) (before gone : ℕ) → r ≡ true → Charges charged limit c0 c1 (lesser_if b f) r → cm + gone ≡ charged c1 → bm + gone ≡ before → LessensBy cm bm cn bn f
        → cn + before ≡ charged c0 + bn
    gave_balance b f r before gone q k c e l =
        let z = (charges_true b f r q k).1 in
        elim l [
          | inl m ↦ (let y = m.0 in let w = m.1 in omega (arith, z, c, e, y, w))
          | inr m ↦ (let y = m.0 in let w = m.1 in omega (arith, z, c, e, y, w))
        ]

  -- what a lesser node's coming wants, where the node lost a child
  module _ {P : Type 0} (mid : Nodes P) (at : ℕ) (old new : Node ℕ P) (f : NodeType) (n : ℕ) (r : Bool) (is : r ≡ true) (ef : f ≡ form_of old) (en : n ≡ map.len (children_of old)) (now : get mid at ≡ Some new)
      (form : form_of new ≡ form_of old) (fewer : map.len (children_of new) ≤ map.len (children_of old)) (k : Charges charged limit c0 c1 (lesser_if (shrinks f n) f) r) where
    small : shrinks f n ≡ true
    small = (charges_true (shrinks f n) f r is k).0

    form_there : (x : Node ℕ P) → get mid at ≡ Some x → form_of x ≡ f
    form_there x e = ap form_of (one_node mid at x new e now) ∙ (form ∙ sym ef)

    -- a node for which a lesser one was charged isn't of the least form
    pub ready_greater : (x : Node ℕ P) → get mid at ≡ Some x → form_of x ≢ T4
    ready_greater x e q = shrinks_greater f n small (sym (form_there x e) ∙ q)

    -- the children of a node for which a lesser one was charged fit in the form below
    pub ready_room : (x : Node ℕ P) → get mid at ≡ Some x → map.len (children_of x) ≤ capacity_of (form_below (form_of x))
    ready_room x e =
        let l : map.len (children_of x) ≡ map.len (children_of new) = ap (λ y. map.len (children_of y)) (one_node mid at x new e now) in
        let c : capacity_of (form_below (form_of x)) ≡ capacity_of (form_below f) = ap (λ y. capacity_of (form_below y)) (form_there x e) in
        let m = shrinks_room f n small in
        omega (arith, l, c, m, en, fewer)

    -- the charge covers the sizes of the nodes and of a lesser one that was charged
    pub ready_covered : (cm gone : ℕ) → cm + gone ≡ charged c1 → bytes_of mid + gone ≤ charged c0 → (x : Node ℕ P) → get mid at ≡ Some x → bytes_of mid + size_of (form_below (form_of x)) ≤ cm
    ready_covered cm gone e b x h =
        let c : size_of (form_below (form_of x)) ≡ size_of (form_below f) = ap (λ y. size_of (form_below y)) (form_there x h) in
        let m = (charges_true (shrinks f n) f r is k).1 in
        omega (arith, e, b, c, m)

module _ {P : Type 0} where
  -- the map changes as it does before nodes move
  pub kept_change : (s s' s'' : Nodes P) (key : List ℕ) (before after : Option P) → length key ≡ 8 → MapChange s s' key before after → SameMap s' s'' → MapChange s s'' key before after
  kept_change s s' s'' key before after len c k = record {
    was = c.was;
    now = k.values key len ∙ c.now;
    others = λ q l ne. k.values q l ∙ c.others q l ne;
  }

  -- the node above a leaf that went
  pub lost_child : (s s' : Nodes P) (key : List ℕ) (above at up : ℕ) (v : P) → IsTree s → Hangs s key above at → up ≡ get_or key (length (heap_of s above).prefix) 0
      → ((x : Node ℕ P) → get s above ≡ Some x → LosesLeaf s s' above x up v) → LosesChild s s' key above at
  lost_child s s' key above at up v t h b takes =
      let n = node_at s above h.way.stands in
      let k = takes n.0 n.1 in
      let leaf : k.leaf ≡ at = same_name (map.get (children_of n.0) up) k.leaf at k.child (child_there s t key above at h.way.stands h.child n.0 n.1 up b) in
      let place : up ≡ get_or key (length (prefix_of n.0)) 0 = b ∙ ap (λ p. get_or key (length p) 0) (prefix_at s above n.0 n.1) in
      let B : ℕ → Type 0 = λ y. Becomes n.0 k.node (map.remove (children_of n.0) y) in
      record { old = n.0; new = k.node; was = n.1; now = k.now; becomes = subst B place k.becomes; left = subst (λ z. get s' z ≡ None) leaf k.left; others = λ m na nt. k.others m na (λ e. nt (e ∙ leaf)) }
    where
      same_name : (o : Option (Child ℕ P)) (m n : ℕ) → o ≡ Some (Sub m) → o ≡ Some (Sub n) → m ≡ n
      same_name o m n e h = let a : Child ℕ P = Sub m in let d : Child ℕ P = Sub n in let z : Some a ≡ Some d = sym e ∙ h in cc

  -- a leaf whose value, place above and slot go one after the other is a child that its parent loses
  pub dropped_child : (s0 s1 s2 s3 : Nodes P) (key : List ℕ) (above at byte up : ℕ) → IsTree s0 → OnWay s0 key at → Hangs s0 key above at
      → ((x : Node ℕ P) → get s0 at ≡ Some x → Sets s0 s1 at x (map.remove (children_of x) byte))
      → up ≡ get_or key (length (heap_of s1 above).prefix) 0
      → ((x : Node ℕ P) → get s1 above ≡ Some x → Sets s1 s2 above x (map.remove (children_of x) up)) → Updates s2 s3 at None → LosesChild s0 s3 key above at
  dropped_child s0 s1 s2 s3 key above at byte up t w h sets1 b sets2 u =
      let ne : above ≢ at = above_apart s0 t key above at h in
      let l = node_at s0 at w.stands in
      let n = node_at s0 above h.way.stands in
      let j = sets1 l.0 l.1 in
      let e1 : get s1 above ≡ Some n.0 = j.updates.others above ne ∙ n.1 in
      let k = sets2 n.0 e1 in
      let place : up ≡ get_or key (length (prefix_of n.0)) 0 = b ∙ ap (λ p. get_or key (length p) 0) (prefix_at s1 above n.0 e1) in
      let B : ℕ → Type 0 = λ y. Becomes n.0 k.node (map.remove (children_of n.0) y) in
      record {
        old = n.0;
        new = k.node;
        was = n.1;
        now = u.others above ne ∙ k.updates.changed;
        becomes = subst B place k.becomes;
        left = u.changed;
        others = λ m na nt. u.others m nt ∙ (k.updates.others m na ∙ j.updates.others m nt);
      }

  -- what that node has then
  module _ (s s' : Nodes P) (key : List ℕ) (above at : ℕ) (t : IsTree s) (h : Hangs s key above at) (k : LosesChild s s' key above at) where
    child_lost : map.get (children_of k.old) (get_or key (length (prefix_of k.old)) 0) ≡ Some (Sub at)
    child_lost = child_there s t key above at h.way.stands h.child k.old k.was _ (ap (λ p. get_or key (length p) 0) (sym (prefix_at s above k.old k.was)))

    -- a node that lost a child has one child fewer
    pub fewer : map.len (children_of k.new) ≡ map.len (children_of k.old) - 1
    fewer = ap map.len k.becomes.children ∙ len_fewer (children_of k.old) _ (Sub at) child_lost

    lost_inner : length (prefix_of k.new) < 7
    lost_inner =
        let p : length (prefix_of k.new) ≡ length (prefix_of k.old) = ap length k.becomes.prefix in
        let l = above_inner s t key above at h.way.stands h.child k.old k.was in
        omega (arith, p, l)

  -- a node with one child that isn't a leaf has a node there
  has_one_node : (s : Nodes P) → IsTree s → (n : ℕ) (y : Node ℕ P) → get s n ≡ Some y → length (prefix_of y) < 7 → map.len (children_of y) ≡ 1 → HasOneNode y
  has_one_node s t n y e inner one = of pair.1 refl
    where
      pair : (k : ℕ) × (x : Child ℕ P) × (children_of y ≡ map.insert map.empty k x)
      pair = only_pair (children_of y) one

      linked : (notes_of s t.parent n).status ≡ Linked
      linked = linked_of s t.parent n (stands_at s n y e)

      seen : (heap_of s n).children pair.0 ≡ hung_in (Some pair.1)
      seen = ap (λ o. (node_of o).children pair.0) e ∙ ap hung_in (ap (λ m. map.get m pair.0) pair.2 ∙ insert_at map.empty pair.0 pair.1)

      of : (x : Child ℕ P) → pair.1 ≡ x → HasOneNode y
      of Blank q = absurd (
          let i = t.tree.down n pair.0 0 linked (seen ∙ ap (λ z. hung_in (Some z)) q) in
          let z : length (heap_of s 0).prefix ≡ 0 = ap length t.tree.empty in
          let l = i.longer in omega (arith, l, z))
      of (Sub c) q = record { byte = pair.0; child = c; children = pair.2 ∙ ap (map.insert map.empty pair.0) q }
      of (Value v) q = absurd (
          let l = t.tree.leaves n pair.0 v linked (seen ∙ ap (λ z. hung_in (Some z)) q) in
          let p : length (heap_of s n).prefix ≡ length (prefix_of y) = ap (λ o. length (node_of o).prefix) e in
          omega (arith, l, p, inner))

  -- so it may come into that one's place
  may_lift : (s : Nodes P) → IsTree s → (above byte at : ℕ) (upper lower : Node ℕ P) → get s above ≡ Some upper → get s at ≡ Some lower → map.get (children_of upper) byte ≡ Some (Sub at)
      → length (prefix_of lower) < 7 → map.len (children_of lower) ≡ 1 → MayLift s above byte at
  may_lift s t above byte at upper lower was stood hung inner one =
      let o = has_one_node s t at lower stood inner one in
      let i : IsChild (notes_of s t.parent) (heap_of s) above byte at = t.tree.down above byte at (linked_of s t.parent above (stands_at s above upper was)) (ap (λ z. (node_of z).children byte) was ∙ ap hung_in hung) in
      let here : map.get (children_of lower) o.byte ≡ Some (Sub o.child) = ap (λ m. map.get m o.byte) o.children ∙ insert_at map.empty o.byte (Sub o.child) in
      let j : IsChild (notes_of s t.parent) (heap_of s) at o.byte o.child = t.tree.down at o.byte o.child i.linked (ap (λ z. (node_of z).children o.byte) stood ∙ ap hung_in here) in
      let n = node_at s o.child (stands_of s t.parent o.child j.linked) in
      let l = i.longer in let m = j.longer in
      let pu : length (heap_of s above).prefix ≡ length (prefix_of upper) = ap length (prefix_at s above upper was) in
      let pl : length (heap_of s at).prefix ≡ length (prefix_of lower) = ap length (prefix_at s at lower stood) in
      record {
        upper = upper;
        lower = lower;
        was = was;
        stood = stood;
        hung = hung;
        inner = omega (arith, l, pu, pl, inner);
        inner_below = inner;
        one = o;
        node = n.0;
        child = n.1;
        apart = λ e. let z : length (heap_of s above).prefix ≡ length (heap_of s at).prefix = ap (λ y. length (heap_of s y).prefix) e in absurd (omega (arith, l, z));
        child_apart = λ e. let z : length (heap_of s o.child).prefix ≡ length (heap_of s above).prefix = ap (λ y. length (heap_of s y).prefix) e in absurd (omega (arith, l, m, z));
        child_apart_below = λ e. let z : length (heap_of s o.child).prefix ≡ length (heap_of s at).prefix = ap (λ y. length (heap_of s y).prefix) e in absurd (omega (arith, m, z));
        begins = first_below s t at o.byte o.child lower n.0 stood n.1 here ∙ (first_some (prefix_of lower) o.byte (omega (arith, l, pu, pl)) ∙ first_below s t above byte at upper lower was stood hung);
      }

module _ {P : Type 0} where
  -- a leaf isn't the root
  pub leaf_not_root : (s : Nodes P) (n : ℕ) → IsTree s → length (heap_of s n).prefix ≡ 7 → n ≢ 0
  leaf_not_root s n t seven e =
      let y : length (heap_of s 0).prefix ≡ 0 = ap length t.tree.empty in
      let z : length (heap_of s n).prefix ≡ length (heap_of s 0).prefix = ap (λ m. length (heap_of s m).prefix) e in
      absurd (omega (arith, seven, y, z))

  -- nor is what hangs in a node
  pub hung_not_root : (s : Nodes P) (key : List ℕ) (above n : ℕ) → IsTree s → Hangs s key above n → n ≢ 0
  hung_not_root s key above n t h e =
      let l = (is_child s t above n key h.way.stands h.child).longer in
      let y : length (heap_of s 0).prefix ≡ 0 = ap length t.tree.empty in
      let z : length (heap_of s n).prefix ≡ length (heap_of s 0).prefix = ap (λ m. length (heap_of s m).prefix) e in
      absurd (omega (arith, l, y, z))

  module _ (s mid : Nodes P) (key : List ℕ) (top above at : ℕ) (t : IsTree s) (h : Hangs s key above at) (higher : Hangs s key top above) (k : LosesChild s mid key above at) where
    above_child : IsChild (notes_of s t.parent) (heap_of s) above (get_or key (length (heap_of s above).prefix) 0) at
    above_child = is_child s t above at key h.way.stands h.child

    top_child : IsChild (notes_of s t.parent) (heap_of s) top (get_or key (length (heap_of s top).prefix) 0) above
    top_child = is_child s t top above key higher.way.stands higher.child

    -- the node above the one that loses its child
    top_same : get mid top ≡ get s top
    top_same =
        let l = above_child.longer in
        let m = top_child.longer in
        k.others top (above_apart s t key top above higher)
        (λ e. let z : length (heap_of s top).prefix ≡ length (heap_of s at).prefix = ap (λ y. length (heap_of s y).prefix) e in absurd (omega (arith, l, m, z)))

    -- the node above the one that loses its child stands
    pub top_stands : ContainsKey mid top
    top_stands = subst IsSome (sym top_same) higher.way.stands

    -- a node that had two children and lost one may give its place to the other
    pub lift_ready : (up : ℕ) → IsTree mid → up ≡ get_or key (length (heap_of mid top).prefix) 0 → ((x : Node ℕ P) → get s above ≡ Some x → map.len (children_of x) ≡ 2) → MayLift mid top up above
    lift_ready up t' b two =
        let u = node_at s top higher.way.stands in
        let place : up ≡ get_or key (length (heap_of s top).prefix) 0 = b ∙ ap (λ o. get_or key (length (node_of o).prefix) 0) top_same in
        let n = fewer s mid key above at t h k in
        let c = two k.old k.was in
        may_lift mid t' top up above u.0 k.new (top_same ∙ u.1) k.now (child_there s t key top above higher.way.stands higher.child u.0 u.1 up place) (lost_inner s mid key above at t h k) (omega (arith, n, c))

    -- its size is that of the node as it was
    pub lifted_size : (up : ℕ) (r : MayLift mid top up above) (x : Node ℕ P) → get s above ≡ Some x → size_of (form_of r.lower) ≡ size_of (form_of x)
    lifted_size up r x e = ap size_of (ap form_of (one_node mid above r.lower k.new r.stood k.now) ∙ (k.becomes.form ∙ ap form_of (one_node s above k.old x k.was e)))

-- what goes with a leaf from another node than the root
module _ {P : Type 0} (leaf above : HeapNode P) where
  -- from a node of two children the leaf and that node go, and no lesser one comes
  pub going_two : (n : ℕ) → n ≢ 0 → above.count ≡ 2 → going_last leaf n above ≡ record { gone = size_by leaf.capacity + size_by above.capacity; lesser = None }
  going_two zero ne e = absurd (ne refl)
  going_two (suc n) ne e = rw e refl

  -- from a node of more, the leaf goes, and a lesser node comes if the node's form and count want one
  pub going_more : (n : ℕ) → n ≢ 0 → above.count ≢ 2 → going_last leaf n above ≡ record { gone = size_by leaf.capacity; lesser = lesser_of above }
  going_more zero ne e = absurd (ne refl)
  going_more (suc n) ne e =
      let f : (above.count == 2) ≡ false = elim (eqb_tells above.count 2) [ inl q ↦ absurd (e q.1) | inr q ↦ q.0 ] in
      rw f refl

module _ {P : Type 0} (h : ℕ → HeapNode P) (above n : ℕ) where
  -- with the only value of a leaf goes what goes with the leaf
  pub going_alone : (h n).count ≡ 1 → going_from h above n ≡ going_last (h n) above (h above)
  going_alone e = rw e refl

  -- with one of several values goes what goes with a value alone
  pub going_beside : (h n).count ≢ 1 → going_from h above n ≡ going_one (h n)
  going_beside e =
      let f : ((h n).count == 1) ≡ false = elim (eqb_tells (h n).count 1) [ inl q ↦ absurd (e q.1) | inr q ↦ q.0 ] in
      rw f refl
