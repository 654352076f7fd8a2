-- What a step does to one node of a store, and to the same node by its number.
use Rattle.std.proofs.Common.{◌≡◌, ◌≢◌, ℕ, zero, suc, ◌+◌, ◌-◌, ◌<◌, ◌==◌, true, false, cond, List, [], ◌∷◌, ◌++◌, length, take, refl, sym, ◌∙◌, ap, subst, inl, inr, ◌⊎◌, arith, Bool}
use Rattle.std.specs.Prelude.{Some, slice_get}
use Rattle.std.proofs.lemmas.Option.{slice_get_within}
use Rattle.congee.specs.declared.forms.base_node.NodeType.{NodeType}
use Rattle.congee.specs.Heap.{Node, Hung, Nothing, Below, Holds, Stands, fits}
use Rattle.congee.specs.protocol.Alike.{Ordered, HungAlike, NodeAlike, HeapAlike}
use Rattle.congee.specs.protocol.Events.{SameBut, NewNode, weight, ChangeGives, HoldsValues, HoldsNodes, TakeOverGives, BackGives, ObsoleteGives, RetireGives, UnlockGives}
use Rattle.congee.specs.protocol.PlainSteps.{put, lock, free, mark, hand, back, with_child, hang, copy, clear, new_node}
use Rattle.congee.proofs.lemmas.Fits.{both_true, equal_of_test, same_test, other_test}
use Rattle.congee.proofs.lemmas.Tree.{same_or_not}
use Rattle.congee.proofs.lemmas.protocol.Leftovers.{kept_node, kept_value}

-- two options that are the same have the same in them
pub some_is : {A : Type 0} {x y : A} → Some x ≡ Some y → x ≡ y
some_is e = cc

-- the node that was put stands under its number
put_same : {V : Type 0} (h : ℕ → Node V) (n : ℕ) (x : Node V) → put h n x n ≡ x
put_same h n x = rw (same_test n n refl) refl

-- every other node is as it was where one is put
put_other : {V : Type 0} (h : ℕ → Node V) (n : ℕ) (x : Node V) (m : ℕ) → m ≢ n → put h n x m ≡ h m
put_other h n x m e = rw (other_test m n e) refl

-- the nodes on both sides after a step that makes none
pub record Pair {V : Type 0} (order : List ℕ) (h h' g' : ℕ → Node V) : Type 0 where
  pub alike : HeapAlike order h' g'
  pub made : (c : ℕ) → (h' c).made ≡ (h c).made
  pub stands : (c : ℕ) → Stands (h' c) → Stands (h c)

-- a step that leaves all nodes leaves both sides alike
pub pair_same : {V : Type 0} (order : List ℕ) (h h' g : ℕ → Node V) → h' ≡ h → HeapAlike order h g → Pair order h h' g
pair_same {V} order h h' g e x =
    let P : (ℕ → Node V) → Type 0 = λ z. Pair order h z g in
    subst P (sym e) (record { alike = x; made = λ c. refl; stands = λ c s. s })

-- both sides are alike after a second step, where the first made no node and let none stand that hadn't
pub pair_then : {V : Type 0} (order : List ℕ) (h h1 h' g' : ℕ → Node V) → ((c : ℕ) → (h1 c).made ≡ (h c).made) → ((c : ℕ) → Stands (h1 c) → Stands (h c)) → Pair order h1 h' g' → Pair order h h' g'
pair_then order h h1 h' g' m s p = record { alike = p.alike; made = λ c. p.made c ∙ m c; stands = λ c x. s c (p.stands c x) }

-- the order stays where no node is made
pub ordered_still : {V : Type 0} (order : List ℕ) (h h' : ℕ → Node V) → ((c : ℕ) → (h' c).made ≡ (h c).made) → Ordered order h → Ordered order h'
ordered_still order h h' m o = record {
  made = λ n c e. m c ∙ o.made n c e;
  each = λ c e. o.each c (sym (m c) ∙ e);
  once = o.once;
}

module _ {V : Type 0} (order : List ℕ) (h : ℕ → Node V) (g : ℕ → Node V) (o : Ordered order h) (x : HeapAlike order h g) where
  -- one node is changed
  pub changed : (c n : ℕ) (h' g' : ℕ → Node V) → slice_get order n ≡ Some c → ((m : ℕ) → m ≢ c → h' m ≡ h m) → ((m : ℕ) → m ≢ n → g' m ≡ g m)
      → (Stands (h' c) → NodeAlike order (h' c) (g' n)) → (h' c).made ≡ (h c).made → (Stands (h' c) → Stands (h c)) → Pair order h h' g'
  changed c n h' g' at others beside here made stood = record {
    alike = λ k d e s. elim (same_or_not k n) [
      | inl q ↦ (
          let f : c ≡ d = some_is (sym at ∙ (ap (slice_get order) (sym q) ∙ e)) in
          let P : ℕ → Type 0 = λ z. NodeAlike order (h' z) (g' k) in
          let Q : ℕ → Type 0 = λ z. NodeAlike order (h' c) (g' z) in
          let R : ℕ → Type 0 = λ z. Stands (h' z) in
          subst P f (subst Q (sym q) (here (subst R (sym f) s))))
      | inr ne ↦ (
          let apart : d ≢ c = (λ z. ne (o.once k n c (e ∙ ap Some z) at)) in
          let same : h' d ≡ h d = others d apart in
          let P : Node V → Type 0 = λ z. NodeAlike order z (g' k) in
          let Q : Node V → Type 0 = λ z. NodeAlike order (h d) z in
          let R : Node V → Type 0 = λ z. Stands z in
          subst P (sym same) (subst Q (sym (beside k ne)) (x k d e (subst R same s))))
    ];
    made = λ d. elim (same_or_not d c) [
      | inl q ↦ (ap (λ z. (h' z).made) q ∙ made ∙ ap (λ z. (h z).made) (sym q))
      | inr ne ↦ ap (λ z. z.made) (others d ne)
    ];
    stands = λ d s. elim (same_or_not d c) [
      | inl q ↦ (let R : ℕ → Type 0 = λ z. Stands (h z) in let S : ℕ → Type 0 = λ z. Stands (h' z) in subst R (sym q) (stood (subst S q s)))
      | inr ne ↦ (let R : Node V → Type 0 = λ z. Stands z in subst R (others d ne) s)
    ];
  }

  -- both sides are alike after one node changed, into two that are alike
  pub touched : (c n : ℕ) (h' : ℕ → Node V) (y : Node V) → slice_get order n ≡ Some c → ((m : ℕ) → m ≢ c → h' m ≡ h m)
      → (Stands (h' c) → NodeAlike order (h' c) y) → (h' c).made ≡ (h c).made → (Stands (h' c) → Stands (h c)) → Pair order h h' (put g n y)
  touched c n h' y at others here made stood =
      let Q : Node V → Type 0 = λ z. NodeAlike order (h' c) z in
      changed c n h' (put g n y) at others (put_other g n y) (λ t. subst Q (sym (put_same g n y)) (here t)) made stood

  -- one node changes its lock word or its marks
  pair_but : (c n : ℕ) (h' : ℕ → Node V) (y : Node V → Node V) → slice_get order n ≡ Some c → Stands (h c) → SameBut h c (y (h c)) h'
      → ((a b : Node V) → NodeAlike order a b → NodeAlike order (y a) (y b)) → (y (h c)).made ≡ (h c).made → Pair order h h' (put g n (y (g n)))
  pair_but c n h' y at s k f m =
      let P : Node V → Type 0 = λ z. NodeAlike order z (y (g n)) in
      touched c n h' (y (g n)) at k.others (λ t. subst P (sym k.after) (f (h c) (g n) (x n c at s))) (ap (λ z. z.made) k.after ∙ m) (λ t. s)

  -- two nodes that are alike are so with other words and marks that are the same
  worded : (a b : Node V) → NodeAlike order a b → (v v' : ℕ) (l l' o o' r r' : Bool) → v' ≡ v → l' ≡ l → o' ≡ o → r' ≡ r
      → NodeAlike order (record a { version = v; locked = l; obsolete = o; retired = r }) (record b { version = v'; locked = l'; obsolete = o'; retired = r' })
  worded a b e v v' l l' o o' r r' ev el eo er = record {
    stands = record { made = e.stands.made; kept = e.stands.kept };
    prefix = e.prefix;
    count = e.count;
    capacity = e.capacity;
    version = ev;
    locked = el;
    obsolete = eo;
    retired = er;
    children = e.children;
  }

  -- both sides are alike after the same node was locked
  pub pair_locked : (c n : ℕ) (h' : ℕ → Node V) → slice_get order n ≡ Some c → Stands (h c) → SameBut h c (record (h c) { locked = true }) h' → Pair order h h' (lock g n)
  pair_locked c n h' at s k = pair_but c n h' (λ z. record z { locked = true }) at s k (λ a b e. worded a b e _ _ _ _ _ _ _ _ e.version refl e.obsolete e.retired) refl

  -- both sides are alike after the same node was unlocked
  pub pair_freed : (c n : ℕ) (h' : ℕ → Node V) → slice_get order n ≡ Some c → Stands (h c) → UnlockGives h c h' → Pair order h h' (free g n)
  pair_freed c n h' at s k = pair_but c n h' (λ z. record z { version = z.version + 1; locked = false }) at s k (λ a b e. worded a b e _ _ _ _ _ _ _ _ (ap (λ z. z + 1) e.version) refl e.obsolete e.retired) refl

  -- both sides are alike after the same node was marked as obsolete
  pub pair_marked : (c n : ℕ) (h' : ℕ → Node V) → slice_get order n ≡ Some c → Stands (h c) → ObsoleteGives h c h' → Pair order h h' (mark g n)
  pair_marked c n h' at s k = pair_but c n h' (λ z. record z { obsolete = true }) at s k (λ a b e. worded a b e _ _ _ _ _ _ _ _ e.version e.locked refl e.retired) refl

  -- both sides are alike after the same node was handed over
  pub pair_handed : (c n : ℕ) (h' : ℕ → Node V) → slice_get order n ≡ Some c → Stands (h c) → RetireGives h c h' → Pair order h h' (hand g n)
  pair_handed c n h' at s k = pair_but c n h' (λ z. record z { retired = true }) at s k (λ a b e. worded a b e _ _ _ _ _ _ _ _ e.version e.locked e.obsolete refl) refl

  -- one goes back
  pub pair_back : (c n : ℕ) (h' : ℕ → Node V) → slice_get order n ≡ Some c → Stands (h c) → BackGives h c h' → Pair order h h' (back g n)
  pair_back c n h' at s k =
      touched c n h' (record (g n) { destroyed = true; locked = false }) at k.others (λ t. let z : (h' c).destroyed ≡ false = t.kept in absurd (let y : (h' c).destroyed ≡ true = k.gone in cc)) (k.made ∙ sym s.made) (λ t. s)

  -- something comes to hang at a byte of one
  weight_alike : (a b : Hung V) → HungAlike order a b → weight b ≡ weight a
  weight_alike Nothing b e = ap weight e
  weight_alike (Below c) b e = ap weight e.1
  weight_alike (Holds v) b e = ap weight e

  counts : (a b wa wb va vb a' : ℕ) → b ≡ a → wb ≡ wa → vb ≡ va → a' + wa ≡ a + va → b + vb - wb ≡ a'
  counts a b wa wb va vb a' e f i k = omega (arith, e, f, i, k)

  -- both sides are alike after the same was hung at a byte of the same node
  pub pair_hung : (c n b : ℕ) (v u : Hung V) (h' : ℕ → Node V) → slice_get order n ≡ Some c → Stands (h c) → HungAlike order v u → ChangeGives h c b v h' → Pair order h h' (hang g n b u)
  pair_hung c n b v u h' at s a k =
      let e : NodeAlike order (h c) (g n) = x n c at s in
      touched c n h' (with_child (g n) b u) at k.others (λ t. record {
        stands = record { made = e.stands.made; kept = e.stands.kept };
        prefix = e.prefix ∙ sym k.prefix;
        count = counts (h c).count (g n).count (weight ((h c).children b)) (weight ((g n).children b)) (weight v) (weight u) (h' c).count e.count (weight_alike _ _ (e.children b)) (weight_alike _ _ a) k.count;
        capacity = e.capacity ∙ sym k.capacity;
        version = e.version ∙ sym k.version;
        locked = e.locked ∙ sym k.locked;
        obsolete = e.obsolete ∙ sym k.obsolete;
        retired = e.retired ∙ sym k.retired;
        children = λ q. elim (same_or_not q b) [
          | inl z ↦ (
              let P : Hung V → Type 0 = λ w. HungAlike order w (cond (q == b) u ((g n).children q)) in
              let Q : Hung V → Type 0 = λ w. HungAlike order v w in
              let here : (h' c).children q ≡ v = ap (h' c).children z ∙ k.child in
              let there : cond (q == b) u ((g n).children q) ≡ u = ap (λ w. cond w u ((g n).children q)) (same_test q b z) in
              subst P (sym here) (subst Q (sym there) a))
          | inr ne ↦ (
              let P : Hung V → Type 0 = λ w. HungAlike order w (cond (q == b) u ((g n).children q)) in
              let Q : Hung V → Type 0 = λ w. HungAlike order ((h c).children q) w in
              let there : cond (q == b) u ((g n).children q) ≡ (g n).children q = ap (λ w. cond w u ((g n).children q)) (other_test q b ne) in
              subst P (sym (k.beside q ne)) (subst Q (sym there) (e.children q)))
        ];
      }) k.made (λ t. s)

  -- the children of node m come to node c too
  copied_here : (m c : ℕ) (h' : ℕ → Node V) → TakeOverGives h m c h' → (a b : Node V) → NodeAlike order (h m) a → NodeAlike order (h c) b → NodeAlike order (h' c) (record b { children = a.children; count = a.count })
  copied_here m c h' k a b e f = record {
    stands = record { made = f.stands.made; kept = f.stands.kept };
    prefix = f.prefix ∙ sym k.prefix;
    count = e.count ∙ sym k.count;
    capacity = f.capacity ∙ sym k.capacity;
    version = f.version ∙ sym k.version;
    locked = f.locked ∙ sym k.locked;
    obsolete = f.obsolete ∙ sym k.obsolete;
    retired = f.retired ∙ sym k.retired;
    children = λ q. (let P : Hung V → Type 0 = λ w. HungAlike order w (a.children q) in subst P (sym (k.children q)) (e.children q));
  }

  -- what stays of node m
  left_nodes : (m c : ℕ) (h' : ℕ → Node V) (y : Node V) → TakeOverGives h m c h' → HoldsNodes (h m) → NodeAlike order (h m) y → NodeAlike order (h' m) y
  left_nodes m c h' y k n e = record {
    stands = e.stands;
    prefix = e.prefix ∙ sym k.prefix_old;
    count = e.count ∙ sym (k.all_left n);
    capacity = e.capacity ∙ sym k.capacity_old;
    version = e.version ∙ sym k.version_old;
    locked = e.locked ∙ sym k.locked_old;
    obsolete = e.obsolete ∙ sym k.obsolete_old;
    retired = e.retired ∙ sym k.retired_old;
    children = λ q. (let P : Hung V → Type 0 = λ w. HungAlike order w (y.children q) in subst P (sym (k.left q ∙ kept_node ((h m).children q) (n q))) (e.children q));
  }

  left_bare : (m c : ℕ) (h' : ℕ → Node V) (y : Node V) → TakeOverGives h m c h' → HoldsValues (h m) → NodeAlike order (h m) y → NodeAlike order (h' m) (record y { children = λ b. Nothing; count = 0 })
  left_bare m c h' y k n e = record {
    stands = record { made = e.stands.made; kept = e.stands.kept };
    prefix = e.prefix ∙ sym k.prefix_old;
    count = sym (k.none_left n);
    capacity = e.capacity ∙ sym k.capacity_old;
    version = e.version ∙ sym k.version_old;
    locked = e.locked ∙ sym k.locked_old;
    obsolete = e.obsolete ∙ sym k.obsolete_old;
    retired = e.retired ∙ sym k.retired_old;
    children = λ q. (let P : Hung V → Type 0 = λ w. HungAlike order w Nothing in subst P (sym (k.left q ∙ kept_value ((h m).children q) (n q))) refl);
  }

  -- first the new node alone
  abbrev over : ℕ → (ℕ → Node V) → ℕ → Node V
  over c h' = put h c (h' c)

  pair_over : (m c mn cn : ℕ) (h' : ℕ → Node V) → slice_get order mn ≡ Some m → slice_get order cn ≡ Some c → Stands (h m) → Stands (h c) → TakeOverGives h m c h' → Pair order h (over c h') (copy g mn cn)
  pair_over m c mn cn h' am ac sm sc k =
      let here : over c h' c ≡ h' c = put_same h c (h' c) in
      let P : Node V → Type 0 = λ z. NodeAlike order z (record (g cn) { children = (g mn).children; count = (g mn).count }) in
      touched c cn (over c h') (record (g cn) { children = (g mn).children; count = (g mn).count }) ac (put_other h c (h' c)) (λ t. subst P (sym here) (copied_here m c h' k (g mn) (g cn) (x mn m am sm) (x cn c ac sc)))
      (ap (λ z. z.made) here ∙ k.made) (λ t. sc)

  over_others : (m c : ℕ) (h' : ℕ → Node V) → TakeOverGives h m c h' → (z : ℕ) → z ≢ m → h' z ≡ over c h' z
  over_others m c h' k z ne = elim (same_or_not z c) [
    | inl q ↦ (let P : ℕ → Type 0 = λ w. h' w ≡ over c h' w in subst P (sym q) (sym (put_same h c (h' c))))
    | inr apart ↦ k.others z apart ne ∙ sym (put_other h c (h' c) z apart)
  ]

-- the children of an inner node come to a greater one too
module _ {V : Type 0} (order : List ℕ) (h : ℕ → Node V) (g : ℕ → Node V) (o : Ordered order h) (x : HeapAlike order h g)
    (m c mn cn : ℕ) (h' : ℕ → Node V) (am : slice_get order mn ≡ Some m) (ac : slice_get order cn ≡ Some c) (sm : Stands (h m)) (sc : Stands (h c)) (ne : m ≢ c) (k : TakeOverGives h m c h') where
  first : Pair order h (put h c (h' c)) (copy g mn cn)
  first = pair_over order h g o x m c mn cn h' am ac sm sc k

  here : put h c (h' c) m ≡ h m
  here = put_other h c (h' c) m ne

  apart : mn ≢ cn
  apart e = ne (some_is (sym am ∙ (ap (slice_get order) e ∙ ac)))

  there : copy g mn cn mn ≡ g mn
  there = put_other g cn (record (g cn) { children = (g mn).children; count = (g mn).count }) mn apart

  stands_here : Stands (put h c (h' c) m)
  stands_here = let R : Node V → Type 0 = λ z. Stands z in subst R (sym here) sm

  made_here : (h' m).made ≡ (put h c (h' c) m).made
  made_here = k.made_old ∙ ap (λ z. z.made) (sym here)

  -- both sides are alike after a node's children, all of them nodes, were copied into another one
  pub pair_copied : HoldsNodes (h m) → Pair order h h' (copy g mn cn)
  pair_copied n =
      let Q : Node V → Type 0 = λ z. NodeAlike order (h' m) z in
      pair_then order h (put h c (h' c)) h' (copy g mn cn) first.made first.stands (changed order (put h c (h' c)) (copy g mn cn) (ordered_still order h (put h c (h' c)) first.made o) first.alike m mn h' (copy g mn cn) am
      (over_others order h g o x m c h' k) (λ z e. refl) (λ t. subst Q (sym there) (left_nodes order h g o x m c h' (g mn) k n (x mn m am sm))) made_here (λ t. stands_here))

  -- both sides are alike after a node's children, all of them values, were moved into another one
  pub pair_cleared : HoldsValues (h m) → Pair order h h' (clear (copy g mn cn) mn)
  pair_cleared n =
      let y : Node V → Node V = λ z. record z { children = λ b. Nothing; count = 0 } in
      let Q : Node V → Type 0 = λ z. NodeAlike order (h' m) (record z { children = λ b. Nothing; count = 0 }) in
      pair_then order h (put h c (h' c)) h' (clear (copy g mn cn) mn) first.made first.stands (touched order (put h c (h' c)) (copy g mn cn) (ordered_still order h (put h c (h' c)) first.made o) first.alike m mn h'
      (record (copy g mn cn mn) { children = λ b. Nothing; count = 0 }) am
      (over_others order h g o x m c h' k) (λ t. subst Q (sym there) (left_bare order h g o x m c h' (g mn) k n (x mn m am sm))) made_here (λ t. stands_here))

-- a place more
pub later_place : (order rest : List ℕ) (k d : ℕ) → slice_get order k ≡ Some d → slice_get (order ++ rest) k ≡ Some d
later_place [] rest k d e = absurd cc
later_place (x ∷ xs) rest zero d e = e
later_place (x ∷ xs) rest (suc k) d e = later_place xs rest k d e

-- a new node comes last in the order
pub new_place : (order : List ℕ) (c : ℕ) → slice_get (order ++ c ∷ []) (length order) ≡ Some c
new_place [] c = refl
new_place (x ∷ xs) c = new_place xs c

-- a place of the longer order is one of the order before, or the new node's
pub one_place : (order : List ℕ) (c k d : ℕ) → slice_get (order ++ c ∷ []) k ≡ Some d → (slice_get order k ≡ Some d) ⊎ ((k ≡ length order) × (d ≡ c))
one_place [] c zero d e = inr (refl, sym (some_is e))
one_place [] c (suc k) d e = absurd cc
one_place (x ∷ xs) c zero d e = inl e
one_place (x ∷ xs) c (suc k) d e = elim (one_place xs c k d e) [ inl p ↦ inl p | inr q ↦ inr (ap suc q.0, q.1) ]

-- what hangs alike on both sides does so by an order that has each place of the one before
hung_later : {V : Type 0} (order order' : List ℕ) → ((k d : ℕ) → slice_get order k ≡ Some d → slice_get order' k ≡ Some d) → (a b : Hung V) → HungAlike order a b → HungAlike order' a b
hung_later order order' f Nothing b e = e
hung_later order order' f (Below c) b e = (e.0, e.1, f _ _ e.2)
hung_later order order' f (Holds v) b e = e

-- nodes that are alike on both sides are so by an order that has each place of the one before
node_later : {V : Type 0} (order order' : List ℕ) → ((k d : ℕ) → slice_get order k ≡ Some d → slice_get order' k ≡ Some d) → (a b : Node V) → NodeAlike order a b → NodeAlike order' a b
node_later order order' f a b e = record {
  stands = e.stands;
  prefix = e.prefix;
  count = e.count;
  capacity = e.capacity;
  version = e.version;
  locked = e.locked;
  obsolete = e.obsolete;
  retired = e.retired;
  children = λ q. hung_later order order' f _ _ (e.children q);
}

fits_take : (p key : List ℕ) → fits p key ≡ true → p ≡ take (length p) key
fits_take [] key f = refl
fits_take (x ∷ p) [] f = absurd cc
fits_take (x ∷ p) (y ∷ key) f =
    let b : (x == y ≡ true) × (fits p key ≡ true) = both_true _ _ f in
    let e : x ≡ y = equal_of_test x y b.0 in
    let r : p ≡ take (length p) key = fits_take p key b.1 in
    ap (λ z. z ∷ p) e ∙ ap (λ z. y ∷ z) r

-- a node is made: it gets the next number
module _ {V : Type 0} (order : List ℕ) (h : ℕ → Node V) (g : ℕ → Node V) (o : Ordered order h) (x : HeapAlike order h g) (c : ℕ) (form : NodeType) (key : List ℕ) (size : ℕ) (h' : ℕ → Node V) (k : NewNode h c form key size h') where
  abbrev order' : List ℕ
  order' = order ++ c ∷ []

  later : (n d : ℕ) → slice_get order n ≡ Some d → slice_get order' n ≡ Some d
  later n d e = later_place order (c ∷ []) n d e

  old_made : (n d : ℕ) → slice_get order n ≡ Some d → d ≢ c
  old_made n d e q =
      let a : (h c).made ≡ true = ap (λ z. (h z).made) (sym q) ∙ o.made n d e in
      let b : (h c).made ≡ false = k.unmade in
      cc

  -- with the new node last, the order has each made node once
  pub new_ordered : Ordered order' h'
  new_ordered = record {
    made = λ n d e. elim (one_place order c n d e) [
      | inl p ↦ (ap (λ z. z.made) (k.others d (old_made n d p)) ∙ o.made n d p)
      | inr q ↦ (ap (λ z. (h' z).made) q.1 ∙ k.made)
    ];
    each = λ d m. elim (same_or_not d c) [
      | inl q ↦ (length order, new_place order c ∙ ap Some (sym q))
      | inr ne ↦ (let y : (n : ℕ) × (slice_get order n ≡ Some d) = o.each d (sym (ap (λ z. z.made) (k.others d ne)) ∙ m) in (y.0, later y.0 d y.1))
    ];
    once = λ m n d e f. elim (one_place order c m d e) [
      | inl p ↦ elim (one_place order c n d f) [
        | inl q ↦ o.once m n d p q
        | inr q ↦ absurd (old_made m d p q.1)
      ]
      | inr p ↦ elim (one_place order c n d f) [
        | inl q ↦ absurd (old_made n d q p.1)
        | inr q ↦ p.0 ∙ sym q.0
      ]
    ];
  }

  new_here : NodeAlike order' (h' c) (new_node form (take size key))
  new_here = record {
    stands = record { made = refl; kept = refl };
    prefix = ap (λ z. take z key) (sym k.long) ∙ sym (fits_take (h' c).prefix key k.fitted);
    count = sym k.empty;
    capacity = sym k.capacity;
    version = sym k.version;
    locked = sym k.free;
    obsolete = sym k.live;
    retired = sym k.unretired;
    children = λ b. (let P : Hung V → Type 0 = λ w. HungAlike order' w Nothing in subst P (sym (k.blank b)) refl);
  }

  -- the new node stands under the next number as a new node does, and all others stay alike
  pub new_alike : HeapAlike order' h' (put g (length order) (new_node form (take size key)))
  new_alike n d e s = elim (one_place order c n d e) [
    | inl p ↦ (
        let within : n < length order = slice_get_within order n d p in
        let ne : n ≢ length order = (λ z. omega (arith, z, within)) in
        let P : Node V → Type 0 = λ z. NodeAlike order' z (put g (length order) (new_node form (take size key)) n) in
        let Q : Node V → Type 0 = λ z. NodeAlike order' (h d) z in
        let R : Node V → Type 0 = λ z. Stands z in
        let same : h' d ≡ h d = k.others d (old_made n d p) in
        subst P (sym same) (subst Q (sym (put_other g (length order) _ n ne)) (node_later order order' later (h d) (g n) (x n d p (subst R same s)))))
    | inr q ↦ (
        let P : ℕ → Type 0 = λ z. NodeAlike order' (h' z) (put g (length order) (new_node form (take size key)) n) in
        let Q : Node V → Type 0 = λ z. NodeAlike order' (h' c) z in
        subst P (sym q.1) (subst Q (sym (ap (put g (length order) (new_node form (take size key))) q.0 ∙ put_same g (length order) _)) new_here))
  ]
