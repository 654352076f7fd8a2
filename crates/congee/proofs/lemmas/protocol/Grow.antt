-- A full node gives way to a greater one that has one child more: a value, or a new leaf.
use Rattle.std.proofs.Common.{◌≡◌, ◌≢◌, ℕ, ◌<◌, ◌≤◌, inl, inr, true, List, length, get_or, refl, sym, ◌∙◌, ap, subst, arith}
use Rattle.std.specs.Prelude.{None, Some}
use Rattle.congee.specs.Heap.{Nothing, Below, Holds, Node, fits, child_for, walk, value_at}
use Rattle.congee.specs.Notes.{Linked, Note, IsChild, HasParent, Tree}
use Rattle.congee.proofs.lemmas.Fits.{fits_byte, same_key}
use Rattle.congee.proofs.lemmas.Tree.{same_or_not, walk_enters, value_at_linked, of_child_same}
use Rattle.congee.proofs.lemmas.Graft.{Graft, old_down, old_leaves, old_up, walk_untouched, on_test}
use Rattle.congee.proofs.lemmas.Link.{Leaf, leaf_no_node, leaf_value, leaf_other, child_moved, not_here, link_other, fits_between}
use Rattle.congee.proofs.lemmas.Unlink.{gone_not}

-- the child more: a value in a leaf, or a new leaf d below an inner node
pub data Extra {V : Type 0} (a' : ℕ → Note) (h' : ℕ → Node V) (c d : ℕ) (key : List ℕ) (v : V) : Type 0 where
  a_value : d ≡ c → length (h' c).prefix ≡ 7 → child_for (h' c) key ≡ Holds v → Extra a' h' c d key v
  a_leaf : length (h' c).prefix < 7 → child_for (h' c) key ≡ Below d → Leaf h' d key v → (a' d).status ≡ Linked → (a' d).parent ≡ c → Extra a' h' c d key v

-- before and after: a greater node c, with one child more, hangs below n in the place of the full node m
pub record Grows {V : Type 0} (a : ℕ → Note) (h : ℕ → Node V) (a' : ℕ → Note) (h' : ℕ → Node V) (n m c d : ℕ) (key : List ℕ) (v : V) : Type 0 where
  pub linked : (a n).status ≡ Linked
  pub fitted : fits (h n).prefix key ≡ true
  pub hung : child_for (h n) key ≡ Below m
  pub fitted_old : fits (h m).prefix key ≡ true
  pub absent : child_for (h m) key ≡ Nothing
  pub same_prefix : (h' c).prefix ≡ (h m).prefix
  pub copied : (b : ℕ) → b ≢ get_or key (length (h m).prefix) 0 → (h' c).children b ≡ (h m).children b
  pub extra : Extra a' h' c d key v
  pub unlinked : (a c).status ≢ Linked
  pub unlinked_leaf : (a d).status ≢ Linked
  pub prefix : (h' n).prefix ≡ (h n).prefix
  pub prefix_old : (h' m).prefix ≡ (h m).prefix
  pub child : (h' n).children (get_or key (length (h n).prefix) 0) ≡ Below c
  pub beside : (x : ℕ) → x ≢ get_or key (length (h n).prefix) 0 → (h' n).children x ≡ (h n).children x
  pub joined : (a' c).status ≡ Linked
  pub parent : (a' c).parent ≡ n
  pub left : (a' m).status ≢ Linked
  pub notes : (x : ℕ) → x ≢ c → x ≢ d → x ≢ m → (a' x).status ≡ (a x).status
  pub parents_same : (x : ℕ) → x ≢ c → x ≢ d → x ≢ m → (a x).parent ≢ m → (a' x).parent ≡ (a x).parent
  pub parents_moved : (x : ℕ) → (a x).status ≡ Linked → (a x).parent ≡ m → (a' x).parent ≡ c
  pub nodes : (x : ℕ) → x ≢ c → x ≢ d → x ≢ n → x ≢ m → h' x ≡ h x

grow_stays : {V : Type 0} (a : ℕ → Note) (h : ℕ → Node V) (a' : ℕ → Note) (h' : ℕ → Node V) (n m c d : ℕ) (key : List ℕ) (v : V) → Grows a h a' h' n m c d key v
    → (x : ℕ) → (a x).status ≡ Linked → x ≢ m → (a' x).status ≡ Linked
grow_stays a h a' h' n m c d key v k x l ne = k.notes x (link_other a x c l k.unlinked) (link_other a x d l k.unlinked_leaf) ne ∙ l

grow_graft : {V : Type 0} (a : ℕ → Note) (h : ℕ → Node V) (a' : ℕ → Note) (h' : ℕ → Node V) (n m c d : ℕ) (key : List ℕ) (v : V) → Grows a h a' h' n m c d key v
    → Graft a h a' h' n (get_or key (length (h n).prefix) 0)
grow_graft a h a' h' n m c d key v k =
    let apart : (x : ℕ) → ((h n).children (get_or key (length (h n).prefix) 0) ≡ Below x → ⊥) → x ≢ m
    = λ x w e. w (let P : ℕ → Type 0 = λ y. child_for (h n) key ≡ Below y in subst P (sym e) k.hung) in
    record {
      prefix = λ x l. elim (same_or_not x n) [
        | inl p ↦ (let P : ℕ → Type 0 = λ y. (h' y).prefix ≡ (h y).prefix in subst P (sym p) k.prefix)
        | inr q ↦ elim (same_or_not x m) [
          | inl p ↦ (let P : ℕ → Type 0 = λ y. (h' y).prefix ≡ (h y).prefix in subst P (sym p) k.prefix_old)
          | inr r ↦ rw (k.nodes x (link_other a x c l k.unlinked) (link_other a x d l k.unlinked_leaf) q r) refl
        ]
      ];
      others = λ x b l l' q. rw (k.nodes x (link_other a x c l k.unlinked) (link_other a x d l k.unlinked_leaf) q (gone_not a' x m k.left l')) refl;
      beside = k.beside;
      stays = λ x l w. grow_stays a h a' h' n m c d key v k x l (apart x w);
      parents = λ x l w l'. k.parents_same x (link_other a x c l k.unlinked) (link_other a x d l k.unlinked_leaf) (apart x w) (gone_not a' (a x).parent m k.left l');
    }

-- the children of the greater node
grow_copied : {V : Type 0} (a : ℕ → Note) (h : ℕ → Node V) (a' : ℕ → Note) (h' : ℕ → Node V) (n m c d : ℕ) (key : List ℕ) (v : V) → Tree a h → Grows a h a' h' n m c d key v
    → (b x : ℕ) → b ≢ get_or key (length (h m).prefix) 0 → (h' c).children b ≡ Below x → IsChild a' h' c b x
grow_copied a h a' h' n m c d key v t k b x ne e =
    let g : Graft a h a' h' n (get_or key (length (h n).prefix) 0) = grow_graft a h a' h' n m c d key v k in
    let lm : (a m).status ≡ Linked = (t.down n _ m k.linked k.hung).linked in
    let i : IsChild a h m b x = t.down m b x lm (sym (k.copied b ne) ∙ e) in
    let other : x ≢ m = (λ p. let z : length (h x).prefix ≡ length (h m).prefix = ap (λ y. length (h y).prefix) p in absurd (omega (arith, i.longer))) in
    record {
      linked = grow_stays a h a' h' n m c d key v k x i.linked other;
      parent = k.parents_moved x i.linked i.parent;
      fitted = rw (k.same_prefix, g.prefix x i.linked) i.fitted;
      longer = rw (k.same_prefix, g.prefix x i.linked) i.longer;
      byte = rw (k.same_prefix, g.prefix x i.linked) i.byte;
    }

grow_down : {V : Type 0} (a : ℕ → Note) (h : ℕ → Node V) (a' : ℕ → Note) (h' : ℕ → Node V) (n m c d : ℕ) (key : List ℕ) (v : V) → Tree a h → Grows a h a' h' n m c d key v
    → Extra a' h' c d key v → (b x : ℕ) → (h' c).children b ≡ Below x → IsChild a' h' c b x
grow_down a h a' h' n m c d key v t k (a_value q seven has) b x e =
    elim (same_or_not b (get_or key (length (h m).prefix) 0)) [
      | inl p ↦ (let f : child_for (h' c) key ≡ Below x = (let S : ℕ → Type 0 = λ y. (h' c).children y ≡ Below x in rw k.same_prefix (subst S p e)) in
          let z : Holds v ≡ Below x = sym has ∙ f in absurd cc)
      | inr p ↦ grow_copied a h a' h' n m c d key v t k b x p e
    ]
grow_down a h a' h' n m c d key v t k (a_leaf inner has leaf joined par) b x e =
    elim (same_or_not b (get_or key (length (h m).prefix) 0)) [
      | inl p ↦ (let f : child_for (h' c) key ≡ Below x = (let S : ℕ → Type 0 = λ y. (h' c).children y ≡ Below x in rw k.same_prefix (subst S p e)) in
          let z : Below d ≡ Below x = sym has ∙ f in
          let y : d ≡ x = cc in
          let sh : length (h' c).prefix < length (h' d).prefix = omega (arith, inner, leaf.seven) in
          let T : ℕ → Type 0 = λ w. IsChild a' h' c b w in
          subst T y (record {
            linked = joined;
            parent = par;
            fitted = fits_between (h' c).prefix (h' d).prefix key (rw k.same_prefix k.fitted_old) leaf.fitted (omega (arith, sh));
            longer = sh;
            byte = sym (fits_byte (h' d).prefix key (length (h' c).prefix) leaf.fitted sh) ∙ (rw k.same_prefix (sym p));
          }))
      | inr p ↦ grow_copied a h a' h' n m c d key v t k b x p e
    ]

-- where a value stands in the greater node, it is a leaf
grow_value : {V : Type 0} (a : ℕ → Note) (h : ℕ → Node V) (a' : ℕ → Note) (h' : ℕ → Node V) (n m c d : ℕ) (key : List ℕ) (v : V) → Tree a h → Grows a h a' h' n m c d key v
    → Extra a' h' c d key v → (b : ℕ) (w : V) → (h' c).children b ≡ Holds w → length (h' c).prefix ≡ 7
grow_value a h a' h' n m c d key v t k (a_value q seven has) b w e = seven
grow_value a h a' h' n m c d key v t k (a_leaf inner has leaf joined par) b w e =
    elim (same_or_not b (get_or key (length (h m).prefix) 0)) [
      | inl p ↦ (let f : child_for (h' c) key ≡ Holds w = (let S : ℕ → Type 0 = λ y. (h' c).children y ≡ Holds w in rw k.same_prefix (subst S p e)) in
          let z : Below d ≡ Holds w = sym has ∙ f in absurd cc)
      | inr p ↦ rw k.same_prefix (t.leaves m b w (t.down n _ m k.linked k.hung).linked (sym (k.copied b p) ∙ e))
    ]

grow_top : {V : Type 0} (a : ℕ → Note) (h : ℕ → Node V) (a' : ℕ → Note) (h' : ℕ → Node V) (n m c d : ℕ) (key : List ℕ) (v : V) → Tree a h → Grows a h a' h' n m c d key v
    → (b x : ℕ) → b ≡ get_or key (length (h n).prefix) 0 → (h' n).children b ≡ Below x → IsChild a' h' n b x
grow_top a h a' h' n m c d key v t k b x p e =
    let i : IsChild a h n (get_or key (length (h n).prefix) 0) m = t.down n _ m k.linked k.hung in
    let f : (h' n).children (get_or key (length (h n).prefix) 0) ≡ Below x = (let S : ℕ → Type 0 = λ y. (h' n).children y ≡ Below x in subst S p e) in
    let z : Below c ≡ Below x = sym k.child ∙ f in
    let y : c ≡ x = cc in
    let T : ℕ → Type 0 = λ w. IsChild a' h' n b w in
    subst T y (record {
      linked = k.joined;
      parent = k.parent;
      fitted = rw (k.prefix, k.same_prefix) i.fitted;
      longer = rw (k.prefix, k.same_prefix) i.longer;
      byte = rw (k.prefix, k.same_prefix) (i.byte ∙ sym p);
    })

-- a new leaf that is no node of its own, or the child of the greater node
grow_leaf_down : {V : Type 0} (a' : ℕ → Note) (h' : ℕ → Node V) (c d : ℕ) (key : List ℕ) (v : V) → Extra a' h' c d key v → d ≢ c → (b x : ℕ) → (h' d).children b ≡ Below x → ⊥
grow_leaf_down a' h' c d key v (a_value q seven has) ne b x e = ne q
grow_leaf_down a' h' c d key v (a_leaf inner has leaf joined par) ne b x e = leaf_no_node h' d key v b x leaf e

grow_leaf_up : {V : Type 0} (a' : ℕ → Note) (h' : ℕ → Node V) (c d : ℕ) (key : List ℕ) (v : V) → Extra a' h' c d key v → (a' c).status ≡ Linked → d ≢ c → HasParent a' h' d
grow_leaf_up a' h' c d key v (a_value q seven has) l ne = absurd (ne q)
grow_leaf_up a' h' c d key v (a_leaf inner has leaf joined par) l ne = record { linked = rw par l; byte = get_or key (length (h' c).prefix) 0; holds = rw par has }

grow_leaf_short : {V : Type 0} (a' : ℕ → Note) (h' : ℕ → Node V) (c d : ℕ) (key : List ℕ) (v : V) → Extra a' h' c d key v → d ≢ c → length (h' d).prefix ≤ 7
grow_leaf_short a' h' c d key v (a_value q seven has) ne = absurd (ne q)
grow_leaf_short a' h' c d key v (a_leaf inner has leaf joined par) ne = omega (arith, leaf.seven)

-- the new leaf has a prefix of seven
grow_leaf_seven : {V : Type 0} (a' : ℕ → Note) (h' : ℕ → Node V) (c d : ℕ) (key : List ℕ) (v : V) → Extra a' h' c d key v → d ≢ c → length (h' d).prefix ≡ 7
grow_leaf_seven a' h' c d key v (a_value q seven has) ne = absurd (ne q)
grow_leaf_seven a' h' c d key v (a_leaf inner has leaf joined par) ne = leaf.seven

-- the nodes are a tree after a full node gave way to a greater one
pub grow_tree : {V : Type 0} (a : ℕ → Note) (h : ℕ → Node V) (a' : ℕ → Note) (h' : ℕ → Node V) (n m c d : ℕ) (key : List ℕ) (v : V) → Tree a h → Grows a h a' h' n m c d key v → Tree a' h'
grow_tree a h a' h' n m c d key v t k =
    let g : Graft a h a' h' n (get_or key (length (h n).prefix) 0) = grow_graft a h a' h' n m c d key v k in
    let i : IsChild a h n (get_or key (length (h n).prefix) 0) m = t.down n _ m k.linked k.hung in
    let was : (x : ℕ) → x ≢ c → x ≢ d → (a' x).status ≡ Linked → (a x).status ≡ Linked = λ x nc nd l. sym (k.notes x nc nd (gone_not a' x m k.left l)) ∙ l in
    let root : 0 ≢ m = (λ e. let z : length (h 0).prefix ≡ length (h m).prefix = ap (λ y. length (h y).prefix) e in
    let y : length (h 0).prefix ≡ 0 = ap length t.empty in absurd (omega (arith, i.longer))) in
    let parent_stays : (a' n).status ≡ Linked = grow_stays a h a' h' n m c d key v k n k.linked
    (λ e. let z : length (h n).prefix ≡ length (h m).prefix = ap (λ y. length (h y).prefix) e in absurd (omega (arith, i.longer))) in
    record {
      root = grow_stays a h a' h' n m c d key v k 0 t.root root;
      empty = g.prefix 0 t.root ∙ t.empty;
      short = λ x l. elim (same_or_not x c) [
        | inl p ↦ (let P : ℕ → Type 0 = λ y. length (h' y).prefix ≤ 7 in subst P (sym p) (rw k.same_prefix (t.short m i.linked)))
        | inr nc ↦ elim (same_or_not x d) [
          | inl p ↦ (let P : ℕ → Type 0 = λ y. length (h' y).prefix ≤ 7 in subst P (sym p) (grow_leaf_short a' h' c d key v k.extra (λ e. nc (p ∙ e))))
          | inr nd ↦ (let w : (a x).status ≡ Linked = was x nc nd l in rw (g.prefix x w) (t.short x w))
        ]
      ];
      leaves = λ x b w l e. elim (same_or_not x c) [
        | inl p ↦ (let P : ℕ → Type 0 = λ z. (h' z).children b ≡ Holds w → length (h' z).prefix ≡ 7 in subst P (sym p) (grow_value a h a' h' n m c d key v t k k.extra b w) e)
        | inr nc ↦ elim (same_or_not x d) [
          | inl p ↦ (let P : ℕ → Type 0 = λ z. length (h' z).prefix ≡ 7 in subst P (sym p) (grow_leaf_seven a' h' c d key v k.extra (λ q. nc (p ∙ q))))
          | inr nd ↦ old_leaves a h a' h' n _ t g x b w (was x nc nd l) l
              (λ p r. let f : (h' n).children (get_or key (length (h n).prefix) 0) ≡ Holds w = (let S : ℕ → Type 0 = λ z. (h' z).children (get_or key (length (h n).prefix) 0) ≡ Holds w in subst S p (let S' : ℕ → Type 0 = λ z. (h' x).children z ≡ Holds w in subst S' r e)) in
              let z : Below c ≡ Holds w = sym k.child ∙ f in cc) e
        ]
      ];
      down = λ x b y l e. elim (same_or_not x c) [
        | inl p ↦ (let P : ℕ → Type 0 = λ z. (h' z).children b ≡ Below y → IsChild a' h' z b y in subst P (sym p) (grow_down a h a' h' n m c d key v t k k.extra b y) e)
        | inr nc ↦ elim (same_or_not x d) [
          | inl p ↦ absurd (grow_leaf_down a' h' c d key v k.extra (λ q. nc (p ∙ q)) b y (let P : ℕ → Type 0 = λ z. (h' z).children b ≡ Below y in subst P p e))
          | inr nd ↦ (let w : (a x).status ≡ Linked = was x nc nd l in elim (same_or_not x n) [
            | inl p ↦ elim (same_or_not b (get_or key (length (h n).prefix) 0)) [
              | inl r ↦ (let P : ℕ → Type 0 = λ z. (h' z).children b ≡ Below y → IsChild a' h' z b y in subst P (sym p) (grow_top a h a' h' n m c d key v t k b y r) e)
              | inr r ↦ old_down a h a' h' n _ t k.linked g x b y w l (λ _ z. r z) e
            ]
            | inr r ↦ old_down a h a' h' n _ t k.linked g x b y w l (λ z _. r z) e
          ])
        ]
      ];
      up = λ x l ne. elim (same_or_not x c) [
        | inl p ↦ (let P : ℕ → Type 0 = λ z. HasParent a' h' z in subst P (sym p) (record {
          linked = rw k.parent parent_stays;
          byte = get_or key (length (h n).prefix) 0;
          holds = rw k.parent k.child;
        }))
        | inr nc ↦ elim (same_or_not x d) [
          | inl p ↦ (let P : ℕ → Type 0 = λ z. HasParent a' h' z in subst P (sym p) (grow_leaf_up a' h' c d key v k.extra k.joined (λ e. nc (p ∙ e))))
          | inr nd ↦ (let w : (a x).status ≡ Linked = was x nc nd l in
              let u : HasParent a h x = t.up x w ne in elim (same_or_not (a x).parent m) [
                | inl p ↦ (let f : (h m).children u.byte ≡ Below x = (let S : ℕ → Type 0 = λ y. (h y).children u.byte ≡ Below x in subst S p u.holds) in
                    let off : u.byte ≢ get_or key (length (h m).prefix) 0 = (λ e. let z : child_for (h m) key ≡ Below x = (let S : ℕ → Type 0 = λ y. (h m).children y ≡ Below x in subst S e f) in
                    let y : Nothing ≡ Below x = sym k.absent ∙ z in absurd cc) in
                    let q : (a' x).parent ≡ c = k.parents_moved x w p in
                    record { linked = rw q k.joined; byte = u.byte; holds = rw q (k.copied u.byte off ∙ f) })
                | inr q ↦ old_up a h a' h' n _ t k.linked g x w ne
                    (λ y. let z : Below m ≡ Below x = sym k.hung ∙ y in gone_not a' x m k.left l (sym cc))
                    (grow_stays a h a' h' n m c d key v k (a x).parent u.linked q)
              ])
        ]
      ];
    }

grow_extra : {V : Type 0} (a' : ℕ → Note) (h' : ℕ → Node V) (c d : ℕ) (key : List ℕ) (v : V) → Extra a' h' c d key v → fits (h' c).prefix key ≡ true → walk h' 7 c key ≡ Some v
grow_extra a' h' c d key v (a_value q seven has) f = walk_enters h' 6 c key (Holds v) f has
grow_extra a' h' c d key v (a_leaf inner has leaf joined par) f = walk_enters h' 6 c key (Below d) f has ∙ leaf_value h' 5 d key v leaf

grow_none : {V : Type 0} (a' : ℕ → Note) (h' : ℕ → Node V) (c d : ℕ) (key : List ℕ) (v : V) → Extra a' h' c d key v → length key ≡ 8 → (x : List ℕ) → length x ≡ 8 → x ≢ key
    → fits (h' c).prefix key ≡ true → fits (h' c).prefix x ≡ true → get_or x (length (h' c).prefix) 0 ≡ get_or key (length (h' c).prefix) 0 → walk h' 7 c x ≡ None
grow_none a' h' c d key v (a_value q seven has) len x lx ne f f' e = absurd (ne (same_key (h' c).prefix x key f' f (omega arith) (omega arith) e))
grow_none a' h' c d key v (a_leaf inner has leaf joined par) len x lx ne f f' e =
    walk_enters h' 6 c x (Below d) f' (child_moved (h' c) key x (Below d) e has) ∙ leaf_other h' 5 d key v x len lx ne leaf

grow_below : {V : Type 0} (a : ℕ → Note) (h : ℕ → Node V) (a' : ℕ → Note) (h' : ℕ → Node V) (n m c d : ℕ) (key : List ℕ) (v : V) → length key ≡ 8 → Tree a h → Tree a' h' → Grows a h a' h' n m c d key v
    → (x : List ℕ) → length x ≡ 8 → x ≢ key → walk h' 7 c x ≡ walk h 7 m x
grow_below a h a' h' n m c d key v len t t' k x lx ne =
    let i : IsChild a h n (get_or key (length (h n).prefix) 0) m = t.down n _ m k.linked k.hung in
    let g : Graft a h a' h' n (get_or key (length (h n).prefix) 0) = grow_graft a h a' h' n m c d key v k in
    on_test (fits (h m).prefix x)
    (λ q. elim (same_or_not (get_or x (length (h m).prefix) 0) (get_or key (length (h m).prefix) 0)) [
      | inl e ↦ grow_none a' h' c d key v k.extra len x lx ne (rw k.same_prefix k.fitted_old) (rw k.same_prefix q) (rw k.same_prefix e)
          ∙ sym (walk_enters h 6 m x Nothing q (child_moved (h m) key x Nothing e k.absent))
      | inr e ↦ walk_enters h' 6 c x ((h m).children (get_or x (length (h m).prefix) 0)) (rw k.same_prefix q) (rw k.same_prefix (k.copied _ e))
          ∙ (of_child_same (λ z. walk h' 6 z x) (λ z. walk h 6 z x) _
          (λ y f. let j : IsChild a h m (get_or x (length (h m).prefix) 0) y = t.down m _ y i.linked f in
          let j' : IsChild a' h' c (get_or x (length (h m).prefix) 0) y = t'.down c _ y k.joined (k.copied _ e ∙ f) in
          walk_untouched a h a' h' n _ t t' g 6 y x j.linked j'.linked (inl (omega (arith, i.longer, j.longer))))
          ∙ sym (walk_enters h 6 m x _ q refl))
    ])
    (λ q. not_here h' 6 c x (rw k.same_prefix q) ∙ sym (not_here h 6 m x q))

-- the key was absent and has its value after that, and every other key finds what it found
pub grow_map : {V : Type 0} (a : ℕ → Note) (h : ℕ → Node V) (a' : ℕ → Note) (h' : ℕ → Node V) (n m c d : ℕ) (key : List ℕ) (v : V) → length key ≡ 8 → Tree a h → Grows a h a' h' n m c d key v
    → (value_at h key ≡ None) × (value_at h' key ≡ Some v) × ((k : List ℕ) → length k ≡ 8 → k ≢ key → value_at h' k ≡ value_at h k)
grow_map a h a' h' n m c d key v len t k =
    let g : Graft a h a' h' n (get_or key (length (h n).prefix) 0) = grow_graft a h a' h' n m c d key v k in
    let t' : Tree a' h' = grow_tree a h a' h' n m c d key v t k in
    let i : IsChild a h n (get_or key (length (h n).prefix) 0) m = t.down n _ m k.linked k.hung in
    let l' : (a' n).status ≡ Linked = grow_stays a h a' h' n m c d key v k n k.linked
    (λ e. let z : length (h n).prefix ≡ length (h m).prefix = ap (λ y. length (h y).prefix) e in absurd (omega (arith, i.longer))) in (
      value_at_linked a h t m key Nothing i.linked k.fitted_old k.absent,
      value_at_linked a' h' t' n key (Below c) l' (rw k.prefix k.fitted) (rw k.prefix k.child) ∙ grow_extra a' h' c d key v k.extra (rw k.same_prefix k.fitted_old),
      (λ x lx ne. on_test (fits (h n).prefix x)
          (λ q. elim (same_or_not (get_or x (length (h n).prefix) 0) (get_or key (length (h n).prefix) 0)) [
            | inl e ↦ value_at_linked a' h' t' n x (Below c) l' (rw k.prefix q) (rw k.prefix (rw e k.child))
                ∙ (grow_below a h a' h' n m c d key v len t t' k x lx ne ∙ sym (value_at_linked a h t n x (Below m) k.linked q (child_moved (h n) key x (Below m) e k.hung)))
            | inr e ↦ walk_untouched a h a' h' n _ t t' g 8 0 x t.root t'.root (inr (λ _ y. e y))
          ])
          (λ q. walk_untouched a h a' h' n _ t t' g 8 0 x t.root t'.root (inr (λ y _. cc)))),
    )
