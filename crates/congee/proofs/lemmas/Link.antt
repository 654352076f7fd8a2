-- A leaf for one key comes in below a node where nothing hung.
use Rattle.std.proofs.Common.{◌≡◌, ◌≢◌, ℕ, suc, ◌<◌, ◌≤◌, ◌==◌, inl, inr, true, false, List, [], ◌∷◌, length, get_or, refl, sym, ◌∙◌, subst, arith}
use Rattle.std.specs.Prelude.{None, Some}
use Rattle.congee.specs.Heap.{Hung, Nothing, Below, Holds, Node, fits, child_for, walk, value_at}
use Rattle.congee.specs.Notes.{Linked, Note, IsChild, HasParent, Tree}
use Rattle.congee.proofs.lemmas.Fits.{fits_byte, same_key, both_true, and_true, equal_of_test, same_test}
use Rattle.congee.proofs.lemmas.Tree.{same_or_not, walk_enters, value_at_linked}
use Rattle.congee.proofs.lemmas.Graft.{Graft, old_down, old_leaves, old_up, walk_untouched, on_test}

-- keys with the same byte at a node find the same child there
pub child_moved : {V : Type 0} (n : Node V) (key k : List ℕ) (x : Hung V) → get_or k (length n.prefix) 0 ≡ get_or key (length n.prefix) 0 → child_for n key ≡ x → child_for n k ≡ x
child_moved n key k x e f = let P : ℕ → Type 0 = λ y. n.children y ≡ x in subst P (sym e) f

-- a leaf with the value of one key
pub record Leaf {V : Type 0} (h : ℕ → Node V) (d : ℕ) (key : List ℕ) (v : V) : Type 0 where
  pub fitted : fits (h d).prefix key ≡ true
  pub seven : length (h d).prefix ≡ 7
  pub value : child_for (h d) key ≡ Holds v
  pub empty : (c : ℕ) → c ≢ get_or key (length (h d).prefix) 0 → (h d).children c ≡ Nothing

-- no node hangs in a leaf with one value
pub leaf_no_node : {V : Type 0} (h : ℕ → Node V) (d : ℕ) (key : List ℕ) (v : V) (c e : ℕ) → Leaf h d key v → (h d).children c ≡ Below e → ⊥
leaf_no_node h d key v c e l q = elim (same_or_not c (get_or key (length (h d).prefix) 0)) [
  | inl p ↦ (let f : (h d).children (get_or key (length (h d).prefix) 0) ≡ Below e = (let P : ℕ → Type 0 = λ x. (h d).children x ≡ Below e in subst P p q) in
      let g : Holds v ≡ Below e = sym l.value ∙ f in cc)
  | inr p ↦ (let g : Nothing ≡ Below e = sym (l.empty c p) ∙ q in cc)
]

-- a walk from a leaf with one value finds it by its key
pub leaf_value : {V : Type 0} (h : ℕ → Node V) (f d : ℕ) (key : List ℕ) (v : V) → Leaf h d key v → walk h (suc f) d key ≡ Some v
leaf_value h f d key v l = walk_enters h f d key (Holds v) l.fitted l.value

-- a walk from a node whose prefix the key doesn't have finds nothing
pub not_here : {V : Type 0} (h : ℕ → Node V) (f d : ℕ) (k : List ℕ) → fits (h d).prefix k ≡ false → walk h (suc f) d k ≡ None
not_here h f d k e = rw e refl

-- a walk from a leaf with one value finds nothing by another key
pub leaf_other : {V : Type 0} (h : ℕ → Node V) (f d : ℕ) (key : List ℕ) (v : V) (k : List ℕ) → length key ≡ 8 → length k ≡ 8 → k ≢ key → Leaf h d key v → walk h (suc f) d k ≡ None
leaf_other h f d key v k lk lx ne l = on_test (fits (h d).prefix k)
    (λ q. walk_enters h f d k Nothing q (l.empty _ (λ e. ne (same_key (h d).prefix k key q l.fitted (omega (arith, l.seven)) (omega (arith, l.seven)) e))))
    (λ q. not_here h f d k q)

-- before and after: leaf d comes in for an absent key, below node n, where nothing hung
pub record Links {V : Type 0} (a : ℕ → Note) (h : ℕ → Node V) (a' : ℕ → Note) (h' : ℕ → Node V) (n d : ℕ) (key : List ℕ) (v : V) : Type 0 where
  pub linked : (a n).status ≡ Linked
  pub fitted : fits (h n).prefix key ≡ true
  pub inner : length (h n).prefix < 7
  pub nothing : child_for (h n) key ≡ Nothing
  pub unlinked : (a d).status ≢ Linked
  pub prefix : (h' n).prefix ≡ (h n).prefix
  pub child : (h' n).children (get_or key (length (h n).prefix) 0) ≡ Below d
  pub beside : (c : ℕ) → c ≢ get_or key (length (h n).prefix) 0 → (h' n).children c ≡ (h n).children c
  pub leaf : Leaf h' d key v
  pub joined : (a' d).status ≡ Linked
  pub parent : (a' d).parent ≡ n
  pub notes : (m : ℕ) → m ≢ d → a' m ≡ a m
  pub nodes : (m : ℕ) → m ≢ d → m ≢ n → h' m ≡ h m

-- a node of the tree is none that is out of it
pub link_other : (a : ℕ → Note) (m d : ℕ) → (a m).status ≡ Linked → (a d).status ≢ Linked → m ≢ d
link_other a m d l u e = u (let P : ℕ → Type 0 = λ x. (a x).status ≡ Linked in subst P e l)

link_graft : {V : Type 0} (a : ℕ → Note) (h : ℕ → Node V) (a' : ℕ → Note) (h' : ℕ → Node V) (n d : ℕ) (key : List ℕ) (v : V) → Links a h a' h' n d key v
    → Graft a h a' h' n (get_or key (length (h n).prefix) 0)
link_graft a h a' h' n d key v k = record {
  prefix = λ m l. elim (same_or_not m n) [
    | inl p ↦ (let P : ℕ → Type 0 = λ x. (h' x).prefix ≡ (h x).prefix in subst P (sym p) k.prefix)
    | inr q ↦ rw (k.nodes m (link_other a m d l k.unlinked) q) refl
  ];
  others = λ m c l l' q. rw (k.nodes m (link_other a m d l k.unlinked) q) refl;
  beside = k.beside;
  stays = λ m l w. rw (k.notes m (link_other a m d l k.unlinked)) l;
  parents = λ m l w l'. rw (k.notes m (link_other a m d l k.unlinked)) refl;
}

-- the prefix of a node on the key's way and a longer one there
pub fits_between : (p q key : List ℕ) → fits p key ≡ true → fits q key ≡ true → length p ≤ length q → fits p q ≡ true
fits_between [] q key a b l = refl
fits_between (x ∷ p) [] key a b l = absurd (omega arith)
fits_between (x ∷ p) (y ∷ q) [] a b l = absurd cc
fits_between (x ∷ p) (y ∷ q) (z ∷ key) a b l =
    let a' : (x == z ≡ true) × (fits p key ≡ true) = both_true _ _ a in
    let b' : (y == z ≡ true) × (fits q key ≡ true) = both_true _ _ b in
    let e : x ≡ y = equal_of_test x z a'.0 ∙ sym (equal_of_test y z b'.0) in
    and_true _ _ (let P : ℕ → Type 0 = λ w. x == w ≡ true in subst P e (same_test x x refl)) (fits_between p q key a'.1 b'.1 (omega arith))

-- the nodes are a tree after a leaf came in
pub link_tree : {V : Type 0} (a : ℕ → Note) (h : ℕ → Node V) (a' : ℕ → Note) (h' : ℕ → Node V) (n d : ℕ) (key : List ℕ) (v : V) → Tree a h → Links a h a' h' n d key v → Tree a' h'
link_tree a h a' h' n d key v t k =
    let g : Graft a h a' h' n (get_or key (length (h n).prefix) 0) = link_graft a h a' h' n d key v k in
    let root : 0 ≢ d = link_other a 0 d t.root k.unlinked in
    record {
      root = rw (k.notes 0 root) t.root;
      empty = g.prefix 0 t.root ∙ t.empty;
      short = λ m l. elim (same_or_not m d) [
        | inl p ↦ (let P : ℕ → Type 0 = λ x. length (h' x).prefix ≤ 7 in subst P (sym p) (omega (arith, k.leaf.seven)))
        | inr q ↦ (let l0 : (a m).status ≡ Linked = rw (k.notes m q) at l in rw (g.prefix m l0) (t.short m l0))
      ];
      leaves = λ m b w l e. elim (same_or_not m d) [
        | inl p ↦ (let P : ℕ → Type 0 = λ x. length (h' x).prefix ≡ 7 in subst P (sym p) k.leaf.seven)
        | inr q ↦ (let l0 : (a m).status ≡ Linked = rw (k.notes m q) at l in
            old_leaves a h a' h' n _ t g m b w l0 l
            (λ p r. let f : (h' n).children (get_or key (length (h n).prefix) 0) ≡ Holds w = (let S : ℕ → Type 0 = λ x. (h' x).children (get_or key (length (h n).prefix) 0) ≡ Holds w in subst S p (let S' : ℕ → Type 0 = λ y. (h' m).children y ≡ Holds w in subst S' r e)) in
            let x : Below d ≡ Holds w = sym k.child ∙ f in cc) e)
      ];
      down = λ m b c l e. elim (same_or_not m d) [
        | inl p ↦ absurd (leaf_no_node h' d key v b c k.leaf (let P : ℕ → Type 0 = λ x. (h' x).children b ≡ Below c in subst P p e))
        | inr q ↦ (let l0 : (a m).status ≡ Linked = rw (k.notes m q) at l in elim (same_or_not m n) [
          | inl p ↦ elim (same_or_not b (get_or key (length (h n).prefix) 0)) [
            | inl r ↦ (let P : ℕ → ℕ → Type 0 = λ x y. IsChild a' h' x y c in
                let Q : ℕ → Type 0 = λ x. P x b in let R : ℕ → Type 0 = λ y. P n y in
                let f : (h' n).children (get_or key (length (h n).prefix) 0) ≡ Below c = (let S : ℕ → Type 0 = λ x. (h' x).children (get_or key (length (h n).prefix) 0) ≡ Below c in subst S p (let S' : ℕ → Type 0 = λ y. (h' m).children y ≡ Below c in subst S' r e)) in
                let x : Below d ≡ Below c = sym k.child ∙ f in
                let y : d ≡ c = cc in
                let T : ℕ → Type 0 = λ z. IsChild a' h' n (get_or key (length (h n).prefix) 0) z in
                subst Q (sym p) (subst R (sym r) (subst T y (record {
                  linked = k.joined;
                  parent = k.parent;
                  fitted = rw k.prefix (fits_between (h n).prefix (h' d).prefix key k.fitted k.leaf.fitted (omega (arith, k.inner, k.leaf.seven)));
                  longer = rw k.prefix (omega (arith, k.inner, k.leaf.seven));
                  byte = rw k.prefix (sym (fits_byte (h' d).prefix key (length (h n).prefix) k.leaf.fitted (omega (arith, k.inner, k.leaf.seven))));
                }))))
            | inr r ↦ old_down a h a' h' n _ t k.linked g m b c l0 l (λ _ x. r x) e
          ]
          | inr r ↦ old_down a h a' h' n _ t k.linked g m b c l0 l (λ x _. r x) e
        ])
      ];
      up = λ m l ne. elim (same_or_not m d) [
        | inl p ↦ (let P : ℕ → Type 0 = λ x. HasParent a' h' x in subst P (sym p) (record {
          linked = rw (k.parent, k.notes n (link_other a n d k.linked k.unlinked)) k.linked;
          byte = get_or key (length (h n).prefix) 0;
          holds = rw k.parent k.child;
        }))
        | inr q ↦ (let l0 : (a m).status ≡ Linked = rw (k.notes m q) at l in
            let u : HasParent a h m = t.up m l0 ne in
            old_up a h a' h' n _ t k.linked g m l0 ne (λ x. let y : Nothing ≡ Below m = sym k.nothing ∙ x in cc)
            (rw (k.notes (a m).parent (link_other a (a m).parent d u.linked k.unlinked)) u.linked))
      ];
    }

-- the key was absent and has the leaf's value after it, and every other key finds what it found
pub link_map : {V : Type 0} (a : ℕ → Note) (h : ℕ → Node V) (a' : ℕ → Note) (h' : ℕ → Node V) (n d : ℕ) (key : List ℕ) (v : V) → length key ≡ 8 → Tree a h → Links a h a' h' n d key v
    → (value_at h key ≡ None) × (value_at h' key ≡ Some v) × ((k : List ℕ) → length k ≡ 8 → k ≢ key → value_at h' k ≡ value_at h k)
link_map a h a' h' n d key v len t k =
    let g : Graft a h a' h' n (get_or key (length (h n).prefix) 0) = link_graft a h a' h' n d key v k in
    let t' : Tree a' h' = link_tree a h a' h' n d key v t k in
    let other : n ≢ d = link_other a n d k.linked k.unlinked in
    let l' : (a' n).status ≡ Linked = rw (k.notes n other) k.linked in
    let there : child_for (h' n) key ≡ Below d = rw k.prefix k.child in (
      value_at_linked a h t n key Nothing k.linked k.fitted k.nothing,
      value_at_linked a' h' t' n key (Below d) l' (rw k.prefix k.fitted) there ∙ leaf_value h' 6 d key v k.leaf,
      (λ x lx ne. on_test (fits (h n).prefix x)
          (λ q. elim (same_or_not (get_or x (length (h n).prefix) 0) (get_or key (length (h n).prefix) 0)) [
            | inl e ↦ value_at_linked a' h' t' n x (Below d) l' (rw k.prefix q) (rw k.prefix (rw e k.child)) ∙ (leaf_other h' 6 d key v x len lx ne k.leaf ∙ sym (value_at_linked a h t n x Nothing k.linked q (child_moved (h n) key x Nothing e k.nothing)))
            | inr e ↦ walk_untouched a h a' h' n _ t t' g 8 0 x t.root t'.root (inr (λ _ y. e y))
          ])
          (λ q. walk_untouched a h a' h' n _ t t' g 8 0 x t.root t'.root (inr (λ y _. cc)))),
    )
