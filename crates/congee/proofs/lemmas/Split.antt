-- A node whose prefix differs from the key gets a new node above it, beside a new leaf.
use Rattle.std.proofs.Common.{◌≡◌, ◌≢◌, ℕ, ◌<◌, ◌≤◌, inl, inr, true, false, List, length, get_or, refl, sym, ◌∙◌, subst, arith}
use Rattle.std.specs.Prelude.{None, Some}
use Rattle.congee.specs.Heap.{Nothing, Below, Holds, Node, fits, child_for, walk, value_at}
use Rattle.congee.specs.Notes.{Linked, Note, IsChild, HasParent, Tree}
use Rattle.congee.proofs.lemmas.Fits.{fits_trans, fits_byte}
use Rattle.congee.proofs.lemmas.Tree.{same_or_not, walk_same, walk_enters, value_at_linked, value_at_unfit}
use Rattle.congee.proofs.lemmas.Graft.{Graft, old_down, old_leaves, old_up, walk_untouched, on_test}
use Rattle.congee.proofs.lemmas.Link.{Leaf, leaf_no_node, leaf_value, leaf_other, child_moved, not_here, link_other, fits_between}

-- before and after: node m, which hung below n and hasn't the key's prefix, hangs below a new node c, beside a new leaf d
pub record Splits {V : Type 0} (a : ℕ → Note) (h : ℕ → Node V) (a' : ℕ → Note) (h' : ℕ → Node V) (n m c d : ℕ) (key : List ℕ) (v : V) : Type 0 where
  pub linked : (a n).status ≡ Linked
  pub fitted : fits (h n).prefix key ≡ true
  pub hung : child_for (h n) key ≡ Below m
  pub differs : fits (h m).prefix key ≡ false
  pub over_key : fits (h' c).prefix key ≡ true
  pub over_old : fits (h' c).prefix (h m).prefix ≡ true
  pub longer : length (h n).prefix < length (h' c).prefix
  pub shorter : length (h' c).prefix < length (h m).prefix
  pub apart : get_or key (length (h' c).prefix) 0 ≢ get_or (h m).prefix (length (h' c).prefix) 0
  pub old_child : (h' c).children (get_or (h m).prefix (length (h' c).prefix) 0) ≡ Below m
  pub new_child : (h' c).children (get_or key (length (h' c).prefix) 0) ≡ Below d
  pub empty : (x : ℕ) → x ≢ get_or (h m).prefix (length (h' c).prefix) 0 → x ≢ get_or key (length (h' c).prefix) 0 → (h' c).children x ≡ Nothing
  pub leaf : Leaf h' d key v
  pub unlinked_above : (a c).status ≢ Linked
  pub unlinked_leaf : (a d).status ≢ Linked
  pub prefix : (h' n).prefix ≡ (h n).prefix
  pub child : (h' n).children (get_or key (length (h n).prefix) 0) ≡ Below c
  pub beside : (x : ℕ) → x ≢ get_or key (length (h n).prefix) 0 → (h' n).children x ≡ (h n).children x
  pub joined_above : (a' c).status ≡ Linked
  pub parent_above : (a' c).parent ≡ n
  pub joined_leaf : (a' d).status ≡ Linked
  pub parent_leaf : (a' d).parent ≡ c
  pub stays_old : (a' m).status ≡ Linked
  pub parent_old : (a' m).parent ≡ c
  pub notes : (x : ℕ) → x ≢ c → x ≢ d → x ≢ m → a' x ≡ a x
  pub nodes : (x : ℕ) → x ≢ c → x ≢ d → x ≢ n → h' x ≡ h x

split_stays : {V : Type 0} (a : ℕ → Note) (h : ℕ → Node V) (a' : ℕ → Note) (h' : ℕ → Node V) (n m c d : ℕ) (key : List ℕ) (v : V) → Splits a h a' h' n m c d key v
    → (x : ℕ) → (a x).status ≡ Linked → (a' x).status ≡ Linked
split_stays a h a' h' n m c d key v k x l = elim (same_or_not x m) [
  | inl p ↦ (let P : ℕ → Type 0 = λ y. (a' y).status ≡ Linked in subst P (sym p) k.stays_old)
  | inr q ↦ rw (k.notes x (link_other a x c l k.unlinked_above) (link_other a x d l k.unlinked_leaf) q) l
]

split_graft : {V : Type 0} (a : ℕ → Note) (h : ℕ → Node V) (a' : ℕ → Note) (h' : ℕ → Node V) (n m c d : ℕ) (key : List ℕ) (v : V) → Splits a h a' h' n m c d key v
    → Graft a h a' h' n (get_or key (length (h n).prefix) 0)
split_graft a h a' h' n m c d key v k = record {
  prefix = λ x l. elim (same_or_not x n) [
    | inl p ↦ (let P : ℕ → Type 0 = λ y. (h' y).prefix ≡ (h y).prefix in subst P (sym p) k.prefix)
    | inr q ↦ rw (k.nodes x (link_other a x c l k.unlinked_above) (link_other a x d l k.unlinked_leaf) q) refl
  ];
  others = λ x b l l' q. rw (k.nodes x (link_other a x c l k.unlinked_above) (link_other a x d l k.unlinked_leaf) q) refl;
  beside = k.beside;
  stays = λ x l w. split_stays a h a' h' n m c d key v k x l;
  parents = λ x l w l'. rw (k.notes x (link_other a x c l k.unlinked_above) (link_other a x d l k.unlinked_leaf)
      (λ e. w (let P : ℕ → Type 0 = λ y. child_for (h n) key ≡ Below y in subst P (sym e) k.hung))) refl;
}

split_was : {V : Type 0} (a : ℕ → Note) (h : ℕ → Node V) (a' : ℕ → Note) (h' : ℕ → Node V) (n m c d : ℕ) (key : List ℕ) (v : V) → Tree a h → Splits a h a' h' n m c d key v
    → (x : ℕ) → x ≢ c → x ≢ d → (a' x).status ≡ Linked → (a x).status ≡ Linked
split_was a h a' h' n m c d key v t k x nc nd l = elim (same_or_not x m) [
  | inl p ↦ (let P : ℕ → Type 0 = λ y. (a y).status ≡ Linked in subst P (sym p) (t.down n _ m k.linked k.hung).linked)
  | inr q ↦ rw (k.notes x nc nd q) at l
]

-- the children of the new node above
split_above : {V : Type 0} (a : ℕ → Note) (h : ℕ → Node V) (a' : ℕ → Note) (h' : ℕ → Node V) (n m c d : ℕ) (key : List ℕ) (v : V) → Tree a h → Splits a h a' h' n m c d key v
    → (b x : ℕ) → (h' c).children b ≡ Below x → IsChild a' h' c b x
split_above a h a' h' n m c d key v t k b x e =
    let lm : (a m).status ≡ Linked = (t.down n _ m k.linked k.hung).linked in
    let g : Graft a h a' h' n (get_or key (length (h n).prefix) 0) = split_graft a h a' h' n m c d key v k in
    elim (same_or_not b (get_or (h m).prefix (length (h' c).prefix) 0)) [
      | inl p ↦
          (let f : (h' c).children (get_or (h m).prefix (length (h' c).prefix) 0) ≡ Below x = (let S : ℕ → Type 0 = λ y. (h' c).children y ≡ Below x in subst S p e) in
          let z : Below m ≡ Below x = sym k.old_child ∙ f in
          let y : m ≡ x = cc in
          let T : ℕ → Type 0 = λ w. IsChild a' h' c b w in
          subst T y (record {
            linked = k.stays_old;
            parent = k.parent_old;
            fitted = rw (g.prefix m lm) k.over_old;
            longer = rw (g.prefix m lm) k.shorter;
            byte = rw (g.prefix m lm) (sym p);
          }))
      | inr q ↦ elim (same_or_not b (get_or key (length (h' c).prefix) 0)) [
        | inl p ↦
            (let f : (h' c).children (get_or key (length (h' c).prefix) 0) ≡ Below x = (let S : ℕ → Type 0 = λ y. (h' c).children y ≡ Below x in subst S p e) in
            let z : Below d ≡ Below x = sym k.new_child ∙ f in
            let y : d ≡ x = cc in
            let sh : length (h' c).prefix < length (h' d).prefix = omega (arith, k.shorter, t.short m lm, k.leaf.seven) in
            let T : ℕ → Type 0 = λ w. IsChild a' h' c b w in
            subst T y (record {
              linked = k.joined_leaf;
              parent = k.parent_leaf;
              fitted = fits_between (h' c).prefix (h' d).prefix key k.over_key k.leaf.fitted (omega (arith, sh));
              longer = sh;
              byte = sym (fits_byte (h' d).prefix key (length (h' c).prefix) k.leaf.fitted sh) ∙ sym p;
            }))
        | inr r ↦ absurd (let z : Nothing ≡ Below x = sym (k.empty b q r) ∙ e in cc)
      ]
    ]

-- no value stands in it
split_no_value : {V : Type 0} (a : ℕ → Note) (h : ℕ → Node V) (a' : ℕ → Note) (h' : ℕ → Node V) (n m c d : ℕ) (key : List ℕ) (v : V) → Splits a h a' h' n m c d key v
    → (b : ℕ) (w : V) → (h' c).children b ≡ Holds w → ⊥
split_no_value a h a' h' n m c d key v k b w e =
    elim (same_or_not b (get_or (h m).prefix (length (h' c).prefix) 0)) [
      | inl p ↦ (let f : (h' c).children (get_or (h m).prefix (length (h' c).prefix) 0) ≡ Holds w = (let S : ℕ → Type 0 = λ y. (h' c).children y ≡ Holds w in subst S p e) in
          let z : Below m ≡ Holds w = sym k.old_child ∙ f in cc)
      | inr q ↦ elim (same_or_not b (get_or key (length (h' c).prefix) 0)) [
        | inl p ↦ (let f : (h' c).children (get_or key (length (h' c).prefix) 0) ≡ Holds w = (let S : ℕ → Type 0 = λ y. (h' c).children y ≡ Holds w in subst S p e) in
            let z : Below d ≡ Holds w = sym k.new_child ∙ f in cc)
        | inr r ↦ (let z : Nothing ≡ Holds w = sym (k.empty b q r) ∙ e in cc)
      ]
    ]

-- the new child of the parent
split_top : {V : Type 0} (a : ℕ → Note) (h : ℕ → Node V) (a' : ℕ → Note) (h' : ℕ → Node V) (n m c d : ℕ) (key : List ℕ) (v : V) → Splits a h a' h' n m c d key v
    → (b x : ℕ) → b ≡ get_or key (length (h n).prefix) 0 → (h' n).children b ≡ Below x → IsChild a' h' n b x
split_top a h a' h' n m c d key v k b x p e =
    let f : (h' n).children (get_or key (length (h n).prefix) 0) ≡ Below x = (let S : ℕ → Type 0 = λ y. (h' n).children y ≡ Below x in subst S p e) in
    let z : Below c ≡ Below x = sym k.child ∙ f in
    let y : c ≡ x = cc in
    let T : ℕ → Type 0 = λ w. IsChild a' h' n b w in
    subst T y (record {
      linked = k.joined_above;
      parent = k.parent_above;
      fitted = rw k.prefix (fits_between (h n).prefix (h' c).prefix key k.fitted k.over_key (omega (arith, k.longer)));
      longer = rw k.prefix k.longer;
      byte = rw k.prefix (sym (fits_byte (h' c).prefix key (length (h n).prefix) k.over_key k.longer) ∙ sym p);
    })

-- the nodes are a tree after a split
pub split_tree : {V : Type 0} (a : ℕ → Note) (h : ℕ → Node V) (a' : ℕ → Note) (h' : ℕ → Node V) (n m c d : ℕ) (key : List ℕ) (v : V) → Tree a h → Splits a h a' h' n m c d key v → Tree a' h'
split_tree a h a' h' n m c d key v t k =
    let g : Graft a h a' h' n (get_or key (length (h n).prefix) 0) = split_graft a h a' h' n m c d key v k in
    let lm : (a m).status ≡ Linked = (t.down n _ m k.linked k.hung).linked in
    record {
      root = split_stays a h a' h' n m c d key v k 0 t.root;
      empty = g.prefix 0 t.root ∙ t.empty;
      short = λ x l. elim (same_or_not x c) [
        | inl p ↦ (let P : ℕ → Type 0 = λ y. length (h' y).prefix ≤ 7 in subst P (sym p) (omega (arith, k.shorter, t.short m lm)))
        | inr nc ↦ elim (same_or_not x d) [
          | inl p ↦ (let P : ℕ → Type 0 = λ y. length (h' y).prefix ≤ 7 in subst P (sym p) (omega (arith, k.leaf.seven)))
          | inr nd ↦ (let w : (a x).status ≡ Linked = split_was a h a' h' n m c d key v t k x nc nd l in rw (g.prefix x w) (t.short x w))
        ]
      ];
      leaves = λ x b w l e. elim (same_or_not x c) [
        | inl p ↦ absurd (split_no_value a h a' h' n m c d key v k b w (let P : ℕ → Type 0 = λ z. (h' z).children b ≡ Holds w in subst P p e))
        | inr nc ↦ elim (same_or_not x d) [
          | inl p ↦ (let P : ℕ → Type 0 = λ z. length (h' z).prefix ≡ 7 in subst P (sym p) k.leaf.seven)
          | inr nd ↦ old_leaves a h a' h' n _ t g x b w (split_was a h a' h' n m c d key v t k x nc nd l) l
              (λ p r. let f : (h' n).children (get_or key (length (h n).prefix) 0) ≡ Holds w = (let S : ℕ → Type 0 = λ z. (h' z).children (get_or key (length (h n).prefix) 0) ≡ Holds w in subst S p (let S' : ℕ → Type 0 = λ z. (h' x).children z ≡ Holds w in subst S' r e)) in
              let z : Below c ≡ Holds w = sym k.child ∙ f in cc) e
        ]
      ];
      down = λ x b y l e. elim (same_or_not x c) [
        | inl p ↦ (let P : ℕ → Type 0 = λ z. (h' z).children b ≡ Below y → IsChild a' h' z b y in subst P (sym p) (split_above a h a' h' n m c d key v t k b y) e)
        | inr nc ↦ elim (same_or_not x d) [
          | inl p ↦ absurd (leaf_no_node h' d key v b y k.leaf (let P : ℕ → Type 0 = λ z. (h' z).children b ≡ Below y in subst P p e))
          | inr nd ↦ (let w : (a x).status ≡ Linked = split_was a h a' h' n m c d key v t k x nc nd l in elim (same_or_not x n) [
            | inl p ↦ elim (same_or_not b (get_or key (length (h n).prefix) 0)) [
              | inl r ↦ (let P : ℕ → Type 0 = λ z. (h' z).children b ≡ Below y → IsChild a' h' z b y in subst P (sym p) (split_top a h a' h' n m c d key v k b y r) e)
              | inr r ↦ old_down a h a' h' n _ t k.linked g x b y w l (λ _ z. r z) e
            ]
            | inr r ↦ old_down a h a' h' n _ t k.linked g x b y w l (λ z _. r z) e
          ])
        ]
      ];
      up = λ x l ne. elim (same_or_not x c) [
        | inl p ↦ (let P : ℕ → Type 0 = λ z. HasParent a' h' z in subst P (sym p) (record {
          linked = rw k.parent_above (split_stays a h a' h' n m c d key v k n k.linked);
          byte = get_or key (length (h n).prefix) 0;
          holds = rw k.parent_above k.child;
        }))
        | inr nc ↦ elim (same_or_not x d) [
          | inl p ↦ (let P : ℕ → Type 0 = λ z. HasParent a' h' z in subst P (sym p) (record {
            linked = rw k.parent_leaf k.joined_above;
            byte = get_or key (length (h' c).prefix) 0;
            holds = rw k.parent_leaf k.new_child;
          }))
          | inr nd ↦ elim (same_or_not x m) [
            | inl p ↦ (let P : ℕ → Type 0 = λ z. HasParent a' h' z in subst P (sym p) (record {
              linked = rw k.parent_old k.joined_above;
              byte = get_or (h m).prefix (length (h' c).prefix) 0;
              holds = rw k.parent_old k.old_child;
            }))
            | inr nm ↦ (let w : (a x).status ≡ Linked = split_was a h a' h' n m c d key v t k x nc nd l in
                let u : HasParent a h x = t.up x w ne in
                old_up a h a' h' n _ t k.linked g x w ne (λ y. nm (let z : Below m ≡ Below x = sym k.hung ∙ y in sym cc))
                (split_stays a h a' h' n m c d key v k (a x).parent u.linked))
          ]
        ]
      ];
    }

-- what another key finds below the parent, after and before
split_below : {V : Type 0} (a : ℕ → Note) (h : ℕ → Node V) (a' : ℕ → Note) (h' : ℕ → Node V) (n m c d : ℕ) (key : List ℕ) (v : V) → length key ≡ 8 → Tree a h → Tree a' h' → Splits a h a' h' n m c d key v
    → (x : List ℕ) → length x ≡ 8 → x ≢ key → walk h' 7 c x ≡ walk h 7 m x
split_below a h a' h' n m c d key v len t t' k x lx ne =
    let i : IsChild a h n (get_or key (length (h n).prefix) 0) m = t.down n _ m k.linked k.hung in
    let g : Graft a h a' h' n (get_or key (length (h n).prefix) 0) = split_graft a h a' h' n m c d key v k in
    on_test (fits (h' c).prefix x)
    (λ q. elim (same_or_not (get_or x (length (h' c).prefix) 0) (get_or (h m).prefix (length (h' c).prefix) 0)) [
      | inl e ↦ walk_enters h' 6 c x (Below m) q (let S : ℕ → Type 0 = λ y. (h' c).children y ≡ Below m in subst S (sym e) k.old_child)
          ∙ (walk_untouched a h a' h' n _ t t' g 6 m x i.linked k.stays_old (inl i.longer)
          ∙ walk_same a h t 6 7 m x i.linked (omega (arith, k.shorter, k.longer)) (omega (arith, k.shorter, k.longer)))
      | inr e ↦
          (let off : fits (h m).prefix x ≡ false = on_test (fits (h m).prefix x) (λ y. absurd (e (fits_byte (h m).prefix x (length (h' c).prefix) y k.shorter))) (λ y. y) in
          elim (same_or_not (get_or x (length (h' c).prefix) 0) (get_or key (length (h' c).prefix) 0)) [
            | inl f ↦ walk_enters h' 6 c x (Below d) q (let S : ℕ → Type 0 = λ y. (h' c).children y ≡ Below d in subst S (sym f) k.new_child)
                ∙ (leaf_other h' 5 d key v x len lx ne k.leaf ∙ sym (not_here h 6 m x off))
            | inr f ↦ walk_enters h' 6 c x Nothing q (k.empty _ e f) ∙ sym (not_here h 6 m x off)
          ])
    ])
    (λ q. let off : fits (h m).prefix x ≡ false = on_test (fits (h m).prefix x)
    (λ y. let z : fits (h' c).prefix x ≡ true = fits_trans (h' c).prefix (h m).prefix x k.over_old y in absurd cc) (λ y. y) in
    not_here h' 6 c x q ∙ sym (not_here h 6 m x off))

-- the key was absent and has the new leaf's value after a split, and every other key finds what it found
pub split_map : {V : Type 0} (a : ℕ → Note) (h : ℕ → Node V) (a' : ℕ → Note) (h' : ℕ → Node V) (n m c d : ℕ) (key : List ℕ) (v : V) → length key ≡ 8 → Tree a h → Splits a h a' h' n m c d key v
    → (value_at h key ≡ None) × (value_at h' key ≡ Some v) × ((k : List ℕ) → length k ≡ 8 → k ≢ key → value_at h' k ≡ value_at h k)
split_map a h a' h' n m c d key v len t k =
    let g : Graft a h a' h' n (get_or key (length (h n).prefix) 0) = split_graft a h a' h' n m c d key v k in
    let t' : Tree a' h' = split_tree a h a' h' n m c d key v t k in
    let l' : (a' n).status ≡ Linked = split_stays a h a' h' n m c d key v k n k.linked in (
      value_at_unfit a h t n m key k.linked k.fitted k.hung k.differs,
      value_at_linked a' h' t' n key (Below c) l' (rw k.prefix k.fitted) (rw k.prefix k.child) ∙ (walk_enters h' 6 c key (Below d) k.over_key k.new_child ∙ leaf_value h' 5 d key v k.leaf),
      (λ x lx ne. on_test (fits (h n).prefix x)
          (λ q. elim (same_or_not (get_or x (length (h n).prefix) 0) (get_or key (length (h n).prefix) 0)) [
            | inl e ↦ value_at_linked a' h' t' n x (Below c) l' (rw k.prefix q) (rw k.prefix (rw e k.child))
                ∙ (split_below a h a' h' n m c d key v len t t' k x lx ne ∙ sym (value_at_linked a h t n x (Below m) k.linked q (child_moved (h n) key x (Below m) e k.hung)))
            | inr e ↦ walk_untouched a h a' h' n _ t t' g 8 0 x t.root t'.root (inr (λ _ y. e y))
          ])
          (λ q. walk_untouched a h a' h' n _ t t' g 8 0 x t.root t'.root (inr (λ y _. cc)))),
    )
