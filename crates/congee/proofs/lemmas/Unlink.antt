-- A leaf with one value goes out of the tree.
use Rattle.std.proofs.Common.{◌≡◌, ◌≢◌, ℕ, inl, inr, true, List, length, get_or, refl, sym, ◌∙◌, ap, subst, arith, ◌==◌, cond}
use Rattle.std.specs.Prelude.{None, Some}
use Rattle.congee.specs.Heap.{Nothing, Below, Holds, Node, fits, child_for, value_at}
use Rattle.congee.specs.Notes.{Linked, Gone, Note, IsChild, HasParent, Tree}
use Rattle.congee.proofs.lemmas.Fits.{same_test, other_test}
use Rattle.congee.proofs.lemmas.Tree.{same_or_not, value_at_linked}
use Rattle.congee.proofs.lemmas.Graft.{Graft, old_down, old_leaves, old_up, walk_untouched, on_test}
use Rattle.congee.proofs.lemmas.Link.{Leaf, leaf_no_node, leaf_value, leaf_other, child_moved}

-- before and after: leaf m, which has the key's value alone, no longer hangs below node n
pub record Unlinks {V : Type 0} (a : ℕ → Note) (h : ℕ → Node V) (a' : ℕ → Note) (h' : ℕ → Node V) (n m : ℕ) (key : List ℕ) (v : V) : Type 0 where
  pub linked : (a n).status ≡ Linked
  pub fitted : fits (h n).prefix key ≡ true
  pub hung : child_for (h n) key ≡ Below m
  pub last : Leaf h m key v
  pub prefix : (h' n).prefix ≡ (h n).prefix
  pub child : (h' n).children (get_or key (length (h n).prefix) 0) ≡ Nothing
  pub beside : (c : ℕ) → c ≢ get_or key (length (h n).prefix) 0 → (h' n).children c ≡ (h n).children c
  pub left : (a' m).status ≢ Linked
  pub notes : (x : ℕ) → x ≢ m → a' x ≡ a x
  pub nodes : (x : ℕ) → x ≢ n → h' x ≡ h x

-- leaf m alone goes, of the nodes and of their notes
pub record LeafOut {V : Type 0} (a : ℕ → Note) (h : ℕ → Node V) (n m : ℕ) (key : List ℕ) (v : V) : Type 0 where
  pub notes : ℕ → Note
  pub nodes : ℕ → Node V
  pub out : Unlinks a h notes nodes n m key v
  pub gone : (notes m).status ≡ Gone

-- a leaf with the key's value alone can go
pub leaf_out : {V : Type 0} (a : ℕ → Note) (h : ℕ → Node V) (n m : ℕ) (key : List ℕ) (v : V) → (a n).status ≡ Linked → fits (h n).prefix key ≡ true
    → child_for (h n) key ≡ Below m → Leaf h m key v → LeafOut a h n m key v
leaf_out {V} a h n m key v linked fitted hung last =
    let at : ℕ = get_or key (length (h n).prefix) 0 in
    let here : n == n ≡ true = same_test n n refl in
    let note : m == m ≡ true = same_test m m refl in
    record {
      notes = λ x. cond (x == m) (record (a m) { status = Gone }) (a x);
      nodes = λ x. cond (x == n) (record (h n) { children = λ c. cond (c == at) Nothing ((h n).children c) }) (h x);
      out = record {
        linked = linked;
        fitted = fitted;
        hung = hung;
        last = last;
        prefix = rw here refl;
        child = rw (here, same_test at at refl) refl;
        beside = λ c ne. rw (here, other_test c at ne) refl;
        left = λ l. let z : Gone ≡ Linked = rw note at l in cc;
        notes = λ x ne. rw (other_test x m ne) refl;
        nodes = λ x ne. rw (other_test x n ne) refl;
      };
      gone = rw note refl;
    }

unlink_graft : {V : Type 0} (a : ℕ → Note) (h : ℕ → Node V) (a' : ℕ → Note) (h' : ℕ → Node V) (n m : ℕ) (key : List ℕ) (v : V) → Unlinks a h a' h' n m key v
    → Graft a h a' h' n (get_or key (length (h n).prefix) 0)
unlink_graft a h a' h' n m key v k =
    let apart : (x : ℕ) → ((h n).children (get_or key (length (h n).prefix) 0) ≡ Below x → ⊥) → x ≢ m
    = λ x w e. w (let P : ℕ → Type 0 = λ y. child_for (h n) key ≡ Below y in subst P (sym e) k.hung) in
    record {
      prefix = λ x l. elim (same_or_not x n) [
        | inl p ↦ (let P : ℕ → Type 0 = λ y. (h' y).prefix ≡ (h y).prefix in subst P (sym p) k.prefix)
        | inr q ↦ rw (k.nodes x q) refl
      ];
      others = λ x c l l' q. rw (k.nodes x q) refl;
      beside = k.beside;
      stays = λ x l w. rw (k.notes x (apart x w)) l;
      parents = λ x l w l'. rw (k.notes x (apart x w)) refl;
    }

-- what is in the tree isn't what left it
pub gone_not : (a' : ℕ → Note) (x m : ℕ) → (a' m).status ≢ Linked → (a' x).status ≡ Linked → x ≢ m
gone_not a' x m g l e = g (let P : ℕ → Type 0 = λ y. (a' y).status ≡ Linked in subst P e l)

-- the nodes are a tree after a leaf went out
pub unlink_tree : {V : Type 0} (a : ℕ → Note) (h : ℕ → Node V) (a' : ℕ → Note) (h' : ℕ → Node V) (n m : ℕ) (key : List ℕ) (v : V) → Tree a h → Unlinks a h a' h' n m key v → Tree a' h'
unlink_tree a h a' h' n m key v t k =
    let g : Graft a h a' h' n (get_or key (length (h n).prefix) 0) = unlink_graft a h a' h' n m key v k in
    let root : 0 ≢ m = (λ e. let z : length (h 0).prefix ≡ length (h m).prefix = ap (λ y. length (h y).prefix) e in
    let y : length (h 0).prefix ≡ 0 = ap length t.empty in absurd (omega (arith, k.last.seven))) in
    let was : (x : ℕ) → (a' x).status ≡ Linked → (a x).status ≡ Linked = λ x l. rw (k.notes x (gone_not a' x m k.left l)) at l in
    record {
      root = rw (k.notes 0 root) t.root;
      empty = g.prefix 0 t.root ∙ t.empty;
      short = λ x l. rw (g.prefix x (was x l)) (t.short x (was x l));
      leaves = λ x b w l e. old_leaves a h a' h' n _ t g x b w (was x l) l
          (λ p r. let f : (h' n).children (get_or key (length (h n).prefix) 0) ≡ Holds w = (let S : ℕ → Type 0 = λ y. (h' y).children (get_or key (length (h n).prefix) 0) ≡ Holds w in subst S p (let S' : ℕ → Type 0 = λ y. (h' x).children y ≡ Holds w in subst S' r e)) in
          let y : Nothing ≡ Holds w = sym k.child ∙ f in cc) e;
      down = λ x b c l e. elim (same_or_not x n) [
        | inl p ↦ elim (same_or_not b (get_or key (length (h n).prefix) 0)) [
          | inl r ↦ (let f : (h' n).children (get_or key (length (h n).prefix) 0) ≡ Below c = (let S : ℕ → Type 0 = λ y. (h' y).children (get_or key (length (h n).prefix) 0) ≡ Below c in subst S p (let S' : ℕ → Type 0 = λ y. (h' x).children y ≡ Below c in subst S' r e)) in
              let y : Nothing ≡ Below c = sym k.child ∙ f in absurd cc)
          | inr r ↦ old_down a h a' h' n _ t k.linked g x b c (was x l) l (λ _ y. r y) e
        ]
        | inr r ↦ old_down a h a' h' n _ t k.linked g x b c (was x l) l (λ y _. r y) e
      ];
      up = λ x l ne.
          let u : HasParent a h x = t.up x (was x l) ne in
          let apart : (a x).parent ≢ m = (λ e. leaf_no_node h m key v u.byte x k.last (let P : ℕ → Type 0 = λ y. (h y).children u.byte ≡ Below x in subst P e u.holds)) in
          old_up a h a' h' n _ t k.linked g x (was x l) ne (λ y. let z : Below m ≡ Below x = sym k.hung ∙ y in gone_not a' x m k.left l (sym cc))
          (rw (k.notes (a x).parent apart) u.linked);
    }

-- the key had the leaf's value and is absent after it, and every other key finds what it found
pub unlink_map : {V : Type 0} (a : ℕ → Note) (h : ℕ → Node V) (a' : ℕ → Note) (h' : ℕ → Node V) (n m : ℕ) (key : List ℕ) (v : V) → length key ≡ 8 → Tree a h → Unlinks a h a' h' n m key v
    → (value_at h key ≡ Some v) × (value_at h' key ≡ None) × ((k : List ℕ) → length k ≡ 8 → k ≢ key → value_at h' k ≡ value_at h k)
unlink_map a h a' h' n m key v len t k =
    let g : Graft a h a' h' n (get_or key (length (h n).prefix) 0) = unlink_graft a h a' h' n m key v k in
    let t' : Tree a' h' = unlink_tree a h a' h' n m key v t k in
    let i : IsChild a h n (get_or key (length (h n).prefix) 0) m = t.down n _ m k.linked k.hung in
    let other : n ≢ m = (λ e. let z : length (h n).prefix ≡ length (h m).prefix = ap (λ y. length (h y).prefix) e in absurd (omega (arith, i.longer))) in
    let l' : (a' n).status ≡ Linked = rw (k.notes n other) k.linked in (
      value_at_linked a h t n key (Below m) k.linked k.fitted k.hung ∙ leaf_value h 6 m key v k.last,
      value_at_linked a' h' t' n key Nothing l' (rw k.prefix k.fitted) (rw k.prefix k.child),
      (λ x lx ne. on_test (fits (h n).prefix x)
          (λ q. elim (same_or_not (get_or x (length (h n).prefix) 0) (get_or key (length (h n).prefix) 0)) [
            | inl e ↦ value_at_linked a' h' t' n x Nothing l' (rw k.prefix q) (rw k.prefix (rw e k.child)) ∙ sym (value_at_linked a h t n x (Below m) k.linked q (child_moved (h n) key x (Below m) e k.hung) ∙ leaf_other h 6 m key v x len lx ne k.last)
            | inr e ↦ walk_untouched a h a' h' n _ t t' g 8 0 x t.root t'.root (inr (λ _ y. e y))
          ])
          (λ q. walk_untouched a h a' h' n _ t t' g 8 0 x t.root t'.root (inr (λ y _. cc)))),
    )
