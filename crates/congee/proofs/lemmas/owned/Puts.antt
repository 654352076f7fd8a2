-- A value comes into a leaf, leaves it, or gives place to another.
use Rattle.std.proofs.Common.{◌≡◌, ◌≢◌, ℕ, inl, inr, true, List, length, get_or, refl, sym, ◌∙◌, subst, arith}
use Rattle.std.specs.Prelude.{Option, None, Some}
use Rattle.congee.specs.Heap.{Node, Hung, Nothing, Below, Holds, fits, child_for, value_at}
use Rattle.congee.specs.Notes.{Linked, Note, Tree}
use Rattle.congee.proofs.lemmas.Fits.{same_key}
use Rattle.congee.proofs.lemmas.Tree.{same_or_not, value_at_linked}
use Rattle.congee.proofs.lemmas.Graft.{Graft, old_down, old_up, old_leaves, walk_untouched, on_test}

-- a value as a child, or no child
abbrev pub put_child : {V : Type 0} → Option V → Hung V
put_child None = Nothing
put_child (Some v) = Holds v

module _ {V : Type 0} where
  put_no_node : (o : Option V) (c : ℕ) → put_child o ≡ Below c → ⊥
  put_no_node None c e = cc
  put_no_node (Some v) c e = cc

  -- where a value hangs, or nothing, it is what is found there
  pub put_value : (o : Option V) (go : ℕ → Option V) (x : Hung V) → x ≡ put_child o → Rattle.congee.specs.Heap.of_child go x ≡ o
  put_value None go x e = rw e refl
  put_value (Some v) go x e = rw e refl

-- leaf n has `old` for the key before, and `new` after
pub record Puts {V : Type 0} (a : ℕ → Note) (h h' : ℕ → Node V) (n : ℕ) (key : List ℕ) (old new : Option V) : Type 0 where
  pub linked : (a n).status ≡ Linked
  pub fitted : fits (h n).prefix key ≡ true
  pub seven : length (h n).prefix ≡ 7
  pub before : child_for (h n) key ≡ put_child old
  pub prefix : (h' n).prefix ≡ (h n).prefix
  pub child : (h' n).children (get_or key (length (h n).prefix) 0) ≡ put_child new
  pub beside : (c : ℕ) → c ≢ get_or key (length (h n).prefix) 0 → (h' n).children c ≡ (h n).children c
  pub nodes : (m : ℕ) → m ≢ n → h' m ≡ h m

module _ {V : Type 0} (a : ℕ → Note) (h h' : ℕ → Node V) (n : ℕ) (key : List ℕ) (old new : Option V) where
  put_graft : Puts a h h' n key old new → Graft a h a h' n (get_or key (length (h n).prefix) 0)
  put_graft k = record {
    prefix = λ m l. elim (same_or_not m n) [
      | inl p ↦ (let P : ℕ → Type 0 = λ x. (h' x).prefix ≡ (h x).prefix in subst P (sym p) k.prefix)
      | inr q ↦ rw (k.nodes m q) refl
    ];
    others = λ m c l l' q. rw (k.nodes m q) refl;
    beside = k.beside;
    stays = λ m l w. l;
    parents = λ m l w l'. refl;
  }

  here : Puts a h h' n key old new → (m c : ℕ) → m ≡ n → c ≡ get_or key (length (h n).prefix) 0 → (x : Hung V) → (h' m).children c ≡ x → put_child new ≡ x
  here k m c p q x e =
      let P : ℕ → Type 0 = λ y. (h' y).children c ≡ x in
      let Q : ℕ → Type 0 = λ y. (h' n).children y ≡ x in
      sym k.child ∙ subst Q q (subst P p e)

  -- a leaf whose value for a key changed leaves a tree
  pub put_tree : Tree a h → Puts a h h' n key old new → Tree a h'
  put_tree t k =
      let g : Graft a h a h' n (get_or key (length (h n).prefix) 0) = put_graft k in
      record {
        root = t.root;
        empty = g.prefix 0 t.root ∙ t.empty;
        short = λ m l. rw (g.prefix m l) (t.short m l);
        leaves = λ m c v l e. elim (same_or_not m n) [
          | inl p ↦ (let P : ℕ → Type 0 = λ x. length (h' x).prefix ≡ 7 in subst P (sym p) (rw k.prefix k.seven))
          | inr r ↦ old_leaves a h a h' n _ t g m c v l l (λ x _. r x) e
        ];
        down = λ m c d l e. elim (same_or_not m n) [
          | inl p ↦ elim (same_or_not c (get_or key (length (h n).prefix) 0)) [
            | inl q ↦ absurd (put_no_node new d (here k m c p q (Below d) e))
            | inr r ↦ old_down a h a h' n _ t k.linked g m c d l l (λ _ x. r x) e
          ]
          | inr r ↦ old_down a h a h' n _ t k.linked g m c d l l (λ x _. r x) e
        ];
        up = λ m l ne. old_up a h a h' n _ t k.linked g m l ne
            (λ x. put_no_node old m (sym k.before ∙ x)) (t.up m l ne).linked;
      }

  -- the map has the new value at the key, where it had the old one, and is the same elsewhere
  pub put_map : length key ≡ 8 → Tree a h → Puts a h h' n key old new
      → (value_at h key ≡ old) × (value_at h' key ≡ new) × ((k : List ℕ) → length k ≡ 8 → k ≢ key → value_at h' k ≡ value_at h k)
  put_map len t k =
      let g : Graft a h a h' n (get_or key (length (h n).prefix) 0) = put_graft k in
      let t' : Tree a h' = put_tree t k in
      let there : child_for (h' n) key ≡ put_child new = rw k.prefix k.child in (
        value_at_linked a h t n key (put_child old) k.linked k.fitted k.before ∙ put_value old _ _ refl,
        value_at_linked a h' t' n key (put_child new) k.linked (rw k.prefix k.fitted) there ∙ put_value new _ _ refl,
        (λ x lx ne. on_test (fits (h n).prefix x)
            (λ q. walk_untouched a h a h' n _ t t' g 8 0 x t.root t'.root (inr (λ _ y. ne (same_key (h n).prefix x key q k.fitted (omega (arith, k.seven)) (omega (arith, k.seven)) y))))
            (λ q. walk_untouched a h a h' n _ t t' g 8 0 x t.root t'.root (inr (λ y _. cc)))),
      )
