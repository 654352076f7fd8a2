-- The tree in the heap: its invariant, and the walk through a node of it.
use Rattle.std.proofs.Common.{◌≡◌, ◌≢◌, ℕ, zero, suc, ◌+◌, ◌≤◌, ◌⊎◌, inl, inr, Bool, true, false, cond, List, length, get_or, refl, sym, ◌∙◌, subst, arith, ◌<◌, ap}
use Rattle.std.specs.Prelude.{Option, None}
use Rattle.std.proofs.lemmas.Bool.Decides.{eqb_tells}
use Rattle.congee.specs.Heap.{Hung, Nothing, Below, Holds, Node, fits, child_for, of_child, walk, value_at}
use Rattle.congee.specs.Notes.{Linked, Note, IsChild, HasParent, Tree}
use Rattle.congee.proofs.lemmas.Fits.{fits_trans, fits_byte}

-- two numbers are the same or they aren't
pub same_or_not : (m n : ℕ) → (m ≡ n) ⊎ (m ≢ n)
same_or_not m n = elim (eqb_tells m n) [ inl p ↦ inl p.1 | inr p ↦ inr p.1 ]

-- a node with a shorter prefix is another node
pub by_length : {V : Type 0} (h : ℕ → Node V) (x y : ℕ) → length (h x).prefix < length (h y).prefix → x ≢ y
by_length h x y l e = let z : length (h x).prefix ≡ length (h y).prefix = ap (λ b. length (h b).prefix) e in absurd (omega (arith, l))

-- what is found by a child is the same where it is so by the node that hangs there, if one does
pub of_child_same : {V : Type 0} (f g : ℕ → Option V) (x : Hung V) → ((c : ℕ) → x ≡ Below c → f c ≡ g c) → of_child f x ≡ of_child g x
of_child_same f g Nothing e = refl
of_child_same f g (Below c) e = e c refl
of_child_same f g (Holds v) e = refl

pick : {V : Type 0} (b : Bool) (x y : Option V) → (b ≡ true → x ≡ y) → cond b x None ≡ cond b y None
pick true x y e = e refl
pick false x y e = refl

-- one node of the walk, in two heaps
pub step_same : {V : Type 0} (h h' : ℕ → Node V) (f g n : ℕ) (key : List ℕ) → (h' n).prefix ≡ (h n).prefix
    → (fits (h n).prefix key ≡ true → (h' n).children (get_or key (length (h n).prefix) 0) ≡ (h n).children (get_or key (length (h n).prefix) 0))
    → ((c : ℕ) → (h n).children (get_or key (length (h n).prefix) 0) ≡ Below c → walk h' f c key ≡ walk h g c key)
    → walk h' (suc f) n key ≡ walk h (suc g) n key
step_same h h' f g n key p e d =
    rw p (pick (fits (h n).prefix key) _ _ (λ t. rw (e t) (of_child_same (λ c. walk h' f c key) (λ c. walk h g c key) _ d)))

-- walks from a node of the tree that have enough steps find the same
pub walk_same : {V : Type 0} (a : ℕ → Note) (h : ℕ → Node V) → Tree a h → (f g n : ℕ) (key : List ℕ) → (a n).status ≡ Linked
    → 8 ≤ f + length (h n).prefix → 8 ≤ g + length (h n).prefix → walk h f n key ≡ walk h g n key
walk_same a h t zero g n key l p q = absurd (omega (arith, t.short n l))
walk_same a h t (suc f) zero n key l p q = absurd (omega (arith, t.short n l))
walk_same a h t (suc f) (suc g) n key l p q =
    step_same h h f g n key refl (λ _. refl)
    (λ c e. let i : IsChild a h n (get_or key (length (h n).prefix) 0) c = t.down n _ c l e in
    walk_same a h t f g c key i.linked (omega arith) (omega arith))

-- from a node on whose prefix the key has, to its child
pub walk_enters : {V : Type 0} (h : ℕ → Node V) (f n : ℕ) (key : List ℕ) (x : Hung V) → fits (h n).prefix key ≡ true → child_for (h n) key ≡ x
    → walk h (suc f) n key ≡ of_child (λ c. walk h f c key) x
walk_enters h f n key x p e = rw (p, e) refl

-- what holds of the root, and at each step of a key's way of the node below if of the one above, holds of each linked node whose prefix the key has
pub down_to : {V : Type 0} (a : ℕ → Note) (h : ℕ → Node V) → Tree a h → (key : List ℕ) (P : ℕ → Type 0) → P 0
    → ((p b n : ℕ) → IsChild a h p b n → fits (h p).prefix key ≡ true → child_for (h p) key ≡ Below n → P p → P n)
    → (d n : ℕ) → length (h n).prefix ≤ d → (a n).status ≡ Linked → fits (h n).prefix key ≡ true → P n
down_to a h t key P root step zero n d l f =
    elim (same_or_not n 0) [
      | inl e ↦ subst P (sym e) root
      | inr ne ↦ let u : HasParent a h n = t.up n l ne in
          let i : IsChild a h (a n).parent u.byte n = t.down (a n).parent u.byte n u.linked u.holds in absurd (omega (arith, i.longer))
    ]
down_to a h t key P root step (suc d) n le l f =
    elim (same_or_not n 0) [
      | inl e ↦ subst P (sym e) root
      | inr ne ↦ let u : HasParent a h n = t.up n l ne in
          let i : IsChild a h (a n).parent u.byte n = t.down (a n).parent u.byte n u.linked u.holds in
          let g : fits (h (a n).parent).prefix key ≡ true = fits_trans (h (a n).parent).prefix (h n).prefix key i.fitted f in
          let same : get_or key (length (h (a n).parent).prefix) 0 ≡ u.byte = fits_byte (h n).prefix key (length (h (a n).parent).prefix) f i.longer ∙ i.byte in
          let x : (h (a n).parent).children (get_or key (length (h (a n).parent).prefix) 0) ≡ Below n = rw same u.holds in
          let small : length (h (a n).parent).prefix ≤ d = omega (arith, i.longer) in
          step (a n).parent u.byte n i g x (down_to a h t key P root step d (a n).parent small u.linked g)
    ]

-- the walk of a key leads through each linked node whose prefix it has
lead : {V : Type 0} (a : ℕ → Note) (h : ℕ → Node V) → Tree a h → (d n : ℕ) (key : List ℕ) → length (h n).prefix ≤ d → (a n).status ≡ Linked
    → fits (h n).prefix key ≡ true → walk h 8 0 key ≡ walk h 8 n key
lead a h t d n key =
    down_to a h t key (λ m. walk h 8 0 key ≡ walk h 8 m key) refl
    (λ p b m i g x before. before ∙ (walk_enters h 7 p key (Below m) g x ∙ walk_same a h t 7 8 m key i.linked (omega (arith, i.longer)) (omega arith))) d n

-- what stands at the key's byte in a linked node whose prefix the key has decides the key's value
pub value_at_linked : {V : Type 0} (a : ℕ → Note) (h : ℕ → Node V) → Tree a h → (n : ℕ) (key : List ℕ) (x : Hung V) → (a n).status ≡ Linked
    → fits (h n).prefix key ≡ true → child_for (h n) key ≡ x → value_at h key ≡ of_child (λ c. walk h 7 c key) x
value_at_linked a h t n key x l f e = lead a h t (length (h n).prefix) n key (omega arith) l f ∙ walk_enters h 7 n key x f e

-- a key that hasn't the prefix of the node which hangs on its way is absent
pub value_at_unfit : {V : Type 0} (a : ℕ → Note) (h : ℕ → Node V) → Tree a h → (n c : ℕ) (key : List ℕ) → (a n).status ≡ Linked
    → fits (h n).prefix key ≡ true → child_for (h n) key ≡ Below c → fits (h c).prefix key ≡ false → value_at h key ≡ None
value_at_unfit a h t n c key l f e g = value_at_linked a h t n key (Below c) l f e ∙ rw g refl

-- a change at one byte of one node
pub record Relinked {V : Type 0} (a : ℕ → Note) (h h' : ℕ → Node V) (n b : ℕ) : Type 0 where
  pub prefix : (m : ℕ) → (a m).status ≡ Linked → (h' m).prefix ≡ (h m).prefix
  pub others : (m c : ℕ) → (a m).status ≡ Linked → m ≢ n → (h' m).children c ≡ (h m).children c
  pub beside : (c : ℕ) → c ≢ b → (h' n).children c ≡ (h n).children c

-- leaves each walk from a linked node as it was that doesn't take that byte there
pub walk_aside : {V : Type 0} (a : ℕ → Note) (h h' : ℕ → Node V) (n b : ℕ) → Tree a h → Relinked a h h' n b → (f m : ℕ) (key : List ℕ) → (a m).status ≡ Linked
    → (fits (h n).prefix key ≡ true → get_or key (length (h n).prefix) 0 ≡ b → ⊥) → walk h' f m key ≡ walk h f m key
walk_aside a h h' n b t r zero m key l ne = refl
walk_aside a h h' n b t r (suc f) m key l ne =
    step_same h h' f f m key (r.prefix m l)
    (λ g. elim (same_or_not m n) [
      | inl e ↦ let P : ℕ → Type 0 = λ k. fits (h k).prefix key ≡ true → (h' k).children (get_or key (length (h k).prefix) 0) ≡ (h k).children (get_or key (length (h k).prefix) 0) in
          subst P (sym e) (λ g'. r.beside _ (ne g')) g
      | inr d ↦ r.others m _ l d
    ])
    (λ c e. walk_aside a h h' n b t r f c key (t.down m _ c l e).linked ne)
