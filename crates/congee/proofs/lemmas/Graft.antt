-- A change of the tree at one byte of one node, by which nodes come into the tree or leave it.
use Rattle.std.proofs.Common.{◌≡◌, ◌≢◌, ℕ, zero, suc, ◌<◌, ◌⊎◌, inl, inr, Bool, true, false, List, length, get_or, refl, sym, ◌∙◌, ap, subst, arith}
use Rattle.congee.specs.Heap.{Below, Holds, Node, fits, walk}
use Rattle.congee.specs.Notes.{Linked, Note, IsChild, HasParent, Tree}
use Rattle.congee.proofs.lemmas.Tree.{same_or_not, step_same}

-- what a graft at byte b of node n leaves: all but what hung there
pub record Graft {V : Type 0} (a : ℕ → Note) (h : ℕ → Node V) (a' : ℕ → Note) (h' : ℕ → Node V) (n b : ℕ) : Type 0 where
  pub prefix : (m : ℕ) → (a m).status ≡ Linked → (h' m).prefix ≡ (h m).prefix
  pub others : (m c : ℕ) → (a m).status ≡ Linked → (a' m).status ≡ Linked → m ≢ n → (h' m).children c ≡ (h m).children c
  pub beside : (c : ℕ) → c ≢ b → (h' n).children c ≡ (h n).children c
  pub stays : (m : ℕ) → (a m).status ≡ Linked → ((h n).children b ≡ Below m → ⊥) → (a' m).status ≡ Linked
  pub parents : (m : ℕ) → (a m).status ≡ Linked → ((h n).children b ≡ Below m → ⊥) → (a' (a m).parent).status ≡ Linked → (a' m).parent ≡ (a m).parent

-- one node has one place in the tree
pub one_place : {V : Type 0} (a : ℕ → Note) (h : ℕ → Node V) → Tree a h → (m c n b d : ℕ) → (a m).status ≡ Linked → (a n).status ≡ Linked
    → (h m).children c ≡ Below d → (h n).children b ≡ Below d → (m ≡ n) × (c ≡ b)
one_place a h t m c n b d lm ln e f =
    let i : IsChild a h m c d = t.down m c d lm e in
    let k : IsChild a h n b d = t.down n b d ln f in
    let p : m ≡ n = sym i.parent ∙ k.parent in
    (p, sym i.byte ∙ (rw p k.byte))

-- in a node that stays in the tree the same hangs as before, but at byte b of node n
graft_child : {V : Type 0} (a : ℕ → Note) (h : ℕ → Node V) (a' : ℕ → Note) (h' : ℕ → Node V) (n b : ℕ) → Graft a h a' h' n b
    → (m c : ℕ) → (a m).status ≡ Linked → (a' m).status ≡ Linked → (m ≡ n → c ≡ b → ⊥) → (h' m).children c ≡ (h m).children c
graft_child a h a' h' n b g m c l l' ne = elim (same_or_not m n) [
  | inl p ↦ (let P : ℕ → Type 0 = λ k. (k ≡ n → c ≡ b → ⊥) → (h' k).children c ≡ (h k).children c in subst P (sym p) (λ ne'. g.beside c (ne' refl)) ne)
  | inr q ↦ g.others m c l l' q
]

-- the children of the nodes that stood before
pub old_down : {V : Type 0} (a : ℕ → Note) (h : ℕ → Node V) (a' : ℕ → Note) (h' : ℕ → Node V) (n b : ℕ) → Tree a h → (a n).status ≡ Linked → Graft a h a' h' n b
    → (m c d : ℕ) → (a m).status ≡ Linked → (a' m).status ≡ Linked → (m ≡ n → c ≡ b → ⊥) → (h' m).children c ≡ Below d → IsChild a' h' m c d
old_down a h a' h' n b t ln g m c d l l' ne e =
    let f : (h m).children c ≡ Below d = sym (graft_child a h a' h' n b g m c l l' ne) ∙ e in
    let i : IsChild a h m c d = t.down m c d l f in
    let away : (h n).children b ≡ Below d → ⊥ = λ k. let o : (m ≡ n) × (c ≡ b) = one_place a h t m c n b d l ln f k in ne o.0 o.1 in
    record {
      linked = g.stays d i.linked away;
      parent = g.parents d i.linked away (rw i.parent l') ∙ i.parent;
      fitted = rw (g.prefix m l, g.prefix d i.linked) i.fitted;
      longer = rw (g.prefix m l, g.prefix d i.linked) i.longer;
      byte = rw (g.prefix m l, g.prefix d i.linked) i.byte;
    }

-- the values of the nodes that stood before
pub old_leaves : {V : Type 0} (a : ℕ → Note) (h : ℕ → Node V) (a' : ℕ → Note) (h' : ℕ → Node V) (n b : ℕ) → Tree a h → Graft a h a' h' n b
    → (m c : ℕ) (v : V) → (a m).status ≡ Linked → (a' m).status ≡ Linked → (m ≡ n → c ≡ b → ⊥) → (h' m).children c ≡ Holds v → length (h' m).prefix ≡ 7
old_leaves a h a' h' n b t g m c v l l' ne e =
    rw (g.prefix m l) (t.leaves m c v l (sym (graft_child a h a' h' n b g m c l l' ne) ∙ e))

-- the parents of those whose parent stays
pub old_up : {V : Type 0} (a : ℕ → Note) (h : ℕ → Node V) (a' : ℕ → Note) (h' : ℕ → Node V) (n b : ℕ) → Tree a h → (a n).status ≡ Linked → Graft a h a' h' n b
    → (d : ℕ) → (a d).status ≡ Linked → d ≢ 0 → ((h n).children b ≡ Below d → ⊥) → (a' (a d).parent).status ≡ Linked → HasParent a' h' d
old_up a h a' h' n b t ln g d l ne away l' =
    let u : HasParent a h d = t.up d l ne in
    let p : (a' d).parent ≡ (a d).parent = g.parents d l away l' in
    record {
      linked = rw p l';
      byte = u.byte;
      holds = rw p (graft_child a h a' h' n b g (a d).parent u.byte u.linked l'
          (λ q r. away (let P : ℕ → ℕ → Type 0 = λ x y. (h x).children y ≡ Below d in
          let Q : ℕ → Type 0 = λ x. P x b in subst Q q (let R : ℕ → Type 0 = λ y. P (a d).parent y in subst R r u.holds))) ∙ u.holds);
    }

-- what follows from a test's being true, and from its being false, holds
pub on_test : {P : Type 0} (b : Bool) → (b ≡ true → P) → (b ≡ false → P) → P
on_test true p q = p refl
on_test false p q = q refl

-- a walk that doesn't take that byte there, or that starts below it
pub walk_untouched : {V : Type 0} (a : ℕ → Note) (h : ℕ → Node V) (a' : ℕ → Note) (h' : ℕ → Node V) (n b : ℕ) → Tree a h → Tree a' h' → Graft a h a' h' n b
    → (f m : ℕ) (key : List ℕ) → (a m).status ≡ Linked → (a' m).status ≡ Linked
    → (length (h n).prefix < length (h m).prefix) ⊎ (fits (h n).prefix key ≡ true → get_or key (length (h n).prefix) 0 ≡ b → ⊥)
    → walk h' f m key ≡ walk h f m key
walk_untouched a h a' h' n b t t' g zero m key l l' w = refl
walk_untouched a h a' h' n b t t' g (suc f) m key l l' w =
    let away : fits (h m).prefix key ≡ true → m ≡ n → get_or key (length (h m).prefix) 0 ≡ b → ⊥ = (λ q p e. elim w [
      | inl le ↦ absurd (let z : length (h m).prefix ≡ length (h n).prefix = ap (λ y. length (h y).prefix) p in omega arith)
      | inr ne ↦ (let P : ℕ → Type 0 = λ y. fits (h y).prefix key ≡ true → get_or key (length (h y).prefix) 0 ≡ b → ⊥ in subst P (sym p) ne) q e
    ]) in
    on_test (fits (h m).prefix key)
    (λ e. step_same h h' f f m key (g.prefix m l)
    (λ q. graft_child a h a' h' n b g m _ l l' (away q))
    (λ c x. let i : IsChild a h m (get_or key (length (h m).prefix) 0) c = t.down m _ c l x in
    let j : IsChild a' h' m (get_or key (length (h m).prefix) 0) c = t'.down m _ c l' (graft_child a h a' h' n b g m _ l l' (away e) ∙ x) in
    walk_untouched a h a' h' n b t t' g f c key i.linked j.linked (elim w [ inl le ↦ inl (omega (arith, i.longer)) | inr ne ↦ inr ne ])))
    (λ e. rw (g.prefix m l, e) refl)
