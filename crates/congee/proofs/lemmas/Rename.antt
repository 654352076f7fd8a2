-- Nodes under other names: the tree and its map stay.
use Rattle.std.proofs.Common.{◌≡◌, ◌≢◌, ℕ, zero, suc, ◌≤◌, ◌==◌, inl, inr, cond, List, length, get_or, refl, sym, ◌∙◌, ap, subst, arith}
use Rattle.std.specs.Prelude.{Option, None}
use Rattle.congee.specs.Heap.{Node, Hung, Nothing, Below, Holds, fits, of_child, walk, value_at}
use Rattle.congee.specs.Notes.{Linked, Note, IsChild, HasParent, Tree}
use Rattle.congee.proofs.lemmas.Fits.{same_test, other_test}
use Rattle.congee.proofs.lemmas.Tree.{same_or_not}
use Rattle.congee.proofs.lemmas.Graft.{one_place}

-- what hangs at a byte, under the new name if it is a node
abbrev pub named : {V : Type 0} → (ℕ → ℕ) → Hung V → Hung V
named new Nothing = Nothing
named new (Below c) = Below (new c)
named new (Holds v) = Holds v

-- a linked node that got this name
pub record Named (a : ℕ → Note) (new : ℕ → ℕ) (y : ℕ) : Type 0 where
  pub before : ℕ
  pub linked : (a before).status ≡ Linked
  pub is : new before ≡ y

-- each linked node stands under its new name, with its prefix, and below its parent's and its children's new names;
-- no other node is linked, and the root keeps its name
pub record Renamed {V : Type 0} (new : ℕ → ℕ) (a : ℕ → Note) (h : ℕ → Node V) (a' : ℕ → Note) (h' : ℕ → Node V) : Type 0 where
  pub root : new 0 ≡ 0
  pub linked : (n : ℕ) → (a n).status ≡ Linked → (a' (new n)).status ≡ Linked
  pub only : (n : ℕ) → (a' n).status ≡ Linked → Named a new n
  pub parent : (n : ℕ) → (a n).status ≡ Linked → (a' (new n)).parent ≡ new (a n).parent
  pub prefix : (n : ℕ) → (a n).status ≡ Linked → (h' (new n)).prefix ≡ (h n).prefix
  pub children : (n b : ℕ) → (a n).status ≡ Linked → (h' (new n)).children b ≡ named new ((h n).children b)

-- the child behind a new name
record Behind {V : Type 0} (new : ℕ → ℕ) (x : Hung V) (c : ℕ) : Type 0 where
  child : ℕ
  was : x ≡ Below child
  is : new child ≡ c

behind : {V : Type 0} (new : ℕ → ℕ) (x : Hung V) (c : ℕ) → named new x ≡ Below c → Behind new x c
behind new Nothing c e = absurd (cc)
behind new (Below d) c e = record { child = d; was = refl; is = (let z : Below (new d) ≡ Below c = e in cc) }
behind new (Holds v) c e = absurd (cc)

value_behind : {V : Type 0} (new : ℕ → ℕ) (x : Hung V) (v : V) → named new x ≡ Holds v → x ≡ Holds v
value_behind new Nothing v e = absurd (cc)
value_behind new (Below d) v e = absurd (cc)
value_behind new (Holds w) v e = e

module _ {V : Type 0} (new : ℕ → ℕ) (a : ℕ → Note) (h : ℕ → Node V) (a' : ℕ → Note) (h' : ℕ → Node V) (t : Tree a h) (r : Renamed new a h a' h') where
  child_renamed : (n b c : ℕ) → (a n).status ≡ Linked → (h n).children b ≡ Below c → IsChild a' h' (new n) b (new c)
  child_renamed n b c l e = let i : IsChild a h n b c = t.down n b c l e in record {
    linked = r.linked c i.linked;
    parent = r.parent c i.linked ∙ ap new i.parent;
    fitted = rw (r.prefix n l, r.prefix c i.linked) i.fitted;
    longer = rw (r.prefix n l, r.prefix c i.linked) i.longer;
    byte = rw (r.prefix n l, r.prefix c i.linked) i.byte;
  }

  parent_renamed : (n : ℕ) → (a n).status ≡ Linked → n ≢ 0 → HasParent a' h' (new n)
  parent_renamed n l ne = let u : HasParent a h n = t.up n l ne in record {
    linked = rw (r.parent n l) (r.linked (a n).parent u.linked);
    byte = u.byte;
    holds = rw (r.parent n l) (r.children (a n).parent u.byte u.linked ∙ ap (named new) u.holds);
  }

  -- what holds of the linked nodes under their new names holds of all that are linked
  all_named : (P : ℕ → Type 0) → ((n : ℕ) → (a n).status ≡ Linked → P (new n)) → (n : ℕ) → (a' n).status ≡ Linked → P n
  all_named P f n l = let k = r.only n l in subst P k.is (f k.before k.linked)

  -- the nodes under their new names are a tree
  pub renamed_tree : Tree a' h'
  renamed_tree = record {
    root = let P : ℕ → Type 0 = λ x. (a' x).status ≡ Linked in subst P r.root (r.linked 0 t.root);
    empty = (let P : ℕ → Type 0 = λ x. (h' x).prefix ≡ (h 0).prefix in subst P r.root (r.prefix 0 t.root)) ∙ t.empty;
    short = all_named (λ n. length (h' n).prefix ≤ 7) (λ n l. rw (r.prefix n l) (t.short n l));
    leaves = λ n b v. all_named (λ x. (h' x).children b ≡ Holds v → length (h' x).prefix ≡ 7)
        (λ x l e. rw (r.prefix x l) (t.leaves x b v l (value_behind new _ v (sym (r.children x b l) ∙ e)))) n;
    down = λ n b c. all_named (λ x. (h' x).children b ≡ Below c → IsChild a' h' x b c)
        (λ x l e. let k = behind new _ c (sym (r.children x b l) ∙ e) in subst (λ y. IsChild a' h' (new x) b y) k.is (child_renamed x b k.child l k.was)) n;
    up = all_named (λ x. x ≢ 0 → HasParent a' h' x) (λ x l ne. parent_renamed x l (λ e. ne (ap new e ∙ r.root)));
  }

  renamed_child : (f g : ℕ → Option V) (x : Hung V) → ((c : ℕ) → x ≡ Below c → f (new c) ≡ g c) → of_child f (named new x) ≡ of_child g x
  renamed_child f g Nothing e = refl
  renamed_child f g (Below c) e = e c refl
  renamed_child f g (Holds v) e = refl

  renamed_walk : (f n : ℕ) (key : List ℕ) → (a n).status ≡ Linked → walk h' f (new n) key ≡ walk h f n key
  renamed_walk zero n key l = refl
  renamed_walk (suc f) n key l =
      let b : ℕ = get_or key (length (h n).prefix) 0 in
      rw (r.prefix n l, r.children n b l)
      (ap (λ o. cond (fits (h n).prefix key) o None)
      (renamed_child (λ c. walk h' f c key) (λ c. walk h f c key) ((h n).children b) (λ c e. renamed_walk f c key (t.down n b c l e).linked)))

  -- every key has the value that it had, with the nodes under their new names
  pub renamed_map : (key : List ℕ) → value_at h' key ≡ value_at h key
  renamed_map key = let P : ℕ → Type 0 = λ x. walk h' 8 x key ≡ walk h 8 0 key in subst P r.root (renamed_walk 8 0 key t.root)

-- the name m in the place of n
abbrev pub in_place : ℕ → ℕ → ℕ → ℕ
in_place n m x = cond (x == n) m x

-- the nodes that hang below a node keep their names but for the one at a byte
pub record Moves {V : Type 0} (a : ℕ → Note) (h : ℕ → Node V) (a' : ℕ → Note) (h' : ℕ → Node V) (p b n m : ℕ) : Type 0 where
  pub above : (a p).status ≡ Linked
  pub hung : (h p).children b ≡ Below n
  pub unlinked : (a m).status ≢ Linked
  pub prefix : (h' p).prefix ≡ (h p).prefix
  pub child : (h' p).children b ≡ Below m
  pub beside : (c : ℕ) → c ≢ b → (h' p).children c ≡ (h p).children c
  pub same_prefix : (h' m).prefix ≡ (h n).prefix
  pub same_children : (c : ℕ) → (h' m).children c ≡ (h n).children c
  pub nodes : (x : ℕ) → x ≢ n → x ≢ m → x ≢ p → h' x ≡ h x
  pub joined : (a' m).status ≡ Linked
  pub left : (a' n).status ≢ Linked
  pub stays : (x : ℕ) → x ≢ n → x ≢ m → (a' x).status ≡ (a x).status
  pub parent : (a' m).parent ≡ p
  pub parents : (x : ℕ) → (a x).status ≡ Linked → x ≢ n → (a' x).parent ≡ in_place n m (a x).parent

module _ {V : Type 0} (a : ℕ → Note) (h : ℕ → Node V) (a' : ℕ → Note) (h' : ℕ → Node V) (p b n m : ℕ) (t : Tree a h) (k : Moves a h a' h' p b n m) where
  hangs : IsChild a h p b n
  hangs = t.down p b n k.above k.hung

  put : in_place n m n ≡ m
  put = rw (same_test n n refl) refl

  kept : (x : ℕ) → x ≢ n → in_place n m x ≡ x
  kept x ne = rw (other_test x n ne) refl

  -- a linked node has another name than the one that was free
  apart : (x : ℕ) → (a x).status ≡ Linked → x ≢ m
  apart x l e = k.unlinked (let P : ℕ → Type 0 = λ y. (a y).status ≡ Linked in subst P e l)

  above_kept : p ≢ n
  above_kept e = let z : length (h p).prefix ≡ length (h n).prefix = ap (λ y. length (h y).prefix) e in absurd (omega (arith, hangs.longer))

  root_kept : 0 ≢ n
  root_kept e =
      let z : length (h n).prefix ≡ length (h 0).prefix = ap (λ y. length (h y).prefix) (sym e) in
      let y : length (h 0).prefix ≡ 0 = ap length t.empty in
      absurd (omega (arith, hangs.longer))

  -- elsewhere hangs no node of the old name
  unnamed : (x c : ℕ) → (a x).status ≡ Linked → (x ≡ p → c ≢ b) → named (in_place n m) ((h x).children c) ≡ (h x).children c
  unnamed x c l ne = of ((h x).children c) (λ e. let o : (x ≡ p) × (c ≡ b) = one_place a h t x c p b n l k.above e k.hung in ne o.0 o.1)
    where
      of : (y : Hung V) → (y ≡ Below n → ⊥) → named (in_place n m) y ≡ y
      of Nothing ne = refl
      of (Below d) ne = ap Below (kept d (λ e. ne (ap Below e)))
      of (Holds v) ne = refl

  at_other : (x : ℕ) → (a x).status ≡ Linked → x ≢ n → x ≢ p → h' x ≡ h x
  at_other x l nn np = k.nodes x nn (apart x l) np

  children_at : (x c : ℕ) → (a x).status ≡ Linked → (h' (in_place n m x)).children c ≡ named (in_place n m) ((h x).children c)
  children_at x c l = elim (same_or_not x n) [
    | inl e ↦ (let P : ℕ → Type 0 = λ y. (h' (in_place n m y)).children c ≡ named (in_place n m) ((h y).children c) in
        subst P (sym e) (ap (λ y. (h' y).children c) put ∙ (k.same_children c ∙ sym (unnamed n c hangs.linked (λ q. absurd (above_kept (sym q)))))))
    | inr ne ↦ ap (λ y. (h' y).children c) (kept x ne) ∙ elim (same_or_not x p) [
      | inl e ↦ (let P : ℕ → Type 0 = λ y. (h' y).children c ≡ named (in_place n m) ((h y).children c) in subst P (sym e) (elim (same_or_not c b) [
        | inl q ↦ (let Q : ℕ → Type 0 = λ y. (h' p).children y ≡ named (in_place n m) ((h p).children y) in
            subst Q (sym q) (k.child ∙ (ap Below (sym put) ∙ sym (ap (named (in_place n m)) k.hung))))
        | inr q ↦ k.beside c q ∙ sym (unnamed p c k.above (λ _. q))
      ]))
      | inr np ↦ ap (λ y. y.children c) (at_other x l ne np) ∙ sym (unnamed x c l (λ e. absurd (np e)))
    ]
  ]

  prefix_at : (x : ℕ) → (a x).status ≡ Linked → (h' (in_place n m x)).prefix ≡ (h x).prefix
  prefix_at x l = elim (same_or_not x n) [
    | inl e ↦ (let P : ℕ → Type 0 = λ y. (h' (in_place n m y)).prefix ≡ (h y).prefix in subst P (sym e) (ap (λ y. (h' y).prefix) put ∙ k.same_prefix))
    | inr ne ↦ ap (λ y. (h' y).prefix) (kept x ne) ∙ elim (same_or_not x p) [
      | inl e ↦ (let P : ℕ → Type 0 = λ y. (h' y).prefix ≡ (h y).prefix in subst P (sym e) k.prefix)
      | inr np ↦ ap (λ y. y.prefix) (at_other x l ne np)
    ]
  ]

  linked_at : (x : ℕ) → (a x).status ≡ Linked → (a' (in_place n m x)).status ≡ Linked
  linked_at x l = elim (same_or_not x n) [
    | inl e ↦ (let P : ℕ → Type 0 = λ y. (a' (in_place n m y)).status ≡ Linked in subst P (sym e) (ap (λ y. (a' y).status) put ∙ k.joined))
    | inr ne ↦ ap (λ y. (a' y).status) (kept x ne) ∙ (k.stays x ne (apart x l) ∙ l)
  ]

  parent_at : (x : ℕ) → (a x).status ≡ Linked → (a' (in_place n m x)).parent ≡ in_place n m (a x).parent
  parent_at x l = elim (same_or_not x n) [
    | inl e ↦ (let P : ℕ → Type 0 = λ y. (a' (in_place n m y)).parent ≡ in_place n m (a y).parent in
        subst P (sym e) (ap (λ y. (a' y).parent) put ∙ (k.parent ∙ (sym (kept p above_kept) ∙ ap (in_place n m) (sym hangs.parent)))))
    | inr ne ↦ ap (λ y. (a' y).parent) (kept x ne) ∙ k.parents x l ne
  ]

  only_at : (x : ℕ) → (a' x).status ≡ Linked → Named a (in_place n m) x
  only_at x l = elim (same_or_not x m) [
    | inl e ↦ record { before = n; linked = hangs.linked; is = put ∙ sym e }
    | inr nm ↦ elim (same_or_not x n) [
      | inl e ↦ absurd (k.left (let P : ℕ → Type 0 = λ y. (a' y).status ≡ Linked in subst P e l))
      | inr nn ↦ record { before = x; linked = sym (k.stays x nn nm) ∙ l; is = kept x nn }
    ]
  ]

  -- a node comes under another name: its old name is free then
  moves_renamed : Renamed (in_place n m) a h a' h'
  moves_renamed = record { root = kept 0 root_kept; linked = linked_at; only = only_at; parent = parent_at; prefix = prefix_at; children = children_at }

  -- the nodes are a tree with one under its new name
  pub move_tree : Tree a' h'
  move_tree = renamed_tree (in_place n m) a h a' h' t moves_renamed

  -- every key has the value that it had, with one node under its new name
  pub move_map : (key : List ℕ) → value_at h' key ≡ value_at h key
  move_map = renamed_map (in_place n m) a h a' h' t moves_renamed
