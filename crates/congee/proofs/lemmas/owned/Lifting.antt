-- A node's only child takes the node's place: the tree and its map stay.
use Rattle.std.proofs.Common.{◌≡◌, ◌≢◌, ℕ, ◌==◌, inl, inr, true, false, cond, length, refl, sym, ap, subst, ◌∙◌, arith}
use Rattle.std.specs.Prelude.{None, Some, IsSome}
use Rattle.std.specs.FinMap as map
use Rattle.slab.specs.Slab.{get, ContainsKey}
use Rattle.congee.specs.Heap.{Node as HeapNode, Hung, Nothing, Below, Holds}
use Rattle.congee.specs.Notes.{Linked, Gone, Note, Tree, IsChild, Lifts}
use Rattle.congee.specs.forms.Forms.{capacity_of, children_of}
use Rattle.congee.specs.owned.Arena.{Nodes, hung_in, node_of, heap_of, notes_of, IsFilled, IsTree}
use Rattle.congee.specs.owned.Lesser.{SameMap}
use Rattle.congee.specs.owned.Lifting.{MayLift, MovesUp}
use Rattle.congee.specs.declared.forms.child.Child.TheVariants.{Node as Sub}
use Rattle.congee.proofs.lemmas.Fits.{same_test, other_test}
use Rattle.congee.proofs.lemmas.Graft.{one_place}
use Rattle.congee.proofs.lemmas.Lift.{lift_tree, lift_map}
use Rattle.congee.proofs.lemmas.Rename.{Renamed, Named, named, in_place, renamed_tree, renamed_map}
use Rattle.congee.proofs.lemmas.Tree.{same_or_not, by_length}
use Rattle.congee.proofs.lemmas.owned.Edits.{wide_after}
use Rattle.congee.proofs.lemmas.owned.Filled.{filled_at, filled_with, filled_none}
use Rattle.congee.proofs.lemmas.owned.Moves.{insert_at, insert_beside, stands_at}
use Rattle.congee.proofs.lemmas.owned.Ways.{linked_of, stands_of}

-- a node with a node's name at a byte
abbrev with_below : {V : Type 0} → HeapNode V → ℕ → ℕ → HeapNode V
with_below n b o = record {
  prefix = n.prefix;
  children = λ c. cond (c == b) (Below o) (n.children c);
  count = n.count;
  capacity = n.capacity;
  version = n.version;
  locked = n.locked;
  obsolete = n.obsolete;
  made = n.made;
  destroyed = n.destroyed;
  retired = n.retired;
}

module _ {P : Type 0} (s s' : Nodes P) (g b p : ℕ) (t : IsTree s) (r : MayLift s g b p) (k : MovesUp s s' g b p r) where
  abbrev o : ℕ
  o = r.one.child

  abbrev m : ℕ
  m = k.name

  abbrev a : ℕ → Note
  a = notes_of s t.parent

  abbrev h : ℕ → HeapNode P
  h = heap_of s

  -- the tree with the child in the place of the node, under its old name
  abbrev a1 : ℕ → Note
  a1 n = record { status = cond (n == p) Gone (a n).status; owner = None; parent = cond (n == o) g (t.parent n) }

  abbrev h1 : ℕ → HeapNode P
  h1 n = cond (n == g) (with_below (h g) b o) (h n)

  hg : h g ≡ node_of (Some r.upper)
  hg = ap node_of r.was

  hp : h p ≡ node_of (Some r.lower)
  hp = ap node_of r.stood

  linked_g : (a g).status ≡ Linked
  linked_g = linked_of s t.parent g (stands_at s g r.upper r.was)

  hung_p : (h g).children b ≡ Below p
  hung_p = rw hg (ap hung_in r.hung)

  child_p : IsChild a h g b p
  child_p = t.tree.down g b p linked_g hung_p

  only_o : (h p).children r.one.byte ≡ Below o
  only_o = rw hp (ap (λ z. hung_in (map.get z r.one.byte)) r.one.children ∙ ap hung_in (insert_at map.empty r.one.byte (Sub o)))

  alone : (c : ℕ) → c ≢ r.one.byte → (h p).children c ≡ Nothing
  alone c ne = rw hp (ap (λ z. hung_in (map.get z c)) r.one.children ∙ ap hung_in (insert_beside map.empty r.one.byte (Sub o) c ne ∙ map.get-empty _ c))

  child_o : IsChild a h p r.one.byte o
  child_o = t.tree.down p r.one.byte o child_p.linked only_o

  gp : g ≢ p
  gp = by_length h g p child_p.longer

  po : p ≢ o
  po = by_length h p o child_o.longer

  go : g ≢ o
  go = by_length h g o (omega (arith, child_p.longer, child_o.longer))

  root_length : length (h 0).prefix ≡ 0
  root_length = ap length t.tree.empty

  rp : 0 ≢ p
  rp = by_length h 0 p (omega (arith, child_p.longer, root_length))

  ro : 0 ≢ o
  ro = by_length h 0 o (omega (arith, child_o.longer, root_length))

  lifts : Lifts a h a1 h1 g b p r.one.byte o
  lifts = record {
    linked = linked_g;
    hung = hung_p;
    only = only_o;
    alone = alone;
    prefix = rw (same_test g g refl) refl;
    prefix_low = rw (other_test p g (λ e. gp (sym e))) refl;
    child = rw (same_test g g refl, same_test b b refl) refl;
    beside = λ c ne. rw (same_test g g refl, other_test c b ne) refl;
    left = λ e. let z : Gone ≡ Linked = sym (ap (λ w. cond w Gone (a p).status) (same_test p p refl)) ∙ e in cc;
    stays = λ n ne. ap (λ w. cond w Gone (a n).status) (other_test n p ne);
    parent = ap (λ w. cond w g (t.parent o)) (same_test o o refl);
    parents = λ n l np nv. ap (λ w. cond w g (t.parent n)) (other_test n o nv);
    nodes = λ n ng np. ap (λ w. cond w (with_below (h g) b o) (h n)) (other_test n g ng);
  }

  t1 : Tree a1 h1
  t1 = lift_tree a h a1 h1 g b p r.one.byte o t.tree lifts

  -- a linked node of it, which stood before
  not_p : (n : ℕ) → (a1 n).status ≡ Linked → n ≢ p
  not_p n l e = lifts.left (let Q : ℕ → Type 0 = λ z. (a1 z).status ≡ Linked in subst Q e l)

  was : (n : ℕ) → (a1 n).status ≡ Linked → ContainsKey s n
  was n l = stands_of s t.parent n (sym (lifts.stays n (not_p n l)) ∙ l)

  now_linked : (n : ℕ) → n ≢ p → ContainsKey s n → (a1 n).status ≡ Linked
  now_linked n ne st = lifts.stays n ne ∙ linked_of s t.parent n st

  free_name : (n : ℕ) → ContainsKey s n → n ≢ o → n ≢ m
  free_name n st nv e = elim k.named [
    | inl q ↦ nv (e ∙ q)
    | inr q ↦ (let Q : ℕ → Type 0 = λ z. ContainsKey s z in let z : ContainsKey s m = subst Q e st in let w : false ≡ true = rw q.0 at z in cc)
  ]

  put : in_place o m o ≡ m
  put = rw (same_test o o refl) refl

  kept : (n : ℕ) → n ≢ o → in_place o m n ≡ n
  kept n ne = rw (other_test n o ne) refl

  abbrev parent' : ℕ → ℕ
  parent' n = cond (n == m) g (in_place o m (t.parent n))

  abbrev a' : ℕ → Note
  a' = notes_of s' parent'

  same_node : (n : ℕ) → ContainsKey s n → n ≢ g → n ≢ p → n ≢ o → get s' n ≡ get s n
  same_node n st ng np nv = k.others n ng np nv (free_name n st nv)

  linked' : (n : ℕ) → (a1 n).status ≡ Linked → (a' (in_place o m n)).status ≡ Linked
  linked' n l = elim (same_or_not n o) [
    | inl e ↦ (let Q : ℕ → Type 0 = λ z. (a' (in_place o m z)).status ≡ Linked in
        subst Q (sym e) (ap (λ z. (a' z).status) put ∙ linked_of s' parent' m (stands_at s' m r.node k.stands)))
    | inr nv ↦ ap (λ z. (a' z).status) (kept n nv) ∙ linked_of s' parent' n (elim (same_or_not n g) [
      | inl e ↦ (let Q : ℕ → Type 0 = λ z. ContainsKey s' z in subst Q (sym e) (stands_at s' g k.new k.now))
      | inr ng ↦ subst IsSome (sym (same_node n (was n l) ng (not_p n l) nv)) (was n l)
    ])
  ]

  none_not : (n : ℕ) → get s' n ≡ None → ContainsKey s' n → ⊥
  none_not n e st = let w : false ≡ true = rw e at st in cc

  at_name : (n q : ℕ) → n ≡ q → ContainsKey s' n → ContainsKey s' q
  at_name n q e st = let Q : ℕ → Type 0 = λ z. ContainsKey s' z in subst Q e st

  only' : (n : ℕ) → (a' n).status ≡ Linked → Named a1 (in_place o m) n
  only' n l =
      let st = stands_of s' parent' n l in
      elim (same_or_not n m) [
        | inl e ↦ record { before = o; linked = now_linked o (λ q. po (sym q)) (stands_at s o r.node r.child); is = put ∙ sym e }
        | inr nm ↦ (let np : n ≢ p = (λ e. none_not p k.left (at_name n p e st)) in
            let nv : n ≢ o = (λ e. elim k.named [
              | inl q ↦ nm (e ∙ sym q)
              | inr q ↦ none_not o q.1 (at_name n o e st)
            ]) in
            record {
              before = n;
              linked = elim (same_or_not n g) [
                | inl e ↦ (let Q : ℕ → Type 0 = λ z. (a1 z).status ≡ Linked in subst Q (sym e) (now_linked g gp (stands_at s g r.upper r.was)))
                | inr ng ↦ now_linked n np (subst IsSome (k.others n ng np nv nm) st)
              ];
              is = kept n nv;
            })
      ]

  parents' : (n : ℕ) → (a1 n).status ≡ Linked → (a' (in_place o m n)).parent ≡ in_place o m (a1 n).parent
  parents' n l = elim (same_or_not n o) [
    | inl e ↦ (let Q : ℕ → Type 0 = λ z. (a' (in_place o m z)).parent ≡ in_place o m (a1 z).parent in
        subst Q (sym e) (ap (λ z. (a' z).parent) put ∙ (ap (λ w. cond w g (in_place o m (t.parent m))) (same_test m m refl) ∙ sym (ap (in_place o m) lifts.parent ∙ kept g go))))
    | inr nv ↦ ap (λ z. (a' z).parent) (kept n nv) ∙ (ap (λ w. cond w g (in_place o m (t.parent n))) (other_test n m (free_name n (was n l) nv)) ∙ ap (in_place o m) (sym (ap (λ w. cond w g (t.parent n)) (other_test n o nv))))
  ]

  -- a node as it was, but for the one above
  as_before : (n : ℕ) → n ≢ g → h1 n ≡ h n
  as_before n ng = ap (λ w. cond w (with_below (h g) b o) (h n)) (other_test n g ng)

  moved : heap_of s' m ≡ h1 o
  moved = ap node_of (k.stands ∙ sym r.child) ∙ sym (as_before o (λ e. go (sym e)))

  same_heap : (n : ℕ) → (a1 n).status ≡ Linked → n ≢ g → n ≢ o → heap_of s' n ≡ h1 n
  same_heap n l ng nv = ap node_of (same_node n (was n l) ng (not_p n l) nv) ∙ sym (as_before n ng)

  prefix' : (n : ℕ) → (a1 n).status ≡ Linked → (heap_of s' (in_place o m n)).prefix ≡ (h1 n).prefix
  prefix' n l = elim (same_or_not n o) [
    | inl e ↦ (let Q : ℕ → Type 0 = λ z. (heap_of s' (in_place o m z)).prefix ≡ (h1 z).prefix in
        subst Q (sym e) (ap (λ z. (heap_of s' z).prefix) put ∙ ap (λ z. z.prefix) moved))
    | inr nv ↦ ap (λ z. (heap_of s' z).prefix) (kept n nv) ∙ elim (same_or_not n g) [
      | inl e ↦ (let Q : ℕ → Type 0 = λ z. (heap_of s' z).prefix ≡ (h1 z).prefix in
          subst Q (sym e) (ap (λ z. (node_of z).prefix) k.now ∙ (k.becomes.prefix ∙ (sym (ap (λ z. z.prefix) hg) ∙ sym lifts.prefix))))
      | inr ng ↦ ap (λ z. z.prefix) (same_heap n l ng nv)
    ]
  ]

  -- elsewhere hangs no node of the child's old name
  unnamed : (n c : ℕ) → (a1 n).status ≡ Linked → (n ≡ g → c ≢ b) → (h1 n).children c ≡ named (in_place o m) ((h1 n).children c)
  unnamed n c l ne = of ((h1 n).children c) (λ e. let w : (n ≡ g) × (c ≡ b) = one_place a1 h1 t1 n c g b o l (now_linked g gp (stands_at s g r.upper r.was)) e lifts.child in ne w.0 w.1)
    where
      of : (z : Hung P) → (z ≡ Below o → ⊥) → z ≡ named (in_place o m) z
      of Nothing f = refl
      of (Below d) f = ap Below (sym (kept d (λ e. f (ap Below e))))
      of (Holds v) f = refl

  children' : (n c : ℕ) → (a1 n).status ≡ Linked → (heap_of s' (in_place o m n)).children c ≡ named (in_place o m) ((h1 n).children c)
  children' n c l = elim (same_or_not n o) [
    | inl e ↦ (let Q : ℕ → Type 0 = λ z. (heap_of s' (in_place o m z)).children c ≡ named (in_place o m) ((h1 z).children c) in
        subst Q (sym e) (ap (λ z. (heap_of s' z).children c) put ∙ (ap (λ z. z.children c) moved ∙ unnamed o c (now_linked o (λ q. po (sym q)) (stands_at s o r.node r.child)) (λ q. absurd (go (sym q))))))
    | inr nv ↦ ap (λ z. (heap_of s' z).children c) (kept n nv) ∙ elim (same_or_not n g) [
      | inl e ↦ (let Q : ℕ → Type 0 = λ z. (heap_of s' z).children c ≡ named (in_place o m) ((h1 z).children c) in
          subst Q (sym e) (ap (λ z. (node_of z).children c) k.now ∙ elim (same_or_not c b) [
            | inl w ↦ (let R : ℕ → Type 0 = λ z. hung_in (map.get (children_of k.new) z) ≡ named (in_place o m) ((h1 g).children z) in
                subst R (sym w) (ap (λ z. hung_in (map.get z b)) k.becomes.children ∙ (ap hung_in (insert_at (children_of r.upper) b (Sub m)) ∙ (ap Below (sym put) ∙ sym (ap (named (in_place o m)) lifts.child)))))
            | inr w ↦ ap (λ z. hung_in (map.get z c)) k.becomes.children ∙ (ap hung_in (insert_beside (children_of r.upper) b (Sub m) c w)
                ∙ (sym (ap (λ z. z.children c) hg) ∙ (sym (lifts.beside c w) ∙ unnamed g c (now_linked g gp (stands_at s g r.upper r.was)) (λ _. w))))
          ]))
      | inr ng ↦ ap (λ z. z.children c) (same_heap n l ng nv) ∙ unnamed n c l (λ e. absurd (ng e))
    ]
  ]

  moves_named : Renamed (in_place o m) a1 h1 a' (heap_of s')
  moves_named = record { root = kept 0 ro; linked = linked'; only = only'; parent = parents'; prefix = prefix'; children = children' }

  filled' : (n : ℕ) → IsFilled (get s' n)
  filled' n = elim (same_or_not n m) [
    | inl e ↦ filled_at s' n m (Some r.node) e k.stands (subst IsFilled r.child (t.filled o))
    | inr nm ↦ elim (same_or_not n p) [
      | inl e ↦ filled_at s' n p None e k.left filled_none
      | inr np ↦ elim (same_or_not n g) [
        | inl e ↦ filled_at s' n g (Some k.new) e k.now (filled_with k.new b (Sub m) (ap (λ z. map.get z b) k.becomes.children ∙ insert_at (children_of r.upper) b (Sub m)))
        | inr ng ↦ elim (same_or_not n o) [
          | inl e ↦ elim k.named [
            | inl q ↦ absurd (nm (e ∙ sym q))
            | inr q ↦ filled_at s' n o None e q.1 filled_none
          ]
          | inr nv ↦ subst IsFilled (sym (k.others n ng np nv nm)) (t.filled n)
        ]
      ]
    ]
  ]

  root_stands : ContainsKey s 0
  root_stands = stands_of s t.parent 0 t.tree.root

  -- the child isn't the root
  pub moved_apart : o ≢ 0
  moved_apart e = ro (sym e)

  -- an only child in the place of its node leaves the tree and its map
  pub moved_up : SameMap s s'
  moved_up = record {
    tree = record {
      parent = parent';
      tree = renamed_tree (in_place o m) a1 h1 a' (heap_of s') t1 moves_named;
      wide = wide_after s s' g r.upper k.new t.wide r.was k.now (λ w. ap capacity_of k.becomes.form ∙ w) (λ ng. same_node 0 root_stands ng rp ro);
      filled = filled';
    };
    values = λ key len. renamed_map (in_place o m) a1 h1 a' (heap_of s') t1 moves_named key ∙ lift_map a h a1 h1 g b p r.one.byte o t.tree lifts key len;
  }
