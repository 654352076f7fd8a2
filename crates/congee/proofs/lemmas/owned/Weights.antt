-- The sizes of the nodes of a tree are those of what stands in the slab: each node but the root hangs at one byte of one node,
-- so all that the nodes weigh with what is below them is what they weigh themselves and what the children of all weigh.
use Rattle.std.proofs.Common.{◌≡◌, ◌≢◌, ℕ, zero, suc, ◌+◌, ◌<◌, ◌≤◌, ◌==◌, ◌⊎◌, Bool, true, false, cond, List, [], ◌∷◌, ◌++◌, length, inl, inr, refl, sym, ap, subst, ◌∙◌, arith}
use Rattle.std.specs.Prelude.{Option, None, Some, is_some, IsSome}
use Rattle.std.proofs.lemmas.Bool.{cases_lt}
use Rattle.std.specs.FinMap as map
use Rattle.slab.specs.Slab.{get, ContainsKey}
use Rattle.congee.specs.Heap.{Hung, Nothing, Below, Holds}
use Rattle.congee.specs.Notes.{HasParent}
use Rattle.congee.specs.forms.Forms.{form_of, children_of, size_of}
use Rattle.congee.specs.owned.Arena.{Nodes, hung_in, node_of, heap_of, notes_of, IsTree}
use Rattle.congee.specs.owned.Levels.{under_byte, under_bytes, with_node, nodes_from, nodes_of}
use Rattle.congee.specs.owned.Sizes.{bytes_at, bytes_of}
use Rattle.congee.specs.owned.Stats.{Shape}
use Rattle.congee.specs.owned.Weights.{sizes_of, HasBytes, HasBytesFrom}
use Rattle.congee.specs.declared.forms.base_node.Node.{Node as Form}
use Rattle.congee.specs.declared.forms.child.Child.{Child}
use Rattle.congee.specs.declared.forms.child.Child.TheVariants.{Blank, Node as Sub, Value}
use Rattle.congee.specs.forms.Bytes.{IsFirst}
use Rattle.congee.proofs.lemmas.Fits.{same_test, other_test}
use Rattle.congee.proofs.lemmas.Tree.{same_or_not}
use Rattle.congee.proofs.lemmas.owned.Cursors.{nothing_blank}
use Rattle.congee.proofs.lemmas.owned.Moves.{node_at}
use Rattle.congee.proofs.lemmas.owned.Sizes.{bytes_total, past_slots}
use Rattle.congee.proofs.lemmas.owned.Totals.{total, total_same, total_none, total_one, total_add, total_swap}
use Rattle.congee.proofs.lemmas.owned.Ways.{linked_of, stands_of, short_prefix, hung_child}

-- the nodes below the bytes that were passed have their children at bytes
abbrev pub BytesPassed : {P : Type 0} → Nodes P → Form ℕ P → ℕ → Type 0
BytesPassed s x from = (b c : ℕ) → b < from → hung_in (map.get (children_of x) b) ≡ Below c → HasBytesFrom (get s) 8 c

-- a further byte is passed: nothing hangs at those before it
pub passes : {P : Type 0} (s : Nodes P) (x : Form ℕ P) (from byte : ℕ) (y : Child ℕ P) → IsFirst (children_of x) from byte y → BytesPassed s x from
    → ((c : ℕ) → hung_in (Some y) ≡ Below c → HasBytesFrom (get s) 8 c) → BytesPassed s x (byte + 1)
passes s x from byte y first h here b c l e = elim (cases_lt b from) [
  | inl lt ↦ h b c lt e
  | inr ge ↦ elim (same_or_not b byte) [
    | inl p ↦ here c (ap hung_in (sym first.here) ∙ (ap (λ k. hung_in (map.get (children_of x) k)) (sym p) ∙ e))
    | inr ne ↦ absurd (let z : Nothing ≡ Below c = ap hung_in (sym (first.before b ge (omega (arith, l, ne)))) ∙ e in cc)
  ]
]

-- a node's name as a child is the one that the tree sees there
pub below_is : {P : Type 0} (y : Child ℕ P) (below c : ℕ) → y ≡ Sub below → hung_in (Some y) ≡ Below c → below ≡ c
below_is y below c is e = let z : Below below ≡ Below c = ap (λ k. hung_in (Some k)) (sym is) ∙ e in cc

-- what isn't a node is none to the tree
pub no_node : {P : Type 0} (s : Nodes P) → IsTree s → (n : ℕ) (x : Form ℕ P) (b : ℕ) (y : Child ℕ P) → ContainsKey s n → get s n ≡ Some x → map.get (children_of x) b ≡ Some y
    → ((c : ℕ) → y ≡ Sub c → ⊥) → (c : ℕ) → hung_in (Some y) ≡ Below c → ⊥
no_node s t n x b Blank h e here other c d = nothing_blank s t n b h (rw (e, here) refl)
no_node s t n x b (Sub k) h e here other c d = other k refl
no_node s t n x b (Value v) h e here other c d = let z : Holds v ≡ Below c = d in cc

fewer_levels : {P : Type 0} (s : ℕ → Option (Form ℕ P)) (f n : ℕ) → HasBytesFrom s (suc f) n → HasBytesFrom s f n
unfolding HasBytesFrom
fewer_levels s zero n h = tt
fewer_levels s (suc f) n h = (h.0, λ x b c e d. fewer_levels s f c (h.1 x b c e d))

-- every byte is passed
pub passed_all : {P : Type 0} (s : Nodes P) (n : ℕ) (x : Form ℕ P) (from : ℕ) → get s n ≡ Some x → ((b : ℕ) → IsSome (map.get (children_of x) b) → b < 256)
    → BytesPassed s x from → ((b : ℕ) → from ≤ b → map.get (children_of x) b ≡ None) → HasBytesFrom (get s) 8 n
unfolding HasBytesFrom
passed_all s n x from e bytes h none = (
  λ y is. subst (λ z. (b : ℕ) → IsSome (map.get (children_of z) b) → b < 256) (same y is) bytes,
  λ y b c is d.
      let d' : hung_in (map.get (children_of x) b) ≡ Below c = subst (λ z. hung_in (map.get (children_of z) b) ≡ Below c) (sym (same y is)) d in
      elim (cases_lt b from) [
        | inl lt ↦ fewer_levels (get s) 7 c (h b c lt d')
        | inr ge ↦ absurd (let z : Nothing ≡ Below c = ap hung_in (sym (none b ge)) ∙ d' in cc)
      ],
)
  where
    same : (y : Form ℕ _) → get s n ≡ Some y → x ≡ y
    same y is = let z : Some x ≡ Some y = sym e ∙ is in cc

neither : (b : Bool) → ◌≡◌ {A = ℕ} (cond b 0 0) 0
neither true = refl
neither false = refl

sizes_append : (xs ys : List Shape) → sizes_of (xs ++ ys) ≡ sizes_of xs + sizes_of ys
sizes_append [] ys = omega arith
sizes_append (x ∷ xs) ys = let r = sizes_append xs ys in omega (arith, r)

module _ {P : Type 0} where
  -- what a function gives for the node that hangs at a byte
  abbrev pub of_hung : (ℕ → ℕ) → Hung P → ℕ
  of_hung g Nothing = 0
  of_hung g (Below c) = g c
  of_hung g (Holds v) = 0

  same_below : (a b : ℕ) → ◌≡◌ {A = Hung P} (Below a) (Below b) → a ≡ b
  same_below a b e = ap (of_hung (λ c. c)) e

  -- what a function gives for a node and those below it, over so many levels
  unfoldable pub weigh : (Option (Form ℕ P) → ℕ) → (ℕ → Option (Form ℕ P)) → ℕ → ℕ → ℕ
  weigh g s zero n = 0
  weigh g s (suc f) n = g (s n) + total (λ b. of_hung (λ c. weigh g s f c) ((node_of (s n)).children b)) 256

  sizes_under : (go : ℕ → List Shape) (g : ℕ → ℕ) (children : ℕ → Hung P) (n : ℕ) → ((c : ℕ) → sizes_of (go c) ≡ g c)
      → sizes_of (under_bytes go children n) ≡ total (λ b. of_hung g (children b)) n
  unfolding under_bytes total
  sizes_under go g children zero e = refl
  sizes_under go g children (suc b) e =
      let r = sizes_under go g children b e in
      let a = sizes_append (under_bytes go children b) (under_byte go (children b)) in
      let h : sizes_of (under_byte go (children b)) ≡ of_hung g (children b) = one (children b) in
      omega (arith, r, a, h)
    where
      one : (x : Hung P) → sizes_of (under_byte go x) ≡ of_hung g x
      one Nothing = refl
      one (Below c) = e c
      one (Holds v) = refl

  sizes_with : (go : ℕ → List Shape) (g : ℕ → ℕ) (level : ℕ) (o : Option (Form ℕ P)) → ((c : ℕ) → sizes_of (go c) ≡ g c)
      → sizes_of (with_node go level o) ≡ bytes_at o + total (λ b. of_hung g ((node_of o).children b)) 256
  sizes_with go g level None e = let z = total_none (λ b. 0) 256 (λ i l. refl) in omega (arith, z)
  sizes_with go g level (Some x) e = ap (λ n. size_of (form_of x) + n) (sizes_under go g (λ b. hung_in (map.get (children_of x) b)) 256 e)

  -- the sizes of the nodes from one down
  sizes_from : (s : ℕ → Option (Form ℕ P)) (f level n : ℕ) → sizes_of (nodes_from s f level n) ≡ weigh bytes_at s f n
  unfolding nodes_from weigh
  sizes_from s zero level n = refl
  sizes_from s (suc f) level n = sizes_with (λ c. nodes_from s f (level + 1) c) (λ c. weigh bytes_at s f c) level (s n) (λ c. sizes_from s f (level + 1) c)

  -- what a function gives for the node at a byte, if it is this one
  abbrev at_hung : Hung P → ℕ → ℕ → ℕ
  at_hung Nothing m y = 0
  at_hung (Below c) m y = cond (c == m) y 0
  at_hung (Holds v) m y = 0

  at_none : (x : Hung P) (m y : ℕ) → x ≢ Below m → at_hung x m y ≡ 0
  at_none Nothing m y ne = refl
  at_none (Below c) m y ne = ap (λ b. cond b y 0) (other_test c m (λ e. ne (ap Below e)))
  at_none (Holds v) m y ne = refl

  at_same : (x : Hung P) (m y : ℕ) → x ≡ Below m → at_hung x m y ≡ y
  at_same x m y e = rw (e, same_test m m refl) refl

  hung_total : (g : ℕ → ℕ) (x : Hung P) (l : ℕ) → ((c : ℕ) → x ≡ Below c → c < l) → of_hung g x ≡ total (λ m. at_hung x m (g m)) l
  hung_total g Nothing l e = sym (total_none (λ m. 0) l (λ i b. refl))
  hung_total g (Below c) l e =
      sym (total_one (λ m. at_hung (Below c) m (g m)) l c (e c refl) (λ i b ne. at_none (Below c) i (g i) (λ q. ne (sym (same_below c i q))))
      ∙ at_same (Below c) c (g c) refl)
  hung_total g (Holds v) l e = sym (total_none (λ m. 0) l (λ i b. refl))

-- a function that gives nothing where no node stands
module _ {P : Type 0} (give : Option (Form ℕ P) → ℕ) (bare : give None ≡ 0) (s : Nodes P) (t : IsTree s) where
  within : (n : ℕ) → ContainsKey s n → n < length s.slots
  within n h = elim (cases_lt n (length s.slots)) [
    | inl l ↦ l
    | inr g ↦ absurd (let e : is_some (get s n) ≡ false = ap is_some (past_slots s n g) in cc (h, e))
  ]

  hung_same : (f g : ℕ → ℕ) (x : Hung P) → ((c : ℕ) → x ≡ Below c → f c ≡ g c) → of_hung f x ≡ of_hung g x
  hung_same f g Nothing e = refl
  hung_same f g (Below c) e = e c refl
  hung_same f g (Holds v) e = refl

  stable : (f g n : ℕ) → ContainsKey s n → 8 ≤ f + length (heap_of s n).prefix → 8 ≤ g + length (heap_of s n).prefix → weigh give (get s) f n ≡ weigh give (get s) g n
  unfolding weigh
  stable zero g n h p q = let l = short_prefix s t n h in absurd (omega (arith, l, p))
  stable (suc f) zero n h p q = let l = short_prefix s t n h in absurd (omega (arith, l, q))
  stable (suc f) (suc g) n h p q = ap (λ m. give (get s n) + m) (total_same _ _ 256 (λ b l. hung_same (λ c. weigh give (get s) f c) (λ c. weigh give (get s) g c) ((heap_of s n).children b) (λ c e.
      let i = (hung_child s t n b c e).1 in
      stable f g c (stands_of s t.parent c i.linked) (omega (arith, p, i.longer)) (omega (arith, q, i.longer)))))

  -- a node weighs its size and what its children weigh
  abbrev whole : ℕ → ℕ
  whole n = weigh give (get s) 8 n

  abbrev children_weigh : ℕ → ℕ
  children_weigh n = total (λ b. of_hung whole ((heap_of s n).children b)) 256

  weighs : (n : ℕ) → whole n ≡ give (get s n) + children_weigh n
  unfolding weigh
  weighs n = ap (λ m. give (get s n) + m) (total_same _ _ 256 (λ b l. hung_same (λ c. weigh give (get s) 7 c) whole ((heap_of s n).children b) (λ c e.
      let i = (hung_child s t n b c e).1 in
      stable 7 8 c (stands_of s t.parent c i.linked) (omega (arith, i.longer)) (omega arith))))

  weightless : (m : ℕ) → get s m ≡ None → whole m ≡ 0
  unfolding weigh
  weightless m e = rw e (let z = total_none (λ b. 0) 256 (λ i l. refl) in omega (arith, z, bare))

  -- a node's share in what the children of all weigh
  share : ((n : ℕ) → HasBytes (get s n)) → (m : ℕ) → m ≢ 0
      → total (λ n. total (λ b. at_hung ((heap_of s n).children b) m (whole m)) 256) (length s.slots) ≡ whole m
  share bytes m ne = elim (some_or_none (get s m)) [
    | inl h ↦
        (let u : HasParent (notes_of s t.parent) (heap_of s) m = t.tree.up m (linked_of s t.parent m h) ne in
        let p = t.parent m in
        let sp : ContainsKey s p = (hung_child s t p u.byte m u.holds).0 in
        let i = (hung_child s t p u.byte m u.holds).1 in
        let x = node_at s p sp in
        let low : u.byte < 256 = bytes p x.0 x.1 u.byte (hung_some (map.get (children_of x.0) u.byte) (let e : (node_of (get s p)).children u.byte ≡ Below m = u.holds in rw x.1 at e)) in
        total_one (λ n. total (λ b. at_hung ((heap_of s n).children b) m (whole m)) 256) (length s.slots) p (within p sp)
        (λ n l np. total_none _ 256 (λ b lb. at_none ((heap_of s n).children b) m (whole m) (λ e. np (sym (hung_child s t n b m e).1.parent))))
        ∙ (total_one (λ b. at_hung ((heap_of s p).children b) m (whole m)) 256 u.byte low
        (λ b lb nb. at_none ((heap_of s p).children b) m (whole m) (λ e. nb (sym (hung_child s t p b m e).1.byte ∙ i.byte)))
        ∙ at_same ((heap_of s p).children u.byte) m (whole m) u.holds))
    | inr none ↦
        (let z : whole m ≡ 0 = weightless m none in
        total_none _ (length s.slots) (λ n l. total_none _ 256 (λ b lb. at_zero ((heap_of s n).children b) m (whole m) z)) ∙ sym z)
  ]
    where
      some_or_none : (o : Option (Form ℕ P)) → (IsSome o) ⊎ (o ≡ None)
      some_or_none None = inr refl
      some_or_none (Some x) = inl refl

      hung_some : (o : Option (Child ℕ P)) → hung_in o ≡ Below m → IsSome o
      hung_some None e = absurd (let z : Nothing ≡ Below m = e in cc)
      hung_some (Some c) e = refl

      at_zero : (x : Hung P) (m y : ℕ) → y ≡ 0 → at_hung x m y ≡ 0
      at_zero Nothing m y e = refl
      at_zero (Below c) m y e = rw e (neither (c == m))
      at_zero (Holds v) m y e = refl

  abbrev share_of : ℕ → ℕ
  share_of m = total (λ n. total (λ b. at_hung ((heap_of s n).children b) m (whole m)) 256) (length s.slots)

  -- nothing has the root
  root_share : share_of 0 ≡ 0
  root_share = total_none _ (length s.slots) (λ n l. total_none _ 256 (λ b lb. at_none ((heap_of s n).children b) 0 (whole 0) (λ e.
      let i = (hung_child s t n b 0 e).1 in
      let z : length (heap_of s 0).prefix ≡ 0 = ap length t.tree.empty in
      absurd (omega (arith, i.longer, z)))))

  shares : ((n : ℕ) → HasBytes (get s n)) → (m : ℕ) → share_of m + at_hung {P = P} (Below 0) m (whole m) ≡ whole m
  shares bytes m = elim (same_or_not m 0) [
    | inl e ↦ (let Q : ℕ → Type 0 = λ k. share_of k + at_hung {P = P} (Below 0) k (whole k) ≡ whole k in
        subst Q (sym e) (let r = root_share in let a : at_hung {P = P} (Below 0) 0 (whole 0) ≡ whole 0 = at_same {P = P} (Below 0) 0 (whole 0) refl in omega (arith, r, a)))
    | inr ne ↦
        (let a : at_hung {P = P} (Below 0) m (whole m) ≡ 0 = at_none {P = P} (Below 0) m (whole m) (λ e. ne (sym (same_below {P = P} 0 m e))) in
        let h = share bytes m ne in
        omega (arith, a, h))
  ]

  -- what the children of all nodes weigh
  children_all : total children_weigh (length s.slots) ≡ total share_of (length s.slots)
  children_all =
      let l = length s.slots in
      let inside : (n : ℕ) → n < l → children_weigh n ≡ total (λ m. total (λ b. at_hung ((heap_of s n).children b) m (whole m)) 256) l = λ n ln.
      total_same _ _ 256 (λ b lb. hung_total whole ((heap_of s n).children b) l (λ c e. within c (stands_of s t.parent c (hung_child s t n b c e).1.linked)))
      ∙ total_swap (λ b m. at_hung ((heap_of s n).children b) m (whole m)) 256 l in
      total_same _ _ l inside ∙ total_swap (λ n m. total (λ b. at_hung ((heap_of s n).children b) m (whole m)) 256) l l

  root_within : 0 < length s.slots
  root_within = within 0 (stands_of s t.parent 0 t.tree.root)

  -- the root weighs what all places do
  pub root_weighs : ((n : ℕ) → HasBytes (get s n)) → whole 0 ≡ total (λ n. give (get s n)) (length s.slots)
  root_weighs bytes =
      let l = length s.slots in
      let all : total whole l ≡ total (λ n. give (get s n)) l + total children_weigh l =
      total_same whole (λ n. give (get s n) + children_weigh n) l (λ n ln. weighs n) ∙ total_add (λ n. give (get s n)) children_weigh l in
      let apart : total whole l ≡ total share_of l + total (λ m. at_hung {P = P} (Below 0) m (whole m)) l =
      total_same whole (λ m. share_of m + at_hung {P = P} (Below 0) m (whole m)) l (λ m lm. sym (shares bytes m)) ∙ total_add share_of (λ m. at_hung {P = P} (Below 0) m (whole m)) l in
      let root : total (λ m. at_hung {P = P} (Below 0) m (whole m)) l ≡ whole 0 =
      total_one (λ m. at_hung {P = P} (Below 0) m (whole m)) l 0 root_within (λ i li ne. at_none {P = P} (Below 0) i (whole i) (λ e. ne (sym (same_below {P = P} 0 i e))))
      ∙ at_same {P = P} (Below 0) 0 (whole 0) refl in
      let children = children_all in
      omega (arith, all, apart, root, children)

module _ {P : Type 0} (s : Nodes P) (t : IsTree s) where
  -- the sizes of the nodes are what stands in the slab, where all children are at bytes
  pub sizes_stand : ((n : ℕ) → HasBytes (get s n)) → sizes_of (nodes_of s) ≡ bytes_of s
  unfolding nodes_of
  sizes_stand bytes = sizes_from (get s) 8 0 0 ∙ (root_weighs bytes_at refl s t bytes ∙ sym (bytes_total s.slots))

  down : (f n b c : ℕ) → HasBytesFrom (get s) (suc f) n → (heap_of s n).children b ≡ Below c → HasBytesFrom (get s) f c
  unfolding HasBytesFrom
  down f n b c h e = let x = node_at s n (hung_child s t n b c e).0 in h.1 x.0 b c x.1 (let g : (node_of (get s n)).children b ≡ Below c = e in rw x.1 at g)

  opened : (f n : ℕ) → HasBytesFrom (get s) (suc f) n → HasBytes (get s n)
  unfolding HasBytesFrom
  opened f n h = h.0

  -- every node of the tree has its children at bytes where those from the root down have
  has_bytes : HasBytesFrom (get s) 8 0 → (n : ℕ) → HasBytes (get s n)
  has_bytes root n = elim (some_or_none (get s n)) [
    | inl h ↦ (of_some (length (heap_of s n).prefix) n (omega arith) h).2.0
    | inr none ↦ λ x e b is. absurd (let z : None ≡ Some x = sym none ∙ e in cc)
  ]
    where
      some_or_none : (o : Option (Form ℕ P)) → (IsSome o) ⊎ (o ≡ None)
      some_or_none None = inr refl
      some_or_none (Some x) = inl refl

      of_some : (d n : ℕ) → length (heap_of s n).prefix ≤ d → ContainsKey s n → (f : ℕ) × (8 ≤ suc f + length (heap_of s n).prefix) × (HasBytes (get s n) × HasBytesFrom (get s) (suc f) n)
      of_some zero n l h = elim (same_or_not n 0) [
        | inl e ↦ (let Q : ℕ → Type 0 = λ k. (f : ℕ) × (8 ≤ suc f + length (heap_of s k).prefix) × (HasBytes (get s k) × HasBytesFrom (get s) (suc f) k) in
            subst Q (sym e) (7, omega arith, (opened 7 0 root, root)))
        | inr ne ↦ (let u = t.tree.up n (linked_of s t.parent n h) ne in
            let i = (hung_child s t (t.parent n) u.byte n u.holds).1 in absurd (omega (arith, i.longer, l)))
      ]
      of_some (suc d) n l h = elim (same_or_not n 0) [
        | inl e ↦ (let Q : ℕ → Type 0 = λ k. (f : ℕ) × (8 ≤ suc f + length (heap_of s k).prefix) × (HasBytes (get s k) × HasBytesFrom (get s) (suc f) k) in
            subst Q (sym e) (7, omega arith, (opened 7 0 root, root)))
        | inr ne ↦ (let u = t.tree.up n (linked_of s t.parent n h) ne in
            let c = hung_child s t (t.parent n) u.byte n u.holds in
            let short = short_prefix s t n h in
            let above = of_some d (t.parent n) (omega (arith, c.1.longer, l)) c.0 in
            next above.0 n (omega (arith, above.1, c.1.longer)) (omega (arith, above.1, c.1.longer, short)) (down above.0 (t.parent n) u.byte n above.2.1 u.holds))
      ]
        where
          next : (f n : ℕ) → 8 ≤ f + length (heap_of s n).prefix → 0 < f → HasBytesFrom (get s) f n → (f : ℕ) × (8 ≤ suc f + length (heap_of s n).prefix) × (HasBytes (get s n) × HasBytesFrom (get s) (suc f) n)
          next zero n le lt h = absurd (omega (arith, lt))
          next (suc f) n le lt h = (f, omega (arith, le), (opened f n h, h))

  -- so they are where those from the root down are
  pub nodes_weigh : HasBytesFrom (get s) 8 0 → sizes_of (nodes_of s) ≡ bytes_of s
  nodes_weigh root = sizes_stand (has_bytes root)
