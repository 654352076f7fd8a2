-- The keys that are ahead of a scan, and how its steps change them.
use Rattle.std.proofs.Common.{◌≡◌, ℕ, zero, suc, ◌<◌, ◌≤◌, ◌+◌, ◌-◌, ◌*◌, ◌^◌, ◌⊎◌, true, false, List, [], ◌∷◌, ◌++◌, length, length-append, get_or, inl, inr, refl, sym, ap, ◌∙◌, subst, arith}
use Rattle.std.specs.Prelude.{Option, None, Some, is_some, IsSome, MatchOption, ◌↔◌}
use Rattle.std.specs.Int.{from_be_bytes, w64}
use Rattle.std.proofs.lemmas.Nat.{from_be_bytes-to_be_bytes_8}
use Rattle.std.proofs.lemmas.Bool.{cases_lt}
use Rattle.std.proofs.Math.Nat.{pow-suc, mul-le-mul_right}
use Rattle.std.specs.FinMap as map
use Rattle.slab.specs.Slab.{get, ContainsKey}
use Rattle.congee.specs.Heap.{Hung, Below, Nothing, Holds, fits, child_for, value_at}
use Rattle.congee.specs.Keys.{key_bytes}
use Rattle.congee.specs.owned.Arena.{Nodes, hung_in, heap_of, notes_of, IsTree, OnWay}
use Rattle.congee.specs.Notes.{IsChild}
use Rattle.congee.specs.owned.Changes.{DiffersAt}
use Rattle.congee.specs.owned.Cursor.{HangsBelow, IsDescent, IsCursor, HasAhead, IsAhead, IsAt, steps_left}
use Rattle.congee.specs.owned.Nearest.{IsLeastPair}
use Rattle.congee.specs.owned.Stores.{StandsWith}
use Rattle.congee.specs.owned.Table.{pairs_of}
use Rattle.congee.specs.forms.Forms.{children_of}
use Rattle.congee.specs.declared.forms.base_node.Node.{Node as Form}
use Rattle.congee.specs.declared.forms.child.Child.{Child}
use Rattle.congee.specs.declared.owned.scan.Branch.{Branch}
use Rattle.congee.proofs.lemmas.owned.Answered.{at_free, at_apart, at_held}
use Rattle.congee.proofs.lemmas.Fits.{fits_byte, fits_trans, same_key}
use Rattle.congee.proofs.lemmas.Graft.{on_test}
use Rattle.congee.proofs.lemmas.Keys.{key_length}
use Rattle.congee.proofs.lemmas.Link.{Leaf}
use Rattle.congee.proofs.lemmas.Orders.{less_at_first_byte, byte_small}
use Rattle.congee.proofs.lemmas.owned.Joins.{leaf_of}
use Rattle.congee.proofs.lemmas.owned.Tables.{pairs_stand}
use Rattle.congee.proofs.lemmas.owned.Ways.{linked_of, stands_of, short_prefix, below_stands, root_reached}

-- a node on a walk's way, and the least byte that is left there
abbrev pub branch_at : ℕ → ℕ → Branch
branch_at node from = record { node = node; from = from }

-- where two things are told of what was found, the first one is
pub first_of_pair : {T : Type 0} (o : Option T) (A : Type 0) (B C : T → Type 0) → MatchOption o A (λ r. B r × C r) → MatchOption o A B
first_of_pair None A B C m = m
first_of_pair (Some x) A B C m = m.0

-- where something was found: it, and what is told of it
pub some_told : {T : Type 0} (o : Option T) (A : Type 0) (B : T → Type 0) → IsSome o → MatchOption o A B → (x : T) × B x
some_told None A B e m = absurd (cc e)
some_told (Some x) A B e m = (x, m)

-- what is told where nothing was found
pub nothing_told : {T : Type 0} (o : Option T) (A : Type 0) (B : T → Type 0) → is_some o ≡ false → MatchOption o A B → A
nothing_told None A B e m = m
nothing_told (Some x) A B e m = absurd (cc e)

-- where nothing is popped nothing was there
pub none_left : (steps rest : List Branch) (o : Option Branch) → o ≡ None → IsSome o ↔ (0 < length steps) → steps ≡ []
none_left [] rest o e h = refl
none_left (a ∷ steps) rest o e h = let there : IsSome o = h.1 (omega arith) in absurd (cc (there, e))

-- the steps that are left fall with each step
power_pos : (k : ℕ) → 0 < 258 ^ k
power_pos zero = omega arith
power_pos (suc k) = let h = power_pos k in let e = pow-suc 258 k in omega (arith, h, e)

left_on : (levels : ℕ) (steps : List Branch) (a : Branch) → length steps < levels
    → steps_left levels (steps ++ a ∷ []) ≡ steps_left levels steps + (257 - a.from) * 258 ^ (levels - 1 - length steps)
left_on zero steps a l = absurd (omega (arith, l))
left_on (suc levels) [] a l =
    let none : steps_left levels [] ≡ 0 = left_none levels in
    let e : suc levels - 1 - 0 ≡ levels = omega arith in
    let w : 258 ^ (suc levels - 1 - 0) ≡ 258 ^ levels = ap (λ n. 258 ^ n) e in
    ap (λ n. (257 - a.from) * 258 ^ levels + n) none ∙ omega arith ∙ ap (λ n. 0 + (257 - a.from) * n) (sym w)
  where
    left_none : (levels : ℕ) → steps_left levels [] ≡ 0
    left_none zero = refl
    left_none (suc levels) = refl
left_on (suc levels) (b ∷ rest) a l =
    let h = left_on levels rest a (omega (arith, l)) in
    let e : levels - 1 - length rest ≡ suc levels - 1 - suc (length rest) = omega (arith, l) in
    let w : 258 ^ (levels - 1 - length rest) ≡ 258 ^ (suc levels - 1 - suc (length rest)) = ap (λ n. 258 ^ n) e in
    ap (λ n. (257 - b.from) * 258 ^ levels + n) (h ∙ ap (λ n. steps_left levels rest + (257 - a.from) * n) w) ∙ omega arith

-- a step that has nothing left goes
pub left_popped : (steps : List Branch) (n from : ℕ) → length steps < 8 → from ≤ 256 → steps_left 8 steps < steps_left 8 (steps ++ branch_at n from ∷ [])
left_popped steps n from l b =
    let e = left_on 8 steps (branch_at n from) l in
    let p = power_pos (8 - 1 - length steps) in
    let m = mul-le-mul_right {m = 1} {n = 257 - from} (258 ^ (8 - 1 - length steps)) (omega (arith, b)) in
    omega (arith, e, p, m)

-- one goes on
pub left_passed : (steps : List Branch) (n from to : ℕ) → length steps < 8 → from < to → to ≤ 256
    → steps_left 8 (steps ++ branch_at n to ∷ []) < steps_left 8 (steps ++ branch_at n from ∷ [])
left_passed steps n from to l b c =
    let d = left_on 8 steps (branch_at n from) l in
    let e = left_on 8 steps (branch_at n to) l in
    let p = power_pos (8 - 1 - length steps) in
    let m = mul-le-mul_right {m = 257 - to + 1} {n = 257 - from} (258 ^ (8 - 1 - length steps)) (omega (arith, b, c)) in
    omega (arith, d, e, p, m)

-- and goes down
pub left_entered : (steps : List Branch) (n from to below : ℕ) → length steps < 7 → from < to → to ≤ 256
    → steps_left 8 ((steps ++ branch_at n to ∷ []) ++ branch_at below 0 ∷ []) < steps_left 8 (steps ++ branch_at n from ∷ [])
left_entered steps n from to below l b c =
    let g = length-append steps (branch_at n to ∷ []) in
    let d = left_on 8 steps (branch_at n from) (omega (arith, l)) in
    let e = left_on 8 steps (branch_at n to) (omega (arith, l)) in
    let f = left_on 8 (steps ++ branch_at n to ∷ []) (branch_at below 0) (omega (arith, l, g)) in
    let lower : 258 ^ (8 - 1 - length (steps ++ branch_at n to ∷ [])) ≡ 258 ^ (8 - 2 - length steps) = ap (λ n. 258 ^ n) (omega (arith, l, g)) in
    let p = power_pos (8 - 2 - length steps) in
    let i : 8 - 1 - length steps ≡ suc (8 - 2 - length steps) = omega (arith, l) in
    let w : 258 ^ (8 - 1 - length steps) ≡ 258 ^ (8 - 2 - length steps) * 258 = ap (λ n. 258 ^ n) i ∙ pow-suc 258 (8 - 2 - length steps) in
    let m = mul-le-mul_right {m = 257 - to + 1} {n = 257 - from} (258 ^ (8 - 1 - length steps)) (omega (arith, b, c)) in
    let z : (257 - 0) * 258 ^ (8 - 1 - length (steps ++ branch_at n to ∷ [])) ≡ 257 * 258 ^ (8 - 2 - length steps) = ap (λ n. 257 * n) lower in
    omega (arith, d, e, f, p, w, m, z)

module _ {P : Type 0} (s : Nodes P) where
  -- what a node's children are to the tree
  pub nothing_there : (n from to : ℕ) (x : Form ℕ P) → get s n ≡ Some x → ((b : ℕ) → from ≤ b → b < to → map.get (children_of x) b ≡ None)
      → (b : ℕ) → from ≤ b → b < to → (heap_of s n).children b ≡ Nothing
  nothing_there n from to x e none = λ b lo hi. rw (e, none b lo hi) refl

  -- a node with no child from a byte on has nothing there for the tree
  pub nothing_more : (n from : ℕ) (x : Form ℕ P) → get s n ≡ Some x → ((b : ℕ) → from ≤ b → map.get (children_of x) b ≡ None)
      → (b : ℕ) → from ≤ b → (heap_of s n).children b ≡ Nothing
  nothing_more n from x e none = λ b lo. rw (e, none b lo) refl

  -- what a node has under a byte hangs there for the tree
  pub child_there : (n b : ℕ) (x : Form ℕ P) (c d : Child ℕ P) → get s n ≡ Some x → map.get (children_of x) b ≡ Some c → c ≡ d → (heap_of s n).children b ≡ hung_in (Some d)
  child_there n b x c d e f g = rw (e, f, g) refl

  -- the keys ahead of one step more
  pub ahead_split : (steps : List Branch) (a : Branch) (key : List ℕ) → IsAhead s (steps ++ a ∷ []) key → IsAhead s steps key ⊎ HasAhead s a key
  ahead_split [] a key h = elim h [ inl c ↦ inr c | inr none ↦ absurd none ]
  ahead_split (b ∷ rest) a key h = elim h [
    | inl c ↦ inl (inl c)
    | inr r ↦ elim (ahead_split rest a key r) [ inl x ↦ inl (inr x) | inr y ↦ inr y ]
  ]

  pub ahead_left : (steps : List Branch) (a : Branch) (key : List ℕ) → IsAhead s steps key → IsAhead s (steps ++ a ∷ []) key
  ahead_left [] a key h = absurd h
  ahead_left (b ∷ rest) a key h = elim h [ inl c ↦ inl c | inr r ↦ inr (ahead_left rest a key r) ]

  pub ahead_right : (steps : List Branch) (a : Branch) (key : List ℕ) → HasAhead s a key → IsAhead s (steps ++ a ∷ []) key
  ahead_right [] a key h = inl h
  ahead_right (b ∷ rest) a key h = inr (ahead_right rest a key h)

  -- a way with its last step gone, moved, or followed by one more
  on_cut : (a : Branch) (steps : List Branch) (b : Branch) → IsDescent s a (steps ++ b ∷ []) → IsDescent s a steps
  on_cut a [] b h = h.0.bound
  on_cut a (c ∷ rest) b h = (h.0, on_cut c rest b h.1)

  -- a way without its last step is one
  pub cursor_cut : (steps : List Branch) (b : Branch) → IsCursor s (steps ++ b ∷ []) → IsCursor s steps
  cursor_cut [] b h = tt
  cursor_cut (a ∷ rest) b h = (h.0, on_cut a rest b h.1)

  on_moved : (a : Branch) (steps : List Branch) (n from to : ℕ) → to ≤ 256 → IsDescent s a (steps ++ branch_at n from ∷ []) → IsDescent s a (steps ++ branch_at n to ∷ [])
  on_moved a [] n from to l h = (record { byte = h.0.byte; passed = h.0.passed; bound = h.0.bound; hangs = h.0.hangs }, l)
  on_moved a (c ∷ rest) n from to l h = (h.0, on_moved c rest n from to l h.1)

  -- a way whose last step goes on within its node is one
  pub cursor_moved : (steps : List Branch) (n from to : ℕ) → to ≤ 256 → IsCursor s (steps ++ branch_at n from ∷ []) → IsCursor s (steps ++ branch_at n to ∷ [])
  cursor_moved [] n from to l h = (h.0, l)
  cursor_moved (a ∷ rest) n from to l h = (h.0, on_moved a rest n from to l h.1)

  on_longer : (a : Branch) (steps : List Branch) (b c : Branch) → HangsBelow s b c → c.from ≤ 256 → IsDescent s a (steps ++ b ∷ []) → IsDescent s a ((steps ++ b ∷ []) ++ c ∷ [])
  on_longer a [] b c l f h = (h.0, (l, f))
  on_longer a (d ∷ rest) b c l f h = (h.0, on_longer d rest b c l f h.1)

  cursor_longer : (steps : List Branch) (b c : Branch) → HangsBelow s b c → c.from ≤ 256 → IsCursor s (steps ++ b ∷ []) → IsCursor s ((steps ++ b ∷ []) ++ c ∷ [])
  cursor_longer [] b c l f h = (h.0, (l, f))
  cursor_longer (a ∷ rest) b c l f h = (h.0, on_longer a rest b c l f h.1)

  -- a way that goes on into the node under the byte that it passed is one
  pub cursor_down : (steps : List Branch) (n from byte below : ℕ) → byte + 1 ≤ 256 → (heap_of s n).children byte ≡ Below below → IsCursor s (steps ++ branch_at n from ∷ [])
      → IsCursor s ((steps ++ branch_at n (byte + 1) ∷ []) ++ branch_at below 0 ∷ [])
  cursor_down steps n from byte below b e h =
      let l : HangsBelow s (branch_at n (byte + 1)) (branch_at below 0) = record { byte = byte; passed = omega arith; bound = b; hangs = e } in
      cursor_longer steps (branch_at n (byte + 1)) (branch_at below 0) l (omega arith) (cursor_moved steps n from (byte + 1) b h)

-- where nothing may be there is nothing
pub none_of : {X : Type 0} (o : Option X) → (IsSome o → ⊥) → o ≡ None
none_of None h = refl
none_of (Some x) h = absurd (h refl)

-- what a way tells of its last step
pub record EndsWay {P : Type 0} (s : Nodes P) (before : ℕ) (a : Branch) : Type 0 where
  pub stands : ContainsKey s a.node
  pub deep : before ≤ length (heap_of s a.node).prefix
  pub bound : a.from ≤ 256

-- the pairs ahead are the same
pub record SameAhead {P : Type 0} (s : Nodes P) (before after : List Branch) : Type 0 where
  pub same : (q : ℕ) → IsSome (map.get (pairs_of s) q) → IsAhead s before (key_bytes q) ↔ IsAhead s after (key_bytes q)

-- a key's way has come down to a node over these steps: the pairs that are ahead of them come after the key, and of the others
-- those from the key on have the node's prefix
pub record Descends {P : Type 0} (s : Nodes P) (steps : List Branch) (at key : ℕ) : Type 0 where
  pub opens : IsCursor s (steps ++ branch_at at 0 ∷ [])
  pub way : OnWay s (key_bytes key) at
  pub after : (q : ℕ) → IsSome (map.get (pairs_of s) q) → IsAhead s steps (key_bytes q) → key < q
  pub rest : (q : ℕ) → IsSome (map.get (pairs_of s) q) → key ≤ q → IsAhead s steps (key_bytes q) ⊎ (fits (heap_of s at).prefix (key_bytes q) ≡ true)

module _ {P : Type 0} (s : Nodes P) (t : IsTree s) where
  -- a key with a pair
  pub small : (q : ℕ) → IsSome (map.get (pairs_of s) q) → q < 2 ^ 64
  small q h = elim (cases_lt q (2 ^ 64)) [
    | inl l ↦ l
    | inr g ↦ (let none : map.get (pairs_of s) q ≡ None = (pairs_stand s).none_beyond q g in absurd (cc (h, none)))
  ]

  absent : (q : ℕ) → IsSome (map.get (pairs_of s) q) → value_at (heap_of s) (key_bytes q) ≡ None → ⊥
  absent q h e =
      let none : map.get (pairs_of s) q ≡ None = (pairs_stand s).at q (small q h) ∙ e in
      absurd (cc (h, none))

  -- goes on to a child
  pub finds_child : (q n : ℕ) → IsSome (map.get (pairs_of s) q) → ContainsKey s n → fits (heap_of s n).prefix (key_bytes q) ≡ true
      → child_for (heap_of s n) (key_bytes q) ≡ Nothing → ⊥
  finds_child q n h c f e = absent q h (at_free s (key_bytes q) n t (record { stands = c; fitted = f }) e)

  -- and has the prefix of a node there
  pub fits_child : (q n below : ℕ) → IsSome (map.get (pairs_of s) q) → ContainsKey s n → fits (heap_of s n).prefix (key_bytes q) ≡ true
      → child_for (heap_of s n) (key_bytes q) ≡ Below below → fits (heap_of s below).prefix (key_bytes q) ≡ true
  fits_child q n below h c f e = on_test (fits (heap_of s below).prefix (key_bytes q)) (λ y. y)
      (λ no. absurd (absent q h (at_apart s (key_bytes q) n below t (record { stands = c; fitted = f }) e no)))

  -- numbers with one prefix are in the order of the byte that follows it
  pub less_at : (n k q : ℕ) → ContainsKey s n → k < 2 ^ 64 → q < 2 ^ 64 → fits (heap_of s n).prefix (key_bytes k) ≡ true → fits (heap_of s n).prefix (key_bytes q) ≡ true
      → get_or (key_bytes k) (length (heap_of s n).prefix) 0 < get_or (key_bytes q) (length (heap_of s n).prefix) 0 → k < q
  less_at n k q c lk lq fk fq l =
      let b = short_prefix s t n c in
      less_at_first_byte k q (length (heap_of s n).prefix) lk lq (omega (arith, b))
      (λ j lt. fits_byte (heap_of s n).prefix (key_bytes k) j fk lt ∙ sym (fits_byte (heap_of s n).prefix (key_bytes q) j fq lt)) l

  byte_from : (n k q : ℕ) → ContainsKey s n → k ≤ q → q < 2 ^ 64 → fits (heap_of s n).prefix (key_bytes k) ≡ true → fits (heap_of s n).prefix (key_bytes q) ≡ true
      → get_or (key_bytes k) (length (heap_of s n).prefix) 0 ≤ get_or (key_bytes q) (length (heap_of s n).prefix) 0
  byte_from n k q c l lq fk fq = elim (cases_lt (get_or (key_bytes q) (length (heap_of s n).prefix) 0) (get_or (key_bytes k) (length (heap_of s n).prefix) 0)) [
    | inl under ↦ (let b = less_at n q k c lq (omega (arith, l, lq)) fq fk under in absurd (omega (arith, b, l)))
    | inr from ↦ from
  ]

  -- what hangs below a step
  pub child_of : (a b : Branch) → ContainsKey s a.node → (l : HangsBelow s a b) → IsChild (notes_of s t.parent) (heap_of s) a.node l.byte b.node
  child_of a b c l = t.tree.down a.node l.byte b.node (linked_of s t.parent a.node c) l.hangs

  pub child_stands : (a b : Branch) → ContainsKey s a.node → HangsBelow s a b → ContainsKey s b.node
  child_stands a b c l = stands_of s t.parent b.node (child_of a b c l).linked

  pub root_stands : (a : Branch) → a.node ≡ 0 → ContainsKey s a.node
  root_stands a e = subst (ContainsKey s) (sym e) (stands_of s t.parent 0 t.tree.root)

  on_last : (a : Branch) (steps : List Branch) (b : Branch) → ContainsKey s a.node → IsDescent s a (steps ++ b ∷ []) → (above : ℕ) → above ≤ length (heap_of s a.node).prefix
      → EndsWay s (above + 1 + length steps) b
  on_last a [] b c h above l =
      let i = child_of a b c h.0 in
      record { stands = child_stands a b c h.0; deep = omega (arith, i.longer, l); bound = h.1 }
  on_last a (d ∷ rest) b c h above l =
      let i = child_of a d c h.0 in
      let last = on_last d rest b (child_stands a d c h.0) h.1 (above + 1) (omega (arith, i.longer, l)) in
      record { stands = last.stands; deep = omega (arith, last.deep); bound = last.bound }

  -- the last node of a way stands, with a prefix of as many bytes at least as there are steps above
  pub last_of : (steps : List Branch) (b : Branch) → IsCursor s (steps ++ b ∷ []) → EndsWay s (length steps) b
  last_of [] b h = record { stands = root_stands b h.0; deep = omega arith; bound = h.1 }
  last_of (a ∷ rest) b h =
      let last = on_last a rest b (root_stands a h.0) h.1 0 (omega arith) in
      record { stands = last.stands; deep = omega (arith, last.deep); bound = last.bound }

  -- no blank hangs anywhere
  pub nothing_blank : (n b : ℕ) → ContainsKey s n → (heap_of s n).children b ≡ Below 0 → ⊥
  nothing_blank n b c e =
      let i = t.tree.down n b 0 (linked_of s t.parent n c) e in
      let z : length (heap_of s 0).prefix ≡ 0 = ap length t.tree.empty in
      absurd (omega (arith, i.longer, z))

  -- above a node from which a way leads further down there are fewer than seven steps
  pub few_below : (steps : List Branch) (n from byte below : ℕ) → IsCursor s (steps ++ branch_at n from ∷ []) → (heap_of s n).children byte ≡ Below below → length steps < 7
  few_below steps n from byte below h e =
      let last = last_of steps (branch_at n from) h in
      let i = t.tree.down n byte below (linked_of s t.parent n last.stands) e in
      let short = t.tree.short below i.linked in
      omega (arith, last.deep, i.longer, short)

  -- above the last step of a way there are fewer than eight
  pub few_before : (steps : List Branch) (b : Branch) → IsCursor s (steps ++ b ∷ []) → length steps < 8
  few_before steps b h =
      let last = last_of steps b h in
      let short = short_prefix s t b.node last.stands in
      omega (arith, last.deep, short)

  -- a key with the prefix of a node further down has the prefixes above, and then bytes that were passed
  passed_by : (a b : Branch) (key : List ℕ) → ContainsKey s a.node → HangsBelow s a b → fits (heap_of s b.node).prefix key ≡ true
      → (fits (heap_of s a.node).prefix key ≡ true) × (get_or key (length (heap_of s a.node).prefix) 0 < a.from)
  passed_by a b key c l f =
      let i = child_of a b c l in
      let same : get_or key (length (heap_of s a.node).prefix) 0 ≡ l.byte = fits_byte (heap_of s b.node).prefix key (length (heap_of s a.node).prefix) f i.longer ∙ i.byte in
      (fits_trans (heap_of s a.node).prefix (heap_of s b.node).prefix key i.fitted f, omega (arith, same, l.passed))

  pub passed_on : (a : Branch) (steps : List Branch) (b : Branch) (key : List ℕ) → ContainsKey s a.node → IsDescent s a (steps ++ b ∷ []) → fits (heap_of s b.node).prefix key ≡ true
      → (fits (heap_of s a.node).prefix key ≡ true) × (get_or key (length (heap_of s a.node).prefix) 0 < a.from)
  passed_on a [] b key c h f = passed_by a b key c h.0 f
  passed_on a (d ∷ rest) b key c h f = passed_by a d key c h.0 (passed_on d rest b key (child_stands a d c h.0) h.1 f).0

  -- so it comes before the keys that are ahead of the steps above
  covered_after : (a : Branch) (k q : ℕ) → ContainsKey s a.node → k < 2 ^ 64 → q < 2 ^ 64
      → (fits (heap_of s a.node).prefix (key_bytes k) ≡ true) × (get_or (key_bytes k) (length (heap_of s a.node).prefix) 0 < a.from) → HasAhead s a (key_bytes q) → k < q
  covered_after a k q c lk lq p v = less_at a.node k q c lk lq p.0 v.fitted (omega (arith, p.1, v.past))

  on_after : (a : Branch) (steps : List Branch) (b : Branch) (k q : ℕ) → ContainsKey s a.node → IsDescent s a (steps ++ b ∷ []) → k < 2 ^ 64 → q < 2 ^ 64
      → fits (heap_of s b.node).prefix (key_bytes k) ≡ true → IsAhead s (a ∷ steps) (key_bytes q) → k < q
  on_after a [] b k q c h lk lq f ahead = elim ahead [
    | inl v ↦ covered_after a k q c lk lq (passed_on a [] b (key_bytes k) c h f) v
    | inr none ↦ absurd none
  ]
  on_after a (d ∷ rest) b k q c h lk lq f ahead = elim ahead [
    | inl v ↦ covered_after a k q c lk lq (passed_on a (d ∷ rest) b (key_bytes k) c h f) v
    | inr r ↦ on_after d rest b k q (child_stands a d c h.0) h.1 lk lq f r
  ]

  pub comes_before : (steps : List Branch) (b : Branch) (k q : ℕ) → IsCursor s (steps ++ b ∷ []) → k < 2 ^ 64 → q < 2 ^ 64
      → fits (heap_of s b.node).prefix (key_bytes k) ≡ true → IsAhead s steps (key_bytes q) → k < q
  comes_before [] b k q h lk lq f ahead = absurd ahead
  comes_before (a ∷ rest) b k q h lk lq f ahead = on_after a rest b k q (root_stands a h.0) h.1 lk lq f ahead

  -- bytes that have nothing are passed
  moved_on : (n from to q : ℕ) → ContainsKey s n → ((b : ℕ) → from ≤ b → b < to → (heap_of s n).children b ≡ Nothing)
      → IsSome (map.get (pairs_of s) q) → HasAhead s (branch_at n from) (key_bytes q) → HasAhead s (branch_at n to) (key_bytes q)
  moved_on n from to q c free h v = elim (cases_lt (get_or (key_bytes q) (length (heap_of s n).prefix) 0) to) [
    | inl l ↦ absurd (finds_child q n h c v.fitted (free _ v.past l))
    | inr g ↦ record { fitted = v.fitted; past = g }
  ]

  -- a node that has nothing left
  pub popped : (before steps : List Branch) (n from : ℕ) → IsCursor s (steps ++ branch_at n from ∷ []) → ((b : ℕ) → from ≤ b → (heap_of s n).children b ≡ Nothing)
      → SameAhead s before (steps ++ branch_at n from ∷ []) → SameAhead s before steps
  popped before steps n from h free e =
      let last = last_of steps (branch_at n from) h in
      record {
        same = λ q has. (
          λ a. elim (ahead_split s steps (branch_at n from) (key_bytes q) ((e.same q has).0 a)) [
            | inl r ↦ r
            | inr v ↦ absurd (finds_child q n has last.stands v.fitted (free _ v.past))
          ],
          λ a. (e.same q has).1 (ahead_left s steps (branch_at n from) (key_bytes q) a),
        );
      }

  -- a node that leads to one below
  pub entered : (before steps : List Branch) (n from byte below : ℕ) → IsCursor s (steps ++ branch_at n from ∷ []) → from ≤ byte
      → ((b : ℕ) → from ≤ b → b < byte → (heap_of s n).children b ≡ Nothing) → (heap_of s n).children byte ≡ Below below
      → SameAhead s before (steps ++ branch_at n from ∷ []) → SameAhead s before ((steps ++ branch_at n (byte + 1) ∷ []) ++ branch_at below 0 ∷ [])
  entered before steps n from byte below h lo free e same =
      let last = last_of steps (branch_at n from) h in
      record {
        same = λ q has. (
          λ a. elim (ahead_split s steps (branch_at n from) (key_bytes q) ((same.same q has).0 a)) [
            | inl r ↦ ahead_left s (steps ++ branch_at n (byte + 1) ∷ []) (branch_at below 0) (key_bytes q) (ahead_left s steps (branch_at n (byte + 1)) (key_bytes q) r)
            | inr v ↦ (let w = moved_on n from byte q last.stands free has v in
                elim (cases_lt byte (get_or (key_bytes q) (length (heap_of s n).prefix) 0)) [
                  | inl l ↦ ahead_left s (steps ++ branch_at n (byte + 1) ∷ []) (branch_at below 0) (key_bytes q)
                      (ahead_right s steps (branch_at n (byte + 1)) (key_bytes q) (record { fitted = v.fitted; past = omega (arith, l) }))
                  | inr g ↦ (let here : byte ≡ get_or (key_bytes q) (length (heap_of s n).prefix) 0 = omega (arith, g, w.past) in
                      let child : child_for (heap_of s n) (key_bytes q) ≡ Below below = subst (λ b. (heap_of s n).children b ≡ Below below) here e in
                      ahead_right s (steps ++ branch_at n (byte + 1) ∷ []) (branch_at below 0) (key_bytes q)
                      (record { fitted = fits_child q n below has last.stands v.fitted child; past = omega arith }))
                ])
          ],
          λ a. (same.same q has).1 (elim (ahead_split s (steps ++ branch_at n (byte + 1) ∷ []) (branch_at below 0) (key_bytes q) a) [
            | inl r ↦ elim (ahead_split s steps (branch_at n (byte + 1)) (key_bytes q) r) [
              | inl x ↦ ahead_left s steps (branch_at n from) (key_bytes q) x
              | inr v ↦ ahead_right s steps (branch_at n from) (key_bytes q) (record { fitted = v.fitted; past = omega (arith, lo, v.past) })
            ]
            | inr v ↦ (let i = t.tree.down n byte below (linked_of s t.parent n last.stands) e in
                let here : get_or (key_bytes q) (length (heap_of s n).prefix) 0 ≡ byte = fits_byte (heap_of s below).prefix (key_bytes q) (length (heap_of s n).prefix) v.fitted i.longer ∙ i.byte in
                ahead_right s steps (branch_at n from) (key_bytes q) (record {
                  fitted = fits_trans (heap_of s n).prefix (heap_of s below).prefix (key_bytes q) i.fitted v.fitted;
                  past = omega (arith, here, lo);
                }))
          ]),
        );
      }

  -- a leaf has one key for a byte
  pub one_key : (n byte k q : ℕ) (x : P) → ContainsKey s n → k < 2 ^ 64 → q < 2 ^ 64 → (heap_of s n).children byte ≡ Holds x
      → fits (heap_of s n).prefix (key_bytes k) ≡ true → fits (heap_of s n).prefix (key_bytes q) ≡ true
      → get_or (key_bytes k) (length (heap_of s n).prefix) 0 ≡ get_or (key_bytes q) (length (heap_of s n).prefix) 0 → q ≡ k
  one_key n byte k q x c lk lq e f g same =
      let seven = t.tree.leaves n byte x (linked_of s t.parent n c) e in
      let bytes : key_bytes q ≡ key_bytes k = same_key (heap_of s n).prefix (key_bytes q) (key_bytes k) g f (omega (arith, seven, key_length q)) (omega (arith, seven, key_length k)) (sym same) in
      sym (from_be_bytes-to_be_bytes_8 q lq) ∙ (ap (from_be_bytes w64) bytes ∙ from_be_bytes-to_be_bytes_8 k lk)

  -- a value: its pair is the first of those ahead, and the others come after it
  pub found : (before steps : List Branch) (n from byte k from' : ℕ) (x : P) → IsCursor s (steps ++ branch_at n from ∷ []) → from ≤ byte → k < 2 ^ 64
      → ((b : ℕ) → from ≤ b → b < byte → (heap_of s n).children b ≡ Nothing) → (heap_of s n).children byte ≡ Holds x
      → fits (heap_of s n).prefix (key_bytes k) ≡ true → get_or (key_bytes k) (length (heap_of s n).prefix) 0 ≡ byte
      → SameAhead s before (steps ++ branch_at n from ∷ []) → IsAt s before from'
      → IsLeastPair (pairs_of s) from' k x × IsAt s (steps ++ branch_at n (byte + 1) ∷ []) (k + 1)
  found before steps n from byte k from' x h lo lk free e f eb same at =
      let child : child_for (heap_of s n) (key_bytes k) ≡ Holds x = subst (λ b. (heap_of s n).children b ≡ Holds x) (sym eb) e in
      let here : map.get (pairs_of s) k ≡ Some x = (pairs_stand s).at k lk ∙ at_held s (key_bytes k) n x t (record { stands = last.stands; fitted = f }) child in
      let has : IsSome (map.get (pairs_of s) k) = ap (λ o. is_some o) here in
      let from_k : from' ≤ k = (at.ahead k has).1 ((same.same k has).1 (ahead_right s steps (branch_at n from) (key_bytes k) (record { fitted = f; past = omega (arith, lo, eb) }))) in
      record {
        0 = record {
          past = from_k;
          here = here;
          before = λ q a b. none_of (map.get (pairs_of s) q) (λ hq.
              absurd (elim (next q hq ((same.same q hq).0 ((at.ahead q hq).0 a))) [ inl z ↦ omega (arith, z, b) | inr z ↦ omega (arith, z.0, b) ]));
        };
        1 = record {
          ahead = λ q hq. (
            λ a. elim (next q hq ((same.same q hq).0 ((at.ahead q hq).0 (omega (arith, a, from_k))))) [ inl z ↦ absurd (omega (arith, z, a)) | inr z ↦ z.1 ],
            λ a. elim (ahead_split s steps (branch_at n (byte + 1)) (key_bytes q) a) [
              | inl r ↦ (let l = comes_before steps (branch_at n from) k q h lk (small q hq) f r in omega (arith, l))
              | inr v ↦ (let l = less_at n k q last.stands lk (small q hq) f v.fitted (omega (arith, v.past, eb)) in omega (arith, l))
            ],
          );
        };
      }
    where
      last : EndsWay s (length steps) (branch_at n from)
      last = last_of steps (branch_at n from) h

      next : (q : ℕ) → IsSome (map.get (pairs_of s) q) → IsAhead s (steps ++ branch_at n from ∷ []) (key_bytes q) → (q ≡ k) ⊎ ((k < q) × IsAhead s (steps ++ branch_at n (byte + 1) ∷ []) (key_bytes q))
      next q hq a = elim (ahead_split s steps (branch_at n from) (key_bytes q) a) [
        | inl r ↦ inr (comes_before steps (branch_at n from) k q h lk (small q hq) f r, ahead_left s steps (branch_at n (byte + 1)) (key_bytes q) r)
        | inr v ↦ (let w = moved_on n from byte q last.stands free hq v in
            elim (cases_lt byte (get_or (key_bytes q) (length (heap_of s n).prefix) 0)) [
              | inl l ↦ inr (
                less_at n k q last.stands lk (small q hq) f v.fitted (omega (arith, l, eb)),
                ahead_right s steps (branch_at n (byte + 1)) (key_bytes q) (record { fitted = v.fitted; past = omega (arith, l) }),
              )
              | inr g ↦ inl (one_key n byte k q x last.stands lk (small q hq) e f v.fitted (omega (arith, eb, g, w.past)))
            ])
      ]

  -- a leaf with one value, which the cursor passes without going into it: so it is with its pair
  pub found_inline : (before steps : List Branch) (n from byte below k from' : ℕ) (x : P) → IsCursor s (steps ++ branch_at n from ∷ []) → from ≤ byte → byte + 1 ≤ 256 → k < 2 ^ 64
      → ((b : ℕ) → from ≤ b → b < byte → (heap_of s n).children b ≡ Nothing) → (heap_of s n).children byte ≡ Below below → StandsWith s below k x
      → SameAhead s before (steps ++ branch_at n from ∷ []) → IsAt s before from'
      → IsLeastPair (pairs_of s) from' k x × IsAt s (steps ++ branch_at n (byte + 1) ∷ []) (k + 1)
  found_inline before steps n from byte below k from' x h lo hi lk free e l same at =
      let passed : List Branch = steps ++ branch_at n (byte + 1) ∷ [] in
      let leaf : Leaf (heap_of s) below (key_bytes k) x = leaf_of s (key_bytes k) below l.leaf x (key_length k) l.is l.has in
      let last : ℕ = get_or (key_bytes k) (length (heap_of s below).prefix) 0 in
      let small : last < 256 = byte_small k (length (heap_of s below).prefix) (omega (arith, leaf.seven)) in
      let down : IsCursor s (passed ++ branch_at below 0 ∷ []) = cursor_down s steps n from byte below hi e h in
      let ahead = entered before steps n from byte below h lo free e same in
      let both = found before passed below 0 last k from' x down (omega arith) lk (λ b a z. leaf.empty b (λ q. absurd (omega (arith, q, z)))) leaf.value leaf.fitted refl ahead at in
      let beyond : IsCursor s (passed ++ branch_at below (last + 1) ∷ []) = cursor_moved s passed below 0 (last + 1) (omega (arith, small)) down in
      let gone = popped (passed ++ branch_at below (last + 1) ∷ []) passed below (last + 1) beyond (λ b a. leaf.empty b (λ q. absurd (omega (arith, q, a)))) (record { same = λ q has. (λ a. a, λ a. a) }) in
      (both.0, record { ahead = λ q has. (λ a. (gone.same q has).0 ((both.1.ahead q has).0 a), λ a. (both.1.ahead q has).1 ((gone.same q has).1 a)) })

  -- nothing is left
  pub none_ahead : (before : List Branch) (from : ℕ) → SameAhead s before [] → IsAt s before from → (q : ℕ) → from ≤ q → map.get (pairs_of s) q ≡ None
  none_ahead before from e at q l = none_of (map.get (pairs_of s) q) (λ h. (e.same q h).0 ((at.ahead q h).0 l))

  -- before every pair
  pub first_cursor : (steps : List Branch) → steps ≡ branch_at 0 0 ∷ [] → IsCursor s steps × IsAt s steps 0
  first_cursor steps e = subst (λ xs. IsCursor s xs × IsAt s xs 0) (sym e) (
    (refl, omega arith),
    record { ahead = λ q h. (λ l. inl (record { fitted = rw t.tree.empty refl; past = omega arith }), λ a. omega arith) },
  )

  -- keys with one byte there go to one child
  same_child : (at key q : ℕ) (x : Hung P) → get_or (key_bytes key) (length (heap_of s at).prefix) 0 ≡ get_or (key_bytes q) (length (heap_of s at).prefix) 0
      → child_for (heap_of s at) (key_bytes key) ≡ x → child_for (heap_of s at) (key_bytes q) ≡ x
  same_child at key q x e c = subst (λ b. (heap_of s at).children b ≡ x) e c

  -- the way down to a key
  pub sets_out : (steps : List Branch) (key : ℕ) → steps ≡ [] → Descends s steps 0 key
  sets_out steps key e = subst (λ xs. Descends s xs 0 key) (sym e) (record {
    opens = (refl, omega arith);
    way = (root_reached s (key_bytes key) t).way;
    after = λ q h a. absurd a;
    rest = λ q h l. inr (rw t.tree.empty refl);
  })

  -- a key's way that leads on to a node with a prefix of the key has come down to it
  pub goes_down : (steps : List Branch) (at below key from : ℕ) → key < 2 ^ 64 → Descends s steps at key → from ≡ get_or (key_bytes key) (length (heap_of s at).prefix) 0 + 1 → from ≤ 256
      → child_for (heap_of s at) (key_bytes key) ≡ Below below → fits (heap_of s below).prefix (key_bytes key) ≡ true → Descends s (steps ++ branch_at at from ∷ []) below key
  goes_down steps at below key from lk d ef b e f =
      let l : HangsBelow s (branch_at at from) (branch_at below 0) = record { byte = get_or (key_bytes key) (length (heap_of s at).prefix) 0; passed = omega (arith, ef); bound = b; hangs = e } in
      record {
        opens = cursor_longer s steps (branch_at at from) (branch_at below 0) l (omega arith) (cursor_moved s steps at 0 from b d.opens);
        way = record { stands = below_stands s t at below (key_bytes key) d.way.stands e; fitted = f };
        after = λ q h a. elim (ahead_split s steps (branch_at at from) (key_bytes q) a) [
          | inl r ↦ d.after q h r
          | inr v ↦ less_at at key q d.way.stands lk (small q h) d.way.fitted v.fitted (omega (arith, ef, v.past))
        ];
        rest = λ q h lo. elim (d.rest q h lo) [
          | inl r ↦ inl (ahead_left s steps (branch_at at from) (key_bytes q) r)
          | inr g ↦ (let up = byte_from at key q d.way.stands lo (small q h) d.way.fitted g in
              elim (cases_lt (get_or (key_bytes key) (length (heap_of s at).prefix) 0) (get_or (key_bytes q) (length (heap_of s at).prefix) 0)) [
                | inl lt ↦ inl (ahead_right s steps (branch_at at from) (key_bytes q) (record { fitted = g; past = omega (arith, lt, ef) }))
                | inr ge ↦ inr (fits_child q at below h d.way.stands g (same_child at key q (Below below) (omega (arith, up, ge)) e))
              ])
        ];
      }

  -- it ends at a byte: the pairs under it and those after it are the pairs from the key on
  ends_at : (steps : List Branch) (at key from : ℕ) → Descends s steps at key → from ≤ 256
      → ((q : ℕ) → IsSome (map.get (pairs_of s) q) → HasAhead s (branch_at at from) (key_bytes q) → key ≤ q)
      → ((q : ℕ) → IsSome (map.get (pairs_of s) q) → key ≤ q → fits (heap_of s at).prefix (key_bytes q) ≡ true → from ≤ get_or (key_bytes q) (length (heap_of s at).prefix) 0)
      → IsCursor s (steps ++ branch_at at from ∷ []) × IsAt s (steps ++ branch_at at from ∷ []) key
  ends_at steps at key from d b after rest = (
    cursor_moved s steps at 0 from b d.opens,
    record {
      ahead = λ q h. (
        λ l. elim (d.rest q h l) [
          | inl r ↦ ahead_left s steps (branch_at at from) (key_bytes q) r
          | inr f ↦ ahead_right s steps (branch_at at from) (key_bytes q) (record { fitted = f; past = rest q h l f })
        ],
        λ a. elim (ahead_split s steps (branch_at at from) (key_bytes q) a) [
          | inl r ↦ (let l = d.after q h r in omega (arith, l))
          | inr v ↦ after q h v
        ],
      );
    },
  )

  -- under the key's own byte, where its pair is the only one there that can come before others from the key on
  ends_here : (steps : List Branch) (at key from : ℕ) → key < 2 ^ 64 → Descends s steps at key → from ≡ get_or (key_bytes key) (length (heap_of s at).prefix) 0 → from ≤ 256
      → ((q : ℕ) → IsSome (map.get (pairs_of s) q) → fits (heap_of s at).prefix (key_bytes q) ≡ true
      → get_or (key_bytes key) (length (heap_of s at).prefix) 0 ≡ get_or (key_bytes q) (length (heap_of s at).prefix) 0 → key ≤ q)
      → IsCursor s (steps ++ branch_at at from ∷ []) × IsAt s (steps ++ branch_at at from ∷ []) key
  ends_here steps at key from lk d ef b here = ends_at steps at key from d b
      (λ q h v. elim (cases_lt (get_or (key_bytes key) (length (heap_of s at).prefix) 0) (get_or (key_bytes q) (length (heap_of s at).prefix) 0)) [
        | inl lt ↦ (let l = less_at at key q d.way.stands lk (small q h) d.way.fitted v.fitted lt in omega (arith, l))
        | inr ge ↦ here q h v.fitted (omega (arith, ge, v.past, ef))
      ])
      (λ q h l f. let up = byte_from at key q d.way.stands l (small q h) d.way.fitted f in omega (arith, up, ef))

  -- where nothing hangs at the key's byte, the pairs from the key on are those ahead of a step there
  pub ends_free : (steps : List Branch) (at key from : ℕ) → key < 2 ^ 64 → Descends s steps at key → from ≡ get_or (key_bytes key) (length (heap_of s at).prefix) 0 → from ≤ 256
      → child_for (heap_of s at) (key_bytes key) ≡ Nothing → IsCursor s (steps ++ branch_at at from ∷ []) × IsAt s (steps ++ branch_at at from ∷ []) key
  ends_free steps at key from lk d ef b e = ends_here steps at key from lk d ef b (λ q h f same. absurd (finds_child q at h d.way.stands f (same_child at key q Nothing same e)))

  -- where the key's value hangs, the pairs from the key on are those ahead of a step there
  pub ends_held : (steps : List Branch) (at key from : ℕ) (x : P) → key < 2 ^ 64 → Descends s steps at key → from ≡ get_or (key_bytes key) (length (heap_of s at).prefix) 0 → from ≤ 256
      → child_for (heap_of s at) (key_bytes key) ≡ Holds x → IsCursor s (steps ++ branch_at at from ∷ []) × IsAt s (steps ++ branch_at at from ∷ []) key
  ends_held steps at key from x lk d ef b e = ends_here steps at key from lk d ef b
      (λ q h f same. let z = one_key at _ key q x d.way.stands lk (small q h) e d.way.fitted f same in omega (arith, z))

  -- the key comes before the prefix below
  pub ends_before : (steps : List Branch) (at below key from common : ℕ) → key < 2 ^ 64 → Descends s steps at key → from ≡ get_or (key_bytes key) (length (heap_of s at).prefix) 0 → from ≤ 256
      → child_for (heap_of s at) (key_bytes key) ≡ Below below → DiffersAt (key_bytes key) (heap_of s below).prefix common
      → get_or (key_bytes key) common 0 ≤ get_or (heap_of s below).prefix common 0 → IsCursor s (steps ++ branch_at at from ∷ []) × IsAt s (steps ++ branch_at at from ∷ []) key
  ends_before steps at below key from common lk d ef b e parts le = ends_here steps at key from lk d ef b (λ q h f same.
      let g = fits_child q at below h d.way.stands f (same_child at key q (Below below) same e) in
      let short = short_prefix s t below (below_stands s t at below (key_bytes key) d.way.stands e) in
      let there = fits_byte (heap_of s below).prefix (key_bytes q) common g parts.within in
      let l = less_at_first_byte key q common lk (small q h) (omega (arith, short, parts.within))
      (λ j lt. parts.same j lt ∙ sym (fits_byte (heap_of s below).prefix (key_bytes q) j g (omega (arith, lt, parts.within)))) (omega (arith, le, parts.apart, there)) in
      omega (arith, l))

  -- or after it
  pub ends_after : (steps : List Branch) (at below key from common : ℕ) → key < 2 ^ 64 → Descends s steps at key → from ≡ get_or (key_bytes key) (length (heap_of s at).prefix) 0 + 1 → from ≤ 256
      → child_for (heap_of s at) (key_bytes key) ≡ Below below → DiffersAt (key_bytes key) (heap_of s below).prefix common
      → get_or (heap_of s below).prefix common 0 < get_or (key_bytes key) common 0 → IsCursor s (steps ++ branch_at at from ∷ []) × IsAt s (steps ++ branch_at at from ∷ []) key
  ends_after steps at below key from common lk d ef b e parts lt = ends_at steps at key from d b
      (λ q h v. let l = less_at at key q d.way.stands lk (small q h) d.way.fitted v.fitted (omega (arith, ef, v.past)) in omega (arith, l))
      (λ q h l f. let up = byte_from at key q d.way.stands l (small q h) d.way.fitted f in
      elim (cases_lt (get_or (key_bytes key) (length (heap_of s at).prefix) 0) (get_or (key_bytes q) (length (heap_of s at).prefix) 0)) [
        | inl over ↦ omega (arith, over, ef)
        | inr ge ↦ (
            let g = fits_child q at below h d.way.stands f (same_child at key q (Below below) (omega (arith, up, ge)) e) in
            let short = short_prefix s t below (below_stands s t at below (key_bytes key) d.way.stands e) in
            let there = fits_byte (heap_of s below).prefix (key_bytes q) common g parts.within in
            let n = less_at_first_byte q key common (small q h) lk (omega (arith, short, parts.within))
            (λ j lt. fits_byte (heap_of s below).prefix (key_bytes q) j g (omega (arith, lt, parts.within)) ∙ sym (parts.same j lt)) (omega (arith, lt, there)) in
            absurd (omega (arith, n, l)))
      ])

-- the byte of a key at a node
pub record IsByte {P : Type 0} (s : Nodes P) (at key b : ℕ) : Type 0 where
  pub byte : b ≡ get_or (key_bytes key) (length (heap_of s at).prefix) 0
  pub low : b < 256

-- the byte at a node, and what hangs there, as they are read with the key's bytes and the length of the node's prefix
module _ {P : Type 0} (s : Nodes P) (at key : ℕ) (ks : List ℕ) (bytes : ks ≡ key_bytes key) where
  -- the byte that is read at the length of a node's prefix is the key's byte there
  pub byte_read : IsTree s → ContainsKey s at → (len : ℕ) → len ≡ length (heap_of s at).prefix → IsByte s at key (get_or ks len 0)
  byte_read t stands len count =
      let byte : get_or ks len 0 ≡ get_or (key_bytes key) (length (heap_of s at).prefix) 0 =
      ap (λ y. get_or y len 0) bytes ∙ ap (λ k. get_or (key_bytes key) k 0) count in
      record { byte = byte; low = omega (arith, byte, byte_small key (length (heap_of s at).prefix) (omega (arith, short_prefix s t at stands))) }

  -- what hangs for the bytes that were read hangs for the key
  pub child_read : (x : Hung P) → child_for (heap_of s at) ks ≡ x → child_for (heap_of s at) (key_bytes key) ≡ x
  child_read x h = subst (λ y. child_for (heap_of s at) y ≡ x) bytes h

-- the cursor's steps are those that lead before the key
pub pushed : {P : Type 0} (s : Nodes P) (key : ℕ) (ys zs : List Branch) → ys ≡ zs → IsCursor s zs × IsAt s zs key → IsCursor s ys × IsAt s ys key
pushed s key ys zs e both = (subst (IsCursor s) (sym e) both.0, subst (λ steps. IsAt s steps key) (sym e) both.1)
