-- The nodes of a tree stay filled: what changes of single nodes leave.
use Rattle.std.proofs.Common.{◌≡◌, ◌≢◌, ℕ, suc, ◌<◌, ◌≤◌, ◌+◌, ◌⊎◌, inl, inr, Bool, true, false, List, [], ◌∷◌, length, get_or, refl, sym, ◌∙◌, ap, subst, arith}
use Rattle.congee.specs.declared.forms.base_node.NodeType.{NodeType}
use Rattle.congee.specs.declared.forms.base_node.NodeType.TheVariants.{N4, N16, N48, N256}
use Rattle.congee.specs.Heap.{Node, Hung, Nothing, Below, Holds}
use Rattle.congee.specs.Notes.{Note, Linked, IsChild, Tree}
use Rattle.congee.specs.protocol.Events.{places, weight, kept, ChangeGives, TakeOverGives}
use Rattle.congee.specs.protocol.Handing.{Leads}
use Rattle.congee.specs.protocol.Filled.{least_in, places_in, FilledAs, IsFilled, AllFilledBy}
use Rattle.congee.proofs.lemmas.Tree.{same_or_not}
use Rattle.congee.proofs.lemmas.protocol.Unlinking.{linked_in}

-- forms by their places
least_same : (x y : NodeType) → places x ≡ places y → least_in x ≡ least_in y
least_same N4 N4 e = refl
least_same N4 N16 e = absurd (omega (arith, e))
least_same N4 N48 e = absurd (omega (arith, e))
least_same N4 N256 e = absurd (omega (arith, e))
least_same N16 N4 e = absurd (omega (arith, e))
least_same N16 N16 e = refl
least_same N16 N48 e = absurd (omega (arith, e))
least_same N16 N256 e = absurd (omega (arith, e))
least_same N48 N4 e = absurd (omega (arith, e))
least_same N48 N16 e = absurd (omega (arith, e))
least_same N48 N48 e = refl
least_same N48 N256 e = absurd (omega (arith, e))
least_same N256 N4 e = absurd (omega (arith, e))
least_same N256 N16 e = absurd (omega (arith, e))
least_same N256 N48 e = absurd (omega (arith, e))
least_same N256 N256 e = refl

-- no form has no places
no_places : (x : NodeType) → places x ≡ 0 → ⊥
no_places N4 e = omega (arith, e)
no_places N16 e = omega (arith, e)
no_places N48 e = omega (arith, e)
no_places N256 e = omega (arith, e)

-- so many children are enough for the form that has these places
enough_for : (form : NodeType) (count capacity : ℕ) → capacity ≡ places form → least_in form ≤ count → (x : NodeType) → places x ≡ capacity → least_in x ≤ count
enough_for form count capacity e l x f = omega (arith, least_same x form (f ∙ e), l)

-- they are where that is asked
pub enough : (by_form : Bool) (form : NodeType) (count capacity : ℕ) → capacity ≡ places form → (by_form ≡ true → least_in form ≤ count) → (x : NodeType) → places x ≡ places_in by_form capacity → least_in x ≤ count
enough true form count capacity e l x f = enough_for form count capacity e (l refl) x f
enough false form count capacity e l x f = absurd (no_places x f)

-- a filled node has as many as its form asks for
pub least_of : (by_form : Bool) (size count capacity : ℕ) (form : NodeType) → FilledAs size count (places_in by_form capacity) → places form ≡ capacity → by_form ≡ true → least_in form ≤ count
least_of true size count capacity form x e asked = x.least form e
least_of false size count capacity form x e asked = absurd (cc asked)

-- a node with four places is filled by one child, or by two where it holds nodes
pub filled_small : (by_form : Bool) (size count capacity : ℕ) → capacity ≡ 4 → 1 ≤ count → (size < 7 → 2 ≤ count) → FilledAs size count (places_in by_form capacity)
filled_small by_form size count capacity e one two = record { some = one; branches = two; least = enough by_form N4 count capacity e (λ _. omega arith) }

-- a node is filled where one with the same prefix's length, children and places is
pub filled_same : (by_form : Bool) (s c k s' c' k' : ℕ) → s' ≡ s → c' ≡ c → k' ≡ k → FilledAs s c (places_in by_form k) → FilledAs s' c' (places_in by_form k')
filled_same by_form s c k s' c' k' es ec ek x = record {
  some = omega (arith, ec, x.some);
  branches = λ l. omega (arith, ec, x.branches (omega (arith, es, l)));
  least = λ form e. omega (arith, ec, x.least form (e ∙ ap (λ z. places_in by_form z) ek));
}

-- a filled node is so with more children
pub filled_more : (by_form : Bool) (s c k c' : ℕ) → c ≤ c' → FilledAs s c (places_in by_form k) → FilledAs s c' (places_in by_form k)
filled_more by_form s c k c' l x = record {
  some = omega (arith, l, x.some);
  branches = λ m. omega (arith, l, x.branches m);
  least = λ form e. omega (arith, l, x.least form e);
}

-- a node with prefix, children and places as they were
pub record Alike {V : Type 0} (n n' : Node V) : Type 0 where
  pub prefix : n'.prefix ≡ n.prefix
  pub children : (b : ℕ) → n'.children b ≡ n.children b
  pub count : n'.count ≡ n.count
  pub capacity : n'.capacity ≡ n.capacity

-- a node that is as it was has prefix, children and places as they were
pub alike_same : {V : Type 0} (n n' : Node V) → n' ≡ n → Alike n n'
alike_same n n' e = record { prefix = ap (λ x. x.prefix) e; children = λ b. ap (λ x. x.children b) e; count = ap (λ x. x.count) e; capacity = ap (λ x. x.capacity) e }

-- a filled node stays so with prefix, children and places as they were
pub filled_alike : {V : Type 0} (by_form : Bool) (n n' : Node V) → Alike n n' → IsFilled by_form n → IsFilled by_form n'
filled_alike by_form n n' s x = filled_same by_form (length n.prefix) n.count n.capacity (length n'.prefix) n'.count n'.capacity (ap length s.prefix) s.count s.capacity x

-- what paths lead to has what is true of each node's children
reaches : {V : Type 0} (h : ℕ → Node V) (P : ℕ → Type 0) → ((n b d : ℕ) → P n → (h n).children b ≡ Below d → P d) → (path : List ℕ) (n c : ℕ) → P n → Leads h n path c → P c
reaches h P step [] n c p e = subst P e p
reaches h P step (b ∷ path) n c p l = reaches h P step path l.0 c (step n b l.0 p l.1) l.2

-- one node hangs in one place
pub below_is : {V : Type 0} (x : Hung V) (c d : ℕ) → x ≡ Below c → x ≡ Below d → d ≡ c
below_is x c d e f = let z : Below c ≡ Below d = sym e ∙ f in cc

-- where a value hangs no node does
pub not_held : {V : Type 0} (v : V) (d : ℕ) → Holds v ≡ Below d → ⊥
not_held v d e = absurd cc

-- where nothing hangs no node does
pub not_nothing : {V : Type 0} (x : Hung V) (d : ℕ) → x ≡ Nothing → x ≡ Below d → ⊥
not_nothing x d e f = let z : Nothing ≡ Below d = sym e ∙ f in absurd cc

kept_below : {V : Type 0} (x : Hung V) (d : ℕ) → kept x ≡ Below d → x ≡ Below d
kept_below Nothing d e = absurd cc
kept_below (Below c) d e = e
kept_below (Holds v) d e = absurd cc

-- where a child comes from: it hung there, and not at the byte that was changed, or it was put there
pub changed_child : {V : Type 0} (h : ℕ → Node V) (n b : ℕ) (x : Hung V) (h' : ℕ → Node V) → ChangeGives h n b x h' → (m c d : ℕ) → (h' m).children c ≡ Below d
    → (((h m).children c ≡ Below d) × (m ≡ n → c ≢ b)) ⊎ ((m ≡ n) × (x ≡ Below d))
changed_child h n b x h' k m c d e = elim (same_or_not m n) [
  | inl mn ↦ elim (same_or_not c b) [
    | inl cb ↦ inr (mn, (let P : ℕ → ℕ → Type 0 = λ y z. (h' y).children z ≡ Below d in let Q : ℕ → Type 0 = λ z. P n z in sym k.child ∙ subst Q cb (let R : ℕ → Type 0 = λ y. P y c in subst R mn e)))
    | inr cb ↦ inl ((let R : ℕ → Type 0 = λ y. (h y).children c ≡ Below d in let S : ℕ → Type 0 = λ y. (h' y).children c ≡ Below d in subst R (sym mn) (sym (k.beside c cb) ∙ subst S mn e)), (λ _. cb))
  ]
  | inr mn ↦ inl (ap (λ y. y.children c) (sym (k.others m mn)) ∙ e, (λ q. absurd (mn q)))
]

-- as node c takes over children from m, a node hangs where it hung, or in c at the byte where it hung in m
pub taken_child : {V : Type 0} (h : ℕ → Node V) (m c : ℕ) (h' : ℕ → Node V) → TakeOverGives h m c h' → (x b d : ℕ) → (h' x).children b ≡ Below d
    → ((h x).children b ≡ Below d) ⊎ ((x ≡ c) × ((h m).children b ≡ Below d))
taken_child h m c h' k x b d e = elim (same_or_not x c) [
  | inl xc ↦ inr (xc, (let S : ℕ → Type 0 = λ y. (h' y).children b ≡ Below d in sym (k.children b) ∙ subst S xc e))
  | inr xc ↦ elim (same_or_not x m) [
    | inl xm ↦ inl (let R : ℕ → Type 0 = λ y. (h y).children b ≡ Below d in let S : ℕ → Type 0 = λ y. (h' y).children b ≡ Below d in subst R (sym xm) (kept_below ((h m).children b) d (sym (k.left b) ∙ subst S xm e)))
    | inr xm ↦ inl (ap (λ y. y.children b) (sym (k.others x xc xm)) ∙ e)
  ]
]

-- a replaced child leaves as many, one that is taken out one fewer, one that is put in no fewer
pub count_kept : {V : Type 0} (h : ℕ → Node V) (n b c d : ℕ) (h' : ℕ → Node V) → ChangeGives h n b (Below c) h' → (h n).children b ≡ Below d → (h' n).count ≡ (h n).count
count_kept h n b c d h' k e = let w : weight ((h n).children b) ≡ 1 = ap weight e in let z : (h' n).count + weight ((h n).children b) ≡ (h n).count + 1 = k.count in omega (arith, w, z)

-- a node from which a child is taken out has one child fewer
pub count_less : {V : Type 0} (h : ℕ → Node V) (n b : ℕ) (h' : ℕ → Node V) → ChangeGives h n b Nothing h' → weight ((h n).children b) ≡ 1 → suc (h' n).count ≡ (h n).count
count_less h n b h' k w = let z : (h' n).count + weight ((h n).children b) ≡ (h n).count + 0 = k.count in omega (arith, w, z)

weight_most : {V : Type 0} (x : Hung V) → weight x ≤ 1
weight_most Nothing = omega arith
weight_most (Below c) = omega arith
weight_most (Holds v) = omega arith

-- whatever hangs in a place counts one
pub weight_there : {V : Type 0} (x : Hung V) → x ≢ Nothing → weight x ≡ 1
weight_there Nothing ne = absurd (ne refl)
weight_there (Below c) ne = refl
weight_there (Holds v) ne = refl

-- a node into which a child is put has no fewer children
pub count_more : {V : Type 0} (h : ℕ → Node V) (n b : ℕ) (x : Hung V) (h' : ℕ → Node V) → ChangeGives h n b x h' → weight x ≡ 1 → (h n).count ≤ (h' n).count
count_more h n b x h' k w = omega (arith, w, k.count, weight_most ((h n).children b))

-- a node into which a child is put where nothing hung has one child more
pub count_new : {V : Type 0} (h : ℕ → Node V) (n b : ℕ) (x : Hung V) (h' : ℕ → Node V) → ChangeGives h n b x h' → weight x ≡ 1 → (h n).children b ≡ Nothing → (h' n).count ≡ suc (h n).count
count_new h n b x h' k w e = let y : weight ((h n).children b) ≡ 0 = ap weight e in omega (arith, w, y, k.count)

-- what was in the tree is as it was
abbrev pub Still : {V : Type 0} → (ℕ → Note) → (ℕ → Node V) → (ℕ → Node V) → Type 0
Still a h h' = (n : ℕ) → (a n).status ≡ Linked → Alike (h n) (h' n)

module _ {V : Type 0} (by_form : Bool) (a : ℕ → Note) (h : ℕ → Node V) (t : Tree a h) (f : AllFilledBy by_form h) where
  -- where what was in the tree is as it was, all nodes are filled
  pub still_filled : (h' : ℕ → Node V) → Still a h h' → AllFilledBy by_form h'
  still_filled h' s n ne r =
      let l : (a n).status ≡ Linked = reaches h' (λ m. (a m).status ≡ Linked) (λ m b d u e. (t.down m b d u (sym ((s m u).children b) ∙ e)).linked) r.0 0 n t.root r.1 in
      filled_alike by_form (h n) (h' n) (s n l) (f n ne (linked_in a h n t l))

  -- a node of the tree but the root is filled
  pub was_filled : (n : ℕ) → (a n).status ≡ Linked → n ≢ 0 → IsFilled by_form (h n)
  was_filled n l ne = f n ne (linked_in a h n t l)

  -- a node of the tree, or nothing, or a value comes to a byte of node n
  pub set_filled : (n b : ℕ) (x : Hung V) (h' : ℕ → Node V) → ((d : ℕ) → x ≡ Below d → (a d).status ≡ Linked) → ChangeGives h n b x h' → (n ≢ 0 → (a n).status ≡ Linked → IsFilled by_form (h' n)) → AllFilledBy by_form h'
  set_filled n b x h' hangs k here m ne r =
      let l : (a m).status ≡ Linked = reaches h' (λ y. (a y).status ≡ Linked) (λ y c d u e. elim (changed_child h n b x h' k y c d e) [
        | inl z ↦ (t.down y c d u z.0).linked
        | inr z ↦ hangs d z.1
      ]) r.0 0 m t.root r.1 in
      elim (same_or_not m n) [
        | inl e ↦ (let P : ℕ → Type 0 = λ y. IsFilled by_form (h' y) in let Q : ℕ → Type 0 = λ y. (a y).status ≡ Linked in subst P (sym e) (here (λ z. ne (e ∙ z)) (subst Q e l)))
        | inr mn ↦ filled_alike by_form (h m) (h' m) (alike_same (h m) (h' m) (k.others m mn)) (was_filled m l ne)
      ]

  -- nodes c and e come into the tree, where nothing or a node of the tree hung
  module _ (c e : ℕ) (h' : ℕ → Node V) (comes : (x b d : ℕ) → (h' x).children b ≡ Below d → ((h x).children b ≡ Below d) ⊎ (((a d).status ≡ Linked) ⊎ ((d ≡ c) ⊎ (d ≡ e))))
      (bare_c : (b d : ℕ) → (h c).children b ≢ Below d) (bare_e : (b d : ℕ) → (h e).children b ≢ Below d)
      (old : (x : ℕ) → (a x).status ≡ Linked → x ≢ 0 → IsFilled by_form (h' x)) (new_c : IsFilled by_form (h' c)) (new_e : IsFilled by_form (h' e)) where
    abbrev IsJoined : ℕ → Type 0
    IsJoined x = ((a x).status ≡ Linked) ⊎ ((x ≡ c) ⊎ (x ≡ e))

    joined_below : (x b d : ℕ) → IsJoined x → (h x).children b ≡ Below d → IsJoined d
    joined_below x b d (inl u) z = inl (t.down x b d u z).linked
    joined_below x b d (inr (inl q)) z = let Q : ℕ → Type 0 = λ y. (h y).children b ≡ Below d in absurd (bare_c b d (subst Q q z))
    joined_below x b d (inr (inr q)) z = let Q : ℕ → Type 0 = λ y. (h y).children b ≡ Below d in absurd (bare_e b d (subst Q q z))

    joined_step : (x b d : ℕ) → IsJoined x → (h' x).children b ≡ Below d → IsJoined d
    joined_step x b d p z = elim (comes x b d z) [
      | inl y ↦ joined_below x b d p y
      | inr y ↦ y
    ]

    joined_here : (m : ℕ) → m ≢ 0 → IsJoined m → IsFilled by_form (h' m)
    joined_here m ne (inl u) = old m u ne
    joined_here m ne (inr (inl q)) = let Q : ℕ → Type 0 = λ y. IsFilled by_form (h' y) in subst Q (sym q) new_c
    joined_here m ne (inr (inr q)) = let Q : ℕ → Type 0 = λ y. IsFilled by_form (h' y) in subst Q (sym q) new_e

    -- all nodes are filled after two filled ones came into the tree
    pub joined_filled : AllFilledBy by_form h'
    joined_filled m ne r = joined_here m ne (reaches h' IsJoined joined_step r.0 0 m (inl t.root) r.1)

  -- node c comes in the place of node m, which hung at a byte of node p, and node e below it
  module _ (p up m c e : ℕ) (h' : ℕ → Node V) (lp : (a p).status ≡ Linked) (hung : (h p).children up ≡ Below m)
      (comes : (x b d : ℕ) → (h' x).children b ≡ Below d → (((h x).children b ≡ Below d) × (x ≡ p → b ≢ up)) ⊎ (((x ≡ c) × ((h m).children b ≡ Below d)) ⊎ ((d ≡ c) ⊎ (d ≡ e))))
      (bare_c : (b d : ℕ) → (h c).children b ≢ Below d) (bare_e : (b d : ℕ) → (h e).children b ≢ Below d)
      (old : (x : ℕ) → (a x).status ≡ Linked → x ≢ m → x ≢ 0 → IsFilled by_form (h' x)) (new_c : IsFilled by_form (h' c)) (new_e : IsFilled by_form (h' e)) where
    abbrev IsReplaced : ℕ → Type 0
    IsReplaced x = (((a x).status ≡ Linked) × (x ≢ m)) ⊎ ((x ≡ c) ⊎ (x ≡ e))

    hung_there : IsChild a h p up m
    hung_there = t.down p up m lp hung

    root_apart : 0 ≢ m
    root_apart q = let z : length (h 0).prefix ≡ length (h m).prefix = ap (λ y. length (h y).prefix) q in let y : length (h 0).prefix ≡ 0 = ap length t.empty in absurd (omega (arith, z, y, hung_there.longer))

    elsewhere : (x b d : ℕ) → IsChild a h x b d → (x ≡ p → b ≢ up) → d ≢ m
    elsewhere x b d i apart q =
        let xp : x ≡ p = sym i.parent ∙ (ap (λ y. (a y).parent) q ∙ hung_there.parent) in
        let at_m : get_or (h d).prefix (length (h x).prefix) 0 ≡ get_or (h m).prefix (length (h x).prefix) 0 = ap (λ y. get_or (h y).prefix (length (h x).prefix) 0) q in
        let at_p : get_or (h m).prefix (length (h x).prefix) 0 ≡ get_or (h m).prefix (length (h p).prefix) 0 = ap (λ y. get_or (h m).prefix (length (h y).prefix) 0) xp in
        apart xp (sym i.byte ∙ (at_m ∙ (at_p ∙ hung_there.byte)))

    deeper : (b d : ℕ) → IsChild a h m b d → d ≢ m
    deeper b d i q = let z : length (h d).prefix ≡ length (h m).prefix = ap (λ y. length (h y).prefix) q in absurd (omega (arith, z, i.longer))

    replaced_below : (x b d : ℕ) → IsReplaced x → (h x).children b ≡ Below d → (x ≡ p → b ≢ up) → IsReplaced d
    replaced_below x b d (inl u) z apart = inl ((t.down x b d u.0 z).linked, elsewhere x b d (t.down x b d u.0 z) apart)
    replaced_below x b d (inr (inl q)) z apart = let Q : ℕ → Type 0 = λ y. (h y).children b ≡ Below d in absurd (bare_c b d (subst Q q z))
    replaced_below x b d (inr (inr q)) z apart = let Q : ℕ → Type 0 = λ y. (h y).children b ≡ Below d in absurd (bare_e b d (subst Q q z))

    replaced_step : (x b d : ℕ) → IsReplaced x → (h' x).children b ≡ Below d → IsReplaced d
    replaced_step x b d y z = elim (comes x b d z) [
      | inl v ↦ replaced_below x b d y v.0 v.1
      | inr v ↦ elim v [
        | inl u ↦ inl ((t.down m b d hung_there.linked u.1).linked, deeper b d (t.down m b d hung_there.linked u.1))
        | inr u ↦ inr u
      ]
    ]

    replaced_here : (k : ℕ) → k ≢ 0 → IsReplaced k → IsFilled by_form (h' k)
    replaced_here k ne (inl u) = old k u.0 u.1 ne
    replaced_here k ne (inr (inl q)) = let Q : ℕ → Type 0 = λ y. IsFilled by_form (h' y) in subst Q (sym q) new_c
    replaced_here k ne (inr (inr q)) = let Q : ℕ → Type 0 = λ y. IsFilled by_form (h' y) in subst Q (sym q) new_e

    -- all nodes are filled after a filled one came in another's place, with a filled one below it
    pub replaced_filled : AllFilledBy by_form h'
    replaced_filled k ne r = replaced_here k ne (reaches h' IsReplaced replaced_step r.0 0 k (inl (t.root, root_apart)) r.1)
