-- The changes of the nodes of a tree leave it filled.
use Rattle.std.proofs.Common.{◌≡◌, ◌≢◌, ℕ, suc, ◌≤◌, inl, inr, Bool, List, length, get_or, refl, sym, ◌∙◌, ap, subst, arith}
use Rattle.std.specs.Prelude.{Option, None, Some}
use Rattle.congee.specs.declared.protocol.phase.Parent.{Parent}
use Rattle.congee.specs.declared.protocol.phase.Placement.{Placement}
use Rattle.congee.specs.declared.protocol.phase.Placement.TheVariants.{Set, Link}
use Rattle.congee.specs.declared.protocol.phase.NodeChange.{NodeChange}
use Rattle.congee.specs.declared.protocol.phase.Replacement.{Replacement}
use Rattle.congee.specs.declared.protocol.phase.Replacement.TheVariants.{Unlink, Grow, GrowLink, Split, Shrink, Collapse, ShrinkAbove}
use Rattle.congee.specs.declared.protocol.phase.ParentChange.{ParentChange}
use Rattle.congee.specs.Heap.{Node, Hung, Nothing, Below, Holds, child_for}
use Rattle.congee.specs.Notes.{Note, Linked, is_published, Tree, LockWords}
use Rattle.congee.specs.protocol.Events.{weight, ChangeGives, TakeOverGives}
use Rattle.congee.specs.protocol.Steps.{PutsLesser, Collapses, Lessens, ChangedHere, ChangedAbove}
use Rattle.congee.specs.protocol.Protocol.{Made, MadeHere, Holding, HereLocked, FitsHere, Adding, PlacedAbove, WantedAbove, MadeAbove, FitsAbove, AboveLocked, TopLocked}
use Rattle.congee.specs.protocol.Filled.{places_in, FilledAs, IsFilled, AllFilledBy, FilledWithout, FillsHere, FillsAbove}
use Rattle.congee.proofs.lemmas.Tree.{same_or_not}
use Rattle.congee.proofs.lemmas.protocol.Change.{made_apart}
use Rattle.congee.proofs.lemmas.protocol.Filling.{filled_small, filled_same, filled_more, alike_same, filled_alike, below_is, not_held, not_nothing, changed_child, taken_child, count_kept, count_less, count_more, count_new, weight_there, was_filled, set_filled, joined_filled, replaced_filled}

-- a change that adds a value has one
no_gift : {C V : Type 0} (change : Replacement C) (found : Option V) → Adding change → FitsAbove change found None → ⊥
no_gift (Grow c) None d f = f
no_gift (Grow c) (Some v) d f = f
no_gift (GrowLink c leaf byte) None d f = f
no_gift (GrowLink c leaf byte) (Some v) d f = f
no_gift (Split top leaf common byte) None d f = f
no_gift (Split top leaf common byte) (Some v) d f = f
no_gift _ found d f = d

module _ {C V : Type 0} (by_form : Bool) (number : C → ℕ) (i : ℕ) (a : ℕ → Note) (h : ℕ → Node V) (key : List ℕ) (t : Tree a h) (w : LockWords a h) (f : AllFilledBy by_form h) where
  -- the change of one node
  bare : (c size least : ℕ) → Made i a h key c size least → (b d : ℕ) → (h c).children b ≢ Below d
  bare c size least m b d e = absurd (not_nothing ((h c).children b) d (m.blank b) e)

  at_byte : (n b : ℕ) (x : Hung V) → b ≡ get_or key (length (h n).prefix) 0 → child_for (h n) key ≡ x → (h n).children b ≡ x
  at_byte n b x e c = let P : ℕ → Type 0 = λ y. (h n).children y ≡ x in subst P (sym e) c

  one_out : (n b : ℕ) (h' : ℕ → Node V) → weight ((h n).children b) ≡ 1 → (n ≢ 0 → FilledWithout (length (h n).prefix) (h n).count (places_in by_form (h n).capacity)) → ChangeGives h n b Nothing h' → AllFilledBy by_form h'
  one_out n b h' wt fills k = set_filled by_form a h t f n b Nothing h' (λ d e. absurd cc) k (λ nz _.
      filled_same by_form (length (h n).prefix) (h' n).count (h n).capacity (length (h' n).prefix) (h' n).count (h' n).capacity (ap length k.prefix) refl k.capacity (fills nz (h' n).count (count_less h n b h' k wt)))

  value_out : (n b : ℕ) (x : Hung V) (h' : ℕ → Node V) → x ≢ Nothing → (h n).children b ≡ x → (n ≢ 0 → FilledWithout (length (h n).prefix) (h n).count (places_in by_form (h n).capacity)) → ChangeGives h n b Nothing h' → AllFilledBy by_form h'
  value_out n b x h' ne there fills k = one_out n b h' (ap weight there ∙ weight_there x ne) fills k

  value_in : (n b : ℕ) (v : V) (h' : ℕ → Node V) → ChangeGives h n b (Holds v) h' → AllFilledBy by_form h'
  value_in n b v h' k = set_filled by_form a h t f n b (Holds v) h' (λ d e. absurd (not_held v d e)) k (λ nz l.
      filled_same by_form (length (h n).prefix) (h' n).count (h n).capacity (length (h' n).prefix) (h' n).count (h' n).capacity (ap length k.prefix) refl k.capacity
      (filled_more by_form (length (h n).prefix) (h n).count (h n).capacity (h' n).count (count_more h n b (Holds v) h' k refl) (was_filled by_form a h t f n l nz)))

  leaf_in : (n b leaf c : ℕ) (v : V) (h1 h' : ℕ → Node V) → (a n).status ≡ Linked → Made i a h key leaf 7 0 → (h leaf).capacity ≡ 4 → ChangeGives h leaf c (Holds v) h1 → ChangeGives h1 n b (Below leaf) h' → AllFilledBy by_form h'
  leaf_in n b leaf c v h1 h' ln m four k1 k2 =
      let apart : (x : ℕ) → (a x).status ≡ Linked → x ≢ leaf = (λ x l e. made_apart i a h key leaf 7 0 x m (ap is_published l) (sym e)) in
      let el : h' leaf ≡ h1 leaf = k2.others leaf (λ e. apart n ln (sym e)) in
      let en : h1 n ≡ h n = k1.others n (apart n ln) in
      joined_filled by_form a h t f leaf leaf h'
      (λ x y d e. elim (changed_child h1 n b (Below leaf) h' k2 x y d e) [
        | inl z ↦ elim (changed_child h leaf c (Holds v) h1 k1 x y d z.0) [
          | inl u ↦ inl u.0
          | inr u ↦ absurd (not_held v d u.1)
        ]
        | inr z ↦ inr (inr (inl (below_is (Below leaf) leaf d refl z.1)))
      ])
      (bare leaf 7 0 m) (bare leaf 7 0 m)
      (λ x l nz. elim (same_or_not x n) [
        | inl e ↦ (let P : ℕ → Type 0 = λ y. IsFilled by_form (h' y) in let Q : ℕ → Type 0 = λ y. y ≢ 0 in subst P (sym e)
            (filled_same by_form (length (h n).prefix) (h' n).count (h n).capacity (length (h' n).prefix) (h' n).count (h' n).capacity (ap length (k2.prefix ∙ ap (λ y. y.prefix) en)) refl (k2.capacity ∙ ap (λ y. y.capacity) en)
            (filled_more by_form (length (h n).prefix) (h n).count (h n).capacity (h' n).count (omega (arith, ap (λ y. y.count) en, count_more h1 n b (Below leaf) h' k2 refl)) (was_filled by_form a h t f n ln (subst Q e nz)))))
        | inr ne ↦ filled_alike by_form (h x) (h' x) (alike_same (h x) (h' x) (k2.others x ne ∙ k1.others x (apart x l))) (was_filled by_form a h t f x l nz)
      ])
      (leaf_small el) (leaf_small el)
    where
      leaf_small : h' leaf ≡ h1 leaf → IsFilled by_form (h' leaf)
      leaf_small el =
          let count : (h1 leaf).count ≡ suc (h leaf).count = count_new h leaf c (Holds v) h1 k1 refl (m.blank c) in
          let size : length (h' leaf).prefix ≡ 7 = ap (λ y. length y.prefix) el ∙ (ap length k1.prefix ∙ m.long) in
          filled_small by_form (length (h' leaf).prefix) (h' leaf).count (h' leaf).capacity (ap (λ y. y.capacity) el ∙ (k1.capacity ∙ four)) (omega (arith, ap (λ y. y.count) el, count)) (λ l. absurd (omega (arith, l, size)))

  by_single : (one : NodeChange C) (x : Hung V) (given : Option V) (h' : ℕ → Node V) (change : Placement C) → Holding i a (number one.at.node) → one.byte ≡ get_or key (length (h (number one.at.node)).prefix) 0 → child_for (h (number one.at.node)) key ≡ x
      → MadeHere number i a h key change → FitsHere change x given → FillsHere by_form number h change given (number one.at.node) (h (number one.at.node)) → ChangedHere number key given one change h h' → AllFilledBy by_form h'
  by_single one x None h' Set o eb ex m fit fills g = value_out (number one.at.node) one.byte x h' fit.1 (at_byte (number one.at.node) one.byte x eb ex) fills g
  by_single one x (Some v) h' Set o eb ex m fit fills g = value_in (number one.at.node) one.byte v h' g
  by_single one x None h' (Link leaf) o eb ex m fit fills g = absurd fit
  by_single one x (Some v) h' (Link leaf) o eb ex m fit fills g = leaf_in (number one.at.node) one.byte (number leaf) (get_or key 7 0) v g.0 h' o.linked m fills g.1 g.2

  -- all nodes are filled after a change of one locked node that leaves it filled
  pub one_filled : (one : NodeChange C) (x : Hung V) (given : Option V) (h' : ℕ → Node V) → HereLocked number i a h key one x → FitsHere one.change x given
      → FillsHere by_form number h one.change given (number one.at.node) (h (number one.at.node)) → ChangedHere number key given one one.change h h' → AllFilledBy by_form h'
  one_filled one x given h' o fit fills g = by_single one x given h' one.change o.holding o.placed.byte o.wanted.child o.made fit fills g

  -- a node that hangs in the tree isn't the root
  below_root : (p b m : ℕ) → (a p).status ≡ Linked → (h p).children b ≡ Below m → m ≢ 0
  below_root p b m l e q = let z : length (h m).prefix ≡ length (h 0).prefix = ap (λ y. length (h y).prefix) q in let y : length (h 0).prefix ≡ 0 = ap length t.empty in absurd (omega (arith, z, y, (t.down p b m l e).longer))

  -- the node above keeps as many children
  above_filled : (p up c m : ℕ) (h2 h' : ℕ → Node V) → h2 p ≡ h p → (h p).children up ≡ Below m → ChangeGives h2 p up (Below c) h' → IsFilled by_form (h p) → IsFilled by_form (h' p)
  above_filled p up c m h2 h' e hung k x =
      filled_same by_form (length (h p).prefix) (h p).count (h p).capacity (length (h' p).prefix) (h' p).count (h' p).capacity (ap length (k.prefix ∙ ap (λ y. y.prefix) e))
      (count_kept h2 p up c m h' k (ap (λ y. y.children up) e ∙ hung) ∙ ap (λ y. y.count) e) (k.capacity ∙ ap (λ y. y.capacity) e) x

  hung_apart : (p up m : ℕ) → (a p).status ≡ Linked → (h p).children up ≡ Below m → p ≢ m
  hung_apart p up m l e q = let z : length (h p).prefix ≡ length (h m).prefix = ap (λ y. length (h y).prefix) q in absurd (omega (arith, z, (t.down p up m l e).longer))

  -- a lesser node comes in the place of node m
  lesser_in : (m c b p up q : ℕ) (h' : ℕ → Node V) → (a p).status ≡ Linked → (h p).children up ≡ Below m → Made i a h key c (length (h m).prefix) q → weight ((h m).children b) ≡ 1
      → FilledWithout (length (h m).prefix) (h m).count (places_in by_form (h c).capacity) → PutsLesser h m c b p up h' → AllFilledBy by_form h'
  lesser_in m c b p up q h' lp hung mc wt fills k =
      let apart : (x : ℕ) → (a x).status ≡ Linked → x ≢ c = (λ x l e. made_apart i a h key c (length (h m).prefix) q x mc (ap is_published l) (sym e)) in
      let pm : p ≢ m = hung_apart p up m lp hung in
      let pc : p ≢ c = apart p lp in
      let p2 : k.1 p ≡ h p = k.3.others p pc ∙ k.2.others p pc pm in
      let ec : h' c ≡ k.1 c = k.4.others c (λ e. pc (sym e)) in
      let less : suc (k.1 c).count ≡ (k.0 c).count = count_less k.0 c b k.1 k.3 (ap weight (k.2.children b) ∙ wt) in
      let new : IsFilled by_form (h' c) = filled_same by_form (length (h m).prefix) (k.1 c).count (h c).capacity (length (h' c).prefix) (h' c).count (h' c).capacity
      (ap length (ap (λ y. y.prefix) ec ∙ (k.3.prefix ∙ k.2.prefix)) ∙ mc.long) (ap (λ y. y.count) ec) (ap (λ y. y.capacity) ec ∙ (k.3.capacity ∙ k.2.capacity)) (fills (k.1 c).count (less ∙ k.2.count)) in
      replaced_filled by_form a h t f p up m c c h' lp hung
      (λ x y d e. elim (changed_child k.1 p up (Below c) h' k.4 x y d e) [
        | inl z ↦ elim (changed_child k.0 c b Nothing k.1 k.3 x y d z.0) [
          | inl u ↦ elim (taken_child h m c k.0 k.2 x y d u.0) [
            | inl v ↦ inl (v, z.1)
            | inr v ↦ inr (inl v)
          ]
          | inr u ↦ absurd (not_nothing Nothing d refl u.1)
        ]
        | inr z ↦ inr (inr (inl (below_is (Below c) c d refl z.1)))
      ])
      (bare c (length (h m).prefix) q mc) (bare c (length (h m).prefix) q mc)
      (λ x l xm nz. elim (same_or_not x p) [
        | inl e ↦ (let P : ℕ → Type 0 = λ y. IsFilled by_form (h' y) in let Q : ℕ → Type 0 = λ y. y ≢ 0 in subst P (sym e) (above_filled p up c m k.1 h' p2 hung k.4 (was_filled by_form a h t f p lp (subst Q e nz))))
        | inr xp ↦ filled_alike by_form (h x) (h' x) (alike_same (h x) (h' x) (k.4.others x xp ∙ (k.3.others x (apart x l) ∙ k.2.others x (apart x l) xm))) (was_filled by_form a h t f x l nz)
      ])
      new new

  -- a greater leaf comes in the place of node m
  greater_in : (p up m c q : ℕ) (v : V) (h1 h2 h' : ℕ → Node V) → (a p).status ≡ Linked → (h p).children up ≡ Below m → Made i a h key c (length (h m).prefix) q → (h m).children (get_or key 7 0) ≡ Nothing
      → FilledAs (length (h m).prefix) (suc (h m).count) (places_in by_form (h c).capacity) → TakeOverGives h m c h1 → ChangeGives h1 c (get_or key 7 0) (Holds v) h2 → ChangeGives h2 p up (Below c) h' → AllFilledBy by_form h'
  greater_in p up m c q v h1 h2 h' lp hung mc none fills k1 k2 k3 =
      let apart : (x : ℕ) → (a x).status ≡ Linked → x ≢ c = (λ x l e. made_apart i a h key c (length (h m).prefix) q x mc (ap is_published l) (sym e)) in
      let pm : p ≢ m = hung_apart p up m lp hung in
      let pc : p ≢ c = apart p lp in
      let p2 : h2 p ≡ h p = k2.others p pc ∙ k1.others p pc pm in
      let ec : h' c ≡ h2 c = k3.others c (λ e. pc (sym e)) in
      let more : (h2 c).count ≡ suc (h1 c).count = count_new h1 c (get_or key 7 0) (Holds v) h2 k2 refl (k1.children (get_or key 7 0) ∙ none) in
      let new : IsFilled by_form (h' c) = filled_same by_form (length (h m).prefix) (suc (h m).count) (h c).capacity (length (h' c).prefix) (h' c).count (h' c).capacity
      (ap length (ap (λ y. y.prefix) ec ∙ (k2.prefix ∙ k1.prefix)) ∙ mc.long) (ap (λ y. y.count) ec ∙ (more ∙ ap suc k1.count)) (ap (λ y. y.capacity) ec ∙ (k2.capacity ∙ k1.capacity)) fills in
      replaced_filled by_form a h t f p up m c c h' lp hung
      (λ x y d e. elim (changed_child h2 p up (Below c) h' k3 x y d e) [
        | inl z ↦ elim (changed_child h1 c (get_or key 7 0) (Holds v) h2 k2 x y d z.0) [
          | inl u ↦ elim (taken_child h m c h1 k1 x y d u.0) [
            | inl o ↦ inl (o, z.1)
            | inr o ↦ inr (inl o)
          ]
          | inr u ↦ absurd (not_held v d u.1)
        ]
        | inr z ↦ inr (inr (inl (below_is (Below c) c d refl z.1)))
      ])
      (bare c (length (h m).prefix) q mc) (bare c (length (h m).prefix) q mc)
      (λ x l xm nz. elim (same_or_not x p) [
        | inl e ↦ (let P : ℕ → Type 0 = λ y. IsFilled by_form (h' y) in let Q : ℕ → Type 0 = λ y. y ≢ 0 in subst P (sym e) (above_filled p up c m h2 h' p2 hung k3 (was_filled by_form a h t f p lp (subst Q e nz))))
        | inr xp ↦ filled_alike by_form (h x) (h' x) (alike_same (h x) (h' x) (k3.others x xp ∙ (k2.others x (apart x l) ∙ k1.others x (apart x l) xm))) (was_filled by_form a h t f x l nz)
      ])
      new new

  -- and a greater node with a new leaf
  greater_link_in : (p up m c leaf byte q : ℕ) (v : V) (h1 h2 h3 h' : ℕ → Node V) → (a p).status ≡ Linked → (h p).children up ≡ Below m → Made i a h key c (length (h m).prefix) q → Made i a h key leaf 7 0 → c ≢ leaf
      → (h m).children byte ≡ Nothing → FilledAs (length (h m).prefix) (suc (h m).count) (places_in by_form (h c).capacity) → (h leaf).capacity ≡ 4
      → ChangeGives h leaf (get_or key 7 0) (Holds v) h1 → TakeOverGives h1 m c h2 → ChangeGives h2 c byte (Below leaf) h3 → ChangeGives h3 p up (Below c) h' → AllFilledBy by_form h'
  greater_link_in p up m c leaf byte q v h1 h2 h3 h' lp hung mc ml cl none fills four k1 k2 k3 k4 =
      let apart : (x : ℕ) → (a x).status ≡ Linked → x ≢ c = (λ x l e. made_apart i a h key c (length (h m).prefix) q x mc (ap is_published l) (sym e)) in
      let apart_leaf : (x : ℕ) → (a x).status ≡ Linked → x ≢ leaf = (λ x l e. made_apart i a h key leaf 7 0 x ml (ap is_published l) (sym e)) in
      let lc : leaf ≢ c = (λ e. cl (sym e)) in
      let lm : (a m).status ≡ Linked = (t.down p up m lp hung).linked in
      let pm : p ≢ m = hung_apart p up m lp hung in
      let pc : p ≢ c = apart p lp in
      let m1 : h1 m ≡ h m = k1.others m (apart_leaf m lm) in
      let c1 : h1 c ≡ h c = k1.others c cl in
      let p3 : h3 p ≡ h p = k3.others p pc ∙ (k2.others p pc pm ∙ k1.others p (apart_leaf p lp)) in
      let ec : h' c ≡ h3 c = k4.others c (λ e. pc (sym e)) in
      let el : h' leaf ≡ h1 leaf = k4.others leaf (λ e. apart_leaf p lp (sym e)) ∙ (k3.others leaf lc ∙ k2.others leaf lc (λ e. apart_leaf m lm (sym e))) in
      let more : (h3 c).count ≡ suc (h2 c).count = count_new h2 c byte (Below leaf) h3 k3 refl (k2.children byte ∙ (ap (λ y. y.children byte) m1 ∙ none)) in
      let new : IsFilled by_form (h' c) = filled_same by_form (length (h m).prefix) (suc (h m).count) (h c).capacity (length (h' c).prefix) (h' c).count (h' c).capacity
      (ap length (ap (λ y. y.prefix) ec ∙ (k3.prefix ∙ (k2.prefix ∙ ap (λ y. y.prefix) c1))) ∙ mc.long) (ap (λ y. y.count) ec ∙ (more ∙ ap suc (k2.count ∙ ap (λ y. y.count) m1)))
      (ap (λ y. y.capacity) ec ∙ (k3.capacity ∙ (k2.capacity ∙ ap (λ y. y.capacity) c1))) fills in
      let one : (h1 leaf).count ≡ suc (h leaf).count = count_new h leaf (get_or key 7 0) (Holds v) h1 k1 refl (ml.blank (get_or key 7 0)) in
      let size : length (h' leaf).prefix ≡ 7 = ap (λ y. length y.prefix) el ∙ (ap length k1.prefix ∙ ml.long) in
      replaced_filled by_form a h t f p up m c leaf h' lp hung
      (λ x y d e. elim (changed_child h3 p up (Below c) h' k4 x y d e) [
        | inl z ↦ elim (changed_child h2 c byte (Below leaf) h3 k3 x y d z.0) [
          | inl u ↦ elim (taken_child h1 m c h2 k2 x y d u.0) [
            | inl o ↦ elim (changed_child h leaf (get_or key 7 0) (Holds v) h1 k1 x y d o) [
              | inl n ↦ inl (n.0, z.1)
              | inr n ↦ absurd (not_held v d n.1)
            ]
            | inr o ↦ inr (inl (o.0, ap (λ n. n.children y) (sym m1) ∙ o.1))
          ]
          | inr u ↦ inr (inr (inr (below_is (Below leaf) leaf d refl u.1)))
        ]
        | inr z ↦ inr (inr (inl (below_is (Below c) c d refl z.1)))
      ])
      (bare c (length (h m).prefix) q mc) (bare leaf 7 0 ml)
      (λ x l xm nz. elim (same_or_not x p) [
        | inl e ↦ (let P : ℕ → Type 0 = λ y. IsFilled by_form (h' y) in let Q : ℕ → Type 0 = λ y. y ≢ 0 in subst P (sym e) (above_filled p up c m h3 h' p3 hung k4 (was_filled by_form a h t f p lp (subst Q e nz))))
        | inr xp ↦ filled_alike by_form (h x) (h' x) (alike_same (h x) (h' x) (k4.others x xp ∙ (k3.others x (apart x l) ∙ (k2.others x (apart x l) xm ∙ k1.others x (apart_leaf x l))))) (was_filled by_form a h t f x l nz)
      ])
      new
      (filled_small by_form (length (h' leaf).prefix) (h' leaf).count (h' leaf).capacity (ap (λ y. y.capacity) el ∙ (k1.capacity ∙ four)) (omega (arith, ap (λ y. y.count) el, one)) (λ l. absurd (omega (arith, l, size))))

  -- a node over node m, and a new leaf
  fork_in : (p up m top leaf common byte : ℕ) (v : V) (h1 h2 h3 h' : ℕ → Node V) → (a p).status ≡ Linked → (h p).children up ≡ Below m → Made i a h key top common 1 → Made i a h key leaf 7 0 → top ≢ leaf → byte ≢ get_or key common 0
      → (h top).capacity ≡ 4 → (h leaf).capacity ≡ 4
      → ChangeGives h leaf (get_or key 7 0) (Holds v) h1 → ChangeGives h1 top byte (Below m) h2 → ChangeGives h2 top (get_or key common 0) (Below leaf) h3 → ChangeGives h3 p up (Below top) h' → AllFilledBy by_form h'
  fork_in p up m top leaf common byte v h1 h2 h3 h' lp hung mt ml tl bytes four_top four k1 k2 k3 k4 =
      let apart : (x : ℕ) → (a x).status ≡ Linked → x ≢ top = (λ x l e. made_apart i a h key top common 1 x mt (ap is_published l) (sym e)) in
      let apart_leaf : (x : ℕ) → (a x).status ≡ Linked → x ≢ leaf = (λ x l e. made_apart i a h key leaf 7 0 x ml (ap is_published l) (sym e)) in
      let lt : leaf ≢ top = (λ e. tl (sym e)) in
      let lm : (a m).status ≡ Linked = (t.down p up m lp hung).linked in
      let pt : p ≢ top = apart p lp in
      let t1 : h1 top ≡ h top = k1.others top tl in
      let p3 : h3 p ≡ h p = k3.others p pt ∙ (k2.others p pt ∙ k1.others p (apart_leaf p lp)) in
      let et : h' top ≡ h3 top = k4.others top (λ e. pt (sym e)) in
      let el : h' leaf ≡ h1 leaf = k4.others leaf (λ e. apart_leaf p lp (sym e)) ∙ (k3.others leaf lt ∙ k2.others leaf lt) in
      let first : (h2 top).count ≡ suc (h1 top).count = count_new h1 top byte (Below m) h2 k2 refl (ap (λ y. y.children byte) t1 ∙ mt.blank byte) in
      let second : (h3 top).count ≡ suc (h2 top).count = count_new h2 top (get_or key common 0) (Below leaf) h3 k3 refl
      (k2.beside (get_or key common 0) (λ e. bytes (sym e)) ∙ (ap (λ y. y.children (get_or key common 0)) t1 ∙ mt.blank (get_or key common 0))) in
      let two : 2 ≤ (h' top).count = omega (arith, ap (λ y. y.count) et, second, first) in
      let one : (h1 leaf).count ≡ suc (h leaf).count = count_new h leaf (get_or key 7 0) (Holds v) h1 k1 refl (ml.blank (get_or key 7 0)) in
      let size : length (h' leaf).prefix ≡ 7 = ap (λ y. length y.prefix) el ∙ (ap length k1.prefix ∙ ml.long) in
      joined_filled by_form a h t f top leaf h'
      (λ x y d e. elim (changed_child h3 p up (Below top) h' k4 x y d e) [
        | inl z ↦ elim (changed_child h2 top (get_or key common 0) (Below leaf) h3 k3 x y d z.0) [
          | inl u ↦ elim (changed_child h1 top byte (Below m) h2 k2 x y d u.0) [
            | inl o ↦ elim (changed_child h leaf (get_or key 7 0) (Holds v) h1 k1 x y d o.0) [
              | inl n ↦ inl n.0
              | inr n ↦ absurd (not_held v d n.1)
            ]
            | inr o ↦ inr (inl (let P : ℕ → Type 0 = λ y. (a y).status ≡ Linked in subst P (sym (below_is (Below m) m d refl o.1)) lm))
          ]
          | inr u ↦ inr (inr (inr (below_is (Below leaf) leaf d refl u.1)))
        ]
        | inr z ↦ inr (inr (inl (below_is (Below top) top d refl z.1)))
      ])
      (bare top common 1 mt) (bare leaf 7 0 ml)
      (λ x l nz. elim (same_or_not x p) [
        | inl e ↦ (let P : ℕ → Type 0 = λ y. IsFilled by_form (h' y) in let Q : ℕ → Type 0 = λ y. y ≢ 0 in subst P (sym e) (above_filled p up top m h3 h' p3 hung k4 (was_filled by_form a h t f p lp (subst Q e nz))))
        | inr xp ↦ filled_alike by_form (h x) (h' x) (alike_same (h x) (h' x) (k4.others x xp ∙ (k3.others x (apart x l) ∙ (k2.others x (apart x l) ∙ k1.others x (apart_leaf x l))))) (was_filled by_form a h t f x l nz)
      ])
      (filled_small by_form (length (h' top).prefix) (h' top).count (h' top).capacity (ap (λ y. y.capacity) et ∙ (k3.capacity ∙ (k2.capacity ∙ (ap (λ y. y.capacity) t1 ∙ four_top)))) (omega (arith, two)) (λ _. two))
      (filled_small by_form (length (h' leaf).prefix) (h' leaf).count (h' leaf).capacity (ap (λ y. y.capacity) el ∙ (k1.capacity ∙ four)) (omega (arith, ap (λ y. y.count) el, one)) (λ l. absurd (omega (arith, l, size))))

  -- the changes of the node above both
  top_collapsed : (two : ParentChange C) (h' : ℕ → Node V) (top : Option (Parent C)) → TopLocked number i a h key top (number two.above.stamp.node) → (a (number two.above.stamp.node)).status ≡ Linked → Collapses number two top h h' → AllFilledBy by_form h'
  top_collapsed two h' None l lp g = absurd g
  top_collapsed two h' (Some top) l lp g =
      let hung : (h (number top.stamp.node)).children top.byte ≡ Below (number two.above.stamp.node) = at_byte (number top.stamp.node) top.byte (Below (number two.above.stamp.node)) l.byte l.child in
      set_filled by_form a h t f (number top.stamp.node) top.byte (Below g.0) h'
      (λ d e. let P : ℕ → Type 0 = λ y. (a y).status ≡ Linked in subst P (sym (below_is (Below g.0) g.0 d refl e)) (t.down (number two.above.stamp.node) g.1.at g.0 lp g.1.child).linked)
      g.2 (λ nz lg. above_filled (number top.stamp.node) top.byte g.0 (number two.above.stamp.node) h h' refl hung g.2 (was_filled by_form a h t f (number top.stamp.node) lg nz))

  top_lessened : (two : ParentChange C) (c : C) (q : ℕ) (h' : ℕ → Node V) (top : Option (Parent C)) → TopLocked number i a h key top (number two.above.stamp.node) → AboveLocked number i a h key two.above (number two.at.node)
      → Made i a h key (number c) two.above.depth q → (number two.above.stamp.node ≢ 0 → FilledWithout (length (h (number two.above.stamp.node)).prefix) (h (number two.above.stamp.node)).count (places_in by_form (h (number c)).capacity))
      → Lessens number two c top h h' → AllFilledBy by_form h'
  top_lessened two c q h' None l o mc fills g = absurd g
  top_lessened two c q h' (Some top) l o mc fills g =
      let hung : (h (number top.stamp.node)).children top.byte ≡ Below (number two.above.stamp.node) = at_byte (number top.stamp.node) top.byte (Below (number two.above.stamp.node)) l.byte l.child in
      let low : (h (number two.above.stamp.node)).children two.above.byte ≡ Below (number two.at.node) = at_byte (number two.above.stamp.node) two.above.byte (Below (number two.at.node)) o.byte o.child in
      let P : ℕ → Type 0 = λ y. Made i a h key (number c) y q in
      lesser_in (number two.above.stamp.node) (number c) two.above.byte (number top.stamp.node) top.byte q h' l.holding.linked hung (subst P o.depth mc) (ap weight low)
      (fills (below_root (number top.stamp.node) top.byte (number two.above.stamp.node) l.holding.linked hung)) g

  by_double : (two : ParentChange C) (given found : Option V) (q : ℕ) (h' : ℕ → Node V) (change : Replacement C)
      → TopLocked number i a h key two.top (number two.above.stamp.node) → AboveLocked number i a h key two.above (number two.at.node) → PlacedAbove key change (h (number two.at.node)).prefix
      → WantedAbove key change found q (h (number two.at.node)) → MadeAbove number i a h key two.above change (length (h (number two.at.node)).prefix) q → FitsAbove change found given
      → FillsAbove by_form number h change (number two.above.stamp.node) (h (number two.above.stamp.node)) (number two.at.node) (h (number two.at.node)) → ChangedAbove number key given two change h h' → AllFilledBy by_form h'
  by_double two given found q h' Unlink up o p n m fit fills g =
      let hung : (h (number two.above.stamp.node)).children two.above.byte ≡ Below (number two.at.node) = at_byte (number two.above.stamp.node) two.above.byte (Below (number two.at.node)) o.byte o.child in
      one_out (number two.above.stamp.node) two.above.byte h' (ap weight hung) fills g
  by_double two given found q h' Collapse up o p n m fit fills g = top_collapsed two h' two.top up o.holding.linked g
  by_double two given found q h' (ShrinkAbove c) up o p n m fit fills g = top_lessened two c q h' two.top up o m.0 fills g
  by_double two given None q h' (Shrink c) up o p n m fit fills g = absurd n
  by_double two given (Some v) q h' (Shrink c) up o p n m fit fills g =
      let hung : (h (number two.above.stamp.node)).children two.above.byte ≡ Below (number two.at.node) = at_byte (number two.above.stamp.node) two.above.byte (Below (number two.at.node)) o.byte o.child in
      let value : (h (number two.at.node)).children (get_or key 7 0) ≡ Holds v = (let P : ℕ → Type 0 = λ y. (h (number two.at.node)).children (get_or key y 0) ≡ Holds v in subst P p.1 n.0) in
      lesser_in (number two.at.node) (number c) (get_or key 7 0) (number two.above.stamp.node) two.above.byte q h' o.holding.linked hung m (ap weight value)
      (fills (below_root (number two.above.stamp.node) two.above.byte (number two.at.node) o.holding.linked hung)) g
  by_double two None found q h' (Grow c) up o p n m fit fills g = absurd (no_gift (Grow c) found tt fit)
  by_double two (Some v) found q h' (Grow c) up o p n m fit fills g =
      let hung : (h (number two.above.stamp.node)).children two.above.byte ≡ Below (number two.at.node) = at_byte (number two.above.stamp.node) two.above.byte (Below (number two.at.node)) o.byte o.child in
      let none : (h (number two.at.node)).children (get_or key 7 0) ≡ Nothing = (let P : ℕ → Type 0 = λ y. (h (number two.at.node)).children (get_or key y 0) ≡ Nothing in subst P p.1 n.0) in
      greater_in (number two.above.stamp.node) two.above.byte (number two.at.node) (number c) q v g.0 g.1 h' o.holding.linked hung m none
      (fills (below_root (number two.above.stamp.node) two.above.byte (number two.at.node) o.holding.linked hung)) g.2 g.3 g.4
  by_double two None found q h' (GrowLink c leaf byte) up o p n m fit fills g = absurd (no_gift (GrowLink c leaf byte) found tt fit)
  by_double two (Some v) found q h' (GrowLink c leaf byte) up o p n m fit fills g =
      let hung : (h (number two.above.stamp.node)).children two.above.byte ≡ Below (number two.at.node) = at_byte (number two.above.stamp.node) two.above.byte (Below (number two.at.node)) o.byte o.child in
      greater_link_in (number two.above.stamp.node) two.above.byte (number two.at.node) (number c) (number leaf) byte q v g.0 g.1 g.2 h' o.holding.linked hung m.0 m.1 m.2 (at_byte (number two.at.node) byte Nothing p.2 n.0)
      (fills.0 (below_root (number two.above.stamp.node) two.above.byte (number two.at.node) o.holding.linked hung)) fills.1 g.3 g.4 g.5 g.6
  by_double two None found q h' (Split top leaf common byte) up o p n m fit fills g = absurd (no_gift (Split top leaf common byte) found tt fit)
  by_double two (Some v) found q h' (Split top leaf common byte) up o p n m fit fills g =
      let hung : (h (number two.above.stamp.node)).children two.above.byte ≡ Below (number two.at.node) = at_byte (number two.above.stamp.node) two.above.byte (Below (number two.at.node)) o.byte o.child in
      fork_in (number two.above.stamp.node) two.above.byte (number two.at.node) (number top) (number leaf) common byte v g.0 g.1 g.2 h' o.holding.linked hung m.0 m.1 m.2 (λ e. p.0.apart (sym p.1 ∙ e)) fills.0 fills.1 g.3 g.4 g.5 g.6

  -- all nodes are filled after a change of two locked nodes that leaves them filled
  pub two_filled : (two : ParentChange C) (given found : Option V) (q : ℕ) (h' : ℕ → Node V) → TopLocked number i a h key two.top (number two.above.stamp.node) → AboveLocked number i a h key two.above (number two.at.node)
      → PlacedAbove key two.change (h (number two.at.node)).prefix → WantedAbove key two.change found q (h (number two.at.node)) → MadeAbove number i a h key two.above two.change (length (h (number two.at.node)).prefix) q → FitsAbove two.change found given
      → FillsAbove by_form number h two.change (number two.above.stamp.node) (h (number two.above.stamp.node)) (number two.at.node) (h (number two.at.node)) → ChangedAbove number key given two two.change h h' → AllFilledBy by_form h'
  two_filled two given found q h' up o p n m fit fills g = by_double two given found q h' two.change up o p n m fit fills g
