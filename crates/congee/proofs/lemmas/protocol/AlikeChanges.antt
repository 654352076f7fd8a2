-- The changes that a call makes of nodes on a store, and of the same nodes by their numbers.
use Rattle.std.proofs.Common.{◌≡◌, ◌≢◌, ℕ, zero, suc, ◌+◌, ◌<◌, ◌≤◌, cond, arith, List, refl, sym, ◌∙◌, ap, subst, inl, inr}
use Rattle.std.specs.Prelude.{Option, None, Some, slice_index, slice_get}
use Rattle.congee.specs.declared.protocol.phase.Parent.{Parent}
use Rattle.congee.specs.declared.protocol.phase.Placement.{Placement}
use Rattle.congee.specs.declared.protocol.phase.Placement.TheVariants.{Set, Link}
use Rattle.congee.specs.declared.protocol.phase.NodeChange.{NodeChange}
use Rattle.congee.specs.declared.protocol.phase.Replacement.{Replacement}
use Rattle.congee.specs.declared.protocol.phase.Replacement.TheVariants.{Unlink, Grow, GrowLink, Split, Shrink, Collapse, ShrinkAbove}
use Rattle.congee.specs.declared.protocol.phase.ParentChange.{ParentChange}
use Rattle.congee.specs.declared.protocol.phase.Phase.{Phase}
use Rattle.congee.specs.declared.protocol.phase.Phase.TheVariants.{ChangeAbove}
use Rattle.congee.specs.Heap.{Node, Hung, Nothing, Below, Stands}
use Rattle.congee.specs.protocol.Alike.{Ordered, HungAlike, NodeAlike, HeapAlike, Named, StampAlike, TopAlike, PlacementAlike, ReplacementAlike, ParentChangeAlike}
use Rattle.congee.specs.protocol.Events.{IsOther, ChangeGives, HoldsValues, HoldsNodes, TakeOverGives, BackGives}
use Rattle.congee.specs.protocol.PlainSteps.{name_or, other_from, other_of, change_top, back, hang, copy, clear, back_one, back_two, change_one, change_two}
use Rattle.congee.specs.protocol.Steps.{PutsLesser, Collapses, Lessens, MayLessen, MayTop, BackHere, BackAbove, value_hung, ChangedHere, ChangedAbove, MayBackHere, MayBackAbove, MayChangeHere, MayChangeAbove}
use Rattle.congee.specs.declared.forms.prefix.TheConstants.{MAX_PREFIX_LEN}
use Rattle.congee.proofs.lemmas.Tree.{same_or_not}
use Rattle.congee.proofs.lemmas.Fits.{same_test, other_test}
use Rattle.congee.proofs.lemmas.protocol.AlikeHeaps.{Pair, pair_same, pair_then, ordered_still, pair_back, pair_hung, pair_copied, pair_cleared}

stands_changed : {V : Type 0} (h : ℕ → Node V) (n b : ℕ) (v : Hung V) (h' : ℕ → Node V) (c : ℕ) → ChangeGives h n b v h' → Stands (h c) → Stands (h' c)
stands_changed h n b v h' c k s = elim (same_or_not c n) [
  | inl e ↦ record { made = ap (λ z. (h' z).made) e ∙ k.made ∙ ap (λ z. (h z).made) (sym e) ∙ s.made; kept = ap (λ z. (h' z).destroyed) e ∙ k.destroyed ∙ ap (λ z. (h z).destroyed) (sym e) ∙ s.kept }
  | inr ne ↦ record { made = ap (λ z. z.made) (k.others c ne) ∙ s.made; kept = ap (λ z. z.destroyed) (k.others c ne) ∙ s.kept }
]

stands_over : {V : Type 0} (h : ℕ → Node V) (m d : ℕ) (h' : ℕ → Node V) (c : ℕ) → TakeOverGives h m d h' → Stands (h c) → Stands (h' c)
stands_over h m d h' c k s = elim (same_or_not c d) [
  | inl e ↦ record { made = ap (λ z. (h' z).made) e ∙ k.made ∙ ap (λ z. (h z).made) (sym e) ∙ s.made; kept = ap (λ z. (h' z).destroyed) e ∙ k.destroyed ∙ ap (λ z. (h z).destroyed) (sym e) ∙ s.kept }
  | inr ne ↦ elim (same_or_not c m) [
    | inl e ↦ record { made = ap (λ z. (h' z).made) e ∙ k.made_old ∙ ap (λ z. (h z).made) (sym e) ∙ s.made; kept = ap (λ z. (h' z).destroyed) e ∙ k.destroyed_old ∙ ap (λ z. (h z).destroyed) (sym e) ∙ s.kept }
    | inr apart ↦ record { made = ap (λ z. z.made) (k.others c ne apart) ∙ s.made; kept = ap (λ z. z.destroyed) (k.others c ne apart) ∙ s.kept }
  ]
]

stands_at : {V : Type 0} (a b : Node V) → a ≡ b → Stands b → Stands a
stands_at {V} a b e s = let P : Node V → Type 0 = λ z. Stands z in subst P (sym e) s

-- what a node holds whose children another one takes over: a leaf holds values, an inner node nodes
abbrev pub HoldsFor : {C V : Type 0} → Replacement C → Node V → Node V → Type 0
HoldsFor (Grow c) n p = HoldsValues n
HoldsFor (GrowLink c leaf byte) n p = HoldsNodes n
HoldsFor (Shrink c) n p = HoldsValues n
HoldsFor (ShrinkAbove c) n p = HoldsNodes p
HoldsFor _ n p = Unit {0}

-- before a change of two nodes, the one whose children go over holds values or nodes as the change wants
abbrev pub HoldsRight : {C V : Type 0} → (C → ℕ) → (ℕ → Node V) → Phase C V → Type 0
HoldsRight number h (ChangeAbove two r) = HoldsFor two.change (h (number two.at.node)) (h (number two.above.stamp.node))
HoldsRight number h _ = Unit {0}

module _ {C V : Type 0} (order : List ℕ) (number : C → ℕ) where
  value_alike : (new : Option V) → HungAlike order (value_hung new) (value_hung new)
  value_alike None = refl
  value_alike (Some v) = refl

  -- one change after another
  next : (h h1 h' g1 g' : ℕ → Node V) → Ordered order h → Pair order h h1 g1 → (Ordered order h1 → HeapAlike order h1 g1 → Pair order h1 h' g') → Pair order h h' g'
  next h h1 h' g1 g' o p f = pair_then order h h1 h' g' p.made p.stands (f (ordered_still order h h1 p.made o) p.alike)

  module _ (h g : ℕ → Node V) (o : Ordered order h) (x : HeapAlike order h g) (h' : ℕ → Node V) where
    -- the made nodes of a change go back
    pub back_one_pair : (c : Placement C) (y : Placement ℕ) → PlacementAlike order number c y → MayBackHere number h c → BackHere number h c h' → Pair order h h' (back_one y g)
    back_one_pair Set y e may k = let P : Placement ℕ → Type 0 = λ z. Pair order h h' (back_one z g) in subst P (sym e) (pair_same order h h' g k x)
    back_one_pair (Link leaf) y e may k = let P : Placement ℕ → Type 0 = λ z. Pair order h h' (back_one z g) in subst P (sym e.1) (pair_back order h g o x (number leaf) e.0 h' e.2 may k)

    both_back : (a b : C) (na nb : ℕ) (h1 : ℕ → Node V) → Named order number a na → Named order number b nb → Stands (h (number a)) → Stands (h (number b)) → number b ≢ number a → BackGives h (number a) h1 → BackGives h1 (number b) h' → Pair order h h' (back (back g na) nb)
    both_back a b na nb h1 ea eb sa sb ne k k' =
        next h h1 h' (back g na) (back (back g na) nb) o (pair_back order h g o x (number a) na h1 ea sa k)
        (λ o1 x1. pair_back order h1 (back g na) o1 x1 (number b) nb h' eb (stands_at (h1 (number b)) (h (number b)) (k.others (number b) ne) sb) k')

    -- both sides are alike after the made nodes of a change of two nodes went back
    pub back_two_pair : (c : Replacement C) (y : Replacement ℕ) → ReplacementAlike order number c y → MayBackAbove number h c → BackAbove number h c h' → Pair order h h' (back_two y g)
    back_two_pair Unlink y e may k = let P : Replacement ℕ → Type 0 = λ z. Pair order h h' (back_two z g) in subst P (sym e) (pair_same order h h' g k x)
    back_two_pair (Shrink c) y e may k = let P : Replacement ℕ → Type 0 = λ z. Pair order h h' (back_two z g) in subst P (sym e.1) (pair_back order h g o x (number c) e.0 h' e.2 may k)
    back_two_pair Collapse y e may k = let P : Replacement ℕ → Type 0 = λ z. Pair order h h' (back_two z g) in subst P (sym e) (pair_same order h h' g k x)
    back_two_pair (ShrinkAbove c) y e may k = let P : Replacement ℕ → Type 0 = λ z. Pair order h h' (back_two z g) in subst P (sym e.1) (pair_back order h g o x (number c) e.0 h' e.2 may k)
    back_two_pair (Grow c) y e may k = let P : Replacement ℕ → Type 0 = λ z. Pair order h h' (back_two z g) in subst P (sym e.1) (pair_back order h g o x (number c) e.0 h' e.2 may k)
    back_two_pair (GrowLink c leaf byte) y e may k = let P : Replacement ℕ → Type 0 = λ z. Pair order h h' (back_two z g) in subst P (sym e.2) (both_back leaf c e.1 e.0 k.0 e.4 e.3 may.0 may.1 may.2 k.1 k.2)
    back_two_pair (Split top leaf common byte) y e may k = let P : Replacement ℕ → Type 0 = λ z. Pair order h h' (back_two z g) in subst P (sym e.2) (both_back leaf top e.1 e.0 k.0 e.4 e.3 may.0 may.1 may.2 k.1 k.2)

    -- a change of one node
    pub change_one_pair : (key : List ℕ) (new : Option V) (one : NodeChange C) (u : NodeChange ℕ) → StampAlike order number one.at u.at → u.byte ≡ one.byte → (c : Placement C) (y : Placement ℕ) → PlacementAlike order number c y
        → MayChangeHere number new one c h → ChangedHere number key new one c h h' → Pair order h h' (change_one key new u y g)
    change_one_pair key new one u st b Set y e may k =
        let P : Placement ℕ → Type 0 = λ z. Pair order h h' (change_one key new u z g) in
        let Q : ℕ → Type 0 = λ z. Pair order h h' (hang g u.at.node z (value_hung new)) in
        subst P (sym e) (subst Q (sym b) (pair_hung order h g o x (number one.at.node) u.at.node one.byte (value_hung new) (value_hung new) h' st.node may.stands (value_alike new) k))
    change_one_pair key None one u st b (Link leaf) y e may k = absurd may
    change_one_pair key (Some v) one u st b (Link leaf) y e may k =
        let P : Placement ℕ → Type 0 = λ z. Pair order h h' (change_one key (Some v) u z g) in
        let Q : ℕ → Type 0 = λ z. Pair order h h' (hang (hang g e.0 (slice_index key MAX_PREFIX_LEN) (value_hung (Some v))) u.at.node z (Below e.0)) in
        let g1 : ℕ → Node V = hang g e.0 (slice_index key MAX_PREFIX_LEN) (value_hung (Some v)) in
        subst P (sym e.1) (subst Q (sym b) (next h k.0 h' (hang g e.0 (slice_index key MAX_PREFIX_LEN) (value_hung (Some v))) (hang (hang g e.0 (slice_index key MAX_PREFIX_LEN) (value_hung (Some v))) u.at.node one.byte (Below e.0)) o
        (pair_hung order h g o x (number leaf) e.0 (slice_index key MAX_PREFIX_LEN) (value_hung (Some v)) (value_hung (Some v)) k.0 e.2 may.1.stands refl k.1)
        (λ o1 x1. pair_hung order k.0 (hang g e.0 (slice_index key MAX_PREFIX_LEN) (value_hung (Some v))) o1 x1 (number one.at.node) u.at.node one.byte (Below (number leaf)) (Below e.0) h' st.node
        (stands_changed h (number leaf) _ _ k.0 (number one.at.node) k.1 may.0.stands) (e.0, refl, e.2) k.2)))

  -- the other child, by its number
  other_is : (n : Node V) (b at c : ℕ) → at ≢ b → n.children at ≡ Below c → ((x : ℕ) → x ≢ b → x ≢ at → n.children x ≡ Nothing) → (f from : ℕ) → from ≤ at → at < from + f → other_from n b f from ≡ c
  other_is n b at c ne e alone zero from l m = absurd (omega (arith, l, m))
  other_is n b at c ne e alone (suc f) from l m = elim (same_or_not from b) [
    | inl q ↦ ap (λ z. cond z (other_from n b f (from + 1)) (name_or (n.children from) (other_from n b f (from + 1)))) (same_test from b q) ∙ other_is n b at c ne e alone f (from + 1) (past q) (omega (arith, m))
    | inr nb ↦ ap (λ z. cond z (other_from n b f (from + 1)) (name_or (n.children from) (other_from n b f (from + 1)))) (other_test from b nb) ∙ elim (same_or_not from at) [
      | inl q ↦ (let P : ℕ → Type 0 = λ z. name_or (n.children z) (other_from n b f (from + 1)) ≡ c in subst P (sym q) (ap (λ z. name_or z (other_from n b f (from + 1))) e))
      | inr na ↦ ap (λ z. name_or z (other_from n b f (from + 1))) (alone from nb na) ∙ other_is n b at c ne e alone f (from + 1) (omega (arith, l, na)) (omega (arith, m))
    ]
  ] where
    past : from ≡ b → from + 1 ≤ at
    past q = let z : from ≢ at = (λ r. ne (sym r ∙ q)) in omega (arith, l, z)

  nothing_alike : (x y : Hung V) → HungAlike order x y → x ≡ Nothing → y ≡ Nothing
  nothing_alike x y a e = let P : Hung V → Type 0 = λ z. HungAlike order z y in subst P e a

  other_named : (n m : Node V) (b c : ℕ) → NodeAlike order n m → IsOther n b c → HungAlike {V = V} order (Below c) (Below (other_of m b))
  other_named n m b c a is =
      let P : Hung V → Type 0 = λ z. HungAlike order z (m.children is.at) in
      let y : (d : ℕ) × (m.children is.at ≡ Below d) × (slice_get order d ≡ Some c) = subst P is.child (a.children is.at) in
      let e : other_of m b ≡ y.0 = other_is m b is.at y.0 is.apart y.1 (λ z nb na. nothing_alike (n.children z) (m.children z) (a.children z) (is.alone z nb na)) 256 0 (omega arith) (omega (arith, is.fits)) in
      (y.0, ap Below e, y.2)

  -- a change of the node above
  module _ (h g : ℕ → Node V) (o : Ordered order h) (x : HeapAlike order h g) (h' : ℕ → Node V) (key : List ℕ) (two : ParentChange C) (u : ParentChange ℕ) (e : ParentChangeAlike order number two u) where
    abbrev p : ℕ
    p = number two.above.stamp.node

    abbrev n : ℕ
    n = number two.at.node

    abbrev value : V → Hung V
    value v = value_hung (Some v)

    abbrev last : ℕ
    last = slice_index key MAX_PREFIX_LEN

    hung_above : (a b : ℕ → Node V) (w z : Hung V) → Ordered order a → HeapAlike order a b → Stands (a p) → HungAlike order w z → ChangeGives a p two.above.byte w h' → Pair order a h' (hang b u.above.stamp.node u.above.byte z)
    hung_above a b w z oa xa s l k =
        let Q : ℕ → Type 0 = λ y. Pair order a h' (hang b u.above.stamp.node y z) in
        subst Q (sym e.above.byte) (pair_hung order a b oa xa p u.above.stamp.node two.above.byte w z h' e.above.stamp.node s l k)

    -- a lesser node without one child comes in the place of another one
    lesser_leaf : (m c b q up mn cn qn : ℕ) → slice_get order mn ≡ Some m → slice_get order cn ≡ Some c → slice_get order qn ≡ Some q → HoldsValues (h m) → MayLessen h m c b q up → PutsLesser h m c b q up h'
        → Pair order h h' (hang (hang (clear (copy g mn cn) mn) cn b Nothing) qn up (Below cn))
    lesser_leaf m c b q up mn cn qn em ec eq holds may k =
        next h k.0 h' (clear (copy g mn cn) mn) _ o (pair_cleared order h g o x m c mn cn k.0 em ec may.stands may.blank.stands may.old_apart k.2 holds)
        (λ o1 x1. next k.0 k.1 h' (hang (clear (copy g mn cn) mn) cn b Nothing) _ o1
        (pair_hung order k.0 _ o1 x1 c cn b Nothing Nothing k.1 ec (stands_over h m c k.0 c k.2 may.blank.stands) refl k.3)
        (λ o2 x2. pair_hung order k.1 _ o2 x2 q qn up (Below c) (Below cn) h' eq (stands_changed k.0 c _ _ k.1 q k.3 (stands_over h m c k.0 q k.2 may.above.stands)) (cn, refl, ec) k.4))

    lesser_inner : (m c b q up mn cn qn : ℕ) → slice_get order mn ≡ Some m → slice_get order cn ≡ Some c → slice_get order qn ≡ Some q → HoldsNodes (h m) → MayLessen h m c b q up → PutsLesser h m c b q up h'
        → Pair order h h' (hang (hang (copy g mn cn) cn b Nothing) qn up (Below cn))
    lesser_inner m c b q up mn cn qn em ec eq holds may k =
        next h k.0 h' (copy g mn cn) _ o (pair_copied order h g o x m c mn cn k.0 em ec may.stands may.blank.stands may.old_apart k.2 holds)
        (λ o1 x1. next k.0 k.1 h' (hang (copy g mn cn) cn b Nothing) _ o1
        (pair_hung order k.0 _ o1 x1 c cn b Nothing Nothing k.1 ec (stands_over h m c k.0 c k.2 may.blank.stands) refl k.3)
        (λ o2 x2. pair_hung order k.1 _ o2 x2 q qn up (Below c) (Below cn) h' eq (stands_changed k.0 c _ _ k.1 q k.3 (stands_over h m c k.0 q k.2 may.above.stands)) (cn, refl, ec) k.4))

    collapse_pair : (top : Option (Parent C)) (y : Option (Parent ℕ)) → TopAlike order number top y → MayTop number two Collapse top h → Collapses number two top h h' → Pair order h h' (change_top u Collapse y g)
    collapse_pair None y a may k = absurd may
    collapse_pair (Some top) y a may k =
        let P : Option (Parent ℕ) → Type 0 = λ z. Pair order h h' (change_top u Collapse z g) in
        let Q : ℕ → Type 0 = λ z. Pair order h h' (hang g a.0.stamp.node z (Below (other_of (g u.above.stamp.node) u.above.byte))) in
        let S : ℕ → Type 0 = λ z. HungAlike {V = V} order (Below k.0) (Below (other_of (g u.above.stamp.node) z)) in
        let is : HungAlike {V = V} order (Below k.0) (Below (other_of (g u.above.stamp.node) u.above.byte)) = subst S (sym e.above.byte) (other_named (h p) (g u.above.stamp.node) two.above.byte k.0 (x u.above.stamp.node p e.above.stamp.node may.stands) k.1) in
        subst P (sym a.1) (subst Q (sym a.2.byte) (pair_hung order h g o x (number top.stamp.node) a.0.stamp.node top.byte (Below k.0) (Below (other_of (g u.above.stamp.node) u.above.byte)) h' a.2.stamp.node may.stands_top is k.2))

    lessen_pair : (c : C) (m : ℕ) → Named order number c m → HoldsNodes (h p) → (top : Option (Parent C)) (y : Option (Parent ℕ)) → TopAlike order number top y → MayTop number two (ShrinkAbove c) top h → Lessens number two c top h h'
        → Pair order h h' (change_top u (ShrinkAbove m) y g)
    lessen_pair c m at holds None y a may k = absurd may
    lessen_pair c m at holds (Some top) y a may k =
        let P : Option (Parent ℕ) → Type 0 = λ z. Pair order h h' (change_top u (ShrinkAbove m) z g) in
        let Q : ℕ → Type 0 = λ z. Pair order h h' (hang (hang (copy g u.above.stamp.node m) m u.above.byte Nothing) a.0.stamp.node z (Below m)) in
        let S : ℕ → Type 0 = λ z. Pair order h h' (hang (hang (copy g u.above.stamp.node m) m z Nothing) a.0.stamp.node top.byte (Below m)) in
        subst P (sym a.1) (subst Q (sym a.2.byte) (subst S (sym e.above.byte) (lesser_inner p (number c) two.above.byte (number top.stamp.node) top.byte u.above.stamp.node m a.0.stamp.node e.above.stamp.node at a.2.stamp.node holds may k)))

    grow_pair : (v : V) (c : C) (m : ℕ) → Named order number c m → HoldsValues (h n) → MayChangeAbove number key (Some v) two (Grow c) h → ChangedAbove number key (Some v) two (Grow c) h h' → Pair order h h' (change_two key (Some v) u (Grow m) g)
    grow_pair v c m at holds may k =
        next h k.0 h' (clear (copy g u.at.node m) u.at.node) _ o
        (pair_cleared order h g o x n (number c) u.at.node m k.0 e.at.node at may.1 may.2.stands may.4 k.2 holds)
        (λ o1 x1. next k.0 k.1 h' (hang (clear (copy g u.at.node m) u.at.node) m last (value v)) _ o1
        (pair_hung order k.0 _ o1 x1 (number c) m last (value v) (value v) k.1 at (stands_over h n (number c) k.0 (number c) k.2 may.2.stands) refl k.3)
        (λ o2 x2. hung_above k.1 _ (Below (number c)) (Below m) o2 x2
        (stands_changed k.0 (number c) _ _ k.1 p k.3 (stands_over h n (number c) k.0 p k.2 may.0.stands)) (m, refl, at) k.4))

    grow_link_pair : (v : V) (c leaf : C) (byte m l : ℕ) → Named order number c m → Named order number leaf l → HoldsNodes (h n) → MayChangeAbove number key (Some v) two (GrowLink c leaf byte) h
        → ChangedAbove number key (Some v) two (GrowLink c leaf byte) h h' → Pair order h h' (change_two key (Some v) u (GrowLink m l byte) g)
    grow_link_pair v c leaf byte m l at al holds may k =
        let Q : Node V → Type 0 = λ y. HoldsNodes y in
        next h k.0 h' (hang g l last (value v)) _ o
        (pair_hung order h g o x (number leaf) l last (value v) (value v) k.0 al may.3.stands refl k.3)
        (λ o1 x1. next k.0 k.1 h' (copy (hang g l last (value v)) u.at.node m) _ o1
        (pair_copied order k.0 (hang g l last (value v)) o1 x1 n (number c) u.at.node m k.1 e.at.node at (stands_changed h (number leaf) _ _ k.0 n k.3 may.1) (stands_changed h (number leaf) _ _ k.0 (number c) k.3 may.2.stands) may.5 k.4
        (subst Q (sym (k.3.others n may.8)) holds))
        (λ o2 x2. next k.1 k.2 h' (hang (copy (hang g l last (value v)) u.at.node m) m byte (Below l)) _ o2
        (pair_hung order k.1 _ o2 x2 (number c) m byte (Below (number leaf)) (Below l) k.2 at (stands_over k.0 n (number c) k.1 (number c) k.4 (stands_changed h (number leaf) _ _ k.0 (number c) k.3 may.2.stands)) (l, refl, al) k.5)
        (λ o3 x3. hung_above k.2 _ (Below (number c)) (Below m) o3 x3
        (stands_changed k.1 (number c) _ _ k.2 p k.5 (stands_over k.0 n (number c) k.1 p k.4 (stands_changed h (number leaf) _ _ k.0 p k.3 may.0.stands))) (m, refl, at) k.6)))

    split_pair : (v : V) (top leaf : C) (common byte m l : ℕ) → Named order number top m → Named order number leaf l → MayChangeAbove number key (Some v) two (Split top leaf common byte) h
        → ChangedAbove number key (Some v) two (Split top leaf common byte) h h' → Pair order h h' (change_two key (Some v) u (Split m l common byte) g)
    split_pair v top leaf common byte m l at al may k =
        next h k.0 h' (hang g l last (value v)) _ o
        (pair_hung order h g o x (number leaf) l last (value v) (value v) k.0 al may.2.stands refl k.3)
        (λ o1 x1. next k.0 k.1 h' (hang (hang g l last (value v)) m byte (Below u.at.node)) _ o1
        (pair_hung order k.0 _ o1 x1 (number top) m byte (Below n) (Below u.at.node) k.1 at (stands_changed h (number leaf) _ _ k.0 (number top) k.3 may.1.stands) (u.at.node, refl, e.at.node) k.4)
        (λ o2 x2. next k.1 k.2 h' (hang (hang (hang g l last (value v)) m byte (Below u.at.node)) m (slice_index key common) (Below l)) _ o2
        (pair_hung order k.1 _ o2 x2 (number top) m (slice_index key common) (Below (number leaf)) (Below l) k.2 at (stands_changed k.0 (number top) _ _ k.1 (number top) k.4 (stands_changed h (number leaf) _ _ k.0 (number top) k.3 may.1.stands)) (l, refl, al) k.5)
        (λ o3 x3. hung_above k.2 _ (Below (number top)) (Below m) o3 x3
        (stands_changed k.1 (number top) _ _ k.2 p k.5 (stands_changed k.0 (number top) _ _ k.1 p k.4 (stands_changed h (number leaf) _ _ k.0 p k.3 may.0.stands))) (m, refl, at) k.6)))

    -- both sides are alike after the same change of two nodes
    pub change_two_pair : (new : Option V) (c : Replacement C) (y : Replacement ℕ) → ReplacementAlike order number c y → HoldsFor c (h n) (h p) → MayChangeAbove number key new two c h → ChangedAbove number key new two c h h' → Pair order h h' (change_two key new u y g)
    change_two_pair new Unlink y d holds may k =
        let P : Replacement ℕ → Type 0 = λ z. Pair order h h' (change_two key new u z g) in
        subst P (sym d) (hung_above h g _ _ o x may.stands refl k)
    change_two_pair new (Shrink c) y d holds may k =
        let P : Replacement ℕ → Type 0 = λ z. Pair order h h' (change_two key new u z g) in
        let Q : ℕ → Type 0 = λ z. Pair order h h' (hang (hang (clear (copy g u.at.node d.0) u.at.node) d.0 last Nothing) u.above.stamp.node z (Below d.0)) in
        subst P (sym d.1) (subst Q (sym e.above.byte) (lesser_leaf n (number c) last p two.above.byte u.at.node d.0 u.above.stamp.node e.at.node d.2 e.above.stamp.node holds may k))
    change_two_pair new Collapse y d holds may k =
        let P : Replacement ℕ → Type 0 = λ z. Pair order h h' (change_two key new u z g) in subst P (sym d) (collapse_pair two.top u.top e.top may k)
    change_two_pair new (ShrinkAbove c) y d holds may k =
        let P : Replacement ℕ → Type 0 = λ z. Pair order h h' (change_two key new u z g) in subst P (sym d.1) (lessen_pair c d.0 d.2 holds two.top u.top e.top may k)
    change_two_pair None (Grow c) y d holds may k = absurd may
    change_two_pair None (GrowLink c leaf byte) y d holds may k = absurd may
    change_two_pair None (Split top leaf common byte) y d holds may k = absurd may
    change_two_pair (Some v) (Grow c) y d holds may k = let P : Replacement ℕ → Type 0 = λ z. Pair order h h' (change_two key (Some v) u z g) in subst P (sym d.1) (grow_pair v c d.0 d.2 holds may k)
    change_two_pair (Some v) (GrowLink c leaf byte) y d holds may k = let P : Replacement ℕ → Type 0 = λ z. Pair order h h' (change_two key (Some v) u z g) in subst P (sym d.2) (grow_link_pair v c leaf byte d.0 d.1 d.3 d.4 holds may k)
    change_two_pair (Some v) (Split top leaf common byte) y d holds may k = let P : Replacement ℕ → Type 0 = λ z. Pair order h h' (change_two key (Some v) u z g) in subst P (sym d.2) (split_pair v top leaf common byte d.0 d.1 d.3 d.4 may k)
