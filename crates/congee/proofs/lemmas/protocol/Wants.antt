-- What the store wants of the nodes that a call's next step names, the call knows.
use Rattle.std.proofs.Common.{◌≡◌, ◌≢◌, ℕ, suc, ◌≤◌, ◌==◌, Bool, true, false, length, refl, sym, ◌∙◌, ap, subst, arith, inl, inr}
use Rattle.std.specs.Prelude.{Option, None, Some, slice_index}
use Rattle.congee.specs.declared.protocol.phase.Kind.{Kind}
use Rattle.congee.specs.declared.protocol.phase.Parent.{Parent}
use Rattle.congee.specs.declared.protocol.phase.Site.{Site}
use Rattle.congee.specs.declared.protocol.phase.Placement.{Placement}
use Rattle.congee.specs.declared.protocol.phase.Placement.TheVariants.{Set, Link}
use Rattle.congee.specs.declared.protocol.phase.NodeChange.{NodeChange}
use Rattle.congee.specs.declared.protocol.phase.Replacement.{Replacement}
use Rattle.congee.specs.declared.protocol.phase.Replacement.TheVariants.{Unlink, Grow, GrowLink, Split, Shrink, Collapse, ShrinkAbove}
use Rattle.congee.specs.declared.protocol.phase.ParentChange.{ParentChange}
use Rattle.congee.specs.declared.protocol.phase.Phase.{Phase}
use Rattle.congee.specs.declared.protocol.phase.Phase.TheVariants.{New, Version, Read, Check, CheckUncopied, CheckMiss, CheckDown, CheckOld, MakeGreater, MakeTop, MakeBeside, MakeLesser, Confirm, CheckAbove, UpgradeHere, ChangeHere, UpgradeTop, UpgradeAbove, UpgradeBelow, ChangeAbove, Obsolete, Retire, UnlockBelow, Unlock, Unwind, Scan}
use Rattle.congee.specs.Heap.{Node, Hung, Nothing, Below, Holds, Stands, child_for}
use Rattle.congee.specs.protocol.Events.{MayChange, HoldsNodes, HoldsAlike, Parts}
use Rattle.congee.specs.protocol.Steps.{value_hung, MayBackHere, MayBackAbove, MayBackLeaf, Changeable, Blank, MayTop, MayChangeHere, MayChangeAbove, MayStep}
use Rattle.congee.specs.Keys.{key_bytes}
use Rattle.congee.specs.Notes.{Note, Linked, is_published, IsChild, Tree, LockWords}
use Rattle.congee.specs.protocol.Protocol.{Made, Holding, MadeHere, MadeAbove, MadeLeafFor, FitsHere, FitsAbove, HereLocked, BothLocked, TopLocked, HasTop, WantedAbove, PlacedAbove, Known}
use Rattle.congee.proofs.lemmas.Fits.{equal_of_test, same_test}
use Rattle.congee.proofs.lemmas.Graft.{on_test}
use Rattle.congee.proofs.lemmas.protocol.Touch.{owner_locked}
use Rattle.congee.proofs.lemmas.protocol.Change.{made_apart}
use Rattle.congee.proofs.lemmas.protocol.ScanWants.{scan_wants}

-- a node of the tree holds values where its prefix has seven bytes, and nodes where it is shorter
pub holds_alike : {V : Type 0} (a : ℕ → Note) (h : ℕ → Node V) → Tree a h → (n : ℕ) → (a n).status ≡ Linked → HoldsAlike (h n)
holds_alike {V} a h t n l = on_test (length (h n).prefix == 7) leaf inner where
  leaf : (length (h n).prefix == 7) ≡ true → HoldsAlike (h n)
  leaf e = inl (λ b c x.
      let y : IsChild a h n b c = t.down n b c l x in
      let long : length (h n).prefix ≡ 7 = equal_of_test (length (h n).prefix) 7 e in
      absurd (omega (arith, y.longer, t.short c y.linked, long)))

  inner : (length (h n).prefix == 7) ≡ false → HoldsAlike (h n)
  inner e = inr (λ b v x. let y : (length (h n).prefix == 7) ≡ true = same_test (length (h n).prefix) 7 (t.leaves n b v l x) in let z : true ≡ false = sym y ∙ e in cc)

module _ {C V : Type 0} (number : C → ℕ) (same : V → V → Bool) (always : Bool) (i : ℕ) (a : ℕ → Note) (h : ℕ → Node V) (k : ℕ) (t : Tree a h) (w : LockWords a h) where
  there : (n : ℕ) → is_published (a n).status ≡ true → Stands (h n)
  there n p = (w.each n).stands p

  made_there : (c size least : ℕ) → Made i a h (key_bytes k) c size least → Stands (h c)
  made_there c size least m = record { made = m.made; kept = m.kept }

  blank : (c size least : ℕ) → Made i a h (key_bytes k) c size least → Blank (h c) least
  blank c size least m = record { stands = made_there c size least m; empty = m.empty; blank = m.blank; room = m.room }

  held_there : (n : ℕ) → Holding i a n → Stands (h n) × ((h n).locked ≡ true)
  held_there n o = (there n (ap is_published o.linked), owner_locked a h w n i o.owner)

  back_leaf : (s : Site C) (leaf : Option C) → MadeLeafFor number i a h (key_bytes k) s leaf → MayBackLeaf number h leaf
  back_leaf s None m = tt
  back_leaf s (Some leaf) m = made_there (number leaf) 7 0 m.1

  may_back_one : (change : Placement C) → MadeHere number i a h (key_bytes k) change → MayBackHere number h change
  may_back_one Set m = tt
  may_back_one (Link leaf) m = made_there (number leaf) 7 0 m

  may_back_two : (p : Parent C) (change : Replacement C) (size q : ℕ) → MadeAbove number i a h (key_bytes k) p change size q → MayBackAbove number h change
  may_back_two p Unlink size q m = tt
  may_back_two p Collapse size q m = tt
  may_back_two p (Shrink c) size q m = made_there (number c) size q m
  may_back_two p (ShrinkAbove c) size q m = made_there (number c) p.depth q m.0
  may_back_two p (Grow c) size q m = made_there (number c) size q m
  may_back_two p (GrowLink c leaf byte) size q m = (made_there (number leaf) 7 0 m.1, made_there (number c) size q m.0, m.2)
  may_back_two p (Split top leaf common byte) size q m = (made_there (number leaf) 7 0 m.1, made_there (number top) common 1 m.0, m.2)

  -- what hangs at the call's byte of a node
  at_byte : (n b : ℕ) (x : Hung V) → b ≡ slice_index (key_bytes k) (length (h n).prefix) → child_for (h n) (key_bytes k) ≡ x → (h n).children b ≡ x
  at_byte n b x e f = ap (h n).children e ∙ f

  set_room : (n b : ℕ) (x : Hung V) (given : Option V) → (h n).children b ≡ x → (x ≡ Nothing → ((h n).count == (h n).capacity) ≡ false) → FitsHere {C = C} Set x given → MayChange (h n) b (value_hung given)
  set_room n b x None e r f = λ z. f.1 (sym e ∙ z)
  set_room n b x (Some v) e r f = λ z. r (sym e ∙ z)

  one_wants : (one : NodeChange C) (change : Placement C) (x : Hung V) (given : Option V) → one.change ≡ change → HereLocked number i a h (key_bytes k) one x → FitsHere change x given → MadeHere number i a h (key_bytes k) change → MayChangeHere number given one change h
  one_wants one Set x given c o f m =
      let n : ℕ = number one.at.node in
      let e : (h (number one.at.node)).children one.byte ≡ x = at_byte (number one.at.node) one.byte x o.placed.byte o.wanted.child in
      let s : Stands (h (number one.at.node)) × ((h (number one.at.node)).locked ≡ true) = held_there (number one.at.node) o.holding in
      record { stands = s.0; locked = s.1; room = set_room (number one.at.node) one.byte x given e o.wanted.room f }
  one_wants one (Link leaf) x None c o f m = f
  one_wants one (Link leaf) x (Some v) c o f m =
      let s : Stands (h (number one.at.node)) × ((h (number one.at.node)).locked ≡ true) = held_there (number one.at.node) o.holding in (
        record { stands = s.0; locked = s.1; room = λ _. o.wanted.room f },
        blank (number leaf) 7 0 m,
        (λ e. made_apart i a h (key_bytes k) (number leaf) 7 0 (number one.at.node) m (ap is_published o.holding.linked) (sym e)),
      )

  module _ (two : ParentChange C) (found : Option V) (q : ℕ) (o : BothLocked number i a h (key_bytes k) two found q) where
    hangs : (h (number two.above.stamp.node)).children two.above.byte ≡ Below (number two.at.node)
    hangs = at_byte (number two.above.stamp.node) two.above.byte (Below (number two.at.node)) o.above.byte o.above.child

    is_child : IsChild a h (number two.above.stamp.node) two.above.byte (number two.at.node)
    is_child = t.down (number two.above.stamp.node) two.above.byte (number two.at.node) o.above.holding.linked hangs

    at_published : is_published (a (number two.at.node)).status ≡ true
    at_published = ap is_published is_child.linked

    above_published : is_published (a (number two.above.stamp.node)).status ≡ true
    above_published = ap is_published o.above.holding.linked

    two_apart : number two.above.stamp.node ≢ number two.at.node
    two_apart e = let z : length (h (number two.above.stamp.node)).prefix ≡ length (h (number two.at.node)).prefix = ap (λ y. length (h y).prefix) e in absurd (omega (arith, is_child.longer))

    apart_above : (c size least : ℕ) → Made i a h (key_bytes k) c size least → number two.above.stamp.node ≢ c
    apart_above c size least m e = made_apart i a h (key_bytes k) c size least (number two.above.stamp.node) m above_published (sym e)

    apart_at : (c size least : ℕ) → Made i a h (key_bytes k) c size least → number two.at.node ≢ c
    apart_at c size least m e = made_apart i a h (key_bytes k) c size least (number two.at.node) m at_published (sym e)

    put_above : (c : ℕ) → Changeable (h (number two.above.stamp.node)) two.above.byte (Below c)
    put_above c = let s : Stands (h (number two.above.stamp.node)) × ((h (number two.above.stamp.node)).locked ≡ true) = held_there (number two.above.stamp.node) o.above.holding in
        record { stands = s.0; locked = s.1; room = λ z. absurd (let y : Below (number two.at.node) ≡ Nothing = sym hangs ∙ z in cc) }

    take_above : Changeable (h (number two.above.stamp.node)) two.above.byte Nothing
    take_above = let s : Stands (h (number two.above.stamp.node)) × ((h (number two.above.stamp.node)).locked ≡ true) = held_there (number two.above.stamp.node) o.above.holding in
        record { stands = s.0; locked = s.1; room = λ z. let y : Below (number two.at.node) ≡ Nothing = sym hangs ∙ z in cc }

    counted : (c size : ℕ) → (h (number two.at.node)).count ≡ q → Made i a h (key_bytes k) c size q → Blank (h c) (h (number two.at.node)).count
    counted c size e m = let P : ℕ → Type 0 = λ x. Blank (h c) x in subst P (sym e) (blank c size q m)

  with_room : (c size least : ℕ) → Made i a h (key_bytes k) c size least → Blank (h c) 0
  with_room c size least m = record { stands = made_there c size least m; empty = m.empty; blank = m.blank; room = omega (arith, m.room) }

  -- an inner node holds nodes
  inner_nodes : (n b c : ℕ) → (a n).status ≡ Linked → (h n).children b ≡ Below c → HoldsNodes (h n)
  inner_nodes n b c l e = λ x v y.
      let ch : IsChild a h n b c = t.down n b c l e in
      let s : length (h n).prefix ≡ 7 = t.leaves n x v l y in
      absurd (omega (arith, ch.longer, t.short c ch.linked, s))

  -- the change of the node above both
  collapse_wants : (two : ParentChange C) (found : Option V) (q : ℕ) (o : BothLocked number i a h (key_bytes k) two found q) → two.above.count ≡ 2 → (top : Option (Parent C)) → HasTop {C = C} Collapse top → TopLocked number i a h (key_bytes k) top (number two.above.stamp.node)
      → MayTop number two Collapse top h
  collapse_wants two found q o e None z l = absurd z
  collapse_wants two found q o e (Some top) z l =
      let s : Stands (h (number top.stamp.node)) × ((h (number top.stamp.node)).locked ≡ true) = held_there (number top.stamp.node) l.holding in
      let g : (h (number top.stamp.node)).children top.byte ≡ Below (number two.above.stamp.node) = at_byte (number top.stamp.node) top.byte (Below (number two.above.stamp.node)) l.byte l.child in
      record {
        stands_top = s.0;
        locked = s.1;
        hung = (λ n. let y : Below (number two.above.stamp.node) ≡ Nothing = sym g ∙ n in cc);
        stands = there (number two.above.stamp.node) (above_published two found q o);
        nodes = inner_nodes (number two.above.stamp.node) two.above.byte (number two.at.node) o.above.holding.linked (hangs two found q o);
        two = o.above.count ∙ e;
        there = (λ n. let y : Below (number two.at.node) ≡ Nothing = sym (hangs two found q o) ∙ n in cc);
      }

  lessen_wants : (two : ParentChange C) (found : Option V) (q : ℕ) (o : BothLocked number i a h (key_bytes k) two found q) (c : C) → Made i a h (key_bytes k) (number c) two.above.depth q × (two.above.count ≤ suc q) → (top : Option (Parent C)) → HasTop (ShrinkAbove c) top
      → TopLocked number i a h (key_bytes k) top (number two.above.stamp.node) → MayTop number two (ShrinkAbove c) top h
  lessen_wants two found q o c m None z l = absurd z
  lessen_wants two found q o c m (Some top) z l =
      let s : Stands (h (number top.stamp.node)) × ((h (number top.stamp.node)).locked ≡ true) = held_there (number top.stamp.node) l.holding in
      let g : (h (number top.stamp.node)).children top.byte ≡ Below (number two.above.stamp.node) = at_byte (number top.stamp.node) top.byte (Below (number two.above.stamp.node)) l.byte l.child in
      let ch : IsChild a h (number top.stamp.node) top.byte (number two.above.stamp.node) = t.down (number top.stamp.node) top.byte (number two.above.stamp.node) l.holding.linked g in
      record {
        above = record { stands = s.0; locked = s.1; room = λ n. absurd (let y : Below (number two.above.stamp.node) ≡ Nothing = sym g ∙ n in cc) };
        stands = there (number two.above.stamp.node) (above_published two found q o);
        alike = holds_alike a h t (number two.above.stamp.node) o.above.holding.linked;
        there = (λ n. let y : Below (number two.at.node) ≡ Nothing = sym (hangs two found q o) ∙ n in cc);
        blank = with_room (number c) _ q m.0;
        room = omega (arith, m.1, o.above.count, m.0.room);
        above_apart = (λ n. made_apart i a h (key_bytes k) (number c) _ q (number top.stamp.node) m.0 (ap is_published l.holding.linked) (sym n));
        old_apart = apart_above two found q o (number c) _ q m.0;
        apart = (λ n. let y : length (h (number top.stamp.node)).prefix ≡ length (h (number two.above.stamp.node)).prefix = ap (λ y. length (h y).prefix) n in absurd (omega (arith, ch.longer)));
      }

  two_wants : (two : ParentChange C) (change : Replacement C) (found : Option V) (q : ℕ) (given : Option V) → two.change ≡ change → BothLocked number i a h (key_bytes k) two found q → HasTop change two.top → FitsAbove change found given → MayChangeAbove number (key_bytes k) given two change h
  two_wants two Unlink found q given e o z f = take_above two found q o
  two_wants two (Shrink c) None q given e o z f = absurd f
  two_wants two (Shrink c) (Some v) q given e o z f =
      let m : Made i a h (key_bytes k) (number c) (length (h (number two.at.node)).prefix) q = (let P : Replacement C → Type 0 = λ y. MadeAbove number i a h (key_bytes k) two.above y (length (h (number two.at.node)).prefix) q in subst P e o.made) in
      let g : (child_for (h (number two.at.node)) (key_bytes k) ≡ Holds v) × ((h (number two.at.node)).count ≤ suc q) = (let P : Replacement C → Type 0 = λ y. WantedAbove {C = C} {V = V} (key_bytes k) y (Some v) q (h (number two.at.node)) in subst P e o.wanted) in
      let l : length (h (number two.at.node)).prefix ≡ 7 = t.leaves (number two.at.node) _ v (is_child two (Some v) q o).linked g.0 in
      let b : (h (number two.at.node)).children (slice_index (key_bytes k) 7) ≡ Holds v = (let P : ℕ → Type 0 = λ y. (h (number two.at.node)).children (slice_index (key_bytes k) y) ≡ Holds v in subst P l g.0) in
      record {
        above = put_above two (Some v) q o (number c);
        stands = there (number two.at.node) (at_published two (Some v) q o);
        alike = holds_alike a h t (number two.at.node) (is_child two (Some v) q o).linked;
        there = (λ n. let y : Holds v ≡ Nothing = sym b ∙ n in cc);
        blank = with_room (number c) _ q m;
        room = omega (arith, g.1, m.room);
        above_apart = apart_above two (Some v) q o (number c) _ q m;
        old_apart = apart_at two (Some v) q o (number c) _ q m;
        apart = two_apart two (Some v) q o;
      }
  two_wants two Collapse found q given e o z f = collapse_wants two found q o (let P : Replacement C → Type 0 = λ y. MadeAbove number i a h (key_bytes k) two.above y (length (h (number two.at.node)).prefix) q in subst P e o.made) two.top z o.top
  two_wants two (ShrinkAbove c) found q given e o z f = lessen_wants two found q o c (let P : Replacement C → Type 0 = λ y. MadeAbove number i a h (key_bytes k) two.above y (length (h (number two.at.node)).prefix) q in subst P e o.made) two.top z o.top
  two_wants two (Grow c) None q None e o z f = f
  two_wants two (Grow c) (Some x) q given e o z f = absurd f
  two_wants two (Grow c) None q (Some v) e o z f =
      let m : Made i a h (key_bytes k) (number c) (length (h (number two.at.node)).prefix) q = (let P : Replacement C → Type 0 = λ y. MadeAbove number i a h (key_bytes k) two.above y (length (h (number two.at.node)).prefix) q in subst P e o.made) in
      let g : (child_for (h (number two.at.node)) (key_bytes k) ≡ Nothing) × ((h (number two.at.node)).count ≡ q) = (let P : Replacement C → Type 0 = λ y. WantedAbove {C = C} {V = V} (key_bytes k) y None q (h (number two.at.node)) in subst P e o.wanted) in (
        put_above two None q o (number c),
        there (number two.at.node) (at_published two None q o),
        counted two None q o (number c) _ g.1 m,
        apart_above two None q o (number c) _ q m,
        apart_at two None q o (number c) _ q m,
        two_apart two None q o,
        holds_alike a h t (number two.at.node) (is_child two None q o).linked,
      )
  two_wants two (GrowLink c leaf byte) None q None e o z f = f
  two_wants two (GrowLink c leaf byte) (Some x) q given e o z f = absurd f
  two_wants two (GrowLink c leaf byte) None q (Some v) e o z f =
      let m : MadeAbove number i a h (key_bytes k) two.above (GrowLink c leaf byte) (length (h (number two.at.node)).prefix) q = (let P : Replacement C → Type 0 = λ y. MadeAbove number i a h (key_bytes k) two.above y (length (h (number two.at.node)).prefix) q in subst P e o.made) in
      let g : (child_for (h (number two.at.node)) (key_bytes k) ≡ Nothing) × ((h (number two.at.node)).count ≡ q) = (let P : Replacement C → Type 0 = λ y. WantedAbove {C = C} {V = V} (key_bytes k) y None q (h (number two.at.node)) in subst P e o.wanted) in (
        put_above two None q o (number c),
        there (number two.at.node) (at_published two None q o),
        counted two None q o (number c) _ g.1 m.0,
        blank (number leaf) 7 0 m.1,
        apart_above two None q o (number c) _ q m.0,
        apart_at two None q o (number c) _ q m.0,
        two_apart two None q o,
        apart_above two None q o (number leaf) 7 0 m.1,
        apart_at two None q o (number leaf) 7 0 m.1,
        m.2,
        holds_alike a h t (number two.at.node) (is_child two None q o).linked,
      )
  two_wants two (Split top leaf common byte) None q None e o z f = f
  two_wants two (Split top leaf common byte) (Some x) q given e o z f = absurd f
  two_wants two (Split top leaf common byte) None q (Some v) e o z f =
      let m : MadeAbove number i a h (key_bytes k) two.above (Split top leaf common byte) (length (h (number two.at.node)).prefix) q = (let P : Replacement C → Type 0 = λ y. MadeAbove number i a h (key_bytes k) two.above y (length (h (number two.at.node)).prefix) q in subst P e o.made) in
      let g : Parts (h (number two.at.node)).prefix (key_bytes k) common × (byte ≡ slice_index (h (number two.at.node)).prefix common) = (let P : Replacement C → Type 0 = λ y. PlacedAbove (key_bytes k) y (h (number two.at.node)).prefix in subst P e o.placed) in (
        put_above two None q o (number top),
        blank (number top) common 1 m.0,
        blank (number leaf) 7 0 m.1,
        g.0.seventh,
        (λ z. g.0.apart (sym g.1 ∙ z)),
        apart_above two None q o (number top) common 1 m.0,
        apart_above two None q o (number leaf) 7 0 m.1,
        m.2,
      )

  -- a call that knows what its phase says may step
  pub wants : (root : C) → number root ≡ 0 → (kind : Kind V) (given : Option V) (s : Phase C V) → Known number same always i a h k (key_bytes k) kind given s → MayStep number root (key_bytes k) given s h
  wants root z kind given New m = there (number root) (let P : ℕ → Type 0 = λ x. is_published (a x).status ≡ true in subst P (sym z) (ap is_published t.root))
  wants root z kind given (Version p n) m = there (number n) m.2
  wants root z kind given (Read p at) m = there (number at.node) m.2.published
  wants root z kind given (Check s c) m = there (number s.at.node) m.1.fresh.stamped.published
  wants root z kind given (CheckUncopied at) m = there (number at.node) m.1.published
  wants root z kind given (CheckMiss p at common byte) m = there (number p.stamp.node) m.1.fresh.stamped.published
  wants root z kind given (CheckDown p at c) m = there (number p.node) m.1.published
  wants root z kind given (CheckOld p s v) m = there (number p.node) m.1.published
  wants root z kind given (MakeGreater s p leaf) m = (m.1.short, back_leaf s leaf m.3)
  wants root z kind given (MakeTop p at common byte) m = m.3.seventh
  wants root z kind given (MakeBeside p at common byte top) m = made_there (number top) common 1 m.6
  wants root z kind given (MakeLesser s p g r) m = (m.1.1.short, m.4.short)
  wants root z kind given (Confirm at r) m = there (number at.node) m.1.1.fresh.stamped.published
  wants root z kind given (CheckAbove p one r) m = (there (number p.node) m.1.published, may_back_one one.change m.2.made)
  wants root z kind given (UpgradeHere one r) m = (there (number one.at.node) m.1.1.fresh.stamped.published, may_back_one one.change m.1.1.made)
  wants root z kind given (ChangeHere one r) m = one_wants one one.change m.0 given refl m.1 m.2 m.1.made
  wants root z kind given (UpgradeTop g two r) m = (there (number g.stamp.node) m.2.fresh.stamped.published, may_back_two two.above two.change _ _ m.1.2.made)
  wants root z kind given (UpgradeAbove two r) m = (there (number two.above.stamp.node) m.1.2.above.fresh.stamped.published, may_back_two two.above two.change _ _ m.1.2.made)
  wants root z kind given (UpgradeBelow two r) m = (there (number two.at.node) m.1.2.fresh.stamped.published, may_back_two two.above two.change _ _ m.1.2.made)
  wants root z kind given (ChangeAbove two r) m = two_wants two two.change m.0 m.1 given refl m.2 m.3 m.4
  wants root z kind given (Obsolete n next p r) m = (there (number n) (ap is_published m.0.gone), owner_locked a h w (number n) i m.0.owner)
  wants root z kind given (Retire n next p r) m = (there (number n) (ap is_published m.0.gone), m.2, m.0.unretired)
  wants root z kind given (UnlockBelow n p r) m = held_there (number n) m.0
  wants root z kind given (Unlock n r) m = held_there (number n) m
  wants root z kind given (Unwind n next e) m = held_there (number n) m.1
  wants root z kind given (Scan s) m = scan_wants number always a h t w root z s m
  wants root z kind given _ m = tt
