-- What a call may count on over the steps of others, and that its knowledge is kept by them.
use Rattle.std.proofs.Common.{◌≡◌, ℕ, Bool, true, List, length, sym, ◌∙◌, ap, subst}
use Rattle.std.specs.Prelude.{Option, None, Some}
use Rattle.congee.specs.declared.protocol.phase.Parent.{Parent}
use Rattle.congee.specs.declared.protocol.phase.Above.{Above as Over}
use Rattle.congee.specs.declared.protocol.phase.Site.{Site}
use Rattle.congee.specs.declared.protocol.phase.Placement.{Placement}
use Rattle.congee.specs.declared.protocol.phase.NodeChange.{NodeChange}
use Rattle.congee.specs.declared.protocol.phase.Replacement.{Replacement}
use Rattle.congee.specs.declared.protocol.phase.ParentChange.{ParentChange}
use Rattle.congee.specs.declared.protocol.phase.Plan.{Plan}
use Rattle.congee.specs.declared.protocol.phase.Plan.TheVariants.{Here, Above}
use Rattle.congee.specs.declared.protocol.phase.Kind.{Kind}
use Rattle.congee.specs.declared.protocol.phase.Phase.{Phase}
use Rattle.congee.specs.declared.protocol.phase.Phase.TheVariants.{New, Version, Read, Check, CheckUncopied, CheckMiss, CheckDown, CheckOld, MakeLeaf, MakeGreater, MakeTop, MakeBeside, MakeLesser, AskOld, AskNew, Confirm, CheckAbove, UpgradeHere, ChangeHere, UpgradeTop, UpgradeAbove, UpgradeBelow, ChangeAbove, Obsolete, Retire, UnlockBelow, Unlock, Unwind, Scan, Ended}
use Rattle.congee.specs.declared.protocol.store.Stamp.{Stamp}
use Rattle.congee.specs.Heap.{Node, Hung}
use Rattle.congee.specs.protocol.Events.{hung, Parts}
use Rattle.congee.specs.Notes.{Note}
use Rattle.congee.specs.protocol.Protocol.{ChildOf, IsFar, IsAbove, TopLocked, AlsoOut, AlsoHolding, IsLesser, Knows, PlacedHere, WantedHere, HereKnown, HereLocked, PlacedAbove, WantedAbove, AboveKnown, AboveLocked, HalfLocked, BothLocked, TakenOut, StampedIf, PlanKnown, MadeLeafFor, Known, Rely, Made, MadeHere, MadeAbove}
use Rattle.congee.specs.protocol.Names.{name_above, names_over, name_stamped, name_made, names_site, names_one, names_plan, names}
use Rattle.congee.specs.declared.protocol.phase.Replacement.TheVariants.{Collapse, Grow, GrowLink, Shrink, ShrinkAbove, Split, Unlink}
use Rattle.congee.specs.declared.protocol.phase.Placement.TheVariants.{Link, Set}
use Rattle.congee.proofs.lemmas.protocol.Each.{Each, each_left, each_right}
pub use Rattle.congee.proofs.lemmas.protocol.Stamps.{stamped_kept, fresh_kept, fits_kept, holding_kept, made_kept}
use Rattle.congee.proofs.lemmas.protocol.ScanRely.{scan_known_kept}

module _ {C V : Type 0} (number : C → ℕ) (i : ℕ) (a : ℕ → Note) (h : ℕ → Node V) (a' : ℕ → Note) (h' : ℕ → Node V) (key : List ℕ)
    (kept : (c size least : ℕ) → Made i a h key c size least → Made i a' h' key c size least) where
  -- where made nodes stay made, so do those of a plan that changes one node
  pub made_one_kept : (change : Placement C) → MadeHere number i a h key change → MadeHere number i a' h' key change
  made_one_kept Set m = tt
  made_one_kept (Link leaf) m = kept (number leaf) 7 0 m

  -- and those of one that changes two, with the size that it knows
  pub made_two_kept : (p : Parent C) (change : Replacement C) (size size' q : ℕ) → size' ≡ size → MadeAbove number i a h key p change size q → MadeAbove number i a' h' key p change size' q
  made_two_kept p Unlink size size' q e m = tt
  made_two_kept p Collapse size size' q e m = m
  made_two_kept p (Shrink c) size size' q e m = let P : ℕ → Type 0 = λ x. Made i a' h' key (number c) x q in subst P (sym e) (kept (number c) size q m)
  made_two_kept p (ShrinkAbove c) size size' q e m = (kept (number c) p.depth q m.0, m.1)
  made_two_kept p (Grow c) size size' q e m = let P : ℕ → Type 0 = λ x. Made i a' h' key (number c) x q in subst P (sym e) (kept (number c) size q m)
  made_two_kept p (GrowLink c leaf byte) size size' q e m = (
    (let P : ℕ → Type 0 = λ x. Made i a' h' key (number c) x q in subst P (sym e) (kept (number c) size q m.0)),
    kept (number leaf) 7 0 m.1,
    m.2,
  )
  made_two_kept p (Split top leaf common byte) size size' q e m =
      (kept (number top) common 1 m.0, kept (number leaf) 7 0 m.1, m.2)

module _ {C V : Type 0} (number : C → ℕ) (key : List ℕ) (K : ℕ → Type 0) (i : ℕ) (a : ℕ → Note) (h : ℕ → Node V) (a' : ℕ → Note) (h' : ℕ → Node V) (r : Rely K i a h a' h') where
  -- that a node was read in the one above stays known over the steps of others
  pub child_kept : (p : Parent C) (n : ℕ) → K (number p.stamp.node) → ChildOf number a h key p n → ChildOf number a' h' key p n
  child_kept p n k c = record {
    fitted = fits_kept K i a h a' h' r (number p.stamp.node) key true k c.fresh.stamped.published c.fitted;
    byte = rw (r.prefix (number p.stamp.node) k c.fresh.stamped.published) c.byte;
    depth = rw (r.prefix (number p.stamp.node) k c.fresh.stamped.published) c.depth;
    short = c.short;
    fresh = fresh_kept K i a h a' h' r (number p.stamp.node) p.stamp.version _ k c.fresh;
  }

  far_kept : (p : Option (Parent C)) (n : ℕ) → Each K (name_above number p) → IsFar number a h key p n → IsFar number a' h' key p n
  far_kept None n k e = e
  far_kept (Some p) n k c = child_kept p n k.0 c

  -- what is known of the nodes above one stays known over the steps of others
  pub above_kept : (p : Option (Over C)) (n : ℕ) → Each K (names_over number p) → IsAbove number a h key p n → IsAbove number a' h' key p n
  above_kept None n k e = e
  above_kept (Some u) n k c = (child_kept u.near n k.0 c.0, far_kept u.far (number u.near.stamp.node) k.1 c.1)

  -- what is known of the node at hand, and of what hangs there, stays known over the steps of others
  pub knows_kept : (s : Site C) (x : Hung V) → Each K (names_over number s.above) → K (number s.at.node) → Knows number a h key s x → Knows number a' h' key s x
  knows_kept s x ka k w =
      let e : (h' (number s.at.node)).prefix ≡ (h (number s.at.node)).prefix = r.prefix (number s.at.node) k w.fresh.stamped.published in
      record {
        above = above_kept s.above (number s.at.node) ka w.above;
        fitted = rw e w.fitted;
        depth = rw e w.depth;
        short = w.short;
        byte = rw e w.byte;
        fresh = fresh_kept K i a h a' h' r (number s.at.node) s.at.version _ k w.fresh;
      }

  placed_one_kept : (change : Placement C) (byte : ℕ) (p p' : List ℕ) → p' ≡ p → PlacedHere key change byte p → PlacedHere key change byte p'
  placed_one_kept change byte p p' e x = let P : List ℕ → Type 0 = λ y. PlacedHere key change byte y in subst P (sym e) x

  placed_two_kept : (change : Replacement C) (p p' : List ℕ) → p' ≡ p → PlacedAbove key change p → PlacedAbove key change p'
  placed_two_kept change p p' e x = let P : List ℕ → Type 0 = λ y. PlacedAbove key change y in subst P (sym e) x

  one_kept : (one : NodeChange C) (x : Hung V) → K (number one.at.node) → HereKnown number i a h key one x → HereKnown number i a' h' key one x
  one_kept one x k o = record {
    placed = placed_one_kept one.change one.byte _ _ (r.prefix (number one.at.node) k o.fresh.stamped.published) o.placed;
    fresh = fresh_kept K i a h a' h' r (number one.at.node) one.at.version _ k o.fresh;
    made = made_one_kept number i a h a' h' key (made_kept K i a h a' h' r key) one.change o.made;
  }

  one_locked_kept : (one : NodeChange C) (x : Hung V) → HereLocked number i a h key one x → HereLocked number i a' h' key one x
  one_locked_kept one x o =
      let e : h' (number one.at.node) ≡ h (number one.at.node) = (r.mine (number one.at.node) o.holding.owner).0 in
      record {
        holding = holding_kept K i a h a' h' r (number one.at.node) o.holding;
        placed = placed_one_kept one.change one.byte _ _ (ap (λ z. z.prefix) e) o.placed;
        wanted = (let P : Node V → Type 0 = λ z. WantedHere key x z in subst P (sym e) o.wanted);
        made = made_one_kept number i a h a' h' key (made_kept K i a h a' h' r key) one.change o.made;
      }

  above_locked_kept : (p : Parent C) (n : ℕ) → AboveLocked number i a h key p n → AboveLocked number i a' h' key p n
  above_locked_kept p n o =
      let e : h' (number p.stamp.node) ≡ h (number p.stamp.node) = (r.mine (number p.stamp.node) o.holding.owner).0 in
      record {
        holding = holding_kept K i a h a' h' r (number p.stamp.node) o.holding;
        fitted = rw e o.fitted;
        byte = rw e o.byte;
        child = rw e o.child;
        depth = rw e o.depth;
        count = rw e o.count;
        form = rw e o.form;
      }

  top_kept : (p : Option (Parent C)) (n : ℕ) → TopLocked number i a h key p n → TopLocked number i a' h' key p n
  top_kept None n o = tt
  top_kept (Some g) n o = above_locked_kept g n o

  two_kept : (two : ParentChange C) (found : Option V) (q : ℕ) → K (number two.above.stamp.node) → K (number two.at.node) → AboveKnown number i a h key two found q → AboveKnown number i a' h' key two found q
  two_kept two found q kp k o =
      let e : (h' (number two.at.node)).prefix ≡ (h (number two.at.node)).prefix = r.prefix (number two.at.node) k o.fresh.stamped.published in
      record {
        top = top_kept two.top (number two.above.stamp.node) o.top;
        above = child_kept two.above (number two.at.node) kp o.above;
        placed = placed_two_kept two.change _ _ e o.placed;
        fresh = fresh_kept K i a h a' h' r (number two.at.node) two.at.version _ k o.fresh;
        made = made_two_kept number i a h a' h' key (made_kept K i a h a' h' r key) two.above two.change _ _ q (ap length e) o.made;
      }

  half_kept : (two : ParentChange C) (found : Option V) (q : ℕ) → K (number two.at.node) → HalfLocked number i a h key two found q → HalfLocked number i a' h' key two found q
  half_kept two found q k o =
      let e : (h' (number two.at.node)).prefix ≡ (h (number two.at.node)).prefix = r.prefix (number two.at.node) k o.fresh.stamped.published in
      record {
        top = top_kept two.top (number two.above.stamp.node) o.top;
        above = above_locked_kept two.above (number two.at.node) o.above;
        placed = placed_two_kept two.change _ _ e o.placed;
        fresh = fresh_kept K i a h a' h' r (number two.at.node) two.at.version _ k o.fresh;
        made = made_two_kept number i a h a' h' key (made_kept K i a h a' h' r key) two.above two.change _ _ q (ap length e) o.made;
      }

  two_locked_kept : (two : ParentChange C) (found : Option V) (q : ℕ) → BothLocked number i a h key two found q → BothLocked number i a' h' key two found q
  two_locked_kept two found q o =
      let e : (h' (number two.at.node) ≡ h (number two.at.node)) × ((a' (number two.at.node)).status ≡ (a (number two.at.node)).status) × ((a' (number two.at.node)).owner ≡ (a (number two.at.node)).owner) = r.mine (number two.at.node) o.owner in
      record {
        top = top_kept two.top (number two.above.stamp.node) o.top;
        above = above_locked_kept two.above (number two.at.node) o.above;
        owner = e.2 ∙ o.owner;
        placed = placed_two_kept two.change _ _ (ap (λ z. z.prefix) e.0) o.placed;
        wanted = (let P : Node V → Type 0 = λ z. WantedAbove key two.change found q z in subst P (sym e.0) o.wanted);
        made = made_two_kept number i a h a' h' key (made_kept K i a h a' h' r key) two.above two.change _ _ q (ap (λ z. length z.prefix) e.0) o.made;
      }

  taken_kept : (p n : ℕ) → TakenOut i a h p n → TakenOut i a' h' p n
  taken_kept p n o =
      let e : (h' n ≡ h n) × ((a' n).status ≡ (a n).status) × ((a' n).owner ≡ (a n).owner) = r.mine n o.owner in
      record {
        above = holding_kept K i a h a' h' r p o.above;
        owner = e.2 ∙ o.owner;
        gone = e.1 ∙ o.gone;
        unretired = rw e.0 o.unretired;
      }

  also_out_kept : (n : ℕ) (next : Option C) → AlsoOut number i a h n next → AlsoOut number i a' h' n next
  also_out_kept n None o = tt
  also_out_kept n (Some c) o =
      let e : (h' (number c) ≡ h (number c)) × ((a' (number c)).status ≡ (a (number c)).status) × ((a' (number c)).owner ≡ (a (number c)).owner) = r.mine (number c) o.0 in
      (e.2 ∙ o.0, e.1 ∙ o.1, rw e.0 o.2, o.3)

  also_holding_kept : (n : ℕ) (next : Option C) → AlsoHolding number i a n next → AlsoHolding number i a' n next
  also_holding_kept n None o = tt
  also_holding_kept n (Some c) o = (holding_kept K i a h a' h' r (number c) o.0, o.1)

  lesser_kept : (s : Site C) (p : Parent C) (g : Option (Parent C)) → Each K (name_above number g) → IsLesser number a h key s p g → IsLesser number a' h' key s p g
  lesser_kept s p None k o = o
  lesser_kept s p (Some g) k o = (child_kept g (number p.stamp.node) k.0 o.0, o.1, o.2, o.3)

  stamped_if_kept : (p : Option (Stamp C)) → Each K (name_stamped number p) → StampedIf number a h p → StampedIf number a' h' p
  stamped_if_kept None k s = tt
  stamped_if_kept (Some p) k s = stamped_kept K i a h a' h' r (number p.node) p.version k.0 s

  plan_kept : (plan : Plan C) → Each K (names_plan number plan) → PlanKnown number i a h key plan → PlanKnown number i a' h' key plan
  plan_kept (Here check one) k x = (stamped_if_kept check (each_left K (name_stamped number check) (names_one number one) k) x.0, one_kept one _ (each_right K (name_stamped number check) (names_one number one) k).0 x.1)
  plan_kept (Above two) k x = ((x.0.0, two_kept two None x.0.0 k.0 k.1.0 x.0.1), x.1, x.2)

  made_leaf_kept : (s : Site C) (leaf : Option C) → MadeLeafFor number i a h key s leaf → MadeLeafFor number i a' h' key s leaf
  made_leaf_kept s None x = x
  made_leaf_kept s (Some leaf) x = (x.0, made_kept K i a h a' h' r key (number leaf) 7 0 x.1)

-- the steps of others keep what a call knows
pub known_kept : {C V : Type 0} (number : C → ℕ) (same : V → V → Bool) (always : Bool) (K : ℕ → Type 0) (i : ℕ) (a : ℕ → Note) (h : ℕ → Node V) (a' : ℕ → Note) (h' : ℕ → Node V)
    → Rely K i a h a' h' → (k : ℕ) (key : List ℕ) (kind : Kind V) (given : Option V) (s : Phase C V) → Each K (names number s)
    → Known number same always i a h k key kind given s → Known number same always i a' h' k key kind given s
known_kept number same always K i a h a' h' r k key kind given New n m = m
known_kept number same always K i a h a' h' r k key kind given (Version p c) n m =
    (m.0, above_kept number key K i a h a' h' r p (number c) n.1 m.1, r.published (number c) n.0 m.2)
known_kept number same always K i a h a' h' r k key kind given (Read p at) n m =
    (m.0, above_kept number key K i a h a' h' r p (number at.node) n.1 m.1, stamped_kept K i a h a' h' r (number at.node) at.version n.0 m.2)
known_kept number same always K i a h a' h' r k key kind given (Check s c) n m = (m.0, knows_kept number key K i a h a' h' r s (hung number c) n.1 n.0 m.1)
known_kept number same always K i a h a' h' r k key kind given (CheckUncopied at) n m = (m.0, stamped_kept K i a h a' h' r (number at.node) at.version n.0 m.1, m.2)
known_kept number same always K i a h a' h' r k key kind given (CheckMiss p at common byte) n m =
    let e : (h' (number at.node)).prefix ≡ (h (number at.node)).prefix = r.prefix (number at.node) n.1.0 m.2.published in (
      m.0,
      child_kept number key K i a h a' h' r p (number at.node) n.0 m.1,
      stamped_kept K i a h a' h' r (number at.node) at.version n.1.0 m.2,
      (let P : List ℕ → Type 0 = λ y. Parts y key common in subst P (sym e) m.3),
      rw e m.4,
    )
known_kept number same always K i a h a' h' r k key kind given (CheckDown p at c) n m =
    (m.0, stamped_kept K i a h a' h' r (number p.node) p.version n.0 m.1, above_kept number key K i a h a' h' r (Some at) (number c) n.1.1 m.2, r.published (number c) n.1.0 m.3)
known_kept number same always K i a h a' h' r k key kind given (CheckOld p s v) n m =
    (m.0, stamped_kept K i a h a' h' r (number p.node) p.version n.0 m.1, knows_kept number key K i a h a' h' r s _ n.1.1 n.1.0 m.2, m.3, m.4)
known_kept number same always K i a h a' h' r k key kind given (MakeLeaf s) n m = (m.0, knows_kept number key K i a h a' h' r s _ n.1 n.0 m.1, m.2, m.3, m.4)
known_kept number same always K i a h a' h' r k key kind given (MakeGreater s p leaf) n m =
    (m.0, knows_kept number key K i a h a' h' r s _ (each_right K (name_made number leaf) (names_site number s) n.1).1 (each_right K (name_made number leaf) (names_site number s) n.1).0 m.1, child_kept number key K i a h a' h' r p (number s.at.node) n.0 m.2, made_leaf_kept number key K i a h a' h' r s leaf m.3, m.4, m.5)
known_kept number same always K i a h a' h' r k key kind given (MakeTop p at common byte) n m =
    let e : (h' (number at.node)).prefix ≡ (h (number at.node)).prefix = r.prefix (number at.node) n.1.0 m.2.published in (
      m.0,
      child_kept number key K i a h a' h' r p (number at.node) n.0 m.1,
      stamped_kept K i a h a' h' r (number at.node) at.version n.1.0 m.2,
      (let P : List ℕ → Type 0 = λ y. Parts y key common in subst P (sym e) m.3),
      rw e m.4,
      m.5,
    )
known_kept number same always K i a h a' h' r k key kind given (MakeBeside p at common byte top) n m =
    let e : (h' (number at.node)).prefix ≡ (h (number at.node)).prefix = r.prefix (number at.node) n.1.0 m.2.published in (
      m.0,
      child_kept number key K i a h a' h' r p (number at.node) n.0 m.1,
      stamped_kept K i a h a' h' r (number at.node) at.version n.1.0 m.2,
      (let P : List ℕ → Type 0 = λ y. Parts y key common in subst P (sym e) m.3),
      rw e m.4,
      m.5,
      made_kept K i a h a' h' r key (number top) common 1 m.6,
    )
known_kept number same always K i a h a' h' r k key kind given (MakeLesser s p g reply) n m =
    let site : Each K (names_site number s) = each_right K (name_above number g) (names_site number s) n.1 in (
      m.0,
      (m.1.0, knows_kept number key K i a h a' h' r s _ site.1 site.0 m.1.1, m.1.2),
      m.2,
      m.3,
      child_kept number key K i a h a' h' r p (number s.at.node) n.0 m.4,
      lesser_kept number key K i a h a' h' r s p g (each_left K (name_above number g) (names_site number s) n.1) m.5,
    )
known_kept number same always K i a h a' h' r k key kind given (AskOld s v) n m = (m.0, knows_kept number key K i a h a' h' r s _ n.1 n.0 m.1, m.2, m.3)
known_kept number same always K i a h a' h' r k key kind given (AskNew plan) n m = (plan_kept number key K i a h a' h' r plan n m.0, m.1)
known_kept number same always K i a h a' h' r k key kind given (Confirm at reply) n m = (
  m.0,
  (
    m.1.0,
    record {
      fitted = fits_kept K i a h a' h' r (number at.node) key true n.0 m.1.1.fresh.stamped.published m.1.1.fitted;
      fresh = fresh_kept K i a h a' h' r (number at.node) at.version _ n.0 m.1.1.fresh;
    },
    m.1.2,
  ),
)
known_kept number same always K i a h a' h' r k key kind given (CheckAbove p one reply) n m =
    (m.0, stamped_kept K i a h a' h' r (number p.node) p.version n.0 m.1, one_kept number key K i a h a' h' r one _ n.1.0 m.2, m.3, m.4)
known_kept number same always K i a h a' h' r k key kind given (UpgradeHere one reply) n m =
    (m.0, (m.1.0, one_kept number key K i a h a' h' r one _ n.0 m.1.1, m.1.2, m.1.3))
known_kept number same always K i a h a' h' r k key kind given (ChangeHere one reply) n m =
    (m.0, one_locked_kept number key K i a h a' h' r one _ m.1, m.2, m.3)
known_kept number same always K i a h a' h' r k key kind given (UpgradeTop g two reply) n m =
    (m.0, (m.1.0, m.1.1, two_kept number key K i a h a' h' r two _ _ n.1.0 n.1.1.0 m.1.2, m.1.3, m.1.4), child_kept number key K i a h a' h' r g (number two.above.stamp.node) n.0 m.2, m.3, m.4)
known_kept number same always K i a h a' h' r k key kind given (UpgradeAbove two reply) n m =
    (m.0, (m.1.0, m.1.1, two_kept number key K i a h a' h' r two _ _ n.0 n.1.0 m.1.2, m.1.3, m.1.4, m.1.5))
known_kept number same always K i a h a' h' r k key kind given (UpgradeBelow two reply) n m =
    (m.0, (m.1.0, m.1.1, half_kept number key K i a h a' h' r two _ _ n.1.0 m.1.2, m.1.3, m.1.4, m.1.5))
known_kept number same always K i a h a' h' r k key kind given (ChangeAbove two reply) n m =
    (m.0, m.1, two_locked_kept number key K i a h a' h' r two _ _ m.2, m.3, m.4, m.5)
known_kept number same always K i a h a' h' r k key kind given (Obsolete c next p reply) n m =
    (taken_kept number key K i a h a' h' r (number p) (number c) m.0, also_out_kept number key K i a h a' h' r (number c) next m.1)
known_kept number same always K i a h a' h' r k key kind given (Retire c next p reply) n m =
    (taken_kept number key K i a h a' h' r (number p) (number c) m.0, also_out_kept number key K i a h a' h' r (number c) next m.1, (let e : h' (number c) ≡ h (number c) = (r.mine (number c) m.0.owner).0 in rw e m.2))
known_kept number same always K i a h a' h' r k key kind given (UnlockBelow c p reply) n m =
    (holding_kept K i a h a' h' r (number c) m.0, holding_kept K i a h a' h' r (number p) m.1, m.2)
known_kept number same always K i a h a' h' r k key kind given (Unlock c reply) n m = holding_kept K i a h a' h' r (number c) m
known_kept number same always K i a h a' h' r k key kind given (Unwind c next e) n m =
    (m.0, holding_kept K i a h a' h' r (number c) m.1, also_holding_kept number key K i a h a' h' r (number c) next m.2, m.3)
known_kept number same always K i a h a' h' r k key kind given (Scan s) n m = scan_known_kept number always K i a h a' h' r s n m
known_kept number same always K i a h a' h' r k key kind given Ended n m = tt
