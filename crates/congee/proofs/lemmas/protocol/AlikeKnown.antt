-- What a call knows of the tree serves it on both sides: what was read and still stands was true, and the steps of others, and
-- the destruction of nodes that nobody names, leave it the same by numbers.
use Rattle.std.proofs.Common.{◌≡◌, ◌≢◌, ℕ, ◌<◌, Bool, true, false, List, length, refl, sym, ◌∙◌, ap, subst, inl, inr, arith}
use Rattle.std.specs.Prelude.{Option, Some, slice_get}
use Rattle.std.specs.List.{All}
use Rattle.std.proofs.lemmas.List.Elements.{All-contains}
use Rattle.congee.specs.declared.protocol.store.Stamp.{Stamp}
use Rattle.congee.specs.declared.protocol.phase.Kind.{Kind}
use Rattle.congee.specs.declared.protocol.phase.Replacement.{Replacement}
use Rattle.congee.specs.declared.protocol.phase.Replacement.TheVariants.{Grow, GrowLink, Shrink, ShrinkAbove}
use Rattle.congee.specs.declared.protocol.phase.Phase.{Phase}
use Rattle.congee.specs.declared.protocol.phase.Phase.TheVariants.{Check, ChangeAbove, Scan}
use Rattle.congee.specs.declared.protocol.scan.Stage.{Stage}
use Rattle.congee.specs.declared.protocol.scan.Stage.TheVariants as stage
use Rattle.congee.specs.declared.protocol.scan.ScanState.{ScanState as ScanState}
use Rattle.congee.specs.declared.protocol.machine.Machine.{Machine}
use Rattle.congee.specs.Heap.{Node, Stands, is_taken}
use Rattle.congee.specs.Keys.{key_bytes}
use Rattle.congee.specs.Notes.{Note, Linked, Tree, IsChild}
use Rattle.congee.specs.protocol.Alike.{Ordered, NodeAlike, HeapAlike, CallAlike, Longer}
use Rattle.congee.specs.protocol.Destroys.{Destroys}
use Rattle.congee.specs.protocol.Events.{HoldsValues, HoldsNodes}
use Rattle.congee.specs.protocol.Names.{names, names_site}
use Rattle.congee.specs.protocol.Protocol.{Known, PlacedAbove, BothLocked, Rely, Effect}
use Rattle.congee.specs.protocol.Stamps.{Stamped}
use Rattle.congee.specs.protocol.ScanKnown.{ScanKnownAt, names_scan_at}
use Rattle.congee.proofs.lemmas.protocol.AlikeChanges.{HoldsFor, HoldsRight}
use Rattle.congee.proofs.lemmas.protocol.AlikeHeaps.{later_place}
use Rattle.congee.proofs.lemmas.protocol.AlikeLater.{Still, StillAt, StillTaken, call_later}

-- a leaf of the tree holds values, and each other node of it nodes
leaf_holds : {V : Type 0} (a : ℕ → Note) (h : ℕ → Node V) (n : ℕ) → Tree a h → (a n).status ≡ Linked → length (h n).prefix ≡ 7 → HoldsValues (h n)
leaf_holds a h n t l e b c k =
    let d : IsChild a h n b c = t.down n b c l k in
    let s = t.short c d.linked in
    let z : length (h n).prefix < length (h c).prefix = d.longer in
    omega (arith, s, z, e)

inner_holds : {V : Type 0} (a : ℕ → Note) (h : ℕ → Node V) (n : ℕ) → Tree a h → (a n).status ≡ Linked → length (h n).prefix < 7 → HoldsNodes (h n)
inner_holds a h n t l e b v k = let z : length (h n).prefix ≡ 7 = t.leaves n b v l k in omega (arith, z, e)

module _ {C V : Type 0} (number : C → ℕ) (same : V → V → Bool) (always : Bool) (i : ℕ) (a : ℕ → Note) (h : ℕ → Node V) (k : ℕ) (key : List ℕ) (kind : Kind V) (given : Option V) (t : Tree a h) where
  holds_for : (c : Replacement C) (n p b : ℕ) → IsChild a h p b n → (a p).status ≡ Linked → PlacedAbove key c (h n).prefix → HoldsFor c (h n) (h p)
  holds_for (Shrink c) n p b d l z = leaf_holds a h n t d.linked z.1
  holds_for (ShrinkAbove c) n p b d l z = inner_holds a h p t l (let s = t.short n d.linked in let m : length (h p).prefix < length (h n).prefix = d.longer in omega (arith, s, m))
  holds_for (Grow c) n p b d l z = leaf_holds a h n t d.linked z.1
  holds_for (GrowLink c leaf byte) n p b d l z = inner_holds a h n t d.linked z.1
  holds_for _ n p b d l z = tt

  -- a call that knows what its phase says has the right children where its change of two nodes takes them over
  pub holds_right : (p : Phase C V) → Known number same always i a h k key kind given p → HoldsRight number h p
  holds_right (ChangeAbove two r) x =
      let e : BothLocked number i a h key two x.0 x.1 = x.2 in
      holds_for two.change (number two.at.node) (number two.above.stamp.node) _ (t.down (number two.above.stamp.node) _ (number two.at.node) e.above.holding.linked e.above.child) e.above.holding.linked e.placed
  holds_right _ x = tt

module _ {C V : Type 0} (order order' : List ℕ) (number : C → ℕ) (f : (n c : ℕ) → slice_get order n ≡ Some c → slice_get order' n ≡ Some c) (h h' : ℕ → Node V) where
  -- a word that was taken and still stands
  still_stamped : (j : ℕ) (a a' : ℕ → Note) → Rely (λ _. Unit {0}) j a h a' h' → (s : Stamp C) → Stamped a h (number s.node) s.version → Still order order' number f h h' s
  still_stamped j a a' r s x t =
      let e : h' (number s.node) ≡ h (number s.node) = r.word (number s.node) s.version tt x.published x.up t in
      ap (λ z. is_taken z s.version) (sym e) ∙ t

  still_stage : (j : ℕ) (a a' : ℕ → Note) (always : Bool) → Rely (λ _. Unit {0}) j a h a' h' → (s : ScanState C V) (x : Stage C V) → ScanKnownAt number always a h s x → StillAt order order' number f h h' x
  still_stage j a a' always r s (stage.Check u w) x = still_stamped j a a' r u.at x.1.stamped
  still_stage j a a' always r s _ x = tt

  still_known : (same : V → V → Bool) (always : Bool) (j : ℕ) (a a' : ℕ → Note) (k : ℕ) (key : List ℕ) (kind : Kind V) (given : Option V) → Rely (λ _. Unit {0}) j a h a' h' → (p : Phase C V) → Known number same always j a h k key kind given p
      → StillTaken order order' number f h h' p
  still_known same always j a a' k key kind given r (Check s c) x = still_stamped j a a' r s.at x.1.fresh.stamped
  still_known same always j a a' k key kind given r (Scan s) x = still_stage j a a' always r s s.stage x
  still_known same always j a a' k key kind given r _ x = tt

  -- a node that is as it was
  still_same : (s : Stamp C) → h' (number s.node) ≡ h (number s.node) → Still order order' number f h h' s
  still_same s e t = ap (λ z. is_taken z s.version) (sym e) ∙ t

  spared_stage : (s : ScanState C V) (x : Stage C V) → All (λ n. h' n ≡ h n) (names_scan_at number s x) → StillAt order order' number f h h' x
  spared_stage s (stage.Check r w) x = still_same r.at (All-contains (λ n. h' n ≡ h n) (names_scan_at number s (stage.Check r w)) (number r.at.node) x (0, omega arith, refl))
  spared_stage s _ x = tt

  spared_phase : (p : Phase C V) → All (λ n. h' n ≡ h n) (names number p) → StillTaken order order' number f h h' p
  spared_phase (Check s c) x = still_same s.at (All-contains (λ n. h' n ≡ h n) (names_site number s) (number s.at.node) x (0, omega arith, refl))
  spared_phase (Scan s) x = spared_stage s s.stage x
  spared_phase _ x = tt

-- a node keeps its number where some more are made
pub longer_place : (order order' : List ℕ) → Longer order order' → (n c : ℕ) → slice_get order n ≡ Some c → slice_get order' n ≡ Some c
longer_place order order' l n c e = let P : List ℕ → Type 0 = λ z. slice_get z n ≡ Some c in subst P (sym l.1) (later_place order l.0 n c e)

-- over another call's step
pub others_alike : {C V : Type 0} (number : C → ℕ) (same : V → V → Bool) (always : Bool) (order order' : List ℕ) (i j : ℕ) (a a' : ℕ → Note) (h h' : ℕ → Node V) (m : Machine C V) (q : Machine ℕ V) → j ≢ i → Longer order order' → Effect i a h a' h'
    → Known number same always j a h m.key (key_bytes m.key) m.kind m.given m.phase → CallAlike order number h m q → CallAlike order' number h' m q
others_alike number same always order order' i j a a' h h' m q ne l e k x =
    call_later order order' number (longer_place order order' l) h h' m q (still_known order order' number (longer_place order order' l) h h' same always j a a' m.key (key_bytes m.key) m.kind m.given (e.others j ne) m.phase k) x

-- over a destruction of nodes that no call names
module _ {C V : Type 0} (number : C → ℕ) (order : List ℕ) (h h' : ℕ → Node V) (ms : List (Machine C V)) (d : Destroys number h ms h') where
  -- a call that was the same by numbers is so after nodes that no call names were destroyed
  pub spared_call : (i : ℕ) (m : Machine C V) (q : Machine ℕ V) → slice_get ms i ≡ Some m → CallAlike order number h m q → CallAlike order number h' m q
  spared_call i m q at x = call_later order order number (λ n c e. e) h h' m q (spared_phase order order number (λ n c e. e) h h' m.phase (d.named i m at)) x

  stands_still : (c : ℕ) → Stands (h' c) → h' c ≡ h c
  stands_still c s = elim (d.each c) [
    | inl e ↦ e
    | inr l ↦ absurd (let a : (h' c).destroyed ≡ true = l.destroyed in let b : (h' c).destroyed ≡ false = s.kept in cc)
  ]

  -- nodes that were alike on both sides are so after nodes that no call names were destroyed
  pub spared_heap : (g : ℕ → Node V) → HeapAlike order h g → HeapAlike order h' g
  spared_heap g x n c e s =
      let same : h' c ≡ h c = stands_still c s in
      let P : Node V → Type 0 = λ z. NodeAlike order z (g n) in
      let Q : Node V → Type 0 = λ z. Stands z in
      subst P (sym same) (x n c e (subst Q same s))

  -- what was handed over had been made
  module _ (was : (c : ℕ) → (h c).retired ≡ true → (h c).made ≡ true) where
    made_still : (c : ℕ) → (h' c).made ≡ true → (h c).made ≡ true
    made_still c e = elim (d.each c) [
      | inl q ↦ sym (ap (λ z. z.made) q) ∙ e
      | inr l ↦ was c l.handed
    ]

    -- the order has each made node once after some were destroyed, where what was handed over had been made
    pub spared_order : Ordered order h → Ordered order h'
    spared_order o = record {
      made = λ n c e. elim (d.each c) [
        | inl q ↦ ap (λ z. z.made) q ∙ o.made n c e
        | inr l ↦ l.made
      ];
      each = λ c e. o.each c (made_still c e);
      once = o.once;
    }
