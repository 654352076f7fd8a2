-- What all calls hold, after a step of one of them.
use Rattle.std.proofs.Common.{◌≡◌, ◌≢◌, ℕ, zero, suc, ◌⊎◌, inl, inr, Bool, true, false, List, [], ◌∷◌, refl, sym, ◌∙◌, ap, subst, arith}
use Rattle.std.proofs.Math.ListN.{set}
use Rattle.std.specs.Prelude.{Option, None, Some, slice_get}
use Rattle.judge.specs.declared.journal.Reply.{Reply}
use Rattle.congee.specs.declared.forms.base_node.NodeType.{NodeType}
use Rattle.congee.specs.declared.protocol.store.Refusal.{Refusal}
use Rattle.congee.specs.declared.protocol.phase.Kind.{Kind}
use Rattle.congee.specs.declared.protocol.phase.Parent.{Parent}
use Rattle.congee.specs.declared.protocol.phase.Site.{Site}
use Rattle.congee.specs.declared.protocol.phase.Placement.{Placement}
use Rattle.congee.specs.declared.protocol.phase.Placement.TheVariants.{Set, Link}
use Rattle.congee.specs.declared.protocol.phase.Replacement.{Replacement}
use Rattle.congee.specs.declared.protocol.phase.Replacement.TheVariants.{Unlink, Grow, GrowLink, Split, Shrink, Collapse, ShrinkAbove}
use Rattle.congee.specs.declared.protocol.phase.Plan.{Plan}
use Rattle.congee.specs.declared.protocol.phase.Plan.TheVariants.{Here, Above}
use Rattle.congee.specs.declared.protocol.phase.Phase.{Phase}
use Rattle.congee.specs.declared.protocol.phase.Phase.TheVariants.{MakeGreater, MakeBeside, AskNew, CheckAbove, UpgradeHere, ChangeHere, UpgradeTop, UpgradeAbove, UpgradeBelow, ChangeAbove, Obsolete, Retire, UnlockBelow, Unlock, Unwind}
use Rattle.congee.specs.declared.protocol.next_phase.NextPhase.{NextPhase}
use Rattle.congee.specs.declared.protocol.machine.Machine.{Machine}
use Rattle.congee.specs.Heap.{Node}
use Rattle.congee.specs.protocol.Steps.{after_retire, PhaseStepped}
use Rattle.congee.specs.Keys.{key_bytes}
use Rattle.congee.specs.Notes.{Note, Unmade, Held, Linked, Gone, Tree, LockWords}
use Rattle.congee.specs.protocol.Protocol.{Holding, TopLocked, TakenOut, AlsoOut, AlsoHolding, Made, MadeHere, MadeAbove, MadeLeafFor, PlanKnown, Fares, Known}
use Rattle.congee.specs.protocol.Holdings.{IsTop, LockedBy, MadeForHere, MadeForAbove, MadeForPlan, IsMade, MadeBy, TakenBy, Holdings}
use Rattle.congee.proofs.lemmas.Tree.{same_or_not}
use Rattle.congee.proofs.lemmas.protocol.Holdings.{Holds_now}

-- what stands in a list of which one place was set: the new there, and elsewhere what stood
pub get_set : {A : Type 0} → (xs : List A) (i j : ℕ) (x y : A) → slice_get (set xs i x) j ≡ Some y → ((j ≡ i) × (x ≡ y)) ⊎ ((j ≢ i) × (slice_get xs j ≡ Some y))
get_set [] i j x y e = absurd cc
get_set (z ∷ xs) zero zero x y e = inl (refl, cc)
get_set (z ∷ xs) zero (suc j) x y e = inr ((λ q. absurd (omega arith)), e)
get_set (z ∷ xs) (suc i) zero x y e = inr ((λ q. absurd (omega arith)), e)
get_set (z ∷ xs) (suc i) (suc j) x y e = elim (get_set xs i j x y e) [
  | inl p ↦ inl (ap suc p.0, p.1)
  | inr p ↦ inr ((λ q. p.0 (omega arith)), p.1)
]

-- in the place that was set the new stands
pub set_here : {A : Type 0} → (xs : List A) (i : ℕ) (x y : A) → slice_get xs i ≡ Some y → slice_get (set xs i x) i ≡ Some x
set_here [] i x y e = absurd cc
set_here (z ∷ xs) zero x y e = refl
set_here (z ∷ xs) (suc i) x y e = set_here xs i x y e

-- in every other place stands what stood
pub set_apart : {A : Type 0} → (xs : List A) (i j : ℕ) (x y : A) → j ≢ i → slice_get xs j ≡ Some y → slice_get (set xs i x) j ≡ Some y
set_apart [] i j x y ne e = absurd cc
set_apart (z ∷ xs) zero zero x y ne e = absurd (ne refl)
set_apart (z ∷ xs) zero (suc j) x y ne e = e
set_apart (z ∷ xs) (suc i) zero x y ne e = e
set_apart (z ∷ xs) (suc i) (suc j) x y ne e = set_apart xs i j x y (λ q. ne (ap suc q)) e

-- a node that a call has taken out: it left the tree, under the call's lock, and isn't handed over
pub record IsTaken {V : Type 0} (i : ℕ) (a : ℕ → Note) (h : ℕ → Node V) (n : ℕ) : Type 0 where
  pub owner : (a n).owner ≡ Some i
  pub gone : (a n).status ≡ Gone
  pub unretired : (h n).retired ≡ false

-- what a call knows of the nodes that it has made, taken out and locked
module _ {C V : Type 0} (number : C → ℕ) (same : V → V → Bool) (always : Bool) (i : ℕ) (a : ℕ → Note) (h : ℕ → Node V) (k : ℕ) (key : List ℕ) (kind : Kind V) (given : Option V) (n : ℕ) where
  -- the node is one that the call has made, of some size, empty and not yet hung
  abbrev pub IsNew : Type 0
  IsNew = (size : ℕ) × (least : ℕ) × Made i a h key n size least

  made_at : (c size least : ℕ) → Made i a h key c size least → n ≡ c → IsNew
  made_at c size least m q = (size, least, (let P : ℕ → Type 0 = λ y. Made i a h key y size least in subst P (sym q) m))

  one_made : (change : Placement C) → MadeHere number i a h key change → MadeForHere number change n → IsNew
  one_made Set m x = absurd x
  one_made (Link leaf) m x = made_at (number leaf) 7 0 m x

  two_made : (p : Parent C) (change : Replacement C) (size q : ℕ) → MadeAbove number i a h key p change size q → MadeForAbove number change n → IsNew
  two_made p Unlink size q m x = absurd x
  two_made p Collapse size q m x = absurd x
  two_made p (Shrink c) size q m x = made_at (number c) size q m x
  two_made p (ShrinkAbove c) size q m x = made_at (number c) p.depth q m.0 x
  two_made p (Grow c) size q m x = made_at (number c) size q m x
  two_made p (GrowLink c leaf byte) size q m (inl x) = made_at (number c) size q m.0 x
  two_made p (GrowLink c leaf byte) size q m (inr x) = made_at (number leaf) 7 0 m.1 x
  two_made p (Split top leaf common byte) size q m (inl x) = made_at (number top) common 1 m.0 x
  two_made p (Split top leaf common byte) size q m (inr x) = made_at (number leaf) 7 0 m.1 x

  plan_made : (plan : Plan C) → PlanKnown number i a h key plan → MadeForPlan number plan n → IsNew
  plan_made (Here check one) m x = one_made one.change m.1.made x
  plan_made (Above two) m x = two_made two.above two.change _ _ m.0.1.made x

  leaf_made : (leaf : Option C) (s : Site C) → MadeLeafFor number i a h key s leaf → IsMade number leaf n → IsNew
  leaf_made None s m x = absurd x
  leaf_made (Some leaf) s m x = made_at (number leaf) 7 0 m.1 x

  -- a call knows of each node that it has made that it is new
  pub made_known : (s : Phase C V) → Known number same always i a h k key kind given s → MadeBy number s n → IsNew
  made_known (MakeGreater s p leaf) x l = leaf_made leaf s x.3 l
  made_known (MakeBeside p at common byte top) x l = made_at (number top) common 1 x.6 l
  made_known (AskNew plan) x l = plan_made plan x.0 l
  made_known (CheckAbove p one r) x l = one_made one.change x.2.made l
  made_known (UpgradeHere one r) x l = one_made one.change x.1.1.made l
  made_known (ChangeHere one r) x l = one_made one.change x.1.made l
  made_known (UpgradeTop g two r) x l = two_made two.above two.change _ _ x.1.2.made l
  made_known (UpgradeAbove two r) x l = two_made two.above two.change _ _ x.1.2.made l
  made_known (UpgradeBelow two r) x l = two_made two.above two.change _ _ x.1.2.made l
  made_known (ChangeAbove two r) x l = two_made two.above two.change _ _ x.2.made l
  made_known _ x l = absurd l

  taken_at : (m : ℕ) → IsTaken i a h m → n ≡ m → IsTaken i a h n
  taken_at m x q = let P : ℕ → Type 0 = λ y. IsTaken i a h y in subst P (sym q) x

  next_taken : (next : Option C) (m : ℕ) → AlsoOut number i a h m next → IsMade number next n → IsTaken i a h n
  next_taken None m x q = absurd q
  next_taken (Some c) m x q = taken_at (number c) (record { owner = x.0; gone = x.1; unretired = x.2 }) q

  both_taken : (m p : C) (next : Option C) → TakenOut i a h (number p) (number m) → AlsoOut number i a h (number m) next → (n ≡ number m) ⊎ IsMade number next n → IsTaken i a h n
  both_taken m p next x y (inl q) = taken_at (number m) (record { owner = x.owner; gone = x.gone; unretired = x.unretired }) q
  both_taken m p next x y (inr q) = next_taken next (number m) y q

  -- a call knows of each node that it took out that it is gone, locked by the call and not handed over
  pub taken_known : (s : Phase C V) → Known number same always i a h k key kind given s → TakenBy number s n → IsTaken i a h n
  taken_known (Obsolete m next p r) x t = both_taken m p next x.0 x.1 t
  taken_known (Retire m next p r) x t = both_taken m p next x.0 x.1 t
  taken_known _ x t = absurd t

  -- a locked node is in the tree, or one that was taken out
  abbrev Locks : Type 0 → Type 0
  Locks T = ((a n).owner ≡ Some i) × (Tree a h → ((a n).status ≡ Linked) ⊎ T)

  owned_at : (m : ℕ) → (a m).owner ≡ Some i → n ≡ m → (a n).owner ≡ Some i
  owned_at m o q = let P : ℕ → Type 0 = λ y. (a y).owner ≡ Some i in subst P (sym q) o

  linked_at : (m : ℕ) → (a m).status ≡ Linked → n ≡ m → (a n).status ≡ Linked
  linked_at m l q = let P : ℕ → Type 0 = λ y. (a y).status ≡ Linked in subst P (sym q) l

  locks_at : (T : Type 0) (m : ℕ) → Holding i a m → n ≡ m → Locks T
  locks_at T m x q = (owned_at m x.owner q, λ t. inl (linked_at m x.linked q))

  locks_top : (T : Type 0) (top : Option (Parent C)) (m : ℕ) → TopLocked number i a h key top m → IsTop number top n → Locks T
  locks_top T None m x l = absurd l
  locks_top T (Some g) m x l = locks_at T (number g.stamp.node) x.holding l

  locks_next : (T : Type 0) (next : Option C) (m : ℕ) → AlsoHolding number i a m next → IsMade number next n → Locks T
  locks_next T None m x l = absurd l
  locks_next T (Some c) m x l = locks_at T (number c) x.0 l

  locks_out : (m p : C) (next : Option C) → TakenOut i a h (number p) (number m) → AlsoOut number i a h (number m) next → ((n ≡ number p) ⊎ (n ≡ number m)) ⊎ IsMade number next n → Locks ((n ≡ number m) ⊎ IsMade number next n)
  locks_out m p next x y (inl (inl l)) = locks_at _ (number p) x.above l
  locks_out m p next x y (inl (inr l)) = (owned_at (number m) x.owner l, λ t. inr (inl l))
  locks_out m p next x y (inr l) = ((next_taken next (number m) y l).owner, λ t. inr (inr l))

  locks_are : (s : Phase C V) → Known number same always i a h k key kind given s → LockedBy number s n → Locks (TakenBy number s n)
  locks_are (ChangeHere one r) x l = locks_at _ (number one.at.node) x.1.holding l
  locks_are (UpgradeAbove two r) x l = locks_top _ two.top _ x.1.2.top l
  locks_are (UpgradeBelow two r) x (inl l) = locks_at _ (number two.above.stamp.node) x.1.2.above.holding l
  locks_are (UpgradeBelow two r) x (inr l) = locks_top _ two.top _ x.1.2.top l
  locks_are (ChangeAbove two r) x (inl (inl l)) = locks_at _ (number two.above.stamp.node) x.2.above.holding l
  locks_are (ChangeAbove two r) x (inl (inr l)) = (owned_at (number two.at.node) x.2.owner l, λ t. inl (linked_at (number two.at.node) (t.down (number two.above.stamp.node) _ (number two.at.node) x.2.above.holding.linked x.2.above.child).linked l))
  locks_are (ChangeAbove two r) x (inr l) = locks_top _ two.top _ x.2.top l
  locks_are (Obsolete m next p r) x l = locks_out m p next x.0 x.1 l
  locks_are (Retire m next p r) x l = locks_out m p next x.0 x.1 l
  locks_are (UnlockBelow m p r) x (inl l) = locks_at _ (number p) x.1 l
  locks_are (UnlockBelow m p r) x (inr l) = locks_at _ (number m) x.0 l
  locks_are (Unlock m r) x l = locks_at _ (number m) x l
  locks_are (Unwind m next e) x (inl l) = locks_at _ (number m) x.1 l
  locks_are (Unwind m next e) x (inr l) = locks_next _ next _ x.2 l
  locks_are _ x l = absurd l

  -- each node that a call has locked is in the tree, or the call took it out
  pub locked_linked : Tree a h → (s : Phase C V) → Known number same always i a h k key kind given s → LockedBy number s n → ((a n).status ≡ Linked) ⊎ TakenBy number s n
  locked_linked t s x l = (locks_are s x l).1 t

module _ {C V : Type 0} (number : C → ℕ) (same : V → V → Bool) (always : Bool) (i : ℕ) (a : ℕ → Note) (h : ℕ → Node V) (k : ℕ) (kind : Kind V) (given : Option V) (n : ℕ) where
  -- each node that a call has made is noted as held by it
  pub made_held : (s : Phase C V) → Known number same always i a h k (key_bytes k) kind given s → MadeBy number s n → (a n).status ≡ Held i
  made_held s x l = (made_known number same always i a h k (key_bytes k) kind given n s x l).2.held

  -- each lock that a call holds is noted as its own
  pub locks_owned : (s : Phase C V) → Known number same always i a h k (key_bytes k) kind given s → LockedBy number s n → (a n).owner ≡ Some i
  locks_owned s x l = (locks_are number same always i a h k (key_bytes k) kind given n s x l).0

  -- a locked node that left the tree is one that the call took out
  pub gone_taken : Tree a h → (s : Phase C V) → Known number same always i a h k (key_bytes k) kind given s → LockedBy number s n → (a n).status ≡ Gone → TakenBy number s n
  gone_taken t s x l g = elim (locked_linked number same always i a h k (key_bytes k) kind given n t s x l) [
    | inl e ↦ absurd (let z : Linked ≡ Gone = sym e ∙ g in cc)
    | inr y ↦ y
  ]

  -- the second one is marked next
  next_out : (next : Option C) (p : C) (r : Reply V) → IsMade number next n → TakenBy number (after_retire next p r).phase n
  next_out None p r l = absurd l
  next_out (Some c) p r l = inl l

  -- it is marked, and then handed over
  pub taken_on : (most : ℕ) (why : NodeType → Refusal → Type 0) (root : C) (fail : Bool) (answer : Option (Option V)) (s : Phase C V) (given' : Option V) (next_phase : NextPhase C V) (h' : ℕ → Node V) → PhaseStepped number same always most why root (key_bytes k) kind fail answer given s h given' next_phase h'
      → TakenBy number s n → ((h' n).retired ≡ true) ⊎ TakenBy number next_phase.phase n
  taken_on most why root fail answer (Obsolete m next p r) given' next_phase h' g l = let P : NextPhase C V → Type 0 = λ y. TakenBy number y.phase n in inr (subst P (sym g.2) l)
  taken_on most why root fail answer (Retire m next p r) given' next_phase h' g (inl l) = let P : ℕ → Type 0 = λ y. (h' y).retired ≡ true in inl (subst P (sym l) (rw g.1.after refl))
  taken_on most why root fail answer (Retire m next p r) given' next_phase h' g (inr l) = let P : NextPhase C V → Type 0 = λ y. TakenBy number y.phase n in inr (subst P (sym g.2) (next_out next p r l))
  taken_on most why root fail answer _ given' next_phase h' g l = absurd l

module _ {C V : Type 0} (number : C → ℕ) (same : V → V → Bool) (always : Bool) (i : ℕ) (a : ℕ → Note) (h : ℕ → Node V) (a' : ℕ → Note) (h' : ℕ → Node V) (ms : List (Machine C V)) (m m' : Machine C V)
    (e : slice_get ms i ≡ Some m) (w : LockWords a h) (t : Tree a h) (w' : LockWords a' h') (t' : Tree a' h') (f : (n : ℕ) → Fares i (a n) (a' n) (h n) (h' n)) (s : Holdings number a h ms) where
  -- the machine at its place
  mine_is : (k : Machine C V) → slice_get ms i ≡ Some k → k ≡ m
  mine_is k g = let z : Some k ≡ Some m = sym g ∙ e in cc

  -- what was noted as locked by the call before the step, its phase had locked
  pub own_before : (n : ℕ) → (a n).owner ≡ Some i → LockedBy number m.phase n
  own_before n o =
      let x : (k : Machine C V) × (slice_get ms i ≡ Some k) × LockedBy number k.phase n = s.owned n i o in
      let P : Machine C V → Type 0 = λ y. LockedBy number y.phase n in subst P (mine_is x.0 x.1) x.2

  -- what was noted as held by the call before the step, its phase had made
  pub mine_before : (n : ℕ) → (a n).status ≡ Held i → MadeBy number m.phase n
  mine_before n o =
      let x : (k : Machine C V) × (slice_get ms i ≡ Some k) × MadeBy number k.phase n = s.held n i o in
      let P : Machine C V → Type 0 = λ y. MadeBy number y.phase n in subst P (mine_is x.0 x.1) x.2

  abbrev At : (Machine C V → Type 0) → ℕ → Type 0
  At P j = (k : Machine C V) × (slice_get (set ms i m') j ≡ Some k) × P k

  here : (P : Machine C V → Type 0) → P m' → At P i
  here P x = (m', set_here ms i m' m e, x)

  here_at : (P : Machine C V → Type 0) (j : ℕ) → j ≡ i → P m' → At P j
  here_at P j q x = subst (At P) (sym q) (here P x)

  there : (P : Machine C V → Type 0) (j : ℕ) → j ≢ i → (k : Machine C V) → slice_get ms j ≡ Some k → P k → At P j
  there P j ne k g x = (k, set_apart ms i j m' k ne g, x)

  -- all locks and made nodes are those of the calls after the step, where the stepping call's are its own
  pub held_after : Holds_now number same always i a h a' h' (key_bytes m.key) w w' t' f m'.phase
      → ((n : ℕ) → LockedBy number m'.phase n → (a' n).status ≡ Gone → TakenBy number m'.phase n) → ((n : ℕ) → TakenBy number m.phase n → ((h' n).retired ≡ true) ⊎ TakenBy number m'.phase n)
      → Holdings number a' h' (set ms i m')
  held_after now taken on = record {
    owned = λ n j o. elim (same_or_not j i) [
      | inl q ↦ here_at (λ k. LockedBy number k.phase n) j q (now.own n (let P : ℕ → Type 0 = λ y. (a' n).owner ≡ Some y in subst P q o))
      | inr ne ↦ elim ((f n).owner j o) [
        | inl x ↦ (let y : (k : Machine C V) × (slice_get ms j ≡ Some k) × LockedBy number k.phase n = s.owned n j x in there (λ k. LockedBy number k.phase n) j ne y.0 y.1 y.2)
        | inr x ↦ absurd (ne x.0)
      ]
    ];
    held = λ n j o. elim (same_or_not j i) [
      | inl q ↦ here_at (λ k. MadeBy number k.phase n) j q (now.mine n (let P : ℕ → Type 0 = λ y. (a' n).status ≡ Held y in subst P q o))
      | inr ne ↦ elim ((f n).held j o) [
        | inl x ↦ (let y : (k : Machine C V) × (slice_get ms j ≡ Some k) × MadeBy number k.phase n = s.held n j x.0 in there (λ k. MadeBy number k.phase n) j ne y.0 y.1 y.2)
        | inr x ↦ absurd (ne x.0)
      ]
    ];
    locked = λ n l o. elim ((f n).locked l o) [
      | inl x ↦ (i, x)
      | inr x ↦ (let y : (j : ℕ) × ((a n).owner ≡ Some j) = s.locked n x.0 x.1 in (y.0, x.2 ∙ y.1))
    ];
    gone = λ n g. elim ((f n).gone g) [
      | inl x ↦ (let y : At (λ k. TakenBy number k.phase n) i = here (λ k. TakenBy number k.phase n) (taken n (now.own n x) g) in inr (i, y.0, y.1, y.2))
      | inr x ↦ elim (s.gone n x.0) [
        | inl r ↦ inl (x.1 r)
        | inr y ↦ elim (same_or_not y.0 i) [
          | inl q ↦ (let z : slice_get ms i ≡ Some y.1 = (let P : ℕ → Type 0 = λ j. slice_get ms j ≡ Some y.1 in subst P q y.2) in
              let P : Machine C V → Type 0 = λ k. TakenBy number k.phase n in elim (on n (subst P (mine_is y.1 z) y.3)) [
                | inl r ↦ inl r
                | inr b ↦ (let u : At P i = here P b in inr (i, u.0, u.1, u.2))
              ])
          | inr ne ↦ (let u : At (λ k. TakenBy number k.phase n) y.0 = there (λ k. TakenBy number k.phase n) y.0 ne y.1 y.2 y.3 in inr (y.0, u.0, u.1, u.2))
        ]
      ]
    ];
    spent = λ n g. elim ((f n).spent g) [
      | inl x ↦ x
      | inr x ↦ x.1 ∙ s.spent n x.0
    ];
    unmade = λ n g. let x : ((a n).status ≡ Unmade) × ((h' n).made ≡ (h n).made) = (f n).unmade g in x.1 ∙ s.unmade n x.0;
  }
