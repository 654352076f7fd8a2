-- Which locks and nodes a call holds between its steps, and that nobody holds any other.
use Rattle.std.specs.Prelude.{◌≡◌, ◌≢◌, ℕ, ◌⊎◌, true, false, List, [], Option, None, Some, slice_get}
use Rattle.congee.specs.declared.protocol.phase.Parent.{Parent}
use Rattle.congee.specs.declared.protocol.phase.Placement.{Placement}
use Rattle.congee.specs.declared.protocol.phase.Placement.TheVariants.{Set, Link}
use Rattle.congee.specs.declared.protocol.phase.Replacement.{Replacement}
use Rattle.congee.specs.declared.protocol.phase.Replacement.TheVariants.{Unlink, Grow, GrowLink, Split, Shrink, Collapse, ShrinkAbove}
use Rattle.congee.specs.declared.protocol.phase.Plan.{Plan}
use Rattle.congee.specs.declared.protocol.phase.Plan.TheVariants.{Here, Above}
use Rattle.congee.specs.declared.protocol.phase.Phase.{Phase}
use Rattle.congee.specs.declared.protocol.phase.Phase.TheVariants.{MakeGreater, MakeBeside, AskNew, CheckAbove, UpgradeHere, ChangeHere, UpgradeTop, UpgradeAbove, UpgradeBelow, ChangeAbove, Obsolete, Retire, UnlockBelow, Unlock, Unwind}
use Rattle.congee.specs.declared.protocol.machine.Machine.{Machine}
use Rattle.congee.specs.Heap.{Node}
use Rattle.congee.specs.Notes.{Note, Unmade, Held, Linked, Gone, is_spent}

-- the node, where there is one
abbrev pub IsMade : {C : Type 0} → (C → ℕ) → Option C → ℕ → Type 0
IsMade number None n = ⊥
IsMade number (Some c) n = n ≡ number c

-- the node above both, where there is one
abbrev pub IsTop : {C : Type 0} → (C → ℕ) → Option (Parent C) → ℕ → Type 0
IsTop number None n = ⊥
IsTop number (Some p) n = n ≡ number p.stamp.node

-- the call holds the lock of node n
abbrev pub LockedBy : {C V : Type 0} → (C → ℕ) → Phase C V → ℕ → Type 0
LockedBy number (ChangeHere one r) n = n ≡ number one.at.node
LockedBy number (UpgradeAbove two r) n = IsTop number two.top n
LockedBy number (UpgradeBelow two r) n = (n ≡ number two.above.stamp.node) ⊎ IsTop number two.top n
LockedBy number (ChangeAbove two r) n = ((n ≡ number two.above.stamp.node) ⊎ (n ≡ number two.at.node)) ⊎ IsTop number two.top n
LockedBy number (Obsolete m next p r) n = ((n ≡ number p) ⊎ (n ≡ number m)) ⊎ IsMade number next n
LockedBy number (Retire m next p r) n = ((n ≡ number p) ⊎ (n ≡ number m)) ⊎ IsMade number next n
LockedBy number (UnlockBelow m p r) n = (n ≡ number p) ⊎ (n ≡ number m)
LockedBy number (Unlock m r) n = n ≡ number m
LockedBy number (Unwind m next e) n = (n ≡ number m) ⊎ IsMade number next n
LockedBy number _ n = ⊥

-- node n was made for the change
abbrev pub MadeForHere : {C : Type 0} → (C → ℕ) → Placement C → ℕ → Type 0
MadeForHere number Set n = ⊥
MadeForHere number (Link leaf) n = n ≡ number leaf

-- the same of a change of two nodes
abbrev pub MadeForAbove : {C : Type 0} → (C → ℕ) → Replacement C → ℕ → Type 0
MadeForAbove number Unlink n = ⊥
MadeForAbove number (Grow c) n = n ≡ number c
MadeForAbove number (Shrink c) n = n ≡ number c
MadeForAbove number Collapse n = ⊥
MadeForAbove number (ShrinkAbove c) n = n ≡ number c
MadeForAbove number (GrowLink c leaf byte) n = (n ≡ number c) ⊎ (n ≡ number leaf)
MadeForAbove number (Split top leaf common byte) n = (n ≡ number top) ⊎ (n ≡ number leaf)

-- the same of a plan
abbrev pub MadeForPlan : {C : Type 0} → (C → ℕ) → Plan C → ℕ → Type 0
MadeForPlan number (Here check one) n = MadeForHere number one.change n
MadeForPlan number (Above two) n = MadeForAbove number two.change n

-- the call has made node n, and has neither hung it nor given it back
abbrev pub MadeBy : {C V : Type 0} → (C → ℕ) → Phase C V → ℕ → Type 0
MadeBy number (MakeGreater s p leaf) n = IsMade number leaf n
MadeBy number (MakeBeside p at common byte top) n = n ≡ number top
MadeBy number (AskNew plan) n = MadeForPlan number plan n
MadeBy number (CheckAbove p one r) n = MadeForHere number one.change n
MadeBy number (UpgradeHere one r) n = MadeForHere number one.change n
MadeBy number (ChangeHere one r) n = MadeForHere number one.change n
MadeBy number (UpgradeTop g two r) n = MadeForAbove number two.change n
MadeBy number (UpgradeAbove two r) n = MadeForAbove number two.change n
MadeBy number (UpgradeBelow two r) n = MadeForAbove number two.change n
MadeBy number (ChangeAbove two r) n = MadeForAbove number two.change n
MadeBy number _ n = ⊥

-- the call has taken node n out of the tree, and has not yet handed it over
abbrev pub TakenBy : {C V : Type 0} → (C → ℕ) → Phase C V → ℕ → Type 0
TakenBy number (Obsolete m next p r) n = (n ≡ number m) ⊎ IsMade number next n
TakenBy number (Retire m next p r) n = (n ≡ number m) ⊎ IsMade number next n
TakenBy number _ n = ⊥

-- every lock in the tree, every made node that isn't in the tree and every node that left it and wasn't handed over
-- is that of a call between its steps; a call that has ended has none. Each other node isn't made, is in the tree, was
-- handed over, or was given back
pub record Holdings {C V : Type 0} (number : C → ℕ) (a : ℕ → Note) (h : ℕ → Node V) (ms : List (Machine C V)) : Type 0 where
  pub owned : (n i : ℕ) → (a n).owner ≡ Some i → (m : Machine C V) × (slice_get ms i ≡ Some m) × LockedBy number m.phase n
  pub held : (n i : ℕ) → (a n).status ≡ Held i → (m : Machine C V) × (slice_get ms i ≡ Some m) × MadeBy number m.phase n
  pub locked : (n : ℕ) → (a n).status ≡ Linked → (h n).locked ≡ true → (i : ℕ) × ((a n).owner ≡ Some i)
  pub gone : (n : ℕ) → (a n).status ≡ Gone → ((h n).retired ≡ true) ⊎ ((i : ℕ) × (m : Machine C V) × (slice_get ms i ≡ Some m) × TakenBy number m.phase n)
  pub spent : (n : ℕ) → is_spent (a n).status ≡ true → (h n).destroyed ≡ true
  pub unmade : (n : ℕ) → (a n).status ≡ Unmade → (h n).made ≡ false

-- no call is under way, and nobody holds anything
abbrev pub Rests : {C V : Type 0} → (C → ℕ) → (ℕ → Note) → (ℕ → Node V) → Type 0
Rests {C} {V} number a h = Holdings {C = C} {V = V} number a h []

-- what a call holds is its own: no two calls hold one lock or one made node
pub record Apart {C V : Type 0} (number : C → ℕ) (h : ℕ → Node V) (ms : List (Machine C V)) : Type 0 where
  pub locked : (i n : ℕ) (m : Machine C V) → slice_get ms i ≡ Some m → LockedBy number m.phase n → (h n).locked ≡ true
  pub locks : (i j n : ℕ) (m k : Machine C V) → i ≢ j → slice_get ms i ≡ Some m → slice_get ms j ≡ Some k → LockedBy number m.phase n → LockedBy number k.phase n → ⊥
  pub nodes : (i j n : ℕ) (m k : Machine C V) → i ≢ j → slice_get ms i ≡ Some m → slice_get ms j ≡ Some k → MadeBy number m.phase n → MadeBy number k.phase n → ⊥
