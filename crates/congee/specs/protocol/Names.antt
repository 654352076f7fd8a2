-- The names of nodes that a call has between its steps, and where each of them comes from.
use Rattle.std.specs.Prelude.{◌≡◌, ℕ, Bool, true, false, List, [], ◌∷◌, ◌++◌, Option, None, Some}
use Rattle.std.specs.List.{All, Contains}
use Rattle.congee.specs.declared.protocol.store.Stamp.{Stamp}
use Rattle.congee.specs.declared.protocol.phase.Parent.{Parent}
use Rattle.congee.specs.declared.protocol.phase.Above.{Above as Over}
use Rattle.congee.specs.declared.protocol.phase.Site.{Site}
use Rattle.congee.specs.declared.protocol.phase.Placement.{Placement}
use Rattle.congee.specs.declared.protocol.phase.Placement.TheVariants.{Set, Link}
use Rattle.congee.specs.declared.protocol.phase.NodeChange.{NodeChange}
use Rattle.congee.specs.declared.protocol.phase.Replacement.{Replacement}
use Rattle.congee.specs.declared.protocol.phase.Replacement.TheVariants.{Unlink, Grow, GrowLink, Split, Shrink, Collapse, ShrinkAbove}
use Rattle.congee.specs.declared.protocol.phase.ParentChange.{ParentChange}
use Rattle.congee.specs.declared.protocol.phase.Plan.{Plan}
use Rattle.congee.specs.declared.protocol.phase.Plan.TheVariants.{Here, Above}
use Rattle.congee.specs.declared.protocol.phase.Phase.{Phase}
use Rattle.congee.specs.declared.protocol.phase.Phase.TheVariants.{New, Version, Read, Check, CheckUncopied, CheckMiss, CheckDown, CheckOld, MakeLeaf, MakeGreater, MakeTop, MakeBeside, MakeLesser, AskOld, AskNew, Confirm, CheckAbove, UpgradeHere, ChangeHere, UpgradeTop, UpgradeAbove, UpgradeBelow, ChangeAbove, Obsolete, Retire, UnlockBelow, Unlock, Unwind, Scan, Ended}
use Rattle.congee.specs.declared.protocol.machine.Machine.{Machine}
use Rattle.congee.specs.Heap.{Node, Below}
use Rattle.congee.specs.protocol.Handing.{InTree}
use Rattle.congee.specs.Keys.{key_bytes}
use Rattle.congee.specs.Notes.{Note, Tree, LockWords}
use Rattle.congee.specs.protocol.Protocol.{Known}
use Rattle.congee.specs.protocol.ScanKnown.{names_scan}

-- the node above, where there is one
abbrev pub name_above : {C : Type 0} → (C → ℕ) → Option (Parent C) → List ℕ
name_above number None = []
name_above number (Some p) = number p.stamp.node ∷ []

-- the two nodes above
abbrev pub names_over : {C : Type 0} → (C → ℕ) → Option (Over C) → List ℕ
names_over number None = []
names_over number (Some u) = number u.near.stamp.node ∷ name_above number u.far

-- a node with its version, where there is one
abbrev pub name_stamped : {C : Type 0} → (C → ℕ) → Option (Stamp C) → List ℕ
name_stamped number None = []
name_stamped number (Some p) = number p.node ∷ []

-- a leaf that was made, where there is one
abbrev pub name_made : {C : Type 0} → (C → ℕ) → Option C → List ℕ
name_made number None = []
name_made number (Some c) = number c ∷ []

-- the nodes made for a change
abbrev pub names_for_one : {C : Type 0} → (C → ℕ) → Placement C → List ℕ
names_for_one number Set = []
names_for_one number (Link leaf) = number leaf ∷ []

-- those for a change of two nodes
abbrev pub names_for_two : {C : Type 0} → (C → ℕ) → Replacement C → List ℕ
names_for_two number Unlink = []
names_for_two number (Grow c) = number c ∷ []
names_for_two number (Shrink c) = number c ∷ []
names_for_two number Collapse = []
names_for_two number (ShrinkAbove c) = number c ∷ []
names_for_two number (GrowLink c leaf byte) = number c ∷ number leaf ∷ []
names_for_two number (Split top leaf common byte) = number top ∷ number leaf ∷ []

-- a node as it was read, and a change
abbrev pub names_site : {C : Type 0} → (C → ℕ) → Site C → List ℕ
names_site number s = number s.at.node ∷ names_over number s.above

-- those of a change of one node
abbrev pub names_one : {C : Type 0} → (C → ℕ) → NodeChange C → List ℕ
names_one number one = number one.at.node ∷ names_for_one number one.change

-- those of a change of two nodes
abbrev pub names_two : {C : Type 0} → (C → ℕ) → ParentChange C → List ℕ
names_two number two = number two.above.stamp.node ∷ number two.at.node ∷ name_above number two.top ++ names_for_two number two.change

-- those of a plan
abbrev pub names_plan : {C : Type 0} → (C → ℕ) → Plan C → List ℕ
names_plan number (Here check one) = name_stamped number check ++ names_one number one
names_plan number (Above two) = names_two number two

-- the names that a call has in a phase: the nodes that it looks at, has locked, has made. What a read found at a
-- node isn't among them before the check that follows
abbrev pub names : {C V : Type 0} → (C → ℕ) → Phase C V → List ℕ
names number New = []
names number (Version p c) = number c ∷ names_over number p
names number (Read p at) = number at.node ∷ names_over number p
names number (Check s c) = names_site number s
names number (CheckUncopied at) = number at.node ∷ []
names number (CheckMiss p at common byte) = number p.stamp.node ∷ number at.node ∷ []
names number (CheckDown p at c) = number p.node ∷ number c ∷ names_over number (Some at)
names number (CheckOld p s v) = number p.node ∷ names_site number s
names number (MakeLeaf s) = names_site number s
names number (MakeGreater s p leaf) = number p.stamp.node ∷ name_made number leaf ++ names_site number s
names number (MakeTop p at common byte) = number p.stamp.node ∷ number at.node ∷ []
names number (MakeBeside p at common byte top) = number p.stamp.node ∷ number at.node ∷ number top ∷ []
names number (MakeLesser s p g r) = number p.stamp.node ∷ name_above number g ++ names_site number s
names number (AskOld s v) = names_site number s
names number (AskNew plan) = names_plan number plan
names number (Confirm at r) = number at.node ∷ []
names number (CheckAbove p one r) = number p.node ∷ names_one number one
names number (UpgradeHere one r) = names_one number one
names number (ChangeHere one r) = names_one number one
names number (UpgradeTop g two r) = number g.stamp.node ∷ names_two number two
names number (UpgradeAbove two r) = names_two number two
names number (UpgradeBelow two r) = names_two number two
names number (ChangeAbove two r) = names_two number two
names number (Obsolete n next p r) = number n ∷ number p ∷ name_made number next
names number (Retire n next p r) = number n ∷ number p ∷ name_made number next
names number (UnlockBelow n p r) = number n ∷ number p ∷ []
names number (Unlock n r) = number n ∷ []
names number (Unwind n next e) = number n ∷ name_made number next
names number (Scan s) = names_scan number s
names number Ended = []

-- where a call has a name from after a step: it had it before; it is the root's; the step made the node; or the node
-- hangs, at this step, in a node of the tree
pub data Comes {V : Type 0} (top : ℕ) (had : List ℕ) (h h' : ℕ → Node V) (n : ℕ) : Type 0 where
  Had : Contains had n → Comes top had h h' n
  Top : n ≡ top → Comes top had h h' n
  New_made : (h n).made ≡ false → (h' n).made ≡ true → Comes top had h h' n
  Hangs : (p b : ℕ) → InTree h p → (h p).children b ≡ Below n → Comes top had h h' n

-- each name of the next phase, whichever call it is, as long as others keep what it knows
abbrev pub KeepsOrigin : {C V : Type 0} → (C → ℕ) → (V → V → Bool) → Bool → Machine C V → (ℕ → Node V) → Machine C V → (ℕ → Node V) → Type 0
KeepsOrigin number same always m h m' h' = (i : ℕ) (a : ℕ → Note) → number m.root ≡ 0 → Tree a h → LockWords a h
    → Known number same always i a h m.key (key_bytes m.key) m.kind m.given m.phase → All (Comes (number m.root) (names number m.phase) h h') (names number m'.phase)
