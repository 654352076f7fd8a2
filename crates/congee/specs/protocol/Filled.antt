-- How many children the nodes of a tree have: a node but the root has one, two where it holds nodes, whatever calls came; and none
-- is too small for its form, where no call goes on without a node that it wanted.
use Rattle.std.specs.Prelude.{◌≡◌, ◌≢◌, ℕ, suc, ◌<◌, ◌≤◌, Bool, true, false, List, [], ◌∷◌, length, Option, None, Some, slice_get}
use Rattle.congee.specs.declared.forms.base_node.NodeType.{NodeType}
use Rattle.congee.specs.declared.forms.base_node.NodeType.TheVariants.{N4, N16, N48, N256}
use Rattle.congee.specs.declared.forms.prefix.TheConstants.{MAX_PREFIX_LEN}
use Rattle.congee.specs.declared.protocol.phase.Placement.{Placement}
use Rattle.congee.specs.declared.protocol.phase.Placement.TheVariants.{Set, Link}
use Rattle.congee.specs.declared.protocol.phase.NodeChange.{NodeChange}
use Rattle.congee.specs.declared.protocol.phase.Replacement.{Replacement}
use Rattle.congee.specs.declared.protocol.phase.Replacement.TheVariants.{Unlink, Grow, GrowLink, Split, Shrink, Collapse, ShrinkAbove}
use Rattle.congee.specs.declared.protocol.phase.ParentChange.{ParentChange}
use Rattle.congee.specs.declared.protocol.phase.Plan.{Plan}
use Rattle.congee.specs.declared.protocol.phase.Plan.TheVariants.{Here, Above}
use Rattle.congee.specs.declared.protocol.phase.Phase.{Phase}
use Rattle.congee.specs.declared.protocol.phase.Phase.TheVariants.{MakeGreater, MakeBeside, MakeLesser, AskNew, CheckAbove, UpgradeHere, ChangeHere, UpgradeTop, UpgradeAbove, UpgradeBelow, ChangeAbove}
use Rattle.congee.specs.declared.protocol.machine.Machine.{Machine}
use Rattle.congee.specs.declared.protocol.machine.Move.{Move}
use Rattle.congee.specs.Heap.{Node, is_taken}
use Rattle.congee.specs.protocol.Events.{places}
use Rattle.congee.specs.protocol.Handing.{InTree}

-- the fewest children of a node of the form: with fewer, it gives place to one of a lesser form
abbrev pub least_in : NodeType → ℕ
least_in N4 = 0
least_in N16 = 4
least_in N48 = 13
least_in N256 = 41

-- a node with a prefix of so many bytes and so many children: it has a child, two where it holds nodes
pub record Branches (size count : ℕ) : Type 0 where
  pub some : 1 ≤ count
  pub branches : size < MAX_PREFIX_LEN → 2 ≤ count

-- a node with a prefix of so many bytes, so many children and so many places: it has a child, two where it holds nodes, and
-- isn't too small for its form
pub record FilledAs (size count capacity : ℕ) : Type 0 where
  pub some : 1 ≤ count
  pub branches : size < MAX_PREFIX_LEN → 2 ≤ count
  pub least : (form : NodeType) → places form ≡ capacity → least_in form ≤ count

-- each node of the tree but the root is so
abbrev pub AllFilled : {V : Type 0} → (ℕ → Node V) → Type 0
AllFilled h = (n : ℕ) → n ≢ 0 → InTree h n → FilledAs (length (h n).prefix) (h n).count (h n).capacity

-- each node of the tree but the root has a child, two where it holds nodes
abbrev pub AllBranch : {V : Type 0} → (ℕ → Node V) → Type 0
AllBranch h = (n : ℕ) → n ≢ 0 → InTree h n → Branches (length (h n).prefix) (h n).count

-- so many places, or none, as no form has, where nothing is asked by the form
abbrev pub places_in : Bool → ℕ → ℕ
places_in true capacity = capacity
places_in false capacity = 0

-- a node has enough children, and by its form, if that is asked
abbrev pub IsFilled : {V : Type 0} → Bool → Node V → Type 0
IsFilled by_form n = FilledAs (length n.prefix) n.count (places_in by_form n.capacity)

-- each node of the tree but the root has
abbrev pub AllFilledBy : {V : Type 0} → Bool → (ℕ → Node V) → Type 0
AllFilledBy by_form h = (n : ℕ) → n ≢ 0 → InTree h n → IsFilled by_form (h n)

-- with one child fewer it is so in one of so many places
abbrev pub FilledWithout : ℕ → ℕ → ℕ → Type 0
FilledWithout size count capacity = (k : ℕ) → suc k ≡ count → FilledAs size k capacity

-- what a call puts into node k, which is n, leaves it so; a new leaf has four places
abbrev pub FillsHere : {C V : Type 0} → Bool → (C → ℕ) → (ℕ → Node V) → Placement C → Option V → ℕ → Node V → Type 0
FillsHere by_form number h (Link leaf) given k n = (h (number leaf)).capacity ≡ 4
FillsHere by_form number h Set None k n = k ≢ 0 → FilledWithout (length n.prefix) n.count (places_in by_form n.capacity)
FillsHere by_form number h Set (Some v) k n = Unit {0}

-- and what it puts in the place of that node, or of the one above, which is q under the number m
abbrev pub FillsAbove : {C V : Type 0} → Bool → (C → ℕ) → (ℕ → Node V) → Replacement C → ℕ → Node V → ℕ → Node V → Type 0
FillsAbove by_form number h Unlink m q k n = m ≢ 0 → FilledWithout (length q.prefix) q.count (places_in by_form q.capacity)
FillsAbove by_form number h Collapse m q k n = Unit {0}
FillsAbove by_form number h (ShrinkAbove c) m q k n = m ≢ 0 → FilledWithout (length q.prefix) q.count (places_in by_form (h (number c)).capacity)
FillsAbove by_form number h (Shrink c) m q k n = k ≢ 0 → FilledWithout (length n.prefix) n.count (places_in by_form (h (number c)).capacity)
FillsAbove by_form number h (Grow c) m q k n = k ≢ 0 → FilledAs (length n.prefix) (suc n.count) (places_in by_form (h (number c)).capacity)
FillsAbove by_form number h (GrowLink c leaf byte) m q k n = (k ≢ 0 → FilledAs (length n.prefix) (suc n.count) (places_in by_form (h (number c)).capacity)) × ((h (number leaf)).capacity ≡ 4)
FillsAbove by_form number h (Split top leaf common byte) m q k n = ((h (number top)).capacity ≡ 4) × ((h (number leaf)).capacity ≡ 4)

-- the same of the nodes that the change names
abbrev pub FillsAt : {C V : Type 0} → Bool → (C → ℕ) → (ℕ → Node V) → ParentChange C → Type 0
FillsAt by_form number h two = FillsAbove by_form number h two.change (number two.above.stamp.node) (h (number two.above.stamp.node)) (number two.at.node) (h (number two.at.node))

-- as long as the nodes' lock words are those taken
abbrev pub MayFillHere : {C V : Type 0} → Bool → (C → ℕ) → (ℕ → Node V) → Option V → NodeChange C → Type 0
MayFillHere by_form number h given one = is_taken (h (number one.at.node)) one.at.version ≡ true → FillsHere by_form number h one.change given (number one.at.node) (h (number one.at.node))

-- the same of a change of two nodes, of which the upper one is locked
abbrev pub MayFillHalf : {C V : Type 0} → Bool → (C → ℕ) → (ℕ → Node V) → ParentChange C → Type 0
MayFillHalf by_form number h two = is_taken (h (number two.at.node)) two.at.version ≡ true → FillsAt by_form number h two

-- and of one with neither locked
abbrev pub MayFillAbove : {C V : Type 0} → Bool → (C → ℕ) → (ℕ → Node V) → ParentChange C → Type 0
MayFillAbove by_form number h two = is_taken (h (number two.above.stamp.node)) two.above.stamp.version ≡ true → MayFillHalf by_form number h two

-- and of a plan
abbrev pub MayFillPlan : {C V : Type 0} → Bool → (C → ℕ) → (ℕ → Node V) → V → Plan C → Type 0
MayFillPlan by_form number h v (Here check one) = MayFillHere by_form number h (Some v) one
MayFillPlan by_form number h v (Above two) = MayFillAbove by_form number h two

-- a made node, if there is one, has four places
abbrev pub IsSmall : {C V : Type 0} → (C → ℕ) → (ℕ → Node V) → Option C → Type 0
IsSmall number h None = Unit {0}
IsSmall number h (Some c) = (h (number c)).capacity ≡ 4

-- what a call in this phase is about to do leaves the tree filled; a leaf that gives place to a lesser one has a further value
abbrev pub Fills : {C V : Type 0} → Bool → (C → ℕ) → (ℕ → Node V) → Option V → Phase C V → Type 0
Fills by_form number h given (MakeGreater s p leaf) = IsSmall number h leaf
Fills by_form number h given (MakeBeside p at common byte top) = (h (number top)).capacity ≡ 4
Fills by_form number h given (MakeLesser s p None r) = s.count ≢ 1
Fills {C} {V} by_form number h given (AskNew plan) = (v : V) → MayFillPlan by_form number h v plan
Fills by_form number h given (CheckAbove p one r) = MayFillHere by_form number h given one
Fills by_form number h given (UpgradeHere one r) = MayFillHere by_form number h given one
Fills by_form number h given (ChangeHere one r) = FillsHere by_form number h one.change given (number one.at.node) (h (number one.at.node))
Fills by_form number h given (UpgradeTop g two r) = MayFillAbove by_form number h two
Fills by_form number h given (UpgradeAbove two r) = MayFillAbove by_form number h two
Fills by_form number h given (UpgradeBelow two r) = MayFillHalf by_form number h two
Fills by_form number h given (ChangeAbove two r) = FillsAt by_form number h two
Fills by_form number h given _ = Unit {0}

-- the tree is filled, and each call leaves it so
pub record KeepsFilled {C V : Type 0} (by_form : Bool) (number : C → ℕ) (h : ℕ → Node V) (ms : List (Machine C V)) : Type 0 where
  pub tree : AllFilledBy by_form h
  pub calls : (i : ℕ) (m : Machine C V) → slice_get ms i ≡ Some m → Fills by_form number h m.given m.phase

-- no step went on without a node that it wanted
abbrev pub NoneSkipped : {V : Type 0} → List (Move V) → Type 0
NoneSkipped [] = Unit {0}
NoneSkipped (d ∷ ds) = (d.skipped ≡ false) × NoneSkipped ds
