-- What a call knows of the tree between its steps, as long as others may step.
use Rattle.std.specs.Prelude.{suc, ◌≡◌, ◌≢◌, ℕ, ◌==◌, ◌<◌, ◌≤◌, ◌⊎◌, Bool, true, false, List, length, slice_index, Option, None, Some}
use Rattle.judge.specs.declared.journal.Call.{Call}
use Rattle.judge.specs.declared.journal.Call.TheVariants as call
use Rattle.judge.specs.declared.journal.Reply.{Reply}
use Rattle.judge.specs.Answer.{leaves, reply_on}
use Rattle.congee.specs.declared.protocol.store.Stamp.{Stamp}
use Rattle.congee.specs.declared.protocol.store.Refusal.{Refusal}
use Rattle.congee.specs.declared.protocol.store.Refusal.TheVariants as refusal
use Rattle.congee.specs.declared.protocol.phase.Kind.{Kind}
use Rattle.congee.specs.declared.protocol.phase.Kind.TheVariants.{Get, Insert, Remove, ComputePresent, ComputeInsert, Exchange}
use Rattle.congee.specs.declared.protocol.phase.Parent.{Parent}
use Rattle.congee.specs.declared.protocol.phase.Above.{Above as Over}
use Rattle.congee.specs.declared.protocol.phase.Site.{Site}
use Rattle.congee.specs.declared.protocol.phase.Placement.{Placement}
use Rattle.congee.specs.declared.protocol.phase.Placement.TheVariants.{Set, Link}
use Rattle.congee.specs.declared.protocol.phase.NodeChange.{NodeChange}
use Rattle.congee.specs.declared.protocol.phase.Replacement.{Replacement}
use Rattle.congee.specs.declared.protocol.phase.Replacement.TheVariants.{Unlink, Grow, GrowLink, Split, Shrink, Collapse, ShrinkAbove}
use Rattle.congee.specs.declared.protocol.phase.ParentChange.{ParentChange}
use Rattle.congee.specs.declared.protocol.phase.Plan.{Plan}
use Rattle.congee.specs.declared.protocol.phase.Plan.TheVariants.{Here, Above}
use Rattle.congee.specs.declared.protocol.phase.Phase.{Phase}
use Rattle.congee.specs.declared.protocol.phase.Phase.TheVariants.{New, Version, Read, Check, CheckUncopied, CheckMiss, CheckDown, CheckOld, MakeLeaf, MakeGreater, MakeTop, MakeBeside, MakeLesser, AskOld, AskNew, Confirm, CheckAbove, UpgradeHere, ChangeHere, UpgradeTop, UpgradeAbove, UpgradeBelow, ChangeAbove, Obsolete, Retire, UnlockBelow, Unlock, Unwind, Scan, Ended}
use Rattle.congee.specs.Heap.{Node, Hung, Nothing, Below, Holds, fits, child_for, is_taken}
use Rattle.congee.specs.protocol.Events.{hung, places, Parts}
use Rattle.congee.specs.protocol.Steps.{adds, shrinks}
use Rattle.congee.specs.protocol.ScanKnown.{ScanKnown}
pub use Rattle.congee.specs.protocol.Stamps.{Stamped, Fresh}
use Rattle.congee.specs.Notes.{Note, Unmade, Held, Linked, Gone, is_published, is_spent, BeginsKey, Tree, LockWords}
use Rattle.congee.specs.declared.forms.prefix.TheConstants.{MAX_PREFIX_LEN}

-- node n was read in the node above, at the byte
pub record ChildOf {C V : Type 0} (number : C → ℕ) (a : ℕ → Note) (h : ℕ → Node V) (key : List ℕ) (p : Parent C) (n : ℕ) : Type 0 where
  pub fitted : fits (h (number p.stamp.node)).prefix key ≡ true
  pub byte : p.byte ≡ slice_index key (length (h (number p.stamp.node)).prefix)
  pub depth : p.depth ≡ length (h (number p.stamp.node)).prefix
  pub short : p.depth ≤ MAX_PREFIX_LEN
  pub fresh : Fresh a h (number p.stamp.node) p.stamp.version (λ m. (child_for m key ≡ Below n) × (m.count ≡ p.count) × (m.capacity ≡ places p.form))

-- nothing is above the root
abbrev pub IsFar : {C V : Type 0} → (C → ℕ) → (ℕ → Note) → (ℕ → Node V) → List ℕ → Option (Parent C) → ℕ → Type 0
IsFar number a h key None n = n ≡ 0
IsFar number a h key (Some p) n = ChildOf number a h key p n

-- what a call knows of the nodes above one: none is above the root
abbrev pub IsAbove : {C V : Type 0} → (C → ℕ) → (ℕ → Note) → (ℕ → Node V) → List ℕ → Option (Over C) → ℕ → Type 0
IsAbove number a h key None n = n ≡ 0
IsAbove number a h key (Some u) n = ChildOf number a h key u.near n × IsFar number a h key u.far (number u.near.stamp.node)

-- what a read saw is true of the node
pub record Sees {C V : Type 0} (key : List ℕ) (s : Site C) (x : Hung V) (n : Node V) : Type 0 where
  pub child : child_for n key ≡ x
  pub count : n.count ≡ s.count
  pub full : x ≡ Nothing → s.full ≡ (n.count == n.capacity)
  pub alone : n.count ≡ 1 → x ≢ Nothing → (b : ℕ) → b ≢ slice_index key (length n.prefix) → n.children b ≡ Nothing
  pub room : x ≡ Nothing → n.count < 256
  pub form : n.capacity ≡ places s.form

-- the node at hand, with what hangs at the key's byte there
pub record Knows {C V : Type 0} (number : C → ℕ) (a : ℕ → Note) (h : ℕ → Node V) (key : List ℕ) (s : Site C) (x : Hung V) : Type 0 where
  pub above : IsAbove number a h key s.above (number s.at.node)
  pub fitted : fits (h (number s.at.node)).prefix key ≡ true
  pub depth : s.depth ≡ length (h (number s.at.node)).prefix
  pub short : s.depth ≤ MAX_PREFIX_LEN
  pub byte : s.byte ≡ slice_index key (length (h (number s.at.node)).prefix)
  pub fresh : Fresh a h (number s.at.node) s.at.version (Sees key s x)

-- a node that call i has made, empty, on the key's way, with room for more children than `least`
pub record Made {V : Type 0} (i : ℕ) (a : ℕ → Note) (h : ℕ → Node V) (key : List ℕ) (c size least : ℕ) : Type 0 where
  pub held : (a c).status ≡ Held i
  pub unowned : (a c).owner ≡ None
  pub fitted : fits (h c).prefix key ≡ true
  pub long : length (h c).prefix ≡ size
  pub blank : (b : ℕ) → (h c).children b ≡ Nothing
  pub empty : (h c).count ≡ 0
  pub room : least < (h c).capacity
  pub made : (h c).made ≡ true
  pub kept : (h c).destroyed ≡ false
  pub unretired : (h c).retired ≡ false
  pub unlocked : (h c).locked ≡ false
  pub live : (h c).obsolete ≡ false
  pub keyed : BeginsKey (h c).prefix

-- a node of the tree whose lock call i holds
pub record Holding (i : ℕ) (a : ℕ → Note) (n : ℕ) : Type 0 where
  pub owner : (a n).owner ≡ Some i
  pub linked : (a n).status ≡ Linked

-- the change of one node: where it stands on the key's way, what the node holds, and what was made for it
abbrev pub IsLeafAt : {C : Type 0} → Placement C → ℕ → Type 0
IsLeafAt Set size = size ≡ MAX_PREFIX_LEN
IsLeafAt (Link leaf) size = size < MAX_PREFIX_LEN

-- where it stands
pub record PlacedHere {C : Type 0} (key : List ℕ) (change : Placement C) (b : ℕ) (p : List ℕ) : Type 0 where
  pub fitted : fits p key ≡ true
  pub byte : b ≡ slice_index key (length p)
  pub size : IsLeafAt change (length p)

-- what the node holds
pub record WantedHere {V : Type 0} (key : List ℕ) (x : Hung V) (n : Node V) : Type 0 where
  pub child : child_for n key ≡ x
  pub room : x ≡ Nothing → (n.count == n.capacity) ≡ false

-- and what was made for it
abbrev pub MadeHere : {C V : Type 0} → (C → ℕ) → ℕ → (ℕ → Note) → (ℕ → Node V) → List ℕ → Placement C → Type 0
MadeHere number i a h key Set = Unit {0}
MadeHere number i a h key (Link leaf) = Made i a h key (number leaf) MAX_PREFIX_LEN 0

-- nothing or a value
abbrev pub IsValue : {V : Type 0} → Hung V → Type 0
IsValue Nothing = Unit {0}
IsValue (Below c) = ⊥
IsValue (Holds v) = Unit {0}

-- the value that hangs there, if one does
abbrev pub value_in : {V : Type 0} → Hung V → Option V
value_in Nothing = None
value_in (Below c) = None
value_in (Holds v) = Some v

-- what stands before the change, beside the new value
abbrev pub FitsHere : {C V : Type 0} → Placement C → Hung V → Option V → Type 0
FitsHere Set x None = IsValue x × (x ≢ Nothing)
FitsHere Set x (Some v) = IsValue x
FitsHere (Link leaf) x None = ⊥
FitsHere (Link leaf) x (Some v) = x ≡ Nothing

-- what is known of it before the node is locked
pub record HereKnown {C V : Type 0} (number : C → ℕ) (i : ℕ) (a : ℕ → Note) (h : ℕ → Node V) (key : List ℕ) (one : NodeChange C) (x : Hung V) : Type 0 where
  pub placed : PlacedHere key one.change one.byte (h (number one.at.node)).prefix
  pub fresh : Fresh a h (number one.at.node) one.at.version (WantedHere key x)
  pub made : MadeHere number i a h key one.change

-- and once it is
pub record HereLocked {C V : Type 0} (number : C → ℕ) (i : ℕ) (a : ℕ → Note) (h : ℕ → Node V) (key : List ℕ) (one : NodeChange C) (x : Hung V) : Type 0 where
  pub holding : Holding i a (number one.at.node)
  pub placed : PlacedHere key one.change one.byte (h (number one.at.node)).prefix
  pub wanted : WantedHere key x (h (number one.at.node))
  pub made : MadeHere number i a h key one.change

-- the change of the node above, likewise
abbrev pub PlacedAbove : {C : Type 0} → List ℕ → Replacement C → List ℕ → Type 0
PlacedAbove key Unlink p = (fits p key ≡ true) × (length p ≡ MAX_PREFIX_LEN)
PlacedAbove key (Shrink c) p = (fits p key ≡ true) × (length p ≡ MAX_PREFIX_LEN)
PlacedAbove key Collapse p = (fits p key ≡ true) × (length p ≡ MAX_PREFIX_LEN)
PlacedAbove key (ShrinkAbove c) p = (fits p key ≡ true) × (length p ≡ MAX_PREFIX_LEN)
PlacedAbove key (Grow c) p = (fits p key ≡ true) × (length p ≡ MAX_PREFIX_LEN)
PlacedAbove key (GrowLink c leaf byte) p = (fits p key ≡ true) × (length p < MAX_PREFIX_LEN) × (byte ≡ slice_index key (length p))
PlacedAbove key (Split top leaf common byte) p = Parts p key common × (byte ≡ slice_index p common)

-- a leaf with the value alone
abbrev pub IsAlone : {V : Type 0} → List ℕ → Option V → Node V → Type 0
IsAlone key None n = ⊥
IsAlone key (Some v) n = (child_for n key ≡ Holds v) × ((b : ℕ) → b ≢ slice_index key (length n.prefix) → n.children b ≡ Nothing)

-- what the node at hand holds: the value that goes with it, or nothing, and how many children
abbrev pub WantedAbove : {C V : Type 0} → List ℕ → Replacement C → Option V → ℕ → Node V → Type 0
WantedAbove key Unlink found q n = IsAlone key found n
WantedAbove key Collapse found q n = IsAlone key found n
WantedAbove key (ShrinkAbove c) found q n = IsAlone key found n
WantedAbove key (Shrink c) None q n = ⊥
WantedAbove key (Shrink c) (Some v) q n = (child_for n key ≡ Holds v) × (n.count ≤ suc q)
WantedAbove key (Grow c) found q n = (child_for n key ≡ Nothing) × (n.count ≡ q)
WantedAbove key (GrowLink c leaf byte) found q n = (child_for n key ≡ Nothing) × (n.count ≡ q)
WantedAbove key (Split top leaf common byte) found q n = Unit {0}

-- what was made for it
abbrev pub MadeAbove : {C V : Type 0} → (C → ℕ) → ℕ → (ℕ → Note) → (ℕ → Node V) → List ℕ → Parent C → Replacement C → ℕ → ℕ → Type 0
MadeAbove number i a h key p Unlink size q = Unit {0}
MadeAbove number i a h key p Collapse size q = p.count ≡ 2
MadeAbove number i a h key p (Shrink c) size q = Made i a h key (number c) size q
MadeAbove number i a h key p (ShrinkAbove c) size q = Made i a h key (number c) p.depth q × (p.count ≤ suc q)
MadeAbove number i a h key p (Grow c) size q = Made i a h key (number c) size q
MadeAbove number i a h key p (GrowLink c leaf byte) size q = Made i a h key (number c) size q × Made i a h key (number leaf) MAX_PREFIX_LEN 0 × (number c ≢ number leaf)
MadeAbove number i a h key p (Split top leaf common byte) size q = Made i a h key (number top) common 1 × Made i a h key (number leaf) MAX_PREFIX_LEN 0 × (number top ≢ number leaf)

-- a value was found, and none is put
abbrev pub Goes : {V : Type 0} → Option V → Option V → Type 0
Goes None given = ⊥
Goes (Some v) None = Unit {0}
Goes (Some v) (Some w) = ⊥

-- an unlinking has found a value and puts none; the other changes have found none and put one
abbrev pub FitsAbove : {C V : Type 0} → Replacement C → Option V → Option V → Type 0
FitsAbove Unlink found given = Goes found given
FitsAbove (Shrink c) found given = Goes found given
FitsAbove Collapse found given = Goes found given
FitsAbove (ShrinkAbove c) found given = Goes found given
FitsAbove _ None None = ⊥
FitsAbove _ None (Some w) = Unit {0}
FitsAbove _ (Some v) given = ⊥

-- the node above is locked, and holds the node at hand
pub record AboveLocked {C V : Type 0} (number : C → ℕ) (i : ℕ) (a : ℕ → Note) (h : ℕ → Node V) (key : List ℕ) (p : Parent C) (n : ℕ) : Type 0 where
  pub holding : Holding i a (number p.stamp.node)
  pub fitted : fits (h (number p.stamp.node)).prefix key ≡ true
  pub byte : p.byte ≡ slice_index key (length (h (number p.stamp.node)).prefix)
  pub child : child_for (h (number p.stamp.node)) key ≡ Below n
  pub depth : p.depth ≡ length (h (number p.stamp.node)).prefix
  pub count : (h (number p.stamp.node)).count ≡ p.count
  pub form : (h (number p.stamp.node)).capacity ≡ places p.form

-- the node above both is locked, where there is one, and holds the node above
abbrev pub TopLocked : {C V : Type 0} → (C → ℕ) → ℕ → (ℕ → Note) → (ℕ → Node V) → List ℕ → Option (Parent C) → ℕ → Type 0
TopLocked number i a h key None n = Unit {0}
TopLocked number i a h key (Some g) n = AboveLocked number i a h key g n

-- a change of the node above both has it, and no other
abbrev pub HasTop : {C : Type 0} → Replacement C → Option (Parent C) → Type 0
HasTop Collapse (Some g) = Unit {0}
HasTop (ShrinkAbove c) (Some g) = Unit {0}
HasTop Collapse None = ⊥
HasTop (ShrinkAbove c) None = ⊥
HasTop _ top = top ≡ None

-- what is known of it before the upper node is locked
pub record AboveKnown {C V : Type 0} (number : C → ℕ) (i : ℕ) (a : ℕ → Note) (h : ℕ → Node V) (key : List ℕ) (two : ParentChange C) (found : Option V) (q : ℕ) : Type 0 where
  pub top : TopLocked number i a h key two.top (number two.above.stamp.node)
  pub above : ChildOf number a h key two.above (number two.at.node)
  pub placed : PlacedAbove key two.change (h (number two.at.node)).prefix
  pub fresh : Fresh a h (number two.at.node) two.at.version (WantedAbove key two.change found q)
  pub made : MadeAbove number i a h key two.above two.change (length (h (number two.at.node)).prefix) q

-- once that is
pub record HalfLocked {C V : Type 0} (number : C → ℕ) (i : ℕ) (a : ℕ → Note) (h : ℕ → Node V) (key : List ℕ) (two : ParentChange C) (found : Option V) (q : ℕ) : Type 0 where
  pub top : TopLocked number i a h key two.top (number two.above.stamp.node)
  pub above : AboveLocked number i a h key two.above (number two.at.node)
  pub placed : PlacedAbove key two.change (h (number two.at.node)).prefix
  pub fresh : Fresh a h (number two.at.node) two.at.version (WantedAbove key two.change found q)
  pub made : MadeAbove number i a h key two.above two.change (length (h (number two.at.node)).prefix) q

-- and once both are
pub record BothLocked {C V : Type 0} (number : C → ℕ) (i : ℕ) (a : ℕ → Note) (h : ℕ → Node V) (key : List ℕ) (two : ParentChange C) (found : Option V) (q : ℕ) : Type 0 where
  pub top : TopLocked number i a h key two.top (number two.above.stamp.node)
  pub above : AboveLocked number i a h key two.above (number two.at.node)
  pub owner : (a (number two.at.node)).owner ≡ Some i
  pub placed : PlacedAbove key two.change (h (number two.at.node)).prefix
  pub wanted : WantedAbove key two.change found q (h (number two.at.node))
  pub made : MadeAbove number i a h key two.above two.change (length (h (number two.at.node)).prefix) q

-- a node that the call took out, still locked by it, and the node above
pub record TakenOut {V : Type 0} (i : ℕ) (a : ℕ → Note) (h : ℕ → Node V) (p n : ℕ) : Type 0 where
  pub above : Holding i a p
  pub owner : (a n).owner ≡ Some i
  pub gone : (a n).status ≡ Gone
  pub unretired : (h n).retired ≡ false

-- another one that it took out, likewise
abbrev pub AlsoOut : {C V : Type 0} → (C → ℕ) → ℕ → (ℕ → Note) → (ℕ → Node V) → ℕ → Option C → Type 0
AlsoOut number i a h n None = Unit {0}
AlsoOut number i a h n (Some c) = ((a (number c)).owner ≡ Some i) × ((a (number c)).status ≡ Gone) × ((h (number c)).retired ≡ false) × (number c ≢ n)

-- and one that it still holds, if there is one
abbrev pub AlsoHolding : {C : Type 0} → (C → ℕ) → ℕ → (ℕ → Note) → ℕ → Option C → Type 0
AlsoHolding number i a n None = Unit {0}
AlsoHolding number i a n (Some c) = Holding i a (number c) × (number c ≢ n)

-- the call that the map answers: the one that began, with the last answer of its closure; for a key found absent,
-- a call on a present key alone has none
abbrev pub IsCall : {V : Type 0} → ℕ → Kind V → Option V → Option V → Call V → Type 0
IsCall k Get given found c = c ≡ call.Get k
IsCall k Insert None found c = ⊥
IsCall k Insert (Some v) found c = c ≡ call.Insert k v
IsCall k Remove given found c = c ≡ call.Remove k
IsCall k ComputePresent given None c = c ≡ call.ComputePresent k None
IsCall k ComputePresent given (Some v) c = c ≡ call.ComputePresent k given
IsCall k ComputeInsert None found c = ⊥
IsCall k ComputeInsert (Some v) found c = c ≡ call.ComputeInsert k v
IsCall k (Exchange old) given found c = c ≡ call.Exchange k old given

-- where `found` stands at the key, the call's reply is r, and `after` stands there after it
pub record Settles {V : Type 0} (same : V → V → Bool) (k : ℕ) (kind : Kind V) (given found : Option V) (r : Reply V) (after : Option V) : Type 0 where
  pub call : Call V
  pub is_call : IsCall k kind given found call
  pub reply : reply_on same call found ≡ r
  pub left : leaves same call found ≡ after

-- the value that an insertion was given is there until it takes effect
abbrev pub HasGift : {V : Type 0} → Kind V → Option V → Type 0
HasGift {V} Insert given = (v : V) × (given ≡ Some v)
HasGift Remove given = given ≡ None
HasGift _ given = Unit {0}

-- a call that asks a closure
abbrev pub Asking : {V : Type 0} → Kind V → Type 0
Asking ComputePresent = Unit {0}
Asking ComputeInsert = Unit {0}
Asking _ = ⊥

-- a plan that waits for the closure's answer
abbrev pub Adding : {C : Type 0} → Replacement C → Type 0
Adding Unlink = ⊥
Adding (Shrink c) = ⊥
Adding Collapse = ⊥
Adding (ShrinkAbove c) = ⊥
Adding _ = Unit {0}

-- a lock was not had: its exchange failed, or no version is left for it
abbrev pub IsFailure : Option Refusal → Type 0
IsFailure None = Unit {0}
IsFailure (Some e) = e ≡ refusal.Exhausted

-- a node at a version, if one is to be checked, is known
abbrev pub StampedIf : {C V : Type 0} → (C → ℕ) → (ℕ → Note) → (ℕ → Node V) → Option (Stamp C) → Type 0
StampedIf number a h None = Unit {0}
StampedIf number a h (Some p) = Stamped a h (number p.node) p.version

-- what is known of a plan
abbrev pub PlanKnown : {C V : Type 0} → (C → ℕ) → ℕ → (ℕ → Note) → (ℕ → Node V) → List ℕ → Plan C → Type 0
PlanKnown number i a h key (Here check one) = StampedIf number a h check × HereKnown number i a h key one Nothing
PlanKnown number i a h key (Above two) = ((q : ℕ) × AboveKnown number i a h key two None q) × Adding two.change × (two.top ≡ None)

-- a leaf was made unless the node at hand is one
abbrev pub MadeLeafFor : {C V : Type 0} → (C → ℕ) → ℕ → (ℕ → Note) → (ℕ → Node V) → List ℕ → Site C → Option C → Type 0
MadeLeafFor number i a h key s None = s.depth ≡ MAX_PREFIX_LEN
MadeLeafFor number i a h key s (Some leaf) = (s.depth < MAX_PREFIX_LEN) × Made i a h key (number leaf) MAX_PREFIX_LEN 0

-- a value stands for the key as long as the node is as it was taken
pub record Confirmed {C V : Type 0} (number : C → ℕ) (a : ℕ → Note) (h : ℕ → Node V) (key : List ℕ) (at : Stamp C) (v : V) : Type 0 where
  pub fitted : fits (h (number at.node)).prefix key ≡ true
  pub fresh : Fresh a h (number at.node) at.version (λ m. child_for m key ≡ Holds v)

-- what gives way to a lesser node: the leaf, which has others, or the node above, which isn't the root
abbrev pub IsLesser : {C V : Type 0} → (C → ℕ) → (ℕ → Note) → (ℕ → Node V) → List ℕ → Site C → Parent C → Option (Parent C) → Type 0
IsLesser number a h key s p None = shrinks s.form s.count ≡ true
IsLesser number a h key s p (Some g) = ChildOf number a h key g (number p.stamp.node) × (s.count ≡ 1) × (2 < p.count) × (shrinks p.form p.count ≡ true)

-- what call i knows in each phase
abbrev pub Known : {C V : Type 0} → (C → ℕ) → (V → V → Bool) → Bool → ℕ → (ℕ → Note) → (ℕ → Node V) → ℕ → List ℕ → Kind V → Option V → Phase C V → Type 0
Known number same always i a h k key kind given New = HasGift kind given
Known number same always i a h k key kind given (Version above n) = HasGift kind given × IsAbove number a h key above (number n) × (is_published (a (number n)).status ≡ true)
Known number same always i a h k key kind given (Read above at) = HasGift kind given × IsAbove number a h key above (number at.node) × Stamped a h (number at.node) at.version
Known number same always i a h k key kind given (Check s c) = HasGift kind given × Knows number a h key s (hung number c)
Known number same always i a h k key kind given (CheckUncopied at) = HasGift kind given × Stamped a h (number at.node) at.version × (always ≡ false)
Known number same always i a h k key kind given (CheckMiss p at common byte) = HasGift kind given × ChildOf number a h key p (number at.node) × Stamped a h (number at.node) at.version
    × Parts (h (number at.node)).prefix key common × (byte ≡ slice_index (h (number at.node)).prefix common)
Known number same always i a h k key kind given (CheckDown p at c) = HasGift kind given × Stamped a h (number p.node) p.version × IsAbove number a h key (Some at) (number c) × (is_published (a (number c)).status ≡ true)
Known number same always i a h k key kind given (CheckOld p s v) = HasGift kind given × Stamped a h (number p.node) p.version × Knows number a h key s (Holds v) × (adds kind ≡ true) × (s.depth ≡ MAX_PREFIX_LEN)
Known number same always i a h k key kind given (MakeLeaf s) = HasGift kind given × Knows number a h key s Nothing × (s.depth < MAX_PREFIX_LEN) × (adds kind ≡ true) × (s.count < 256)
Known number same always i a h k key kind given (MakeGreater s p leaf) = HasGift kind given × Knows number a h key s Nothing × ChildOf number a h key p (number s.at.node) × MadeLeafFor number i a h key s leaf × (adds kind ≡ true) × (s.count < 256)
Known number same always i a h k key kind given (MakeTop p at common byte) = HasGift kind given × ChildOf number a h key p (number at.node) × Stamped a h (number at.node) at.version
    × Parts (h (number at.node)).prefix key common × (byte ≡ slice_index (h (number at.node)).prefix common) × (adds kind ≡ true)
Known number same always i a h k key kind given (MakeBeside p at common byte top) = HasGift kind given × ChildOf number a h key p (number at.node) × Stamped a h (number at.node) at.version
    × Parts (h (number at.node)).prefix key common × (byte ≡ slice_index (h (number at.node)).prefix common) × (adds kind ≡ true) × Made i a h key (number top) common 1
Known {C} {V} number same always i a h k key kind given (MakeLesser s p g r) = HasGift kind given × ((v : V) × Knows number a h key s (Holds v) × Settles same k kind given (Some v) r None) × (s.depth ≡ MAX_PREFIX_LEN) × (given ≡ None)
    × ChildOf number a h key p (number s.at.node) × IsLesser number a h key s p g
Known number same always i a h k key kind given (AskOld s v) = HasGift kind given × Knows number a h key s (Holds v) × Asking kind × (s.depth ≡ MAX_PREFIX_LEN)
Known number same always i a h k key kind given (AskNew plan) = PlanKnown number i a h key plan × (kind ≡ ComputeInsert)
Known {C} {V} number same always i a h k key kind given (Confirm at r) = HasGift kind given × ((v : V) × Confirmed number a h key at v × Settles same k kind given (Some v) r (Some v))
Known number same always i a h k key kind given (CheckAbove p one r) = HasGift kind given × Stamped a h (number p.node) p.version × HereKnown number i a h key one Nothing × FitsHere one.change Nothing given × Settles same k kind given None r given
Known {C} {V} number same always i a h k key kind given (UpgradeHere one r) = HasGift kind given × ((x : Hung V) × HereKnown number i a h key one x × FitsHere one.change x given × Settles same k kind given (value_in x) r given)
Known {C} {V} number same always i a h k key kind given (ChangeHere one r) = (x : Hung V) × HereLocked number i a h key one x × FitsHere one.change x given × Settles same k kind given (value_in x) r given
Known {C} {V} number same always i a h k key kind given (UpgradeTop g two r) = HasGift kind given × ((found : Option V) × (q : ℕ) × AboveKnown number i a h key two found q × FitsAbove two.change found given × Settles same k kind given found r given)
    × ChildOf number a h key g (number two.above.stamp.node) × HasTop two.change (Some g) × (two.top ≡ None)
Known {C} {V} number same always i a h k key kind given (UpgradeAbove two r) = HasGift kind given × ((found : Option V) × (q : ℕ) × AboveKnown number i a h key two found q × HasTop two.change two.top × FitsAbove two.change found given × Settles same k kind given found r given)
Known {C} {V} number same always i a h k key kind given (UpgradeBelow two r) = HasGift kind given × ((found : Option V) × (q : ℕ) × HalfLocked number i a h key two found q × HasTop two.change two.top × FitsAbove two.change found given × Settles same k kind given found r given)
Known {C} {V} number same always i a h k key kind given (ChangeAbove two r) = (found : Option V) × (q : ℕ) × BothLocked number i a h key two found q × HasTop two.change two.top × FitsAbove two.change found given × Settles same k kind given found r given
Known number same always i a h k key kind given (Obsolete n next p r) = TakenOut i a h (number p) (number n) × AlsoOut number i a h (number n) next
Known number same always i a h k key kind given (Retire n next p r) = TakenOut i a h (number p) (number n) × AlsoOut number i a h (number n) next × ((h (number n)).obsolete ≡ true)
Known number same always i a h k key kind given (UnlockBelow n p r) = Holding i a (number n) × Holding i a (number p) × (number n ≢ number p)
Known number same always i a h k key kind given (Unlock n r) = Holding i a (number n)
Known number same always i a h k key kind given (Unwind n next e) = HasGift kind given × Holding i a (number n) × AlsoHolding number i a (number n) next × IsFailure e
Known number same always i a h k key kind given (Scan s) = ScanKnown number always a h s
Known number same always i a h k key kind given Ended = Unit {0}

-- what call i may count on over a step of others, as far as the nodes of K go: a word that was taken and still
-- stands names the very node that it was taken of, and what the call has locked or made stays as it is
pub record Rely {V : Type 0} (K : ℕ → Type 0) (i : ℕ) (a : ℕ → Note) (h : ℕ → Node V) (a' : ℕ → Note) (h' : ℕ → Node V) : Type 0 where
  pub version : (n : ℕ) → K n → is_published (a n).status ≡ true → (h n).version ≤ (h' n).version
  pub prefix : (n : ℕ) → K n → is_published (a n).status ≡ true → (h' n).prefix ≡ (h n).prefix
  pub published : (n : ℕ) → K n → is_published (a n).status ≡ true → is_published (a' n).status ≡ true
  pub word : (n v : ℕ) → K n → is_published (a n).status ≡ true → v ≤ (h n).version → is_taken (h' n) v ≡ true → h' n ≡ h n
  pub mine : (n : ℕ) → (a n).owner ≡ Some i → (h' n ≡ h n) × ((a' n).status ≡ (a n).status) × ((a' n).owner ≡ (a n).owner)
  pub held : (n : ℕ) → (a n).status ≡ Held i → (h' n ≡ h n) × (a' n ≡ a n)

-- how one node fares in a step of call i, with its note: only call i takes its lock, of a node in the tree, or makes
-- it; a made node stays as it is until it is hung or given back; it leaves the tree under the lock of call i, and is
-- handed over once;
-- in the tree it is locked by its owner alone
pub record Fares {V : Type 0} (i : ℕ) (x y : Note) (p q : Node V) : Type 0 where
  pub owner : (j : ℕ) → y.owner ≡ Some j → (x.owner ≡ Some j) ⊎ ((j ≡ i) × (p.locked ≡ false) × (y.status ≡ Linked))
  pub handed : (j : ℕ) → y.owner ≡ Some j → q.retired ≡ p.retired
  pub held : (j : ℕ) → y.status ≡ Held j → ((x.status ≡ Held j) × (q ≡ p)) ⊎ ((j ≡ i) × (p.made ≡ false))
  pub gone : y.status ≡ Gone → (y.owner ≡ Some i) ⊎ ((x.status ≡ Gone) × (p.retired ≡ true → q.retired ≡ true))
  pub locked : y.status ≡ Linked → q.locked ≡ true → (y.owner ≡ Some i) ⊎ ((x.status ≡ Linked) × (p.locked ≡ true) × (y.owner ≡ x.owner))
  pub spent : is_spent y.status ≡ true → (q.destroyed ≡ true) ⊎ ((is_spent x.status ≡ true) × (q.destroyed ≡ p.destroyed))
  pub unmade : y.status ≡ Unmade → (x.status ≡ Unmade) × (q.made ≡ p.made)

-- what a step of call i leaves: the tree, the words, and what the others count on
pub record Effect {V : Type 0} (i : ℕ) (a : ℕ → Note) (h : ℕ → Node V) (a' : ℕ → Note) (h' : ℕ → Node V) : Type 0 where
  pub tree : Tree a' h'
  pub words : LockWords a' h'
  pub others : (j : ℕ) → j ≢ i → Rely (λ _. Unit {0}) j a h a' h'
  pub fares : (n : ℕ) → Fares i (a n) (a' n) (h n) (h' n)
