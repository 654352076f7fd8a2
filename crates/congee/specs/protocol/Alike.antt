-- Nodes and calls on a store, and the same ones known by numbers: the nodes are numbered in the order in which they were
-- made. What a call on a store read of a node that has changed since is of no account: the check that follows fails.
use Rattle.std.specs.Prelude.{◌≡◌, ℕ, ◌<◌, true, List, ◌++◌, length, Option, None, Some, slice_get}
use Rattle.congee.specs.declared.forms.child.Child.{Child}
use Rattle.congee.specs.declared.forms.child.Child.TheVariants as child
use Rattle.congee.specs.declared.protocol.store.Least.{Least}
use Rattle.congee.specs.declared.protocol.store.Least.TheVariants as least
use Rattle.congee.specs.declared.protocol.store.Refusal.{Refusal}
use Rattle.congee.specs.declared.protocol.store.Refusal.TheVariants as refusal
use Rattle.congee.specs.declared.protocol.store.Stamp.{Stamp}
use Rattle.congee.specs.declared.protocol.phase.Parent.{Parent}
use Rattle.congee.specs.declared.protocol.phase.Above.{Above as Over}
use Rattle.congee.specs.declared.protocol.phase.Site.{Site}
use Rattle.congee.specs.declared.protocol.phase.Placement.{Placement}
use Rattle.congee.specs.declared.protocol.phase.Placement.TheVariants.{Set, Link}
use Rattle.congee.specs.declared.protocol.phase.NodeChange.{NodeChange}
use Rattle.congee.specs.declared.protocol.phase.Replacement.{Replacement}
use Rattle.congee.specs.declared.protocol.phase.Replacement.TheVariants.{Unlink, Grow, GrowLink, Split, Shrink, Collapse, ShrinkAbove}
use Rattle.congee.specs.declared.protocol.phase.ParentChange.{ParentChange}
use Rattle.congee.specs.declared.protocol.phase.Plan.{Plan}
use Rattle.congee.specs.declared.protocol.phase.Plan.TheVariants.{Here, Above}
use Rattle.congee.specs.declared.protocol.phase.Phase.{Phase}
use Rattle.congee.specs.declared.protocol.phase.Phase.TheVariants.{New, Version, Read, Check, CheckUncopied, CheckMiss, CheckDown, CheckOld, MakeLeaf, MakeGreater, MakeTop, MakeBeside, MakeLesser, AskOld, AskNew, Confirm, CheckAbove, UpgradeHere, ChangeHere, UpgradeTop, UpgradeAbove, UpgradeBelow, ChangeAbove, Obsolete, Retire, UnlockBelow, Unlock, Unwind, Scan, Ended}
use Rattle.congee.specs.declared.protocol.scan.Rung.{Rung}
use Rattle.congee.specs.declared.protocol.scan.Stage.{Stage}
use Rattle.congee.specs.declared.protocol.scan.Stage.TheVariants as stage
use Rattle.congee.specs.declared.protocol.scan.ScanState.{ScanState as ScanState}
use Rattle.congee.specs.declared.protocol.next_phase.NextPhase.{NextPhase}
use Rattle.congee.specs.declared.protocol.machine.Machine.{Machine}
use Rattle.congee.specs.declared.protocol.machine.Move.{Move}
use Rattle.congee.specs.declared.protocol.machine.Outcome.{Outcome}
use Rattle.congee.specs.declared.protocol.machine.Outcome.TheVariants.{Refused}
use Rattle.congee.specs.Heap.{Node, Hung, Nothing, Below, Holds, Stands, is_taken}
use Rattle.congee.specs.protocol.ScanSteps.{slots}
use Rattle.congee.specs.protocol.PlainSteps.{Went, call_after}

-- the nodes in the order in which they were made, by the store's numbers: each that was made has one place
pub record Ordered {V : Type 0} (order : List ℕ) (h : ℕ → Node V) : Type 0 where
  pub made : (n c : ℕ) → slice_get order n ≡ Some c → (h c).made ≡ true
  pub each : (c : ℕ) → (h c).made ≡ true → (n : ℕ) × (slice_get order n ≡ Some c)
  pub once : (m n c : ℕ) → slice_get order m ≡ Some c → slice_get order n ≡ Some c → m ≡ n

-- the same hangs at a byte, a node by its number in that order
abbrev pub HungAlike : {V : Type 0} → List ℕ → Hung V → Hung V → Type 0
HungAlike order Nothing y = y ≡ Nothing
HungAlike order (Below c) y = (n : ℕ) × (y ≡ Below n) × (slice_get order n ≡ Some c)
HungAlike order (Holds v) y = y ≡ Holds v

-- a node that stands, and the same one as others know it
pub record NodeAlike {V : Type 0} (order : List ℕ) (x y : Node V) : Type 0 where
  pub stands : Stands y
  pub prefix : y.prefix ≡ x.prefix
  pub count : y.count ≡ x.count
  pub capacity : y.capacity ≡ x.capacity
  pub version : y.version ≡ x.version
  pub locked : y.locked ≡ x.locked
  pub obsolete : y.obsolete ≡ x.obsolete
  pub retired : y.retired ≡ x.retired
  pub children : (b : ℕ) → HungAlike order (x.children b) (y.children b)

-- the store's nodes that aren't destroyed, and the same ones by their numbers
abbrev pub HeapAlike : {V : Type 0} → List ℕ → (ℕ → Node V) → (ℕ → Node V) → Type 0
HeapAlike order h g = (n c : ℕ) → slice_get order n ≡ Some c → Stands (h c) → NodeAlike order (h c) (g n)

module _ {C : Type 0} (order : List ℕ) (number : C → ℕ) where
  -- the number of the node that the name is of
  abbrev pub Named : C → ℕ → Type 0
  Named c n = slice_get order n ≡ Some (number c)

  -- the same node at the same version
  pub record StampAlike (s : Stamp C) (u : Stamp ℕ) : Type 0 where
    pub node : Named s.node u.node
    pub version : u.version ≡ s.version

  -- the same node above, and what was read there
  pub record ParentAlike (p : Parent C) (q : Parent ℕ) : Type 0 where
    pub stamp : StampAlike p.stamp q.stamp
    pub byte : q.byte ≡ p.byte
    pub depth : q.depth ≡ p.depth
    pub count : q.count ≡ p.count
    pub form : q.form ≡ p.form

  -- the same one, or none
  abbrev pub TopAlike : Option (Parent C) → Option (Parent ℕ) → Type 0
  TopAlike None o = o ≡ None
  TopAlike (Some p) o = (q : Parent ℕ) × (o ≡ Some q) × ParentAlike p q

  -- the same two nodes above
  pub record OverAlike (u : Over C) (w : Over ℕ) : Type 0 where
    pub near : ParentAlike u.near w.near
    pub far : TopAlike u.far w.far

  -- the same ones, or none
  abbrev pub AboveAlike : Option (Over C) → Option (Over ℕ) → Type 0
  AboveAlike None o = o ≡ None
  AboveAlike (Some u) o = (w : Over ℕ) × (o ≡ Some w) × OverAlike u w

  -- the same node at a version, or none
  abbrev pub StampedAlike : Option (Stamp C) → Option (Stamp ℕ) → Type 0
  StampedAlike None o = o ≡ None
  StampedAlike (Some s) o = (u : Stamp ℕ) × (o ≡ Some u) × StampAlike s u

  -- the same made node, or none
  abbrev pub MadeAlike : Option C → Option ℕ → Type 0
  MadeAlike None o = o ≡ None
  MadeAlike (Some c) o = (n : ℕ) × (o ≡ Some n) × Named c n

  -- the same node at hand
  pub record SiteAlike (s : Site C) (u : Site ℕ) : Type 0 where
    pub above : AboveAlike s.above u.above
    pub at : StampAlike s.at u.at
    pub depth : u.depth ≡ s.depth
    pub byte : u.byte ≡ s.byte
    pub form : u.form ≡ s.form

  -- with what was read there
  pub record ReadAlike (s : Site C) (u : Site ℕ) : Type 0 where
    pub site : SiteAlike s u
    pub count : u.count ≡ s.count

  -- the same change of one node
  abbrev pub PlacementAlike : Placement C → Placement ℕ → Type 0
  PlacementAlike Set x = x ≡ Set
  PlacementAlike (Link leaf) x = (n : ℕ) × (x ≡ Link n) × Named leaf n

  -- the same change at the same byte of the same node
  pub record NodeChangeAlike (one : NodeChange C) (u : NodeChange ℕ) : Type 0 where
    pub at : StampAlike one.at u.at
    pub byte : u.byte ≡ one.byte
    pub change : PlacementAlike one.change u.change

  -- the same change of two nodes
  abbrev pub ReplacementAlike : Replacement C → Replacement ℕ → Type 0
  ReplacementAlike Unlink x = x ≡ Unlink
  ReplacementAlike (Grow c) x = (n : ℕ) × (x ≡ Grow n) × Named c n
  ReplacementAlike (GrowLink c leaf byte) x = (n : ℕ) × (l : ℕ) × (x ≡ GrowLink n l byte) × Named c n × Named leaf l
  ReplacementAlike (Split top leaf common byte) x = (n : ℕ) × (l : ℕ) × (x ≡ Split n l common byte) × Named top n × Named leaf l
  ReplacementAlike (Shrink c) x = (n : ℕ) × (x ≡ Shrink n) × Named c n
  ReplacementAlike Collapse x = x ≡ Collapse
  ReplacementAlike (ShrinkAbove c) x = (n : ℕ) × (x ≡ ShrinkAbove n) × Named c n

  -- the same change of the same two nodes
  pub record ParentChangeAlike (two : ParentChange C) (u : ParentChange ℕ) : Type 0 where
    pub top : TopAlike two.top u.top
    pub above : ParentAlike two.above u.above
    pub at : StampAlike two.at u.at
    pub change : ReplacementAlike two.change u.change

  -- the same plan
  abbrev pub PlanAlike : Plan C → Plan ℕ → Type 0
  PlanAlike (Here check one) x = (o : Option (Stamp ℕ)) × (u : NodeChange ℕ) × (x ≡ Here o u) × StampedAlike check o × NodeChangeAlike one u
  PlanAlike (Above two) x = (u : ParentChange ℕ) × (x ≡ Above u) × ParentChangeAlike two u

  -- the same node on a scan's way
  pub record RungAlike (r : Rung C) (q : Rung ℕ) : Type 0 where
    pub at : StampAlike r.at q.at
    pub region : q.region ≡ r.region
    pub from : q.from ≡ r.from

  -- the same one, or none
  abbrev pub PlaceAlike : Option (Rung C) → Option (Rung ℕ) → Type 0
  PlaceAlike None o = o ≡ None
  PlaceAlike (Some r) o = (q : Rung ℕ) × (o ≡ Some q) × RungAlike r q

  module _ {V : Type 0} where
    -- the same child
    abbrev pub ChildAlike : Child C V → Child ℕ V → Type 0
    ChildAlike child.Blank x = x ≡ child.Blank
    ChildAlike (child.Node c) x = (n : ℕ) × (x ≡ child.Node n) × Named c n
    ChildAlike (child.Value v) x = x ≡ child.Value v

    -- what a read saw of a node that is as it was then
    pub record SeesAlike (s : Site C) (c : Child C V) (u : Site ℕ) (d : Child ℕ V) : Type 0 where
      pub hangs : ChildAlike c d
      pub count : u.count ≡ s.count
      pub full : c ≡ child.Blank → u.full ≡ s.full

    -- a value that couldn't be copied is refused at the check
    abbrev pub LeastAlike : Least C V → Least ℕ V → Type 0
    LeastAlike least.Nothing x = x ≡ least.Nothing
    LeastAlike (least.Node byte c) x = (n : ℕ) × (x ≡ least.Node byte n) × Named c n
    LeastAlike (least.Value byte v) x = x ≡ least.Value byte v
    LeastAlike least.Uncopied x = Unit {0}

    module _ (h : ℕ → Node V) where
      -- the node's lock word is still the one that was taken
      abbrev pub IsTaken : Stamp C → Type 0
      IsTaken s = is_taken (h (number s.node)) s.version ≡ true

      -- the same stage of a scan, with the same child where the check of it can succeed
      abbrev pub StageAlike : Stage C V → Stage ℕ V → Type 0
      StageAlike stage.New x = x ≡ stage.New
      StageAlike (stage.Enter c y) x = (n : ℕ) × (x ≡ stage.Enter n y) × Named c n
      StageAlike (stage.Look r) x = (q : Rung ℕ) × (x ≡ stage.Look q) × RungAlike r q
      StageAlike (stage.Check r f) x = (q : Rung ℕ) × (g : Least ℕ V) × (x ≡ stage.Check q g) × RungAlike r q × (IsTaken r.at → LeastAlike f g)
      StageAlike stage.Full x = x ≡ stage.Full
      StageAlike stage.Over x = x ≡ stage.Over

      -- the same scan on the same way
      pub record ScanAlike (s : ScanState C V) (t : ScanState ℕ V) : Type 0 where
        pub start : t.start ≡ s.start
        pub last : t.last ≡ s.last
        pub size : t.size ≡ s.size
        pub count : t.count ≡ s.count
        pub len : t.above.len ≡ s.above.len
        pub way : (i : ℕ) → i < s.above.len → PlaceAlike (slice_get (slots s.above) i) (slice_get (slots t.above) i)
        pub stage : StageAlike s.stage t.stage

      -- where a call stands between two of its steps
      abbrev pub PhaseAlike : Phase C V → Phase ℕ V → Type 0
      PhaseAlike New x = x ≡ New
      PhaseAlike (Version above c) x = (o : Option (Over ℕ)) × (n : ℕ) × (x ≡ Version o n) × AboveAlike above o × Named c n
      PhaseAlike (Read above at) x = (o : Option (Over ℕ)) × (u : Stamp ℕ) × (x ≡ Read o u) × AboveAlike above o × StampAlike at u
      PhaseAlike (Check s c) x = (u : Site ℕ) × (d : Child ℕ V) × (x ≡ Check u d) × SiteAlike s u × (IsTaken s.at → SeesAlike s c u d)
      PhaseAlike (CheckUncopied at) x = (u : Site ℕ) × (d : Child ℕ V) × (x ≡ Check u d) × StampAlike at u.at
      PhaseAlike (CheckMiss p at common byte) x = (q : Parent ℕ) × (u : Stamp ℕ) × (x ≡ CheckMiss q u common byte) × ParentAlike p q × StampAlike at u
      PhaseAlike (CheckDown p at c) x = (u : Stamp ℕ) × (w : Over ℕ) × (n : ℕ) × (x ≡ CheckDown u w n) × StampAlike p u × OverAlike at w × Named c n
      PhaseAlike (CheckOld p s v) x = (q : Stamp ℕ) × (u : Site ℕ) × (x ≡ CheckOld q u v) × StampAlike p q × ReadAlike s u
      PhaseAlike (MakeLeaf s) x = (u : Site ℕ) × (x ≡ MakeLeaf u) × ReadAlike s u × (u.full ≡ s.full)
      PhaseAlike (MakeGreater s p leaf) x = (u : Site ℕ) × (q : Parent ℕ) × (o : Option ℕ) × (x ≡ MakeGreater u q o) × ReadAlike s u × ParentAlike p q × MadeAlike leaf o
      PhaseAlike (MakeTop p at common byte) x = (q : Parent ℕ) × (u : Stamp ℕ) × (x ≡ MakeTop q u common byte) × ParentAlike p q × StampAlike at u
      PhaseAlike (MakeBeside p at common byte top) x = (q : Parent ℕ) × (u : Stamp ℕ) × (n : ℕ) × (x ≡ MakeBeside q u common byte n) × ParentAlike p q × StampAlike at u × Named top n
      PhaseAlike (MakeLesser s p g r) x = (u : Site ℕ) × (q : Parent ℕ) × (o : Option (Parent ℕ)) × (x ≡ MakeLesser u q o r) × ReadAlike s u × ParentAlike p q × TopAlike g o
      PhaseAlike (AskOld s v) x = (u : Site ℕ) × (x ≡ AskOld u v) × ReadAlike s u
      PhaseAlike (AskNew plan) x = (y : Plan ℕ) × (x ≡ AskNew y) × PlanAlike plan y
      PhaseAlike (Confirm at r) x = (u : Stamp ℕ) × (x ≡ Confirm u r) × StampAlike at u
      PhaseAlike (CheckAbove p one r) x = (q : Stamp ℕ) × (u : NodeChange ℕ) × (x ≡ CheckAbove q u r) × StampAlike p q × NodeChangeAlike one u
      PhaseAlike (UpgradeHere one r) x = (u : NodeChange ℕ) × (x ≡ UpgradeHere u r) × NodeChangeAlike one u
      PhaseAlike (ChangeHere one r) x = (u : NodeChange ℕ) × (x ≡ ChangeHere u r) × NodeChangeAlike one u
      PhaseAlike (UpgradeTop g two r) x = (q : Parent ℕ) × (u : ParentChange ℕ) × (x ≡ UpgradeTop q u r) × ParentAlike g q × ParentChangeAlike two u
      PhaseAlike (UpgradeAbove two r) x = (u : ParentChange ℕ) × (x ≡ UpgradeAbove u r) × ParentChangeAlike two u
      PhaseAlike (UpgradeBelow two r) x = (u : ParentChange ℕ) × (x ≡ UpgradeBelow u r) × ParentChangeAlike two u
      PhaseAlike (ChangeAbove two r) x = (u : ParentChange ℕ) × (x ≡ ChangeAbove u r) × ParentChangeAlike two u
      PhaseAlike (Obsolete c next p r) x = (n : ℕ) × (o : Option ℕ) × (q : ℕ) × (x ≡ Obsolete n o q r) × Named c n × MadeAlike next o × Named p q
      PhaseAlike (Retire c next p r) x = (n : ℕ) × (o : Option ℕ) × (q : ℕ) × (x ≡ Retire n o q r) × Named c n × MadeAlike next o × Named p q
      PhaseAlike (UnlockBelow c p r) x = (n : ℕ) × (q : ℕ) × (x ≡ UnlockBelow n q r) × Named c n × Named p q
      PhaseAlike (Unlock c r) x = (n : ℕ) × (x ≡ Unlock n r) × Named c n
      PhaseAlike (Unwind c next e) x = (n : ℕ) × (o : Option ℕ) × (x ≡ Unwind n o e) × Named c n × MadeAlike next o
      PhaseAlike (Scan s) x = (t : ScanState ℕ V) × (x ≡ Scan t) × ScanAlike s t
      PhaseAlike Ended x = x ≡ Ended

      -- a step's report, and the phase after it
      pub record NextPhaseAlike (t : NextPhase C V) (u : NextPhase ℕ V) : Type 0 where
        pub report : u.report ≡ t.report
        pub phase : PhaseAlike t.phase u.phase

      -- the same call
      pub record CallAlike (m : Machine C V) (q : Machine ℕ V) : Type 0 where
        pub root : Named m.root q.root
        pub key : q.key ≡ m.key
        pub kind : q.kind ≡ m.kind
        pub given : q.given ≡ m.given
        pub phase : PhaseAlike m.phase q.phase

-- a step that wasn't refused for want of a node or of a copy; that no version is left is told alike by both
abbrev pub IsUnrefused : {V : Type 0} → Outcome V → Type 0
IsUnrefused o = (e : Refusal) → o ≡ Refused e → e ≡ refusal.Exhausted

-- some nodes more were made
abbrev pub Longer : List ℕ → List ℕ → Type 0
Longer order order' = (new : List ℕ) × (order' ≡ order ++ new)

-- a step of a call on a store went as that by numbers: it reports the same, and leaves call and nodes the same; a node that it
-- made has the next number
pub record WentAlike {C V : Type 0} (order : List ℕ) (number : C → ℕ) (h : ℕ → Node V) (given : Option V) (t : NextPhase C V) (w : Went V) : Type 0 where
  pub now : List ℕ
  pub longer : Longer order now
  pub ordered : Ordered now h
  pub made : w.made ≡ length now
  pub given_is : w.given ≡ given
  pub next_phase : NextPhaseAlike now number h t w.next_phase
  pub heap : HeapAlike now h w.heap

-- and the call is the same after it
pub record MovedAlike {C V : Type 0} (order : List ℕ) (number : C → ℕ) (h : ℕ → Node V) (m : Machine C V) (d : Move V) (q : Machine ℕ V) (w : Went V) : Type 0 where
  pub went : WentAlike order number h m.given (record { phase = m.phase; report = d }) w
  pub call : CallAlike went.now number h m (call_after q w)

-- the destruction of some nodes leaves nodes and calls the same, as far as what was handed over had been made
pub record SparedAlike {C V : Type 0} (order : List ℕ) (number : C → ℕ) (h : ℕ → Node V) (ms : List (Machine C V)) (h' : ℕ → Node V) : Type 0 where
  pub calls : (i : ℕ) (m : Machine C V) (q : Machine ℕ V) → slice_get ms i ≡ Some m → CallAlike order number h m q → CallAlike order number h' m q
  pub nodes : (g : ℕ → Node V) → HeapAlike order h g → HeapAlike order h' g
  pub order_is : ((c : ℕ) → (h c).retired ≡ true → (h c).made ≡ true) → Ordered order h → Ordered order h'
