-- A call stays the same by numbers while other nodes are made, and while others change the nodes.
use Rattle.std.proofs.Common.{◌≡◌, ℕ, List}
use Rattle.std.specs.Prelude.{Option, None, Some, slice_get}
use Rattle.congee.specs.declared.forms.child.Child.{Child}
use Rattle.congee.specs.declared.forms.child.Child.TheVariants as child
use Rattle.congee.specs.declared.protocol.store.Least.{Least}
use Rattle.congee.specs.declared.protocol.store.Least.TheVariants as least
use Rattle.congee.specs.declared.protocol.store.Stamp.{Stamp}
use Rattle.congee.specs.declared.protocol.phase.Parent.{Parent}
use Rattle.congee.specs.declared.protocol.phase.Above.{Above as Over}
use Rattle.congee.specs.declared.protocol.phase.Site.{Site}
use Rattle.congee.specs.declared.protocol.phase.Placement.{Placement}
use Rattle.congee.specs.declared.protocol.phase.Placement.TheVariants.{Set, Link}
use Rattle.congee.specs.declared.protocol.phase.NodeChange.{NodeChange}
use Rattle.congee.specs.declared.protocol.phase.Replacement.{Replacement}
use Rattle.congee.specs.declared.protocol.phase.Replacement.TheVariants.{Unlink, Grow, GrowLink, Split, Shrink, Collapse, ShrinkAbove}
use Rattle.congee.specs.declared.protocol.phase.ParentChange.{ParentChange}
use Rattle.congee.specs.declared.protocol.phase.Plan.{Plan}
use Rattle.congee.specs.declared.protocol.phase.Plan.TheVariants.{Here, Above}
use Rattle.congee.specs.declared.protocol.phase.Phase.{Phase}
use Rattle.congee.specs.declared.protocol.phase.Phase.TheVariants.{New, Version, Read, Check, CheckUncopied, CheckMiss, CheckDown, CheckOld, MakeLeaf, MakeGreater, MakeTop, MakeBeside, MakeLesser, AskOld, AskNew, Confirm, CheckAbove, UpgradeHere, ChangeHere, UpgradeTop, UpgradeAbove, UpgradeBelow, ChangeAbove, Obsolete, Retire, UnlockBelow, Unlock, Unwind, Scan, Ended}
use Rattle.congee.specs.declared.protocol.scan.Rung.{Rung}
use Rattle.congee.specs.declared.protocol.scan.Stage.{Stage}
use Rattle.congee.specs.declared.protocol.scan.Stage.TheVariants as stage
use Rattle.congee.specs.declared.protocol.scan.ScanState.{ScanState as ScanState}
use Rattle.congee.specs.declared.protocol.machine.Machine.{Machine}
use Rattle.congee.specs.Heap.{Node}
use Rattle.congee.specs.protocol.ScanSteps.{slots}
use Rattle.congee.specs.protocol.Alike.{Named, StampAlike, ParentAlike, TopAlike, OverAlike, AboveAlike, StampedAlike, MadeAlike, SiteAlike, ReadAlike, PlacementAlike, NodeChangeAlike, ReplacementAlike, ParentChangeAlike, PlanAlike, ChildAlike, SeesAlike, RungAlike, PlaceAlike, LeastAlike, IsTaken, StageAlike, ScanAlike, PhaseAlike, CallAlike}

module _ {C : Type 0} (order order' : List ℕ) (number : C → ℕ) (f : (n c : ℕ) → slice_get order n ≡ Some c → slice_get order' n ≡ Some c) where
  -- a name's number stays its number in the longer order
  pub named_later : (c : C) (n : ℕ) → Named order number c n → Named order' number c n
  named_later c n x = f n (number c) x

  -- the same node at the same version stays so in the longer order
  pub stamp_later : (s : Stamp C) (u : Stamp ℕ) → StampAlike order number s u → StampAlike order' number s u
  stamp_later s u x = record { node = named_later s.node u.node x.node; version = x.version }

  -- the same node above, with what was read there, stays the same in the longer order
  pub parent_later : (p : Parent C) (q : Parent ℕ) → ParentAlike order number p q → ParentAlike order' number p q
  parent_later p q x = record { stamp = stamp_later p.stamp q.stamp x.stamp; byte = x.byte; depth = x.depth; count = x.count; form = x.form }

  top_later : (p : Option (Parent C)) (q : Option (Parent ℕ)) → TopAlike order number p q → TopAlike order' number p q
  top_later None q x = x
  top_later (Some p) q x = (x.0, x.1, parent_later p x.0 x.2)

  over_later : (u : Over C) (w : Over ℕ) → OverAlike order number u w → OverAlike order' number u w
  over_later u w x = record { near = parent_later u.near w.near x.near; far = top_later u.far w.far x.far }

  above_later : (p : Option (Over C)) (q : Option (Over ℕ)) → AboveAlike order number p q → AboveAlike order' number p q
  above_later None q x = x
  above_later (Some p) q x = (x.0, x.1, over_later p x.0 x.2)

  stamped_later : (p : Option (Stamp C)) (q : Option (Stamp ℕ)) → StampedAlike order number p q → StampedAlike order' number p q
  stamped_later None q x = x
  stamped_later (Some p) q x = (x.0, x.1, stamp_later p x.0 x.2)

  -- the same made node, or none, stays so in the longer order
  pub made_later : (p : Option C) (q : Option ℕ) → MadeAlike order number p q → MadeAlike order' number p q
  made_later None q x = x
  made_later (Some c) q x = (x.0, x.1, named_later c x.0 x.2)

  site_later : (s : Site C) (u : Site ℕ) → SiteAlike order number s u → SiteAlike order' number s u
  site_later s u x = record { above = above_later s.above u.above x.above; at = stamp_later s.at u.at x.at; depth = x.depth; byte = x.byte; form = x.form }

  -- the same node at hand, with what was read there, stays the same in the longer order
  pub read_later : (s : Site C) (u : Site ℕ) → ReadAlike order number s u → ReadAlike order' number s u
  read_later s u x = record { site = site_later s u x.site; count = x.count }

  single_later : (s : Placement C) (u : Placement ℕ) → PlacementAlike order number s u → PlacementAlike order' number s u
  single_later Set u x = x
  single_later (Link leaf) u x = (x.0, x.1, named_later leaf x.0 x.2)

  -- the same change of one node stays so in the longer order
  pub one_later : (s : NodeChange C) (u : NodeChange ℕ) → NodeChangeAlike order number s u → NodeChangeAlike order' number s u
  one_later s u x = record { at = stamp_later s.at u.at x.at; byte = x.byte; change = single_later s.change u.change x.change }

  double_later : (s : Replacement C) (u : Replacement ℕ) → ReplacementAlike order number s u → ReplacementAlike order' number s u
  double_later Unlink u x = x
  double_later (Shrink c) u x = (x.0, x.1, named_later c x.0 x.2)
  double_later Collapse u x = x
  double_later (ShrinkAbove c) u x = (x.0, x.1, named_later c x.0 x.2)
  double_later (Grow c) u x = (x.0, x.1, named_later c x.0 x.2)
  double_later (GrowLink c leaf byte) u x = (x.0, x.1, x.2, named_later c x.0 x.3, named_later leaf x.1 x.4)
  double_later (Split top leaf common byte) u x = (x.0, x.1, x.2, named_later top x.0 x.3, named_later leaf x.1 x.4)

  two_later : (s : ParentChange C) (u : ParentChange ℕ) → ParentChangeAlike order number s u → ParentChangeAlike order' number s u
  two_later s u x = record { top = top_later s.top u.top x.top; above = parent_later s.above u.above x.above; at = stamp_later s.at u.at x.at; change = double_later s.change u.change x.change }

  plan_later : (s : Plan C) (u : Plan ℕ) → PlanAlike order number s u → PlanAlike order' number s u
  plan_later (Here check one) u x = (x.0, x.1, x.2, stamped_later check x.0 x.3, one_later one x.1 x.4)
  plan_later (Above two) u x = (x.0, x.1, two_later two x.0 x.2)

  rung_later : (r : Rung C) (q : Rung ℕ) → RungAlike order number r q → RungAlike order' number r q
  rung_later r q x = record { at = stamp_later r.at q.at x.at; region = x.region; from = x.from }

  place_later : (r : Option (Rung C)) (q : Option (Rung ℕ)) → PlaceAlike order number r q → PlaceAlike order' number r q
  place_later None q x = x
  place_later (Some r) q x = (x.0, x.1, rung_later r x.0 x.2)

  module _ {V : Type 0} where
    child_later : (c : Child C V) (d : Child ℕ V) → ChildAlike order number c d → ChildAlike order' number c d
    child_later child.Blank d x = x
    child_later (child.Node c) d x = (x.0, x.1, named_later c x.0 x.2)
    child_later (child.Value v) d x = x

    sees_later : (s : Site C) (c : Child C V) (u : Site ℕ) (d : Child ℕ V) → SeesAlike order number s c u d → SeesAlike order' number s c u d
    sees_later s c u d x = record { hangs = child_later c d x.hangs; count = x.count; full = x.full }

    least_later : (r : Least C V) (q : Least ℕ V) → LeastAlike order number r q → LeastAlike order' number r q
    least_later least.Nothing q x = x
    least_later (least.Node byte c) q x = (x.0, x.1, named_later c x.0 x.2)
    least_later (least.Value byte v) q x = x
    least_later least.Uncopied q x = tt

    module _ (h h' : ℕ → Node V) where
      -- where the lock word is the one that was taken, it was so before
      abbrev pub Still : Stamp C → Type 0
      Still s = IsTaken order number h' s → IsTaken order number h s

      -- the same of the node that a scan is about to check
      abbrev pub StillAt : Stage C V → Type 0
      StillAt (stage.Check r x) = Still r.at
      StillAt _ = Unit {0}

      -- the same of the node that the call, or its scan, is about to check
      abbrev pub StillTaken : Phase C V → Type 0
      StillTaken (Check s c) = Still s.at
      StillTaken (Scan s) = StillAt s.stage
      StillTaken _ = Unit {0}

      stage_later : (x : Stage C V) (y : Stage ℕ V) → StillAt x → StageAlike order number h x y → StageAlike order' number h' x y
      stage_later (stage.Enter c z) y s e = (e.0, e.1, named_later c e.0 e.2)
      stage_later (stage.Look r) y s e = (e.0, e.1, rung_later r e.0 e.2)
      stage_later (stage.Check r x) y s e = (e.0, e.1, e.2, rung_later r e.0 e.3, λ t. least_later x e.1 (e.4 (s t)))
      stage_later _ y s e = e

      scan_alike_later : (s : ScanState C V) (t : ScanState ℕ V) → StillAt s.stage → ScanAlike order number h s t → ScanAlike order' number h' s t
      scan_alike_later s t k x = record {
        start = x.start;
        last = x.last;
        size = x.size;
        count = x.count;
        len = x.len;
        way = λ i l. place_later (slice_get (slots s.above) i) (slice_get (slots t.above) i) (x.way i l);
        stage = stage_later s.stage t.stage k x.stage;
      }

      phase_later : (p : Phase C V) (q : Phase ℕ V) → StillTaken p → PhaseAlike order number h p q → PhaseAlike order' number h' p q
      phase_later New q k x = x
      phase_later (Version above c) q k x = (x.0, x.1, x.2, above_later above x.0 x.3, named_later c x.1 x.4)
      phase_later (Read above at) q k x = (x.0, x.1, x.2, above_later above x.0 x.3, stamp_later at x.1 x.4)
      phase_later (Check s c) q k x = (x.0, x.1, x.2, site_later s x.0 x.3, λ t. sees_later s c x.0 x.1 (x.4 (k t)))
      phase_later (CheckUncopied at) q k x = (x.0, x.1, x.2, stamp_later at x.0.at x.3)
      phase_later (CheckMiss p at common byte) q k x = (x.0, x.1, x.2, parent_later p x.0 x.3, stamp_later at x.1 x.4)
      phase_later (CheckDown p at c) q k x = (x.0, x.1, x.2, x.3, stamp_later p x.0 x.4, over_later at x.1 x.5, named_later c x.2 x.6)
      phase_later (CheckOld p s v) q k x = (x.0, x.1, x.2, stamp_later p x.0 x.3, read_later s x.1 x.4)
      phase_later (MakeLeaf s) q k x = (x.0, x.1, read_later s x.0 x.2, x.3)
      phase_later (MakeGreater s p leaf) q k x = (x.0, x.1, x.2, x.3, read_later s x.0 x.4, parent_later p x.1 x.5, made_later leaf x.2 x.6)
      phase_later (MakeTop p at common byte) q k x = (x.0, x.1, x.2, parent_later p x.0 x.3, stamp_later at x.1 x.4)
      phase_later (MakeBeside p at common byte top) q k x = (x.0, x.1, x.2, x.3, parent_later p x.0 x.4, stamp_later at x.1 x.5, named_later top x.2 x.6)
      phase_later (MakeLesser s p top r) q k x = (x.0, x.1, x.2, x.3, read_later s x.0 x.4, parent_later p x.1 x.5, top_later top x.2 x.6)
      phase_later (AskOld s v) q k x = (x.0, x.1, read_later s x.0 x.2)
      phase_later (AskNew plan) q k x = (x.0, x.1, plan_later plan x.0 x.2)
      phase_later (Confirm at r) q k x = (x.0, x.1, stamp_later at x.0 x.2)
      phase_later (CheckAbove p one r) q k x = (x.0, x.1, x.2, stamp_later p x.0 x.3, one_later one x.1 x.4)
      phase_later (UpgradeHere one r) q k x = (x.0, x.1, one_later one x.0 x.2)
      phase_later (ChangeHere one r) q k x = (x.0, x.1, one_later one x.0 x.2)
      phase_later (UpgradeTop top two r) q k x = (x.0, x.1, x.2, parent_later top x.0 x.3, two_later two x.1 x.4)
      phase_later (UpgradeAbove two r) q k x = (x.0, x.1, two_later two x.0 x.2)
      phase_later (UpgradeBelow two r) q k x = (x.0, x.1, two_later two x.0 x.2)
      phase_later (ChangeAbove two r) q k x = (x.0, x.1, two_later two x.0 x.2)
      phase_later (Obsolete c next p r) q k x = (x.0, x.1, x.2, x.3, named_later c x.0 x.4, made_later next x.1 x.5, named_later p x.2 x.6)
      phase_later (Retire c next p r) q k x = (x.0, x.1, x.2, x.3, named_later c x.0 x.4, made_later next x.1 x.5, named_later p x.2 x.6)
      phase_later (UnlockBelow c p r) q k x = (x.0, x.1, x.2, named_later c x.0 x.3, named_later p x.1 x.4)
      phase_later (Unlock c r) q k x = (x.0, x.1, named_later c x.0 x.2)
      phase_later (Unwind c next e) q k x = (x.0, x.1, x.2, named_later c x.0 x.3, made_later next x.1 x.4)
      phase_later (Scan s) q k x = (x.0, x.1, scan_alike_later s x.0 k x.2)
      phase_later Ended q k x = x

      -- a call stays the same by numbers in the longer order, where a word that now is the one taken was so before
      pub call_later : (m : Machine C V) (q : Machine ℕ V) → StillTaken m.phase → CallAlike order number h m q → CallAlike order' number h' m q
      call_later m q k x = record { root = named_later m.root q.root x.root; key = x.key; kind = x.kind; given = x.given; phase = phase_later m.phase q.phase k x.phase }
