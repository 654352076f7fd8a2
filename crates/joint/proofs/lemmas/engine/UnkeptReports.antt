-- What the layers below tell of a step says nothing of a journal.
use Rattle.std.proofs.Common.{◌≡◌, ℕ, Bool, true, false, ap, inl, inr}
use Rattle.std.specs.Prelude.{Option, None, Some, slice_get}
use Rattle.crossbeam_epoch.specs.declared.fault.Fault.{Fault}
use Rattle.congee.specs.declared.protocol.machine.Noise.{Noise}
use Rattle.congee.specs.declared.protocol.op.Op.{Op as Point}
use Rattle.congee.specs.declared.protocol.op.Op.TheVariants as point
use Rattle.joint.specs.declared.engine.in_flight.InFlight.{InFlight}
use Rattle.joint.specs.declared.engine.in_flight.InFlight.TheVariants.{Idle, Collecting, Reserving, Securing, Walking}
use Rattle.joint.specs.declared.id.Id.{Id}
use Rattle.joint.specs.declared.steps.Event.{Event}
use Rattle.joint.specs.declared.steps.Event.TheVariants.{Register, Begin, Go}
use Rattle.joint.specs.declared.steps.Report.{Report}
use Rattle.joint.specs.declared.steps.Target.{Target}
use Rattle.joint.specs.declared.steps.Target.TheVariants as target
use Rattle.joint.specs.Reports.{target}
use Rattle.joint.specs.engine.Engine.{World, BeginsAt, BeginsOnTree, Does, EntersUnless, GoesAt, Proceeds, finds_none}

module _ {V : Type 0} (same : V → V → Bool) (always : Bool) (s s' : World V) (w : ℕ) where
  scan_begins : (op : Point V) (r : Report V) (none : Bool) → EntersUnless none s w op r s' → r.kept ≡ false
  scan_begins op r true x = ap (λ y. y.kept) x.report
  scan_begins op r false x = ap (λ y. y.kept) x.report

  begins_tree : (op : Point V) (r : Report V) → BeginsOnTree same always s w op r s' → r.kept ≡ false
  begins_tree (point.Get k) r x = ap (λ y. y.kept) x.report
  begins_tree (point.Range start end size) r x = scan_begins (point.Range start end size) r (finds_none {V = V} (point.Range start end size)) x
  begins_tree (point.RangeInclusive start last size) r x = scan_begins (point.RangeInclusive start last size) r (finds_none {V = V} (point.RangeInclusive start last size)) x
  begins_tree (point.Insert k v) r x = ap (λ y. y.kept) x.report
  begins_tree (point.Remove k) r x = ap (λ y. y.kept) x.report
  begins_tree (point.ComputePresent k) r x = ap (λ y. y.kept) x.report
  begins_tree (point.ComputeInsert k) r x = ap (λ y. y.kept) x.report
  begins_tree (point.Exchange k old new) r x = ap (λ y. y.kept) x.report

  begins : (t : Target V) (r : Report V) → BeginsAt same always s w t r s' → r.kept ≡ false
  begins (target.Collector op) r x = ap (λ y. y.kept) x.report
  begins (target.Tree op) r x = begins_tree op r x
  begins (target.Survey k) r x = ap (λ y. y.kept) x.report

  goes : (k : Option (InFlight V)) (noise : Noise Id V) (r : Report V) → GoesAt same always s w k noise r s' → r.kept ≡ false
  goes None noise r x = absurd x
  goes (Some Idle) noise r x = absurd x
  goes (Some (Collecting op)) noise r x = ap (λ y. y.kept) x.report
  goes (Some (Reserving op)) noise r x = ap (λ y. y.kept) x.goes.report
  goes (Some (Securing op)) noise r x = ap (λ y. y.kept) x.report
  goes (Some Walking) noise r x = ap (λ y. y.kept) x.report

  proceeds : (event : Event V) (r : Report V) → Proceeds same always s w event r s' → r.kept ≡ false
  proceeds Register r (inl x) = ap (λ y. y.kept) x.1.report
  proceeds Register r (inr x) = ap (λ y. y.kept) x.report
  proceeds (Begin op) r x = begins (target op) r x
  proceeds (Go noise) r x = goes (slice_get s.calls w) noise r x

  -- the report of a step of the engine doesn't say that the journal kept a call
  pub unkept : (event : Event V) (o : Option Fault) (r : Report V) → Does same always s w event o r s' → r.kept ≡ false
  unkept event None r x = proceeds event r x
  unkept event (Some f) r x = ap (λ y. y.kept) x.0
