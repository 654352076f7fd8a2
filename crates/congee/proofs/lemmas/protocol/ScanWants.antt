-- What a scan knows is what its next step wants.
use Rattle.std.proofs.Common.{◌≡◌, ℕ, Bool, true, ap, sym, ◌∙◌, subst, arith}
use Rattle.congee.specs.declared.protocol.store.Least.{Least}
use Rattle.congee.specs.declared.protocol.store.Least.TheVariants as least
use Rattle.congee.specs.declared.protocol.scan.Rung.{Rung}
use Rattle.congee.specs.declared.protocol.scan.Stage.{Stage}
use Rattle.congee.specs.declared.protocol.scan.Stage.TheVariants as stage
use Rattle.congee.specs.declared.protocol.scan.ScanState.{ScanState}
use Rattle.congee.specs.Heap.{Node}
use Rattle.congee.specs.Notes.{Note, Linked, is_published, Tree, LockWords}
use Rattle.congee.specs.protocol.Regions.{span}
use Rattle.congee.specs.protocol.ScanEvents.{LeastTruly, IsAny}
use Rattle.congee.specs.protocol.ScanSteps.{last_byte, MayFollow, MayScanAt, MayScan}
use Rattle.congee.specs.protocol.ScanKnown.{RungKnown, ScanKnownAt, ScanKnown}
use Rattle.congee.proofs.lemmas.protocol.Touch.{taken_linked}
use Rattle.congee.proofs.lemmas.protocol.ScanBytes.{region_top}

module _ {C V : Type 0} (number : C → ℕ) (always : Bool) (a : ℕ → Note) (h : ℕ → Node V) (t : Tree a h) (w : LockWords a h) (root : C) (z : number root ≡ 0) where
  may_follow : (s : ScanState C V) (r : Rung C) (x : Least C V) → RungKnown number a h s.last s.above.len r → IsAny always x → (a (number r.at.node)).status ≡ Linked
      → LeastTruly number (h (number r.at.node)) r.from (last_byte s.last r.region) x → MayFollow number h r x
  may_follow s r least.Nothing k any l e = tt
  may_follow s r (least.Node byte c) k any l e = ((w.each (number c)).stands (ap is_published (t.down (number r.at.node) byte (number c) l e.here).linked), any)
  may_follow s r (least.Value byte v) k any l e =
      let q = k.region in
      let seven : r.region.depth ≡ 7 = q.depth_is ∙ t.leaves (number r.at.node) byte v l e.here in
      let all : span r.region.depth ≡ 256 = ap span seven in
      let top = region_top (h (number r.at.node)).prefix r.region.base r.region.depth q in
      (omega (arith, top, all, any), any)
  may_follow s r least.Uncopied k any l e = tt

  wants_at : (s : ScanState C V) (x : Stage C V) → ScanKnownAt number always a h s x → MayScanAt number root s x h
  wants_at s stage.New k = (w.each (number root)).stands (let U : ℕ → Type 0 = λ n. is_published (a n).status ≡ true in subst U (sym z) (ap is_published t.root))
  wants_at s (stage.Enter n x) k = ((w.each (number n)).stands k.1, k.2.short, k.0.fits)
  wants_at s (stage.Look r) k = ((w.each (number r.at.node)).stands k.1.stamped.published, k.1.region.short, k.1.within)
  wants_at s (stage.Check r x) k = (
    (w.each (number r.at.node)).stands k.1.stamped.published,
    (let d = k.1.deep in let q = k.1.region.short in omega (arith, d, q)),
    k.0.room,
    (λ y. may_follow s r x k.1 k.2 (taken_linked a h w (number r.at.node) r.at.version k.1.stamped.published y) (k.3.holds y)),
  )
  wants_at s stage.Full k = tt
  wants_at s stage.Over k = tt

  -- what the store wants of a scan's next step the scan knows
  pub scan_wants : (s : ScanState C V) → ScanKnown number always a h s → MayScan number root s h
  scan_wants s k = wants_at s s.stage k
