-- The steps of others keep what a scan knows.
use Rattle.std.proofs.Common.{◌≡◌, ℕ, suc, Bool, true, List, [], ◌∷◌, sym, subst}
use Rattle.congee.specs.declared.protocol.store.Region.{Region}
use Rattle.congee.specs.declared.protocol.scan.Rung.{Rung}
use Rattle.congee.specs.declared.protocol.scan.Stage.{Stage}
use Rattle.congee.specs.declared.protocol.scan.Stage.TheVariants as stage
use Rattle.congee.specs.declared.protocol.scan.ScanState.{ScanState}
use Rattle.congee.specs.Heap.{Node}
use Rattle.congee.specs.Notes.{Note, is_published}
use Rattle.congee.specs.protocol.Protocol.{Rely}
use Rattle.congee.specs.protocol.Regions.{IsRegion}
use Rattle.congee.specs.protocol.ScanSteps.{rungs_of}
use Rattle.congee.specs.protocol.ScanKnown.{RungKnown, RungsKnown, WayKnown, ScanKnownAt, ScanKnown, names_rungs, names_scan_at, names_scan}
use Rattle.congee.proofs.lemmas.protocol.Each.{Each}
use Rattle.congee.proofs.lemmas.protocol.Stamps.{stamped_kept, fresh_kept}

module _ {C V : Type 0} (number : C → ℕ) (always : Bool) (K : ℕ → Type 0) (i : ℕ) (a : ℕ → Note) (h : ℕ → Node V) (a' : ℕ → Note) (h' : ℕ → Node V) (r : Rely K i a h a' h') where
  region_kept : (n : ℕ) (x : Region) → K n → is_published (a n).status ≡ true → IsRegion (h n).prefix x.base x.depth → IsRegion (h' n).prefix x.base x.depth
  region_kept n x k p q = subst (λ y. IsRegion y x.base x.depth) (sym (r.prefix n k p)) q

  rung_kept : (last above : ℕ) (x : Rung C) → K (number x.at.node) → RungKnown number a h last above x → RungKnown number a' h' last above x
  rung_kept last above x k g = record {
    stamped = stamped_kept K i a h a' h' r (number x.at.node) x.at.version k g.stamped;
    region = region_kept (number x.at.node) x.region k g.stamped.published g.region;
    deep = g.deep;
    within = g.within;
    bound = g.bound;
  }

  rungs_kept : (last above : ℕ) (xs : List (Rung C)) → Each K (names_rungs number xs) → RungsKnown number a h last above xs → RungsKnown number a' h' last above xs
  rungs_kept last above [] k g = tt
  rungs_kept last above (x ∷ xs) k g = (rung_kept last above x k.0 g.0, rungs_kept last (suc above) xs k.1 g.1)

  way_kept : (s : ScanState C V) → Each K (names_rungs number (rungs_of s.above)) → WayKnown number a h s → WayKnown number a' h' s
  way_kept s k g = record { range = g.range; bound = g.bound; room = g.room; fits = g.fits; rungs = rungs_kept s.last 0 (rungs_of s.above) k g.rungs }

  kept_at : (s : ScanState C V) (x : Stage C V) → Each K (names_scan_at number s x) → ScanKnownAt number always a h s x → ScanKnownAt number always a' h' s x
  kept_at s stage.New k g = g
  kept_at s (stage.Enter n x) k g = (way_kept s k.1 g.0, r.published (number n) k.0 g.1, region_kept (number n) x k.0 g.1 g.2, g.3)
  kept_at s (stage.Look x) k g = (way_kept s k.1 g.0, rung_kept s.last s.above.len x k.0 g.1)
  kept_at s (stage.Check x f) k g = (way_kept s k.1 g.0, rung_kept s.last s.above.len x k.0 g.1, g.2, fresh_kept K i a h a' h' r (number x.at.node) x.at.version _ k.0 g.3)
  kept_at s stage.Full k g = tt
  kept_at s stage.Over k g = tt

  -- what a scan knows stays known over the steps of others, where they may count on the nodes that it names
  pub scan_known_kept : (s : ScanState C V) → Each K (names_scan number s) → ScanKnown number always a h s → ScanKnown number always a' h' s
  scan_known_kept s k g = kept_at s s.stage k g
