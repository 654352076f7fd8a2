-- Where the names of a scan come from.
use Rattle.std.proofs.Common.{◌≡◌, ℕ, ◌<◌, ◌≤◌, ◌+◌, ◌^◌, ◌==◌, inl, inr, Bool, List, [], ◌∷◌, ◌++◌, sym, ap, subst, arith}
use Rattle.std.specs.Prelude.{Option, None, Some}
use Rattle.congee.specs.declared.protocol.store.Region.{Region}
use Rattle.congee.specs.declared.protocol.store.Least.{Least}
use Rattle.congee.specs.declared.protocol.store.Least.TheVariants as least
use Rattle.congee.specs.declared.protocol.store.Refusal.TheVariants as refusal
use Rattle.congee.specs.declared.protocol.scan.Rung.{Rung}
use Rattle.congee.specs.declared.protocol.scan.Stage.{Stage}
use Rattle.congee.specs.declared.protocol.scan.Stage.TheVariants as stage
use Rattle.congee.specs.declared.protocol.scan.ScanState.{ScanState}
use Rattle.congee.specs.declared.protocol.scan.ScanReport.TheVariants as scan_report
use Rattle.congee.specs.Heap.{Node, Below, version_of, is_taken}
use Rattle.congee.specs.Notes.{Note, Linked, LockWords}
use Rattle.congee.specs.protocol.ScanEvents.{LeastTruly}
use Rattle.congee.specs.protocol.ScanSteps.{whole, is_outside, first_byte, last_byte, rungs_of, pushed, popped, moved, scan_at, NextScan, goes, over, anew, left_to, left, entered, filled, IsFollowed, begins, ScanSteppedAt}
use Rattle.congee.specs.protocol.ScanKnown.{RungKnown, RungsKnown, WayKnown, ScanKnownAt, ScanKnown, names_rungs, names_scan_at, names_scan}
use Rattle.congee.proofs.lemmas.protocol.Each.{Each}
use Rattle.congee.proofs.lemmas.Graft.{on_test}
use Rattle.congee.proofs.lemmas.protocol.Touch.{taken_linked}
use Rattle.congee.proofs.lemmas.protocol.ScanBytes.{is_some}
use Rattle.congee.proofs.lemmas.protocol.ScanWays.{pick_false, pick_true, path_pushed, path_empty, path_last}

module _ {C V : Type 0} (number : C → ℕ) (always : Bool) (a : ℕ → Note) (h : ℕ → Node V) (K : ℕ → Type 0) (root : C) (top : K (number root))
    (hangs : (p b n : ℕ) → (a p).status ≡ Linked → (h p).children b ≡ Below n → K n) (w : LockWords a h) where
  abbrev Has : NextScan C V → Type 0
  Has u = Each K (names_scan number u.0)

  has_as : (u v : NextScan C V) → v ≡ u → Has u → Has v
  has_as u v e o = subst Has (sym e) o

  names_longer : (xs : List (Rung C)) (r : Rung C) → Each K (names_rungs number xs) → K (number r.at.node) → Each K (names_rungs number (xs ++ r ∷ []))
  names_longer [] r e k = (k, tt)
  names_longer (x ∷ xs) r e k = (e.0, names_longer xs r e.1 k)

  names_shorter : (xs : List (Rung C)) (r : Rung C) → Each K (names_rungs number (xs ++ r ∷ [])) → Each K (names_rungs number xs) × K (number r.at.node)
  names_shorter [] r e = (tt, e.0)
  names_shorter (x ∷ xs) r e = let y = names_shorter xs r e.1 in ((e.0, y.0), y.1)

  anew_has : (s : ScanState C V) → Has (anew root s)
  anew_has s = (top, subst (λ xs. Each K (names_rungs number xs)) (sym (path_empty s.above)) tt)

  left_has : (s : ScanState C V) → WayKnown number a h s → Each K (names_rungs number (rungs_of s.above)) → Has (left s)
  left_has s k e = elim (path_last s.above k.fits) [
    | inl x ↦ has_as (over s (scan_report.Done s.count)) (left s) (ap (left_to s) x.0) tt
    | inr x ↦ (let y = names_shorter (rungs_of (popped s.above)) x.0 (subst (λ xs. Each K (names_rungs number xs)) x.2 e) in has_as (goes s (popped s.above) (stage.Look x.0)) (left s) (ap (left_to s) x.1) (y.1, y.0))
  ]

  entered_has : (s : ScanState C V) (n : C) (x : Region) (o : Option ℕ) → WayKnown number a h s → K (number n) → Each K (names_rungs number (rungs_of s.above)) → Has (entered root s n x o)
  entered_has s n x None k y e = anew_has s
  entered_has s n x (Some v) k y e = on_test (is_outside s.start s.last x)
      (λ out. has_as (left s) (entered root s n x (Some v)) (pick_true (is_outside s.start s.last x) (left s) (goes s s.above (stage.Look (record { at = record { node = n; version = v }; region = x; from = first_byte s.start x }))) out) (left_has s k e))
      (λ ins. has_as (goes s s.above (stage.Look (record { at = record { node = n; version = v }; region = x; from = first_byte s.start x }))) (entered root s n x (Some v)) (pick_false (is_outside s.start s.last x) (left s) (goes s s.above (stage.Look (record { at = record { node = n; version = v }; region = x; from = first_byte s.start x }))) ins) (y, e))

  followed_has : (s : ScanState C V) (r : Rung C) (found : Least C V) (u : NextScan C V) → WayKnown number a h s → RungKnown number a h s.last s.above.len r → K (number r.at.node) → Each K (names_rungs number (rungs_of s.above))
      → (a (number r.at.node)).status ≡ Linked → LeastTruly number (h (number r.at.node)) r.from (last_byte s.last r.region) found → IsFollowed number h s r found u → Has u
  followed_has s r least.Nothing u k q y e l truly f = has_as (left s) u f (left_has s k e)
  followed_has s r (least.Node byte c) u k q y e l truly f = has_as (goes s (pushed s.above (moved r byte)) (stage.Enter c f.0)) u f.2 (
    hangs (number r.at.node) byte (number c) l truly.here,
    subst (λ xs. Each K (names_rungs number xs)) (sym (path_pushed s.above (moved r byte) (let d = q.deep in let sh = q.region.short in omega (arith, d, sh)))) (names_longer (rungs_of s.above) (moved r byte) e y),
  )
  followed_has s r (least.Value byte v) u k q y e l truly f = has_as (filled s r byte v) u f (on_test (s.count + 1 == s.size)
      (λ full. has_as (scan_at s (s.count + 1) s.above stage.Full, scan_report.Found s.count (r.region.base + byte) v) (filled s r byte v)
      (ap (λ x. (scan_at s (s.count + 1) s.above x, scan_report.Found s.count (r.region.base + byte) v)) (pick_true (s.count + 1 == s.size) stage.Full (stage.Look (moved r byte)) full)) tt)
      (λ free. has_as (scan_at s (s.count + 1) s.above (stage.Look (moved r byte)), scan_report.Found s.count (r.region.base + byte) v) (filled s r byte v)
      (ap (λ x. (scan_at s (s.count + 1) s.above x, scan_report.Found s.count (r.region.base + byte) v)) (pick_false (s.count + 1 == s.size) stage.Full (stage.Look (moved r byte)) free)) (y, e)))
  followed_has s r least.Uncopied u k q y e l truly f = has_as (over s (scan_report.Refused refusal.Count)) u f tt

  -- no node is above the root
  way_anew : (s : ScanState C V) → s.start ≤ s.last → s.last < 2 ^ 64 → 0 < s.size → WayKnown number a h (anew root s).0
  way_anew s lt b room = let P : List (Rung C) → Type 0 = λ xs. RungsKnown number a h s.last 0 xs in record { range = lt; bound = b; room = room; fits = omega arith; rungs = subst P (sym (path_empty s.above)) tt }

  has_at : (s : ScanState C V) (x : Stage C V) (u : NextScan C V) → ScanKnownAt number always a h s x → ScanSteppedAt number always root s x h u → Each K (names_scan_at number s x) → Has u
  has_at s stage.New u k f e =
      let o : Option ℕ = version_of (h (number root)) in
      let none : NextScan C V = over s (scan_report.Done 0) in
      let some : NextScan C V = entered root (anew root s).0 root whole o in
      has_as (begins root s o) u f (on_test (s.size == 0)
      (λ y. has_as none (begins root s o) (pick_true (s.size == 0) none some y) tt)
      (λ n. has_as some (begins root s o) (pick_false (s.size == 0) none some n) (entered_has (anew root s).0 root whole o (way_anew s (k.range (is_some s.size n)) k.bound (is_some s.size n)) top (anew_has s).1)))
  has_at s (stage.Enter n x) u k f e = has_as (entered root s n x (version_of (h (number n)))) u f (entered_has s n x (version_of (h (number n))) k.0 e.0 e.1)
  has_at s (stage.Look r) u k f e = has_as (goes s s.above (stage.Check r f.0)) u f.2 e
  has_at s (stage.Check r found) u k f e = on_test (is_taken (h (number r.at.node)) r.at.version)
      (λ y. followed_has s r found u k.0 k.1 e.0 e.1 (taken_linked a h w (number r.at.node) r.at.version k.1.stamped.published y) (k.3.holds y) (f.goes_on y))
      (λ n. has_as (anew root s) u (f.goes_back n) (anew_has s))
  has_at s stage.Full u k f e = has_as (over s (scan_report.Done s.count)) u f tt
  has_at s stage.Over u k f e = has_as (over s scan_report.Running) u f tt

  -- what is true of the root, of all that hangs in the tree and of a scan's names is so of its names after a step
  pub scan_names : (s : ScanState C V) (u : NextScan C V) → ScanKnown number always a h s → ScanSteppedAt number always root s s.stage h u → Each K (names_scan number s) → Each K (names_scan number u.0)
  scan_names s u k f e = has_at s s.stage u k f e
