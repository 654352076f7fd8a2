-- A scan's step leaves the scan what it is to know.
use Rattle.std.proofs.Common.{◌≡◌, ◌≢◌, ℕ, ◌<◌, ◌≤◌, ◌+◌, ◌-◌, ◌^◌, ◌==◌, inl, inr, Bool, true, false, List, [], ◌∷◌, ◌++◌, length, refl, sym, ap, ◌∙◌, subst, arith}
use Rattle.std.specs.Prelude.{Option, None, Some}
use Rattle.std.proofs.lemmas.Bool.{cases_lt}
use Rattle.congee.specs.declared.protocol.store.Region.{Region}
use Rattle.congee.specs.declared.protocol.store.Least.{Least}
use Rattle.congee.specs.declared.protocol.store.Least.TheVariants as least
use Rattle.congee.specs.declared.protocol.store.Refusal.TheVariants as refusal
use Rattle.congee.specs.declared.protocol.scan.Rung.{Rung}
use Rattle.congee.specs.declared.protocol.scan.Stage.{Stage}
use Rattle.congee.specs.declared.protocol.scan.Stage.TheVariants as stage
use Rattle.congee.specs.declared.protocol.scan.ScanState.{ScanState}
use Rattle.congee.specs.declared.protocol.scan.ScanReport.TheVariants as scan_report
use Rattle.congee.specs.Heap.{Node, version_of, is_taken, is_free}
use Rattle.congee.specs.Notes.{Note, Linked, is_published, Tree, LockWords}
use Rattle.congee.specs.protocol.Regions.{IsRegion}
use Rattle.congee.specs.protocol.ScanEvents.{LeastTruly, IsAny}
use Rattle.congee.specs.protocol.ScanSteps.{whole, is_outside, first_byte, last_byte, rungs_of, pushed, popped, moved, scan_at, NextScan, goes, over, anew, left_to, left, entered, filled, IsFollowed, begins, ScanSteppedAt}
use Rattle.congee.specs.protocol.ScanKnown.{RungKnown, RungsKnown, WayKnown, ScanKnownAt, ScanKnown}
use Rattle.congee.proofs.lemmas.Fits.{same_test}
use Rattle.congee.proofs.lemmas.Graft.{on_test}
use Rattle.congee.proofs.lemmas.protocol.Touch.{taken_linked}
use Rattle.congee.proofs.lemmas.protocol.ScanBytes.{is_some, inside_last, first_small}
use Rattle.congee.proofs.lemmas.protocol.ScanWays.{pick_false, pick_true, path_pushed, path_empty, path_last, path_count, rungs_longer, rungs_shorter, way_at}
use Rattle.congee.proofs.lemmas.protocol.ScanKept.{child_deeper}

-- numbers that fail the test of equality differ
pub differ_of_test : (x y : ℕ) → (x == y) ≡ false → x ≢ y
differ_of_test x y f e = let t : (x == y) ≡ true = same_test x y e in let z : true ≡ false = sym t ∙ f in absurd cc

module _ {C V : Type 0} (number : C → ℕ) (always : Bool) (a : ℕ → Note) (h : ℕ → Node V) (t : Tree a h) (w : LockWords a h) (root : C) (z : number root ≡ 0) where
  abbrev Stays : NextScan C V → Type 0
  Stays u = ScanKnown number always a h u.0

  stays_as : (u v : NextScan C V) → v ≡ u → Stays u → Stays v
  stays_as u v e o = subst Stays (sym e) o

  anew_stays : (s : ScanState C V) → s.start ≤ s.last → s.last < 2 ^ 64 → 0 < s.size → Stays (anew root s)
  anew_stays s lt b room =
      let P : List (Rung C) → Type 0 = λ xs. RungsKnown number a h s.last 0 xs in
      let U : ℕ → Type 0 = λ n. is_published (a n).status ≡ true in
      let W : ℕ → Type 0 = λ n. IsRegion (h n).prefix 0 0 in (
        record { range = lt; bound = b; room = room; fits = omega arith; rungs = subst P (sym (path_empty s.above)) tt },
        subst U (sym z) (ap is_published t.root),
        subst W (sym z) (record { depth_is = sym (ap length t.empty); short = omega arith; small = omega arith; fitted = rw t.empty refl; even = refl }),
        omega arith,
      )

  left_stays : (s : ScanState C V) → WayKnown number a h s → Stays (left s)
  left_stays s k = elim (path_last s.above k.fits) [
    | inl e ↦ stays_as (over s (scan_report.Done s.count)) (left s) (ap (left_to s) e.0) tt
    | inr e ↦ (
        let r : Rung C = e.0 in
        let P : List (Rung C) → Type 0 = λ xs. RungsKnown number a h s.last 0 xs in
        let rungs = rungs_shorter number a h s.last 0 (rungs_of (popped s.above)) r (subst P e.2 k.rungs) in
        let counts = path_count (popped s.above) (let f = k.fits in omega (arith, f)) in
        let count : 0 + length (rungs_of (popped s.above)) ≡ s.above.len - 1 = omega (arith, counts) in
        stays_as (goes s (popped s.above) (stage.Look r)) (left s) (ap (left_to s) e.1) (
          record { range = k.range; bound = k.bound; room = k.room; fits = (let f = k.fits in omega (arith, f)); rungs = rungs.0 },
          subst (λ n. RungKnown number a h s.last n r) count rungs.1,
        )
        )
  ]

  entered_stays : (s : ScanState C V) (n : C) (x : Region) → ScanKnownAt number always a h s (stage.Enter n x) → Stays (entered root s n x (version_of (h (number n))))
  entered_stays s n x k = on_test (is_free (h (number n)))
      (λ free. stays_as (entered root s n x (Some (h (number n)).version)) (entered root s n x (version_of (h (number n)))) (ap (entered root s n x) (pick_true (is_free (h (number n))) (Some (h (number n)).version) None free))
      (on_test (is_outside s.start s.last x)
      (λ out. stays_as (left s) (entered root s n x (Some (h (number n)).version)) (pick_true (is_outside s.start s.last x) (left s) (seen (h (number n)).version) out) (left_stays s k.0))
      (λ ins. stays_as (seen (h (number n)).version) (entered root s n x (Some (h (number n)).version)) (pick_false (is_outside s.start s.last x) (left s) (seen (h (number n)).version) ins) (
        way_at number a h s _ k.0,
        record {
          stamped = record { published = k.1; up = omega arith };
          region = k.2;
          deep = k.3;
          within = inside_last x s.start s.last ins;
          bound = (let f = first_small x s.start in omega (arith, f));
        },
      ))))
      (λ held. stays_as (anew root s) (entered root s n x (version_of (h (number n)))) (ap (entered root s n x) (pick_false (is_free (h (number n))) (Some (h (number n)).version) None held))
      (anew_stays s k.0.range k.0.bound (let r = k.0.room in omega (arith, r))))
    where
      seen : ℕ → NextScan C V
      seen v = goes s s.above (stage.Look (record { at = record { node = n; version = v }; region = x; from = first_byte s.start x }))

  moved_known : (s : ScanState C V) (r : Rung C) (byte : ℕ) → byte < 256 → RungKnown number a h s.last s.above.len r → RungKnown number a h s.last s.above.len (moved r byte)
  moved_known s r byte small q = record { stamped = q.stamped; region = q.region; deep = q.deep; within = q.within; bound = omega (arith, small) }

  followed_stays : (s : ScanState C V) (r : Rung C) (found : Least C V) (u : NextScan C V) → WayKnown number a h s → RungKnown number a h s.last s.above.len r → IsAny always found
      → (a (number r.at.node)).status ≡ Linked → LeastTruly number (h (number r.at.node)) r.from (last_byte s.last r.region) found → IsFollowed number h s r found u → Stays u
  followed_stays s r least.Nothing u k q any l truly e = stays_as (left s) u e (left_stays s k)
  followed_stays s r (least.Node byte c) u k q small l truly e =
      let x : Region = e.0 in
      let deeper = child_deeper a h t (number r.at.node) r.region.base r.region.depth l q.region byte (number c) x truly.here e.1 in
      let counts = path_count s.above k.fits in
      let count : 0 + length (rungs_of s.above) ≡ s.above.len = omega (arith, counts) in
      let path : rungs_of (pushed s.above (moved r byte)) ≡ rungs_of s.above ++ moved r byte ∷ [] = path_pushed s.above (moved r byte) (let d = q.deep in let sh = q.region.short in omega (arith, d, sh)) in
      let P : List (Rung C) → Type 0 = λ xs. RungsKnown number a h s.last 0 xs in
      stays_as (goes s (pushed s.above (moved r byte)) (stage.Enter c x)) u e.2 (
        record {
          range = k.range;
          bound = k.bound;
          room = k.room;
          fits = (let d = q.deep in let sh = q.region.short in omega (arith, d, sh));
          rungs = subst P (sym path) (rungs_longer number a h s.last 0 (rungs_of s.above) (moved r byte) k.rungs (subst (λ i. RungKnown number a h s.last i (moved r byte)) (sym count) (moved_known s r byte small q)));
        },
        ap is_published (t.down (number r.at.node) byte (number c) l truly.here).linked,
        e.1,
        (let d = q.deep in omega (arith, d, deeper)),
      )
  followed_stays s r (least.Value byte v) u k q small l truly e = stays_as (filled s r byte v) u e (on_test (s.count + 1 == s.size)
      (λ full. stays_as (scan_at s (s.count + 1) s.above stage.Full, scan_report.Found s.count (r.region.base + byte) v) (filled s r byte v)
      (ap (λ x. (scan_at s (s.count + 1) s.above x, scan_report.Found s.count (r.region.base + byte) v)) (pick_true (s.count + 1 == s.size) stage.Full (stage.Look (moved r byte)) full)) tt)
      (λ free. stays_as (scan_at s (s.count + 1) s.above (stage.Look (moved r byte)), scan_report.Found s.count (r.region.base + byte) v) (filled s r byte v)
      (ap (λ x. (scan_at s (s.count + 1) s.above x, scan_report.Found s.count (r.region.base + byte) v)) (pick_false (s.count + 1 == s.size) stage.Full (stage.Look (moved r byte)) free)) (
        record {
          range = k.range;
          bound = k.bound;
          room = (let ne : s.count + 1 ≢ s.size = differ_of_test (s.count + 1) s.size free in let r = k.room in elim (cases_lt (s.count + 1) s.size) [ inl x ↦ x | inr x ↦ absurd (ne (omega (arith, x, r))) ]);
          fits = k.fits;
          rungs = k.rungs;
        },
        moved_known s r byte small q,
      )))
  followed_stays s r least.Uncopied u k q any l truly e = stays_as (over s (scan_report.Refused refusal.Count)) u e tt

  stays_at : (s : ScanState C V) (x : Stage C V) (u : NextScan C V) → ScanKnownAt number always a h s x → ScanSteppedAt number always root s x h u → Stays u
  stays_at s stage.New u k e =
      let o : Option ℕ = version_of (h (number root)) in
      let none : NextScan C V = over s (scan_report.Done 0) in
      let some : NextScan C V = entered root (anew root s).0 root whole o in
      stays_as (begins root s o) u e (on_test (s.size == 0)
      (λ y. stays_as none (begins root s o) (pick_true (s.size == 0) none some y) tt)
      (λ n. stays_as some (begins root s o) (pick_false (s.size == 0) none some n) (entered_stays (anew root s).0 root whole (anew_stays s (k.range (is_some s.size n)) k.bound (is_some s.size n)))))
  stays_at s (stage.Enter n x) u k e = stays_as (entered root s n x (version_of (h (number n)))) u e (entered_stays s n x k)
  stays_at s (stage.Look r) u k e = stays_as (goes s s.above (stage.Check r e.0)) u e.2 (way_at number a h s _ k.0, k.1, e.1.0, record { stamped = k.1.stamped; holds = e.1.1 })
  stays_at s (stage.Check r found) u k e = on_test (is_taken (h (number r.at.node)) r.at.version)
      (λ y. followed_stays s r found u k.0 k.1 k.2 (taken_linked a h w (number r.at.node) r.at.version k.1.stamped.published y) (k.3.holds y) (e.goes_on y))
      (λ n. stays_as (anew root s) u (e.goes_back n) (anew_stays s k.0.range k.0.bound (let r = k.0.room in omega (arith, r))))
  stays_at s stage.Full u k e = stays_as (over s (scan_report.Done s.count)) u e tt
  stays_at s stage.Over u k e = stays_as (over s scan_report.Running) u e tt

  -- after a step a scan knows what its next stage says
  pub scan_stays : (s : ScanState C V) (u : NextScan C V) → ScanKnown number always a h s → ScanSteppedAt number always root s s.stage h u → ScanKnown number always a h u.0
  scan_stays s u k e = stays_at s s.stage u k e
