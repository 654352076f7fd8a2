-- A step of a scan of a store, and of the same scan by numbers.
use Rattle.std.proofs.Common.{◌≡◌, ◌≢◌, ℕ, zero, suc, ◌+◌, ◌-◌, ◌<◌, ◌==◌, Bool, true, false, cond, List, [], ◌∷◌, length, refl, sym, ◌∙◌, ap, subst, inl, inr, arith}
use Rattle.std.proofs.Math.ListN.{set}
use Rattle.std.specs.Prelude.{Option, None, Some, slice_get}
use Rattle.std.proofs.lemmas.Bool.{cases_Bool}
use Rattle.congee.specs.declared.protocol.store.Least.{Least}
use Rattle.congee.specs.declared.protocol.store.Least.TheVariants as least
use Rattle.congee.specs.declared.protocol.store.Refusal.TheVariants as refusal
use Rattle.congee.specs.declared.protocol.store.Region.{Region}
use Rattle.congee.specs.declared.protocol.store.Seen.{Seen}
use Rattle.congee.specs.declared.protocol.scan.Rung.{Rung}
use Rattle.congee.specs.declared.protocol.scan.Path.{Path}
use Rattle.congee.specs.declared.protocol.scan.Stage.{Stage}
use Rattle.congee.specs.declared.protocol.scan.Stage.TheVariants as stage
use Rattle.congee.specs.declared.protocol.scan.ScanState.{ScanState as ScanState}
use Rattle.congee.specs.declared.protocol.scan.ScanReport.{ScanReport}
use Rattle.congee.specs.declared.protocol.scan.ScanReport.TheVariants as scan_report
use Rattle.congee.specs.Heap.{Node, Stands, version_of, is_taken}
use Rattle.congee.specs.protocol.Alike.{NodeAlike, HeapAlike, Named, RungAlike, PlaceAlike, LeastAlike, StageAlike, ScanAlike, IsUnrefused}
use Rattle.congee.specs.protocol.PlainSteps.{Mark, least_of, region_of, followed, next_scan}
use Rattle.congee.specs.protocol.Steps.{outcome_of}
use Rattle.congee.specs.protocol.ScanSteps.{whole, is_outside, first_byte, last_byte, slots, put_rung, pushed, popped, cleared, last_of, moved, scan_at, NextScan, goes, over, anew, left_to, left, entered, filled, IsFollowed, begins, ScanSteppedAt, MayFollow, MayScanAt}
use Rattle.congee.proofs.lemmas.Fits.{same_test, other_test}
use Rattle.congee.proofs.lemmas.Tree.{same_or_not}
use Rattle.congee.proofs.lemmas.protocol.AlikeReads.{taken_alike, version_same, least_alike, region_is}
use Rattle.congee.proofs.lemmas.protocol.ScanWays.{put_slots, pick_true, pick_false}

set_here : {A : Type 0} (xs : List A) (i : ℕ) (x : A) → i < length xs → slice_get (set xs i x) i ≡ Some x
set_here [] i x l = absurd (omega (arith, l))
set_here (y ∷ xs) zero x l = refl
set_here (y ∷ xs) (suc i) x l = set_here xs i x (omega (arith, l))

set_there : {A : Type 0} (xs : List A) (i j : ℕ) (x : A) → j ≢ i → slice_get (set xs i x) j ≡ slice_get xs j
set_there [] i j x ne = refl
set_there (y ∷ xs) zero zero x ne = absurd (ne refl)
set_there (y ∷ xs) zero (suc j) x ne = refl
set_there (y ∷ xs) (suc i) zero x ne = refl
set_there (y ∷ xs) (suc i) (suc j) x ne = set_there xs i j x (λ e. ne (ap suc e))

module _ {C V : Type 0} (order : List ℕ) (number : C → ℕ) (h : ℕ → Node V) where
  -- the ways of both
  record WayAlike (P : Path C) (Q : Path ℕ) : Type 0 where
    len : Q.len ≡ P.len
    way : (i : ℕ) → i < P.len → PlaceAlike order number (slice_get (slots P) i) (slice_get (slots Q) i)

  way_cleared : (P : Path C) (Q : Path ℕ) → WayAlike (cleared P) (cleared Q)
  way_cleared P Q = record { len = refl; way = λ i l. absurd (omega (arith, l)) }

  way_popped : (P : Path C) (Q : Path ℕ) → WayAlike P Q → WayAlike (popped P) (popped Q)
  way_popped P Q x = record { len = ap (λ z. z - 1) x.len; way = λ i l. x.way i (omega (arith, l)) }

  way_pushed : (P : Path C) (Q : Path ℕ) (r : Rung C) (q : Rung ℕ) → P.len < 8 → WayAlike P Q → RungAlike order number r q → WayAlike (pushed P r) (pushed Q q)
  way_pushed P Q r q l x y = record { len = ap (λ z. z + 1) x.len; way = each } where
    here : slots (put_rung P.len r P) ≡ set (slots P) P.len r
    here = put_slots P.len r P l

    there : slots (put_rung Q.len q Q) ≡ set (slots Q) P.len q
    there = put_slots Q.len q Q (let e : Q.len ≡ P.len = x.len in omega (arith, e, l)) ∙ ap (λ z. set (slots Q) z q) x.len

    each : (i : ℕ) → i < P.len + 1 → PlaceAlike order number (slice_get (slots (put_rung P.len r P)) i) (slice_get (slots (put_rung Q.len q Q)) i)
    each i k =
        let A : List (Rung C) → Type 0 = λ z. PlaceAlike order number (slice_get z i) (slice_get (slots (put_rung Q.len q Q)) i) in
        let B : List (Rung ℕ) → Type 0 = λ z. PlaceAlike order number (slice_get (set (slots P) P.len r) i) (slice_get z i) in
        subst A (sym here) (subst B (sym there) (elim (same_or_not i P.len) [
          | inl e ↦ (
              let a : slice_get (set (slots P) P.len r) i ≡ Some r = ap (slice_get (set (slots P) P.len r)) e ∙ set_here (slots P) P.len r l in
              let b : slice_get (set (slots Q) P.len q) i ≡ Some q = ap (slice_get (set (slots Q) P.len q)) e ∙ set_here (slots Q) P.len q l in
              let D : Option (Rung C) → Type 0 = λ z. PlaceAlike order number z (slice_get (set (slots Q) P.len q) i) in
              subst D (sym a) (q, b, y))
          | inr ne ↦ (
              let a : slice_get (set (slots P) P.len r) i ≡ slice_get (slots P) i = set_there (slots P) P.len i r ne in
              let b : slice_get (set (slots Q) P.len q) i ≡ slice_get (slots Q) i = set_there (slots Q) P.len i q ne in
              let D : Option (Rung C) → Type 0 = λ z. PlaceAlike order number z (slice_get (set (slots Q) P.len q) i) in
              let E : Option (Rung ℕ) → Type 0 = λ z. PlaceAlike order number (slice_get (slots P) i) z in
              subst D (sym a) (subst E (sym b) (x.way i (omega (arith, k, ne)))))
        ]))

  last_alike : (P : Path C) (Q : Path ℕ) → WayAlike P Q → PlaceAlike order number (last_of P) (last_of Q)
  last_alike P Q x = elim (same_or_not P.len 0) [
    | inl e ↦ (
        let a : last_of P ≡ None = pick_true (P.len == 0) None (slice_get (slots P) (P.len - 1)) (same_test P.len 0 e) in
        let b : last_of Q ≡ None = pick_true (Q.len == 0) None (slice_get (slots Q) (Q.len - 1)) (same_test Q.len 0 (x.len ∙ e)) in
        let A : Option (Rung C) → Type 0 = λ z. PlaceAlike order number z (last_of Q) in
        subst A (sym a) b)
    | inr ne ↦ (
        let l : Q.len ≡ P.len = x.len in
        let a : last_of P ≡ slice_get (slots P) (P.len - 1) = pick_false (P.len == 0) None (slice_get (slots P) (P.len - 1)) (other_test P.len 0 ne) in
        let b : last_of Q ≡ slice_get (slots Q) (P.len - 1) = pick_false (Q.len == 0) None (slice_get (slots Q) (Q.len - 1)) (other_test Q.len 0 (λ z. ne (sym l ∙ z))) ∙ ap (λ z. slice_get (slots Q) (z - 1)) l in
        let A : Option (Rung C) → Type 0 = λ z. PlaceAlike order number z (last_of Q) in
        let B : Option (Rung ℕ) → Type 0 = λ z. PlaceAlike order number (slice_get (slots P) (P.len - 1)) z in
        subst A (sym a) (subst B (sym b) (x.way (P.len - 1) (omega (arith, ne)))))
  ]

  -- the same scan by numbers, on this way and before this step
  abbrev twin : ScanState C V → Path ℕ → Stage ℕ V → ScanState ℕ V
  twin s Q y = record { start = s.start; last = s.last; size = s.size; count = s.count; above = Q; stage = y }

  at_alike : (s : ScanState C V) (Q : Path ℕ) (z : Stage ℕ V) (count : ℕ) (P' : Path C) (Q' : Path ℕ) (x : Stage C V) (y : Stage ℕ V) → WayAlike P' Q' → StageAlike order number h x y → ScanAlike order number h (scan_at s count P' x) (scan_at (twin s Q z) count Q' y)
  at_alike s Q z count P' Q' x y w e = record { start = refl; last = refl; size = refl; count = refl; len = w.len; way = w.way; stage = e }

  -- after a step both scans tell the same and stand at the same stage of the same way
  pub record NextScanAlike (u : NextScan C V) (w : NextScan ℕ V) : Type 0 where
    pub told : w.1 ≡ u.1
    pub scan : ScanAlike order number h u.0 w.0

  module _ (s : ScanState C V) (Q : Path ℕ) (z : Stage ℕ V) (w : WayAlike s.above Q) where
    abbrev t : ScanState ℕ V
    t = twin s Q z

    goes_alike : (P' : Path C) (Q' : Path ℕ) (x : Stage C V) (y : Stage ℕ V) → WayAlike P' Q' → StageAlike order number h x y → NextScanAlike (goes s P' x) (goes t Q' y)
    goes_alike P' Q' x y a e = record { told = refl; scan = at_alike s Q z s.count P' Q' x y a e }

    over_alike : (o : ScanReport V) → NextScanAlike (over s o) (over t o)
    over_alike o = record { told = refl; scan = at_alike s Q z s.count s.above Q stage.Over stage.Over w refl }

    anew_alike : (root : C) (m : ℕ) → Named order number root m → NextScanAlike (anew root s) (anew m t)
    anew_alike root m r = record { told = refl; scan = at_alike s Q z 0 (cleared s.above) (cleared Q) (stage.Enter root whole) (stage.Enter m whole) (way_cleared s.above Q) (m, refl, r) }

    left_alike : NextScanAlike (left s) (left t)
    left_alike = by (last_of s.above) (last_of Q) (last_alike s.above Q w) where
      by : (o : Option (Rung C)) (p : Option (Rung ℕ)) → PlaceAlike order number o p → NextScanAlike (left_to s o) (left_to t p)
      by None p e = let A : Option (Rung ℕ) → Type 0 = λ y. NextScanAlike (left_to s None) (left_to t y) in subst A (sym e) (over_alike (scan_report.Done s.count))
      by (Some r) p e =
          let A : Option (Rung ℕ) → Type 0 = λ y. NextScanAlike (left_to s (Some r)) (left_to t y) in
          subst A (sym e.1) (goes_alike (popped s.above) (popped Q) (stage.Look r) (stage.Look e.0) (way_popped s.above Q w) (e.0, refl, e.2))

    entered_alike : (root : C) (m : ℕ) (c : C) (n : ℕ) (x : Region) (v : Option ℕ) → Named order number root m → Named order number c n → NextScanAlike (entered root s c x v) (entered m t n x v)
    entered_alike root m c n x None r e = anew_alike root m r
    entered_alike root m c n x (Some v) r e = by (is_outside s.start s.last x) where
      by : (b : Bool) → NextScanAlike (cond b (left s) (goes s s.above (stage.Look (record { at = record { node = c; version = v }; region = x; from = first_byte s.start x })))) (cond b (left t) (goes t Q (stage.Look (record { at = record { node = n; version = v }; region = x; from = first_byte s.start x }))))
      by true = left_alike
      by false = goes_alike s.above Q (stage.Look (record { at = record { node = c; version = v }; region = x; from = first_byte s.start x })) (stage.Look (record { at = record { node = n; version = v }; region = x; from = first_byte s.start x })) w
          (record { at = record { node = n; version = v }; region = x; from = first_byte s.start x }, refl, record { at = record { node = e; version = refl }; region = refl; from = refl })

    moved_alike : (r : Rung C) (q : Rung ℕ) (byte : ℕ) → RungAlike order number r q → RungAlike order number (moved r byte) (moved q byte)
    moved_alike r q byte e = record { at = e.at; region = e.region; from = refl }

    filled_alike : (r : Rung C) (q : Rung ℕ) (byte : ℕ) (v : V) → RungAlike order number r q → NextScanAlike (filled s r byte v) (filled t q byte v)
    filled_alike r q byte v e = record { told = ap (λ y. scan_report.Found s.count (y.base + byte) v) e.region; scan = at_alike s Q z (s.count + 1) s.above Q _ _ w (by (s.count + 1 == s.size)) } where
      by : (b : Bool) → StageAlike order number h (cond b stage.Full (stage.Look (moved r byte))) (cond b stage.Full (stage.Look (moved q byte)))
      by true = refl
      by false = (moved q byte, refl, moved_alike r q byte e)

  to_alike : (u : NextScan C V) (a b : NextScan ℕ V) → b ≡ a → NextScanAlike u a → NextScanAlike u b
  to_alike u a b e x = let A : NextScan ℕ V → Type 0 = λ y. NextScanAlike u y in subst A (sym e) x

  at_alike_next : (u a : NextScan C V) (b : NextScan ℕ V) → u ≡ a → NextScanAlike a b → NextScanAlike u b
  at_alike_next u a b e x = let A : NextScan C V → Type 0 = λ y. NextScanAlike y b in subst A (sym e) x

  module _ (g : ℕ → Node V) (x : HeapAlike order h g) (always : Bool) (root : C) (m : ℕ) (r : Named order number root m) (seen : Option (Seen Mark V)) (s : ScanState C V) (Q : Path ℕ) (z : Stage ℕ V) (w : WayAlike s.above Q) where
    abbrev q : ScanState ℕ V
    q = twin s Q z

    version_here : (c : C) (n : ℕ) → Named order number c n → Stands (h (number c)) → version_of (g n) ≡ version_of (h (number c))
    version_here c n e st = version_same order (h (number c)) (g n) (x n (number c) e st)

    followed_alike : (ru : Rung C) (qu : Rung ℕ) (f : Least C V) (y : Least ℕ V) (u : NextScan C V) → s.above.len < 8 → MayFollow number h ru f → IsUnrefused (outcome_of u.1) → RungAlike order number ru qu → LeastAlike order number f y → IsFollowed number h s ru f u
        → NextScanAlike u (followed g q qu y)
    followed_alike ru qu least.Nothing y u l may un e a k = to_alike u (followed g q qu least.Nothing) _ (ap (followed g q qu) a) (at_alike_next u (left s) (left q) k (left_alike s Q z w))
    followed_alike ru qu (least.Node byte c) y u l may un e a k =
        let n : ℕ = a.0 in
        let node : NodeAlike order (h (number c)) (g a.0) = x a.0 (number c) a.2 may.0 in
        let region : region_of (g a.0).prefix ≡ k.0 = ap region_of node.prefix ∙ region_is (h (number c)).prefix k.0 k.1 in
        to_alike u (goes q (pushed Q (moved qu byte)) (stage.Enter a.0 k.0)) _ (ap (followed g q qu) a.1 ∙ ap (λ y. goes q (pushed Q (moved qu byte)) (stage.Enter a.0 y)) region)
        (at_alike_next u _ _ k.2 (goes_alike s Q z w (pushed s.above (moved ru byte)) (pushed Q (moved qu byte)) (stage.Enter c k.0) (stage.Enter a.0 k.0)
        (way_pushed s.above Q (moved ru byte) (moved qu byte) l w (moved_alike s Q z w ru qu byte e)) (a.0, refl, a.2)))
    followed_alike ru qu (least.Value byte v) y u l may un e a k = to_alike u (followed g q qu (least.Value byte v)) _ (ap (followed g q qu) a) (at_alike_next u _ _ k (filled_alike s Q z w ru qu byte v e))
    followed_alike ru qu least.Uncopied y u l may un e a k =
        let no : refusal.Count ≡ refusal.Exhausted = un refusal.Count (ap (λ y. outcome_of y.1) k) in
        absurd cc

    next_scan_at : (p : Stage C V) (y : Stage ℕ V) (u : NextScan C V) → StageAlike order number h p y → MayScanAt number root s p h → IsUnrefused (outcome_of u.1) → ScanSteppedAt number always root s p h u → NextScanAlike u (next_scan m seen g q y)
    next_scan_at stage.New y u a may un k =
        to_alike u (begins m q (version_of (h (number root)))) _ (ap (next_scan m seen g q) a ∙ ap (begins m q) (version_here root m r may)) (at_alike_next u _ _ k (by (s.size == 0)))
      where
        by : (d : Bool) → NextScanAlike (cond d (over s (scan_report.Done 0)) (entered root (anew root s).0 root whole (version_of (h (number root))))) (cond d (over q (scan_report.Done 0)) (entered m (anew m q).0 m whole (version_of (h (number root)))))
        by true = over_alike s Q z w (scan_report.Done 0)
        by false = entered_alike (anew root s).0 (cleared Q) (stage.Enter m whole) (way_cleared s.above Q) root m root m whole (version_of (h (number root))) r r
    next_scan_at (stage.Enter c b) y u a may un k =
        to_alike u (entered m q a.0 b (version_of (h (number c)))) _ (ap (next_scan m seen g q) a.1 ∙ ap (entered m q a.0 b) (version_here c a.0 a.2 may.0)) (at_alike_next u _ _ k (entered_alike s Q z w root m c a.0 b (version_of (h (number c))) r a.2))
    next_scan_at (stage.Look ru) y u a may un k =
        let node : NodeAlike order (h (number ru.at.node)) (g a.0.at.node) = x a.0.at.node (number ru.at.node) a.2.at.node may.0 in
        let found : Least ℕ V = least_of (g a.0.at.node) a.0.at.version a.0.from (last_byte s.last a.0.region) seen in
        to_alike u (goes q Q (stage.Check a.0 (least_of (g a.0.at.node) a.0.at.version a.0.from (last_byte s.last a.0.region) seen))) _ (ap (next_scan m seen g q) a.1)
        (at_alike_next u _ _ k.2 (goes_alike s Q z w s.above Q (stage.Check ru k.0) (stage.Check a.0 (least_of (g a.0.at.node) a.0.at.version a.0.from (last_byte s.last a.0.region) seen)) w (
          a.0,
          least_of (g a.0.at.node) a.0.at.version a.0.from (last_byte s.last a.0.region) seen,
          refl,
          a.2,
          λ t. least_alike order number always (h (number ru.at.node)) (g a.0.at.node) ru.at.version a.0.at.version ru.from a.0.from (last_byte s.last ru.region) (last_byte s.last a.0.region) seen k.0 node a.2.at.version a.2.from (ap (last_byte s.last) a.2.region) k.1 t,
        )))
    next_scan_at (stage.Check ru f) y u a may un k =
        let node : NodeAlike order (h (number ru.at.node)) (g a.0.at.node) = x a.0.at.node (number ru.at.node) a.3.at.node may.0 in
        let same : is_taken (g a.0.at.node) a.0.at.version ≡ is_taken (h (number ru.at.node)) ru.at.version = taken_alike order (h (number ru.at.node)) (g a.0.at.node) ru.at.version a.0.at.version node a.3.at.version in
        to_alike u (cond (is_taken (h (number ru.at.node)) ru.at.version) (followed g q a.0 a.1) (anew m q)) _ (ap (next_scan m seen g q) a.2 ∙ ap (λ b. cond b (followed g q a.0 a.1) (anew m q)) same)
        (elim (cases_Bool (is_taken (h (number ru.at.node)) ru.at.version)) [
          | inl t ↦ to_alike u (followed g q a.0 a.1) _ (ap (λ b. cond b (followed g q a.0 a.1) (anew m q)) t) (followed_alike ru a.0 f a.1 u may.1 (may.3 t) un a.3 (a.4 t) (k.goes_on t))
          | inr t ↦ to_alike u (anew m q) _ (ap (λ b. cond b (followed g q a.0 a.1) (anew m q)) t) (at_alike_next u _ _ (k.goes_back t) (anew_alike s Q z w root m r))
        ])
    next_scan_at stage.Full y u a may un k = to_alike u (over q (scan_report.Done s.count)) _ (ap (next_scan m seen g q) a) (at_alike_next u _ _ k (over_alike s Q z w (scan_report.Done s.count)))
    next_scan_at stage.Over y u a may un k = to_alike u (over q scan_report.Running) _ (ap (next_scan m seen g q) a) (at_alike_next u _ _ k (over_alike s Q z w scan_report.Running))

  -- a step of the scan
  pub next_scan_alike : (g : ℕ → Node V) → HeapAlike order h g → (always : Bool) (root : C) (m : ℕ) → Named order number root m → (seen : Option (Seen Mark V)) (s : ScanState C V) (t : ScanState ℕ V) (u : NextScan C V) → ScanAlike order number h s t
      → MayScanAt number root s s.stage h → IsUnrefused (outcome_of u.1) → ScanSteppedAt number always root s s.stage h u → NextScanAlike u (next_scan m seen g t t.stage)
  next_scan_alike g x always root m r seen s t u e may un k =
      let A : ScanState ℕ V → Type 0 = λ y. NextScanAlike u (next_scan m seen g y y.stage) in
      let same : t ≡ twin s t.above t.stage =
      ap (λ y. record { start = y; last = t.last; size = t.size; count = t.count; above = t.above; stage = t.stage }) e.start
      ∙ ap (λ y. record { start = s.start; last = y; size = t.size; count = t.count; above = t.above; stage = t.stage }) e.last
      ∙ ap (λ y. record { start = s.start; last = s.last; size = y; count = t.count; above = t.above; stage = t.stage }) e.size
      ∙ ap (λ y. record { start = s.start; last = s.last; size = s.size; count = y; above = t.above; stage = t.stage }) e.count in
      subst A (sym same) (next_scan_at g x always root m r seen s t.above t.stage (record { len = e.len; way = e.way }) s.stage t.stage u e.stage may un k)
