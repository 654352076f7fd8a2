-- A scan's step keeps what the scan knows, settles more keys, and at its end tells what the scan promises.
use Rattle.std.proofs.Common.{◌≡◌, ◌≢◌, ℕ, suc, ◌<◌, ◌≤◌, ◌+◌, ◌*◌, ◌-◌, ◌^◌, ◌==◌, inl, inr, Bool, true, List, [], ◌∷◌, ◌++◌, length, take, refl, sym, ap, ◌∙◌, subst, arith}
use Rattle.std.specs.Prelude.{Option, None, Some}
use Rattle.std.specs.Ordering.{nat_cmp}
use Rattle.std.specs.FinMap.{FinMap}
use Rattle.std.proofs.lemmas.Bool.{cases_lt}
use Rattle.std.proofs.lemmas.List.{length-take-le}
use Rattle.congee.specs.declared.protocol.store.Region.{Region}
use Rattle.congee.specs.declared.protocol.store.Least.{Least}
use Rattle.congee.specs.declared.protocol.store.Least.TheVariants as least
use Rattle.congee.specs.declared.protocol.store.Refusal.TheVariants as refusal
use Rattle.congee.specs.declared.protocol.scan.Rung.{Rung}
use Rattle.congee.specs.declared.protocol.scan.Stage.{Stage}
use Rattle.congee.specs.declared.protocol.scan.Stage.TheVariants as stage
use Rattle.congee.specs.declared.protocol.scan.ScanState.{ScanState}
use Rattle.congee.specs.declared.protocol.scan.ScanReport.{ScanReport}
use Rattle.congee.specs.declared.protocol.scan.ScanReport.TheVariants as scan_report
use Rattle.congee.specs.Heap.{Node, version_of, is_taken, is_free}
use Rattle.congee.specs.Keys.{IsMapOf}
use Rattle.congee.specs.Notes.{Note, Linked, is_published, Tree, LockWords}
use Rattle.congee.specs.protocol.Regions.{span, IsRegion, start_at}
use Rattle.congee.specs.protocol.Scans.{Lacked, IsScan, ScannedTo, written}
use Rattle.congee.specs.protocol.ScanEvents.{LeastTruly, IsAny}
use Rattle.congee.specs.protocol.ScanSteps.{whole, is_outside, first_byte, last_byte, rungs_of, pushed, popped, moved, scan_at, NextScan, goes, over, anew, left_to, left, entered, filled, IsFollowed, begins, ScanSteppedAt}
use Rattle.congee.specs.protocol.ScanKnown.{RungKnown, RungsKnown, WayKnown, ScanKnownAt, ScanKnown, end_of, start_of, Gap, IsWay, Under, Aimed, TracksAt, Tracks, placed, Tells, SameCall}
use Rattle.congee.proofs.lemmas.Fits.{equal_of_test}
use Rattle.congee.proofs.lemmas.Graft.{on_test}
use Rattle.congee.proofs.lemmas.protocol.Touch.{taken_linked}
use Rattle.congee.proofs.lemmas.protocol.Regions.{span_pos, start_at_end as all_bytes, start_mono}
use Rattle.congee.proofs.lemmas.protocol.Scans.{scan_none, scan_later, scan_on, scan_found, scan_ends, scan_full, written_counts}
use Rattle.congee.proofs.lemmas.protocol.ScanBytes.{is_some, last_within, outside, inside_last, first_small, first_before, first_aims}
use Rattle.congee.proofs.lemmas.protocol.ScanWays.{pick_false, pick_true, path_pushed, path_empty, path_last, path_count, way_later, way_longer, way_shorter, rungs_longer, rungs_shorter, way_at}
use Rattle.congee.proofs.lemmas.protocol.ScanKept.{lacks_bytes, lacks_rest, has_value, child_deeper, child_after, child_before, lacks_beside}
use Rattle.congee.proofs.lemmas.protocol.ScanStays.{differ_of_test}

module _ {C V : Type 0} (number : C → ℕ) (always : Bool) (a : ℕ → Note) (h : ℕ → Node V) (t : Tree a h) (w : LockWords a h) (m : FinMap nat_cmp V) (st : IsMapOf h m)
    (states : List (FinMap nat_cmp V)) (places : List (ℕ × V)) (root : C) (z : number root ≡ 0) where
  -- what a step leaves
  abbrev pub Out : ScanState C V → NextScan C V → Type 0
  Out s u = ScanKnown number always a h u.0 × Tracks u.0 (m ∷ states) (placed places u.1) × Tells s (m ∷ states) places u.0.stage u.1 × SameCall s u.0

  out_as : (s : ScanState C V) (u v : NextScan C V) → v ≡ u → Out s u → Out s v
  out_as s u v e o = subst (λ x. Out s x) (sym e) o

  under_later : (s : ScanState C V) (x : Region) (upto : ℕ) → Under s states places x upto → Under s (m ∷ states) places x upto
  under_later s x upto u = record {
    counted = u.counted;
    way = way_later s.start (suc s.last) m states (rungs_of s.above) x u.way;
    scanned_to = scan_later s.start (suc s.last) s.size upto m states (take s.count places) u.scanned_to;
  }

  aimed_later : (s : ScanState C V) (r : Rung C) → Aimed s states places r → Aimed s (m ∷ states) places r
  aimed_later s r u = record { under = under_later s r.region (start_of r) u.under; aim = u.aim }

  under_on : (s : ScanState C V) (x : Region) (upto to : ℕ) → upto ≤ to → ((k : ℕ) → s.start ≤ k → k < suc s.last → upto ≤ k → k < to → Lacked (m ∷ states) k) → Under s (m ∷ states) places x upto → Under s (m ∷ states) places x to
  under_on s x upto to l gap u = record {
    counted = u.counted;
    way = u.way;
    scanned_to = scan_on s.start (suc s.last) s.size upto to (m ∷ states) (take s.count places) l gap u.scanned_to;
  }

  under_at : (s : ScanState C V) (x : Stage C V) (y : Region) (upto : ℕ) → Under s (m ∷ states) places y upto → Under (scan_at s s.count s.above x) (m ∷ states) places y upto
  under_at s x y upto u = record { counted = u.counted; way = u.way; scanned_to = u.scanned_to }

  aimed_at : (s : ScanState C V) (x : Stage C V) (r : Rung C) → Aimed s (m ∷ states) places r → Aimed (scan_at s s.count s.above x) (m ∷ states) places r
  aimed_at s x r u = record { under = under_at s x r.region (start_of r) u.under; aim = u.aim }

  take_none : (xs : List (ℕ × V)) → take 0 xs ≡ []
  take_none [] = refl
  take_none (x ∷ xs) = refl

  -- the scan begins anew
  anew_out : (s : ScanState C V) → s.start ≤ s.last → s.last < 2 ^ 64 → 0 < s.size → Out s (anew root s)
  anew_out s lt b room =
      let none = path_empty s.above in
      let P : List (Rung C) → Type 0 = λ xs. RungsKnown number a h s.last 0 xs in
      let Q : List (Rung C) → Type 0 = λ xs. IsWay s.start (suc s.last) (m ∷ states) xs whole in
      let R : List (ℕ × V) → Type 0 = λ xs. ScannedTo s.start (suc s.last) s.size 0 (m ∷ states) xs in
      let U : ℕ → Type 0 = λ n. is_published (a n).status ≡ true in
      let W : ℕ → Type 0 = λ n. IsRegion (h n).prefix 0 0 in (
        (
          record { range = lt; bound = b; room = room; fits = omega arith; rungs = subst P (sym none) tt },
          subst U (sym z) (ap is_published t.root),
          subst W (sym z) (record { depth_is = sym (ap length t.empty); short = omega arith; small = omega arith; fitted = rw t.empty refl; even = refl }),
          omega arith,
        ),
        record { counted = omega arith; way = subst Q (sym none) (omega (arith, b)); scanned_to = subst R (sym (take_none places)) (scan_none s.start (suc s.last) s.size 0 (m ∷ states) (omega arith)) },
        tt,
        record { start_is = refl; last_is = refl; size_is = refl },
      )

  -- a node is left, with its keys settled
  left_out : (s : ScanState C V) (x : Region) → WayKnown number a h s → Under s (m ∷ states) places x (end_of x) → Out s (left s)
  left_out s x k u = elim (path_last s.above k.fits) [
    | inl e ↦ (
        let Q : List (Rung C) → Type 0 = λ xs. IsWay s.start (suc s.last) (m ∷ states) xs x in
        let ends : suc s.last ≤ end_of x = subst Q e.1 u.way in
        out_as s (over s (scan_report.Done s.count)) (left s) (ap (left_to s) e.0) (tt, tt, (u.counted, scan_ends s.start (suc s.last) s.size (end_of x) (m ∷ states) (take s.count places) ends u.scanned_to, refl), record { start_is = refl; last_is = refl; size_is = refl })
        )
    | inr e ↦ (
        let r : Rung C = e.0 in
        let Q : List (Rung C) → Type 0 = λ xs. IsWay s.start (suc s.last) (m ∷ states) xs x in
        let P : List (Rung C) → Type 0 = λ xs. RungsKnown number a h s.last 0 xs in
        let way = way_shorter s.start (suc s.last) (m ∷ states) (rungs_of (popped s.above)) r x (subst Q e.2 u.way) in
        let rungs = rungs_shorter number a h s.last 0 (rungs_of (popped s.above)) r (subst P e.2 k.rungs) in
        let counts = path_count (popped s.above) (let f = k.fits in omega (arith, f)) in
        let count : 0 + length (rungs_of (popped s.above)) ≡ s.above.len - 1 = omega (arith, counts) in
        out_as s (goes s (popped s.above) (stage.Look r)) (left s) (ap (left_to s) e.1) (
          (
            record { range = k.range; bound = k.bound; room = k.room; fits = (let f = k.fits in omega (arith, f)); rungs = rungs.0 },
            subst (λ n. RungKnown number a h s.last n r) count rungs.1,
          ),
          record {
            under = record {
              counted = u.counted;
              way = way.0;
              scanned_to = scan_on s.start (suc s.last) s.size (end_of x) (start_of r) (m ∷ states) (take s.count places) way.1.inside way.1.lacked u.scanned_to;
            };
            aim = (let g = way.1.aim in omega (arith, g));
          },
          tt,
          record { start_is = refl; last_is = refl; size_is = refl },
        )
        )
  ]

  -- a node's version is taken
  entered_out : (s : ScanState C V) (n : C) (x : Region) → ScanKnownAt number always a h s (stage.Enter n x) → Under s (m ∷ states) places x x.base → Out s (entered root s n x (version_of (h (number n))))
  entered_out s n x k u = on_test (is_free (h (number n)))
      (λ free. out_as s (entered root s n x (Some (h (number n)).version)) (entered root s n x (version_of (h (number n)))) (ap (entered root s n x) (pick_true (is_free (h (number n))) (Some (h (number n)).version) None free))
      (on_test (is_outside s.start s.last x)
      (λ out. out_as s (left s) (entered root s n x (Some (h (number n)).version)) (pick_true (is_outside s.start s.last x) (left s) (seen (h (number n)).version) out)
      (left_out s x k.0 (under_on s x x.base (end_of x) (omega arith) (λ q lo hi at un. absurd (outside x s.start s.last q k.2.short out lo (omega (arith, hi)) at un)) u)))
      (λ ins. out_as s (seen (h (number n)).version) (entered root s n x (Some (h (number n)).version)) (pick_false (is_outside s.start s.last x) (left s) (seen (h (number n)).version) ins) (
        (
          way_at number a h s _ k.0,
          record {
            stamped = record { published = k.1; up = omega arith };
            region = k.2;
            deep = k.3;
            within = inside_last x s.start s.last ins;
            bound = (let f = first_small x s.start in omega (arith, f));
          },
        ),
        record {
          under = under_at s _ x _ (under_on s x x.base (start_at x.base x.depth (first_byte s.start x)) (omega arith) (λ q lo hi at un. absurd (first_before x s.start s.last q ins lo at un)) u);
          aim = first_aims x s.start s.last ins;
        },
        tt,
        record { start_is = refl; last_is = refl; size_is = refl },
      ))))
      (λ held. out_as s (anew root s) (entered root s n x (version_of (h (number n)))) (ap (entered root s n x) (pick_false (is_free (h (number n))) (Some (h (number n)).version) None held))
      (anew_out s k.0.range k.0.bound (let r = k.0.room in omega (arith, r))))
    where
      seen : ℕ → NextScan C V
      seen v = goes s s.above (stage.Look (record { at = record { node = n; version = v }; region = x; from = first_byte s.start x }))

  -- the check after a read succeeded
  followed_out : (s : ScanState C V) (r : Rung C) (found : Least C V) (u : NextScan C V) → WayKnown number a h s → RungKnown number a h s.last s.above.len r → IsAny always found
      → (a (number r.at.node)).status ≡ Linked → LeastTruly number (h (number r.at.node)) r.from (last_byte s.last r.region) found → Aimed s (m ∷ states) places r → IsFollowed number h s r found u → Out s u
  followed_out s r least.Nothing u k q any l truly tr e = out_as s (left s) u e (left_out s r.region k (
      let all = all_bytes (h (number r.at.node)).prefix r.region.base r.region.depth q.region in
      let up = start_mono (h (number r.at.node)).prefix r.region.base r.region.depth q.region r.from 256 q.bound in
      let low : r.region.base ≤ start_of r = omega arith in
      under_on s r.region (start_of r) (end_of r.region) (omega (arith, up, all)) (λ y lo hi at un.
      lacks_rest a h t m st states (number r.at.node) r.region.base r.region.depth l q.region r.region refl refl r.from s.last y (let b = k.bound in omega (arith, hi, b)) (omega (arith, low, at)) un (omega (arith, hi)) at truly) tr.under))
  followed_out s r (least.Node byte c) u k q small l truly tr e =
      let x : Region = e.0 in
      let n : ℕ = number r.at.node in
      let base : ℕ = r.region.base in
      let depth : ℕ = r.region.depth in
      let deeper = child_deeper a h t n base depth l q.region byte (number c) x truly.here e.1 in
      let after = child_after a h t n base depth l q.region byte (number c) x truly.here e.1 in
      let before = child_before a h t n base depth l q.region byte (number c) x truly.here e.1 in
      let all = all_bytes (h n).prefix base depth q.region in
      let up = start_mono (h n).prefix base depth q.region (byte + 1) 256 (omega (arith, small)) in
      let past = start_mono (h n).prefix base depth q.region r.from byte truly.past in
      let pos = span_pos (depth + 1) in
      let more : (byte + 1) * span (depth + 1) ≡ byte * span (depth + 1) + span (depth + 1) = omega arith in
      let low : base ≤ start_of r = omega arith in
      let un = tr.under in
      let aim = tr.aim in
      let posx = span_pos x.depth in
      let counts = path_count s.above k.fits in
      let count : 0 + length (rungs_of s.above) ≡ s.above.len = omega (arith, counts) in
      let path : rungs_of (pushed s.above (moved r byte)) ≡ rungs_of s.above ++ moved r byte ∷ [] = path_pushed s.above (moved r byte) (let d = q.deep in let sh = q.region.short in omega (arith, d, sh)) in
      let P : List (Rung C) → Type 0 = λ xs. RungsKnown number a h s.last 0 xs in
      let Q : List (Rung C) → Type 0 = λ xs. IsWay s.start (suc s.last) (m ∷ states) xs x in
      let gap : Gap s.start (suc s.last) (m ∷ states) (moved r byte) x = record {
        inside = before;
        aim = omega (arith, aim, past, more);
        lacked = λ y lo hi at to. lacks_beside a h t m st states n base depth l q.region byte (number c) x small truly.here e.1 y (let b = k.bound in omega (arith, hi, b)) (omega (arith, after, at, posx)) to (inr at);
      } in
      out_as s (goes s (pushed s.above (moved r byte)) (stage.Enter c x)) u e.2 (
        (
          record {
            range = k.range;
            bound = k.bound;
            room = k.room;
            fits = (let d = q.deep in let sh = q.region.short in omega (arith, d, sh));
            rungs = subst P (sym path) (rungs_longer number a h s.last 0 (rungs_of s.above) (moved r byte) k.rungs (subst (λ i. RungKnown number a h s.last i (moved r byte)) (sym count) (record {
              stamped = q.stamped;
              region = q.region;
              deep = q.deep;
              within = q.within;
              bound = omega (arith, small);
            })));
          },
          ap is_published (t.down n byte (number c) l truly.here).linked,
          e.1,
          (let d = q.deep in omega (arith, d, deeper)),
        ),
        record {
          counted = un.counted;
          way = subst Q (sym path) (way_longer s.start (suc s.last) (m ∷ states) (rungs_of s.above) (moved r byte) x un.way gap);
          scanned_to = scan_on s.start (suc s.last) s.size (start_of r) x.base (m ∷ states) (take s.count places) (omega (arith, past, after)) (λ y lo hi at to.
              let b : y < 2 ^ 64 = (let g = k.bound in omega (arith, hi, g)) in
              elim (cases_lt y (start_at base depth byte)) [
                | inl lt ↦ lacks_bytes a h t m st states n base depth l q.region r.from byte y b (omega (arith, low, at)) (omega (arith, to, before, up, all)) at lt truly.before
                | inr ge ↦ lacks_beside a h t m st states n base depth l q.region byte (number c) x small truly.here e.1 y b ge (omega (arith, to, before, posx)) (inl to)
              ]) un.scanned_to;
        },
        tt,
        record { start_is = refl; last_is = refl; size_is = refl },
      )
  followed_out s r (least.Value byte v) u k q small l truly tr e =
      let n : ℕ = number r.at.node in
      let base : ℕ = r.region.base in
      let depth : ℕ = r.region.depth in
      let val = has_value a h t m st states n base depth l q.region byte v small truly.here in
      let one : span (depth + 1) ≡ 1 = ap (λ d. span (d + 1)) val.0 in
      let here : start_at base depth byte ≡ base + byte = ap (λ y. base + byte * y) one ∙ omega arith in
      let next : start_of (moved r byte) ≡ base + byte + 1 = ap (λ y. base + (byte + 1) * y) one ∙ omega arith in
      let from : start_of r ≡ base + r.from = ap (λ y. base + r.from * y) one ∙ omega arith in
      let last : start_at base depth (last_byte s.last r.region) ≡ base + last_byte s.last r.region = ap (λ y. base + last_byte s.last r.region * y) one ∙ omega arith in
      let lw = last_within r.region s.last q.within in
      let past = truly.past in
      let within = truly.within in
      let aim = tr.aim in
      let un = tr.under in
      let key : ℕ = base + byte in
      let lo : s.start ≤ base + byte = omega (arith, aim, one, from, past) in
      let hi : base + byte < suc s.last = omega (arith, lw, last, within) in
      let room : length (take s.count places) < s.size = (let c = length-take-le s.count places un.counted in let r = k.room in omega (arith, c, r)) in
      let all = all_bytes (h n).prefix base depth q.region in
      let up = start_mono (h n).prefix base depth q.region (byte + 1) 256 (omega (arith, small)) in
      let low : base ≤ start_of r = omega arith in
      let scanned_to : ScannedTo s.start (suc s.last) s.size (base + byte + 1) (m ∷ states) (take s.count places ++ (base + byte, v) ∷ []) = scan_found s.start (suc s.last) s.size (start_of r) (base + byte) v (m ∷ states) (take s.count places) lo hi (omega (arith, from, past)) room (inl val.2)
      (λ y l1 h1 at to. lacks_bytes a h t m st states n base depth l q.region r.from byte y (let g = k.bound in omega (arith, h1, g)) (omega (arith, low, at)) (omega (arith, to, up, all, next)) at (omega (arith, to, here)) truly.before) un.scanned_to in
      let put = written_counts places s.count (base + byte, v) un.counted in
      let S : List (ℕ × V) → Type 0 = λ xs. ScannedTo s.start (suc s.last) s.size (base + byte + 1) (m ∷ states) xs in
      let suc_is : suc s.count ≡ s.count + 1 = omega arith in
      let T : ℕ → Type 0 = λ i. ScannedTo s.start (suc s.last) s.size (base + byte + 1) (m ∷ states) (take i (written places s.count (base + byte, v))) in
      let all_scanned : ScannedTo s.start (suc s.last) s.size (base + byte + 1) (m ∷ states) (take (s.count + 1) (written places s.count (base + byte, v))) = subst T suc_is (subst S (sym put.0) scanned_to) in
      let counted : s.count + 1 ≤ length (written places s.count (base + byte, v)) = (let p = put.1 in omega (arith, p)) in
      out_as s (filled s r byte v) u e (on_test (s.count + 1 == s.size)
      (λ full. out_as s (scan_at s (s.count + 1) s.above stage.Full, scan_report.Found s.count (base + byte) v) (filled s r byte v)
      (ap (λ x. (scan_at s (s.count + 1) s.above x, scan_report.Found s.count (base + byte) v)) (pick_true (s.count + 1 == s.size) stage.Full (stage.Look (moved r byte)) full))
      (tt, record { counted = counted; all = equal_of_test (s.count + 1) s.size full; upto = base + byte + 1; scanned_to = all_scanned }, un.counted, record { start_is = refl; last_is = refl; size_is = refl }))
      (λ free. out_as s (scan_at s (s.count + 1) s.above (stage.Look (moved r byte)), scan_report.Found s.count (base + byte) v) (filled s r byte v)
      (ap (λ x. (scan_at s (s.count + 1) s.above x, scan_report.Found s.count (base + byte) v)) (pick_false (s.count + 1 == s.size) stage.Full (stage.Look (moved r byte)) free)) (
        (
          record {
            range = k.range;
            bound = k.bound;
            room = (let ne : s.count + 1 ≢ s.size = differ_of_test (s.count + 1) s.size free in let r = k.room in let d = cases_lt (s.count + 1) s.size in elim d [ inl x ↦ x | inr x ↦ absurd (ne (omega (arith, x, r))) ]);
            fits = k.fits;
            rungs = k.rungs;
          },
          record { stamped = q.stamped; region = q.region; deep = q.deep; within = q.within; bound = omega (arith, small) },
        ),
        record {
          under = record {
            counted = counted;
            way = un.way;
            scanned_to = subst (λ i. ScannedTo s.start (suc s.last) s.size i (m ∷ states) (take (s.count + 1) (written places s.count (base + byte, v)))) (sym next) all_scanned;
          };
          aim = omega (arith, lo, next);
        },
        un.counted,
        record { start_is = refl; last_is = refl; size_is = refl },
      )))
  followed_out s r least.Uncopied u k q any l truly tr e = out_as s (over s (scan_report.Refused refusal.Count)) u e (tt, tt, refl, record { start_is = refl; last_is = refl; size_is = refl })

  -- a scan without a place
  nothing_out : (s : ScanState C V) → s.size ≡ 0 → Out s (over s (scan_report.Done 0))
  nothing_out s none =
      let R : List (ℕ × V) → Type 0 = λ xs. IsScan s.start (suc s.last) s.size (m ∷ states) xs in (
        tt,
        tt,
        (
          omega arith,
          subst R (sym (take_none places)) (record {
            rises = tt;
            few = omega arith;
            within = tt;
            stood = tt;
            complete = λ k lo hi th. inr (sym none, tt);
          }),
          refl,
        ),
        record { start_is = refl; last_is = refl; size_is = refl },
      )

  -- a scan that begins anew is on the same range, with the same places
  tells_anew : (s : ScanState C V) (x : Stage C V) (o : ScanReport V) → Tells (anew root s).0 (m ∷ states) places x o → Tells s (m ∷ states) places x o
  tells_anew s x scan_report.Running e = e
  tells_anew s x _ e = e

  out_anew : (s : ScanState C V) (u : NextScan C V) → Out (anew root s).0 u → Out s u
  out_anew s u o = (o.0, o.1, tells_anew s u.0.stage u.1 o.2, record { start_is = o.3.start_is; last_is = o.3.last_is; size_is = o.3.size_is })

  begun_out : (s : ScanState C V) → s.start ≤ s.last → s.last < 2 ^ 64 → 0 < s.size → Out s (entered root (anew root s).0 root whole (version_of (h (number root))))
  begun_out s lt b room =
      let o : Out s (anew root s) = anew_out s lt b room in
      out_anew s (entered root (anew root s).0 root whole (version_of (h (number root)))) (entered_out (anew root s).0 root whole o.0 o.1)

  -- every step
  pub stepped_out : (s : ScanState C V) (x : Stage C V) (u : NextScan C V) → ScanKnownAt number always a h s x → TracksAt s states places x → ScanSteppedAt number always root s x h u → Out s u
  stepped_out s stage.New u k tr e =
      let o : Option ℕ = version_of (h (number root)) in
      let none : NextScan C V = over s (scan_report.Done 0) in
      let some : NextScan C V = entered root (anew root s).0 root whole o in
      out_as s (begins root s o) u e (on_test (s.size == 0)
      (λ y. out_as s none (begins root s o) (pick_true (s.size == 0) none some y) (nothing_out s (equal_of_test s.size 0 y)))
      (λ n. out_as s some (begins root s o) (pick_false (s.size == 0) none some n) (begun_out s (k.range (is_some s.size n)) k.bound (is_some s.size n))))
  stepped_out s (stage.Enter n x) u k tr e = out_as s (entered root s n x (version_of (h (number n)))) u e (entered_out s n x k (under_later s x x.base tr))
  stepped_out s (stage.Look r) u k tr e = out_as s (goes s s.above (stage.Check r e.0)) u e.2 ((way_at number a h s _ k.0, k.1, e.1.0, record { stamped = k.1.stamped; holds = e.1.1 }), aimed_at s _ r (aimed_later s r tr), tt, record { start_is = refl; last_is = refl; size_is = refl })
  stepped_out s (stage.Check r found) u k tr e = on_test (is_taken (h (number r.at.node)) r.at.version)
      (λ y. followed_out s r found u k.0 k.1 k.2 (taken_linked a h w (number r.at.node) r.at.version k.1.stamped.published y) (k.3.holds y) (aimed_later s r tr) (e.goes_on y))
      (λ n. out_as s (anew root s) u (e.goes_back n) (anew_out s k.0.range k.0.bound (let r = k.0.room in omega (arith, r))))
  stepped_out s stage.Full u k tr e = out_as s (over s (scan_report.Done s.count)) u e (tt, tt, (tr.counted, scan_full s.start (suc s.last) s.size tr.upto (m ∷ states) (take s.count places) (length-take-le s.count places tr.counted ∙ tr.all) (scan_later s.start (suc s.last) s.size tr.upto m states (take s.count places) tr.scanned_to), refl), record { start_is = refl; last_is = refl; size_is = refl })
  stepped_out s stage.Over u k tr e = out_as s (over s scan_report.Running) u e (tt, tt, tt, record { start_is = refl; last_is = refl; size_is = refl })
