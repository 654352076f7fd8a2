-- A step of a scan that is taken alone brings it nearer to its end.
use Rattle.std.proofs.Common.{◌≡◌, ℕ, zero, suc, ◌+◌, ◌*◌, ◌-◌, ◌<◌, ◌≤◌, ◌==◌, Bool, true, false, cond, List, [], ◌∷◌, ◌++◌, length, refl, sym, ◌∙◌, ap, subst, inl, inr, arith}
use Rattle.std.specs.Prelude.{Option, Some}
use Rattle.std.proofs.Math.Dec.{ltb}
use Rattle.std.proofs.lemmas.Bool.{cases_lt}
use Rattle.congee.specs.declared.protocol.store.Region.{Region}
use Rattle.congee.specs.declared.protocol.store.Least.{Least}
use Rattle.congee.specs.declared.protocol.store.Least.TheVariants as least
use Rattle.congee.specs.declared.protocol.scan.Rung.{Rung}
use Rattle.congee.specs.declared.protocol.scan.Stage.{Stage}
use Rattle.congee.specs.declared.protocol.scan.Stage.TheVariants as stage
use Rattle.congee.specs.declared.protocol.scan.ScanState.{ScanState}
use Rattle.congee.specs.declared.protocol.scan.ScanReport.TheVariants as scan_report
use Rattle.congee.specs.Heap.{Node, Hung, Nothing, Below, Holds, version_of, is_taken, is_free}
use Rattle.congee.specs.Notes.{Note, Linked, Tree, LockWords}
use Rattle.congee.specs.protocol.ScanEvents.{LeastTruly, IsAny}
use Rattle.congee.specs.protocol.ScanSteps.{whole, is_outside, first_byte, last_byte, rungs_of, pushed, popped, cleared, moved, scan_at, NextScan, goes, over, anew, left_to, left, entered, filled, IsFollowed, ScanSteppedAt}
use Rattle.congee.specs.protocol.ScanKnown.{ScanKnownAt}
use Rattle.congee.specs.protocol.Steps.{outcome_of}
use Rattle.congee.specs.protocol.Trace.{goes_on}
use Rattle.congee.specs.protocol.Alone.{stamps_rungs, stamps_scan, AreTaken, IsFreeAt, sum_from, nodes_at, pairs_at, nodes_under, pairs_under, steps_at, steps_under, steps_way, steps_found, steps_scan}
use Rattle.congee.proofs.lemmas.protocol.Touch.{by_test, taken_linked}
use Rattle.congee.proofs.lemmas.protocol.ScanBytes.{low_yes, low_no}
use Rattle.congee.proofs.lemmas.protocol.ScanWays.{path_pushed, path_empty, path_last, path_count}
use Rattle.congee.proofs.lemmas.protocol.AlonePoints.{version_free, taken_now}

module _ (g : ℕ → ℕ) where
  abbrev term : ℕ → ℕ → ℕ
  term from b = cond (ltb b from) 0 (g b)

  term_before : (from b : ℕ) → b < from → term from b ≡ 0
  term_before from b l = low_yes b from 0 (g b) l

  -- a byte that isn't before the first one counts in full
  pub term_past : (from b : ℕ) → from ≤ b → term from b ≡ g b
  term_past from b l = low_no b from 0 (g b) l

  -- from a later byte on, where those between have nothing
  sum_skip : (from to k : ℕ) → from ≤ to → ((q : ℕ) → from ≤ q → q < to → g q ≡ 0) → sum_from g from k ≡ sum_from g to k
  unfolding sum_from
  sum_skip from to zero l none = refl
  sum_skip from to (suc b) l none =
      let same = sum_skip from to b l none in
      let here : term from b ≡ term to b = elim (cases_lt b from) [
        | inl p ↦ term_before from b p ∙ sym (term_before to b (omega (arith, p, l)))
        | inr p ↦ elim (cases_lt b to) [
          | inl q ↦ term_past from b p ∙ (none b p q ∙ sym (term_before to b q))
          | inr q ↦ term_past from b p ∙ sym (term_past to b q)
        ]
      ] in
      cc

  -- none past the bound
  sum_none : (from k : ℕ) → k ≤ from → sum_from g from k ≡ 0
  unfolding sum_from
  sum_none from zero l = refl
  sum_none from (suc b) l = let s = sum_none from b (omega (arith, l)) in let t = term_before from b (omega (arith, l)) in omega (arith, s, t)

  -- the first of them, and the others
  sum_first : (b k : ℕ) → b < k → sum_from g b k ≡ g b + sum_from g (b + 1) k
  unfolding sum_from
  sum_first b zero l = absurd (omega (arith, l))
  sum_first b (suc c) l = elim (cases_lt b c) [
    | inl p ↦ (
        let s = sum_first b c p in
        let t = term_past b c (omega (arith, p)) in
        let u = term_past (b + 1) c (omega (arith, p)) in
        omega (arith, s, t, u))
    | inr p ↦ (
        let e : c ≡ b = omega (arith, l, p) in
        let s = sum_none b c (omega (arith, e)) in
        let r = sum_none (b + 1) c (omega (arith, e)) in
        let t = term_past b c (omega (arith, e)) in
        let u = term_before (b + 1) c (omega (arith, e)) in
        let v : g c ≡ g b = ap g e in
        omega (arith, s, t, u, r, v))
  ]

  -- from a byte on they are at most as many as from the first one on
  sum_less : (from k : ℕ) → sum_from g from k ≤ sum_from g 0 k
  unfolding sum_from
  sum_less from zero = omega arith
  sum_less from (suc b) =
      let s = sum_less from b in
      let z = term_past 0 b (omega arith) in
      elim (cases_lt b from) [
        | inl p ↦ (let t = term_before from b p in omega (arith, s, z, t))
        | inr p ↦ (let t = term_past from b p in omega (arith, s, z, t))
      ]

module _ {V : Type 0} (h : ℕ → Node V) where
  -- what a scan takes at least at a node that it looks at
  under_two : (f n from : ℕ) → 0 < f → 2 ≤ steps_under h f n from
  unfolding steps_under
  under_two zero n from l = absurd (omega (arith, l))
  under_two (suc f) n from l = omega arith

  under_less : (f n from : ℕ) → steps_under h f n from ≤ steps_under h f n 0
  unfolding steps_under
  under_less zero n from = omega arith
  under_less (suc f) n from = let s = sum_less (λ b. steps_at (λ c. steps_under h f c 0) ((h n).children b)) from 256 in omega (arith, s)

  -- where what hangs at a byte is the first from another one on
  at_first : (f n from byte : ℕ) (x : Hung V) → byte < 256 → from ≤ byte → (h n).children byte ≡ x → ((q : ℕ) → from ≤ q → q < byte → (h n).children q ≡ Nothing)
      → steps_under h (suc f) n from ≡ steps_at (λ c. steps_under h f c 0) x + steps_under h (suc f) n (byte + 1)
  unfolding steps_under
  at_first f n from byte x small l here none =
      let s = sum_skip (λ b. steps_at (λ c. steps_under h f c 0) ((h n).children b)) from byte 256 l (λ q lo hi. ap (steps_at (λ c. steps_under h f c 0)) (none q lo hi)) in
      let t = sum_first (λ b. steps_at (λ c. steps_under h f c 0) ((h n).children b)) byte 256 small in
      let e : steps_at (λ c. steps_under h f c 0) ((h n).children byte) ≡ steps_at (λ c. steps_under h f c 0) x = ap (steps_at (λ c. steps_under h f c 0)) here in
      omega (arith, s, t, e)

  -- from the byte of a node on, a scan takes three steps, those below the node, and those behind the byte
  pub at_node : (f n from byte c : ℕ) → 0 < f → byte < 256 → from ≤ byte → (h n).children byte ≡ Below c → ((q : ℕ) → from ≤ q → q < byte → (h n).children q ≡ Nothing)
      → steps_under h f n from ≡ 3 + steps_under h (f - 1) c 0 + steps_under h f n (byte + 1)
  at_node zero n from byte c p small l here none = absurd (omega (arith, p))
  at_node (suc f) n from byte c p small l here none =
      let e : suc f - 1 ≡ f = omega arith in
      let s = at_first f n from byte (Below c) small l here none in
      let t : steps_under h (suc f - 1) c 0 ≡ steps_under h f c 0 = ap (λ y. steps_under h y c 0) e in
      omega (arith, s, t)

  -- from the byte of a value on, a scan takes two steps, and those behind the byte
  pub at_value : (f n from byte : ℕ) (v : V) → 0 < f → byte < 256 → from ≤ byte → (h n).children byte ≡ Holds v → ((q : ℕ) → from ≤ q → q < byte → (h n).children q ≡ Nothing)
      → steps_under h f n from ≡ 2 + steps_under h f n (byte + 1)
  at_value zero n from byte v p small l here none = absurd (omega (arith, p))
  at_value (suc f) n from byte v p small l here none = at_first f n from byte (Holds v) small l here none

module _ {C V : Type 0} (number : C → ℕ) (h : ℕ → Node V) where
  -- a way that is longer by a node
  way_more : (f : ℕ) (rungs : List (Rung C)) (r : Rung C) → steps_way number h f (rungs ++ r ∷ []) ≡ steps_way number h f rungs + steps_under h (f - length rungs) (number r.at.node) r.from
  way_more f [] r = let e : f - 0 ≡ f = omega arith in let t : steps_under h (f - 0) (number r.at.node) r.from ≡ steps_under h f (number r.at.node) r.from = ap (λ y. steps_under h y (number r.at.node) r.from) e in omega (arith, t)
  way_more f (q ∷ rest) r =
      let s = way_more (f - 1) rest r in
      let e : f - 1 - length rest ≡ f - length (q ∷ rest) = omega arith in
      let t : steps_under h (f - 1 - length rest) (number r.at.node) r.from ≡ steps_under h (f - length (q ∷ rest)) (number r.at.node) r.from = ap (λ y. steps_under h y (number r.at.node) r.from) e in
      omega (arith, s, t)

  taken_more : (rungs : List (Rung C)) (r : Rung C) → AreTaken number h (stamps_rungs rungs) → is_taken (h (number r.at.node)) r.at.version ≡ true → AreTaken number h (stamps_rungs (rungs ++ r ∷ []))
  taken_more [] r t e = (e, tt)
  taken_more (q ∷ rest) r t e = (t.0, taken_more rest r t.1 e)

  taken_fewer : (rungs : List (Rung C)) (r : Rung C) → AreTaken number h (stamps_rungs (rungs ++ r ∷ [])) → AreTaken number h (r.at ∷ stamps_rungs rungs)
  taken_fewer [] r t = (t.0, tt)
  taken_fewer (q ∷ rest) r t = let u = taken_fewer rest r t.1 in (u.0, (t.0, u.1))

  module _ (n : ℕ) where
    -- a scan that has fewer than n steps left, and tells its end
    abbrev NearScan : NextScan C V → Type 0
    NearScan u = (AreTaken number h (stamps_scan u.0 u.0.stage) × IsFreeAt number h u.0.stage) × (steps_scan number h u.0 u.0.stage < n) × (u.0.stage ≡ stage.Over → goes_on (outcome_of u.1) ≡ false)

    scan_to : (x y : NextScan C V) → y ≡ x → NearScan x → NearScan y
    scan_to x y p f = subst NearScan (sym p) f

    lefts : (s : ScanState C V) → s.above.len ≤ 8 → AreTaken number h (stamps_rungs (rungs_of s.above)) → steps_way number h 8 (rungs_of s.above) < n → NearScan (left s)
    lefts s fits t l = elim (path_last s.above fits) [
      | inl e ↦ scan_to (over s (scan_report.Done s.count)) (left s) (ap (left_to s) e.0) ((tt, tt), omega (arith, l), λ _. refl)
      | inr e ↦ (
          let r : Rung C = e.0 in
          let T : List (Rung C) → Type 0 = λ xs. AreTaken number h (stamps_rungs xs) in
          let W : List (Rung C) → Type 0 = λ xs. steps_way number h 8 xs < n in
          let w = subst W e.2 l in
          let more = way_more 8 (rungs_of (popped s.above)) r in
          let counts = path_count (popped s.above) (omega (arith, fits)) in
          let c : 8 - length (rungs_of (popped s.above)) ≡ 8 - (popped s.above).len = ap (λ y. 8 - y) counts in
          let u : steps_under h (8 - length (rungs_of (popped s.above))) (number r.at.node) r.from ≡ steps_under h (8 - (popped s.above).len) (number r.at.node) r.from = ap (λ y. steps_under h y (number r.at.node) r.from) c in
          scan_to (goes s (popped s.above) (stage.Look r)) (left s) (ap (left_to s) e.1) ((taken_fewer (rungs_of (popped s.above)) r (subst T e.2 t), tt), omega (arith, w, more, u), λ q. absurd (cc q)))
    ]

    enters : (root : C) (s : ScanState C V) (c : C) (x : Region) → is_free (h (number c)) ≡ true → s.above.len ≤ 8 → AreTaken number h (stamps_rungs (rungs_of s.above))
        → steps_under h (8 - s.above.len) (number c) 0 + steps_way number h 8 (rungs_of s.above) < n → NearScan (entered root s c x (version_of (h (number c))))
    enters root s c x free fits t l =
        scan_to (entered root s c x (Some (h (number c)).version)) (entered root s c x (version_of (h (number c)))) (ap (entered root s c x) (version_free (h (number c)) free))
        (by_test (λ (z : NextScan C V). NearScan z) (is_outside s.start s.last x) _ _ (λ _. lefts s fits t (omega (arith, l)))
        (λ _. (((taken_now (h (number c)) free, t), tt), (let u = under_less h (8 - s.above.len) (number c) (first_byte s.start x) in omega (arith, l, u)), λ q. absurd (cc q))))

    fills : (s : ScanState C V) (r : Rung C) (byte : ℕ) (v : V) → is_taken (h (number r.at.node)) r.at.version ≡ true → AreTaken number h (stamps_rungs (rungs_of s.above)) → 1 < n
        → steps_under h (8 - s.above.len) (number r.at.node) (byte + 1) + steps_way number h 8 (rungs_of s.above) < n → NearScan (filled s r byte v)
    fills s r byte v taken t one l = by_test (λ (z : Stage C V). NearScan (scan_at s (s.count + 1) s.above z, scan_report.Found s.count (r.region.base + byte) v)) (s.count + 1 == s.size) _ _ (λ _. ((tt, tt), one, λ q. absurd (cc q))) (λ _. (((taken, t), tt), l, λ q. absurd (cc q)))

module _ {C V : Type 0} (number : C → ℕ) (always : Bool) (a : ℕ → Note) (h : ℕ → Node V) (tr : Tree a h) (w : LockWords a h) (root : C) (z : number root ≡ 0)
    (free : (n : ℕ) → (a n).status ≡ Linked → is_free (h n) ≡ true) where
  found_fewer : (f : ℕ) (r : Rung C) (x : Least C V) (last : ℕ) → 0 < f → IsAny always x → LeastTruly number (h (number r.at.node)) r.from last x → steps_found number h f r x < steps_under h f (number r.at.node) r.from
  found_fewer f r least.Nothing last p any truly = let t = under_two h f (number r.at.node) r.from p in omega (arith, t)
  found_fewer f r (least.Node byte c) last p any truly = let t = at_node h f (number r.at.node) r.from byte (number c) p any truly.past truly.here truly.before in omega (arith, t)
  found_fewer f r (least.Value byte v) last p any truly = let t = at_value h f (number r.at.node) r.from byte v p any truly.past truly.here truly.before in omega (arith, t)
  found_fewer f r least.Uncopied last p any truly = let t = under_two h f (number r.at.node) r.from p in omega (arith, t)

  follows : (s : ScanState C V) (r : Rung C) (x : Least C V) (u : NextScan C V) → s.above.len < 8 → AreTaken number h (r.at ∷ stamps_rungs (rungs_of s.above)) → (a (number r.at.node)).status ≡ Linked
      → LeastTruly number (h (number r.at.node)) r.from (last_byte s.last r.region) x → IsFollowed number h s r x u → NearScan number h (steps_found number h (8 - s.above.len) r x + steps_way number h 8 (rungs_of s.above)) u
  follows s r least.Nothing u short t l truly e = scan_to number h _ _ u e (lefts number h _ s (omega (arith, short)) t.1 (omega arith))
  follows s r (least.Node byte c) u short t l truly e =
      let path : rungs_of (pushed s.above (moved r byte)) ≡ rungs_of s.above ++ moved r byte ∷ [] = path_pushed s.above (moved r byte) short in
      let T : List (Rung C) → Type 0 = λ xs. AreTaken number h (stamps_rungs xs) in
      let more = way_more number h 8 (rungs_of s.above) (moved r byte) in
      let counts = path_count s.above (omega (arith, short)) in
      let way : steps_way number h 8 (rungs_of (pushed s.above (moved r byte))) ≡ steps_way number h 8 (rungs_of s.above ++ moved r byte ∷ []) = ap (steps_way number h 8) path in
      let here : steps_under h (8 - length (rungs_of s.above)) (number r.at.node) (byte + 1) ≡ steps_under h (8 - s.above.len) (number r.at.node) (byte + 1) = ap (λ y. steps_under h (8 - y) (number r.at.node) (byte + 1)) counts in
      let e1 : 8 - (s.above.len + 1) ≡ 8 - s.above.len - 1 = omega (arith, short) in
      let below : steps_under h (8 - (s.above.len + 1)) (number c) 0 ≡ steps_under h (8 - s.above.len - 1) (number c) 0 = ap (λ y. steps_under h y (number c) 0) e1 in
      scan_to number h _ (goes s (pushed s.above (moved r byte)) (stage.Enter c e.0)) u e.2 (
        (subst T (sym path) (taken_more number h (rungs_of s.above) (moved r byte) t.1 t.0), free (number c) (tr.down (number r.at.node) byte (number c) l truly.here).linked),
        omega (arith, more, way, here, below),
        (λ q. absurd (cc q)),
      )
  follows s r (least.Value byte v) u short t l truly e =
      let two = under_two h (8 - s.above.len) (number r.at.node) (byte + 1) (omega (arith, short)) in
      scan_to number h _ _ u e (fills number h _ s r byte v t.0 t.1 (omega (arith, two)) (omega arith))
  follows s r least.Uncopied u short t l truly e = scan_to number h _ _ u e ((tt, tt), omega arith, λ _. refl)

  -- a scan that nobody disturbs has fewer steps left after a step, and tells its end
  pub scans_on : (s : ScanState C V) (x : Stage C V) (u : NextScan C V) → ScanKnownAt number always a h s x → AreTaken number h (stamps_scan s x) → IsFreeAt number h x → (x ≡ stage.Over → ⊥) → ScanSteppedAt number always root s x h u
      → NearScan number h (steps_scan number h s x) u
  scans_on s stage.New u k t f ne e =
      let o : Option ℕ = version_of (h (number root)) in
      let cl : ScanState C V = (anew root s).0 in
      let T : List (Rung C) → Type 0 = λ xs. AreTaken number h (stamps_rungs xs) in
      let none : steps_way number h 8 (rungs_of (cleared s.above)) ≡ 0 = ap (steps_way number h 8) (path_empty s.above) in
      let top : steps_under h 8 (number root) 0 ≡ steps_under h 8 0 0 = ap (λ y. steps_under h 8 y 0) z in
      let at_root : (a (number root)).status ≡ Linked = (let P : ℕ → Type 0 = λ y. (a y).status ≡ Linked in subst P (sym z) tr.root) in
      scan_to number h _ _ u e (by_test (λ (y : NextScan C V). NearScan number h (1 + steps_under h 8 0 0) y) (s.size == 0) _ _ (λ _. ((tt, tt), omega arith, λ _. refl))
      (λ _. enters number h _ root cl root whole (free (number root) at_root) (omega arith) (subst T (sym (path_empty s.above)) tt) (omega (arith, none, top))))
  scans_on s (stage.Enter n x) u k t f ne e = scan_to number h _ _ u e (enters number h _ root s n x f k.0.fits t (omega arith))
  scans_on s (stage.Look r) u k t f ne e =
      let short : s.above.len < 8 = (let d = k.1.deep in let sh = k.1.region.short in omega (arith, d, sh)) in
      scan_to number h _ (goes s s.above (stage.Check r e.0)) u e.2 ((t, tt), (let x = found_fewer (8 - s.above.len) r e.0 (last_byte s.last r.region) (omega (arith, short)) e.1.0 (e.1.1 t.0) in omega (arith, x)), λ q. absurd (cc q))
  scans_on s (stage.Check r x) u k t f ne e =
      let short : s.above.len < 8 = (let d = k.1.deep in let sh = k.1.region.short in omega (arith, d, sh)) in
      follows s r x u short t (taken_linked a h w (number r.at.node) r.at.version k.1.stamped.published t.0) (k.3.holds t.0) (e.goes_on t.0)
  scans_on s stage.Full u k t f ne e = scan_to number h _ _ u e ((tt, tt), omega arith, λ _. refl)
  scans_on s stage.Over u k t f ne e = absurd (ne refl)

-- five steps at most for each node and two for each pair, three fewer at the root
sum_counts : (g p q : ℕ → ℕ) (k : ℕ) → ((b : ℕ) → g b ≡ 5 * p b + 2 * q b) → sum_from g 0 k ≡ 5 * sum_from p 0 k + 2 * sum_from q 0 k
unfolding sum_from
sum_counts g p q zero each = omega arith
sum_counts g p q (suc b) each =
    let s = sum_counts g p q b each in
    let e = each b in
    let x = term_past g 0 b (omega arith) in
    let y = term_past p 0 b (omega arith) in
    let z = term_past q 0 b (omega arith) in
    omega (arith, s, e, x, y, z)

hung_counts : {V : Type 0} (a : ℕ → Note) (h : ℕ → Node V) → Tree a h → (f n : ℕ) → (a n).status ≡ Linked
    → ((c : ℕ) → (a c).status ≡ Linked → length (h n).prefix < length (h c).prefix → steps_under h f c 0 + 3 ≡ 5 * nodes_under h f c + 2 * pairs_under h f c)
    → (b : ℕ) (x : Hung V) → (h n).children b ≡ x → steps_at (λ c. steps_under h f c 0) x ≡ 5 * nodes_at (λ c. nodes_under h f c) x + 2 * pairs_at (λ c. pairs_under h f c) x
hung_counts a h tr f n l below b Nothing e = refl
hung_counts a h tr f n l below b (Below c) e = let i = tr.down n b c l e in let s = below c i.linked i.longer in omega (arith, s)
hung_counts a h tr f n l below b (Holds v) e = refl

module _ {V : Type 0} (a : ℕ → Note) (h : ℕ → Node V) (tr : Tree a h) where
  -- below a node of the tree a scan takes five steps a node and two a pair, less three
  pub under_counts : (f n : ℕ) → (a n).status ≡ Linked → 8 ≤ f + length (h n).prefix → steps_under h f n 0 + 3 ≡ 5 * nodes_under h f n + 2 * pairs_under h f n
  unfolding steps_under nodes_under pairs_under
  under_counts zero n l deep = absurd (let s = tr.short n l in omega (arith, s, deep))
  under_counts (suc f) n l deep =
      let below : (c : ℕ) → (a c).status ≡ Linked → length (h n).prefix < length (h c).prefix → steps_under h f c 0 + 3 ≡ 5 * nodes_under h f c + 2 * pairs_under h f c = λ c q longer. under_counts f c q (omega (arith, longer, deep)) in
      let s = sum_counts (λ b. steps_at (λ c. steps_under h f c 0) ((h n).children b)) (λ b. nodes_at (λ c. nodes_under h f c) ((h n).children b)) (λ b. pairs_at (λ c. pairs_under h f c) ((h n).children b)) 256 (λ b. hung_counts a h tr f n l below b ((h n).children b) refl) in
      omega (arith, s)
