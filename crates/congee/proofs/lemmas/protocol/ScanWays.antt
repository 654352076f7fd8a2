-- The way of a scan, longer or shorter by a node.
use Rattle.std.proofs.Common.{◌≡◌, ℕ, zero, suc, ◌<◌, ◌≤◌, ◌+◌, ◌-◌, ◌⊎◌, inl, inr, ◌==◌, Bool, true, false, cond, List, [], ◌∷◌, ◌++◌, length, take, set, refl, sym, ap, ◌∙◌, subst, arith}
use Rattle.std.specs.Prelude.{None, Some, slice_get}
use Rattle.std.specs.Ordering.{nat_cmp}
use Rattle.std.specs.FinMap.{FinMap}
use Rattle.std.proofs.lemmas.Grind.{take-set_at}
use Rattle.std.proofs.lemmas.List.{length-take-le}
use Rattle.congee.specs.declared.protocol.store.Region.{Region}
use Rattle.congee.specs.declared.protocol.scan.Rung.{Rung}
use Rattle.congee.specs.declared.protocol.scan.Path.{Path}
use Rattle.congee.specs.Heap.{Node}
use Rattle.congee.specs.Notes.{Note}
use Rattle.congee.specs.protocol.ScanSteps.{slots, put_rung, rungs_of, pushed, popped, cleared, last_of, scan_at}
use Rattle.congee.specs.protocol.ScanKnown.{RungKnown, RungsKnown, Gap, Gaps, IsWay, WayKnown}
use Rattle.congee.specs.declared.protocol.scan.ScanState.{ScanState}
use Rattle.congee.specs.declared.protocol.scan.Stage.{Stage}
use Rattle.congee.proofs.lemmas.Fits.{other_test}

take_last : {A : Type 0} (xs : List A) (j : ℕ) → j < length xs → (x : A) × (slice_get xs j ≡ Some x) × (take (suc j) xs ≡ take j xs ++ x ∷ [])
take_last [] j l = absurd (omega (arith, l))
take_last (x ∷ xs) zero l = (x, refl, refl)
take_last (x ∷ xs) (suc j) l = let h = take_last xs j (omega (arith, l)) in (h.0, h.1, ap (λ t. x ∷ t) h.2)

take_zero : {A : Type 0} (xs : List A) → take 0 xs ≡ []
take_zero [] = refl
take_zero (x ∷ xs) = refl

-- a test that is false picks the second
pub pick_false : {A : Type 0} (b : Bool) (x y : A) → b ≡ false → cond b x y ≡ y
pick_false true x y e = absurd cc
pick_false false x y e = refl

-- a test that is true picks the first
pub pick_true : {A : Type 0} (b : Bool) (x y : A) → b ≡ true → cond b x y ≡ x
pick_true true x y e = refl
pick_true false x y e = absurd cc

module _ {C : Type 0} where
  -- a node that is put in one of the eight places is set there in the list of them
  pub put_slots : (i : ℕ) (r : Rung C) (p : Path C) → i < 8 → slots (put_rung i r p) ≡ set (slots p) i r
  put_slots zero r p l = refl
  put_slots (suc zero) r p l = refl
  put_slots (suc (suc zero)) r p l = refl
  put_slots (suc (suc (suc zero))) r p l = refl
  put_slots (suc (suc (suc (suc zero)))) r p l = refl
  put_slots (suc (suc (suc (suc (suc zero))))) r p l = refl
  put_slots (suc (suc (suc (suc (suc (suc zero)))))) r p l = refl
  put_slots (suc (suc (suc (suc (suc (suc (suc zero))))))) r p l = refl
  put_slots (suc (suc (suc (suc (suc (suc (suc (suc i)))))))) r p l = absurd (omega (arith, l))

  -- a way with a node more has that node last
  pub path_pushed : (p : Path C) (r : Rung C) → p.len < 8 → rungs_of (pushed p r) ≡ rungs_of p ++ r ∷ []
  path_pushed p r l = ap (λ xs. take (p.len + 1) xs) (put_slots p.len r p l) ∙ take-set_at (slots p) p.len (p.len + 1) r refl l

  -- a cleared way has no nodes
  pub path_empty : (p : Path C) → rungs_of (cleared p) ≡ []
  path_empty p = take_zero (slots p)

  -- the last node above, or none
  pub path_last : (p : Path C) → p.len ≤ 8
      → ((last_of p ≡ None) × (rungs_of p ≡ [])) ⊎ ((r : Rung C) × (last_of p ≡ Some r) × (rungs_of p ≡ rungs_of (popped p) ++ r ∷ []) × (0 < p.len))
  path_last p l = of (slots p) p.len l
    where
      of : (xs : List (Rung C)) (n : ℕ) → n ≤ length xs → ((cond (n == 0) None (slice_get xs (n - 1)) ≡ None) × (take n xs ≡ []))
          ⊎ ((r : Rung C) × (cond (n == 0) None (slice_get xs (n - 1)) ≡ Some r) × (take n xs ≡ take (n - 1) xs ++ r ∷ []) × (0 < n))
      of xs zero l = inl (refl, take_zero xs)
      of xs (suc n) l = let h = take_last xs n (omega (arith, l)) in
          let e : suc n - 1 ≡ n = omega arith in
          let f : (suc n == 0) ≡ false = other_test (suc n) 0 (λ q. absurd (let z : suc n ≡ 0 = q in omega (arith, z))) in
          inr (h.0, pick_false (suc n == 0) None (slice_get xs (suc n - 1)) f ∙ ap (slice_get xs) e ∙ h.1, h.2 ∙ ap (λ m. take m xs ++ h.0 ∷ []) (sym e), omega arith)

  -- a way has as many nodes as its length says
  pub path_count : (p : Path C) → p.len ≤ 8 → length (rungs_of p) ≡ p.len
  path_count p l = length-take-le p.len (slots p) l

module _ {C V : Type 0} (start end : ℕ) where
  -- with one map more
  gap_later : (m : FinMap nat_cmp V) (states : List (FinMap nat_cmp V)) (r : Rung C) (x : Region) → Gap start end states r x → Gap start end (m ∷ states) r x
  gap_later m states r x g = record { inside = g.inside; aim = g.aim; lacked = λ k lo hi a b. inr (g.lacked k lo hi a b) }

  leads_later : (m : FinMap nat_cmp V) (states : List (FinMap nat_cmp V)) (r : Rung C) (rest : List (Rung C)) (x : Region) → Gaps start end states r rest x → Gaps start end (m ∷ states) r rest x
  leads_later m states r [] x g = gap_later m states r x g
  leads_later m states r (q ∷ rest) x g = (gap_later m states r q.region g.0, leads_later m states q rest x g.1)

  -- a way stays one where one more map was seen
  pub way_later : (m : FinMap nat_cmp V) (states : List (FinMap nat_cmp V)) (rungs : List (Rung C)) (x : Region) → IsWay start end states rungs x → IsWay start end (m ∷ states) rungs x
  way_later m states [] x w = w
  way_later m states (r ∷ rest) x w = (w.0, leads_later m states r rest x w.1)

  -- one node longer, or shorter
  leads_longer : (states : List (FinMap nat_cmp V)) (q : Rung C) (rest : List (Rung C)) (r : Rung C) (x : Region) → Gaps start end states q rest r.region → Gap start end states r x → Gaps start end states q (rest ++ r ∷ []) x
  leads_longer states q [] r x l g = (l, g)
  leads_longer states q (y ∷ rest) r x l g = (l.0, leads_longer states y rest r x l.1 g)

  -- a way with a node more at its end is one, where the keys between were lacking in some map
  pub way_longer : (states : List (FinMap nat_cmp V)) (rungs : List (Rung C)) (r : Rung C) (x : Region) → IsWay start end states rungs r.region → Gap start end states r x → IsWay start end states (rungs ++ r ∷ []) x
  way_longer states [] r x w g = (w, g)
  way_longer states (q ∷ rest) r x w g = (w.0, leads_longer states q rest r x w.1 g)

  leads_shorter : (states : List (FinMap nat_cmp V)) (q : Rung C) (rest : List (Rung C)) (r : Rung C) (x : Region) → Gaps start end states q (rest ++ r ∷ []) x → Gaps start end states q rest r.region × Gap start end states r x
  leads_shorter states q [] r x l = (l.0, l.1)
  leads_shorter states q (y ∷ rest) r x l = let h = leads_shorter states y rest r x l.1 in ((l.0, h.0), h.1)

  -- a way without its last node is one, and the keys between were lacking in some map
  pub way_shorter : (states : List (FinMap nat_cmp V)) (rungs : List (Rung C)) (r : Rung C) (x : Region) → IsWay start end states (rungs ++ r ∷ []) x → IsWay start end states rungs r.region × Gap start end states r x
  way_shorter states [] r x w = (w.0, w.1)
  way_shorter states (q ∷ rest) r x w = let h = leads_shorter states q rest r x w.1 in ((w.0, h.0), h.1)

module _ {C V : Type 0} (number : C → ℕ) (a : ℕ → Note) (h : ℕ → Node V) (end : ℕ) where
  -- the nodes of a way with a known one more at its end are known
  pub rungs_longer : (above : ℕ) (rungs : List (Rung C)) (r : Rung C) → RungsKnown number a h end above rungs → RungKnown number a h end (above + length rungs) r → RungsKnown number a h end above (rungs ++ r ∷ [])
  rungs_longer above [] r k g = (let e : above + 0 ≡ above = omega arith in subst (λ n. RungKnown number a h end n r) e g, tt)
  rungs_longer above (q ∷ rest) r k g = (k.0, rungs_longer (suc above) rest r k.1 (let e : above + length (q ∷ rest) ≡ suc above + length rest = omega arith in subst (λ n. RungKnown number a h end n r) e g))

  -- the nodes of a way without its last one are known, and so is that one
  pub rungs_shorter : (above : ℕ) (rungs : List (Rung C)) (r : Rung C) → RungsKnown number a h end above (rungs ++ r ∷ []) → RungsKnown number a h end above rungs × RungKnown number a h end (above + length rungs) r
  rungs_shorter above [] r k = (tt, (let e : above ≡ above + 0 = omega arith in subst (λ n. RungKnown number a h end n r) e k.0))
  rungs_shorter above (q ∷ rest) r k = let g = rungs_shorter (suc above) rest r k.1 in ((k.0, g.0), (let e : suc above + length rest ≡ above + length (q ∷ rest) = omega arith in subst (λ n. RungKnown number a h end n r) e g.1))

-- what is known of a scan's way says nothing of its next stage
pub way_at : {C V : Type 0} (number : C → ℕ) (a : ℕ → Note) (h : ℕ → Node V) (s : ScanState C V) (x : Stage C V) → WayKnown number a h s → WayKnown number a h (scan_at s s.count s.above x)
way_at number a h s x k = record { range = k.range; bound = k.bound; room = k.room; fits = k.fits; rungs = k.rungs }
