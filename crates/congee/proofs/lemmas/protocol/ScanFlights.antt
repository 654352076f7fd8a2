-- How calls are watched, one by one, and a scan's step beside the map.
use Rattle.std.proofs.Common.{◌≡◌, ℕ, zero, suc, ◌≤◌, inl, inr, Bool, true, false, List, [], ◌∷◌, length, map, refl, sym, ap, subst, arith}
use Rattle.std.proofs.Math.ListN.{set}
use Rattle.std.specs.Prelude.{Option, None, Some, slice_get}
use Rattle.judge.specs.Answer.{Pairs}
use Rattle.congee.specs.declared.protocol.phase.Kind.{Kind}
use Rattle.congee.specs.declared.protocol.phase.Phase.{Phase}
use Rattle.congee.specs.declared.protocol.phase.Phase.TheVariants.{New, Scan}
use Rattle.congee.specs.declared.protocol.machine.Outcome.{Outcome}
use Rattle.congee.specs.declared.protocol.machine.Outcome.TheVariants.{Running, Asks, Found, Done, Scanned, Refused}
use Rattle.congee.specs.declared.protocol.machine.Move.{Move}
use Rattle.congee.specs.declared.protocol.machine.Machine.{Machine}
use Rattle.congee.specs.declared.protocol.scan.ScanState.{ScanState as ScanState}
use Rattle.congee.specs.declared.protocol.scan.Stage.{Stage}
use Rattle.congee.specs.declared.protocol.scan.Stage.TheVariants as stage
use Rattle.congee.specs.declared.protocol.scan.ScanReport.{ScanReport}
use Rattle.congee.specs.declared.protocol.scan.ScanReport.TheVariants as scan_report
use Rattle.congee.specs.Heap.{Node}
use Rattle.congee.specs.Keys.{IsMapOf}
use Rattle.congee.specs.Notes.{Note, Tree, LockWords}
use Rattle.congee.specs.protocol.Steps.{outcome_of}
use Rattle.congee.specs.protocol.ScanSteps.{NextScan, over, ScanSteppedAt, ScanStepped}
use Rattle.congee.specs.protocol.ScanKnown.{ScanKnown, TracksAt, Tracks, placed, Tells, SameCall}
use Rattle.congee.specs.protocol.Play.{Question, Flight, Pending, Decided, Over, Unbegun, Scanning, Concludes, PendingMoves, ScanTells, Watched, IsOfPoint, IsNew, IsBegin, flight, flight_in, ScanFollows, Follows, Following}
use Rattle.congee.proofs.lemmas.protocol.ScanSettles.{Out, stepped_out}

module _ {V : Type 0} (same : V → V → Bool) where
  of_point : (f g : Flight V) → f ≡ g → IsOfPoint g → IsOfPoint f
  of_point f g e p = subst IsOfPoint (sym e) p

  concludes_point : (r : _) (o : Outcome V) (f : Flight V) → Concludes r o f → IsOfPoint f
  concludes_point r Running f c = of_point f (Decided r) c tt
  concludes_point r (Done s) f c = of_point f Over c.1 tt
  concludes_point r _ f c = absurd c

  pending_point : (k : ℕ) (kind : Kind V) (v : Option V) (q : Question V) (m : Pairs V) (b : Bool) (o : Outcome V) (f : Flight V) (m' : Pairs V) → PendingMoves same k kind v q m b o f m' → IsOfPoint f
  pending_point k kind v q m true o f m' g = concludes_point g.1 o f g.5
  pending_point k kind v q m false Running f m' g = of_point f (Pending k kind v g.0.0) g.0.2 tt
  pending_point k kind v q m false (Asks o) f m' g = of_point f _ g.0.1 tt
  pending_point k kind v q m false (Done r) f m' g = absurd g.0
  pending_point k kind v q m false (Refused e) f m' g = of_point f Over g.0 tt
  pending_point k kind v q m false (Found place key x) f m' g = absurd g.0
  pending_point k kind v q m false (Scanned count) f m' g = absurd g.0

  -- a point call stays one
  pub point_stays : (f : Flight V) (m : Pairs V) (answer : Option (Option V)) (d : Move V) (f' : Flight V) (m' : Pairs V) → IsOfPoint f → Watched same f m answer d f' m' → IsOfPoint f'
  point_stays (Pending k kind v q) m answer d f' m' p w = pending_point k kind _ _ m d.decided d.outcome f' m' w
  point_stays (Decided r) m answer d f' m' p w = concludes_point r d.outcome f' w.1
  point_stays Over m answer d f' m' p w = of_point f' Over w.1 tt
  point_stays (Unbegun start end size) m answer d f' m' p w = absurd p
  point_stays (Scanning start end size states places) m answer d f' m' p w = absurd p

-- calls and how they are watched, one beside the other
module _ {C V : Type 0} where
  -- each call has its watch at the same place
  pub follow_at : (ms : List (Machine C V)) (fs : List (Flight V)) (i : ℕ) (m : Machine C V) → Following ms fs → slice_get ms i ≡ Some m → (f : Flight V) × (slice_get fs i ≡ Some f) × Follows m f
  follow_at [] fs i m w e = absurd cc
  follow_at (x ∷ ms) [] i m w e = absurd w
  follow_at (x ∷ ms) (f ∷ fs) zero m w e = (f, refl, (let z : Some x ≡ Some m = e in let y : x ≡ m = cc in subst (λ n. Follows n f) y w.0))
  follow_at (x ∷ ms) (f ∷ fs) (suc i) m w e = follow_at ms fs i m w.1 e

  -- where no call is, there is no watch
  pub follow_none : (ms : List (Machine C V)) (fs : List (Flight V)) (i : ℕ) → Following ms fs → length ms ≤ i → slice_get fs i ≡ None
  follow_none [] [] i w l = refl
  follow_none [] (f ∷ fs) i w l = absurd w
  follow_none (x ∷ ms) [] i w l = absurd w
  follow_none (x ∷ ms) (f ∷ fs) zero w l = absurd (omega (arith, l))
  follow_none (x ∷ ms) (f ∷ fs) (suc i) w l = follow_none ms fs i w.1 (omega (arith, l))

  -- where a call and its watch are set at one place, each call still has its watch
  pub follow_set : (ms : List (Machine C V)) (fs : List (Flight V)) (i : ℕ) (m : Machine C V) (f : Flight V) → Following ms fs → Follows m f → Following (set ms i m) (set fs i f)
  follow_set [] [] i m f w g = tt
  follow_set [] (y ∷ fs) i m f w g = absurd w
  follow_set (x ∷ ms) [] i m f w g = absurd w
  follow_set (x ∷ ms) (y ∷ fs) zero m f w g = (g, w.1)
  follow_set (x ∷ ms) (y ∷ fs) (suc i) m f w g = (w.0, follow_set ms fs i m f w.1 g)

  begin_point : (k : ℕ) (kind : Kind V) (given : Option V) (x : Phase C V) (m : Machine C V) → m.phase ≡ x → m.key ≡ k → m.kind ≡ kind → m.given ≡ given → IsBegin kind given x → Follows m (flight_in k kind given x)
  begin_point k kind given New m e a b c n = inl (tt, rw (e, a, b, c) refl)
  begin_point k kind given (Scan s) m e a b c n = inr (s, e, inl (refl, n.0))
  begin_point k kind given _ m e a b c n = absurd n

  -- calls that have not begun are watched as such
  pub follow_new : (ms : List (Machine C V)) → ((i : ℕ) (m : Machine C V) → slice_get ms i ≡ Some m → IsNew m) → Following ms (map flight ms)
  follow_new [] n = tt
  follow_new (m ∷ ms) n = (begin_point m.key m.kind m.given m.phase m refl refl refl refl (n 0 m refl).begins, follow_new ms (λ i x e. n (suc i) x e))

module _ {C V : Type 0} (number : C → ℕ) (same : V → V → Bool) (always : Bool) (a : ℕ → Note) (h : ℕ → Node V) (t : Tree a h) (w : LockWords a h) (m : Pairs V) (st : IsMapOf h m)
    (root : C) (z : number root ≡ 0) (answer : Option (Option V)) where
  abbrev Watches : ScanState C V → Flight V → ScanState C V → ScanReport V → Type 0
  Watches s f s' o = (f' : Flight V) × Watched same f m answer (record { decided = false; skipped = false; outcome = outcome_of o }) f' m × ScanFollows s' f'

  -- a scan under way
  tells : (s s' : ScanState C V) (states : List (Pairs V)) (places : List (ℕ × V)) (o : ScanReport V) → Tracks s' (m ∷ states) (placed places o) → Tells s (m ∷ states) places s'.stage o → SameCall s s'
      → (f' : Flight V) × ScanTells s.start (suc s.last) s.size (m ∷ states) places (outcome_of o) f' × ScanFollows s' f'
  tells s s' states places scan_report.Running tr te sc = (Scanning s.start (suc s.last) s.size (m ∷ states) places, refl, inr (inr (m ∷ states, places, rw (sc.start_is, sc.last_is, sc.size_is) refl, tr)))
  tells s s' states places (scan_report.Found place k v) tr te sc =
      (Scanning s.start (suc s.last) s.size (m ∷ states) (placed places (scan_report.Found place k v)), (te, refl), inr (inr (m ∷ states, placed places (scan_report.Found place k v), rw (sc.start_is, sc.last_is, sc.size_is) refl, tr)))
  tells s s' states places (scan_report.Done count) tr te sc = (Over, (te.0, te.1, refl), inr (inl (refl, te.2)))
  tells s s' states places (scan_report.Refused e) tr te sc = (Over, refl, inr (inl (refl, te)))

  -- every step of a scan
  pub scan_watched : (s s' : ScanState C V) (o : ScanReport V) (f : Flight V) → ScanFollows s f → ScanKnown number always a h s → ScanStepped number always root s h s' o → Watches s f s' o
  scan_watched s s' o f (inl e) k g =
      let tr : Tracks s [] [] = (let P : Stage C V → Type 0 = λ x. TracksAt s [] [] x in subst P (sym e.1) tt) in
      let out : Out number always a h t w m st [] [] root z s (s', o) = stepped_out number always a h t w m st [] [] root z s s.stage (s', o) k tr g in
      let y = tells s s' [] [] o out.1 out.2 out.3 in
      (y.0, subst (λ x. Watched same x m answer (record { decided = false; skipped = false; outcome = outcome_of o }) y.0 m) (sym e.0) (refl, y.1, refl), y.2)
  scan_watched s s' o f (inr (inl e)) k g =
      let P : Stage C V → Type 0 = λ x. ScanSteppedAt number always root s x h (s', o) in
      let q : (s', o) ≡ over s scan_report.Running = subst P e.1 g in
      let is : o ≡ scan_report.Running = ap (λ (u : NextScan C V). u.1) q in
      let rests : s'.stage ≡ stage.Over = ap (λ (u : NextScan C V). u.0.stage) q in
      (Over, subst (λ x. Watched same x m answer (record { decided = false; skipped = false; outcome = outcome_of o }) Over m) (sym e.0) (ap (λ y. record { decided = false; skipped = false; outcome = outcome_of y }) is, refl, refl), inr (inl (refl, rests)))
  scan_watched s s' o f (inr (inr e)) k g =
      let out : Out number always a h t w m st e.0 e.1 root z s (s', o) = stepped_out number always a h t w m st e.0 e.1 root z s s.stage (s', o) k e.3 g in
      let y = tells s s' e.0 e.1 o out.1 out.2 out.3 in
      (y.0, subst (λ x. Watched same x m answer (record { decided = false; skipped = false; outcome = outcome_of o }) y.0 m) (sym e.2) (refl, y.1, refl), y.2)
