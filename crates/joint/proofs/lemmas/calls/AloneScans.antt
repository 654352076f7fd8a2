-- A scan that no other worker's step comes between leaves the map, and tells the pairs of its range.
use Rattle.std.proofs.Common.{◌≡◌, ℕ, arith, Bool, true, List, [], ◌∷◌, refl, sym, ◌∙◌, ap, subst, inl, inr, ◌⊎◌}
use Rattle.std.specs.Prelude.{Option, Some, IsSome, take}
use Rattle.std.specs.FinMap.{get}
use Rattle.judge.specs.Answer.{Pairs}
use Rattle.congee.specs.declared.protocol.machine.Noise.{Noise}
use Rattle.congee.specs.declared.protocol.machine.Outcome.{Outcome as Moved}
use Rattle.congee.specs.declared.protocol.machine.Outcome.TheVariants as moved
use Rattle.congee.specs.declared.protocol.op.Op.{Op as Point}
use Rattle.congee.specs.Keys.{IsMapOf}
use Rattle.congee.specs.protocol.Play.{Flight, Over, begun, range_of, flight, Unbegun, Scanning, ScanTells}
use Rattle.congee.specs.protocol.Scans.{Stood, AllStood, Throughout, IsScan}
use Rattle.joint.specs.declared.id.Id.{Id}
use Rattle.joint.specs.declared.steps.Done.{Done as Answer}
use Rattle.joint.specs.declared.steps.Done.TheVariants as done
use Rattle.joint.specs.declared.steps.Done.TheVariants.{Scanned}
use Rattle.joint.specs.declared.steps.Op.{Op}
use Rattle.joint.specs.declared.steps.Outcome.{Outcome}
use Rattle.joint.specs.declared.steps.Outcome.TheVariants.{Running, Asks, Found, Registered, Done, Refused}
use Rattle.joint.specs.declared.steps.Report.{Report}
use Rattle.joint.specs.declared.steps.Step.{Step}
use Rattle.joint.specs.declared.steps.Target.{Target}
use Rattle.joint.specs.declared.steps.Target.TheVariants as target
use Rattle.joint.specs.nodes.Nodes.{nodes}
use Rattle.joint.specs.Names.{root}
use Rattle.joint.specs.calls.MapCalls.{AllGoOn, told_after, IsOfScan, KeepsAll, told_places, HasScanned, IsScanning, IsScanDone, PlaysScan}
use Rattle.joint.specs.Reports.{target, told, is_in_flight}
use Rattle.joint.specs.calls.Runs.{Taken, AreTaken, after_all}
use Rattle.joint.specs.world.MapSteps.{GoMap, StepsFlight, BeginMap, BeginsOr, EndsAtOnce, EndsEmpty, FindsNone, BeginsFlight, Line}
use Rattle.joint.specs.engine.Flying.{Flights, with_flight, AreInFlight}
use Rattle.joint.specs.calls.Scans.{placed}
use Rattle.joint.specs.world.World.{Holds, IsStep}
use Rattle.joint.specs.engine.Engine.{World}
use Rattle.joint.proofs.lemmas.world.Flights.{flight_here}
use Rattle.joint.proofs.lemmas.world.JournaledSteps.{Mapped, step_mapped}
use Rattle.joint.proofs.lemmas.calls.KeyCalls.{as_before, begin_of, further_step, once_more, stays_keeps_all}

module _ {V : Type 0} (m : Pairs V) where
  -- the maps that stood at its steps are all the one
  abbrev pub AllOne : List (Pairs V) → Type 0
  AllOne [] = Unit {0}
  AllOne (x ∷ xs) = (x ≡ m) × AllOne xs

  stood_one : (states : List (Pairs V)) (k : ℕ) (v : V) → AllOne states → Stood states k v → Stood (m ∷ []) k v
  stood_one [] k v a s = absurd s
  stood_one (x ∷ states) k v a (inl e) = let P : Pairs V → Type 0 = λ y. get y k ≡ Some v in inl (subst P a.0 e)
  stood_one (x ∷ states) k v a (inr s) = stood_one states k v a.1 s

  all_stood_one : (states : List (Pairs V)) (found : List (ℕ × V)) → AllOne states → AllStood states found → AllStood (m ∷ []) found
  all_stood_one states [] a s = tt
  all_stood_one states ((k, v) ∷ found) a s = (stood_one states k v a s.0, all_stood_one states found a s.1)

  throughout_one : (states : List (Pairs V)) (k : ℕ) → AllOne states → Throughout (m ∷ []) k → Throughout states k
  throughout_one [] k a t = tt
  throughout_one (x ∷ states) k a t = let P : Pairs V → Type 0 = λ y. IsSome (get y k) in (subst P (sym a.0) t.0, throughout_one states k a.1 t)

  scan_of_one : (start end size : ℕ) (states : List (Pairs V)) (found : List (ℕ × V)) → AllOne states → IsScan start end size states found → IsScan start end size (m ∷ []) found
  scan_of_one start end size states found a s = record {
    rises = s.rises;
    few = s.few;
    within = s.within;
    stood = all_stood_one states found a s.stood;
    complete = λ k l n h. s.complete k l n (throughout_one states k a h);
  }

module _ {V : Type 0} (same : V → V → Bool) (always : Bool) (fs : Flights V) (m : Pairs V) (w start end size from to many : ℕ) (promises : (states : List (Pairs V)) (found : List (ℕ × V)) → IsScan from to many states found → IsScan start end size states found) where
  -- how it is watched, with the pairs that were told for its places
  abbrev pub Watches : List (ℕ × V) → Flight V → Type 0
  Watches places f = ((f ≡ Unbegun from to many) × (places ≡ [])) ⊎ ((states : List (Pairs V)) × (f ≡ Scanning from to many states places) × AllOne m states)

  -- the scan is in flight, with these pairs told for its places, and the pairs of the map stand
  pub record InScan (places : List (ℕ × V)) (s : World V) : Type 0 where
    pub free : fs w ≡ Over
    pub flight : Flight V
    pub watched : Watches places flight
    pub in_flight : AreInFlight s (with_flight fs w flight)
    pub stand : IsMapOf (nodes s.forest) m

  -- the scan is done: its places have what a scan promises, and the pairs and the other calls stay
  abbrev pub EndsWith : List (ℕ × V) → Answer V → World V → Type 0
  EndsWith places (done.Scanned count) s = HasScanned start end size count m places × KeepsAll fs m s
  EndsWith places _ s = ⊥

  -- how the scan stands after a step that told this, with these pairs told for its places
  abbrev pub Scans : List (ℕ × V) → Outcome V → World V → Type 0
  Scans places Running s = InScan places s
  Scans places (Found place key value) s = InScan places s
  Scans places (Done d) s = EndsWith places d s
  Scans places (Refused e) s = KeepsAll fs m s
  Scans places (Asks found) s = ⊥
  Scans places (Registered n) s = ⊥

  of_scan : (places : List (ℕ × V)) (f : Flight V) → Watches places f → IsOfScan f
  of_scan places f (inl x) = let P : Flight V → Type 0 = λ y. IsOfScan y in subst P (sym x.0) tt
  of_scan places f (inr x) = let P : Flight V → Type 0 = λ y. IsOfScan y in subst P (sym x.1) tt

  scanning_of : (places : List (ℕ × V)) (s : World V) → InScan places s → IsScanning fs m w s
  scanning_of places s b = record { free = b.free; flight = b.flight; of_scan = of_scan places b.flight b.watched; in_flight = b.in_flight; stand = b.stand }

  done_keeps : (places : List (ℕ × V)) (d : Answer V) (s : World V) → EndsWith places d s → IsScanDone fs m d s
  done_keeps places (done.Scanned count) s x = x.1
  done_keeps places done.Unit s x = absurd x
  done_keeps places (done.Reply r) s x = absurd x
  done_keeps places (done.Keys keys) s x = absurd x
  done_keeps places (done.Empty b) s x = absurd x
  done_keeps places (done.Stats stats) s x = absurd x

  -- a scan that stands so plays as a scan on the map does
  pub scan_plays : (places : List (ℕ × V)) (said : Outcome V) (s : World V) → Scans places said s → PlaysScan fs m w said s
  scan_plays places Running s x = scanning_of places s x
  scan_plays places (Found place key value) s x = scanning_of places s x
  scan_plays places (Done d) s x = done_keeps places d s x
  scan_plays places (Refused e) s x = x
  scan_plays places (Asks found) s x = absurd x
  scan_plays places (Registered n) s x = absurd x

  scan_told : (states : List (Pairs V)) (places : List (ℕ × V)) (o : Moved V) (f : Flight V) (said : Outcome V) (s : World V) → fs w ≡ Over → AllOne m states → said ≡ told o
      → ScanTells from to many states places o f → AreInFlight s (with_flight fs w f) → IsMapOf (nodes s.forest) m → Scans (placed true said places) said s
  scan_told states places moved.Running f said s free a e u fl st =
      let P : Outcome V → Type 0 = λ y. Scans (placed true y places) y s in
      subst P (sym e) (record { free = free; flight = f; watched = inr (states, u, a); in_flight = fl; stand = st })
  scan_told states places (moved.Found place key x) f said s free a e u fl st =
      let P : Outcome V → Type 0 = λ y. Scans (placed true y places) y s in
      subst P (sym e) (record { free = free; flight = f; watched = inr (states, u.1, a); in_flight = fl; stand = st })
  scan_told states places (moved.Scanned count) f said s free a e u fl st =
      let P : Outcome V → Type 0 = λ y. Scans (placed true y places) y s in
      let Q : Flight V → Type 0 = λ y. AreInFlight s (with_flight fs w y) in
      subst P (sym e) (record { filled = u.0; scan = scan_of_one m start end size states (take count places) a (promises states (take count places) u.1) }, (st, as_before s fs w free (subst Q u.2 fl)))
  scan_told states places (moved.Refused cause) f said s free a e u fl st =
      let P : Outcome V → Type 0 = λ y. Scans (placed true y places) y s in
      let Q : Flight V → Type 0 = λ y. AreInFlight s (with_flight fs w y) in
      subst P (sym e) (st, as_before s fs w free (subst Q u fl))
  scan_told states places (moved.Asks o) f said s free a e u fl st = absurd u
  scan_told states places (moved.Done r) f said s free a e u fl st = absurd u

  scan_step : (noise : Noise Id V) (places : List (ℕ × V)) (s : World V) (r : Report V) (s' : World V) → Holds same always s → InScan places s → IsStep same always s (further_step w noise) r s'
      → Scans (placed true r.outcome places) r.outcome s'
  scan_step noise places s r s' h b x = by_watched b.watched where
    on : Flights V
    on = with_flight fs w b.flight

    y : Mapped same always s (further_step w noise) r s' (with_flight fs w b.flight) m
    y = step_mapped same always s (further_step w noise) s' (with_flight fs w b.flight) m h x.holds b.stand b.in_flight r x

    l : Line V
    l = record { step = further_step w noise; report = r; entry = y.entry; pairs = y.pairs }

    moves : GoMap same (with_flight fs w b.flight) b.flight m noise.answer l y.flights
    moves = let P : Flight V → Type 0 = λ z. GoMap same (with_flight fs w b.flight) z m noise.answer l y.flights in subst P (flight_here fs w b.flight) y.map

    stand : l.pairs ≡ m → IsMapOf (nodes s'.forest) m
    stand e = let P : Pairs V → Type 0 = λ n. IsMapOf (nodes s'.forest) n in subst P e y.stand

    flying : (f : Flight V) → y.flights ≡ with_flight (with_flight fs w b.flight) w f → AreInFlight s' (with_flight fs w f)
    flying f e = let P : Flights V → Type 0 = λ n. AreInFlight s' n in once_more s' fs w b.flight f (subst P e y.in_flight)

    by_watched : Watches places b.flight → Scans (placed true r.outcome places) r.outcome s'
    by_watched (inl e) =
        let P : Flight V → Type 0 = λ z. GoMap same (with_flight fs w b.flight) z m noise.answer l y.flights in
        let a : StepsFlight same (with_flight fs w b.flight) (Unbegun from to many) m noise.answer l y.flights = subst P e.0 moves in
        let Q : List (ℕ × V) → Type 0 = λ z. Scans (placed true r.outcome z) r.outcome s' in
        subst Q (sym e.1) (scan_told (m ∷ []) [] a.step.outcome a.next r.outcome s' b.free (refl, tt) a.step.told_so a.step.tells (flying a.next a.with_next) (stand a.step.same_pairs))
    by_watched (inr e) =
        let P : Flight V → Type 0 = λ z. GoMap same (with_flight fs w b.flight) z m noise.answer l y.flights in
        let a : StepsFlight same (with_flight fs w b.flight) (Scanning from to many e.0 places) m noise.answer l y.flights = subst P e.1 moves in
        scan_told (m ∷ e.0) places a.step.outcome a.next r.outcome s' b.free (refl, e.2) a.step.told_so a.step.tells (flying a.next a.with_next) (stand a.step.same_pairs)

  scanning : (places : List (ℕ × V)) (said : Outcome V) (s : World V) → is_in_flight said ≡ true → Scans places said s → InScan places s
  scanning places Running s on x = x
  scanning places (Found place key value) s on x = x
  scanning places (Done d) s on x = absurd (cc on)
  scanning places (Refused e) s on x = absurd (cc on)
  scanning places (Asks found) s on x = absurd x
  scanning places (Registered n) s on x = absurd x

  scan_steps : (more : List (Taken V)) (places : List (ℕ × V)) (said : Outcome V) (s : World V) → Holds same always s → Scans places said s → AreTaken same always s more → AllGoOn w said more
      → Scans (told_places places more) (told_after said more) (after_all s more)
  scan_steps [] places said s h b x g = b
  scan_steps (t ∷ ts) places said s h b x g =
      let P : Step V → Type 0 = λ y. IsStep same always s y t.report t.after in
      scan_steps ts (placed true t.report.outcome places) t.report.outcome t.after x.0.holds (scan_step g.0.noise places s t.report t.after h (scanning places said s g.0.in_flight b) (subst P g.0.step x.0)) x.1 g.1

  scan_begins : (op : Op V) (asked : Point V) (s : World V) (r : Report V) (s' : World V) → target op ≡ target.Tree asked → range_of asked ≡ Some (start, end, size) → flight (begun root asked) ≡ Unbegun from to many → Holds same always s → KeepsAll fs m s → IsStep same always s (begin_of w op) r s'
      → Scans [] r.outcome s'
  scan_begins op asked s r s' e ranged starts h b x = begun_so r.outcome refl begin where
    y : Mapped same always s (begin_of w op) r s' fs m
    y = step_mapped same always s (begin_of w op) s' fs m h x.holds b.0 b.1 r x

    l : Line V
    l = record { step = begin_of w op; report = r; entry = y.entry; pairs = y.pairs }

    begin : BeginsOr fs m asked r.outcome l y.flights
    begin = let P : Target V → Type 0 = λ t. BeginMap fs m t l y.flights in subst P e y.map

    in_flight : BeginsFlight fs m asked l y.flights → Scans [] r.outcome s'
    in_flight z =
        let P : Outcome V → Type 0 = λ o. Scans [] o s' in
        let Q : Pairs V → Type 0 = λ n. IsMapOf (nodes s'.forest) n in
        let R : Flights V → Type 0 = λ n. AreInFlight s' n in
        subst P (sym z.accepted) (record { free = z.free; flight = Unbegun from to many; watched = inl (refl, refl); in_flight = subst R (z.begins ∙ ap (with_flight fs w) starts) y.in_flight; stand = subst Q z.same_pairs y.stand })

    at_once : (d : Answer V) → r.outcome ≡ Done d → EndsAtOnce fs m asked d l y.flights → Scans [] r.outcome s'
    at_once (done.Scanned count) is z =
        let P : Outcome V → Type 0 = λ o. Scans [] o s' in
        let Q : ℕ → Type 0 = λ n. HasScanned {V = V} start end size n m [] in
        let R : Option (ℕ × ℕ × ℕ) → Type 0 = λ a. EndsEmpty a count fs m l y.flights in
        let none : FindsNone start end size count fs m l y.flights = subst R ranged z in
        subst P (sym is) (subst Q (sym none.none) (record { filled = omega arith; scan = none.scan }), stays_keeps_all fs m l y.flights s' none.stays y.stand y.in_flight)
    at_once done.Unit is z = absurd z
    at_once (done.Reply a) is z = absurd z
    at_once (done.Keys keys) is z = absurd z
    at_once (done.Empty a) is z = absurd z
    at_once (done.Stats stats) is z = absurd z

    begun_so : (o : Outcome V) → r.outcome ≡ o → BeginsOr fs m asked o l y.flights → Scans [] r.outcome s'
    begun_so (Refused a) is z = let P : Outcome V → Type 0 = λ o. Scans [] o s' in subst P (sym is) (stays_keeps_all fs m l y.flights s' z y.stand y.in_flight)
    begun_so (Done d) is z = at_once d is z
    begun_so Running is z = in_flight z
    begun_so (Asks found) is z = in_flight z
    begun_so (Found place key value) is z = in_flight z
    begun_so (Registered n) is z = in_flight z

  -- a scan that no other worker's step comes between stands so after its steps, from its begin on
  pub scans : (op : Op V) (asked : Point V) (s : World V) (first : Taken V) (more : List (Taken V)) → target op ≡ target.Tree asked → range_of asked ≡ Some (start, end, size) → flight (begun root asked) ≡ Unbegun from to many → Holds same always s → KeepsAll fs m s
      → IsStep same always s (begin_of w op) first.report first.after → AreTaken same always first.after more → AllGoOn w first.report.outcome more
      → Scans (told_places [] more) (told_after first.report.outcome more) (after_all first.after more)
  scans op asked s first more e ranged starts h b x y g = scan_steps more [] first.report.outcome first.after x.holds (scan_begins op asked s first.report first.after e ranged starts h b x) y g
