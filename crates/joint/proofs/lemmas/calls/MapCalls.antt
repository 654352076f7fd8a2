-- What a call that no other worker's step comes between leaves of the map.
use Rattle.std.proofs.Common.{◌≡◌, ℕ, zero, suc, Bool, true, false, List, [], ◌∷◌, refl, sym, ◌∙◌, ap, subst}
use Rattle.std.specs.Prelude.{Option, None, Some, length, map, option_map, replicate}
use Rattle.judge.specs.Answer.{Pairs}
use Rattle.congee.specs.declared.protocol.machine.Noise.{Noise}
use Rattle.congee.specs.declared.protocol.op.Op.{Op as Point}
use Rattle.congee.specs.declared.protocol.op.Op.TheVariants as point
use Rattle.congee.specs.Keys.{IsMapOf}
use Rattle.congee.specs.protocol.Play.{Flight, Over, begun, range_of as point_range, IsScanOf, IsOfRange, flight}
use Rattle.congee.proofs.Laws.{of_range}
use Rattle.joint.specs.declared.id.Id.{Id}
use Rattle.joint.specs.declared.steps.Event.TheVariants.{Register, Begin}
use Rattle.joint.specs.declared.steps.Done.TheVariants.{Scanned}
use Rattle.joint.specs.declared.steps.Op.{Op}
use Rattle.joint.specs.declared.steps.Op.TheVariants as ops
use Rattle.joint.specs.declared.steps.Outcome.{Outcome}
use Rattle.joint.specs.declared.steps.Outcome.TheVariants.{Running, Asks, Found, Registered, Done, Refused}
use Rattle.joint.specs.declared.steps.Report.{Report}
use Rattle.joint.specs.declared.steps.Step.{Step}
use Rattle.joint.specs.declared.steps.Survey.{Survey}
use Rattle.joint.specs.declared.steps.Survey.TheVariants as survey
use Rattle.joint.specs.declared.steps.Target.{Target}
use Rattle.joint.specs.declared.steps.Target.TheVariants as target
use Rattle.joint.specs.calls.Calling.{IsCalled, next_step, steps_of, GoOn, last_of, last_or, put_away, kept_report}
use Rattle.joint.specs.Reports.{goes_unasked, range_of, target, is_in_flight}
use Rattle.joint.specs.nodes.Nodes.{nodes}
use Rattle.joint.specs.Names.{root}
use Rattle.joint.specs.calls.MapCalls.{AllGoOn, AreOfCall, told_after, Answered, answered_by, answer_in, answered_after, KeepsAll, told_places, HasScanned, PlaysKey, PlaysScan, PlaysCall, CallPlays}
use Rattle.joint.specs.calls.Runs.{Taken, AreTaken, after_all}
use Rattle.joint.specs.world.MapSteps.{GoMap, BeginMap, Line}
use Rattle.joint.specs.engine.Flying.{Flights, AreInFlight}
use Rattle.joint.specs.engine.Surveys.{MapTells}
use Rattle.joint.specs.world.World.{Holds, IsStep}
use Rattle.joint.specs.engine.Engine.{World, engine_of}
use Rattle.joint.proofs.lemmas.engine.Entering.{begin_free}
use Rattle.joint.proofs.lemmas.world.JournaledSteps.{Mapped, step_mapped}
use Rattle.joint.proofs.lemmas.calls.KeyCalls.{begin_of, further_step, key_plays, stays_keeps_all}
use Rattle.joint.proofs.lemmas.calls.AloneScans.{Scans, scan_plays, scans}

module _ {V : Type 0} (m : Pairs V) where
  -- a call of one step has ended
  told_ended : (k : Survey) (o : Outcome V) → MapTells m k o → is_in_flight o ≡ false
  told_ended k (Refused e) t = refl
  told_ended k (Done d) t = refl
  told_ended k (Registered n) t = refl
  told_ended survey.Keys Running t = absurd t
  told_ended survey.IsEmpty Running t = absurd t
  told_ended survey.Stats Running t = absurd t
  told_ended survey.Keys (Asks found) t = absurd t
  told_ended survey.IsEmpty (Asks found) t = absurd t
  told_ended survey.Stats (Asks found) t = absurd t
  told_ended survey.Keys (Found place key value) t = absurd t
  told_ended survey.IsEmpty (Found place key value) t = absurd t
  told_ended survey.Stats (Found place key value) t = absurd t

module _ {V : Type 0} (same : V → V → Bool) (always : Bool) (fs : Flights V) (m : Pairs V) (w : ℕ) where
  -- a worker whose begin was accepted had no call in flight
  free_of : (op : Op V) (s : World V) (r : Report V) (s' : World V) → Holds same always s → AreInFlight s fs → IsStep same always s (begin_of w op) r s' → is_in_flight r.outcome ≡ true → fs w ≡ Over
  free_of op s r s' h fl x on =
      (begin_free same always (engine_of s) (engine_of s') w (h.0, h.1) fs (record { each = fl.each; beyond = fl.beyond }) op x.does.told x.does.engine.does (sym (ap (λ z. is_in_flight z.outcome) x.does.report) ∙ on)).0

  -- a call that isn't on the tree
  quiet_step : (noise : Noise Id V) (s : World V) (r : Report V) (s' : World V) → fs w ≡ Over → Holds same always s → KeepsAll fs m s → IsStep same always s (further_step w noise) r s' → KeepsAll fs m s'
  quiet_step noise s r s' free h b x =
      let y : Mapped same always s (further_step w noise) r s' fs m = step_mapped same always s (further_step w noise) s' fs m h x.holds b.0 b.1 r x in
      let l : Line V = record { step = further_step w noise; report = r; entry = y.entry; pairs = y.pairs } in
      let P : Flight V → Type 0 = λ z. GoMap same fs z m noise.answer l y.flights in
      stays_keeps_all fs m l y.flights s' (subst P free y.map) y.stand y.in_flight

  quiet_steps : (more : List (Taken V)) (said : Outcome V) (s : World V) → fs w ≡ Over → Holds same always s → KeepsAll fs m s → AreTaken same always s more → AllGoOn w said more → KeepsAll fs m (after_all s more)
  quiet_steps [] said s free h b x g = b
  quiet_steps (t ∷ ts) said s free h b x g =
      let P : Step V → Type 0 = λ y. IsStep same always s y t.report t.after in
      quiet_steps ts t.report.outcome t.after free x.0.holds (quiet_step g.0.noise s t.report t.after free h b (subst P g.0.step x.0)) x.1 g.1

  quiet_begin : (op : Op V) (t : _) (s : World V) (r : Report V) (s' : World V) → target op ≡ target.Collector t → Holds same always s → KeepsAll fs m s → IsStep same always s (begin_of w op) r s' → KeepsAll fs m s'
  quiet_begin op t s r s' e h b x =
      let y : Mapped same always s (begin_of w op) r s' fs m = step_mapped same always s (begin_of w op) s' fs m h x.holds b.0 b.1 r x in
      let l : Line V = record { step = begin_of w op; report = r; entry = y.entry; pairs = y.pairs } in
      let P : Target V → Type 0 = λ z. BeginMap fs m z l y.flights in
      stays_keeps_all fs m l y.flights s' (subst P e y.map) y.stand y.in_flight

  quiet_call : (op : Op V) (t : _) (s : World V) (first : Taken V) (more : List (Taken V)) → target op ≡ target.Collector t → Holds same always s → KeepsAll fs m s → IsStep same always s (begin_of w op) first.report first.after
      → AreTaken same always first.after more → AllGoOn w first.report.outcome more → KeepsAll fs m (after_all first.after more)
  quiet_call op t s first [] e h b x y g = quiet_begin op t s first.report first.after e h b x
  quiet_call op t s first (u ∷ us) e h b x y g =
      quiet_steps (u ∷ us) first.report.outcome first.after (free_of op s first.report first.after h b.1 x g.0.in_flight) x.holds (quiet_begin op t s first.report first.after e h b x) y g

  -- one of one step
  survey_step : (op : Op V) (k : Survey) (s : World V) (r : Report V) (s' : World V) → target op ≡ target.Survey k → Holds same always s → KeepsAll fs m s → IsStep same always s (begin_of w op) r s' → MapTells m k r.outcome × KeepsAll fs m s'
  survey_step op k s r s' e h b x =
      let y : Mapped same always s (begin_of w op) r s' fs m = step_mapped same always s (begin_of w op) s' fs m h x.holds b.0 b.1 r x in
      let l : Line V = record { step = begin_of w op; report = r; entry = y.entry; pairs = y.pairs } in
      let P : Target V → Type 0 = λ z. BeginMap fs m z l y.flights in
      let z : BeginMap fs m (target.Survey k) l y.flights = subst P e y.map in
      (z.tells, stays_keeps_all fs m l y.flights s' z.stays y.stand y.in_flight)

  survey_call : (op : Op V) (k : Survey) (s : World V) (first : Taken V) (more : List (Taken V)) → target op ≡ target.Survey k → Holds same always s → KeepsAll fs m s → IsStep same always s (begin_of w op) first.report first.after
      → AllGoOn w first.report.outcome more → MapTells m k (told_after first.report.outcome more) × KeepsAll fs m (after_all first.after more)
  survey_call op k s first [] e h b x g = survey_step op k s first.report first.after e h b x
  survey_call op k s first (u ∷ us) e h b x g =
      let z = survey_step op k s first.report first.after e h b x in
      absurd (let f : true ≡ false = sym g.0.in_flight ∙ told_ended m k first.report.outcome z.0 in cc f)

-- the flight of a scan's begin keeps the promise of its own range
scan_of : {V : Type 0} (asked : Point V) (start end size : ℕ) → point_range asked ≡ Some (start, end, size) → IsScanOf start end size (flight (begun root asked))
scan_of asked start end size ranged =
    let P : Option (ℕ × ℕ × ℕ) → Type 0 = λ a. IsOfRange a (flight (begun root asked)) in
    subst P ranged (of_range root asked)

module _ {V : Type 0} (same : V → V → Bool) (always : Bool) (fs : Flights V) (m : Pairs V) (w : ℕ) where
  -- a scan
  scan_call : (op : Op V) (asked : Point V) (start end size : ℕ) → point_range asked ≡ Some (start, end, size) → (s : World V) (first : Taken V) (more : List (Taken V)) → target op ≡ target.Tree asked → Holds same always s → KeepsAll fs m s
      → IsStep same always s (begin_of w op) first.report first.after → AreTaken same always first.after more → AllGoOn w first.report.outcome more → PlaysScan fs m w (told_after first.report.outcome more) (after_all first.after more)
  scan_call op asked start end size ranged s first more e h b x y g =
      let k = scan_of asked start end size ranged in
      scan_plays same always fs m w start end size k.from k.to k.places k.promises _ _ _ (scans same always fs m w start end size k.from k.to k.places k.promises op asked s first more e ranged k.unbegun h b x y g)

  -- any call
  by_target : (op : Op V) (t : Target V) (s : World V) (first : Taken V) (more : List (Taken V)) → target op ≡ t → Holds same always s → KeepsAll fs m s → IsStep same always s (begin_of w op) first.report first.after
      → AreTaken same always first.after more → AllGoOn w first.report.outcome more → PlaysCall same fs m w (answered_after first.report.outcome None more) t (told_after first.report.outcome more) (after_all first.after more)
  by_target op (target.Collector t) s first more e h b x y g = quiet_call same always fs m w op t s first more e h b x y g
  by_target op (target.Survey k) s first more e h b x y g = survey_call same always fs m w op k s first more e h b x g
  by_target op (target.Tree (point.Range start end size)) s first more e h b x y g = scan_call op (point.Range start end size) start end size refl s first more e h b x y g
  by_target op (target.Tree (point.RangeInclusive start last size)) s first more e h b x y g = scan_call op (point.RangeInclusive start last size) start (suc last) size refl s first more e h b x y g
  by_target op (target.Tree (point.Get k)) s first more e h b x y g = key_plays same always fs m w (point.Get k) tt op s first more e h b.0 b.1 x y g
  by_target op (target.Tree (point.Insert k v)) s first more e h b x y g = key_plays same always fs m w (point.Insert k v) tt op s first more e h b.0 b.1 x y g
  by_target op (target.Tree (point.Remove k)) s first more e h b x y g = key_plays same always fs m w (point.Remove k) tt op s first more e h b.0 b.1 x y g
  by_target op (target.Tree (point.ComputePresent k)) s first more e h b x y g = key_plays same always fs m w (point.ComputePresent k) tt op s first more e h b.0 b.1 x y g
  by_target op (target.Tree (point.ComputeInsert k)) s first more e h b x y g = key_plays same always fs m w (point.ComputeInsert k) tt op s first more e h b.0 b.1 x y g
  by_target op (target.Tree (point.Exchange k old new)) s first more e h b x y g = key_plays same always fs m w (point.Exchange k old new) tt op s first more e h b.0 b.1 x y g

  -- a report of it has no pair to put away
  away_key : (p : Point V) (last : Answered V) (said : Outcome V) (s : World V) → PlaysKey same fs m w last p said s → PlaysKey same fs m w last p (put_away said) s
  away_key p last Running s x = x
  away_key p last (Asks o) s x = x
  away_key p last (Found place key value) s x = absurd x
  away_key p last (Registered n) s x = absurd x
  away_key p last (Done d) s x = x
  away_key p last (Refused e) s x = x

  away_scan : (said : Outcome V) (s : World V) → PlaysScan fs m w said s → PlaysScan fs m w (put_away said) s
  away_scan Running s x = x
  away_scan (Found place key value) s x = x
  away_scan (Asks o) s x = absurd x
  away_scan (Registered n) s x = absurd x
  away_scan (Done d) s x = x
  away_scan (Refused e) s x = x

  away_told : (said : Outcome V) → is_in_flight said ≡ false → said ≡ put_away said
  away_told (Found place key value) e = absurd (cc e)
  away_told Running e = refl
  away_told (Asks o) e = refl
  away_told (Registered n) e = refl
  away_told (Done d) e = refl
  away_told (Refused r) e = refl

  away : (t : Target V) (last : Answered V) (said : Outcome V) (s : World V) → PlaysCall same fs m w last t said s → PlaysCall same fs m w last t (put_away said) s
  away (target.Tree (point.Get k)) last said s x = away_key (point.Get k) last said s x
  away (target.Tree (point.Insert k v)) last said s x = away_key (point.Insert k v) last said s x
  away (target.Tree (point.Remove k)) last said s x = away_key (point.Remove k) last said s x
  away (target.Tree (point.ComputePresent k)) last said s x = away_key (point.ComputePresent k) last said s x
  away (target.Tree (point.ComputeInsert k)) last said s x = away_key (point.ComputeInsert k) last said s x
  away (target.Tree (point.Exchange k old new)) last said s x = away_key (point.Exchange k old new) last said s x
  away (target.Tree (point.Range start end size)) last said s x = away_scan said s x
  away (target.Tree (point.RangeInclusive start end size)) last said s x = away_scan said s x
  away (target.Collector op) last said s x = x
  away (target.Survey k) last said s x = (subst (λ o. MapTells m k o) (away_told said (told_ended m k said x.0)) x.0, x.1)

module _ {V : Type 0} (same : V → V → Bool) (always : Bool) where
  -- a call that no other worker's step comes between plays on the map as such a call does
  pub plays_call : (s : World V) (first : Taken V) (more : List (Taken V)) (fs : Flights V) (m : Pairs V) (who : ℕ) (op : Op V) → Holds same always s → AreTaken same always s (first ∷ more) → IsMapOf (nodes s.forest) m → AreInFlight s fs
      → AreOfCall who op first more → PlaysCall same fs m who (answered_after first.report.outcome None more) (target op) (told_after first.report.outcome more) (after_all s (first ∷ more))
  plays_call s first more fs m who op h x st fl c =
      let P : Step V → Type 0 = λ y. IsStep same always s y first.report first.after in
      by_target same always fs m who op (target op) s first more refl h (st, fl) (subst P c.begins x.0) x.1 c.goes_on

  -- a registration leaves the pairs
  pub register_keeps : (s : World V) (who : ℕ) (r : Report V) (s' : World V) (fs : Flights V) (m : Pairs V) → Holds same always s → IsStep same always s (record { worker = who; event = Register }) r s' → IsMapOf (nodes s.forest) m → AreInFlight s fs
      → KeepsAll fs m s'
  register_keeps s who r s' fs m h x st fl =
      let step : Step V = record { worker = who; event = Register } in
      let y : Mapped same always s step r s' fs m = step_mapped same always s step s' fs m h x.holds st fl r x in
      stays_keeps_all fs m (record { step = step; report = r; entry = y.entry; pairs = y.pairs }) y.flights s' y.map y.stand y.in_flight

  -- what a scan that is done has told
  scanned_so : (s : World V) (first : Taken V) (more : List (Taken V)) (fs : Flights V) (m : Pairs V) (who : ℕ) (op : Op V) (asked : Point V) (start end size count : ℕ) → target op ≡ target.Tree asked → point_range asked ≡ Some (start, end, size)
      → Holds same always s → AreTaken same always s (first ∷ more) → IsMapOf (nodes s.forest) m → AreInFlight s fs → AreOfCall who op first more → told_after first.report.outcome more ≡ Done (Scanned count)
      → HasScanned start end size count m (told_places [] more)
  scanned_so s first more fs m who op asked start end size count on ranged h x st fl c e =
      let k = scan_of asked start end size ranged in
      let P : Step V → Type 0 = λ y. IsStep same always s y first.report first.after in
      let Q : Outcome V → Type 0 = λ o. Scans same always fs m who start end size k.from k.to k.places k.promises (told_places [] more) o (after_all first.after more) in
      let y : Q (Done (Scanned count)) = subst Q e (scans same always fs m who start end size k.from k.to k.places k.promises op asked s first more on ranged k.unbegun h (st, fl) (subst P c.begins x.0) x.1 c.goes_on) in
      y.0

  -- a scan so taken that is done has told for the first of its places what a scan promises
  pub scanned : (s : World V) (first : Taken V) (more : List (Taken V)) (fs : Flights V) (m : Pairs V) (who : ℕ) (op : Op V) (start end size count : ℕ) → Holds same always s → AreTaken same always s (first ∷ more) → IsMapOf (nodes s.forest) m → AreInFlight s fs
      → range_of op ≡ Some (start, end, size) → AreOfCall who op first more → told_after first.report.outcome more ≡ Done (Scanned count) → HasScanned start end size count m (told_places [] more)
  scanned s first more fs m who (ops.Range a b n) start end size count h x st fl ranged c e = scanned_so s first more fs m who (ops.Range a b n) (point.Range a b n) start end size count refl ranged h x st fl c e
  scanned s first more fs m who (ops.RangeInclusive a b n) start end size count h x st fl ranged c e = scanned_so s first more fs m who (ops.RangeInclusive a b n) (point.RangeInclusive a b n) start end size count refl ranged h x st fl c e
  scanned s first more fs m who (ops.Pin) start end size count h x st fl ranged c e = absurd (cc ranged)
  scanned s first more fs m who (ops.Unpin) start end size count h x st fl ranged c e = absurd (cc ranged)
  scanned s first more fs m who (ops.Repin) start end size count h x st fl ranged c e = absurd (cc ranged)
  scanned s first more fs m who (ops.Flush) start end size count h x st fl ranged c e = absurd (cc ranged)
  scanned s first more fs m who (ops.Release) start end size count h x st fl ranged c e = absurd (cc ranged)
  scanned s first more fs m who (ops.Get k) start end size count h x st fl ranged c e = absurd (cc ranged)
  scanned s first more fs m who (ops.Insert k v) start end size count h x st fl ranged c e = absurd (cc ranged)
  scanned s first more fs m who (ops.Remove k) start end size count h x st fl ranged c e = absurd (cc ranged)
  scanned s first more fs m who (ops.ComputePresent k) start end size count h x st fl ranged c e = absurd (cc ranged)
  scanned s first more fs m who (ops.ComputeInsert k) start end size count h x st fl ranged c e = absurd (cc ranged)
  scanned s first more fs m who (ops.Exchange k old new) start end size count h x st fl ranged c e = absurd (cc ranged)
  scanned s first more fs m who (ops.Keys) start end size count h x st fl ranged c e = absurd (cc ranged)
  scanned s first more fs m who (ops.IsEmpty) start end size count h x st fl ranged c e = absurd (cc ranged)
  scanned s first more fs m who (ops.Stats) start end size count h x st fl ranged c e = absurd (cc ranged)

module _ {V : Type 0} (who : ℕ) where
  abbrev reports_of : List (Taken V) → List (Report V)
  reports_of ts = map (λ (t : Taken V). t.report) ts

  abbrev steps_in : List (Taken V) → List (Step V)
  steps_in ts = map (λ (t : Taken V). t.step) ts

  in_flight_on : (o : Outcome V) → goes_unasked o ≡ true → is_in_flight o ≡ true
  in_flight_on Running e = refl
  in_flight_on (Found place key value) e = refl
  in_flight_on (Asks found) e = absurd (cc e)
  in_flight_on (Registered n) e = absurd (cc e)
  in_flight_on (Done d) e = absurd (cc e)
  in_flight_on (Refused e) q = absurd (cc q)

  -- the steps of a whole call, to which no answer comes
  all_go_on : (ts : List (Taken V)) (r : Report V) (n : ℕ) → steps_in ts ≡ replicate n (next_step who) → GoOn (r ∷ reports_of ts) → AllGoOn who r.outcome ts
  all_go_on [] r n e g = tt
  all_go_on (t ∷ ts) r zero e g = absurd (cc e)
  all_go_on (t ∷ ts) r (suc n) e g =
      let here : t.step ≡ next_step who = cc in
      let more : steps_in ts ≡ replicate n (next_step who) = cc in
      (record { in_flight = in_flight_on r.outcome g.0; noise = record { fail = false; seen = None; answer = None }; step = here }, all_go_on ts t.report n more g.1)

  unanswered : (ts : List (Taken V)) (said : Outcome V) (n : ℕ) → steps_in ts ≡ replicate n (next_step who) → answered_after said None ts ≡ None
  unanswered [] said n e = refl
  unanswered (t ∷ ts) said zero e = absurd (cc e)
  unanswered (t ∷ ts) said (suc n) e =
      let here : t.step ≡ next_step who = cc in
      let more : steps_in ts ≡ replicate n (next_step who) = cc in
      ap (λ (y : Step V). answered_after t.report.outcome (answered_by (answer_in y.event) said None) ts) here ∙ unanswered ts t.report.outcome n more

  told_last : (ts : List (Taken V)) (r : Report V) → told_after r.outcome ts ≡ (last_or r (reports_of ts)).outcome
  told_last [] r = refl
  told_last (t ∷ ts) r = told_last ts t.report

module _ {V : Type 0} (same : V → V → Bool) (always : Bool) (s : World V) (fs : Flights V) (m : Pairs V) (who : ℕ) (op : Op V) (h : Holds same always s) (st : IsMapOf (nodes s.forest) m) (fl : AreInFlight s fs) where
  by_taken : (ts : List (Taken V)) (result : Option (Report V)) → AreTaken same always s ts → steps_in who ts ≡ steps_of who op (length (reports_of who ts)) → GoOn (reports_of who ts)
      → option_map kept_report (last_of (reports_of who ts)) ≡ result → CallPlays same fs m who op result (after_all s ts)
  by_taken [] result x steps on last = subst (λ r. CallPlays same fs m who op r s) last (st, fl)
  by_taken (t ∷ ts) result x steps on last =
      let here : t.step ≡ record { worker = who; event = Begin op } = cc in
      let more : steps_in who ts ≡ replicate (length (reports_of who ts)) (next_step who) = cc in
      let s' : World V = after_all t.after ts in
      let z = plays_call same always s t ts fs m who op h x st fl (record { begins = here; goes_on = all_go_on who ts t.report _ more on }) in
      let P : Answered V → Type 0 = λ a. PlaysCall same fs m who a (target op) (told_after t.report.outcome ts) s' in
      let Q : Outcome V → Type 0 = λ o. PlaysCall same fs m who None (target op) o s' in
      let y : Q (last_or t.report (reports_of who ts)).outcome = subst Q (told_last who ts t.report) (subst P (unanswered who ts t.report.outcome _ more) z) in
      subst (λ r. CallPlays same fs m who op r s') last (away same always fs m who (target op) None _ s' y)

  -- a whole call to which no answer comes plays on the map as such a call does
  pub called_plays : (most : ℕ) (places : List (ℕ × V)) (result : Option (Report V)) (places' : List (ℕ × V)) (s' : World V) → IsCalled same always s who op most places result places' s' → CallPlays same fs m who op result s'
  called_plays most places result places' s' c =
      let ts : List (Taken V) = c.run.taken in
      let e : reports_of who ts ≡ c.reports = c.run.reports_are in
      let P : List (Report V) → Type 0 = λ rs. steps_in who ts ≡ steps_of who op (length rs) in
      let Q : List (Report V) → Type 0 = λ rs. option_map kept_report (last_of rs) ≡ result in
      subst (λ y. CallPlays same fs m who op result y) c.run.last
      (by_taken ts result c.run.each (subst P (sym e) c.run.steps_are) (subst GoOn (sym e) c.goes) (subst Q (sym e) c.last))
