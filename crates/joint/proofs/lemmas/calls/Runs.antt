-- A list of steps is the run of a map.
use Rattle.std.proofs.Common.{◌≡◌, ℕ, ◌<◌, Bool, true, false, List, [], ◌∷◌, ◌++◌, refl, sym, ◌∙◌, ap, subst, inl, inr, ◌⊎◌}
use Rattle.std.specs.Prelude.{Option, None, Some, cond, map}
use Rattle.std.specs.FinMap.{empty, get-empty}
use Rattle.std.specs.Ordering.{nat_cmp}
use Rattle.std.proofs.lemmas.Bool.{cases_Bool}
use Rattle.std.proofs.lemmas.List.{append-nil, append_assoc, map-append}
use Rattle.judge.specs.declared.journal.Entry.{Entry}
use Rattle.judge.specs.Answer.{Pairs}
use Rattle.judge.specs.Journal.{Answers, Legal}
use Rattle.congee.specs.declared.protocol.op.Op.{Op as Point}
use Rattle.congee.specs.declared.protocol.phase.Kind.{Kind}
use Rattle.congee.specs.Heap.{Node, Hung, fits, child_for, of_child, walk, value_at}
use Rattle.congee.specs.Keys.{IsMapOf, key_bytes}
use Rattle.congee.specs.protocol.Opening.{RootAlone}
use Rattle.congee.specs.protocol.Play.{Flight, Pending, Decided, Over, Unbegun, Scanning, Question, value_answered, resolved}
use Rattle.joint.specs.declared.engine.in_flight.InFlight.{InFlight}
use Rattle.joint.specs.declared.steps.Event.{Event}
use Rattle.joint.specs.declared.steps.Event.TheVariants.{Register, Begin, Go}
use Rattle.joint.specs.declared.steps.Outcome.{Outcome}
use Rattle.joint.specs.declared.steps.Outcome.TheVariants.{Done, Refused}
use Rattle.joint.specs.declared.steps.Report.{Report}
use Rattle.joint.specs.declared.steps.Step.{Step}
use Rattle.joint.specs.declared.steps.Target.{Target}
use Rattle.joint.specs.declared.steps.Target.TheVariants as target
use Rattle.joint.specs.nodes.Nodes.{nodes}
use Rattle.joint.specs.engine.Journaling.{in_list}
use Rattle.joint.specs.Reports.{target}
use Rattle.joint.specs.calls.Runs.{Taken, AreTaken, after_all, IsRun, IsMapRun, with_entry, entries, pairs_after, PlaysMap, AllHold, KeepsWrites, kept_entries, kept_of}
use Rattle.joint.specs.world.MapSteps.{EventMap, GoMap, PendingStep, BeginMap, BeginsOr, Stays, Line}
use Rattle.joint.specs.engine.Engine.{IsFresh, World}
use Rattle.joint.specs.engine.Flying.{Flights, no_flights, IsInFlight, AreInFlight}
use Rattle.joint.specs.world.World.{Holds}
use Rattle.joint.proofs.lemmas.world.Flights.{ends_stays}
use Rattle.joint.proofs.lemmas.world.JournaledSteps.{Mapped, step_mapped}
use Rattle.joint.proofs.lemmas.calls.Rounds.{after_both}

module _ {V : Type 0} (same : V → V → Bool) (always : Bool) where
  -- steps play on the map: from step to step the pairs stand and the calls are watched
  pub runs_map : (s : World V) (taken : List (Taken V)) (fs : Flights V) (m : Pairs V) → Holds same always s → AreTaken same always s taken → IsMapOf (nodes s.forest) m → AreInFlight s fs → PlaysMap same fs m s taken
  runs_map s [] fs m h x st fl = record { lines = []; flights = fs; are_lines = tt; run = refl; stand = st; in_flight = fl }
  runs_map s (t ∷ ts) fs m h x st fl =
      let a : Mapped same always s t.step t.report t.after fs m = step_mapped same always s t.step t.after fs m h x.0.holds st fl t.report x.0 in
      let l : Line V = record { step = t.step; report = t.report; entry = a.entry; pairs = a.pairs } in
      let on : PlaysMap same a.flights a.pairs t.after ts = runs_map t.after ts a.flights a.pairs x.0.holds x.1 a.stand a.in_flight in
      record {
        lines = l ∷ on.lines;
        flights = on.flights;
        are_lines = (record { step = refl; report = refl; stand = a.stand }, on.are_lines);
        run = (a.flights, a.map, on.run);
        stand = on.stand;
        in_flight = on.in_flight;
      }

  -- what the journal keeps of them
  pub record Journals (s : World V) (taken : List (Taken V)) (lines : List (Line V)) : Type 0 where
    pub entries : (after_all s taken).log.entries ≡ s.log.entries ++ kept_entries lines
    pub writes : 0 < s.log.places → KeepsWrites lines
    pub places : (after_all s taken).log.places ≡ s.log.places

  first_kept : (o : Option (Entry V)) (es : List (Entry V)) → in_list o ++ es ≡ with_entry o es
  first_kept None es = refl
  first_kept (Some e) es = refl

  -- the journal keeps the entries of the steps' lines, those of all writing calls among them
  pub runs_journal : (s : World V) (taken : List (Taken V)) (fs : Flights V) (m : Pairs V) (h : Holds same always s) (x : AreTaken same always s taken) (st : IsMapOf (nodes s.forest) m) (fl : AreInFlight s fs) → Journals s taken (runs_map s taken fs m h x st fl).lines
  unfolding runs_map
  runs_journal s [] fs m h x st fl = record { entries = sym (append-nil s.log.entries); writes = λ p. tt; places = refl }
  runs_journal s (t ∷ ts) fs m h x st fl =
      let a : Mapped same always s t.step t.report t.after fs m = step_mapped same always s t.step t.after fs m h x.0.holds st fl t.report x.0 in
      let l : Line V = record { step = t.step; report = t.report; entry = a.entry; pairs = a.pairs } in
      let on : Journals t.after ts (runs_map t.after ts a.flights a.pairs x.0.holds x.1 a.stand a.in_flight).lines = runs_journal t.after ts a.flights a.pairs x.0.holds x.1 a.stand a.in_flight in
      let rest = (runs_map t.after ts a.flights a.pairs x.0.holds x.1 a.stand a.in_flight).lines in
      record {
        entries = on.entries ∙ ap (λ es. es ++ kept_entries rest) a.entries ∙ append_assoc s.log.entries (in_list (kept_of l)) (kept_entries rest) ∙ ap (λ es. s.log.entries ++ es) (first_kept (kept_of l) (kept_entries rest));
        writes = λ p. (a.writes p, on.writes (subst (λ n. 0 < n) (sym a.places) p));
        places = on.places ∙ a.places;
      }

  -- in each state after one of these steps holds what always holds
  pub all_hold : (s : World V) (taken : List (Taken V)) → AreTaken same always s taken → AllHold same always taken
  all_hold s [] x = tt
  all_hold s (t ∷ ts) x = (x.0.holds, all_hold t.after ts x.1)

  -- steps, and steps from where these led, are taken as one list
  pub taken_on : (s : World V) (a b : List (Taken V)) → AreTaken same always s a → AreTaken same always (after_all s a) b → AreTaken same always s (a ++ b)
  taken_on s [] b x y = y
  taken_on s (t ∷ a) b x y = (x.0, taken_on t.after a b x.1 y)

  -- a run after a run is one of the steps of both
  pub runs_join : (s s1 s2 : World V) (a b : List (Step V)) (q r : List (Report V)) → IsRun same always s a q s1 → IsRun same always s1 b r s2 → IsRun same always s (a ++ b) (q ++ r) s2
  runs_join s s1 s2 a b q r x y =
      let P : World V → Type 0 = λ z. AreTaken same always z y.taken in
      record {
        taken = x.taken ++ y.taken;
        each = taken_on s x.taken y.taken x.each (subst P (sym x.last) y.each);
        steps_are = map-append (λ (t : Taken V). t.step) x.taken y.taken ∙ (ap (λ l. l ++ map (λ t. t.step) y.taken) x.steps_are ∙ ap (λ l. a ++ l) y.steps_are);
        reports_are = map-append (λ (t : Taken V). t.report) x.taken y.taken ∙ (ap (λ l. l ++ map (λ t. t.report) y.taken) x.reports_are ∙ ap (λ l. q ++ l) y.reports_are);
        last = after_both same always s x.taken y.taken ∙ (ap (λ z. after_all z y.taken) x.last ∙ y.last);
      }

  -- what a step makes of the map is one entry or nothing
  abbrev Entered : Pairs V → Line V → Type 0
  Entered m l = ((l.entry ≡ None) × (l.pairs ≡ m)) ⊎ ((e : Entry V) × (l.entry ≡ Some e) × Answers same m e l.pairs)

  stays_entered : (fs : Flights V) (m : Pairs V) (l : Line V) (fs' : Flights V) → Stays fs m l fs' → Entered m l
  stays_entered fs m l fs' x = inl (x.no_entry, x.same_pairs)

  begin_entered : (fs : Flights V) (m : Pairs V) (op : Point V) (o : Outcome V) (l : Line V) (fs' : Flights V) → BeginsOr fs m op o l fs' → Entered m l
  begin_entered fs m op (Refused e) l fs' x = stays_entered fs m l fs' x
  begin_entered fs m op (Done d) l fs' x = stays_entered fs m l fs' (ends_stays fs m op d l fs' x)
  begin_entered fs m op _ l fs' x = inl (x.no_entry, x.same_pairs)

  target_entered : (fs : Flights V) (m : Pairs V) (t : Target V) (l : Line V) (fs' : Flights V) → BeginMap fs m t l fs' → Entered m l
  target_entered fs m (target.Collector op) l fs' x = stays_entered fs m l fs' x
  target_entered fs m (target.Tree op) l fs' x = begin_entered fs m op l.report.outcome l fs' x
  target_entered fs m (target.Survey k) l fs' x = stays_entered fs m l fs' x.stays

  pending_entered : (k : ℕ) (kind : Kind V) (v : Option V) (q : Question V) (m : Pairs V) (b : Bool) (l : Line V) (f' : Flight V) → PendingStep same k kind v q m b l f' → Entered m l
  pending_entered k kind v q m false l f' (inl x) = inl (x.no_entry, x.same_pairs)
  pending_entered k kind v q m false l f' (inr x) = inl (x.no_entry, x.same_pairs)
  pending_entered k kind v q m true l f' x = inr (x.entry, x.is_entry, x.answers)

  go_entered : (fs : Flights V) (f : Flight V) (m : Pairs V) (answer : Option (Option V)) (l : Line V) (fs' : Flights V) → GoMap same fs f m answer l fs' → Entered m l
  go_entered fs (Pending k kind v q) m answer l fs' x = pending_entered k kind (value_answered kind q answer v) (resolved kind q answer) m l.report.decided l x.next x.step
  go_entered fs (Decided r) m answer l fs' x = inl (x.step.no_entry, x.step.same_pairs)
  go_entered fs Over m answer l fs' x = stays_entered fs m l fs' x
  go_entered fs (Unbegun start end size) m answer l fs' x = inl (x.step.no_entry, x.step.same_pairs)
  go_entered fs (Scanning start end size states places) m answer l fs' x = inl (x.step.no_entry, x.step.same_pairs)

  event_entered : (fs : Flights V) (m : Pairs V) (event : Event V) (l : Line V) (fs' : Flights V) → EventMap same fs m event l fs' → Entered m l
  event_entered fs m Register l fs' x = stays_entered fs m l fs' x
  event_entered fs m (Begin op) l fs' x = target_entered fs m (target op) l fs' x
  event_entered fs m (Go noise) l fs' x = go_entered fs (fs l.step.worker) m noise.answer l fs' x

  -- the entries of a map's run are legal, in deciding order
  pub entries_legal : (fs : Flights V) (m : Pairs V) (lines : List (Line V)) (fs' : Flights V) → IsMapRun same fs m lines fs' → Legal same m (entries lines) (pairs_after m lines)
  entries_legal fs m [] fs' x = refl
  entries_legal fs m (l ∷ ls) fs' x =
      let on : Legal same l.pairs (entries ls) (pairs_after l.pairs ls) = entries_legal x.0 l.pairs ls fs' x.2 in
      elim (event_entered fs m l.step.event l x.0 x.1) [
        | inl e ↦ (
            let P : Option (Entry V) → Type 0 = λ o. Legal same m (with_entry o (entries ls)) (pairs_after l.pairs ls) in
            let Q : Pairs V → Type 0 = λ n. Legal same n (entries ls) (pairs_after l.pairs ls) in
            subst P (sym e.0) (subst Q e.1 on))
        | inr e ↦ (
            let P : Option (Entry V) → Type 0 = λ o. Legal same m (with_entry o (entries ls)) (pairs_after l.pairs ls) in
            let Q : Pairs V → Type 0 = λ n. Legal same n (entries ls) (pairs_after l.pairs ls) in
            subst P (sym e.1) (ap (λ z. z.0) e.2, subst Q (sym (ap (λ z. z.1) e.2)) on))
      ]

  -- in a root alone no pair stands
  pub standing_empty : (h : ℕ → Node V) → RootAlone h → IsMapOf h empty
  standing_empty h root = record { at = λ k p. get-empty nat_cmp k ∙ sym (none (key_bytes k)); none_beyond = λ k p. get-empty nat_cmp k } where
    none : (key : List ℕ) → value_at h key ≡ None
    none key =
        let P : Bool → Type 0 = λ b. cond b (of_child (λ c. walk h 7 c key) (child_for (h 0) key)) None ≡ None in
        let Q : Hung V → Type 0 = λ x. of_child (λ c. walk h 7 c key) x ≡ None in
        elim (cases_Bool (fits (h 0).prefix key)) [
          | inl e ↦ subst P (sym e) (subst Q (sym (root.bare _)) refl)
          | inr e ↦ subst P (sym e) refl
        ]

  -- and no call is in flight
  pub fresh_flights : (s : World V) → IsFresh s → AreInFlight s no_flights
  fresh_flights s fresh = record {
    each = λ i k m a b. let P : InFlight V → Type 0 = λ y. IsInFlight y m Over in subst P (sym (fresh.idle i k a)) refl;
    beyond = λ i l. refl;
  }

  -- steps from a root alone play on the map from the empty one
  pub runs_fresh : (s : World V) (taken : List (Taken V)) → IsFresh s → Holds same always s → AreTaken same always s taken → PlaysMap same no_flights empty s taken
  runs_fresh s taken fresh h x = runs_map s taken no_flights empty h x (standing_empty (nodes s.forest) fresh.alone) (fresh_flights s fresh)
