-- Rounds of one worker are rounds of the collector, and what these leave is left in the bags of other workers.
use Rattle.std.proofs.Common.{◌≡◌, ◌≢◌, ◌⊎◌, ◌+◌, ◌<◌, ◌≤◌, ◌&&◌, ℕ, suc, arith, Bool, true, false, List, [], ◌∷◌, ◌++◌, length, refl, sym, ◌∙◌, ap, subst, inl, inr, zero, take}
use Rattle.std.specs.Prelude.{Option, None, Some, slice_get, slice_set, slice_index_or, if◌then◌else◌}
use Rattle.std.specs.Int.{div_ceil}
use Rattle.std.specs.List.{Contains, sum_by}
use Rattle.std.proofs.lemmas.Grind.{div_ceil_times}
use Rattle.std.proofs.lemmas.Bool.{cases_lt}
use Rattle.std.proofs.lemmas.List.{set-set}
use Rattle.std.proofs.lemmas.List.Sums.{sum_by-cons}
use Rattle.std.proofs.lemmas.Option.{slice_get_within}
use Rattle.crossbeam_epoch.specs.declared.bag.Deferral.{Deferral}
use Rattle.crossbeam_epoch.specs.declared.bag.Sealed.{Sealed}
use Rattle.crossbeam_epoch.specs.declared.bag.Work.{Work}
use Rattle.crossbeam_epoch.specs.declared.bag.Work.TheVariants.{Blank, Remove, Run}
use Rattle.crossbeam_epoch.specs.declared.fault.Fault.{Fault}
use Rattle.crossbeam_epoch.specs.declared.fault.Fault.TheVariants as fault
use Rattle.crossbeam_epoch.specs.declared.names.Name.{Name}
use Rattle.crossbeam_epoch.specs.declared.world.participant.Participant.{Participant}
use Rattle.crossbeam_epoch.specs.declared.world.report.Event.{Event as CollectorEvent}
use Rattle.crossbeam_epoch.specs.declared.world.report.Event.TheVariants as collector_event
use Rattle.crossbeam_epoch.specs.declared.world.report.Op.{Op as CollectorOp}
use Rattle.crossbeam_epoch.specs.declared.world.report.Op.TheVariants as collector_op
use Rattle.crossbeam_epoch.specs.declared.world.report.Outcome.{Outcome as CollectorOutcome}
use Rattle.crossbeam_epoch.specs.declared.world.report.Outcome.TheVariants as collector_outcome
use Rattle.crossbeam_epoch.specs.declared.world.report.Report.{Report as Collection}
use Rattle.crossbeam_epoch.specs.world.Calls.{IsCall, IsGoing}
use Rattle.crossbeam_epoch.specs.world.Fits.{at_place, in_bag, job_count, weight}
use Rattle.crossbeam_epoch.specs.world.Machine.{State, blank, place, name_of}
use Rattle.crossbeam_epoch.specs.world.Progress.{Orderly}
use Rattle.crossbeam_epoch.specs.world.Reach.{Moment, HasMoments}
use Rattle.crossbeam_epoch.specs.world.Rounds as collector
use Rattle.crossbeam_epoch.specs.world.Sealing.{IsSealing, bit, is_name, counts_name}
use Rattle.crossbeam_epoch.specs.world.Steps.{IsReport, after}
use Rattle.congee.specs.declared.protocol.machine.Machine.{Machine}
use Rattle.congee.specs.declared.protocol.machine.Noise.{Noise}
use Rattle.congee.specs.declared.protocol.phase.Phase.{Phase}
use Rattle.congee.specs.declared.protocol.phase.Phase.TheVariants.{Ended}
use Rattle.congee.specs.Heap.{Stands}
use Rattle.congee.specs.protocol.Handing.{is_handed_over}
use Rattle.congee.specs.protocol.Holdings.{MadeBy, TakenBy}
use Rattle.joint.specs.declared.engine.in_flight.InFlight.{InFlight}
use Rattle.joint.specs.declared.engine.in_flight.InFlight.TheVariants.{Idle, Collecting, Reserving, Securing, Walking}
use Rattle.joint.specs.declared.id.Id.{Id}
use Rattle.joint.specs.declared.nodes.slot.Slot.{Slot}
use Rattle.joint.specs.declared.steps.Done.TheVariants as done
use Rattle.joint.specs.declared.steps.Event.{Event}
use Rattle.joint.specs.declared.steps.Event.TheVariants.{Begin, Go}
use Rattle.joint.specs.declared.steps.Op.{Op}
use Rattle.joint.specs.declared.steps.Op.TheVariants.{Pin, Unpin, Flush}
use Rattle.joint.specs.declared.steps.Outcome.{Outcome}
use Rattle.joint.specs.declared.steps.Outcome.TheVariants.{Running, Done, Refused}
use Rattle.joint.specs.declared.steps.Report.{Report}
use Rattle.joint.specs.declared.steps.Step.{Step}
use Rattle.joint.specs.declared.steps.Target.{Target}
use Rattle.joint.specs.declared.steps.Target.TheVariants as target
use Rattle.joint.specs.engine.Filed.{removes}
use Rattle.joint.specs.nodes.Nodes.{nodes}
use Rattle.joint.specs.engine.Intact.{IsAt, call_after, is_reserving}
use Rattle.joint.specs.engine.Laws.{CallLaws}
use Rattle.joint.specs.engine.Census.{waiting_nodes}
use Rattle.joint.specs.engine.Log.{is_full}
use Rattle.joint.specs.engine.Safety.{Collected}
use Rattle.joint.specs.nodes.Slots.{slot_names}
use Rattle.joint.specs.NameLemmas.{number_named}
use Rattle.joint.specs.Names.{number, named}
use Rattle.joint.specs.Refusals.{of_fault}
use Rattle.joint.specs.Reports.{target, collected}
use Rattle.joint.specs.calls.Rounds.{IsQuiet, GoesToEnd, IsWholeCall, Round, IsRound, AreRounds, steps_in, bags_left, rounds_wanted, IsLeft, CameBack}
use Rattle.joint.specs.calls.Runs.{Taken, AreTaken, IsRun, after_all}
use Rattle.joint.specs.nodes.View.{id_number}
use Rattle.joint.specs.world.Whereabouts.{IsInTree, IsSomewhere}
use Rattle.joint.specs.world.World.{Holds, IsStep, TakesStep, StepsUnless}
use Rattle.joint.specs.engine.Engine.{World, engine_of, place_of, is_busy, interruption, unready, misuse, Proceeds, Does, GoesAt, BeginsAt, Collects}
use Rattle.joint.proofs.lemmas.world.Bags.{jobs_waiting}
use Rattle.joint.proofs.lemmas.engine.Collecting.{get_inside}
use Rattle.joint.proofs.lemmas.engine.Filing.{is_name_same}
use Rattle.joint.proofs.lemmas.engine.HandOver.{held_place}
use Rattle.joint.proofs.lemmas.world.Whereabouts.{node_somewhere}
use Rattle.joint.proofs.lemmas.engine.SoundCells.{retired_waits}
use Rattle.congee.proofs.Laws.{set_here}

-- what the collector's laws say of whole calls and of rounds
pub record RoundLaws {T : Type 0} (J : Type 0) (names : T → List Name) : Type 0 where
  pub begins : (s : State T J) (who : ℕ) (op : CollectorOp) → IsGoing s who op 0 None (collector_event.Begin op) s
  pub more : (s now new : State T J) (who : ℕ) (op : CollectorOp) (n : ℕ) (newest : Option Collection) (event : CollectorEvent) (r : Collection) → IsGoing s who op n newest event now → IsReport now who event r → new ≡ after now who event r.outcome → r.outcome ≡ collector_outcome.Running → IsGoing s who op (n + 1) (Some r) collector_event.Go new
  pub ends : (s now new : State T J) (who : ℕ) (op : CollectorOp) (n most : ℕ) (newest : Option Collection) (event : CollectorEvent) (r : Collection) → n < most → IsGoing s who op n newest event now → IsReport now who event r → new ≡ after now who event r.outcome → (r.outcome ≡ collector_outcome.Running → ⊥)
      → (reports : List Collection) × IsCall s who op most reports (Some r) new
  pub bags : (h : List Moment) (s s' : State T J) (who : ℕ) → HasMoments names h s → Orderly s → IsSealing s → collector.IsQuiet s → (r : collector.IsRound s who s') → length r.flushed.queue ≤ job_count s
  pub empties : (h : List Moment) (s s1 s' : State T J) (who n : ℕ) → HasMoments names h s → Orderly s → IsSealing s → s.limits.expiry ≡ 2 → collector.IsQuiet s → (r : collector.IsRound s who s1) → collector.AreRounds s1 who n s'
      → 1 + div_ceil (length r.flushed.queue) 8 ≤ n → collector.IsEmptied s who s'

-- a call that isn't refused
abbrev Unrefused : {V : Type 0} → Outcome V → Type 0
Unrefused {V} o = (o ≡ Running) ⊎ (o ≡ Done done.Unit)

not_refused : {V : Type 0} (o : Outcome V) → Unrefused o → (e : _) → o ≡ Refused e → ⊥
not_refused o (inl r) e q = absurd (cc (r, q))
not_refused o (inr r) e q = absurd (cc (r, q))

was_running : {V : Type 0} (o : CollectorOutcome) → collected {V = V} o ≡ Running → o ≡ collector_outcome.Running
was_running collector_outcome.Running e = refl
was_running collector_outcome.Done e = absurd (cc e)
was_running (collector_outcome.Refused f) e = absurd (cc e)

was_done : {V : Type 0} (o : CollectorOutcome) → collected {V = V} o ≡ Done done.Unit → o ≡ collector_outcome.Done
was_done collector_outcome.Done e = refl
was_done collector_outcome.Running e = absurd (cc e)
was_done (collector_outcome.Refused f) e = absurd (cc e)

by_end : {V : Type 0} (who : ℕ) (o : Outcome V) (ts : List (Taken V)) → GoesToEnd who o ts → Unrefused o
by_end who o [] e = inr e
by_end who o (t ∷ ts) e = inl e.0

-- what isn't misused is of a registered worker
of_registered : (b : Bool) (x : Option Fault) → (if b then x else Some fault.Unknown) ≡ None → b ≡ true
of_registered true x e = refl
of_registered false x e = absurd (cc e)

module _ {V : Type 0} (same : V → V → Bool) (always : Bool) where
  -- steps one after another are those up to any point, and those from there on
  pub split : (s : World V) (a b : List (Taken V)) → AreTaken same always s (a ++ b) → AreTaken same always s a × AreTaken same always (after_all s a) b
  split s [] b x = (tt, x)
  split s (t ∷ a) b x = let y = split t.after a b x.1 in ((x.0, y.0), y.1)

  -- after two lists of steps the state is the one after the second from that after the first
  pub after_both : (s : World V) (a b : List (Taken V)) → after_all s (a ++ b) ≡ after_all (after_all s a) b
  after_both s [] b = refl
  after_both s (t ∷ a) b = after_both t.after a b

  -- the first of some steps are taken too
  pub taken_front : (s : World V) (n : ℕ) (ts : List (Taken V)) → AreTaken same always s ts → AreTaken same always s (take n ts)
  taken_front s zero [] x = tt
  taken_front s zero (t ∷ ts) x = tt
  taken_front s (suc n) [] x = tt
  taken_front s (suc n) (t ∷ ts) x = (x.0, taken_front t.after n ts x.1)

  still_holds : (s : World V) (a : List (Taken V)) → Holds same always s → AreTaken same always s a → Holds same always (after_all s a)
  still_holds s [] h x = h
  still_holds s (t ∷ a) h x = still_holds t.after a x.0.holds x.1

  -- a step of a call on the collector
  pub record CallStep (s : World V) (who : ℕ) (event : CollectorEvent) (k : InFlight V) (o : Outcome V) (s' : World V) : Type 0 where
    pub collector_report : Collection
    pub step : Collected same always s.forest s.machines who event collector_report s'.forest
    pub machines : s'.machines ≡ s.machines
    pub calls : s'.calls ≡ slice_set s.calls who (call_after collector_report.outcome k)
    pub outcome : o ≡ collected collector_report.outcome
    pub inside : who < length s.calls

  by_misuse : (s s' : World V) (who : ℕ) (event : Event V) (x : Option Fault) (told : Report V) → Does same always s who event x told s' → Unrefused told.outcome → (x ≡ None) × Proceeds same always s who event told s'
  by_misuse s s' who event None told d u = (refl, d)
  by_misuse s s' who event (Some f) told d u = absurd (not_refused told.outcome u (of_fault f) (ap (λ (r : Report V). r.outcome) d.0))

  as_step : (s s' : World V) (who : ℕ) (event : CollectorEvent) (k : InFlight V) (told : Report V) (o : Outcome V) → told.outcome ≡ o → who < length s.calls → Collects same always (engine_of s) who event k told (engine_of s') → CallStep s who event k o s'
  as_step s s' who event k told o e inside c = record { collector_report = c.collector_report; step = c.step; machines = c.machines; calls = c.calls; outcome = sym e ∙ ap (λ (r : Report V). r.outcome) c.report; inside = inside }

  begins : (s : World V) (t : Taken V) (who : ℕ) (o : Op V) (x : CollectorOp) → Holds same always s → target o ≡ target.Collector x → IsStep same always s t.step t.report t.after → t.step ≡ record { worker = who; event = Begin o } → Unrefused t.report.outcome
      → CallStep s who (collector_event.Begin x) (Collecting x) t.report.outcome t.after
  begins s t who o x h e is at u =
      let P : Step V → Type 0 = λ y. IsStep same always s y t.report t.after in
      let tk : TakesStep same always s (record { worker = who; event = Begin o }) t.report t.after = (subst P at is).does in
      let out : tk.told.outcome ≡ t.report.outcome = sym (ap (λ (r : Report V). r.outcome) tk.report) in
      let Q : Outcome V → Type 0 = λ y. Unrefused y in
      let d = by_misuse (engine_of s) (engine_of t.after) who (Begin o) (misuse (engine_of s) who (Begin o)) tk.told tk.engine.does (subst Q (sym out) u) in
      let reg : (place_of s who).registered ≡ true = of_registered (place_of s who).registered (if is_busy (slice_get s.calls who) then Some (interruption (target o)) else unready (target o) (place_of s who)) d.0 in
      let inside : who < length s.calls = subst (λ (n : ℕ). who < n) h.0.table (held_place s.forest.collector.table who reg) in
      let R : Target V → Type 0 = λ y. BeginsAt same always (engine_of s) who y tk.told (engine_of t.after) in
      as_step s t.after who (collector_event.Begin x) (Collecting x) tk.told t.report.outcome out inside (subst R e d.1)

  goes : (s : World V) (t : Taken V) (who : ℕ) (noise : Noise Id V) (x : CollectorOp) → who < length s.calls → slice_get s.calls who ≡ Some (Collecting x) → IsStep same always s t.step t.report t.after → t.step ≡ record { worker = who; event = Go noise } → Unrefused t.report.outcome
      → CallStep s who collector_event.Go (Collecting x) t.report.outcome t.after
  goes s t who noise x inside on is at u =
      let P : Step V → Type 0 = λ y. IsStep same always s y t.report t.after in
      let D : Option (InFlight V) → Type 0 = λ k. StepsUnless same always (is_reserving k && is_full s.log) s (record { worker = who; event = Go noise }) t.report t.after in
      let tk : TakesStep same always s (record { worker = who; event = Go noise }) t.report t.after = subst D on (subst P at is).does in
      let out : tk.told.outcome ≡ t.report.outcome = sym (ap (λ (r : Report V). r.outcome) tk.report) in
      let Q : Outcome V → Type 0 = λ y. Unrefused y in
      let d = by_misuse (engine_of s) (engine_of t.after) who (Go noise) (misuse (engine_of s) who (Go noise)) tk.told tk.engine.does (subst Q (sym out) u) in
      let R : Option (InFlight V) → Type 0 = λ k. GoesAt same always (engine_of s) who k noise tk.told (engine_of t.after) in
      as_step s t.after who collector_event.Go (Collecting x) tk.told t.report.outcome out inside (subst R on d.1)

  -- what a whole call leaves
  pub record Finished (s : World V) (who : ℕ) (x : CollectorOp) (s' : World V) : Type 0 where
    pub ends : collector.Finishes s.forest.collector who x s'.forest.collector
    pub machines : s'.machines ≡ s.machines
    pub calls : s'.calls ≡ slice_set s.calls who Idle
    pub inside : who < length s.calls

  module _ (laws : RoundLaws {T = Slot V} (Unit {0}) slot_names) where
    -- from one step of it on
    to_end : (c0 : State (Slot V) (Unit {0})) (who : ℕ) (x : CollectorOp) (ts : List (Taken V)) (s now : World V) (n : ℕ) (newest : Option Collection) (event : CollectorEvent) (o : Outcome V) → IsGoing c0 who x n newest event s.forest.collector → CallStep s who event (Collecting x) o now
        → AreTaken same always now ts → GoesToEnd who o ts
        → collector.Finishes c0 who x (after_all now ts).forest.collector × ((after_all now ts).machines ≡ s.machines) × ((after_all now ts).calls ≡ slice_set s.calls who Idle)
    to_end c0 who x [] s now n newest event o g c are end =
        let over : c.collector_report.outcome ≡ collector_outcome.Done = was_done {V = V} c.collector_report.outcome (sym c.outcome ∙ end) in
        let ended = laws.ends c0 s.forest.collector now.forest.collector who x n (suc n) newest event c.collector_report (omega arith) g c.step.report c.step.state (λ r. absurd (cc (over, r))) in (
          record { most = suc n; reports = ended.0; newest = c.collector_report; call = ended.1; done = over },
          c.machines,
          c.calls ∙ ap (λ (y : CollectorOutcome). slice_set s.calls who (call_after y (Collecting x))) over,
        )
    to_end c0 who x (t ∷ ts) s now n newest event o g c are end =
        let on : c.collector_report.outcome ≡ collector_outcome.Running = was_running {V = V} c.collector_report.outcome (sym c.outcome ∙ end.0) in
        let calls : now.calls ≡ slice_set s.calls who (Collecting x) = c.calls ∙ ap (λ (y : CollectorOutcome). slice_set s.calls who (call_after y (Collecting x))) on in
        let old = get_inside s.calls who c.inside in
        let here : slice_get now.calls who ≡ Some (Collecting x) = ap (λ (ks : List (InFlight V)). slice_get ks who) calls ∙ set_here s.calls who (Collecting x) old.0 old.1 in
        let inside : who < length now.calls = slice_get_within now.calls who (Collecting x) here in
        let next = goes now t who end.1.0 x inside here are.0 end.1.1 (by_end who t.report.outcome ts end.2) in
        let more = laws.more c0 s.forest.collector now.forest.collector who x n newest event c.collector_report g c.step.report c.step.state on in
        let r = to_end c0 who x ts now t.after (n + 1) (Some c.collector_report) collector_event.Go t.report.outcome more next are.1 end.2 in (
          r.0,
          r.1 ∙ c.machines,
          r.2 ∙ ap (λ (ks : List (InFlight V)). slice_set ks who Idle) calls ∙ set-set s.calls who (Collecting x) Idle,
        )

    whole_call : (s : World V) (who : ℕ) (o : Op V) (x : CollectorOp) (ts : List (Taken V)) → Holds same always s → target o ≡ target.Collector x → AreTaken same always s ts → IsWholeCall who o ts → Finished s who x (after_all s ts)
    whole_call s who o x [] h e are w = absurd w
    whole_call s who o x (t ∷ ts) h e are w =
        let c = begins s t who o x h e are.0 w.0 (by_end who t.report.outcome ts w.1) in
        let r = to_end s.forest.collector who x ts s t.after 0 None (collector_event.Begin x) t.report.outcome (laws.begins s.forest.collector who x) c are.1 w.1 in
        record { ends = r.0; machines = r.1; calls = r.2; inside = c.inside }

    -- a whole round
    pub record Rounded (s : World V) (who : ℕ) (flushed s' : World V) : Type 0 where
      pub round : collector.IsRound s.forest.collector who s'.forest.collector
      pub queue : round.flushed.queue ≡ flushed.forest.collector.queue
      pub holds : Holds same always s'
      pub machines : s'.machines ≡ s.machines
      pub calls : s'.calls ≡ slice_set s.calls who Idle
      pub inside : who < length s.calls

    whole_round : (s : World V) (who : ℕ) (r : Round V) → Holds same always s → AreTaken same always s (r.pin ++ (r.flush ++ r.unpin)) → IsRound who r → Rounded s who (after_all s (r.pin ++ r.flush)) (after_all s (r.pin ++ (r.flush ++ r.unpin)))
    whole_round s who r h are is =
        let a = split s r.pin (r.flush ++ r.unpin) are in
        let s1 = after_all s r.pin in
        let h1 = still_holds s r.pin h a.0 in
        let x1 = whole_call s who Pin collector_op.Pin r.pin h refl a.0 is.pins in
        let b = split s1 r.flush r.unpin a.1 in
        let s2 = after_all s1 r.flush in
        let h2 = still_holds s1 r.flush h1 b.0 in
        let x2 = whole_call s1 who Flush collector_op.Flush r.flush h1 refl b.0 is.flushes in
        let s3 = after_all s2 r.unpin in
        let h3 = still_holds s2 r.unpin h2 b.1 in
        let x3 = whole_call s2 who Unpin collector_op.Unpin r.unpin h2 refl b.1 is.unpins in
        let to2 : after_all s (r.pin ++ r.flush) ≡ s2 = after_both s r.pin r.flush in
        let to3 : after_all s (r.pin ++ (r.flush ++ r.unpin)) ≡ s3 = after_both s r.pin (r.flush ++ r.unpin) ∙ after_both s1 r.flush r.unpin in
        let P : World V → Type 0 = λ y. Rounded s who y (after_all s (r.pin ++ (r.flush ++ r.unpin))) in
        let Q : World V → Type 0 = λ y. Rounded s who s2 y in
        subst P (sym to2) (subst Q (sym to3) (record {
          round = record { pinned = s1.forest.collector; flushed = s2.forest.collector; pins = x1.ends; flushes = x2.ends; unpins = x3.ends };
          queue = refl;
          holds = h3;
          machines = x3.machines ∙ x2.machines ∙ x1.machines;
          calls = x3.calls ∙ ap (λ (ks : List (InFlight V)). slice_set ks who Idle) (x2.calls ∙ ap (λ (ks : List (InFlight V)). slice_set ks who Idle) x1.calls ∙ set-set s.calls who Idle Idle) ∙ set-set s.calls who Idle Idle;
          inside = x1.inside;
        }))

    -- more of them
    pub record Ran (s : World V) (who n : ℕ) (s' : World V) : Type 0 where
      pub rounds : collector.AreRounds s.forest.collector who n s'.forest.collector
      pub holds : Holds same always s'
      pub machines : s'.machines ≡ s.machines

    more_rounds : (rs : List (Round V)) (s : World V) (who : ℕ) → Holds same always s → AreTaken same always s (steps_in rs) → AreRounds who rs → Ran s who (length rs) (after_all s (steps_in rs))
    more_rounds [] s who h are is = record { rounds = refl; holds = h; machines = refl }
    more_rounds (r ∷ rs) s who h are is =
        let a = split s (r.pin ++ (r.flush ++ r.unpin)) (steps_in rs) are in
        let s1 = after_all s (r.pin ++ (r.flush ++ r.unpin)) in
        let x = whole_round s who r h a.0 is.0 in
        let y = more_rounds rs s1 who x.holds a.1 is.1 in
        let P : World V → Type 0 = λ z. Ran s who (suc (length rs)) z in
        subst P (sym (after_both s (r.pin ++ (r.flush ++ r.unpin)) (steps_in rs))) (record {
          rounds = (s1.forest.collector, x.round, y.rounds);
          holds = y.holds;
          machines = y.machines ∙ x.machines;
        })

    -- in a quiet state no call on the tree is in flight
    module _ (s : World V) (h : Holds same always s) (q : IsQuiet s) where
      idle_at : (i : ℕ) (m : Machine Id V) → slice_get s.machines i ≡ Some m → (k : InFlight V) → slice_get s.calls i ≡ Some k → (b : Bool) → (place_of s i).registered ≡ b → m.phase ≡ Ended
      idle_at i m here k at true reg =
          let e : Some k ≡ Some Idle = sym at ∙ q.idle i reg in
          let same_call : k ≡ Idle = cc in
          let P : InFlight V → Type 0 = λ y. IsAt y (place_of s i) m in
          (subst P same_call (h.0.each i k m at here)).1
      idle_at i m here Idle at false reg = (h.0.each i Idle m at here).1
      idle_at i m here (Collecting o) at false reg = (h.0.each i (Collecting o) m at here).1
      idle_at i m here (Reserving o) at false reg = (h.0.each i (Reserving o) m at here).3
      idle_at i m here (Securing o) at false reg = (h.0.each i (Securing o) m at here).2
      idle_at i m here Walking at false reg =
          let g : (place_of s i).registered ≡ true = (h.0.safe.sound.sound.guarded i m here).registered (h.0.each i Walking m at here).0 in
          absurd (cc (g, reg))

      all_ended : (i : ℕ) (m : Machine Id V) → slice_get s.machines i ≡ Some m → m.phase ≡ Ended
      all_ended i m here =
          let k = get_inside s.calls i (subst (λ (n : ℕ). i < n) h.0.machines (slice_get_within s.machines i m here)) in
          idle_at i m here k.0 k.1 (place_of s i).registered refl

      collector_quiet : collector.IsQuiet s.forest.collector
      collector_quiet = record {
        idle = λ i reg.
            let at = q.idle i reg in
            let m = get_inside s.machines i (subst (λ (n : ℕ). i < n) (sym h.0.machines) (slice_get_within s.calls i Idle at)) in
            (h.0.each i Idle m.0 at m.1).0;
        unpinned = q.unpinned;
        far = q.far;
      }

-- a sum above none has one above none
some_at : {A : Type 0} (f : A → ℕ) (d : A) (xs : List A) → 1 ≤ sum_by f xs → (i : ℕ) × (1 ≤ f (slice_index_or xs i d))
some_at f d [] le = absurd (omega arith)
some_at f d (x ∷ xs) le = elim (cases_lt 0 (f x)) [
  | inl lt ↦ (0, omega arith)
  | inr ge ↦ (let r = some_at f d xs (let e = sum_by-cons f x xs in omega (arith, e, le, ge)) in (suc r.0, r.1))
]

some_in : {A : Type 0} (f : A → ℕ) (xs : List A) → 1 ≤ sum_by f xs → (x : A) × Contains xs x × (1 ≤ f x)
some_in f [] le = absurd (omega arith)
some_in f (x ∷ xs) le = elim (cases_lt 0 (f x)) [
  | inl lt ↦ (x, (0, omega arith, refl), omega arith)
  | inr ge ↦ (let r = some_in f xs (let e = sum_by-cons f x xs in omega (arith, e, le, ge)) in (r.0, (suc r.1.0, let l = r.1.1 in omega (arith, l), r.1.2), r.2))
]

-- the removal of a name is its removal
is_removal : {J : Type 0} (n : Name) (w : Work J) → 1 ≤ counts_name (name_of w) n → w ≡ Remove n
is_removal n Blank le = absurd (omega arith)
is_removal n (Run job) le = absurd (omega arith)
is_removal {J} n (Remove m) le = by (is_name m n) refl le
  where
    by : (b : Bool) → is_name m n ≡ b → 1 ≤ (if b then 1 else 0) → ◌≡◌ {A = Work J} (Remove m) (Remove n)
    by false apart le = absurd (omega arith)
    by true same le = ap (λ (x : Name). Remove x) (is_name_same m n same)

no_jobs : {A : Type 0} (f : A → ℕ) (xs : List A) → xs ≡ [] → sum_by f xs ≡ 0
no_jobs f xs e = ap (sum_by f) e

module _ {V : Type 0} (same : V → V → Bool) (always : Bool) (calls : CallLaws {C = Id} {V = V} id_number same always) (laws : RoundLaws {T = Slot V} (Unit {0}) slot_names) where
  -- where a removal stands that is in no queued bag and in no hand
  in_other_bag : (s s' : World V) (who : ℕ) → Holds same always s' → collector.IsEmptied s.forest.collector who s'.forest.collector → (n : Name) → 1 ≤ weight (removes n) s'.forest.collector
      → (q : ℕ) × (q ≢ who) × ((place_of s' q).registered ≡ true) × ((e : Deferral (Unit {0})) × Contains (place_of s' q).bag e × (e.work ≡ Remove n))
  in_other_bag s s' who h x n some =
      let c = s'.forest.collector in
      let none = no_jobs (in_bag (removes n)) c.queue x.queue in
      let at = some_at (at_place (removes n)) blank c.table (omega (arith, some, none)) in
      let q = at.0 in
      let hand = no_jobs (removes n) (place c q).hand (x.hands q) in
      let here : 1 ≤ sum_by (removes n) (place c q).bag = (let y = at.1 in omega (arith, y, hand)) in
      let e = some_in (removes n) (place c q).bag here in (
        q,
        λ is. absurd (let z = no_jobs (removes n) (place c q).bag (ap (λ (i : ℕ). (place c i).bag) is ∙ x.bag) in omega (arith, z, here)),
        held (place c q).registered q here refl,
        (e.0, e.1, is_removal n e.0.work e.2),
      )
    where
      held : (b : Bool) → (q : ℕ) → 1 ≤ sum_by (removes n) (place s'.forest.collector q).bag → (place s'.forest.collector q).registered ≡ b → b ≡ true
      held true q some is = refl
      held false q some is = absurd (
          let free = h.0.safe.sound.sound.tells.table.free q is in
          let z = no_jobs (removes n) (place s'.forest.collector q).bag (ap (λ (p : Participant (Unit {0})). p.bag) free) in
          omega (arith, z, some))

  left_over : (s s' : World V) (who : ℕ) → Holds same always s → IsQuiet s → Holds same always s' → s'.machines ≡ s.machines → collector.IsEmptied s.forest.collector who s'.forest.collector → CameBack s' who
  left_over s s' who h quiet h' machines x = record { each = each; few = λ i. h'.0.safe.sound.sound.orderly.bags i }
    where
      over : (i : ℕ) (m : Machine Id V) → slice_get s'.machines i ≡ Some m → m.phase ≡ Ended
      over i m here = all_ended same always laws s h quiet i m (ap (λ (ms : List (Machine Id V)). slice_get ms i) (sym machines) ∙ here)

      made_none : (m : Machine Id V) (n : ℕ) → m.phase ≡ Ended → MadeBy id_number m.phase n → ⊥
      made_none m n e b = let P : Phase Id V → Type 0 = λ y. MadeBy id_number y n in subst P e b

      taken_none : (m : Machine Id V) (n : ℕ) → m.phase ≡ Ended → TakenBy id_number m.phase n → ⊥
      taken_none m n e b = let P : Phase Id V → Type 0 = λ y. TakenBy id_number y n in subst P e b

      each : (n : ℕ) → Stands (nodes s'.forest n) → IsInTree s' n ⊎ IsLeft s' who n
      each n st =
          let at : IsSomewhere s' n = node_somewhere same always calls s' h' n st.made in
          elim at.one [
            | inl a ↦ elim a [
              | inl b ↦ absurd (made_none b.held.0 n (over b.worker b.held.0 b.held.1) b.held.2)
              | inr b ↦ inl b
            ]
            | inr a ↦ elim a [
              | inl b ↦ inr (
                  let retired : (nodes s'.forest n).retired ≡ true = elim (at.handed b) [
                    | inl r ↦ r
                    | inr t ↦ absurd (taken_none t.1.0 n (over t.0 t.1.0 t.1.1) t.1.2)
                  ] in
                  let w = retired_waits (nodes s'.forest n) retired st in
                  let w' : is_handed_over (nodes s'.forest (number (named n))) ≡ true = ap (λ (k : ℕ). is_handed_over (nodes s'.forest k)) (number_named n) ∙ w in
                  let one : weight (removes (named n)) s'.forest.collector ≡ 1 = h'.0.filed.filed (named n) ∙ ap bit w' in
                  let y = in_other_bag s s' who h' x (named n) (omega (arith, one)) in
                  record { waits = b; worker = y.0; other = y.1; registered = y.2; job = y.3.0; deferred = y.3.1; removal = y.3.2 })
              | inr b ↦ absurd (let g : (nodes s'.forest n).destroyed ≡ true = b.gone in let k : (nodes s'.forest n).destroyed ≡ false = st.kept in cc)
            ]
          ]

  -- after as many rounds as the queued bags want, what stands is in the tree or in other workers' unsealed bags
  pub came_back : (s : World V) (who : ℕ) (rounds : List (Round V)) → Holds same always s → IsQuiet s → AreRounds who rounds → AreTaken same always s (steps_in rounds) → rounds_wanted (bags_left s rounds) ≤ length rounds → CameBack (after_all s (steps_in rounds)) who
  came_back s who [] h quiet are taken enough = absurd (omega (arith, enough))
  came_back s who (r ∷ rs) h quiet are taken enough =
      let a = split same always s (r.pin ++ (r.flush ++ r.unpin)) (steps_in rs) taken in
      let s1 = after_all s (r.pin ++ (r.flush ++ r.unpin)) in
      let x = whole_round same always laws s who r h a.0 are.0 in
      let y = more_rounds same always laws rs s1 who x.holds a.1 are.1 in
      let sound = h.0.safe.sound in
      let few : 1 + div_ceil (length x.round.flushed.queue) 8 ≤ length rs = (let e = ap (λ (q : List (Sealed (Unit {0}))). div_ceil (length q) 8) x.queue in omega (arith, e, enough)) in
      let emptied = laws.empties sound.past s.forest.collector s1.forest.collector (after_all s1 (steps_in rs)).forest.collector who (length rs) sound.sound.tells sound.sound.orderly h.0.filed.sealing h.0.filed.expiry (collector_quiet same always laws s h quiet) x.round y.rounds few in
      let P : World V → Type 0 = λ z. CameBack z who in
      subst P (sym (after_both same always s (r.pin ++ (r.flush ++ r.unpin)) (steps_in rs))) (left_over s (after_all s1 (steps_in rs)) who h quiet y.holds (y.machines ∙ x.machines) emptied)

  -- no more bags are left than nodes wait
  bags_few : (s : World V) (who : ℕ) (rounds : List (Round V)) → Holds same always s → IsQuiet s → AreRounds who rounds → AreTaken same always s (steps_in rounds) → 0 < length rounds → bags_left s rounds ≤ length (waiting_nodes s)
  bags_few s who [] h quiet are taken some = absurd (omega arith)
  bags_few s who (r ∷ rs) h quiet are taken some =
      let a = split same always s (r.pin ++ (r.flush ++ r.unpin)) (steps_in rs) taken in
      let s1 = after_all s (r.pin ++ (r.flush ++ r.unpin)) in
      let x = whole_round same always laws s who r h a.0 are.0 in
      let sound = h.0.safe.sound in
      let few = laws.bags sound.past s.forest.collector s1.forest.collector who sound.sound.tells sound.sound.orderly h.0.filed.sealing (collector_quiet same always laws s h quiet) x.round in
      let e = ap (λ (q : List (Sealed (Unit {0}))). length q) x.queue in
      let jobs = jobs_waiting s h.0.filed in
      omega (arith, few, e, jobs)

  -- so it is after as many rounds as the nodes that wait want
  pub all_came_back : (s : World V) (who : ℕ) (rounds : List (Round V)) → Holds same always s → IsQuiet s → AreRounds who rounds → AreTaken same always s (steps_in rounds) → rounds_wanted (length (waiting_nodes s)) ≤ length rounds → CameBack (after_all s (steps_in rounds)) who
  all_came_back s who rounds h quiet are taken enough =
      let few = bags_few s who rounds h quiet are taken (omega (arith, enough)) in
      let low = div_ceil_times (bags_left s rounds) 8 (omega arith) in
      let high = div_ceil_times (length (waiting_nodes s)) 8 (omega arith) in
      let a = low.1 in
      let b = high.0 in
      came_back s who rounds h quiet are taken (omega (arith, a, b, few, enough))

-- what came back after rounds came back at the end of a run of just these
pub in_run : {V : Type 0} (same : V → V → Bool) (always : Bool) (s s' : World V) (steps : List (Step V)) (reports : List (Report V)) (who : ℕ) (rounds : List (Round V))
    → (AreTaken same always s (steps_in rounds) → CameBack (after_all s (steps_in rounds)) who) → (run : IsRun same always s steps reports s') → run.taken ≡ steps_in rounds → CameBack s' who
in_run {V} same always s s' steps reports who rounds law run is =
    let P : List (Taken V) → Type 0 = λ ts. AreTaken same always s ts in
    let Q : World V → Type 0 = λ x. CameBack x who in
    subst Q (ap (after_all s) (sym is) ∙ run.last) (law (subst P is run.each))
