-- A call that is taken alone comes nearer to its end with each step.
use Rattle.std.proofs.Common.{◌≡◌, ◌<◌, ◌≤◌, ℕ, ◌+◌, ◌*◌, ◌-◌, arith, Bool, true, false, List, [], ◌∷◌, length, take, refl, sym, ◌∙◌, ap, subst, inl, inr}
use Rattle.std.proofs.Math.ListN.{set}
use Rattle.std.specs.Prelude.{Option, None, Some, slice_get, if◌then◌else◌}
use Rattle.std.proofs.lemmas.Bool.{false≢true}
use Rattle.std.proofs.lemmas.Option.{slice_get_within}
use Rattle.crossbeam_epoch.specs.declared.fault.Fault.{Fault}
use Rattle.crossbeam_epoch.specs.declared.world.participant.Phase.{Phase as CollectorPhase}
use Rattle.crossbeam_epoch.specs.declared.world.participant.Phase.TheVariants as collector_phase
use Rattle.crossbeam_epoch.specs.declared.world.report.Event.TheVariants as collector_event
use Rattle.crossbeam_epoch.specs.declared.world.report.Op.{Op as CollectorOp}
use Rattle.crossbeam_epoch.specs.declared.world.report.Op.TheVariants as collector_op
use Rattle.crossbeam_epoch.specs.declared.world.report.Outcome.{Outcome as CollectorOutcome}
use Rattle.crossbeam_epoch.specs.declared.world.report.Outcome.TheVariants as collector_outcome
use Rattle.crossbeam_epoch.specs.world.Machine.{State, place}
use Rattle.crossbeam_epoch.specs.world.Progress.{Begins, GoesOn, comes_by, left_in, steps_left as collector_steps_left, stage as stage_of}
use Rattle.congee.specs.declared.protocol.machine.Machine.{Machine}
use Rattle.congee.specs.declared.protocol.machine.Noise.{Noise}
use Rattle.congee.specs.declared.protocol.op.Op.{Op as Point}
use Rattle.congee.specs.declared.protocol.op.Op.TheVariants as point
use Rattle.congee.specs.declared.protocol.phase.Phase.{Phase}
use Rattle.congee.specs.declared.protocol.phase.Phase.TheVariants.{Scan, Ended}
use Rattle.congee.specs.Heap.{Node}
use Rattle.congee.specs.protocol.Alone.{NoOtherLocks, IsUndisturbed, HasAnswer, IsPast, StepsOn, steps_left, steps_whole, tree_nodes, tree_pairs}
use Rattle.congee.specs.protocol.Play.{Settled, begun, first_phase}
use Rattle.congee.specs.protocol.Steps.{Stepped}
use Rattle.congee.specs.protocol.State.{is_done, is_past}
use Rattle.joint.specs.declared.engine.in_flight.InFlight.{InFlight}
use Rattle.joint.specs.declared.engine.in_flight.InFlight.TheVariants.{Idle, Collecting, Reserving, Securing, Walking}
use Rattle.joint.specs.declared.id.Id.{Id}
use Rattle.joint.specs.declared.nodes.slot.Slot.{Slot}
use Rattle.joint.specs.declared.steps.Event.TheVariants.{Begin, Go}
use Rattle.joint.specs.declared.steps.Op.{Op}
use Rattle.joint.specs.declared.steps.Op.TheVariants as op
use Rattle.joint.specs.declared.steps.Report.{Report}
use Rattle.joint.specs.declared.steps.Survey.{Survey}
use Rattle.joint.specs.declared.steps.Survey.TheVariants as survey
use Rattle.joint.specs.declared.steps.Step.{Step}
use Rattle.joint.specs.calls.Alone.{OthersUnlocked, IsNext, AreNext, AllInFlight, steps_alone, AllEndAlone}
use Rattle.joint.specs.nodes.Nodes.{Nodes, nodes, Refuses}
use Rattle.joint.specs.engine.Intact.{IsAt, IsIntact, call_after, over_at, rested, resting, secured_call, secured_machines, writes}
use Rattle.joint.specs.Names.{root}
use Rattle.joint.specs.engine.Laws.{CallLaws, AloneLaw, WholeLaw, ProgressLaws}
use Rattle.joint.specs.Reports.{target, collected, is_in_flight}
use Rattle.joint.specs.calls.Runs.{Taken, AreTaken}
use Rattle.joint.specs.engine.Sound.{IsUnderWay}
use Rattle.joint.specs.nodes.View.{id_number}
use Rattle.joint.specs.world.World.{Holds, IsStep, StepsUnless, finds_journal_full}
use Rattle.joint.specs.engine.Engine.{World, EngineHolds, BeginsAt, Collects, Does, EntersUnless, Enters, GoesAt, GoesOnReserving, Reserves, Surveys, Walks, engine_of, finds_none, is_busy, misuse, reserving}
use Rattle.joint.proofs.lemmas.engine.Collecting.{get_inside, inside_machines}
use Rattle.joint.proofs.lemmas.engine.Entering.{begin_within, begins_idle}
use Rattle.joint.proofs.lemmas.engine.Reported.{may_go}
use Rattle.joint.proofs.lemmas.engine.Reserving.{next_here}
use Rattle.joint.proofs.lemmas.engine.Telling.{survey_ends}
use Rattle.joint.proofs.lemmas.engine.Walking as walking
use Rattle.joint.proofs.lemmas.calls.Rounds.{taken_front}
use Rattle.congee.proofs.Laws.{get_set, set_here}

-- the steps that a worker's call takes at most from here on
abbrev left_of : {V : Type 0} → Nodes V → ℕ → Option (InFlight V) → Option (Machine Id V) → ℕ
left_of f who (Some (Collecting op)) m = collector_steps_left f.collector who
left_of f who (Some (Reserving op)) m = 46
left_of f who (Some (Securing op)) m = collector_steps_left f.collector who + 43
left_of f who (Some Walking) (Some m) = steps_left id_number (nodes f) m.phase
left_of f who _ _ = 0

-- and what is sure of it
abbrev sure_of : {V : Type 0} → Nodes V → Option (InFlight V) → Option (Machine Id V) → Type 0
sure_of f (Some Walking) (Some m) = IsUndisturbed id_number (nodes f) m.phase
sure_of f _ _ = Unit {0}

-- no other call holds a lock, and so many steps are left at most
record Alone {V : Type 0} (s : World V) (who n : ℕ) : Type 0 where
  pub unlocked : OthersUnlocked s who
  pub sure : sure_of s.forest (slice_get s.calls who) (slice_get s.machines who)
  pub left : left_of s.forest who (slice_get s.calls who) (slice_get s.machines who) ≤ n

-- an unpin ends as it begins
unpin_never : (x : CollectorPhase) → comes_by (stage_of x) collector_op.Unpin ≡ true → ⊥
unpin_never collector_phase.Idle e = cc e
unpin_never _ e = cc e

unpins : (V : Type 0) {T J : Type 0} (s s' : State T J) (w : ℕ) (o : CollectorOutcome) → Begins s w collector_op.Unpin o s' → is_in_flight {V = V} (collected o) ≡ true → ⊥
unpins V s s' w collector_outcome.Running g on = unpin_never (place s' w).phase g.1.1
unpins V s s' w collector_outcome.Done g on = cc on
unpins V s s' w (collector_outcome.Refused f) g on = cc on

-- a securing takes three steps at most
secures_in : (places hand : ℕ) (x : CollectorPhase) → comes_by (stage_of x) (collector_op.Secure 2) ≡ true → (0 < left_in places x hand) × (left_in places x hand ≤ 3)
secures_in places hand (collector_phase.Secure n) e = (omega arith, omega arith)
secures_in places hand collector_phase.SecureSeal e = (omega arith, omega arith)
secures_in places hand (collector_phase.SecureQueue seal) e = (omega arith, omega arith)
secures_in places hand _ e = absurd (cc e)

at_place : {A : Type 0} (xs ys : List A) (w : ℕ) (x : A) → w < length xs → ys ≡ set xs w x → slice_get ys w ≡ Some x
at_place {A} xs ys w x l e = let y : (y : A) × (slice_get xs w ≡ Some y) = get_inside xs w l in ap (λ zs. slice_get zs w) e ∙ set_here xs w x y.0 y.1

module _ {V : Type 0} where
  -- a writing call begins on its key
  begun_left : (h : ℕ → Node V) (p : Point V) → writes p ≡ true → steps_left id_number h (first_phase root p) ≡ 43
  begun_left h (point.Get k) e = absurd (cc e)
  begun_left h (point.Insert k v) e = refl
  begun_left h (point.Remove k) e = refl
  begun_left h (point.ComputePresent k) e = refl
  begun_left h (point.ComputeInsert k) e = refl
  begun_left h (point.Exchange k old new) e = refl
  begun_left h (point.Range start end size) e = absurd (cc e)
  begun_left h (point.RangeInclusive start last size) e = absurd (cc e)

  -- a call that is under way has not ended
  not_past : (x : Phase Id V) → IsUnderWay x → is_done x ≡ false → IsPast x → ⊥
  not_past (Scan s) u d p = let q : is_past s.stage ≡ true = ap is_past p in absurd (false≢true (sym d ∙ q))
  not_past Ended u d p = u
  not_past _ u d p = p

  -- the calls of others stay
  unlocked_set : (who : ℕ) (ms ms' : List (Machine Id V)) (m : Machine Id V) → ms' ≡ set ms who m → NoOtherLocks id_number who ms → NoOtherLocks id_number who ms'
  unlocked_set who ms ms' m e free j n k ne at locked = elim (get_set ms who j m k (subst (λ xs. slice_get xs j ≡ Some k) e at)) [
    | inl x ↦ absurd (ne x.0)
    | inr x ↦ free j n k ne x.1 locked
  ]

  -- a scan that is done leaves its place
  rest_on : (h h' : ℕ → Node V) (x : Phase Id V) (b : Bool) (now : Machine Id V) → StepsOn id_number h x h' now.phase
      → IsUndisturbed id_number h' (if b then resting else now).phase × (steps_left id_number h' (if b then resting else now).phase < steps_left id_number h x)
  rest_on h h' x true now on = ((tt, tt), (let q = on.nearer in omega (arith, q)))
  rest_on h h' x false now on = (on.undisturbed, on.nearer)

module _ {V : Type 0} (same : V → V → Bool) (always : Bool) (laws : CallLaws {C = Id} {V = V} id_number same always) (progress : ProgressLaws (Slot V) (Unit {0}))
    (steps : (f : Nodes V) → AloneLaw {C = Id} {V = V} id_number same always f.version_max (Refuses f)) (begins : (h : ℕ → Node V) (p : Point V) → IsUndisturbed id_number h (first_phase root p)) (whole_left : WholeLaw V id_number) where
  module _ (s s' : World V) (w : ℕ) (holds : EngineHolds same always s) where
    -- what a step makes of the call, with n steps left before it
    abbrev After : ℕ → Type 0
    After n = Alone s' w (n - 1) × (0 < n)

    -- with the call in its place, and as many steps as its place says
    after_by : (k : InFlight V) (m : Option (Machine Id V)) (n : ℕ) → OthersUnlocked s' w → slice_get s'.calls w ≡ Some k → slice_get s'.machines w ≡ m → sure_of s'.forest (Some k) m → left_of s'.forest w (Some k) m < n → After n
    after_by k m n free ek em sure less = (
      record {
        unlocked = free;
        sure = (let P : Option (InFlight V) → Type 0 = λ x. sure_of s'.forest x (slice_get s'.machines w) in let Q : Option (Machine Id V) → Type 0 = λ y. sure_of s'.forest (Some k) y in subst P (sym ek) (subst Q (sym em) sure));
        left = (let a = ap (λ x. left_of s'.forest w x (slice_get s'.machines w)) ek in let b = ap (λ y. left_of s'.forest w (Some k) y) em in omega (arith, a, b, less));
      },
      omega (arith, less),
    )

    -- a call on the collector
    collects_by : (o : CollectorOutcome) (op : CollectorOp) (n : ℕ) → OthersUnlocked s' w → GoesOn s.forest.collector w op o s'.forest.collector → s'.calls ≡ set s.calls w (call_after o (Collecting op)) → w < length s.calls → is_in_flight {V = V} (collected o) ≡ true
        → collector_steps_left s.forest.collector w ≤ n → After n
    collects_by collector_outcome.Running op n free g e l on le = after_by (Collecting op) (slice_get s'.machines w) n free (at_place s.calls s'.calls w (Collecting op) l e) refl tt (let x = g.1 in omega (arith, x, le))
    collects_by collector_outcome.Done op n free g e l on le = absurd (cc on)
    collects_by (collector_outcome.Refused f) op n free g e l on le = absurd (cc on)

    -- a step on the tree, with the call in flight after it
    walked_by : (b : Bool) (n : ℕ) (f : Machine Id V) → OthersUnlocked s' w → slice_get s'.calls w ≡ Some (if b then Idle else Walking) → is_busy (slice_get s'.calls w) ≡ true → slice_get s'.machines w ≡ Some f → IsUndisturbed id_number (nodes s'.forest) f.phase
        → steps_left id_number (nodes s'.forest) f.phase < n → After n
    walked_by true n f free ek busy em u l = absurd (false≢true (sym (ap is_busy ek) ∙ busy))
    walked_by false n f free ek busy em u l = after_by Walking (Some f) n free ek em u l

    -- a securing, after the last step of which the call is on the tree
    module _ (b : World V) (intact : IsIntact same always b.forest b.machines b.calls) (p : Point V) (e : slice_get b.calls w ≡ Some (Securing p)) (free : OthersUnlocked b w) where
      inside : w < length b.calls
      inside = slice_get_within b.calls w (Securing p) e

      machine : (m : Machine Id V) × (slice_get b.machines w ≡ Some m)
      machine = get_inside b.machines w (subst (λ i. w < i) (sym intact.machines) inside)

      is_at : IsAt (Securing p) (place b.forest.collector w) machine.0
      is_at = intact.each w (Securing p) machine.0 e machine.1

      bounds : (0 < collector_steps_left b.forest.collector w) × (collector_steps_left b.forest.collector w ≤ 3)
      bounds = secures_in (length b.forest.collector.table) (length (place b.forest.collector w).hand) (place b.forest.collector w).phase is_at.0.1

      secures_by : (o : CollectorOutcome) (n : ℕ) → GoesOn b.forest.collector w (collector_op.Secure 2) o s'.forest.collector → s'.calls ≡ set b.calls w (secured_call o (slice_get b.calls w)) → s'.machines ≡ secured_machines o (slice_get b.calls w) b.machines w
          → is_in_flight {V = V} (reserving o) ≡ true → collector_steps_left b.forest.collector w + 43 ≤ n → After n
      secures_by collector_outcome.Running n g ec em on le =
          let calls = at_place b.calls s'.calls w (Securing p) inside (ec ∙ ap (λ k. set b.calls w (secured_call collector_outcome.Running k)) e) in
          let same_ms : s'.machines ≡ b.machines = em ∙ ap (λ k. secured_machines collector_outcome.Running k b.machines w) e in
          after_by (Securing p) (slice_get s'.machines w) n (subst (λ ms. NoOtherLocks id_number w ms) (sym same_ms) free) calls refl tt (let x = g.1 in omega (arith, x, le))
      secures_by collector_outcome.Done n g ec em on le =
          let calls = at_place b.calls s'.calls w Walking inside (ec ∙ ap (λ k. set b.calls w (secured_call collector_outcome.Done k)) e) in
          let set_ms : s'.machines ≡ set b.machines w (begun root p) = em ∙ ap (λ k. secured_machines collector_outcome.Done k b.machines w) e in
          let at_ms = at_place b.machines s'.machines w (begun root p) (subst (λ i. w < i) (sym intact.machines) inside) set_ms in
          let forty = begun_left (nodes s'.forest) p is_at.3 in
          after_by Walking (Some (begun root p)) n (unlocked_set w b.machines s'.machines (begun root p) set_ms free) calls at_ms (begins (nodes s'.forest) p) (let x = bounds.0 in omega (arith, forty, x, le))
      secures_by (collector_outcome.Refused f) n g ec em on le = absurd (cc on)

      secures : (r : Report V) (n : ℕ) → GoesOnReserving same always b w r s' → is_in_flight r.outcome ≡ true → collector_steps_left b.forest.collector w + 43 ≤ n → After n
      secures r n x on le =
          let P : State (Slot V) (Unit {0}) → Type 0 = λ y. GoesOn b.forest.collector w (collector_op.Secure 2) x.collector_report.outcome y in
          let g = subst P (sym x.step.collected.state) (progress.goes_on b.forest.collector w (collector_op.Secure 2) x.collector_report intact.safe.sound.sound.orderly is_at.0 x.step.collected.report) in
          secures_by x.collector_report.outcome n g x.step.call x.step.machine (sym (ap (λ y. is_in_flight y.outcome) x.report) ∙ on) le

    -- a step on the tree
    walks : (noise : Noise Id V) (r : Report V) (n : ℕ) → slice_get s.calls w ≡ Some Walking → noise.fail ≡ false → ((m : Machine Id V) → slice_get s.machines w ≡ Some m → HasAnswer m.kind m.phase noise.answer) → OthersUnlocked s w
        → ((m : Machine Id V) → slice_get s.machines w ≡ Some m → IsUndisturbed id_number (nodes s.forest) m.phase × (steps_left id_number (nodes s.forest) m.phase ≤ n)) → Walks same always s w noise r s' → is_busy (slice_get s'.calls w) ≡ true → After n
    walks noise r n e unfailed answers free sure x busy =
        let m : (m : Machine Id V) × (slice_get s.machines w ≡ Some m) = get_inside s.machines w (inside_machines same always s.forest s.machines s.calls holds.0 w Walking e) in
        let at : IsAt Walking (place s.forest.collector w) m.0 = holds.0.each w Walking m.0 e m.1 in
        let moved = x.step.walked.plays.moved m.0 m.1 in
        let settled : Settled id_number same always (nodes s.forest) s.machines = holds.0.safe.sound.sound.settled in
        let P : Bool → Type 0 = λ y. Stepped id_number same always s.forest.version_max (Refuses s.forest) m.0 (nodes s.forest) y noise.answer moved.now (nodes s'.forest) x.move in
        let on = steps s.forest w settled.0 (nodes s.forest) (nodes s'.forest) s.machines m.0 moved.now x.move noise.answer settled.1 settled.2 m.1 free (sure m.0 m.1).0 (answers m.0 m.1) (not_past m.0.phase at.0 at.1) (subst P unfailed moved.step) in
        let final : s'.machines ≡ set s.machines w (rested moved.now) = walking.final_is same always laws s.forest s.machines s.calls holds.0 (record { who = w; noise = noise }) e x.move s'.forest s'.machines x.step in
        let here : slice_get s'.machines w ≡ Some (rested moved.now) = at_place s.machines s'.machines w (rested moved.now) (subst (λ i. w < i) (sym holds.0.machines) (slice_get_within s.calls w Walking e)) final in
        let calls = at_place s.calls s'.calls w _ (slice_get_within s.calls w Walking e) x.calls in
        let rest = rest_on (nodes s.forest) (nodes s'.forest) m.0.phase (is_done moved.now.phase) moved.now on in
        walked_by (over_at (slice_get s'.machines w)) n (rested moved.now) (unlocked_set w s.machines s'.machines (rested moved.now) final free) calls busy here rest.0 (let q = rest.1 in let b = (sure m.0 m.1).1 in omega (arith, q, b))

    -- the next step of a call in flight
    goes : (k : Option (InFlight V)) (noise : Noise Id V) (r : Report V) (n : ℕ) → slice_get s.calls w ≡ k → noise.fail ≡ false → ((m : Machine Id V) → slice_get s.machines w ≡ Some m → HasAnswer m.kind m.phase noise.answer) → Alone s w n
        → GoesAt same always s w k noise r s' → is_in_flight r.outcome ≡ true → is_busy (slice_get s'.calls w) ≡ true → After n
    goes None noise r n e unfailed answers al x on busy = absurd x
    goes (Some Idle) noise r n e unfailed answers al x on busy = absurd x
    goes (Some (Collecting c)) noise r n e unfailed answers al x on busy =
        let l = slice_get_within s.calls w (Collecting c) e in
        let m : (m : Machine Id V) × (slice_get s.machines w ≡ Some m) = get_inside s.machines w (subst (λ i. w < i) (sym holds.0.machines) l) in
        let at : IsAt (Collecting c) (place s.forest.collector w) m.0 = holds.0.each w (Collecting c) m.0 e m.1 in
        let P : State (Slot V) (Unit {0}) → Type 0 = λ y. GoesOn s.forest.collector w c x.collector_report.outcome y in
        let g = subst P (sym x.step.state) (progress.goes_on s.forest.collector w c x.collector_report holds.0.safe.sound.sound.orderly at.0 x.step.report) in
        let left : left_of s.forest w (slice_get s.calls w) (slice_get s.machines w) ≡ collector_steps_left s.forest.collector w = ap (λ y. left_of s.forest w y (slice_get s.machines w)) e in
        collects_by x.collector_report.outcome c n (subst (λ ms. NoOtherLocks id_number w ms) (sym x.machines) al.unlocked) g x.calls l (sym (ap (λ y. is_in_flight y.outcome) x.report) ∙ on) (let y = al.left in omega (arith, left, y))
    goes (Some (Reserving p)) noise r n e unfailed answers al x on busy =
        let b = x.between in
        let at = next_here same always s.forest s.machines s.calls w b.forest b.machines b.calls x.begins p e in
        let left : left_of s.forest w (slice_get s.calls w) (slice_get s.machines w) ≡ 46 = ap (λ y. left_of s.forest w y (slice_get s.machines w)) e in
        let free = subst (λ ms. NoOtherLocks id_number w ms) (sym x.begins.machine) al.unlocked in
        let three = (bounds b x.begins.intact p at free).1 in
        secures b x.begins.intact p at free r n x.goes on (let y = al.left in omega (arith, left, y, three))
    goes (Some (Securing p)) noise r n e unfailed answers al x on busy =
        let left : left_of s.forest w (slice_get s.calls w) (slice_get s.machines w) ≡ collector_steps_left s.forest.collector w + 43 = ap (λ y. left_of s.forest w y (slice_get s.machines w)) e in
        secures s holds.0 p e al.unlocked r n x on (let y = al.left in omega (arith, left, y))
    goes (Some Walking) noise r n e unfailed answers al x on busy =
        walks noise r n e unfailed answers al.unlocked (λ m at.
        let P : Option (InFlight V) → Type 0 = λ y. sure_of s.forest y (slice_get s.machines w) in
        let Q : Option (Machine Id V) → Type 0 = λ y. sure_of s.forest (Some Walking) y in
        let left : left_of s.forest w (slice_get s.calls w) (slice_get s.machines w) ≡ steps_left id_number (nodes s.forest) m.phase = ap (λ y. left_of s.forest w y (slice_get s.machines w)) e ∙ ap (λ y. left_of s.forest w (Some Walking) y) at in
        (subst Q at (subst P e al.sure), (let y = al.left in omega (arith, left, y)))) x busy

    with_one : (k : ℕ) → After (k + 1) → Alone s' w k
    with_one k x = let e : k + 1 - 1 ≡ k = omega arith in subst (λ i. Alone s' w i) e x.0

    -- a call that begins, and how many steps it has left then
    abbrev Begun : ℕ → Type 0
    Begun most = (k : ℕ) × Alone s' w k × (k + 2 ≤ most)

    begins_by : (o : CollectorOutcome) (c : CollectorOp) → OthersUnlocked s' w → Begins s.forest.collector w c o s'.forest.collector → s'.calls ≡ set s.calls w (call_after o (Collecting c)) → w < length s.calls → is_in_flight {V = V} (collected o) ≡ true → Begun (length s.forest.collector.table + 530)
    begins_by collector_outcome.Running c free g e l on = (
      length s.forest.collector.table + 526,
      record {
        unlocked = free;
        sure = (let P : Option (InFlight V) → Type 0 = λ y. sure_of s'.forest y (slice_get s'.machines w) in subst P (sym (at_place s.calls s'.calls w (Collecting c) l e)) tt);
        left = (let a = ap (λ y. left_of s'.forest w y (slice_get s'.machines w)) (at_place s.calls s'.calls w (Collecting c) l e) in let x = g.2 in omega (arith, a, x));
      },
      omega arith,
    )
    begins_by collector_outcome.Done c free g e l on = absurd (cc on)
    begins_by (collector_outcome.Refused f) c free g e l on = absurd (cc on)

    module _ (o : Op V) (none : misuse s w (Begin o) ≡ None) where
      within : w < length s.calls
      within = begin_within same always s s' w holds o none

      idle : slice_get s.calls w ≡ Some Idle
      idle = begins_idle same always s s' w holds o none

      collector_begins : (c : CollectorOp) (r : Report V) → OthersUnlocked s w → Collects same always s w (collector_event.Begin c) (Collecting c) r s' → is_in_flight r.outcome ≡ true → Begun (length s.forest.collector.table + 530)
      collector_begins c r free x on =
          let m : (m : Machine Id V) × (slice_get s.machines w ≡ Some m) = get_inside s.machines w (subst (λ i. w < i) (sym holds.0.machines) within) in
          let at : IsAt Idle (place s.forest.collector w) m.0 = holds.0.each w Idle m.0 idle m.1 in
          let P : State (Slot V) (Unit {0}) → Type 0 = λ y. Begins s.forest.collector w c x.collector_report.outcome y in
          let g = subst P (sym x.step.state) (progress.begins s.forest.collector w c x.collector_report at.0 x.step.report) in
          begins_by x.collector_report.outcome c (subst (λ ms. NoOtherLocks id_number w ms) (sym x.machines) free) g x.calls within (sym (ap (λ y. is_in_flight y.outcome) x.report) ∙ on)

      unpin_ends : (r : Report V) → Collects same always s w (collector_event.Begin collector_op.Unpin) (Collecting collector_op.Unpin) r s' → is_in_flight r.outcome ≡ true → ⊥
      unpin_ends r x on =
          let m : (m : Machine Id V) × (slice_get s.machines w ≡ Some m) = get_inside s.machines w (subst (λ i. w < i) (sym holds.0.machines) within) in
          let at : IsAt Idle (place s.forest.collector w) m.0 = holds.0.each w Idle m.0 idle m.1 in
          unpins V s.forest.collector _ w x.collector_report.outcome (progress.begins s.forest.collector w collector_op.Unpin x.collector_report at.0 x.step.report) (sym (ap (λ y. is_in_flight y.outcome) x.report) ∙ on)

      enters : (p : Point V) (r : Report V) (k most : ℕ) → OthersUnlocked s w → Enters s w p r s' → steps_left id_number (nodes s.forest) (first_phase root p) ≤ k → k + 2 ≤ most → Begun most
      enters p r k most free x le room = (
        k,
        with_one k (after_by Walking (Some (begun root p)) (k + 1) (unlocked_set w s.machines s'.machines (begun root p) (ap (λ y. y.machines) x.state) free)
            (at_place s.calls s'.calls w Walking within (ap (λ y. y.calls) x.state))
            (at_place s.machines s'.machines w (begun root p) (subst (λ i. w < i) (sym holds.0.machines) within) (ap (λ y. y.machines) x.state))
            (begins (nodes s'.forest) p) (let P : (ℕ → Node V) → Type 0 = λ y. steps_left id_number y (first_phase root p) ≤ k in let q = subst P (sym (ap (λ y. nodes y.forest) x.state)) le in omega (arith, q))),
        room,
      )

      reserves : (p : Point V) (r : Report V) → OthersUnlocked s w → Reserves s w p r s' → Begun 60
      reserves p r free x = (
        46,
        with_one 46 (after_by (Reserving p) (slice_get s'.machines w) 47 (subst (λ ms. NoOtherLocks id_number w ms) (sym (ap (λ y. y.machines) x.state)) free) (at_place s.calls s'.calls w (Reserving p) within (ap (λ y. y.calls) x.state)) refl tt (omega arith)),
        omega arith,
      )

      scan_begins : (p : Point V) (r : Report V) (b : Bool) → steps_whole (nodes s.forest) p ≡ 5 * tree_nodes (nodes s.forest) + 2 * tree_pairs (nodes s.forest) → OthersUnlocked s w → EntersUnless b s w p r s' → is_in_flight r.outcome ≡ true
          → Begun (5 * tree_nodes (nodes s.forest) + 2 * tree_pairs (nodes s.forest) + 2)
      scan_begins p r true whole free x on = absurd (false≢true (sym (ap (λ y. is_in_flight y.outcome) x.report) ∙ on))
      scan_begins p r false whole free x on =
          let settled : Settled id_number same always (nodes s.forest) s.machines = holds.0.safe.sound.sound.settled in
          let P : ℕ → Type 0 = λ k. steps_left id_number (nodes s.forest) (first_phase root p) ≤ k in
          enters p r (5 * tree_nodes (nodes s.forest) + 2 * tree_pairs (nodes s.forest)) _ free x (subst P whole (whole_left settled.0 (nodes s.forest) root p settled.1.tree)) (omega arith)

      call_begins : (r : Report V) → OthersUnlocked s w → BeginsAt same always s w (target o) r s' → is_in_flight r.outcome ≡ true → Begun (steps_alone s o)
      call_begins r free x on = of o x
        where
          survey_on : (k : Survey) → Surveys s k r s' → ⊥
          survey_on k y = false≢true (sym (survey_ends (nodes s.forest) k y.outcome y.tells) ∙ (sym (ap (λ z. is_in_flight z.outcome) y.report) ∙ on))

          of : (q : Op V) → BeginsAt same always s w (target q) r s' → Begun (steps_alone s q)
          of op.Pin y = collector_begins collector_op.Pin r free y on
          of op.Unpin y = absurd (unpin_ends r y on)
          of op.Repin y = collector_begins collector_op.Repin r free y on
          of op.Flush y = collector_begins collector_op.Flush r free y on
          of op.Release y = collector_begins collector_op.Release r free y on
          of (op.Get k) y = enters (point.Get k) r 43 60 free y (omega arith) (omega arith)
          of (op.Insert k v) y = reserves (point.Insert k v) r free y
          of (op.Remove k) y = reserves (point.Remove k) r free y
          of (op.ComputePresent k) y = reserves (point.ComputePresent k) r free y
          of (op.ComputeInsert k) y = reserves (point.ComputeInsert k) r free y
          of (op.Exchange k old new) y = reserves (point.Exchange k old new) r free y
          of (op.Range start end size) y = scan_begins (point.Range start end size) r (finds_none {V = V} (point.Range start end size)) refl free y on
          of (op.RangeInclusive start last size) y = scan_begins (point.RangeInclusive start last size) r (finds_none {V = V} (point.RangeInclusive start last size)) refl free y on
          of op.Keys y = absurd (survey_on survey.Keys y)
          of op.IsEmpty y = absurd (survey_on survey.IsEmpty y)
          of op.Stats y = absurd (survey_on survey.Stats y)

  -- a step of a call in flight
  next_on : (s : World V) (t : Taken V) (w n : ℕ) → Holds same always s → IsStep same always s t.step t.report t.after → is_busy (slice_get s.calls w) ≡ true → IsNext w s t → is_in_flight t.report.outcome ≡ true → Alone s w n
      → Alone t.after w (n - 1) × (0 < n) × (is_busy (slice_get t.after.calls w) ≡ true)
  next_on s t w n h is busy next on al =
      let P : Step V → Type 0 = λ y. IsStep same always s y t.report t.after in
      let x : IsStep same always s (record { worker = w; event = Go next.noise }) t.report t.after = subst P next.step is in
      let after : is_busy (slice_get t.after.calls w) ≡ true = x.flight tt (may_go same always s w (h.0, h.1) next.noise busy) ∙ on in
      let y = taken_by (finds_journal_full s w (Go next.noise)) x.does after in (y.0, y.1, after)
    where
      taken_by : (b : Bool) → StepsUnless same always b s (record { worker = w; event = Go next.noise }) t.report t.after → is_busy (slice_get t.after.calls w) ≡ true → Alone t.after w (n - 1) × (0 < n)
      taken_by true x after = absurd (false≢true (sym (ap (λ y. is_in_flight y.outcome) x.report) ∙ on))
      taken_by false x after =
          let P : Option Fault → Type 0 = λ o. Does same always (engine_of s) w (Go next.noise) o x.told (engine_of t.after) in
          let d = subst P (may_go same always (engine_of s) w (h.0, h.1) next.noise busy) x.engine.does in
          let g = goes (engine_of s) (engine_of t.after) w (h.0, h.1) (slice_get s.calls w) next.noise x.told n refl next.unfailed next.answered (record { unlocked = al.unlocked; sure = al.sure; left = al.left }) d (sym (ap (λ y. is_in_flight y.outcome) x.report) ∙ on) after in
          (record { unlocked = g.0.unlocked; sure = g.0.sure; left = g.0.left }, g.1)

  -- as many as are left at most
  steps_end : (s : World V) (ts : List (Taken V)) (w n : ℕ) → Holds same always s → AreTaken same always s ts → is_busy (slice_get s.calls w) ≡ true → AreNext w s ts → AllInFlight ts → Alone s w n → length ts ≤ n
  steps_end s [] w n h x busy next on al = omega arith
  steps_end s (t ∷ ts) w n h x busy next on al =
      let y = next_on s t w n h x.0 busy next.0 on.0 al in
      let r = steps_end t.after ts w (n - 1) x.0.holds x.1 y.2 next.1 on.1 y.0 in
      let l = y.1 in omega (arith, r, l)

  first_on : (s : World V) (t : Taken V) (w : ℕ) (o : Op V) → Holds same always s → IsStep same always s t.step t.report t.after → t.step ≡ record { worker = w; event = Begin o } → OthersUnlocked s w → is_in_flight t.report.outcome ≡ true
      → ((k : ℕ) × Alone t.after w k × (k + 2 ≤ steps_alone s o)) × (is_busy (slice_get t.after.calls w) ≡ true)
  first_on s t w o h is e free on =
      let P : Step V → Type 0 = λ y. IsStep same always s y t.report t.after in
      let x : IsStep same always s (record { worker = w; event = Begin o }) t.report t.after = subst P e is in
      let y = taken_by x.does in (y.0, x.flight tt y.1 ∙ on)
    where
      begun_by : (f : Option Fault) (r : Report V) → misuse s w (Begin o) ≡ f → Does same always (engine_of s) w (Begin o) f r (engine_of t.after) → is_in_flight r.outcome ≡ true → ((k : ℕ) × Alone t.after w k × (k + 2 ≤ steps_alone s o)) × (misuse s w (Begin o) ≡ None)
      begun_by (Some f) r q d on = absurd (false≢true (sym (ap (λ y. is_in_flight y.outcome) d.0) ∙ on))
      begun_by None r q d on =
          let b = call_begins (engine_of s) (engine_of t.after) w (h.0, h.1) o q r free d on in
          ((b.0, record { unlocked = b.1.unlocked; sure = b.1.sure; left = b.1.left }, b.2), q)

      taken_by : StepsUnless same always false s (record { worker = w; event = Begin o }) t.report t.after → ((k : ℕ) × Alone t.after w k × (k + 2 ≤ steps_alone s o)) × (misuse s w (Begin o) ≡ None)
      taken_by x = begun_by (misuse s w (Begin o)) x.told refl x.engine.does (sym (ap (λ y. is_in_flight y.outcome) x.report) ∙ on)

  -- a call that begins while no other holds a lock isn't in flight after so many steps of its own alone
  pub ends_here : (s : World V) (t : Taken V) (ts : List (Taken V)) (w : ℕ) (o : Op V) → Holds same always s → AreTaken same always s (t ∷ ts) → t.step ≡ record { worker = w; event = Begin o } → OthersUnlocked s w → AreNext w t.after ts → AllInFlight (t ∷ ts) → length (t ∷ ts) < steps_alone s o
  ends_here s t ts w o h x e free next on =
      let f = first_on s t w o h x.0 e free on.0 in
      let r = steps_end t.after ts w f.0.0 x.0.holds x.1 f.1 next on.1 f.0.1 in
      let k = f.0.2 in omega (arith, r, k)

  -- so ends each call that begins in a run
  pub all_end_alone : (s : World V) (ts : List (Taken V)) → Holds same always s → AreTaken same always s ts → AllEndAlone s ts
  all_end_alone s [] h x = tt
  all_end_alone s (t ∷ ts) h x = ((λ w n o e free next on. ends_here s t (take n ts) w o h (x.0, taken_front same always t.after n ts x.1) e free next on), all_end_alone t.after ts x.0.holds x.1)
