-- One step of the machine, beside the plain run.
use Rattle.std.proofs.Common.{◌≡◌, ◌≢◌, ℕ, zero, suc, Bool, true, false, cond, List, [], ◌∷◌, ◌++◌, length, refl, sym, ◌∙◌, ap, subst, inl, inr}
use Rattle.std.proofs.Math.ListN.{set}
use Rattle.std.specs.Prelude.{Option, None, Some, slice_get, if◌then◌else◌}
use Rattle.std.proofs.lemmas.Bool.{cases_Bool, ne_eqb}
use Rattle.joint.proofs.lemmas.world.Flights.{eqb_same}
use Rattle.crossbeam_epoch.specs.declared.fault.Fault.{Fault}
use Rattle.crossbeam_epoch.specs.declared.fault.Fault.TheVariants as fault
use Rattle.crossbeam_epoch.specs.declared.world.report.Event.{Event as CollectorEvent}
use Rattle.crossbeam_epoch.specs.declared.world.report.Event.TheVariants as collector_event
use Rattle.crossbeam_epoch.specs.declared.world.report.Op.{Op as CollectorOp}
use Rattle.crossbeam_epoch.specs.declared.world.report.Outcome.{Outcome as CollectorOutcome}
use Rattle.crossbeam_epoch.specs.declared.world.report.Outcome.TheVariants as collector_outcome
use Rattle.crossbeam_epoch.specs.declared.world.report.Report.{Report as Collection}
use Rattle.crossbeam_epoch.specs.world.Store.{value_at, was_given}
use Rattle.congee.specs.declared.forms.base_node.NodeType.{NodeType}
use Rattle.congee.specs.declared.protocol.machine.Machine.{Machine}
use Rattle.congee.specs.declared.protocol.machine.Noise.{Noise}
use Rattle.congee.specs.declared.protocol.machine.Outcome.TheVariants as moved
use Rattle.congee.specs.declared.protocol.op.Op.{Op as Point}
use Rattle.congee.specs.declared.protocol.store.Refusal.{Refusal as Cause}
use Rattle.congee.specs.declared.protocol.store.Refusal.TheVariants as cause
use Rattle.congee.specs.Heap.{Node}
use Rattle.congee.specs.protocol.Alike.{Ordered, HeapAlike, CallAlike, Longer, MovedAlike, SparedAlike}
use Rattle.congee.specs.protocol.Answers.{Keeps}
use Rattle.congee.specs.protocol.PlainSteps.{Plain, Went, with_call, call_after as plain_call, plain_step}
use Rattle.congee.specs.protocol.Play.{begun, EachKnown, ProtocolAt, IsMoved}
use Rattle.congee.specs.protocol.State.{is_done, is_over}
use Rattle.joint.specs.declared.engine.in_flight.InFlight.{InFlight}
use Rattle.joint.specs.declared.engine.in_flight.InFlight.TheVariants.{Idle, Collecting, Reserving, Securing, Walking}
use Rattle.joint.specs.declared.id.Id.{Id}
use Rattle.joint.specs.declared.nodes.slot.Slot.{Slot}
use Rattle.joint.specs.declared.refusal.Refusal.TheVariants.{Exhausted}
use Rattle.joint.specs.declared.steps.Outcome.TheVariants.{Refused}
use Rattle.joint.specs.declared.steps.Report.{Report}
use Rattle.joint.specs.nodes.Nodes.{Nodes, nodes, Refuses}
use Rattle.joint.specs.engine.Log.{Log}
use Rattle.joint.specs.engine.Intact.{call_after, secured_call, secured_machines, over_at, resting, rested}
use Rattle.joint.specs.engine.Laws.{NumberLaws}
use Rattle.joint.specs.engine.Safety.{IsSafe, Collected, Walked}
use Rattle.joint.specs.calls.Plain.{unnamed, unnamed_seen, IsUnrefused, IsUnhindered, InPlain, Agree}
use Rattle.joint.specs.Refusals.{of_tree, of_fault}
use Rattle.joint.specs.Reports.{told}
use Rattle.joint.specs.nodes.View.{view, id_number}
use Rattle.joint.specs.Names.{named, root}
use Rattle.joint.specs.engine.Engine.{World, Collects, Enters, Reserves, GoesOnReserving, Walks}
use Rattle.joint.proofs.lemmas.engine.ScanEnds.{cleared_is}
use Rattle.congee.proofs.Laws.{get_set}

-- a refusal of the collector, or of a node, is for another cause than versions
pub fault_apart : (f : Fault) → of_fault f ≡ Exhausted → ⊥
fault_apart fault.TableFull e = cc
fault_apart fault.CellsFull e = cc
fault_apart fault.Memory e = cc
fault_apart fault.Unpinned e = cc
fault_apart fault.Busy e = cc
fault_apart fault.Count e = cc
fault_apart fault.GuardOut e = cc
fault_apart (fault.Registered n) e = cc
fault_apart fault.Unknown e = cc
fault_apart fault.Foreign e = cc
fault_apart fault.Idle e = cc
fault_apart fault.Limits e = cc
fault_apart fault.InCall e = cc

cause_is : (e : Cause) → of_tree e ≡ Exhausted → e ≡ cause.Exhausted
cause_is (cause.Budget charged wanted limit) e = absurd cc
cause_is cause.Cells e = absurd cc
cause_is cause.Memory e = absurd cc
cause_is cause.Exhausted e = refl
cause_is cause.Count e = absurd cc

-- what was handed over had been made
view_made : {V : Type 0} (g : Bool) (v : Option (Slot V)) → (view g v).retired ≡ true → (view g v).made ≡ true
view_made g None e = absurd cc
view_made g (Some s) e = refl

-- a node that was handed over had been made
pub made_before : {V : Type 0} (s : Nodes V) (c : ℕ) → (nodes s c).retired ≡ true → (nodes s c).made ≡ true
made_before s c e = view_made (was_given s.collector.store (named c)) (value_at s.collector.store (named c)) e

longer_at : (xs ys : List ℕ) (i c : ℕ) → slice_get xs i ≡ Some c → slice_get (xs ++ ys) i ≡ Some c
longer_at [] ys i c e = absurd cc
longer_at (x ∷ xs) ys zero c e = e
longer_at (x ∷ xs) ys (suc i) c e = longer_at xs ys i c e

longer_root : (order now : List ℕ) → Longer order now → slice_get order 0 ≡ Some 0 → slice_get now 0 ≡ Some 0
longer_root order now l e = let P : List ℕ → Type 0 = λ z. slice_get z 0 ≡ Some 0 in subst P (sym l.1) (longer_at order l.0 0 0 e)

module _ {V : Type 0} (same : V → V → Bool) (always : Bool) where
  -- one worker's call was exchanged, and each other is the same
  module _ (s s' : World V) (w : ℕ) (order now : List ℕ) (p p' : Plain V) where
    exchanged : (k' : InFlight V) → s'.calls ≡ set s.calls w k' → Ordered now (nodes s'.forest) → slice_get now 0 ≡ Some 0 → p'.made ≡ length now → HeapAlike now (nodes s'.forest) p'.heap
        → ((m : Machine Id V) → slice_get s'.machines w ≡ Some m → InPlain now (nodes s'.forest) k' m (p'.calls w))
        → ((i : ℕ) (k : InFlight V) (m : Machine Id V) → i ≢ w → slice_get s.calls i ≡ Some k → slice_get s'.machines i ≡ Some m → InPlain now (nodes s'.forest) k m (p'.calls i)) → Agree s' now p'
    exchanged k' ec o r c x here apart = record {
      ordered = o;
      root = r;
      made = c;
      heap = x;
      calls = λ i k m a b.
          let P : List (InFlight V) → Type 0 = λ ks. slice_get ks i ≡ Some k in
          elim (get_set s.calls w i k' k (subst P ec a)) [
            | inl e ↦ (
                let Q : InFlight V → Type 0 = λ y. InPlain now (nodes s'.forest) y m (p'.calls i) in
                let R : ℕ → Type 0 = λ j. InPlain now (nodes s'.forest) k' m (p'.calls j) in
                let S : ℕ → Type 0 = λ j. slice_get s'.machines j ≡ Some m in
                subst Q e.1 (subst R (sym e.0) (here m (subst S e.0 b))))
            | inr e ↦ apart i k m e.0 e.1 b
          ];
    }

  -- a worker's call that a change of nodes and order keeps
  kept_call : (order now : List ℕ) (h h' : ℕ → Node V) (k : InFlight V) (m : Machine Id V) (q : Machine ℕ V) → (CallAlike order id_number h m q → CallAlike now id_number h' m q) → InPlain order h k m q → InPlain now h' k m q
  kept_call order now h h' Idle m q f e = tt
  kept_call order now h h' (Collecting op) m q f e = tt
  kept_call order now h h' (Reserving op) m q f e = e
  kept_call order now h h' (Securing op) m q f e = e
  kept_call order now h h' Walking m q f e = f e

  module _ (s : World V) (laws : NumberLaws {C = Id} {V = V} id_number same always s.forest.version_max (Refuses s.forest)) (order : List ℕ) (p : Plain V) (w : ℕ) where
    no_version : (form : NodeType) → Refuses s.forest form cause.Exhausted → ⊥
    no_version form e = e

    -- a step of the collector
    module _ (s' : World V) (event : CollectorEvent) (r : Collection) (c : Collected same always s.forest s.machines w event r s'.forest) (a : Agree s order p) where
      spared : SparedAlike order id_number (nodes s.forest) s.machines (nodes s'.forest)
      spared = laws.spared order (nodes s.forest) (nodes s'.forest) s.machines c.destroys

      others : (i : ℕ) (k : InFlight V) (m : Machine Id V) → slice_get s.calls i ≡ Some k → slice_get s.machines i ≡ Some m → InPlain order (nodes s'.forest) k m (p.calls i)
      others i k m ak am = kept_call order order (nodes s.forest) (nodes s'.forest) k m (p.calls i) (spared.calls i m (p.calls i) am) (a.calls i k m ak am)

      -- after a step of the collector the machine agrees with the same plain state, where the worker's call does
      pub collected_agrees : (k' : InFlight V) → s'.calls ≡ set s.calls w k' → ((i : ℕ) (m : Machine Id V) → i ≢ w → slice_get s'.machines i ≡ Some m → slice_get s.machines i ≡ Some m)
          → ((m : Machine Id V) → slice_get s'.machines w ≡ Some m → InPlain order (nodes s'.forest) k' m (p.calls w)) → Agree s' order p
      collected_agrees k' ec em here = exchanged s s' w order order p p k' ec (spared.order_is (made_before s.forest) a.ordered) a.root a.made (spared.nodes p.heap a.heap) here (λ i k m n ak am. others i k m ak (em i m n am))

    idle_after : (o : CollectorOutcome) (op : CollectorOp) (h : ℕ → Node V) (m : Machine Id V) (q : Machine ℕ V) → InPlain order h (call_after o (Collecting op)) m q
    idle_after collector_outcome.Running op h m q = tt
    idle_after collector_outcome.Done op h m q = tt
    idle_after (collector_outcome.Refused f) op h m q = tt

    -- a step of a call on the collector leaves the machine agreeing with the same plain state
    pub collects : (s' : World V) (event : CollectorEvent) (op : CollectorOp) (r : Report V) → Agree s order p → Collects same always s w event (Collecting op) r s' → Agree s' order p
    collects s' event op r a k = collected_agrees s' event k.collector_report k.step a (call_after k.collector_report.outcome (Collecting op)) k.calls
        (λ i m n b. let P : List (Machine Id V) → Type 0 = λ ms. slice_get ms i ≡ Some m in subst P k.machines b) (λ m b. idle_after k.collector_report.outcome op (nodes s'.forest) m (p.calls w))

    -- a writing call makes its places free
    module _ (op : Point V) (here : slice_get s.calls w ≡ Some (Securing op)) (a : Agree s order p) where
      machine_here : (m : Machine Id V) → slice_get s.machines w ≡ Some m → p.calls w ≡ begun 0 op
      machine_here m b = a.calls w (Securing op) m here b

      -- a step that makes places free, or is refused, leaves the machine agreeing with the same plain state
      pub secures : (s' : World V) (r : Report V) (o : CollectorOutcome) → (x : GoesOnReserving same always s w r s') → x.collector_report.outcome ≡ o → ((m : Machine Id V) → slice_get s'.machines w ≡ Some m → (n : Machine Id V) × (slice_get s.machines w ≡ Some n)) → Agree s' order p
      secures s' r collector_outcome.Running x e there =
          let P : Option (InFlight V) → Type 0 = λ k. s'.calls ≡ set s.calls w (secured_call x.collector_report.outcome k) in
          let Q : CollectorOutcome → Type 0 = λ z. s'.calls ≡ set s.calls w (secured_call z (Some (Securing op))) in
          let R : Option (InFlight V) → Type 0 = λ k. s'.machines ≡ secured_machines x.collector_report.outcome k s.machines w in
          let S : CollectorOutcome → Type 0 = λ z. s'.machines ≡ secured_machines z (Some (Securing op)) s.machines w in
          let em : s'.machines ≡ s.machines = subst S e (subst R here x.step.machine) in
          collected_agrees s' collector_event.Go x.collector_report x.step.collected a (Securing op) (subst Q e (subst P here x.step.call))
          (λ i m n b. let T : List (Machine Id V) → Type 0 = λ ms. slice_get ms i ≡ Some m in subst T em b) (λ m b. machine_here (there m b).0 (there m b).1)
      secures s' r collector_outcome.Done x e there =
          let P : Option (InFlight V) → Type 0 = λ k. s'.calls ≡ set s.calls w (secured_call x.collector_report.outcome k) in
          let Q : CollectorOutcome → Type 0 = λ z. s'.calls ≡ set s.calls w (secured_call z (Some (Securing op))) in
          let R : Option (InFlight V) → Type 0 = λ k. s'.machines ≡ secured_machines x.collector_report.outcome k s.machines w in
          let S : CollectorOutcome → Type 0 = λ z. s'.machines ≡ secured_machines z (Some (Securing op)) s.machines w in
          let em : s'.machines ≡ set s.machines w (begun root op) = subst S e (subst R here x.step.machine) in
          collected_agrees s' collector_event.Go x.collector_report x.step.collected a Walking (subst Q e (subst P here x.step.call))
          (λ i m n b.
          let T : List (Machine Id V) → Type 0 = λ ms. slice_get ms i ≡ Some m in
          elim (get_set s.machines w i (begun root op) m (subst T em b)) [
            | inl z ↦ absurd (n z.0)
            | inr z ↦ z.1
          ])
          (λ m b.
          let T : List (Machine Id V) → Type 0 = λ ms. slice_get ms w ≡ Some m in
          let U : Machine Id V → Type 0 = λ z. CallAlike order id_number (nodes s'.forest) z (p.calls w) in
          let W : Machine ℕ V → Type 0 = λ z. CallAlike order id_number (nodes s'.forest) (begun root op) z in
          elim (get_set s.machines w w (begun root op) m (subst T em b)) [
            | inl z ↦ subst U z.1 (subst W (sym (machine_here (there m b).0 (there m b).1)) (laws.begins order (nodes s'.forest) root 0 op a.root))
            | inr z ↦ absurd (z.0 refl)
          ])
      secures s' r (collector_outcome.Refused f) x e there =
          let P : Option (InFlight V) → Type 0 = λ k. s'.calls ≡ set s.calls w (secured_call x.collector_report.outcome k) in
          let Q : CollectorOutcome → Type 0 = λ z. s'.calls ≡ set s.calls w (secured_call z (Some (Securing op))) in
          let R : Option (InFlight V) → Type 0 = λ k. s'.machines ≡ secured_machines x.collector_report.outcome k s.machines w in
          let S : CollectorOutcome → Type 0 = λ z. s'.machines ≡ secured_machines z (Some (Securing op)) s.machines w in
          let em : s'.machines ≡ s.machines = subst S e (subst R here x.step.machine) in
          collected_agrees s' collector_event.Go x.collector_report x.step.collected a Idle (subst Q e (subst P here x.step.call))
          (λ i m n b. let T : List (Machine Id V) → Type 0 = λ ms. slice_get ms i ≡ Some m in subst T em b) (λ m b. tt)

    -- a call that is over leaves the machine agreeing with the same plain state
    pub idles : (l : Log V) → Agree s order p → Agree (record s { calls = set s.calls w Idle; log = l }) order p
    idles l a = exchanged s (record s { calls = set s.calls w Idle; log = l }) w order order p p Idle refl a.ordered a.root a.made a.heap (λ m b. tt) (λ i k m n ak am. a.calls i k m ak am)

    -- a call begins
    plain_here : (q : Plain V) (i : ℕ) (m : Machine ℕ V) → (with_call q i m).calls i ≡ m
    plain_here q i m = ap (λ b. cond b m (q.calls i)) (eqb_same i)

    plain_apart : (q : Plain V) (i j : ℕ) (m : Machine ℕ V) → j ≢ i → (with_call q i m).calls j ≡ q.calls j
    plain_apart q i j m n = ap (λ b. cond b m (q.calls j)) (ne_eqb j i n)

    -- once a reading call has begun, the machine agrees with the plain state in which it begins
    pub enters : (s' : World V) (op : Point V) (r : Report V) → Agree s order p → Enters s w op r s' → Agree s' order (with_call p w (begun 0 op))
    enters s' op r a k =
        let P : World V → Type 0 = λ y. Agree y order (with_call p w (begun 0 op)) in
        let t : World V = record s { machines = set s.machines w (begun root op); calls = set s.calls w Walking } in
        subst P (sym k.state) (exchanged s (record s { machines = set s.machines w (begun root op); calls = set s.calls w Walking }) w order order p (with_call p w (begun 0 op)) Walking refl a.ordered a.root a.made a.heap
        (λ m b.
        let U : Machine Id V → Type 0 = λ z. CallAlike order id_number (nodes s.forest) z ((with_call p w (begun 0 op)).calls w) in
        let W : Machine ℕ V → Type 0 = λ z. CallAlike order id_number (nodes s.forest) (begun root op) z in
        elim (get_set s.machines w w (begun root op) m b) [
          | inl z ↦ subst U z.1 (subst W (sym (plain_here p w (begun 0 op))) (laws.begins order (nodes s.forest) root 0 op a.root))
          | inr z ↦ absurd (z.0 refl)
        ])
        (λ i k m n ak am.
        let U : Machine ℕ V → Type 0 = λ z. InPlain order (nodes s.forest) k m z in
        elim (get_set s.machines w i (begun root op) m am) [
          | inl z ↦ absurd (n z.0)
          | inr z ↦ subst U (sym (plain_apart p w i (begun 0 op) n)) (a.calls i k m ak z.1)
        ]))

    -- once a writing call has begun, with its places to make free, it agrees with that in which the call begins
    pub reserves : (s' : World V) (op : Point V) (r : Report V) → Agree s order p → Reserves s w op r s' → Agree s' order (with_call p w (begun 0 op))
    reserves s' op r a k =
        let P : World V → Type 0 = λ y. Agree y order (with_call p w (begun 0 op)) in
        subst P (sym k.state) (exchanged s (record s { calls = set s.calls w (Reserving op) }) w order order p (with_call p w (begun 0 op)) (Reserving op) refl a.ordered a.root a.made a.heap
        (λ m b. plain_here p w (begun 0 op))
        (λ i k m n ak am. let U : Machine ℕ V → Type 0 = λ z. InPlain order (nodes s.forest) k m z in subst U (sym (plain_apart p w i (begun 0 op) n)) (a.calls i k m ak am)))

    -- a call goes on
    module _ (s' : World V) (noise : Noise Id V) (r : Report V) (m : Machine Id V) (hk : slice_get s.calls w ≡ Some Walking) (hm : slice_get s.machines w ≡ Some m) (safe : IsSafe same always s.forest s.machines)
        (a : Agree s order p) (x : Walks same always s w noise r s') (whole : IsUnhindered r) where
      un : IsUnrefused r.outcome × (r.skipped ≡ false)
      un = whole (ap (λ y. y.kind) x.report)

      abbrev q : Machine ℕ V
      q = p.calls w

      abbrev walked : Walked same always s.forest s.machines (record { who = w; noise = noise }) x.move s'.forest x.step.between
      walked = x.step.walked

      -- the step is one of the tree's protocol
      pub moves : IsMoved id_number same always s.forest.version_max (Refuses s.forest) (nodes s.forest) s.machines m (record { who = w; noise = noise }) x.move (nodes s'.forest) x.step.between
      moves = walked.plays.moved m hm

      protocol : ProtocolAt id_number same always safe.sound.sound.settled.0 (nodes s.forest) s.machines
      protocol = safe.sound.sound.settled.1

      known : EachKnown id_number same always safe.sound.sound.settled.0 (nodes s.forest) w m
      known = protocol.each w m hm

      keeps : Keeps id_number same always w safe.sound.sound.settled.0 m (nodes s.forest) moves.now (nodes s'.forest) x.move
      keeps = moves.keeps w safe.sound.sound.settled.0 known.root protocol.tree protocol.words known.known

      unrefused : (e : Cause) → x.move.outcome ≡ moved.Refused e → e ≡ cause.Exhausted
      unrefused e z = cause_is e (un.0 (of_tree e) (ap (λ y. y.outcome) x.report ∙ ap told z))

      unskipped : x.move.skipped ≡ false
      unskipped = sym (ap (λ y. y.skipped) x.report) ∙ un.1

      abbrev went : Went V
      went = plain_step same s.forest.version_max q (unnamed noise) p.heap p.made

      -- the plain run's step of the same call is the same by numbers
      pub moved_alike : MovedAlike order id_number (nodes s'.forest) moves.now x.move q went
      moved_alike = laws.steps (unnamed_seen noise.seen) w safe.sound.sound.settled.0 (nodes s.forest) p.heap (nodes s'.forest) s.machines m moves.now x.move noise.fail noise.answer order q p.made no_version protocol hm moves.step unrefused unskipped a.ordered a.heap a.made
          (a.calls w Walking m hk hm)

      abbrev p' : Plain V
      p' = with_call (record p { heap = went.heap; made = went.made }) w (plain_call q went)

      machines_are : s'.machines ≡ set s.machines w (rested moves.now)
      machines_are = x.step.machines ∙ cleared_is s.machines x.step.between w m moves.now hm moves.calls

      here_machine : (y : Machine Id V) → slice_get s'.machines w ≡ Some y → rested moves.now ≡ y
      here_machine y b =
          let P : List (Machine Id V) → Type 0 = λ ms. slice_get ms w ≡ Some y in
          elim (get_set s.machines w w (rested moves.now) y (subst P machines_are b)) [
            | inl z ↦ z.1
            | inr z ↦ absurd (z.0 refl)
          ]

      abbrev now : List ℕ
      now = moved_alike.went.now

      -- a call that has ended is in flight no more
      goes_on : (y : Machine Id V) → rested moves.now ≡ y → InPlain now (nodes s'.forest) (if over_at (Some y) then Idle else Walking) y (plain_call q went)
      goes_on y e =
          let P : Machine Id V → Type 0 = λ z. InPlain now (nodes s'.forest) (if is_over z.phase then Idle else Walking) z (plain_call q went) in
          subst P e (elim (cases_Bool (is_done moves.now.phase)) [
            | inl d ↦ (let Q : Bool → Type 0 = λ b. P (if b then resting else moves.now) in subst Q (sym d) tt)
            | inr d ↦ (let Q : Bool → Type 0 = λ b. P (if b then resting else moves.now) in subst Q (sym d) (or_idle (is_over moves.now.phase)))
          ])
        where
          or_idle : (b : Bool) → InPlain now (nodes s'.forest) (if b then Idle else Walking) moves.now (plain_call q went)
          or_idle true = tt
          or_idle false = moved_alike.call

      -- after a step of a call on the tree the machine agrees with the plain state after the same step
      pub walked_agrees : Agree s' now p'
      walked_agrees = exchanged s s' w order now p p' (if over_at (slice_get s'.machines w) then Idle else Walking) x.calls moved_alike.went.ordered root_now moved_alike.went.made moved_alike.went.heap
          (λ y b.
          let P : Option (Machine Id V) → Type 0 = λ z. InPlain now (nodes s'.forest) (if over_at z then Idle else Walking) y (p'.calls w) in
          let Q : Machine ℕ V → Type 0 = λ z. InPlain now (nodes s'.forest) (if over_at (Some y) then Idle else Walking) y z in
          subst P (sym b) (subst Q (sym (plain_here (record p { heap = went.heap; made = went.made }) w (plain_call q went))) (goes_on y (here_machine y b))))
          (λ i k y n ak am.
          let P : List (Machine Id V) → Type 0 = λ ms. slice_get ms i ≡ Some y in
          let U : Machine ℕ V → Type 0 = λ z. InPlain now (nodes s'.forest) k y z in
          let was : slice_get s.machines i ≡ Some y = elim (get_set s.machines w i (rested moves.now) y (subst P machines_are am)) [
            | inl z ↦ absurd (n z.0)
            | inr z ↦ z.1
          ] in
          subst U (sym (plain_apart (record p { heap = went.heap; made = went.made }) w i (plain_call q went) n))
          (kept_call order now (nodes s.forest) (nodes s'.forest) k y (p.calls i) (laws.others w i safe.sound.sound.settled.0 (nodes s.forest) (nodes s'.forest) s.machines m moves.now y x.move order now (p.calls i) protocol was n keeps moved_alike.went.longer) (a.calls i k y ak was)))
        where
          root_now : slice_get now 0 ≡ Some 0
          root_now = longer_root order now moved_alike.went.longer a.root
