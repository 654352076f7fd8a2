-- Each begin and each step of a call in flight is the machine's, with its first cause where it is refused.
use Rattle.std.proofs.Common.{◌≡◌, ◌+◌, ◌<◌, ℕ, zero, suc, Bool, true, false, List, [], ◌∷◌, refl, sym, ◌∙◌, ap, subst}
use Rattle.std.proofs.Math.ListN.{set}
use Rattle.std.specs.Prelude.{◌&&◌, Option, None, Some, is_none, is_some, length, slice_get, if◌then◌else◌}
use Rattle.crossbeam_epoch.specs.declared.fault.Fault.{Fault}
use Rattle.crossbeam_epoch.specs.declared.fault.Fault.TheVariants as fault
use Rattle.crossbeam_epoch.specs.declared.world.report.Event.TheVariants as collector_event
use Rattle.crossbeam_epoch.specs.declared.world.report.Op.{Op as CollectorOp}
use Rattle.crossbeam_epoch.specs.declared.world.report.Outcome.{Outcome as CollectorOutcome}
use Rattle.crossbeam_epoch.specs.declared.world.report.Outcome.TheVariants as collector_outcome
use Rattle.crossbeam_epoch.specs.declared.world.report.Report.{Report as Collection}
use Rattle.crossbeam_epoch.specs.world.Machine.{State, place}
use Rattle.crossbeam_epoch.specs.world.Progress.{Begins, refusal}
use Rattle.crossbeam_epoch.specs.world.Steps.{begin_fault, called_in, when}
use Rattle.congee.specs.declared.protocol.machine.Machine.{Machine}
use Rattle.congee.specs.declared.protocol.op.Op.{Op as Point}
use Rattle.congee.specs.declared.protocol.op.Op.TheVariants as point
use Rattle.congee.specs.protocol.Play.{begun}
use Rattle.joint.specs.declared.engine.in_flight.InFlight.{InFlight}
use Rattle.joint.specs.declared.engine.in_flight.InFlight.TheVariants.{Idle, Collecting, Reserving, Securing, Walking}
use Rattle.joint.specs.declared.id.Id.{Id}
use Rattle.joint.specs.declared.nodes.slot.Slot.{Slot}
use Rattle.joint.specs.declared.steps.Done.TheVariants.{Scanned}
use Rattle.joint.specs.declared.steps.Kind.TheVariants as kind
use Rattle.joint.specs.declared.steps.Outcome.TheVariants as outcome
use Rattle.joint.specs.declared.steps.Report.{Report}
use Rattle.joint.specs.declared.steps.Target.{Target}
use Rattle.joint.specs.declared.steps.Target.TheVariants.{Collector, Tree}
use Rattle.congee.specs.declared.protocol.machine.Noise.{Noise}
use Rattle.joint.specs.declared.steps.Event.TheVariants.{Go}
use Rattle.joint.specs.engine.Beginning.{BeginsUnless, Begun}
use Rattle.joint.specs.nodes.Nodes.{IsCharged, sizes}
use Rattle.joint.specs.engine.Intact.{IsIntact, call_after, writes}
use Rattle.joint.specs.Names.{root}
use Rattle.joint.specs.engine.Laws.{ProgressLaws}
use Rattle.joint.specs.engine.Safety.{Collected}
use Rattle.joint.specs.Refusals.{of_fault}
use Rattle.joint.specs.Reports.{collected}
use Rattle.joint.specs.engine.Engine.{World, is_busy, unready, interruption, kind_of, quiet, collection, misuse, finds_none, BeginsAt, BeginsOnTree, GoesAt, Does, Enters, EntersUnless, Reserves, begin_misuse}
use Rattle.joint.proofs.lemmas.engine.Collecting.{get_inside, inside_machines}

-- what stands there, written once more, changes nothing
pub set_again : {A : Type 0} (xs : List A) (i : ℕ) (x : A) → slice_get xs i ≡ Some x → set xs i x ≡ xs
set_again [] i x e = refl
set_again (z ∷ xs) zero x e = ap (λ y. y ∷ xs) (let q : x ≡ z = cc in q)
set_again (z ∷ xs) (suc i) x e = ap (λ ys. z ∷ ys) (set_again xs i x e)

-- a worker that is registered is pinned where it has a word
pub word_is : (b r w : Bool) → b ≡ (r && w) → r ≡ true → w ≡ b
word_is b true w e q = sym e
word_is b false w e q = absurd (cc q)

-- a worker of the machine that has no call in flight is idle
pub idle_call : {V : Type 0} (o : Option (InFlight V)) (n : ℕ) (calls : List (InFlight V)) → n < length calls → o ≡ slice_get calls n → is_busy o ≡ false → o ≡ Some Idle
idle_call (Some Idle) n calls l e b = refl
idle_call (Some (Collecting op)) n calls l e b = absurd (cc b)
idle_call (Some (Reserving op)) n calls l e b = absurd (cc b)
idle_call (Some (Securing op)) n calls l e b = absurd (cc b)
idle_call (Some Walking) n calls l e b = absurd (cc b)
idle_call None n calls l e b = absurd (let x : (k : InFlight _) × (slice_get calls n ≡ Some k) = get_inside calls n l in let z : None ≡ Some x.0 = e ∙ x.1 in cc)

module _ {V : Type 0} (same : V → V → Bool) (always : Bool) (w : World V) (who : ℕ) where
  abbrev c : State (Slot V) (Unit {0})
  c = w.forest.collector

  abbrev Or : Target V → Option Fault → Report V → World V → Type 0
  Or t m r w' = BeginsUnless same always w who t m r w'

  refused : (t : Target V) (f : Fault) (r : Report V) → begin_misuse t (slice_get w.calls who) (place c who) ≡ Some f → r ≡ quiet (kind_of t) (outcome.Refused (of_fault f)) → Begun same always w who t r w
  refused t f r e q = let P : Option Fault → Type 0 = λ m. Or t m r w in subst P (sym e) (q, refl)

  -- a begin of a worker that isn't registered is refused as Unknown
  pub unknown : (t : Target V) (r : Report V) → (place c who).registered ≡ false → r ≡ quiet (kind_of t) (outcome.Refused (of_fault fault.Unknown)) → Begun same always w who t r w
  unknown t r e q = refused t fault.Unknown r (ap (λ b. if b then (if is_busy (slice_get w.calls who) then Some (interruption t) else unready t (place c who)) else Some fault.Unknown) e) q

  at_place : (t : Target V) → (place c who).registered ≡ true → begin_misuse t (slice_get w.calls who) (place c who) ≡ (if is_busy (slice_get w.calls who) then Some (interruption t) else unready t (place c who))
  at_place t e = ap (λ b. if b then (if is_busy (slice_get w.calls who) then Some (interruption t) else unready t (place c who)) else Some fault.Unknown) e

  -- a begin of a worker with a call in flight is refused as an interruption
  pub busy : (t : Target V) (r : Report V) → (place c who).registered ≡ true → is_busy (slice_get w.calls who) ≡ true → r ≡ quiet (kind_of t) (outcome.Refused (of_fault (interruption t))) → Begun same always w who t r w
  busy t r e b q = refused t (interruption t) r (at_place t e ∙ ap (λ x. if x then Some (interruption t) else unready t (place c who)) b) q

  past : (t : Target V) → (place c who).registered ≡ true → slice_get w.calls who ≡ Some Idle → begin_misuse t (slice_get w.calls who) (place c who) ≡ unready t (place c who)
  past t r e = at_place t r ∙ ap (λ x. if is_busy x then Some (interruption t) else unready t (place c who)) e

  proceeds : (t : Target V) (r : Report V) (w' : World V) → begin_misuse t (slice_get w.calls who) (place c who) ≡ None → BeginsAt same always w who t r w' → Begun same always w who t r w'
  proceeds t r w' e b = let P : Option Fault → Type 0 = λ m. Or t m r w' in subst P (sym e) b

  no_word : (x : Option ℕ) → is_some x ≡ false → when (is_none x) fault.Unpinned ≡ Some fault.Unpinned
  no_word None q = refl
  no_word (Some y) q = absurd (cc q)

  word : (x : Option ℕ) → is_some x ≡ true → when (is_none x) fault.Unpinned ≡ None
  word None q = absurd (cc q)
  word (Some y) q = refl

  module _ (reg : (place c who).registered ≡ true) (idle : slice_get w.calls who ≡ Some Idle) where
    -- a call on the tree of a worker without a guard is refused as Unpinned
    pub unpinned : (op : Point V) (r : Report V) → is_some (place c who).word ≡ false → r ≡ quiet kind.Tree (outcome.Refused (of_fault fault.Unpinned)) → Begun same always w who (Tree op) r w
    unpinned op r p q = refused (Tree op) fault.Unpinned r (past (Tree op) reg idle ∙ no_word (place c who).word p) q

    on_tree : (op : Point V) (r : Report V) (w' : World V) → is_some (place c who).word ≡ true → BeginsOnTree same always w who op r w' → Begun same always w who (Tree op) r w'
    on_tree op r w' p b = proceeds (Tree op) r w' (past (Tree op) reg idle ∙ word (place c who).word p) b

    enter : (op : Point V) (r : Report V) (w' : World V) → finds_none op ≡ false → writes op ≡ false → Enters w who op r w' → BeginsOnTree same always w who op r w'
    enter (point.Get k) r w' n e b = b
    enter (point.Range start end size) r w' n e b = let P : Bool → Type 0 = λ x. EntersUnless x w who (point.Range start end size) r w' in subst P (sym n) b
    enter (point.RangeInclusive start last size) r w' n e b = let P : Bool → Type 0 = λ x. EntersUnless x w who (point.RangeInclusive start last size) r w' in subst P (sym n) b
    enter (point.Insert k v) r w' n e b = absurd (cc e)
    enter (point.Remove k) r w' n e b = absurd (cc e)
    enter (point.ComputePresent k) r w' n e b = absurd (cc e)
    enter (point.ComputeInsert k) r w' n e b = absurd (cc e)
    enter (point.Exchange k old new) r w' n e b = absurd (cc e)

    reserve : (op : Point V) (r : Report V) (w' : World V) → writes op ≡ true → Reserves w who op r w' → BeginsOnTree same always w who op r w'
    reserve (point.Get k) r w' e b = absurd (cc e)
    reserve (point.Range start end size) r w' e b = absurd (cc e)
    reserve (point.RangeInclusive start last size) r w' e b = absurd (cc e)
    reserve (point.Insert k v) r w' e b = b
    reserve (point.Remove k) r w' e b = b
    reserve (point.ComputePresent k) r w' e b = b
    reserve (point.ComputeInsert k) r w' e b = b
    reserve (point.Exchange k old new) r w' e b = b

    -- a scan that can find nothing
    at_once : (op : Point V) (r : Report V) → finds_none op ≡ true → r ≡ quiet kind.Tree (outcome.Done (Scanned 0)) → BeginsOnTree same always w who op r w
    at_once (point.Range start end size) r n q = let P : Bool → Type 0 = λ x. EntersUnless x w who (point.Range start end size) r w in subst P (sym n) (record { state = refl; report = q })
    at_once (point.RangeInclusive start last size) r n q = let P : Bool → Type 0 = λ x. EntersUnless x w who (point.RangeInclusive start last size) r w in subst P (sym n) (record { state = refl; report = q })
    at_once (point.Get k) r n q = absurd (cc n)
    at_once (point.Insert k v) r n q = absurd (cc n)
    at_once (point.Remove k) r n q = absurd (cc n)
    at_once (point.ComputePresent k) r n q = absurd (cc n)
    at_once (point.ComputeInsert k) r n q = absurd (cc n)
    at_once (point.Exchange k old new) r n q = absurd (cc n)

    -- a scan that can find nothing is done as it begins
    pub ends_at_once : (op : Point V) (r : Report V) → is_some (place c who).word ≡ true → finds_none op ≡ true → r ≡ quiet kind.Tree (outcome.Done (Scanned 0)) → Begun same always w who (Tree op) r w
    ends_at_once op r p n q = on_tree op r w p (at_once op r n q)

    -- a look-up or a scan of a pinned worker begins on the tree at once
    pub enters : (op : Point V) (r : Report V) (w' : World V) → is_some (place c who).word ≡ true → finds_none op ≡ false → writes op ≡ false → w'.forest ≡ w.forest → w'.machines ≡ set w.machines who (begun root op) → w'.calls ≡ set w.calls who Walking → w'.log ≡ w.log → r ≡ quiet kind.Tree outcome.Running → Begun same always w who (Tree op) r w'
    enters op r w' p n e ef em ec el q =
        let state : w' ≡ record w { machines = set w.machines who (begun root op); calls = set w.calls who Walking } =
        ap (λ y. record { forest = y; machines = w'.machines; calls = w'.calls; log = w'.log }) ef ∙ ap (λ y. record { forest = w.forest; machines = y; calls = w'.calls; log = w'.log }) em ∙ ap (λ y. record { forest = w.forest; machines = set w.machines who (begun root op); calls = y; log = w'.log }) ec ∙ ap (λ y. record { forest = w.forest; machines = set w.machines who (begun root op); calls = set w.calls who Walking; log = y }) el in
        on_tree op r w' p (enter op r w' n e (record { state = state; report = q }))

    -- a writing call of a pinned worker begins, and has its places to make free first
    pub reserves : (op : Point V) (r : Report V) (w' : World V) → is_some (place c who).word ≡ true → writes op ≡ true → w'.forest ≡ w.forest → w'.machines ≡ w.machines → w'.calls ≡ set w.calls who (Reserving op) → w'.log ≡ w.log → r ≡ quiet kind.Tree outcome.Running → Begun same always w who (Tree op) r w'
    reserves op r w' p e ef em ec el q =
        let state : w' ≡ record w { calls = set w.calls who (Reserving op) } =
        ap (λ y. record { forest = y; machines = w'.machines; calls = w'.calls; log = w'.log }) ef ∙ ap (λ y. record { forest = w.forest; machines = y; calls = w'.calls; log = w'.log }) em ∙ ap (λ y. record { forest = w.forest; machines = w.machines; calls = y; log = w'.log }) ec ∙ ap (λ y. record { forest = w.forest; machines = w.machines; calls = set w.calls who (Reserving op); log = y }) el in
        on_tree op r w' p (reserve op r w' e (record { state = state; report = q }))

    module _ (laws : ProgressLaws (Slot V) (Unit {0})) (intact : IsIntact same always w.forest w.machines w.calls) (op : CollectorOp) (x : Collection) (w' : World V) (did : Collected same always w.forest w.machines who (collector_event.Begin op) x w'.forest) where
      begins : Begins c who op x.outcome w'.forest.collector
      begins =
          let m : (m : Machine Id V) × (slice_get w.machines who ≡ Some m) = get_inside w.machines who (inside_machines same always w.forest w.machines w.calls intact who Idle idle) in
          let P : State (Slot V) (Unit {0}) → Type 0 = λ y. Begins c who op x.outcome y in
          subst P (sym did.state) (laws.begins c who op x (intact.each who Idle m.0 idle m.1).0 did.report)

      by_op : refusal c who op ≡ begin_fault op (place c who)
      by_op = ap (λ b. if b then begin_fault op (place c who) else Some fault.Unknown) reg

      fault_is : begin_misuse (Collector op) (slice_get w.calls who) (place c who) ≡ refusal c who op
      fault_is = past (Collector op) reg idle ∙ sym by_op

      same_forest : IsCharged w.forest → w'.forest.collector ≡ c → w'.forest ≡ w.forest
      same_forest charged e =
          let charge : w'.forest.charge ≡ w.forest.charge = did.charged ∙ ap (λ b. b + sizes w'.forest.collector.store) did.beside.base ∙ ap (λ y. w.forest.base + sizes y.store) e ∙ sym charged in
          ap (λ y. record { collector = y; charge = w'.forest.charge; base = w'.forest.base; limit = w'.forest.limit; version_max = w'.forest.version_max }) e
          ∙ ap (λ y. record { collector = c; charge = y; base = w'.forest.base; limit = w'.forest.limit; version_max = w'.forest.version_max }) charge
          ∙ ap (λ y. record { collector = c; charge = w.forest.charge; base = y; limit = w'.forest.limit; version_max = w'.forest.version_max }) did.beside.base
          ∙ ap (λ y. record { collector = c; charge = w.forest.charge; base = w.forest.base; limit = y; version_max = w'.forest.version_max }) did.beside.limit
          ∙ ap (λ y. record { collector = c; charge = w.forest.charge; base = w.forest.base; limit = w.forest.limit; version_max = y }) did.beside.versions

      module _ (charged : IsCharged w.forest) (ms : w'.machines ≡ w.machines) (calls : w'.calls ≡ set w.calls who (call_after x.outcome (Collecting op))) (log : w'.log ≡ w.log) (r : Report V) (q : r ≡ collection x (collected x.outcome)) where
        goes : refusal c who op ≡ None → Begun same always w who (Collector op) r w'
        goes e = proceeds (Collector op) r w' (fault_is ∙ e) (record { collector_report = x; step = did; machines = ms; calls = calls; report = q })

        by_outcome : (o : CollectorOutcome) → x.outcome ≡ o → Begins c who op o w'.forest.collector → Begun same always w who (Collector op) r w'
        by_outcome collector_outcome.Running e b = goes b.0
        by_outcome collector_outcome.Done e b = goes b.0
        by_outcome (collector_outcome.Refused f) e b =
            let back : w'.calls ≡ w.calls = calls ∙ ap (λ o. set w.calls who (call_after o (Collecting op))) e ∙ set_again w.calls who Idle idle in
            let none : x.called ≡ None = did.report.job ∙ ap (λ o. called_in c who (collector_event.Begin op) o) e in
            let told : collection {V = V} x (collected x.outcome) ≡ quiet kind.Collection (outcome.Refused (of_fault f)) =
            ap (λ o. collection {V = V} x (collected o)) e ∙ ap (λ o. collection {V = V} (record { called = o; outcome = x.outcome }) (outcome.Refused (of_fault f))) none in
            let is : w' ≡ w = ap (λ y. record { forest = y; machines = w'.machines; calls = w'.calls; log = w'.log }) (same_forest charged b.1) ∙ ap (λ y. record { forest = w.forest; machines = y; calls = w'.calls; log = w'.log }) ms ∙ ap (λ y. record { forest = w.forest; machines = w.machines; calls = y; log = w'.log }) back ∙ ap (λ y. record { forest = w.forest; machines = w.machines; calls = w.calls; log = y }) log in
            let P : Option Fault → Type 0 = λ m. Or (Collector op) m r w' in
            subst P (sym (fault_is ∙ b.0)) (q ∙ told, is)

        -- a call on the collector begins, or is refused for its first cause
        pub begun_collecting : Begun same always w who (Collector op) r w'
        begun_collecting = by_outcome x.outcome refl begins

  -- a call in flight goes on
  go_refused : (noise : Noise Id V) (f : Fault) (r : Report V) → misuse w who (Go noise) ≡ Some f → r ≡ quiet kind.Collection (outcome.Refused (of_fault f)) → Does same always w who (Go noise) (misuse w who (Go noise)) r w
  go_refused noise f r e q = let P : Option Fault → Type 0 = λ m. Does same always w who (Go noise) m r w in subst P (sym e) (q, refl)

  -- a further step of a worker that isn't registered is refused as Unknown
  pub go_unknown : (noise : Noise Id V) (r : Report V) → (place c who).registered ≡ false → r ≡ quiet kind.Collection (outcome.Refused (of_fault fault.Unknown)) → Does same always w who (Go noise) (misuse w who (Go noise)) r w
  go_unknown noise r e q = go_refused noise fault.Unknown r (ap (λ b. if b then (if is_busy (slice_get w.calls who) then None else Some fault.Idle) else Some fault.Unknown) e) q

  module _ (reg : (place c who).registered ≡ true) where
    placed : (noise : Noise Id V) → misuse w who (Go noise) ≡ (if is_busy (slice_get w.calls who) then None else Some fault.Idle)
    placed noise = ap (λ b. if b then (if is_busy (slice_get w.calls who) then None else Some fault.Idle) else Some fault.Unknown) reg

    -- a further step of a worker without a call in flight is refused as Idle
    pub go_idle : (noise : Noise Id V) (r : Report V) → slice_get w.calls who ≡ Some Idle → r ≡ quiet kind.Collection (outcome.Refused (of_fault fault.Idle)) → Does same always w who (Go noise) (misuse w who (Go noise)) r w
    go_idle noise r e q = go_refused noise fault.Idle r (placed noise ∙ ap (λ o. if is_busy o then None else Some fault.Idle) e) q

    -- a further step of a call in flight is taken, by what that call is about
    pub go_does : (noise : Noise Id V) (r : Report V) (w' : World V) (k : InFlight V) → slice_get w.calls who ≡ Some k → is_busy (Some k) ≡ true → GoesAt same always w who (Some k) noise r w' → Does same always w who (Go noise) (misuse w who (Go noise)) r w'
    go_does noise r w' k e b d =
        let none : misuse w who (Go noise) ≡ None = placed noise ∙ ap (λ o. if is_busy o then None else Some fault.Idle) e ∙ ap (λ x. if x then None else Some fault.Idle) b in
        let P : Option Fault → Type 0 = λ m. Does same always w who (Go noise) m r w' in
        let Q : Option (InFlight V) → Type 0 = λ o. GoesAt same always w who o noise r w' in
        subst P (sym none) (subst Q (sym e) d)
