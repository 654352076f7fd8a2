-- A writing call begins, may be ended before its first step, and in that begins to make places free.
use Rattle.std.proofs.Common.{◌≡◌, ◌<◌, ℕ, Bool, true, List, refl, sym, ◌∙◌, ap, subst, inl, inr}
use Rattle.std.proofs.Math.ListN.{set}
use Rattle.std.specs.Prelude.{Option, None, Some, is_none, is_some, length, slice_get, if◌then◌else◌}
use Rattle.std.proofs.lemmas.List.{length-set, set-set, get_or-set_same}
use Rattle.crossbeam_epoch.specs.declared.fault.Fault.TheVariants.{Unpinned, Unknown}
use Rattle.crossbeam_epoch.specs.declared.names.Name.{Name}
use Rattle.crossbeam_epoch.specs.declared.world.participant.Participant.{Participant}
use Rattle.crossbeam_epoch.specs.declared.world.participant.Phase.TheVariants as collector_phase
use Rattle.crossbeam_epoch.specs.declared.world.report.Event.TheVariants.{Begin}
use Rattle.crossbeam_epoch.specs.declared.world.report.Op.TheVariants.{Secure}
use Rattle.crossbeam_epoch.specs.declared.world.report.Outcome.{Outcome}
use Rattle.crossbeam_epoch.specs.declared.world.report.Outcome.TheVariants.{Running, Done, Refused}
use Rattle.crossbeam_epoch.specs.declared.world.report.Report.{Report}
use Rattle.crossbeam_epoch.specs.world.Machine.{State, blank, place, with_place}
use Rattle.crossbeam_epoch.specs.world.Progress.{Begins, Empties, refusal}
use Rattle.crossbeam_epoch.specs.world.Steps.{after, begin_fault, begun_at, called_in}
use Rattle.congee.specs.declared.protocol.machine.Machine.{Machine}
use Rattle.congee.specs.declared.protocol.op.Op.{Op}
use Rattle.joint.specs.declared.engine.in_flight.InFlight.{InFlight}
use Rattle.joint.specs.declared.engine.in_flight.InFlight.TheVariants.{Idle, Collecting, Reserving, Securing, Walking}
use Rattle.joint.specs.declared.id.Id.{Id}
use Rattle.joint.specs.declared.nodes.slot.Slot.{Slot}
use Rattle.joint.specs.nodes.Nodes.{Nodes, nodes}
use Rattle.joint.specs.engine.Intact.{IsAt, IsIntact, BeginsSecuring, is_reserving, securing_of, writes}
use Rattle.joint.specs.engine.Laws.{ProgressLaws}
use Rattle.joint.specs.engine.Safety.{Rests, Collected}
use Rattle.joint.specs.nodes.View.{heap}
use Rattle.joint.proofs.lemmas.engine.Collecting.{get_inside, intact_at, call_inside, inside_machines, after_step}
use Rattle.joint.proofs.lemmas.engine.HandOver.{held_place}
use Rattle.congee.proofs.Laws.{get_set, set_here}

-- a writing call that has taken no step stands in flight with its operation
pub reserving_call : {V : Type 0} (x : Option (InFlight V)) → is_reserving x ≡ true → (op : Op V) × (x ≡ Some (Reserving op))
reserving_call (Some (Reserving op)) e = (op, refl)
reserving_call (Some Idle) e = absurd (cc e)
reserving_call (Some (Collecting op)) e = absurd (cc e)
reserving_call (Some (Securing op)) e = absurd (cc e)
reserving_call (Some Walking) e = absurd (cc e)
reserving_call None e = absurd (cc e)

-- what it leaves
module _ {V : Type 0} (same : V → V → Bool) (always : Bool) (s : Nodes V) (ms : List (Machine Id V)) (calls : List (InFlight V)) (who : ℕ) (s' : Nodes V) (ms' : List (Machine Id V)) (calls' : List (InFlight V)) (b : BeginsSecuring same always s ms calls who s' ms' calls') where
  -- the nodes are as before, since no job was called
  pub same_nodes : nodes s' ≡ nodes s
  same_nodes =
      let none : b.collector_report.called ≡ None = b.collected.report.job ∙ ap (called_in s.collector who (Begin (Secure 2))) b.running in
      let P : Option (ℕ × Option Name) → Type 0 = λ o. Empties s.collector.store o s'.collector.store in
      ap heap (subst P none b.collected.moves.cells)

  -- the worker's call is the one that makes its places free, and the others are as before
  pub next_calls : (op : Op V) → slice_get calls who ≡ Some (Reserving op) → calls' ≡ set calls who (Securing op)
  next_calls op e = b.call ∙ ap (λ k. set calls who (securing_of k)) e

  -- that is the call in the worker's place
  pub next_here : (op : Op V) → slice_get calls who ≡ Some (Reserving op) → slice_get calls' who ≡ Some (Securing op)
  next_here op e = ap (λ ks. slice_get ks who) (next_calls op e) ∙ set_here calls who (Securing op) (Reserving op) e

module _ {V : Type 0} (same : V → V → Bool) (always : Bool) (s : Nodes V) (ms : List (Machine Id V)) (calls : List (InFlight V)) (intact : IsIntact same always s ms calls) (who : ℕ) where
  -- another call comes into the worker's place
  exchanged : (k' : InFlight V) → ((m : Machine Id V) → slice_get ms who ≡ Some m → IsAt k' (place s.collector who) m) → IsIntact same always s ms (set calls who k')
  exchanged k' now = record {
    safe = intact.safe;
    machines = intact.machines ∙ sym (length-set calls who k');
    table = intact.table ∙ sym (length-set calls who k');
    few = rw (length-set calls who k') intact.few;
    filed = intact.filed;
    each = λ i k m at here. elim (get_set calls who i k' k at) [
      | inl e ↦ (
          let P : ℕ → Type 0 = λ j. IsAt k' (place s.collector j) m in
          let Q : InFlight V → Type 0 = λ x. IsAt x (place s.collector i) m in
          subst Q e.1 (subst P (sym e.0) (now m (subst (λ (j : ℕ). slice_get ms j ≡ Some m) e.0 here))))
      | inr apart ↦ intact.each i k m apart.1 here
    ];
  }

  -- a writing call that an idle pinned worker begins leaves the machine intact
  pub reserved : (op : Op V) → slice_get calls who ≡ Some Idle → (place s.collector who).registered ≡ true → is_some (place s.collector who).word ≡ true → writes op ≡ true → IsIntact same always s ms (set calls who (Reserving op))
  reserved op at reg pin w = exchanged (Reserving op) (λ m here. let x : IsAt Idle (place s.collector who) m = intact.each who Idle m at here in (reg, pin, x.0, x.1, w))

  module _ (on : is_reserving (slice_get calls who) ≡ true) where
    call : (op : Op V) × (slice_get calls who ≡ Some (Reserving op))
    call = reserving_call (slice_get calls who) on

    at : (m : Machine Id V) → slice_get ms who ≡ Some m → IsAt (Reserving call.0) (place s.collector who) m
    at m here = intact.each who (Reserving call.0) m call.1 here

    -- the worker has its place among the calls
    pub reserving_inside : who < length calls
    reserving_inside = call_inside same always s ms calls intact who (Reserving call.0) call.1

    -- it has no call on the tree in flight
    pub reserving_rests : Rests ms who
    reserving_rests m here = (at m here).3

    -- with the call put away before its first step the machine is intact
    pub abandoned : IsIntact same always s ms (set calls who Idle)
    abandoned = exchanged Idle (λ m here. ((at m here).2, (at m here).3))

  -- a securing begins, and runs on
  module _ (laws : ProgressLaws (Slot V) (Unit {0})) (op : Op V) (on : slice_get calls who ≡ Some (Reserving op)) (r : Report) (s' : Nodes V) (did : Collected same always s ms who (Begin (Secure 2)) r s') where
    abbrev c : State (Slot V) (Unit {0})
    c = s.collector

    here : (m : Machine Id V) × (slice_get ms who ≡ Some m)
    here = get_inside ms who (inside_machines same always s ms calls intact who (Reserving op) on)

    now : IsAt (Reserving op) (place c who) here.0
    now = intact.each who (Reserving op) here.0 on here.1

    begins : Begins c who (Secure 2) r.outcome s'.collector
    begins = let P : State (Slot V) (Unit {0}) → Type 0 = λ y. Begins c who (Secure 2) r.outcome y in subst P (sym did.state) (laws.begins c who (Secure 2) r now.2 did.report)

    abbrev put : Participant (Unit {0})
    put = begun_at (Secure 2) (place c who)

    free : (o : Option ℕ) → is_some o ≡ true → (if is_none o then Some Unpinned else None) ≡ None
    free None q = absurd (cc q)
    free (Some y) q = refl

    no_fault : refusal c who (Secure 2) ≡ None
    no_fault = ap (λ b. if b then begin_fault (Secure 2) (place c who) else Some Unknown) now.0 ∙ free (place c who).word now.1

    not_done : r.outcome ≡ Done → (place s'.collector who).phase ≡ collector_phase.Idle → ⊥
    not_done e idle =
        let in_table : who < length c.table = held_place c.table who now.0 in
        let at : s'.collector ≡ with_place c who put = did.state ∙ ap (after c who (Begin (Secure 2))) e in
        let q : place s'.collector who ≡ put = ap (λ y. place y who) at ∙ get_or-set_same c.table who put blank in_table in
        let z : collector_phase.Idle ≡ collector_phase.Secure 2 = sym idle ∙ ap (λ y. y.phase) q in
        cc

    runs_by : (o : Outcome) → r.outcome ≡ o → Begins c who (Secure 2) o s'.collector → r.outcome ≡ Running
    runs_by Running e b = e
    runs_by Done e b = absurd (not_done e b.1)
    runs_by (Refused f) e b = absurd (let z : Some f ≡ None = sym b.0 ∙ no_fault in cc)

    runs : r.outcome ≡ Running
    runs = runs_by r.outcome refl begins

    begun : Begins c who (Secure 2) Running s'.collector
    begun = let P : Outcome → Type 0 = λ o. Begins c who (Secure 2) o s'.collector in subst P runs begins

    -- with that step of the collector taken, the writing call begins to make its places free, which runs on
    pub begins_securing : (s2 : Nodes V) (ms' : List (Machine Id V)) (calls' : List (InFlight V)) → s2 ≡ s' → ms' ≡ ms → calls' ≡ set (set calls who Idle) who (Securing op) → BeginsSecuring same always s ms calls who s2 ms' calls'
    begins_securing s2 ms' calls' es em ec =
        let q : calls' ≡ set calls who (Securing op) = ec ∙ set-set calls who Idle (Securing op) in
        let i : IsIntact same always s' ms (set calls who (Securing op)) = after_step same always s ms calls intact who (Begin (Secure 2)) r s' (Securing op) did (λ m at.
        let x : IsAt (Reserving op) (place c who) m = intact.each who (Reserving op) m on at in
        (begun.1, ap is_some begun.3.0 ∙ x.1, x.3, x.4)) in
        record {
          intact = intact_at same always s' s2 ms ms' (set calls who (Securing op)) calls' es em q i;
          collector_report = r;
          collected = subst (λ (y : Nodes V). Collected same always s ms who (Begin (Secure 2)) r y) (sym es) did;
          running = runs;
          call = q ∙ sym (ap (λ k. set calls who (securing_of k)) on);
          machine = em;
        }
