-- A step of a call on the collector leaves the machine intact.
use Rattle.std.proofs.Common.{◌≡◌, ◌<◌, ℕ, zero, suc, arith, ◌+◌, ◌≤◌, Bool, List, [], ◌∷◌, refl, sym, ◌∙◌, ap, subst, inl, inr}
use Rattle.std.proofs.Math.ListN.{set}
use Rattle.std.specs.Prelude.{Option, None, Some, is_some, length, slice_get}
use Rattle.std.proofs.lemmas.List.{length-set, set-set}
use Rattle.std.proofs.lemmas.Option.{slice_get_within}
use Rattle.crossbeam_epoch.specs.declared.world.participant.Participant.{Participant}
use Rattle.crossbeam_epoch.specs.declared.world.participant.Phase.TheVariants as collector_phase
use Rattle.crossbeam_epoch.specs.declared.world.report.Event.{Event}
use Rattle.crossbeam_epoch.specs.declared.world.report.Event.TheVariants.{Begin, Go}
use Rattle.crossbeam_epoch.specs.declared.world.report.Op.{Op}
use Rattle.crossbeam_epoch.specs.declared.world.report.Op.TheVariants.{Secure}
use Rattle.crossbeam_epoch.specs.declared.fault.Fault.{Fault}
use Rattle.crossbeam_epoch.specs.declared.world.report.Outcome.{Outcome}
use Rattle.crossbeam_epoch.specs.declared.world.report.Outcome.TheVariants.{Running, Done, Refused}
use Rattle.crossbeam_epoch.specs.declared.world.report.Report.{Report}
use Rattle.crossbeam_epoch.specs.world.Machine.{State, place}
use Rattle.crossbeam_epoch.specs.world.Progress.{Begins, GoesOn, IsOn}
use Rattle.congee.specs.declared.protocol.machine.Machine.{Machine}
use Rattle.congee.specs.declared.protocol.op.Op.{Op as Point}
use Rattle.congee.specs.declared.protocol.phase.Phase.TheVariants.{New, Ended}
use Rattle.congee.specs.protocol.Play.{begun as first_machine, parts}
use Rattle.joint.specs.declared.engine.in_flight.InFlight.{InFlight}
use Rattle.joint.specs.declared.engine.in_flight.InFlight.TheVariants.{Idle, Collecting, Reserving, Securing, Walking}
use Rattle.joint.specs.declared.id.Id.{Id}
use Rattle.joint.specs.declared.nodes.slot.Slot.{Slot}
use Rattle.joint.specs.nodes.Nodes.{Nodes}
use Rattle.joint.specs.engine.Intact.{IsAt, IsIntact, IsSecuring, MayStart, Secured, call_after, secured_call, secured_machines}
use Rattle.joint.specs.Names.{root}
use Rattle.joint.specs.engine.Laws.{ProgressLaws}
use Rattle.joint.specs.engine.Safety.{Rests, Collected}
use Rattle.joint.proofs.lemmas.engine.SecuredPlaces.{with_room}
use Rattle.congee.proofs.Laws.{get_set, set_here}

-- a place below the length of a list has something in it
pub get_inside : {A : Type 0} (xs : List A) (i : ℕ) → i < length xs → (x : A) × (slice_get xs i ≡ Some x)
get_inside [] i l = absurd (omega (arith, l))
get_inside (x ∷ xs) zero l = (x, refl)
get_inside (x ∷ xs) (suc i) l = get_inside xs i (omega (arith, l))

-- so has the place where another list of that length has something
pub get_beside : {A B : Type 0} (xs : List A) (ys : List B) (i : ℕ) → length xs ≡ length ys → (y : B) → slice_get ys i ≡ Some y → (x : A) × (slice_get xs i ≡ Some x)
get_beside xs ys i n y e = get_inside xs i (subst (λ (k : ℕ). i < k) (sym n) (slice_get_within ys i y e))

-- an intact machine is intact under other names
pub intact_at : {V : Type 0} (same : V → V → Bool) (always : Bool) (s s' : Nodes V) (ms ms' : List (Machine Id V)) (calls calls' : List (InFlight V)) → s' ≡ s → ms' ≡ ms → calls' ≡ calls → IsIntact same always s ms calls → IsIntact same always s' ms' calls'
intact_at {V} same always s s' ms ms' calls calls' es em ec i =
    let P : Nodes V → Type 0 = λ x. IsIntact same always x ms' calls' in
    let Q : List (Machine Id V) → Type 0 = λ x. IsIntact same always s x calls' in
    let R : List (InFlight V) → Type 0 = λ x. IsIntact same always s ms x in
    subst P (sym es) (subst Q (sym em) (subst R (sym ec) i))

-- a step of the collector is one with the nodes and the calls under other names
pub collected_at : {V : Type 0} (same : V → V → Bool) (always : Bool) (s1 s s' : Nodes V) (ms1 ms : List (Machine Id V)) (who : ℕ) (event : Event) (r : Report) → s1 ≡ s → ms1 ≡ ms → Collected same always s1 ms1 who event r s' → Collected same always s ms who event r s'
collected_at {V} same always s1 s s' ms1 ms who event r es em c =
    subst (λ (x : Nodes V). Collected same always x ms who event r s') es (subst (λ (x : List (Machine Id V)). Collected same always s1 x who event r s') em c)

module _ {V : Type 0} (same : V → V → Bool) (always : Bool) (s : Nodes V) (ms : List (Machine Id V)) (calls : List (InFlight V)) (intact : IsIntact same always s ms calls) (who : ℕ) where
  -- a worker that has a call in flight or is idle has its place among the calls
  pub call_inside : (k : InFlight V) → slice_get calls who ≡ Some k → who < length calls
  call_inside k at = slice_get_within calls who k at

  -- and so it has among the machines
  pub inside_machines : (k : InFlight V) → slice_get calls who ≡ Some k → who < length ms
  inside_machines k at = subst (λ (n : ℕ). who < n) (sym intact.machines) (call_inside k at)

  -- an idle worker has no call on the tree in flight
  pub idle_rests : slice_get calls who ≡ Some Idle → Rests ms who
  idle_rests at m here = (intact.each who Idle m at here).1

  -- a worker whose call is on the collector has no call on the tree in flight
  pub on_rests : (op : Op) → slice_get calls who ≡ Some (Collecting op) → Rests ms who
  on_rests op at m here = (intact.each who (Collecting op) m at here).1

  -- after a step of the collector the machine is intact with a call of the worker that fits its place and machine
  pub after_step : (event : Event) (r : Report) (s' : Nodes V) (k' : InFlight V) → Collected same always s ms who event r s' → ((m : Machine Id V) → slice_get ms who ≡ Some m → IsAt k' (place s'.collector who) m) → IsIntact same always s' ms (set calls who k')
  after_step event r s' k' c now = record {
    safe = c.safe;
    machines = intact.machines ∙ sym (length-set calls who k');
    table = c.moves.table ∙ intact.table ∙ sym (length-set calls who k');
    few = rw (length-set calls who k') intact.few;
    filed = c.filed intact.filed;
    each = λ i k m at here. elim (get_set calls who i k' k at) [
      | inl e ↦ (
          let P : ℕ → Type 0 = λ j. IsAt k' (place s'.collector j) m in
          let Q : InFlight V → Type 0 = λ x. IsAt x (place s'.collector i) m in
          subst Q e.1 (subst P (sym e.0) (now m (subst (λ (j : ℕ). slice_get ms j ≡ Some m) e.0 here))))
      | inr apart ↦ subst (λ (p : Participant (Unit {0})). IsAt k p m) (sym (c.moves.others i apart.0)) (intact.each i k m apart.1 here)
    ];
  }

module _ {V : Type 0} (same : V → V → Bool) (always : Bool) (laws : ProgressLaws (Slot V) (Unit {0})) (s : Nodes V) (ms : List (Machine Id V)) (calls : List (InFlight V)) (intact : IsIntact same always s ms calls) (who : ℕ) where
  begun_at : (op : Op) (o : Outcome) (c c' : State (Slot V) (Unit {0})) (m : Machine Id V) → (place c who).phase ≡ collector_phase.Idle → m.phase ≡ Ended → Begins c who op o c' → IsAt (call_after o (Collecting op)) (place c' who) m
  begun_at op Running c c' m i e b = (b.1, e)
  begun_at op Done c c' m i e b = (b.1, e)
  begun_at op (Refused f) c c' m i e b = (ap (λ x. (place x who).phase) b.1 ∙ i, e)

  -- a call on the collector that begins leaves the machine intact
  pub begin_collecting_intact : (op : Op) (r : Report) (s' : Nodes V) → slice_get calls who ≡ Some Idle → Collected same always s ms who (Begin op) r s' → IsIntact same always s' ms (set calls who (call_after r.outcome (Collecting op)))
  begin_collecting_intact op r s' at c = after_step same always s ms calls intact who (Begin op) r s' (call_after r.outcome (Collecting op)) c (λ m here.
      let x : ((place s.collector who).phase ≡ collector_phase.Idle) × (m.phase ≡ Ended) = intact.each who Idle m at here in
      let P : State (Slot V) (Unit {0}) → Type 0 = λ y. Begins s.collector who op r.outcome y in
      begun_at op r.outcome s.collector s'.collector m x.0 x.1 (subst P (sym c.state) (laws.begins s.collector who op r x.0 c.report)))

  gone_at : (op : Op) (o : Outcome) (c c' : State (Slot V) (Unit {0})) (m : Machine Id V) → m.phase ≡ Ended → GoesOn c who op o c' → IsAt (call_after o (Collecting op)) (place c' who) m
  gone_at op Running c c' m e b = (b.0, e)
  gone_at op Done c c' m e b = (b.0, e)
  gone_at op (Refused f) c c' m e b = (b.2, e)

  -- a call on the collector that goes on leaves the machine intact
  pub go_collecting_intact : (op : Op) (r : Report) (s' : Nodes V) → slice_get calls who ≡ Some (Collecting op) → Collected same always s ms who Go r s' → IsIntact same always s' ms (set calls who (call_after r.outcome (Collecting op)))
  go_collecting_intact op r s' at c = after_step same always s ms calls intact who Go r s' (call_after r.outcome (Collecting op)) c (λ m here.
      let x : IsOn op (place s.collector who) × (m.phase ≡ Ended) = intact.each who (Collecting op) m at here in
      let P : State (Slot V) (Unit {0}) → Type 0 = λ y. GoesOn s.collector who op r.outcome y in
      gone_at op r.outcome s.collector s'.collector m x.1 (subst P (sym c.state) (laws.goes_on s.collector who op r intact.safe.sound.sound.orderly x.0 c.report)))

-- a writing call that makes its places free
securing_call : {V : Type 0} (x : Option (InFlight V)) → IsSecuring x → (op : Point V) × (x ≡ Some (Securing op))
securing_call (Some (Securing op)) s = (op, refl)
securing_call (Some Idle) s = absurd s
securing_call (Some (Collecting op)) s = absurd s
securing_call (Some (Reserving op)) s = absurd s
securing_call (Some Walking) s = absurd s
securing_call None s = absurd s

module _ {V : Type 0} (same : V → V → Bool) (always : Bool) (s : Nodes V) (ms : List (Machine Id V)) (calls : List (InFlight V)) (intact : IsIntact same always s ms calls) (who : ℕ) where
  -- a worker that makes its places free has no call on the tree in flight
  pub securing_rests : IsSecuring (slice_get calls who) → Rests ms who
  securing_rests q m here =
      let k : (op : Point V) × (slice_get calls who ≡ Some (Securing op)) = securing_call (slice_get calls who) q in
      (intact.each who (Securing k.0) m k.1 here).2

  -- a worker that makes its places free has its place among the calls
  pub securing_inside : IsSecuring (slice_get calls who) → who < length calls
  securing_inside q = let k : (op : Point V) × (slice_get calls who ≡ Some (Securing op)) = securing_call (slice_get calls who) q in call_inside same always s ms calls intact who (Securing k.0) k.1

  module _ (laws : ProgressLaws (Slot V) (Unit {0})) (op : Point V) (at : slice_get calls who ≡ Some (Securing op)) (r : Report) (s' : Nodes V) (c : Collected same always s ms who Go r s') where
    goes : (m : Machine Id V) → slice_get ms who ≡ Some m → GoesOn s.collector who (Secure 2) r.outcome s'.collector
    goes m here =
        let x : IsAt (Securing op) (place s.collector who) m = intact.each who (Securing op) m at here in
        let P : State (Slot V) (Unit {0}) → Type 0 = λ y. GoesOn s.collector who (Secure 2) r.outcome y in
        subst P (sym c.state) (laws.goes_on s.collector who (Secure 2) r intact.safe.sound.sound.orderly x.0 c.report)

    fits : (o : Outcome) → r.outcome ≡ o → (m : Machine Id V) → slice_get ms who ≡ Some m → GoesOn s.collector who (Secure 2) o s'.collector
    fits o e m here = let P : Outcome → Type 0 = λ y. GoesOn s.collector who (Secure 2) y s'.collector in subst P e (goes m here)

    -- where it goes on, the step is one that makes places free
    pub secures_on : r.outcome ≡ Running → (ms' : List (Machine Id V)) (calls' : List (InFlight V)) → ms' ≡ ms → calls' ≡ set (set calls who Idle) who (Securing op) → Secured same always s ms calls who r s' ms' calls'
    secures_on e ms' calls' em ec =
        let q : calls' ≡ set calls who (Securing op) = ec ∙ set-set calls who Idle (Securing op) in
        let i : IsIntact same always s' ms (set calls who (Securing op)) = after_step same always s ms calls intact who Go r s' (Securing op) c (λ m here.
        let x : IsAt (Securing op) (place s.collector who) m = intact.each who (Securing op) m at here in
        let g : GoesOn s.collector who (Secure 2) Running s'.collector = fits Running e m here in
        (g.0, ap is_some g.2.0 ∙ x.1, x.2, x.3)) in
        record {
          intact = intact_at same always s' s' ms ms' (set calls who (Securing op)) calls' refl em q i;
          collected = c;
          call = q ∙ sym (ap (λ o. set calls who (secured_call o (slice_get calls who))) e ∙ ap (λ k. set calls who (secured_call Running k)) at);
          machine = em ∙ sym (ap (λ o. secured_machines o (slice_get calls who) ms who) e);
        }

    -- where it is refused, the step is one that makes places free, and leaves the worker idle
    pub refused_then : (f : Fault) → r.outcome ≡ Refused f → (ms' : List (Machine Id V)) (calls' : List (InFlight V)) → ms' ≡ ms → calls' ≡ set calls who Idle → Secured same always s ms calls who r s' ms' calls'
    refused_then f e ms' calls' em ec =
        let i : IsIntact same always s' ms (set calls who Idle) = after_step same always s ms calls intact who Go r s' Idle c (λ m here.
        let x : IsAt (Securing op) (place s.collector who) m = intact.each who (Securing op) m at here in
        let g : GoesOn s.collector who (Secure 2) (Refused f) s'.collector = fits (Refused f) e m here in
        (g.2, x.2)) in
        record {
          intact = intact_at same always s' s' ms ms' (set calls who Idle) calls' refl em ec i;
          collected = c;
          call = ec ∙ sym (ap (λ o. set calls who (secured_call o (slice_get calls who))) e);
          machine = em ∙ sym (ap (λ o. secured_machines o (slice_get calls who) ms who) e);
        }

    -- once the places are free, the machine is intact with the worker idle
    pub free_intact : r.outcome ≡ Done → IsIntact same always s' ms (set calls who Idle)
    free_intact e = after_step same always s ms calls intact who Go r s' Idle c (λ m here.
        let x : IsAt (Securing op) (place s.collector who) m = intact.each who (Securing op) m at here in
        let g : GoesOn s.collector who (Secure 2) Done s'.collector = fits Done e m here in
        (g.0, x.2))

    -- with its call put away the worker is idle
    pub free_idle : slice_get (set calls who Idle) who ≡ Some Idle
    free_idle = set_here calls who Idle (Securing op) at

    -- once its places are free, the worker may begin the call on the tree
    pub free_may : r.outcome ≡ Done → MayStart s'.collector who op
    free_may e =
        let w : (m : Machine Id V) × (slice_get ms who ≡ Some m) = get_inside ms who (inside_machines same always s ms calls intact who (Securing op) at) in
        let x : IsAt (Securing op) (place s.collector who) w.0 = intact.each who (Securing op) w.0 at w.1 in
        let g : GoesOn s.collector who (Secure 2) Done s'.collector = fits Done e w.0 w.1 in
        let l : length (place s'.collector who).bag + 2 ≤ 64 = g.1.2 g.0 (omega arith) in
        record { registered = g.1.1 ∙ x.0.0; pinned = ap is_some g.1.0 ∙ x.1; room = with_room {C = Id} (parts op).1 New (length (place s'.collector who).bag) l }

    -- once its places are free and its call on the tree has begun, that was the last step of making them free
    pub started_then : r.outcome ≡ Done → (s2 : Nodes V) (ms' : List (Machine Id V)) (calls' : List (InFlight V)) → s2 ≡ s' → ms' ≡ set ms who (first_machine root op) → calls' ≡ set (set calls who Idle) who Walking → IsIntact same always s2 ms' calls' → Secured same always s ms calls who r s2 ms' calls'
    started_then e s2 ms' calls' es em ec i = record {
      intact = i;
      collected = subst (λ (y : Nodes V). Collected same always s ms who Go r y) (sym es) c;
      call = ec ∙ set-set calls who Idle Walking ∙ sym (ap (λ o. set calls who (secured_call o (slice_get calls who))) e ∙ ap (λ k. set calls who (secured_call Done k)) at);
      machine = em ∙ sym (ap (λ o. secured_machines o (slice_get calls who) ms who) e ∙ ap (λ k. secured_machines Done k ms who) at);
    }
