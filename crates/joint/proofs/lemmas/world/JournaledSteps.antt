-- One step of the whole machine, on the map and in the journal.
use Rattle.std.proofs.Common.{◌≡◌, ◌<◌, ◌≤◌, ℕ, arith, Bool, true, false, ◌++◌, length, refl, sym, ◌∙◌, ap, subst, inl, inr}
use Rattle.std.specs.Prelude.{Option, None, Some, is_some, slice_get, if◌then◌else◌}
use Rattle.std.proofs.lemmas.List.{append-nil}
use Rattle.std.proofs.lemmas.Option.{slice_get_cases}
use Rattle.judge.specs.declared.journal.Entry.{Entry}
use Rattle.judge.specs.Answer.{Pairs}
use Rattle.congee.specs.declared.protocol.machine.Machine.{Machine}
use Rattle.congee.specs.declared.protocol.scan.ScanState.{ScanState as ScanState}
use Rattle.congee.specs.Keys.{IsMapOf}
use Rattle.congee.specs.protocol.Play.{Flight, Over, Follows, ScanFollows, flight}
use Rattle.joint.specs.declared.engine.in_flight.InFlight.{InFlight}
use Rattle.joint.specs.declared.engine.in_flight.InFlight.TheVariants.{Idle, Collecting, Reserving, Securing, Walking}
use Rattle.joint.specs.declared.id.Id.{Id}
use Rattle.joint.specs.declared.engine.request.Request.{Request}
use Rattle.joint.specs.declared.steps.Event.{Event}
use Rattle.joint.specs.declared.steps.Event.TheVariants.{Register, Begin, Go}
use Rattle.joint.specs.declared.steps.Report.{Report}
use Rattle.joint.specs.declared.steps.Step.{Step}
use Rattle.joint.specs.nodes.Nodes.{nodes}
use Rattle.joint.specs.engine.Intact.{is_reserving}
use Rattle.joint.specs.engine.Journaling.{in_list}
use Rattle.joint.specs.engine.Log.{request_at}
use Rattle.joint.specs.world.MapSteps.{looks_up, EventMap}
use Rattle.joint.specs.engine.Flying.{Flights, IsInFlight, AreInFlight, with_flight}
use Rattle.joint.specs.world.World.{Holds, FindsJournalFull, IsAsked, IsStep, StepsUnless, TakesStep, finds_journal_full, kept_at}
use Rattle.joint.specs.engine.Engine.{World}
use Rattle.joint.proofs.lemmas.world.JournalFull.{refused_flights, refused_map}
use Rattle.joint.proofs.lemmas.world.Logged.{event_maps, kept_line, writes_kept}
use Rattle.joint.proofs.lemmas.world.KeptMarks.{event_map}
use Rattle.congee.proofs.Laws.{both_true}

-- what a worker asked for agrees with its call however it is watched
module _ {V : Type 0} where
  scan_asked : (o : Option (Request V)) (s : ScanState Id V) (f : Flight V) → ScanFollows s f → IsAsked o f
  scan_asked o s f (inl x) = subst (λ (y : Flight V). IsAsked o y) (sym x.0) tt
  scan_asked o s f (inr (inl x)) = subst (λ (y : Flight V). IsAsked o y) (sym x.0) tt
  scan_asked o s f (inr (inr x)) = subst (λ (y : Flight V). IsAsked o y) (sym x.2) tt

  walking_asked : (o : Option (Request V)) (m : Machine Id V) (f g : Flight V) → Follows m f → Follows m g → IsAsked o g → IsAsked o f
  walking_asked o m f g (inr x) y a = scan_asked o x.0 f x.2
  walking_asked o m f g (inl x) (inl y) a = subst (λ (z : Flight V). IsAsked o z) (y.1 ∙ sym x.1) a
  walking_asked o m f g (inl x) (inr y) a = subst (λ (z : Flight V). IsAsked o z) (sym (x.1 ∙ (let P : _ → Type 0 = λ p. flight m ≡ flight (record m { phase = p }) in subst P y.1 refl))) tt

  same_asked : (o : Option (Request V)) (k : InFlight V) (m : Machine Id V) (f g : Flight V) → IsInFlight k m f → IsInFlight k m g → IsAsked o g → IsAsked o f
  same_asked o Idle m f g x y a = subst (λ (z : Flight V). IsAsked o z) (sym x) tt
  same_asked o (Collecting op) m f g x y a = subst (λ (z : Flight V). IsAsked o z) (sym x) tt
  same_asked o (Reserving op) m f g x y a = subst (λ (z : Flight V). IsAsked o z) (y ∙ sym x) a
  same_asked o (Securing op) m f g x y a = subst (λ (z : Flight V). IsAsked o z) (y ∙ sym x) a
  same_asked o Walking m f g x y a = walking_asked o m f g x y a

module _ {V : Type 0} (same : V → V → Bool) (always : Bool) where
  asked_any : (s : World V) (fs : Flights V) → Holds same always s → AreInFlight s fs → always ≡ true → (i : ℕ) → IsAsked (request_at s.log.requests i) (fs i)
  asked_any s fs h fl a i = by (slice_get s.calls i) refl where
    by : (k : Option (InFlight V)) → slice_get s.calls i ≡ k → IsAsked (request_at s.log.requests i) (fs i)
    by None e = elim (slice_get_cases s.calls i).1 [
      | inl x ↦ absurd (let q : None ≡ Some x.0 = sym e ∙ x.2 in cc)
      | inr x ↦ subst (λ (z : Flight V). IsAsked (request_at s.log.requests i) z) (sym (fl.beyond i x.0)) tt
    ]
    by (Some k) e =
        let m : (m : Machine Id V) × (slice_get s.machines i ≡ Some m) = elim (slice_get_cases s.machines i).1 [
          | inl x ↦ (x.0, x.2)
          | inr x ↦ absurd (let n : length s.machines ≡ length s.calls = h.0.machines in elim (slice_get_cases s.calls i).1 [
            | inl y ↦ (let l : i < length s.calls = y.1 in let b : length s.machines ≤ i = x.0 in omega (arith, l, b, n))
            | inr y ↦ (let q : None ≡ Some k = sym y.1 ∙ e in cc)
          ])
        ] in
        same_asked (request_at s.log.requests i) k m.0 (fs i) (h.2.flights i) (fl.each i k m.0 e m.1) (h.2.in_flight.each i k m.0 e m.1) (h.2.asked a i)

  -- the step as the map sees it, and what the journal keeps of it
  pub record Mapped (s : World V) (step : Step V) (r : Report V) (s' : World V) (fs : Flights V) (m : Pairs V) : Type 0 where
    pub entry : Option (Entry V)
    pub pairs : Pairs V
    pub flights : Flights V
    pub stand : IsMapOf (nodes s'.forest) pairs
    pub map : EventMap same fs m step.event (record { step = step; report = r; entry = entry; pairs = pairs }) flights
    pub in_flight : AreInFlight s' flights
    pub entries : s'.log.entries ≡ s.log.entries ++ in_list (if r.kept then entry else None)
    pub writes : 0 < s.log.places → (e : Entry V) → entry ≡ Some e → looks_up e.call ≡ false → r.kept ≡ true
    pub places : s'.log.places ≡ s.log.places

  module _ (s : World V) (step : Step V) (s' : World V) (fs : Flights V) (m : Pairs V) (h : Holds same always s) (h' : Holds same always s') (st : IsMapOf (nodes s.forest) m) (fl : AreInFlight s fs) where
    takes : (r : Report V) → TakesStep same always s step r s' → Mapped s step r s' fs m
    takes r x =
        let each = asked_any s fs h fl in
        let a = event_maps same always s s' step x.told h x.engine fs m st fl each in
        let k = kept_at s step.worker step.event x.told s' in
        let line = kept_line same always s s' step x.told h x.engine fs m st fl each in
        let P : Report V → Type 0 = λ y. EventMap same fs m step.event (record { step = step; report = y; entry = a.entry; pairs = a.pairs }) a.flights in
        let Q : Bool → Type 0 = λ b. s'.log.entries ≡ s.log.entries ++ in_list (if b then a.entry else None) in
        let was : 0 < s.log.places → 0 < s'.log.places = λ p. subst (λ n. 0 < n) (sym x.places) p in
        record {
          entry = a.entry;
          pairs = a.pairs;
          flights = a.flights;
          stand = a.stand;
          map = subst P (sym x.report) (event_map (is_some k) same fs m step.event (record { step = step; report = x.told; entry = a.entry; pairs = a.pairs }) a.flights a.step);
          in_flight = record { each = a.in_flight.each; beyond = a.in_flight.beyond };
          entries = subst Q (sym (ap (λ y. y.kept) x.report)) (x.entries ∙ ap (λ o. s.log.entries ++ in_list o) line);
          writes = λ p e q l. ap (λ y. y.kept) x.report ∙ writes_kept same always s s' step x.told h x.engine fs m st fl each (λ z. h'.2.reserved (was z)) p e q l;
          places = x.places;
        }

    gives : (event : Event V) (r : Report V) → step.event ≡ event → finds_journal_full s step.worker event ≡ true → FindsJournalFull s step.worker r s' → Mapped s step r s' fs m
    gives Register r q g x = absurd (cc g)
    gives (Begin op) r q g x = absurd (cc g)
    gives (Go noise) r q g x =
        let b : is_reserving (slice_get s.calls step.worker) ≡ true = (both_true _ _ g).0 in
        let P : World V → Type 0 = λ y. AreInFlight y (with_flight fs step.worker Over) in
        let Q : Event V → Type 0 = λ y. EventMap same fs m y (record { step = record { worker = step.worker; event = y }; report = r; entry = None; pairs = m }) (with_flight fs step.worker Over) in
        let R : Event V → Type 0 = λ y. EventMap same fs m step.event (record { step = record { worker = step.worker; event = y }; report = r; entry = None; pairs = m }) (with_flight fs step.worker Over) in
        let S : World V → Type 0 = λ y. IsMapOf (nodes y.forest) m in
        let kept : r.kept ≡ false = ap (λ y. y.kept) x.report in
        let T : Bool → Type 0 = λ z. s'.log.entries ≡ s.log.entries ++ in_list {A = Entry V} (if z then None else None) in
        record {
          entry = None;
          pairs = m;
          flights = with_flight fs step.worker Over;
          stand = subst S (sym x.state) st;
          map = subst Q (sym q) (refused_map same always s step.worker h b fs m fl noise r x.report);
          in_flight = subst P (sym x.state) (refused_flights same always s step.worker h b fs m st fl);
          entries = subst T (sym kept) (ap (λ y. y.log.entries) x.state ∙ sym (append-nil s.log.entries));
          writes = λ p e z l. absurd (let n : None ≡ Some e = z in cc);
          places = ap (λ y. y.log.places) x.state;
        }

    by_case : (b : Bool) (r : Report V) → finds_journal_full s step.worker step.event ≡ b → StepsUnless same always b s step r s' → Mapped s step r s' fs m
    by_case true r e x = gives step.event r refl e x
    by_case false r e x = takes r x

    -- a step of the whole machine is one on the map, and the journal keeps its entry where the report says so
    pub step_mapped : (r : Report V) → IsStep same always s step r s' → Mapped s step r s' fs m
    step_mapped r x = by_case (finds_journal_full s step.worker step.event) r refl x.does
