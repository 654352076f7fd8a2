-- A writing call that finds no place in the journal: it is over, and all else is as it was.
use Rattle.std.proofs.Common.{◌≡◌, ◌<◌, ℕ, Bool, true, false, length, refl, sym, ◌∙◌, ap, subst, inr}
use Rattle.std.proofs.Math.ListN.{set}
use Rattle.std.specs.Prelude.{None, Some, slice_get, slice_set}
use Rattle.std.proofs.lemmas.List.{length-set}
use Rattle.std.proofs.lemmas.Option.{slice_get_within}
use Rattle.judge.specs.Answer.{Pairs}
use Rattle.congee.specs.declared.protocol.machine.Noise.{Noise}
use Rattle.congee.specs.declared.protocol.op.Op.{Op as Point}
use Rattle.congee.specs.Keys.{IsMapOf}
use Rattle.congee.specs.protocol.Play.{Flight, Pending, Over, Unasked, parts}
use Rattle.joint.specs.declared.engine.in_flight.InFlight.TheVariants.{Idle, Reserving}
use Rattle.joint.specs.declared.id.Id.{Id}
use Rattle.joint.specs.declared.refusal.Refusal.TheVariants.{JournalFull}
use Rattle.joint.specs.declared.steps.Event.TheVariants.{Go}
use Rattle.joint.specs.declared.steps.Kind.TheVariants.{Collection as OfCollector}
use Rattle.joint.specs.declared.steps.Outcome.TheVariants.{Refused}
use Rattle.joint.specs.declared.steps.Report.{Report}
use Rattle.joint.specs.nodes.Nodes.{nodes}
use Rattle.joint.specs.engine.Intact.{is_reserving, writes}
use Rattle.joint.specs.engine.Journaling.{has_place, places_of}
use Rattle.joint.specs.engine.Log.{counted}
use Rattle.joint.specs.world.MapSteps.{GoMap}
use Rattle.joint.specs.engine.Flying.{Flights, AreInFlight, with_flight}
use Rattle.joint.specs.world.World.{Holds, IsLogged}
use Rattle.joint.specs.engine.Engine.{World, engine_of, is_busy, quiet}
use Rattle.joint.specs.Reports.{is_in_flight}
use Rattle.joint.proofs.lemmas.engine.OneCallChanges.{Apart, one_same, one_set, places_counted}
use Rattle.joint.proofs.lemmas.world.Asking.{asked_set}
use Rattle.joint.proofs.lemmas.engine.Collecting.{get_inside}
use Rattle.joint.proofs.lemmas.world.Flights.{flight_here, flight_apart, pending}
use Rattle.joint.proofs.lemmas.world.MapSteps.{set_in_flight}
use Rattle.joint.proofs.lemmas.world.JournalPlaces.{reserving_none}
use Rattle.joint.proofs.lemmas.engine.Reserving.{reserving_call}
use Rattle.congee.proofs.Laws.{set_here}

module _ {V : Type 0} (same : V → V → Bool) (always : Bool) (s : World V) (w : ℕ) (h : Holds same always s) (r : is_reserving (slice_get s.calls w) ≡ true) where
  -- the machine after it
  abbrev pub after_full : World V
  after_full = record s { calls = slice_set s.calls w Idle; log = record s.log { requests = slice_set s.log.requests w None } }

  abbrev call : (op : Point V) × (slice_get s.calls w ≡ Some (Reserving op))
  call = reserving_call (slice_get s.calls w) r

  within : w < length s.calls
  within = slice_get_within s.calls w (Reserving call.0) call.1

  idle_here : slice_get (set s.calls w Idle) w ≡ Some Idle
  idle_here = set_here s.calls w Idle (Reserving call.0) call.1

  over_flights : (fs : Flights V) (m : Pairs V) → IsMapOf (nodes s.forest) m → AreInFlight s fs → AreInFlight after_full (with_flight fs w Over)
  over_flights fs m st fl = set_in_flight same always s after_full w (h.0, h.1) fs m st fl (with_flight fs w Over) Idle within refl (λ i x n b. b) (λ x b. flight_here fs w Over) (λ i n. flight_apart fs w i Over n)

  -- on the map it is refused before it took effect
  pub refused_map : (fs : Flights V) (m : Pairs V) → AreInFlight s fs → (noise : Noise Id V) (rep : Report V) → rep ≡ quiet OfCollector (Refused JournalFull)
      → GoMap same fs (fs w) m noise.answer (record { step = record { worker = w; event = Go noise }; report = rep; entry = None; pairs = m }) (with_flight fs w Over)
  refused_map fs m fl noise rep q =
      let x = get_inside s.machines w (subst (λ n. w < n) (sym h.0.machines) within) in
      let writing : writes call.0 ≡ true = (h.0.each w (Reserving call.0) x.0 call.1 x.1).4 in
      let waits : fs w ≡ Pending (parts call.0).0 (parts call.0).1 (parts call.0).2 Unasked = fl.each w (Reserving call.0) x.0 call.1 x.1 ∙ pending call.0 writing in
      let P : Flight V → Type 0 = λ f. GoMap same fs f m noise.answer (record { step = record { worker = w; event = Go noise }; report = rep; entry = None; pairs = m }) (with_flight fs w Over) in
      let Q : Report V → Type 0 = λ y. GoMap same fs (Pending (parts call.0).0 (parts call.0).1 (parts call.0).2 Unasked) m noise.answer (record { step = record { worker = w; event = Go noise }; report = y; entry = None; pairs = m }) (with_flight fs w Over) in
      subst P (sym waits) (subst Q (sym q) (record { next = Over; step = inr (record { full = refl; undecided = refl; over = refl; no_entry = refl; same_pairs = refl }); with_next = refl }))

  -- the other calls are watched as before, and the refused one no longer
  pub refused_flights : (fs : Flights V) (m : Pairs V) → IsMapOf (nodes s.forest) m → AreInFlight s fs → AreInFlight after_full (with_flight fs w Over)
  refused_flights fs m st fl = over_flights fs m st fl

  abbrev here : IsLogged same always s
  here = h.2

  apart : Apart (engine_of s) (engine_of after_full) w
  apart = record { calls = one_set s.calls (set s.calls w Idle) w Idle refl; machines = one_same s.machines s.machines w refl }

  still_counted : places_of s.calls s.machines ≡ places_of (set s.calls w Idle) s.machines
  still_counted =
      let b : has_place (slice_get s.calls w) (slice_get s.machines w) ≡ false = reserving_none same always (engine_of s) w (h.0, h.1) here.flights (record { each = here.in_flight.each; beyond = here.in_flight.beyond }) (slice_get s.calls w) (slice_get s.machines w) r in
      let a : has_place (slice_get (set s.calls w Idle) w) (slice_get s.machines w) ≡ false = ap (λ k. has_place k (slice_get s.machines w)) idle_here in
      let P : Bool → Bool → Type 0 = λ x y. counted x y (places_of s.calls s.machines) ≡ places_of (set s.calls w Idle) s.machines in
      subst (λ x. P false x) a (subst (λ x. P x (has_place (slice_get (set s.calls w Idle) w) (slice_get s.machines w))) b (places_counted (engine_of s) (engine_of after_full) w h.0.machines apart))

  given_logged : IsLogged same always after_full
  given_logged = record {
    room = here.room;
    copies = here.copies;
    reserved = λ p. here.reserved p ∙ still_counted;
    long = length-set s.log.requests w None ∙ here.long ∙ sym (length-set s.calls w Idle);
    flights = with_flight here.flights w Over;
    in_flight = over_flights here.flights here.pairs here.stand here.in_flight;
    asked = λ a. asked_set s.log.requests here.flights w None Over (here.asked a) tt (with_flight here.flights w Over) (flight_here here.flights w Over) (λ i n. flight_apart here.flights w i Over n);
    pairs = here.pairs;
    stand = here.stand;
    legal = here.legal;
  }

  -- what is written down still fits the calls in flight and the pairs
  pub after_full_logged : (s' : World V) → s' ≡ after_full → IsLogged same always s'
  after_full_logged s' e = let P : World V → Type 0 = λ y. IsLogged same always y in subst P (sym e) given_logged

  -- the worker has no call in flight, as the report says
  pub after_full_flight : (s' : World V) (rep : Report V) → s' ≡ after_full → rep ≡ quiet OfCollector (Refused JournalFull) → is_busy (slice_get s'.calls w) ≡ is_in_flight rep.outcome
  after_full_flight s' rep e q = ap (λ y. is_busy (slice_get y.calls w)) e ∙ ap is_busy idle_here ∙ sym (ap (λ y. is_in_flight y.outcome) q)
