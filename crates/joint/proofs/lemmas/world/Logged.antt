-- What a step writes down fits the calls in flight and the pairs that stand after it.
use Rattle.std.proofs.Common.{◌≡◌, ◌⊎◌, ℕ, zero, suc, ◌+◌, ◌<◌, ◌≤◌, arith, Bool, true, false, List, ◌++◌, length, refl, sym, ◌∙◌, ap, subst, inl, inr}
use Rattle.std.specs.Prelude.{Option, None, Some, ◌&&◌, is_some, not, slice_get, if◌then◌else◌}
use Rattle.std.specs.FinMap.{empty, get}
use Rattle.std.proofs.lemmas.Bool.{cases_Bool, false≢true}
use Rattle.std.proofs.lemmas.List.{append-nil, length-append}
use Rattle.judge.specs.declared.journal.Call.{Call as Entered}
use Rattle.judge.specs.declared.journal.Call.TheVariants as call
use Rattle.judge.specs.declared.journal.Entry.{Entry}
use Rattle.judge.specs.Answer.{Pairs, answer}
use Rattle.judge.specs.Journal.{Answers, Legal}
use Rattle.judge.proofs.Laws.{Legal-push, set_at-standing}
use Rattle.congee.specs.declared.protocol.machine.Noise.{Noise}
use Rattle.congee.specs.Keys.{IsMapOf}
use Rattle.joint.specs.declared.id.Id.{Id}
use Rattle.joint.specs.declared.engine.request.Request.{Request}
use Rattle.joint.specs.declared.steps.Event.{Event}
use Rattle.joint.specs.declared.steps.Event.TheVariants.{Register, Begin, Go}
use Rattle.joint.specs.declared.steps.Report.{Report}
use Rattle.joint.specs.declared.steps.Step.{Step}
use Rattle.joint.specs.nodes.Nodes.{nodes}
use Rattle.joint.specs.engine.Intact.{is_reserving}
use Rattle.joint.specs.engine.Journaling.{has_place, in_list, kept_if, places_of}
use Rattle.joint.specs.engine.Log.{counted, has_room, is_full, recounted, request_at}
use Rattle.joint.specs.world.MapSteps.{looks_up, EventMap, Line}
use Rattle.joint.specs.engine.Flying.{Flights, AreInFlight}
use Rattle.joint.specs.world.World.{Holds, IsAsked, IsLogged, IsStep, StepsUnless, entry_at, finds_journal_full, kept_at, requests_after}
use Rattle.joint.specs.engine.Engine.{World, EngineHolds, IsEngineStep, Does, engine_of, misuse}
use Rattle.joint.specs.Reports.{is_in_flight}
use Rattle.joint.proofs.lemmas.engine.OneCallChanges.{Apart, places_counted, step_apart}
use Rattle.joint.proofs.lemmas.world.Asking.{asked_after}
use Rattle.joint.proofs.lemmas.world.Effects.{Effect, Leaves, decided_effect, leaves, room_for}
use Rattle.joint.proofs.lemmas.engine.Entering.{begin_even, register_even}
use Rattle.joint.proofs.lemmas.world.MapSteps.{Result, on_map}
use Rattle.joint.proofs.lemmas.world.JournalPlaces.{go_writes, place_here, place_writes}
use Rattle.joint.proofs.lemmas.engine.Recounting.{has_room_is, recounted_room}
use Rattle.joint.proofs.lemmas.world.Requested.{writes_on}

module _ {V : Type 0} where
  kept_without : (d : Bool) (e : Option (Entry V)) → kept_if d false e ≡ None
  kept_without true e = refl
  kept_without false e = refl

  -- a look-up leaves the map
  looked_same : (same : V → V → Bool) (m n : Pairs V) (e : Entry V) (c : Entered V) → e.call ≡ c → looks_up c ≡ true → Answers same m e n → n ≡ m
  looked_same same m n e (call.Get k) q l a = sym (ap (λ z. z.1) a) ∙ ap (λ x. (answer same m x).1) q ∙ set_at-standing m k (get m k) refl
  looked_same same m n e (call.Insert k v) q l a = absurd (cc l)
  looked_same same m n e (call.Remove k) q l a = absurd (cc l)
  looked_same same m n e (call.ComputePresent k o) q l a = absurd (cc l)
  looked_same same m n e (call.ComputeInsert k v) q l a = absurd (cc l)
  looked_same same m n e (call.Exchange k old new) q l a = absurd (cc l)

  list_long : (o : Option (Entry V)) → length (in_list o) ≤ 1
  list_long None = omega arith
  list_long (Some e) = omega arith

recounted_on : (p : ℕ) (b a : Bool) (n : ℕ) → 0 < p → recounted p b a n ≡ counted b a n
recounted_on zero b a n l = absurd (omega (arith, l))
recounted_on (suc p) b a n l = refl

-- what the machine writes down in a step
pub record Written {V : Type 0} (always : Bool) (s s' : World V) (step : Step V) (told : Report V) : Type 0 where
  pub entries : s'.log.entries ≡ s.log.entries ++ in_list (kept_at s step.worker step.event told s')
  pub places : s'.log.places ≡ s.log.places
  pub reserved : s'.log.reserved ≡ recounted s.log.places (has_place (slice_get s.calls step.worker) (slice_get s.machines step.worker)) (has_place (slice_get s'.calls step.worker) (slice_get s'.machines step.worker)) s.log.reserved
  pub requests : always ≡ true → s'.log.requests ≡ requests_after s step.worker step.event (is_in_flight told.outcome)
  pub long : length s'.log.requests ≡ length s.log.requests

module _ {V : Type 0} (same : V → V → Bool) (always : Bool) (s s' : World V) (step : Step V) (told : Report V) (h : Holds same always s) (e : IsEngineStep same always (engine_of s) step told (engine_of s')) where
  abbrev w : ℕ
  w = step.worker

  abbrev before : Bool
  before = has_place (slice_get s.calls w) (slice_get s.machines w)

  abbrev after : Bool
  after = has_place (slice_get s'.calls w) (slice_get s'.machines w)

  abbrev kept : Option (Entry V)
  kept = kept_at s w step.event told s'

  abbrev room : Bool
  room = has_room (record s.log { reserved = s'.log.reserved })

  abbrev holds : EngineHolds same always (engine_of s)
  holds = (h.0, h.1)

  abbrev apart : Apart (engine_of s) (engine_of s') w
  apart = step_apart same always (engine_of s) (engine_of s') w holds step.event (misuse (engine_of s) w step.event) told e.does

  -- a place is counted for each call that has one
  now_counted : 0 < s.log.places → s'.log.reserved ≡ recounted s.log.places before after s.log.reserved → s'.log.reserved ≡ places_of s'.calls s'.machines
  now_counted p r = r ∙ recounted_on s.log.places before after s.log.reserved p ∙ ap (counted before after) (h.2.reserved p) ∙ places_counted (engine_of s) (engine_of s') w h.0.machines apart

  has_places : room ≡ true → 0 < s.log.places
  has_places r = let n : length s.log.entries + s'.log.reserved < s.log.places = has_room_is (record s.log { reserved = s'.log.reserved }) r in omega (arith, n)

  module _ (fs : Flights V) (m : Pairs V) (st : IsMapOf (nodes s.forest) m) (flown : AreInFlight s fs) (each : always ≡ true → (i : ℕ) → IsAsked (request_at s.log.requests i) (fs i)) where
    abbrev fl : AreInFlight (engine_of s) fs
    fl = record { each = flown.each; beyond = flown.beyond }

    -- the step is one on the map, from the pairs and the calls in flight that are given
    pub event_maps : Result same always (engine_of s) (engine_of s') w holds fs m st fl step.event told (λ l f'. EventMap same fs m step.event l f')
    event_maps = on_map same always (engine_of s) (engine_of s') w holds fs m st fl step.event told e.does

    abbrev line : Line V
    line = record { step = record { worker = w; event = step.event }; report = told; entry = event_maps.entry; pairs = event_maps.pairs }

    took : told.decided ≡ true → Effect same always s s' w holds e.holds fs event_maps.flights m fl event_maps.in_flight h.2.long line refl step.event
    took d = decided_effect same always s s' w holds e.holds fs event_maps.flights m fl event_maps.in_flight h.2.long line refl step.event d e.does event_maps.step

    left : told.decided ≡ false → Leaves same always s s' w holds e.holds fs event_maps.flights m fl event_maps.in_flight h.2.long line refl
    left d = leaves same always s s' w holds e.holds fs event_maps.flights m fl event_maps.in_flight h.2.long line refl step.event d event_maps.step

    kept_not : told.decided ≡ false → kept ≡ None
    kept_not d = ap (λ b. kept_if b room (entry_at s w step.event told s')) d

    kept_full : room ≡ false → kept ≡ None
    kept_full r = ap (λ b. kept_if told.decided b (entry_at s w step.event told s')) r ∙ kept_without told.decided (entry_at s w step.event told s')

    kept_is : (d : told.decided ≡ true) → room ≡ true → kept ≡ Some (took d).entry
    kept_is d r = ap (λ b. kept_if b room (entry_at s w step.event told s')) d ∙ ap (λ b. kept_if true b (entry_at s w step.event told s')) r ∙ (took d).noted (each (h.2.copies (has_places r)))

    -- the journal keeps the entry of the step as the map sees it
    abbrev Same : Option (Entry V) → Type 0
    Same o = o ≡ (if is_some o then event_maps.entry else None)

    -- the entry that is kept, where one is, is that of the step on the map
    pub kept_line : Same kept
    kept_line = elim (cases_Bool told.decided) [
      | inl d ↦ elim (cases_Bool room) [
        | inl r ↦ subst Same (sym (kept_is d r)) (sym (took d).is_entry)
        | inr r ↦ subst Same (sym (kept_full r)) refl
      ]
      | inr d ↦ subst Same (sym (kept_not d)) refl
    ]

    module _ (reserved : 0 < s.log.places → s'.log.reserved ≡ places_of s'.calls s'.machines) where
      writes_room : (d : told.decided ≡ true) → 0 < s.log.places → looks_up (took d).entry.call ≡ false → room ≡ true
      writes_room d p l = room_for s s' w h.0.machines apart ((took d).had ∙ ap not l) (took d).has h.2.room (h.2.reserved p) (reserved p)

      -- where a journal is kept, so is the entry of each writing call that takes effect
      pub writes_kept : 0 < s.log.places → (x : Entry V) → event_maps.entry ≡ Some x → looks_up x.call ≡ false → is_some kept ≡ true
      writes_kept p x q l = elim (cases_Bool told.decided) [
        | inl d ↦ (
            let i : x ≡ (took d).entry = let z : Some x ≡ Some (took d).entry = sym q ∙ (took d).is_entry in cc in
            ap is_some (kept_is d (writes_room d p (sym (ap (λ y. looks_up y.call) i) ∙ l))))
        | inr d ↦ absurd (let z : None ≡ Some x = sym (left d).no_entry ∙ q in cc)
      ]

      -- and stays legal
      abbrev Fits : Option (Entry V) → Pairs V → Type 0
      Fits o n = Legal same empty (s.log.entries ++ in_list o) n

      fits_none : (n : Pairs V) → n ≡ m → Legal same empty s.log.entries m → Fits None n
      fits_none n q l = subst (λ es. Legal same empty es n) (sym (append-nil s.log.entries)) (subst (Legal same empty s.log.entries) (sym q) l)

      looked : (d : told.decided ≡ true) → 0 < s.log.places → room ≡ false → event_maps.pairs ≡ m
      looked d p r = elim (cases_Bool (looks_up (took d).entry.call)) [
        | inl l ↦ looked_same same m event_maps.pairs (took d).entry (took d).entry.call refl l (took d).answers
        | inr l ↦ absurd (false≢true (sym r ∙ writes_room d p l))
      ]

      legal_on : 0 < s.log.places → Legal same empty s.log.entries m → Fits kept event_maps.pairs
      legal_on p l = elim (cases_Bool told.decided) [
        | inl d ↦ elim (cases_Bool room) [
          | inl r ↦ subst (λ o. Fits o event_maps.pairs) (sym (kept_is d r)) (Legal-push same empty m event_maps.pairs s.log.entries (took d).entry l (took d).answers)
          | inr r ↦ subst (λ o. Fits o event_maps.pairs) (sym (kept_full r)) (fits_none event_maps.pairs (looked d p r) l)
        ]
        | inr d ↦ subst (λ o. Fits o event_maps.pairs) (sym (kept_not d)) (fits_none event_maps.pairs (left d).same_pairs l)
      ]

    -- only the first step of a writing call reserves a place
    raises_by : (event : Event V) → Result same always (engine_of s) (engine_of s') w holds fs m st fl event told (λ l f'. EventMap same fs m event l f') → finds_journal_full s w event ≡ false → before ≡ false → after ≡ true → after ≡ before ⊎ ((noise : Noise Id V) × (event ≡ Go noise)) → is_full s.log ≡ false
    raises_by event x g b a (inl q) = absurd (false≢true (sym b ∙ sym q ∙ a))
    raises_by Register x g b a (inr y) = absurd (let z : Register ≡ Go y.0 = y.1 in cc)
    raises_by (Begin op) x g b a (inr y) = absurd (let z : Begin op ≡ Go y.0 = y.1 in cc)
    raises_by (Go noise) x g b a (inr y) = elim (cases_Bool (is_reserving (slice_get s.calls w))) [
      | inl r ↦ sym (ap (λ c. c && is_full s.log) r) ∙ g
      | inr r ↦ absurd (
          let n : writes_on (fs w) ≡ false = sym (place_here same always (engine_of s) w holds fs fl r) ∙ b in
          let n' : writes_on (x.flights w) ≡ false = go_writes same fs (fs w) m noise.answer (record { step = record { worker = w; event = Go noise }; report = told; entry = x.entry; pairs = x.pairs }) x.flights refl x.step n in
          false≢true (sym (place_writes same always (engine_of s') w e.holds x.flights x.in_flight n') ∙ a))
    ]

  abbrev Did : Event V → Type 0
  Did x = Does same always (engine_of s) w x (misuse (engine_of s) w x) told (engine_of s')

  even_or_go : (event : Event V) → Did event → after ≡ before ⊎ ((noise : Noise Id V) × (event ≡ Go noise))
  even_or_go Register d = inl (register_even same always (engine_of s) (engine_of s') w holds told d)
  even_or_go (Begin op) d = inl (begin_even same always (engine_of s) (engine_of s') w holds op told d)
  even_or_go (Go noise) d = inr (noise, refl)

  -- by the calls that are watched beside what is written down
  abbrev here : IsLogged same always s
  here = h.2

  abbrev now : Result same always (engine_of s) (engine_of s') w holds here.flights here.pairs here.stand (fl here.flights here.pairs here.stand here.in_flight here.asked) step.event told (λ l f'. EventMap same here.flights here.pairs step.event l f')
  now = event_maps here.flights here.pairs here.stand here.in_flight here.asked

  -- a call comes to have a place only where the journal isn't full
  pub raises : finds_journal_full s w step.event ≡ false → before ≡ false → after ≡ true → is_full s.log ≡ false
  raises g b a = raises_by here.flights here.pairs here.stand here.in_flight here.asked step.event now g b a (even_or_go step.event e.does)

  module _ (x : Written always s s' step told) (g : finds_journal_full s w step.event ≡ false) where
    entries_long : length s'.log.entries ≡ length s.log.entries + length (in_list kept)
    entries_long = ap length x.entries ∙ length-append s.log.entries (in_list kept)

    room_left : length s'.log.entries + s'.log.reserved ≤ s'.log.places
    room_left = elim (cases_Bool room) [
      | inl r ↦ (
          let n : length s.log.entries + s'.log.reserved < s.log.places = has_room_is (record s.log { reserved = s'.log.reserved }) r in
          let one : length (in_list kept) ≤ 1 = list_long kept in
          let long : length s'.log.entries ≡ length s.log.entries + length (in_list kept) = entries_long in
          let p : s'.log.places ≡ s.log.places = x.places in
          omega (arith, n, one, long, p))
      | inr r ↦ (
          let n : length s.log.entries + recounted s.log.places before after s.log.reserved ≤ s.log.places = recounted_room s.log before after here.room (raises g) in
          let none : length (in_list kept) ≡ 0 = ap (λ o. length (in_list o)) (kept_full here.flights here.pairs here.stand here.in_flight here.asked r) in
          let long : length s'.log.entries ≡ length s.log.entries + length (in_list kept) = entries_long in
          let p : s'.log.places ≡ s.log.places = x.places in
          let q : s'.log.reserved ≡ recounted s.log.places before after s.log.reserved = x.reserved in
          omega (arith, n, none, long, p, q))
    ]

    was : 0 < s'.log.places → 0 < s.log.places
    was p = subst (λ n. 0 < n) x.places p

    asked_now : always ≡ true → (i : ℕ) → IsAsked (request_at s'.log.requests i) (now.flights i)
    asked_now a i =
        let P : List (Option (Request V)) → Type 0 = λ qs. IsAsked (request_at qs i) (now.flights i) in
        subst P (sym (x.requests a)) (asked_after same always s s' w holds here.flights here.pairs (fl here.flights here.pairs here.stand here.in_flight here.asked) here.long (here.asked a) step.event
        (line here.flights here.pairs here.stand here.in_flight here.asked) now.flights refl e.does now.step i)

    logged : IsLogged same always s'
    logged = record {
      room = room_left;
      copies = λ p. here.copies (was p);
      reserved = λ p. now_counted (was p) x.reserved;
      long = x.long ∙ here.long ∙ sym apart.calls.long;
      flights = now.flights;
      in_flight = record { each = now.in_flight.each; beyond = now.in_flight.beyond };
      asked = asked_now;
      pairs = now.pairs;
      stand = now.stand;
      legal = λ p. subst (λ es. Legal same empty es now.pairs) (sym x.entries) (legal_on here.flights here.pairs here.stand here.in_flight here.asked (λ q. now_counted q x.reserved) (was p) (here.legal (was p)));
    }

    -- with what is written down it is a step of the whole machine
    pub logged_step : (r : Report V) → r ≡ record told { kept = is_some kept } → IsStep same always s step r s'
    logged_step r q =
        let P : Bool → Type 0 = λ b. StepsUnless same always b s step r s' in
        record {
          does = subst P (sym g) (record { told = told; engine = e; report = q; entries = x.entries; places = x.places; requests = x.requests });
          flight = λ c n. e.flight c n ∙ sym (ap (λ y. is_in_flight y.outcome) q);
          holds = (e.holds.0, e.holds.1, logged);
        }
