-- The steps of the whole machine, from those of the layers below and what is written down of them.
use Rattle.std.proofs.Common.{◌≡◌, ◌<◌, ◌≤◌, ℕ, zero, suc, ◌+◌, ◌^◌, arith, Bool, true, false, List, [], ◌∷◌, ◌++◌, length, refl, sym, ◌∙◌, ap, subst, inl, inr}
use Rattle.std.specs.Prelude.{Option, None, Some, ◌&&◌, is_some, ltb, not, slice_get, slice_set, if◌then◌else◌}
use Rattle.std.specs.FinMap.{empty, get}
use Rattle.std.proofs.lemmas.Bool.{cases_Bool, ltb-true, ltb-false}
use Rattle.std.proofs.lemmas.List.{append-nil, get_or_past, get_or-set_same, length-replicate, length-set, set-get_or, set-set}
use Rattle.judge.specs.declared.journal.Entry.{Entry}
use Rattle.judge.specs.Answer.{Pairs}
use Rattle.judge.specs.Journal.{IsLegal, Legal}
use Rattle.judge.proofs.Laws.{same_pairs}
use Rattle.congee.specs.declared.protocol.machine.Machine.{Machine}
use Rattle.congee.specs.declared.protocol.machine.Noise.{Noise}
use Rattle.congee.specs.Heap.{Node}
use Rattle.congee.specs.Keys.{IsMapOf}
use Rattle.joint.specs.declared.engine.in_flight.InFlight.{InFlight}
use Rattle.joint.specs.declared.engine.in_flight.InFlight.TheVariants.{Idle}
use Rattle.joint.specs.declared.id.Id.{Id}
use Rattle.joint.specs.declared.refusal.Refusal.TheVariants.{JournalFull}
use Rattle.joint.specs.declared.engine.request.Request.{Request}
use Rattle.joint.specs.declared.steps.Event.TheVariants.{Register, Begin, Go}
use Rattle.joint.specs.declared.steps.Kind.TheVariants.{Collection as OfCollector}
use Rattle.joint.specs.declared.steps.Op.{Op}
use Rattle.joint.specs.declared.steps.Outcome.TheVariants.{Refused}
use Rattle.joint.specs.declared.steps.Report.{Report}
use Rattle.joint.specs.declared.steps.Step.{Step}
use Rattle.joint.specs.nodes.Nodes.{nodes}
use Rattle.joint.specs.engine.Intact.{is_reserving}
use Rattle.joint.specs.engine.Journaling.{entry_of, has_place, in_list, kept_if, one_where, places_of, reply_by}
use Rattle.joint.specs.engine.Log.{Log, asked, has_room, answered_if, is_full, with_request, opened_log, recounted, request_at}
use Rattle.joint.specs.Reports.{target, is_in_flight}
use Rattle.joint.specs.engine.Engine.{IsFresh, World, EngineHolds, IsEngineStep, engine_of, quiet}
use Rattle.joint.specs.engine.Flying.{no_flights}
use Rattle.joint.specs.world.World.{Holds, IsLogged, IsStep, StepsUnless, entry_at, finds_journal_full, answered_request, kept_at, requests_after}
use Rattle.joint.proofs.lemmas.world.Effects.{begin_undecided}
use Rattle.joint.proofs.lemmas.engine.Entering.{begin_even, register_even}
use Rattle.joint.proofs.lemmas.world.JournalFull.{after_full, after_full_flight, after_full_logged}
use Rattle.joint.proofs.lemmas.world.Logged.{event_maps, logged_step}
use Rattle.joint.proofs.lemmas.engine.Recounting.{has_room_is}
use Rattle.joint.proofs.lemmas.calls.Runs.{standing_empty, fresh_flights}
use Rattle.joint.proofs.lemmas.engine.UnkeptReports.{unkept}
use Rattle.joint.proofs.lemmas.world.RunJournals.{none_kept as journal_none}

recounted_even : (p : ℕ) (b : Bool) (n : ℕ) → recounted p b b n ≡ n
recounted_even zero b n = refl
recounted_even (suc p) true n = refl
recounted_even (suc p) false n = refl

module _ {V : Type 0} (same : V → V → Bool) (always : Bool) where
  -- a step that takes no effect and reserves nothing
  module _ (s s' : World V) (step : Step V) (told : Report V) (h : Holds same always s) (e : IsEngineStep same always (engine_of s) step told (engine_of s')) where
    abbrev w : ℕ
    w = step.worker

    kept_none : told.decided ≡ false → kept_at s w step.event told s' ≡ None
    kept_none d = ap (λ b. kept_if b (has_room (record s.log { reserved = s'.log.reserved })) (entry_at s w step.event told s')) d

    still : told.decided ≡ false → finds_journal_full s w step.event ≡ false → has_place (slice_get s'.calls w) (slice_get s'.machines w) ≡ has_place (slice_get s.calls w) (slice_get s.machines w)
        → s'.log.entries ≡ s.log.entries → s'.log.places ≡ s.log.places → s'.log.reserved ≡ s.log.reserved → (always ≡ true → s'.log.requests ≡ requests_after s w step.event (is_in_flight told.outcome)) → length s'.log.requests ≡ length s.log.requests
        → IsStep same always s step told s'
    still d g even entries places reserved requests long =
        let none : kept_at s w step.event told s' ≡ None = kept_none d in
        let P : Bool → Type 0 = λ b. told ≡ record told { kept = b } in
        let unchanged : told ≡ record told { kept = false } = ap (λ b. record told { kept = b }) (unkept same always (engine_of s) (engine_of s') w step.event _ told e.does) in
        logged_step same always s s' step told h e (record {
          entries = entries ∙ sym (append-nil s.log.entries) ∙ ap (λ o. s.log.entries ++ in_list o) (sym none);
          places = places;
          reserved = reserved ∙ sym (recounted_even s.log.places (has_place (slice_get s.calls w) (slice_get s.machines w)) s.log.reserved) ∙ ap (λ b. recounted s.log.places (has_place (slice_get s.calls w) (slice_get s.machines w)) b s.log.reserved) (sym even);
          requests = requests;
          long = long;
        }) g told (unchanged ∙ ap (λ o. record told { kept = is_some o }) (sym none))

  -- a registration of the engine is a step of the whole machine that writes nothing down
  pub register_step : (s s' : World V) (worker : ℕ) (told : Report V) → Holds same always s → IsEngineStep same always (engine_of s) (record { worker = worker; event = Register }) told (engine_of s') → s'.log ≡ s.log
      → IsStep same always s (record { worker = worker; event = Register }) told s'
  register_step s s' worker told h e l =
      let d = (event_maps same always s s' (record { worker = worker; event = Register }) told h e h.2.flights h.2.pairs h.2.stand h.2.in_flight h.2.asked).step.undecided in
      still s s' (record { worker = worker; event = Register }) told h e d refl (register_even same always (engine_of s) (engine_of s') worker (h.0, h.1) told e.does)
      (ap (λ (y : Log V). y.entries) l) (ap (λ (y : Log V). y.places) l) (ap (λ (y : Log V). y.reserved) l) (λ a. ap (λ (y : Log V). y.requests) l) (ap (λ (y : Log V). length y.requests) l)

  -- a begin of the engine, with what was asked for written down, is a step of the whole machine
  pub begin_step : (s s' : World V) (worker : ℕ) (op : Op V) (q : Option (Request V)) (told : Report V) → Holds same always s → IsEngineStep same always (engine_of s) (record { worker = worker; event = Begin op }) told (engine_of s')
      → (always ≡ true → q ≡ asked op) → s'.log ≡ with_request s.log worker (is_in_flight told.outcome) q → IsStep same always s (record { worker = worker; event = Begin op }) told s'
  begin_step s s' worker op q told h e i l =
      let step : Step V = record { worker = worker; event = Begin op } in
      let x = event_maps same always s s' step told h e h.2.flights h.2.pairs h.2.stand h.2.in_flight h.2.asked in
      let d : told.decided ≡ false = begin_undecided same always s s' worker (h.0, h.1) e.holds h.2.flights x.flights h.2.pairs (record { each = h.2.in_flight.each; beyond = h.2.in_flight.beyond }) x.in_flight h.2.long
      (record { step = step; report = told; entry = x.entry; pairs = x.pairs }) refl (target op) told.outcome refl x.step in
      let on : Bool = is_in_flight told.outcome in
      still s s' step told h e d refl (begin_even same always (engine_of s) (engine_of s') worker (h.0, h.1) op told e.does)
      (ap (λ (y : Log V). y.entries) l ∙ same_entries on) (ap (λ (y : Log V). y.places) l ∙ same_places on) (ap (λ (y : Log V). y.reserved) l ∙ same_reserved on)
      (λ a. ap (λ (y : Log V). y.requests) l ∙ next_requests on (i a)) (ap (λ (y : Log V). length y.requests) l ∙ same_long on) where
        same_entries : (b : Bool) → (with_request s.log worker b q).entries ≡ s.log.entries
        same_entries true = refl
        same_entries false = refl

        same_places : (b : Bool) → (with_request s.log worker b q).places ≡ s.log.places
        same_places true = refl
        same_places false = refl

        same_reserved : (b : Bool) → (with_request s.log worker b q).reserved ≡ s.log.reserved
        same_reserved true = refl
        same_reserved false = refl

        same_long : (b : Bool) → length (with_request s.log worker b q).requests ≡ length s.log.requests
        same_long true = length-set s.log.requests worker q
        same_long false = refl

        next_requests : (b : Bool) → q ≡ asked op → (with_request s.log worker b q).requests ≡ (if b then slice_set s.log.requests worker (asked op) else s.log.requests)
        next_requests true z = ap (slice_set s.log.requests worker) z
        next_requests false z = refl

  -- a further step: what the worker asked for takes its answer, the places reserved are counted anew, the entry is written
  -- down where there is room, and what it asked for goes where its call doesn't go on
  abbrev pub went_log : Log V → ℕ → Bool → Bool → Bool → Option (Entry V) → Bool → Option (Request V) → Log V
  went_log l worker before after decided entry on q =
      let taken_log : Log V = record l { requests = slice_set l.requests worker q } in
      let counted : Log V = record taken_log { reserved = recounted l.places before after l.reserved } in
      let kept : Log V = record counted { entries = l.entries ++ in_list (kept_if decided (has_room counted) entry) } in
      with_request kept worker (not on) None

  went_entries : (l : Log V) (worker : ℕ) (b a d : Bool) (x : Option (Entry V)) (on : Bool) (q : Option (Request V)) → (went_log l worker b a d x on q).entries ≡ l.entries ++ in_list (kept_if d (has_room (record l { reserved = recounted l.places b a l.reserved })) x)
  went_entries l worker b a d x true q = refl
  went_entries l worker b a d x false q = refl

  went_places : (l : Log V) (worker : ℕ) (b a d : Bool) (x : Option (Entry V)) (on : Bool) (q : Option (Request V)) → (went_log l worker b a d x on q).places ≡ l.places
  went_places l worker b a d x true q = refl
  went_places l worker b a d x false q = refl

  went_reserved : (l : Log V) (worker : ℕ) (b a d : Bool) (x : Option (Entry V)) (on : Bool) (q : Option (Request V)) → (went_log l worker b a d x on q).reserved ≡ recounted l.places b a l.reserved
  went_reserved l worker b a d x true q = refl
  went_reserved l worker b a d x false q = refl

  went_requests : (l : Log V) (worker : ℕ) (b a d : Bool) (x : Option (Entry V)) (on : Bool) (q : Option (Request V)) → (went_log l worker b a d x on q).requests ≡ slice_set l.requests worker (if on then q else None)
  went_requests l worker b a d x true q = refl
  went_requests l worker b a d x false q = set-set l.requests worker q None

  -- the request in a worker's place once it has taken an answer; beyond the places there is none
  answered_here : (qs : List (Option (Request V))) (w : ℕ) (answer : Option (Option V)) (o : Option (Request V)) → o ≡ answered_if true answer (request_at qs w) → request_at (slice_set qs w o) w ≡ answered_if true answer (request_at qs w)
  answered_here qs w answer o e = elim (cases_Bool (ltb w (length qs))) [
    | inl x ↦ get_or-set_same qs w o None (ltb-true w (length qs) x) ∙ e
    | inr x ↦ (let p : length qs ≤ w = ltb-false w (length qs) x in
        get_or_past (slice_set qs w o) w None (let n : length (slice_set qs w o) ≡ length qs = length-set qs w o in omega (arith, p, n))
        ∙ sym (ap (answered_if true answer) (get_or_past qs w None p)))
  ]

  put_here : (qs : List (Option (Request V))) (w : ℕ) (o : Option (Request V)) → slice_set qs w o ≡ slice_set qs w (request_at (slice_set qs w o) w)
  put_here qs w o = sym (set-get_or (slice_set qs w o) w None) ∙ set-set qs w o (request_at (slice_set qs w o) w)

  -- by its parts
  abbrev answered_log : Log V → ℕ → Option (Request V) → Log V
  answered_log l worker q = record l { requests = slice_set l.requests worker q }

  abbrev count_of : Log V → Bool → Bool → Log V
  count_of l b a = record l { reserved = recounted l.places b a l.reserved }

  abbrev kept_of : Log V → Bool → Option (Entry V) → Log V
  kept_of l d x = record l { entries = l.entries ++ in_list (kept_if d (has_room l) x) }

  -- a request that is taken out of its place and put back changes nothing but that place
  pub answer_put : (l l1 l2 : Log V) (w : ℕ) (h : Option (Request V)) → l1 ≡ answered_log l w None → l2 ≡ answered_log l1 w h → l2 ≡ answered_log l w h
  answer_put l l1 l2 w h e1 e2 = e2 ∙ ap (λ (y : Log V). answered_log y w h) e1 ∙ ap (λ qs. record l { requests = qs }) (set-set l.requests w None h)

  -- the request in a worker's place is the one that was put there
  pub answer_left : (l l' : Log V) (w : ℕ) (h : Option (Request V)) → l' ≡ answered_log l w h → l' ≡ answered_log l w (request_at l'.requests w)
  answer_left l l' w h e = e ∙ ap (λ qs. record l { requests = qs }) (put_here l.requests w h) ∙ ap (λ (y : Log V). answered_log l w (request_at y.requests w)) (sym e)

  -- the request in a worker's place is the one before with the answer that it took
  pub answer_taken : (l l' : Log V) (w : ℕ) (answer : Option (Option V)) (h : Option (Request V)) → l' ≡ answered_log l w h → h ≡ answered_if true answer (request_at l.requests w) → request_at l'.requests w ≡ answered_if true answer (request_at l.requests w)
  answer_taken l l' w answer h e i = ap (λ (y : Log V). request_at y.requests w) e ∙ answered_here l.requests w answer h i

  -- the parts of what is written down in a further step, one after another, are the whole of it
  pub went_by : (l l1 l2 l3 l4 : Log V) (worker : ℕ) (b a b' a' d : Bool) (x : Option (Entry V)) (on on' : Bool) (q : Option (Request V)) → l1 ≡ answered_log l worker q → l2 ≡ count_of l1 b a → recounted l.places b a l.reserved ≡ recounted l.places b' a' l.reserved → l3 ≡ kept_of l2 d x → l4 ≡ with_request l3 worker (not on) None → on ≡ on'
      → l4 ≡ went_log l worker b' a' d x on' q
  went_by l l1 l2 l3 l4 worker b a b' a' d x on on' q e1 e2 ec e3 e4 eo =
      e4 ∙ ap (λ (y : Log V). with_request y worker (not on) None) e3 ∙ ap (λ (y : Log V). with_request (kept_of y d x) worker (not on) None) e2 ∙ ap (λ (y : Log V). with_request (kept_of (count_of y b a) d x) worker (not on) None) e1
      ∙ ap (λ n. with_request (kept_of (record (answered_log l worker q) { reserved = n }) d x) worker (not on) None) ec
      ∙ ap (λ y. with_request (kept_of (count_of (answered_log l worker q) b' a') d x) worker (not y) None) eo

  -- there is room for the entry just where there is once the places are counted anew
  pub room_by : (l l1 l2 : Log V) (worker : ℕ) (q : Option (Request V)) (b a b' a' : Bool) → l1 ≡ answered_log l worker q → l2 ≡ count_of l1 b a → recounted l.places b a l.reserved ≡ recounted l.places b' a' l.reserved → has_room l2 ≡ has_room (record l { reserved = recounted l.places b' a' l.reserved })
  room_by l l1 l2 worker q b a b' a' e1 e2 ec =
      ap has_room e2 ∙ ap (λ (y : Log V). has_room (count_of y b a)) e1 ∙ ap (λ n. has_room (record (answered_log l worker q) { reserved = n })) ec

  -- the report says that the journal kept the call just where its entry is written down
  pub kept_by : (l l1 l2 : Log V) (worker : ℕ) (q : Option (Request V)) (b a b' a' d k : Bool) (x : Option (Entry V)) (told r : Report V) → l1 ≡ answered_log l worker q → l2 ≡ count_of l1 b a → recounted l.places b a l.reserved ≡ recounted l.places b' a' l.reserved → k ≡ is_some (kept_if d (has_room l2) x) → r ≡ record told { kept = k }
      → r ≡ record told { kept = is_some (kept_if d (has_room (record l { reserved = recounted l.places b' a' l.reserved })) x) }
  kept_by l l1 l2 worker q b a b' a' d k x told r e1 e2 ec ek er =
      er ∙ ap (λ y. record told { kept = y }) (ek ∙ ap (λ y. is_some (kept_if d y x)) (room_by l l1 l2 worker q b a b' a' e1 e2 ec))

  -- the places counted anew are as many where the same calls have one
  pub recounted_same : (places : ℕ) (b a b' a' : Bool) (n : ℕ) → b ≡ b' → a ≡ a' → recounted places b a n ≡ recounted places b' a' n
  recounted_same places b a b' a' n eb ea = ap (λ y. recounted places y a n) eb ∙ ap (λ y. recounted places b' y n) ea

  -- an entry is none to the journal where the call hasn't taken effect or there is no room
  same_kept : (l : Log V) (d : Bool) (x y : Option (Entry V)) → (d ≡ true → has_room l ≡ true → x ≡ y) → kept_if d (has_room l) x ≡ kept_if d (has_room l) y
  same_kept l true x y e = by (has_room l) refl where
    by : (r : Bool) → has_room l ≡ r → kept_if true (has_room l) x ≡ kept_if true (has_room l) y
    by true q = ap (kept_if true (has_room l)) (e refl q)
    by false q = ap (λ b. kept_if true b x) q ∙ sym (ap (λ b. kept_if true b y) q)
  same_kept l false x y e = refl

  module _ (s s' : World V) (worker : ℕ) (noise : Noise Id V) (q : Option (Request V)) (x : Option (Entry V)) (told r : Report V) (h : Holds same always s) (e : IsEngineStep same always (engine_of s) (record { worker = worker; event = Go noise }) told (engine_of s'))
      (g : (is_reserving (slice_get s.calls worker) && is_full s.log) ≡ false) (i : always ≡ true → q ≡ answered_request s worker (Go noise)) where
    abbrev before : Bool
    before = has_place (slice_get s.calls worker) (slice_get s.machines worker)

    abbrev after : Bool
    after = has_place (slice_get s'.calls worker) (slice_get s'.machines worker)

    abbrev counted : Log V
    counted = record s.log { reserved = recounted s.log.places before after s.log.reserved }

    abbrev left : Log V
    left = went_log s.log worker before after told.decided x (is_in_flight told.outcome) q

    same_room : s'.log ≡ left → has_room (record s.log { reserved = s'.log.reserved }) ≡ has_room counted
    same_room l = ap (λ n. has_room (record s.log { reserved = n })) (ap (λ (y : Log V). y.reserved) l ∙ went_reserved s.log worker before after told.decided x (is_in_flight told.outcome) q)

    room_always : has_room counted ≡ true → always ≡ true
    room_always z = h.2.copies (let n : length s.log.entries + recounted s.log.places before after s.log.reserved < s.log.places = has_room_is counted z in omega (arith, n))

    kept_same : s'.log ≡ left → (always ≡ true → told.decided ≡ true → has_room counted ≡ true → x ≡ entry_of worker q (reply_by told.outcome (slice_get s'.machines worker))) → kept_if told.decided (has_room counted) x ≡ kept_at s worker (Go noise) told s'
    kept_same l y =
        same_kept counted told.decided x (entry_at s worker (Go noise) told s') (λ d z. y (room_always z) d z ∙ ap (λ o. entry_of worker o (reply_by told.outcome (slice_get s'.machines worker))) (i (room_always z)))
        ∙ ap (λ b. kept_if told.decided b (entry_at s worker (Go noise) told s')) (sym (same_room l))

    -- a further step of the engine, with this written down, is a step of the whole machine
    pub go_step : s'.log ≡ left → (always ≡ true → told.decided ≡ true → has_room counted ≡ true → x ≡ entry_of worker q (reply_by told.outcome (slice_get s'.machines worker))) → r ≡ record told { kept = is_some (kept_if told.decided (has_room counted) x) }
        → IsStep same always s (record { worker = worker; event = Go noise }) r s'
    go_step l y is =
        let on : Bool = is_in_flight told.outcome in
        logged_step same always s s' (record { worker = worker; event = Go noise }) told h e (record {
          entries = ap (λ (z : Log V). z.entries) l ∙ went_entries s.log worker before after told.decided x on q ∙ ap (λ o. s.log.entries ++ in_list o) (kept_same l y);
          places = ap (λ (z : Log V). z.places) l ∙ went_places s.log worker before after told.decided x on q;
          reserved = ap (λ (z : Log V). z.reserved) l ∙ went_reserved s.log worker before after told.decided x on q;
          requests = λ a. ap (λ (z : Log V). z.requests) l ∙ went_requests s.log worker before after told.decided x on q ∙ ap (λ o. slice_set s.log.requests worker (if on then o else None)) (i a);
          long = ap (λ (z : Log V). length z.requests) l ∙ ap length (went_requests s.log worker before after told.decided x on q) ∙ length-set s.log.requests worker (if on then q else None);
        }) g r (is ∙ ap (λ o. record told { kept = is_some o }) (kept_same l y))

  -- and where no journal is kept: nothing is counted for one, and nothing written down
  unkept_count : (places : ℕ) (b a : Bool) (n : ℕ) → ltb 0 places ≡ false → recounted places b a n ≡ n
  unkept_count zero b a n e = refl
  unkept_count (suc p) b a n e = absurd (let q : suc p ≤ 0 = ltb-false 0 (suc p) e in omega (arith, q))

  unkept_room : (l : Log V) → ltb 0 l.places ≡ false → has_room l ≡ true → ⊥
  unkept_room l e z = let p : l.places ≤ 0 = ltb-false 0 l.places e in let n : length l.entries + l.reserved < l.places = has_room_is l z in omega (arith, p, n)

  kept_nothing : (d b : Bool) → kept_if {V = V} d b None ≡ None
  kept_nothing true true = refl
  kept_nothing true false = refl
  kept_nothing false b = refl

  none_kept : (s : World V) (w : ℕ) → ltb 0 s.log.places ≡ false → (is_reserving (slice_get s.calls w) && is_full s.log) ≡ false
  none_kept s w e = by (is_reserving (slice_get s.calls w)) (ap (λ b. b && not (has_room s.log)) e) where
    by : (b : Bool) → is_full s.log ≡ false → (b && is_full s.log) ≡ false
    by true f = f
    by false f = refl

  unkept_log : (l l1 l' : Log V) (w : ℕ) (b a d on on' : Bool) (q : Option (Request V)) → ltb 0 l.places ≡ false → l1 ≡ answered_log l w q → l' ≡ with_request l1 w (not on) None → on ≡ on' → l' ≡ went_log l w b a d None on' q
  unkept_log l l1 l' w b a d on on' q e e1 e2 eo =
      e2 ∙ ap (λ (y : Log V). with_request y w (not on) None) e1
      ∙ ap (λ es. with_request (record (answered_log l w q) { entries = es }) w (not on) None) (sym (append-nil l.entries))
      ∙ ap (λ o. with_request (record (answered_log l w q) { entries = l.entries ++ in_list o }) w (not on) None) (sym (kept_nothing d (has_room (record (answered_log l w q) { reserved = recounted l.places b a l.reserved }))))
      ∙ ap (λ n. with_request (record (answered_log l w q) { entries = l.entries ++ in_list (kept_if d (has_room (record (answered_log l w q) { reserved = recounted l.places b a l.reserved })) None); reserved = n }) w (not on) None) (sym (unkept_count l.places b a l.reserved e))
      ∙ ap (λ y. with_request (kept_of (count_of (answered_log l w q) b a) d None) w (not y) None) eo

  -- so is one where no journal is kept, of which the request alone is written down
  pub unkept_step : (s s' : World V) (worker : ℕ) (noise : Noise Id V) (q : Option (Request V)) (l1 : Log V) (on : Bool) (told : Report V) → Holds same always s → IsEngineStep same always (engine_of s) (record { worker = worker; event = Go noise }) told (engine_of s') → ltb 0 s.log.places ≡ false
      → (always ≡ true → q ≡ answered_request s worker (Go noise)) → l1 ≡ answered_log s.log worker q → s'.log ≡ with_request l1 worker (not on) None → on ≡ is_in_flight told.outcome → IsStep same always s (record { worker = worker; event = Go noise }) told s'
  unkept_step s s' worker noise q l1 on told h e z i e1 e2 eo =
      let b = has_place (slice_get s.calls worker) (slice_get s.machines worker) in
      let a = has_place (slice_get s'.calls worker) (slice_get s'.machines worker) in
      let counted : Log V = record s.log { reserved = recounted s.log.places b a s.log.reserved } in
      go_step s s' worker noise q None told told h e (none_kept s worker z) i
      (unkept_log s.log l1 s'.log worker b a told.decided on (is_in_flight told.outcome) q z e1 e2 eo)
      (λ y d r. absurd (unkept_room counted z r))
      (ap (λ k. record told { kept = k }) (unkept same always (engine_of s) (engine_of s') worker (Go noise) _ told e.does) ∙ ap (λ o. record told { kept = is_some o }) (sym (kept_nothing told.decided (has_room counted))))

  -- where both of two tests hold, the first does
  pub and_left : (a b : Bool) → (a && b) ≡ true → a ≡ true
  and_left true b e = refl
  and_left false b e = e

  -- where both of two tests hold, the second does
  pub and_right : (a b : Bool) → (a && b) ≡ true → b ≡ true
  and_right true b e = e
  and_right false b e = absurd (cc e)

  -- a writing call that finds the journal full and is given up is a step of the whole machine
  pub tell_full_step : (s s' : World V) (worker : ℕ) (noise : Noise Id V) (r : Report V) (h : Holds same always s) (b : is_reserving (slice_get s.calls worker) ≡ true) → is_full s.log ≡ true → EngineHolds same always s'
      → s' ≡ after_full same always s worker h b → r ≡ quiet OfCollector (Refused JournalFull) → IsStep same always s (record { worker = worker; event = Go noise }) r s'
  tell_full_step s s' worker noise r h b f h' e q =
      let g : (is_reserving (slice_get s.calls worker) && is_full s.log) ≡ true = ap (λ c. c && is_full s.log) b ∙ f in
      let P : Bool → Type 0 = λ c. StepsUnless same always c s (record { worker = worker; event = Go noise }) r s' in
      record {
        does = subst P (sym g) (record { report = q; state = e });
        flight = λ c n. after_full_flight same always s worker h b s' r e q;
        holds = (h'.0, h'.1, after_full_logged same always s worker h b s' e);
      }

  -- the whole machine as it begins
  none_reserved : (ks : List (InFlight V)) (ms : List (Machine Id V)) → ((i : ℕ) (k : InFlight V) → slice_get ks i ≡ Some k → k ≡ Idle) → places_of ks ms ≡ 0
  none_reserved [] ms f = refl
  none_reserved (k ∷ ks) [] f = refl
  none_reserved (k ∷ ks) (m ∷ ms) f =
      let z : one_where (has_place (Some k) (Some m)) ≡ 0 = ap (λ y. one_where (has_place (Some y) (Some m))) (f 0 k refl) in
      let rest : places_of ks ms ≡ 0 = none_reserved ks ms (λ i y q. f (suc i) y q) in
      omega (arith, z, rest)

  -- with nothing written down and no call in flight, what is written down fits
  pub opened_logged : (s : World V) (n places : ℕ) → IsFresh s → s.log ≡ opened_log n places → length s.calls ≡ n → (0 < places → always ≡ true) → IsLogged same always s
  opened_logged s n places fresh l long copies = record {
    room = (let P : Log V → Type 0 = λ y. length y.entries + y.reserved ≤ y.places in subst P (sym l) (omega arith));
    copies = (let P : Log V → Type 0 = λ y. 0 < y.places → always ≡ true in subst P (sym l) copies);
    reserved = λ p. ap (λ (y : Log V). y.reserved) l ∙ sym (none_reserved s.calls s.machines fresh.idle);
    long = ap (λ (y : Log V). length y.requests) l ∙ length-replicate n None ∙ sym long;
    flights = no_flights;
    in_flight = fresh_flights same always s fresh;
    asked = λ a i. tt;
    pairs = empty;
    stand = standing_empty same always (nodes s.forest) fresh.alone;
    legal = λ p. (let P : Log V → Type 0 = λ y. Legal same empty y.entries empty in subst P (sym l) refl);
  }

  -- two maps that stand in the same nodes are one
  pub one_map : (hp : ℕ → Node V) (m n : Pairs V) → IsMapOf hp m → IsMapOf hp n → m ≡ n
  one_map hp m n a b = same_pairs m n by where
    by : (q : ℕ) → get m q ≡ get n q
    by q = elim (cases_Bool (ltb q (2 ^ 64))) [
      | inl x ↦ (let l : q < 2 ^ 64 = ltb-true q (2 ^ 64) x in a.at q l ∙ sym (b.at q l))
      | inr x ↦ (let l : 2 ^ 64 ≤ q = ltb-false q (2 ^ 64) x in a.none_beyond q l ∙ sym (b.none_beyond q l))
    ]

  -- the journal's entries are legal from the empty map on
  pub journal_legal : (s : World V) → Holds same always s → IsLegal same s.log.entries
  journal_legal s h = by s.log.places refl where
    by : (p : ℕ) → s.log.places ≡ p → IsLegal same s.log.entries
    by zero e = let P : List (Entry V) → Type 0 = λ es. IsLegal same es in subst P (sym (journal_none same always s h e)) (empty, refl)
    by (suc p) e = (h.2.pairs, h.2.legal (omega (arith, e)))

  -- and lead to the pairs that stand
  pub journal_replays : (s : World V) → Holds same always s → (m : Pairs V) → 0 < s.log.places → IsMapOf (nodes s.forest) m → Legal same empty s.log.entries m
  journal_replays s h m p st = subst (λ n. Legal same empty s.log.entries n) (one_map (nodes s.forest) h.2.pairs m h.2.stand st) (h.2.legal p)
