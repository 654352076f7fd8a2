-- The log of steps, reports and tickets shows the history and the state.
use Rattle.std.proofs.Common.{◌≡◌, ℕ, ◌+◌, ◌-◌, ◌<◌, ◌≢◌, Bool, true, false, List, [], ◌∷◌, ◌++◌, ◌==◌, ◌&&◌, Option, Some, None, refl, sym, ◌∙◌, ap, subst, inl, inr, length, arith, get_or-set_same, get_or-set_other}
use Rattle.std.specs.Prelude.{if◌then◌else◌, is_none, is_some, nat_le, nat_lt, remove, slice_index_or, slice_set}
use Rattle.std.proofs.lemmas.Bool.{cases_eq, cases_lt, eq-eqb, ne_eqb}
use Rattle.std.proofs.lemmas.Bool.Decides.{nat_tests}
use Rattle.std.proofs.lemmas.List.{set_past}
use Rattle.crossbeam_epoch.specs.declared.bag.Deferral.{Deferral}
use Rattle.crossbeam_epoch.specs.declared.bag.Work.{Work}
use Rattle.crossbeam_epoch.specs.declared.fault.Fault.{Fault}
use Rattle.crossbeam_epoch.specs.declared.fault.Fault.TheVariants as F
use Rattle.crossbeam_epoch.specs.declared.limits.Limits.{Limits}
use Rattle.crossbeam_epoch.specs.declared.names.Name.{Name}
use Rattle.crossbeam_epoch.specs.declared.names.Ptr.{Ptr}
use Rattle.crossbeam_epoch.specs.declared.world.participant.Participant.{Participant}
use Rattle.crossbeam_epoch.specs.declared.world.participant.Phase.{Phase}
use Rattle.crossbeam_epoch.specs.declared.world.participant.Phase.TheVariants.{Idle, Look, Publish, RepinLook, RepinPublish, Seal, Queue, ReleaseSeal, ReleaseQueue, Secure, SecureSeal, SecureQueue, Load, Inspect, Advance, Take, Call}
use Rattle.crossbeam_epoch.specs.declared.world.report.Op.{Op}
use Rattle.crossbeam_epoch.specs.declared.world.report.Op.TheVariants as O
use Rattle.crossbeam_epoch.specs.declared.world.report.Event.{Event}
use Rattle.crossbeam_epoch.specs.declared.world.report.Event.TheVariants.{Begin, Go}
use Rattle.crossbeam_epoch.specs.declared.world.report.Step.{Step}
use Rattle.crossbeam_epoch.specs.declared.world.report.Outcome.{Outcome}
use Rattle.crossbeam_epoch.specs.declared.world.report.Outcome.TheVariants.{Running, Done, Refused}
use Rattle.crossbeam_epoch.specs.declared.world.report.Report.{Report}
use Rattle.crossbeam_epoch.specs.world.History.{Mark, Pinned, Repinned, Unpinned, Deferred, began, times_called, deferrals, IsGraceful, AreCalledLater}
use Rattle.crossbeam_epoch.specs.world.Fits.{Fits, Bounds, times_held}
use Rattle.crossbeam_epoch.specs.world.Reach.{Moment, HasMoments, IsCareful, Visible, marks_of, moment, moments_after, step_act}
use Rattle.crossbeam_epoch.specs.world.Store.{Store, value_at}
use Rattle.crossbeam_epoch.specs.world.Log.{LogLine, Stepped, Accepted, log_after, Flight, one_more, flight_after, flight, is_pin, is_repin, pins_next, repins_next, guards_after, guards, untold, publication, event_marks, history_of, undated, IsPastBy, IsPast, IsFlight, AgreesAt, Shows}
use Rattle.crossbeam_epoch.specs.world.Machine.{State, place, blank, in_phase, published, is_at, relooked, repinned, secured, has_free, inspection, ends_advance, no_bag, taken, after_call, called_one, opened, registered, with_store, with_roots, deferred, deferred_anew, after_deferral, name_of}
use Rattle.crossbeam_epoch.specs.world.Steps.{outcome_at, begin_fault, event_fault, fault, begun_at, begun, gone, moved, needs_memory, after, IsOutcome, IsReport, begin_marks, phase_marks, moved_marks, unless_refused, marks, state_after, history_after, AreReports}
use Rattle.crossbeam_epoch.proofs.lemmas.world.Reaches.{seen_stands}
use Rattle.crossbeam_epoch.proofs.lemmas.world.Told.{marks_act}
use Rattle.crossbeam_epoch.proofs.lemmas.world.Undated.{undated_began, undated_graceful, undated_calls, undated_deferrals, undated_later}
use Rattle.crossbeam_epoch.proofs.lemmas.world.Runs.{in_table, known_if_faultless, begin_idle, refused_begin, off, blank_at, word_none as is_none_now, not_some as not_some_now}

past_more_by : (op : Op) (n : ℕ) → IsPastBy op n → IsPastBy op (n + 1)
past_more_by O.Pin n p = omega arith
past_more_by O.Unpin n p = tt
past_more_by O.Repin n p = absurd p
past_more_by O.Flush n p = tt
past_more_by O.Release n p = tt
past_more_by (O.Secure m) n p = tt

past_more : (f : Option Flight) → IsPast f → IsPast (one_more f)
past_more None p = absurd p
past_more (Some f) p = past_more_by f.op f.taken p

pins_no_more_by : (op : Op) (n : ℕ) → IsPastBy op n → (is_pin op && (n == 1)) ≡ false
pins_no_more_by O.Pin n p = grind (arith, nat_tests)
pins_no_more_by O.Unpin n p = refl
pins_no_more_by O.Repin n p = absurd p
pins_no_more_by O.Flush n p = refl
pins_no_more_by O.Release n p = refl
pins_no_more_by (O.Secure m) n p = refl

pins_no_more : (f : Option Flight) → IsPast f → pins_next f ≡ false
pins_no_more None p = absurd p
pins_no_more (Some f) p = pins_no_more_by f.op f.taken p

repins_no_more_by : (op : Op) (n : ℕ) → IsPastBy op n → (is_repin op && (n == 1)) ≡ false
repins_no_more_by O.Pin n p = refl
repins_no_more_by O.Unpin n p = refl
repins_no_more_by O.Repin n p = absurd p
repins_no_more_by O.Flush n p = refl
repins_no_more_by O.Release n p = refl
repins_no_more_by (O.Secure m) n p = refl

repins_no_more : (f : Option Flight) → IsPast f → repins_next f ≡ false
repins_no_more None p = absurd p
repins_no_more (Some f) p = repins_no_more_by f.op f.taken p

-- a call that publishes no more marks nothing by going on
silent_past : (who : ℕ) (f : Option Flight) (h : List Mark) → IsPast f → publication who f h ≡ h
silent_past who f h p =
    ap (λ b. if b then Pinned who untold ∷ h else if repins_next f then Repinned who untold ∷ h else h) (pins_no_more f p)
    ∙ ap (λ b. if b then Repinned who untold ∷ h else h) (repins_no_more f p)

not_none : (w : Option ℕ) → is_none w ≡ false → is_some w ≡ true
not_none None e = absurd (cc e)
not_none (Some x) e = refl

none_out : (w : Option ℕ) (n : ℕ) → w ≡ None → is_some w ≡ nat_lt 0 n → n ≡ 0
none_out None n e is = grind (arith, nat_tests)
none_out (Some x) n e is = absurd (cc e)

some_out : (w : Option ℕ) (n : ℕ) → is_some w ≡ true → is_some w ≡ nat_lt 0 n → 0 < n
some_out w n e is = let out : nat_lt 0 n ≡ true = sym is ∙ e in grind (arith, nat_tests)

-- who has a word has begun a stretch
bounds_some : (b w : Option ℕ) (epoch : ℕ) → Bounds b w epoch → is_some b ≡ is_some w
bounds_some None None epoch is = refl
bounds_some (Some b) (Some w) epoch is = refl
bounds_some None (Some w) epoch is = absurd is
bounds_some (Some b) None epoch is = absurd is

-- the count of guards where a step is no first-level pin's second
same_count : (f : Option Flight) (n : ℕ) → pins_next f ≡ false → n ≡ (if pins_next f then n + 1 else n)
same_count f n away = sym (ap (λ b. if b then n + 1 else n) away)

abbrev fault_of : Outcome → Option Fault
fault_of (Refused x) = Some x
fault_of Running = None
fault_of Done = None

-- a refused begin takes no guard
no_guard : (op : Op) (x : Fault) (f : Option Flight) (n : ℕ) → guards_after (Begin op) (Refused x) f n ≡ n
no_guard O.Pin x f n = refl
no_guard O.Unpin x f n = refl
no_guard O.Repin x f n = refl
no_guard O.Flush x f n = refl
no_guard O.Release x f n = refl
no_guard (O.Secure m) x f n = refl

unpins : (b : Bool) (who : ℕ) (h : List Mark) → undated (if b then Unpinned who ∷ h else h) ≡ (if b then Unpinned who ∷ undated h else undated h)
unpins true who h = refl
unpins false who h = refl

module _ {J : Type 0} where
  -- a step that isn't a publication leaves the pin as it was
  goes : (f f' : Option Flight) (n : ℕ) (p p' : Participant J) → AgreesAt f n p → p'.guards ≡ p.guards → p'.word ≡ p.word → pins_next f ≡ false → IsFlight p'.phase p'.word f' → AgreesAt f' (if pins_next f then n + 1 else n) p'
  goes f f' n p p' a g w away is = subst (λ m. AgreesAt f' m p') (same_count f n away) (record { count = g ∙ a.count; pinned = ap is_some w ∙ a.pinned; phase = is })

  -- what an event leaves at a place: a call in flight, guards and the place belong together
  record Lands (event : Event) (f : Option Flight) (n : ℕ) (p : Participant J) : Type 0 where
    pub outcome : Outcome
    pub ends : outcome_at p.phase ≡ outcome
    pub agrees : AgreesAt (flight_after event outcome f) (guards_after event outcome f n) p

  -- a call that publishes no more goes on, or ends
  runs : (f : Option Flight) (n : ℕ) (p p' : Participant J) → AgreesAt f n p → p'.guards ≡ p.guards → p'.word ≡ p.word → outcome_at p'.phase ≡ Running → IsPast f → IsFlight p'.phase p'.word (one_more f) → Lands Go f n p'
  runs f n p p' a g w o past is = record { outcome = Running; ends = o; agrees = goes f (one_more f) n p p' a g w (pins_no_more f past) is }

  stops : (f : Option Flight) (n : ℕ) (p p' : Participant J) → AgreesAt f n p → p'.guards ≡ p.guards → p'.word ≡ p.word → outcome_at p'.phase ≡ Done → IsPast f → IsFlight p'.phase p'.word None → Lands Go f n p'
  stops f n p p' a g w o past is = record { outcome = Done; ends = o; agrees = goes f None n p p' a g w (pins_no_more f past) is }

  pub_first : (n seen pins : ℕ) (p : Participant J) (b : Bool) → n ≡ 0 → Lands Go (Some (record { op = O.Pin; taken = 1 })) n (record p { word = Some seen; guards = 1; pins = pins; phase = if b then Load else Idle })
  pub_first n seen pins p true none = record { outcome = Running; ends = refl; agrees = record { count = omega arith; pinned = grind (arith, nat_tests); phase = omega arith } }
  pub_first n seen pins p false none = record { outcome = Done; ends = refl; agrees = record { count = omega arith; pinned = grind (arith, nat_tests); phase = refl } }

  looks_again : (n epoch : ℕ) (p : Participant J) (b : Bool) → p.guards ≡ n → is_some p.word ≡ nat_lt 0 n → is_some p.word ≡ true → Lands Go (Some (record { op = O.Repin; taken = 0 })) n (record p { phase = if b then Idle else RepinPublish epoch })
  looks_again n epoch p true count pinned some = record { outcome = Done; ends = refl; agrees = record { count = count; pinned = pinned; phase = refl } }
  looks_again n epoch p false count pinned some = record { outcome = Running; ends = refl; agrees = record { count = count; pinned = pinned; phase = (refl, some) } }

  secures : (f : Option Flight) (n : ℕ) (p : Participant J) (b : Bool) → AgreesAt f n p → IsPast f → Lands Go f n (record p { phase = if b then Idle else SecureSeal })
  secures f n p true a past = stops f n p (record p { phase = Idle }) a refl refl refl past refl
  secures f n p false a past = runs f n p (record p { phase = SecureSeal }) a refl refl refl past (past_more f past)

  inspects : (f : Option Flight) (n seen at : ℕ) (p : Participant J) (ends more : Bool) → AgreesAt f n p → IsPast f → Lands Go f n (record p { phase = if ends then Take seen 0 else if more then Inspect seen (at + 1) else Advance seen })
  inspects f n seen at p true more a past = runs f n p (record p { phase = Take seen 0 }) a refl refl refl past (past_more f past)
  inspects f n seen at p false true a past = runs f n p (record p { phase = Inspect seen (at + 1) }) a refl refl refl past (past_more f past)
  inspects f n seen at p false false a past = runs f n p (record p { phase = Advance seen }) a refl refl refl past (past_more f past)

  calls_on : (f : Option Flight) (n answered bags seal : ℕ) (p : Participant J) (hand : List (Deferral J)) (some room : Bool) → AgreesAt f n p → IsPast f
      → Lands Go f n (record p { hand = hand; phase = if some then Call answered bags seal else if room then Take answered bags else Idle })
  calls_on f n answered bags seal p hand true room a past = runs f n p (record p { hand = hand; phase = Call answered bags seal }) a refl refl refl past (past_more f past)
  calls_on f n answered bags seal p hand false true a past = runs f n p (record p { hand = hand; phase = Take answered bags }) a refl refl refl past (past_more f past)
  calls_on f n answered bags seal p hand false false a past = stops f n p (record p { hand = hand; phase = Idle }) a refl refl refl past refl

  leaves : (f : Option Flight) (n : ℕ) (p : Participant J) → AgreesAt f n p → IsPast f → p.word ≡ None → Lands Go f n blank
  leaves f n p a past none =
      let zero_out = none_out p.word n none a.pinned in
      record { outcome = Done; ends = refl; agrees = subst (λ m. AgreesAt {J = J} None m blank) (same_count f n (pins_no_more f past)) (record { count = sym zero_out; pinned = rw zero_out refl; phase = refl }) }

  -- how a call begins
  first_pin : (f : Option Flight) (n : ℕ) (p : Participant J) (b : Bool) → is_none p.word ≡ b → AgreesAt f n p → p.phase ≡ Idle
      → Lands (Begin O.Pin) f n (if b then record p { phase = Look } else record p { guards = p.guards + 1 })
  first_pin f n p true is a idle = record { outcome = Running; ends = refl; agrees = record { count = a.count; pinned = a.pinned; phase = (refl, is_none_now p.word is) } }
  first_pin f n p false is a idle =
      let out = some_out p.word n (not_none p.word is) a.pinned in
      record { outcome = Done; ends = ap outcome_at idle; agrees = record { count = omega (arith, a.count); pinned = let some = not_none p.word is in grind (arith, nat_tests); phase = rw idle refl } }

  first_unpin : (f : Option Flight) (n : ℕ) (p : Participant J) (b : Bool) → nat_le p.guards 1 ≡ b → is_some p.word ≡ true → AgreesAt f n p → p.phase ≡ Idle
      → Lands (Begin O.Unpin) f n (if b then record p { word = None; guards = 0 } else record p { guards = p.guards - 1 })
  first_unpin f n p true is some a idle =
      let count = a.count in
      record { outcome = Done; ends = ap outcome_at idle; agrees = record { count = grind (arith, nat_tests); pinned = grind (arith, nat_tests); phase = rw idle refl } }
  first_unpin f n p false is some a idle =
      let count = a.count in
      record { outcome = Done; ends = ap outcome_at idle; agrees = record { count = omega arith; pinned = grind (arith, nat_tests); phase = rw idle refl } }

  first_repin : (f : Option Flight) (n : ℕ) (p : Participant J) (b : Bool) → is_some p.word ≡ true → AgreesAt f n p → Lands (Begin O.Repin) f n (record p { phase = if b then RepinLook else Idle })
  first_repin f n p true some a = record { outcome = Running; ends = refl; agrees = record { count = a.count; pinned = a.pinned; phase = (refl, some) } }
  first_repin f n p false some a = record { outcome = Done; ends = refl; agrees = record { count = a.count; pinned = a.pinned; phase = refl } }

  first_flush : (f : Option Flight) (n : ℕ) (p : Participant J) (b : Bool) → AgreesAt f n p → Lands (Begin O.Flush) f n (record p { phase = if b then Load else Seal })
  first_flush f n p true a = record { outcome = Running; ends = refl; agrees = record { count = a.count; pinned = a.pinned; phase = tt } }
  first_flush f n p false a = record { outcome = Running; ends = refl; agrees = record { count = a.count; pinned = a.pinned; phase = tt } }

  first_release : (f : Option Flight) (n : ℕ) (p : Participant J) (b : Bool) → p.word ≡ None → AgreesAt f n p → Lands (Begin O.Release) f n (if b then blank else record p { phase = ReleaseSeal })
  first_release f n p true none a =
      let zero_out = none_out p.word n none a.pinned in
      record { outcome = Done; ends = refl; agrees = record { count = sym zero_out; pinned = rw zero_out refl; phase = refl } }
  first_release f n p false none a = record { outcome = Running; ends = refl; agrees = record { count = a.count; pinned = a.pinned; phase = (tt, none) } }

  first : (f : Option Flight) (n : ℕ) (op : Op) (p : Participant J) → begin_fault op p ≡ None → AgreesAt f n p → p.phase ≡ Idle → Lands (Begin op) f n (begun_at op p)
  first f n O.Pin p e a idle = first_pin f n p (is_none p.word) refl a idle
  first f n O.Unpin p e a idle = first_unpin f n p (nat_le p.guards 1) refl (not_none p.word (off (is_none p.word) F.Unpinned e)) a idle
  first f n O.Repin p e a idle = first_repin f n p (nat_le p.guards 1) (not_none p.word (off (is_none p.word) F.Unpinned e)) a
  first f n O.Flush p e a idle = first_flush f n p (length p.bag == 0) a
  first f n O.Release p e a idle = first_release f n p (length p.bag == 0) (not_some_now p.word (off (is_some p.word) F.GuardOut e)) a
  first f n (O.Secure m) p e a idle = record { outcome = Running; ends = refl; agrees = record { count = a.count; pinned = a.pinned; phase = tt } }

  -- no step has want of memory for its fault but where it finds none
  no_such_fault : (b : Bool) (phase : Phase) (p : Participant J) → (if b then event_fault Go phase p else Some F.Unknown) ≡ Some F.Memory → ⊥
  no_such_fault false phase p e = absurd (cc e)
  no_such_fault true Idle p e = absurd (cc e)
  no_such_fault true Look p e = absurd (cc e)
  no_such_fault true (Publish seen) p e = absurd (cc e)
  no_such_fault true RepinLook p e = absurd (cc e)
  no_such_fault true (RepinPublish seen) p e = absurd (cc e)
  no_such_fault true Seal p e = absurd (cc e)
  no_such_fault true (Queue seal) p e = absurd (cc e)
  no_such_fault true ReleaseSeal p e = absurd (cc e)
  no_such_fault true (ReleaseQueue seal) p e = absurd (cc e)
  no_such_fault true (Secure n) p e = absurd (cc e)
  no_such_fault true SecureSeal p e = absurd (cc e)
  no_such_fault true (SecureQueue seal) p e = absurd (cc e)
  no_such_fault true Load p e = absurd (cc e)
  no_such_fault true (Inspect seen at) p e = absurd (cc e)
  no_such_fault true (Advance seen) p e = absurd (cc e)
  no_such_fault true (Take answered bags) p e = absurd (cc e)
  no_such_fault true (Call answered bags seal) p e = absurd (cc e)

  last_guard : (f : Option Flight) (n : ℕ) (p : Participant J) → begin_fault O.Unpin p ≡ None → AgreesAt f n p → nat_le p.guards 1 ≡ (n == 1)
  last_guard f n p e a =
      let out = some_out p.word n (not_none p.word (off (is_none p.word) F.Unpinned e)) a.pinned in
      let count = a.count in
      grind (arith, nat_tests)

  marked_begin : (f : Option Flight) (n : ℕ) (who : ℕ) (p : Participant J) (op : Op) (c : Option (ℕ × Option Name)) (h : List Mark) → begin_fault op p ≡ None → AgreesAt f n p
      → undated (begin_marks who p op h) ≡ event_marks who (Begin op) c f n (undated h)
  marked_begin f n who p O.Pin c h e a = refl
  marked_begin f n who p O.Unpin c h e a = unpins (nat_le p.guards 1) who h ∙ ap (λ b. if b then Unpinned who ∷ undated h else undated h) (last_guard f n p e a)
  marked_begin f n who p O.Repin c h e a = refl
  marked_begin f n who p O.Flush c h e a = refl
  marked_begin f n who p O.Release c h e a = refl
  marked_begin f n who p (O.Secure m) c h e a = refl

module _ {T J : Type 0} where
  -- one place of the table was written
  record Puts (event : Event) (f : Option Flight) (n : ℕ) (s : State T J) (who : ℕ) (s' : State T J) : Type 0 where
    pub at : Participant J
    pub table : s'.table ≡ slice_set s.table who at
    pub lands : Lands event f n at

  puts : (event : Event) (f : Option Flight) (n : ℕ) (s : State T J) (who : ℕ) (p : Participant J) (s' : State T J) → s'.table ≡ slice_set s.table who p → Lands event f n p → Puts event f n s who s'
  puts event f n s who p s' e l = record { at = p; table = e; lands = l }

  by_room : (f : Option Flight) (n : ℕ) (s : State T J) (who seen : ℕ) (b : Bool) → AgreesAt f n (place s who) → IsPast f
      → Puts Go f n s who (if b then record (in_phase s who (Take (seen + 1) 0)) { epoch = seen + 1 } else in_phase s who (Take seen 0))
  by_room f n s who seen true a past = let p = record (place s who) { phase = Take (seen + 1) 0 } in puts Go f n s who p _ refl (runs f n (place s who) p a refl refl refl past (past_more f past))
  by_room f n s who seen false a past = let p = record (place s who) { phase = Take seen 0 } in puts Go f n s who p _ refl (runs f n (place s who) p a refl refl refl past (past_more f past))

  by_due : (f : Option Flight) (n : ℕ) (s : State T J) (who answered bags : ℕ) (b : Bool) → AgreesAt f n (place s who) → IsPast f → Puts Go f n s who (if b then taken s who answered bags else in_phase s who Idle)
  by_due f n s who answered bags true a past =
      let b = slice_index_or s.queue 0 no_bag in
      let p = record (place s who) { hand = b.jobs; phase = Call answered (bags + 1) b.seal } in
      puts Go f n s who p _ refl (runs f n (place s who) p a refl refl refl past (past_more f past))
  by_due f n s who answered bags false a past = let p = record (place s who) { phase = Idle } in puts Go f n s who p _ refl (stops f n (place s who) p a refl refl refl past refl)

  by_empty : (f : Option Flight) (n : ℕ) (s : State T J) (who answered bags seal : ℕ) (b : Bool) → AgreesAt f n (place s who) → IsPast f → Puts Go f n s who (if b then in_phase s who Idle else called_one s who answered bags seal)
  by_empty f n s who answered bags seal true a past = let p = record (place s who) { phase = Idle } in puts Go f n s who p _ refl (stops f n (place s who) p a refl refl refl past refl)
  by_empty f n s who answered bags seal false a past =
      let rest = remove (place s who).hand 0 in
      puts Go f n s who (record (place s who) { hand = rest; phase = after_call (length rest) answered bags seal }) _ refl (calls_on f n answered bags seal (place s who) rest (nat_lt 0 (length rest)) (nat_lt bags 8) a past)

  -- to a phase of the same participant
  to : (f : Option Flight) (n : ℕ) (s : State T J) (who : ℕ) (next : Phase) → AgreesAt f n (place s who) → outcome_at next ≡ Running → IsPast f → IsFlight next (place s who).word (one_more f) → Puts Go f n s who (in_phase s who next)
  to f n s who next a o past is = let p = record (place s who) { phase = next } in puts Go f n s who p _ refl (runs f n (place s who) p a refl refl o past is)

  going : (f : Option Flight) (n : ℕ) (s : State T J) (who : ℕ) (phase : Phase) → event_fault Go phase (place s who) ≡ None → AgreesAt f n (place s who) → IsFlight phase (place s who).word f → Puts Go f n s who (gone s who phase)
  going f n s who Idle e a is = absurd (cc e)
  going f n s who Look e a is =
      let p = record (place s who) { phase = Publish s.epoch } in
      puts Go f n s who p _ refl (subst (λ x. Lands Go x n p) (sym is.0) (record { outcome = Running; ends = refl; agrees = record { count = a.count; pinned = a.pinned; phase = (refl, is.1) } }))
  going f n s who (Publish seen) e a is =
      let p = published seen (place s who) in
      puts Go f n s who p _ refl (subst (λ x. Lands Go x n p) (sym is.0) (pub_first n seen _ (place s who) ((place s who).pins == 0) (none_out (place s who).word n is.1 a.pinned)))
  going f n s who RepinLook e a is =
      let p = relooked s.epoch (place s who) in
      puts Go f n s who p _ refl (subst (λ x. Lands Go x n p) (sym is.0) (looks_again n s.epoch (place s who) (is_at (place s who).word s.epoch) a.count a.pinned is.1))
  going f n s who (RepinPublish seen) e a is =
      let p = repinned seen (place s who) in
      puts Go f n s who p _ refl (subst (λ x. Lands Go x n p) (sym is.0) (record { outcome = Done; ends = refl; agrees = record { count = a.count; pinned = sym is.1 ∙ a.pinned; phase = refl } }))
  going f n s who Seal e a is = to f n s who (Queue s.epoch) a refl is (past_more f is)
  going f n s who (Queue seal) e a is = let p = record (place s who) { bag = []; phase = Load } in puts Go f n s who p _ refl (runs f n (place s who) p a refl refl refl is (past_more f is))
  going f n s who ReleaseSeal e a is = to f n s who (ReleaseQueue s.epoch) a refl is.0 (past_more f is.0, is.1)
  going f n s who (ReleaseQueue seal) e a is = puts Go f n s who blank _ refl (leaves f n (place s who) a is.0 is.1)
  going f n s who (Secure m) e a is = puts Go f n s who (secured m (place s who)) _ refl (secures f n (place s who) (has_free (place s who).bag m) a is)
  going f n s who SecureSeal e a is = to f n s who (SecureQueue s.epoch) a refl is (past_more f is)
  going f n s who (SecureQueue seal) e a is = let p = record (place s who) { bag = []; phase = Idle } in puts Go f n s who p _ refl (stops f n (place s who) p a refl refl refl is refl)
  going f n s who Load e a is = to f n s who (Inspect s.epoch 0) a refl is (past_more f is)
  going f n s who (Inspect seen at) e a is =
      puts Go f n s who (record (place s who) { phase = inspection s seen at }) _ refl (inspects f n seen at (place s who) (ends_advance (place s at).word seen) (nat_lt (at + 1) (length s.table)) a is)
  going f n s who (Advance seen) e a is = by_room f n s who seen (nat_lt seen s.limits.epoch_max) a is
  going f n s who (Take answered bags) e a is = by_due f n s who answered bags _ a is
  going f n s who (Call answered bags seal) e a is = by_empty f n s who answered bags seal (length (place s who).hand == 0) a is

  -- a participant's place, its call in flight and its guards belong together again, and no other place changed
  record Turns (f : Option Flight) (n : ℕ) (s : State T J) (who : ℕ) (s' : State T J) : Type 0 where
    pub own : AgreesAt f n (place s' who)
    pub others : (q : ℕ) → q ≢ who → place s' q ≡ place s q

  stays : (f : Option Flight) (n : ℕ) (s : State T J) (who : ℕ) → AgreesAt f n (place s who) → Turns f n s who s
  stays f n s who a = record { own = a; others = λ q ne. refl }

  put_at : (s s' : State T J) (who : ℕ) (p : Participant J) → who < length s.table → s'.table ≡ slice_set s.table who p → place s' who ≡ p
  put_at s s' who p lt e = ap (λ (t : List (Participant J)). slice_index_or t who blank) e ∙ get_or-set_same s.table who p blank lt

  put_off : (s s' : State T J) (who : ℕ) (p : Participant J) (q : ℕ) → s'.table ≡ slice_set s.table who p → q ≢ who → place s' q ≡ place s q
  put_off s s' who p q e ne = ap (λ (t : List (Participant J)). slice_index_or t q blank) e ∙ get_or-set_other s.table who q p blank ne

  landed : (event : Event) (o : Outcome) (f : Option Flight) (n : ℕ) (s : State T J) (who : ℕ) (s' : State T J) → who < length s.table → Puts event f n s who s' → outcome_at (place s' who).phase ≡ o → Turns (flight_after event o f) (guards_after event o f n) s who s'
  landed event o f n s who s' lt p e =
      let is = put_at s s' who p.at lt p.table in
      let told : p.lands.outcome ≡ o = sym p.lands.ends ∙ sym (ap (λ (x : Participant J). outcome_at x.phase) is) ∙ e in
      record {
        own = subst (λ x. AgreesAt (flight_after event o f) (guards_after event o f n) x) (sym is) (subst (λ y. AgreesAt (flight_after event y f) (guards_after event y f n) p.at) told p.lands.agrees);
        others = λ q ne. put_off s s' who p.at q p.table ne;
      }

  -- a begin or a step that isn't refused
  moving : (event : Event) (o : Outcome) (f : Option Flight) (n : ℕ) (s : State T J) (who : ℕ) → fault s who event ≡ None → outcome_at (place (moved s who event) who).phase ≡ o → AgreesAt f n (place s who)
      → Turns (flight_after event o f) (guards_after event o f n) s who (moved s who event)
  moving (Begin op) o f n s who e k a =
      let x = known_if_faultless (place s who).registered (event_fault (Begin op) (place s who).phase (place s who)) e in
      let idle = begin_idle op (place s who).phase (place s who) x.1 in
      landed (Begin op) o f n s who (begun s who op) (in_table s who x.0) (puts (Begin op) f n s who (begun_at op (place s who)) _ refl (first f n op (place s who) (rw idle at x.1) a idle)) k
  moving Go o f n s who e k a =
      let x = known_if_faultless (place s who).registered (event_fault Go (place s who).phase (place s who)) e in
      landed Go o f n s who (gone s who (place s who).phase) (in_table s who x.0) (going f n s who (place s who).phase x.1 a a.phase) k

  -- a step that finds no memory
  gives_up : (f : Option Flight) (n : ℕ) (s : State T J) (who : ℕ) (b : Bool) → who < length s.table → b ≡ true → AgreesAt f n (place s who) → Turns None n s who (if b then in_phase s who Idle else s)
  gives_up f n s who false lt e a = absurd (cc e)
  gives_up f n s who true lt e a =
      let p = record (place s who) { phase = Idle } in
      record { own = subst (λ x. AgreesAt None n x) (sym (put_at s (in_phase s who Idle) who p lt refl)) (record { count = a.count; pinned = a.pinned; phase = refl }); others = λ q ne. put_off s (in_phase s who Idle) who p q refl ne }

  no_memory : (f : Option Flight) (n : ℕ) (s : State T J) (who : ℕ) (e : Option Fault) → fault s who Go ≡ e → IsOutcome s who Go e (Refused F.Memory) → AgreesAt f n (place s who) → Turns None n s who (after s who Go (Refused F.Memory))
  no_memory f n s who (Some x) is o a =
      let same : Some F.Memory ≡ Some x = ap (λ (y : Outcome). fault_of y) o in
      absurd (no_such_fault (place s who).registered (place s who).phase (place s who) (is ∙ sym same))
  no_memory f n s who None is o a =
      let k = known_if_faultless (place s who).registered (event_fault Go (place s who).phase (place s who)) is in
      gives_up f n s who (needs_memory Go (place s who).phase) (in_table s who k.0) o.0 a

  refused_go : (f : Option Flight) (n : ℕ) (s : State T J) (who : ℕ) (e : Option Fault) (x : Fault) → fault s who Go ≡ e → IsOutcome s who Go e (Refused x) → AgreesAt f n (place s who)
      → Turns (flight_after Go (Refused x) f) n s who (after s who Go (Refused x))
  refused_go f n s who e F.Memory is o a = no_memory f n s who e is o a
  refused_go f n s who e F.TableFull is o a = stays f n s who a
  refused_go f n s who e F.CellsFull is o a = stays f n s who a
  refused_go f n s who e F.Unpinned is o a = stays f n s who a
  refused_go f n s who e F.Busy is o a = stays f n s who a
  refused_go f n s who e F.Count is o a = stays f n s who a
  refused_go f n s who e F.GuardOut is o a = stays f n s who a
  refused_go f n s who e (F.Registered m) is o a = stays f n s who a
  refused_go f n s who e F.Unknown is o a = stays f n s who a
  refused_go f n s who e F.Foreign is o a = stays f n s who a
  refused_go f n s who e F.Idle is o a = stays f n s who a
  refused_go f n s who e F.Limits is o a = stays f n s who a
  refused_go f n s who e F.InCall is o a = stays f n s who a

  turning : (f : Option Flight) (n : ℕ) (s : State T J) (who : ℕ) (event : Event) (e : Option Fault) (o : Outcome) → fault s who event ≡ e → IsOutcome s who event e o → AgreesAt f n (place s who)
      → Turns (flight_after event o f) (guards_after event o f n) s who (after s who event o)
  turning f n s who (Begin op) e (Refused x) is o a = rw (refused_begin s who op x, no_guard op x f n) (stays f n s who a)
  turning f n s who Go e (Refused x) is o a = refused_go f n s who e x is o a
  turning f n s who event (Some x) Running is o a = absurd (cc o)
  turning f n s who event (Some x) Done is o a = absurd (cc o)
  turning f n s who event None Running is o a = moving event Running f n s who is o a
  turning f n s who event None Done is o a = moving event Done f n s who is o a

  -- what a step marks
  marked_going : (f : Option Flight) (s : State T J) (who epoch : ℕ) (phase : Phase) (h : List Mark) → IsFlight phase (place s who).word f → undated (phase_marks epoch who phase None h) ≡ publication who f (undated h)
  marked_going f s who epoch Idle h is = rw is refl
  marked_going f s who epoch Look h is = rw is.0 refl
  marked_going f s who epoch (Publish seen) h is = rw is.0 refl
  marked_going f s who epoch RepinLook h is = rw is.0 refl
  marked_going f s who epoch (RepinPublish seen) h is = rw is.0 refl
  marked_going f s who epoch Seal h is = sym (silent_past who f (undated h) is)
  marked_going f s who epoch (Queue seal) h is = sym (silent_past who f (undated h) is)
  marked_going f s who epoch ReleaseSeal h is = sym (silent_past who f (undated h) is.0)
  marked_going f s who epoch (ReleaseQueue seal) h is = sym (silent_past who f (undated h) is.0)
  marked_going f s who epoch (Secure n) h is = sym (silent_past who f (undated h) is)
  marked_going f s who epoch SecureSeal h is = sym (silent_past who f (undated h) is)
  marked_going f s who epoch (SecureQueue seal) h is = sym (silent_past who f (undated h) is)
  marked_going f s who epoch Load h is = sym (silent_past who f (undated h) is)
  marked_going f s who epoch (Inspect seen at) h is = sym (silent_past who f (undated h) is)
  marked_going f s who epoch (Advance seen) h is = sym (silent_past who f (undated h) is)
  marked_going f s who epoch (Take answered bags) h is = sym (silent_past who f (undated h) is)
  marked_going f s who epoch (Call answered bags seal) h is = sym (silent_past who f (undated h) is)

  marked_call : (f : Option Flight) (n : ℕ) (s : State T J) (who epoch : ℕ) (phase : Phase) (c : Option (ℕ × Option Name)) (h : List Mark) → IsFlight phase (place s who).word f
      → undated (phase_marks epoch who phase c h) ≡ event_marks who Go c f n (undated h)
  marked_call f n s who epoch phase (Some c) h is = refl
  marked_call f n s who epoch phase None h is = marked_going f s who epoch phase h is

  marked_move : (f : Option Flight) (n : ℕ) (s : State T J) (who : ℕ) (event : Event) (c : Option (ℕ × Option Name)) (h : List Mark) → fault s who event ≡ None → AgreesAt f n (place s who)
      → undated (moved_marks s who event c h) ≡ event_marks who event c f n (undated h)
  marked_move f n s who (Begin op) c h e a =
      let x = known_if_faultless (place s who).registered (event_fault (Begin op) (place s who).phase (place s who)) e in
      let idle = begin_idle op (place s who).phase (place s who) x.1 in
      marked_begin f n who (place s who) op c h (rw idle at x.1) a
  marked_move f n s who Go c h e a = marked_call f n s who s.epoch (place s who).phase c h a.phase

  marked : (f : Option Flight) (n : ℕ) (s : State T J) (who : ℕ) (event : Event) (e : Option Fault) (o : Outcome) (c : Option (ℕ × Option Name)) (h : List Mark) → fault s who event ≡ e → IsOutcome s who event e o → AgreesAt f n (place s who)
      → undated (unless_refused o (moved_marks s who event c h) h) ≡ unless_refused o (event_marks who event c f n (undated h)) (undated h)
  marked f n s who event e (Refused x) c h is o a = refl
  marked f n s who event (Some x) Running c h is o a = absurd (cc o)
  marked f n s who event (Some x) Done c h is o a = absurd (cc o)
  marked f n s who event None Running c h is o a = marked_move f n s who event c h is a
  marked f n s who event None Done c h is o a = marked_move f n s who event c h is a

  -- one step
  pub shows_step : (log : List LogLine) (h : List Mark) (s : State T J) (step : Step) (r : Report) → IsReport s step.who step.event r → Shows log h s → Shows (Stepped step r ∷ log) (marks s step.who step.event r h) (after s step.who step.event r.outcome)
  shows_step log h s step r is w =
      let who = step.who in
      let a = w.places who in
      let f = flight log who in
      let n = guards log who in
      let t = turning f n s who step.event (fault s who step.event) r.outcome refl is.outcome a in
      record {
        history = marked f n s who step.event (fault s who step.event) r.outcome r.called h refl is.outcome a ∙ ap (λ g. unless_refused r.outcome (event_marks who step.event r.called f n g) g) w.history;
        places = λ q. elim (cases_eq q who) [
          | inl same ↦ rw (same, eq-eqb who who refl) t.own
          | inr ne ↦ rw (ne_eqb who q (λ e. ne (sym e)), t.others q ne) (w.places q)
        ];
      }

  -- a run
  pub shows_run : (log : List LogLine) (h : List Mark) (s : State T J) (steps : List Step) (reports : List Report) → AreReports s steps reports → Shows log h s
      → Shows (log_after steps reports log) (history_after s steps reports h) (state_after s steps reports)
  shows_run log h s [] [] are w = w
  shows_run log h s [] (r ∷ reports) are w = absurd are
  shows_run log h s (step ∷ steps) [] are w = w
  shows_run log h s (step ∷ steps) (r ∷ reports) are w =
      shows_run (Stepped step r ∷ log) (marks s step.who step.event r h) (after s step.who step.event r.outcome) steps reports are.1 (shows_step log h s step r are.0 w)

  -- an empty log shows an empty history, and a new collector
  pub shows_opened : (limits : Limits) (roots : ℕ) → Shows {T = T} {J = J} [] [] (opened limits roots)
  shows_opened limits roots = record { history = refl; places = λ q. rw (blank_at limits.participants q) (record { count = refl; pinned = refl; phase = refl }) }

  -- the same of a history of moments
  moments_marks : (names : T → List Name) (h : List Moment) (s : State T J) (steps : List Step) (reports : List Report) → marks_of (moments_after names s steps reports h) ≡ history_after s steps reports (marks_of h)
  moments_marks names h s [] reports = refl
  moments_marks names h s (step ∷ steps) [] = refl
  moments_marks names h s (step ∷ steps) (r ∷ reports) =
      let s' = after s step.who step.event r.outcome in
      moments_marks names (moment names (step_act s step.who step.event r) s' ∷ h) s' steps reports ∙ ap (λ g. history_after s' steps reports g) (marks_act s step.who step.event r (marks_of h))

  -- the log after a run shows the marks of its moments, and the state after it
  pub shows_moments : (names : T → List Name) (log : List LogLine) (h : List Moment) (s : State T J) (steps : List Step) (reports : List Report) → AreReports s steps reports → Shows log (marks_of h) s
      → Shows (log_after steps reports log) (marks_of (moments_after names s steps reports h)) (state_after s steps reports)
  shows_moments names log h s steps reports are w =
      subst (λ g. Shows (log_after steps reports log) g (state_after s steps reports)) (sym (moments_marks names h s steps reports)) (shows_run log (marks_of h) s steps reports are w)

  -- one place is written, whose pin and call stay
  stays_at : (log : List LogLine) (s s' : State T J) (who : ℕ) (p : Participant J) → s'.table ≡ slice_set s.table who p → AgreesAt (flight log who) (guards log who) p → ((q : ℕ) → AgreesAt (flight log q) (guards log q) (place s q))
      → (q : ℕ) → AgreesAt (flight log q) (guards log q) (place s' q)
  stays_at log s s' who p e a all q = elim (cases_eq q who) [
    | inl same ↦ elim (cases_lt who (length s.table)) [
      | inl lt ↦ rw (same, put_at s s' who p lt e) a
      | inr ge ↦ subst (λ (t : List (Participant J)). AgreesAt (flight log q) (guards log q) (slice_index_or t q blank)) (sym (e ∙ set_past s.table who p ge)) (all q)
    ]
    | inr ne ↦ rw (put_off s s' who p q e ne) (all q)
  ]

  -- the log shows the state after a registration
  pub shows_registered : (log : List LogLine) (h : List Mark) (s : State T J) (n : ℕ) → Shows log h s → Shows log h (registered s n)
  shows_registered log h s n w =
      let a = w.places n in
      record { history = w.history; places = stays_at log s (registered s n) n (record (place s n) { registered = true; pins = 0 }) refl (record { count = a.count; pinned = a.pinned; phase = a.phase }) w.places }

  by_full : (log : List LogLine) (h : List Mark) (s : State T J) (who : ℕ) (work : Work J) (b : Bool) → Shows log h s → Shows (Accepted s.next (name_of work) ∷ log) (Deferred s.next (name_of work) ∷ h) (if b then deferred_anew s who work else deferred s who work)
  by_full log h s who work true w =
      let a = w.places who in
      record {
        history = ap (λ g. Deferred s.next (name_of work) ∷ g) w.history;
        places = stays_at log s (deferred_anew s who work) who (record (place s who) { bag = record { ticket = s.next; work = work } ∷ [] }) refl (record { count = a.count; pinned = a.pinned; phase = a.phase }) w.places;
      }
  by_full log h s who work false w =
      let a = w.places who in
      record {
        history = ap (λ g. Deferred s.next (name_of work) ∷ g) w.history;
        places = stays_at log s (deferred s who work) who (record (place s who) { bag = (place s who).bag ++ record { ticket = s.next; work = work } ∷ [] }) refl (record { count = a.count; pinned = a.pinned; phase = a.phase }) w.places;
      }

  -- the log with an accepted job shows its deferral, and the state after it
  pub shows_deferred : (log : List LogLine) (h : List Mark) (s : State T J) (who : ℕ) (work : Work J) → Shows log h s → Shows (Accepted s.next (name_of work) ∷ log) (Deferred s.next (name_of work) ∷ h) (after_deferral s who work)
  shows_deferred log h s who work w = by_full log h s who work (length (place s who).bag == 64) w

  -- the log shows the state after its cells changed
  pub shows_stored : (log : List LogLine) (h : List Mark) (s : State T J) (st : Store T) → Shows log h s → Shows log h (with_store s st)
  shows_stored log h s st w = record { history = w.history; places = w.places }

  -- the log shows the state after its roots changed
  pub shows_rooted : (log : List LogLine) (h : List Mark) (s : State T J) (roots : List Ptr) → Shows log h s → Shows log h (with_roots s roots)
  shows_rooted log h s roots w = record { history = w.history; places = w.places }

  -- what the log tells
  pub log_graceful : (log : List LogLine) (h : List Mark) (s : State T J) → Shows log h s → Fits h s → IsGraceful (history_of log)
  log_graceful log h s w f = subst (λ g. IsGraceful g) w.history (undated_graceful h f.graceful)

  -- by the log, only removals that were accepted destroy a cell
  pub log_later : (log : List LogLine) (h : List Mark) (s : State T J) → Shows log h s → Fits h s → AreCalledLater (history_of log)
  log_later log h s w f = subst (λ g. AreCalledLater g) w.history (undated_later h f.later)

  -- by the log, each job below the next ticket was accepted once, and stands in one bag or was called once
  pub log_once : (log : List LogLine) (h : List Mark) (s : State T J) (t : ℕ) → Shows log h s → Fits h s
      → (times_held s t + times_called (history_of log) t ≡ deferrals (history_of log) t) × (deferrals (history_of log) t ≡ (if nat_lt t s.next then 1 else 0))
  log_once log h s t w f =
      let called : times_called (history_of log) t ≡ times_called h t = sym (ap (λ g. times_called g t) w.history) ∙ undated_calls h t in
      let given : deferrals (history_of log) t ≡ deferrals h t = sym (ap (λ g. deferrals g t) w.history) ∙ undated_deferrals h t in
      (ap (λ n. times_held s t + n) called ∙ f.once.each t ∙ sym given, given ∙ f.once.tickets t)

  -- by the log, a participant is pinned, and has a stretch, just where some of its guards are out
  pub log_pinned : (log : List LogLine) (h : List Mark) (s : State T J) (q : ℕ) → Shows log h s → Fits h s
      → (is_some (place s q).word ≡ nat_lt 0 (guards log q)) × (is_some (began (history_of log) q) ≡ nat_lt 0 (guards log q))
  log_pinned log h s q w f =
      let a = w.places q in
      (a.pinned, sym (ap (λ g. is_some (began g q)) w.history) ∙ undated_began h q ∙ bounds_some (began h q) (place s q).word s.epoch (f.places q).bounds ∙ a.pinned)

  -- by the log, what was in reach in the stretch of a participant with guards isn't destroyed
  pub log_stands : (names : T → List Name) (log : List LogLine) (h : List Moment) (s : State T J) (p : ℕ) (n : Name) → Shows log (marks_of h) s → HasMoments names h s → IsCareful h → 0 < guards log p → Visible h p n → is_some (value_at s.store n) ≡ true
  log_stands names log h s p n w t u out seen =
      let a = w.places p in
      let some : nat_lt 0 (guards log p) ≡ true = grind (arith, nat_tests) in
      seen_stands names h s p n t u (bounds_some (began (marks_of h) p) (place s p).word s.epoch (t.fits.places p).bounds ∙ a.pinned ∙ some) seen
