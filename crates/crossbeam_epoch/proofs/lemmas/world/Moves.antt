-- Each atomic step keeps what ties a history to its state.
use Rattle.std.proofs.Common.{◌≡◌, ℕ, suc, ◌+◌, ◌<◌, ◌≤◌, Bool, true, false, List, [], ◌∷◌, ◌++◌, ◌==◌, Option, Some, None, refl, sym, ◌∙◌, ap, subst, inl, inr, length, arith}
use Rattle.std.specs.Prelude.{slice_index_or, if◌then◌else◌, nat_lt, ◌&&◌, drop}
use Rattle.std.specs.List.{Contains, sum_by}
use Rattle.std.proofs.lemmas.Bool.{cases_eq, eq-eqb, cases_lt}
use Rattle.std.proofs.lemmas.Bool.Decides.{nat_tests}
use Rattle.std.proofs.lemmas.List.{get_or_past}
use Rattle.std.proofs.lemmas.List.Sums.{sum_by-append}
use Rattle.std.proofs.lemmas.List.Elements.{Contains-push_cases, Contains-get_or}
use Rattle.crossbeam_epoch.specs.declared.bag.Deferral.{Deferral}
use Rattle.crossbeam_epoch.specs.declared.world.participant.Participant.{Participant}
use Rattle.crossbeam_epoch.specs.declared.bag.Sealed.{Sealed}
use Rattle.crossbeam_epoch.specs.declared.world.participant.Phase.{Phase}
use Rattle.crossbeam_epoch.specs.declared.world.participant.Phase.TheVariants.{Idle, Look, Publish, RepinLook, RepinPublish, Seal, Queue, ReleaseSeal, ReleaseQueue, Secure, SecureSeal, SecureQueue, Load, Inspect, Advance, Take, Call}
use Rattle.crossbeam_epoch.specs.world.History.{Mark, Pinned, Repinned, Unpinned, began, times_called, deferrals}
use Rattle.crossbeam_epoch.specs.Chain.{room_behind, room_left}
use Rattle.crossbeam_epoch.specs.world.Machine.{State, place, blank, with_place, in_phase, published, is_at, relooked, repinned, secured, has_free, advanced, queued, released, ends_advance, inspected, is_due, no_bag, taken, took}
use Rattle.crossbeam_epoch.specs.world.Fits.{Fits, FitsAt, InPhase, IsSealed, IsCollecting, AreAccepted, Bounds, Began, Once, HandFits, at_place, in_bag, has_ticket, one}
use Rattle.crossbeam_epoch.proofs.lemmas.world.Marks.{Goes, goes_none, goes_pinned, goes_repinned, goes_unpinned}
use Rattle.crossbeam_epoch.proofs.lemmas.world.Grace.{bounds_later, bounds_top, accepted_goes, sealed_goes, Carries, fits_put, fits_room}

bounds_none : (b : Option ℕ) (n : ℕ) → Bounds b None n → b ≡ None
bounds_none None n o = refl
bounds_none (Some b) n o = absurd o

bounds_some : (b w : Option ℕ) (n x : ℕ) → Bounds b w n → w ≡ Some x → (e : ℕ) × (b ≡ Some e) × (x ≤ e)
bounds_some None None n x o is = absurd (cc is)
bounds_some (Some b) (Some w) n x o is = (b, refl, let same : w ≡ x = cc is in omega arith)
bounds_some None (Some w) n x o is = absurd o
bounds_some (Some b) None n x o is = absurd o

began_itself : (h : List Mark) (who epoch : ℕ) → began (Pinned who epoch ∷ h) who ≡ Some epoch
began_itself h who epoch = rw (eq-eqb who who refl)

began_again : (h : List Mark) (who epoch : ℕ) → began (Repinned who epoch ∷ h) who ≡ Some epoch
began_again h who epoch = rw (eq-eqb who who refl)

ended_itself : (h : List Mark) (who : ℕ) → began (Unpinned who ∷ h) who ≡ None
ended_itself h who = rw (eq-eqb who who refl)

-- nothing is in an empty list
pub none_in : {A : Type 0} (x : A) → Contains [] x → ⊥
none_in x m = let lt : m.0 < 0 = m.1 in omega arith

-- what is in a list is in one with something more in front
pub contains_tail : {A : Type 0} (x : A) (xs : List A) (y : A) → Contains xs y → Contains (x ∷ xs) y
contains_tail x xs y m = (suc m.0, let lt = m.1 in omega arith, m.2)

-- who isn't in the way
passes : (w : Option ℕ) (seen x : ℕ) → ends_advance w seen ≡ false → w ≡ Some x → x ≡ seen
passes None seen x p is = absurd (cc is)
passes (Some w) seen x p is = let same : w ≡ x = cc is in grind (arith, nat_tests)

at_word : (epoch seen e : ℕ) (w : Option ℕ) → Bounds (Some e) w epoch → ends_advance w seen ≡ false → seen ≤ e
at_word epoch seen e None o p = absurd o
at_word epoch seen e (Some x) o p = let same : x ≡ seen = passes (Some x) seen x p refl in let le = o.0 in omega arith

-- where both_left of two tests hold, the first does
pub both_left : (a b : Bool) → (a && b) ≡ true → a ≡ true
both_left true b e = refl
both_left false b e = e

module _ {J : Type 0} where
  -- without a job in hand
  pub none_in_hand : (phase : Phase) (hand : List (Deferral J)) → hand ≡ [] → HandFits phase hand
  none_in_hand Idle hand e = e
  none_in_hand Look hand e = e
  none_in_hand (Publish seen) hand e = e
  none_in_hand RepinLook hand e = e
  none_in_hand (RepinPublish seen) hand e = e
  none_in_hand Seal hand e = e
  none_in_hand (Queue seal) hand e = e
  none_in_hand ReleaseSeal hand e = e
  none_in_hand (ReleaseQueue seal) hand e = e
  none_in_hand (Secure n) hand e = e
  none_in_hand SecureSeal hand e = e
  none_in_hand (SecureQueue seal) hand e = e
  none_in_hand Load hand e = e
  none_in_hand (Inspect seen at) hand e = e
  none_in_hand (Advance seen) hand e = e
  none_in_hand (Take answered bags) hand e = e
  none_in_hand (Call answered bags seal) hand e = tt

  -- the jobs of an empty bag are all accepted
  pub none_accepted : (h : List Mark) (next : ℕ) → AreAccepted {J = J} h next []
  none_accepted h next = record { below = λ e m. absurd (none_in e m); named = λ e n m is. absurd (none_in e m) }

  by_first : (h : List Mark) (epoch next places who : ℕ) (bag hand : List (Deferral J)) (first : Bool) → InPhase (Pinned who epoch ∷ h) epoch next places who bag hand (if first then Load else Idle)
  by_first h epoch next places who bag hand true = (epoch, began_itself h who epoch)
  by_first h epoch next places who bag hand false = tt

  -- a queue of sealed bags is one with another sealed bag behind
  pub queue_push : (h : List Mark) (next : ℕ) (queue : List (Sealed J)) (b : Sealed J) → ((c : Sealed J) → Contains queue c → IsSealed h next c.jobs c.seal) → IsSealed h next b.jobs b.seal
      → (c : Sealed J) → Contains (queue ++ b ∷ []) c → IsSealed h next c.jobs c.seal
  queue_push h next queue b all one c m = elim (Contains-push_cases queue b c m) [
    | inl old ↦ all c old
    | inr is ↦ subst (λ (d : Sealed J). IsSealed h next d.jobs d.seal) is one
  ]

  -- what is behind the first bag is in the queue
  pub contains_drop : (xs : List (Sealed J)) (y : Sealed J) → Contains (drop 1 xs) y → Contains xs y
  contains_drop [] y m = m
  contains_drop (x ∷ xs) y m = contains_tail x xs y m

  -- the first bag of a queue and the others make up its sum
  pub front_bag : (f : Sealed J → ℕ) (queue : List (Sealed J)) → 0 < length queue → sum_by f queue ≡ f (slice_index_or queue 0 no_bag) + sum_by f (drop 1 queue)
  front_bag f [] lt = absurd (omega arith)
  front_bag f (b ∷ rest) lt = omega (arith, sum_by-append f (b ∷ []) rest)

module _ {T J : Type 0} where
  -- each stretch began at most one epoch ago
  pub top_now : (h : List Mark) (s : State T J) (q e : ℕ) → Fits h s → began h q ≡ Some e → (e ≤ s.epoch) × (s.epoch ≤ e + 1)
  top_now h s q e f is = bounds_top (began h q) (place s q).word s.epoch e (f.places q).bounds is

  -- after a step the epoch is at most one past the beginning of each stretch
  pub top_goes : (h h' : List Mark) (s : State T J) (who : ℕ) → Fits h s → Goes h s.epoch s.next who h' → (q e : ℕ) → began h' q ≡ Some e → s.epoch ≤ e + 1
  top_goes h h' s who f g q e is = elim (g.begun q e is) [ inl o ↦ (top_now h s q e f o).1 | inr o ↦ omega arith ]

  -- after a step each bag of the queue is sealed as it was
  pub queue_goes : (h h' : List Mark) (s : State T J) (who next' : ℕ) → Fits h s → Goes h s.epoch s.next who h' → s.next ≤ next' → (b : Sealed J) → Contains s.queue b → IsSealed h' next' b.jobs b.seal
  queue_goes h h' s who next' f g le b m = sealed_goes h h' s.epoch s.next next' who b.seal b.jobs (f.queued b m) g le

  -- a participant without a word has no stretch
  pub unpinned_now : (h : List Mark) (s : State T J) (who : ℕ) → Fits h s → (place s who).word ≡ None → began h who ≡ None
  unpinned_now h s who f is = bounds_none (began h who) s.epoch (rw is at (f.places who).bounds)

  -- a participant with a word has a stretch
  pub pinned_now : (h : List Mark) (s : State T J) (who x : ℕ) → Fits h s → (place s who).word ≡ Some x → Began (began h who)
  pinned_now h s who x f is = let b = bounds_some (began h who) (place s who).word s.epoch x (f.places who).bounds is in (b.0, b.1)

  -- a bag that is sealed now
  pub sealed_now : (h : List Mark) (s : State T J) (who : ℕ) → Fits h s → IsSealed h s.next (place s who).bag s.epoch
  sealed_now h s who f = record { accepted = (f.places who).accepted; late = λ e q b m on n. (top_now h s q b f n).0 }

  -- the jobs of the actor stay where they are
  carries_stay : (h h' : List Mark) (s : State T J) (who : ℕ) (p : Participant J) → Once h s
      → ((t : ℕ) → times_called h' t ≡ times_called h t) → ((t : ℕ) → deferrals h' t ≡ deferrals h t) → p.bag ≡ (place s who).bag → p.hand ≡ (place s who).hand
      → Carries h h' s who p s.queue s.next s.waiting
  carries_stay h h' s who p o c d bag hand = record {
    each = λ t. let e = c t in let f = d t in let g : at_place (has_ticket t) p ≡ at_place (has_ticket t) (place s who) = rw (bag, hand) in omega arith;
    tickets = λ t. d t ∙ o.tickets t;
    count = let g : at_place one p ≡ at_place one (place s who) = rw (bag, hand) in omega arith;
  }

  -- the jobs of the actor move between its place and the queue
  carries_move : (h : List Mark) (s : State T J) (who : ℕ) (p : Participant J) (queue' : List (Sealed J)) → Once h s
      → ((f : Deferral J → ℕ) → at_place f p + sum_by (in_bag f) queue' ≡ at_place f (place s who) + sum_by (in_bag f) s.queue)
      → Carries h h s who p queue' s.next s.waiting
  carries_move h s who p queue' o moves = record {
    each = λ t. let e = moves (has_ticket t) in omega arith;
    tickets = o.tickets;
    count = let e = moves one in omega arith;
  }

  -- only the actor's place changes, and nothing is marked
  pub fits_stay : (h : List Mark) (s : State T J) (who : ℕ) (p : Participant J) → who < length s.table → Fits h s → FitsAt h s.epoch s.next (length s.table) who p
      → p.bag ≡ (place s who).bag → p.hand ≡ (place s who).hand → Fits h (with_place s who p)
  fits_stay h s who p in_table f own bag hand =
      fits_put h h s who p s.epoch s.next s.waiting s.queue s.store in_table f (goes_none h s.epoch s.next who) f.graceful f.later (omega arith) (omega arith)
      (λ q e is. (top_now h s q e f is).1) own f.queued (carries_stay h h s who p f.once (λ t. refl) (λ t. refl) bag hand)

  -- the actor goes on to another phase
  pub fits_phase : (h : List Mark) (s : State T J) (who : ℕ) (phase : Phase) → who < length s.table → Fits h s → (place s who).hand ≡ []
      → InPhase h s.epoch s.next (length s.table) who (place s who).bag (place s who).hand phase
      → Fits h (in_phase s who phase)
  fits_phase h s who phase in_table f none i =
      fits_stay h s who (record (place s who) { phase = phase }) in_table f
      (record { bounds = (f.places who).bounds; phase = i; accepted = (f.places who).accepted; spare = none_in_hand phase (place s who).hand none }) refl refl

  -- the history fits where a call with no job in hand ends
  pub fits_idle : (h : List Mark) (s : State T J) (who : ℕ) → who < length s.table → (place s who).hand ≡ [] → Fits h s → Fits h (in_phase s who Idle)
  fits_idle h s who in_table none f = fits_phase h s who Idle in_table f none tt

  -- one guard more or less, but not the first or the last
  pub fits_guards : (h : List Mark) (s : State T J) (who guards : ℕ) → who < length s.table → Fits h s → Fits h (with_place s who (record (place s who) { guards = guards }))
  fits_guards h s who guards in_table f =
      let at = f.places who in
      fits_stay h s who (record (place s who) { guards = guards }) in_table f (record { bounds = at.bounds; phase = at.phase; accepted = at.accepted; spare = at.spare }) refl refl

  -- steps that make no mark

  -- the history fits after a pin has read the epoch
  pub fits_look : (h : List Mark) (s : State T J) (who : ℕ) → who < length s.table → (place s who).phase ≡ Look → Fits h s → Fits h (in_phase s who (Publish s.epoch))
  fits_look h s who in_table is f =
      let i = rw is at (f.places who).phase in
      fits_phase h s who (Publish s.epoch) in_table f (rw is at (f.places who).spare) (i, omega arith)

  by_same : (h : List Mark) (s : State T J) (who : ℕ) (same : Bool) → who < length s.table → (place s who).hand ≡ [] → Fits h s → Fits h (in_phase s who (if same then Idle else RepinPublish s.epoch))
  by_same h s who true in_table none f = fits_idle h s who in_table none f
  by_same h s who false in_table none f = fits_phase h s who (RepinPublish s.epoch) in_table f none (omega arith)

  -- the history fits after a repin has read the epoch
  pub fits_relooked : (h : List Mark) (s : State T J) (who : ℕ) → who < length s.table → (place s who).phase ≡ RepinLook → Fits h s → Fits h (with_place s who (relooked s.epoch (place s who)))
  fits_relooked h s who in_table is f = by_same h s who (is_at (place s who).word s.epoch) in_table (rw is at (f.places who).spare) f

  -- the history fits after a bag that is to be queued got the epoch as its seal
  pub fits_seal : (h : List Mark) (s : State T J) (who : ℕ) → who < length s.table → (place s who).phase ≡ Seal → Fits h s → Fits h (in_phase s who (Queue s.epoch))
  fits_seal h s who in_table is f =
      let i = rw is at (f.places who).phase in
      fits_phase h s who (Queue s.epoch) in_table f (rw is at (f.places who).spare) (i, sealed_now h s who f)

  -- the history fits after the bag of a participant that leaves got its seal
  pub fits_release_seal : (h : List Mark) (s : State T J) (who : ℕ) → who < length s.table → (place s who).phase ≡ ReleaseSeal → Fits h s → Fits h (in_phase s who (ReleaseQueue s.epoch))
  fits_release_seal h s who in_table is f =
      let i = rw is at (f.places who).phase in
      fits_phase h s who (ReleaseQueue s.epoch) in_table f (rw is at (f.places who).spare) (i, sealed_now h s who f)

  -- the history fits after the bag of a call that makes places free got its seal
  pub fits_secure_seal : (h : List Mark) (s : State T J) (who : ℕ) → who < length s.table → (place s who).phase ≡ SecureSeal → Fits h s → Fits h (in_phase s who (SecureQueue s.epoch))
  fits_secure_seal h s who in_table is f = fits_phase h s who (SecureQueue s.epoch) in_table f (rw is at (f.places who).spare) (sealed_now h s who f)

  by_free : (h : List Mark) (s : State T J) (who : ℕ) (free : Bool) → who < length s.table → (place s who).hand ≡ [] → Fits h s → Fits h (in_phase s who (if free then Idle else SecureSeal))
  by_free h s who true in_table none f = fits_idle h s who in_table none f
  by_free h s who false in_table none f = fits_phase h s who SecureSeal in_table f none tt

  -- the history fits after a call that makes places free has looked at its bag
  pub fits_secured : (h : List Mark) (s : State T J) (who n : ℕ) → who < length s.table → (place s who).phase ≡ Secure n → Fits h s → Fits h (with_place s who (secured n (place s who)))
  fits_secured h s who n in_table is f = by_free h s who (has_free (place s who).bag n) in_table (rw is at (f.places who).spare) f

  -- the history fits after a collection has read the epoch
  pub fits_load : (h : List Mark) (s : State T J) (who : ℕ) → who < length s.table → (place s who).phase ≡ Load → Fits h s → Fits h (in_phase s who (Inspect s.epoch 0))
  fits_load h s who in_table is f =
      let i = rw is at (f.places who).phase in
      fits_phase h s who (Inspect s.epoch 0) in_table f (rw is at (f.places who).spare) (record {
        past = omega arith;
        own = (i.0, i.1, (top_now h s who i.0 f i.1).0);
        others = λ q e lt n. absurd (omega arith);
      })

  collecting_more : (h : List Mark) (s : State T J) (who seen passed : ℕ) → Fits h s → IsCollecting h s.epoch who seen passed → ends_advance (place s passed).word seen ≡ false → IsCollecting h s.epoch who seen (passed + 1)
  collecting_more h s who seen passed f c pass = record {
    past = c.past;
    own = c.own;
    others = λ q e lt n. elim (cases_eq q passed) [
      | inl is ↦ at_word s.epoch seen e (place s passed).word (rw (ap (began h) (sym is) ∙ n) at (f.places passed).bounds) pass
      | inr ne ↦ c.others q e (omega arith) n
    ];
  }

  by_test : (h : List Mark) (s : State T J) (who seen at : ℕ) (ends more : Bool) → who < length s.table → (place s who).hand ≡ [] → Fits h s → IsCollecting h s.epoch who seen at
      → ends_advance (place s at).word seen ≡ ends → nat_lt (at + 1) (length s.table) ≡ more
      → Fits h (in_phase s who (if ends then Take seen 0 else if more then Inspect seen (at + 1) else Advance seen))
  by_test h s who seen at true more in_table none f c e m = fits_phase h s who (Take seen 0) in_table f none c.past
  by_test h s who seen at false true in_table none f c e m = fits_phase h s who (Inspect seen (at + 1)) in_table f none (collecting_more h s who seen at f c e)
  by_test h s who seen at false false in_table none f c e m =
      let one_more = collecting_more h s who seen at f c e in
      let all : length s.table ≤ at + 1 = grind (arith, nat_tests) in
      fits_phase h s who (Advance seen) in_table f none (record { past = one_more.past; own = one_more.own; others = λ q e' lt n. one_more.others q e' (omega arith) n })

  -- the history fits after a collection has looked at a place
  pub fits_inspected : (h : List Mark) (s : State T J) (who seen at : ℕ) → who < length s.table → (place s who).phase ≡ Inspect seen at → Fits h s → Fits h (inspected s who seen at)
  fits_inspected h s who seen at in_table is f =
      let i = rw is at (f.places who).phase in
      by_test h s who seen at (ends_advance (place s at).word seen) (nat_lt (at + 1) (length s.table)) in_table (rw is at (f.places who).spare) f i refl refl

  -- nobody began before what a whole collection read
  all_passed : (h : List Mark) (s : State T J) (who seen q e : ℕ) → Fits h s → IsCollecting h s.epoch who seen (length s.table) → began h q ≡ Some e → seen ≤ e
  all_passed h s who seen q e f c n = elim (cases_lt q (length s.table)) [
    | inl lt ↦ c.others q e lt n
    | inr ge ↦
        let none : began h q ≡ None = unpinned_now h s q f (ap (λ (p : Participant J). p.word) (get_or_past s.table q blank ge)) in
        absurd (cc (none, n))
  ]

  by_room : (h : List Mark) (s : State T J) (who seen : ℕ) (room : Bool) → who < length s.table → (place s who).hand ≡ [] → Fits h s → IsCollecting h s.epoch who seen (length s.table)
      → Fits h (if room then record (in_phase s who (Take (seen + 1) 0)) { epoch = seen + 1 } else in_phase s who (Take seen 0))
  by_room h s who seen false in_table none f c = fits_phase h s who (Take seen 0) in_table f none c.past
  by_room h s who seen true in_table none f c =
      let own = top_now h s who c.own.0 f c.own.1 in
      let under = c.own.2 in
      let past = c.past in
      let on : s.epoch ≤ seen + 1 = omega arith in
      let g = goes_none h s.epoch s.next who in
      let top : (q e : ℕ) → began h q ≡ Some e → seen + 1 ≤ e + 1 = λ q e n. let le = all_passed h s who seen q e f c n in omega arith in
      let p = record (place s who) { phase = Take (seen + 1) 0 } in
      fits_put h h s who p (seen + 1) s.next s.waiting s.queue s.store in_table f g f.graceful f.later on (omega arith) top
      (record { bounds = bounds_later (began h who) (place s who).word s.epoch (seen + 1) (f.places who).bounds on (top who); phase = omega arith; accepted = (f.places who).accepted; spare = none })
      f.queued (carries_stay h h s who p f.once (λ t. refl) (λ t. refl) refl refl)

  -- the history fits after a collection that passed all places has set the epoch
  pub fits_advanced : (h : List Mark) (s : State T J) (who seen : ℕ) → who < length s.table → (place s who).phase ≡ Advance seen → Fits h s → Fits h (advanced s who seen)
  fits_advanced h s who seen in_table is f =
      let i = rw is at (f.places who).phase in
      by_room h s who seen (nat_lt seen s.limits.epoch_max) in_table (rw is at (f.places who).spare) f i

  -- steps that begin or end a stretch

  -- a history with a pin fits after the pin has published
  pub fits_published : (h : List Mark) (s : State T J) (who seen : ℕ) → who < length s.table → (place s who).phase ≡ Publish seen → Fits h s → Fits (Pinned who s.epoch ∷ h) (with_place s who (published seen (place s who)))
  fits_published h s who seen in_table is f =
      let i = rw is at (f.places who).phase in
      let seen_past = i.1 in
      let old = place s who in
      let p = published seen old in
      let h' = Pinned who s.epoch ∷ h in
      let g = goes_pinned h s.epoch s.next who in
      let bounds : Bounds (began h' who) (Some seen) s.epoch = rw (began_itself h who s.epoch) (seen_past, omega arith, omega arith) in
      fits_put h h' s who p s.epoch s.next s.waiting s.queue s.store in_table f g f.graceful f.later (omega arith) (omega arith) (top_goes h h' s who f g)
      (record {
        bounds = bounds;
        phase = by_first h s.epoch s.next (length s.table) who old.bag old.hand (old.pins == 0);
        accepted = accepted_goes h h' s.epoch s.next s.next who old.bag (f.places who).accepted g (omega arith);
        spare = none_in_hand (if old.pins == 0 then Load else Idle) old.hand (rw is at (f.places who).spare);
      })
      (queue_goes h h' s who s.next f g (omega arith))
      (carries_stay h h' s who p f.once (λ t. refl) (λ t. refl) refl refl)

  -- a history with a repin fits after the repin has published
  pub fits_repinned : (h : List Mark) (s : State T J) (who seen : ℕ) → who < length s.table → (place s who).phase ≡ RepinPublish seen → Fits h s → Fits (Repinned who s.epoch ∷ h) (with_place s who (repinned seen (place s who)))
  fits_repinned h s who seen in_table is f =
      let seen_past : seen ≤ s.epoch = rw is at (f.places who).phase in
      let old = place s who in
      let p = repinned seen old in
      let h' = Repinned who s.epoch ∷ h in
      let g = goes_repinned h s.epoch s.next who in
      let bounds : Bounds (began h' who) (Some seen) s.epoch = rw (began_again h who s.epoch) (seen_past, omega arith, omega arith) in
      fits_put h h' s who p s.epoch s.next s.waiting s.queue s.store in_table f g f.graceful f.later (omega arith) (omega arith) (top_goes h h' s who f g)
      (record {
        bounds = bounds;
        phase = tt;
        accepted = accepted_goes h h' s.epoch s.next s.next who old.bag (f.places who).accepted g (omega arith);
        spare = rw is at (f.places who).spare;
      })
      (queue_goes h h' s who s.next f g (omega arith))
      (carries_stay h h' s who p f.once (λ t. refl) (λ t. refl) refl refl)

  -- a history with an unpin fits after the last guard has gone
  pub fits_unpinned : (h : List Mark) (s : State T J) (who : ℕ) → who < length s.table → (place s who).phase ≡ Idle → Fits h s → Fits (Unpinned who ∷ h) (with_place s who (record (place s who) { word = None; guards = 0 }))
  fits_unpinned h s who in_table is f =
      let old = place s who in
      let p = record old { word = None; guards = 0 } in
      let h' = Unpinned who ∷ h in
      let g = goes_unpinned h s.epoch s.next who in
      let bounds : Bounds (began h' who) None s.epoch = rw (ended_itself h who) tt in
      let phase : InPhase h' s.epoch s.next (length s.table) who old.bag old.hand old.phase = rw is tt in
      fits_put h h' s who p s.epoch s.next s.waiting s.queue s.store in_table f g f.graceful f.later (omega arith) (omega arith) (top_goes h h' s who f g)
      (record { bounds = bounds; phase = phase; accepted = accepted_goes h h' s.epoch s.next s.next who old.bag (f.places who).accepted g (omega arith); spare = (f.places who).spare })
      (queue_goes h h' s who s.next f g (omega arith))
      (carries_stay h h' s who p f.once (λ t. refl) (λ t. refl) refl refl)

  -- steps that move jobs

  -- the history fits after a sealed bag was queued
  pub fits_queued : (h : List Mark) (s : State T J) (who seal : ℕ) (phase : Phase) → who < length s.table → (place s who).hand ≡ [] → IsSealed h s.next (place s who).bag seal
      → InPhase h s.epoch s.next (length s.table) who [] (place s who).hand phase → Fits h s → Fits h (queued s who seal phase)
  fits_queued h s who seal phase in_table none sealed i f =
      let old = place s who in
      let p = record old { bag = []; phase = phase } in
      let b : Sealed J = record { seal = seal; jobs = old.bag } in
      let g = goes_none h s.epoch s.next who in
      fits_room h _ (room_behind s.room) (
      fits_put h h s who p s.epoch s.next s.waiting (s.queue ++ b ∷ []) s.store in_table f g f.graceful f.later (omega arith) (omega arith) (top_goes h h s who f g)
      (record { bounds = (f.places who).bounds; phase = i; accepted = none_accepted h s.next; spare = none_in_hand phase old.hand none })
      (queue_push h s.next s.queue b f.queued sealed)
      (carries_move h s who p (s.queue ++ b ∷ []) f.once (λ w. omega (arith, sum_by-append (in_bag w) s.queue (b ∷ [])))))

  -- the history fits after a participant's sealed bag was queued, and it left
  pub fits_left : (h : List Mark) (s : State T J) (who seal : ℕ) → who < length s.table → (place s who).hand ≡ [] → began h who ≡ None → IsSealed h s.next (place s who).bag seal → Fits h s → Fits h (released s who seal)
  fits_left h s who seal in_table none ended sealed f =
      let old = place s who in
      let b : Sealed J = record { seal = seal; jobs = old.bag } in
      let g = goes_none h s.epoch s.next who in
      fits_room h _ (room_behind s.room) (
      fits_put h h s who blank s.epoch s.next s.waiting (s.queue ++ b ∷ []) s.store in_table f g f.graceful f.later (omega arith) (omega arith) (top_goes h h s who f g)
      (record { bounds = rw ended tt; phase = tt; accepted = none_accepted h s.next; spare = refl })
      (queue_push h s.next s.queue b f.queued sealed)
      (carries_move h s who blank (s.queue ++ b ∷ []) f.once (λ w. let e : sum_by w old.hand ≡ 0 = ap (sum_by w) none in omega (arith, e, sum_by-append (in_bag w) s.queue (b ∷ [])))))

  -- a participant without jobs leaves
  pub fits_gone : (h : List Mark) (s : State T J) (who : ℕ) → who < length s.table → (place s who).hand ≡ [] → (place s who).bag ≡ [] → began h who ≡ None → Fits h s → Fits h (with_place s who blank)
  fits_gone h s who in_table none empty ended f =
      let old = place s who in
      fits_stay h s who blank in_table f (record { bounds = rw ended tt; phase = tt; accepted = none_accepted h s.next; spare = refl }) (sym empty) (sym none)

  due_front : (s : State T J) (answered : ℕ) → is_due s answered ≡ true → (0 < length s.queue) × ((slice_index_or s.queue 0 no_bag).seal + s.limits.expiry ≤ answered)
  due_front s answered due = (grind (arith, nat_tests), grind (arith, nat_tests))

  fits_taken : (h : List Mark) (s : State T J) (who answered bags : ℕ) → who < length s.table → (place s who).phase ≡ Take answered bags → is_due s answered ≡ true → Fits h s → Fits h (taken s who answered bags)
  fits_taken h s who answered bags in_table is due f =
      let past : answered ≤ s.epoch = rw is at (f.places who).phase in
      let none : (place s who).hand ≡ [] = rw is at (f.places who).spare in
      let b = slice_index_or s.queue 0 no_bag in
      let p = record (place s who) { hand = b.jobs; phase = Call answered (bags + 1) b.seal } in
      let front = due_front s answered due in
      let some = front.0 in
      let old = front.1 in
      let wait = f.wait in
      let g = goes_none h s.epoch s.next who in
      fits_room h _ (room_left (length (drop 1 s.queue)) s.room) (
      fits_put h h s who p s.epoch s.next s.waiting (drop 1 s.queue) s.store in_table f g f.graceful f.later (omega arith) (omega arith) (top_goes h h s who f g)
      (record { bounds = (f.places who).bounds; phase = (past, omega arith, f.queued b (Contains-get_or s.queue 0 no_bag some)); accepted = (f.places who).accepted; spare = tt })
      (λ c m. f.queued c (contains_drop s.queue c m))
      (carries_move h s who p (drop 1 s.queue) f.once (λ w.
      let rest = front_bag (in_bag w) s.queue some in
      let e : sum_by w (place s who).hand ≡ 0 = ap (sum_by w) none in
      omega arith)))

  by_due : (h : List Mark) (s : State T J) (who answered bags : ℕ) (due : Bool) → who < length s.table → (place s who).phase ≡ Take answered bags → (is_due s answered && nat_lt bags 8) ≡ due → Fits h s
      → Fits h (if due then taken s who answered bags else in_phase s who Idle)
  by_due h s who answered bags true in_table is due f = fits_taken h s who answered bags in_table is (both_left (is_due s answered) (nat_lt bags 8) due) f
  by_due h s who answered bags false in_table is due f = fits_idle h s who in_table (rw is at (f.places who).spare) f

  -- the history fits after a collection has taken the front bag, or ended
  pub fits_took : (h : List Mark) (s : State T J) (who answered bags : ℕ) → who < length s.table → (place s who).phase ≡ Take answered bags → Fits h s → Fits h (took s who answered bags)
  fits_took h s who answered bags in_table is f = by_due h s who answered bags (is_due s answered && nat_lt bags 8) in_table is refl f
