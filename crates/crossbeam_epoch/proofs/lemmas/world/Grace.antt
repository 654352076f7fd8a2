-- Whoever doesn't act goes along with a step.
use Rattle.std.proofs.Common.{◌≡◌, ℕ, ◌+◌, ◌<◌, ◌≤◌, ◌≢◌, List, Option, Some, None, refl, sym, ◌∙◌, subst, inl, inr, length, arith, get_or-set_same, get_or-set_other, length-set}
use Rattle.std.specs.Prelude.{slice_set, if◌then◌else◌, nat_lt}
use Rattle.std.specs.List.{Contains, sum_by}
use Rattle.std.proofs.lemmas.Bool.{cases_eq}
use Rattle.std.proofs.lemmas.List.Sums.{sum_by-set}
use Rattle.crossbeam_epoch.specs.declared.bag.Deferral.{Deferral}
use Rattle.crossbeam_epoch.specs.declared.world.participant.Participant.{Participant}
use Rattle.crossbeam_epoch.specs.declared.bag.Sealed.{Sealed}
use Rattle.crossbeam_epoch.specs.declared.world.participant.Phase.{Phase}
use Rattle.crossbeam_epoch.specs.declared.world.participant.Phase.TheVariants.{Idle, Look, Publish, RepinLook, RepinPublish, Seal, Queue, ReleaseSeal, ReleaseQueue, Secure, SecureSeal, SecureQueue, Load, Inspect, Advance, Take, Call}
use Rattle.crossbeam_epoch.specs.world.History.{Mark, began, times_called, deferrals, IsGraceful, AreCalledLater}
use Rattle.crossbeam_epoch.specs.world.Machine.{State, place, blank}
use Rattle.crossbeam_epoch.specs.world.Store.{Store}
use Rattle.crossbeam_epoch.specs.world.Fits.{Fits, FitsAt, InPhase, IsSealed, IsCollecting, Bounds, AreAccepted, Once, at_place, in_bag, has_ticket, one}
use Rattle.crossbeam_epoch.proofs.lemmas.world.Marks.{Goes}

-- word and stretch keep their bounds at a later epoch, by one past the stretch's beginning at most
pub bounds_later : (b w : Option ℕ) (n m : ℕ) → Bounds b w n → n ≤ m → ((e : ℕ) → b ≡ Some e → m ≤ e + 1) → Bounds b w m
bounds_later None None n m o le top = tt
bounds_later (Some b) (Some w) n m o le top = let t = top b refl in (o.0, omega arith, t)
bounds_later None (Some w) n m o le top = o
bounds_later (Some b) None n m o le top = o

-- a stretch began at most one epoch ago
pub bounds_top : (b w : Option ℕ) (n e : ℕ) → Bounds b w n → b ≡ Some e → (e ≤ n) × (n ≤ e + 1)
bounds_top None None n e o is = absurd (cc is)
bounds_top (Some b) (Some w) n e o is = let same : b ≡ e = cc is in (omega arith, omega arith)
bounds_top None (Some w) n e o is = absurd o
bounds_top (Some b) None n e o is = absurd o

collecting_goes : (h h' : List Mark) (epoch epoch' next who p seen passed : ℕ) → IsCollecting h epoch p seen passed → Goes h epoch next who h' → p ≢ who → epoch ≤ epoch' → IsCollecting h' epoch' p seen passed
collecting_goes h h' epoch epoch' next who p seen passed c g ne le = record {
  past = let past = c.past in omega arith;
  own = (c.own.0, g.same p ne ∙ c.own.1, c.own.2);
  others = λ q e lt n. elim (g.begun q e n) [ inl o ↦ c.others q e lt o | inr o ↦ let past = c.past in omega arith ];
}

module _ {J : Type 0} where
  -- jobs that were accepted stay so where the history goes on
  pub accepted_goes : (h h' : List Mark) (epoch next next' who : ℕ) (jobs : List (Deferral J)) → AreAccepted h next jobs → Goes h epoch next who h' → next ≤ next' → AreAccepted h' next' jobs
  accepted_goes h h' epoch next next' who jobs a g le = record {
    below = λ e m. let lt = a.below e m in omega arith;
    named = λ e n m is. g.deferred e.ticket n (a.named e n m is);
  }

  -- a bag that was sealed stays so where the history goes on
  pub sealed_goes : (h h' : List Mark) (epoch next next' who seal : ℕ) (jobs : List (Deferral J)) → IsSealed h next jobs seal → Goes h epoch next who h' → next ≤ next' → IsSealed h' next' jobs seal
  sealed_goes h h' epoch next next' who seal jobs s g le = record {
    accepted = accepted_goes h h' epoch next next' who jobs s.accepted g le;
    late = λ e q b m on n.
        let w = g.blocked q e.ticket (s.accepted.below e m) on in
        s.late e q b m w.0 (sym w.1 ∙ n);
  }

  phase_goes : (h h' : List Mark) (epoch epoch' next next' places who p : ℕ) (bag hand : List (Deferral J)) (phase : Phase) → InPhase h epoch next places p bag hand phase → Goes h epoch next who h' → p ≢ who → epoch ≤ epoch' → next ≤ next' → InPhase h' epoch' next' places p bag hand phase
  phase_goes h h' epoch epoch' next next' places who p bag hand Idle i g ne le more = tt
  phase_goes h h' epoch epoch' next next' places who p bag hand Look i g ne le more = g.same p ne ∙ i
  phase_goes h h' epoch epoch' next next' places who p bag hand (Publish seen) i g ne le more = (g.same p ne ∙ i.0, let past = i.1 in omega arith)
  phase_goes h h' epoch epoch' next next' places who p bag hand RepinLook i g ne le more = tt
  phase_goes h h' epoch epoch' next next' places who p bag hand (RepinPublish seen) i g ne le more = let past : seen ≤ epoch = i in omega arith
  phase_goes h h' epoch epoch' next next' places who p bag hand Seal i g ne le more = (i.0, g.same p ne ∙ i.1)
  phase_goes h h' epoch epoch' next next' places who p bag hand (Queue seal) i g ne le more = ((i.0.0, g.same p ne ∙ i.0.1), sealed_goes h h' epoch next next' who seal bag i.1 g more)
  phase_goes h h' epoch epoch' next next' places who p bag hand ReleaseSeal i g ne le more = g.same p ne ∙ i
  phase_goes h h' epoch epoch' next next' places who p bag hand (ReleaseQueue seal) i g ne le more = (g.same p ne ∙ i.0, sealed_goes h h' epoch next next' who seal bag i.1 g more)
  phase_goes h h' epoch epoch' next next' places who p bag hand (Secure n) i g ne le more = tt
  phase_goes h h' epoch epoch' next next' places who p bag hand SecureSeal i g ne le more = tt
  phase_goes h h' epoch epoch' next next' places who p bag hand (SecureQueue seal) i g ne le more = sealed_goes h h' epoch next next' who seal bag i g more
  phase_goes h h' epoch epoch' next next' places who p bag hand Load i g ne le more = (i.0, g.same p ne ∙ i.1)
  phase_goes h h' epoch epoch' next next' places who p bag hand (Inspect seen passed) i g ne le more = collecting_goes h h' epoch epoch' next who p seen passed i g ne le
  phase_goes h h' epoch epoch' next next' places who p bag hand (Advance seen) i g ne le more = collecting_goes h h' epoch epoch' next who p seen places i g ne le
  phase_goes h h' epoch epoch' next next' places who p bag hand (Take answered bags) i g ne le more = let past : answered ≤ epoch = i in omega arith
  phase_goes h h' epoch epoch' next next' places who p bag hand (Call answered bags seal) i g ne le more = (let past = i.0 in omega arith, i.1, sealed_goes h h' epoch next next' who seal hand i.2 g more)

  -- another's place goes along
  at_goes : (h h' : List Mark) (epoch epoch' next next' places who q : ℕ) (p : Participant J) → FitsAt h epoch next places q p → Goes h epoch next who h' → q ≢ who → epoch ≤ epoch' → next ≤ next' → ((e : ℕ) → began h' q ≡ Some e → epoch' ≤ e + 1) → FitsAt h' epoch' next' places q p
  at_goes h h' epoch epoch' next next' places who q p f g ne le more top = record {
    bounds = bounds_later (began h' q) p.word epoch epoch' (subst (λ b. Bounds b p.word epoch) (sym (g.same q ne)) f.bounds) le top;
    phase = phase_goes h h' epoch epoch' next next' places who q p.bag p.hand p.phase f.phase g ne le more;
    accepted = accepted_goes h h' epoch next next' who p.bag f.accepted g more;
    spare = f.spare;
  }

-- the actor's jobs move, and what comes in or goes out is marked
pub record Carries {T J : Type 0} (h h' : List Mark) (s : State T J) (who : ℕ) (p : Participant J) (queue' : List (Sealed J)) (next' waiting' : ℕ) : Type 0 where
  pub each : (t : ℕ) → (at_place (has_ticket t) p + sum_by (in_bag (has_ticket t)) queue') + (times_called h' t + deferrals h t) ≡ (at_place (has_ticket t) (place s who) + sum_by (in_bag (has_ticket t)) s.queue) + (times_called h t + deferrals h' t)
  pub tickets : (t : ℕ) → deferrals h' t ≡ (if nat_lt t next' then 1 else 0)
  pub count : (at_place one p + sum_by (in_bag one) queue') + s.waiting ≡ (at_place one (place s who) + sum_by (in_bag one) s.queue) + waiting'

module _ {T J : Type 0} where
  once_put : (h h' : List Mark) (s : State T J) (who : ℕ) (p : Participant J) (epoch' next' waiting' : ℕ) (queue' : List (Sealed J)) (store' : Store T)
      → who < length s.table → Once h s → Carries h h' s who p queue' next' waiting'
      → Once h' (record s { epoch = epoch'; next = next'; waiting = waiting'; store = store'; queue = queue'; table = slice_set s.table who p })
  once_put h h' s who p epoch' next' waiting' queue' store' lt o c = record {
    each = λ t.
        let all = o.each t in
        let set = sum_by-set (at_place (has_ticket t)) s.table who p blank lt in
        let move = c.each t in
        omega arith;
    tickets = c.tickets;
    count =
        let all = o.count in
        let set = sum_by-set (at_place one) s.table who p blank lt in
        let move = c.count in
        omega arith;
  }

  -- one participant acts, and the others go along
  pub fits_put : (h h' : List Mark) (s : State T J) (who : ℕ) (p : Participant J) (epoch' next' waiting' : ℕ) (queue' : List (Sealed J)) (store' : Store T)
      → who < length s.table → Fits h s → Goes h s.epoch s.next who h' → IsGraceful h' → AreCalledLater h' → s.epoch ≤ epoch' → s.next ≤ next'
      → ((q e : ℕ) → began h' q ≡ Some e → epoch' ≤ e + 1)
      → FitsAt h' epoch' next' (length s.table) who p
      → ((b : Sealed J) → Contains queue' b → IsSealed h' next' b.jobs b.seal)
      → Carries h h' s who p queue' next' waiting'
      → Fits h' (record s { epoch = epoch'; next = next'; waiting = waiting'; store = store'; queue = queue'; table = slice_set s.table who p })
  fits_put h h' s who p epoch' next' waiting' queue' store' in_table f g graceful later le more top own bags carries = record {
    graceful = graceful;
    later = later;
    wait = f.wait;
    places = λ q. elim (cases_eq q who) [
      | inl is ↦ rw (length-set, is, get_or-set_same s.table who p blank in_table) own
      | inr ne ↦ rw (length-set, get_or-set_other s.table who q p blank ne) (at_goes h h' s.epoch epoch' s.next next' (length s.table) who q (place s q) (f.places q) g ne le more (top q))
    ];
    queued = bags;
    once = once_put h h' s who p epoch' next' waiting' queue' store' in_table f.once carries;
  }

  -- how much room the queue has is nothing to the history
  pub fits_room : (h : List Mark) (s : State T J) (room : ℕ) → Fits h s → Fits h (record s { room = room })
  fits_room h s room f = record { graceful = f.graceful; later = f.later; wait = f.wait; places = f.places; queued = f.queued; once = record { each = f.once.each; tickets = f.once.tickets; count = f.once.count } }
