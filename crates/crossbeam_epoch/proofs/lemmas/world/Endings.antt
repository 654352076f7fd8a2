-- With nobody registered the jobs that are left stand in the queue, and each of them may be called.
use Rattle.std.proofs.Common.{◌≡◌, ℕ, zero, suc, ◌+◌, ◌-◌, ◌<◌, ◌≤◌, Bool, true, false, List, [], ◌∷◌, ◌++◌, ◌==◌, None, refl, sym, ◌∙◌, ap, inl, inr, length, arith, get_or, ◌⊎◌, length-append}
use Rattle.std.specs.Prelude.{if◌then◌else◌, drop, remove}
use Rattle.std.specs.List.{Contains, sum_by}
use Rattle.std.proofs.lemmas.Bool.{cases_lt}
use Rattle.std.proofs.lemmas.Bool.Decides.{nat_tests}
use Rattle.std.proofs.lemmas.List.{get_or_past}
use Rattle.std.proofs.lemmas.List.Sums.{sum_by-append, sum_by-cons}
use Rattle.std.proofs.lemmas.List.Elements.{Contains-append_cases}
use Rattle.crossbeam_epoch.specs.declared.bag.Deferral.{Deferral}
use Rattle.crossbeam_epoch.specs.declared.bag.Work.TheVariants.{Remove}
use Rattle.crossbeam_epoch.specs.declared.names.Name.{Name}
use Rattle.crossbeam_epoch.specs.declared.world.participant.Participant.{Participant}
use Rattle.crossbeam_epoch.specs.declared.bag.Sealed.{Sealed}
use Rattle.crossbeam_epoch.specs.world.Ending.{registered_below, registered_in, jobs_of, after_jobs, history_of_calls, IsEnded}
use Rattle.crossbeam_epoch.specs.world.Fits.{Fits, IsTable, at_place, in_bag, has_ticket, one}
use Rattle.crossbeam_epoch.specs.world.History.{Mark, Called, began, blocks, times_called, IsGraceful, AreCalledLater, WasDeferred}
use Rattle.crossbeam_epoch.specs.world.Machine.{State, place, blank, destroys, after_work}
use Rattle.crossbeam_epoch.specs.world.Reach.{Moment, marks_of, HasMoments}
use Rattle.crossbeam_epoch.specs.world.Store.{Store}
use Rattle.crossbeam_epoch.specs.world.Tickets.{TicketCount}
use Rattle.crossbeam_epoch.proofs.lemmas.world.Jobs.{began_blocking, destroys_named}
use Rattle.crossbeam_epoch.proofs.lemmas.world.Moves.{none_in, contains_tail, unpinned_now}

contains_head : {A : Type 0} (x : A) (xs : List A) → Contains (x ∷ xs) x
contains_head x xs = (0, omega arith, refl)

-- who has no stretch blocks no job
none_blocks : (h : List Mark) (q t : ℕ) → began h q ≡ None → blocks h q t ≡ false
none_blocks h q t none = by_value (blocks h q t) refl
  where
    by_value : (b : Bool) → blocks h q t ≡ b → b ≡ false
    by_value false is = refl
    by_value true is = let b = began_blocking h q t is in absurd (cc (none, b.1))

-- tickets by their parts
pub given_is : (t : TicketCount) (next waiting : ℕ) → t.next ≡ next → t.waiting ≡ waiting → t ≡ record { next = next; waiting = waiting }
given_is t next waiting e f = λ k. record { next = e k; waiting = f k }

module _ {J : Type 0} where
  -- blank places have no job
  blanks_weigh_none : (f : Deferral J → ℕ) (table : List (Participant J)) → ((q : ℕ) → get_or table q blank ≡ blank) → sum_by (at_place f) table ≡ 0
  blanks_weigh_none f [] blanks = refl
  blanks_weigh_none f (p ∷ table) blanks =
      let first : at_place f p ≡ 0 = ap (at_place f) (blanks 0) in
      let rest : sum_by (at_place f) table ≡ 0 = blanks_weigh_none f table (λ q. blanks (suc q)) in
      omega (arith, first, rest, sum_by-cons (at_place f) p table)

  -- the jobs of all bags weigh what the bags weigh
  jobs_weigh : (f : Deferral J → ℕ) (queue : List (Sealed J)) → sum_by (in_bag f) queue ≡ sum_by f (jobs_of queue)
  jobs_weigh f [] = refl
  jobs_weigh f (b ∷ queue) = omega (arith, sum_by-append f b.jobs (jobs_of queue), jobs_weigh f queue, sum_by-cons (in_bag f) b queue)

  -- jobs that weigh one each weigh as many as they are
  pub all_one : (jobs : List (Deferral J)) → sum_by one jobs ≡ length jobs
  all_one [] = refl
  all_one (e ∷ jobs) = omega (arith, all_one jobs, sum_by-cons one e jobs)

  -- a job that is left stands in some bag
  in_some_bag : (queue : List (Sealed J)) (e : Deferral J) → Contains (jobs_of queue) e → (b : Sealed J) × Contains queue b × Contains b.jobs e
  in_some_bag [] e m = absurd (none_in e m)
  in_some_bag (b ∷ queue) e m = elim (Contains-append_cases b.jobs (jobs_of queue) e m) [
    | inl here ↦ (b, contains_head b queue, here)
    | inr later ↦ (let rest = in_some_bag queue e later in (rest.0, contains_tail b queue rest.0 rest.1, rest.2))
  ]

module _ {T J : Type 0} where
  not_taken : (s : State T J) (n q : ℕ) → registered_below s n ≡ 0 → q < n → (place s q).registered ≡ false
  not_taken s zero q none lt = absurd (omega arith)
  not_taken s (suc n) q none lt = by_last (place s n).registered refl none (cases_lt q n) (λ less. not_taken s n q (omega (arith, none)) less)
    where
      by_last : (b : Bool) → (place s n).registered ≡ b → registered_below s n + (if b then 1 else 0) ≡ 0 → (q < n) ⊎ (n ≤ q) → (q < n → (place s q).registered ≡ false) → (place s q).registered ≡ false
      by_last b is none (inl less) on = on less
      by_last true is none (inr ge) on = absurd (omega (arith, none))
      by_last false is none (inr ge) on = let same : q ≡ n = omega (arith, lt, ge) in (ap (λ (i : ℕ). (place s i).registered) same ∙ is)

  -- with nobody registered every place is blank
  all_blank : (s : State T J) (q : ℕ) → IsTable s.limits.participants s.table → registered_in s ≡ 0 → place s q ≡ blank
  all_blank s q t none = elim (cases_lt q (length s.table)) [
    | inl lt ↦ t.free q (not_taken s s.limits.participants q none (omega (arith, lt, t.long)))
    | inr ge ↦ get_or_past s.table q blank ge
  ]

  calls_over : (st : Store T) (jobs : List (Deferral J)) (h : List Mark) (t : ℕ) → times_called (history_of_calls st jobs h) t ≡ sum_by (has_ticket t) jobs + times_called h t
  calls_over st [] h t = omega arith
  calls_over st (e ∷ jobs) h t = let rest = calls_over (after_work st e.work) jobs (Called e.ticket (destroys st e.work) ∷ h) t in omega (arith, rest, sum_by-cons (has_ticket t) e jobs)

  graceful_over : (st : Store T) (jobs : List (Deferral J)) (h : List Mark) → ((q t : ℕ) → blocks h q t ≡ false) → IsGraceful h → IsGraceful (history_of_calls st jobs h)
  graceful_over st [] h free g = g
  graceful_over st (e ∷ jobs) h free g = graceful_over (after_work st e.work) jobs (Called e.ticket (destroys st e.work) ∷ h) free ((λ q. free q e.ticket), g)

  later_over : (st : Store T) (jobs : List (Deferral J)) (h : List Mark) → ((e : Deferral J) (n : Name) → Contains jobs e → e.work ≡ Remove n → WasDeferred h e.ticket n) → AreCalledLater h → AreCalledLater (history_of_calls st jobs h)
  later_over st [] h named l = l
  later_over st (e ∷ jobs) h named l =
      later_over (after_work st e.work) jobs (Called e.ticket (destroys st e.work) ∷ h) (λ x n m is. named x n (contains_tail e jobs x m) is)
      ((λ n is. named e n (contains_head e jobs) (destroys_named st e.work n is)), l)

  fits_ended : (h : List Mark) (s : State T J) → ((q : ℕ) → place s q ≡ blank) → Fits h s → IsEnded (history_of_calls s.store (jobs_of s.queue) h) s.next
  fits_ended h s blanks f = record {
    graceful = graceful_over s.store (jobs_of s.queue) h (λ q t. none_blocks h q t (unpinned_now h s q f (ap (λ (p : Participant J). p.word) (blanks q)))) f.graceful;
    later = later_over s.store (jobs_of s.queue) h (λ e n m is. let b = in_some_bag s.queue e m in (f.queued b.0 b.1).accepted.named e n b.2 is) f.later;
    once = λ t. omega (arith, calls_over s.store (jobs_of s.queue) h t, f.once.each t, blanks_weigh_none (has_ticket t) s.table blanks, jobs_weigh (has_ticket t) s.queue) ∙ f.once.tickets t;
  }

  -- the jobs that wait are those of the queue
  pub ended_count : (names : T → List Name) (h : List Moment) (s : State T J) → registered_in s ≡ 0 → HasMoments names h s → length (jobs_of s.queue) ≡ s.waiting
  ended_count names h s none t =
      let f = t.fits in
      let blanks : (q : ℕ) → place s q ≡ blank = λ q. all_blank s q t.table none in
      omega (arith, f.once.count, blanks_weigh_none one s.table blanks, jobs_weigh one s.queue, all_one (jobs_of s.queue))

  -- with nobody registered, once all jobs that are left are called each was called once, and none while blocked
  pub tells_ended : (names : T → List Name) (h : List Moment) (s : State T J) → registered_in s ≡ 0 → HasMoments names h s → IsEnded (history_of_calls s.store (jobs_of s.queue) (marks_of h)) s.next
  tells_ended names h s none t = fits_ended (marks_of h) s (λ q. all_blank s q t.table none) t.fits

not_empty : (n : ℕ) → false ≡ (n == 0) → 0 < n
not_empty n e = grind (arith, nat_tests)

module _ {J : Type 0} where
  -- jobs whose count isn't zero are some
  pub some_jobs : (jobs : List (Deferral J)) → false ≡ (length jobs == 0) → 0 < length jobs
  some_jobs jobs e = not_empty (length jobs) e

  -- one less, and less the jobs behind the first, is as much as less all jobs
  pub one_less : (jobs : List (Deferral J)) (n : ℕ) → 0 < length jobs → n - 1 - length (remove jobs 0) ≡ n - length jobs
  one_less [] n lt = absurd (omega arith)
  one_less (x ∷ jobs) n lt = omega arith

  -- the jobs behind the first are fewer
  pub fewer : (jobs : List (Deferral J)) → 0 < length jobs → length (remove jobs 0) < length jobs
  fewer [] lt = absurd (omega arith)
  fewer (x ∷ jobs) lt = omega arith

  -- jobs whose count is zero are none
  pub no_jobs : (jobs : List (Deferral J)) → true ≡ (length jobs == 0) → jobs ≡ []
  no_jobs [] e = refl
  no_jobs (x ∷ jobs) e = absurd (grind (arith, nat_tests))

  -- the bags behind the first are fewer
  pub fewer_bags : (b : Sealed J) (queue queue' : List (Sealed J)) → queue ≡ b ∷ queue' → length queue' < length queue
  fewer_bags b queue queue' is = let more = ap (λ (q : List (Sealed J)). length q) is in omega (arith, more)

  -- a queue that is its own rest is empty
  pub none_left : (queue queue' : List (Sealed J)) → queue ≡ queue' → queue' ≡ drop 1 queue → queue ≡ []
  none_left [] queue' same rest = refl
  none_left (b ∷ queue) queue' same rest = let long = ap (λ (q : List (Sealed J)). length q) (same ∙ rest) in absurd (omega (arith, long))

  -- less the first bag's jobs, and less those of the bags behind, is as much as less all jobs
  pub bag_less : (b : Sealed J) (queue queue' : List (Sealed J)) (n : ℕ) → queue ≡ b ∷ queue' → n - length b.jobs - length (jobs_of queue') ≡ n - length (jobs_of queue)
  bag_less b queue queue' n is = rw is (omega (arith, length-append b.jobs (jobs_of queue')))

module _ {T J : Type 0} where
  -- the first of some jobs is called, and then the others
  pub first_after : (st : Store T) (jobs : List (Deferral J)) (e : Deferral J) → 0 < length jobs → e ≡ get_or jobs 0 e → after_jobs (after_work st e.work) (remove jobs 0) ≡ after_jobs st jobs
  first_after st [] e lt is = absurd (omega arith)
  first_after st (x ∷ jobs) e lt is = ap (λ (y : Deferral J). after_jobs (after_work st y.work) jobs) is

  -- two lists of jobs, one after the other
  after_both : (st : Store T) (xs ys : List (Deferral J)) → after_jobs st (xs ++ ys) ≡ after_jobs (after_jobs st xs) ys
  after_both st [] ys = refl
  after_both st (x ∷ xs) ys = after_both (after_work st x.work) xs ys

  -- the first bag's jobs called, and then those of the bags behind, leave the cells as all jobs called do
  pub bag_after : (st : Store T) (b : Sealed J) (queue queue' : List (Sealed J)) → queue ≡ b ∷ queue' → after_jobs (after_jobs st b.jobs) (jobs_of queue') ≡ after_jobs st (jobs_of queue)
  bag_after st b queue queue' is = rw is (sym (after_both st b.jobs (jobs_of queue')))

  -- with one more place counted, the count is that of the registered ones below the next
  pub registered_more : (s : State T J) (n m k : ℕ) (b : Bool) → m ≡ suc n → (place s n).registered ≡ b → k ≡ registered_below s n + (if b then 1 else 0) → k ≡ registered_below s m
  registered_more s n m k b is at count = count ∙ ap (λ (x : Bool). registered_below s n + (if x then 1 else 0)) (sym at) ∙ sym (ap (registered_below s) is)
