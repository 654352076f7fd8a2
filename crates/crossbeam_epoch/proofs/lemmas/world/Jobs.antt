-- A job that is called or deferred keeps what ties a history to its state.
use Rattle.std.proofs.Common.{◌≡◌, ℕ, ◌+◌, ◌-◌, ◌<◌, ◌≤◌, Bool, true, false, List, [], ◌∷◌, ◌++◌, ◌==◌, Option, Some, None, refl, ◌∙◌, ap, inl, inr, length, arith}
use Rattle.std.specs.Prelude.{slice_index_or, if◌then◌else◌, is_some, nat_lt, remove}
use Rattle.std.specs.List.{Contains, sum_by}
use Rattle.std.proofs.lemmas.Bool.Decides.{nat_tests}
use Rattle.std.proofs.lemmas.List.Sums.{sum_by-append, get_or-le-sum_by}
use Rattle.std.proofs.lemmas.List.Elements.{Contains-push_cases, Contains-get_or}
use Rattle.crossbeam_epoch.specs.declared.bag.Deferral.{Deferral}
use Rattle.crossbeam_epoch.specs.declared.bag.Work.{Work}
use Rattle.crossbeam_epoch.specs.declared.bag.Work.TheVariants.{Blank, Remove, Run}
use Rattle.crossbeam_epoch.specs.declared.names.Name.{Name}
use Rattle.crossbeam_epoch.specs.declared.bag.Sealed.{Sealed}
use Rattle.crossbeam_epoch.specs.declared.world.participant.Phase.TheVariants.{Idle, Take, Call}
use Rattle.crossbeam_epoch.specs.world.History.{Mark, Pinned, Repinned, Unpinned, Deferred, Called, began, blocks, deferrals}
use Rattle.crossbeam_epoch.specs.Chain.{room_behind}
use Rattle.crossbeam_epoch.specs.world.Machine.{State, place, blank, in_phase, after_call, called, called_one, no_entry, destroys, after_work, name_of, deferred, deferred_anew, after_deferral}
use Rattle.crossbeam_epoch.specs.world.Store.{Store, value_at}
use Rattle.crossbeam_epoch.specs.world.Steps.{called_by}
use Rattle.crossbeam_epoch.specs.world.Fits.{Fits, InPhase, IsSealed, AreAccepted, Began, HandFits, at_place, in_bag, has_ticket, one}
use Rattle.crossbeam_epoch.proofs.lemmas.world.Marks.{goes_deferred, goes_called}
use Rattle.crossbeam_epoch.proofs.lemmas.world.Grace.{accepted_goes, sealed_goes, fits_put, fits_room}
use Rattle.crossbeam_epoch.proofs.lemmas.world.Moves.{top_now, top_goes, queue_goes, queue_push, sealed_now, fits_idle, contains_tail, none_in_hand, none_accepted}

began_over : (c x : Bool) (a y : Option ℕ) → (if c then false else x) ≡ true → (x ≡ true → Began y) → Began (if c then a else y)
began_over true x a y b on = absurd (cc b)
began_over false x a y b on = on b

began_at : (c x : Bool) (y : Option ℕ) → (if c then is_some y else x) ≡ true → (x ≡ true → Began y) → Began y
began_at true x (Some e) b on = (e, refl)
began_at true x None b on = absurd (cc b)
began_at false x y b on = on b

-- who blocks a job has a stretch
pub began_blocking : (h : List Mark) (q t : ℕ) → blocks h q t ≡ true → Began (began h q)
began_blocking [] q t b = absurd (cc b)
began_blocking (Pinned who epoch ∷ h) q t b = began_over (who == q) (blocks h q t) (Some epoch) (began h q) b (began_blocking h q t)
began_blocking (Repinned who epoch ∷ h) q t b = began_over (who == q) (blocks h q t) (Some epoch) (began h q) b (began_blocking h q t)
began_blocking (Unpinned who ∷ h) q t b = began_over (who == q) (blocks h q t) None (began h q) b (began_blocking h q t)
began_blocking (Deferred ticket name ∷ h) q t b = began_at (ticket == t) (blocks h q t) (began h q) b (began_blocking h q t)
began_blocking (Called ticket name ∷ h) q t b = began_blocking h q t b

next_ticket : (n t d : ℕ) → d ≡ (if nat_lt t n then 1 else 0) → (if n == t then 1 else 0) + d ≡ (if nat_lt t (n + 1) then 1 else 0)
next_ticket n t d e = grind (arith, nat_tests)

-- the mark of a call, if there was a job
abbrev pub call_marks : Option (ℕ × Option Name) → List Mark → List Mark
call_marks None h = h
call_marks (Some c) h = Called c.0 c.1 ∷ h

module _ {J : Type 0} where
  behind : (jobs : List (Deferral J)) (e : Deferral J) → Contains (remove jobs 0) e → Contains jobs e
  behind [] e m = m
  behind (x ∷ xs) e m = contains_tail x xs e m

  sealed_behind : (h : List Mark) (next seal : ℕ) (jobs : List (Deferral J)) → IsSealed h next jobs seal → IsSealed h next (remove jobs 0) seal
  sealed_behind h next seal jobs i = record {
    accepted = record { below = λ e m. i.accepted.below e (behind jobs e m); named = λ e n m is. i.accepted.named e n (behind jobs e m) is };
    late = λ e q b m on n. i.late e q b (behind jobs e m) on n;
  }

  -- the first job of a bag and the others make up its sum
  pub first_job : (f : Deferral J → ℕ) (jobs : List (Deferral J)) → 0 < length jobs → sum_by f jobs ≡ f (slice_index_or jobs 0 no_entry) + sum_by f (remove jobs 0)
  first_job f [] lt = absurd (omega arith)
  first_job f (x ∷ rest) lt = omega (arith, sum_by-append f (x ∷ []) rest)

  after_phase : (h : List Mark) (epoch next places who answered bags seal : ℕ) (bag rest : List (Deferral J)) (some room : Bool) → answered ≤ epoch → seal + 2 ≤ answered → IsSealed h next rest seal
      → InPhase h epoch next places who bag rest (if some then Call answered bags seal else if room then Take answered bags else Idle)
  after_phase h epoch next places who answered bags seal bag rest true room past old i = (past, old, i)
  after_phase h epoch next places who answered bags seal bag rest false true past old i = past
  after_phase h epoch next places who answered bags seal bag rest false false past old i = tt

  -- where the number of jobs is zero there are none
  pub no_items : (xs : List (Deferral J)) → (length xs == 0) ≡ true → xs ≡ []
  no_items [] e = refl
  no_items (x ∷ xs) e = absurd (grind (arith, nat_tests))

  -- after a call of a job the hand fits what comes next
  pub hand_after : (rest : List (Deferral J)) (answered bags seal : ℕ) (b : Bool) → nat_lt 0 (length rest) ≡ b → HandFits (after_call (length rest) answered bags seal) rest
  hand_after [] answered bags seal b e = none_in_hand (after_call 0 answered bags seal) [] refl
  hand_after (x ∷ rest) answered bags seal true e = rw e tt
  hand_after (x ∷ rest) answered bags seal false e = absurd (grind (arith, nat_tests))

  -- an accepted job behind the others
  accepted_push : (h : List Mark) (next : ℕ) (bag : List (Deferral J)) (work : Work J) → AreAccepted h next bag
      → AreAccepted (Deferred next (name_of work) ∷ h) (next + 1) (bag ++ (record { ticket = next; work = work }) ∷ [])
  accepted_push h next bag work a =
      let entry : Deferral J = record { ticket = next; work = work } in
      record {
        below = λ e m. elim (Contains-push_cases bag entry e m) [
          | inl old ↦ (let lt = a.below e old in omega arith)
          | inr is ↦ (let same : next ≡ e.ticket = ap (λ (x : Deferral J). x.ticket) is in omega arith)
        ];
        named = λ e n m is. elim (Contains-push_cases bag entry e m) [
          | inl old ↦ inr (a.named e n old is)
          | inr same ↦ inl (ap (λ (x : Deferral J). x.ticket) same, ap name_of (ap (λ (x : Deferral J). x.work) same ∙ is))
        ];
      }

module _ {T J : Type 0} where
  -- a removal that destroys a cell is the removal of its name
  pub destroys_named : (st : Store T) (work : Work J) (n : Name) → destroys st work ≡ Some n → work ≡ Remove n
  destroys_named st Blank n is = absurd (cc is)
  destroys_named st (Run job) n is = absurd (cc is)
  destroys_named st (Remove name) n is = ap Remove (by_standing (is_some (value_at st name)) is)
    where
      by_standing : (b : Bool) → (if b then Some name else None) ≡ Some n → name ≡ n
      by_standing true is = cc is
      by_standing false is = absurd (cc is)

  -- a job of a bag whose seal is two behind is blocked by nobody
  free_now : (h : List Mark) (s : State T J) (jobs : List (Deferral J)) (seal answered q : ℕ) (e : Deferral J) (b : Bool) → Fits h s → IsSealed h s.next jobs seal → seal + 2 ≤ answered → answered ≤ s.epoch → Contains jobs e → blocks h q e.ticket ≡ b → b ≡ false
  free_now h s jobs seal answered q e false f i old past m is = refl
  free_now h s jobs seal answered q e true f i old past m is =
      let b = began_blocking h q e.ticket is in
      let le = i.late e q b.0 m is b.1 in
      let top = (top_now h s q b.0 f b.1).1 in
      absurd (omega arith)

  fits_called_one : (h : List Mark) (s : State T J) (who answered bags seal : ℕ) → who < length s.table → (place s who).phase ≡ Call answered bags seal → 0 < length (place s who).hand → Fits h s
      → Fits (Called (slice_index_or (place s who).hand 0 no_entry).ticket (destroys s.store (slice_index_or (place s who).hand 0 no_entry).work) ∷ h) (called_one s who answered bags seal)
  fits_called_one h s who answered bags seal in_table is some f =
      let i = rw is at (f.places who).phase in
      let old = place s who in
      let e = slice_index_or old.hand 0 no_entry in
      let rest = remove old.hand 0 in
      let p = record old { hand = rest; phase = after_call (length rest) answered bags seal } in
      let name = destroys s.store e.work in
      let h' = Called e.ticket name ∷ h in
      let g = goes_called h s.epoch s.next who e.ticket name in
      let first = Contains-get_or old.hand 0 no_entry some in
      let free : (q : ℕ) → blocks h q e.ticket ≡ false = λ q. free_now h s old.hand seal answered q e (blocks h q e.ticket) f i.2 i.1 i.0 first refl in
      let left = sealed_goes h h' s.epoch s.next s.next who seal rest (sealed_behind h s.next seal old.hand i.2) g (omega arith) in
      let waits = f.once.count in
      fits_put h h' s who p s.epoch s.next (s.waiting - 1) s.queue (after_work s.store e.work) in_table f g (free, f.graceful)
      ((λ n named. i.2.accepted.named e n first (destroys_named s.store e.work n named)), f.later)
      (omega arith) (omega arith) (top_goes h h' s who f g)
      (record {
        bounds = (f.places who).bounds;
        phase = after_phase h' s.epoch s.next (length s.table) who answered bags seal old.bag rest (nat_lt 0 (length rest)) (nat_lt bags 8) i.0 i.1 left;
        accepted = accepted_goes h h' s.epoch s.next s.next who old.bag (f.places who).accepted g (omega arith);
        spare = hand_after rest answered bags seal (nat_lt 0 (length rest)) refl;
      })
      (queue_goes h h' s who s.next f g (omega arith))
      (record {
        each = λ t. let one_less = first_job (has_ticket t) old.hand some in omega arith;
        tickets = f.once.tickets;
        count =
            let one_less = first_job one old.hand some in
            let here = get_or-le-sum_by (at_place one) s.table who blank in_table in
            omega arith;
      })

  by_empty : (h : List Mark) (s : State T J) (who answered bags seal : ℕ) (empty : Bool) → who < length s.table → (place s who).phase ≡ Call answered bags seal → (length (place s who).hand == 0) ≡ empty → Fits h s
      → Fits (call_marks (if empty then None else Some ((slice_index_or (place s who).hand 0 no_entry).ticket, destroys s.store (slice_index_or (place s who).hand 0 no_entry).work)) h) (if empty then in_phase s who Idle else called_one s who answered bags seal)
  by_empty h s who answered bags seal true in_table is e f = fits_idle h s who in_table (no_items (place s who).hand e) f
  by_empty h s who answered bags seal false in_table is e f = fits_called_one h s who answered bags seal in_table is (grind (arith, nat_tests)) f

  -- a history with the call of a job in hand fits the state after the call
  pub fits_called : (h : List Mark) (s : State T J) (who answered bags seal : ℕ) → who < length s.table → (place s who).phase ≡ Call answered bags seal → Fits h s
      → Fits (call_marks (called_by s.store (Call answered bags seal) (place s who).hand) h) (called s who answered bags seal)
  fits_called h s who answered bags seal in_table is f = by_empty h s who answered bags seal (length (place s who).hand == 0) in_table is refl f

  -- a bag of no call in flight takes a job
  fits_deferred : (h : List Mark) (s : State T J) (who : ℕ) (work : Work J) → who < length s.table → (place s who).phase ≡ Idle → Fits h s → Fits (Deferred s.next (name_of work) ∷ h) (deferred s who work)
  fits_deferred h s who work in_table is f =
      let old = place s who in
      let entry : Deferral J = record { ticket = s.next; work = work } in
      let p = record old { bag = old.bag ++ entry ∷ [] } in
      let h' = Deferred s.next (name_of work) ∷ h in
      let g = goes_deferred h s.epoch s.next who (name_of work) in
      let phase : InPhase h' s.epoch (s.next + 1) (length s.table) who p.bag old.hand old.phase = rw is tt in
      fits_put h h' s who p s.epoch (s.next + 1) (s.waiting + 1) s.queue s.store in_table f g f.graceful f.later (omega arith) (omega arith) (top_goes h h' s who f g)
      (record { bounds = (f.places who).bounds; phase = phase; accepted = accepted_push h s.next old.bag work (f.places who).accepted; spare = (f.places who).spare })
      (queue_goes h h' s who (s.next + 1) f g (omega arith))
      (record {
        each = λ t. omega (arith, sum_by-append (has_ticket t) old.bag (entry ∷ []));
        tickets = λ t. next_ticket s.next t (deferrals h t) (f.once.tickets t);
        count = omega (arith, sum_by-append one old.bag (entry ∷ []));
      })

  fits_deferred_anew : (h : List Mark) (s : State T J) (who : ℕ) (work : Work J) → who < length s.table → (place s who).phase ≡ Idle → Fits h s → Fits (Deferred s.next (name_of work) ∷ h) (deferred_anew s who work)
  fits_deferred_anew h s who work in_table is f =
      let old = place s who in
      let entry : Deferral J = record { ticket = s.next; work = work } in
      let p = record old { bag = entry ∷ [] } in
      let b : Sealed J = record { seal = s.epoch; jobs = old.bag } in
      let h' = Deferred s.next (name_of work) ∷ h in
      let g = goes_deferred h s.epoch s.next who (name_of work) in
      let phase : InPhase h' s.epoch (s.next + 1) (length s.table) who (entry ∷ []) old.hand old.phase = rw is tt in
      fits_room h' _ (room_behind s.room) (
      fits_put h h' s who p s.epoch (s.next + 1) (s.waiting + 1) (s.queue ++ b ∷ []) s.store in_table f g f.graceful f.later (omega arith) (omega arith) (top_goes h h' s who f g)
      (record { bounds = (f.places who).bounds; phase = phase; accepted = accepted_push h s.next [] work (none_accepted h s.next); spare = (f.places who).spare })
      (queue_push h' (s.next + 1) s.queue b (queue_goes h h' s who (s.next + 1) f g (omega arith))
      (sealed_goes h h' s.epoch s.next (s.next + 1) who s.epoch old.bag (sealed_now h s who f) g (omega arith)))
      (record {
        each = λ t. omega (arith, sum_by-append (in_bag (has_ticket t)) s.queue (b ∷ []));
        tickets = λ t. next_ticket s.next t (deferrals h t) (f.once.tickets t);
        count = omega (arith, sum_by-append (in_bag one) s.queue (b ∷ []));
      }))

  by_full : (h : List Mark) (s : State T J) (who : ℕ) (work : Work J) (b : Bool) → who < length s.table → (place s who).phase ≡ Idle → Fits h s
      → Fits (Deferred s.next (name_of work) ∷ h) (if b then deferred_anew s who work else deferred s who work)
  by_full h s who work true lt is f = fits_deferred_anew h s who work lt is f
  by_full h s who work false lt is f = fits_deferred h s who work lt is f

  -- a history with a job's deferral fits the state after it
  pub fits_after_deferral : (h : List Mark) (s : State T J) (who : ℕ) (work : Work J) → who < length s.table → (place s who).phase ≡ Idle → Fits h s → Fits (Deferred s.next (name_of work) ∷ h) (after_deferral s who work)
  fits_after_deferral h s who work lt is f = by_full h s who work (length (place s who).bag == 64) lt is f
